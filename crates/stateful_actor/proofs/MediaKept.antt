-- What a refused event leaves, whether it was taken on or not.
use Rattle.std.proofs.Common.{◌≡◌, ◌∷◌, [], ℕ, Bool, false, Option, inl, inr, refl, subst}
use Rattle.stateful_base.specs.Names.{Named}
use Rattle.stateful_db.specs.Laws.{Laws}
use Rattle.stateful_history.specs.Past.{Past, Tried}
use Rattle.stateful_history.specs.Restarts.{reopened_height}
use Rattle.stateful_history.specs.declared.event.Event.{Event}
use Rattle.stateful_history.specs.declared.event.Event.TheVariants.{Restart}
use Rattle.stateful_exec_model.specs.Workings.{Workings}
use Rattle.stateful_loop_laws.specs.Media.{KeepsReopenable}
use Rattle.stateful_actor_register.specs.declared.register.Register.{Register}
use Rattle.stateful_loop_model.specs.Intake.{Counts}
use Rattle.stateful_loop_model.specs.Moments.{Moment}
use Rattle.stateful_actor_laws.specs.Media.{behind_refusal, MediaStand, LeavesMedia}
use Rattle.stateful_loop_model.specs.declared.error.StepError.{StepError}
use Rattle.stateful_loop_model.specs.declared.error.StepError.TheVariants.{OutOfMemory}
use Rattle.stateful_actor_laws.proofs.steps.LeftFurther.{unmoved-further}
use Rattle.stateful_actor_step.specs.Faults.{IsCause, memory}
use Rattle.stateful_actor_step.specs.Reading.{Node}
use Rattle.stateful_actor_step.specs.Step.{RefusesEvent}
use Rattle.stateful_actor.specs.Driving.{KeepsMedia, RefusesEntry}

module _ {B C I P R D H G U : Type 0} (w : Workings B C I P R D H G U) (stored : ℕ → Option (Named B)) where
  -- media that stand for a past stand for it with a restart that was tried
  tried-stands : (event : Event B C I) (p : Past B C I) (failed : Bool) (m : Moment w) → MediaStand w stored p failed m
      → MediaStand w stored (behind_refusal event p) failed m
  tried-stands (Restart floor keep) p failed m k = record { reopenable = reopenable; heights = k.heights }
    where
      reopenable : KeepsReopenable w stored (Tried (record { 0 = reopened_height floor }) ∷ p) m.members
      reopenable q i b (inl reached) is within = k.reopenable q i b (inl reached.1) is within
      reopenable q i b (inr none) is within = k.reopenable q i b (inr none) is within
  tried-stands event p failed m k = k

  module _ (provider : P) (counts : Counts R D H) (event : Event B C I) (failed : Bool) (register : Register) (m : Moment w) where
    -- where nothing was changed
    pub keeps-unchanged : KeepsMedia w stored provider counts event failed register m failed m
    keeps-unchanged = record {
      made = [];
      left = inl refl;
      media = λ base p s stored_is names honest rise few. tried-stands event p failed m s.media;
    }

    -- where the machine was stepped
    pub keeps-left : (now_failed : Bool) (now_register : Register) (now : Moment w)
        → LeavesMedia w stored provider counts event failed register m now_failed now_register now
        → KeepsMedia w stored provider counts event failed register m now_failed now
    keeps-left now_failed now_register now l = record {
      made = l.made;
      left = l.left;
      media = λ base p s stored_is names honest rise few. (l.stands stored base p s stored_is names honest rise few).media;
    }

module _ {B C I P R D H G U : Type 0} (w : Workings B C I P R D H G U) (laws : Laws w.kind) (stored : ℕ → Option (Named B)) (provider : P)
    (counts : Counts R D H) (event : Event B C I) where
  -- where memory ran out before the machine was stepped
  pub entry-unchanged : (n : Node w) → RefusesEntry w stored provider counts event n n OutOfMemory
  entry-unchanged n = record {
    cause = memory refl;
    still = λ other base p s. s;
    behind = λ lawful other up. unmoved-further w laws stored provider counts event other n.register n.at up;
    restarts = λ floor keep is finds well. refl;
    media = keeps-unchanged w stored provider counts event n.failed n.register n.at;
    noted = λ other. absurd (other refl);
  }

  -- where the machine was stepped
  pub entry-refused : (old new : Node w) (e : StepError) → old.failed ≡ false → RefusesEvent w stored provider counts event old new e
      → RefusesEntry w stored provider counts event old new e
  entry-refused old new e working r = record {
    cause = subst (λ (failed : Bool). IsCause w stored provider counts failed old.register event old.faults new.faults new.at.members old.at e) working
        r.cause;
    still = r.still;
    behind = λ lawful other up. r.behind lawful working other;
    restarts = r.restarts;
    media = keeps-left w stored provider counts event old.failed old.register old.at new.failed new.register new.at r.tried;
    noted = r.noted;
  }
