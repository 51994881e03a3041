-- The finalization that goes on stands after the rules that say nothing of it.
use Rattle.std.proofs.Common.{◌≡◌, ◌⊎◌, ◌++◌, inl, inr, ℕ, List, [], ◌∷◌, All, Option, None, Some, IfSome, MatchOption, refl, sym, ◌∙◌, subst}
use Rattle.std.proofs.lemmas.List.{append_cancel_left}
use Rattle.std.proofs.lemmas.List.Elements.{All-head, All-tail}
use Rattle.stateful_base.specs.Names.{Named}
use Rattle.stateful_base.specs.declared.digest.Digest.{Digest}
use Rattle.stateful_history.specs.Past.{Past, Came, Made, after}
use Rattle.stateful_history.specs.declared.event.Event.TheVariants.{Turn}
use Rattle.stateful_history.specs.declared.mark.JobKind.TheVariants.{Candidate, Finalized, Hook}
use Rattle.stateful_history.specs.declared.mark.Mark.{Mark}
use Rattle.stateful_history.specs.declared.mark.Mark.TheVariants.{Asked, Withdrawn, Started, Ended, Verdict, Declined}
use Rattle.stateful_exec_model.specs.Moments.{Moment}
use Rattle.stateful_exec_model.specs.Workings.{Workings, Point}
use Rattle.stateful_exec_model.specs.declared.front.Front.{Front}
use Rattle.stateful_exec_laws.specs.Fronting.{RunsAs, HooksAs, FrontStands}
use Rattle.stateful_exec_laws.specs.Standing.{TablesStand}
use Rattle.stateful_exec_laws.proofs.requests.Calm.{LeavesJob}
use Rattle.stateful_exec_laws.proofs.pauses.Passing.{IsBeside, PassesBy, AreDrawn}
use Rattle.stateful_exec_laws.proofs.runs.Sparing.{started-LeavesJob, ended-LeavesJob, live-started_other, live-ended_other}
use Rattle.stateful_exec_laws.proofs.runs.TurnedStands.{live-started, turn-LeavesJob}
use Rattle.stateful_exec_laws.proofs.front.Left.{SparesFront, FrontStands-spared, stage-drawn, stage-live}

-- the job of the finalization that goes on: of its run, or of its hook; it has no ticket
abbrev pub IsFrontJob : {B R U H : Type 0} → Option (Front B R U H) → ℕ → Type 0
IsFrontJob front k = MatchOption front ⊥ (λ f. RunsAs k f.stage ⊎ HooksAs k f.stage)

abbrev pub NoTicket : ℕ → Type 0
NoTicket t = ⊥

if_its : {B R U H : Type 0} (P : ℕ → Type 0) (front : Option (Front B R U H)) → ((k : ℕ) → IsFrontJob front k → P k) → IfSome front (λ f. (k : ℕ) → RunsAs k f.stage ⊎ HooksAs k f.stage → P k)
if_its P None h = tt
if_its P (Some f) h = h

module _ {B C I R U H : Type 0} where
  -- a mark that doesn't name its job says nothing of it
  spares : (p : Past B C I) (mark : Mark B) (front : Option (Front B R U H)) → IsBeside (IsFrontJob front) NoTicket mark → SparesFront p (Made mark) front
  spares p (Asked f ticket d) front off = record { begun = refl; jobs = if_its (LeavesJob p (Made (Asked f ticket d))) front (λ k own. record { live = refl; started = refl; turns = refl }); runs = λ j e live. record { live = live.live; is = live.is }; hooks = λ j e live. record { live = live.live; is = live.is } }
  spares p (Withdrawn f) front off = record { begun = refl; jobs = if_its (LeavesJob p (Made (Withdrawn f))) front (λ k own. record { live = refl; started = refl; turns = refl }); runs = λ j e live. record { live = live.live; is = live.is }; hooks = λ j e live. record { live = live.live; is = live.is } }
  spares p (Started n Candidate d) front off = record {
    begun = refl;
    jobs = if_its (LeavesJob p (Made (Started n Candidate d))) front (λ k own. started-LeavesJob p n Candidate d k (λ e. off (subst (λ i. IsFrontJob front i) e own)));
    runs = λ j e live. live-started_other p n Candidate d Finalized (λ is. cc) j e live;
    hooks = λ j e live. live-started_other p n Candidate d Hook (λ is. cc) j e live;
  }
  spares p (Ended n how) front off = record {
    begun = refl;
    jobs = if_its (LeavesJob p (Made (Ended n how))) front (λ k own. ended-LeavesJob p n how k (λ e. off (subst (λ i. IsFrontJob front i) e own)));
    runs = λ j e live. (live-ended_other p n how Finalized j e live).1;
    hooks = λ j e live. (live-ended_other p n how Hook j e live).1;
  }
  spares p (Verdict t answer) front off = record { begun = refl; jobs = if_its (LeavesJob p (Made (Verdict t answer))) front (λ k own. record { live = refl; started = refl; turns = refl }); runs = λ j e live. record { live = live.live; is = live.is }; hooks = λ j e live. record { live = live.live; is = live.is } }
  spares p (Declined t) front off = record { begun = refl; jobs = if_its (LeavesJob p (Made (Declined t))) front (λ k own. record { live = refl; started = refl; turns = refl }); runs = λ j e live. record { live = live.live; is = live.is }; hooks = λ j e live. record { live = live.live; is = live.is } }
  spares p mark front off = absurd off

module _ {B C I P R D H G U : Type 0} (w : Workings B C I P R D H G U) (stored : ℕ → Option (Named B)) (point : Point w) (front : Option (Front B R U H)) where
  -- a turn of another job leaves the finalization
  pub FrontStands-turn : (p : Past B C I) (m : Moment w) (j : ℕ) → (IsFrontJob front j → ⊥) → FrontStands w stored p point m.next m.state.anchor front → FrontStands w stored (Came (Turn j) ∷ p) point m.next m.state.anchor front
  FrontStands-turn p m j other h = FrontStands-spared w stored p (Came (Turn j)) point m.next m.next (λ c x. x) m.state.anchor front (record {
    begun = refl;
    jobs = if_its (LeavesJob p (Came (Turn j))) front (λ k own. turn-LeavesJob p j k (λ e. other (subst (λ i. IsFrontJob front i) e own)));
    runs = λ k d live. record { live = live.live; is = live.is };
    hooks = λ k d live. record { live = live.live; is = live.is };
  }) h

  marks_beside : (p : Past B C I) (m : Moment w) (marks : List (Mark B)) → All (IsBeside (IsFrontJob front) NoTicket) marks → FrontStands w stored p point m.next m.state.anchor front → FrontStands w stored (after p marks) point m.next m.state.anchor front
  marks_beside p m [] beside h = h
  marks_beside p m (mark ∷ marks) beside h =
      marks_beside (Made mark ∷ p) m marks (All-tail (λ x. IsBeside (IsFrontJob front) NoTicket x) mark marks beside)
      (FrontStands-spared w stored p (Made mark) point m.next m.next (λ c x. x) m.state.anchor front (spares p mark front (All-head (λ x. IsBeside (IsFrontJob front) NoTicket x) mark marks beside)) h)

  -- after rules that say nothing of it the finalization stands
  pub FrontStands-passes : (p : Past B C I) (m now : Moment w) (more : List (Mark B)) → now.marks ≡ m.marks ++ more → PassesBy w (IsFrontJob front) NoTicket m now
      → FrontStands w stored p point m.next m.state.anchor front → FrontStands w stored (after p more) point now.next now.state.anchor front
  FrontStands-passes p m now more is f h =
      let same : f.more ≡ more = append_cancel_left m.marks f.more more (sym f.marks_are ∙ is) in
      marks_beside p now more (subst (λ l. All (λ x. IsBeside (IsFrontJob front) NoTicket x) l) same f.beside) (subst (λ a. FrontStands w stored p point now.next a front) (sym f.anchor) (drawn_more front h))
    where
      drawn_more : (o : Option (Front B R U H)) → FrontStands w stored p point m.next m.state.anchor o → FrontStands w stored p point now.next m.state.anchor o
      drawn_more None g = record { at_stage = tt; runs = g.runs; hooks = g.hooks }
      drawn_more (Some x) g = record { at_stage = stage-drawn w stored p point m.next now.next f.ids m.state.anchor x.block x.stage g.at_stage; runs = g.runs; hooks = g.hooks }

  -- the job of the finalization was drawn
  pub front_drawn : (p : Past B C I) (points : Digest → Point w) (m : Moment w) → TablesStand w stored p points point m.next m.state → FrontStands w stored p point m.next m.state.anchor front → AreDrawn w (IsFrontJob front) NoTicket m
  front_drawn p points m s h = drawn front h
    where
      drawn : (o : Option (Front B R U H)) → FrontStands w stored p point m.next m.state.anchor o → AreDrawn w (IsFrontJob o) NoTicket m
      drawn None g k own = absurd own
      drawn (Some x) g k own = elim (stage-live w stored p point m.next m.next (λ c y. y) m.state.anchor x.block x.stage g.at_stage k own).1 [
        | inl run ↦ s.numbers.jobs k (live-started k p run.live)
        | inr hook ↦ s.numbers.jobs k (live-started k p hook.live)
      ]
