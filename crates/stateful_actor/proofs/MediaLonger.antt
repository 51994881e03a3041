-- The media stand for a history an entry longer, and after an event that was refused.
use Rattle.std.proofs.Common.{◌≡◌, ◌<◌, ◌^◌, ◌∷◌, [], ℕ, Bool, false, List, Option, sym, subst}
use Rattle.stateful_base.specs.Names.{Named}
use Rattle.stateful_db.specs.Laws.{Laws}
use Rattle.stateful_history.specs.Met.{TrueNames}
use Rattle.stateful_history.specs.Past.{Past, Came, after_entry, after_all}
use Rattle.stateful_history.specs.Honest.{HasHonestStore}
use Rattle.stateful_history.specs.declared.entry.Entry.{Entry}
use Rattle.stateful_history.specs.declared.event.Event.{Event}
use Rattle.stateful_history.specs.declared.mark.Mark.{Mark}
use Rattle.stateful_history.proofs.Marks.{TrueNames-before_all}
use Rattle.stateful_exec_model.specs.Workings.{Workings}
use Rattle.stateful_actor_register.specs.Register.{RegisterStands}
use Rattle.stateful_actor_register.specs.declared.register.Register.{Register}
use Rattle.stateful_exec_laws.specs.Building.{BuildsTakeTurns}
use Rattle.stateful_exec_laws.specs.Fronting.{RunsTakeTurns}
use Rattle.stateful_exec_laws.specs.Setting.{setting}
use Rattle.stateful_exec_laws.specs.Storing.{IsStoredNow}
use Rattle.stateful_loop_laws.specs.Media.{TargetsRise}
use Rattle.stateful_loop_model.specs.Intake.{Counts}
use Rattle.stateful_loop_model.specs.Moments.{Moment}
use Rattle.stateful_actor_laws.specs.Entering.{Steps}
use Rattle.stateful_actor_laws.specs.Machine.{numbered, IsNew}
use Rattle.stateful_actor_laws.specs.Media.{behind_refusal, MediaStand, StandsOnMedia}
use Rattle.stateful_actor_laws.proofs.steps.HistoryStands.{IsStoredNow-new, EachStands-last, EachStands-constant}
use Rattle.stateful_actor_laws.proofs.steps.StepsStand.{StandsAt-new}
use Rattle.stateful_actor_laws.proofs.steps.StoresBefore.{StoresFinalized-before_all, StoresFinalized-before_item}
use Rattle.stateful_actor_laws.proofs.ahead.History.{ahead-new, StandsAhead, steps-ahead}
use Rattle.stateful_actor.specs.Driving.{KeepsMedia, KeepsMediaAfter}

module _ {B C I P R D H G U : Type 0} (w : Workings B C I P R D H G U) (laws : Laws w.kind) (stored : ℕ → Option (Named B))
    (counts : Counts R D H) (provider : P) (runs_cost : RunsTakeTurns w) (builds_cost : BuildsTakeTurns w) (rise : TargetsRise w stored) where
  -- what follows where machine and media stand for a history that began with a new machine
  pub media-at : (failed : Bool) (register : Register) (first old : Moment w) (history : List (Entry B C I)) → IsNew w failed register first
      → first.marks ≡ [] → w.kind.NoneAway first.members → Steps w stored provider counts [] first history old
      → (own : Register) → RegisterStands (numbered w.kind.count) (after_all [] history) own
      → TrueNames (setting w stored) (after_all [] history) → HasHonestStore w.header stored (after_all [] history)
      → MediaStand w stored (after_all [] history) false old → (Follows : Type 0)
      → ((b : w.States) → StandsOnMedia w stored b (after_all [] history) false own old → IsStoredNow stored (after_all [] history) stored → Follows)
      → w.States → Follows
  media-at failed register first old history is_new unmarked away steps own registered names honest media Follows further base =
      EachStands-constant w stored Follows base [] history
      (EachStands-last w stored (StandsAhead w laws stored stored counts provider runs_cost builds_cost honest.heights (after_all [] history) old)
      (λ b. Follows)
      (λ b at. further b (record {
        stands = record { registered = registered; restart = at.stands.restart; past = at.stands.past; at = λ works. at.stands };
        media = media;
      }) at.stored_is)
      base [] history
      (steps-ahead w laws stored stored counts provider runs_cost builds_cost honest.heights base [] first history old (IsStoredNow-new C I stored)
      (StandsAt-new w stored base failed register first is_new unmarked away) (ahead-new w stored base failed register first is_new [])
      steps names honest.finalized))

  -- after an entry more
  pub media-longer : (failed : Bool) (register : Register) (first old : Moment w) (history : List (Entry B C I)) → IsNew w failed register first
      → first.marks ≡ [] → w.kind.NoneAway first.members → Steps w stored provider counts [] first history old
      → (own : Register) → RegisterStands (numbered w.kind.count) (after_all [] history) own
      → (event : Event B C I) (marks : List (Mark B)) (new : Moment w) (q : Past B C I) → q ≡ after_entry (after_all [] history) event marks
      → (TrueNames (setting w stored) (after_all [] history) → HasHonestStore w.header stored (after_all [] history)
      → MediaStand w stored (after_all [] history) false old)
      → ((b : w.States) → StandsOnMedia w stored b (after_all [] history) false own old → IsStoredNow stored (after_all [] history) stored
      → TrueNames (setting w stored) q → HasHonestStore w.header stored q → TargetsRise w stored → MediaStand w stored q false new)
      → w.States → TrueNames (setting w stored) q → HasHonestStore w.header stored q → MediaStand w stored q false new
  media-longer failed register first old history is_new unmarked away steps own registered event marks new q is before further base names honest =
      media-at failed register first old history is_new unmarked away steps own registered names_before honest_before (before names_before honest_before)
      (MediaStand w stored q false new) (λ b stands stored_is. further b stands stored_is names honest rise) base
    where
      entries : List (Entry B C I)
      entries = record { event = event; marks = marks } ∷ []

      names_before : TrueNames (setting w stored) (after_all [] history)
      names_before = TrueNames-before_all (setting w stored) (after_all [] history) entries
          (subst (λ (r : Past B C I). TrueNames (setting w stored) r) is names)

      honest_before : HasHonestStore w.header stored (after_all [] history)
      honest_before = record {
        heights = honest.heights;
        finalized = StoresFinalized-before_all w.header stored (after_all [] history) entries
            (subst (λ (r : Past B C I). HasHonestStore w.header stored r) is honest).finalized;
      }

  -- after an event that was refused
  pub media-refused : (failed : Bool) (register : Register) (first old : Moment w) (history : List (Entry B C I)) → IsNew w failed register first
      → first.marks ≡ [] → w.kind.NoneAway first.members → Steps w stored provider counts [] first history old
      → (own : Register) → RegisterStands (numbered w.kind.count) (after_all [] history) own
      → (event : Event B C I) (now_failed : Bool) (now : Moment w) (kept : KeepsMedia w stored provider counts event false own old now_failed now)
      → (TrueNames (setting w stored) (after_all [] history) → HasHonestStore w.header stored (after_all [] history)
      → MediaStand w stored (after_all [] history) false old)
      → w.States → TrueNames (setting w stored) (after_entry (after_all [] history) event kept.made)
      → HasHonestStore w.header stored (Came event ∷ after_all [] history) → w.kind.count < 2 ^ 64
      → MediaStand w stored (behind_refusal event (after_all [] history)) now_failed now
  media-refused failed register first old history is_new unmarked away steps own registered event now_failed now kept before base names honest few =
      media-at failed register first old history is_new unmarked away steps own registered names_before honest_before (before names_before honest_before)
      (MediaStand w stored (behind_refusal event (after_all [] history)) now_failed now)
      (λ b stands stored_is. kept.media b (after_all [] history) stands stored_is names honest rise few) base
    where
      names_before : TrueNames (setting w stored) (after_all [] history)
      names_before = TrueNames-before_all (setting w stored) (after_all [] history) (record { event = event; marks = kept.made } ∷ []) names

      honest_before : HasHonestStore w.header stored (after_all [] history)
      honest_before = record {
        heights = honest.heights;
        finalized = StoresFinalized-before_item w.header stored (Came event) (after_all [] history) honest.finalized;
      }

module _ {B C I P R D H G U : Type 0} (w : Workings B C I P R D H G U) (laws : Laws w.kind) (stored : ℕ → Option (Named B))
    (counts : Counts R D H) (provider : P) (runs_cost : RunsTakeTurns w) (builds_cost : BuildsTakeTurns w) where
  -- what an event that was refused left of the media after a history that began with a new machine
  pub keeps-after : (failed : Bool) (register : Register) (first old : Moment w) (history : List (Entry B C I)) → IsNew w failed register first
      → first.marks ≡ [] → w.kind.NoneAway first.members → Steps w stored provider counts [] first history old
      → (own : Register) → RegisterStands (numbered w.kind.count) (after_all [] history) own
      → (event : Event B C I) (was_failed now_failed : Bool) (now : Moment w) → was_failed ≡ false
      → KeepsMedia w stored provider counts event was_failed own old now_failed now
      → (w.States → MediaStand w stored [] failed first → TrueNames (setting w stored) (after_all [] history)
      → HasHonestStore w.header stored (after_all [] history) → TargetsRise w stored → MediaStand w stored (after_all [] history) was_failed old)
      → KeepsMediaAfter w stored provider counts event failed first history now_failed now
  keeps-after failed register first old history is_new unmarked away steps own registered event was_failed now_failed now works tried before =
      subst (λ (x : Bool). KeepsMedia w stored provider counts event x own old now_failed now
      → (w.States → MediaStand w stored [] failed first → TrueNames (setting w stored) (after_all [] history)
      → HasHonestStore w.header stored (after_all [] history) → TargetsRise w stored → MediaStand w stored (after_all [] history) x old)
      → KeepsMediaAfter w stored provider counts event failed first history now_failed now) (sym works) working tried before
    where
      working : KeepsMedia w stored provider counts event false own old now_failed now
          → (w.States → MediaStand w stored [] failed first → TrueNames (setting w stored) (after_all [] history)
          → HasHonestStore w.header stored (after_all [] history) → TargetsRise w stored → MediaStand w stored (after_all [] history) false old)
          → KeepsMediaAfter w stored provider counts event failed first history now_failed now
      working kept stood = record {
        made = kept.made;
        old = old;
        steps = steps;
        left = kept.left;
        media = λ base start names honest rise few.
            media-refused w laws stored counts provider runs_cost builds_cost rise failed register first old history is_new unmarked away steps own registered
            event now_failed now kept (λ names_before honest_before. stood base start names_before honest_before rise) base names honest few;
      }
