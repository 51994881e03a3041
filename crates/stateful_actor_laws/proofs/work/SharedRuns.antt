-- No run is cancelled for which another live request waits, unless the machine stops or starts.
use Rattle.std.proofs.Common.{◌≡◌, ◌++◌, ◌∷◌, [], inr, ℕ, true, not, List, Option, sym, ap, ◌∙◌}
use Rattle.stateful_base.specs.Names.{Named}
use Rattle.stateful_db.specs.Laws.{Laws}
use Rattle.stateful_history.specs.Live.{may_come}
use Rattle.stateful_history.specs.Met.{TrueNames}
use Rattle.stateful_history.specs.Past.{Past, Came, Made, EachMark, after_entry}
use Rattle.stateful_history.specs.Prunes.{PruneRule}
use Rattle.stateful_history.specs.Shared.{SharedRunGoesOn}
use Rattle.stateful_history.specs.Stops.{IsStopped}
use Rattle.stateful_history.specs.Honest.{StoresFinalized}
use Rattle.stateful_history.specs.declared.event.Event.{Event}
use Rattle.stateful_history.specs.declared.event.Event.TheVariants.{Cancel}
use Rattle.stateful_history.specs.declared.mark.How.TheVariants.{Cancelled}
use Rattle.stateful_history.specs.declared.mark.Mark.{Mark}
use Rattle.stateful_history.specs.declared.mark.Mark.TheVariants.{Ended}
use Rattle.stateful_exec_model.specs.Workings.{Workings}
use Rattle.stateful_exec_laws.specs.Building.{BuildsTakeTurns}
use Rattle.stateful_exec_laws.specs.Fronting.{RunsTakeTurns}
use Rattle.stateful_exec_laws.specs.Setting.{setting}
use Rattle.stateful_exec_laws.specs.Storing.{IsStoredNow}
use Rattle.stateful_loop_laws.specs.Duly.{IsDulySaid}
use Rattle.stateful_loop_laws.proofs.barriers.DurablySaid.{EachMark-weaker}
use Rattle.stateful_loop_laws.proofs.events.NamesBehind.{NamesBehind-marks}
use Rattle.stateful_loop_laws.proofs.duly.SharedAlong.{IsCancel, shared-said, shared-up}
use Rattle.stateful_loop_laws.proofs.events.TakenIn.{may_come-live}
use Rattle.stateful_loop_model.specs.Intake.{Counts}
use Rattle.stateful_loop_model.specs.Moments.{Moment}
use Rattle.stateful_actor_laws.specs.Machine.{numbered}
use Rattle.stateful_actor_laws.specs.Stands.{StandsAt}
use Rattle.stateful_actor_laws.specs.Steps.{Advances}
use Rattle.stateful_actor_laws.proofs.work.LiveFlushes.{numbered_le, names_live-more}
use Rattle.stateful_actor_laws.proofs.steps.Stepping.{may_come-up}

module _ {B C I P R D H G U : Type 0} (w : Workings B C I P R D H G U) (stored : ℕ → Option (Named B)) (rule : Option (PruneRule w.Targets)) where
  -- where the machine stops or starts nothing is promised
  pub shared-stopped : (event : Event B C I) (all : List (Mark B)) → IsStopped event all → (q : Past B C I) (marks : List (Mark B))
      → EachMark (SharedRunGoesOn (setting w stored) rule event all) q marks
  shared-stopped event all stopped q marks =
      EachMark-weaker (λ x mark. Unit {0}) (SharedRunGoesOn (setting w stored) rule event all) goes q marks (nothing q marks)
    where
      goes : (x : Past B C I) (mark : Mark B) → Unit {0} → SharedRunGoesOn (setting w stored) rule event all x mark
      goes x (Ended j Cancelled) any = inr stopped
      goes x mark any = tt

      nothing : (x : Past B C I) (more : List (Mark B)) → EachMark (λ y mark. Unit {0}) x more
      nothing x [] = tt
      nothing x (mark ∷ more) = (tt, nothing (Made mark ∷ x) more)

module _ {B C I P R D H G U : Type 0} (w : Workings B C I P R D H G U) (laws : Laws w.kind) (stored stored_now : ℕ → Option (Named B))
    (counts : Counts R D H) (provider : P) (runs_cost : RunsTakeTurns w) (builds_cost : BuildsTakeTurns w) (base : w.States) (p : Past B C I)
    (stored_is : IsStoredNow stored p stored_now) (rule : Option (PruneRule w.Targets)) where
  abbrev Keeps : Event B C I → List (Mark B) → Type 0
  Keeps event marks = EachMark (SharedRunGoesOn (setting w stored) rule event marks) (Came event ∷ p) marks

  -- any event but a cancel
  by_other : (event : Event B C I) → (IsCancel event → ⊥) → (next : w.States) (marks : List (Mark B))
      → EachMark (IsDulySaid w stored next event marks) (Came event ∷ p) marks → Keeps event marks
  by_other event other next marks duly =
      EachMark-weaker (IsDulySaid w stored next event marks) (SharedRunGoesOn (setting w stored) rule event marks)
      (shared-said w stored next event event other marks (λ stopped. stopped) rule) (Came event ∷ p) marks duly

  -- No run is cancelled for which another live request waits, where the event is taken in and what can goes on.
  pub shared-advances : (event : Event B C I) (m settled : Moment w) → StandsAt w stored base p m → may_come (numbered w.kind.count) p event ≡ true
      → Advances w stored_now provider counts event m settled
      → TrueNames (setting w stored) (after_entry p event settled.marks) → StoresFinalized w.header stored (Came event ∷ p)
      → EachMark (IsDulySaid w stored base event settled.marks) (Came event ∷ p) settled.marks
      → Keeps event settled.marks
  shared-advances (Cancel t) m settled s may a names stores duly =
      shared-up w laws stored base p stored_now stored_is counts provider runs_cost builds_cost rule t m a.taken settled s.restart.unmarked up
      (s.up up).1 (s.up up).0 (s.places up) s.restart.apart (s.hands up).1 (s.hands up).0
      (names_live-more (numbered w.kind.count) w.kind.count (numbered_le w.kind.count) p (Cancel t)
      (may_come-live (numbered w.kind.count) p (Cancel t) (λ no. no) may))
      (NamesBehind-marks w stored base (Came (Cancel t) ∷ p) m settled settled.marks
      (ap (λ (ms : List (Mark B)). ms ++ settled.marks) (sym s.restart.unmarked)) names)
      stores a.takes a.settles.along
    where
      up : m.loop.up ≡ true
      up = s.up_is ∙ s.open_is ∙ ap (λ b. not b) (may_come-up (numbered w.kind.count) p (Cancel t) (λ no. no) may)
  shared-advances event m settled s may a names stores duly = by_other event (λ no. no) base settled.marks duly
