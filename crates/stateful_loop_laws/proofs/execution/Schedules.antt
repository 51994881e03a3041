-- Execution stands behind a request that is scheduled.
use Rattle.std.proofs.Common.{◌≡◌, ℕ, Option, None, refl, sym, subst}
use Rattle.std.proofs.lemmas.List.Elements.{All-nil}
use Rattle.stateful_base.specs.Names.{Named}
use Rattle.stateful_db.specs.Laws.{Laws}
use Rattle.stateful_history.specs.Met.{Met}
use Rattle.stateful_history.specs.Past.{Past}
use Rattle.stateful_exec_walk.specs.Request.{ticket_by}
use Rattle.stateful_exec_tables.specs.Tables.{requested}
use Rattle.stateful_exec_model.specs.Workings.{Workings}
use Rattle.stateful_exec_model.specs.declared.front.Front.{Front}
use Rattle.stateful_exec_walk.specs.declared.request.Request.{Request}
use Rattle.stateful_exec_laws.specs.Setting.{setting}
use Rattle.stateful_exec_laws.specs.Fronting.{FrontStands}
use Rattle.stateful_exec_laws.specs.Storing.{IsStoredNow}
use Rattle.stateful_loop_model.specs.Moments.{Moment, inner}
use Rattle.stateful_loop_model.specs.Rules.{Schedules}
use Rattle.stateful_loop_model.specs.declared.message.Message.TheVariants as message
use Rattle.stateful_loop_laws.specs.Execution.{IsPlaced, Executes, ExecutesBehind}
use Rattle.stateful_loop_laws.specs.Tickets.{MessageStands}
use Rattle.stateful_loop_laws.proofs.execution.Served.{IsServed-acquires, Executes-served}

module _ {B C I P R D H G U : Type 0} (w : Workings B C I P R D H G U) (laws : Laws w.kind) (stored : ℕ → Option (Named B)) (base : w.States) where
  -- a request that stands acquires what it needs, where no finalization goes on
  pub Executes-schedules : (p : Past B C I) (stored_now : ℕ → Option (Named B)) → IsStoredNow stored p stored_now
      → (request : Request B C I) (m now : Moment w) → m.execution.front ≡ None
      → MessageStands w stored p m.execution.state m.execution.build (message.Request request) → Executes w stored base p m
      → Schedules w stored_now request m now → ExecutesBehind w stored base p m now
  Executes-schedules p stored_now stored_is request m now front stands h schedules =
      subst (λ (n : Moment w). ExecutesBehind w stored base p m n) (sym schedules.becomes)
      (Executes-served w stored base p h.points h.point m front h.located schedules.then
      (IsServed-acquires w laws stored base p h.points h.point m.execution.build (inner w m) h.tables h.builds
      (subst (λ (f : Option (Front B R U H)). FrontStands w stored p h.point m.next m.execution.state.anchor f) front h.fronts)
      (subst (λ (f : Option (Front B R U H)). IsPlaced w stored base p h.points h.point m.next m.execution.state f) front h.placed)
      h.located h.drawn (ticket_by request) stands.2.unbuilt (requested request)
      (record { absent = stands.2.elsewhere.absent; not_queued = stands.2.elsewhere.not_queued; own = refl; asked = stands.0; brought = stands.1 })
      (All-nil (Met (setting w stored) p)) schedules.then stored_now stored_is schedules.acquires))
