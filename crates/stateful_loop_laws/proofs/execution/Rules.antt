-- Execution stands after each rule of the loop.
use Rattle.std.proofs.Common.{◌≡◌, ℕ, [], ◌∷◌, List, Option, Some, None, IsSome, false, ◌++◌, refl, sym, ap, ◌∙◌, subst}
use Rattle.stateful_base.specs.Names.{Named}
use Rattle.stateful_db.specs.Laws.{Laws}
use Rattle.stateful_history.specs.Past.{Past}
use Rattle.stateful_history.specs.declared.mark.Mark.TheVariants.{BarrierDone}
use Rattle.stateful_exec_model.specs.Finalizing.{front_at}
use Rattle.stateful_exec_model.specs.Workings.{Workings}
use Rattle.stateful_exec_model.specs.declared.front.Stage.TheVariants.{Advanced}
use Rattle.stateful_exec_walk.specs.declared.request.Request.{Request}
use Rattle.stateful_exec_laws.specs.Building.{BuildsTakeTurns}
use Rattle.stateful_exec_laws.specs.Fronting.{RunsTakeTurns}
use Rattle.stateful_exec_laws.specs.Setting.{setting}
use Rattle.stateful_exec_laws.specs.Storing.{IsStoredNow}
use Rattle.stateful_loop_model.specs.Moments.{Moment, Executing, with_loop}
use Rattle.stateful_loop_model.specs.Rules.{IsCalm, IsFinalizing, Builds, DoesMessage, schedules, answers, acknowledges, holds, begins, ObservesBlock, EndsFinalization, Schedules, Takes, HasStates, AppliesBlock, Rule, collects, puts_off, runs, applies, covers, observes, ends, breaks, completes, builds, takes}
use Rattle.stateful_loop_model.specs.declared.barriers.Active.{Active}
use Rattle.stateful_loop_model.specs.declared.message.Action.{Action}
use Rattle.stateful_loop_model.specs.declared.message.Action.TheVariants as action
use Rattle.stateful_loop_model.specs.declared.message.Message.{Message}
use Rattle.stateful_loop_model.specs.declared.message.Message.TheVariants as message
use Rattle.stateful_loop_model.specs.declared.tables.Finalizing.{Finalizing}
use Rattle.stateful_loop_laws.specs.Execution.{Executes, ExecutesBehind}
use Rattle.stateful_loop_laws.specs.Stands.{IsCaptured, CapturedStands, IsUpAt}
use Rattle.stateful_loop_laws.specs.Tickets.{MessageStands}
use Rattle.stateful_loop_laws.proofs.barriers.Acknowledging.{finalized-Met, held-live, held-apart}
use Rattle.stateful_loop_laws.proofs.execution.AnchorStands.{executes_before, Executes-takes, idle-front}
use Rattle.stateful_loop_laws.proofs.execution.Applies.{Executes-applies, ExecutesBehind-applied}
use Rattle.stateful_loop_laws.proofs.execution.Begins.{Executes-begins}
use Rattle.stateful_loop_laws.proofs.execution.Beside.{Executes-looped, Executes-begins_barrier, Executes-completes}
use Rattle.stateful_loop_laws.proofs.execution.Builds.{Executes-builds}
use Rattle.stateful_loop_laws.proofs.execution.Collects.{Executes-collects}
use Rattle.stateful_loop_laws.proofs.execution.Kept.{Executes-names, Executes-same}
use Rattle.stateful_loop_laws.proofs.execution.Schedules.{Executes-schedules}
use Rattle.stateful_loop_laws.proofs.execution.Told.{Executes-told_each}
use Rattle.stateful_loop_laws.proofs.execution.FrontKept.{Executes-runs, Executes-observes}
use Rattle.stateful_loop_laws.proofs.duly.MarksOfRules.{takes-marks}
use Rattle.stateful_loop_laws.proofs.events.NamesOfRules.{names-runs, names-observes, names-begins}
use Rattle.stateful_loop_laws.proofs.tickets.Taken.{action_taken, message_taken, takes-taken, takes-execution}
use Rattle.stateful_loop_laws.proofs.ways.Finalized.{Executes-ends-kept}

module _ {B C I P R D H G U : Type 0} (w : Workings B C I P R D H G U) where
  -- what was captured for the block in front was read for it
  captured_in : (front : Option (Finalizing B G)) (f : Finalizing B G) (captured : G) → CapturedStands w front → front ≡ Some f
      → f.captured ≡ Some captured → IsCaptured w f.block captured
  captured_in front f captured stands is captured_is = rw captured_is at (rw is at stands)

module _ {B C I P R D H G U : Type 0} (w : Workings B C I P R D H G U) (laws : Laws w.kind) (stored : ℕ → Option (Named B)) (base : w.States)
    (p : Past B C I) (stored_now : ℕ → Option (Named B)) (stored_is : IsStoredNow stored p stored_now) where
  -- what becomes of a message that was taken, where nothing goes on beside it
  pub Executes-does : (m now : Moment w) (x : Message B C I) → m.execution.front ≡ None → m.execution.build ≡ None
      → MessageStands w stored p m.execution.state m.execution.build x
      → Executes w stored base p m → DoesMessage w stored_now m now x → ExecutesBehind w stored base p m now
  Executes-does m now _ front build stands e (schedules {request = request} r) =
      Executes-schedules w laws stored base p stored_now stored_is request m now front stands e r
  Executes-does m now _ front build stands e (answers is) =
      subst (λ (n : Moment w). ExecutesBehind w stored base p m n) (sym is)
      (Executes-told_each w stored base p m _ _ refl refl refl refl (stands.1, tt) e)
  Executes-does m now _ front build stands e (acknowledges redelivered durable is) =
      subst (λ (n : Moment w). ExecutesBehind w stored base p m n) (sym is)
      (Executes-told_each w stored base p m _ _ refl refl refl refl (stands.0, tt) e)
  Executes-does m now _ front build stands e (holds redelivered above is) = Executes-looped w laws stored base p m now _ is e
  Executes-does m now _ front build stands e (begins {t = t} {b = b} above r) =
      let met = finalized-Met (setting w stored) t b p stands.1 in
      Executes-begins w laws stored base p m now t b e front build above met
      (names-begins w stored base p (Executes-names w stored base p m e) m now t b met r) r

  module _ (m now : Moment w) (h : IsUpAt w stored base p m) where
    abbrev e : Executes w stored base p m
    e = h.executes

    -- a request of the queue is scheduled beside a build
    executes-schedules : (request : Request B C I) (rest : List (Message B C I)) → IsSome m.execution.build
        → m.loop.queue ≡ message.Request request ∷ rest
        → Schedules w stored_now request (with_loop w m (record m.loop { queue = rest })) now → ExecutesBehind w stored base p m now
    executes-schedules request rest building is r =
        let mid : Moment w = with_loop w m (record m.loop { queue = rest }) in
        executes_before w stored base p m mid now refl
        (Executes-schedules w laws stored base p stored_now stored_is request mid now (e.alone building)
        (message_taken w stored p (message.Request request) rest m is h.tickets).stands
        (Executes-same w stored base p m mid refl refl refl e) r)

    -- the block of the finalization in front is applied
    executes-applies : (f : Finalizing B G) → IsFinalizing w m f → HasStates w m f.block → AppliesBlock w f m now
        → ExecutesBehind w stored base p m now
    executes-applies f fin states r = ExecutesBehind-applied w laws stored base p m now f r
        (Executes-applies w laws stored base p m now f r e fin states)

    -- it is observed, with what was captured
    pub executes-observes : (f : Finalizing B G) (captured : G) → m.loop.front ≡ Some f → f.captured ≡ Some captured
        → m.execution.front ≡ front_at f.block Advanced → ObservesBlock w f captured m now → ExecutesBehind w stored base p m now
    executes-observes f captured is captured_is advanced o =
        let read : IsCaptured w f.block captured = captured_in w m.loop.front f captured h.captured is captured_is in
        Executes-observes w laws stored base p m e f captured advanced now o read.before read.read
        (names-observes w stored base p (Executes-names w stored base p m e) m now f captured o)

    -- its finalization ends
    pub executes-ends : (f : Finalizing B G) → IsFinalizing w m f → m.execution.front ≡ front_at f.block Advanced
        → EndsFinalization w stored_now f m now → ExecutesBehind w stored base p m now
    executes-ends f fin advanced r = Executes-ends-kept w laws stored base p m now e h.ways stored_now f fin advanced stored_is r

    -- a broken barrier takes the machine down
    executes-breaks : (active : Active)
        → now ≡ record m { loop = record m.loop { up = false }; marks = m.marks ++ BarrierDone active.number active.height false ∷ [] }
        → ExecutesBehind w stored base p m now
    executes-breaks active is = subst (λ (n : Moment w). ExecutesBehind w stored base p m n) (sym is)
        (Executes-told_each w stored base p m _ _ refl refl refl refl (tt, tt) e)

    -- a build is started or declined
    executes-builds : BuildsTakeTurns w → (provider : P) (t : ℕ) (rest : List (Action B C I)) → IsCalm w m
        → m.loop.actions ≡ action.Build t ∷ rest
        → Builds w provider t (with_loop w m (record m.loop { actions = rest })) now → ExecutesBehind w stored base p m now
    executes-builds costs provider t rest calm is r =
        let mid : Moment w = with_loop w m (record m.loop { actions = rest }) in
        executes_before w stored base p m mid now refl
        (Executes-builds w laws stored base costs p provider t mid (idle-front w m (h.sound.up calm.0.0.0) calm.0.2) calm.0.1
        (action_taken w stored p (action.Build t) rest m is h.tickets).stands
        (Executes-same w stored base p m mid refl refl refl e) now r)

    -- a message is taken
    pub executes-takes : (x : Message B C I) (mid : Moment w) → IsCalm w m → Takes w x m mid
        → DoesMessage w stored_now mid now x → ExecutesBehind w stored base p m now
    executes-takes x mid calm take does =
        let same = takes-execution w stored p x m mid take in
        executes_before w stored base p m mid now (takes-marks w x m mid take)
        (Executes-does mid now x
        (ap (λ (n : Executing B C I R D H U). n.front) same ∙ idle-front w m (h.sound.up calm.0.0.0) calm.0.2)
        (ap (λ (n : Executing B C I R D H U). n.build) same ∙ calm.0.1)
        (takes-taken w stored p x m mid take h.tickets).stands
        (Executes-takes w stored base p x m mid take e) does)

    -- a rule goes
    pub executes-rule : RunsTakeTurns w → BuildsTakeTurns w → (provider : P) → Rule w stored_now provider m now
        → ExecutesBehind w stored base p m now
    executes-rule runs_cost builds_cost provider (collects {t = t} up r) = Executes-collects w stored base p t m now e r
    executes-rule runs_cost builds_cost provider (Rule.schedules {request = request} {rest = rest} collected building is verifies r) =
        executes-schedules request rest building is r
    executes-rule runs_cost builds_cost provider (puts_off collected building is other becomes) =
        Executes-looped w laws stored base p m now _ becomes e
    executes-rule runs_cost builds_cost provider (runs {f = f} fin begun awaits unknown r) =
        Executes-runs w laws stored base p m e runs_cost f.block now begun awaits r
        (names-runs w stored base p (Executes-names w stored base p m e) m now f.block r)
    executes-rule runs_cost builds_cost provider (applies {f = f} fin captured states r) = executes-applies f fin states r
    executes-rule runs_cost builds_cost provider (covers fin advanced captured needed r) =
        Executes-begins_barrier w laws stored base p m now e r
    executes-rule runs_cost builds_cost provider (observes {f = f} {captured = captured} fin advanced is covered o) =
        executes-observes f captured fin.2 is advanced o
    executes-rule runs_cost builds_cost provider (ends {f = f} fin advanced none r) =
        executes-ends f fin advanced r
    executes-rule runs_cost builds_cost provider (breaks {active = active} idle is becomes) = executes-breaks active becomes
    executes-rule runs_cost builds_cost provider (completes {active = active} idle unbroken done r) =
        Executes-completes w laws stored base p active m now (held-live w stored p m h.tickets) (held-apart w stored p m h.tickets) e r
    executes-rule runs_cost builds_cost provider (Rule.begins idle unbroken undone needed r) =
        Executes-begins_barrier w laws stored base p m now e r
    executes-rule runs_cost builds_cost provider (builds {t = t} {rest = rest} calm is r) =
        executes-builds builds_cost provider t rest calm is r
    executes-rule runs_cost builds_cost provider (takes {x = x} {mid = mid} calm take does) =
        executes-takes x mid calm take does
