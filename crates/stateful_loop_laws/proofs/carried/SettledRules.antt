-- After each rule of the loop, where nothing pauses, what each request needs was looked for.
use Rattle.std.proofs.Common.{◌≡◌, ℕ, Option, sym, ap, ◌∙◌, subst}
use Rattle.stateful_base.specs.Names.{Named}
use Rattle.stateful_exec_model.specs.Finalizing.{HooksOn}
use Rattle.stateful_exec_tables.specs.Tables.{requested}
use Rattle.stateful_exec_walk.specs.Request.{ticket_by}
use Rattle.stateful_exec_model.specs.Workings.{Workings}
use Rattle.stateful_exec_pause.specs.declared.pause.Pause.TheVariants.{Free, Finalizing}
use Rattle.stateful_exec_walk.specs.declared.request.Request.{Request}
use Rattle.stateful_exec_tables.specs.declared.state.Tables.{Tables}
use Rattle.stateful_db.specs.declared.application.Hooked.{Hooked}
use Rattle.stateful_db.specs.declared.application.Hooked.TheVariants as hooked
use Rattle.stateful_loop_model.specs.Moments.{Moment, inner, with_loop}
use Rattle.stateful_loop_model.specs.Rules as rules
use Rattle.stateful_loop_model.specs.Rules.{Schedules, Takes, of_action, of_message, Builds, BeginsFinalization, DoesMessage, ObservesBlock, Rule}
use Rattle.stateful_loop_model.specs.declared.message.Message.{Message}
use Rattle.stateful_loop_model.specs.declared.tables.Finalizing.{Finalizing as Finalizes}
use Rattle.stateful_loop_laws.specs.InHand.{NoneOpen}
use Rattle.stateful_loop_laws.proofs.carried.SettledKept.{settling_acquires, settled_resumes}
use Rattle.stateful_exec_laws.proofs.earned.Left.{LeavesBehind-acquires}

module _ {B C I P R D H G U : Type 0} (w : Workings B C I P R D H G U) where
  -- where nothing pauses, what each request needs was looked for
  abbrev pub IsSettledAt : Tables B C I R U → Type 0
  IsSettledAt v = v.pause ≡ Free → NoneOpen v.requests

  -- where requests and the pause are the same
  pub settled_same : (old new : Tables B C I R U) → new.requests ≡ old.requests → new.pause ≡ old.pause → IsSettledAt old → IsSettledAt new
  settled_same old new requests pause h free = subst (λ es. NoneOpen es) (sym requests) (h (sym pause ∙ free))

  settled_schedules : (stored_now : ℕ → Option (Named B)) (request : Request B C I) (m now : Moment w) → IsSettledAt m.execution.state
      → Schedules w stored_now request m now → IsSettledAt now.execution.state
  settled_schedules stored_now request m now h r = subst (λ (n : Moment w). IsSettledAt n.execution.state) (sym r.becomes) (λ free.
      settling_acquires w stored_now (inner w m) r.then (ticket_by request) (requested request) r.acquires
      (h (sym (LeavesBehind-acquires w stored_now (inner w m) r.then (ticket_by request) (requested request) r.acquires).left.pause ∙ free)))

  settled_does : (stored_now : ℕ → Option (Named B)) (m now : Moment w) (x : Message B C I) → IsSettledAt m.execution.state
      → DoesMessage w stored_now m now x
      → IsSettledAt now.execution.state
  settled_does stored_now m now x h (rules.schedules {request = request} r) = settled_schedules stored_now request m now h r
  settled_does stored_now m now x h (rules.answers {t = t} is) = subst (λ (n : Moment w). IsSettledAt n.execution.state) (sym is) h
  settled_does stored_now m now x h (rules.acknowledges {t = t} {b = b} again durable is) =
      subst (λ (n : Moment w). IsSettledAt n.execution.state) (sym is) h
  settled_does stored_now m now x h (rules.holds {t = t} {b = b} again later is) = subst (λ (n : Moment w). IsSettledAt n.execution.state) (sym is) h
  settled_does stored_now m now x h (rules.begins {t = t} {b = b} high r) = subst (λ (n : Moment w). IsSettledAt n.execution.state) (sym r.becomes)
      (λ free. let no : Finalizing r.boundary ≡ Free = sym (ap (λ (v : Tables B C I R U). v.pause) r.pauses.state) ∙ free in absurd (cc))

  settled_builds : (provider : P) (t : ℕ) (m now : Moment w) → IsSettledAt m.execution.state → Builds w provider t m now
      → IsSettledAt now.execution.state
  settled_builds provider t m now h (rules.starts {state = state} s is) = subst (λ (n : Moment w). IsSettledAt n.execution.state) (sym is)
      (settled_same m.execution.state state (ap (λ (v : Tables B C I R U). v.requests) s.state) (ap (λ (v : Tables B C I R U). v.pause) s.state) h)
  settled_builds provider t m now h (rules.declines off is) = subst (λ (n : Moment w). IsSettledAt n.execution.state) (sym is) h

  settled_observes : (f : Finalizes B G) (captured : G) (m now : Moment w) → IsSettledAt m.execution.state → ObservesBlock w f captured m now
      → IsSettledAt now.execution.state
  settled_observes f captured m now h r =
      subst (λ (n : Moment w). IsSettledAt n.execution.state) (sym r.becomes) (by r.observes.hook r.observes.hooks_on)
    where
      by : (hook : Hooked H) → HooksOn w f.block hook m.execution.state r.state m.marks r.marks r.front r.live → IsSettledAt r.state
      by hooked.Done on =
          settled_same m.execution.state r.state (ap (λ (v : Tables B C I R U). v.requests) on.0) (ap (λ (v : Tables B C I R U). v.pause) on.0) h
      by (hooked.Pending hook) on =
          settled_same m.execution.state r.state (ap (λ (v : Tables B C I R U). v.requests) on.0) (ap (λ (v : Tables B C I R U). v.pause) on.0) h

  -- After each rule it is so, where it was so before.
  pub settled-rule : (stored_now : ℕ → Option (Named B)) (provider : P) (m now : Moment w) → IsSettledAt m.execution.state
      → Rule w stored_now provider m now
      → IsSettledAt now.execution.state
  settled-rule stored_now provider m now h (rules.collects {t = t} up c) = subst (λ (n : Moment w). IsSettledAt n.execution.state) (sym c.becomes) h
  settled-rule stored_now provider m now h (rules.schedules {request = request} {rest = rest} collected some is verification r) =
      settled_schedules stored_now request (with_loop w m (record m.loop { queue = rest })) now h r
  settled-rule stored_now provider m now h (rules.puts_off {x = x} {rest = rest} collected some is other become) =
      subst (λ (n : Moment w). IsSettledAt n.execution.state) (sym become) h
  settled-rule stored_now provider m now h (rules.runs {f = f} fronts begun awaits uncached r) =
      subst (λ (n : Moment w). IsSettledAt n.execution.state) (sym r.becomes)
      (settled_same m.execution.state r.state (ap (λ (v : Tables B C I R U). v.requests) r.runs.state)
      (ap (λ (v : Tables B C I R U). v.pause) r.runs.state) h)
  settled-rule stored_now provider m now h (rules.applies {f = f} fronts captured states r) =
      subst (λ (n : Moment w). IsSettledAt n.execution.state) (sym r.becomes)
      (settled_same m.execution.state r.state (ap (λ (v : Tables B C I R U). v.requests) r.moves.state)
      (ap (λ (v : Tables B C I R U). v.pause) r.moves.state) h)
  settled-rule stored_now provider m now h (rules.covers fronts advanced captured needed r) =
      subst (λ (n : Moment w). IsSettledAt n.execution.state) (sym r.becomes) h
  settled-rule stored_now provider m now h (rules.observes {f = f} {captured = captured} fronts advanced is covered r) =
      settled_observes f captured m now h r
  settled-rule stored_now provider m now h (rules.ends {f = f} fronts advanced captured r) =
      subst (λ (n : Moment w). IsSettledAt n.execution.state) (sym r.becomes) (λ free. settled_resumes w stored_now (inner w m) r.then r.resumes)
  settled-rule stored_now provider m now h (rules.breaks {active = active} idle is become) =
      subst (λ (n : Moment w). IsSettledAt n.execution.state) (sym become) h
  settled-rule stored_now provider m now h (rules.completes {active = active} idle whole is r) =
      subst (λ (n : Moment w). IsSettledAt n.execution.state) (sym r.becomes) h
  settled-rule stored_now provider m now h (rules.begins idle whole unflushed needed r) =
      subst (λ (n : Moment w). IsSettledAt n.execution.state) (sym r.becomes) h
  settled-rule stored_now provider m now h (rules.builds {t = t} {rest = rest} calm is r) =
      settled_builds provider t (with_loop w m (record m.loop { actions = rest })) now h r
  settled-rule stored_now provider m now h (rules.takes {x = x} {mid = mid} calm takes does) =
      settled_does stored_now mid now x (subst (λ e. IsSettledAt e.state) (sym (same takes)) h) does
    where
      same : Takes w x m mid → mid.execution ≡ m.execution
      same (of_action is become) = ap (λ (n : Moment w). n.execution) become
      same (of_message none_first is become) = ap (λ (n : Moment w). n.execution) become
