-- After each rule of the loop what waits stands.
use Rattle.std.proofs.Common.{◌≡◌, ℕ, [], Option, None, refl, sym, ap, ◌∙◌, subst}
use Rattle.stateful_base.specs.Names.{Named}
use Rattle.stateful_history.specs.Past.{Past}
use Rattle.stateful_exec_model.specs.Workings.{Workings}
use Rattle.stateful_loop_model.specs.Moments.{Moment, Executing, with_loop}
use Rattle.stateful_loop_model.specs.Rules as rules
use Rattle.stateful_loop_model.specs.Rules.{DoesMessage, Rule}
use Rattle.stateful_loop_model.specs.declared.message.Action.TheVariants as action
use Rattle.stateful_loop_model.specs.declared.message.Message.{Message}
use Rattle.stateful_loop_model.specs.declared.message.Message.TheVariants as message
use Rattle.stateful_loop_laws.specs.Execution.{Executes}
use Rattle.stateful_loop_laws.specs.Tickets.{TicketsStand, TicketsBehind}
use Rattle.stateful_loop_laws.proofs.tickets.Grounded.{IsGrounded, grounded}
use Rattle.stateful_loop_laws.proofs.duly.MarksOfRules.{takes-marks}
use Rattle.stateful_loop_laws.proofs.tickets.Built.{builds-tickets}
use Rattle.stateful_loop_laws.proofs.tickets.Collected.{collects-tickets, puts_off-tickets}
use Rattle.stateful_loop_laws.proofs.tickets.Completed.{completes-tickets}
use Rattle.stateful_loop_laws.proofs.tickets.Finalized.{begins-tickets, ends-tickets}
use Rattle.stateful_loop_laws.proofs.tickets.Served.{schedules-tickets, answers-tickets, acknowledges-tickets, holds-tickets}
use Rattle.stateful_loop_laws.proofs.tickets.Still.{runs-tickets, applies-tickets, barrier-tickets, breaks-tickets, observes-tickets}
use Rattle.stateful_loop_laws.proofs.tickets.Taken.{IsTaken, action_taken, message_taken, takes-taken, takes-execution, takes-front, behind_before}

module _ {B C I P R D H G U : Type 0} (w : Workings B C I P R D H G U) (stored stored_now : ℕ → Option (Named B)) (p : Past B C I) where
  -- what becomes of a message that was taken
  pub does-tickets : (mid now : Moment w) (a : Message B C I) → IsGrounded w stored p mid.execution.state mid.execution.build
      → mid.execution.state.recovered ≡ [] → mid.loop.front ≡ None
      → IsTaken w stored p (action.Message a) mid → DoesMessage w stored_now mid now a → TicketsBehind w stored p mid now
  does-tickets mid now a g bare idle taken (rules.schedules {request = request} r) =
      schedules-tickets w stored p mid g stored_now bare request now taken r
  does-tickets mid now a g bare idle taken (rules.answers {t = t} is) = answers-tickets w stored p mid g t now taken is
  does-tickets mid now a g bare idle taken (rules.acknowledges {t = t} {b = b} again durable is) = acknowledges-tickets w stored p mid g t b
      (w.header.height b.block) now taken is
  does-tickets mid now a g bare idle taken (rules.holds {t = t} {b = b} again later is) = holds-tickets w stored p mid g t b now taken is
  does-tickets mid now a g bare idle taken (rules.begins {t = t} {b = b} above r) = begins-tickets w stored p mid g t b now idle taken r

  module _ (base : w.States) (m : Moment w) (x : Executes w stored base p m) (s : TicketsStand w stored p m) where
    ground : IsGrounded w stored p m.execution.state m.execution.build
    ground = grounded w stored base p m x

    -- after a rule
    pub rule-tickets : (provider : P) (now : Moment w) → Rule w stored_now provider m now → TicketsBehind w stored p m now
    rule-tickets provider now (rules.collects {t = t} up c) = collects-tickets w stored base p m x s t now c
    rule-tickets provider now (rules.schedules {request = request} {rest = rest} collected some is verification r) =
        let mid : Moment w = with_loop w m (record m.loop { queue = rest }) in
        behind_before w stored p m mid now refl
        (schedules-tickets w stored p mid ground stored_now collected.1 request now
        (message_taken w stored p (message.Request request) rest m is s) r)
    rule-tickets provider now (rules.puts_off {x = a} {rest = rest} collected some is other become) =
        puts_off-tickets w stored base p m x s a rest now is become
    rule-tickets provider now (rules.runs {f = f} fronts begun awaits uncached r) = runs-tickets w stored base p m x s f.block now r
    rule-tickets provider now (rules.applies {f = f} fronts captured states r) = applies-tickets w stored base p m x s f now fronts.2 r
    rule-tickets provider now (rules.covers fronts advanced captured needed r) = barrier-tickets w stored base p m x s now r
    rule-tickets provider now (rules.observes {f = f} {captured = captured} fronts advanced is covered r) =
        observes-tickets w stored base p m x s f captured now fronts.2 r
    rule-tickets provider now (rules.ends {f = f} fronts advanced captured r) =
        ends-tickets w stored p m ground stored_now fronts.0.1 f now fronts.2 s r
    rule-tickets provider now (rules.breaks {active = active} idle is become) = breaks-tickets w stored base p m x s active now become
    rule-tickets provider now (rules.completes {active = active} idle whole is r) = completes-tickets w stored p m ground s active now r
    rule-tickets provider now (rules.begins idle whole unflushed needed r) = barrier-tickets w stored base p m x s now r
    rule-tickets provider now (rules.builds {t = t} {rest = rest} calm is r) =
        let mid : Moment w = with_loop w m (record m.loop { actions = rest }) in
        behind_before w stored p m mid now refl
        (builds-tickets w stored p mid ground t (action_taken w stored p (action.Build t) rest m is s) provider now r)
    rule-tickets provider now (rules.takes {x = a} {mid = mid} calm takes does) =
        let same = takes-execution w stored p a m mid takes in
        let there : IsGrounded w stored p mid.execution.state mid.execution.build = subst
        (λ (e : Executing B C I R D H U). IsGrounded w stored p e.state e.build) (sym same) ground in
        behind_before w stored p m mid now (takes-marks w a m mid takes)
        (does-tickets mid now a there (ap (λ (e : Executing B C I R D H U). e.state.recovered) same ∙ calm.0.0.1)
        (takes-front w stored p a m mid takes ∙ calm.0.2)
        (takes-taken w stored p a m mid takes s) does)
