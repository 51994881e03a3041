-- Whatever event is taken in, but a restart, what waits stands behind it.
use Rattle.std.proofs.Common.{◌≡◌, ℕ, true, [], ◌∷◌, Option}
use Rattle.stateful_base.specs.Names.{Named}
use Rattle.stateful_history.specs.Live.{names_live}
use Rattle.stateful_history.specs.Past.{Past, Came}
use Rattle.stateful_history.specs.Stops.{IsRestart}
use Rattle.stateful_history.specs.declared.event.Event.{Event}
use Rattle.stateful_history.specs.declared.event.Event.TheVariants as event
use Rattle.stateful_exec_model.specs.Workings.{Workings}
use Rattle.stateful_loop_model.specs.Intake.{Counts, TakesIn, enters, cancels, fetched, turns, flushes, stops, progresses, restarts}
use Rattle.stateful_loop_model.specs.Moments.{Moment}
use Rattle.stateful_loop_laws.specs.Execution.{Executes}
use Rattle.stateful_loop_laws.specs.Tickets.{TicketsStand, TicketsBehind}
use Rattle.stateful_loop_laws.proofs.tickets.Cancelled.{cancels-tickets, request_live}
use Rattle.stateful_loop_laws.proofs.tickets.Entered.{enters-tickets}
use Rattle.stateful_loop_laws.proofs.tickets.Turned.{fetched-tickets, turns-tickets, flushes-tickets, stops-tickets, same-tickets}

module _ {B C I P R D H G U : Type 0} (w : Workings B C I P R D H G U) (stored : ℕ → Option (Named B)) (base : w.States) (p : Past B C I)
    (m : Moment w) (x : Executes w stored base p m)
    (s : TicketsStand w stored p m) (bare : m.execution.state.recovered ≡ []) where
  -- after an event that names what is live, where nothing was to be handed out
  pub takes_in-tickets : (stored_now : ℕ → Option (Named B)) (count : ℕ) (counts : Counts R D H) (e : Event B C I) (now : Moment w)
      → (IsRestart e → ⊥) → names_live count p e ≡ true → TakesIn w stored_now counts m now e → TicketsBehind w stored (Came e ∷ p) m now
  takes_in-tickets stored_now count counts e now no_restart names (enters {x = a} is become) =
      enters-tickets w stored base p m x s count e a now is names become
  takes_in-tickets stored_now count counts e now no_restart names (cancels {t = t} c) = cancels-tickets w stored base p m x s t
      (request_live count t p names) now c
  takes_in-tickets stored_now count counts e now no_restart names (fetched {f = f} {answer = answer} {then = then} is become) =
      fetched-tickets w stored base p m x s stored_now bare f answer then now is become
  takes_in-tickets stored_now count counts e now no_restart names (turns {j = j} t) = turns-tickets w stored base p m x s bare counts j now t
  takes_in-tickets stored_now count counts e now no_restart names (flushes {k = k} {i = i} {answer = answer} f) =
      flushes-tickets w stored base p m x s k i answer now f
  takes_in-tickets stored_now count counts e now no_restart names (stops become) = stops-tickets w stored base p m x s now become
  takes_in-tickets stored_now count counts e now no_restart names (progresses {i = i} same) = same-tickets w stored base p m x s
      (event.Progress i) tt now same
  takes_in-tickets stored_now count counts e now no_restart names (restarts same) = absurd (no_restart tt)
