use Rattle.std.proofs.Common.{◌≡◌, List, ◌++◌, take}
use Rattle.stateful_p2p_tables.specs.Deliveries.{IsSound, Retires}
use Rattle.stateful_p2p_tables.specs.declared.out.ActorOut.{ActorOut}
use Rattle.stateful_p2p_tables.proofs.state.State.retire.Given as goal

-- the tickets before this place are forgotten
abbrev pub invariant-loop-ticket : goal.invariant-loop-ticket
invariant-loop-ticket g l =
    IsSound l.self × ((forgotten : List ActorOut) × Retires l.initial.self (take l.ticket-index l.gone) forgotten l.settled.items l.self × (l.outs.items ≡ l.initial.outs.items ++ forgotten))
