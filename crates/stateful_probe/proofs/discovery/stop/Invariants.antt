use Rattle.std.proofs.Common.{◌≡◌, map, take}
use Rattle.stateful_probe.specs.declared.event.Out.TheVariants.{Closed}
use Rattle.stateful_probe.proofs.discovery.stop.Given as goal

-- those before this one are closed
abbrev pub invariant-loop-ticket : goal.invariant-loop-ticket
invariant-loop-ticket g l = l.outs.items ≡ map (λ t. Closed t) (take l.ticket-index l.ticket-items)
