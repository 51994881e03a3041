use Rattle.std.proofs.Common.{◌≡◌, ◌++◌, map, take}
use Rattle.stateful_probe.specs.declared.event.Out.TheVariants.{Floor}
use Rattle.stateful_probe.proofs.discovery.hand_out.Given as goal

-- those before this one have the floor
abbrev pub invariant-loop-ticket : goal.invariant-loop-ticket
invariant-loop-ticket g l = l.outs.items ≡ l.fn.outs.items ++ map (λ t. Floor t l.floor) (take l.ticket-index l.waiting)
