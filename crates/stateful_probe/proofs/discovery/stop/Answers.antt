use Rattle.std.proofs.Common.{◌≡◌, ◌∙◌, take}
use Rattle.std.proofs.lemmas.List.{take_all}
use Rattle.stateful_probe.specs.Probe.{stops}
use Rattle.stateful_probe.proofs.discovery.stop.Goals as goal

pub returns : goal.returns
returns g c = λ config latest.
    let all : take c.loop-ticket.ticket-index c.as_slice-ticket-items.result.now ≡ c.args.state.now.subscribers = take_all _ _ c.loop-ticket-test.false ∙ c.as_slice-ticket-items.ensures in
    rw (c.loop-ticket.invariant, all, c.clear.ensures) stops
