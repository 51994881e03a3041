use Rattle.std.proofs.Common.{inl, inr}
use Rattle.stateful_probe.specs.Probe.{asks_again, rests}
use Rattle.stateful_probe.proofs.Stepping.{nobody, someone, found_some, found_none, on_ok}
use Rattle.stateful_probe.proofs.discovery.retry.Goals as goal
use Rattle.stateful_probe.proofs.discovery.retry.Goals.{then-is_some-via-then-is_some, then-is_some-via-else-is_some+then-is_empty}

pub returns-then-is_some : goal.returns-then-is_some
returns-then-is_some g c = λ latest. rw c.requires (rests (elim c.then-is_some.branch [
  | then-is_some-via-then-is_some w ↦ inl (found_some _ _ c.floor.ensures (cc))
  | then-is_some-via-else-is_some+then-is_empty w ↦ inr (nobody _ (cc))
]))

pub returns : goal.returns
returns g c = on_ok c.request_latest.result c.request_latest.ensures.restarted c.request_latest.ensures.asked
    (λ begun ask latest. rw (ask, begun, c.requires) (asks_again (found_none _ _ c.floor.ensures (cc)) (someone _ (cc))))
