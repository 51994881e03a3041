use Rattle.stateful_probe.specs.Probe.{unawaited, ignored, blocked, not_needed}
use Rattle.stateful_probe.proofs.Stepping.{nobody, recorded_by}
use Rattle.stateful_probe.proofs.discovery.receive.Goals as goal

pub returns-then-not-still_counts : goal.returns-then-not-still_counts
returns-then-not-still_counts g c = λ serving latest. rw c.requires (unawaited {peer = c.args.peer} {bytes = c.args.value} serving (cc))

pub returns-in-Ignored : goal.returns-in-Ignored
returns-in-Ignored g c = λ serving latest. rw c.requires
    (ignored {peer = c.args.peer} {bytes = c.args.value} serving (cc) (rw c.in-Ignored.is at c.in_ok-judge.ensures))

pub returns-in_ok-push-in-AtFault : goal.returns-in_ok-push-in-AtFault
returns-in_ok-push-in-AtFault g c = λ serving latest. rw (c.in_ok-push-in-AtFault.ensures.items, c.requires)
    (blocked {peer = c.args.peer} {bytes = c.args.value} serving (cc) (rw c.in-AtFault.is at c.in_ok-judge.ensures))

pub returns-then-is_empty : goal.returns-then-is_empty
returns-then-is_empty g c = λ serving latest. rw (c.requires, c.reset.ensures)
    (not_needed {peer = c.args.peer} {bytes = c.args.value} serving (cc) (rw c.in-Good.is at c.in_ok-judge.ensures) (nobody _ (cc)))

pub returns-in_ok-select_floor-in-Good : goal.returns-in_ok-select_floor-in-Good
returns-in_ok-select_floor-in-Good g c = λ serving latest.
    recorded_by _ latest _ c.args.peer c.args.value c.in-Good.finalization _ _ _ serving (cc)
    (rw c.in-Good.is at c.in_ok-judge.ensures) (cc) c.in_ok-record-in-Good.ensures.ok
    (rw c.requires at c.in_ok-select_floor-in-Good.ensures)
