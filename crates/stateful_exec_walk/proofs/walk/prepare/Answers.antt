use Rattle.std.proofs.lemmas.Result.{IfOk-weaker}
use Rattle.stateful_exec_walk.specs.Walk.IsVerified.{valid, invalid, waits, runs}
use Rattle.stateful_exec_walk.proofs.walk.prepare.Goals as goal

pub returns-in-Valid : goal.returns-in-Valid
returns-in-Valid g c = rw c.in-Verify.is (valid (rw c.in-Valid.is at c.in_ok-judge-in-Verify.ensures))

pub returns-in-Invalid : goal.returns-in-Invalid
returns-in-Invalid g c = rw c.in-Verify.is (invalid (rw c.in-Invalid.is at c.in_ok-judge-in-Verify.ensures))

pub returns-in-Waits : goal.returns-in-Waits
returns-in-Waits g c = rw c.in-Verify.is (waits (rw c.in-Waits.is at c.in_ok-judge-in-Verify.ensures))

pub returns-in-Open : goal.returns-in-Open
returns-in-Open g c = rw c.in-Verify.is (IfOk-weaker c.acquire.result _ _ (λ found needed. runs (rw c.in-Open.is at c.in_ok-judge-in-Verify.ensures) needed) c.acquire.ensures)

pub returns-in_ok-share-in-Recover : goal.returns-in_ok-share-in-Recover
returns-in_ok-share-in-Recover g c = rw (c.in-Recover.is, ← c.in_ok-share-in-Recover.ensures) (rw c.new-path.ensures at c.walk_from.ensures)
