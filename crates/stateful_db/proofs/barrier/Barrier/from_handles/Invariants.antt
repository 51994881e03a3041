use Rattle.std.proofs.Common.{◌≡◌, map, take}
use Rattle.stateful_db.specs.Barrier.{unanswered}
use Rattle.stateful_db.proofs.barrier.Barrier.from_handles.Given as goal

-- the tokens so far are there, without answers
abbrev pub invariant-loop-token : goal.invariant-loop-token
invariant-loop-token l = l.waiting.items ≡ map unanswered (take l.token-index l.token-items)
