use Rattle.stateful_db_plain.proofs.OpWrites.{WritesOn}
use Rattle.stateful_db_plain.proofs.op.PlainOpOperation.write.Given as goal

-- the number and the entries so far are written
abbrev pub invariant-loop-key : goal.invariant-loop-key
invariant-loop-key l = WritesOn l.fn.out.items l.out.items l.self l.key-iterator
