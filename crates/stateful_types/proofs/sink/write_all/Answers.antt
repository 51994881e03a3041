use Rattle.std.proofs.Common.{arith}
use Rattle.stateful_types.proofs.Known.{written_more}
use Rattle.stateful_types.proofs.sink.write_all.Goals as goal

pub writing-preserved : goal.writing-preserved
writing-preserved g c = record {
  within = grind arith;
  written = written_more _ _ _ _ _ _ c.writing.invariant.written c.in_ok-at.ensures.bytes;
  later = omega arith;
}
