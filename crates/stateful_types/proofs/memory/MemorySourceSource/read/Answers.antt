use Rattle.std.proofs.Common.{arith}
use Rattle.stateful_types.proofs.Known.{copied, rest_at}
use Rattle.stateful_types.proofs.memory.MemorySourceSource.read.Goals as goal

pub returns-clause-bytes : goal.returns-clause-bytes
returns-clause-bytes c =
    let least = rw (c.deref-2.ensures.value, rest_at) at c.min-count.ensures in
    let same = rw (c.deref-2.ensures.value, rest_at) at c.copy_from_slice.ensures.after in
    let piece = copied c.args.self.now.bytes.items c.args.buf.now c.copy_from_slice.new.self c.args.self.now.at c.min-count.result (omega arith) least same in
    (piece.given, piece.ended)
