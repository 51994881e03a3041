use Rattle.std.proofs.Common.{append_assoc}
use Rattle.stateful_bank.specs.BankBlock.{head_bytes}
use Rattle.stateful_bank.proofs.block.BankBlock.write_head.Goals as goal

-- the pieces one behind the other
pub returns : goal.returns
unfolding head_bytes
returns c =
    rw (c.in_ok-write_u8.ensures.appended, c.in_ok-write-3.ensures.appended, c.in_ok-write-2.ensures.appended, c.in_ok-write.ensures.appended) (simp append_assoc)
