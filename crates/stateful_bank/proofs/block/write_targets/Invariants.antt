use Rattle.std.proofs.Common.{◌≡◌, ◌++◌, take}
use Rattle.std.specs.List.{flat_map}
use Rattle.stateful_bank.specs.BankBlock.{target_bytes}
use Rattle.stateful_bank.proofs.block.write_targets.Given as goal

-- what was there before the loop, and the bytes of those so far
abbrev pub invariant-loop-target : goal.invariant-loop-target
invariant-loop-target l = l.out.items ≡ l.initial.out.items ++ flat_map target_bytes (take l.target-index l.targets)
