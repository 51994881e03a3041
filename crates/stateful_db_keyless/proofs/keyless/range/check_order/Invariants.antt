use Rattle.std.proofs.Common.{◌≡◌, ◌-◌, drop}
use Rattle.stateful_db_keyless.specs.Reads.{out_of_order}
use Rattle.stateful_db_keyless.proofs.keyless.range.check_order.Given as goal

-- the ones that are left, with the one before them, say the same
abbrev pub invariant-loop-i : goal.invariant-loop-i
invariant-loop-i l = out_of_order (drop (l.i - 1) l.locations) ≡ out_of_order l.locations
