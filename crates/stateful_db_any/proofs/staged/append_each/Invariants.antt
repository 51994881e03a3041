use Rattle.std.proofs.Common.{◌≡◌, ◌++◌, take}
use Rattle.stateful_db_any.proofs.staged.append_each.Given as goal

-- copies of the first ones so far
abbrev pub invariant-loop-key : goal.invariant-loop-key
invariant-loop-key g l = l.out.items ≡ l.initial.out.items ++ take l.key-index l.keys
