use Rattle.std.proofs.Common.{◌≡◌, ◌+◌, drop}
use Rattle.stateful_db_log.specs.Linking.{behind}
use Rattle.stateful_db_log.proofs.linked.link_each.Given as goal

-- the operations that are left lead to the same digest
abbrev pub invariant-loop-i : goal.invariant-loop-i
invariant-loop-i g l =
    let link = g.Op.Linked.linked in
    behind link (l.at + l.i) l.digest (drop l.i l.ops) ≡ behind link l.at l.fn.before l.ops
