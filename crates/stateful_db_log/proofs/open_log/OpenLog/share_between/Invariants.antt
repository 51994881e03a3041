use Rattle.std.proofs.Common.{◌≡◌, ◌≤◌, max}
use Rattle.stateful_db_log.specs.Between.{between}
use Rattle.stateful_db_log.proofs.open_log.OpenLog.share_between.Given as goal

-- copies of the operations before the location
abbrev pub invariant-loop-at : goal.invariant-loop-at
invariant-loop-at g l =
    (l.at ≤ max l.start l.end)
    × (l.copies.items ≡ between l.self.first l.self.ops l.start l.at)
