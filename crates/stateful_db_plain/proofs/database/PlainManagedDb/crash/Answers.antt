use Rattle.std.proofs.Common.{◌+◌, ◌-◌, length, max, min}
use Rattle.stateful_db.specs.Disk.{all}
use Rattle.stateful_db_medium.specs.Kept as kept
use Rattle.stateful_db_medium.specs.Mapped.{crash-mapped}
use Rattle.stateful_db_plain.specs.Rooted.{state_of}
use Rattle.stateful_db_plain.proofs.Rooted.{rooted_take, agree_here}
use Rattle.stateful_db_plain.proofs.database.PlainManagedDb.crash.Goals as goal

pub invariant_of-result : goal.invariant_of-result
invariant_of-result c =
    let m = c.args.medium in
    let d = kept.disk_of m.medium in
    let e = kept.disk_of c.cut.new.self in
    let n = max (d.durable + 1 - d.pruned) (min (c.args.keep - d.pruned) (length (all d))) in
    record { rooted = rooted_take n (all d) (all e) c.cut.ensures.disk.prefix m.rooted }

pub returns-clause-disk : goal.returns-clause-disk
returns-clause-disk c =
    let d = kept.disk_of c.args.medium.medium in
    let e = kept.disk_of c.cut.new.self in
    crash-mapped state_of state_of c.args.keep d e c.cut.ensures.disk (agree_here (all e))
