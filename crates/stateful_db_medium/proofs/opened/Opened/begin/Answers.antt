use Rattle.std.proofs.Common.{ap, arith}
use Rattle.stateful_db.specs.Disk.{place}
use Rattle.stateful_db_medium.proofs.opened.Opened.begin.Goals as goal

pub invariant_of-result : goal.invariant_of-result
invariant_of-result g c =
    let same = ap place c.fails.ensures.disk in
    record { no_later = λ at out. let before = c.args.self.no_later at out in omega arith }
