use Rattle.stateful_db_medium.specs.declared.checkpoints.Checkpoint.{Checkpoint}
use Rattle.std.proofs.Common.{ap, arith, length-append}
use Rattle.stateful_db.specs.Disk.{place}
use Rattle.stateful_db_medium.proofs.opened.Opened.push.Goals as goal

pub invariant_of-self-in-Break-1 : goal.invariant_of-self-in-Break-1
invariant_of-self-in-Break-1 g c =
    let same = ap place c.in_err-push.ensures.err in
    record { no_later = λ at out. let before = c.args.self.now.no_later at out in omega arith }

pub invariant_of-self-2 : goal.invariant_of-self-2
invariant_of-self-2 g c =
    let more = ap place c.in_ok-push.ensures.ok in
    record { no_later = λ at out. let before = c.args.self.now.no_later at out in omega (arith, length-append {A = Checkpoint g.row.X.Denot}) }
