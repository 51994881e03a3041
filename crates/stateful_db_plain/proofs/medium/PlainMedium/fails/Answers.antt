use Rattle.std.proofs.Common.{sym, subst}
use Rattle.stateful_db.specs.Disk.{Disk, all}
use Rattle.stateful_db_medium.specs.declared.checkpoints.Checkpoint.{Checkpoint}
use Rattle.stateful_db_plain.specs.Whole.{Whole}
use Rattle.stateful_db_plain.specs.Rooted.{AreRooted}
use Rattle.stateful_db_plain.proofs.medium.PlainMedium.fails.Goals as goal

pub invariant_of-self : goal.invariant_of-self
invariant_of-self c =
    let P : Disk (Checkpoint Whole) → Type 0 = λ d. AreRooted (all d) in
    record { rooted = subst P (sym c.fails.ensures.disk) c.args.self.now.rooted }
