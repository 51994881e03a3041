use Rattle.std.proofs.Common.{ap, ◌∙◌}
use Rattle.stateful_db_medium.specs.Kept as kept
use Rattle.stateful_db_medium.specs.declared.checkpoints.Checkpoint.{Checkpoint}
use Rattle.stateful_db_plain.specs.Whole.{Whole}
use Rattle.stateful_db_plain.proofs.Rooted.{rooted_newest}
use Rattle.stateful_db_plain.proofs.database.PlainManagedDb.sync_target.Goals as goal

pub returns : goal.returns
returns c =
    let db = c.args.self.now in
    ap (λ (k : Checkpoint Whole). k.target) c.newest.ensures ∙ rooted_newest (kept.standing_of db.opened).disk db.rooted
