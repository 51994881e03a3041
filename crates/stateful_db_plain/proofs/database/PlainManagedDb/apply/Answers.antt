use Rattle.std.proofs.Common.{◌∷◌, ap, ◌∙◌}
use Rattle.stateful_db.specs.Disk.{Standing, applied, point}
use Rattle.stateful_db_medium.specs.Mapped.{mapped, mapped_standing}
use Rattle.stateful_db_medium.specs.declared.checkpoints.Checkpoint.{Checkpoint}
use Rattle.stateful_db_plain.specs.Whole.{Whole}
use Rattle.stateful_db_plain.specs.Rooted.{state_of}
use Rattle.stateful_db_plain.specs.Stored.{standing_of}
use Rattle.stateful_db_plain.proofs.database.PlainManagedDb.apply.Goals as goal

pub returns-in-Ok-grow-clause-ok : goal.returns-in-Ok-grow-clause-ok
returns-in-Ok-grow-clause-ok c = λ p chain shown.
    c.in-Ok-grow.ensures.ok p (point (standing_of c.args.self) ∷ chain) shown
    ∙ ap (λ (s : Standing (Checkpoint Whole)). record (mapped_standing state_of s) { id = p.0; disk = applied (mapped state_of s.disk) p.1 }) c.in-Ok.ensures.ok
