use Rattle.std.proofs.Common.{slice_get, ap, sym, ◌∙◌}
use Rattle.stateful_db.specs.Disk.{all}
use Rattle.stateful_db_medium.specs.Kept as kept
use Rattle.stateful_db_medium.specs.declared.medium.Medium.{Medium}
use Rattle.stateful_db_plain.specs.Whole.{Whole}
use Rattle.stateful_db_plain.specs.Stored.{standing_of}
use Rattle.stateful_db_plain.proofs.Served.{none_kept, kept_at}
use Rattle.stateful_db_plain.proofs.database.Plain.state_with_end.Goals as goal

pub returns-in-None : goal.returns-in-None
returns-in-None c = λ w. none_kept (standing_of c.args.self.now).disk c.args.end.0 w (sym c.in-None.ensures)

pub returns-in-Some : goal.returns-in-Some
returns-in-Some c =
    kept_at (kept.standing_of c.args.self.now.opened).disk c.args.end.0 c.in-Some.number c.get.result.now (sym c.in-Some.ensures)
    (ap (λ (m : Medium Whole). slice_get (all (kept.disk_of m)) c.in-Some.number) (sym c.medium.ensures) ∙ c.get.ensures)
