use Rattle.std.specs.Option.{option_copied}
use Rattle.stateful_db_plain.specs.Stored.{standing_of}
use Rattle.stateful_db_plain.proofs.Served.{asks_kept}
use Rattle.stateful_db_plain.proofs.database.Plain.asked.Goals as goal

pub returns-in-Boundary : goal.returns-in-Boundary
returns-in-Boundary c =
    asks_kept (standing_of c.args.self.now).disk c.args.request.now c.in-Boundary.size c.in-Boundary.start
    (option_copied c.state_with_end.result) c.in-Boundary.is (c.is_last.ensures.0 c.if-is_last.true) c.state_with_end.ensures
