use Rattle.stateful_base.proofs.Formats.{write_rest}
use Rattle.stateful_db_any.specs.OpLaws.{some_case}
use Rattle.stateful_db_any.proofs.operation.write_metadata.Goals as goal

pub returns-in_ok-write_u8-in-Some : goal.returns-in_ok-write_u8-in-Some
returns-in_ok-write_u8-in-Some g c =
    rw c.in-Some.is
    (write_rest _ _ _ _ (some_case g.V.Field.fields g.met.V.Field.lawful) _ _ _ _ _ c.in_ok-write_u8-in-Some.ensures.appended c.write.ensures)
