use Rattle.stateful_base.proofs.Formats.{write_both, write_rest}
use Rattle.stateful_db_any.specs.OpLaws.{commit_case, update_case, delete_case}
use Rattle.stateful_db_any.proofs.operation.AnyOpOperation.write.Goals as goal

pub returns-in_ok-write_u8-in-Commit : goal.returns-in_ok-write_u8-in-Commit
returns-in_ok-write_u8-in-Commit g c =
    let case = commit_case g.K.Field.fields g.V.Field.fields g.met.K.Field.lawful g.met.V.Field.lawful in
    rw c.in-Commit.is (write_rest _ _ _ _ case _ _ _ _ _ c.in_ok-write_u8-in-Commit.ensures.appended c.write_metadata.ensures)

pub returns-in_ok-write-in-Update : goal.returns-in_ok-write-in-Update
returns-in_ok-write-in-Update g c =
    let key = g.K.Field.fields in
    let value = g.V.Field.fields in
    let case = update_case key value g.met.K.Field.lawful g.met.V.Field.lawful in
    let first = c.in_ok-write-in-Update.ensures in
    rw c.in-Update.is
    (write_rest _ _ _ _ case (_, _) _ _ _ _ c.in_ok-write_u8-in-Update.ensures.appended
    (write_both key value _ _ _ _ _ _ first.fits first.appended c.write-in-Update.ensures))

pub returns-in_ok-write_u8-in-Delete : goal.returns-in_ok-write_u8-in-Delete
returns-in_ok-write_u8-in-Delete g c =
    let case = delete_case g.K.Field.fields g.V.Field.fields g.met.K.Field.lawful g.met.V.Field.lawful in
    rw c.in-Delete.is (write_rest _ _ _ _ case _ _ _ _ _ c.in_ok-write_u8-in-Delete.ensures.appended c.write-in-Delete.ensures)
