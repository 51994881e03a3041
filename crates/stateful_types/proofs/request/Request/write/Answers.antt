use Rattle.stateful_base.specs.Number.{location_format, nonzero_format}
use Rattle.stateful_base.proofs.Formats.{write_both, write_rest}
use Rattle.stateful_types.proofs.Requests.{range_format, operations_case, boundary_case, write_nonzero}
use Rattle.stateful_types.proofs.request.Request.write.Goals as goal

pub returns-in_ok-write-in-Operations-2 : goal.returns-in_ok-write-in-Operations-2
returns-in_ok-write-in-Operations-2 c =
    let a = c.in-Operations in
    let size = c.in_ok-write-in-Operations.ensures in
    let start = c.in_ok-write-in-Operations-2.ensures in
    let range = write_both location_format location_format a.size a.start _ _ _ _ size.fits size.appended start in
    rw a.is
    (write_rest _ _ _ _ operations_case ((a.size, a.start), a.max_ops) _ _ _ _ c.in_ok-write_u8-in-Operations.ensures.appended
    (write_both range_format nonzero_format (a.size, a.start) a.max_ops _ _ _ _ range.fits range.appended (write_nonzero a.max_ops _ _ _ _ c.get.ensures.value c.write_u64.ensures)))

pub returns-in_ok-write-in-Boundary : goal.returns-in_ok-write-in-Boundary
returns-in_ok-write-in-Boundary c =
    let a = c.in-Boundary in
    let size = c.in_ok-write-in-Boundary.ensures in
    rw a.is
    (write_rest _ _ _ _ boundary_case (a.size, a.start) _ _ _ _ c.in_ok-write_u8-in-Boundary.ensures.appended
    (write_both location_format location_format a.size a.start _ _ _ _ size.fits size.appended c.write-in-Boundary-2.ensures))
