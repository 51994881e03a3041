use Rattle.std.proofs.Common.{arith}
use Rattle.stateful_db_pass.proofs.pass.LogPass.request.Goals as goal

-- no location of the range is behind its end
pub overflow_add-result : goal.overflow_add-result
overflow_add-result g c =
    omega (arith, c.self.invariant.most, c.self.invariant.ranged c.in-Some-Range.field-0-0 c.in-Some-Range.is-0, c.len.ensures, c.self.inside.ops.ok, c.self.invariant.small)
