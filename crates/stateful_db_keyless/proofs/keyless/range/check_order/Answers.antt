use Rattle.std.proofs.Common.{◌-◌, sym, ◌∙◌, arith}
use Rattle.stateful_db_keyless.proofs.Locations.{order_last}
use Rattle.stateful_db_keyless.proofs.keyless.range.check_order.Goals as goal

pub returns-clause-ok : goal.returns-clause-ok
returns-clause-ok c = sym c.loop-i.invariant ∙ order_last (c.loop-i.i - 1) c.args.locations.now (omega (arith, c.loop-i-test.false))
