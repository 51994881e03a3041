use Rattle.std.proofs.Common.{◌≤◌, ◌^◌, arith}
use Rattle.std.proofs.Math.Nat.{pow-le-pow_right}
use Rattle.stateful_db_plain.proofs.Bounds.{power_pos}
use Rattle.stateful_db_plain.proofs.bounded.goes_on.Goals as goal

pub pow-unit-requires : goal.pow-unit-requires
pow-unit-requires c =
    let places = c.args.places in
    let low : places ≤ 7 = omega arith in
    let above : 256 ^ places ≤ 256 ^ 7 = pow-le-pow_right (omega arith) low in
    omega arith

pub nonzero_div-least : goal.nonzero_div-least
nonzero_div-least c = omega (arith, power_pos c.args.places)

pub nonzero_div-result : goal.nonzero_div-result
nonzero_div-result c = omega (arith, power_pos c.args.places)
