use Rattle.std.proofs.Common.{arith, sym}
use Rattle.stateful_script.proofs.LinesLeft.{refused_line, next_line, at_end, no_end}
use Rattle.stateful_script.proofs.Plans.{plans_are_kept}
use Rattle.stateful_script.proofs.read.read_script.Goals as goal

pub returns-in-Err-Refused-clause-exact : goal.returns-in-Err-Refused-clause-exact
returns-in-Err-Refused-clause-exact c =
    refused_line _ _ c.lines.rest.now _ c.in-Some.after.now _ c.lines.invariant.same c.in-Some.ensures.parts
    (rw c.in-Err-Refused.field-0-is at c.in-Err-Refused.ensures)

pub lines-preserved : goal.lines-preserved
lines-preserved c = record {
  same = next_line _ _ _ c.lines.rest.now _ c.in-Some.after.now _ c.lines.invariant.same c.in-Some.ensures.parts c.in-Ok.ensures;
  within = omega (arith, c.in-Some.ensures.shorter);
}

pub returns-then-is_empty : goal.returns-then-is_empty
returns-then-is_empty c =
    let exact = at_end _ _ _ _ c.lines.invariant.same c.in_default.ensures.parts (sym c.if-is_empty.ensures) in
    record { exact = exact; plan = plans_are_kept _ _ exact }

pub returns-else-is_empty-clause-exact : goal.returns-else-is_empty-clause-exact
returns-else-is_empty-clause-exact c =
    no_end _ _ _ _ c.lines.invariant.same c.in_default.ensures.parts (sym c.if-is_empty.ensures)
