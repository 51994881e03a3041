use Rattle.std.proofs.Common.{sym, ◌∙◌, refl}
use Rattle.stateful_db_medium.proofs.checkpoints.Checkpoints.number_of.Goals as goal

pub returns-then-is_same-clause-ok : goal.returns-then-is_same-clause-ok
returns-then-is_same-clause-ok g c =
    let same = c.is_same.ensures.0 c.if-is_same.true in
    (sym c.number_with_end.ensures ∙ c.in-Some.is, (c.get.result.now, c.get.ensures, sym c.target-recovered.ensures ∙ same))

pub returns-else-is_same-clause-err : goal.returns-else-is_same-clause-err
returns-else-is_same-clause-err g c =
    (c.in-Some.number, c.get.result.now, sym c.number_with_end.ensures ∙ c.in-Some.is, c.get.ensures, (λ same. let found = c.is_same.ensures.1 (c.target-recovered.ensures ∙ same) in cc), refl, c.target-recovered.ensures)
