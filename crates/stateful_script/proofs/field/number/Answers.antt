use Rattle.std.proofs.Common.{◌≡◌, sym, ◌∙◌}
use Rattle.stateful_script.specs.Fields.{is_numeral}
use Rattle.stateful_script.proofs.Numbers.{numeral_is_text, parsed}
use Rattle.stateful_script.proofs.field.number.Goals as goal

pub returns-in-Ok : goal.returns-in-Ok
returns-in-Ok c =
    let numeral : is_numeral c.args.field.now ≡ _ = sym c.if-not-is_numeral.ensures in
    let p = rw c.in-Ok.ensures.cases.0 at c.parse.ensures.value.0 in
    c.ok.ensures.value ∙ parsed c.args.field.now c.parse.result numeral p

pub returns-in-Err : goal.returns-in-Err
returns-in-Err c =
    absurd (c.in-Err.ensures.cases.0 (numeral_is_text c.args.field.now (sym c.if-not-is_numeral.ensures)))
