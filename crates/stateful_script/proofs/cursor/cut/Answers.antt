use Rattle.std.proofs.Common.{◌==◌, sym}
use Rattle.stateful_script.proofs.Cuts.{no_place, at_place}
use Rattle.stateful_script.proofs.cursor.cut.Goals as goal

pub returns-in_err-end-clause-parts : goal.returns-in_err-end-clause-parts
returns-in_err-end-clause-parts c =
    rw c.from_residual.ensures (no_place (λ b. b == c.args.byte) c.args.text.now (sym c.in_err-end.ensures.value))

pub returns-clause-parts : goal.returns-clause-parts
returns-clause-parts c = at_place (λ b. b == c.args.byte) c.args.text.now c.in_ok-end.end (sym c.in_ok-end.ensures.value)
