use Rattle.std.proofs.Common.{◌≡◌, ◌+◌, Some, None, option_map, ap, ◌∙◌, arith}
use Rattle.stateful_bank.specs.Balances.{do_ops}
use Rattle.stateful_bank_plain.specs.Single.{state_after}
use Rattle.stateful_bank_plain.proofs.state.step.Goals as goal

pub returns-in-Some-2 : goal.returns-in-Some-2
returns-in-Some-2 c = λ height.
    let state = c.args.state.now in
    let entries = c.in-Some-2.entries.entries in
    let done : Some entries ≡ do_ops state.entries c.args.ops.now = rw (c.in-Some-2.is, c.entries.ensures) at c.in_ok-entries.ensures in
    let size : c.in-Some.size ≡ state.size + 1 = omega arith in
    let made : c.new.result ≡ state_after state entries = rw size at c.new.ensures in
    ap Some made ∙ ap (option_map (state_after state)) done

pub returns-in-None : goal.returns-in-None
returns-in-None c = λ height.
    let state = c.args.state.now in
    let none : None ≡ do_ops state.entries c.args.ops.now = rw (c.in-None.is, c.entries.ensures) at c.in_ok-entries.ensures in
    ap (option_map (state_after state)) none
