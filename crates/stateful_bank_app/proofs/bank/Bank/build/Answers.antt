use Rattle.std.proofs.Common.{ap, ◌∙◌}
use Rattle.stateful_bank.specs.declared.block.BankBlock.{BankBlock}
use Rattle.stateful_db.specs.Works.{asked_for, build_of}
use Rattle.stateful_bank_app.specs.Builds.{proposal_of}
use Rattle.stateful_bank_app.proofs.bank.Bank.build.Goals as goal

pub returns-in-Ok-clause-build : goal.returns-in-Ok-clause-build
returns-in-Ok-clause-build g c = λ i p below shown.
    let asked = λ (parent : BankBlock). proposal_of (record { kind = c.args.kind; context = c.args.context; parent = parent; input = c.args.ask }) in
    c.start_build.ensures.build (build_of (asked_for c.args.kind c.args.context c.args.ancestry.now c.args.ask) tt i p below) (c.in-Ok.ensures ∙ ap asked c.inner.ensures) shown
