use Rattle.std.proofs.Common.{refl, ap, ◌∙◌}
use Rattle.stateful_base.specs.declared.outcome.Moved.TheVariants.{Done}
use Rattle.stateful_exec_shell.proofs.Working.{build_turned}
use Rattle.stateful_exec_shell.proofs.fake.FakeApplication.turn_build.Goals as goal

-- the database that is here is at the point
pub returns-in-Done-Some-clause-ok : goal.returns-in-Done-Some-clause-ok
returns-in-Done-Some-clause-ok c =
    build_turned _ c.args.build.now _ _ _ _ (rw c.in-Here.is refl) c.in_ok-turn.ensures.ok c.in-Done-Some.merkleized (c.in-Done-Some.is ∙ ap Done c.in-Done-Some.field-0-is) _ c.hand_over.ensures
