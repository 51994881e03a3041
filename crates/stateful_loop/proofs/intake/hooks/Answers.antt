use Rattle.std.proofs.Common.{sym, ap, ◌∙◌}
use Rattle.std.proofs.lemmas.Bool.{eqb-true}
use Rattle.stateful_exec_model.specs.Finalizing.{front_at}
use Rattle.stateful_exec_model.specs.declared.front.Stage.TheVariants.{Hooking}
use Rattle.stateful_loop.proofs.intake.hooks.Goals as goal

pub returns-in-Hooking-clause-yes : goal.returns-in-Hooking-clause-yes
returns-in-Hooking-clause-yes g c =
    λ e. (
      c.in-Some.front.now.block,
      c.in-Hooking.hook,
      record {
        is = sym c.in-Some.ensures ∙ ap (λ stage. front_at c.in-Some.front.now.block stage)
            (c.in-Hooking.is ∙ ap (λ j. Hooking j c.in-Hooking.hook) (eqb-true c.in-Hooking.of c.args.job e));
      },
    )
