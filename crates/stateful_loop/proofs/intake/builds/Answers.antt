use Rattle.std.proofs.Common.{sym}
use Rattle.std.proofs.lemmas.Bool.{eqb-true}
use Rattle.stateful_loop.proofs.intake.builds.Goals as goal

pub returns-in-Some-clause-yes : goal.returns-in-Some-clause-yes
returns-in-Some-clause-yes g c =
    λ e. (c.in-Some.build.now, record { live = sym c.in-Some.ensures; job = eqb-true c.in-Some.build.now.job c.args.job e })
