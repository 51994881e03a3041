use Rattle.stateful_db.specs.declared.application.ProposalKind.TheVariants.{Prepare}
use Rattle.stateful_simple_app.proofs.application.OneTurnApplicationApplication.prepare.Goals as goal

pub returns-clause-build : goal.returns-clause-build
returns-clause-build g c = c.in_ok-build.ensures.build Prepare
