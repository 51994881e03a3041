use Rattle.stateful_db.specs.declared.application.ProposalKind.TheVariants.{Propose}
use Rattle.stateful_simple_app.proofs.application.OneTurnApplicationApplication.propose.Goals as goal

pub returns-clause-build : goal.returns-clause-build
returns-clause-build g c = c.in_ok-build.ensures.build Propose
