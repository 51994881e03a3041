use Rattle.stateful_bank.proofs.Building.{gives_one}
use Rattle.stateful_bank.proofs.proposal.one_is_given.Goals as goal

pub returns : goal.returns
returns g c = gives_one
