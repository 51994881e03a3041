use Rattle.stateful_bank_triple.proofs.Following.{keeps_following}
use Rattle.stateful_bank_triple.proofs.triple.compact_follows_amounts.Goals as goal

pub returns : goal.returns
returns c = keeps_following
