use Rattle.stateful_durability.proofs.Laws.{keeps_receipts}
use Rattle.stateful_durability.proofs.durability.Durability.new.Goals as goal

pub returns-clause-kept : goal.returns-clause-kept
returns-clause-kept c = keeps_receipts _
