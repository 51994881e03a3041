use Rattle.stateful_types.proofs.Orders.{keeps_order}
use Rattle.stateful_types.proofs.mailbox.Bounded+T+T+Overflow.new.Goals as goal

pub returns-clause-order : goal.returns-clause-order
returns-clause-order g c = keeps_order g.T.Policy.kept _
