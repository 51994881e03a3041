use Rattle.std.proofs.Common.{◌≡◌, Some, None, ◌∙◌}
use Rattle.stateful_table.specs.Table.{at}
use Rattle.stateful_table.proofs.Tables.{without_none}
use Rattle.stateful_p2p_tables.proofs.Indexing.{left_listed}
use Rattle.stateful_p2p_tables.proofs.subscriptions.Subscriptions.remove.Goals as goal

-- src/subscriptions.rt:86:19
pub invariant_of-self : goal.invariant_of-self
invariant_of-self c key t =
    let was = c.in_err-key.was in
    let value = c.remove.ensures.value in
    let none : at c.self.inside.keys c.args.ticket ≡ None = cc in
    let same = c.remove.ensures.others ∙ without_none c.self.inside.keys c.args.ticket none in
    rw (same) (c.self.invariant key t)

-- src/subscriptions.rt:82:5
pub invariant_of-self-2 : goal.invariant_of-self-2
invariant_of-self-2 c key t =
    let was = c.in_ok-key.was in
    let value = c.remove.ensures.value in
    let there : at c.self.inside.keys c.args.ticket ≡ Some c.in_ok-key.key = cc in
    rw (c.remove.ensures.others) (left_listed _ c.self.inside.index.tickets c.unlist.new.self.tickets c.self.inside.keys c.args.ticket c.in_ok-key.key c.self.invariant there c.unlist.ensures key t)
