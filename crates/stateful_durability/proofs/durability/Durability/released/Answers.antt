use Rattle.std.proofs.Common.{rules, ◌<◌, ap, map}
use Rattle.stateful_durability.specs.Shown.{coverage, pair_of}
use Rattle.stateful_durability.proofs.Receipts.{all_behind_later, receipts_up_to_none, front_is_lowest}
use Rattle.stateful_durability.proofs.Order.{rest_keeps_order}
use Rattle.stateful_durability.proofs.durability.Durability.released.Goals as goal

pub returns-then-gt-clause-none : goal.returns-then-gt-clause-none
returns-then-gt-clause-none c =
    let later : c.self.inside.durable.0 < c.in_ok-front.front.now.height.0 = search rules in
    rw (← c.self.view_is) (all_behind_later c.self.inside.durable.0 c.self.inside.held.items c.in_ok-front.front.now c.self.invariant.in_order.ascending (search rules) c.in_ok-front.ensures.lookup later)

pub returns-then-gt-clause-covered : goal.returns-then-gt-clause-covered
returns-then-gt-clause-covered c = receipts_up_to_none c.args.self.now.durable c.args.self.now.held (returns-then-gt-clause-none c)

pub returns-clause-in_order : goal.returns-clause-in_order
returns-clause-in_order c =
    rest_keeps_order (coverage c.self.inside.durable c.self.inside.applied c.self.inside.oldest c.self.inside.newer c.self.inside.held.items) (pair_of c.in_ok-receipt.receipt) (map pair_of c.pop_front.new.self.items) (ap (map pair_of) c.in_ok-receipt.ensures.items) c.self.invariant.in_order

pub invariant_of-self-2 : goal.invariant_of-self-2
invariant_of-self-2 c = record { oldest_first = c.self.invariant.oldest_first; in_order = returns-clause-in_order c }

pub returns-clause-lowest : goal.returns-clause-lowest
returns-clause-lowest c =
    front_is_lowest (pair_of c.in_ok-receipt.receipt) (map pair_of c.pop_front.new.self.items) (rw c.in_ok-receipt.ensures.items at c.self.invariant.in_order.ascending)
