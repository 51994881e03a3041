use Rattle.std.proofs.Common.{◌≡◌, ℕ, List, [], ◌∷◌, ◌++◌, ap, map}
use Rattle.stateful_durability.specs.Durability.{Coverage}
use Rattle.stateful_durability.specs.Shown.{coverage, pair_of}
use Rattle.stateful_durability.proofs.Receipts.{push_fields, push_adds}
use Rattle.stateful_durability.proofs.Order.{push_keeps_order}
use Rattle.stateful_durability.proofs.durability.Durability.record.Goals as goal

pub returns-clause-held : goal.returns-clause-held
returns-clause-held c =
    let e = push_fields c.self.inside.held.items c.push_back.new.self.items _ c.in_ok-push_back.ensures.items in
    rw (← c.self.view_is) (ap (λ (held : List (ℕ × ℕ)). record (coverage c.self.inside.durable c.self.inside.applied c.self.inside.oldest c.self.inside.newer c.self.inside.held.items) { held = held }) e)

pub returns-clause-in_order : goal.returns-clause-in_order
returns-clause-in_order c =
    rw (returns-clause-held c) (push_keeps_order c.args.self.now c.args.height.0 c.args.ticket (rw c.self.view_is at c.self.invariant.in_order) c.requires.last)

pub invariant_of-self-2 : goal.invariant_of-self-2
invariant_of-self-2 c = record { oldest_first = c.self.invariant.oldest_first; in_order = returns-clause-in_order c }

pub returns-clause-added : goal.returns-clause-added
returns-clause-added c =
    let held : map pair_of c.push_back.new.self.items ≡ c.args.self.now.held ++ (c.args.height.0, c.args.ticket) ∷ [] = ap (λ (v : Coverage). v.held) (returns-clause-held c) in
    rw held (push_adds c.args.self.now.held (c.args.height.0, c.args.ticket))
