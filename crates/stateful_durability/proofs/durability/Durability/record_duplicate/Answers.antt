use Rattle.std.proofs.Common.{◌≡◌, ℕ, List, length, sym, ap, ◌∙◌, map}
use Rattle.stateful_durability.specs.Durability.{Coverage, receipts_up_to, with_duplicate}
use Rattle.stateful_durability.specs.Shown.{coverage, pair_of}
use Rattle.stateful_durability.proofs.Receipts.{with_duplicate_fields, with_duplicate_adds}
use Rattle.stateful_durability.proofs.Order.{with_duplicate_keeps_order}
use Rattle.stateful_durability.proofs.durability.Durability.record_duplicate.Goals as goal

-- what is held afterwards
pub returns-clause-held : goal.returns-clause-held
returns-clause-held c =
    let e = with_duplicate_fields c.self.inside.held.items c.insert.new.self.items c.args.height.0 c.args.ticket _ c.self.invariant.in_order.ascending (c.count_up_to-place.ensures.count ∙ ap (λ (v : Coverage). length (receipts_up_to c.args.height.0 v.held)) (sym c.self.view_is)) c.in_ok-insert.ensures.items in
    rw (← c.self.view_is) (ap (λ (held : List (ℕ × ℕ)). record (coverage c.self.inside.durable c.self.inside.applied c.self.inside.oldest c.self.inside.newer c.self.inside.held.items) { held = held }) e)

pub returns-clause-in_order : goal.returns-clause-in_order
returns-clause-in_order c =
    rw (returns-clause-held c) (with_duplicate_keeps_order c.args.self.now c.args.height.0 c.args.ticket (rw c.self.view_is at c.self.invariant.in_order) c.requires)

pub invariant_of-self-2 : goal.invariant_of-self-2
invariant_of-self-2 c = record { oldest_first = c.self.invariant.oldest_first; in_order = returns-clause-in_order c }

pub returns-clause-added : goal.returns-clause-added
returns-clause-added c =
    let held : map pair_of c.insert.new.self.items ≡ with_duplicate c.args.self.now.held c.args.height.0 c.args.ticket = ap (λ (v : Coverage). v.held) (returns-clause-held c) in
    rw held (with_duplicate_adds c.args.self.now.held c.args.height.0 c.args.ticket)
