use Rattle.std.proofs.Common.{ℕ, Some, None}
use Rattle.std.proofs.lemmas.List.Kept.{IsNonDecreasingBy-filter}
use Rattle.stateful_durability.proofs.Laws.{releases_covered}
use Rattle.stateful_durability.proofs.Barriers.{completion_keeps_sound}
use Rattle.stateful_durability.proofs.durability.Durability.complete.Goals as goal

pub invariant_of-self : goal.invariant_of-self
invariant_of-self c =
    let its = rw (c.in-Some.is, ← c.self.view_is) at c.requires.oldest in
    completion_keeps_sound c.self.inside (Some c.in-Some.height) _ _ c.self.invariant its c.take-self-inside.ensures.value c.take-self-inside.ensures.after

pub invariant_of-self-in-None : goal.invariant_of-self-in-None
invariant_of-self-in-None c =
    let its = rw (c.in-None.is, ← c.self.view_is) at c.requires.oldest in
    completion_keeps_sound c.self.inside None _ _ c.self.invariant its c.take-self-inside.ensures.value c.take-self-inside.ensures.after

pub returns-in-Some-clause-in_order : goal.returns-in-Some-clause-in_order
returns-in-Some-clause-in_order c =
    let its = rw (c.in-Some.is, ← c.self.view_is) at c.requires.oldest in
    (completion_keeps_sound c.self.inside (Some c.in-Some.height) _ _ c.self.invariant its c.take-self-inside.ensures.value c.take-self-inside.ensures.after).in_order

pub returns-in-None-clause-in_order : goal.returns-in-None-clause-in_order
returns-in-None-clause-in_order c = (invariant_of-self-in-None c).in_order

pub returns-in-Some-clause-released : goal.returns-in-Some-clause-released
returns-in-Some-clause-released c = rw (c.in-Some.is, ← c.self.view_is) (releases_covered _)

pub returns-in-Some-clause-ascending : goal.returns-in-Some-clause-ascending
returns-in-Some-clause-ascending c =
    rw (c.in-Some.is, ← c.self.view_is) (IsNonDecreasingBy-filter (λ (receipt : ℕ × ℕ). receipt.0) _ _ c.self.invariant.in_order.ascending)
