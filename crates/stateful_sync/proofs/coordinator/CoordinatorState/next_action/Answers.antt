use Rattle.std.proofs.Common.{◌≡◌, ◌+◌, ◌-◌, ◌^◌, true, map, refl, ap, ◌∙◌, inl, inr, arith}
use Rattle.std.specs.Vec.{with_items}
use Rattle.std.proofs.lemmas.List.{with_items_is}
use Rattle.stateful_sync.specs.Assigned.{unless_reached, unless_assigned}
use Rattle.stateful_sync.specs.Coordinator.{converges, waits}
use Rattle.stateful_sync.specs.declared.action.DbSyncState.TheVariants.{Seeking}
use Rattle.stateful_sync.proofs.Order.{acts_in_order, acts_together, acts_apart, acts_on_the_way, apart_needs_none}
use Rattle.stateful_sync.proofs.coordinator.CoordinatorState.next_action.Goals as goal

pub returns-in_ok-self-inside-in-Together-Some-clause-acts : goal.returns-in_ok-self-inside-in-Together-Some-clause-acts
returns-in_ok-self-inside-in-Together-Some-clause-acts g c =
    let generation = c.in_ok-self-inside-in-Together-Some.field-0 in
    let items : (with_items c.self.inside.databases c.send_all.new.databases).items ≡ map (λ d. Seeking generation.number) c.self.inside.databases.items =
    with_items_is c.self.inside.databases c.send_all.new.databases (omega arith) ∙ c.send_all.ensures ∙ ap (map (λ d. Seeking generation.number)) c.deref_mut.ensures.value in
    let stand = rw c.deref.ensures.value at c.in-Together-Some.ensures in
    rw (← c.self.view_is, c.dispatch.ensures)
    (acts_together (record { databases = c.self.inside.databases.items; newest = c.self.inside.newest; pending = c.self.inside.pending }) c.in-Together-Some.tip _ generation stand c.in-Together-Some.is-1 c.in_ok-self-inside-in-Together-Some.ensures.next items)

pub returns-in-Together-None-clause-acts : goal.returns-in-Together-None-clause-acts
returns-in-Together-None-clause-acts g c =
    let stand = rw c.deref.ensures.value at c.in-Together-None.ensures in
    rw (← c.self.view_is, c.converge.ensures) (converges {g = c.self.inside.newest.number} stand c.in-Together-None.is-1)

pub returns-in-Apart-default-clause-acts : goal.returns-in-Apart-default-clause-acts
returns-in-Apart-default-clause-acts g c =
    let items : (with_items c.self.inside.databases c.regroup.new.databases).items ≡ map (unless_assigned c.self.inside.newest.number) c.self.inside.databases.items =
    with_items_is c.self.inside.databases c.regroup.new.databases (omega arith) ∙ c.regroup.ensures ∙ ap (map (unless_assigned c.self.inside.newest.number)) c.deref_mut-in-Apart-default.ensures.value in
    let stand = rw c.deref.ensures.value at c.in-Apart-default.ensures in
    rw (← c.self.view_is, c.dispatch-in-Apart-default.ensures)
    (acts_apart (record { databases = c.self.inside.databases.items; newest = c.self.inside.newest; pending = c.self.inside.pending }) _ c.self.invariant.0 stand items)

pub returns-in_ok-self-inside-in-OnTheWay-Some-clause-acts : goal.returns-in_ok-self-inside-in-OnTheWay-Some-clause-acts
returns-in_ok-self-inside-in-OnTheWay-Some-clause-acts g c =
    let generation = c.in_ok-self-inside-in-OnTheWay-Some.field-0 in
    let items : (with_items c.self.inside.databases c.send_seeking.new.databases).items ≡ map (unless_reached generation.number) c.self.inside.databases.items =
    with_items_is c.self.inside.databases c.send_seeking.new.databases (omega arith) ∙ c.send_seeking.ensures ∙ ap (map (unless_reached generation.number)) c.deref_mut-in-OnTheWay-Some.ensures.value in
    let stand = rw c.deref.ensures.value at c.in-OnTheWay-Some.ensures in
    rw (← c.self.view_is, c.dispatch-in-OnTheWay-Some.ensures)
    (acts_on_the_way (record { databases = c.self.inside.databases.items; newest = c.self.inside.newest; pending = c.self.inside.pending }) c.in-OnTheWay-Some.tip _ generation stand c.in-OnTheWay-Some.is-1 c.in_ok-self-inside-in-OnTheWay-Some.ensures.next items)

pub returns-in-OnTheWay-None-clause-acts : goal.returns-in-OnTheWay-None-clause-acts
returns-in-OnTheWay-None-clause-acts g c =
    let stand = rw c.deref.ensures.value at c.in-OnTheWay-None.ensures in
    rw (← c.self.view_is) (waits stand c.in-OnTheWay-None.is-1)

-- what it leaves is in order
pub returns-in_ok-self-inside-in-Together-Some-clause-in_order : goal.returns-in_ok-self-inside-in-Together-Some-clause-in_order
returns-in_ok-self-inside-in-Together-Some-clause-in_order g c =
    acts_in_order _ _ _ (returns-in_ok-self-inside-in-Together-Some-clause-acts g c) (rw c.self.view_is at c.self.invariant.0)

pub returns-in-Apart-default-clause-in_order : goal.returns-in-Apart-default-clause-in_order
returns-in-Apart-default-clause-in_order g c =
    acts_in_order _ _ _ (returns-in-Apart-default-clause-acts g c) (rw c.self.view_is at c.self.invariant.0)

pub returns-in_ok-self-inside-in-OnTheWay-Some-clause-in_order : goal.returns-in_ok-self-inside-in-OnTheWay-Some-clause-in_order
returns-in_ok-self-inside-in-OnTheWay-Some-clause-in_order g c =
    acts_in_order _ _ _ (returns-in_ok-self-inside-in-OnTheWay-Some-clause-acts g c) (rw c.self.view_is at c.self.invariant.0)

pub invariant_of-self : goal.invariant_of-self
invariant_of-self g c = (returns-in_ok-self-inside-in-Together-Some-clause-in_order g c, c.in_ok-self-inside-in-Together-Some.ensures.numbered)

pub invariant_of-self-in-Apart-default : goal.invariant_of-self-in-Apart-default
invariant_of-self-in-Apart-default g c = (returns-in-Apart-default-clause-in_order g c, c.self.invariant.1)

pub invariant_of-self-in-OnTheWay-Some : goal.invariant_of-self-in-OnTheWay-Some
invariant_of-self-in-OnTheWay-Some g c = (returns-in_ok-self-inside-in-OnTheWay-Some-clause-in_order g c, c.in_ok-self-inside-in-OnTheWay-Some.ensures.numbered)

-- it is refused exactly where no number is left
pub returns-in_err-self-inside-in-Together-Some-clause-exhausted : goal.returns-in_err-self-inside-in-Together-Some-clause-exhausted
returns-in_err-self-inside-in-Together-Some-clause-exhausted g c =
    let stand = rw c.deref.ensures.value at c.in-Together-Some.ensures in
    let last : c.self.inside.newest.number + 1 ≡ 2 ^ 64 - 1 = c.in_err-self-inside-in-Together-Some.ensures.exhausted.0 (refl {a = true}) in
    rw (← c.self.view_is)
    (λ e. (last, record { tip = c.in-Together-Some.tip; pending = c.in-Together-Some.is-1; case = inl (c.self.inside.newest.number, stand) }), λ h. c.from_residual.ensures.0)

pub returns-in_err-self-inside-in-OnTheWay-Some-clause-exhausted : goal.returns-in_err-self-inside-in-OnTheWay-Some-clause-exhausted
returns-in_err-self-inside-in-OnTheWay-Some-clause-exhausted g c =
    let stand = rw c.deref.ensures.value at c.in-OnTheWay-Some.ensures in
    let last : c.self.inside.newest.number + 1 ≡ 2 ^ 64 - 1 = c.in_err-self-inside-in-OnTheWay-Some.ensures.exhausted.0 (refl {a = true}) in
    rw (← c.self.view_is)
    (λ e. (last, record { tip = c.in-OnTheWay-Some.tip; pending = c.in-OnTheWay-Some.is-1; case = inr stand }), λ h. c.from_residual-in_err-self-inside-in-OnTheWay-Some.ensures.0)

pub returns-in-Apart-default-clause-exhausted : goal.returns-in-Apart-default-clause-exhausted
returns-in-Apart-default-clause-exhausted g c =
    let stand = rw c.deref.ensures.value at c.in-Apart-default.ensures in
    rw (← c.self.view_is)
    (λ e. absurd (cc), λ h. absurd (apart_needs_none _ c.self.invariant.0 stand h.1))
