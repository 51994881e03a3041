-- What becomes of the open barriers.
use Rattle.std.proofs.Common.{◌≡◌, ℕ, zero, suc, ◌<◌, ◌≤◌, Option, Some, None, List, [], ◌∷◌, drop, refl, add-one, arith, length-drop}
use Rattle.std.specs.Prelude.{slice_get, unwrap_or}
use Rattle.std.specs.Option.{ForSome}
use Rattle.std.specs.List.Sorted.{IsStrictlyIncreasing}
use Rattle.std.proofs.lemmas.List.Elements.{All-drop}
use Rattle.std.proofs.lemmas.Option.{slice_get_within, get_or_from_slice_get}
use Rattle.stateful_base.specs.declared.number.Height.{Height}
use Rattle.stateful_durability.specs.declared.durability.Durability.TheInside.{Inside}
use Rattle.stateful_durability.specs.Shown.{open_barriers, coverage, IsSound}
use Rattle.stateful_durability.specs.Durability.{Coverage, IsInOrder, after_completion}

-- from the durable height on, heights ascend without the oldest barrier too
without_oldest_ascends : (durable : ℕ) (barriers : List ℕ) → IsStrictlyIncreasing (durable ∷ barriers) → IsStrictlyIncreasing (durable ∷ drop 1 barriers)
without_oldest_ascends durable [] ascends k within = ascends k within
without_oldest_ascends durable (oldest ∷ []) ascends k within = absurd (omega arith)
without_oldest_ascends durable (oldest ∷ next ∷ rest) ascends zero within =
    let first : durable < oldest = ascends 0 (omega arith) in
    let second : oldest < next = ascends 1 (omega arith) in
    omega arith
without_oldest_ascends durable (oldest ∷ next ∷ rest) ascends (suc k) within =
    rw (add-one (suc k)) (rw (add-one (suc (suc k))) at (ascends (suc (suc k)) (omega arith)))

-- and those of the others ascend from the oldest on
from_oldest_ascends : (durable height : ℕ) (barriers : List ℕ) → slice_get barriers 0 ≡ Some height → IsStrictlyIncreasing (durable ∷ barriers) → IsStrictlyIncreasing (height ∷ drop 1 barriers)
from_oldest_ascends durable height [] is ascends = cc
from_oldest_ascends durable height (oldest ∷ rest) is ascends =
    let same : oldest ≡ height = cc in
    rw (← same) (λ k within. rw (add-one k) (rw (add-one (suc k)) at (ascends (suc k) (omega arith))))

-- the height of the oldest was applied
oldest_was_applied : (c : Coverage) (height : ℕ) → IsInOrder c → slice_get c.barriers 0 ≡ Some height → height ≤ c.applied
oldest_was_applied c height order is =
    let within = slice_get_within c.barriers 0 height is in
    rw (get_or_from_slice_get c.barriers 0 height height is) at (order.barriers_applied 0 height within)

-- all stays in order once the oldest barrier is over
pub completion_keeps_order : (c : Coverage) (completion : Option Height) → IsInOrder c → ForSome completion (λ height. slice_get c.barriers 0 ≡ Some height.0) → IsInOrder (after_completion c completion)
completion_keeps_order c None order its = record {
  durable = order.durable;
  at_most_two = omega (arith, length-drop 1 c.barriers, order.at_most_two);
  barriers_ascend = without_oldest_ascends c.durable c.barriers order.barriers_ascend;
  barriers_applied = All-drop (λ height. height ≤ c.applied) 1 c.barriers order.barriers_applied;
  ascending = order.ascending;
  applied = order.applied;
}
completion_keeps_order c (Some height) order its = record {
  durable = oldest_was_applied c height.0 order (its height refl);
  at_most_two = omega (arith, length-drop 1 c.barriers, order.at_most_two);
  barriers_ascend = from_oldest_ascends c.durable height.0 c.barriers (its height refl) order.barriers_ascend;
  barriers_applied = All-drop (λ height. height ≤ c.applied) 1 c.barriers order.barriers_applied;
  ascending = order.ascending;
  applied = order.applied;
}

-- what the fields show as open without the oldest barrier
rest_is_open : (oldest newer : Option Height) → (oldest ≡ None → newer ≡ None) → open_barriers newer None ≡ drop 1 (open_barriers oldest newer)
rest_is_open None None first = refl
rest_is_open None (Some newer) first = let none = first refl in cc
rest_is_open (Some oldest) None first = refl
rest_is_open (Some oldest) (Some newer) first = refl

-- the fields stay sound then
pub completion_keeps_sound : (a : Inside) (completion oldest newer : Option Height) → IsSound a.oldest a.newer (coverage a.durable a.applied a.oldest a.newer a.held.items) → ForSome completion (λ height. slice_get (open_barriers a.oldest a.newer) 0 ≡ Some height.0) → oldest ≡ a.newer → newer ≡ None → IsSound oldest newer (coverage (unwrap_or completion a.durable) a.applied oldest newer a.held.items)
completion_keeps_sound a None oldest newer sound its is none = rw (is, none) (record {
  oldest_first = λ _. refl;
  in_order = rw (rest_is_open a.oldest a.newer sound.oldest_first) (completion_keeps_order (coverage a.durable a.applied a.oldest a.newer a.held.items) None sound.in_order its);
})
completion_keeps_sound a (Some height) oldest newer sound its is none = rw (is, none) (record {
  oldest_first = λ _. refl;
  in_order = rw (rest_is_open a.oldest a.newer sound.oldest_first) (completion_keeps_order (coverage a.durable a.applied a.oldest a.newer a.held.items) (Some height) sound.in_order its);
})
