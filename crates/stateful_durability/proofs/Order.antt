-- What keeps the receipts in order.
use Rattle.std.proofs.Common.{◌≡◌, ℕ, ◌+◌, ◌-◌, ◌<◌, ◌≤◌, ltb, leb, List, [], ◌∷◌, ◌++◌, length, get_or, sym, ap, ◌∙◌, ⊎_elim, ◌⊎◌, arith, length-append}
use Rattle.std.specs.Prelude.{Any}
use Rattle.std.specs.List.Sorted.{IsNonDecreasingBy}
use Rattle.std.proofs.lemmas.List.{get_or_append_left, get_or-append-add}
use Rattle.std.proofs.lemmas.List.Elements.{All-tail, All-cons, All-push, filter_passes}
use Rattle.std.proofs.lemmas.List.Sorted.{IsNonDecreasingBy-insert, IsNonDecreasingBy-push, IsNonDecreasingBy-drop, All-permutation}
use Rattle.std.proofs.lemmas.Bool.{leb-true, ltb-true}
use Rattle.stateful_durability.specs.Durability.{Coverage, IsInOrder, receipts_up_to, receipts_above, with_duplicate}
use Rattle.stateful_durability.proofs.Receipts.{in_front, with_duplicate_is, with_duplicate_adds}

-- as many in front as are of heights up to one are of no later height
no_later : (height : ℕ) (held : List (ℕ × ℕ)) → IsNonDecreasingBy (λ receipt. receipt.0) held → (k : ℕ) (d : ℕ × ℕ) → k < length (receipts_up_to height held) → (get_or held k d).0 ≤ height
no_later height held ascending k d within =
    let same : get_or held k d ≡ get_or (receipts_up_to height held) k d =
    ap (λ xs. get_or xs k d) (sym (in_front height held ascending)) ∙ get_or_append_left (receipts_up_to height held) (receipts_above height held) d k within in
    rw same (leb-true _ _ (filter_passes (λ receipt. leb receipt.0 height) held k d within))

-- those behind them are of no earlier one
no_earlier : (height : ℕ) (held : List (ℕ × ℕ)) → IsNonDecreasingBy (λ receipt. receipt.0) held → (k : ℕ) (d : ℕ × ℕ) → length (receipts_up_to height held) ≤ k → k < length held → height ≤ (get_or held k d).0
no_earlier height held ascending k d behind within =
    let n = k - length (receipts_up_to height held) in
    let long = ap length (in_front height held ascending) in
    let within' : n < length (receipts_above height held) = omega (arith, length-append (receipts_up_to height held) (receipts_above height held)) in
    let at : length (receipts_up_to height held) + n ≡ k = omega arith in
    let same : get_or held k d ≡ get_or (receipts_above height held) n d =
    ap (λ xs. get_or xs k d) (sym (in_front height held ascending))
    ∙ ap (λ i. get_or (receipts_up_to height held ++ receipts_above height held) i d) (sym at)
    ∙ get_or-append-add (receipts_up_to height held) (receipts_above height held) n d in
    let later : height < (get_or (receipts_above height held) n d).0 = ltb-true _ _ (filter_passes (λ receipt. ltb height receipt.0) held n d within') in
    rw same (omega arith)

-- with a receipt that stands behind those of its height, heights still ascend
with_duplicate_ascends : (held : List (ℕ × ℕ)) (height ticket : ℕ) → IsNonDecreasingBy (λ receipt. receipt.0) held → IsNonDecreasingBy (λ receipt. receipt.0) (with_duplicate held height ticket)
with_duplicate_ascends held height ticket ascending =
    let long = ap length (in_front height held ascending) in
    rw (← with_duplicate_is held height ticket ascending)
    (IsNonDecreasingBy-insert (λ receipt. receipt.0) held (length (receipts_up_to height held)) (height, ticket) ascending
    (omega (arith, length-append (receipts_up_to height held) (receipts_above height held)))
    (no_later height held ascending)
    (no_earlier height held ascending))

-- what is durable or has a receipt was applied
was_applied : (c : Coverage) (height : ℕ) → IsInOrder c → (height ≤ c.durable) ⊎ Any (λ receipt. receipt.0 ≡ height) c.held → height ≤ c.applied
was_applied c height order known = ⊎_elim
    (λ (durable : height ≤ c.durable). omega (arith, order.durable))
    (λ (held : Any (λ receipt. receipt.0 ≡ height) c.held).
    let at = order.applied held.0 held.1 held.2 in
    let same : (get_or c.held held.0 held.1).0 ≡ height = rw held.3 held.4 in
    omega arith)
    known

-- all stays in order with a duplicate,
pub with_duplicate_keeps_order : (c : Coverage) (height ticket : ℕ) → IsInOrder c → (height ≤ c.durable) ⊎ Any (λ receipt. receipt.0 ≡ height) c.held → IsInOrder (record c { held = with_duplicate c.held height ticket })
with_duplicate_keeps_order c height ticket order known = record {
  durable = order.durable;
  at_most_two = order.at_most_two;
  barriers_ascend = order.barriers_ascend;
  barriers_applied = order.barriers_applied;
  ascending = with_duplicate_ascends c.held height ticket order.ascending;
  applied = All-permutation (λ receipt. receipt.0 ≤ c.applied) _ _ (with_duplicate_adds c.held height ticket) (All-cons (λ receipt. receipt.0 ≤ c.applied) (height, ticket) c.held (was_applied c height order known) order.applied);
}

-- with a receipt of the last applied height behind all others,
pub push_keeps_order : (c : Coverage) (height ticket : ℕ) → IsInOrder c → height ≡ c.applied → IsInOrder (record c { held = c.held ++ (height, ticket) ∷ [] })
push_keeps_order c height ticket order last = record {
  durable = order.durable;
  at_most_two = order.at_most_two;
  barriers_ascend = order.barriers_ascend;
  barriers_applied = order.barriers_applied;
  ascending = IsNonDecreasingBy-push (λ receipt. receipt.0) c.held (height, ticket) order.ascending (λ d some. rw last (order.applied (length c.held - 1) d (omega arith)));
  applied = All-push (λ receipt. receipt.0 ≤ c.applied) c.held (height, ticket) order.applied (omega arith);
}

-- and without the front one
pub rest_keeps_order : (c : Coverage) (receipt : ℕ × ℕ) (rest : List (ℕ × ℕ)) → c.held ≡ receipt ∷ rest → IsInOrder c → IsInOrder (record c { held = rest })
rest_keeps_order c receipt rest front order = record {
  durable = order.durable;
  at_most_two = order.at_most_two;
  barriers_ascend = order.barriers_ascend;
  barriers_applied = order.barriers_applied;
  ascending = IsNonDecreasingBy-drop (λ receipt. receipt.0) 1 (receipt ∷ rest) (rw front at order.ascending);
  applied = All-tail (λ receipt. receipt.0 ≤ c.applied) receipt rest (rw front at order.applied);
}
