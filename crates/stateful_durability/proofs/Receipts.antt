-- Receipts by ascending heights.
use Rattle.std.proofs.Common.{◌≡◌, ℕ, zero, suc, ◌<◌, ◌≤◌, true, false, not, ltb, leb, List, [], ◌∷◌, ◌++◌, length, get_or, take, drop, map, refl, sym, ap, ◌∙◌, ⊎_elim, arith}
use Rattle.std.specs.Prelude.{All}
use Rattle.std.specs.List.{insert}
use Rattle.std.specs.List.Sorted.{IsNonDecreasingBy, IsPermutation}
use Rattle.std.proofs.Math.Seq.{take-append_seam, drop-append_seam}
use Rattle.std.proofs.lemmas.List.{get_or-map, length-map, map-append, take-map, drop-map}
use Rattle.std.proofs.lemmas.List.Elements.{All-head, All-tail}
use Rattle.std.proofs.lemmas.List.Sorted.{IsNonDecreasingBy-drop, IsPermutation-filter_both, IsPermutation-cons, IsPermutation-middle, IsPermutation-to_front, IsPermutation-sym, IsPermutation-trans}
use Rattle.std.proofs.lemmas.Bool.{lt-leb, lt-ltb, le-ltb}
use Rattle.std.proofs.lemmas.Bool.Decides.{leb_tells}
use Rattle.stateful_durability.specs.Durability.{receipts_up_to, receipts_above, with_duplicate}
use Rattle.stateful_durability.specs.declared.durability.Receipt.{Receipt}
use Rattle.stateful_durability.specs.Shown.{pair_of}

-- a receipt is of a later height exactly where it isn't of one up to it
later_or_not : (height : ℕ) (receipt : ℕ × ℕ) → ltb height receipt.0 ≡ not (leb receipt.0 height)
later_or_not height receipt = ⊎_elim
    (λ (t : (leb receipt.0 height ≡ true) × (receipt.0 ≤ height)). rw (t.0, le-ltb height receipt.0 t.1) refl)
    (λ (f : (leb receipt.0 height ≡ false) × (height < receipt.0)). rw (f.0, lt-ltb height receipt.0 f.1) refl)
    (leb_tells receipt.0 height)

-- where all are of later heights, none is of one up to it
pub receipts_up_to_none : (height : ℕ) (held : List (ℕ × ℕ)) → All (λ receipt. height < receipt.0) held → receipts_up_to height held ≡ []
receipts_up_to_none height [] later = refl
receipts_up_to_none height (r ∷ rs) later =
    rw (lt-leb r.0 height (All-head (λ receipt. height < receipt.0) r rs later)) (receipts_up_to_none height rs (All-tail (λ receipt. height < receipt.0) r rs later))

-- where all are of later heights, all stay
receipts_above_all : (height : ℕ) (held : List (ℕ × ℕ)) → All (λ receipt. height < receipt.0) held → receipts_above height held ≡ held
receipts_above_all height [] later = refl
receipts_above_all height (r ∷ rs) later =
    rw (lt-ltb height r.0 (All-head (λ receipt. height < receipt.0) r rs later)) (ap (λ xs. r ∷ xs) (receipts_above_all height rs (All-tail (λ receipt. height < receipt.0) r rs later)))

-- where the first is of a later height, all are
all_later : (height : ℕ) (r : ℕ × ℕ) (rs : List (ℕ × ℕ)) → IsNonDecreasingBy (λ receipt. receipt.0) (r ∷ rs) → height < r.0 → All (λ receipt. height < receipt.0) (r ∷ rs)
all_later height r rs ascending later k d within = omega (arith, ascending 0 k d (omega arith) within)

-- where receipts stand by ascending heights, those of heights up to one stand in front
pub in_front : (height : ℕ) (held : List (ℕ × ℕ)) → IsNonDecreasingBy (λ receipt. receipt.0) held → receipts_up_to height held ++ receipts_above height held ≡ held
in_front height [] ascending = refl
in_front height (r ∷ rs) ascending = ⊎_elim
    (λ (t : (leb r.0 height ≡ true) × (r.0 ≤ height)).
    rw (t.0, le-ltb height r.0 t.1) (ap (λ xs. r ∷ xs) (in_front height rs (IsNonDecreasingBy-drop (λ receipt. receipt.0) 1 (r ∷ rs) ascending))))
    (λ (f : (leb r.0 height ≡ false) × (height < r.0)).
    let later = all_later height r rs ascending f.1 in
    rw (receipts_up_to_none height (r ∷ rs) later, receipts_above_all height (r ∷ rs) later) refl)
    (leb_tells r.0 height)

-- the receipts of the fields stand by ascending heights too
pub ascending_fields : (items : List Receipt) → IsNonDecreasingBy (λ receipt. receipt.0) (map pair_of items) → IsNonDecreasingBy (λ (r : Receipt). r.height.0) items
ascending_fields items ascending i j d before within =
    let at_i : get_or (map pair_of items) i (pair_of d) ≡ pair_of (get_or items i d) = get_or-map pair_of items i d (pair_of d) (omega arith) in
    let at_j : get_or (map pair_of items) j (pair_of d) ≡ pair_of (get_or items j d) = get_or-map pair_of items j d (pair_of d) within in
    let le = ascending i j (pair_of d) before (omega (arith, length-map items pair_of)) in
    rw (at_i, at_j) at le

-- the place before which receipts are of heights up to one is their number
pub place_counts : (height : ℕ) (items : List Receipt) (i : ℕ) → i ≤ length items → ((k : ℕ) (d : Receipt) → 0 ≤ k → k < i → leb (get_or items k d).height.0 height ≡ true) → ((k : ℕ) (d : Receipt) → i ≤ k → k < length items → leb (get_or items k d).height.0 height ≡ false) → length (receipts_up_to height (map pair_of items)) ≡ i
place_counts height [] i within front behind = omega arith
place_counts height (r ∷ rs) zero within front behind =
    rw (behind 0 r (omega arith) (omega arith)) (place_counts height rs zero (omega arith) (λ k d a b. absurd (omega arith)) (λ k d a b. behind (suc k) d (omega arith) (omega arith)))
place_counts height (r ∷ rs) (suc i) within front behind =
    rw (front 0 r (omega arith) (omega arith)) (ap suc (place_counts height rs i (omega arith) (λ k d a b. front (suc k) d (omega arith) (omega arith)) (λ k d a b. behind (suc k) d (omega arith) (omega arith))))

-- an insert at that place
pub with_duplicate_is : (held : List (ℕ × ℕ)) (height ticket : ℕ) → IsNonDecreasingBy (λ receipt. receipt.0) held → insert held (length (receipts_up_to height held)) (height, ticket) ≡ with_duplicate held height ticket
with_duplicate_is held height ticket ascending =
    let front : take (length (receipts_up_to height held)) held ≡ receipts_up_to height held =
    ap (take (length (receipts_up_to height held))) (sym (in_front height held ascending)) ∙ take-append_seam (receipts_up_to height held) (receipts_above height held) in
    let behind : drop (length (receipts_up_to height held)) held ≡ receipts_above height held =
    ap (drop (length (receipts_up_to height held))) (sym (in_front height held ascending)) ∙ drop-append_seam (receipts_up_to height held) (receipts_above height held) in
    rw (front, behind) refl

-- an insert into the fields
map_insert : (items : List Receipt) (i : ℕ) (x : Receipt) → map pair_of (insert items i x) ≡ insert (map pair_of items) i (pair_of x)
map_insert items i x =
    map-append pair_of (take i items) (x ∷ drop i items) ∙ rw (take-map pair_of i items, drop-map pair_of i items) refl

-- an insert into the fields at that place
pub with_duplicate_fields : (items new : List Receipt) (height ticket place : ℕ) → IsNonDecreasingBy (λ receipt. receipt.0) (map pair_of items) → place ≡ length (receipts_up_to height (map pair_of items)) → new ≡ insert items place (record { height = record { 0 = height }; ticket = ticket }) → map pair_of new ≡ with_duplicate (map pair_of items) height ticket
with_duplicate_fields items new height ticket place ascending at is =
    ap (map pair_of) is
    ∙ map_insert items place (record { height = record { 0 = height }; ticket = ticket })
    ∙ ap (λ i. insert (map pair_of items) i (height, ticket)) at
    ∙ with_duplicate_is (map pair_of items) height ticket ascending

-- one receipt more is held
pub with_duplicate_adds : (held : List (ℕ × ℕ)) (height ticket : ℕ) → IsPermutation ((height, ticket) ∷ held) (with_duplicate held height ticket)
with_duplicate_adds held height ticket =
    IsPermutation-trans _ _ _
    (IsPermutation-cons (height, ticket) held (receipts_up_to height held ++ receipts_above height held)
    (IsPermutation-filter_both (λ receipt. leb receipt.0 height) (λ receipt. ltb height receipt.0) (later_or_not height) held))
    (IsPermutation-sym _ _ (IsPermutation-middle (receipts_up_to height held) (height, ticket) (receipts_above height held)))

-- the same of a push
pub push_adds : (held : List (ℕ × ℕ)) (receipt : ℕ × ℕ) → IsPermutation (receipt ∷ held) (held ++ receipt ∷ [])
push_adds held receipt = IsPermutation-sym _ _ (IsPermutation-to_front held receipt)

-- where the front receipt of the fields is of a later height, all are
pub all_behind_later : (height : ℕ) (items : List Receipt) (front : Receipt) → IsNonDecreasingBy (λ receipt. receipt.0) (map pair_of items) → 0 < length items → front ≡ get_or items 0 front → height < front.height.0 → All (λ receipt. height < receipt.0) (map pair_of items)
all_behind_later height [] front ascending some is later = absurd (omega arith)
all_behind_later height (r ∷ rs) front ascending some is later =
    all_later height (pair_of r) (map pair_of rs) ascending (rw is at later)

-- a push onto the fields
pub push_fields : (items new : List Receipt) (receipt : Receipt) → new ≡ items ++ receipt ∷ [] → map pair_of new ≡ map pair_of items ++ pair_of receipt ∷ []
push_fields items new receipt is = ap (map pair_of) is ∙ map-append pair_of items (receipt ∷ [])

-- the front receipt is of no higher height than the others
pub front_is_lowest : (receipt : ℕ × ℕ) (rest : List (ℕ × ℕ)) → IsNonDecreasingBy (λ r. r.0) (receipt ∷ rest) → All (λ other. receipt.0 ≤ other.0) rest
front_is_lowest receipt rest ascending k d within = ascending 0 (suc k) d (omega arith) (omega arith)
