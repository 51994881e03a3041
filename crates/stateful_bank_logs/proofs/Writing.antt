-- One write more, as operations.
use Rattle.std.proofs.Common.{◌≡◌, ℕ, ◌<◌, Bool, true, false, List, [], ◌∷◌, ◌++◌, Option, Some, None, refl, sym, ap, ◌∙◌, subst, arith}
use Rattle.std.specs.Ordering.{nat_cmp, match_ordering}
use Rattle.std.specs.declared.cmp.Ordering.{Ordering}
use Rattle.std.specs.declared.cmp.Ordering.TheVariants.{Less, Equal, Greater}
use Rattle.std.specs.List.{AllByRecursion}
use Rattle.std.specs.List.Sorted.{IsStrictlySortedBy}
use Rattle.std.specs.BTreeMap.{insert_entry}
use Rattle.std.specs.Map.{keys_of}
use Rattle.std.proofs.lemmas.Cmp.{ranked}
use Rattle.stateful_db_any.specs.declared.op.AnyOp.{AnyOp}
use Rattle.stateful_db_any.specs.declared.op.AnyOp.TheVariants.{Update, Delete}
use Rattle.stateful_db_any.specs.Any.{ops_for}
use Rattle.stateful_bank_logs.specs.Balances.{Writes, key_of, AreBeyond, IsInOrder}

Ops : Type 0
Ops = List (AnyOp ℕ ℕ)

-- two numbers, with what comparing them gives
data Compared (a b : ℕ) : Type 0 where
  IsLess : a < b → nat_cmp a b ≡ Less → Compared a b
  IsEqual : a ≡ b → nat_cmp a b ≡ Equal → Compared a b
  IsGreater : b < a → nat_cmp a b ≡ Greater → Compared a b

compared_by : (a b : ℕ) (o : Ordering) → o ≡ nat_cmp a b → Compared a b
compared_by a b Less e = IsLess (ranked a b Less e) (sym e)
compared_by a b Equal e = IsEqual (ranked a b Equal e) (sym e)
compared_by a b Greater e = IsGreater (ranked a b Greater e) (sym e)

compared : (a b : ℕ) → Compared a b
compared a b = compared_by a b (nat_cmp a b) refl

less : (a b : ℕ) → a < b → nat_cmp a b ≡ Less
less a b h = elim (compared a b) [
  | IsLess lt e ↦ e
  | IsEqual eq e ↦ absurd (omega arith)
  | IsGreater gt e ↦ absurd (omega arith)
]

-- the operations of one write
abbrev one : (ℕ → Bool) → ℕ → Option ℕ → List (AnyOp ℕ ℕ)
one live key value = ops_for live ((key, value) ∷ [])

-- operations with one write more
abbrev put : (ℕ → Bool) → ℕ → Option ℕ → List (AnyOp ℕ ℕ) → List (AnyOp ℕ ℕ)
put live key value [] = one live key value
put live key value (op ∷ ops) =
    match_ordering (nat_cmp key (key_of op)) (one live key value ++ op ∷ ops) (one live key value ++ ops) (op ∷ put live key value ops)

-- a write has an operation of its key, or none
data OneOf (live : ℕ → Bool) (key : ℕ) (value : Option ℕ) : Type 0 where
  HasOp : (op : AnyOp ℕ ℕ) → key_of op ≡ key → ((writes : Writes) → ops_for live ((key, value) ∷ writes) ≡ op ∷ ops_for live writes) → OneOf live key value
  HasNone : ((writes : Writes) → ops_for live ((key, value) ∷ writes) ≡ ops_for live writes) → OneOf live key value

one_of : (live : ℕ → Bool) (key : ℕ) (value : Option ℕ) → OneOf live key value
one_of live key (Some v) = HasOp (Update key v) refl (λ writes. refl)
one_of live key None = by (live key) refl
  where
    by : (b : Bool) → live key ≡ b → OneOf live key None
    by true e = HasOp (Delete key) refl (λ writes. rw e)
    by false e = HasNone (λ writes. rw e)

module _ (live : ℕ → Bool) where
  one-append : (key : ℕ) (value : Option ℕ) (writes : Writes) → ops_for live ((key, value) ∷ writes) ≡ one live key value ++ ops_for live writes
  one-append key value writes = elim (one_of live key value) [
    | HasOp op k is ↦ is writes ∙ sym (ap (λ (x : List (AnyOp ℕ ℕ)). x ++ ops_for live writes) (is []))
    | HasNone is ↦ is writes ∙ sym (ap (λ (x : List (AnyOp ℕ ℕ)). x ++ ops_for live writes) (is []))
  ]

  beyond_less : (j k : ℕ) → j < k → (ops : List (AnyOp ℕ ℕ)) → AreBeyond k ops → AreBeyond j ops
  beyond_less j k h [] b = tt
  beyond_less j k h (op ∷ ops) b = let first : k < key_of op = b.0 in (omega arith, beyond_less j k h ops b.1)

  beyond_one : (j key : ℕ) (value : Option ℕ) (writes : Writes) → j < key → AreBeyond j (ops_for live writes) → AreBeyond j (ops_for live ((key, value) ∷ writes))
  beyond_one j key value writes h b = elim (one_of live key value) [
    | HasOp op k is ↦ subst (AreBeyond j) (sym (is writes)) (let here : j < key_of op = omega arith in (here, b))
    | HasNone is ↦ subst (AreBeyond j) (sym (is writes)) b
  ]

  -- a write of a smaller key than all goes before them
  put-first : (key : ℕ) (value : Option ℕ) (ops : List (AnyOp ℕ ℕ)) → AreBeyond key ops → put live key value ops ≡ one live key value ++ ops
  put-first key value [] b = no_more (one live key value)
    where
      no_more : (xs : List (AnyOp ℕ ℕ)) → xs ≡ xs ++ []
      no_more [] = refl
      no_more (x ∷ xs) = ap (λ ys. x ∷ ys) (no_more xs)
  put-first key value (op ∷ ops) b = rw (less key (key_of op) b.0)

  -- one write more, as operations
  pub ops_for-insert : (key : ℕ) (value : Option ℕ) (writes : Writes) → IsInOrder live writes → ops_for live (insert_entry nat_cmp writes key value) ≡ put live key value (ops_for live writes)
  ops_for-insert key value [] ordered = refl
  ops_for-insert key value ((k, v) ∷ writes) ordered = elim (compared key k) [
    | IsLess lt e ↦
        rw e (one-append key value ((k, v) ∷ writes) ∙ sym (put-first key value (ops_for live ((k, v) ∷ writes)) (beyond_one key k v writes lt (beyond_less key k lt (ops_for live writes) ordered.0))))
    | IsEqual eq e ↦ rw e (same eq e)
    | IsGreater gt e ↦ rw e (behind e (ops_for-insert key value writes ordered.1))
  ]
    where
      same : key ≡ k → nat_cmp key k ≡ Equal → ops_for live ((k, value) ∷ writes) ≡ put live key value (ops_for live ((k, v) ∷ writes))
      same eq e = elim (one_of live k v) [
        | HasOp op there is ↦
            ap (λ n. ops_for live ((n, value) ∷ writes)) (sym eq) ∙ one-append key value writes
            ∙ sym (ap (put live key value) (is writes) ∙ ap (λ n. match_ordering (nat_cmp key n) (one live key value ++ op ∷ ops_for live writes) (one live key value ++ ops_for live writes) (op ∷ put live key value (ops_for live writes))) there ∙ ap (λ o. match_ordering o (one live key value ++ op ∷ ops_for live writes) (one live key value ++ ops_for live writes) (op ∷ put live key value (ops_for live writes))) e)
        | HasNone is ↦
            ap (λ n. ops_for live ((n, value) ∷ writes)) (sym eq) ∙ one-append key value writes
            ∙ sym (ap (put live key value) (is writes) ∙ put-first key value (ops_for live writes) (subst (λ n. AreBeyond n (ops_for live writes)) (sym eq) ordered.0))
      ]

      behind : nat_cmp key k ≡ Greater → ops_for live (insert_entry nat_cmp writes key value) ≡ put live key value (ops_for live writes) → ops_for live ((k, v) ∷ insert_entry nat_cmp writes key value) ≡ put live key value (ops_for live ((k, v) ∷ writes))
      behind e rest = elim (one_of live k v) [
        | HasOp op there is ↦
            is (insert_entry nat_cmp writes key value) ∙ ap (λ (ops : List (AnyOp ℕ ℕ)). op ∷ ops) rest
            ∙ sym (ap (put live key value) (is writes) ∙ ap (λ n. match_ordering (nat_cmp key n) (one live key value ++ op ∷ ops_for live writes) (one live key value ++ ops_for live writes) (op ∷ put live key value (ops_for live writes))) there ∙ ap (λ o. match_ordering o (one live key value ++ op ∷ ops_for live writes) (one live key value ++ ops_for live writes) (op ∷ put live key value (ops_for live writes))) e)
        | HasNone is ↦
            is (insert_entry nat_cmp writes key value) ∙ rest ∙ sym (ap (put live key value) (is writes))
      ]

  -- writes that lead to the same operations still do so with one more
  pub ops_for-same : (key : ℕ) (value : Option ℕ) (writes others : Writes) → IsInOrder live writes → IsInOrder live others → ops_for live writes ≡ ops_for live others → ops_for live (insert_entry nat_cmp writes key value) ≡ ops_for live (insert_entry nat_cmp others key value)
  ops_for-same key value writes others ordered other_ordered same =
      ops_for-insert key value writes ordered ∙ ap (put live key value) same ∙ sym (ops_for-insert key value others other_ordered)

  -- the operations behind a smaller key stay so
  beyond_insert : (j key : ℕ) (value : Option ℕ) (writes : Writes) → j < key → AreBeyond j (ops_for live writes) → IsInOrder live writes → AreBeyond j (ops_for live (insert_entry nat_cmp writes key value))
  beyond_insert j key value writes h b ordered = subst (AreBeyond j) (sym (ops_for-insert key value writes ordered)) (go (ops_for live writes) b)
    where
      own : (ops : List (AnyOp ℕ ℕ)) → AreBeyond j ops → AreBeyond j (one live key value ++ ops)
      own ops b = elim (one_of live key value) [
        | HasOp op there is ↦ subst (λ (x : List (AnyOp ℕ ℕ)). AreBeyond j (x ++ ops)) (sym (is [])) (let here : j < key_of op = omega arith in (here, b))
        | HasNone is ↦ subst (λ (x : List (AnyOp ℕ ℕ)). AreBeyond j (x ++ ops)) (sym (is [])) b
      ]

      alone : AreBeyond j (one live key value)
      alone = elim (one_of live key value) [
        | HasOp op there is ↦ subst (AreBeyond j) (sym (is [])) (let here : j < key_of op = omega arith in (here, tt))
        | HasNone is ↦ subst (AreBeyond j) (sym (is [])) tt
      ]

      go : (ops : List (AnyOp ℕ ℕ)) → AreBeyond j ops → AreBeyond j (put live key value ops)
      go [] b = alone
      go (op ∷ ops) b = elim (nat_cmp key (key_of op)) as (λ o. AreBeyond j (match_ordering o (one live key value ++ op ∷ ops) (one live key value ++ ops) (op ∷ put live key value ops))) [
        | Less ↦ own (op ∷ ops) b
        | Equal ↦ own ops b.1
        | Greater ↦ (b.0, go ops b.1)
      ]

  -- writes stay in order
  pub in_order-insert : (key : ℕ) (value : Option ℕ) (writes : Writes) → IsInOrder live writes → IsInOrder live (insert_entry nat_cmp writes key value)
  in_order-insert key value [] ordered = (tt, tt)
  in_order-insert key value ((k, v) ∷ writes) ordered = elim (compared key k) [
    | IsLess lt e ↦ rw e (beyond_one key k v writes lt (beyond_less key k lt (ops_for live writes) ordered.0), ordered)
    | IsEqual eq e ↦ rw e ordered
    | IsGreater gt e ↦ rw e (beyond_insert k key value writes gt ordered.0 ordered.1, in_order-insert key value writes ordered.1)
  ]

  -- writes without operations are in order
  pub in_order-none : (writes : Writes) → ops_for live writes ≡ [] → IsInOrder live writes
  in_order-none [] none = tt
  in_order-none ((k, v) ∷ writes) none = elim (one_of live k v) [
    | HasOp op there is ↦ let never : op ∷ ops_for live writes ≡ [] = sym (is writes) ∙ none in absurd cc
    | HasNone is ↦
        let rest : ops_for live writes ≡ [] = sym (is writes) ∙ none in
        (subst (AreBeyond k) (sym rest) tt, in_order-none writes rest)
  ]

-- keys stay sorted
below-insert : (j key : ℕ) (value : Option ℕ) (writes : Writes) → nat_cmp j key ≡ Less → AllByRecursion (λ y. nat_cmp j y ≡ Less) (keys_of writes) → AllByRecursion (λ y. nat_cmp j y ≡ Less) (keys_of (insert_entry nat_cmp writes key value))
below-insert j key value [] h b = (h, b)
below-insert j key value ((k, v) ∷ writes) h b = elim (nat_cmp key k) as (λ o. AllByRecursion (λ y. nat_cmp j y ≡ Less) (keys_of (match_ordering o ((key, value) ∷ (k, v) ∷ writes) ((k, value) ∷ writes) ((k, v) ∷ insert_entry nat_cmp writes key value)))) [
  | Less ↦ (h, b)
  | Equal ↦ b
  | Greater ↦ (b.0, below-insert j key value writes h b.1)
]

below_less : (j k : ℕ) → j < k → (ks : List ℕ) → AllByRecursion (λ y. nat_cmp k y ≡ Less) ks → AllByRecursion (λ y. nat_cmp j y ≡ Less) ks
below_less j k h [] b = b
below_less j k h (x ∷ ks) b =
    let first : k < x = ranked k x Less (sym b.0) in
    let lower : j < x = omega arith in
    (less j x lower, below_less j k h ks b.1)

pub sorted-insert : (key : ℕ) (value : Option ℕ) (writes : Writes) → IsStrictlySortedBy nat_cmp (keys_of writes) → IsStrictlySortedBy nat_cmp (keys_of (insert_entry nat_cmp writes key value))
unfolding IsStrictlySortedBy
sorted-insert key value [] sorted = (tt, tt)
sorted-insert key value ((k, v) ∷ writes) sorted = elim (compared key k) [
  | IsLess lt e ↦ rw e ((e, below_less key k lt (keys_of writes) sorted.0), sorted)
  | IsEqual eq e ↦ rw e sorted
  | IsGreater gt e ↦ rw e (below-insert k key value writes (less k key gt) sorted.0, sorted-insert key value writes sorted.1)
]
