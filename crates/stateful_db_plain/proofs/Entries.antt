-- pairs by ascending key: what they have at a key behind a write, and that this tells all of them
use Rattle.std.proofs.Common.{◌≡◌, ℕ, ◌<◌, ◌≤◌, Bool, true, false, cond, List, [], ◌∷◌, Option, Some, None, refl, sym, ap, ◌∙◌, arith}
use Rattle.std.specs.declared.cmp.Ordering.TheVariants.{Less, Equal, Greater}
use Rattle.std.specs.Ordering.{nat_cmp, is_eq, match_ordering}
use Rattle.std.specs.Cmp.{nat_cmp_is, ranked}
use Rattle.std.specs.BTreeMap.{insert_entry, is_at}
use Rattle.std.specs.Map.{lookup, remove_entry, keys_of}
use Rattle.std.specs.List.{AllByRecursion}
use Rattle.std.specs.List.Sorted.{IsStrictlySortedBy}
use Rattle.stateful_db_plain.specs.Whole.{put, value_at}
use Rattle.stateful_db_plain.specs.Writes.{IsInOrder}

cmp_lt : (x y : ℕ) → x < y → nat_cmp x y ≡ Less
cmp_lt x y h = sym (nat_cmp_is x y Less h)

pub same_key : (j k : ℕ) → is_eq (nat_cmp j k) ≡ true → j ≡ k
same_key j k = elim (nat_cmp j k) as (λ r. r ≡ nat_cmp j k → is_eq r ≡ true → j ≡ k) [
  | Less ↦ λ q h. cc
  | Equal ↦ λ q h. ranked j k Equal q
  | Greater ↦ λ q h. cc
] refl

is_other : (j k : ℕ) → (j ≡ k → ⊥) → is_eq (nat_cmp j k) ≡ false
is_other j k other = elim (is_eq (nat_cmp j k)) as (λ b. b ≡ is_eq (nat_cmp j k) → b ≡ false) [
  | true ↦ λ same. absurd (other (same_key j k (sym same)))
  | false ↦ λ same. refl
] refl

pub is_same : (k : ℕ) → is_eq (nat_cmp k k) ≡ true
is_same k = ap is_eq (sym (nat_cmp_is k k Equal refl))

-- whether two keys are equal doesn't depend on their order
pub test_turned : (j k : ℕ) → is_eq (nat_cmp j k) ≡ is_eq (nat_cmp k j)
test_turned j k = elim (nat_cmp j k) as (λ r. r ≡ nat_cmp j k → is_eq r ≡ is_eq (nat_cmp k j)) [
  | Less ↦ λ q. let less : j < k = ranked j k Less q in sym (is_other k j (λ e. omega arith))
  | Equal ↦ λ q. let same : j ≡ k = ranked j k Equal q in sym (ap (λ i. is_eq (nat_cmp k i)) same ∙ is_same k)
  | Greater ↦ λ q. let more : k < j = ranked j k Greater q in sym (is_other k j (λ e. omega arith))
] refl

cond_twice : {X : Type 0} (b : Bool) (x y z : X) → cond b x y ≡ cond b x (cond b z y)
cond_twice true x y z = refl
cond_twice false x y z = refl

cond_none : {X : Type 0} (b : Bool) (x : X) → x ≡ cond b x x
cond_none true x = refl
cond_none false x = refl

-- the answer at j, where j is one key, k another, or neither
apart : {X : Type 0} (b d : Bool) (x y z : X) → (b ≡ true → d ≡ true → ⊥) → cond b x (cond d y z) ≡ cond d y (cond b x z)
apart true true x y z h = absurd (h refl refl)
apart true false x y z h = refl
apart false d x y z h = refl

module _ {X : Type 0} where
  -- every key is above k
  abbrev pub Above : ℕ → List (ℕ × X) → Type 0
  Above k [] = Unit {0}
  Above k (e ∷ es) = (k < e.0) × Above k es

  abbrev pub Ascends : List (ℕ × X) → Type 0
  Ascends [] = Unit {0}
  Ascends (e ∷ es) = Above e.0 es × Ascends es

  above_le : (j k : ℕ) (es : List (ℕ × X)) → j ≤ k → Above k es → Above j es
  above_le j k [] h a = tt
  above_le j k (e ∷ es) h a = (omega (arith, a.0), above_le j k es h a.1)

  -- what is above a key doesn't have it
  pub lookup_above : (k : ℕ) (es : List (ℕ × X)) → Above k es → lookup (is_at (nat_cmp k)) es ≡ None
  lookup_above k [] a = refl
  lookup_above k (e ∷ es) a = rw (cmp_lt k e.0 a.0) (lookup_above k es a.1)

  above_from : (k : ℕ) (es : List (ℕ × X)) → AllByRecursion (λ y. nat_cmp k y ≡ Less) (keys_of es) → Above k es
  above_from k [] h = tt
  above_from k (e ∷ es) h = (ranked k e.0 Less (sym h.0), above_from k es h.1)

  pub ascends_from : (es : List (ℕ × X)) → IsStrictlySortedBy nat_cmp (keys_of es) → Ascends es
  unfolding IsStrictlySortedBy
  ascends_from [] h = tt
  ascends_from (e ∷ es) h = (above_from e.0 es h.0, ascends_from es h.1)

  all_above : (k : ℕ) (es : List (ℕ × X)) → Above k es → AllByRecursion (λ y. nat_cmp k y ≡ Less) (keys_of es)
  all_above k [] a = tt
  all_above k (e ∷ es) a = (cmp_lt k e.0 a.0, all_above k es a.1)

  pub order_from : (es : List (ℕ × X)) → Ascends es → IsStrictlySortedBy nat_cmp (keys_of es)
  unfolding IsStrictlySortedBy
  order_from [] a = tt
  order_from (e ∷ es) a = (all_above e.0 es a.0, order_from es a.1)

  pub lookup-insert_entry : (es : List (ℕ × X)) (k : ℕ) (v : X) (j : ℕ) → lookup (is_at (nat_cmp j)) (insert_entry nat_cmp es k v) ≡ cond (is_eq (nat_cmp j k)) (Some v) (lookup (is_at (nat_cmp j)) es)
  lookup-insert_entry [] k v j = refl
  lookup-insert_entry (e ∷ es) k v j =
      elim (nat_cmp k e.0) as (λ r. r ≡ nat_cmp k e.0 → lookup (is_at (nat_cmp j)) (match_ordering r ((k, v) ∷ e ∷ es) ((e.0, v) ∷ es) (e ∷ insert_entry nat_cmp es k v)) ≡ cond (is_eq (nat_cmp j k)) (Some v) (cond (is_eq (nat_cmp j e.0)) (Some e.1) (lookup (is_at (nat_cmp j)) es))) [
        | Less ↦ λ q. refl
        | Equal ↦ λ q.
            let same : k ≡ e.0 = ranked k e.0 Equal q in
            cond_twice (is_eq (nat_cmp j e.0)) (Some v) (lookup (is_at (nat_cmp j)) es) (Some e.1) ∙ ap (λ i. cond (is_eq (nat_cmp j i)) (Some v) (cond (is_eq (nat_cmp j e.0)) (Some e.1) (lookup (is_at (nat_cmp j)) es))) (sym same)
        | Greater ↦ λ q.
            let less : e.0 < k = ranked k e.0 Greater q in
            ap (λ o. cond (is_eq (nat_cmp j e.0)) (Some e.1) o) (lookup-insert_entry es k v j)
            ∙ apart (is_eq (nat_cmp j e.0)) (is_eq (nat_cmp j k)) (Some e.1) (Some v) (lookup (is_at (nat_cmp j)) es)
            (λ a b. let c : j ≡ e.0 = same_key j e.0 a in let d : j ≡ k = same_key j k b in absurd (omega arith))
      ] refl

  above_insert : (a : ℕ) (es : List (ℕ × X)) (k : ℕ) (v : X) → a < k → Above a es → Above a (insert_entry nat_cmp es k v)
  above_insert a [] k v h s = (h, tt)
  above_insert a (e ∷ es) k v h s =
      elim (nat_cmp k e.0) as (λ r. Above a (match_ordering r ((k, v) ∷ e ∷ es) ((e.0, v) ∷ es) (e ∷ insert_entry nat_cmp es k v))) [
        | Less ↦ (h, s)
        | Equal ↦ s
        | Greater ↦ (s.0, above_insert a es k v h s.1)
      ]

  above_remove : (a : ℕ) (es : List (ℕ × X)) (k : ℕ) → Above a es → Above a (remove_entry (is_at (nat_cmp k)) es)
  above_remove a [] k s = s
  above_remove a (e ∷ es) k s = elim (is_eq (nat_cmp k e.0)) as (λ t. Above a (cond t es (e ∷ remove_entry (is_at (nat_cmp k)) es))) [
    | true ↦ s.1
    | false ↦ (s.0, above_remove a es k s.1)
  ]

  ascends_insert : (es : List (ℕ × X)) (k : ℕ) (v : X) → Ascends es → Ascends (insert_entry nat_cmp es k v)
  ascends_insert [] k v s = (tt, tt)
  ascends_insert (e ∷ es) k v s =
      elim (nat_cmp k e.0) as (λ r. r ≡ nat_cmp k e.0 → Ascends (match_ordering r ((k, v) ∷ e ∷ es) ((e.0, v) ∷ es) (e ∷ insert_entry nat_cmp es k v))) [
        | Less ↦ λ q. let less : k < e.0 = ranked k e.0 Less q in ((less, above_le k e.0 es (omega arith) s.0), s)
        | Equal ↦ λ q. s
        | Greater ↦ λ q. let more : e.0 < k = ranked k e.0 Greater q in (above_insert e.0 es k v more s.0, ascends_insert es k v s.1)
      ] refl

  ascends_remove : (es : List (ℕ × X)) (k : ℕ) → Ascends es → Ascends (remove_entry (is_at (nat_cmp k)) es)
  ascends_remove [] k s = s
  ascends_remove (e ∷ es) k s = elim (is_eq (nat_cmp k e.0)) as (λ t. Ascends (cond t es (e ∷ remove_entry (is_at (nat_cmp k)) es))) [
    | true ↦ s.1
    | false ↦ (above_remove e.0 es k s.0, ascends_remove es k s.1)
  ]

lookup-remove : (es : List (ℕ × ℕ)) (k j : ℕ) → Ascends es → value_at (remove_entry (is_at (nat_cmp k)) es) j ≡ cond (is_eq (nat_cmp j k)) None (value_at es j)
lookup-remove [] k j s = cond_none (is_eq (nat_cmp j k)) None
lookup-remove (e ∷ es) k j s =
    elim (is_eq (nat_cmp k e.0)) as (λ t. t ≡ is_eq (nat_cmp k e.0) → lookup (is_at (nat_cmp j)) (cond t es (e ∷ remove_entry (is_at (nat_cmp k)) es)) ≡ cond (is_eq (nat_cmp j k)) None (cond (is_eq (nat_cmp j e.0)) (Some e.1) (value_at es j))) [
      | true ↦ λ q.
          let same : k ≡ e.0 = same_key k e.0 (sym q) in
          elim (is_eq (nat_cmp j e.0)) as (λ t. t ≡ is_eq (nat_cmp j e.0) → value_at es j ≡ cond t None (cond t (Some e.1) (value_at es j))) [
            | true ↦ λ h. ap (λ i. value_at es i) (same_key j e.0 (sym h)) ∙ lookup_above e.0 es s.0
            | false ↦ λ h. refl
          ] refl ∙ ap (λ i. cond (is_eq (nat_cmp j i)) None (cond (is_eq (nat_cmp j e.0)) (Some e.1) (value_at es j))) (sym same)
      | false ↦ λ q.
          ap (λ o. cond (is_eq (nat_cmp j e.0)) (Some e.1) o) (lookup-remove es k j s.1)
          ∙ apart (is_eq (nat_cmp j e.0)) (is_eq (nat_cmp j k)) (Some e.1) None (value_at es j)
          (λ a b. let c : j ≡ e.0 = same_key j e.0 a in let d : j ≡ k = same_key j k b in
          let f : is_eq (nat_cmp k e.0) ≡ true = ap (λ i. is_eq (nat_cmp i e.0)) (sym d) ∙ a in cc)
    ] refl

ascends_put : (es : List (ℕ × ℕ)) (k : ℕ) (v : Option ℕ) → Ascends es → Ascends (put es k v)
ascends_put es k None s = ascends_remove es k s
ascends_put es k (Some v) s = ascends_insert es k v s

-- a write leaves entries in order
pub ordered_put : (es : List (ℕ × ℕ)) (k : ℕ) (v : Option ℕ) → IsInOrder es → IsInOrder (put es k v)
ordered_put es k v up = order_from (put es k v) (ascends_put es k v (ascends_from es up))

-- and changes the value of its key alone
pub value_put : (es : List (ℕ × ℕ)) (k : ℕ) (v : Option ℕ) (j : ℕ) → IsInOrder es → value_at (put es k v) j ≡ cond (is_eq (nat_cmp j k)) v (value_at es j)
value_put es k None j up = lookup-remove es k j (ascends_from es up)
value_put es k (Some v) j up = lookup-insert_entry es k v j

-- the values at all keys tell the entries
at_first : (e : ℕ × ℕ) (es : List (ℕ × ℕ)) → value_at (e ∷ es) e.0 ≡ Some e.1
at_first e es = rw (is_same e.0) refl

below_first : (k : ℕ) (e : ℕ × ℕ) (es : List (ℕ × ℕ)) → k < e.0 → Ascends (e ∷ es) → value_at (e ∷ es) k ≡ None
below_first k e es less up = lookup_above k (e ∷ es) (less, above_le k e.0 es (omega arith) up.0)

behind_first : (e f : ℕ × ℕ) (es fs : List (ℕ × ℕ)) → e.0 ≡ f.0 → Ascends (e ∷ es) → Ascends (f ∷ fs) → ((k : ℕ) → value_at (e ∷ es) k ≡ value_at (f ∷ fs) k) → (k : ℕ) → value_at es k ≡ value_at fs k
behind_first e f es fs same up to agree k =
    elim (is_eq (nat_cmp k e.0)) as (λ b. b ≡ is_eq (nat_cmp k e.0) → value_at es k ≡ value_at fs k) [
      | true ↦ λ here.
          let at_e : k ≡ e.0 = same_key k e.0 (sym here) in
          ap (λ i. value_at es i) at_e ∙ lookup_above e.0 es up.0
          ∙ sym (ap (λ i. value_at fs i) (at_e ∙ same) ∙ lookup_above f.0 fs to.0)
      | false ↦ λ other.
          let off : false ≡ is_eq (nat_cmp k f.0) = other ∙ ap (λ i. is_eq (nat_cmp k i)) same in
          ap (λ b. cond b (Some e.1) (value_at es k)) other ∙ agree k ∙ sym (ap (λ b. cond b (Some f.1) (value_at fs k)) off)
    ] refl

same_first : (e f : ℕ × ℕ) → e.0 ≡ f.0 → e.1 ≡ f.1 → e ≡ f
same_first e f k v i = (k i, v i)

same_ascending : (es fs : List (ℕ × ℕ)) → Ascends es → Ascends fs → ((k : ℕ) → value_at es k ≡ value_at fs k) → es ≡ fs
same_ascending [] [] up to agree = refl
same_ascending [] (f ∷ fs) up to agree = let found = agree f.0 ∙ at_first f fs in cc
same_ascending (e ∷ es) [] up to agree = let found = sym (agree e.0) ∙ at_first e es in cc
same_ascending (e ∷ es) (f ∷ fs) up to agree =
    elim (nat_cmp e.0 f.0) as (λ r. r ≡ nat_cmp e.0 f.0 → e ∷ es ≡ f ∷ fs) [
      | Less ↦ λ q.
          let less : e.0 < f.0 = ranked e.0 f.0 Less q in
          let missing = sym (at_first e es) ∙ agree e.0 ∙ below_first e.0 f fs less to in
          cc
      | Equal ↦ λ q.
          let same : e.0 ≡ f.0 = ranked e.0 f.0 Equal q in
          let values = sym (at_first e es) ∙ agree e.0 ∙ ap (λ i. value_at (f ∷ fs) i) same ∙ at_first f fs in
          let value : e.1 ≡ f.1 = cc in
          ap (λ x. x ∷ es) (same_first e f same value) ∙ ap (λ xs. f ∷ xs) (same_ascending es fs up.1 to.1 (behind_first e f es fs same up to agree))
      | Greater ↦ λ q.
          let more : f.0 < e.0 = ranked e.0 f.0 Greater q in
          let missing = sym (at_first f fs) ∙ sym (agree f.0) ∙ below_first f.0 e es more up in
          cc
    ] refl

pub same_entries : (es fs : List (ℕ × ℕ)) → IsInOrder es → IsInOrder fs → ((k : ℕ) → value_at es k ≡ value_at fs k) → es ≡ fs
same_entries es fs up to agree = same_ascending es fs (ascends_from es up) (ascends_from fs to) agree
