-- The subscribers of a key, from the index.
use Rattle.std.proofs.Common.{rules, ◌≡◌, ℕ, true, false, Option, Some, None, List, [], ◌<◌, refl, sym, ap, subst, ◌∙◌, arith}
use Rattle.std.specs.Prelude.{Contains}
use Rattle.std.specs.Ordering.{nat_cmp, eq_by_cmp, ordering_then}
use Rattle.std.specs.declared.cmp.Ordering.{Ordering}
use Rattle.std.specs.declared.cmp.Ordering.TheVariants.{Less, Equal, Greater}
use Rattle.std.specs.declared.num.NonZeroU64.{NonZeroU64}
use Rattle.std.proofs.Math.Bridge.{le_prop}
use Rattle.std.specs.Int.NonZero.{non_zero_u64_get}
use Rattle.std.proofs.lemmas.Map.Lookups.{exact_unsigned}
use Rattle.stateful_base.specs.declared.number.Location.{Location}
use Rattle.stateful_types.specs.declared.request.Request.{Request}
use Rattle.stateful_types.specs.declared.request.Request.TheVariants.{Operations, Boundary}
use Rattle.stateful_types.specs.Request.{request_cmp}
use Rattle.std.specs.List.Sorted.{IsStrictlySortedBy}
use Rattle.std.specs.Cmp.{nat_cmp_is}
use Rattle.std.specs.BTreeMap.{BTreeMap, get}
use Rattle.std.specs.BTreeSet.{BTreeSet}
use Rattle.std.specs.List.{list_any}
use Rattle.std.proofs.lemmas.Map.Views.{list_any-from_Contains, Contains-from_any}
use Rattle.std.proofs.lemmas.Cmp.{eq_by_cmp_equiv, nat_cmp_total}
use Rattle.stateful_table.specs.Table.{at}
use Rattle.stateful_p2p_tables.specs.Subscribing.{is_key, has_ticket, is_listed, AreSubscribers}
use Rattle.stateful_p2p_tables.proofs.Indexing.{equal}

both_equal : (a b : Ordering) → ordering_then a b ≡ Equal → (a ≡ Equal) × (b ≡ Equal)
both_equal Less b e = absurd (let no : ⊥ = cc in no)
both_equal Equal b e = (refl, e)
both_equal Greater b e = absurd (let no : ⊥ = cc in no)

same_value : (n m : ℕ) (above : 0 < n) (above' : 0 < m) → n ≡ m → ◌≡◌ {A = NonZeroU64} (record { value = n; ok = above }) (record { value = m; ok = above' })
same_value n m above above' e =
    let P : ℕ → Type 0 = λ k. (h : 0 < k) → ◌≡◌ {A = NonZeroU64} (record { value = n; ok = above }) (record { value = k; ok = h }) in
    let here : P n = λ h. ap (λ (p : 0 < n). record { value = n; ok = p }) (le_prop above h) in
    subst P e here above'

same_nonzero : (x y : NonZeroU64) → nat_cmp (non_zero_u64_get x) (non_zero_u64_get y) ≡ Equal → x ≡ y
same_nonzero x y e = same_value x.value y.value x.ok y.ok (exact_unsigned x.value y.value e)

same_location : (x y : Location) → nat_cmp x.0 y.0 ≡ Equal → x ≡ y
same_location x y e = ap (λ (n : ℕ). record { 0 = n }) (exact_unsigned x.0 y.0 e)

-- the order of requests tells any two apart
pub exact_requests : (a b : Request) → request_cmp a b ≡ Equal → a ≡ b
exact_requests (Operations size start most) (Operations size' start' most') e =
    let b = both_equal _ _ e in
    let b' = both_equal _ _ b.1 in
    let f = same_location size size' b.0 in
    let g = same_location start start' b'.0 in
    let h = same_nonzero most most' b'.1 in
    cc
exact_requests (Operations size start most) (Boundary size' start') e = absurd (let no : ⊥ = cc in no)
exact_requests (Boundary size start) (Operations size' start' most') e = absurd (let no : ⊥ = cc in no)
exact_requests (Boundary size start) (Boundary size' start') e =
    let b = both_equal _ _ e in
    let f = same_location size size' b.0 in
    let g = same_location start start' b.1 in
    cc

same_number : (n : ℕ) → nat_cmp n n ≡ Equal
same_number n = sym (nat_cmp_is n n Equal refl)

same_reflexive : (a : Request) → request_cmp a a ≡ Equal
same_reflexive (Operations size start most) = rw (same_number size.0, same_number start.0, same_number (non_zero_u64_get most)) refl
same_reflexive (Boundary size start) = rw (same_number size.0, same_number start.0) refl

-- a test by the order tells any two apart
pub told_apart : (cmp : Request → Request → Ordering) → ((a b : Request) → cmp a b ≡ request_cmp a b) → (a b : Request) → eq_by_cmp cmp a b ≡ true → a ≡ b
told_apart cmp ordered a b e = exact_requests a b (sym (ordered a b) ∙ equal (cmp a b) e)

pub told_same : (cmp : Request → Request → Ordering) → ((a b : Request) → cmp a b ≡ request_cmp a b) → (a : Request) → eq_by_cmp cmp a a ≡ true
told_same cmp ordered a = rw (ordered a a, same_reflexive a) refl

empty_sorted : IsStrictlySortedBy nat_cmp []
unfolding IsStrictlySortedBy
empty_sorted = search rules

module _ (cmp : Request → Request → Ordering) (ordered : (a b : Request) → cmp a b ≡ request_cmp a b) where
  is_key_of : (key : Request) (found : Option Request) → is_key cmp key found ≡ true → found ≡ Some key
  is_key_of key None e = absurd (let no : ⊥ = cc in no)
  is_key_of key (Some other) e = ap (λ (k : Request). Some k) (told_apart cmp ordered other key e)

  key_is : (key : Request) (found : Option Request) → found ≡ Some key → is_key cmp key found ≡ true
  key_is key found e = rw (e) (told_same cmp ordered key)

  -- nobody subscribes to a key that the index doesn't have
  pub none_listed : (keys : List (ℕ × Request)) (index : BTreeMap Request (BTreeSet ℕ)) (key : Request) → ((k : Request) (t : ℕ) → is_listed cmp index k t ≡ is_key cmp k (at keys t))
      → get cmp index key ≡ None → AreSubscribers keys key []
  none_listed keys index key agrees none = record {
    ascending = empty_sorted;
    members = λ t. (λ has. absurd (nothing t has), λ e. absurd (nobody t e));
  }
    where
      nothing : (t : ℕ) → Contains [] t → ⊥
      nothing t has = omega (arith, has.1)

      nobody : (t : ℕ) → at keys t ≡ Some key → ⊥
      nobody t e = let yes : is_listed cmp index key t ≡ true = agrees key t ∙ key_is key (at keys t) e in
          let no : is_listed cmp index key t ≡ false = rw (none) refl in
          cc

  -- those whom the index has
  pub all_listed : (keys : List (ℕ × Request)) (index : BTreeMap Request (BTreeSet ℕ)) (key : Request) (tickets : BTreeSet ℕ) → ((k : Request) (t : ℕ) → is_listed cmp index k t ≡ is_key cmp k (at keys t))
      → get cmp index key ≡ Some tickets → IsStrictlySortedBy nat_cmp tickets.keys → AreSubscribers keys key tickets.keys
  all_listed keys index key tickets agrees found sorted = record {
    ascending = sorted;
    members = λ t. (there t, back t);
  }
    where
      is : (t : ℕ) → list_any (eq_by_cmp nat_cmp t) tickets.keys ≡ is_key cmp key (at keys t)
      is t = ap (λ w. has_ticket w t) (sym found) ∙ agrees key t

      there : (t : ℕ) → Contains tickets.keys t → at keys t ≡ Some key
      there t has = is_key_of key (at keys t) (sym (is t) ∙ list_any-from_Contains (eq_by_cmp_equiv nat_cmp_total) t tickets.keys has)

      back : (t : ℕ) → at keys t ≡ Some key → Contains tickets.keys t
      back t e = Contains-from_any (λ x y same. exact_unsigned x y (equal (nat_cmp x y) same)) t tickets.keys (is t ∙ key_is key (at keys t) e)
