-- live keys with their values, along a list of keys
use Rattle.std.proofs.Common.{◌≡◌, inl, inr, ◌⊎◌, Bool, true, false, cond, List, [], ◌∷◌, ◌++◌, Option, Some, None, is_some, refl, sym, ap, ◌∙◌, append_assoc}
use Rattle.std.specs.List.{list_any, filter_map, AllByRecursion}
use Rattle.std.specs.List.Sorted.{IsStrictlySortedBy}
use Rattle.std.specs.Map.{lookup, keys_of}
use Rattle.std.specs.Option.{option_map}
use Rattle.std.specs.declared.cmp.Ordering.{Ordering}
use Rattle.std.specs.declared.cmp.Ordering.TheVariants.{Less, Equal, Greater}
use Rattle.std.specs.BTreeMap.{is_at}
use Rattle.std_collections.specs.Layout.BTreeMap.{btree_map}
use Rattle.std.specs.Cmp.{IsTotalOrder}
use Rattle.std.proofs.lemmas.Map.Made.{is_some-lookup}
use Rattle.stateful_db_log.proofs.Slices.{cases}
use Rattle.stateful_db_any.specs.Any.{State}
use Rattle.stateful_db_any.specs.Entries.{AreLive}
use Rattle.std.proofs.lemmas.Map.Lookups.{btree_map_from_get}

absent : {X : Type 0} (o : Option X) → is_some o ≡ false → o ≡ None
absent None h = refl
absent (Some x) h = cc

cond_same : {X : Type 0} (b : Bool) (x : X) → cond b x x ≡ x
cond_same true x = refl
cond_same false x = refl

module _ {K V : Type 0} (value : K → Option V) where
  -- a key with its value, where it has one
  abbrev pub entry_at : K → Option (K × V)
  entry_at key = option_map (λ v. (key, v)) (value key)

  -- those of these keys that have a value, each with it
  abbrev pub entries_at : List K → List (K × V)
  entries_at keys = filter_map entry_at keys

  pub entries_some : (xs ys : List (K × V)) (key copy : K) (v : V) (rest : List K) → value key ≡ Some v → copy ≡ key → ys ≡ xs ++ (copy, v) ∷ [] → ys ++ entries_at rest ≡ xs ++ entries_at (key ∷ rest)
  entries_some xs ys key copy v rest is same new =
      let here : entries_at (key ∷ rest) ≡ (copy, v) ∷ entries_at rest = rw (is, same) refl in
      rw (new, here, append_assoc) refl

  pub entries_none : (xs : List (K × V)) (key : K) (rest : List K) → value key ≡ None → xs ++ entries_at rest ≡ xs ++ entries_at (key ∷ rest)
  entries_none xs key rest is = rw is refl

  module _ (cmp : K → K → Ordering) (exact : (a b : K) → cmp a b ≡ Equal → a ≡ b) where
    same_from_at : (q k : K) → is_at (cmp q) k ≡ true → q ≡ k
    same_from_at q k is = exact q k (go (cmp q k) is)
      where
        go : (o : Ordering) → is_at (λ (x : K). o) k ≡ true → o ≡ Equal
        go Less h = cc
        go Equal h = refl
        go Greater h = cc

    -- what a look-up of a key among those finds
    lookup-entries_at : (q : K) (keys : List K) → lookup (is_at (cmp q)) (entries_at keys) ≡ cond (list_any (is_at (cmp q)) keys) (value q) None
    lookup-entries_at q [] = refl
    lookup-entries_at q (k ∷ keys) = go (lookup-entries_at q keys) (cases (is_at (cmp q) k)) (value k) refl
      where
        go : lookup (is_at (cmp q)) (entries_at keys) ≡ cond (list_any (is_at (cmp q)) keys) (value q) None → (is_at (cmp q) k ≡ true) ⊎ (is_at (cmp q) k ≡ false) → (o : Option V) → value k ≡ o → lookup (is_at (cmp q)) (entries_at (k ∷ keys)) ≡ cond (list_any (is_at (cmp q)) (k ∷ keys)) (value q) None
        go rest (inl at) (Some v) is =
            let q_is : value q ≡ Some v = ap value (same_from_at q k at) ∙ is in
            rw (is, at, q_is) refl
        go rest (inl at) None is =
            let q_is : value q ≡ None = ap value (same_from_at q k at) ∙ is in
            let none : lookup (is_at (cmp q)) (entries_at keys) ≡ None = rest ∙ ap (λ o. cond (list_any (is_at (cmp q)) keys) o None) q_is ∙ cond_same (list_any (is_at (cmp q)) keys) None in
            rw (is, at, none, q_is) refl
        go rest (inr other) (Some v) is = rw (is, other) rest
        go rest (inr other) None is = rw (is, other) rest

    -- they are in the keys' order
    all_below : (x : K) (keys : List K) → AllByRecursion (λ y. cmp x y ≡ Less) keys → AllByRecursion (λ y. cmp x y ≡ Less) (keys_of (entries_at keys))
    all_below x [] h = tt
    all_below x (k ∷ keys) h = go (all_below x keys h.1) (value k) refl
      where
        go : AllByRecursion (λ y. cmp x y ≡ Less) (keys_of (entries_at keys)) → (o : Option V) → value k ≡ o → AllByRecursion (λ y. cmp x y ≡ Less) (keys_of (entries_at (k ∷ keys)))
        go rest (Some v) is = rw is (h.0, rest)
        go rest None is = rw is rest

    pub sorted-entries_at : (keys : List K) → IsStrictlySortedBy cmp keys → IsStrictlySortedBy cmp (keys_of (entries_at keys))
    unfolding IsStrictlySortedBy
    sorted-entries_at [] h = tt
    sorted-entries_at (k ∷ keys) h = go (sorted-entries_at keys h.1) (value k) refl
      where
        go : IsStrictlySortedBy cmp (keys_of (entries_at keys)) → (o : Option V) → value k ≡ o → IsStrictlySortedBy cmp (keys_of (entries_at (k ∷ keys)))
        go rest (Some v) is = rw is (all_below k keys h.0, rest)
        go rest None is = rw is rest

    -- a look-up of a key finds its value, where all that aren't among the keys have none
    pub lookup-live : {X : Type 0} (index : List (K × X)) → ((key : K) → lookup (is_at (cmp key)) index ≡ None → value key ≡ None)
        → (q : K) → lookup (is_at (cmp q)) (entries_at (keys_of index)) ≡ value q
    lookup-live index dead q = lookup-entries_at q (keys_of index) ∙ go (cases (list_any (is_at (cmp q)) (keys_of index)))
      where
        go : (list_any (is_at (cmp q)) (keys_of index) ≡ true) ⊎ (list_any (is_at (cmp q)) (keys_of index) ≡ false) → cond (list_any (is_at (cmp q)) (keys_of index)) (value q) None ≡ value q
        go (inl some) = rw some refl
        go (inr none) =
            let gone : value q ≡ None = dead q (absent _ (is_some-lookup (is_at (cmp q)) index ∙ none)) in
            rw none (sym gone)

-- two lists in order with the same look-ups are one
pub one_list : {K V : Type 0} {cmp : K → K → Ordering} → IsTotalOrder cmp → ((a b : K) → cmp a b ≡ Equal → a ≡ b) → (s : State K V) (xs ys : List (K × V)) → AreLive cmp s xs → AreLive cmp s ys → xs ≡ ys
one_list total exact s xs ys live others =
    btree_map_from_get total (btree_map xs (inl tt)) (btree_map ys (inl tt)) live.ascending others.ascending (λ q. live.values q ∙ sym (others.values q)) exact
