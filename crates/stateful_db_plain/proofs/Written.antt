-- values behind writes
use Rattle.std.proofs.Common.{◌≡◌, ℕ, true, false, cond, Bool, List, ◌∷◌, Option, Some, refl, sym, ap, ◌∙◌}
use Rattle.std.specs.Ordering.{nat_cmp, is_eq}
use Rattle.std.specs.BTreeMap.{insert_entry, is_at}
use Rattle.std.specs.Map.{lookup, keys_of}
use Rattle.std.specs.Option.{unwrap_or}
use Rattle.std.specs.List.Sorted.{IsStrictlySortedBy}
use Rattle.stateful_db_plain.specs.Whole.{Whole, put, value_at}
use Rattle.stateful_db_plain.specs.Writes.{Gives, value_over}
use Rattle.stateful_db_plain.proofs.Entries.{same_key, test_turned, Ascends, ascends_from, order_from, lookup_above, lookup-insert_entry, ordered_put, value_put, same_entries}

module _ (k : ℕ) (v : Option ℕ) (rest : List (ℕ × Option ℕ)) where
  -- the writes behind the first ascend too
  pub rest_ordered : IsStrictlySortedBy nat_cmp (keys_of ((k, v) ∷ rest)) → IsStrictlySortedBy nat_cmp (keys_of rest)
  rest_ordered up = let all : Ascends ((k, v) ∷ rest) = ascends_from ((k, v) ∷ rest) up in order_from rest all.1

  -- where the first of them is made, the others say what all say
  pub first_made : (key : ℕ) (had has : Option ℕ) → IsStrictlySortedBy nat_cmp (keys_of ((k, v) ∷ rest)) → has ≡ cond (is_eq (nat_cmp k key)) v had
      → value_over rest key has ≡ value_over ((k, v) ∷ rest) key had
  first_made key had has up is =
      ap (λ o. value_over rest key o) (is ∙ ap (λ b. cond b v had) (test_turned k key))
      ∙ elim (is_eq (nat_cmp key k)) as (λ b. b ≡ is_eq (nat_cmp key k) → value_over rest key (cond b v had) ≡ unwrap_or (cond b (Some v) (lookup (is_at (nat_cmp key)) rest)) had) [
        | true ↦ λ here.
            let same : key ≡ k = same_key key k (sym here) in
            let all : Ascends ((k, v) ∷ rest) = ascends_from ((k, v) ∷ rest) up in
            ap (λ o. unwrap_or o v) (ap (λ i. lookup (is_at (nat_cmp i)) rest) same ∙ lookup_above k rest all.0)
        | false ↦ λ other. refl
      ] refl

put_over : (b : Bool) (value x : Option ℕ) (o : Option (Option ℕ)) → cond b value (unwrap_or o x) ≡ unwrap_or (cond b (Some value) o) x
put_over true value x o = refl
put_over false value x o = refl

-- one write more changes the state that is given as a write of its entries does
pub gives_put : (ws more : List (ℕ × Option ℕ)) (s t : Whole) (key : ℕ) (value : Option ℕ) → more ≡ insert_entry nat_cmp ws key value
    → Gives ws s t → Gives more s (record t { entries = put t.entries key value })
gives_put ws more s t key value is gives = record {
  size = gives.size;
  ordered = ordered_put t.entries key value gives.ordered;
  values = λ j.
      let had = value_at s.entries j in
      let here = is_eq (nat_cmp j key) in
      value_put t.entries key value j gives.ordered
      ∙ ap (λ o. cond here value o) (gives.values j)
      ∙ put_over here value had (lookup (is_at (nat_cmp j)) ws)
      ∙ ap (λ o. unwrap_or o had) (sym (lookup-insert_entry ws key value j))
      ∙ ap (λ xs. value_over xs j had) (sym is);
}

-- a state of this size, with these values at all keys, is the one that is given
pub gives_one : (ws : List (ℕ × Option ℕ)) (s t v : Whole) → Gives ws s t → Gives ws s v → t ≡ v
gives_one ws s t v one two =
    let size = one.size ∙ sym two.size in
    let entries = same_entries t.entries v.entries one.ordered two.ordered (λ key. one.values key ∙ sym (two.values key)) in
    λ i. record { size = size i; entries = entries i }
