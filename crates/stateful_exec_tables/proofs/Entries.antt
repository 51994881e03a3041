-- A search through a table, entry by entry.
use Rattle.std.proofs.Common.{◌≡◌, ◌∷◌, ℕ, List, Option, Some, All, MatchOption, sym, ◌∙◌, subst}
use Rattle.std.specs.Ordering.{nat_cmp}
use Rattle.std.specs.BTreeMap.{BTreeMap, get}
use Rattle.std.proofs.lemmas.List.Elements.{All-cons, All-head, All-tail}
use Rattle.stateful_table.specs.Table.{at}

module _ {V : Type 0} (table : List (ℕ × V)) (P : V → Type 0) where
  -- P holds of no value here
  abbrev HoldsOfNone : List (ℕ × V) → Type 0
  HoldsOfNone entries = All (λ e. P e.1 → ⊥) entries

  -- a search for a value of which P holds has these entries left: each is one of the table's, and P holds of none before them
  abbrev pub Searches : List (ℕ × V) → Type 0
  Searches left = All (λ e. at table e.0 ≡ Some e.1) left × (HoldsOfNone left → HoldsOfNone table)

  -- a search begins with all entries
  pub Searches-first : (m : BTreeMap ℕ V) (left : List (ℕ × V)) → m.entries ≡ table → All (λ e. get nat_cmp m e.0 ≡ Some e.1) m.entries → left ≡ m.entries → Searches left
  Searches-first m left is found begins =
      let each = subst (λ (es : List (ℕ × V)). All (λ e. at es e.0 ≡ Some e.1) es) is found in
      subst (λ (es : List (ℕ × V)). Searches es) (sym (begins ∙ is)) (each, λ none. none)

  module _ (left rest : List (ℕ × V)) (n : ℕ) (v : V) (searches : Searches left) (step : left ≡ (n, v) ∷ rest) where
    here : Searches ((n, v) ∷ rest)
    here = subst (λ (es : List (ℕ × V)). Searches es) step searches

    -- P holds of the next value
    pub Searches-found : P v → MatchOption (at table n) ⊥ P
    Searches-found p =
        let there = All-head (λ (e : ℕ × V). at table e.0 ≡ Some e.1) (n, v) rest here.0 in
        subst (λ (o : Option V). MatchOption o ⊥ P) (sym there) p

    -- P doesn't hold of the next value
    pub Searches-next : (P v → ⊥) → Searches rest
    Searches-next other = (
      All-tail (λ (e : ℕ × V). at table e.0 ≡ Some e.1) (n, v) rest here.0,
      λ none. here.1 (All-cons (λ (e : ℕ × V). P e.1 → ⊥) (n, v) rest other none),
    )
