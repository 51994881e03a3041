-- Values by number: what a look-up finds behind a change.
use Rattle.std.proofs.Common.{rules, ◌≡◌, ℕ, ◌<◌, ◌==◌, Bool, true, false, not, cond, Option, Some, None, Result, Ok, Err, List, [], ◌∷◌, refl, sym, ap, subst, ◌∙◌, arith}
use Rattle.std.specs.Ordering.{nat_cmp, match_ordering, MatchOrdering}
use Rattle.std.specs.declared.cmp.Ordering.{Ordering}
use Rattle.std.specs.declared.cmp.Ordering.TheVariants.{Less, Equal, Greater}
use Rattle.std.specs.BTreeMap.{is_at}
use Rattle.std.specs.Option.{IsSome}
use Rattle.std.specs.Result.{OnOk, OnErr}
use Rattle.std.specs.Map.{remove_entry, keys_of}
use Rattle.std.specs.List.{AllByRecursion}
use Rattle.std.specs.List.Sorted.{IsStrictlySortedBy}
use Rattle.std.specs.Cmp.{nat_cmp_is}
use Rattle.std.proofs.lemmas.Bool.{eq-eqb, eqb-false}
use Rattle.std.proofs.lemmas.Bool.Decides.{nat_tests}
use Rattle.std.proofs.lemmas.Cmp.{ranked, nat_cmp_total, eq_by_cmp_equiv}
use Rattle.std.proofs.lemmas.Map.{NonePasses, none_passes_from_lookup}
use Rattle.std.proofs.lemmas.Map.Keys.{sorted_head, sorted_tail, IsDistinct-from_sorted}
use Rattle.std.proofs.lemmas.Map.Entries.{none_past_head, none_below_head}
use Rattle.stateful_table.specs.Table.{at, put, without}

-- the test of a number
pub is_at_number : (t k : ℕ) → is_at (nat_cmp t) k ≡ (k == t)
is_at_number t k = grind (arith, nat_tests)

module _ {V : Type 0} where
  -- what is at each number once a value was put at one
  pub at-put : (table : List (ℕ × V)) (t : ℕ) (v : V) (q : ℕ) → at (put table t v) q ≡ cond (t == q) (Some v) (at table q)
  at-put [] t v q = grind (arith, nat_tests)
  at-put (e ∷ es) t v q = go (nat_cmp t e.0) (ranked t e.0 (nat_cmp t e.0) refl) (at-put es t v q)
    where
      go : (o : Ordering) → MatchOrdering o (t < e.0) (t ≡ e.0) (e.0 < t) → at (put es t v) q ≡ cond (t == q) (Some v) (at es q)
          → at (match_ordering o ((t, v) ∷ e ∷ es) ((e.0, v) ∷ es) (e ∷ put es t v)) q ≡ cond (t == q) (Some v) (at (e ∷ es) q)
      go Less lt rest = grind (arith, nat_tests)
      go Equal same rest = grind (arith, nat_tests)
      go Greater gt rest = grind (arith, nat_tests)

  -- what is at each number once one was taken out
  pub at-without : (table : List (ℕ × V)) (t q : ℕ) → at (without table t) q ≡ cond (t == q) None (at table q)
  at-without [] t q = grind (arith, nat_tests)
  at-without (e ∷ es) t q = go (e.0 == t) refl (at-without es t q)
    where
      go : (b : Bool) → (e.0 == t) ≡ b → at (without es t) q ≡ cond (t == q) None (at es q)
          → at (cond (not b) (e ∷ without es t) (without es t)) q ≡ cond (t == q) None (at (e ∷ es) q)
      go true same rest = grind (arith, nat_tests)
      go false other rest = grind (arith, nat_tests)

  untouched : (es : List (ℕ × V)) (t : ℕ) → NonePasses (is_at (nat_cmp t)) es → without es t ≡ es
  untouched [] t none = refl
  untouched (e ∷ es) t none = go (e.0 == t) (sym (is_at_number t e.0) ∙ none.0) (untouched es t none.1)
    where
      go : (b : Bool) → b ≡ false → without es t ≡ es → cond (not b) (e ∷ without es t) (without es t) ≡ e ∷ es
      go true at rest = cc
      go false at rest = ap (λ w. e ∷ w) rest

  -- numbers in order are each there once
  pub remove_is_without : (es : List (ℕ × V)) (t : ℕ) → IsStrictlySortedBy nat_cmp (keys_of es) → remove_entry (is_at (nat_cmp t)) es ≡ without es t
  remove_is_without [] t sorted = refl
  remove_is_without (e ∷ es) t sorted =
      go (e.0 == t) refl (remove_is_without es t (sorted_tail nat_cmp e.0 (keys_of es) sorted))
    where
      go : (b : Bool) → (e.0 == t) ≡ b → remove_entry (is_at (nat_cmp t)) es ≡ without es t → remove_entry (is_at (nat_cmp t)) (e ∷ es) ≡ cond (not b) (e ∷ without es t) (without es t)
      go true at rest =
          rw (is_at_number t e.0 ∙ at)
          (sym (untouched es t (none_past_head (eq_by_cmp_equiv nat_cmp_total) t e es (IsDistinct-from_sorted nat_cmp (keys_of (e ∷ es)) sorted) (is_at_number t e.0 ∙ at))))
      go false at rest = rw (is_at_number t e.0 ∙ at) (ap (λ w. e ∷ w) rest)

-- what a value that is there isn't
pub none_some : {V : Type 0} (found : Option V) → found ≡ None → IsSome found → ⊥
none_some None e some = search rules
none_some (Some v) e some = cc

-- a call that can't fail
pub surely : {T E P Q : Type 0} (result : Result T E) → OnOk result P → OnErr result Q → (Q → ⊥) → P
surely (Ok x) ok err never = ok
surely (Err e) ok err never = absurd (never err)

module _ {V : Type 0} where
  -- nothing is taken out where there is nothing
  pub without_none : (es : List (ℕ × V)) (t : ℕ) → at es t ≡ None → without es t ≡ es
  without_none es t none = untouched es t (none_passes_from_lookup (is_at (nat_cmp t)) es none)

  -- a value that is put where there was none, and taken out again
  pub restored : (es : List (ℕ × V)) (t : ℕ) (v : V) → at es t ≡ None → without (put es t v) t ≡ es
  restored [] t v none = rw (eq-eqb t t refl) refl
  restored (e ∷ es) t v none = go (nat_cmp t e.0) (ranked t e.0 (nat_cmp t e.0) refl) (e.0 == t) refl (restored es t v)
    where
      rest : (e.0 == t) ≡ false → at es t ≡ None
      rest other = let here = is_at_number t e.0 in rw (here ∙ other) at none

      go : (o : Ordering) → MatchOrdering o (t < e.0) (t ≡ e.0) (e.0 < t) → (b : Bool) → (e.0 == t) ≡ b → (at es t ≡ None → without (put es t v) t ≡ es)
          → without (match_ordering o ((t, v) ∷ e ∷ es) ((e.0, v) ∷ es) (e ∷ put es t v)) t ≡ e ∷ es
      go o at_e true same further = absurd (let here = is_at_number t e.0 in let found = rw (here ∙ same) at none in some_none found)
        where
          some_none : Some e.1 ≡ None → ⊥
          some_none = λ e. cc
      go Less lt false other further = rw (eq-eqb t t refl, other) (ap (λ w. e ∷ w) (without_none es t (rest other)))
      go Equal is false other further = absurd (eqb-false e.0 t other (sym is))
      go Greater gt false other further = rw other (ap (λ w. e ∷ w) (further (rest other)))

  -- a number below all others comes first
  put_first : (es : List (ℕ × V)) (t : ℕ) (v : V) → AllByRecursion (λ k. nat_cmp t k ≡ Less) (keys_of es) → put es t v ≡ (t, v) ∷ es
  put_first [] t v below = refl
  put_first (e ∷ es) t v below = rw below.0 refl

  -- a value that is put where one was taken out
  pub put-without : (es : List (ℕ × V)) (t : ℕ) (v : V) → IsStrictlySortedBy nat_cmp (keys_of es) → put (without es t) t v ≡ put es t v
  put-without [] t v sorted = refl
  put-without (e ∷ es) t v sorted =
      go (nat_cmp t e.0) refl (ranked t e.0 (nat_cmp t e.0) refl) (e.0 == t) refl (put-without es t v (sorted_tail nat_cmp e.0 (keys_of es) sorted))
    where
      go : (o : Ordering) → nat_cmp t e.0 ≡ o → MatchOrdering o (t < e.0) (t ≡ e.0) (e.0 < t) → (b : Bool) → (e.0 == t) ≡ b → put (without es t) t v ≡ put es t v
          → put (cond (not b) (e ∷ without es t) (without es t)) t v ≡ match_ordering o ((t, v) ∷ e ∷ es) ((e.0, v) ∷ es) (e ∷ put es t v)
      go Less below lt true same rest = let no : ⊥ = grind (arith, nat_tests) in absurd no
      go Less below lt false other rest =
          let none = none_below_head nat_cmp_total t e es sorted below in
          rw (below, untouched es t none.1) refl
      go Equal at is true same rest =
          let none = none_past_head (eq_by_cmp_equiv nat_cmp_total) t e es (IsDistinct-from_sorted nat_cmp (keys_of (e ∷ es)) sorted) (is_at_number t e.0 ∙ same) in
          let below = subst (λ k. AllByRecursion (λ q. nat_cmp k q ≡ Less) (keys_of es)) (sym is) (sorted_head nat_cmp e.0 (keys_of es) sorted) in
          rw (untouched es t none) (put_first es t v below ∙ ap (λ k. (k, v) ∷ es) is)
      go Equal at is false other rest = absurd (eqb-false e.0 t other (sym is))
      go Greater above gt true same rest = let no : ⊥ = grind (arith, nat_tests) in absurd no
      go Greater above gt false other rest = rw above (ap (λ w. e ∷ w) rest)

  -- a value that is put where another was put just before
  pub put-put : (es : List (ℕ × V)) (t : ℕ) (v w : V) → put (put es t v) t w ≡ put es t w
  put-put [] t v w = rw (← nat_cmp_is t t Equal refl) refl
  put-put (e ∷ es) t v w = go (nat_cmp t e.0) refl (put-put es t v w)
    where
      go : (o : Ordering) → nat_cmp t e.0 ≡ o → put (put es t v) t w ≡ put es t w
          → put (match_ordering o ((t, v) ∷ e ∷ es) ((e.0, v) ∷ es) (e ∷ put es t v)) t w ≡ match_ordering o ((t, w) ∷ e ∷ es) ((e.0, w) ∷ es) (e ∷ put es t w)
      go Less at rest = rw (← nat_cmp_is t t Equal refl) refl
      go Equal at rest = rw at refl
      go Greater at rest = rw at (ap (λ l. e ∷ l) rest)
