-- Tables with a value put in the place of another one.
use Rattle.std.proofs.Common.{◌≡◌, ◌≢◌, ◌==◌, not, ℕ, suc, Bool, true, false, List, [], ◌∷◌, All, AllPairs, Some, IsSome, MatchOption, get_or, refl, sym, ap, ◌∙◌, subst, arith}
use Rattle.std.specs.Ordering.{nat_cmp}
use Rattle.std.specs.Map.{keys_of}
use Rattle.std.specs.List.Sorted.{IsStrictlySortedBy}
use Rattle.std.proofs.lemmas.Bool.{eqb-true, eqb-false}
use Rattle.std.proofs.lemmas.List.Elements.{All-cons, All-nil, All-weaker}
use Rattle.std.proofs.lemmas.List.Kept.{AllPairs-filter}
use Rattle.stateful_table.specs.Table.{at, put, without}
use Rattle.stateful_table.proofs.Tables.{is_at_number, put-without}
use Rattle.stateful_exec_laws.proofs.runs.Removing.{at_gone, All-at, All-without}
use Rattle.stateful_exec_laws.proofs.requests.Putting.{All-put, put_here, put_other}
use Rattle.stateful_exec_laws.proofs.runs.StartStands.{AllPairs-put}

module _ {V : Type 0} where
  -- what holds of each entry of another number and of the new value holds of all
  pub All-replace : (P : ℕ × V → Type 0) (es : List (ℕ × V)) (t : ℕ) (v : V) → IsStrictlySortedBy nat_cmp (keys_of es) → All (λ e. e.0 ≢ t → P e) es → P (t, v) → All P (put es t v)
  All-replace P es t v sorted others here = subst (λ l. All P l) (put-without es t v sorted) (All-put P (without es t) t v (All-without P es t others) here)

  -- each other entry is related to the value at a number
  others_apart : (R : ℕ × V → ℕ × V → Type 0) (es : List (ℕ × V)) (t : ℕ) (u : V) → ((x y : ℕ × V) → R x y → R y x) → at es t ≡ Some u → AllPairs R es → All (λ e. e.0 ≢ t → R (t, u) e) es
  others_apart R [] t u turned there apart = All-nil (λ (e : ℕ × V). e.0 ≢ t → R (t, u) e)
  others_apart R (e ∷ es) t u turned there apart = go (e.0 == t) refl (others_apart R es t u turned)
    where
      first : All (R e) es
      first = λ k d l. apart 0 (suc k) d (omega arith) (omega (arith, l))

      rest : AllPairs R es
      rest = λ i k d l m. apart (suc i) (suc k) d (omega (arith, l)) (omega (arith, m))

      go : (b : Bool) → (e.0 == t) ≡ b → (at es t ≡ Some u → AllPairs R es → All (λ x. x.0 ≢ t → R (t, u) x) es) → All (λ x. x.0 ≢ t → R (t, u) x) (e ∷ es)
      go true is more =
          let found : Some e.1 ≡ Some u = rw (is_at_number t e.0 ∙ is) at there in
          let value : e.1 ≡ u = search in
          let number : e.0 ≡ t = eqb-true e.0 t is in
          All-cons (λ (x : ℕ × V). x.0 ≢ t → R (t, u) x) e es (λ ne. absurd (ne number))
          (λ k d l ne. subst (λ (n : ℕ). R (n, u) (get_or es k d)) number (subst (λ (y : V). R (e.0, y) (get_or es k d)) value (first k d l)))
      go false is more =
          let behind : at es t ≡ Some u = rw (is_at_number t e.0 ∙ is) at there in
          All-cons (λ (x : ℕ × V). x.0 ≢ t → R (t, u) x) e es (λ ne. turned e (t, u) (All-at (R e) es t u behind first)) (more behind rest)

  -- pairs stay related where the new value is related as the old one was
  pub AllPairs-replace : (R : ℕ × V → ℕ × V → Type 0) (es : List (ℕ × V)) (t : ℕ) (u v : V) → ((x y : ℕ × V) → R x y → R y x) → IsStrictlySortedBy nat_cmp (keys_of es) → at es t ≡ Some u → ((x : ℕ × V) → R (t, u) x → R (t, v) x)
      → AllPairs R es → AllPairs R (put es t v)
  AllPairs-replace R es t u v turned sorted there same apart =
      let others : All (R (t, v)) (without es t) = All-without (R (t, v)) es t (λ k d l ne. same (get_or es k d) (others_apart R es t u turned there apart k d l ne)) in
      subst (λ l. AllPairs R l) (put-without es t v sorted)
      (AllPairs-put R (without es t) t v (at_gone es t) (AllPairs-filter R (λ e. not (e.0 == t)) es apart) others (All-weaker (R (t, v)) (λ x. R x (t, v)) (λ x r. turned (t, v) x r) (without es t) others))

  -- where the old value and the new one have a property, what is at each number has it as before
  pub at_replace : (Q : V → Type 0) (es : List (ℕ × V)) (t : ℕ) (u v : V) → at es t ≡ Some u → (Q u → Q v) → (k : ℕ) → MatchOption (at es k) ⊥ Q → MatchOption (at (put es t v) k) ⊥ Q
  at_replace Q es t u v there same k h = go (k == t) refl
    where
      go : (b : Bool) → (k == t) ≡ b → MatchOption (at (put es t v) k) ⊥ Q
      go true is =
          let number : k ≡ t = eqb-true k t is in
          let had : MatchOption (Some u) ⊥ Q = subst (λ o. MatchOption o ⊥ Q) (ap (λ n. at es n) number ∙ there) h in
          subst (λ o. MatchOption o ⊥ Q) (sym (ap (λ n. at (put es t v) n) number ∙ put_here es t v)) (same had)
      go false is = subst (λ o. MatchOption o ⊥ Q) (sym (put_other es t k v (eqb-false k t is))) h

  -- what is there stays there
  pub some_put : (es : List (ℕ × V)) (t : ℕ) (v : V) (k : ℕ) → IsSome (at es k) → IsSome (at (put es t v) k)
  some_put es t v k some = go (k == t) refl
    where
      go : (b : Bool) → (k == t) ≡ b → IsSome (at (put es t v) k)
      go true is = subst (λ n. IsSome (at (put es t v) n)) (sym (eqb-true k t is)) (rw (put_here es t v) refl)
      go false is = subst (λ o. IsSome o) (sym (put_other es t k v (eqb-false k t is))) some

  pub some_before : (es : List (ℕ × V)) (t : ℕ) (u v : V) → at es t ≡ Some u → (k : ℕ) → IsSome (at (put es t v) k) → IsSome (at es k)
  some_before es t u v there k some = go (k == t) refl
    where
      go : (b : Bool) → (k == t) ≡ b → IsSome (at es k)
      go true is = subst (λ n. IsSome (at es n)) (sym (eqb-true k t is)) (rw there refl)
      go false is = subst (λ o. IsSome o) (put_other es t k v (eqb-false k t is)) some
