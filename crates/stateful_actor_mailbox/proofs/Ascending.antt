-- Values by ascending numbers, and the first that a test finds.
use Rattle.std.proofs.Common.{◌≡◌, ℕ, ◌+◌, ◌≤◌, ◌<◌, ◌==◌, Bool, true, false, not, cond, Some, List, [], ◌∷◌, refl, sym, ap, subst, ◌∙◌, arith}
use Rattle.std.specs.Ordering.{nat_cmp, match_ordering, MatchOrdering}
use Rattle.std.specs.declared.cmp.Ordering.{Ordering}
use Rattle.std.specs.declared.cmp.Ordering.TheVariants.{Less, Equal, Greater}
use Rattle.std.specs.BTreeMap.{is_at}
use Rattle.std.specs.List.{find}
use Rattle.std.proofs.lemmas.Bool.{eq-eqb, eqb-true}
use Rattle.std.proofs.lemmas.Bool.Decides.{nat_tests}
use Rattle.std.proofs.lemmas.Option.{none-some, same_Some}
use Rattle.stateful_table.specs.Table.{at, put, without}
use Rattle.std.proofs.lemmas.Cmp.{ranked}
use Rattle.stateful_table.proofs.Tables.{is_at_number}

module _ {V : Type 0} where
  -- the numbers ascend, from this one on
  abbrev pub Ascends : ℕ → List (ℕ × V) → Type 0
  Ascends n [] = Unit {0}
  Ascends n (e ∷ es) = (n ≤ e.0) × Ascends (e.0 + 1) es

  pub ascends_from_less : (n m : ℕ) (es : List (ℕ × V)) → m ≤ n → Ascends n es → Ascends m es
  ascends_from_less n m [] le up = tt
  ascends_from_less n m (e ∷ es) le up = let l = up.0 in (omega arith, up.1)

  pub ascends-put : (n : ℕ) (es : List (ℕ × V)) (t : ℕ) (v : V) → n ≤ t → Ascends n es → Ascends n (put es t v)
  ascends-put n [] t v le up = (le, tt)
  ascends-put n (e ∷ es) t v le up = go (nat_cmp t e.0) (ranked t e.0 (nat_cmp t e.0) refl) (λ more. ascends-put (e.0 + 1) es t v more up.1)
    where
      go : (o : Ordering) → MatchOrdering o (t < e.0) (t ≡ e.0) (e.0 < t) → (e.0 + 1 ≤ t → Ascends (e.0 + 1) (put es t v)) → Ascends n (match_ordering o ((t, v) ∷ e ∷ es) ((e.0, v) ∷ es) (e ∷ put es t v))
      go Less lt rest = (le, (omega arith, up.1))
      go Equal same rest = (up.0, up.1)
      go Greater gt rest = (up.0, rest (omega arith))

  pub ascends-without : (n : ℕ) (es : List (ℕ × V)) (t : ℕ) → Ascends n es → Ascends n (without es t)
  ascends-without n [] t up = tt
  ascends-without n (e ∷ es) t up = go (e.0 == t) (ascends-without (e.0 + 1) es t up.1)
    where
      go : (b : Bool) → Ascends (e.0 + 1) (without es t) → Ascends n (cond (not b) (e ∷ without es t) (without es t))
      go true rest = let l = up.0 in ascends_from_less (e.0 + 1) n (without es t) (omega arith) rest
      go false rest = (up.0, rest)

  -- there is nothing at a number below
  pub at_below : (n : ℕ) (es : List (ℕ × V)) (t : ℕ) (v : V) → Ascends n es → at es t ≡ Some v → n ≤ t
  at_below n [] t v up is = absurd (none-some v is)
  at_below n (e ∷ es) t v up is = go (is_at (nat_cmp t) e.0) (is_at_number t e.0) is (at_below (e.0 + 1) es t v up.1)
    where
      go : (b : Bool) → b ≡ (e.0 == t) → cond b (Some e.1) (at es t) ≡ Some v → (at es t ≡ Some v → e.0 + 1 ≤ t) → n ≤ t
      go true same is rest = let l = up.0 in let here : e.0 ≡ t = eqb-true e.0 t (sym same) in omega arith
      go false other is rest = let l = up.0 in let m = rest is in omega arith

  -- what a test finds is at its number, and it passes
  pub found_at : (p : (ℕ × V) → Bool) (n : ℕ) (es : List (ℕ × V)) (e : ℕ × V) → Ascends n es → find p es ≡ Some e → (at es e.0 ≡ Some e.1) × (p e ≡ true) × (n ≤ e.0)
  found_at p n [] e up is = absurd (none-some e is)
  found_at p n (d ∷ es) e up is = go (p d) refl is (found_at p (d.0 + 1) es e up.1)
    where
      go : (b : Bool) → p d ≡ b → cond b (Some d) (find p es) ≡ Some e → (find p es ≡ Some e → (at es e.0 ≡ Some e.1) × (p e ≡ true) × (d.0 + 1 ≤ e.0))
          → (at (d ∷ es) e.0 ≡ Some e.1) × (p e ≡ true) × (n ≤ e.0)
      go true passes found further =
          let same = same_Some d e found in (
            ap (λ b. cond b (Some d.1) (at es e.0)) (is_at_number e.0 d.0 ∙ ap (λ x. d.0 == x) (sym (ap (λ x. x.0) same)) ∙ eq-eqb d.0 d.0 refl) ∙ ap (λ (x : ℕ × V). Some x.1) same,
            sym (ap p same) ∙ passes,
            subst (λ (x : ℕ × V). n ≤ x.0) same up.0,
          )
      go false fails found further =
          let rest = further found in
          let above = rest.2 in
          let l = up.0 in (
            ap (λ b. cond b (Some d.1) (at es e.0)) (is_at_number e.0 d.0 ∙ apart d.0 e.0 above) ∙ rest.0,
            rest.1,
            omega arith,
          )
        where
          apart : (x y : ℕ) → x + 1 ≤ y → (x == y) ≡ false
          apart x y above = grind (arith, nat_tests)

  -- where a value passes, one is found, at its number or below
  pub found_least : (p : (ℕ × V) → Bool) (n : ℕ) (es : List (ℕ × V)) (t : ℕ) (v : V) → Ascends n es → at es t ≡ Some v → p (t, v) ≡ true
      → (e : ℕ × V) × (find p es ≡ Some e) × (e.0 ≤ t)
  found_least p n [] t v up is passes = absurd (none-some v is)
  found_least p n (d ∷ es) t v up is passes = go (p d) refl (λ here. found_least p (d.0 + 1) es t v up.1 here passes)
    where
      here : (b : Bool) → b ≡ (d.0 == t) → cond b (Some d.1) (at es t) ≡ Some v → p d ≡ false → at es t ≡ Some v
      here true same is fails =
          let num : d.0 ≡ t = eqb-true d.0 t (sym same) in
          let val = same_Some d.1 v is in
          let both : p d ≡ true = ap p (pair d.0 t d.1 v num val) ∙ passes in
          absurd (cc)
        where
          pair : (x y : ℕ) (a b : V) → x ≡ y → a ≡ b → ◌≡◌ {A = ℕ × V} (x, a) (y, b)
          pair x y a b e f = ap (λ (w : ℕ). let z : ℕ × V = (w, a) in z) e ∙ ap (λ (w : V). let z : ℕ × V = (y, w) in z) f
      here false other is fails = is

      go : (b : Bool) → p d ≡ b → (at es t ≡ Some v → (e : ℕ × V) × (find p es ≡ Some e) × (e.0 ≤ t)) → (e : ℕ × V) × (cond b (Some d) (find p es) ≡ Some e) × (e.0 ≤ t)
      go true passing further = (d, refl, below (is_at (nat_cmp t) d.0) (is_at_number t d.0) is)
        where
          below : (b : Bool) → b ≡ (d.0 == t) → cond b (Some d.1) (at es t) ≡ Some v → d.0 ≤ t
          below true same is = let num : d.0 ≡ t = eqb-true d.0 t (sym same) in omega arith
          below false other is = let m = at_below (d.0 + 1) es t v up.1 is in omega arith
      go false fails further =
          let rest = further (here (is_at (nat_cmp t) d.0) (is_at_number t d.0) is fails) in
          (rest.0, rest.1, rest.2)
