-- Tables with an entry taken out.
use Rattle.std.proofs.Common.{◌≡◌, ◌≢◌, ◌==◌, not, ℕ, Bool, true, false, List, [], ◌∷◌, filter, All, Some, None, cond, refl, sym, ap, ◌∙◌, subst}
use Rattle.std.specs.Ordering.{nat_cmp}
use Rattle.std.specs.BTreeMap.{is_at}
use Rattle.std.specs.Map.{keys_of}
use Rattle.std.specs.List.{AllByRecursion}
use Rattle.std.specs.List.Sorted.{IsStrictlySortedBy}
use Rattle.std.specs.declared.cmp.Ordering.TheVariants.{Less}
use Rattle.std.proofs.lemmas.Bool.{eqb-true, eqb-false, eq-eqb}
use Rattle.std.proofs.lemmas.List.Elements.{All-cons, All-head, All-tail, All-nil}
use Rattle.std.proofs.lemmas.List.Kept.{IsStrictlySortedBy-filter}
use Rattle.std.proofs.lemmas.Map.Keys.{sorted_head, sorted_tail}
use Rattle.stateful_table.specs.Table.{at, without}
use Rattle.stateful_table.proofs.Tables.{is_at_number, at-without}
use Rattle.stateful_exec_tables.specs.Phase.{is_on, tickets_on}
use Rattle.stateful_exec_tables.specs.declared.tables.Requested.{Requested}

-- two numbers differ
pub differ : (t u : ℕ) → u ≢ t → (t == u) ≡ false
differ t u ne = go (t == u) refl
  where
    go : (b : Bool) → (t == u) ≡ b → b ≡ false
    go true is = absurd (ne (sym (eqb-true t u is)))
    go false is = refl

module _ {V : Type 0} where
  -- what is at another number stays
  pub at_other : (es : List (ℕ × V)) (t u : ℕ) → u ≢ t → at (without es t) u ≡ at es u
  at_other es t u ne = at-without es t u ∙ ap (λ b. cond b None (at es u)) (differ t u ne)

  -- what holds of each entry of another number holds of each that is left
  pub All-without : (P : ℕ × V → Type 0) (es : List (ℕ × V)) (t : ℕ) → All (λ e. e.0 ≢ t → P e) es → All P (without es t)
  All-without P [] t all = All-nil P
  All-without P (e ∷ es) t all = go (e.0 == t) refl (All-without P es t (All-tail (λ (x : ℕ × V). x.0 ≢ t → P x) e es all))
    where
      go : (b : Bool) → (e.0 == t) ≡ b → All P (without es t) → All P (without (e ∷ es) t)
      go true is rest = rw is rest
      go false is rest = rw is (All-cons P e (without es t) (All-head (λ (x : ℕ × V). x.0 ≢ t → P x) e es all (eqb-false e.0 t is)) rest)

  keys_without : (es : List (ℕ × V)) (t : ℕ) → keys_of (without es t) ≡ filter (λ k. not (k == t)) (keys_of es)
  keys_without [] t = refl
  keys_without (e ∷ es) t = go (e.0 == t) refl (keys_without es t)
    where
      go : (b : Bool) → (e.0 == t) ≡ b → keys_of (without es t) ≡ filter (λ k. not (k == t)) (keys_of es) → keys_of (without (e ∷ es) t) ≡ filter (λ k. not (k == t)) (keys_of (e ∷ es))
      go true is rest = rw is rest
      go false is rest = rw is (ap (λ ks. e.0 ∷ ks) rest)

  -- numbers stay in order
  pub sorted_without : (es : List (ℕ × V)) (t : ℕ) → IsStrictlySortedBy nat_cmp (keys_of es) → IsStrictlySortedBy nat_cmp (keys_of (without es t))
  sorted_without es t sorted = subst (λ ks. IsStrictlySortedBy nat_cmp ks) (sym (keys_without es t)) (IsStrictlySortedBy-filter nat_cmp (λ k. not (k == t)) (keys_of es) sorted)

  above : (t : ℕ) (es : List (ℕ × V)) → AllByRecursion (λ k. nat_cmp t k ≡ Less) (keys_of es) → without es t ≡ es
  above t [] h = refl
  above t (e ∷ es) h = let off : is_at (nat_cmp t) e.0 ≡ false = rw h.0 refl in rw (sym (is_at_number t e.0) ∙ off) (ap (λ w. e ∷ w) (above t es h.1))

-- what holds of each entry holds of the value at a number
pub All-at : {V : Type 0} (P : ℕ × V → Type 0) (es : List (ℕ × V)) (t : ℕ) (v : V) → at es t ≡ Some v → All P es → P (t, v)
All-at P [] t v there all = let no : None ≡ Some v = there in cc
All-at {V = V} P (e ∷ es) t v there all = go (e.0 == t) refl (All-at P es t v)
  where
    go : (b : Bool) → (e.0 == t) ≡ b → (at es t ≡ Some v → All P es → P (t, v)) → P (t, v)
    go true is rest =
        let found : Some e.1 ≡ Some v = rw (is_at_number t e.0 ∙ is) at there in
        let same : e.1 ≡ v = search in
        subst (λ k. P (k, v)) (eqb-true e.0 t is) (subst (λ (x : V). P (e.0, x)) same (All-head P e es all))
    go false is rest = rest (rw (is_at_number t e.0 ∙ is) at there) (All-tail P e es all)

-- nothing is at the number that was taken out
pub at_gone : {V : Type 0} (es : List (ℕ × V)) (t : ℕ) → at (without es t) t ≡ None
at_gone es t = at-without es t t ∙ ap (λ b. cond b None (at es t)) (eq-eqb t t refl)

-- where nothing is at a number, each entry is of another
pub none_at : {V : Type 0} (es : List (ℕ × V)) (t : ℕ) → at es t ≡ None → All (λ e. e.0 ≢ t) es
none_at [] t none = All-nil (λ (e : ℕ × _). e.0 ≢ t)
none_at {V = V} (e ∷ es) t none = go (e.0 == t) refl (none_at es t)
  where
    go : (b : Bool) → (e.0 == t) ≡ b → (at es t ≡ None → All (λ x. x.0 ≢ t) es) → All (λ x. x.0 ≢ t) (e ∷ es)
    go true is rest = let no : Some e.1 ≡ None = rw (is_at_number t e.0 ∙ is) at none in cc
    go false is rest = All-cons (λ (x : ℕ × V). x.0 ≢ t) e es (eqb-false e.0 t is) (rest (rw (is_at_number t e.0 ∙ is) at none))

-- where no request waits for the run of a job, none does
pub none_on : {B C I : Type 0} (job : ℕ) (es : List (ℕ × Requested B C I)) → tickets_on job es ≡ [] → All (λ e. is_on job e.1.phase ≡ false) es
none_on {B = B} {C = C} {I = I} job [] is = All-nil (λ (e : ℕ × Requested B C I). is_on job e.1.phase ≡ false)
none_on {B = B} {C = C} {I = I} job (e ∷ es) is = go (is_on job e.1.phase) refl (none_on job es)
  where
    go : (b : Bool) → is_on job e.1.phase ≡ b → (tickets_on job es ≡ [] → All (λ x. is_on job x.1.phase ≡ false) es) → All (λ x. is_on job x.1.phase ≡ false) (e ∷ es)
    go true on rest = let no : e.0 ∷ tickets_on job es ≡ [] = rw on at is in cc
    go false off rest = All-cons (λ (x : ℕ × Requested B C I). is_on job x.1.phase ≡ false) e es off (rest (rw off at is))

-- where the request that is taken out doesn't wait for a run, the same ones wait for it as before
pub tickets_stay : {B C I : Type 0} (job t : ℕ) (es : List (ℕ × Requested B C I)) (r : Requested B C I) → IsStrictlySortedBy nat_cmp (keys_of es) → at es t ≡ Some r → is_on job r.phase ≡ false
    → tickets_on job (without es t) ≡ tickets_on job es
tickets_stay job t [] r sorted there off = refl
tickets_stay job t (e ∷ es) r sorted there off = go (e.0 == t) refl (tickets_stay job t es r (sorted_tail nat_cmp e.0 (keys_of es) sorted))
  where
    found : (e.0 == t) ≡ true → e.1 ≡ r
    found same = let here : Some e.1 ≡ Some r = rw (is_at_number t e.0 ∙ same) at there in search

    rest : (e.0 == t) ≡ false → at es t ≡ Some r
    rest other = rw (is_at_number t e.0 ∙ other) at there

    stays : (b : Bool) → is_on job e.1.phase ≡ b → tickets_on job (without es t) ≡ tickets_on job es → tickets_on job (e ∷ without es t) ≡ tickets_on job (e ∷ es)
    stays true is more = rw is (ap (λ ts. e.0 ∷ ts) more)
    stays false is more = rw is more

    go : (b : Bool) → (e.0 == t) ≡ b → (at es t ≡ Some r → is_on job r.phase ≡ false → tickets_on job (without es t) ≡ tickets_on job es) → tickets_on job (without (e ∷ es) t) ≡ tickets_on job (e ∷ es)
    go true same more =
        let one : without es t ≡ es = subst (λ k. without es k ≡ es) (eqb-true e.0 t same) (above e.0 es (sorted_head nat_cmp e.0 (keys_of es) sorted)) in
        let quiet : is_on job e.1.phase ≡ false = ap (λ (q : Requested _ _ _). is_on job q.phase) (found same) ∙ off in
        rw same (ap (λ l. tickets_on job l) one ∙ rw quiet refl)
    go false other more = rw other (stays (is_on job e.1.phase) refl (more (rest other) off))
