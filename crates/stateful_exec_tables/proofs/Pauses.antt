-- What a pause leaves of the tables.
use Rattle.std.proofs.Common.{◌≡◌, ◌<◌, ◌≤◌, ◌+◌, ◌++◌, ◌∷◌, [], ◌↔◌, ◌⊎◌, inl, inr, ◌||◌, ℕ, zero, suc, Bool, true, false, cond, None, List, Any, Contains, length, refl, sym, ap, ◌∙◌, subst, arith}
use Rattle.std.specs.Ordering.{nat_cmp, is_eq, MatchOrdering}
use Rattle.std.specs.declared.cmp.Ordering.{Ordering}
use Rattle.std.specs.declared.cmp.Ordering.TheVariants.{Less, Equal, Greater}
use Rattle.std.proofs.lemmas.Cmp.{ranked}
use Rattle.std.specs.List.{list_any}
use Rattle.std.specs.List.Sorted.{IsStrictlySortedBy}
use Rattle.std.proofs.lemmas.Map.Views.{Contains-from_any}
use Rattle.std.specs.List.{filter_map}
use Rattle.std.proofs.lemmas.List.{append-nil}
use Rattle.std.proofs.lemmas.List.Elements.{filter_map-append}
use Rattle.stateful_exec_walk.specs.Path.{Path}
use Rattle.stateful_exec_tables.specs.Phase.{parked_path, parked_from, parked_in}
use Rattle.stateful_exec_walk.specs.declared.request.Request.{Request}
use Rattle.stateful_exec_tables.specs.Tables.{Rises}
use Rattle.stateful_exec_tables.specs.Pausing.{IsCount, none, one, other}
use Rattle.stateful_exec_tables.specs.declared.state.Tables.{Tables}
use Rattle.stateful_exec_tables.specs.declared.tables.Phase.{Phase}
use Rattle.stateful_exec_tables.specs.declared.tables.Phase.TheVariants.{Fetching, Parked}
use Rattle.stateful_exec_tables.specs.declared.tables.Requested.{Requested}

-- where nothing but requests changes the numbers stay
pub same_numbers : {B C I R U : Type 0} (whole now : Tables B C I R U) (requests : List (ℕ × Requested B C I)) → now ≡ record whole { requests = requests } → Rises whole now
same_numbers whole now requests is = subst (λ (v : Tables _ _ _ _ _). Rises whole v) (sym is) (omega arith, omega arith)

-- a number in a set
abbrev pub same : ℕ → ℕ → Bool
same a b = is_eq (nat_cmp a b)

same_number : (a b : ℕ) → same a b ≡ true → a ≡ b
same_number a b is = go (nat_cmp a b) (ranked a b (nat_cmp a b) refl) is
  where
    go : (o : Ordering) → MatchOrdering o (a < b) (a ≡ b) (b < a) → is_eq o ≡ true → a ≡ b
    go Less lt t = cc
    go Equal e t = e
    go Greater gt t = cc

same_itself : (a b : ℕ) → a ≡ b → same a b ≡ true
same_itself a b is = go (nat_cmp a b) (ranked a b (nat_cmp a b) refl)
  where
    go : (o : Ordering) → MatchOrdering o (a < b) (a ≡ b) (b < a) → is_eq o ≡ true
    go Less lt = absurd (omega (arith, lt, is))
    go Equal e = refl
    go Greater gt = absurd (omega (arith, gt, is))

any-contains : (d : ℕ) (ks : List ℕ) → Contains ks d → list_any (same d) ks ≡ true
any-contains d [] h = absurd (omega (arith, h.1))
any-contains d (k ∷ ks) (zero, l, e) = first (same d k) (same_itself d k (sym e))
  where
    first : (b : Bool) → b ≡ true → (b || list_any (same d) ks) ≡ true
    first true t = refl
    first false t = cc
any-contains d (k ∷ ks) (suc i, l, e) = there (same d k) (any-contains d ks (i, omega (arith, l), e))
  where
    there : (b : Bool) → list_any (same d) ks ≡ true → (b || list_any (same d) ks) ≡ true
    there true t = refl
    there false t = t

-- once a number is put in, exactly this one and those before are there
pub finds_more : (k : ℕ) (old new : List ℕ) → ((d : ℕ) → list_any (same d) new ≡ cond (same k d) true (list_any (same d) old)) → (d : ℕ) → Contains new d ↔ ((d ≡ k) ⊎ Contains old d)
finds_more k old new puts d = (into (same k d) refl, back (same k d) refl)
  where
    into : (b : Bool) → same k d ≡ b → Contains new d → (d ≡ k) ⊎ Contains old d
    into true is h = inl (sym (same_number k d is))
    into false is h = inr (Contains-from_any same_number d old (sym (puts d ∙ ap (λ x. cond x true (list_any (same d) old)) is) ∙ any-contains d new h))

    back : (b : Bool) → same k d ≡ b → (d ≡ k) ⊎ Contains old d → Contains new d
    back true is h = Contains-from_any same_number d new (puts d ∙ ap (λ x. cond x true (list_any (same d) old)) is)
    back false is (inl e) = let t : same k d ≡ true = same_itself k d (sym e) in cc
    back false is (inr h) = Contains-from_any same_number d new ((puts d ∙ ap (λ x. cond x true (list_any (same d) old)) is) ∙ any-contains d old h)

injective : {B : Type 0} {a b : ℕ} (p : Phase B) → p ≡ Fetching a → p ≡ Fetching b → a ≡ b
injective {a = a} {b = b} p x y = let z : Fetching a ≡ Fetching b = sym x ∙ y in search

-- nothing but requests changed, and they are these now
pub rebuilt : {B C I R U : Type 0} (whole now : Tables B C I R U) (before then after : List (ℕ × Requested B C I)) → now ≡ record whole { requests = before } → then ≡ after
    → record now { requests = then } ≡ record whole { requests = after }
rebuilt whole now before then after held is = ap (λ (v : Tables _ _ _ _ _). record v { requests = then }) held ∙ ap (λ rs. record whole { requests = rs }) is

module _ {B C I : Type 0} (done : List (ℕ × Requested B C I)) (t : ℕ) (r : Requested B C I) where
  -- a parked request comes last of these
  pub parked_more : (request : Request B C I) (path : Path B) → r.request ≡ request → r.phase ≡ Parked path
      → parked_in done ++ record { ticket = t; request = request; path = path } ∷ [] ≡ parked_in (done ++ (t, r) ∷ [])
  parked_more request path same parked = sym (filter_map-append parked_from done ((t, r) ∷ []) ∙ ap (λ w. parked_in done ++ w) one)
    where
      one : filter_map parked_from ((t, r) ∷ []) ≡ record { ticket = t; request = request; path = path } ∷ []
      one = rw (parked, same) refl

  -- another one leaves them
  pub parked_same : parked_path r.phase ≡ None → parked_in done ≡ parked_in (done ++ (t, r) ∷ [])
  parked_same unparked = sym (filter_map-append parked_from done ((t, r) ∷ []) ∙ ap (λ w. parked_in done ++ w) none_one ∙ append-nil (parked_in done))
    where
      none_one : filter_map parked_from ((t, r) ∷ []) ≡ []
      none_one = rw unparked refl

-- the numbers of the fetches of some requests
module _ {B C I : Type 0} where
  abbrev pub IsFetched : List (ℕ × Requested B C I) → ℕ → Type 0
  IsFetched es f = Any (λ e. e.1.phase ≡ Fetching f) es

  -- so many requests are left; the numbers of the fetches of the others are in the set
  pub record Collects (whole rest : List (ℕ × Requested B C I)) (fetches : List ℕ) : Type 0 where
    pub ascending : IsStrictlySortedBy nat_cmp fetches
    pub sound : (f : ℕ) → Contains fetches f → IsFetched whole f
    pub whole_is : (f : ℕ) → IsFetched whole f → Contains fetches f ⊎ IsFetched rest f
    pub within : (f : ℕ) → IsFetched rest f → IsFetched whole f

  pub Collects-first : (whole rest : List (ℕ × Requested B C I)) (fetches : List ℕ) → rest ≡ whole → fetches ≡ [] → IsStrictlySortedBy nat_cmp fetches → Collects whole rest fetches
  Collects-first whole rest fetches is empty ascending = record {
    ascending = ascending;
    sound = λ f h. let no = subst (λ (l : List ℕ). Contains l f) empty h in absurd (omega (arith, no.1));
    whole_is = λ f any. inr (subst (λ (l : List (ℕ × Requested B C I)). IsFetched l f) (sym is) any);
    within = λ f any. subst (λ (l : List (ℕ × Requested B C I)). IsFetched l f) is any;
  }

  first_or_rest : (e : ℕ × Requested B C I) (es : List (ℕ × Requested B C I)) (f : ℕ) → IsFetched (e ∷ es) f → (e.1.phase ≡ Fetching f) ⊎ IsFetched es f
  first_or_rest e es f (zero, x, l, is, p) = inl (ap (λ (y : ℕ × Requested B C I). y.1.phase) is ∙ p)
  first_or_rest e es f (suc k, x, l, is, p) = inr (k, x, omega (arith, l), is, p)

  behind : (e : ℕ × Requested B C I) (es : List (ℕ × Requested B C I)) (f : ℕ) → IsFetched es f → IsFetched (e ∷ es) f
  behind e es f any = (suc any.0, any.1, omega (arith, any.2), any.3, any.4)

  module _ (whole rest more : List (ℕ × Requested B C I)) (fetches : List ℕ) (collects : Collects whole rest fetches) (n : ℕ) (r : Requested B C I) (step : rest ≡ (n, r) ∷ more) where
    next : (f : ℕ) → IsFetched ((n, r) ∷ more) f → IsFetched whole f
    next f any = collects.within f (subst (λ (l : List (ℕ × Requested B C I)). IsFetched l f) (sym step) any)

    pub Collects-none : ((f : ℕ) → r.phase ≡ Fetching f → ⊥) → Collects whole more fetches
    Collects-none not = record {
      ascending = collects.ascending;
      sound = collects.sound;
      whole_is = λ f any. go f (collects.whole_is f any);
      within = λ f any. next f (behind (n, r) more f any);
    }
      where
        on : (f : ℕ) → (r.phase ≡ Fetching f) ⊎ IsFetched more f → Contains fetches f ⊎ IsFetched more f
        on f (inl is) = absurd (not f is)
        on f (inr any) = inr any

        go : (f : ℕ) → Contains fetches f ⊎ IsFetched rest f → Contains fetches f ⊎ IsFetched more f
        go f (inl c) = inl c
        go f (inr any) = on f (first_or_rest (n, r) more f (subst (λ (l : List (ℕ × Requested B C I)). IsFetched l f) step any))

    pub Collects-one : (g : ℕ) → r.phase ≡ Fetching g → (now : List ℕ) → ((f : ℕ) → Contains now f ↔ ((f ≡ g) ⊎ Contains fetches f)) → IsStrictlySortedBy nat_cmp now → Collects whole more now
    Collects-one g is now adds ascending = record {
      ascending = ascending;
      sound = λ f h. sound f ((adds f).0 h);
      whole_is = λ f any. go f (collects.whole_is f any);
      within = λ f any. next f (behind (n, r) more f any);
    }
      where
        sound : (f : ℕ) → (f ≡ g) ⊎ Contains fetches f → IsFetched whole f
        sound f (inl same) = next f (zero, (n, r), omega arith, refl, is ∙ ap (λ (x : ℕ). Fetching x) (sym same))
        sound f (inr c) = collects.sound f c

        on : (f : ℕ) → (r.phase ≡ Fetching f) ⊎ IsFetched more f → Contains now f ⊎ IsFetched more f
        on f (inl has) = inl ((adds f).1 (inl (injective r.phase has is)))
        on f (inr any) = inr any

        go : (f : ℕ) → Contains fetches f ⊎ IsFetched rest f → Contains now f ⊎ IsFetched more f
        go f (inl c) = inl ((adds f).1 (inr c))
        go f (inr any) = on f (first_or_rest (n, r) more f (subst (λ (l : List (ℕ × Requested B C I)). IsFetched l f) step any))

  pub Collects-all : (whole rest : List (ℕ × Requested B C I)) (fetches : List ℕ) → Collects whole rest fetches → rest ≡ [] → (f : ℕ) → Contains fetches f ↔ IsFetched whole f
  Collects-all whole rest fetches c ends f = (c.sound f, λ any. go (c.whole_is f any))
    where
      go : Contains fetches f ⊎ IsFetched rest f → Contains fetches f
      go (inl h) = h
      go (inr any) = let no = subst (λ (l : List (ℕ × Requested B C I)). IsFetched l f) ends any in absurd (omega (arith, no.2))

-- a count of those that have a property, with what is left
module _ {T : Type 0} (P : T → Type 0) (whole : List T) where
  pub record Counts (rest : List T) (count : ℕ) : Type 0 where
    pub counts : (k : ℕ) → IsCount P rest k → IsCount P whole (count + k)
    pub bound : count + length rest ≤ length whole

  pub Counts-first : (rest : List T) (count : ℕ) → rest ≡ whole → count ≡ 0 → Counts rest count
  Counts-first rest count is start = rw start (record {
    counts = λ k c. subst (λ (n : ℕ). IsCount P whole n) (omega arith) (subst (λ (l : List T). IsCount P l k) is c);
    bound = let same_length = ap (λ (l : List T). length l) is in omega (arith, same_length);
  })

  module _ (rest more : List T) (count : ℕ) (c : Counts rest count) (x : T) (step : rest ≡ x ∷ more) where
    longer : length rest ≡ suc (length more)
    longer = ap (λ (l : List T). length l) step

    pub Counts-one : P x → Counts more (count + 1)
    Counts-one p = record {
      counts = λ k h. subst (λ (n : ℕ). IsCount P whole n) (omega arith) (c.counts (k + 1) (subst (λ (l : List T). IsCount P l (k + 1)) (sym step) (one p h)));
      bound = omega (arith, c.bound, longer);
    }

    pub Counts-other : (P x → ⊥) → Counts more count
    Counts-other not = record {
      counts = λ k h. c.counts k (subst (λ (l : List T). IsCount P l k) (sym step) (other not h));
      bound = omega (arith, c.bound, longer);
    }

    pub Counts-room : count + 1 ≤ length whole
    Counts-room = omega (arith, c.bound, longer)

  pub Counts-all : (rest : List T) (count : ℕ) → Counts rest count → rest ≡ [] → IsCount P whole count
  Counts-all rest count c ends = subst (λ (n : ℕ). IsCount P whole n) (omega arith) (c.counts 0 (subst (λ (l : List T). IsCount P l 0) (sym ends) none))
