-- The points that layers show, and what is known of them.
use Rattle.std.proofs.Common.{◌≡◌, ℕ, ◌<◌, ◌≤◌, ◌==◌, ◌||◌, Bool, true, false, if◌then◌else◌, List, [], ◌∷◌, ◌++◌}
use Rattle.std.proofs.Common.{refl, sym, ap, ◌∙◌, arith, inl, inr}
use Rattle.std.specs.List.{list_any}
use Rattle.std.proofs.lemmas.Bool.{eqb-true}
use Rattle.std.proofs.lemmas.Bool.Decides.{nat_tests}
use Rattle.stateful_db.specs.Chain.{IsPoint, has_id}
use Rattle.stateful_db_overlay.specs.Stack.{Stack, has_layer, above, above_in, cut_at}

-- `After changes s t`: the changes of a batch on the state s give the state t
module _ {C S : Type 0} (After : C → S → S → Type 0) where
  -- These points are those of the layers over the base, and the ids fall.
  abbrev pub Stands : ℕ → List (ℕ × C) → List (ℕ × S) → Type 0
  Stands b [] [] = ⊥
  Stands b [] (p ∷ []) = b ≡ p.0
  Stands b [] (p ∷ q ∷ c) = ⊥
  Stands b (l ∷ ls) [] = ⊥
  Stands b (l ∷ ls) (p ∷ []) = ⊥
  Stands b (l ∷ ls) (p ∷ q ∷ c) =
      (l.0 ≡ p.0) × ((q.0 < p.0) × (After l.1 q.1 p.1 × Stands b ls (q ∷ c)))

  -- the changes of the layers, one after another, lead from a state to another
  abbrev pub Leads : List (ℕ × C) → S → S → Type 0
  Leads [] s t = t ≡ s
  Leads (l ∷ ls) s t = (u : S) × (Leads ls s u × After l.1 u t)

  -- no point has a greater id than the newest
  point_le : (b : ℕ) (ls : List (ℕ × C)) (q : ℕ × S) (c : List (ℕ × S)) (p : ℕ × S)
      → Stands b ls (q ∷ c)
      → IsPoint p (q ∷ c)
      → p.0 ≤ q.0
  point_le b [] q [] p h (inl e) = let k : p.0 ≡ q.0 = ap (λ z. z.0) e in omega arith
  point_le b [] q [] p h (inr x) = absurd x
  point_le b [] q (r ∷ c) p h i = absurd h
  point_le b (l ∷ ls) q [] p h i = absurd h
  point_le b (l ∷ ls) q (r ∷ c) p h (inl e) = let k : p.0 ≡ q.0 = ap (λ z. z.0) e in omega arith
  point_le b (l ∷ ls) q (r ∷ c) p h (inr i) =
      let k : p.0 ≤ r.0 = point_le b ls r c p h.1.1.1 i in omega (arith, h.1.0)

  is_other : (a b : ℕ) → b < a → (a == b) ≡ false
  is_other a b h = grind (arith, nat_tests)

  is_same : (a b : ℕ) → a ≡ b → (a == b) ≡ true
  is_same a b h = grind (arith, nat_tests)

  -- a layer more on these
  pub has_layer-more : (s : Stack C) (l : ℕ × C) (n : ℕ)
      → has_layer (record { base = s.base; layers = l ∷ s.layers }) n
      ≡ ((l.0 == n) || has_layer s n)
  has_layer-more s l n = swap (s.base == n) (l.0 == n) (list_any (λ k. k.0 == n) s.layers)
    where
      swap : (x y z : Bool) → (x || (y || z)) ≡ (y || (x || z))
      swap true true z = refl
      swap true false z = refl
      swap false y z = refl

  -- the ids of the points are those of the layers
  pub has_id-layers : (b : ℕ) (ls : List (ℕ × C)) (c : List (ℕ × S)) (n : ℕ)
      → Stands b ls c
      → has_id c n ≡ has_layer (record { base = b; layers = ls }) n
  has_id-layers b [] [] n h = absurd h
  has_id-layers b [] (p ∷ []) n h = ap (λ i. (i == n) || false) (sym h)
  has_id-layers b [] (p ∷ q ∷ c) n h = absurd h
  has_id-layers b (l ∷ ls) [] n h = absurd h
  has_id-layers b (l ∷ ls) (p ∷ []) n h = absurd h
  has_id-layers b (l ∷ ls) (p ∷ q ∷ c) n h =
      ap (λ i. (i == n) || has_id (q ∷ c) n) (sym h.0)
      ∙ ap (λ r. (l.0 == n) || r) (has_id-layers b ls (q ∷ c) n h.1.1.1)
      ∙ sym (has_layer-more (record { base = b; layers = ls }) l n)

  -- the base has the lowest id
  base_le : (b : ℕ) (ls : List (ℕ × C)) (q : ℕ × S) (c : List (ℕ × S))
      → Stands b ls (q ∷ c)
      → b ≤ q.0
  base_le b [] q [] h = omega (arith, h)
  base_le b [] q (r ∷ c) h = absurd h
  base_le b (l ∷ ls) q [] h = absurd h
  base_le b (l ∷ ls) q (r ∷ c) h =
      let low : b ≤ r.0 = base_le b ls r c h.1.1.1 in omega (arith, h.1.0)

  -- so no layer has it
  above-base : (b : ℕ) (ls : List (ℕ × C)) (c : List (ℕ × S)) (n : ℕ)
      → Stands b ls c
      → b ≡ n
      → above n ls ≡ ls
  above-base b [] c n h is = refl
  above-base b (l ∷ ls) [] n h is = absurd h
  above-base b (l ∷ ls) (p ∷ []) n h is = absurd h
  above-base b (l ∷ ls) (p ∷ q ∷ c) n h is =
      let low : b ≤ q.0 = base_le b ls q c h.1.1.1 in
      rw (is_other l.0 n (omega (arith, h.0, h.1.0)))
      (ap (λ xs. l ∷ xs) (above-base b ls (q ∷ c) n h.1.1.1 is))

  -- where layers stand on a base it doesn't matter that the base is tested first
  pub above_in-above : (s : Stack C) (c : List (ℕ × S)) (n : ℕ)
      → Stands s.base s.layers c
      → above_in n s ≡ above n s.layers
  above_in-above s c n h = pick (s.base == n) refl
    where
      pick : (b : Bool)
          → (s.base == n) ≡ b
          → (if b then s.layers else above n s.layers) ≡ above n s.layers
      pick true is = sym (above-base s.base s.layers c n h (eqb-true s.base n is))
      pick false is = refl

  -- the layers above a point of a chain lead from its state to the newest
  leads-layers : (b : ℕ) (ls : List (ℕ × C)) (q : ℕ × S) (c : List (ℕ × S)) (n : ℕ) (s : S)
      → Stands b ls (q ∷ c)
      → IsPoint (n, s) (q ∷ c)
      → Leads (above n ls) s q.1
  leads-layers b [] q [] n s h (inl e) = ap (λ z. z.1) (sym e)
  leads-layers b [] q [] n s h (inr x) = absurd x
  leads-layers b [] q (r ∷ c) n s h i = absurd h
  leads-layers b (l ∷ ls) q [] n s h i = absurd h
  leads-layers b (l ∷ ls) q (r ∷ c) n s h (inl e) =
      let same : l.0 ≡ n = h.0 ∙ ap (λ z. z.0) (sym e) in
      rw (is_same l.0 n same) (ap (λ z. z.1) (sym e))
  leads-layers b (l ∷ ls) q (r ∷ c) n s h (inr i) =
      let low : n ≤ r.0 = point_le b ls r c (n, s) h.1.1.1 i in
      rw (is_other l.0 n (omega (arith, h.0, h.1.0)))
      (r.1, (leads-layers b ls r c n s h.1.1.1 i, h.1.1.0))

  -- so do those of a look-up at the point where a database is
  pub leads-above : (b : ℕ) (ls : List (ℕ × C)) (q : ℕ × S) (c : List (ℕ × S)) (n : ℕ) (s : S)
      → Stands b ls (q ∷ c)
      → IsPoint (n, s) (q ∷ c)
      → Leads (above_in n (record { base = b; layers = ls })) s q.1
  leads-above b ls q c n s h i =
      rw (above_in-above (record { base = b; layers = ls }) (q ∷ c) n h)
      (leads-layers b ls q c n s h i)

  -- the chain down to a point is shown by the layers above the point
  stands-layers : (b : ℕ) (ls : List (ℕ × C)) (newer older : List (ℕ × S)) (p : ℕ × S)
      → Stands b ls (newer ++ p ∷ older)
      → Stands p.0 (above p.0 ls) (newer ++ p ∷ [])
  stands-layers b [] [] [] p h = refl
  stands-layers b [] [] (q ∷ older) p h = absurd h
  stands-layers b (l ∷ ls) [] [] p h = absurd h
  stands-layers b (l ∷ ls) [] (q ∷ older) p h = rw (is_same l.0 p.0 h.0) refl
  stands-layers b [] (r ∷ []) older p h = absurd h
  stands-layers b [] (r ∷ t ∷ newer) older p h = absurd h
  stands-layers b (l ∷ ls) (r ∷ []) older p h =
      rw (is_other l.0 p.0 (omega (arith, h.0, h.1.0)))
      (h.0, (h.1.0, (h.1.1.0, stands-layers b ls [] older p h.1.1.1)))
  stands-layers b (l ∷ ls) (r ∷ t ∷ newer) older p h =
      let low : p.0 ≤ t.0 = point_le b ls t (newer ++ p ∷ older) p h.1.1.1 (is_in newer older p) in
      rw (is_other l.0 p.0 (omega (arith, h.0, h.1.0)))
      (h.0, (h.1.0, (h.1.1.0, stands-layers b ls (t ∷ newer) older p h.1.1.1)))
    where
      is_in : (newer older : List (ℕ × S)) (p : ℕ × S) → IsPoint p (t ∷ newer ++ p ∷ older)
      is_in newer older p = inr (inside newer)
        where
          inside : (xs : List (ℕ × S)) → IsPoint p (xs ++ p ∷ older)
          inside [] = inl refl
          inside (x ∷ xs) = inr (inside xs)

  -- so it is by those of a look-up there
  pub stands-above : (b : ℕ) (ls : List (ℕ × C)) (newer older : List (ℕ × S)) (p : ℕ × S)
      → Stands b ls (newer ++ p ∷ older)
      → Stands p.0 (above_in p.0 (record { base = b; layers = ls })) (newer ++ p ∷ [])
  stands-above b ls newer older p h =
      rw (above_in-above (record { base = b; layers = ls }) (newer ++ p ∷ older) p.0 h)
      (stands-layers b ls newer older p h)

  -- an id of a point of the chain is among its ids
  has_id-point : (newer older : List (ℕ × S)) (p : ℕ × S) → has_id (newer ++ p ∷ older) p.0 ≡ true
  has_id-point [] older p = rw (is_same p.0 p.0 refl) refl
  has_id-point (r ∷ newer) older p = rw (has_id-point newer older p) (or_true (r.0 == p.0))
    where
      or_true : (x : Bool) → (x || true) ≡ true
      or_true true = refl
      or_true false = refl

  -- the layers that are cut at a point of the chain show it down to that point
  pub stands-cut : (s : Stack C) (newer older : List (ℕ × S)) (p : ℕ × S)
      → Stands s.base s.layers (newer ++ p ∷ older)
      → Stands (cut_at p.0 s).base (cut_at p.0 s).layers (newer ++ p ∷ [])
  stands-cut s newer older p h =
      rw
      (sym (has_id-layers s.base s.layers (newer ++ p ∷ older) p.0 h)
      ∙ has_id-point newer older p)
      (stands-above s.base s.layers newer older p h)
