-- chains of batches: what their layers show over the state on which they stand
use Rattle.std.proofs.Common.{◌≡◌, ℕ, ◌+◌, ◌<◌, ◌==◌, ◌||◌, Bool, true, false, List, [], ◌∷◌, ◌++◌, Option, refl, sym, ap, subst, ◌∙◌, arith}
use Rattle.std.specs.Ordering.{nat_cmp}
use Rattle.std.specs.BTreeMap.{BTreeMap, insert_entry}
use Rattle.std.proofs.lemmas.Bool.Decides.{nat_tests}
use Rattle.stateful_base.specs.declared.target.Target.{Target}
use Rattle.stateful_db.specs.Chain.{has_id}
use Rattle.stateful_db_overlay.specs.Stack.{Stack, has_layer, above, above_in, cut_at}
use Rattle.stateful_db_overlay.specs.Chains.{Stands, has_id-layers, above_in-above, stands-cut}
use Rattle.stateful_db_plain.specs.Whole.{Whole, put, value_at}
use Rattle.stateful_db_plain.specs.Writes.{Change, Makes, Roots, value_over, value_through, IsInOrder}
use Rattle.stateful_db_plain.specs.Shown.{After, EndsAt, DraftShows, SealShows}
use Rattle.stateful_db_plain.specs.declared.batch.PlainUnmerkleized.{PlainUnmerkleized}
use Rattle.stateful_db_plain.specs.declared.batch.PlainMerkleized.{PlainMerkleized}
use Rattle.stateful_db_plain.proofs.Entries.{same_entries}
use Rattle.stateful_db_plain.proofs.Written.{gives_put, gives_one}

-- what the layers say of a key over the state on which they stand is the value of the newest point
layers_show : (b : ℕ) (ls : List (ℕ × Change)) (q : ℕ × Whole) (c : List (ℕ × Whole)) (w : Whole) (key : ℕ) → Stands After b ls (q ∷ c) → EndsAt (q ∷ c) w
    → value_at q.1.entries key ≡ value_through ls key (value_at w.entries key)
layers_show b [] q [] w key h e = ap (λ (s : Whole). value_at s.entries key) e
layers_show b [] q (r ∷ c) w key h e = absurd h
layers_show b (l ∷ ls) q [] w key h e = absurd h
layers_show b (l ∷ ls) q (r ∷ c) w key h e =
    h.1.1.0.0.values key ∙ ap (λ o. value_over l.1.writes key o) (layers_show b ls r c w key h.1.1.1 e)

is_other : (a b : ℕ) → a < b → (a == b) ≡ false
is_other a b h = grind (arith, nat_tests)

is_same : (a : ℕ) → (a == a) ≡ true
is_same a = grind (arith, nat_tests)

-- no layer has a greater id than the newest point
above_all : (b n : ℕ) (ls : List (ℕ × Change)) (q : ℕ × Whole) (c : List (ℕ × Whole)) → Stands After b ls (q ∷ c) → q.0 < n → above n ls ≡ ls
above_all b n [] q c h less = refl
above_all b n (l ∷ ls) q [] h less = absurd h
above_all b n (l ∷ ls) q (r ∷ c) h less =
    rw (is_other l.0 n (omega (arith, h.0))) (ap (λ xs. l ∷ xs) (above_all b n ls r c h.1.1.1 (omega (arith, h.1.0))))

-- nor has the base
all_in : (s : Stack Change) (n : ℕ) (q : ℕ × Whole) (c : List (ℕ × Whole)) → Stands After s.base s.layers (q ∷ c) → q.0 < n → above_in n s ≡ s.layers
all_in s n q c h less = above_in-above After s (q ∷ c) n h ∙ above_all s.base n s.layers q c h less

-- a point of a chain has one of its ids
has_point : (newer older : List (ℕ × Whole)) (p : ℕ × Whole) → has_id (newer ++ p ∷ older) p.0 ≡ true
has_point [] older p = ap (λ b. b || has_id older p.0) (is_same p.0)
has_point (r ∷ newer) older p = ap (λ b. (r.0 == p.0) || b) (has_point newer older p) ∙ or_true (r.0 == p.0)
  where
    or_true : (b : Bool) → (b || true) ≡ true
    or_true true = refl
    or_true false = refl

-- the last of these points
ends_at : (newer : List (ℕ × Whole)) (p : ℕ × Whole) → EndsAt (newer ++ p ∷ []) p.1
ends_at [] p = refl
ends_at (q ∷ []) p = refl
ends_at (q ∷ r ∷ newer) p = ends_at (r ∷ newer) p

-- what is made of the entries of a state
pub makes_from : (ws own : List (ℕ × Option ℕ)) (ls below : List (ℕ × Change)) (es out : List (ℕ × ℕ)) (s t : Whole) → ws ≡ own → ls ≡ below → es ≡ s.entries → t.entries ≡ out → IsInOrder out
    → ((key : ℕ) → value_at out key ≡ value_over ws key (value_through ls key (value_at es key)))
    → Makes own below s t
makes_from ws own ls below es out s t is_own is_below is_base is_out up values =
    let Up : List (ℕ × ℕ) → Type 0 = λ xs. IsInOrder xs in
    record {
      ordered = subst Up (sym is_out) up;
      values = λ key.
          ap (λ xs. value_at xs key) is_out
          ∙ values key
          ∙ ap (λ xs. value_over xs key (value_through ls key (value_at es key))) is_own
          ∙ ap (λ xs. value_over own key (value_through xs key (value_at es key))) is_below
          ∙ ap (λ xs. value_over own key (value_through below key (value_at xs key))) is_base;
    }

-- there is only one such state of a size
pub makes_one : (own : List (ℕ × Option ℕ)) (below : List (ℕ × Change)) (s t v : Whole) → t.size ≡ v.size → Makes own below s t → Makes own below s v → t ≡ v
makes_one own below s t v size one two =
    let entries = same_entries t.entries v.entries one.ordered two.ordered (λ key. one.values key ∙ sym (two.values key)) in
    λ i. record { size = size i; entries = entries i }

-- the target of equal batches is that of their state
pub roots_same : (l k : ℕ × Change) (b a : Stack Change) (s t : Whole) → k ≡ l → a ≡ b → t ≡ s → Roots l.1.target l.1.writes (above_in l.0 b) s → Roots k.1.target k.1.writes (above_in k.0 a) t
roots_same l k b a s t is_layer is_below is_base roots =
    let L : ℕ × Change → Type 0 = λ x. Roots x.1.target x.1.writes (above_in x.0 b) s in
    let B : Stack Change → Type 0 = λ x. Roots k.1.target k.1.writes (above_in k.0 x) s in
    let S : Whole → Type 0 = λ x. Roots k.1.target k.1.writes (above_in k.0 a) x in
    subst S (sym is_base) (subst B (sym is_below) (subst L (sym is_layer) roots))

-- the id of its first point
pub seal_id : (m : PlainMerkleized) (p : ℕ × Whole) (c : List (ℕ × Whole)) → SealShows m (p ∷ c) → m.layer.0 ≡ p.0
seal_id m p [] h = absurd h.layers
seal_id m p (q ∷ c) h = h.layers.0

-- a state of the size that a sealed batch leads to, which it makes of the state on which its layers stand, is its own
pub seal_state : (m : PlainMerkleized) (p : ℕ × Whole) (c : List (ℕ × Whole)) (v : Whole) → SealShows m (p ∷ c) → v.size ≡ m.layer.1.target.end.0
    → Makes m.layer.1.writes (above_in m.layer.0 m.below) m.base v
    → v ≡ p.1
seal_state m p [] v h size makes = absurd h.layers
seal_state m p (q ∷ c) v h size makes =
    let own = m.layer.1.writes in
    let after : After m.layer.1 q.1 p.1 = h.layers.1.1.0 in
    let stands : Stands After m.below.base m.below.layers (q ∷ c) = h.layers.1.1.1 in
    let later : q.0 < m.layer.0 = omega (arith, h.layers.0, h.layers.1.0) in
    gives_one own q.1 v p.1
    (record {
      size = size ∙ ap (λ (g : Target). g.end.0) after.1 ∙ after.0.size;
      ordered = makes.ordered;
      values = λ key.
          makes.values key
          ∙ ap (λ ls. value_over own key (value_through ls key (value_at m.base.entries key))) (all_in m.below m.layer.0 q c stands later)
          ∙ sym (ap (λ o. value_over own key o) (layers_show m.below.base m.below.layers q c m.base key stands h.base));
    })
    after.0

module _ (u : PlainUnmerkleized) where
  -- a read of a batch that may still change
  pub draft_value : (p : ℕ × Whole) (c : List (ℕ × Whole)) (key : ℕ) → DraftShows u (p ∷ c)
      → value_at p.1.entries key ≡ value_over u.writes.entries key (value_through u.below.layers key (value_at u.base.entries key))
  draft_value p [] key h = absurd h.stands
  draft_value p (q ∷ c) key h =
      h.stands.gives.values key ∙ ap (λ o. value_over u.writes.entries key o) (layers_show u.below.base u.below.layers q c u.base key h.stands.layers h.stands.base)

  -- its ids
  pub draft_has : (c : List (ℕ × Whole)) (n : ℕ) → DraftShows u c → has_id c n ≡ ((u.id == n) || has_layer u.below n)
  draft_has [] n h = absurd h.stands
  draft_has (p ∷ []) n h = absurd h.stands
  draft_has (p ∷ q ∷ c) n h =
      ap (λ i. (i == n) || has_id (q ∷ c) n) h.stands.id
      ∙ ap (λ b. (u.id == n) || b) (has_id-layers After u.below.base u.below.layers (q ∷ c) n h.stands.layers)

  -- none of its layers has its own id
  pub draft_layers : (c : List (ℕ × Whole)) → DraftShows u c → above_in u.id u.below ≡ u.below.layers
  draft_layers [] h = absurd h.stands
  draft_layers (p ∷ []) h = absurd h.stands
  draft_layers (p ∷ q ∷ c) h = all_in u.below u.id q c h.stands.layers (omega (arith, h.stands.id, h.stands.later))

  -- a state that has what it reads is the one that it shows
  pub draft_state : (p : ℕ × Whole) (c : List (ℕ × Whole)) (s : Whole) → DraftShows u (p ∷ c) → s.size ≡ u.size + 1 → IsInOrder s.entries
      → ((key : ℕ) → value_at s.entries key ≡ value_over u.writes.entries key (value_through u.below.layers key (value_at u.base.entries key)))
      → s ≡ p.1
  draft_state p [] s h size up reads = absurd h.stands
  draft_state p (q ∷ c) s h size up reads =
      gives_one u.writes.entries q.1 s p.1
      (record {
        size = size ∙ ap (λ n. n + 1) h.stands.size;
        ordered = up;
        values = λ key. reads key ∙ sym (ap (λ o. value_over u.writes.entries key o) (layers_show u.below.base u.below.layers q c u.base key h.stands.layers h.stands.base));
      })
      h.stands.gives

  -- it has one write more
  pub draft_write : (writes : BTreeMap ℕ (Option ℕ)) (p : ℕ × Whole) (c : List (ℕ × Whole)) (key : ℕ) (value : Option ℕ) → writes.entries ≡ insert_entry nat_cmp u.writes.entries key value
      → DraftShows u (p ∷ c) → DraftShows (record u { writes = writes }) ((p.0, record p.1 { entries = put p.1.entries key value }) ∷ c)
  draft_write writes p [] key value is h = absurd h.stands
  draft_write writes p (q ∷ c) key value is h = record {
    stands =
        record {
          id = h.stands.id;
          later = h.stands.later;
          layers = h.stands.layers;
          base = h.stands.base;
          size = h.stands.size;
          gives = gives_put u.writes.entries writes.entries q.1 p.1 key value is h.stands.gives;
        };
  }

  -- the layers that a database at a point of its chain has taken in are dropped
  pub draft_cut : (v : PlainUnmerkleized) (r q p : ℕ × Whole) (newer older : List (ℕ × Whole)) → v ≡ record u { below = cut_at p.0 u.below; base = p.1 }
      → DraftShows u (r ∷ q ∷ newer ++ p ∷ older) → DraftShows v (r ∷ q ∷ newer ++ p ∷ [])
  draft_cut v r q p newer older is h =
      let Shows : PlainUnmerkleized → Type 0 = λ w. DraftShows w (r ∷ q ∷ newer ++ p ∷ []) in
      subst Shows (sym is) (record {
        stands =
            record {
              id = h.stands.id;
              later = h.stands.later;
              layers = stands-cut After u.below (q ∷ newer) older p h.stands.layers;
              base = ends_at (q ∷ newer) p;
              size = h.stands.size;
              gives = h.stands.gives;
            };
      })

  -- a point of its parent's chain is the base or a layer
  pub draft_at : (r q p : ℕ × Whole) (newer older : List (ℕ × Whole)) → DraftShows u (r ∷ q ∷ newer ++ p ∷ older) → has_layer u.below p.0 ≡ true
  draft_at r q p newer older h =
      sym (has_id-layers After u.below.base u.below.layers (q ∷ newer ++ p ∷ older) p.0 h.stands.layers) ∙ has_point (q ∷ newer) older p

  -- one that isn't is neither
  pub draft_apart : (r q : ℕ × Whole) (c : List (ℕ × Whole)) (n : ℕ) → DraftShows u (r ∷ q ∷ c) → has_id (q ∷ c) n ≡ false → has_layer u.below n ≡ false
  draft_apart r q c n h none = sym (has_id-layers After u.below.base u.below.layers (q ∷ c) n h.stands.layers) ∙ none
