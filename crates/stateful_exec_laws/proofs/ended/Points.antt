-- A block that isn't at hand gets a point, and what is at hand goes over.
use Rattle.std.proofs.Common.{◌≡◌, ◌≢◌, ◌⊎◌, ◌++◌, ◌<◌, inl, inr, ℕ, zero, suc, List, [], ◌∷◌, length, get_or, Option, Bool, true, false, if◌then◌else◌, Contains, All, sym, ◌∙◌, ap, subst, refl, arith}
use Rattle.std.specs.Prelude.{bytes_eq}
use Rattle.std.proofs.lemmas.Slice.Eq.{bytes_eq-Decides}
use Rattle.std.proofs.lemmas.List.Elements.{Contains-append_left, Contains-push, Contains-push_cases}
use Rattle.stateful_base.specs.Names.{Named}
use Rattle.stateful_base.specs.declared.anchor.Anchor.{Anchor}
use Rattle.stateful_base.specs.declared.digest.Digest.{Digest}
use Rattle.stateful_db.specs.Chain.{IsPoint}
use Rattle.stateful_history.specs.Past.{Past, Came, Made}
use Rattle.stateful_history.specs.Met.{Met, TrueNames}
use Rattle.stateful_history.specs.declared.event.Event.TheVariants.{Turn}
use Rattle.stateful_history.specs.declared.mark.How.{How}
use Rattle.stateful_history.specs.declared.mark.Mark.TheVariants.{Ended}
use Rattle.stateful_exec_cache.specs.Cache.{IsIn, IsAtHand, InOrder}
use Rattle.stateful_exec_cache.specs.declared.cache.Cached.{Cached}
use Rattle.stateful_exec_model.specs.Workings.{Workings, Point}
use Rattle.stateful_exec_laws.specs.Setting.{setting}
use Rattle.stateful_exec_laws.specs.Chains.{Stacked, here, further, Chain, Leads}
use Rattle.stateful_exec_laws.specs.Caching.{IsCached}
use Rattle.stateful_exec_laws.proofs.ended.Runs.{Moves}

-- the points with another one at a digest
abbrev same_digest : Digest → Digest → Bool
same_digest d e = bytes_eq d.0 e.0

abbrev pub with_point : {P : Type 0} → (Digest → P) → Digest → P → Digest → P
with_point points d p e = if same_digest e d then p else points e

same_digest-refl : (d : Digest) → same_digest d d ≡ true
same_digest-refl d = (bytes_eq-Decides d.0 d.0).1 refl

same_digest-other : (d e : Digest) → e ≢ d → same_digest e d ≡ false
same_digest-other d e ne = go (same_digest e d) refl
  where
    go : (b : Bool) → same_digest e d ≡ b → b ≡ false
    go true is = absurd (ne (ap (λ (x : List ℕ). record { 0 = x }) ((bytes_eq-Decides e.0 d.0).0 is)))
    go false is = refl

-- two digests are equal or not
pub same_or_not : (d e : Digest) → (d ≡ e) ⊎ (d ≢ e)
same_or_not d e = go (same_digest d e) refl
  where
    go : (b : Bool) → same_digest d e ≡ b → (d ≡ e) ⊎ (d ≢ e)
    go true is = inl (ap (λ (x : List ℕ). record { 0 = x }) ((bytes_eq-Decides d.0 e.0).0 is))
    go false is = inr (λ same. let no : true ≡ false = sym ((bytes_eq-Decides d.0 e.0).1 (ap (λ (x : Digest). x.0) same)) ∙ is in cc)

if_true : {X : Type 0} {b : Bool} (x y : X) → b ≡ true → (if b then x else y) ≡ x
if_true x y e = rw e refl

if_false : {X : Type 0} {b : Bool} (x y : X) → b ≡ false → (if b then x else y) ≡ y
if_false x y e = rw e refl

pub with_point-at : {P : Type 0} (points : Digest → P) (d : Digest) (p : P) → with_point points d p d ≡ p
with_point-at points d p = if_true p (points d) (same_digest-refl d)

pub with_point-other : {P : Type 0} (points : Digest → P) (d : Digest) (p : P) (e : Digest) → e ≢ d → with_point points d p e ≡ points e
with_point-other points d p e ne = if_false p (points e) (same_digest-other d e ne)

module _ {U : Type 0} (anchor : Digest) where
  InOrder-more : (earlier : List Digest) (cache : List (Cached U)) (e : Cached U) → InOrder anchor earlier cache → (e.parent ≡ anchor) ⊎ (Contains earlier e.parent ⊎ IsIn cache e.parent) → InOrder anchor earlier (cache ++ e ∷ [])
  InOrder-more earlier [] e o (inl is) = (inl is, tt)
  InOrder-more earlier [] e o (inr (inl c)) = (inr c, tt)
  InOrder-more earlier [] e o (inr (inr a)) = absurd (omega (arith, a.2))
  InOrder-more earlier (x ∷ xs) e o (inl is) = (o.0, InOrder-more (earlier ++ x.digest ∷ []) xs e o.1 (inl is))
  InOrder-more earlier (x ∷ xs) e o (inr (inl c)) = (o.0, InOrder-more (earlier ++ x.digest ∷ []) xs e o.1 (inr (inl (Contains-append_left earlier (x.digest ∷ []) e.parent c))))
  InOrder-more earlier (x ∷ xs) e o (inr (inr a)) = (o.0, InOrder-more (earlier ++ x.digest ∷ []) xs e o.1 (inr (cases a)))
    where
      cases : IsIn (x ∷ xs) e.parent → Contains (earlier ++ x.digest ∷ []) e.parent ⊎ IsIn xs e.parent
      cases (zero, y, l, at, is) = inl (subst (λ d. Contains (earlier ++ x.digest ∷ []) d) (ap (λ (c : Cached U). c.digest) at ∙ is) (Contains-push earlier x.digest))
      cases (suc k, y, l, at, is) = let m : k < length xs = omega (arith, l) in inr (k, y, m, at, is)

  -- an entry behind its parent comes last
  pub InOrder-push : (cache : List (Cached U)) (e : Cached U) → InOrder anchor [] cache → (e.parent ≡ anchor) ⊎ IsIn cache e.parent → InOrder anchor [] (cache ++ e ∷ [])
  InOrder-push cache e o (inl is) = InOrder-more [] cache e o (inl is)
  InOrder-push cache e o (inr a) = InOrder-more [] cache e o (inr (inr a))

  in_longer : (x : Cached U) (xs : List (Cached U)) (d : Digest) → IsIn xs d → IsIn (x ∷ xs) d
  in_longer x xs d (k, y, l, at, is) = (suc k, y, omega (arith, l), at, is)

  parent_in : (earlier : List Digest) (cache : List (Cached U)) → InOrder anchor earlier cache → (k : ℕ) (y : Cached U) → k < length cache → get_or cache k y ≡ y → (y.parent ≡ anchor) ⊎ (Contains earlier y.parent ⊎ IsIn cache y.parent)
  parent_in earlier [] o k y l at = absurd (omega (arith, l))
  parent_in earlier (x ∷ xs) o zero y l at = subst (λ (c : Cached U). (c.parent ≡ anchor) ⊎ (Contains earlier c.parent ⊎ IsIn (x ∷ xs) c.parent)) at (elim o.0 [ inl is ↦ inl is | inr c ↦ inr (inl c) ])
  parent_in earlier (x ∷ xs) o (suc k) y l at = elim (parent_in (earlier ++ x.digest ∷ []) xs o.1 k y (omega (arith, l)) at) [
    | inl is ↦ inl is
    | inr (inl c) ↦ elim (Contains-push_cases earlier x.digest y.parent c) [ inl before ↦ inr (inl before) | inr own ↦ inr (inr (zero, x, omega arith, refl, own)) ]
    | inr (inr a) ↦ inr (inr (in_longer x xs y.parent a))
  ]

  -- the parent of an entry is the anchor, or cached
  pub parent_at_hand : (cache : List (Cached U)) → InOrder anchor [] cache → (k : ℕ) (y : Cached U) → k < length cache → get_or cache k y ≡ y → (y.parent ≡ anchor) ⊎ IsIn cache y.parent
  parent_at_hand cache o k y l at = elim (parent_in [] cache o k y l at) [ inl is ↦ inl is | inr (inl c) ↦ absurd (omega (arith, c.1)) | inr (inr a) ↦ inr a ]

module _ {B C I P R D H G U : Type 0} (w : Workings B C I P R D H G U) where
  -- the databases are in each chain
  pub Stacked-point : {points : Digest → Point w} {L : w.States → Named B → w.States → Type 0} {first d : Digest} {c : List (Point w)} → Stacked w points L first d c → IsPoint (points first) c
  Stacked-point {points = points} (here e at) = inl (sym (at ∙ ap points e))
  Stacked-point (further e at s ne l) = inr (Stacked-point s)

  -- from one past to another that has its blocks and is led along as it was
  module _ (stored : ℕ → Option (Named B)) (p q : Past B C I) (still_met : (b : Named B) → Met (setting w stored) p b → Met (setting w stored) q b) (still_leads : (t : w.States) (b : Named B) (u : w.States) → Leads w stored p t b u → Leads w stored q t b u) where
    Chain-same : {points : Digest → Point w} {first d : Digest} {c : List (Point w)} → Chain w stored p points first d c → Chain w stored q points first d c
    Chain-same (here e at) = here e at
    Chain-same (further e at s ne l) = further e at (Chain-same s) ne (still_leads _ _ _ l)

    -- all is over the same points
    pub Moves-same : (points : Digest → Point w) (anchor : Anchor) (cache : List (Cached U)) → Moves w stored p q points points anchor cache
    Moves-same points anchor cache = record { met = still_met; same = λ d at_hand. refl; chain = λ d c at_hand chain. Chain-same chain }

    module _ (points : Digest → Point w) (next : w.Ids) (anchor : Anchor) (cache : List (Cached U)) (names : TrueNames (setting w stored) p) (each : All (IsCached w stored p points next anchor) cache) (order : InOrder anchor.digest [] cache)
        (own : Digest) (unknown : IsAtHand anchor cache own → ⊥) (top : Point w) where
      stays_at_hand : (d : Digest) → IsAtHand anchor cache d → with_point points own top d ≡ points d
      stays_at_hand d at_hand = with_point-other points own top d (λ e. unknown (subst (λ (x : Digest). IsAtHand anchor cache x) e at_hand))

      parent_there : (d : Digest) (b : Named B) → Met (setting w stored) p b → b.digest ≡ d → d ≢ anchor.digest → IsAtHand anchor cache d → IsAtHand anchor cache (w.header.parent b.block)
      parent_there d b met e ne (inl is) = absurd (ne is)
      parent_there d b met e ne (inr (k, y, l, at, is)) =
          let h : IsCached w stored p points next anchor y = subst (λ (x : Cached U). IsCached w stored p points next anchor x) at (each k y l) in
          let same : h.block ≡ b = names h.block b h.met met (h.digest_is ∙ is ∙ sym e) in
          let parent : y.parent ≡ w.header.parent b.block = sym h.parent_is ∙ ap (λ (x : Named B). w.header.parent x.block) same in
          subst (λ (x : Digest). IsAtHand anchor cache x) parent (parent_at_hand anchor.digest cache order k y l at)

      Chain-to : {d : Digest} {c : List (Point w)} → Chain w stored p points anchor.digest d c → IsAtHand anchor cache d → Chain w stored q (with_point points own top) anchor.digest d c
      Chain-to (here e at) at_hand = here e (at ∙ sym (stays_at_hand _ at_hand))
      Chain-to (further e at s ne l) at_hand = further e (at ∙ sym (stays_at_hand _ at_hand)) (Chain-to s (parent_there _ _ l.met e ne at_hand)) ne (still_leads _ _ _ l)

      -- a block that isn't at hand gets its point
      pub Moves-to : Moves w stored p q points (with_point points own top) anchor cache
      Moves-to = record { met = still_met; same = stays_at_hand; chain = λ d c at_hand chain. Chain-to chain at_hand }

  module _ (stored : ℕ → Option (Named B)) (p : Past B C I) (j : ℕ) (how : How) where
    abbrev ended : Past B C I
    ended = Made (Ended j how) ∷ Came (Turn j) ∷ p

    met-turned : (b : Named B) → Met (setting w stored) p b → Met (setting w stored) ended b
    met-turned b met = inr (inr met)

    pub Leads-turned : (t : w.States) (b : Named B) (u : w.States) → Leads w stored p t b u → Leads w stored ended t b u
    Leads-turned t b u l = record { met = inr (inr l.met); matches = l.matches; earned = l.earned }

    -- all is over the same points
    pub Moves-turned : (points : Digest → Point w) (anchor : Anchor) (cache : List (Cached U)) → Moves w stored p ended points points anchor cache
    Moves-turned points anchor cache = Moves-same stored p ended met-turned Leads-turned points anchor cache

    module _ (points : Digest → Point w) (next : w.Ids) (anchor : Anchor) (cache : List (Cached U)) (names : TrueNames (setting w stored) p) (each : All (IsCached w stored p points next anchor) cache) (order : InOrder anchor.digest [] cache)
        (own : Digest) (unknown : IsAtHand anchor cache own → ⊥) (top : Point w) where
      -- a block that isn't at hand gets its point
      pub Moves-with : Moves w stored p ended points (with_point points own top) anchor cache
      Moves-with = Moves-to stored p ended met-turned Leads-turned points next anchor cache names each order own unknown top
