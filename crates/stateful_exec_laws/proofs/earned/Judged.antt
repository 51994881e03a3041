-- A block that is judged valid without a run is joined to the anchor, or the finalized one of its height.
use Rattle.std.proofs.Common.{◌≡◌, ◌≢◌, ◌<◌, ◌⊎◌, inl, inr, ℕ, Option, None, Some, Bool, true, false, nat_lt, ◌==◌, if◌then◌else◌, sym, ◌∙◌, ap, subst, arith, refl, option_map}
use Rattle.std.proofs.lemmas.Grind.{common_steps}
use Rattle.stateful_base.specs.Names.{Named}
use Rattle.stateful_base.specs.declared.anchor.Anchor.{Anchor}
use Rattle.stateful_base.specs.declared.digest.Digest.{Digest}
use Rattle.stateful_history.specs.Anchors.{anchor_of, tip_of}
use Rattle.stateful_history.specs.Canonical.{canonical, canonical_by, kept_at, pruned_below, IsCanonical}
use Rattle.stateful_history.specs.Joined.{Joined}
use Rattle.stateful_history.specs.Known.{Known}
use Rattle.stateful_history.specs.Past.{Past}
use Rattle.stateful_history.specs.Setting.{Setting}
use Rattle.stateful_exec_cache.specs.Cache.{IsAtHand}
use Rattle.stateful_exec_cache.specs.Judgement.{IsDecided, IsJudged}
use Rattle.stateful_exec_cache.specs.declared.judgement.Judgement.TheVariants.{Valid}
use Rattle.stateful_exec_model.specs.Workings.{Workings, Point}
use Rattle.stateful_exec_pause.specs.declared.pause.Pause.{Pause}
use Rattle.stateful_exec_pause.specs.declared.pause.Pause.TheVariants.{Free, Pruning}
use Rattle.stateful_exec_tables.specs.declared.state.Tables.{Tables}
use Rattle.stateful_exec_laws.specs.Setting.{setting}
use Rattle.stateful_exec_laws.specs.Caching.{IsKnownBy}
use Rattle.stateful_exec_laws.specs.Standing.{TablesStand}
use Rattle.stateful_exec_laws.specs.Storing.{IsStoredNow}
use Rattle.stateful_exec_laws.proofs.earned.Path.{IsFolded, Joined-at_hand}

nat_eq-other : (a b : ℕ) → a ≢ b → (a == b) ≡ false
nat_eq-other a b ne = grind (arith, common_steps)

nat_eq-same : (a b : ℕ) → a ≡ b → (a == b) ≡ true
nat_eq-same a b e = grind (arith, common_steps)

nat_lt-below : (a b : ℕ) → a < b → nat_lt a b ≡ true
nat_lt-below a b l = grind (arith, common_steps)

cond_same : {X Y : Type 0} (f : X → Y) (c : Bool) (o : Option X) → (if c then None else option_map f o) ≡ option_map f (if c then None else o)
cond_same f true o = refl
cond_same f false o = refl

nat_lt-not_below : (a b : ℕ) → b < a → nat_lt a b ≡ false
nat_lt-not_below a b l = grind (arith, common_steps)

module _ {B C I S T : Type 0} (s : Setting B S T) (p : Past B C I) (anchor : Anchor) where
  canonical_by-at : (n : ℕ) → n ≡ anchor.height.0 → canonical_by s p n (Some anchor) (Some anchor) ≡ Some anchor.digest
  canonical_by-at n e = rw (nat_eq-same anchor.height.0 n (sym e)) refl

  canonical_by-below : (n : ℕ) → n < anchor.height.0 → canonical_by s p n (Some anchor) (Some anchor) ≡ kept_at s p n
  canonical_by-below n l = let ne : anchor.height.0 ≢ n = omega arith in rw (nat_eq-other anchor.height.0 n ne, nat_lt-below n anchor.height.0 l) refl

  canonical_by-above : (n : ℕ) → anchor.height.0 < n → canonical_by s p n (Some anchor) (Some anchor) ≡ None
  canonical_by-above n l = let ne : anchor.height.0 ≢ n = omega arith in rw (nat_eq-other anchor.height.0 n ne, nat_lt-not_below n anchor.height.0 l) refl

  module _ (anchor_is : anchor_of s.header p ≡ Some anchor) (tip_is : tip_of s.header p ≡ Some anchor) where
    canonical-by : (n : ℕ) → canonical s p n ≡ canonical_by s p n (Some anchor) (Some anchor)
    canonical-by n = rw (tip_is, anchor_is) refl

    -- at the anchor's height the anchor is final
    pub canonical-at : (n : ℕ) → n ≡ anchor.height.0 → canonical s p n ≡ Some anchor.digest
    canonical-at n e = canonical-by n ∙ canonical_by-at n e

    -- above it none is
    pub canonical-above : (n : ℕ) → anchor.height.0 < n → canonical s p n ≡ None
    canonical-above n l = canonical-by n ∙ canonical_by-above n l

    -- below it what the store still has
    pub canonical-below : (stored_now : ℕ → Option (Named B)) → IsStoredNow s.stored p stored_now → (n : ℕ) (c : Named B) → n < anchor.height.0 → stored_now n ≡ Some c → canonical s p n ≡ Some c.digest
    canonical-below stored_now stored_is n c l is =
        canonical-by n ∙ canonical_by-below n l ∙ cond_same (λ (b : Named B). b.digest) (nat_lt n (pruned_below p)) (s.stored n)
        ∙ ap (λ (o : Option (Named B)). option_map (λ (b : Named B). b.digest) o) (sym (stored_is n) ∙ is)

module _ {B C I P R D H G U : Type 0} (w : Workings B C I P R D H G U) (stored : ℕ → Option (Named B)) (base : w.States) (p : Past B C I) (points : Digest → Point w) (point : Point w) (next : w.Ids) (v : Tables B C I R U) (s : TablesStand w stored p points point next v) where
  known-as : (pause : Pause) → v.pause ≡ pause → (d : Digest) → IsKnownBy pause v.anchor v.cache d → Known (setting w stored) p d
  known-as pause is d h = (s.cache.knows d).1 (subst (λ (x : Pause). IsKnownBy x v.anchor v.cache d) (sym is) h)

  -- what is at hand is known, where execution isn't paused
  pub Known-free : v.pause ≡ Free → (d : Digest) → IsAtHand v.anchor v.cache d → Known (setting w stored) p d
  Known-free is d h = known-as Free is d h

  -- and where it is paused for a prune
  pub Known-pruning : v.pause ≡ Pruning → (d : Digest) → IsAtHand v.anchor v.cache d → Known (setting w stored) p d
  Known-pruning is d h = known-as Pruning is d h

  -- what is known is at hand, where execution isn't paused
  pub at_hand-free : v.pause ≡ Free → (d : Digest) → Known (setting w stored) p d → IsAtHand v.anchor v.cache d
  at_hand-free is d k = subst (λ (x : Pause). IsKnownBy x v.anchor v.cache d) is ((s.cache.knows d).0 k)

  module _ (knows : (d : Digest) → IsAtHand v.anchor v.cache d → Known (setting w stored) p d) (folded : IsFolded w stored base p v.anchor v.anchor point) (stored_now : ℕ → Option (Named B)) (stored_is : IsStoredNow stored p stored_now) (b : Named B) where
    -- the block of a decided height is the finalized one
    decided : IsDecided w.header v.anchor v.cache stored_now b (λ d. d ≡ b.digest) → IsCanonical (setting w stored) p b
    decided (inl e) = canonical-at (setting w stored) p v.anchor folded.anchor_is folded.tip_is _ e.0 ∙ ap (λ (x : Digest). Some x) e.1
    decided (inr e) = canonical-below (setting w stored) p v.anchor folded.anchor_is folded.tip_is stored_now stored_is _ e.1.0 e.0 e.1.1 ∙ ap (λ (x : Digest). Some x) e.1.2

    -- a block that is judged valid is joined or final
    pub Earned-judged : IsJudged w.header v.anchor v.cache stored_now b Valid → Joined (setting w stored) base p b.digest ⊎ IsCanonical (setting w stored) p b
    Earned-judged (inl any) = inl (Joined-at_hand w stored base p points point next v s v.anchor folded b.digest (knows b.digest (inr any)) (inr any))
    Earned-judged (inr e) = inr (decided e)
