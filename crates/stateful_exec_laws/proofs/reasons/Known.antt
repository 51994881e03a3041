-- What is known on the ground on which reasons are found, while a finalization goes on and else.
use Rattle.std.proofs.Common.{◌≡◌, ◌≢◌, ◌≤◌, ◌⊎◌, ◌↔◌, inl, inr, ℕ, Bool, true, false, List, Contains, Option, Some, MatchOption, refl, sym, ap, ◌∙◌, subst, arith}
use Rattle.std.specs.List.{list_any}
use Rattle.stateful_base.specs.Names.{Named}
use Rattle.stateful_base.specs.Round.{IsLater}
use Rattle.stateful_base.specs.declared.anchor.Anchor.{Anchor}
use Rattle.stateful_base.specs.declared.digest.Digest.{Digest}
use Rattle.stateful_base.specs.declared.round.Round.{Round}
use Rattle.stateful_history.specs.Known.{Known, is_tip, IsUnknown, IsPastTip}
use Rattle.stateful_history.specs.Met.{Met}
use Rattle.stateful_history.specs.Past.{Past}
use Rattle.stateful_history.specs.Setting.{parent_of}
use Rattle.stateful_exec_cache.specs.Cache.{IsIn, IsAtHand}
use Rattle.stateful_exec_cache.specs.declared.cache.Cached.{Cached}
use Rattle.stateful_exec_cache.proofs.Digests.{same, finds}
use Rattle.stateful_exec_pause.specs.Boundary.{Boundary, step_by, IsRetained}
use Rattle.stateful_exec_model.specs.Workings.{Workings, Point}
use Rattle.stateful_exec_pause.specs.declared.pause.Pause.{Pause}
use Rattle.stateful_exec_pause.specs.declared.pause.Pause.TheVariants.{Free, Finalizing, Pruning}
use Rattle.stateful_exec_laws.specs.Setting.{setting}
use Rattle.stateful_exec_laws.proofs.earned.Path.{IsFolded}
use Rattle.stateful_exec_laws.proofs.earned.Closed.{cached-compatible}
use Rattle.stateful_exec_laws.proofs.ended.Known.{IsLater-self}
use Rattle.stateful_exec_laws.proofs.ended.Points.{same_or_not}
use Rattle.stateful_exec_laws.proofs.reasons.Ground.{IsFinal, IsGround, round_of_top, uncached_anchor}
use Rattle.stateful_exec_laws.proofs.reasons.Missing.{Known-above}

-- later than a later round
pub later_on : (x y z : Round) → IsLater x y → IsLater y z → IsLater x z
later_on x y z (inl l) (inl k) = inl (omega arith)
later_on x y z (inl l) (inr k) = inl (omega (arith, l, k.0))
later_on x y z (inr l) (inl k) = inl (omega (arith, l.0, k))
later_on x y z (inr l) (inr k) = inr (l.0 ∙ k.0, omega (arith, l.1, k.1))

later_apart : (r q : Round) → q ≡ r → IsLater r q → ⊥
later_apart r q same later = IsLater-self r (subst (λ (x : Round). IsLater r x) same later)

module _ {B C I P R D H G U : Type 0} (w : Workings B C I P R D H G U) (stored : ℕ → Option (Named B)) (base : w.States) (p : Past B C I) (points : Digest → Point w) (point : Point w) (next : w.Ids) (tip : Anchor) where
  module _ (pause : Pause) (anchor : Anchor) (cache : List (Cached U)) (g : IsGround w stored base p points point next tip pause anchor cache) where
    -- the tip is known
    pub tip_known : Known (setting w stored) p tip.digest
    tip_known = is_tip g.folded.tip_is

    pub later_than_tip : (b : Named B) → IsPastTip (setting w stored) p b → IsLater tip.round (w.header.round b.block)
    later_than_tip b late = subst (λ (o : Option Anchor). MatchOption o ⊥ (λ t. IsLater t.round (w.header.round b.block))) g.folded.tip_is late

  known_among : (boundary : Boundary) (anchor : Anchor) (cache : List (Cached U)) → IsGround w stored base p points point next tip (Finalizing boundary) anchor cache → (d : Digest) → IsAtHand anchor cache d → (d ≡ boundary.digest) ⊎ (d ≢ boundary.digest) → (found : Bool) → list_any (same d) boundary.compatible ≡ found → Known (setting w stored) p d ⊎ IsUnknown (setting w stored) p d
  known_among boundary anchor cache g d at_hand (inl own) found is = inl ((g.stands.knows d).1 (inl own))
  known_among boundary anchor cache g d (inl e) (inr other) true is = inr (λ known. elim ((g.stands.knows d).0 known) [ inl own ↦ other own | inr both ↦ uncached_anchor w stored base p points point next tip (Finalizing boundary) anchor cache g (subst (λ (x : Digest). IsIn cache x) e both.0) ])
  known_among boundary anchor cache g d (inr any) (inr other) true is = inl ((g.stands.knows d).1 (inr (any, (finds d boundary.compatible).0 is)))
  known_among boundary anchor cache g d at_hand (inr other) false is = inr (λ known. elim ((g.stands.knows d).0 known) [ inl own ↦ other own | inr both ↦ let found = (finds d boundary.compatible).1 both.1 in cc ])

  -- what is at hand is known or not
  pub known_or_not : (pause : Pause) (anchor : Anchor) (cache : List (Cached U)) → IsGround w stored base p points point next tip pause anchor cache → (d : Digest) → IsAtHand anchor cache d → Known (setting w stored) p d ⊎ IsUnknown (setting w stored) p d
  known_or_not Free anchor cache g d at_hand = inl ((g.stands.knows d).1 at_hand)
  known_or_not Pruning anchor cache g d at_hand = inl ((g.stands.knows d).1 at_hand)
  known_or_not (Finalizing boundary) anchor cache g d at_hand = known_among boundary anchor cache g d at_hand (same_or_not d boundary.digest) (list_any (same d) boundary.compatible) refl

  -- the anchor is no higher than the tip
  pub anchor_low : (pause : Pause) (anchor : Anchor) (cache : List (Cached U)) → IsGround w stored base p points point next tip pause anchor cache → anchor.height.0 ≤ tip.height.0
  anchor_low Free anchor cache g = let e : tip ≡ anchor = g.tip_by in rw e (omega arith)
  anchor_low Pruning anchor cache g = let e : tip ≡ anchor = g.tip_by in rw e (omega arith)
  anchor_low (Finalizing boundary) anchor cache g = rw g.tip_by.tip_is g.tip_by.higher

  module _ (boundary : Boundary) (anchor : Anchor) (cache : List (Cached U)) (g : IsGround w stored base p points point next tip (Finalizing boundary) anchor cache) where
    known_compatible : (d : Digest) → Known (setting w stored) p d → Contains boundary.compatible d
    known_compatible d known = elim ((g.stands.knows d).0 known) [ inl own ↦ subst (λ (x : Digest). Contains boundary.compatible x) (sym own) g.tip_by.own | inr both ↦ both.1 ]

    unknown_other : (d : Digest) → IsUnknown (setting w stored) p d → d ≢ boundary.digest
    unknown_other d unknown own = unknown ((g.stands.knows d).1 (inl own))

    -- a block that isn't known, and doesn't go on over the finalization, isn't later than the tip, where its parent is known
    pub unretained_late : (x : Named B) → IsUnknown (setting w stored) p x.digest → Known (setting w stored) p (parent_of (setting w stored) x) → (IsRetained boundary (step_by w.header x) → ⊥) → IsPastTip (setting w stored) p x → ⊥
    unretained_late x unknown parent off late = off (record {
      other = unknown_other x.digest unknown;
      later = subst (λ (r : Round). IsLater r (w.header.round x.block)) (ap (λ (a : Anchor). a.round) g.tip_by.tip_is ∙ sym g.tip_by.round_is) (later_than_tip (Finalizing boundary) anchor cache g x late);
      parent = known_compatible (parent_of (setting w stored) x) parent;
    })

    cached_off : (x : Named B) → Met (setting w stored) p x → IsIn cache x.digest → IsUnknown (setting w stored) p x.digest → IsRetained boundary (step_by w.header x) → ⊥
    cached_off x met any unknown on =
        unknown ((g.stands.knows x.digest).1 (inr (any, cached-compatible w stored p points next anchor cache g.names (round_of_top w stored base p points point next tip (Finalizing boundary) anchor cache g) x met boundary g.stands g.tip_by.closed g.tip_by.later on any)))

    -- a block that is neither the finalized one nor goes on over it isn't known
    pub unretained_unknown : (x : Named B) → Met (setting w stored) p x → x.digest ≢ boundary.digest → (IsRetained boundary (step_by w.header x) → ⊥) → IsUnknown (setting w stored) p x.digest
    unretained_unknown x met other off known = elim (Known-above (setting w stored) known g.names x met refl) [
      | inl at_tip ↦
          let same_tip : Some at_tip.0 ≡ Some tip = sym at_tip.1 ∙ g.folded.tip_is in
          let e : at_tip.0 ≡ tip = cc in
          other (sym at_tip.2 ∙ ap (λ (a : Anchor). a.digest) (e ∙ g.tip_by.tip_is) ∙ sym g.tip_by.digest_is)
      | inr above ↦ off (record {
        other = other;
        later = subst (λ (r : Round). IsLater r (w.header.round x.block)) (ap (λ (a : Anchor). a.round) g.tip_by.tip_is ∙ sym g.tip_by.round_is) (later_than_tip (Finalizing boundary) anchor cache g x above.1);
        parent = known_compatible (parent_of (setting w stored) x) above.0;
      })
    ]

    -- the anchor isn't known while the finalization goes on
    pub anchor_unknown : IsUnknown (setting w stored) p anchor.digest
    anchor_unknown known = elim ((g.stands.knows anchor.digest).0 known) [
      | inl own ↦
          let f : IsFinal w stored p anchor cache tip boundary = g.tip_by in
          let round_is : w.header.round f.block.block ≡ anchor.round = round_of_top w stored base p points point next tip (Finalizing boundary) anchor cache g f.block f.met (sym (own ∙ f.digest_is)) in
          IsLater-self anchor.round (subst (λ (r : Round). IsLater anchor.round r) (f.round_is ∙ round_is) f.later)
      | inr both ↦ uncached_anchor w stored base p points point next tip (Finalizing boundary) anchor cache g both.0
    ]

  -- a cached block that isn't known isn't later than the tip, where its parent is known
  pub cached_late : (pause : Pause) (anchor : Anchor) (cache : List (Cached U)) → IsGround w stored base p points point next tip pause anchor cache → (x : Named B) → Met (setting w stored) p x → IsIn cache x.digest → IsUnknown (setting w stored) p x.digest → Known (setting w stored) p (parent_of (setting w stored) x) → IsPastTip (setting w stored) p x → ⊥
  cached_late Free anchor cache g x met any unknown parent late = unknown ((g.stands.knows x.digest).1 (inr any))
  cached_late Pruning anchor cache g x met any unknown parent late = unknown ((g.stands.knows x.digest).1 (inr any))
  cached_late (Finalizing boundary) anchor cache g x met any unknown parent late = unretained_late boundary anchor cache g x unknown parent (λ on. cached_off boundary anchor cache g x met any unknown on) late

  -- a block of the anchor's digest isn't later than the tip
  pub anchor_not_late : (pause : Pause) (anchor : Anchor) (cache : List (Cached U)) → IsGround w stored base p points point next tip pause anchor cache → (x : Named B) → Met (setting w stored) p x → x.digest ≡ anchor.digest → IsPastTip (setting w stored) p x → ⊥
  anchor_not_late Free anchor cache g x met is late = let e : tip ≡ anchor = g.tip_by in later_apart anchor.round (w.header.round x.block) (round_of_top w stored base p points point next tip Free anchor cache g x met is) (subst (λ (a : Anchor). IsLater a.round (w.header.round x.block)) e (later_than_tip Free anchor cache g x late))
  anchor_not_late Pruning anchor cache g x met is late = let e : tip ≡ anchor = g.tip_by in later_apart anchor.round (w.header.round x.block) (round_of_top w stored base p points point next tip Pruning anchor cache g x met is) (subst (λ (a : Anchor). IsLater a.round (w.header.round x.block)) e (later_than_tip Pruning anchor cache g x late))
  anchor_not_late (Finalizing boundary) anchor cache g x met is late =
      let f : IsFinal w stored p anchor cache tip boundary = g.tip_by in
      later_apart anchor.round (w.header.round x.block) (round_of_top w stored base p points point next tip (Finalizing boundary) anchor cache g x met is)
      (later_on anchor.round tip.round (w.header.round x.block) (subst (λ (r : Round). IsLater anchor.round r) (f.round_is ∙ sym (ap (λ (a : Anchor). a.round) f.tip_is)) f.later) (later_than_tip (Finalizing boundary) anchor cache g x late))

  tip_child : (pause : Pause) (anchor : Anchor) (cache : List (Cached U)) → IsGround w stored base p points point next tip pause anchor cache → (z c : Named B) → z.digest ≢ anchor.digest → c.digest ≢ anchor.digest → Met (setting w stored) p z → c.digest ≡ parent_of (setting w stored) z → z.digest ≡ tip.digest → ⊥
  tip_child Free anchor cache g z c other_z other_c met is at_tip = let e : tip ≡ anchor = g.tip_by in other_z (at_tip ∙ ap (λ (a : Anchor). a.digest) e)
  tip_child Pruning anchor cache g z c other_z other_c met is at_tip = let e : tip ≡ anchor = g.tip_by in other_z (at_tip ∙ ap (λ (a : Anchor). a.digest) e)
  tip_child (Finalizing boundary) anchor cache g z c other_z other_c met is at_tip =
      let f : IsFinal w stored p anchor cache tip boundary = g.tip_by in
      let one : z ≡ f.block = g.names z f.block met f.met (at_tip ∙ ap (λ (a : Anchor). a.digest) f.tip_is) in
      other_c (is ∙ ap (λ (b : Named B). parent_of (setting w stored) b) one ∙ f.on_anchor)

  -- where a block's parent isn't known, the block isn't either, as long as neither is the anchor
  pub unknown_up : (pause : Pause) (anchor : Anchor) (cache : List (Cached U)) → IsGround w stored base p points point next tip pause anchor cache → (z c : Named B) → z.digest ≢ anchor.digest → c.digest ≢ anchor.digest → Met (setting w stored) p z → c.digest ≡ parent_of (setting w stored) z → IsUnknown (setting w stored) p c.digest → IsUnknown (setting w stored) p z.digest
  unknown_up pause anchor cache g z c other_z other_c met is unknown known = elim (Known-above (setting w stored) known g.names z met refl) [
    | inl at_tip ↦ let same_tip : Some at_tip.0 ≡ Some tip = sym at_tip.1 ∙ g.folded.tip_is in let e : at_tip.0 ≡ tip = cc in tip_child pause anchor cache g z c other_z other_c met is (sym at_tip.2 ∙ ap (λ (a : Anchor). a.digest) e)
    | inr parent ↦ unknown (subst (λ (d : Digest). Known (setting w stored) p d) (sym is) parent.0)
  ]

  -- where nothing pauses, the tip is the anchor
  pub tip_free : (pause : Pause) (anchor : Anchor) (cache : List (Cached U)) → pause ≡ Free → IsGround w stored base p points point next tip pause anchor cache → tip ≡ anchor
  tip_free Free anchor cache is g = g.tip_by
  tip_free Pruning anchor cache is g = g.tip_by
  tip_free (Finalizing boundary) anchor cache is g = cc

  pub folded_free : (pause : Pause) (anchor : Anchor) (cache : List (Cached U)) → pause ≡ Free → IsGround w stored base p points point next tip pause anchor cache → IsFolded w stored base p anchor anchor point
  folded_free pause anchor cache is g = subst (λ (a : Anchor). IsFolded w stored base p anchor a point) (tip_free pause anchor cache is g) g.folded

  -- and known is what is at hand
  pub knows_free : (pause : Pause) (anchor : Anchor) (cache : List (Cached U)) → pause ≡ Free → IsGround w stored base p points point next tip pause anchor cache → (d : Digest) → Known (setting w stored) p d ↔ IsAtHand anchor cache d
  knows_free Free anchor cache is g d = g.stands.knows d
  knows_free Pruning anchor cache is g d = g.stands.knows d
  knows_free (Finalizing boundary) anchor cache is g d = cc
