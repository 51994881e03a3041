-- A block is stuck over what is at hand: a missing ancestor of it is bad on a known one, or the anchor is missing.
use Rattle.std.proofs.Common.{◌≡◌, ◌≢◌, ◌≤◌, ◌⊎◌, inl, inr, ℕ, List, ◌∷◌, Option, MatchOption, sym, ap, ◌∙◌, subst}
use Rattle.stateful_base.specs.Names.{Named}
use Rattle.stateful_base.specs.declared.anchor.Anchor.{Anchor}
use Rattle.stateful_base.specs.declared.digest.Digest.{Digest}
use Rattle.stateful_history.specs.Known.{Known, IsUnknown, IsPastTip}
use Rattle.stateful_history.specs.Met.{Met}
use Rattle.stateful_history.specs.Past.{Past}
use Rattle.stateful_history.specs.Reasons.{Missing, above, IsCovered, IsBad, FailsOnKnown, LeavesTip, HasReason}
use Rattle.stateful_history.specs.Declines.{IsOutOfReach}
use Rattle.stateful_history.specs.Canonical.{IsCanonical}
use Rattle.stateful_history.specs.Setting.{parent_of}
use Rattle.stateful_history.specs.States.{HasState}
use Rattle.stateful_history.specs.Telling.{telling_of}
use Rattle.stateful_exec_cache.specs.Cache.{IsIn, IsAtHand}
use Rattle.stateful_exec_cache.specs.declared.cache.Cached.{Cached}
use Rattle.stateful_exec_model.specs.Workings.{Workings, Point}
use Rattle.stateful_exec_pause.specs.declared.pause.Pause.{Pause}
use Rattle.stateful_exec_laws.specs.Setting.{setting}
use Rattle.stateful_exec_laws.specs.Chains.{here, further, Chain}
use Rattle.stateful_exec_laws.specs.Reaching.{IsLost}
use Rattle.stateful_exec_laws.proofs.reasons.Missing.{Missing-last, Missing-first, Missing-split}
use Rattle.stateful_exec_laws.proofs.reasons.Ground.{IsGround, block_of, chain_of, parent_at, HasState-on, top_is}
use Rattle.stateful_exec_laws.proofs.reasons.Known.{known_or_not, anchor_low, anchor_not_late, cached_late}

module _ {B C I P R D H G U : Type 0} (w : Workings B C I P R D H G U) (stored : ℕ → Option (Named B)) (base : w.States) (p : Past B C I) (anchor : Anchor) where
  -- the anchor is missing of the block, and is no higher than the tip
  pub record LeavesAnchor (b : Named B) : Type 0 where
    pub ancestor : Named B
    pub missing : Missing (setting w stored) base p b ancestor
    pub is : ancestor.digest ≡ anchor.digest
    pub covered : IsCovered (setting w stored) base p ancestor

  abbrev pub IsStuck : Named B → Type 0
  IsStuck b = FailsOnKnown (setting w stored) base p b ⊎ LeavesAnchor b

  stuck_unknown : (b : Named B) → IsStuck b → IsUnknown (setting w stored) p b.digest
  stuck_unknown b (inl fails) = Missing-first (setting w stored) base p fails.missing
  stuck_unknown b (inr leaves) = Missing-first (setting w stored) base p leaves.missing

  leaves_tip : (b : Named B) → b.digest ≢ anchor.digest → LeavesAnchor b → LeavesTip (setting w stored) base p b
  leaves_tip b other leaves = elim (Missing-split (setting w stored) base p leaves.missing) [
    | inl own ↦ absurd (other (ap (λ (c : Named B). c.digest) own ∙ leaves.is))
    | inr on ↦ record { ancestor = leaves.ancestor; missing = on; covered = leaves.covered }
  ]

  -- so it may be judged false, where it isn't final and isn't the anchor
  pub HasReason-stuck : (b : Named B) → b.digest ≢ anchor.digest → (IsCanonical (setting w stored) p b → ⊥) → IsStuck b → HasReason (setting w stored) base p b
  HasReason-stuck b other not_final stuck = record {
    unknown = stuck_unknown b stuck;
    not_final = not_final;
    because = inr (elim stuck [
      | inl fails ↦ inl fails
      | inr leaves ↦ inr (inr (leaves_tip b other leaves))
    ]);
  }

  -- and a proposal on it may be declined
  pub IsOutOfReach-stuck : (b : Named B) → IsStuck b → IsOutOfReach (setting w stored) (telling_of w.works) base p b
  IsOutOfReach-stuck b stuck = record {
    unknown = stuck_unknown b stuck;
    because = elim stuck [
      | inl fails ↦ inl fails
      | inr leaves ↦ inr (leaves.ancestor, leaves.missing, inr leaves.covered)
    ];
  }

module _ {B C I P R D H G U : Type 0} (w : Workings B C I P R D H G U) (stored : ℕ → Option (Named B)) (base : w.States) (p : Past B C I) (points : Digest → Point w) (point : Point w) (next : w.Ids) (tip : Anchor)
    (pause : Pause) (anchor : Anchor) (cache : List (Cached U)) (g : IsGround w stored base p points point next tip pause anchor cache) where
  anchor_covered : (x : Named B) → Met (setting w stored) p x → x.digest ≡ anchor.digest → IsCovered (setting w stored) base p x
  anchor_covered x met is =
      let height_is : anchor.height.0 ≡ w.header.height x.block = ap (λ (a : Anchor). a.height.0) (top_is w stored base p points point next tip pause anchor cache g x met is) in
      let low : anchor.height.0 ≤ tip.height.0 = anchor_low w stored base p points point next tip pause anchor cache g in
      subst (λ (o : Option Anchor). MatchOption o ⊥ (λ t. w.header.height x.block ≤ t.height.0)) (sym g.folded.tip_is) (subst (λ (n : ℕ). n ≤ tip.height.0) height_is low)

  -- a block of which one at hand is missing is lost, or the anchor is missing of it
  pub record IsBelow (b : Named B) : Type 0 where
    pub first : Named B
    pub missing : Missing (setting w stored) base p b first
    pub met : Met (setting w stored) p first
    pub late : IsPastTip (setting w stored) p first → ⊥
    pub because : (Known (setting w stored) p (parent_of (setting w stored) first) × IsAtHand anchor cache (parent_of (setting w stored) first)) ⊎ (first.digest ≡ anchor.digest)

  -- the anchor isn't later than the tip
  anchor_late : (x : Named B) → Met (setting w stored) p x → x.digest ≡ anchor.digest → IsPastTip (setting w stored) p x → ⊥
  anchor_late x met is late = anchor_not_late w stored base p points point next tip pause anchor cache g x met is late

  pub below_at_hand : {d : Digest} {at : Point w} {c : List (Point w)} → Chain w stored p points anchor.digest d (at ∷ c) → IsAtHand anchor cache d → (b x : Named B) → Missing (setting w stored) base p b x → Met (setting w stored) p x → x.digest ≡ d → IsBelow b
  below_at_hand (here e at) at_hand b x missing met is = record { first = x; missing = missing; met = met; late = anchor_late x met (is ∙ e); because = inr (is ∙ e) }
  below_at_hand (further e at_is chain ne leads) (inl own) b x missing met is = absurd (ne own)
  below_at_hand (further {q = q} {b = y} e at_is chain ne leads) (inr any) b x missing met is =
      let one : y ≡ x = g.names y x leads.met met (e ∙ sym is) in
      let on : parent_of (setting w stored) y ≡ parent_of (setting w stored) x = ap (λ (z : Named B). parent_of (setting w stored) z) one in
      let cached : IsIn cache x.digest = subst (λ (z : Digest). IsIn cache z) (sym is) any in
      let parent : IsAtHand anchor cache (parent_of (setting w stored) y) = subst (λ (z : Digest). IsAtHand anchor cache z) (sym on) (parent_at w stored base p points point next tip pause anchor cache g x met cached) in
      elim (known_or_not w stored base p points point next tip pause anchor cache g (parent_of (setting w stored) y) parent) [
        | inl known ↦
            let known_x : Known (setting w stored) p (parent_of (setting w stored) x) = subst (λ (z : Digest). Known (setting w stored) p z) on known in
            record {
              first = x;
              missing = missing;
              met = met;
              late = cached_late w stored base p points point next tip pause anchor cache g x met cached (Missing-last (setting w stored) base p missing) known_x;
              because = inl (known_x, subst (λ (z : Digest). IsAtHand anchor cache z) on parent);
            }
        | inr unknown ↦
            let c = block_of w stored base p points point next tip pause anchor cache g (parent_of (setting w stored) y) parent in
            below_at_hand chain parent b c.0 (above missing c.1 (c.2 ∙ on) (subst (λ (z : Digest). Known (setting w stored) p z → ⊥) (sym c.2) unknown)) c.1 c.2
      ]

  -- so it is stuck
  stuck_from : (b : Named B) → IsBelow b → IsStuck w stored base p anchor b
  stuck_from b h = elim h.because [
    | inl known ↦
        let on = chain_of w stored base p points point next tip pause anchor cache g (parent_of (setting w stored) h.first) known.1 in
        inl (record {
          first = h.first;
          missing = h.missing;
          known = known.0;
          state = (points (parent_of (setting w stored) h.first)).1;
          has_state = HasState-on w stored base p points point next tip pause anchor cache g on.1;
          bad = inr (inr (inr h.late));
        })
    | inr is ↦ inr (record { ancestor = h.first; missing = h.missing; is = is; covered = anchor_covered h.first h.met is })
  ]

  -- and lost
  pub IsLost-below : (b : Named B) → IsBelow b → IsLost w stored base p b
  IsLost-below b h = record { first = h.first; missing = h.missing; met = h.met; late = h.late; because = elim h.because [ inl known ↦ inl known.0 | inr is ↦ inr (anchor_covered h.first h.met is) ] }

  -- and so is one of which a block with its parent at hand is missing, where that is bad as long as the parent is known
  pub stuck_on : (b x : Named B) → Missing (setting w stored) base p b x → IsAtHand anchor cache (parent_of (setting w stored) x)
      → (Known (setting w stored) p (parent_of (setting w stored) x) → (t : w.States) × HasState (setting w stored) base p (parent_of (setting w stored) x) t × IsBad (setting w stored) base p t x) → IsStuck w stored base p anchor b
  stuck_on b x missing parent bad = elim (known_or_not w stored base p points point next tip pause anchor cache g (parent_of (setting w stored) x) parent) [
    | inl known ↦ let h = bad known in inl (record { first = x; missing = missing; known = known; state = h.0; has_state = h.1; bad = h.2 })
    | inr unknown ↦
        let c = block_of w stored base p points point next tip pause anchor cache g (parent_of (setting w stored) x) parent in
        let on = chain_of w stored base p points point next tip pause anchor cache g (parent_of (setting w stored) x) parent in
        stuck_from b (below_at_hand on.1 parent b c.0 (above missing c.1 c.2 (subst (λ (z : Digest). Known (setting w stored) p z → ⊥) (sym c.2) unknown)) c.1 c.2)
  ]
