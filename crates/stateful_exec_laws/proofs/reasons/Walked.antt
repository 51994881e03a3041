-- False verdicts and declines have their reasons: what a judgement without a run says, and what a walk finds.
use Rattle.std.proofs.Common.{◌≡◌, ◌≢◌, ◌<◌, ◌≤◌, ◌⊎◌, ◌↔◌, ◌++◌, inl, inr, ℕ, List, [], ◌∷◌, All, Option, Some, MatchOption, sym, ap, ◌∙◌, subst, arith}
use Rattle.std.proofs.lemmas.List.{append_assoc}
use Rattle.std.proofs.lemmas.List.Elements.{All-head, All-tail, All-push, All-weaker}
use Rattle.stateful_base.specs.Names.{Named}
use Rattle.stateful_base.specs.Anchor.{anchor_by}
use Rattle.stateful_base.specs.declared.anchor.Anchor.{Anchor}
use Rattle.stateful_base.specs.declared.digest.Digest.{Digest}
use Rattle.stateful_history.specs.Canonical.{canonical, IsCanonical}
use Rattle.stateful_history.specs.Declines.{IsSkipping, IsOutOfReach}
use Rattle.stateful_history.specs.Known.{Known, IsUnknown}
use Rattle.stateful_history.specs.Met.{Met, TrueNames}
use Rattle.stateful_history.specs.Past.{Past}
use Rattle.stateful_history.specs.Reasons.{Missing, IsMissingAbove, HasReason}
use Rattle.stateful_history.specs.Reasons as reasons
use Rattle.stateful_history.specs.Setting.{Setting, parent_of}
use Rattle.stateful_history.specs.Telling.{telling_of}
use Rattle.stateful_exec_cache.specs.Cache.{IsIn, IsAtHand}
use Rattle.stateful_exec_cache.specs.Judgement.{IsJudged}
use Rattle.stateful_exec_cache.specs.declared.cache.Cached.{Cached}
use Rattle.stateful_exec_cache.specs.declared.judgement.Judgement.TheVariants as judged
use Rattle.stateful_exec_walk.specs.Path.{IsMissing, Leads}
use Rattle.stateful_exec_walk.specs.Walk.{Walks}
use Rattle.stateful_exec_model.specs.Workings.{Workings, Point}
use Rattle.stateful_exec_walk.specs.declared.walk.Acquired.TheVariants as acquired
use Rattle.stateful_exec_laws.specs.Setting.{setting}
use Rattle.stateful_exec_laws.specs.Gathering.{AreLinked}
use Rattle.stateful_exec_laws.proofs.requests.Acquired.{leads_down, first_walked}
use Rattle.stateful_exec_laws.proofs.requests.AdvanceStands.{All-front, All-back}
use Rattle.stateful_exec_laws.specs.Storing.{IsStoredNow}
use Rattle.stateful_exec_laws.proofs.earned.Judged.{canonical-at, canonical-below, canonical-above}
use Rattle.stateful_exec_laws.proofs.earned.Path.{IsFolded}
use Rattle.stateful_exec_laws.proofs.reasons.Missing.{Missing-along, Missing-first}

module _ {B S T : Type 0} (s : Setting B S T) where
  -- blocks that are linked are so behind the first
  pub AreLinked-rest : (b : Named B) (bs : List (Named B)) → AreLinked s (b ∷ bs) → AreLinked s bs
  AreLinked-rest b [] h = tt
  AreLinked-rest b (c ∷ bs) h = h.1

  -- the next one is the parent
  pub AreLinked-next : (before : List (Named B)) (b next : Named B) (more : List (Named B)) → AreLinked s (before ++ b ∷ next ∷ more) → next.digest ≡ parent_of s b
  AreLinked-next [] b next more h = h.0
  AreLinked-next (x ∷ before) b next more h = AreLinked-next before b next more (AreLinked-rest x (before ++ b ∷ next ∷ more) h)

module _ {B C I P R D H G U : Type 0} (w : Workings B C I P R D H G U) (stored : ℕ → Option (Named B)) (base : w.States) (p : Past B C I) (point : Point w) (anchor : Anchor) (cache : List (Cached U))
    (names : TrueNames (setting w stored) p) (folded : IsFolded w stored base p anchor anchor point) (knows : (d : Digest) → Known (setting w stored) p d ↔ IsAtHand anchor cache d)
    (named : (b : Named B) → Met (setting w stored) p b → b.digest ≡ anchor.digest → anchor ≡ anchor_by w.header b) where
  -- a block that isn't at hand isn't known
  pub unknown_out : (d : Digest) → (IsAtHand anchor cache d → ⊥) → IsUnknown (setting w stored) p d
  unknown_out d out known = out ((knows d).0 known)

  -- no higher than the tip
  covered_low : (b : Named B) → w.header.height b.block ≤ anchor.height.0 → reasons.IsCovered (setting w stored) base p b
  covered_low b low = subst (λ (o : Option Anchor). MatchOption o ⊥ (λ t. w.header.height b.block ≤ t.height.0)) (sym folded.tip_is) low

  height_named : (b : Named B) → Met (setting w stored) p b → b.digest ≡ anchor.digest → w.header.height b.block ≡ anchor.height.0
  height_named b met is = sym (ap (λ (a : Anchor). a.height.0) (named b met is))

  module _ (held : ℕ → Option (Named B)) (stored_is : IsStoredNow stored p held) (b : Named B) (met : Met (setting w stored) p b) where
    replaced : (d : Digest) → (IsIn cache b.digest → ⊥) → (b.digest ≡ anchor.digest → ⊥) → w.header.height b.block ≤ anchor.height.0 → canonical (setting w stored) p (w.header.height b.block) ≡ Some d → d ≢ b.digest → HasReason (setting w stored) base p b
    replaced d out other low is differs = record {
      unknown = unknown_out b.digest (λ h. elim h [ inl own ↦ other own | inr any ↦ out any ]);
      not_final = λ final. let e : Some d ≡ Some b.digest = sym is ∙ final in let same : d ≡ b.digest = cc in differs same;
      because = inl (record { covered = covered_low b low; other = d; is = is; differs = differs });
    }

    -- a block that is judged invalid without a run is replaced at its height
    pub HasReason-judged : IsJudged w.header anchor cache held b judged.Invalid → HasReason (setting w stored) base p b
    HasReason-judged (out, inl e) =
        replaced anchor.digest out (λ own. e.1 (sym own)) (omega (arith, e.0)) (canonical-at (setting w stored) p anchor folded.anchor_is folded.tip_is (w.header.height b.block) e.0) e.1
    HasReason-judged (out, inr e) =
        replaced e.1.0.digest out (λ own. let same = height_named b met own in let low = e.0 in let no : ⊥ = omega (arith, same, low) in no) (let low = e.0 in omega (arith, low))
        (canonical-below (setting w stored) p anchor folded.anchor_is folded.tip_is held stored_is (w.header.height b.block) e.1.0 e.0 e.1.1) e.1.2

  -- down a walk all is missing of its first block
  pub record IsWalkedTo (first last : Named B) : Type 0 where
    pub met : Met (setting w stored) p last
    pub missing : Missing (setting w stored) base p first last

  pub IsWalkedTo-leads : (first : Named B) (more : List (Named B)) → All (Met (setting w stored) p) (first ∷ more) → (missing : List (Named B)) (last : Named B) (rest : List (Named B)) → Leads w.header anchor cache (first ∷ more) missing last rest
      → IsUnknown (setting w stored) p last.digest → IsWalkedTo first last
  IsWalkedTo-leads first more met missing last rest leads unknown = record {
    met = All-head (Met (setting w stored) p) last rest (All-back (Met (setting w stored) p) missing (last ∷ rest) all_met);
    missing = subst (λ (x : Named B). Missing (setting w stored) base p x last) (first_walked missing last rest first more leads.parts)
        (Missing-along (setting w stored) base p (λ (z : Named B). IsUnknown (setting w stored) p z.digest) (λ z c none_z none_c there is none. none_z) missing last
        (All-push (λ (z : Named B). IsUnknown (setting w stored) p z.digest) missing last (All-weaker (IsMissing w.header anchor cache) (λ z. IsUnknown (setting w stored) p z.digest) (λ z h. unknown_out z.digest h.unknown) missing leads.each) unknown)
        (All-front (Met (setting w stored) p) (missing ++ last ∷ []) rest (subst (λ (l : List (Named B)). All (Met (setting w stored) p) l) (sym (append_assoc missing (last ∷ []) rest)) all_met))
        (leads_down w.header (missing ++ last ∷ []) leads.descends) unknown);
  }
    where
      all_met : All (Met (setting w stored) p) (missing ++ last ∷ rest)
      all_met = subst (λ (l : List (Named B)). All (Met (setting w stored) p) l) leads.parts met

  -- What a walk in vain has found: missing of the first block is one that is no higher than the anchor, or has a parent of the
  -- history that isn't one lower.
  pub record HasWalked (first : Named B) : Type 0 where
    pub last : Named B
    pub walked : IsWalkedTo first last
    pub because : (w.header.height last.block ≤ anchor.height.0) ⊎ IsSkipping (setting w stored) (telling_of w.works) base p last

  module _ (first : Named B) (more : List (Named B)) (met : All (Met (setting w stored) p) (first ∷ more)) (linked : AreLinked (setting w stored) (first ∷ more)) where
    -- so a walk finds it that makes its request invalid
    pub HasWalked-invalid : (top : List (Named B)) → Walks w.header anchor cache top (first ∷ more) acquired.Invalid → HasWalked first
    HasWalked-invalid top (missing, last, rest, leads, inl covered) = record { last = last; walked = IsWalkedTo-leads first more met missing last rest leads (unknown_out last.digest covered.unknown); because = inl covered.low }
    HasWalked-invalid top (missing, last, rest, leads, inr (is_missing, (next, others, rest_is, off))) =
        record {
          last = last;
          walked = IsWalkedTo-leads first more met missing last rest leads (unknown_out last.digest is_missing.unknown);
          because = inr (record {
            parent = next;
            met = All-head (Met (setting w stored) p) next others (All-tail (Met (setting w stored) p) last (next ∷ others) (All-back (Met (setting w stored) p) missing (last ∷ next ∷ others) (subst (λ (l : List (Named B)). All (Met (setting w stored) p) l) parts met)));
            is_parent = child;
            skips = λ above. off (child, above);
          });
        }
      where
        parts : first ∷ more ≡ missing ++ last ∷ next ∷ others
        parts = leads.parts ∙ ap (λ (l : List (Named B)). missing ++ last ∷ l) rest_is

        child : next.digest ≡ parent_of (setting w stored) last
        child = AreLinked-next (setting w stored) missing last next others (subst (λ (l : List (Named B)). AreLinked (setting w stored) l) parts linked)

  -- a proposal on the first block of such a walk may be declined
  pub IsOutOfReach-walked : (first : Named B) → HasWalked first → IsOutOfReach (setting w stored) (telling_of w.works) base p first
  IsOutOfReach-walked first h = record {
    unknown = Missing-first (setting w stored) base p h.walked.missing;
    because = inr (h.last, h.walked.missing, elim h.because [ inl low ↦ inr (covered_low h.last low) | inr skips ↦ inl skips ]);
  }

  -- A block whose parent is the first block of such a walk may be judged false.
  pub HasReason-walked : (b first : Named B) → Met (setting w stored) p first → first.digest ≡ parent_of (setting w stored) b → IsUnknown (setting w stored) p b.digest
      → (IsCanonical (setting w stored) p b → ⊥) → HasWalked first → HasReason (setting w stored) base p b
  HasReason-walked b first met is unknown not_final h = record {
    unknown = unknown;
    not_final = not_final;
    because = inr (inr (elim h.because [
      | inl low ↦ inr (record { ancestor = h.last; missing = missing; covered = covered_low h.last low })
      | inr skips ↦ inl (record { ancestor = h.last; missing = missing; parent = skips.parent; met = skips.met; is_parent = skips.is_parent; skips = skips.skips })
    ]));
  }
    where
      missing : IsMissingAbove (setting w stored) base p b h.last
      missing = record { parent = first; met = met; is_parent = is; missing = h.walked.missing }

  -- a block above the anchor that isn't cached isn't known
  pub unknown_above : (b : Named B) → Met (setting w stored) p b → (IsIn cache b.digest → ⊥) → anchor.height.0 < w.header.height b.block → IsUnknown (setting w stored) p b.digest
  unknown_above b met out high = unknown_out b.digest (λ h. elim h [ inl own ↦ (let e = height_named b met own in omega arith) | inr any ↦ out any ])

module _ {B C I P R D H G U : Type 0} (w : Workings B C I P R D H G U) (stored : ℕ → Option (Named B)) (p : Past B C I) (anchor : Anchor) (point : Point w) where
  -- nor is one above the anchor final
  pub unfinal_above : (base : w.States) → IsFolded w stored base p anchor anchor point → (b : Named B) → anchor.height.0 < w.header.height b.block → IsCanonical (setting w stored) p b → ⊥
  unfinal_above base folded b high final = let none = canonical-above (setting w stored) p anchor folded.anchor_is folded.tip_is (w.header.height b.block) high in let e = sym none ∙ final in cc
