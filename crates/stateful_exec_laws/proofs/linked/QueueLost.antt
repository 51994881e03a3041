-- A queued proposal whose parent isn't known any more is declined for a reason: its parent is lost, and stays so.
use Rattle.std.proofs.Common.{◌≡◌, ◌≤◌, ◌⊎◌, inl, inr, ℕ, List, ◌∷◌, All, Option, Some, MatchOption, refl, sym, ◌∙◌, subst}
use Rattle.stateful_base.specs.Names.{Named}
use Rattle.stateful_base.specs.declared.anchor.Anchor.{Anchor}
use Rattle.stateful_base.specs.declared.digest.Digest.{Digest}
use Rattle.stateful_history.specs.Anchors.{tip_of}
use Rattle.stateful_history.specs.Declines.{IsOutOfReach, MayDecline, DeclinedHasReason}
use Rattle.stateful_history.specs.Known.{Known, is_tip, kept, stays, IsUnknown, IsPastTip}
use Rattle.stateful_history.specs.Met.{Met, TrueNames}
use Rattle.stateful_history.specs.Opening.{StartsNone}
use Rattle.stateful_history.specs.Past.{Past, Item}
use Rattle.stateful_history.specs.Reasons.{Missing, itself, above, IsCovered}
use Rattle.stateful_history.specs.Requests as requests
use Rattle.stateful_history.specs.Setting.{Setting, parent_of}
use Rattle.stateful_history.specs.Telling.{telling_of}
use Rattle.stateful_history.specs.declared.event.Event.{Event}
use Rattle.stateful_history.specs.declared.mark.Mark.{Mark}
use Rattle.stateful_history.specs.declared.mark.Mark.TheVariants.{Declined}
use Rattle.stateful_exec_cache.specs.declared.cache.Cached.{Cached}
use Rattle.stateful_table.specs.Table.{at}
use Rattle.stateful_exec_tables.specs.Queueing.{IsReady}
use Rattle.stateful_exec_model.specs.Workings.{Workings, Point}
use Rattle.stateful_exec_pause.specs.declared.pause.Pause.TheVariants.{Free}
use Rattle.stateful_exec_walk.specs.declared.request.Proposal.{Proposal}
use Rattle.stateful_exec_tables.specs.declared.state.Tables.{Tables}
use Rattle.stateful_exec_laws.specs.Setting.{setting}
use Rattle.stateful_exec_laws.specs.Reaching.{IsLost, QueueReaches}
use Rattle.stateful_exec_laws.specs.Requesting.{QueueStands}
use Rattle.stateful_exec_laws.proofs.requests.Calm.{later-moved}
use Rattle.stateful_exec_laws.proofs.reasons.Ground.{IsGround, chain_of, HasState-on}
use Rattle.stateful_exec_laws.proofs.reasons.Missing.{Known-above, Missing-last, Missing-first}
use Rattle.stateful_exec_laws.proofs.runs.Removing.{All-at}

module _ {B C I S T : Type 0} (s : Setting B S T) (base : S) where
  -- the last of what is missing is of the history
  pub Missing-met : (p : Past B C I) {b x : Named B} → Met s p b → Missing s base p b x → Met s p x
  Missing-met p met (itself u) = met
  Missing-met p met (above m there is u) = there

  -- behind an item that leaves the tip what is known stays so
  pub Known-on : {p : Past B C I} {d : Digest} → Known s p d → (x : Item B C I) → StartsNone x → tip_of s.header (x ∷ p) ≡ tip_of s.header p → Known s (x ∷ p) d
  Known-on (is_tip e) x none same = is_tip (same ∙ e)
  Known-on (kept {p = p} {item = y} {b = b} m k l parent) x none same = stays none m (kept m k l parent) l (later-moved s (y ∷ p) (x ∷ y ∷ p) b same l) (Known-on parent x none same)
  Known-on (stays {p = p} {item = y} {b = b} o m k old l parent) x none same = stays none (inr m) (stays o m k old l parent) l (later-moved s (y ∷ p) (x ∷ y ∷ p) b same l) (Known-on parent x none same)

  module _ (p : Past B C I) (x : Item B C I) (same : tip_of s.header (x ∷ p) ≡ tip_of s.header p) (names : TrueNames s (x ∷ p)) where
    at_tip : (z : Named B) → IsUnknown s p z.digest → (tip : Anchor) × (tip_of s.header (x ∷ p) ≡ Some tip) × (tip.digest ≡ z.digest) → ⊥
    at_tip z unknown tip = unknown (subst (λ (d : Digest). Known s p d) tip.2 (is_tip (sym same ∙ tip.1)))

    -- and a missing block that isn't later than the tip stays unknown
    unknown_late : (z : Named B) → Met s p z → IsUnknown s p z.digest → (IsPastTip s p z → ⊥) → IsUnknown s (x ∷ p) z.digest
    unknown_late z met unknown late known = elim (Known-above s known names z (inr met) refl) [ inl tip ↦ at_tip z unknown tip | inr up ↦ late (later-moved s (x ∷ p) p z (sym same) up.1) ]

    missing_on : {b y : Named B} → Met s p b → Missing s base p b y → IsUnknown s (x ∷ p) y.digest → Missing s base (x ∷ p) b y
    missing_on met (itself u) still = itself still
    missing_on met (above {x = z} m there is u) still =
        let unknown : IsUnknown s (x ∷ p) z.digest = λ known. elim (Known-above s known names z (inr (Missing-met p met m)) refl) [
          | inl tip ↦ at_tip z (Missing-last s base p m) tip
          | inr up ↦ still (subst (λ (d : Digest). Known s (x ∷ p) d) (sym is) up.0)
        ] in
        above (missing_on met m unknown) (inr there) is still

    covered_on : (z : Named B) → IsCovered s base p z → IsCovered s base (x ∷ p) z
    covered_on z covered = subst (λ (o : Option Anchor). MatchOption o ⊥ (λ t. s.header.height z.block ≤ t.height.0)) (sym same) covered

module _ {B C I P R D H G U : Type 0} (w : Workings B C I P R D H G U) (stored : ℕ → Option (Named B)) (base : w.States) where
  -- A lost block stays lost behind an item that leaves the tip.
  pub IsLost-on : (p : Past B C I) (x : Item B C I) → StartsNone x → tip_of w.header (x ∷ p) ≡ tip_of w.header p → TrueNames (setting w stored) (x ∷ p) → (b : Named B) → Met (setting w stored) p b → IsLost w stored base p b → IsLost w stored base (x ∷ p) b
  IsLost-on p x none same names b met h = record {
    first = h.first;
    missing = missing_on (setting w stored) base p x same names met h.missing (unknown_late (setting w stored) base p x same names h.first h.met (Missing-last (setting w stored) base p h.missing) h.late);
    met = inr h.met;
    late = λ past. h.late (later-moved (setting w stored) (x ∷ p) p h.first (sym same) past);
    because = elim h.because [ inl known ↦ inl (Known-on (setting w stored) base known x none same) | inr covered ↦ inr (covered_on (setting w stored) base p x same names h.first covered) ];
  }

  pub QueueReaches-on : (p : Past B C I) (x : Item B C I) → StartsNone x → tip_of w.header (x ∷ p) ≡ tip_of w.header p → TrueNames (setting w stored) (x ∷ p) → (queued : List (ℕ × Proposal B C I)) → All (λ e. Met (setting w stored) p e.1.ancestry.first) queued
      → QueueReaches w stored base p queued → QueueReaches w stored base (x ∷ p) queued
  QueueReaches-on p x none same names queued met all = λ k d l. elim (all k d l) [ inl known ↦ inl (Known-on (setting w stored) base known x none same) | inr lost ↦ inr (IsLost-on p x none same names _ (met k d l) lost) ]

  module _ (p : Past B C I) (points : Digest → Point w) (point : Point w) (next : w.Ids) (tip : Anchor) where
    -- where nothing pauses a lost block is out of reach
    pub IsOutOfReach-lost : (anchor : Anchor) (cache : List (Cached U)) → IsGround w stored base p points point next tip Free anchor cache → (b : Named B) → IsLost w stored base p b → IsOutOfReach (setting w stored) (telling_of w.works) base p b
    IsOutOfReach-lost anchor cache g b h = record {
      unknown = Missing-first (setting w stored) base p h.missing;
      because = elim h.because [
        | inl known ↦
            let on = chain_of w stored base p points point next tip Free anchor cache g (parent_of (setting w stored) h.first) ((g.stands.knows (parent_of (setting w stored) h.first)).0 known) in
            inl (record {
              first = h.first;
              missing = h.missing;
              known = known;
              state = (points (parent_of (setting w stored) h.first)).1;
              has_state = HasState-on w stored base p points point next tip Free anchor cache g on.1;
              bad = inr (inr (inr h.late));
            })
        | inr covered ↦ inr (h.first, h.missing, inr covered)
      ];
    }

    -- so a queued proposal is declined for a reason, where it isn't ready
    pub declined-queued : (v : Tables B C I R U) → IsGround w stored base p points point next tip Free v.anchor v.cache → QueueStands w stored p v.queued v.recovered → QueueReaches w stored base p v.queued → (t : ℕ) (q : Proposal B C I) → at v.queued t ≡ Some q
        → (IsReady v t q → ⊥) → (event : Event B C I) (all : List (Mark B)) → DeclinedHasReason (setting w stored) (telling_of w.works) base event all p (Declined t)
    declined-queued v g queue reaches t q there off event all =
        let live = All-at (λ (e : ℕ × Proposal B C I). requests.IsLiveProposal e.0 p (record { kind = e.1.kind; context = e.1.context; parent = e.1.ancestry.first; input = e.1.input })) v.queued t q there queue.each in
        let reach = All-at (λ (e : ℕ × Proposal B C I). Known (setting w stored) p e.1.ancestry.first.digest ⊎ IsLost w stored base p e.1.ancestry.first) v.queued t q there reaches in
        subst (λ (o : Option (requests.Proposal B C I)). MatchOption o ⊥ (λ r. MayDecline (setting w stored) (telling_of w.works) base event all p t r)) (sym live.proposes)
        (inr (inr (inr (inl (elim reach [
          | inl known ↦ absurd (off (record { queued = there; known = (g.stands.knows q.ancestry.first.digest).0 known }))
          | inr lost ↦ IsOutOfReach-lost v.anchor v.cache g q.ancestry.first lost
        ])))))
