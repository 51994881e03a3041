-- The ways of requests stay open where a finalization begins, and where its block becomes the anchor.
use Rattle.std.proofs.Common.{◌≡◌, ◌≢◌, ◌<◌, ◌+◌, ◌==◌, nat_lt, inl, inr, ℕ, Bool, true, false, List, ◌∷◌, All, Option, Some, get_or, refl, sym, ◌∙◌, subst, arith}
use Rattle.std.proofs.lemmas.Bool.{eqb-false}
use Rattle.std.proofs.lemmas.Grind.{common_steps}
use Rattle.stateful_base.specs.Names.{Named}
use Rattle.stateful_base.specs.Anchor.{anchor_by}
use Rattle.stateful_base.specs.declared.anchor.Anchor.{Anchor}
use Rattle.stateful_base.specs.declared.digest.Digest.{Digest}
use Rattle.stateful_history.specs.Anchors.{anchor_of, tip_of}
use Rattle.stateful_history.specs.Canonical.{canonical, canonical_by, kept_at, IsCanonical}
use Rattle.stateful_history.specs.Past.{Past, Made}
use Rattle.stateful_history.specs.Setting.{Setting}
use Rattle.stateful_history.specs.declared.mark.Mark.TheVariants.{Began}
use Rattle.stateful_exec_cache.specs.declared.cache.Cached.{Cached}
use Rattle.stateful_table.specs.Table.{at}
use Rattle.stateful_exec_pause.specs.Boundary.{Boundary}
use Rattle.stateful_exec_walk.specs.Path.{Path}
use Rattle.stateful_exec_model.specs.Workings.{Workings, Point}
use Rattle.stateful_exec_pause.specs.declared.pause.Pause.{Pause}
use Rattle.stateful_exec_pause.specs.declared.pause.Pause.TheVariants.{Free, Finalizing}
use Rattle.stateful_exec_walk.specs.declared.request.Request.{Request}
use Rattle.stateful_exec_tables.specs.declared.state.Tables.{Tables}
use Rattle.stateful_exec_tables.specs.declared.tables.Phase.{Phase}
use Rattle.stateful_exec_tables.specs.declared.tables.Phase.TheVariants.{Open, Fetching, Waiting, Executing, Parked}
use Rattle.stateful_exec_laws.specs.Setting.{setting}
use Rattle.stateful_exec_laws.specs.Requesting.{first_of, IsWayOf, IsInPhase, IsStanding}
use Rattle.stateful_exec_laws.specs.Standing.{TablesStand}
use Rattle.stateful_exec_laws.specs.Ways.{IsUnsettled, IsOnOpenWay, WaysStand}
use Rattle.stateful_exec_laws.proofs.ended.Points.{same_or_not}
use Rattle.stateful_exec_laws.proofs.reasons.Advances.{first_off}

lt-above : (a b : ℕ) → nat_lt a b ≡ true → a < b
lt-above a b is = grind (arith, common_steps)

lt-below : (a b : ℕ) → a < b → nat_lt a b ≡ true
lt-below a b l = grind (arith, common_steps)

module _ {B C I S T : Type 0} (s : Setting B S T) (p : Past B C I) (n : ℕ) (d : Digest) where
  -- the final block of a height is the tip, the anchor, or one that the store has
  pub record IsFinalAs (tip anchor : Anchor) : Type 0 where
    pub not_tip : (tip.height.0 == n) ≡ false
    pub kept : kept_at s p n ≡ Some d
    pub below : n < tip.height.0
    pub off : (anchor.height.0 == n) ≡ false

  -- where it is neither the tip nor the anchor
  pub final_as : (tip anchor : Anchor) → tip.digest ≢ d → anchor.digest ≢ d → canonical_by s p n (Some tip) (Some anchor) ≡ Some d → IsFinalAs tip anchor
  final_as tip anchor other off is = go (tip.height.0 == n) refl (anchor.height.0 == n) refl (nat_lt n tip.height.0) refl
    where
      go : (a : Bool) → (tip.height.0 == n) ≡ a → (b : Bool) → (anchor.height.0 == n) ≡ b → (c : Bool) → nat_lt n tip.height.0 ≡ c → IsFinalAs tip anchor
      go true at_tip b at_anchor c lower = let e = rw at_tip at is in absurd (other cc)
      go false at_tip true at_anchor c lower = let e = rw (at_tip, at_anchor) at is in absurd (off cc)
      go false at_tip false at_anchor false lower = let e = rw (at_tip, at_anchor, lower) at is in cc
      go false at_tip false at_anchor true lower = record {
        not_tip = at_tip;
        kept = rw (at_tip, at_anchor, lower) at is;
        below = lt-above n tip.height.0 lower;
        off = at_anchor;
      }

  -- what the store has below the tip, and isn't the anchor's, is final
  pub final_from : (tip anchor : Anchor) → (tip.height.0 == n) ≡ false → (anchor.height.0 == n) ≡ false → n < tip.height.0 → kept_at s p n ≡ Some d → canonical_by s p n (Some tip) (Some anchor) ≡ Some d
  final_from tip anchor other off low is = rw (other, off, lt-below n tip.height.0 low) is

module _ {B C I P R D H G U : Type 0} (w : Workings B C I P R D H G U) (stored : ℕ → Option (Named B)) (p : Past B C I) (anchor : Anchor) (anchor_is : anchor_of w.header p ≡ Some anchor) (b : Named B) where
  abbrev tip_by_block : Anchor
  tip_by_block = anchor_by w.header b

  -- A request stays unsettled where the finalization of the next block begins, as long as its block isn't the anchor.
  module _ (t : ℕ) (tip_is : tip_of w.header p ≡ Some anchor) (next : w.header.height b.block ≡ anchor.height.0 + 1) where
    abbrev began : Past B C I
    began = Made (Began t b) ∷ p

    unsettled-began : (request : Request B C I) → (first_of request).digest ≢ anchor.digest → IsUnsettled w stored p anchor request → IsUnsettled w stored began tip_by_block request
    unsettled-began request off unsettled final = elim (same_or_not (first_of request).digest b.digest) [
      | inl same ↦ same
      | inr other ↦
          let n : ℕ = w.header.height (first_of request).block in
          let d : Digest = (first_of request).digest in
          let final_is : canonical_by (setting w stored) began n (Some tip_by_block) (Some anchor) ≡ Some d = subst (λ (o : Option Anchor). canonical_by (setting w stored) began n (Some tip_by_block) o ≡ Some d) anchor_is final in
          let h : IsFinalAs (setting w stored) began n d tip_by_block anchor = final_as (setting w stored) began n d tip_by_block anchor (λ e. other (sym e)) (λ e. off (sym e)) final_is in
          let below = h.below in
          let not_at : anchor.height.0 ≢ n = eqb-false anchor.height.0 n h.off in
          let low : n < anchor.height.0 = omega arith in
          let old : canonical_by (setting w stored) p n (Some anchor) (Some anchor) ≡ Some d = final_from (setting w stored) p n d anchor anchor h.off h.off low h.kept in
          let was : IsCanonical (setting w stored) p (first_of request) = canonical_at p (Some anchor) (Some anchor) tip_is anchor_is n ∙ old in
          absurd (off (unsettled was))
    ]
      where
        canonical_at : (x : Past B C I) (tip at : Option Anchor) → tip_of w.header x ≡ tip → anchor_of w.header x ≡ at → (n : ℕ) → canonical (setting w stored) x n ≡ canonical_by (setting w stored) x n tip at
        canonical_at x tip at tip_same at_same n = rw (tip_same, at_same) refl

    open-began : (boundary : Boundary) (cache : List (Cached U)) (request : Request B C I) (phase : Phase B) → ((path : Path B) → phase ≡ Parked path → ⊥) → ((j : ℕ) (path : Path B) → phase ≡ Executing j path → IsWayOf w stored p request path)
        → IsOnOpenWay w stored p anchor Free anchor cache request phase → IsOnOpenWay w stored began tip_by_block (Finalizing boundary) anchor cache request phase
    open-began boundary cache request (Executing j path) none way h = (h.0, unsettled-began request (first_off w stored p request anchor path (way j path refl) h.0) h.1)
    open-began boundary cache request (Parked path) none way h = absurd (none path refl)
    open-began boundary cache request Open none way h = tt
    open-began boundary cache request (Fetching f) none way h = tt
    open-began boundary cache request Waiting none way h = tt

    -- The ways stay open where the finalization of the next block begins and no request is parked.
    pub WaysStand-began : (points : Digest → Point w) (point : Point w) (ids : w.Ids) (v : Tables B C I R U) → TablesStand w stored p points point ids v → v.pause ≡ Free → v.anchor ≡ anchor → All (λ e. (path : Path B) → e.1.phase ≡ Parked path → ⊥) v.requests
        → WaysStand w stored p anchor v → (boundary : Boundary) → WaysStand w stored began tip_by_block (record v { pause = Finalizing boundary })
    WaysStand-began points point ids v s free anchored none ways boundary = λ k d l.
        let e = get_or v.requests k d in
        let standing : IsStanding w stored p v.runs e.0 e.1 = s.requests.each k d l in
        let old : IsOnOpenWay w stored p anchor Free anchor v.cache e.1.request e.1.phase = subst (λ (a : Anchor). IsOnOpenWay w stored p anchor Free a v.cache e.1.request e.1.phase) anchored (subst (λ (x : Pause). IsOnOpenWay w stored p anchor x v.anchor v.cache e.1.request e.1.phase) free (ways k d l)) in
        subst (λ (a : Anchor). IsOnOpenWay w stored began tip_by_block (Finalizing boundary) a v.cache e.1.request e.1.phase) (sym anchored)
        (open-began boundary v.cache e.1.request e.1.phase (none k d l)
        (λ j path is. let phase : IsInPhase w stored p v.runs e.0 e.1.request (Executing j path) = subst (λ (x : Phase B). IsInPhase w stored p v.runs e.0 e.1.request x) is standing.phase in phase.1) old)
