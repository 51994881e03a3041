-- The ways of requests stay open where the finalized block becomes the anchor.
use Rattle.std.proofs.Common.{◌≡◌, ◌≢◌, ◌==◌, ◌++◌, inl, inr, ℕ, Bool, true, false, List, [], ◌∷◌, All, Option, None, Some, MatchOption, get_or, refl, sym, ap, ◌∙◌, subst}
use Rattle.std.proofs.lemmas.Bool.{eqb-true}
use Rattle.std.proofs.lemmas.List.Elements.{All-head, All-tail, All-nil, All-cons, All-push}
use Rattle.stateful_base.specs.Names.{Named}
use Rattle.stateful_base.specs.Anchor.{anchor_by}
use Rattle.stateful_base.specs.declared.anchor.Anchor.{Anchor}
use Rattle.stateful_base.specs.declared.digest.Digest.{Digest}
use Rattle.stateful_history.specs.Anchors.{anchor_of, tip_of}
use Rattle.stateful_history.specs.Canonical.{canonical, canonical_by, kept_at}
use Rattle.stateful_history.specs.Met.{Met, TrueNames}
use Rattle.stateful_history.specs.Past.{Past, Made}
use Rattle.stateful_history.specs.Setting.{parent_of}
use Rattle.stateful_history.specs.declared.mark.Mark.TheVariants.{Applied}
use Rattle.stateful_exec_cache.specs.declared.cache.Cached.{Cached}
use Rattle.stateful_table.specs.Table.{at}
use Rattle.stateful_exec_pause.specs.Boundary.{Boundary}
use Rattle.stateful_exec_walk.specs.Path.{Path}
use Rattle.stateful_exec_tables.specs.Meeting.{first_or}
use Rattle.stateful_exec_model.specs.Workings.{Workings, Point}
use Rattle.stateful_exec_pause.specs.declared.pause.Pause.{Pause}
use Rattle.stateful_exec_pause.specs.declared.pause.Pause.TheVariants.{Free, Finalizing}
use Rattle.stateful_exec_walk.specs.declared.request.Request.{Request}
use Rattle.stateful_exec_tables.specs.declared.state.Tables.{Tables}
use Rattle.stateful_exec_tables.specs.declared.tables.LiveRun.{LiveRun}
use Rattle.stateful_exec_tables.specs.declared.tables.Phase.{Phase}
use Rattle.stateful_exec_tables.specs.declared.tables.Phase.TheVariants.{Open, Fetching, Waiting, Executing, Parked}
use Rattle.stateful_exec_laws.specs.Setting.{setting}
use Rattle.stateful_exec_laws.specs.Requesting.{first_of, LeadsDown, IsWayOf, IsInPhase, IsStanding}
use Rattle.stateful_exec_laws.specs.Standing.{TablesStand}
use Rattle.stateful_exec_laws.specs.Ways.{KeepOff, IsUnsettled, IsOnOpenWay, WaysStand}
use Rattle.stateful_exec_laws.proofs.requests.Acquired.{leads_down}
use Rattle.stateful_exec_laws.proofs.requests.AdvanceStands.{All-front}
use Rattle.stateful_exec_laws.proofs.ended.Points.{same_or_not}
use Rattle.stateful_exec_laws.proofs.reasons.Advances.{first_off}
use Rattle.stateful_exec_laws.proofs.runs.Removing.{All-at}
use Rattle.stateful_exec_laws.proofs.ways.Begun.{IsFinalAs, final_as, final_from}

module _ {B C I P R D H G U : Type 0} (w : Workings B C I P R D H G U) (stored : ℕ → Option (Named B)) (p : Past B C I) (names : TrueNames (setting w stored) p) (anchor : Anchor) (b : Named B) (met : Met (setting w stored) p b)
    (on_anchor : parent_of (setting w stored) b ≡ anchor.digest) where
  -- a block above another one that isn't the anchor isn't the finalized one
  above_off : (z c : Named B) → Met (setting w stored) p z → c.digest ≡ parent_of (setting w stored) z → c.digest ≢ anchor.digest → z.digest ≢ b.digest
  above_off z c there is off same = let one : z ≡ b = names z b there met same in off (is ∙ ap (λ (x : Named B). parent_of (setting w stored) x) one ∙ on_anchor)

  -- the blocks of a way above its last one
  blocks_off : (bs : List (Named B)) (x : Named B) → All (Met (setting w stored) p) (bs ++ x ∷ []) → LeadsDown w.header (bs ++ x ∷ []) → KeepOff anchor bs → (x.digest ≡ anchor.digest → ⊥) → All (λ z. z.digest ≢ b.digest) bs
  blocks_off [] x there leads off last = All-nil (λ (z : Named B). z.digest ≢ b.digest)
  blocks_off (z ∷ []) x there leads off last =
      All-cons (λ (y : Named B). y.digest ≢ b.digest) z [] (above_off z x (All-head (Met (setting w stored) p) z (x ∷ []) there) leads.0 last) (All-nil (λ (y : Named B). y.digest ≢ b.digest))
  blocks_off (z ∷ c ∷ bs) x there leads off last =
      let off_on : KeepOff anchor (c ∷ bs) = All-tail (λ (y : Named B). y.digest ≢ anchor.digest) z (c ∷ bs) off in
      All-cons (λ (y : Named B). y.digest ≢ b.digest) z (c ∷ bs) (above_off z c (All-head (Met (setting w stored) p) z (c ∷ bs ++ x ∷ []) there) leads.0 (All-head (λ (y : Named B). y.digest ≢ anchor.digest) c bs off_on))
      (blocks_off (c ∷ bs) x (All-tail (Met (setting w stored) p) z (c ∷ bs ++ x ∷ []) there) (leads_down w.header (c ∷ bs ++ x ∷ []) leads.1) off_on last)

  module _ (anchor_is : anchor_of w.header p ≡ Some anchor) (tip_is : tip_of w.header p ≡ Some (anchor_by w.header b))
      (kept_own : (d : Digest) → kept_at (setting w stored) p anchor.height.0 ≡ Some d → d ≡ anchor.digest) where
    abbrev now : Past B C I
    now = Made (Applied b) ∷ p

    canonical_at : (x : Past B C I) (tip at : Option Anchor) → tip_of w.header x ≡ tip → anchor_of w.header x ≡ at → (n : ℕ) → canonical (setting w stored) x n ≡ canonical_by (setting w stored) x n tip at
    canonical_at x tip at tip_same at_same n = rw (tip_same, at_same) refl

    -- a request stays unsettled where the store has the old anchor at its height, or nothing, as long as its block isn't the old anchor
    unsettled-moved : (request : Request B C I) → (first_of request).digest ≢ anchor.digest → IsUnsettled w stored p (anchor_by w.header b) request → IsUnsettled w stored now (anchor_by w.header b) request
    unsettled-moved request off unsettled final = elim (same_or_not (first_of request).digest b.digest) [
      | inl same ↦ same
      | inr other ↦
          let n : ℕ = w.header.height (first_of request).block in
          let d : Digest = (first_of request).digest in
          let tip : Anchor = anchor_by w.header b in
          let final_is : canonical_by (setting w stored) now n (Some tip) (Some tip) ≡ Some d = sym (canonical_at now (Some tip) (Some tip) tip_is refl n) ∙ final in
          let h : IsFinalAs (setting w stored) now n d tip tip = final_as (setting w stored) now n d tip tip (λ e. other (sym e)) (λ e. other (sym e)) final_is in
          before h (anchor.height.0 == n) refl
    ]
      where
        before : IsFinalAs (setting w stored) now (w.header.height (first_of request).block) (first_of request).digest (anchor_by w.header b) (anchor_by w.header b) → (x : Bool) → (anchor.height.0 == w.header.height (first_of request).block) ≡ x → (first_of request).digest ≡ b.digest
        before h true same =
            let e : anchor.height.0 ≡ w.header.height (first_of request).block = eqb-true anchor.height.0 (w.header.height (first_of request).block) same in
            let kept : kept_at (setting w stored) p (w.header.height (first_of request).block) ≡ Some (first_of request).digest = h.kept in
            absurd (off (kept_own (first_of request).digest (subst (λ (n : ℕ). kept_at (setting w stored) p n ≡ Some (first_of request).digest) (sym e) kept)))
        before h false other =
            let old = final_from (setting w stored) p (w.header.height (first_of request).block) (first_of request).digest (anchor_by w.header b) anchor h.not_tip other h.below h.kept in
            unsettled (canonical_at p (Some (anchor_by w.header b)) (Some anchor) tip_is anchor_is (w.header.height (first_of request).block) ∙ old)

    module _ (points : Digest → Point w) (point : Point w) (ids : w.Ids) (v : Tables B C I R U) (s : TablesStand w stored p points point ids v) (anchored : v.anchor ≡ anchor) (boundary : Boundary) (pause_is : v.pause ≡ Finalizing boundary)
        (own : boundary.digest ≡ b.digest) (apart : b.digest ≢ anchor.digest) (unrun : All (λ e. e.1.block.digest ≢ b.digest) v.runs) (cache : List (Cached U)) where
      run_off : (j : ℕ) (path : Path B) (o : Option (LiveRun B R)) → at v.runs j ≡ o → MatchOption o ⊥ (λ run. run.block ≡ path.parent) → path.parent.digest ≢ b.digest
      run_off j path None is same = absurd same
      run_off j path (Some run) is same = subst (λ (x : Named B). x.digest ≢ b.digest) same (All-at (λ (e : ℕ × LiveRun B R). e.1.block.digest ≢ b.digest) v.runs j run is unrun)

      last_off : (bs : List (Named B)) (x : Named B) → KeepOff anchor (bs ++ x ∷ []) → x.digest ≢ anchor.digest
      last_off [] x off = All-head (λ (y : Named B). y.digest ≢ anchor.digest) x [] off
      last_off (z ∷ bs) x off = last_off bs x (All-tail (λ (y : Named B). y.digest ≢ anchor.digest) z (bs ++ x ∷ []) off)

      front_off : (bs : List (Named B)) (x : Named B) → KeepOff anchor (bs ++ x ∷ []) → KeepOff anchor bs
      front_off bs x off = All-front (λ (y : Named B). y.digest ≢ anchor.digest) bs (x ∷ []) off

      first_parked : (request : Request B C I) (path : Path B) → IsWayOf w stored p request path → KeepOff anchor path.blocks → path.parent.digest ≡ b.digest → (first_of request).digest ≢ anchor.digest
      first_parked request path way off at_block = subst (λ (x : Named B). x.digest ≢ anchor.digest) way.begins (go path.blocks off)
        where
          go : (bs : List (Named B)) → KeepOff anchor bs → (first_or path.parent bs).digest ≢ anchor.digest
          go [] all = λ same. apart (sym at_block ∙ same)
          go (z ∷ bs) all = All-head (λ (y : Named B). y.digest ≢ anchor.digest) z bs all

      open-moved : (t : ℕ) (request : Request B C I) (phase : Phase B) → IsInPhase w stored p v.runs t request phase → IsOnOpenWay w stored p (anchor_by w.header b) (Finalizing boundary) anchor v.cache request phase → IsOnOpenWay w stored now (anchor_by w.header b) (Finalizing boundary) (anchor_by w.header b) cache request phase
      open-moved t request (Executing j path) phase h =
          let way : IsWayOf w stored p request path = phase.1 in (
            All-push (λ (z : Named B). z.digest ≢ b.digest) path.blocks path.parent (blocks_off path.blocks path.parent way.met way.leads (front_off path.blocks path.parent h.0) (last_off path.blocks path.parent h.0)) (run_off j path (at v.runs j) refl phase.0),
            unsettled-moved request (first_off w stored p request anchor path way h.0) h.1,
          )
      open-moved t request (Parked path) phase h =
          let way : IsWayOf w stored p request path = phase in
          let at_block : path.parent.digest ≡ b.digest = h.0 ∙ own in
          (h.0, blocks_off path.blocks path.parent way.met way.leads h.1 (λ same. apart (sym at_block ∙ same)), unsettled-moved request (first_parked request path way h.1 at_block) h.2)
      open-moved t request Open phase h = tt
      open-moved t request (Fetching f) phase h = tt
      open-moved t request Waiting phase h = tt

      -- The ways stay open where the finalized block, of which no run is live, becomes the anchor, whatever stays of the cache.
      pub WaysStand-moved : WaysStand w stored p (anchor_by w.header b) v → WaysStand w stored now (anchor_by w.header b) (record v { anchor = anchor_by w.header b; cache = cache })
      WaysStand-moved ways = λ k d l.
          let e = get_or v.requests k d in
          let standing : IsStanding w stored p v.runs e.0 e.1 = s.requests.each k d l in
          let old : IsOnOpenWay w stored p (anchor_by w.header b) (Finalizing boundary) anchor v.cache e.1.request e.1.phase =
          subst (λ (a : Anchor). IsOnOpenWay w stored p (anchor_by w.header b) (Finalizing boundary) a v.cache e.1.request e.1.phase) anchored (subst (λ (x : Pause). IsOnOpenWay w stored p (anchor_by w.header b) x v.anchor v.cache e.1.request e.1.phase) pause_is (ways k d l)) in
          subst (λ (x : Pause). IsOnOpenWay w stored now (anchor_by w.header b) x (anchor_by w.header b) cache e.1.request e.1.phase) (sym pause_is) (open-moved e.0 e.1.request e.1.phase standing.phase old)

  -- and so they do behind it once nothing pauses any more
  pub WaysStand-freed : (q : Past B C I) (v : Tables B C I R U) (boundary : Boundary) → v.pause ≡ Finalizing boundary → boundary.digest ≡ v.anchor.digest → (tip : Anchor) → WaysStand w stored q tip v → WaysStand w stored q tip (record v { pause = Free })
  WaysStand-freed q v boundary pause_is own tip ways = λ k d l.
      let e = get_or v.requests k d in
      freed e.1.request e.1.phase (subst (λ (x : Pause). IsOnOpenWay w stored q tip x v.anchor v.cache e.1.request e.1.phase) pause_is (ways k d l))
    where
      freed : (request : Request B C I) (phase : Phase B) → IsOnOpenWay w stored q tip (Finalizing boundary) v.anchor v.cache request phase → IsOnOpenWay w stored q tip Free v.anchor v.cache request phase
      freed request (Executing j path) h = h
      freed request (Parked path) h = (inl (h.0 ∙ own), h.1, h.2)
      freed request Open h = tt
      freed request (Fetching f) h = tt
      freed request Waiting h = tt
