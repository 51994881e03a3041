-- The ways of requests stay open after a finalization's begin and the apply of its block, and without the pause then.
use Rattle.std.proofs.Common.{◌≡◌, ◌≢◌, ◌<◌, ◌++◌, inl, ℕ, get_or, List, [], ◌∷◌, map, All, Option, Some, None, refl, sym, ap, ◌∙◌, subst, arith}
use Rattle.std.proofs.lemmas.List.{append_cancel_left}
use Rattle.std.proofs.lemmas.List.Elements.{All-map, All-weaker}
use Rattle.stateful_base.specs.Names.{Named}
use Rattle.stateful_base.specs.Anchor.{anchor_by}
use Rattle.stateful_base.specs.declared.anchor.Anchor.{Anchor}
use Rattle.stateful_base.specs.declared.digest.Digest.{Digest}
use Rattle.stateful_db.specs.Laws.{Laws}
use Rattle.stateful_history.specs.Canonical.{kept_at}
use Rattle.stateful_history.specs.Past.{Past, Made, after}
use Rattle.stateful_history.specs.declared.mark.Mark.{Mark}
use Rattle.stateful_history.specs.declared.mark.Mark.TheVariants.{Began, Applied}
use Rattle.stateful_exec_cache.specs.declared.cache.Cached.{Cached}
use Rattle.stateful_exec_pause.specs.Boundary.{Boundary, step_by, IsRetained}
use Rattle.stateful_exec_tables.specs.Phase.{unfetched, dropped}
use Rattle.stateful_exec_model.specs.Workings.{Workings}
use Rattle.stateful_exec_pause.specs.declared.pause.Pause.{Pause}
use Rattle.stateful_exec_pause.specs.declared.pause.Pause.TheVariants.{Free, Finalizing}
use Rattle.stateful_exec_walk.specs.declared.request.Request.{Request}
use Rattle.stateful_exec_tables.specs.declared.state.Tables.{Tables}
use Rattle.stateful_exec_tables.specs.declared.tables.LiveRun.{LiveRun}
use Rattle.stateful_exec_tables.specs.declared.tables.Phase.{Phase}
use Rattle.stateful_exec_tables.specs.declared.tables.Phase.TheVariants.{Open, Fetching, Waiting, Executing, Parked}
use Rattle.stateful_exec_tables.specs.declared.tables.Requested.{Requested}
use Rattle.stateful_exec_model.specs.declared.front.Front.{Front}
use Rattle.stateful_exec_laws.specs.Crossing.{HasMovedSo}
use Rattle.stateful_exec_laws.specs.Fronting.{IsBegun}
use Rattle.stateful_exec_laws.specs.Setting.{setting}
use Rattle.stateful_exec_laws.specs.Ways.{IsOnOpenWay, WaysStand}
use Rattle.stateful_exec_laws.proofs.front.AnchorCut.{root-Met, root_is, root_other}
use Rattle.stateful_exec_laws.proofs.requests.SamePast.{IsSamePast}
use Rattle.stateful_exec_laws.proofs.ways.Begun.{WaysStand-began}
use Rattle.stateful_exec_laws.proofs.ways.Kept.{WaysStand-same}
use Rattle.stateful_exec_laws.proofs.ways.Moved.{WaysStand-moved}
use Rattle.stateful_loop_model.specs.Moments.{Moment}
use Rattle.stateful_loop_model.specs.Rules.{HasStates, BeginsFinalization, AppliesBlock}
use Rattle.stateful_loop_model.specs.declared.tables.Finalizing as loop
use Rattle.stateful_loop_laws.specs.Execution.{IsFree, IsPausedFor, IsPlaced, Executes}
use Rattle.stateful_loop_laws.specs.Ways.{ParksNone}
use Rattle.stateful_loop_laws.proofs.execution.Applies.{IsOverBegun, over_begun}
use Rattle.stateful_loop_laws.proofs.execution.Begins.{IsSamePast-withdrawn}

module _ {B C I P R D H G U : Type 0} (w : Workings B C I P R D H G U) (stored : ℕ → Option (Named B)) where
  module _ (p : Past B C I) (tip : Anchor) where
    -- a request whose fetch is given up is on an open way
    open_dropped : (pause : Pause) (anchor : Anchor) (cache : List (Cached U)) (request : Request B C I) (phase : Phase B)
        → IsOnOpenWay w stored p tip pause anchor cache request phase → IsOnOpenWay w stored p tip pause anchor cache request (unfetched phase)
    open_dropped pause anchor cache request Open h = tt
    open_dropped pause anchor cache request (Fetching f) h = tt
    open_dropped pause anchor cache request Waiting h = tt
    open_dropped pause anchor cache request (Executing j path) h = h
    open_dropped pause anchor cache request (Parked path) h = h

    -- the ways stay open where all fetches are given up
    pub WaysStand-dropped : (v : Tables B C I R U) → WaysStand w stored p tip v
        → WaysStand w stored p tip (record v { requests = map dropped v.requests })
    WaysStand-dropped v ways =
        All-map (λ (e : ℕ × Requested B C I). IsOnOpenWay w stored p tip v.pause v.anchor v.cache e.1.request e.1.phase) dropped v.requests
        (λ k d l. let e = get_or v.requests k d in open_dropped v.pause v.anchor v.cache e.1.request e.1.phase (ways k d l))

    freed : (boundary : Boundary) (anchor : Anchor) (cache : List (Cached U)) → boundary.digest ≡ anchor.digest
        → (request : Request B C I) (phase : Phase B) → IsOnOpenWay w stored p tip (Finalizing boundary) anchor cache request phase
        → IsOnOpenWay w stored p tip Free anchor cache request phase
    freed boundary anchor cache own request Open h = tt
    freed boundary anchor cache own request (Fetching f) h = tt
    freed boundary anchor cache own request Waiting h = tt
    freed boundary anchor cache own request (Executing j path) h = h
    freed boundary anchor cache own request (Parked path) h = (inl (h.0 ∙ own), h.1, h.2)

    -- they are so without the pause, once the block of the finalization is the anchor
    pub WaysStand-free : (v : Tables B C I R U) → HasMovedSo v → WaysStand w stored p tip v → WaysStand w stored p tip (record v { pause = Free })
    WaysStand-free v moved ways = λ k d l.
        let e = get_or v.requests k d in
        freed moved.boundary v.anchor v.cache (sym moved.moved.digest_is) e.1.request e.1.phase
        (subst (λ (x : Pause). IsOnOpenWay w stored p tip x v.anchor v.cache e.1.request e.1.phase) moved.pause_is (ways k d l))

module _ {B C I P R D H G U : Type 0} (w : Workings B C I P R D H G U) (laws : Laws w.kind) (stored : ℕ → Option (Named B)) (base : w.States)
    (p : Past B C I) (m now : Moment w) where
  module _ (t : ℕ) (b : Named B) (e : Executes w stored base p m) (r : BeginsFinalization w t b m now) where
    abbrev v : Tables B C I R U
    v = m.execution.state

    abbrev q : Past B C I
    q = Made (Began t b) ∷ p

    abbrev given : List (Mark B)
    given = Began t b ∷ r.withdrawn

    same : IsSamePast (setting w stored) q (after q r.withdrawn)
    same = subst (λ (marks : List (Mark B)). IsSamePast (setting w stored) q (after q marks)) (sym r.pauses.marks_are)
        (IsSamePast-withdrawn (setting w stored) q r.pauses.fetches)

    began : (free : IsFree w stored base p e.points e.point m.next v) → v.anchor.height.0 < w.header.height b.block → ParksNone v.requests
        → WaysStand w stored p v.anchor v
        → WaysStand w stored q (anchor_by w.header b) (record v { pause = Finalizing r.boundary })
    began free high none ways = WaysStand-began w stored p v.anchor free.ground.folded.anchor_is b t free.ground.folded.tip_is
        (let up = r.may.next in omega (arith, up, high)) e.points e.point m.next v e.tables free.pause_is refl none ways r.boundary

    open_behind : WaysStand w stored q (anchor_by w.header b) (record v { pause = Finalizing r.boundary })
        → WaysStand w stored (after q r.withdrawn) (anchor_by w.header b) r.state
    open_behind ways = subst (λ (x : Tables B C I R U). WaysStand w stored (after q r.withdrawn) (anchor_by w.header b) x) (sym r.pauses.state)
        (WaysStand-same w stored (anchor_by w.header b) q (after q r.withdrawn) same
        (record v { requests = map dropped v.requests; pause = Finalizing r.boundary })
        (WaysStand-dropped w stored q (anchor_by w.header b) (record v { pause = Finalizing r.boundary }) ways))

    -- Where nothing is in front and no request is parked, the ways stay open behind the begin of a finalization, of which the block is the tip.
    pub WaysStand-begins : m.execution.front ≡ None → v.anchor.height.0 < w.header.height b.block → ParksNone v.requests
        → WaysStand w stored p v.anchor v → (more : List (Mark B)) → now.marks ≡ m.marks ++ more
        → WaysStand w stored (after p more) (anchor_by w.header b) now.execution.state
    WaysStand-begins no_front high none ways more is =
        let free : IsFree w stored base p e.points e.point m.next v = subst
        (λ (o : Option (Front B R U H)). IsPlaced w stored base p e.points e.point m.next v o) no_front e.placed in
        let marks : given ≡ more = append_cancel_left m.marks given more (sym (ap (λ (n : Moment w). n.marks) r.becomes) ∙ is) in
        subst (λ (x : List (Mark B)). WaysStand w stored (after p x) (anchor_by w.header b) now.execution.state) marks
        (subst (λ (n : Moment w). WaysStand w stored (after p given) (anchor_by w.header b) n.execution.state) (sym r.becomes)
        (open_behind (began free high none ways)))

  module _ (f : loop.Finalizing B G) (e : Executes w stored base p m) (r : AppliesBlock w f m now) where
    abbrev old : Tables B C I R U
    old = m.execution.state

    module _ (for_block : IsPausedFor w stored base p e.points e.point m.next old f.block)
        (retained : All (λ x. IsRetained for_block.boundary (step_by w.header x.1.block)) old.runs)
        (begun : IsBegun w stored p e.point m.next old.anchor f.block)
        (kept_own : (d : Digest) → kept_at (setting w stored) p old.anchor.height.0 ≡ Some d → d ≡ old.anchor.digest) where
      root : f.block.digest ≡ for_block.boundary.digest
      root = root_is w stored p e.points m.next old.anchor old.cache for_block.boundary for_block.ground.stands for_block.ground.names
          for_block.finalizes f.block begun.begun_is r.state.cache r.moves.cut

      applied_ways : WaysStand w stored p (anchor_by w.header f.block) old
          → WaysStand w stored (Made (Applied f.block) ∷ p) (anchor_by w.header f.block) r.state
      applied_ways ways =
          subst (λ (x : Tables B C I R U). WaysStand w stored (Made (Applied f.block) ∷ p) (anchor_by w.header f.block) x) (sym r.moves.state)
          (WaysStand-moved w stored p for_block.ground.names old.anchor f.block
          (root-Met w stored p e.points m.next old.anchor old.cache for_block.boundary for_block.ground.stands for_block.ground.names
          for_block.finalizes f.block begun.begun_is r.state.cache r.moves.cut)
          begun.parent_is for_block.ground.folded.anchor_is for_block.ground.folded.tip_is kept_own e.points e.point m.next old e.tables refl
          for_block.boundary for_block.pause_is (sym root)
          (root_other w stored p e.points m.next old.anchor old.cache for_block.boundary for_block.ground.stands for_block.ground.names
          for_block.finalizes f.block begun.begun_is r.state.cache r.moves.cut)
          (All-weaker (λ (x : ℕ × LiveRun B R). IsRetained for_block.boundary (step_by w.header x.1.block))
          (λ x. x.1.block.digest ≢ f.block.digest) (λ x retained same. retained.other (same ∙ root)) old.runs retained)
          r.state.cache ways)

    -- Where the store has the anchor's block at its height, or none, the ways stay open after the apply of a finalized block.
    pub WaysStand-applies : HasStates w m f.block → ((d : Digest) → kept_at (setting w stored) p old.anchor.height.0 ≡ Some d → d ≡ old.anchor.digest)
        → WaysStand w stored p (anchor_by w.header f.block) old
        → (more : List (Mark B)) → now.marks ≡ m.marks ++ more → WaysStand w stored (after p more) now.execution.state.anchor now.execution.state
    WaysStand-applies has kept_own ways more is =
        let h : IsOverBegun w stored base p m f.block e = over_begun w stored base p m f.block e has in
        let marks : Applied f.block ∷ [] ≡ more = append_cancel_left m.marks (Applied f.block ∷ []) more
        (sym (ap (λ (n : Moment w). n.marks) r.becomes) ∙ is) in
        subst (λ (x : List (Mark B)). WaysStand w stored (after p x) now.execution.state.anchor now.execution.state) marks
        (subst (λ (n : Moment w). WaysStand w stored (Made (Applied f.block) ∷ p) n.execution.state.anchor n.execution.state) (sym r.becomes)
        (subst (λ (a : Anchor). WaysStand w stored (Made (Applied f.block) ∷ p) a r.state)
        (sym (ap (λ (x : Tables B C I R U). x.anchor) r.moves.state)) (applied_ways h.paused h.retained h.begun kept_own ways)))
