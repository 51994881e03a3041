-- Execution stands after the apply of a finalized block.
use Rattle.std.proofs.Common.{◌≡◌, ◌++◌, inl, inr, ℕ, List, [], ◌∷◌, All, Option, Some, None, refl, sym, ap, ◌∙◌, subst}
use Rattle.stateful_base.specs.Names.{Named}
use Rattle.stateful_base.specs.Anchor.{anchor_by}
use Rattle.stateful_base.specs.declared.anchor.Anchor.{Anchor}
use Rattle.stateful_base.specs.declared.digest.Digest.{Digest}
use Rattle.stateful_db.specs.Laws.{Laws}
use Rattle.stateful_history.specs.Anchors.{applied}
use Rattle.stateful_history.specs.Jobs.{IsLiveJob}
use Rattle.stateful_history.specs.Joined.{Matches}
use Rattle.stateful_history.specs.Met.{Met}
use Rattle.stateful_history.specs.Past.{Past, Made}
use Rattle.stateful_history.specs.States.{fold}
use Rattle.stateful_history.specs.declared.mark.JobKind.TheVariants.{Finalized, Hook}
use Rattle.stateful_history.specs.declared.mark.Mark.TheVariants.{Applied}
use Rattle.stateful_exec_cache.specs.Cache.{IsAtHand}
use Rattle.stateful_exec_pause.specs.Boundary.{step_by, IsRetained}
use Rattle.stateful_exec_model.specs.Finalizing.{front_at}
use Rattle.stateful_exec_tables.specs.Pausing.{AwaitsRuns}
use Rattle.stateful_exec_tables.specs.Meeting.{GoesOn}
use Rattle.stateful_exec_model.specs.Workings.{Workings, Point}
use Rattle.stateful_exec_model.specs.declared.building.Building.{Building}
use Rattle.stateful_exec_model.specs.declared.front.Front.{Front}
use Rattle.stateful_exec_model.specs.declared.front.Stage.TheVariants.{Begun, Ran}
use Rattle.stateful_exec_pause.specs.declared.pause.Pause.{Pause}
use Rattle.stateful_exec_pause.specs.declared.pause.Pause.TheVariants.{Free}
use Rattle.stateful_exec_tables.specs.declared.state.Tables.{Tables}
use Rattle.stateful_exec_tables.specs.declared.tables.LiveRun.{LiveRun}
use Rattle.stateful_exec_laws.specs.Building.{BuildStands}
use Rattle.stateful_exec_laws.specs.Caching.{CacheStands}
use Rattle.stateful_exec_laws.specs.Crossing.{HasMovedSo}
use Rattle.stateful_exec_laws.specs.Fronting.{IsBegun, FrontStands}
use Rattle.stateful_exec_laws.specs.Ground.{IsGround}
use Rattle.stateful_exec_laws.specs.Setting.{setting}
use Rattle.stateful_exec_laws.specs.Standing.{TablesStand}
use Rattle.stateful_exec_laws.proofs.front.AnchorCut.{root-Met}
use Rattle.stateful_exec_laws.proofs.front.AnchorMoves.{IsApplied, IsAppliedOver, IsAppliedOver-moves, FrontStands-moves, HasMovedSo-moves}
use Rattle.stateful_exec_laws.proofs.front.MovedStands.{TablesStand-free}
use Rattle.stateful_exec_laws.proofs.pauses.Retained.{none_awaited}
use Rattle.stateful_loop_model.specs.Moments.{Moment}
use Rattle.stateful_loop_model.specs.Rules.{IsFinalizing, HasStates, AppliesBlock}
use Rattle.stateful_loop_model.specs.declared.tables.Finalizing.{Finalizing}
use Rattle.stateful_loop_laws.specs.Execution.{FetchesNone, IsPausedFor, IsPausedOver, IsPlaced, Executes, ExecutesBehind}

module _ {B C I P R D H G U : Type 0} (w : Workings B C I P R D H G U) (stored : ℕ → Option (Named B)) (b : Named B) where
  pub fold_more : (t : Option w.States) (u : w.States) (bs : List (Named B)) → fold (setting w stored) t bs ≡ Some u → (v : w.States)
      → w.works.meaning.step u b.block ≡ Some v → fold (setting w stored) t (bs ++ b ∷ []) ≡ Some v
  fold_more t u [] is v step = rw (is, step) refl
  fold_more (Some t) u (c ∷ bs) is v step = fold_more (w.works.meaning.step t c.block) u bs is v step
  fold_more None u (c ∷ bs) is v step = cc

module _ {B C I P R D H G U : Type 0} (w : Workings B C I P R D H G U) (stored : ℕ → Option (Named B)) (base : w.States) (p : Past B C I)
    (m : Moment w) (b : Named B) (e : Executes w stored base p m) where
  -- Execution is paused for the block, each live candidate run goes on over it, and no run and no hook of a finalization is live.
  pub record IsOverBegun : Type 0 where
    pub paused : IsPausedFor w stored base p e.points e.point m.next m.execution.state b
    pub retained : All (λ x. IsRetained paused.boundary (step_by w.header x.1.block)) m.execution.state.runs
    pub begun : IsBegun w stored p e.point m.next m.execution.state.anchor b
    pub no_run : (j : ℕ) (d : Digest) → IsLiveJob j Finalized d p → ⊥
    pub no_hook : (j : ℕ) (d : Digest) → IsLiveJob j Hook d p → ⊥

  -- where it is cached and no run is awaited
  of_cached : m.execution.front ≡ front_at b Begun → AwaitsRuns w.header m.execution.state 0 → IsOverBegun
  of_cached at awaits =
      let paused : IsPausedFor w stored base p e.points e.point m.next m.execution.state b = subst
      (λ (o : Option (Front B R U H)). IsPlaced w stored base p e.points e.point m.next m.execution.state o) at e.placed in
      let fronts : FrontStands w stored p e.point m.next m.execution.state.anchor (front_at b Begun) = subst
      (λ (o : Option (Front B R U H)). FrontStands w stored p e.point m.next m.execution.state.anchor o) at e.fronts in
      record {
        paused = paused;
        retained = none_awaited w.header m.execution.state paused.boundary paused.pause_is awaits;
        begun = fronts.at_stage;
        no_run = fronts.runs;
        no_hook = fronts.hooks;
      }

  -- where it was run
  of_ran : (batch : U) → m.execution.front ≡ front_at b (Ran batch) → IsOverBegun
  of_ran batch at =
      let paused : IsPausedOver w stored base p e.points e.point m.next m.execution.state b = subst
      (λ (o : Option (Front B R U H)). IsPlaced w stored base p e.points e.point m.next m.execution.state o) at e.placed in
      let fronts : FrontStands w stored p e.point m.next m.execution.state.anchor (front_at b (Ran batch)) = subst
      (λ (o : Option (Front B R U H)). FrontStands w stored p e.point m.next m.execution.state.anchor o) at e.fronts in
      record {
        paused = paused.paused;
        retained = subst (λ (x : Pause). All (λ (y : ℕ × LiveRun B R). GoesOn w.header x y.1.block) m.execution.state.runs) paused.paused.pause_is
            paused.over;
        begun = fronts.at_stage.0;
        no_run = fronts.runs;
        no_hook = fronts.hooks;
      }

  -- so it is where the block has states
  pub over_begun : HasStates w m b → IsOverBegun
  over_begun (inl at) = of_cached at.0 at.1
  over_begun (inr at) = of_ran at.0 at.1

module _ {B C I P R D H G U : Type 0} (w : Workings B C I P R D H G U) (laws : Laws w.kind) (stored : ℕ → Option (Named B)) (base : w.States)
    (p : Past B C I) (m now : Moment w) (f : Finalizing B G) (r : AppliesBlock w f m now) where
  -- Execution stands behind the block's mark, and the block, whose finalization had begun, is the anchor. The batch that was
  -- handed out shows a point on the one where the databases were, to which the applied blocks led: with the states to which the
  -- block leads from there, which match. The databases have applied that point, and are there.
  pub record IsAppliedBehind : Type 0 where
    pub executes : Executes w stored base (Made (Applied f.block) ∷ p) now
    pub point : Point w
    pub located : w.kind.point m.members ≡ Some point
    pub folded : fold (setting w stored) (Some base) (applied p) ≡ Some point.1
    pub q : Point w
    pub rest : List (Point w)
    pub shows : w.shows r.batch (q ∷ point ∷ rest)
    pub matches : Matches (setting w stored) point.1 f.block q.1
    pub now_at : w.kind.point now.members ≡ Some q
    pub members_are : now.members ≡ w.kind.applied m.members q
    pub anchor_is : now.execution.state.anchor ≡ anchor_by w.header f.block
    pub begun : IsBegun w stored p point m.next m.execution.state.anchor f.block

  -- It stands after that mark, and what was at hand keeps its point.
  pub record IsExecutedOver (e : Executes w stored base p m) (n : Moment w) : Type 0 where
    pub executes : Executes w stored base (Made (Applied f.block) ∷ p) n
    pub same : (d : Digest) → IsAtHand m.execution.state.anchor m.execution.state.cache d → executes.points d ≡ e.points d

  -- so it does
  pub ExecutesBehind-applied : IsAppliedBehind → ExecutesBehind w stored base p m now
  ExecutesBehind-applied a = record
      { more = Applied f.block ∷ []; marks_are = ap (λ (n : Moment w). n.marks) r.becomes; executes = a.executes; earned = (tt, tt) }

  module _ (e : Executes w stored base p m) (for_block : IsPausedFor w stored base p e.points e.point m.next m.execution.state f.block)
      (retained : All (λ x. IsRetained for_block.boundary (step_by w.header x.1.block)) m.execution.state.runs)
      (begun : IsBegun w stored p e.point m.next m.execution.state.anchor f.block)
      (no_run : (j : ℕ) (d : Digest) → IsLiveJob j Finalized d p → ⊥) (no_hook : (j : ℕ) (d : Digest) → IsLiveJob j Hook d p → ⊥)
      (no_build : m.execution.build ≡ None) where
    abbrev v : Tables B C I R U
    v = m.execution.state

    abbrev q : Past B C I
    q = Made (Applied f.block) ∷ p

    over : IsAppliedOver w stored p e.point m.next f.block r.state e.points v.anchor v.cache r.batch
    over = IsAppliedOver-moves w stored p e.points e.point m.next v r.state e.tables for_block.boundary for_block.pause_is for_block.ground.names
        for_block.finalizes retained
        f.block begun m.members m.execution.front r.front e.fronts r.batch r.captured r.moves

    abbrev is_applied : IsApplied w stored p e.point m.next f.block r.state r.batch
    is_applied = over.applied

    abbrev top : Point w
    top = is_applied.points f.block.digest

    anchored : r.state.anchor ≡ anchor_by w.header f.block
    anchored = ap (λ (x : Tables B C I R U). x.anchor) r.moves.state

    moved : HasMovedSo r.state
    moved = HasMovedSo-moves w stored p e.points e.point m.next v r.state e.tables for_block.boundary for_block.pause_is for_block.ground.names
        for_block.finalizes retained
        f.block begun m.members m.execution.front r.front e.fronts r.batch r.captured r.moves

    met : Met (setting w stored) p f.block
    met = root-Met w stored p e.points m.next v.anchor v.cache for_block.boundary for_block.ground.stands for_block.ground.names
        for_block.finalizes f.block begun.begun_is r.state.cache r.moves.cut

    free : TablesStand w stored q is_applied.points top m.next (record r.state { pause = Free })
    free = TablesStand-free w stored q is_applied.points top m.next r.state moved.boundary moved.pause_is moved.moved is_applied.tables

    ground : IsGround w stored base q is_applied.points top m.next r.state.anchor Free r.state.anchor r.state.cache
    ground = subst (λ (a : Anchor). IsGround w stored base q is_applied.points top m.next a Free a r.state.cache) (sym anchored)
        (record {
          stands = subst (λ (a : Anchor). CacheStands w stored q is_applied.points m.next a Free r.state.cache) anchored free.cache;
          at_anchor = refl;
          names = λ x y has_x has_y. for_block.ground.names x y (before x has_x) (before y has_y);
          folded = record {
            anchor_is = refl;
            tip_is = for_block.ground.folded.tip_is;
            folded = fold_more w stored f.block (Some base) e.point.1 (applied p) for_block.ground.folded.folded top.1 is_applied.matches.step;
          };
          top = record { block = f.block; met = inr met; is = refl };
          tip_by = refl;
        })
      where
        before : (x : Named B) → Met (setting w stored) (Made (Applied f.block) ∷ p) x → Met (setting w stored) p x
        before x (inl brought) = subst (λ (y : Named B). Met (setting w stored) p y) (sym brought) met
        before x (inr old) = old

    settled : FetchesNone r.state.requests
    settled = subst (λ (x : Tables B C I R U). FetchesNone x.requests) (sym r.moves.state) for_block.settled

    members_at : w.kind.point r.members ≡ Some top
    members_at = subst (λ (x : w.kind.Members). w.kind.point x ≡ Some top) (sym (r.applied e.point top is_applied.rest e.located is_applied.shows))
        (laws.apply.point_applied m.members e.point top e.located)

    builds : BuildStands w stored q is_applied.points m.next r.state m.execution.build
    builds = subst (λ (o : Option (Building B C D)). BuildStands w stored q is_applied.points m.next r.state o) (sym no_build)
        (none_built (subst (λ (o : Option (Building B C D)). BuildStands w stored p e.points m.next v o) no_build e.builds))
      where
        none_built : BuildStands w stored p e.points m.next v None → BuildStands w stored q is_applied.points m.next r.state None
        none_built h = record { each = tt; elsewhere = tt; complete = λ j d live. h.complete j d (record { live = live.live; is = live.is }) }

    fronts : FrontStands w stored q top m.next r.state.anchor r.front
    fronts = FrontStands-moves w stored p e.points e.point m.next v r.state e.tables for_block.boundary for_block.pause_is for_block.ground.names
        for_block.finalizes retained
        f.block begun m.members m.execution.front r.front e.fronts r.batch r.captured r.moves top no_run no_hook

    placed : IsPlaced w stored base q is_applied.points top m.next r.state r.front
    placed = subst (λ (o : Option (Front B R U H)). IsPlaced w stored base q is_applied.points top m.next r.state o) (sym r.moves.after_is)
        (record { moved = moved; ground = ground; settled = settled })

    executes : IsExecutedOver e (record m {
      execution = record m.execution { state = r.state; front = r.front };
      loop = record m.loop {
        durability = record m.loop.durability { applied = w.header.height f.block.block };
        front = Some (record f { captured = Some r.captured });
      };
      members = r.members;
      marks = m.marks ++ Applied f.block ∷ [];
    })
    executes = record {
      executes = record {
        points = is_applied.points;
        point = top;
        located = members_at;
        drawn = laws.ids.issued_first m.next top (e.point ∷ is_applied.rest) is_applied.drawn;
        tables = is_applied.tables;
        builds = builds;
        fronts = fronts;
        placed = placed;
        alone = λ some. let none = no_build in absurd (cc);
      };
      same = over.same;
    }

    executes_over : IsExecutedOver e now
    executes_over = subst (λ (n : Moment w). IsExecutedOver e n) (sym r.becomes) executes

    behind : IsAppliedBehind
    behind = record {
      executes = executes_over.executes;
      point = e.point;
      located = e.located;
      folded = for_block.ground.folded.folded;
      q = top;
      rest = is_applied.rest;
      shows = is_applied.shows;
      matches = is_applied.matches;
      now_at = subst (λ (n : Moment w). w.kind.point n.members ≡ Some top) (sym r.becomes) members_at;
      members_are = ap (λ (n : Moment w). n.members) r.becomes ∙ r.applied e.point top is_applied.rest e.located is_applied.shows;
      anchor_is = subst (λ (n : Moment w). n.execution.state.anchor ≡ anchor_by w.header f.block) (sym r.becomes) anchored;
      begun = begun;
    }

  -- Execution stands after the apply of a finalized block that has states.
  pub Executes-applies : Executes w stored base p m → IsFinalizing w m f → HasStates w m f.block → IsAppliedBehind
  Executes-applies e front has =
      let h : IsOverBegun w stored base p m f.block e = over_begun w stored base p m f.block e has in
      behind e h.paused h.retained h.begun h.no_run h.no_hook front.1

  -- Behind it what was at hand keeps its point.
  pub Executes-applies_over : (e : Executes w stored base p m) → IsFinalizing w m f → HasStates w m f.block → IsExecutedOver e now
  Executes-applies_over e front has =
      let h : IsOverBegun w stored base p m f.block e = over_begun w stored base p m f.block e has in
      executes_over e h.paused h.retained h.begun h.no_run h.no_hook front.1
