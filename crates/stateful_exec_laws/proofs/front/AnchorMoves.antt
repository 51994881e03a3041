-- The tables and the finalization stand after the anchor's move, and the databases apply states to which the block leads.
use Rattle.std.proofs.Common.{◌≡◌, ◌≢◌, inl, inr, ℕ, List, [], ◌∷◌, All, Option, Some, get_or, refl, sym, ap, ◌∙◌, subst}
use Rattle.stateful_base.specs.Names.{Named}
use Rattle.stateful_base.specs.Anchor.{anchor_by}
use Rattle.stateful_base.specs.declared.anchor.Anchor.{Anchor}
use Rattle.stateful_base.specs.declared.digest.Digest.{Digest}
use Rattle.stateful_history.specs.Setting.{parent_of}
use Rattle.stateful_history.specs.Past.{Past, Made}
use Rattle.stateful_history.specs.Finalizations.{begun}
use Rattle.stateful_history.specs.Jobs.{IsLiveJob}
use Rattle.stateful_history.specs.Joined.{Matches}
use Rattle.stateful_history.specs.Met.{Met, TrueNames}
use Rattle.stateful_history.specs.declared.mark.JobKind.TheVariants.{Finalized, Hook}
use Rattle.stateful_history.specs.declared.mark.Mark.TheVariants.{Applied}
use Rattle.stateful_exec_cache.specs.Cache.{IsAtHand}
use Rattle.stateful_exec_cache.specs.Cut.{IsCutTo, IsRootOf}
use Rattle.stateful_exec_cache.specs.declared.cache.Cached.{Cached}
use Rattle.stateful_exec_pause.specs.Boundary.{Boundary, step_by, IsRetained}
use Rattle.stateful_exec_model.specs.Finalizing.{front_at, IsRoot, cached, ran, Moves}
use Rattle.stateful_exec_model.specs.Workings.{Workings, Point}
use Rattle.stateful_exec_model.specs.declared.front.Front.{Front}
use Rattle.stateful_exec_model.specs.declared.front.Stage.TheVariants.{Ran}
use Rattle.stateful_exec_pause.specs.declared.pause.Pause.TheVariants.{Finalizing}
use Rattle.stateful_exec_tables.specs.declared.state.Tables.{Tables}
use Rattle.stateful_exec_laws.specs.Setting.{setting}
use Rattle.stateful_exec_laws.specs.Chains.{Leads}
use Rattle.stateful_exec_laws.specs.Caching.{IsCached, CacheStands}
use Rattle.stateful_exec_laws.specs.Fronting.{IsRunTo, IsBegun, FrontStands}
use Rattle.stateful_exec_laws.specs.Standing.{TablesStand}
use Rattle.stateful_exec_laws.proofs.ended.Runs.{Moves as Goes, IsCached-moved, IsRunning-moved}
use Rattle.stateful_exec_laws.proofs.ended.Points.{with_point, with_point-at, with_point-other, Moves-to}
use Rattle.stateful_exec_laws.proofs.ended.Stands.{entry_at_hand}
use Rattle.stateful_exec_laws.proofs.ended.Finalizing.{Finalizes}
use Rattle.stateful_exec_laws.proofs.pauses.Known.{Any-found}
use Rattle.stateful_exec_laws.proofs.linked.Rooting.{OnFirst, on_first}
use Rattle.stateful_exec_laws.proofs.front.AnchorCut.{root-Met, root_is, root_round, root_other, kept_compatible}
use Rattle.stateful_exec_laws.proofs.front.AnchorStands.{TablesStand-applied}
use Rattle.stateful_exec_laws.proofs.front.MovedStands.{HasMovedSo}

module _ {B C I P R D H G U : Type 0} (w : Workings B C I P R D H G U) (stored : ℕ → Option (Named B)) (p : Past B C I) (point : Point w) (next : w.Ids) (b : Named B) (new : Tables B C I R U) where
  -- What stands after the anchor's move to a finalized block, where its batch is applied: the batch shows a point with the
  -- states to which the block leads from those of the databases, which match, and its ids were drawn; behind the block's mark
  -- the tables stand over that point.
  pub record IsApplied (batch : U) : Type 0 where
    pub points : Digest → Point w
    pub rest : List (Point w)
    pub shows : w.shows batch (points b.digest ∷ point ∷ rest)
    pub matches : Matches (setting w stored) point.1 b (points b.digest).1
    pub drawn : w.kind.issued next (points b.digest ∷ point ∷ rest)
    pub tables : TablesStand w stored (Made (Applied b) ∷ p) points (points b.digest) next new

  -- Besides, what was at hand keeps its point.
  pub record IsAppliedOver (before : Digest → Point w) (anchor : Anchor) (cache : List (Cached U)) (batch : U) : Type 0 where
    pub applied : IsApplied batch
    pub same : (d : Digest) → IsAtHand anchor cache d → applied.points d ≡ before d

module _ {B C I P R D H G U : Type 0} (w : Workings B C I P R D H G U) (stored : ℕ → Option (Named B)) (p : Past B C I) (points : Digest → Point w) (point : Point w) (next : w.Ids) (old : Tables B C I R U) (s : TablesStand w stored p points point next old)
    (boundary : Boundary) (paused : old.pause ≡ Finalizing boundary) (names : TrueNames (setting w stored) p) (f : Finalizes w stored p old.anchor old.cache boundary)
    (b : Named B) (begun_is : begun p ≡ Some b) (child : parent_of (setting w stored) b ≡ old.anchor.digest) (kept_entries : List (Cached U)) (cut : IsCutTo (anchor_by w.header b) old.cache kept_entries)
    (retained : All (λ e. IsRetained boundary (step_by w.header e.1.block)) old.runs) where
  abbrev moved : Tables B C I R U
  moved = record old { anchor = anchor_by w.header b; cache = kept_entries }

  met_b : Met (setting w stored) p b
  met_b = root-Met w stored p points next old.anchor old.cache boundary (subst (λ pause. CacheStands w stored p points next old.anchor pause old.cache) paused s.cache) names f b begun_is kept_entries cut

  not_anchor : b.digest ≢ old.anchor.digest
  not_anchor = root_other w stored p points next old.anchor old.cache boundary (subst (λ pause. CacheStands w stored p points next old.anchor pause old.cache) paused s.cache) names f b begun_is kept_entries cut

  -- the block's entry shows its states on those of the databases
  pub IsApplied-cached : (batch : U) → IsRootOf (anchor_by w.header b) old.cache batch
      → IsAppliedOver w stored p point next b moved points old.anchor old.cache batch
  IsApplied-cached batch root =
      let e = Any-found (IsCached w stored p points next old.anchor) (λ c. (c.digest ≡ b.digest) × (c.batch ≡ batch)) old.cache s.cache.each root in
      let h : IsCached w stored p points next old.anchor e.0 = e.1 in
      let on : OnFirst w points (Leads w stored p) old.anchor.digest b e.0.digest (points e.0.digest ∷ h.below) =
      on_first w points (Leads w stored p) old.anchor.digest h.chain h.other b (λ t u x l is. names x b l.met met_b (is ∙ e.2.0)) child in
      let root_chain : points e.0.digest ∷ h.below ≡ points b.digest ∷ point ∷ on.rest = on.is ∙ ap (λ (d : Digest). points d ∷ points old.anchor.digest ∷ on.rest) e.2.0 ∙ ap (λ (x : Point w). points b.digest ∷ x ∷ on.rest) s.at_anchor in
      record {
        applied = record {
          points = points;
          rest = on.rest;
          shows = subst (λ (l : List (Point w)). w.shows batch l) root_chain (subst (λ (x : U). w.shows x (points e.0.digest ∷ h.below)) e.2.1 h.shows);
          matches = subst (λ (x : Point w). Matches (setting w stored) x.1 b (points b.digest).1) s.at_anchor (subst (λ (d : Digest). Matches (setting w stored) (points old.anchor.digest).1 b (points d).1) e.2.0 on.leads.matches);
          drawn = subst (λ (l : List (Point w)). w.kind.issued next l) root_chain h.drawn;
          tables = TablesStand-applied w stored p points point next old s boundary paused names f b begun_is kept_entries cut retained;
        };
        same = λ d at_hand. refl;
      }

  module _ (batch : U) (uncached : All (λ e. e.digest ≢ b.digest) old.cache) (r : IsRunTo w stored p point next b batch) where
    abbrev top : Point w
    top = (r.own, r.states)

    abbrev now : Digest → Point w
    now = with_point points b.digest top

    own : now b.digest ≡ top
    own = with_point-at points b.digest top

    unknown : IsAtHand old.anchor old.cache b.digest → ⊥
    unknown (inl e) = not_anchor e
    unknown (inr a) = let e = Any-found (λ c. c.digest ≢ b.digest) (λ c. c.digest ≡ b.digest) old.cache uncached a in e.1 e.2

    goes : Goes w stored p p points now old.anchor old.cache
    goes = Moves-to w stored p p (λ c m. m) (λ t c u l. l) points next old.anchor old.cache names s.cache.each s.cache.in_order b.digest unknown top

    -- the tables stand over the block's point too
    stands : TablesStand w stored p now point next old
    stands = record {
      at_anchor = with_point-other points b.digest top old.anchor.digest (λ e. not_anchor (sym e)) ∙ s.at_anchor;
      cache = record {
        each = λ k d l. IsCached-moved w stored p p points now old.anchor old.cache goes next (get_or old.cache k d) (entry_at_hand old.anchor old.cache k d l) (s.cache.each k d l);
        in_order = s.cache.in_order;
        knows = s.cache.knows;
      };
      runs = record {
        ascending = s.runs.ascending;
        each = λ k d l. let e = get_or old.runs k d in IsRunning-moved w stored p p points now old.anchor old.cache goes next old.cache (λ x at_hand. at_hand) e.0 e.1 refl refl refl (s.runs.each k d l);
        apart = s.runs.apart;
        complete = s.runs.complete;
      };
      requests = s.requests;
      once = s.once;
      queue = s.queue;
      numbers = s.numbers;
    }

    -- the block's run has led to a batch, and no entry is the block's
    pub IsApplied-ran : IsAppliedOver w stored p point next b moved points old.anchor old.cache batch
    IsApplied-ran = record {
      applied = record {
        points = now;
        rest = [];
        shows = subst (λ (x : Point w). w.shows batch (x ∷ point ∷ [])) (sym own) r.shows;
        matches = subst (λ (x : Point w). Matches (setting w stored) point.1 b x.1) (sym own) r.matches;
        drawn = subst (λ (x : Point w). w.kind.issued next (x ∷ point ∷ [])) (sym own) r.drawn;
        tables = TablesStand-applied w stored p now point next old stands boundary paused names f b begun_is kept_entries cut retained;
      };
      same = goes.same;
    }

module _ {B C I P R D H G U : Type 0} (w : Workings B C I P R D H G U) (stored : ℕ → Option (Named B)) (p : Past B C I) (points : Digest → Point w) (point : Point w) (next : w.Ids) (old new : Tables B C I R U) (s : TablesStand w stored p points point next old)
    (boundary : Boundary) (paused : old.pause ≡ Finalizing boundary) (names : TrueNames (setting w stored) p) (f : Finalizes w stored p old.anchor old.cache boundary)
    (retained : All (λ e. IsRetained boundary (step_by w.header e.1.block)) old.runs)
    (b : Named B) (from : IsBegun w stored p point next old.anchor b) (members : w.kind.Members) (before after : Option (Front B R U H)) (front : FrontStands w stored p point next old.anchor before) (batch : U) (captured : G)
    (moves : Moves w b members old new before after batch captured) where
  -- a front whose run has led to a batch is of the block
  front_ran : (c : Named B) → before ≡ front_at c (Ran batch) → IsRunTo w stored p point next b batch
  front_ran c is =
      let h : FrontStands w stored p point next old.anchor (front_at c (Ran batch)) = subst (λ o. FrontStands w stored p point next old.anchor o) is front in
      let own : Some c ≡ Some b = sym h.at_stage.0.begun_is ∙ from.begun_is in
      let same : c ≡ b = search in
      subst (λ (x : Named B). IsRunTo w stored p point next x batch) same h.at_stage.1

  applied_with : IsRoot w b old.cache before batch
      → IsAppliedOver w stored p point next b (record old { anchor = anchor_by w.header b; cache = new.cache }) points old.anchor old.cache batch
  applied_with (cached root) = IsApplied-cached w stored p points point next old s boundary paused names f b from.begun_is from.parent_is new.cache moves.cut retained batch root
  applied_with (ran {c = c} uncached is) = IsApplied-ran w stored p points point next old s boundary paused names f b from.begun_is from.parent_is new.cache moves.cut retained batch uncached (front_ran c is)

  -- the tables stand after the anchor's move, where its batch is applied
  pub IsAppliedOver-moves : IsAppliedOver w stored p point next b new points old.anchor old.cache batch
  IsAppliedOver-moves = subst (λ (v : Tables B C I R U). IsAppliedOver w stored p point next b v points old.anchor old.cache batch) (sym moves.state)
      (applied_with moves.root)

  -- the finalization stands at the anchor then, where no run and no hook of it was live
  pub FrontStands-moves : (at : Point w) → ((j : ℕ) (d : Digest) → IsLiveJob j Finalized d p → ⊥) → ((j : ℕ) (d : Digest) → IsLiveJob j Hook d p → ⊥) → FrontStands w stored (Made (Applied b) ∷ p) at next new.anchor after
  FrontStands-moves at no_run no_hook = let anchored : new.anchor ≡ anchor_by w.header b = ap (λ (v : Tables B C I R U). v.anchor) moves.state in rw (moves.after_is, anchored) (record {
    at_stage = refl;
    runs = λ j d live. no_run j d (record { live = live.live; is = live.is });
    hooks = λ j d live. no_hook j d (record { live = live.live; is = live.is });
  })

  -- the anchor has moved, and each cached block is compatible with it
  pub HasMovedSo-moves : HasMovedSo new
  HasMovedSo-moves =
      let cache : CacheStands w stored p points next old.anchor (Finalizing boundary) old.cache = subst (λ pause. CacheStands w stored p points next old.anchor pause old.cache) paused s.cache in
      subst (λ (v : Tables B C I R U). HasMovedSo v) (sym moves.state) (record {
        boundary = boundary;
        pause_is = paused;
        moved = record {
          digest_is = root_is w stored p points next old.anchor old.cache boundary cache names f b from.begun_is new.cache moves.cut;
          round_is = root_round w stored p points next old.anchor old.cache boundary cache names f b from.begun_is new.cache moves.cut;
          own = f.own;
          compatible = kept_compatible w stored p points next old.anchor old.cache boundary cache names f b from.begun_is new.cache moves.cut;
        };
      })
