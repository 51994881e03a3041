-- Where execution is placed stays so while the anchor does: free, paused for a finalization, or moved on to its block.
use Rattle.std.proofs.Common.{◌≡◌, ℕ, List, Option, Some, Contains, refl, sym, ap, ◌∙◌, subst, MatchOption}
use Rattle.stateful_base.specs.Names.{Named}
use Rattle.stateful_base.specs.Anchor.{anchor_by}
use Rattle.stateful_base.specs.declared.anchor.Anchor.{Anchor}
use Rattle.stateful_base.specs.declared.digest.Digest.{Digest}
use Rattle.stateful_history.specs.Anchors.{tip_of}
use Rattle.stateful_history.specs.Finalizations.{IsChildOf}
use Rattle.stateful_history.specs.Met.{Met, TrueNames}
use Rattle.stateful_history.specs.Past.{Past}
use Rattle.stateful_exec_cache.specs.declared.cache.Cached.{Cached}
use Rattle.stateful_exec_pause.specs.Boundary.{Boundary}
use Rattle.stateful_exec_model.specs.Workings.{Workings, Point}
use Rattle.stateful_exec_pause.specs.declared.pause.Pause.{Pause}
use Rattle.stateful_exec_pause.specs.declared.pause.Pause.TheVariants.{Free, Finalizing}
use Rattle.stateful_exec_tables.specs.declared.state.Tables.{Tables}
use Rattle.stateful_exec_tables.specs.declared.tables.Requested.{Requested}
use Rattle.stateful_exec_laws.specs.Caching.{CacheStands}
use Rattle.stateful_exec_laws.specs.Crossing.{Finalizes, HasMovedSo}
use Rattle.stateful_exec_laws.specs.Ground.{IsFolded, IsOfBlock}
use Rattle.stateful_exec_laws.specs.Setting.{setting}
use Rattle.stateful_exec_laws.specs.Standing.{TablesStand}
use Rattle.stateful_exec_laws.proofs.earned.Left.{IsLeft}
use Rattle.stateful_exec_laws.proofs.ended.Kept.{IsRoundOf}
use Rattle.stateful_exec_laws.proofs.front.FinalizesBegins.{Finalizes-later}
use Rattle.stateful_exec_laws.proofs.front.MovedStands.{TablesStand-free}
use Rattle.stateful_loop_laws.specs.Execution.{FetchesNone, IsFree, IsPausedFor, IsPausedOver, HasMovedOn}

module _ {B C I P R D H G U : Type 0} (w : Workings B C I P R D H G U) (stored : ℕ → Option (Named B)) (p : Past B C I) (anchor : Anchor)
    (cache : List (Cached U)) (tip : Anchor) (boundary : Boundary) where
  -- while a finalization goes on the tip isn't the anchor
  pub tip_apart : Finalizes w stored p anchor cache boundary → tip_of w.header p ≡ Some tip → tip ≡ anchor → ⊥
  tip_apart f tip_is same =
      let at_tip : (tip.digest ≡ boundary.digest) × (tip.round ≡ boundary.round) =
      subst (λ (o : Option Anchor). MatchOption o ⊥ (λ t. (t.digest ≡ boundary.digest) × (t.round ≡ boundary.round))) tip_is f.tip in
      f.other (subst (λ (d : Digest). Contains boundary.compatible d) (sym at_tip.0 ∙ ap (λ (a : Anchor). a.digest) same) f.own)

  -- the anchor is of its block's round
  pub round_of_block : TrueNames (setting w stored) p → IsOfBlock w stored p anchor → IsRoundOf w stored p anchor
  round_of_block names top x met is =
      let one : x ≡ top.block = names x top.block met top.met (is ∙ ap (λ (a : Anchor). a.digest) top.is) in
      ap (λ (y : Named B). w.header.round y.block) one ∙ sym (ap (λ (a : Anchor). a.round) top.is)

module _ {B C I P R D H G U : Type 0} (w : Workings B C I P R D H G U) (stored : ℕ → Option (Named B)) (base : w.States) (p q : Past B C I)
    (point : Point w) where
  -- a past has grown: at least the same blocks were met, what was applied leads to the same place, and names are true still
  pub record IsGrown : Type 0 where
    pub met : (b : Named B) → Met (setting w stored) p b → Met (setting w stored) q b
    pub folded : (anchor tip : Anchor) → IsFolded w stored base p anchor tip point → IsFolded w stored base q anchor tip point
    pub names : TrueNames (setting w stored) q

module _ {B C I P R D H G U : Type 0} (w : Workings B C I P R D H G U) (stored : ℕ → Option (Named B)) (base : w.States) (p q : Past B C I)
    (point : Point w) (grown : IsGrown w stored base p q point)
    (points now : Digest → Point w) (next ids : w.Ids) (old new : Tables B C I R U) (stands : TablesStand w stored q now point ids new)
    (same : new.anchor ≡ old.anchor) where
  cache_by : (pause : Pause) → new.pause ≡ pause → CacheStands w stored q now ids new.anchor pause new.cache
  cache_by pause is = subst (λ (x : Pause). CacheStands w stored q now ids new.anchor x new.cache) is stands.cache

  folded_by : (tip : Anchor) → IsFolded w stored base p old.anchor tip point → IsFolded w stored base q new.anchor tip point
  folded_by tip f = subst (λ (a : Anchor). IsFolded w stored base q a tip point) (sym same) (grown.folded old.anchor tip f)

  top_by : IsOfBlock w stored p old.anchor → IsOfBlock w stored q new.anchor
  top_by t = record { block = t.block; met = grown.met t.block t.met; is = same ∙ t.is }

  -- nothing pauses still
  pub IsFree-behind : new.pause ≡ Free → IsFree w stored base p points point next old → IsFree w stored base q now point ids new
  IsFree-behind free f = record {
    pause_is = free;
    ground = record {
      stands = cache_by Free free;
      at_anchor = stands.at_anchor;
      names = grown.names;
      folded = subst (λ (a : Anchor). IsFolded w stored base q new.anchor a point) (sym same) (folded_by old.anchor f.ground.folded);
      top = top_by f.ground.top;
      tip_by = refl;
    };
  }

  -- execution is paused still, where the finalization goes on
  pub IsPausedFor-behind : (b : Named B) (boundary : Boundary) → new.pause ≡ Finalizing boundary
      → Finalizes w stored q new.anchor new.cache boundary → FetchesNone new.requests
      → IsPausedFor w stored base p points point next old b → IsPausedFor w stored base q now point ids new b
  IsPausedFor-behind b boundary paused goes_on settled f = record {
    boundary = boundary;
    pause_is = paused;
    finalizes = goes_on;
    settled = settled;
    ground = record {
      stands = cache_by (Finalizing boundary) paused;
      at_anchor = stands.at_anchor;
      names = grown.names;
      folded = folded;
      top = top_by f.ground.top;
      met = grown.met b f.ground.met;
      child = subst (λ (a : Anchor). IsChildOf w.header a b) (sym same) f.ground.child;
    };
  }
    where
      folded : IsFolded w stored base q new.anchor (anchor_by w.header b) point
      folded = folded_by (anchor_by w.header b) f.ground.folded

  -- the block of the finalization is the anchor still
  pub HasMovedOn-behind : HasMovedSo new → FetchesNone new.requests → HasMovedOn w stored base p points point next old
      → HasMovedOn w stored base q now point ids new
  HasMovedOn-behind moved settled f = record {
    moved = moved;
    settled = settled;
    ground = record {
      stands = (TablesStand-free w stored q now point ids new moved.boundary moved.pause_is moved.moved stands).cache;
      at_anchor = stands.at_anchor;
      names = grown.names;
      folded = subst (λ (a : Anchor). IsFolded w stored base q new.anchor a point) (sym same) (folded_by old.anchor f.ground.folded);
      top = top_by f.ground.top;
      tip_by = refl;
    };
  }

  -- so it is where the cache, the pause and the requests are as they were too
  module _ (left : IsLeft old new) (requests : new.requests ≡ old.requests) where
    pub IsPausedFor-left : (b : Named B) → IsPausedFor w stored base p points point next old b → IsPausedFor w stored base q now point ids new b
    IsPausedFor-left b f =
        let tip_same : tip_of w.header q ≡ tip_of w.header p =
        (grown.folded old.anchor (anchor_by w.header b) f.ground.folded).tip_is ∙ sym f.ground.folded.tip_is in
        IsPausedFor-behind b f.boundary (left.pause ∙ f.pause_is)
        (rw (left.anchor, left.cache) (Finalizes-later w stored p q tip_same grown.met old.anchor old.cache f.boundary f.finalizes))
        (subst (λ (l : List (ℕ × Requested B C I)). FetchesNone l) (sym requests) f.settled) f

    pub HasMovedOn-left : HasMovedOn w stored base p points point next old → HasMovedOn w stored base q now point ids new
    HasMovedOn-left f =
        HasMovedOn-behind
        (record { boundary = f.moved.boundary; pause_is = left.pause ∙ f.moved.pause_is; moved = rw (left.anchor, left.cache) f.moved.moved })
        (subst (λ (l : List (ℕ × Requested B C I)). FetchesNone l) (sym requests) f.settled) f

    -- and where the runs are too
    pub IsPausedOver-left : new.runs ≡ old.runs → (b : Named B) → IsPausedOver w stored base p points point next old b
        → IsPausedOver w stored base q now point ids new b
    IsPausedOver-left runs b f = record { paused = IsPausedFor-left b f.paused; over = rw (runs, left.pause) f.over }
