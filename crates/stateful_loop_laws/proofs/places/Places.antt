-- What execution is paused for stays so behind what leaves the anchor, the cache, the pause and the tip.
use Rattle.std.proofs.Common.{◌≡◌, inr, ℕ, List, ◌∷◌, All, Option, None, Some, refl, ◌∙◌, subst}
use Rattle.stateful_base.specs.Names.{Named}
use Rattle.stateful_base.specs.declared.anchor.Anchor.{Anchor}
use Rattle.stateful_base.specs.declared.digest.Digest.{Digest}
use Rattle.stateful_history.specs.Anchors.{applied, anchor_of, tip_of}
use Rattle.stateful_history.specs.Met.{Met, TrueNames}
use Rattle.stateful_history.specs.Past.{Past, Item, after}
use Rattle.stateful_history.proofs.Marks.{Met-after}
use Rattle.stateful_history.specs.declared.mark.Mark.{Mark}
use Rattle.stateful_exec_tables.specs.Fetching.{Fetches}
use Rattle.stateful_exec_model.specs.Workings.{Workings, Point}
use Rattle.stateful_exec_model.specs.declared.front.Front.{Front}
use Rattle.stateful_exec_model.specs.declared.front.Stage.{Stage}
use Rattle.stateful_exec_model.specs.declared.front.Stage.TheVariants.{Begun, Running, Ran, Advanced, Hooking}
use Rattle.stateful_exec_pause.specs.declared.pause.Pause.{Pause}
use Rattle.stateful_exec_pause.specs.declared.pause.Pause.TheVariants.{Free, Finalizing}
use Rattle.stateful_exec_tables.specs.declared.state.Tables.{Tables}
use Rattle.stateful_exec_tables.specs.declared.tables.Phase.TheVariants.{Fetching}
use Rattle.stateful_exec_tables.specs.declared.tables.Requested.{Requested}
use Rattle.stateful_exec_laws.specs.Setting.{setting}
use Rattle.stateful_exec_laws.specs.Caching.{CacheStands}
use Rattle.stateful_exec_laws.specs.Ground.{IsGround}
use Rattle.stateful_exec_laws.specs.Standing.{TablesStand}
use Rattle.stateful_exec_laws.proofs.requests.Calm.{IsCalm, CacheStands-calm}
use Rattle.stateful_exec_laws.proofs.earned.Carried.{IsMild, IsFolded-mild}
use Rattle.stateful_exec_laws.proofs.earned.Left.{IsLeft}
use Rattle.stateful_exec_laws.proofs.front.FinalizesBegins.{Finalizes-later}
use Rattle.stateful_exec_laws.proofs.reasons.Ground.{IsGround-longer}
use Rattle.stateful_exec_laws.proofs.runs.Removing.{All-at}
use Rattle.stateful_loop_laws.specs.Execution.{FetchesNone, RunsGoOver, IsFree, IsPausedFor, HasMovedOn, IsPlacedAt, IsPlaced}

module _ {B C I P R D H G U : Type 0} (w : Workings B C I P R D H G U) (stored : ℕ → Option (Named B)) (base : w.States) where
  module _ (p q : Past B C I) (points : Digest → Point w) (point : Point w) (next ids : w.Ids) (v u : Tables B C I R U) (left : IsLeft v u)
      (anchor_same : anchor_of w.header q ≡ anchor_of w.header p) (tip_same : tip_of w.header q ≡ tip_of w.header p)
      (applied_same : applied q ≡ applied p)
      (met : (b : Named B) → Met (setting w stored) p b → Met (setting w stored) q b) (names : TrueNames (setting w stored) q)
      (stands : (pause : Pause) → CacheStands w stored p points next v.anchor pause v.cache
      → CacheStands w stored q points ids v.anchor pause v.cache)
      (settled : FetchesNone v.requests → FetchesNone u.requests) (over : RunsGoOver w.header v → RunsGoOver w.header u) where
    longer : (pause : Pause) (tip : Anchor) → IsGround w stored base p points point next tip pause v.anchor v.cache
        → IsGround w stored base q points point ids tip pause v.anchor v.cache
    longer pause tip g =
        IsGround-longer w stored base points point tip p q met anchor_same tip_same applied_same next ids pause v.anchor v.cache
        (stands pause g.stands) names g

    IsFree-left : IsFree w stored base p points point next v → IsFree w stored base q points point ids u
    IsFree-left h = record { pause_is = left.pause ∙ h.pause_is; ground = rw (left.anchor, left.cache) (longer Free v.anchor h.ground) }

    IsPausedFor-left : (b : Named B) → IsPausedFor w stored base p points point next v b → IsPausedFor w stored base q points point ids u b
    IsPausedFor-left b h = record {
      boundary = h.boundary;
      pause_is = left.pause ∙ h.pause_is;
      finalizes = rw (left.anchor, left.cache) (Finalizes-later w stored p q tip_same met v.anchor v.cache h.boundary h.finalizes);
      ground = record {
        stands = rw (left.anchor, left.cache) (stands (Finalizing h.boundary) h.ground.stands);
        at_anchor = rw left.anchor h.ground.at_anchor;
        names = names;
        folded = rw left.anchor (record {
          anchor_is = anchor_same ∙ h.ground.folded.anchor_is;
          tip_is = tip_same ∙ h.ground.folded.tip_is;
          folded = rw applied_same h.ground.folded.folded;
        });
        top = rw left.anchor (record { block = h.ground.top.block; met = met h.ground.top.block h.ground.top.met; is = h.ground.top.is });
        met = met b h.ground.met;
        child = rw left.anchor h.ground.child;
      };
      settled = settled h.settled;
    }

    HasMovedOn-left : HasMovedOn w stored base p points point next v → HasMovedOn w stored base q points point ids u
    HasMovedOn-left h = record {
      moved = record { boundary = h.moved.boundary; pause_is = left.pause ∙ h.moved.pause_is; moved = rw (left.anchor, left.cache) h.moved.moved };
      ground = rw (left.anchor, left.cache) (longer Free v.anchor h.ground);
      settled = settled h.settled;
    }

    placed_at : (b : Named B) (stage : Stage R U H) → IsPlacedAt w stored base p points point next v b stage
        → IsPlacedAt w stored base q points point ids u b stage
    placed_at b Begun h = IsPausedFor-left b h
    placed_at b (Running j run) h = record { paused = IsPausedFor-left b h.paused; over = over h.over }
    placed_at b (Ran batch) h = record { paused = IsPausedFor-left b h.paused; over = over h.over }
    placed_at b Advanced h = HasMovedOn-left h
    placed_at b (Hooking j hook) h = HasMovedOn-left h

    -- Where the anchor, the cache and the pause are as they were, and so are the past's anchor and tip, execution is paused for
    -- what it was.
    pub IsPlaced-left : (front : Option (Front B R U H)) → IsPlaced w stored base p points point next v front
        → IsPlaced w stored base q points point ids u front
    IsPlaced-left None h = IsFree-left h
    IsPlaced-left (Some f) h = placed_at f.block f.stage h

  module _ (p : Past B C I) (points : Digest → Point w) (point : Point w) (next : w.Ids) (v : Tables B C I R U) where
    names_at : (b : Named B) (stage : Stage R U H) → IsPlacedAt w stored base p points point next v b stage → TrueNames (setting w stored) p
    names_at b Begun h = h.ground.names
    names_at b (Running j run) h = h.paused.ground.names
    names_at b (Ran batch) h = h.paused.ground.names
    names_at b Advanced h = h.ground.names
    names_at b (Hooking j hook) h = h.ground.names

    -- names are true wherever execution stands
    pub placed-names : (front : Option (Front B R U H)) → IsPlaced w stored base p points point next v front → TrueNames (setting w stored) p
    placed-names None h = h.ground.names
    placed-names (Some f) h = names_at f.block f.stage h

    none_fetches : (b : Named B) (stage : Stage R U H) → IsPlacedAt w stored base p points point next v b stage → FetchesNone v.requests
    none_fetches b Begun h = h.settled
    none_fetches b (Running j run) h = h.paused.settled
    none_fetches b (Ran batch) h = h.paused.settled
    none_fetches b Advanced h = h.settled
    none_fetches b (Hooking j hook) h = h.settled

    -- where a request fetches, no finalization goes on
    pub fetches-free : (front : Option (Front B R U H)) → IsPlaced w stored base p points point next v front → (f t : ℕ) (r : Requested B C I)
        → Fetches v f t r → front ≡ None
    fetches-free None h f t r fetches = refl
    fetches-free (Some x) h f t r fetches =
        absurd (All-at (λ (e : ℕ × Requested B C I). (g : ℕ) → e.1.phase ≡ Fetching g → ⊥) v.requests t r fetches.there
        (none_fetches x.block x.stage h) f fetches.fetching)

    -- Nothing pauses still after marks that neither open, finalize nor prune, where the tables stand with the same anchor, cache
    -- and pause.
    pub IsFree-mild : (more : List (Mark B)) → All (λ x. IsMild x) more → TrueNames (setting w stored) (after p more)
        → (ids : w.Ids) (u : Tables B C I R U) → IsLeft v u → TablesStand w stored (after p more) points point ids u
        → IsFree w stored base p points point next v → IsFree w stored base (after p more) points point ids u
    IsFree-mild more mild names ids u left tables h = record {
      pause_is = left.pause ∙ h.pause_is;
      ground = record {
        stands = subst (λ (x : Pause). CacheStands w stored (after p more) points ids u.anchor x u.cache) (left.pause ∙ h.pause_is) tables.cache;
        at_anchor = tables.at_anchor;
        names = names;
        folded = rw left.anchor (IsFolded-mild w stored base v.anchor v.anchor point p more mild h.ground.folded);
        top = record {
          block = h.ground.top.block;
          met = Met-after (setting w stored) p more h.ground.top.block h.ground.top.met;
          is = left.anchor
              ∙ h.ground.top.is;
        };
        tip_by = refl;
      };
    }

  module _ (p : Past B C I) (x : Item B C I) (calm : IsCalm (setting w stored) p x) (anchor_same : anchor_of w.header (x ∷ p) ≡ anchor_of w.header p)
      (applied_same : applied (x ∷ p) ≡ applied p) (names : TrueNames (setting w stored) (x ∷ p)) where
    -- execution is paused for what it was behind an item that neither opens, finalizes nor keeps anything
    pub IsPlaced-calm : (points : Digest → Point w) (point : Point w) (next : w.Ids) (v : Tables B C I R U) (front : Option (Front B R U H))
        → IsPlaced w stored base p points point next v front → IsPlaced w stored base (x ∷ p) points point next v front
    IsPlaced-calm points point next v front h =
        IsPlaced-left p (x ∷ p) points point next next v v (record { anchor = refl; cache = refl; pause = refl }) anchor_same calm.tip applied_same
        (λ b met. inr met) names
        (λ pause s. CacheStands-calm w stored p x calm points next v.anchor pause v.cache s) (λ s. s) (λ s. s) front h
