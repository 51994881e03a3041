-- The ways of requests stay open behind a request that is served.
use Rattle.std.proofs.Common.{◌≡◌, ◌≢◌, ◌++◌, ℕ, List, [], ◌∷◌, All, Option, sym, ◌∙◌, subst}
use Rattle.std.proofs.lemmas.List.{append_assoc}
use Rattle.std.proofs.lemmas.List.Elements.{All-weaker}
use Rattle.stateful_base.specs.Names.{Named}
use Rattle.stateful_base.specs.declared.anchor.Anchor.{Anchor}
use Rattle.stateful_base.specs.declared.digest.Digest.{Digest}
use Rattle.stateful_history.specs.Past.{Past}
use Rattle.stateful_history.specs.declared.mark.How.{How}
use Rattle.stateful_exec_cache.specs.Cache.{IsIn}
use Rattle.stateful_exec_cache.specs.declared.cache.Cached.{Cached}
use Rattle.stateful_table.specs.Table.{put}
use Rattle.stateful_exec_pause.specs.Fates.{AwaitsBoundary}
use Rattle.stateful_exec_model.specs.Ending.{Follows, given_up, at_boundary, failed, parked, goes_on}
use Rattle.stateful_exec_model.specs.Moments.{Moment}
use Rattle.stateful_exec_walk.specs.Path.{Path}
use Rattle.stateful_exec_tables.specs.Tables.{ended, requested}
use Rattle.stateful_exec_model.specs.Rules.{Concludes, Advances, arrives, leaves, joins, starts, misses}
use Rattle.stateful_exec_tables.specs.Meeting.{Reaches}
use Rattle.stateful_exec_model.specs.Workings.{Workings}
use Rattle.stateful_exec_pause.specs.declared.pause.Pause.{Pause}
use Rattle.stateful_exec_pause.specs.declared.pause.Pause.TheVariants.{Free, Finalizing, Pruning}
use Rattle.stateful_exec_walk.specs.declared.request.Request.{Request}
use Rattle.stateful_exec_walk.specs.declared.request.Request.TheVariants.{Verify, Recover}
use Rattle.stateful_exec_walk.specs.declared.request.Verdict.{Verdict}
use Rattle.stateful_exec_walk.specs.declared.request.Verdict.TheVariants as verdict
use Rattle.stateful_exec_tables.specs.declared.state.Tables.{Tables}
use Rattle.stateful_exec_tables.specs.declared.tables.Phase.{Phase}
use Rattle.stateful_exec_tables.specs.declared.tables.Phase.TheVariants.{Open, Fetching, Waiting, Executing, Parked}
use Rattle.stateful_exec_tables.specs.declared.tables.Released.{Released}
use Rattle.stateful_exec_tables.specs.declared.tables.Requested.{Requested}
use Rattle.stateful_exec_laws.specs.Setting.{setting}
use Rattle.stateful_exec_laws.specs.Requesting.{first_of, steps}
use Rattle.stateful_exec_laws.specs.Ways.{IsParkedOn, KeepOff, IsUnsettled, IsOnOpenWay, WaysStand}
use Rattle.stateful_exec_laws.proofs.requests.AdvanceStands.{All-front}
use Rattle.stateful_exec_laws.proofs.requests.Putting.{All-put}
use Rattle.stateful_exec_laws.proofs.requests.SamePast.{IsSamePast, canonical-same}

module _ {B C I P R D H G U : Type 0} (w : Workings B C I P R D H G U) (stored : ℕ → Option (Named B)) (tip : Anchor) (p q : Past B C I) (same : IsSamePast (setting w stored) p q) where
  -- a request is unsettled behind the same past
  pub IsUnsettled-same : (request : Request B C I) → IsUnsettled w stored p tip request → IsUnsettled w stored q tip request
  IsUnsettled-same request loose final = loose (sym (canonical-same (setting w stored) p q same (w.header.height (first_of request).block)) ∙ final)

  pub on_open_way : (pause : Pause) (anchor : Anchor) (cache : List (Cached U)) (request : Request B C I) (phase : Phase B) → IsOnOpenWay w stored p tip pause anchor cache request phase → IsOnOpenWay w stored q tip pause anchor cache request phase
  on_open_way pause anchor cache request (Executing j path) h = (h.0, IsUnsettled-same request h.1)
  on_open_way pause anchor cache request (Parked path) h = (h.0, h.1, IsUnsettled-same request h.2)
  on_open_way pause anchor cache request Open h = tt
  on_open_way pause anchor cache request (Fetching f) h = tt
  on_open_way pause anchor cache request Waiting h = tt

  -- and so are the ways
  pub WaysStand-same : (v : Tables B C I R U) → WaysStand w stored p tip v → WaysStand w stored q tip v
  WaysStand-same v h = All-weaker (λ (e : ℕ × Requested B C I). IsOnOpenWay w stored p tip v.pause v.anchor v.cache e.1.request e.1.phase) (λ e. IsOnOpenWay w stored q tip v.pause v.anchor v.cache e.1.request e.1.phase) (λ e k. on_open_way v.pause v.anchor v.cache e.1.request e.1.phase k) v.requests h

  ended_ways : (v : Tables B C I R U) (t : ℕ) (request : Request B C I) (x : Verdict) → WaysStand w stored q tip v → WaysStand w stored q tip (ended v t request x)
  ended_ways v t (Verify u ancestry) verdict.Valid h = h
  ended_ways v t (Verify u ancestry) verdict.Invalid h = h
  ended_ways v t (Recover u context ancestry input kind) verdict.Valid h = h
  ended_ways v t (Recover u context ancestry input kind) verdict.Invalid h = h

  module _ (m now : Moment w) (h : WaysStand w stored p tip m.state) where
    -- a request that ends leaves the ways
    pub WaysStand-concludes : (t : ℕ) (r : Requested B C I) (x : Verdict) → Concludes w m t r x now → WaysStand w stored q tip now.state
    WaysStand-concludes t r x is = rw is (ended_ways m.state t r.request x (WaysStand-same m.state h))

    -- one that is put back on an open way leaves them too
    pub put_ways : (t : ℕ) (r : Requested B C I) (phase : Phase B) → IsOnOpenWay w stored q tip m.state.pause m.state.anchor m.state.cache r.request phase
        → All (λ (e : ℕ × Requested B C I). IsOnOpenWay w stored q tip m.state.pause m.state.anchor m.state.cache e.1.request e.1.phase) (put m.state.requests t (record r { phase = phase }))
    put_ways t r phase on = All-put (λ (e : ℕ × Requested B C I). IsOnOpenWay w stored q tip m.state.pause m.state.anchor m.state.cache e.1.request e.1.phase) m.state.requests t (record r { phase = phase }) (WaysStand-same m.state h) on

    module _ (t : ℕ) (r : Requested B C I) (path : Path B) (off : KeepOff m.state.anchor path.blocks) (loose : (path.blocks ≡ [] → ⊥) → IsUnsettled w stored p tip r.request) where
      left_off : (left : List (Named B)) (b parent : Named B) → Reaches w.header m.state path left b parent → KeepOff m.state.anchor (left ++ b ∷ [])
      left_off left b parent reaches =
          All-front (λ x. x.digest ≢ m.state.anchor.digest) (left ++ b ∷ []) reaches.passed
          (subst (λ (l : List (Named B)). KeepOff m.state.anchor l) (reaches.parts ∙ sym (append_assoc left (b ∷ []) reaches.passed)) off)

      some_left : (left : List (Named B)) (b parent : Named B) → Reaches w.header m.state path left b parent → path.blocks ≡ [] → ⊥
      some_left left b parent reaches none = no_end left b reaches.passed (sym reaches.parts ∙ none)
        where
          no_end : (xs : List (Named B)) (x : Named B) (ys : List (Named B)) → xs ++ x ∷ ys ≡ [] → ⊥
          no_end [] x ys e = cc
          no_end (z ∷ xs) x ys e = cc

      -- one that goes along a path off the anchor waits on an open way
      pub WaysStand-advances : Advances w m t r path now → WaysStand w stored q tip now.state
      WaysStand-advances (arrives all concludes) = WaysStand-concludes t r verdict.Valid concludes
      WaysStand-advances (leaves reaches out concludes) = WaysStand-concludes t r verdict.Invalid concludes
      WaysStand-advances (joins {left = left} {b = b} {parent = c} j reaches on unknown has becomes) =
          rw becomes (put_ways t r (Executing j (record { blocks = left; parent = b })) (left_off left b c reaches, IsUnsettled-same r.request (loose (some_left left b c reaches))))
      WaysStand-advances (starts {left = left} {b = b} {parent = c} reaches on unknown unrun known launches) =
          rw (launches.state, launches.starts.state) (put_ways t r (Executing m.state.next_job (record { blocks = left; parent = b })) (left_off left b c reaches, IsUnsettled-same r.request (loose (some_left left b c reaches))))
      WaysStand-advances (misses reaches on unknown unrun unknown_parent concludes) = WaysStand-concludes t r verdict.Invalid concludes

    held_on : (pause : Pause) (anchor : Anchor) (cache : List (Cached U)) (b : Named B) (how : How) → AwaitsBoundary pause b how → IsParkedOn pause anchor cache b.digest
    held_on Free anchor cache b how is = absurd is
    held_on Pruning anchor cache b how is = absurd is
    held_on (Finalizing boundary) anchor cache b how is = is.0

    pruned_on : (pause : Pause) (anchor : Anchor) (cache : List (Cached U)) (d : Digest) → pause ≡ Pruning → IsIn cache d → IsParkedOn pause anchor cache d
    pruned_on Free anchor cache d is any = cc
    pruned_on Pruning anchor cache d is any = any
    pruned_on (Finalizing boundary) anchor cache d is any = cc

    -- one that follows the end of the run that it waited for
    pub WaysStand-follows : (b : Named B) (how : How) (r : Released B C I) → r.path.parent ≡ b → KeepOff m.state.anchor (steps r.path) → IsUnsettled w stored p tip r.request → Follows w b how r m now → WaysStand w stored q tip now.state
    WaysStand-follows b how r leads off loose (given_up out concludes) = WaysStand-concludes r.ticket (requested r.request) verdict.Invalid concludes
    WaysStand-follows b how r leads off loose (at_boundary is becomes) =
        rw becomes (put_ways r.ticket (requested r.request) (Parked r.path) (
          subst (λ (x : Named B). IsParkedOn m.state.pause m.state.anchor m.state.cache x.digest) (sym leads) (held_on m.state.pause m.state.anchor m.state.cache b how is),
          All-front (λ x. x.digest ≢ m.state.anchor.digest) r.path.blocks (r.path.parent ∷ []) off,
          IsUnsettled-same r.request loose,
        ))
    WaysStand-follows b how r leads off loose (failed not_held out concludes) = WaysStand-concludes r.ticket (requested r.request) verdict.Invalid concludes
    WaysStand-follows b how r leads off loose (parked pruning any becomes) =
        rw becomes (put_ways r.ticket (requested r.request) (Parked r.path) (
          subst (λ (x : Named B). IsParkedOn m.state.pause m.state.anchor m.state.cache x.digest) (sym leads) (pruned_on m.state.pause m.state.anchor m.state.cache b.digest pruning any),
          All-front (λ x. x.digest ≢ m.state.anchor.digest) r.path.blocks (r.path.parent ∷ []) off,
          IsUnsettled-same r.request loose,
        ))
    WaysStand-follows b how r leads off loose (goes_on kept not_held other any advances) =
        WaysStand-advances r.ticket (requested r.request) r.path (All-front (λ x. x.digest ≢ m.state.anchor.digest) r.path.blocks (r.path.parent ∷ []) off) (λ some. loose) advances
