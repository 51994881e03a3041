-- The ways of requests are kept behind a request that is scheduled, and behind the answer of a fetch.
use Rattle.std.proofs.Common.{◌≡◌, ◌==◌, not, inl, ℕ, [], ◌∷◌, All, Option, None, refl, sym, ◌∙◌, subst}
use Rattle.std.proofs.lemmas.List.Elements.{All-filter, All-nil, All-push}
use Rattle.stateful_base.specs.Names.{Named}
use Rattle.stateful_base.specs.declared.digest.Digest.{Digest}
use Rattle.stateful_db.specs.Laws.{Laws}
use Rattle.stateful_history.specs.Met.{Met, TrueNames}
use Rattle.stateful_history.specs.Past.{Past, Came}
use Rattle.stateful_history.specs.declared.event.Event.TheVariants.{Fetched}
use Rattle.stateful_exec_tables.specs.Fetching.{Fetches, with_block}
use Rattle.stateful_exec_model.specs.Fetching.{serving, IsFetched, found, waits, declines, dead}
use Rattle.stateful_exec_model.specs.Moments as exec
use Rattle.stateful_exec_walk.specs.Path.{Path}
use Rattle.stateful_exec_walk.specs.Request.{ticket_by}
use Rattle.stateful_exec_tables.specs.Tables.{taken, moved, requested}
use Rattle.stateful_exec_model.specs.Rules.{Acquires, Concludes}
use Rattle.stateful_exec_model.specs.Workings.{Workings, Point}
use Rattle.stateful_exec_model.specs.declared.front.Front.{Front}
use Rattle.stateful_exec_pause.specs.declared.pause.Pause.{Pause}
use Rattle.stateful_exec_walk.specs.declared.request.Request.{Request}
use Rattle.stateful_exec_walk.specs.declared.request.Verdict.TheVariants.{Invalid}
use Rattle.stateful_exec_tables.specs.declared.state.Tables.{Tables}
use Rattle.stateful_exec_tables.specs.declared.tables.Phase.TheVariants.{Waiting, Parked}
use Rattle.stateful_exec_tables.specs.declared.tables.Requested.{Requested}
use Rattle.stateful_exec_laws.specs.Ground.{IsGround}
use Rattle.stateful_exec_laws.specs.Setting.{setting}
use Rattle.stateful_exec_laws.specs.Standing.{IsInHand}
use Rattle.stateful_exec_laws.specs.Ways.{IsOnOpenWay, WaysStand}
use Rattle.stateful_exec_laws.proofs.earned.Carried.{IsMild}
use Rattle.stateful_exec_laws.proofs.earned.Left.{LeavesBehind, LeavesBehind-acquires, LeavesBehind-concludes}
use Rattle.stateful_exec_laws.proofs.requests.FetchStands.{fetched-IsCalm, IsInHand-fetched, acquired-fetched}
use Rattle.stateful_exec_laws.proofs.ways.Acquired.{WaysStand-acquires}
use Rattle.stateful_exec_laws.proofs.ways.Kept.{WaysStand-concludes, put_ways}
use Rattle.stateful_loop_model.specs.Moments.{Moment, inner, with_inner}
use Rattle.stateful_loop_model.specs.Rules.{Schedules}
use Rattle.stateful_loop_model.specs.declared.message.Message.TheVariants as message
use Rattle.stateful_loop_laws.specs.Execution.{IsFree, IsPlaced, Executes}
use Rattle.stateful_loop_laws.specs.Tickets.{MessageStands}
use Rattle.stateful_loop_laws.specs.Ways.{WaysKept, WaysBehind}
use Rattle.stateful_loop_laws.proofs.execution.ParksNone.{ParksNone-acquires, ParksNone-put, ParksNone-concludes}
use Rattle.stateful_loop_laws.proofs.places.Places.{IsPlaced-calm, fetches-free}
use Rattle.stateful_loop_laws.proofs.ways.Beside.{WaysStand-tip, WaysKept-came, WaysBehind-mild, WaysBehind-still}
use Rattle.stateful_loop_laws.proofs.ways.Turned.{same}

module _ {B C I P R D H G U : Type 0} (w : Workings B C I P R D H G U) (stored : ℕ → Option (Named B)) (base : w.States) (p : Past B C I)
    (points : Digest → Point w) (point : Point w) (m now : exec.Moment w) where
  -- the ways are kept behind a request in hand that acquires what it needs, where nothing pauses
  pub WaysKept-acquires : IsFree w stored base p points point m.next m.state → WaysKept w stored p m.state
      → (stored_now : ℕ → Option (Named B)) (t : ℕ) (r : Requested B C I) → IsInHand w stored p t r.request m.state
      → All (Met (setting w stored) p) r.acquired → Acquires w stored_now m t r now → WaysKept w stored p now.state
  WaysKept-acquires free kept stored_now t r hand met acquires =
      let ways : WaysStand w stored p m.state.anchor m.state = WaysStand-tip w stored p m.state m.state.anchor free.ground.folded.tip_is kept in
      let ground : IsGround w stored base p points point m.next m.state.anchor m.state.pause m.state.anchor m.state.cache =
      subst (λ (x : Pause). IsGround w stored base p points point m.next m.state.anchor x m.state.anchor m.state.cache)
      (sym free.pause_is) free.ground in
      record {
        tip = m.state.anchor;
        tip_is = free.ground.folded.tip_is;
        ways =
            WaysStand-acquires w stored base stored_now m.state.anchor p p
            (same w stored p m.state.anchor) points point m now ground free.pause_is ways t r hand met acquires;
        unparked = λ is. ParksNone-acquires w m now (kept.unparked free.pause_is) stored_now t r acquires;
        stores = kept.stores;
      }

module _ {B C I P R D H G U : Type 0} (w : Workings B C I P R D H G U) (laws : Laws w.kind) (stored : ℕ → Option (Named B)) (base : w.States)
    (p : Past B C I) (m now : Moment w) (e : Executes w stored base p m) where
  abbrev v : Tables B C I R U
  v = m.execution.state

  free_at : m.execution.front ≡ None → IsFree w stored base p e.points e.point m.next v
  free_at front = subst (λ (o : Option (Front B R U H)). IsPlaced w stored base p e.points e.point m.next v o) front e.placed

  -- The ways are kept behind a request that is scheduled, where no finalization goes on.
  pub WaysBehind-schedules : (stored_now : ℕ → Option (Named B)) (request : Request B C I) → m.execution.front ≡ None
      → MessageStands w stored p v m.execution.build (message.Request request) → WaysKept w stored p v
      → Schedules w stored_now request m now → WaysBehind w stored p m now
  WaysBehind-schedules stored_now request front stands kept r =
      let l : LeavesBehind w (inner w m) r.then =
      LeavesBehind-acquires w stored_now (inner w m) r.then (ticket_by request) (requested request) r.acquires in
      subst (λ (n : Moment w). WaysBehind w stored p m n) (sym r.becomes)
      (WaysBehind-mild w stored p m (with_inner w m r.then) l.more l.mild l.marks_are
      (WaysKept-acquires w stored base p e.points e.point (inner w m) r.then (free_at front) kept stored_now (ticket_by request) (requested request)
      (record { absent = stands.2.elsewhere.absent; not_queued = stands.2.elsewhere.not_queued; own = refl; asked = stands.0; brought = stands.1 })
      (All-nil (Met (setting w stored) p)) r.acquires))

  module _ (f : ℕ) (answer : Option (Named B)) (names : TrueNames (setting w stored) (Came (Fetched f answer) ∷ p))
      (kept : WaysKept w stored p v) where
    abbrev q : Past B C I
    q = Came (Fetched f answer) ∷ p

    came : WaysKept w stored q v
    came = WaysKept-came w stored p (Fetched f answer) (λ is. is) v kept

    module _ (t : ℕ) (r : Requested B C I) (fetches : Fetches v f t r) where
      -- they are, once the request is taken out
      served : WaysKept w stored q (taken v t)
      served = record {
        tip = came.tip;
        tip_is = came.tip_is;
        ways = All-filter (λ (x : ℕ × Requested B C I). not (x.0 == t))
            (λ x. IsOnOpenWay w stored q came.tip v.pause v.anchor v.cache x.1.request x.1.phase) v.requests came.ways;
        unparked =
            λ is. All-filter (λ (x : ℕ × Requested B C I). not (x.0 == t)) (λ x. (path : Path B) → x.1.phase ≡ Parked path → ⊥) v.requests
            (came.unparked is);
        stores = came.stores;
      }

      front : m.execution.front ≡ None
      front = fetches-free w stored base p e.points e.point m.next v m.execution.front e.placed f t r fetches

      free : IsFree w stored base q e.points e.point m.next (taken v t)
      free =
          let calm : IsPlaced w stored base q e.points e.point m.next v m.execution.front =
          IsPlaced-calm w stored base p (Came (Fetched f answer))
          (fetched-IsCalm (setting w stored) p f answer) refl refl names e.points e.point m.next v m.execution.front e.placed in
          let there : IsFree w stored base q e.points e.point m.next v =
          subst (λ (o : Option (Front B R U H)). IsPlaced w stored base q e.points e.point m.next v o) front calm in
          record { pause_is = there.pause_is; ground = there.ground }

      concluded : (then : exec.Moment w) → Concludes w (serving w (inner w m) t) t r Invalid then → WaysBehind w stored q m (with_inner w m then)
      concluded then is =
          let l : LeavesBehind w (serving w (inner w m) t) then = LeavesBehind-concludes w (serving w (inner w m) t) then t r Invalid is in
          WaysBehind-mild w stored q m (with_inner w m then) l.more l.mild l.marks_are (record {
            tip = served.tip;
            tip_is = served.tip_is;
            ways = WaysStand-concludes w stored served.tip q q (same w stored q served.tip) (serving w (inner w m) t) then served.ways t r Invalid is;
            unparked = λ free. ParksNone-concludes w (serving w (inner w m) t) then (served.unparked (sym l.left.pause ∙ free)) t r Invalid is;
            stores = served.stores;
          })

      waited : WaysKept w stored q (moved (taken v t) t r Waiting)
      waited = record {
        tip = served.tip;
        tip_is = served.tip_is;
        ways =
            put_ways w stored served.tip q q (same w stored q served.tip) (serving w (inner w m) t)
            (serving w (inner w m) t) served.ways t r Waiting tt;
        unparked = λ free. ParksNone-put w (serving w (inner w m) t) (serving w (inner w m) t) (served.unparked free) t r Waiting (λ path is. cc);
        stores = served.stores;
      }

    by : (stored_now : ℕ → Option (Named B)) (then : exec.Moment w) → IsFetched w stored_now (inner w m) f answer then
        → WaysBehind w stored q m (with_inner w m then)
    by stored_now then (found t r b fetches is acquires) =
        let l : LeavesBehind w (serving w (inner w m) t) then =
        LeavesBehind-acquires w stored_now (serving w (inner w m) t) then t (with_block r b) acquires in
        WaysBehind-mild w stored q m (with_inner w m then) l.more l.mild l.marks_are
        (WaysKept-acquires w stored base q e.points e.point (serving w (inner w m) t) then (free t r fetches) (served t r fetches) stored_now t
        (with_block r b)
        (IsInHand-fetched w stored p e.points e.point m.next v e.tables f answer t r fetches)
        (All-push (Met (setting w stored) q) r.acquired b (acquired-fetched w stored p e.points e.point m.next v e.tables f answer t r fetches)
        (inl is)) acquires)
    by stored_now then (waits t r fetches is verification becomes) =
        subst (λ (n : exec.Moment w). WaysBehind w stored q m (with_inner w m n)) (sym becomes)
        (WaysBehind-mild w stored q m _ [] (All-nil (λ x. IsMild x)) refl (waited t r fetches))
    by stored_now then (declines t r fetches is proposal concludes) = concluded t r fetches then concludes
    by stored_now then (dead none is) =
        subst (λ (n : exec.Moment w). WaysBehind w stored q m (with_inner w m n)) (sym is)
        (WaysBehind-still w stored q m (with_inner w m (inner w m)) refl refl came)

    -- The ways are kept behind the answer of a fetch, whether its request still fetches or not.
    pub WaysBehind-fetched : (stored_now : ℕ → Option (Named B)) (then : exec.Moment w) → IsFetched w stored_now (inner w m) f answer then
        → now ≡ with_inner w m then → WaysBehind w stored (Came (Fetched f answer) ∷ p) m now
    WaysBehind-fetched stored_now then fetched is =
        subst (λ (n : Moment w). WaysBehind w stored (Came (Fetched f answer) ∷ p) m n) (sym is) (by stored_now then fetched)
