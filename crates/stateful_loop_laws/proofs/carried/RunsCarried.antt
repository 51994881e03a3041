-- After each rule of execution a live candidate run was live before, or its number was drawn since; and a request that waits waited
-- before, or it was found that it has to.
use Rattle.std.proofs.Common.{◌≡◌, ◌≢◌, ◌≤◌, ◌+◌, ◌++◌, not, ℕ, true, List, [], ◌∷◌, All, Option, Some, None, Result, Ok, Err, refl, sym, ap, ◌∙◌, subst, append_assoc, append-nil, arith}
use Rattle.std.proofs.lemmas.List.Elements.{All-nil, All-cons, All-append, All-filter, All-weaker, filter_passes}
use Rattle.stateful_base.specs.Names.{Named}
use Rattle.stateful_base.specs.declared.anchor.Anchor.{Anchor}
use Rattle.stateful_base.specs.declared.outcome.Moved.{Moved}
use Rattle.stateful_base.specs.declared.outcome.Moved.TheVariants.{Pending, Done}
use Rattle.stateful_db.specs.declared.application.AppFault.{AppFault}
use Rattle.stateful_history.specs.declared.mark.How.{How}
use Rattle.stateful_history.specs.declared.mark.How.TheVariants.{Cancelled}
use Rattle.stateful_history.specs.declared.mark.Mark.{Mark}
use Rattle.stateful_history.specs.declared.mark.Mark.TheVariants as mark
use Rattle.stateful_history.specs.declared.mark.Mark.TheVariants.{Ended}
use Rattle.stateful_exec_cache.specs.declared.cache.Cached.{Cached}
use Rattle.stateful_table.specs.Table.{at, put, without}
use Rattle.stateful_exec_model.specs.Built.{GivesUp, building, asking}
use Rattle.stateful_exec_model.specs.Ending.{InTurn, none as in_none, next as in_next, Turns, TurnsRun, Settles, SettlesBy, Steps, Follows, given_up, at_boundary, failed, parked, goes_on}
use Rattle.stateful_exec_tables.specs.Tables.{released}
use Rattle.stateful_exec_tables.specs.Fetching.{Fetches, with_block}
use Rattle.stateful_exec_model.specs.Fetching.{IsFetched, found, waits as awaits, declines, dead, serving}
use Rattle.stateful_exec_tables.specs.Cancelling.{Cancels}
use Rattle.stateful_exec_tables.specs.Cancelling.{idle, withdraws, leaves as leaves_run, ends as ends_run, unqueued}
use Rattle.stateful_exec_model.specs.Moments.{Moment, Becomes}
use Rattle.stateful_exec_walk.specs.Path.{Path}
use Rattle.stateful_exec_model.specs.Pausing.{Resumes, GoesAlong, AcquiresAnew, unparked, unsettled}
use Rattle.stateful_exec_tables.specs.Phase.{is_on, released_on, is_unacquired, parked_in, unacquired_in, not_unacquired}
use Rattle.stateful_exec_tables.specs.Tables.{requested, moved, ended}
use Rattle.stateful_exec_model.specs.Rules.{Concludes, Advances, arrives, leaves, joins, starts, misses, Acquires, valid, invalid, asks, waits, runs as needs_runs}
use Rattle.stateful_exec_walk.specs.Walk.{IsPrepared}
use Rattle.stateful_exec_model.specs.Workings.{Workings}
use Rattle.stateful_exec_model.specs.declared.building.Building.{Building}
use Rattle.stateful_exec_walk.specs.declared.request.Request.{Request}
use Rattle.stateful_exec_walk.specs.declared.request.Request.TheVariants.{Verify, Recover}
use Rattle.stateful_exec_walk.specs.declared.request.Verdict.{Verdict}
use Rattle.stateful_exec_walk.specs.declared.request.Verdict.TheVariants.{Valid, Invalid}
use Rattle.stateful_exec_tables.specs.declared.state.Tables.{Tables}
use Rattle.stateful_exec_tables.specs.declared.tables.LiveRun.{LiveRun}
use Rattle.stateful_exec_tables.specs.declared.tables.Phase.{Phase}
use Rattle.stateful_exec_tables.specs.declared.tables.Phase.TheVariants.{Fetching, Waiting, Executing, Parked}
use Rattle.stateful_exec_tables.specs.declared.tables.Released.{Released}
use Rattle.stateful_exec_tables.specs.declared.tables.Requested.{Requested}
use Rattle.stateful_exec_walk.specs.declared.walk.Acquired.TheVariants as acquired
use Rattle.stateful_exec_laws.specs.Requesting.{first_of}
use Rattle.stateful_exec_laws.proofs.earned.Carried.{IsMild}
use Rattle.stateful_exec_laws.proofs.earned.Left.{LeavesBehind-concludes, LeavesBehind-advances, LeavesBehind-acquires}
use Rattle.stateful_exec_laws.proofs.requests.Putting.{All-put}
use Rattle.stateful_exec_laws.proofs.runs.Removing.{All-without}

module _ {B C I P R D H G U : Type 0} (w : Workings B C I P R D H G U) (first : ℕ) (OfRun OfWaiting : ℕ → Named B → Type 0) where
  -- it holds of each of these runs
  abbrev pub OfRuns : List (ℕ × LiveRun B R) → Type 0
  OfRuns runs = All (λ e. OfRun e.0 e.1.block) runs

  -- and this of each of these requests that waits
  abbrev pub OfRequests : List (ℕ × Requested B C I) → Type 0
  OfRequests requests = All (λ e. e.1.phase ≡ Waiting → OfWaiting e.0 (first_of e.1.request)) requests

  -- From one moment to a later one mild marks are made, the anchor stays, and the numbers of jobs don't fall. It holds of each
  -- live run behind it, where this held before; and of each request that waits, where it held of those that waited before.
  pub record CarriesFrom (Before : Type 0) (m now : Moment w) : Type 0 where
    pub more : List (Mark B)
    pub marks_are : now.marks ≡ m.marks ++ more
    pub mild : All (λ x. IsMild x) more
    pub anchor_is : now.state.anchor ≡ m.state.anchor
    pub drawn : m.state.next_job ≤ now.state.next_job
    pub runs : first ≤ m.state.next_job → Before → OfRuns now.state.runs
    pub waiting : OfRequests m.state.requests → OfRequests now.state.requests

  -- so it is where it held of each run
  abbrev pub Carries : Moment w → Moment w → Type 0
  Carries m now = CarriesFrom (OfRuns m.state.runs) m now

  -- it holds of all runs but that of a job, and where a turn of that one isn't the last of that one too
  abbrev pub OfTurned : Moment w → ℕ → Type 0
  OfTurned m j =
      All (λ e. e.0 ≢ j → OfRun e.0 e.1.block) m.state.runs
      × ((live : LiveRun B R) (turned : R) → at m.state.runs j ≡ Some live → Turns w m.members live.run turned Pending
      → OfRuns m.state.runs × OfRun j live.block)

  -- one after the other
  pub carries_then : (Before : Type 0) (a b c : Moment w) → CarriesFrom Before a b → Carries b c → CarriesFrom Before a c
  carries_then Before a b c one two = record {
    more = one.more ++ two.more;
    marks_are = two.marks_are ∙ ap (λ (ms : List (Mark B)). ms ++ two.more) one.marks_are ∙ append_assoc a.marks one.more two.more;
    mild = All-append (λ x. IsMild x) one.more two.more one.mild two.mild;
    anchor_is = two.anchor_is ∙ one.anchor_is;
    drawn = let x = one.drawn in let y = two.drawn in omega (arith, x, y);
    runs = λ le before. two.runs (let x = one.drawn in omega (arith, x, le)) (one.runs le before);
    waiting = λ h. two.waiting (one.waiting h);
  }

  -- where runs stay, and marks may be made
  pub carries_still : (m now : Moment w) (more : List (Mark B)) → now.marks ≡ m.marks ++ more → All (λ x. IsMild x) more
      → now.state.anchor ≡ m.state.anchor → m.state.next_job ≤ now.state.next_job → now.state.runs ≡ m.state.runs
      → (OfRequests m.state.requests → OfRequests now.state.requests) → Carries m now
  carries_still m now more is mild anchor_is drawn runs_are waiting = record {
    more = more;
    marks_are = is;
    mild = mild;
    anchor_is = anchor_is;
    drawn = drawn;
    runs = λ le h. subst (λ (rs : List (ℕ × LiveRun B R)). OfRuns rs) (sym runs_are) h;
    waiting = waiting;
  }

  -- where no mark is made either
  pub carries_same : (m now : Moment w) → now.marks ≡ m.marks → now.state.anchor ≡ m.state.anchor → m.state.next_job ≤ now.state.next_job
      → now.state.runs ≡ m.state.runs → (OfRequests m.state.requests → OfRequests now.state.requests) → Carries m now
  carries_same m now is = carries_still m now [] (is ∙ sym (append-nil m.marks)) (All-nil (λ x. IsMild x))

  module _ (started : (j : ℕ) (b : Named B) → first ≤ j → OfRun j b) where
    waiting_put : (requests : List (ℕ × Requested B C I)) (t : ℕ) (r : Requested B C I) → (r.phase ≡ Waiting → OfWaiting t (first_of r.request))
        → OfRequests requests → OfRequests (put requests t r)
    waiting_put requests t r of_it h =
        All-put (λ (e : ℕ × Requested B C I). e.1.phase ≡ Waiting → OfWaiting e.0 (first_of e.1.request)) requests t r h of_it

    -- a request moves to another phase, without a new run
    moves : (m now : Moment w) (t : ℕ) (r : Requested B C I) (phase : Phase B) → (phase ≡ Waiting → OfWaiting t (first_of r.request))
        → Becomes w m (moved m.state t r phase) [] now → Carries m now
    moves m now t r phase of_it is = rw is (carries_still m _ [] refl (All-nil (λ x. IsMild x)) refl (omega arith) refl
        (waiting_put m.state.requests t (record r { phase = phase }) of_it))

    ended_same : (v : Tables B C I R U) (t : ℕ) (request : Request B C I) (x : Verdict)
        → ((ended v t request x).next_job ≡ v.next_job) × ((ended v t request x).runs ≡ v.runs) × ((ended v t request x).requests ≡ v.requests)
    ended_same v t (Verify u ancestry) Valid = (refl, refl, refl)
    ended_same v t (Verify u ancestry) Invalid = (refl, refl, refl)
    ended_same v t (Recover u context ancestry input kind) Valid = (refl, refl, refl)
    ended_same v t (Recover u context ancestry input kind) Invalid = (refl, refl, refl)

    pub carries_concludes : (m now : Moment w) (t : ℕ) (r : Requested B C I) (v : Verdict) → Concludes w m t r v now → Carries m now
    carries_concludes m now t r v c =
        let l = LeavesBehind-concludes w m now t r v c in
        let same = ended_same m.state t r.request v in
        let state : now.state ≡ ended m.state t r.request v = ap (λ (n : Moment w). n.state) c in
        carries_still m now l.more l.marks_are l.mild l.left.anchor
        (let jobs : now.state.next_job ≡ m.state.next_job = ap (λ (x : Tables B C I R U). x.next_job) state ∙ same.0 in omega (arith, jobs))
        (ap (λ (x : Tables B C I R U). x.runs) state ∙ same.1)
        (λ h. subst (λ (es : List (ℕ × Requested B C I)). OfRequests es) (sym (ap (λ (x : Tables B C I R U). x.requests) state ∙ same.2)) h)

    -- one with blocks to run
    pub carries_advances : (m now : Moment w) (t : ℕ) (r : Requested B C I) (path : Path B) → Advances w m t r path now → Carries m now
    carries_advances m now t r path (arrives passed c) = carries_concludes m now t r Valid c
    carries_advances m now t r path (leaves reaches off c) = carries_concludes m now t r Invalid c
    carries_advances m now t r path (misses reaches on off none off_parent c) = carries_concludes m now t r Invalid c
    carries_advances m now t r path (joins {left = left} {b = b} j reaches on off run becomes) =
        moves m now t r (Executing j (record { blocks = left; parent = b })) (λ e. absurd (cc)) becomes
    carries_advances m now t r path (starts {left = left} {b = b} {parent = parent} reaches on off none known l) =
        let behind = LeavesBehind-advances w m now t r path (starts reaches on off none known l) in
        let run : LiveRun B R = record { block = b; run = l.starts.run } in
        let runs_are : now.state.runs ≡ put m.state.runs m.state.next_job run =
        ap (λ (x : Tables B C I R U). x.runs) l.state ∙ ap (λ (x : Tables B C I R U). x.runs) l.starts.state in
        let jobs : now.state.next_job ≡ m.state.next_job + 1 =
        ap (λ (x : Tables B C I R U). x.next_job) l.state ∙ ap (λ (x : Tables B C I R U). x.next_job) l.starts.state in
        let on_it : Requested B C I = record r { phase = Executing m.state.next_job (record { blocks = left; parent = b }) } in
        let requests_are : now.state.requests ≡ put m.state.requests t on_it =
        ap (λ (x : Tables B C I R U). x.requests) l.state
        ∙ ap (λ (x : Tables B C I R U). put x.requests t on_it) l.starts.state in
        record {
          more = behind.more;
          marks_are = behind.marks_are;
          mild = behind.mild;
          anchor_is = behind.left.anchor;
          drawn = omega (arith, jobs);
          runs = λ le h. subst (λ (rs : List (ℕ × LiveRun B R)). OfRuns rs) (sym runs_are)
              (All-put (λ (e : ℕ × LiveRun B R). OfRun e.0 e.1.block) m.state.runs m.state.next_job run h (started m.state.next_job b le));
          waiting = λ h. subst (λ (es : List (ℕ × Requested B C I)). OfRequests es) (sym requests_are)
              (waiting_put m.state.requests t on_it (λ e. absurd (cc)) h);
        }

    -- one that follows the end of the run that it waited for
    pub carries_follows : (b : Named B) (how : How) (r : Released B C I) (m now : Moment w) → Follows w b how r m now → Carries m now
    carries_follows b how r m now (given_up up c) = carries_concludes m now r.ticket (requested r.request) Invalid c
    carries_follows b how r m now (at_boundary is becomes) = moves m now r.ticket (requested r.request) (Parked r.path) (λ e. absurd (cc)) becomes
    carries_follows b how r m now (failed not_held off c) = carries_concludes m now r.ticket (requested r.request) Invalid c
    carries_follows b how r m now (parked pause there becomes) =
        moves m now r.ticket (requested r.request) (Parked r.path) (λ e. absurd (cc)) becomes
    carries_follows b how r m now (goes_on up not_held pause there rule) = carries_advances m now r.ticket (requested r.request) r.path rule

    module _ {X : Type 0} (anchor : Anchor) (Rule : X → Moment w → Moment w → Type 0)
        (each : (x : X) (m now : Moment w) → m.state.anchor ≡ anchor → Rule x m now → Carries m now) where
      -- for each of a list
      pub carries_in_turn : (xs : List X) (m last : Moment w) → m.state.anchor ≡ anchor → InTurn Rule xs m last → Carries m last
      carries_in_turn [] m _ here in_none = carries_same m m refl refl (omega arith) refl (λ h. h)
      carries_in_turn (x ∷ xs) m last here (in_next {n = n} rule rest) =
          let one : Carries m n = each x m n here rule in
          carries_then (OfRuns m.state.runs) m n last one (carries_in_turn xs n last (one.anchor_is ∙ here) rest)

    -- the end of a run of a job, and what follows it
    settles : (m now : Moment w) (j : ℕ) (o : Option U) (turned : LiveRun B R)
        → Settles w (record m { state = record m.state { runs = put m.state.runs j turned } }) j o now → CarriesFrom (OfTurned m j) m now
    settles m now j o turned s =
        carries_then (OfTurned m j) m out now behind
        (carries_in_turn out.state.anchor (Follows w s.block s.how) (λ r n l here. carries_follows s.block s.how r n l)
        (released_on j s.done.state.requests) out now refl s.follow)
      where
        out : Moment w
        out = record s.done { state = released j s.done.state }

        becomes : s.done ≡ record {
          state = record m.state { cache = s.ends.cache; runs = without (put m.state.runs j turned) j; pause = s.ends.pause };
          members = m.members;
          next = m.next;
          marks = m.marks ++ Ended j s.how ∷ [];
        }
        becomes = s.ends.becomes

        behind : CarriesFrom (OfTurned m j) m out
        behind = record {
          more = Ended j s.how ∷ [];
          marks_are = ap (λ (n : Moment w). n.marks) becomes;
          mild = All-cons (λ x. IsMild x) (Ended j s.how) [] tt (All-nil (λ x. IsMild x));
          anchor_is = ap (λ (n : Moment w). n.state.anchor) becomes;
          drawn = let jobs : s.done.state.next_job ≡ m.state.next_job = ap (λ (n : Moment w). n.state.next_job) becomes in omega (arith, jobs);
          runs = λ le h. subst (λ (n : Moment w). OfRuns n.state.runs) (sym becomes)
              (All-without (λ (e : ℕ × LiveRun B R). OfRun e.0 e.1.block) (put m.state.runs j turned) j
              (All-put (λ (e : ℕ × LiveRun B R). e.0 ≢ j → OfRun e.0 e.1.block) m.state.runs j turned h.0 (λ other. absurd (other refl))));
          waiting = λ h. All-filter (λ (e : ℕ × Requested B C I). not (is_on j e.1.phase))
              (λ (e : ℕ × Requested B C I). e.1.phase ≡ Waiting → OfWaiting e.0 (first_of e.1.request)) s.done.state.requests
              (subst (λ (n : Moment w). OfRequests n.state.requests) (sym becomes) h);
        }

    -- a turn of a run, and what its answer leads to
    pub carries_steps : (count : R → ℕ) (m now : Moment w) (j : ℕ) → Steps w count m j now → CarriesFrom (OfTurned m j) m now
    carries_steps count m now j steps = by steps.running steps.answer steps.turns steps.settles
      where
        by : (running : Tables B C I R U) (answer : Result (Moved (Option U)) AppFault) → TurnsRun w count m.members j m.state running answer
            → SettlesBy w (record m { state = running }) j answer now → CarriesFrom (OfTurned m j) m now
        by running (Ok Pending) turns is = subst (λ (n : Moment w). CarriesFrom (OfTurned m j) m n) (sym is)
            (subst (λ (v : Tables B C I R U). CarriesFrom (OfTurned m j) m (record m { state = v })) (sym turns.state) (record {
              more = [];
              marks_are = sym (append-nil m.marks);
              mild = All-nil (λ x. IsMild x);
              anchor_is = refl;
              drawn = omega arith;
              runs = λ le h. put_turned h;
              waiting = λ h. h;
            }))
          where
            turned : LiveRun B R
            turned = record turns.live { run = turns.turned }

            put_turned : OfTurned m j → OfRuns (put m.state.runs j turned)
            put_turned h =
                let on = h.1 turns.live turns.turned turns.live_is turns.turns in
                All-put (λ (e : ℕ × LiveRun B R). OfRun e.0 e.1.block) m.state.runs j turned on.0 on.1
        by running (Ok (Done o)) turns s = settles m now j o (record turns.live { run = turns.turned })
            (subst (λ (v : Tables B C I R U). Settles w (record m { state = v }) j o now) turns.state s)
        by running (Err fault) turns s = absurd s

    -- a request is served, and is out of its table
    serves : (m : Moment w) (t : ℕ) → Carries m (serving w m t)
    serves m t = carries_same m (serving w m t) refl refl (omega arith) refl (λ h. All-filter _
        (λ (e : ℕ × Requested B C I). e.1.phase ≡ Waiting → OfWaiting e.0 (first_of e.1.request)) m.state.requests h)

    -- what a cancel leaves, and its marks
    cancels : (m : Moment w) (new : Tables B C I R U) (t : ℕ) (marks : List (Mark B)) → Cancels m.state new t marks
        → Carries m (record m { state = new; marks = m.marks ++ marks })
    cancels m new t marks c = by c
      where
        out : OfRequests m.state.requests → OfRequests (without m.state.requests t)
        out h = All-filter _ (λ (e : ℕ × Requested B C I). e.1.phase ≡ Waiting → OfWaiting e.0 (first_of e.1.request)) m.state.requests h

        one_mild : (x : Mark B) → IsMild x → All (λ y. IsMild y) (x ∷ [])
        one_mild x mild = All-cons (λ y. IsMild y) x [] mild (All-nil (λ y. IsMild y))

        by : Cancels m.state new t marks → Carries m (record m { state = new; marks = m.marks ++ marks })
        by (idle r there is_idle new_is marks_is) = rw (new_is, marks_is)
            (carries_still m _ [] refl (All-nil (λ x. IsMild x)) refl (omega arith) refl out)
        by (withdraws r f fetches new_is marks_is) = rw (new_is, marks_is)
            (carries_still m _ (mark.Withdrawn f ∷ []) refl (one_mild (mark.Withdrawn f) tt) refl (omega arith) refl out)
        by (leaves_run r j path there executing others new_is marks_is) = rw (new_is, marks_is)
            (carries_still m _ [] refl (All-nil (λ x. IsMild x)) refl (omega arith) refl out)
        by (ends_run r j path there executing last new_is marks_is) = rw (new_is, marks_is) (record {
          more = Ended j Cancelled ∷ [];
          marks_are = refl;
          mild = one_mild (Ended j Cancelled) tt;
          anchor_is = refl;
          drawn = omega arith;
          runs = λ le h. All-filter _ (λ (e : ℕ × LiveRun B R). OfRun e.0 e.1.block) m.state.runs h;
          waiting = out;
        })
        by (unqueued gone new_is marks_is) = rw (new_is, marks_is)
            (carries_still m _ [] refl (All-nil (λ x. IsMild x)) refl (omega arith) refl out)

    -- a request is given up, be it built for or not
    pub carries_gives_up : (m : Moment w) (new : Tables B C I R U) (before now : Option (Building B C D)) (t : ℕ) (marks : List (Mark B))
        → GivesUp m.state new before now t marks → Carries m (record m { state = new; marks = m.marks ++ marks })
    carries_gives_up m new before now t marks (building {b = b} own same gone is) = rw (same, is)
        (carries_still m _ (Ended b.job Cancelled ∷ []) refl
        (All-cons (λ x. IsMild x) (Ended b.job Cancelled) [] tt (All-nil (λ x. IsMild x))) refl (omega arith) refl (λ h. h))
    carries_gives_up m new before now t marks (asking none c same) = cancels m new t marks c

    module _ (stored_now : ℕ → Option (Named B)) (anchor : Anchor)
        (must : (t : ℕ) (request : Request B C I) (more : List (Named B)) (cache : List (Cached U))
        → IsPrepared w.header anchor cache stored_now request more acquired.Waits → OfWaiting t (first_of request)) where
      -- one that acquires what it needs
      pub carries_acquires : (m now : Moment w) (t : ℕ) (r : Requested B C I) → m.state.anchor ≡ anchor → Acquires w stored_now m t r now
          → Carries m now
      carries_acquires m now t r here (valid needs c) = carries_concludes m now t r Valid c
      carries_acquires m now t r here (invalid needs c) = carries_concludes m now t r Invalid c
      carries_acquires m now t r here (asks digest needs left becomes) =
          let behind = LeavesBehind-acquires w stored_now m now t r (asks digest needs left becomes) in
          carries_still m now behind.more behind.marks_are behind.mild behind.left.anchor
          (let jobs : now.state.next_job ≡ m.state.next_job = ap (λ (n : Moment w). n.state.next_job) becomes in omega (arith, jobs))
          (ap (λ (n : Moment w). n.state.runs) becomes)
          (λ h. subst (λ (n : Moment w). OfRequests n.state.requests) (sym becomes)
          (waiting_put m.state.requests t (record r { phase = Fetching m.state.next_fetch }) (λ e. absurd (cc)) h))
      carries_acquires m now t r here (waits needs becomes) =
          moves m now t r Waiting
          (λ e. must t r.request r.acquired m.state.cache
          (subst (λ (a : Anchor). IsPrepared w.header a m.state.cache stored_now r.request r.acquired acquired.Waits) here needs)) becomes
      carries_acquires m now t r here (needs_runs {path = path} needs advances) = carries_advances m now t (requested r.request) path advances

      -- the answer of a fetch
      pub carries_fetched : (m now : Moment w) (f : ℕ) (answer : Option (Named B)) → m.state.anchor ≡ anchor
          → ((t : ℕ) (r : Requested B C I) → Fetches m.state f t r → answer ≡ None → OfWaiting t (first_of r.request))
          → IsFetched w stored_now m f answer now → Carries m now
      carries_fetched m now f answer here none (found t r b fetches is acquires) =
          carries_then (OfRuns m.state.runs) m (serving w m t) now (serves m t)
          (carries_acquires (serving w m t) now t (with_block r b) here acquires)
      carries_fetched m now f answer here none (awaits t r fetches is verification becomes) =
          carries_then (OfRuns m.state.runs) m (serving w m t) now (serves m t)
          (moves (serving w m t) now t r Waiting (λ e. none t r fetches is) becomes)
      carries_fetched m now f answer here none (declines t r fetches is other c) =
          carries_then (OfRuns m.state.runs) m (serving w m t) now (serves m t) (carries_concludes (serving w m t) now t r Invalid c)
      carries_fetched m now f answer here none (dead off same) =
          subst (λ (n : Moment w). Carries m n) (sym same) (carries_same m m refl refl (omega arith) refl (λ h. h))

      module _ (m now : Moment w) (here : m.state.anchor ≡ anchor) (r : Resumes w stored_now m now) where
        unparks : Carries m (unparked w m)
        unparks = carries_same m (unparked w m) refl refl (omega arith) refl (λ h. All-filter _
            (λ (e : ℕ × Requested B C I). e.1.phase ≡ Waiting → OfWaiting e.0 (first_of e.1.request)) m.state.requests h)

        along : Carries (unparked w m) r.mid
        along = carries_in_turn anchor (GoesAlong w) (λ x n l at_anchor. carries_advances n l x.ticket (requested x.request) x.path)
            (parked_in m.state.requests) (unparked w m) r.mid here r.along

        unsettles : Carries r.mid (unsettled w r.mid)
        unsettles = carries_same r.mid (unsettled w r.mid) refl refl (omega arith) refl (λ h. All-filter _
            (λ (e : ℕ × Requested B C I). e.1.phase ≡ Waiting → OfWaiting e.0 (first_of e.1.request)) r.mid.state.requests h)

        anew : Carries (unsettled w r.mid) now
        anew = carries_in_turn anchor (AcquiresAnew w stored_now) (λ x n l at_anchor. carries_acquires n l x.0 (requested x.1.request) at_anchor)
            (unacquired_in r.mid.state.requests) (unsettled w r.mid) now (along.anchor_is ∙ here) r.anew

        -- after a resume
        pub carries_resumes : Carries m now
        carries_resumes =
            carries_then (OfRuns m.state.runs) m r.mid now (carries_then (OfRuns m.state.runs) m (unparked w m) r.mid unparks along)
            (carries_then (OfRuns r.mid.state.runs) r.mid (unsettled w r.mid) now unsettles anew)

        -- it holds of each request that waits then, whatever was before
        pub waiting_resumed : OfRequests now.state.requests
        waiting_resumed = anew.waiting (All-weaker (λ (e : ℕ × Requested B C I). not (is_unacquired e.1.phase) ≡ true)
            (λ (e : ℕ × Requested B C I). e.1.phase ≡ Waiting → OfWaiting e.0 (first_of e.1.request))
            (λ e off is. let no : not true ≡ true = rw is at off in absurd (cc)) (not_unacquired r.mid.state.requests)
            (filter_passes (λ (e : ℕ × Requested B C I). not (is_unacquired e.1.phase)) r.mid.state.requests))
