-- Where nothing pauses, each request in the tables waits for outstanding work.
use Rattle.std.proofs.Common.{◌≡◌, ℕ, Option, None, Some, MatchOption, refl, sym, ◌∙◌, subst}
use Rattle.stateful_base.specs.Names.{Named}
use Rattle.stateful_base.specs.declared.anchor.Anchor.{Anchor}
use Rattle.stateful_base.specs.declared.digest.Digest.{Digest}
use Rattle.stateful_history.specs.Fetches.{Abstains}
use Rattle.stateful_history.specs.Jobs.{IsOutstandingCandidate, HasOutstandingBuild}
use Rattle.stateful_history.specs.Past.{Past}
use Rattle.stateful_history.specs.Prunes.{PruneRule}
use Rattle.stateful_history.specs.Requests.{StandsOn, IsLiveProposal}
use Rattle.stateful_history.specs.Setting.{parent_of}
use Rattle.stateful_history.specs.States.{HasState}
use Rattle.stateful_history.specs.Telling.{telling_of}
use Rattle.stateful_history.specs.Waiting.{Waits, fetch, abstention, run, build}
use Rattle.stateful_table.specs.Table.{at}
use Rattle.stateful_exec_tables.specs.Fetching.{IsVerification}
use Rattle.stateful_exec_walk.specs.Path.{Path}
use Rattle.stateful_exec_model.specs.Workings.{Workings, Point}
use Rattle.stateful_exec_walk.specs.declared.request.Proposal.{Proposal}
use Rattle.stateful_exec_walk.specs.declared.request.Request.{Request}
use Rattle.stateful_exec_walk.specs.declared.request.Request.TheVariants.{Verify, Recover}
use Rattle.stateful_exec_tables.specs.declared.state.Tables.{Tables}
use Rattle.stateful_exec_tables.specs.declared.tables.LiveRun.{LiveRun}
use Rattle.stateful_exec_tables.specs.declared.tables.Phase.{Phase}
use Rattle.stateful_exec_tables.specs.declared.tables.Phase.TheVariants.{Open, Fetching, Waiting, Executing, Parked}
use Rattle.stateful_exec_tables.specs.declared.tables.Requested.{Requested}
use Rattle.stateful_exec_laws.specs.Setting.{setting}
use Rattle.stateful_exec_laws.specs.Outstanding.{TicketsApart, GoesOnTurning, RunsGoOn}
use Rattle.stateful_exec_laws.specs.Requesting.{AllAbstain, first_of, IsRequestOf, IsWayOf, IsInPhase, IsStanding}
use Rattle.stateful_exec_laws.specs.Running.{IsRunning}
use Rattle.stateful_exec_laws.specs.Standing.{TablesStand}
use Rattle.stateful_exec_laws.proofs.linked.OnPath.{StandsOn-way}
use Rattle.stateful_exec_laws.proofs.reasons.Ground.{IsGround, HasState-on}
use Rattle.stateful_exec_laws.proofs.runs.Removing.{All-at}

-- the request waits for a fetch, for a run or for nothing that was begun
abbrev pub IsSettled : {B : Type 0} → Phase B → Type 0
IsSettled Open = ⊥
IsSettled (Parked path) = ⊥
IsSettled phase = Unit {0}

module _ {B C I P R D H G U : Type 0} (w : Workings B C I P R D H G U) (stored : ℕ → Option (Named B)) (count : ℕ) (rule : Option (PruneRule w.Targets)) (base : w.States) (p : Past B C I) (points : Digest → Point w) (point : Point w) (next : w.Ids) (v : Tables B C I R U)
    (s : TablesStand w stored p points point next v) (tip : Anchor) (g : IsGround w stored base p points point next tip v.pause v.anchor v.cache) (apart : TicketsApart p) (go_on : RunsGoOn w stored base p v.runs) where
  abbrev Waits_for : ℕ → Type 0
  Waits_for t = Waits (setting w stored) (telling_of w.works) count rule base p t

  -- a live run is outstanding
  pub IsOutstanding-run : (j : ℕ) (live : LiveRun B R) → at v.runs j ≡ Some live → IsOutstandingCandidate (setting w stored) (telling_of w.works) base p j live.block
  IsOutstanding-run j live live_is =
      let r : IsRunning w stored p points next v.anchor v.cache j live = All-at (λ (e : ℕ × LiveRun B R). IsRunning w stored p points next v.anchor v.cache e.0 e.1) v.runs j live live_is s.runs.each in
      let has_state : HasState (setting w stored) base p (parent_of (setting w stored) live.block) (points (parent_of (setting w stored) live.block)).1 =
      subst (λ (d : Digest). HasState (setting w stored) base p d (points d).1) r.parent_is (HasState-on w stored base p points point next tip v.pause v.anchor v.cache g r.chain) in
      record {
        met = r.met;
        job = r.job;
        state = (points (parent_of (setting w stored) live.block)).1;
        has_state = has_state;
        unfinished = All-at (λ (e : ℕ × LiveRun B R). GoesOnTurning w stored base p e.0 e.1) v.runs j live live_is go_on (points (parent_of (setting w stored) live.block)).1 has_state;
      }

  verification_of : (t : ℕ) (request : Request B C I) → IsRequestOf w stored p t request → IsVerification request → Abstains (setting w stored) t p (first_of request) → Waits_for t
  verification_of t (Verify u ancestry) asked is abstains = abstention asked abstains
  verification_of t (Recover u context ancestry input kind) asked is abstains = absurd is

  on_run : (t : ℕ) (request : Request B C I) (j : ℕ) (path : Path B) → IsRequestOf w stored p t request → (o : Option (LiveRun B R)) → at v.runs j ≡ o → MatchOption o ⊥ (λ live. live.block ≡ path.parent) → IsWayOf w stored p request path → Waits_for t
  on_run t request j path asked None is same way = absurd same
  on_run t request j path asked (Some live) is same way =
      run (IsOutstanding-run j live is) (subst (λ (b : Named B). StandsOn-digest b) (sym same) (StandsOn-way w stored p apart t request path asked way))
    where
      StandsOn-digest : Named B → Type 0
      StandsOn-digest b = StandsOn (setting w stored) p t b.digest

  in_phase : (t : ℕ) (request : Request B C I) (phase : Phase B) → IsRequestOf w stored p t request → IsInPhase w stored p v.runs t request phase → (phase ≡ Waiting → Abstains (setting w stored) t p (first_of request)) → IsSettled phase → Waits_for t
  in_phase t request Open asked h abstains settled = absurd settled
  in_phase t request (Parked path) asked h abstains settled = absurd settled
  in_phase t request (Fetching f) asked h abstains settled = fetch (record { fetch = f; live = h.0; own = h.1 })
  in_phase t request Waiting asked h abstains settled = verification_of t request asked h (abstains refl)
  in_phase t request (Executing j path) asked h abstains settled = on_run t request j path asked (at v.runs j) refl h.0 h.1

  -- where each request that waits abstains, one that fetches, that waits or that waits for a run waits for outstanding work
  pub Waits-requested : AllAbstain w stored p v.requests → (t : ℕ) (r : Requested B C I) → at v.requests t ≡ Some r → IsSettled r.phase → Waits_for t
  Waits-requested abstain t r there settled =
      let h : IsStanding w stored p v.runs t r = All-at (λ (e : ℕ × Requested B C I). IsStanding w stored p v.runs e.0 e.1) v.requests t r there s.requests.each in
      in_phase t r.request r.phase h.asked h.phase (All-at (λ (e : ℕ × Requested B C I). e.1.phase ≡ Waiting → Abstains (setting w stored) e.0 p (first_of e.1.request)) v.requests t r there abstain) settled

  -- and one that is queued for its build, while any build is outstanding
  pub Waits-queued : HasOutstandingBuild (setting w stored) (telling_of w.works) base p → (t : ℕ) (q : Proposal B C I) → at v.queued t ≡ Some q → Waits_for t
  Waits-queued outstanding t q there =
      let h = All-at (λ (e : ℕ × Proposal B C I). IsLiveProposal e.0 p (record { kind = e.1.kind; context = e.1.context; parent = e.1.ancestry.first; input = e.1.input })) v.queued t q there s.queue.each in
      build (apart t (λ e. let no = sym h.proposes ∙ e in cc)) outstanding
