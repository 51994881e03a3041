-- The runs that are started for requests may run.
use Rattle.std.proofs.Common.{◌≡◌, ◌≢◌, inl, inr, ℕ, false, List, [], All, Option, None, Some, IsSome, option_map, refl, sym, ap, ◌∙◌, subst}
use Rattle.stateful_base.specs.Names.{Named}
use Rattle.stateful_base.specs.declared.anchor.Anchor.{Anchor}
use Rattle.stateful_base.specs.declared.digest.Digest.{Digest}
use Rattle.stateful_history.specs.Answers.{was_cancelled}
use Rattle.stateful_history.specs.Jobs.{JobOf, job_of, IsLiveJob}
use Rattle.stateful_history.specs.Known.{Known, IsUnknown}
use Rattle.stateful_history.specs.Past.{Past}
use Rattle.stateful_history.specs.Requests.{IsLiveRequest}
use Rattle.stateful_history.specs.Runs.{MayRun, MayRunAgain}
use Rattle.stateful_history.specs.declared.mark.JobKind.TheVariants.{Candidate}
use Rattle.stateful_exec_cache.specs.Cache.{IsAtHand}
use Rattle.stateful_exec_cache.specs.declared.cache.Cached.{Cached}
use Rattle.stateful_table.specs.Table.{at}
use Rattle.stateful_exec_model.specs.Moments.{Moment}
use Rattle.stateful_exec_walk.specs.Path.{Path}
use Rattle.stateful_exec_tables.specs.Meeting.{GoesOn}
use Rattle.stateful_exec_tables.specs.Meeting.{Reaches}
use Rattle.stateful_exec_model.specs.Rules.{Advances, arrives, leaves, joins, starts, misses}
use Rattle.stateful_exec_tables.specs.Tables.{RunsNone, Knows}
use Rattle.stateful_exec_model.specs.Workings.{Workings, Point}
use Rattle.stateful_exec_pause.specs.declared.pause.Pause.{Pause}
use Rattle.stateful_exec_pause.specs.declared.pause.Pause.TheVariants.{Free, Finalizing, Pruning}
use Rattle.stateful_exec_walk.specs.declared.request.Request.{Request}
use Rattle.stateful_exec_walk.specs.declared.request.Request.TheVariants.{Verify, Recover}
use Rattle.stateful_exec_walk.specs.declared.request.Verdict.TheVariants as verdict
use Rattle.stateful_exec_tables.specs.declared.tables.LiveRun.{LiveRun}
use Rattle.stateful_exec_tables.specs.declared.tables.Requested.{Requested}
use Rattle.stateful_exec_laws.specs.Setting.{setting}
use Rattle.stateful_exec_laws.specs.Outstanding.{TicketsApart}
use Rattle.stateful_exec_laws.specs.Requesting.{IsRequestOf, IsWayOf}
use Rattle.stateful_exec_laws.specs.Running.{IsRunning, RunsStand}
use Rattle.stateful_exec_laws.specs.Standing.{TablesStand}
use Rattle.stateful_exec_laws.proofs.requests.AdvanceStands.{reached_met, reached_child, reached_way}
use Rattle.stateful_exec_laws.proofs.requests.KeptMarks.{KeepsBehind}
use Rattle.stateful_exec_laws.proofs.linked.OnPath.{StandsOn-way}
use Rattle.stateful_exec_laws.proofs.places.Marks.{IsInPlace, started-next, concludes-in_place}
use Rattle.stateful_exec_laws.proofs.reasons.Advances.{reached_here}
use Rattle.stateful_exec_laws.proofs.reasons.Ground.{IsGround}
use Rattle.stateful_exec_laws.proofs.runs.Removing.{All-at}

module _ {B C I P R D H G U : Type 0} (w : Workings B C I P R D H G U) (stored : ℕ → Option (Named B)) (p : Past B C I) where
  -- a live request is live, whatever it asks for
  pub live-request : (t : ℕ) (request : Request B C I) → IsRequestOf w stored p t request → IsLiveRequest t p
  live-request t (Verify u ancestry) asked = asked.live
  live-request t (Recover u context ancestry input kind) asked = asked.live

  module _ (points : Digest → Point w) (next : w.Ids) (anchor : Anchor) (cache : List (Cached U)) (runs : List (ℕ × LiveRun B R)) (s : RunsStand w stored p points next anchor cache runs) (d : Digest) (none : All (λ e. e.1.block.digest ≢ d) runs) where
    no_job : (j : ℕ) (o : Option (LiveRun B R)) → at runs j ≡ o → IsSome o → IsLiveJob j Candidate d p → ⊥
    no_job j None is some live = cc
    no_job j (Some run) is some live =
        let r : IsRunning w stored p points next anchor cache j run = All-at (λ (e : ℕ × LiveRun B R). IsRunning w stored p points next anchor cache e.0 e.1) runs j run is s.each in
        let same : Some (job_of Candidate run.block.digest) ≡ Some (job_of Candidate d) = sym r.job.is ∙ live.is in
        let digests : Some run.block.digest ≡ Some d = ap (λ (o : Option JobOf). option_map (λ (x : JobOf). x.digest) o) same in
        let e : run.block.digest ≡ d = cc in
        All-at (λ (x : ℕ × LiveRun B R). x.1.block.digest ≢ d) runs j run is none e

    -- where no live run is of a block, no candidate job is
    pub alone-run : (j : ℕ) → IsLiveJob j Candidate d p → ⊥
    alone-run j live = no_job j (at runs j) refl (s.complete j d live) live

module _ {B C I P R D H G U : Type 0} (w : Workings B C I P R D H G U) (stored : ℕ → Option (Named B)) (base : w.States) (p : Past B C I) (points : Digest → Point w) (point : Point w) (tip : Anchor) where
  unknown_met : (next : w.Ids) (pause : Pause) (anchor : Anchor) (cache : List (Cached U)) → IsGround w stored base p points point next tip pause anchor cache → (b : Named B) → GoesOn w.header pause b → (IsAtHand anchor cache b.digest → ⊥) → IsUnknown (setting w stored) p b.digest
  unknown_met next Free anchor cache g b on out known = out ((g.stands.knows b.digest).0 known)
  unknown_met next Pruning anchor cache g b on out known = out ((g.stands.knows b.digest).0 known)
  unknown_met next (Finalizing boundary) anchor cache g b on out known = elim ((g.stands.knows b.digest).0 known) [ inl own ↦ on.other own | inr both ↦ out (inr both.0) ]

  module _ (m : Moment w) (s : TablesStand w stored p points point m.next m.state) (g : IsGround w stored base p points point m.next tip m.state.pause m.state.anchor m.state.cache) (apart : TicketsApart p) (t : ℕ) (r : Requested B C I) (asked : IsRequestOf w stored p t r.request)
      (path : Path B) (way : IsWayOf w stored p r.request path) (parent : Known (setting w stored) p path.parent.digest × IsAtHand m.state.anchor m.state.cache path.parent.digest) (again : (d : Digest) → MayRunAgain (setting w stored) p d) (uncancelled : was_cancelled t p ≡ false) where
    -- the block that is met on the path may run
    may_run : (left : List (Named B)) (b c : Named B) → Reaches w.header m.state path left b c → GoesOn w.header m.state.pause b → (Knows m.state b.digest → ⊥) → RunsNone m.state b.digest → MayRun (setting w stored) p b.digest
    may_run left b c reaches on unknown unrun = record {
      block = b;
      met = reached_met w stored p m.state r.request path way left b c reaches;
      is = refl;
      unknown = unknown_met m.next m.state.pause m.state.anchor m.state.cache g b on unknown;
      parent = subst (λ (d : Digest). Known (setting w stored) p d) (reached_child w stored p m.state r.request path way left b c reaches) (reached_here w stored base p points point m.next tip m.state g r.request path way parent left b c reaches).0;
      alone = alone-run w stored p points m.next m.state.anchor m.state.cache m.state.runs s.runs b.digest unrun;
      ticket = t;
      wanted = live-request w stored p t r.request asked;
      stands = StandsOn-way w stored p apart t r.request (record { blocks = left; parent = b }) asked (reached_way w stored p m.state r.request path way left b c reaches);
      again = again b.digest;
    }

    -- Each mark of a request that goes along its path on a known parent stands in its place.
    pub advances-in_place : (now : Moment w) → Advances w m t r path now → KeepsBehind w (IsInPlace w stored base) p m now
    advances-in_place now (arrives all concludes) = concludes-in_place w stored base p m t r verdict.Valid now asked uncancelled concludes
    advances-in_place now (leaves reaches out concludes) = concludes-in_place w stored base p m t r verdict.Invalid now asked uncancelled concludes
    advances-in_place now (joins j reaches on unknown has becomes) = rw becomes (record { more = []; marks_are = refl; each = tt })
    advances-in_place now (starts {left = left} {b = b} {parent = c} reaches on unknown unrun known launches) = record {
      more = _;
      marks_are = launches.marks;
      each = ((tt, started-next p m.state.next_job m.state.next_fetch s.numbers, tt, may_run left b c reaches on unknown unrun, tt), tt);
    }
    advances-in_place now (misses reaches on unknown unrun unknown_parent concludes) = concludes-in_place w stored base p m t r verdict.Invalid now asked uncancelled concludes
