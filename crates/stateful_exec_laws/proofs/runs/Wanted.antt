-- Each candidate run has a live request that stands on its block.
use Rattle.std.proofs.Common.{◌≡◌, ◌≢◌, ℕ, zero, suc, eqb-true, Bool, true, false, List, [], ◌∷◌, All, Any, Option, None, Some, IsSome, option_map, refl, sym, ap, ◌∙◌, subst, arith}
use Rattle.stateful_base.specs.Names.{Named}
use Rattle.stateful_base.specs.declared.digest.Digest.{Digest}
use Rattle.stateful_history.specs.Jobs.{JobOf, job_of, IsLiveJob}
use Rattle.stateful_history.specs.Past.{Past}
use Rattle.stateful_history.specs.Requests.{StandsOn, IsLiveRequest}
use Rattle.stateful_history.specs.declared.mark.JobKind.TheVariants.{Candidate}
use Rattle.stateful_table.specs.Table.{at}
use Rattle.stateful_exec_walk.specs.Path.{Path}
use Rattle.stateful_exec_tables.specs.Phase.{is_on, tickets_on}
use Rattle.stateful_exec_model.specs.Workings.{Workings, Point}
use Rattle.stateful_exec_tables.specs.declared.state.Tables.{Tables}
use Rattle.stateful_exec_tables.specs.declared.tables.LiveRun.{LiveRun}
use Rattle.stateful_exec_tables.specs.declared.tables.Phase.{Phase}
use Rattle.stateful_exec_tables.specs.declared.tables.Phase.TheVariants.{Open, Fetching, Waiting, Executing, Parked}
use Rattle.stateful_exec_tables.specs.declared.tables.Requested.{Requested}
use Rattle.stateful_exec_laws.specs.Setting.{setting}
use Rattle.stateful_exec_laws.specs.Outstanding.{TicketsApart}
use Rattle.stateful_exec_laws.specs.Running.{IsRunning}
use Rattle.stateful_exec_laws.specs.Standing.{TablesStand}
use Rattle.stateful_exec_laws.proofs.requests.Cancelled.{own}
use Rattle.stateful_exec_laws.proofs.ended.Left.{each_at}
use Rattle.stateful_exec_laws.proofs.ended.Stands.{running}
use Rattle.stateful_exec_laws.proofs.places.Cancelled.{HasRunOf, HasRunOf-executing}
use Rattle.stateful_exec_laws.proofs.places.Starts.{live-request}

-- the first request that waits for a run
pub record WaitsOn {B C I : Type 0} (job : ℕ) (es : List (ℕ × Requested B C I)) : Type 0 where
  pub ticket : ℕ
  pub request : Requested B C I
  pub path : Path B
  pub among : Any (λ e. e ≡ (ticket, request)) es
  pub executing : request.phase ≡ Executing job path

on_path : {B : Type 0} (job : ℕ) (phase : Phase B) → is_on job phase ≡ true → (path : Path B) × (phase ≡ Executing job path)
on_path job Open is = cc
on_path job (Fetching f) is = cc
on_path job Waiting is = cc
on_path job (Parked path) is = cc
on_path job (Executing of path) is = (path, ap (λ (n : ℕ). Executing n path) (eqb-true of job is))

-- where some ticket waits for a run, there is such a request
pub WaitsOn-some : {B C I : Type 0} (job : ℕ) (es : List (ℕ × Requested B C I)) → tickets_on job es ≢ [] → WaitsOn job es
WaitsOn-some job [] some = absurd (some refl)
WaitsOn-some {B = B} {C = C} {I = I} job (e ∷ es) some = go (is_on job e.1.phase) refl (WaitsOn-some job es)
  where
    go : (b : Bool) → is_on job e.1.phase ≡ b → (tickets_on job es ≢ [] → WaitsOn job es) → WaitsOn job (e ∷ es)
    go true is rest = let on = on_path job e.1.phase is in record { ticket = e.0; request = e.1; path = on.0; among = (zero, e, omega arith, refl, refl); executing = on.1 }
    go false is rest =
        let h : WaitsOn job es = rest (λ none. some (rw is none)) in
        record { ticket = h.ticket; request = h.request; path = h.path; among = (suc h.among.0, h.among.1, omega (arith, h.among.2), h.among.3, h.among.4); executing = h.executing }

module _ {B C I P R D H G U : Type 0} (w : Workings B C I P R D H G U) (stored : ℕ → Option (Named B)) (p : Past B C I) (points : Digest → Point w) (point : Point w) (next : w.Ids) (v : Tables B C I R U) (s : TablesStand w stored p points point next v) (apart : TicketsApart p) where
  -- the request for which a job runs
  abbrev IsWanted : Digest → Type 0
  IsWanted d = (t : ℕ) × IsLiveRequest t p × StandsOn (setting w stored) p t d

  wanted_by : (j : ℕ) (d : Digest) (live : LiveRun B R) → at v.runs j ≡ Some live → IsLiveJob j Candidate d p → WaitsOn j v.requests → IsWanted d
  wanted_by j d live live_is job on =
      let there : at v.requests on.ticket ≡ Some on.request = at_among v.requests (each_at v.requests s.requests.ascending) on.ticket on.request on.among in
      let h : HasRunOf w stored p points point next v s on.ticket j = HasRunOf-executing w stored p points point next v s apart on.ticket j on.path on.request there on.executing in
      let r : IsRunning w stored p points next v.anchor v.cache j h.run = running w stored p points point next v s j h.run h.there in
      let same : Some (job_of Candidate h.run.block.digest) ≡ Some (job_of Candidate d) = sym r.job.is ∙ job.is in
      let digests : Some h.run.block.digest ≡ Some d = ap (λ (o : Option JobOf). option_map (λ (x : JobOf). x.digest) o) same in
      let e : h.run.block.digest ≡ d = cc in
      (on.ticket, live-request w stored p on.ticket on.request.request (own w stored p points point next v on.ticket s on.request there).asked, subst (λ (x : Digest). StandsOn (setting w stored) p on.ticket x) e h.stands)
    where
      at_among : (es : List (ℕ × Requested B C I)) → All (λ e. at v.requests e.0 ≡ Some e.1) es → (t : ℕ) (r : Requested B C I) → Any (λ e. e ≡ (t, r)) es → at v.requests t ≡ Some r
      at_among es all t r any = let x : at v.requests any.1.0 ≡ Some any.1.1 = subst (λ (e : ℕ × Requested B C I). at v.requests e.0 ≡ Some e.1) any.3 (all any.0 any.1 any.2) in subst (λ (e : ℕ × Requested B C I). at v.requests e.0 ≡ Some e.1) any.4 x

  -- each live candidate job has a live request that stands on its block
  pub candidates-wanted : (j : ℕ) (d : Digest) → IsLiveJob j Candidate d p → IsWanted d
  candidates-wanted j d job = go (at v.runs j) refl (s.runs.complete j d job)
    where
      go : (o : Option (LiveRun B R)) → at v.runs j ≡ o → IsSome o → IsWanted d
      go None is some = cc
      go (Some live) is some = wanted_by j d live is job (WaitsOn-some j v.requests (s.requests.wanted j (rw is refl)))
