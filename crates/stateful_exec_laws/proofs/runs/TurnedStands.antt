-- The tables stand after a turn: of a job that is no candidate's, and of a run that goes on.
use Rattle.std.proofs.Common.{◌≡◌, ◌≢◌, ◌+◌, ◌<◌, ◌==◌, not, ℕ, Bool, true, false, List, [], ◌∷◌, Option, Some, None, MatchOption, get_or, inr, refl, sym, arith}
use Rattle.std.proofs.lemmas.Bool.{eq-eqb}
use Rattle.stateful_base.specs.Names.{Named}
use Rattle.stateful_base.specs.declared.digest.Digest.{Digest}
use Rattle.stateful_base.specs.declared.outcome.Finality.TheVariants.{Candidate}
use Rattle.stateful_base.specs.declared.outcome.Moved.TheVariants.{Pending}
use Rattle.stateful_db.specs.Works.{run_of}
use Rattle.stateful_history.specs.Past.{Past, Came, Made}
use Rattle.stateful_history.specs.Jobs.{started_for, turns}
use Rattle.stateful_history.specs.Live.{live_job}
use Rattle.stateful_history.specs.declared.event.Event.TheVariants.{Turn}
use Rattle.stateful_history.specs.declared.mark.Mark.TheVariants.{Started, Ended, Built}
use Rattle.stateful_table.specs.Table.{at, put}
use Rattle.stateful_exec_model.specs.Ending.{Turns}
use Rattle.stateful_exec_model.specs.Workings.{Workings, Point}
use Rattle.stateful_exec_tables.specs.declared.state.Tables.{Tables}
use Rattle.stateful_exec_tables.specs.declared.tables.LiveRun.{LiveRun}
use Rattle.stateful_exec_tables.specs.declared.tables.Phase.{Phase}
use Rattle.stateful_exec_tables.specs.declared.tables.Phase.TheVariants.{Open, Fetching, Waiting, Executing, Parked}
use Rattle.stateful_exec_tables.specs.declared.tables.Requested.{Requested}
use Rattle.stateful_exec_laws.specs.Setting.{setting}
use Rattle.stateful_exec_laws.specs.Requesting.{IsInPhase, IsStanding}
use Rattle.stateful_exec_laws.specs.Running.{IsRunning, RunsStand}
use Rattle.stateful_exec_laws.specs.Standing.{NumbersStand, TablesStand}
use Rattle.stateful_exec_laws.proofs.requests.Calm.{LeavesJob, CacheStands-calm, Chain-calm, IsRunning-calm}
use Rattle.stateful_exec_laws.proofs.requests.Asking.{IsStanding-calm}
use Rattle.stateful_exec_laws.proofs.runs.Removing.{differ, none_at}
use Rattle.stateful_exec_laws.proofs.requests.Cancelled.{and_right}
use Rattle.stateful_exec_laws.proofs.requests.Putting.{sorted_put}
use Rattle.stateful_exec_laws.proofs.runs.Replacing.{All-replace, AllPairs-replace, at_replace, some_put, some_before}
use Rattle.stateful_exec_laws.proofs.ended.Known.{turn-IsCalm}
use Rattle.stateful_exec_laws.proofs.ended.Stands.{running}
use Rattle.stateful_exec_laws.proofs.runs.NeverStale.{run-IsPoint}
use Rattle.stateful_exec_laws.proofs.runs.Spared.{Spares, knows-calm, TablesStand-spared}

-- a live job was started
pub live-started : {B C I : Type 0} (j : ℕ) (p : Past B C I) → live_job j p ≡ true → started_for j p ≢ None
live-started j [] live none = let no : false ≡ true = live in cc
live-started j (Made (Started k kind d) ∷ p) live none = go (j == k) refl (live-started j p)
  where
    go : (b : Bool) → (j == k) ≡ b → (live_job j p ≡ true → started_for j p ≢ None) → ⊥
    go true is rest = let no : Some _ ≡ None = rw is at none in cc
    go false is rest = rest (rw is at live) (rw is at none)
live-started j (Made (Ended k how) ∷ p) live none = live-started j p (and_right (not (j == k)) (live_job j p) live) none
live-started j (Made (Built k t b) ∷ p) live none = live-started j p (and_right (not (j == k)) (live_job j p) live) none
live-started j (item ∷ p) live none = live-started j p live none

module _ {B C I : Type 0} (p : Past B C I) (j : ℕ) where
  -- a turn leaves other jobs as they are
  pub turn-LeavesJob : (k : ℕ) → k ≢ j → LeavesJob p (Came (Turn j)) k
  turn-LeavesJob k ne = record { live = refl; started = refl; turns = rw (differ k j (λ e. ne (sym e))) refl }

  turn-NumbersStand : (job fetch : ℕ) → j < job → NumbersStand p job fetch → NumbersStand (Came (Turn j) ∷ p) job fetch
  turn-NumbersStand job fetch drawn h = record {
    jobs = h.jobs;
    unturned = λ k later. rw (differ k j (λ e. omega (arith, e, later, drawn))) (h.unturned k later);
    fetches = h.fetches;
  }

module _ {B C I P R D H G U : Type 0} (w : Workings B C I P R D H G U) (stored : ℕ → Option (Named B)) (p : Past B C I) (j : ℕ) where
  -- a turn of another job says nothing of the tables
  pub turn-Spares : (v : Tables B C I R U) → at v.runs j ≡ None → j < v.next_job → Spares w stored p (Came (Turn j)) v
  turn-Spares v none drawn = record {
    built = λ d h. h;
    known = knows-calm w stored p (Came (Turn j)) (turn-IsCalm (setting w stored) p j);
    runs = λ k d l. turn-LeavesJob p j _ (none_at v.runs j none k d l);
    candidates = λ k d live. record { live = live.live; is = live.is };
    requests = λ k d l. record { live = refl; verified = refl; proposed = refl };
    queued = λ k d l. record { live = refl; verified = refl; proposed = refl };
    fetches = λ f. record { live = refl; asked = refl };
    numbers = turn-NumbersStand p j v.next_job v.next_fetch drawn;
  }

  -- a request stands over runs of the same blocks
  IsStanding-blocks : (runs now : List (ℕ × LiveRun B R)) (t : ℕ) (r : Requested B C I)
      → ((k : ℕ) (b : Named B) → MatchOption (at runs k) ⊥ (λ run. run.block ≡ b) → MatchOption (at now k) ⊥ (λ run. run.block ≡ b))
      → IsStanding w stored p runs t r → IsStanding w stored p now t r
  IsStanding-blocks runs now t r same h = record { own = h.own; asked = h.asked; brought = h.brought; met = h.met; phase = phase r.phase h.phase }
    where
      phase : (q : Phase B) → IsInPhase w stored p runs t r.request q → IsInPhase w stored p now t r.request q
      phase Open h = tt
      phase (Fetching f) h = h
      phase Waiting h = h
      phase (Executing k path) h = (same k path.parent h.0, h.1)
      phase (Parked path) h = h

module _ {B C I P R D H G U : Type 0} (w : Workings B C I P R D H G U) (stored : ℕ → Option (Named B)) (p : Past B C I) (points : Digest → Point w) (point : Point w) (next : w.Ids) (old : Tables B C I R U) (s : TablesStand w stored p points point next old) (j : ℕ) where
  abbrev past : Past B C I
  past = Came (Turn j) ∷ p

  -- the tables stand after a turn of a job that is no candidate's
  pub TablesStand-turn : at old.runs j ≡ None → j < old.next_job → TablesStand w stored (Came (Turn j) ∷ p) points point next old
  TablesStand-turn none drawn = TablesStand-spared w stored p (Came (Turn j)) points point next old (turn-Spares w stored p j old none drawn) s

  module _ (live : LiveRun B R) (live_is : at old.runs j ≡ Some live) (m : w.kind.Members) (located : w.kind.point m ≡ Some point) (turned : R) (had : Turns w m live.run turned Pending) where
    abbrev run : IsRunning w stored p points next old.anchor old.cache j live
    run = running w stored p points point next old s j live live_is

    abbrev now : LiveRun B R
    now = record live { run = turned }

    -- what the turn says of the run
    goes_on : w.works.runs turned (run_of Candidate (w.context_of live.block.block) (record { first = live.block; rest = run.parent ∷ [] }) run.own (points run.parent.digest) run.below) (turns j p + 1)
    goes_on =
        had.ends (run_of Candidate (w.context_of live.block.block) (record { first = live.block; rest = run.parent ∷ [] }) run.own (points run.parent.digest) run.below) (turns j p) point run.runs located
        (run-IsPoint w stored p points point next old s j live run)

    own : IsRunning w stored past points next old.anchor old.cache j now
    own = record {
      job = record { live = run.job.live; is = run.job.is };
      met = inr run.met;
      other = run.other;
      parent = run.parent;
      parent_met = inr run.parent_met;
      parent_is = run.parent_is;
      at_hand = run.at_hand;
      below = run.below;
      chain = Chain-calm w stored p (Came (Turn j)) (turn-IsCalm (setting w stored) p j) points old.anchor.digest run.parent.digest _ run.chain;
      own = run.own;
      drawn = run.drawn;
      round = run.round;
      runs = rw (eq-eqb j j refl) goes_on;
    }

    drawn_before : j < old.next_job
    drawn_before = s.numbers.jobs j (live-started j p run.job.live)

    runs-goes_on : RunsStand w stored past points next old.anchor old.cache (put old.runs j now)
    runs-goes_on = record {
      ascending = sorted_put old.runs j now s.runs.ascending;
      each = All-replace (λ (e : ℕ × LiveRun B R). IsRunning w stored past points next old.anchor old.cache e.0 e.1) old.runs j now s.runs.ascending
          (λ k d l ne.
          let e = get_or old.runs k d in
          IsRunning-calm w stored p (Came (Turn j)) (turn-IsCalm (setting w stored) p j) points next old.anchor old.cache e.0 e.1 (turn-LeavesJob p j e.0 ne) (s.runs.each k d l)) own;
      apart = AllPairs-replace (λ (e f : ℕ × LiveRun B R). e.1.block.digest ≢ f.1.block.digest) old.runs j live now (λ x y ne same. ne (sym same)) s.runs.ascending live_is (λ x ne. ne) s.runs.apart;
      complete = λ k d job. some_put old.runs j now k (s.runs.complete k d (record { live = job.live; is = job.is }));
    }

    -- the tables stand after a turn of a run that goes on
    pub TablesStand-goes_on : TablesStand w stored (Came (Turn j) ∷ p) points point next (record old { runs = put old.runs j (record live { run = turned }) })
    TablesStand-goes_on = record {
      at_anchor = s.at_anchor;
      cache = CacheStands-calm w stored p (Came (Turn j)) (turn-IsCalm (setting w stored) p j) points next old.anchor old.pause old.cache s.cache;
      runs = runs-goes_on;
      requests = record {
        ascending = s.requests.ascending;
        each = λ k d l.
            let e = get_or old.requests k d in
            IsStanding-blocks w stored past j old.runs (put old.runs j now) e.0 e.1 (λ i b h. at_replace (λ (r : LiveRun B R). r.block ≡ b) old.runs j live now live_is (λ same. same) i h)
            (IsStanding-calm w stored p (Came (Turn j)) old.runs e.0 e.1 (record { live = refl; verified = refl; proposed = refl }) (λ f is. record { live = refl; asked = refl }) (s.requests.each k d l));
        fetches = λ f t alive asked. s.requests.fetches f t alive asked;
        wanted = λ i some. s.requests.wanted i (some_before old.runs j live now live_is i some);
      };
      once = s.once;
      queue = record { each = λ k d l. let e = s.queue.each k d l in record { live = e.live; proposes = e.proposes }; ready = s.queue.ready };
      numbers = turn-NumbersStand p j old.next_job old.next_fetch drawn_before s.numbers;
    }
