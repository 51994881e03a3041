-- The tables stand where numbers and ids are drawn, and where a build isn't queued any more.
use Rattle.std.proofs.Common.{◌≡◌, ◌≢◌, ◌<◌, ◌≤◌, ◌==◌, ℕ, Bool, true, false, List, All, Option, Some, None, IsSome, get_or, refl, sym, ◌∙◌, subst, arith}
use Rattle.std.proofs.lemmas.Bool.{eqb-true, eqb-false}
use Rattle.stateful_base.specs.Names.{Named}
use Rattle.stateful_base.specs.declared.digest.Digest.{Digest}
use Rattle.stateful_history.specs.Past.{Past}
use Rattle.stateful_history.specs.Jobs.{JobOf, started_for}
use Rattle.stateful_history.specs.Requests.{IsLiveProposal}
use Rattle.stateful_table.specs.Table.{at, without}
use Rattle.stateful_exec_model.specs.Workings.{Workings, Point}
use Rattle.stateful_exec_walk.specs.declared.request.Proposal.{Proposal}
use Rattle.stateful_exec_tables.specs.declared.state.Tables.{Tables}
use Rattle.stateful_exec_tables.specs.declared.tables.Requested.{Requested}
use Rattle.stateful_exec_laws.specs.Requesting.{QueueStands}
use Rattle.stateful_exec_laws.specs.Standing.{NumbersStand, TablesStand}
use Rattle.stateful_exec_laws.proofs.runs.Removing.{at_other, at_gone, All-without}
use Rattle.stateful_exec_laws.proofs.runs.StartStands.{CacheStands-next, IsRunning-next}

module _ {B C I : Type 0} (p : Past B C I) where
  -- what was started has an earlier number
  pub started_below : (job fetch j : ℕ) (o : JobOf) → NumbersStand p job fetch → started_for j p ≡ Some o → j < job
  started_below job fetch j o h is = h.jobs j (λ none. let no : Some o ≡ None = sym is ∙ none in cc)

  pub NumbersStand-more : (job more fetch : ℕ) → job ≤ more → NumbersStand p job fetch → NumbersStand p more fetch
  NumbersStand-more job more fetch up h = record {
    jobs = λ j some. let l = h.jobs j some in omega (arith, l, up);
    unturned = λ j later. h.unturned j (omega (arith, later, up));
    fetches = h.fetches;
  }

module _ {B C I P R D H G U : Type 0} (w : Workings B C I P R D H G U) (stored : ℕ → Option (Named B)) (p : Past B C I) where
  -- the queue without a build whose ticket was taken before
  pub QueueStands-without : (queued : List (ℕ × Proposal B C I)) (recovered : List ℕ) (t : ℕ) → All (λ u. u ≢ t) recovered → QueueStands w stored p queued recovered → QueueStands w stored p (without queued t) recovered
  QueueStands-without queued recovered t taken h = record {
    each = All-without (λ (e : ℕ × Proposal B C I). IsLiveProposal e.0 p (record { kind = e.1.kind; context = e.1.context; parent = e.1.ancestry.first; input = e.1.input })) queued t (λ k d l ne. h.each k d l);
    ready = λ k d l. subst (λ o. IsSome o) (sym (at_other queued t (get_or recovered k d) (taken k d l))) (h.ready k d l);
  }

  -- where a build is taken out of the queue, no other table has its ticket
  pub once-without : (requests : List (ℕ × Requested B C I)) (queued : List (ℕ × Proposal B C I)) (t : ℕ) → ((u : ℕ) → IsSome (at requests u) → at queued u ≡ None) → (u : ℕ) → IsSome (at requests u) → at (without queued t) u ≡ None
  once-without requests queued t once u some = go (u == t) refl
    where
      go : (b : Bool) → (u == t) ≡ b → at (without queued t) u ≡ None
      go true is = subst (λ n. at (without queued t) n ≡ None) (sym (eqb-true u t is)) (at_gone queued t)
      go false is = at_other queued t u (eqb-false u t is) ∙ once u some

  module _ (points : Digest → Point w) (point : Point w) (next : w.Ids) (v : Tables B C I R U) where
    -- ids that are drawn leave what stands
    pub TablesStand-next : (now : w.Ids) → ((c : List (Point w)) → w.kind.issued next c → w.kind.issued now c) → TablesStand w stored p points point next v → TablesStand w stored p points point now v
    TablesStand-next now keeps s = record {
      at_anchor = s.at_anchor;
      cache = CacheStands-next w stored p points next now keeps v.anchor v.pause v.cache s.cache;
      runs = record {
        ascending = s.runs.ascending;
        each = λ k d l. let e = get_or v.runs k d in IsRunning-next w stored p points next now keeps v.anchor v.cache e.0 e.1 (s.runs.each k d l);
        apart = s.runs.apart;
        complete = s.runs.complete;
      };
      requests = s.requests;
      once = s.once;
      queue = s.queue;
      numbers = s.numbers;
    }

    -- the tables stand without a queued build, and with later numbers of jobs
    pub TablesStand-unqueued : (t job : ℕ) → v.next_job ≤ job → All (λ u. u ≢ t) v.recovered → TablesStand w stored p points point next v → TablesStand w stored p points point next (record v { queued = without v.queued t; next_job = job })
    TablesStand-unqueued t job up taken s = record {
      at_anchor = s.at_anchor;
      cache = s.cache;
      runs = s.runs;
      requests = s.requests;
      once = once-without v.requests v.queued t s.once;
      queue = QueueStands-without v.queued v.recovered t taken s.queue;
      numbers = NumbersStand-more p v.next_job job v.next_fetch up s.numbers;
    }

    -- the tables stand with later numbers of jobs
    pub TablesStand-numbered : (job : ℕ) → v.next_job ≤ job → TablesStand w stored p points point next v → TablesStand w stored p points point next (record v { next_job = job })
    TablesStand-numbered job up s = record {
      at_anchor = s.at_anchor;
      cache = s.cache;
      runs = s.runs;
      requests = s.requests;
      once = s.once;
      queue = s.queue;
      numbers = NumbersStand-more p v.next_job job v.next_fetch up s.numbers;
    }
