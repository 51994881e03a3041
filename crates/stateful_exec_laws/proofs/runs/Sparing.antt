-- Items that say nothing of what the tables hold: starts and ends of builds, of finalized runs and of hooks, and what tells of a
-- request that is in no table.
use Rattle.std.proofs.Common.{◌≡◌, ◌≢◌, ◌<◌, ◌==◌, not, ℕ, Bool, true, false, ◌∷◌, All, Option, Some, None, get_or, refl, sym, ap, arith}
use Rattle.std.proofs.lemmas.Bool.{eqb-true}
use Rattle.stateful_base.specs.Names.{Named}
use Rattle.stateful_base.specs.declared.digest.Digest.{Digest}
use Rattle.stateful_history.specs.Setting.{Setting}
use Rattle.stateful_history.specs.Past.{Past, Came, Made}
use Rattle.stateful_history.specs.Jobs.{JobOf, job_of, IsLiveJob, started_for}
use Rattle.stateful_history.specs.Live.{live_job}
use Rattle.stateful_history.specs.declared.event.Event.TheVariants.{Cancel}
use Rattle.stateful_history.specs.declared.mark.Decision.{Decision}
use Rattle.stateful_history.specs.declared.mark.How.{How}
use Rattle.stateful_history.specs.declared.mark.JobKind.{JobKind}
use Rattle.stateful_history.specs.declared.mark.JobKind.TheVariants.{Candidate}
use Rattle.stateful_history.specs.declared.mark.Mark.TheVariants.{Started, Ended, Answered}
use Rattle.stateful_table.specs.Table.{at}
use Rattle.stateful_exec_model.specs.Workings.{Workings, Point}
use Rattle.stateful_exec_tables.specs.declared.state.Tables.{Tables}
use Rattle.stateful_exec_laws.specs.Standing.{NumbersStand, TablesStand}
use Rattle.stateful_exec_laws.proofs.requests.Calm.{LeavesJob}
use Rattle.stateful_exec_laws.proofs.runs.Removing.{differ, none_at}
use Rattle.stateful_exec_laws.proofs.requests.Cancelled.{and_left, and_right, not_same}
use Rattle.stateful_exec_laws.proofs.ended.GivenUp.{cancel-IsCalm, cancel-LeavesJob, cancel-LeavesTicket, cancel-LeavesFetch}
use Rattle.stateful_exec_laws.proofs.ended.ConcludeStands.{TellsOf}
use Rattle.stateful_exec_laws.proofs.runs.Drawn.{started_below}
use Rattle.stateful_exec_laws.proofs.runs.Spared.{Spares, KnowsSame, knows-calm}

-- what a job was started for is of one kind
pub one_kind : (kind other : JobKind) (d e : Digest) → Some (job_of kind d) ≡ Some (job_of other e) → kind ≡ other
one_kind kind other d e is = let same : job_of kind d ≡ job_of other e = search in ap (λ (o : JobOf). o.kind) same

module _ {B C I : Type 0} (p : Past B C I) where
  -- a start, and an end, leave other jobs as they are
  pub started-LeavesJob : (n : ℕ) (kind : JobKind) (d : Digest) (k : ℕ) → k ≢ n → LeavesJob p (Made (Started n kind d)) k
  started-LeavesJob n kind d k ne = record { live = rw (differ k n (λ e. ne (sym e))) refl; started = rw (differ k n (λ e. ne (sym e))) refl; turns = refl }

  pub ended-LeavesJob : (j : ℕ) (how : How) (k : ℕ) → k ≢ j → LeavesJob p (Made (Ended j how)) k
  ended-LeavesJob j how k ne = record { live = rw (differ k j (λ e. ne (sym e))) refl; started = refl; turns = refl }

  -- the live jobs of a kind behind the start of one of another kind
  pub live-started_other : (n : ℕ) (kind : JobKind) (d : Digest) (other : JobKind) → kind ≢ other → (j : ℕ) (e : Digest) → IsLiveJob j other e (Made (Started n kind d) ∷ p) → IsLiveJob j other e p
  live-started_other n kind d other ne j e live = go (j == n) refl
    where
      go : (b : Bool) → (j == n) ≡ b → IsLiveJob j other e p
      go true is = let same : Some (job_of kind d) ≡ Some (job_of other e) = rw is at live.is in absurd (ne (one_kind kind other d e same))
      go false is = record { live = rw is at live.live; is = rw is at live.is }

  -- the live jobs after the end of one
  pub live-ended_other : (j : ℕ) (how : How) (kind : JobKind) (k : ℕ) (d : Digest) → IsLiveJob k kind d (Made (Ended j how) ∷ p) → (k ≢ j) × IsLiveJob k kind d p
  live-ended_other j how kind k d live = (not_same k j (and_left (not (k == j)) (live_job k p) live.live), record { live = and_right (not (k == j)) (live_job k p) live.live; is = live.is })

  pub started-NumbersStand : (n : ℕ) (kind : JobKind) (d : Digest) (job fetch : ℕ) → n < job → NumbersStand p job fetch → NumbersStand (Made (Started n kind d) ∷ p) job fetch
  started-NumbersStand n kind d job fetch below h = record {
    jobs = λ j some. started j some (j == n) refl;
    unturned = h.unturned;
    fetches = h.fetches;
  }
    where
      started : (j : ℕ) → (started_for j (Made (Started n kind d) ∷ p) ≢ None) → (b : Bool) → (j == n) ≡ b → j < job
      started j some true is = let e = eqb-true j n is in omega (arith, e, below)
      started j some false is = h.jobs j (λ none. some (rw is none))

module _ {B C I S T : Type 0} (s : Setting B S T) (p : Past B C I) (t : ℕ) where
  -- an answer tells of its request alone, and so does a cancel
  pub answered-TellsOf : (decision : Decision) (b : Named B) → TellsOf s p (Made (Answered t decision b)) t
  answered-TellsOf decision b = record {
    calm = record { tip = refl; starts_none = tt; built = λ d h. h; kept = refl };
    jobs = λ j. record { live = refl; started = refl; turns = refl };
    tickets = λ u ne. record { live = rw (differ u t (λ e. ne (sym e))) refl; verified = refl; proposed = refl };
    fetches = λ f. record { live = refl; asked = refl };
    abstains = λ u b a. a;
  }

  pub cancel-TellsOf : TellsOf s p (Came (Cancel t)) t
  cancel-TellsOf = record {
    calm = cancel-IsCalm s p t;
    jobs = cancel-LeavesJob p t;
    tickets = cancel-LeavesTicket p t;
    fetches = cancel-LeavesFetch p t;
    abstains = λ u b a. a;
  }

module _ {B C I P R D H G U : Type 0} (w : Workings B C I P R D H G U) (stored : ℕ → Option (Named B)) (p : Past B C I) where
  -- the start of a job that is no candidate's
  pub started-Spares : (n : ℕ) (kind : JobKind) (d : Digest) → kind ≢ Candidate → (v : Tables B C I R U) → All (λ e. e.0 ≢ n) v.runs → n < v.next_job → Spares w stored p (Made (Started n kind d)) v
  started-Spares n kind d other v apart below = record {
    built = λ e h. h;
    known = knows-calm w stored p (Made (Started n kind d)) (record { tip = refl; starts_none = tt; built = λ e h. h; kept = refl });
    runs = λ k e l. started-LeavesJob p n kind d _ (apart k e l);
    candidates = live-started_other p n kind d Candidate other;
    requests = λ k e l. record { live = refl; verified = refl; proposed = refl };
    queued = λ k e l. record { live = refl; verified = refl; proposed = refl };
    fetches = λ f. record { live = refl; asked = refl };
    numbers = started-NumbersStand p n kind d v.next_job v.next_fetch below;
  }

  -- the end of a job that is no candidate's, and that makes no block known
  pub ended-Spares : (j : ℕ) (how : How) → KnowsSame w stored p (Made (Ended j how)) → (v : Tables B C I R U) → at v.runs j ≡ None → Spares w stored p (Made (Ended j how)) v
  ended-Spares j how known v none = record {
    built = λ e h. h;
    known = known;
    runs = λ k e l. ended-LeavesJob p j how _ (none_at v.runs j none k e l);
    candidates = λ k d live. (live-ended_other p j how Candidate k d live).1;
    requests = λ k e l. record { live = refl; verified = refl; proposed = refl };
    queued = λ k e l. record { live = refl; verified = refl; proposed = refl };
    fetches = λ f. record { live = refl; asked = refl };
    numbers = λ h. record { jobs = h.jobs; unturned = h.unturned; fetches = h.fetches };
  }

  -- the live runs have earlier numbers than the next one
  pub runs_below : (points : Digest → Point w) (point : Point w) (next : w.Ids) (v : Tables B C I R U) → TablesStand w stored p points point next v → All (λ e. e.0 ≢ v.next_job) v.runs
  runs_below points point next v s = λ k d l same.
      let run = s.runs.each k d l in
      let below = started_below p v.next_job v.next_fetch (get_or v.runs k d).0 _ s.numbers run.job.is in
      let no : ⊥ = omega (arith, below, same) in absurd no
