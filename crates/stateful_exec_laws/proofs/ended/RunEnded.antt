-- The tables stand after the cancel of the last request that waited for a run, which ends.
use Rattle.std.proofs.Common.{rules, ◌≡◌, ◌≢◌, ◌==◌, not, ℕ, true, false, List, [], ◌∷◌, All, Option, Some, None, IsSome, MatchOption, get_or, refl, sym, ap, ◌∙◌, subst}
use Rattle.std.proofs.lemmas.Bool.{eq-eqb}
use Rattle.std.proofs.lemmas.List.Kept.{AllPairs-filter}
use Rattle.stateful_base.specs.Names.{Named}
use Rattle.stateful_base.specs.declared.anchor.Anchor.{Anchor}
use Rattle.stateful_base.specs.declared.digest.Digest.{Digest}
use Rattle.stateful_history.specs.Past.{Past, Item, Came, Made}
use Rattle.stateful_history.specs.Live.{live_job}
use Rattle.stateful_history.specs.declared.event.Event.TheVariants.{Cancel}
use Rattle.stateful_history.specs.declared.mark.How.TheVariants.{Cancelled}
use Rattle.stateful_history.specs.declared.mark.Mark.TheVariants.{Ended}
use Rattle.stateful_exec_cache.specs.declared.cache.Cached.{Cached}
use Rattle.stateful_table.specs.Table.{at, without}
use Rattle.stateful_exec_walk.specs.Path.{Path}
use Rattle.stateful_exec_tables.specs.Phase.{is_on, tickets_on}
use Rattle.stateful_exec_tables.specs.Tables.{taken}
use Rattle.stateful_exec_model.specs.Workings.{Workings, Point}
use Rattle.stateful_exec_tables.specs.declared.state.Tables.{Tables}
use Rattle.stateful_exec_tables.specs.declared.tables.LiveRun.{LiveRun}
use Rattle.stateful_exec_tables.specs.declared.tables.Phase.{Phase}
use Rattle.stateful_exec_tables.specs.declared.tables.Phase.TheVariants.{Open, Fetching, Waiting, Executing, Parked}
use Rattle.stateful_exec_tables.specs.declared.tables.Requested.{Requested}
use Rattle.stateful_exec_laws.specs.Setting.{setting}
use Rattle.stateful_exec_laws.specs.Requesting.{IsInPhase, IsStanding, RequestsStand}
use Rattle.stateful_exec_laws.specs.Running.{IsRunning, RunsStand}
use Rattle.stateful_exec_laws.specs.Standing.{TablesStand}
use Rattle.stateful_exec_laws.proofs.requests.Calm.{LeavesJob, CacheStands-calm, IsRunning-calm, RunsStand-calm}
use Rattle.stateful_exec_laws.proofs.requests.Asking.{IsStanding-calm}
use Rattle.stateful_exec_laws.proofs.runs.Removing.{differ, at_other, at_gone, none_on, All-without, sorted_without, tickets_stay}
use Rattle.stateful_exec_laws.proofs.ended.GivenUp.{cancel-IsCalm, cancel-LeavesJob, others-cancelled, fetches-left}
use Rattle.stateful_exec_laws.proofs.requests.Cancelled.{ended-IsCalm, and_left, and_right, not_same, once-left, queue-left}

module _ {B C I P R D H G U : Type 0} (w : Workings B C I P R D H G U) (stored : ℕ → Option (Named B)) (p : Past B C I) where
  -- a request stands over other runs, as long as the one that it waits for stays
  pub IsStanding-runs : (runs now : List (ℕ × LiveRun B R)) (t : ℕ) (r : Requested B C I) → ((j : ℕ) (path : Path B) → r.phase ≡ Executing j path → at now j ≡ at runs j)
      → IsStanding w stored p runs t r → IsStanding w stored p now t r
  IsStanding-runs runs now t r stays h = record { own = h.own; asked = h.asked; brought = h.brought; met = h.met; phase = phase r.phase stays h.phase }
    where
      phase : (q : Phase B) → ((j : ℕ) (path : Path B) → q ≡ Executing j path → at now j ≡ at runs j) → IsInPhase w stored p runs t r.request q → IsInPhase w stored p now t r.request q
      phase Open s h = tt
      phase (Fetching f) s h = h
      phase Waiting s h = h
      phase (Executing j path) s h = (subst (λ o. MatchOption o ⊥ (λ (run : LiveRun B R). run.block ≡ path.parent)) (sym (s j path refl)) h.0, h.1)
      phase (Parked path) s h = h

  ended-LeavesJob : (j k : ℕ) → k ≢ j → LeavesJob p (Made (Ended j Cancelled)) k
  ended-LeavesJob j k ne = record { live = rw (differ k j (λ e. ne (sym e))) refl; started = refl; turns = refl }

  -- the other runs stand after the end of one
  pub RunsStand-ended : (points : Digest → Point w) (next : w.Ids) (anchor : Anchor) (cache : List (Cached U)) (j : ℕ) (runs : List (ℕ × LiveRun B R)) → RunsStand w stored p points next anchor cache runs
      → RunsStand w stored (Made (Ended j Cancelled) ∷ p) points next anchor cache (without runs j)
  RunsStand-ended points next anchor cache j runs h = record {
    ascending = sorted_without runs j h.ascending;
    each = All-without (λ (e : ℕ × LiveRun B R). IsRunning w stored (Made (Ended j Cancelled) ∷ p) points next anchor cache e.0 e.1) runs j
        (λ k d l ne. let e = get_or runs k d in IsRunning-calm w stored p (Made (Ended j Cancelled)) (ended-IsCalm (setting w stored) p j) points next anchor cache e.0 e.1 (ended-LeavesJob j e.0 ne) (h.each k d l));
    apart = AllPairs-filter (λ (e f : ℕ × LiveRun B R). e.1.block.digest ≢ f.1.block.digest) (λ e. not (e.0 == j)) runs h.apart;
    complete = λ k d live.
        let ne = not_same k j (and_left (not (k == j)) (live_job k p) live.live) in
        subst (λ o. IsSome o) (sym (at_other runs j k ne)) (h.complete k d (record { live = and_right (not (k == j)) (live_job k p) live.live; is = live.is }));
  }

on_its_run : {B : Type 0} (j k : ℕ) (phase : Phase B) (path : Path B) → is_on j phase ≡ false → phase ≡ Executing k path → k ≢ j
on_its_run j k phase path off is same = let on : is_on j phase ≡ true = rw is (eq-eqb k j same) in let no : false ≡ true = sym off ∙ on in cc

module _ {B C I P R D H G U : Type 0} (w : Workings B C I P R D H G U) (stored : ℕ → Option (Named B)) (p : Past B C I) (points : Digest → Point w) (point : Point w) (next : w.Ids) (old : Tables B C I R U) (t : ℕ) (s : TablesStand w stored p points point next old)
    (r : Requested B C I) (there : at old.requests t ≡ Some r) (j : ℕ) (path : Path B) (executing : r.phase ≡ Executing j path) (last : tickets_on j (without old.requests t) ≡ []) where
  abbrev given : Past B C I
  given = Came (Cancel t) ∷ p

  abbrev ended : Item B C I
  ended = Made (Ended j Cancelled)

  each-other : All (λ e. is_on j e.1.phase ≡ false) (without old.requests t)
  each-other = none_on j (without old.requests t) last

  each-given : All (λ e. IsStanding w stored given old.runs e.0 e.1) (without old.requests t)
  each-given = All-without (λ (e : ℕ × Requested B C I). IsStanding w stored given old.runs e.0 e.1) old.requests t (others-cancelled w stored p t old.runs old.requests s.requests)

  requests-ended : RequestsStand w stored (ended ∷ given) (without old.runs j) (without old.requests t)
  requests-ended = record {
    ascending = sorted_without old.requests t s.requests.ascending;
    each = λ k d l.
        let e = get_or (without old.requests t) k d in
        IsStanding-runs w stored (ended ∷ given) old.runs (without old.runs j) e.0 e.1 (λ i way is. at_other old.runs j i (on_its_run j i e.1.phase way (each-other k d l) is))
        (IsStanding-calm w stored given ended old.runs e.0 e.1 (record { live = refl; verified = refl; proposed = refl }) (λ f is. record { live = refl; asked = refl }) (each-given k d l));
    fetches = λ f u live asked. fetches-left w stored p t old.runs old.requests s.requests r there f u (λ is. let no : Executing j path ≡ Fetching f = sym executing ∙ is in cc) live asked;
    wanted = λ i live none.
        let ne : i ≢ j = (λ same. let gone : IsSome (at (without old.runs j) j) = subst (λ n. IsSome (at (without old.runs j) n)) same live in none_is (at (without old.runs j) j) (at_gone old.runs j) gone) in
        s.requests.wanted i (subst (λ o. IsSome o) (at_other old.runs j i ne) live)
        (sym (tickets_stay i t old.requests r s.requests.ascending there (ap (λ phase. is_on i phase) executing ∙ differ j i ne)) ∙ none);
  }
    where
      none_is : (o : Option (LiveRun B R)) → o ≡ None → IsSome o → ⊥
      none_is None is some = search rules
      none_is (Some v) is some = cc

  -- after the cancel of the last request that waited for a run
  pub TablesStand-ended : TablesStand w stored (ended ∷ given) points point next (record (taken old t) { runs = without old.runs j })
  TablesStand-ended = record {
    at_anchor = s.at_anchor;
    cache = CacheStands-calm w stored given ended (ended-IsCalm (setting w stored) given j) points next old.anchor old.pause old.cache
        (CacheStands-calm w stored p (Came (Cancel t)) (cancel-IsCalm (setting w stored) p t) points next old.anchor old.pause old.cache s.cache);
    runs = RunsStand-ended w stored given points next old.anchor old.cache j old.runs
        (RunsStand-calm w stored p (Came (Cancel t)) (cancel-IsCalm (setting w stored) p t) points next old.anchor old.cache (cancel-LeavesJob p t) old.runs s.runs);
    requests = requests-ended;
    once = once-left w stored p points point next old t s r there;
    queue = let q = queue-left w stored p points point next old t s r there in record { each = λ k d l. let e = q.each k d l in record { live = e.live; proposes = e.proposes }; ready = q.ready };
    numbers = record { jobs = s.numbers.jobs; unturned = s.numbers.unturned; fetches = s.numbers.fetches };
  }
