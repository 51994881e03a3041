-- The tables stand after a cancel.
use Rattle.std.proofs.Common.{◌≡◌, ◌≢◌, ◌==◌, not, ℕ, Bool, true, false, List, [], ◌∷◌, filter, All, Option, Some, None, IsSome, MatchOption, refl, sym, ap, ◌∙◌, subst}
use Rattle.std.proofs.lemmas.Bool.{eqb-true, eqb-false}
use Rattle.std.proofs.lemmas.List.Elements.{All-cons, All-head, All-tail, All-nil}
use Rattle.stateful_base.specs.Names.{Named}
use Rattle.stateful_base.specs.declared.digest.Digest.{Digest}
use Rattle.stateful_history.specs.Past.{Past, Came, after}
use Rattle.stateful_history.specs.Asked.{asked_for}
use Rattle.stateful_history.specs.Live.{live_fetch}
use Rattle.stateful_history.specs.Requests.{IsLiveProposal}
use Rattle.stateful_history.specs.declared.event.Event.TheVariants.{Cancel}
use Rattle.stateful_history.specs.declared.mark.Mark.{Mark}
use Rattle.stateful_table.specs.Table.{at, without}
use Rattle.stateful_table.proofs.Tables.{without_none}
use Rattle.stateful_exec_tables.specs.Cancelling.{Cancels}
use Rattle.stateful_exec_tables.specs.Cancelling.{idle, withdraws, leaves, ends, unqueued}
use Rattle.stateful_exec_tables.specs.Phase.{is_on, tickets_on}
use Rattle.stateful_exec_tables.specs.Tables.{taken}
use Rattle.stateful_exec_model.specs.Workings.{Workings, Point}
use Rattle.stateful_exec_walk.specs.declared.request.Proposal.{Proposal}
use Rattle.stateful_exec_tables.specs.declared.state.Tables.{Tables}
use Rattle.stateful_exec_tables.specs.declared.tables.Phase.TheVariants.{Fetching, Executing}
use Rattle.stateful_exec_tables.specs.declared.tables.Requested.{Requested}
use Rattle.stateful_exec_laws.specs.Setting.{setting}
use Rattle.stateful_exec_laws.specs.Requesting.{IsStanding, RequestsStand, QueueStands}
use Rattle.stateful_exec_laws.specs.Standing.{TablesStand}
use Rattle.stateful_exec_laws.proofs.requests.Calm.{CacheStands-calm, RunsStand-calm}
use Rattle.stateful_exec_laws.proofs.runs.Removing.{at_other, All-without, sorted_without}
use Rattle.stateful_exec_laws.proofs.ended.GivenUp.{cancel-IsCalm, cancel-LeavesJob, cancel-LeavesTicket, others-cancelled}
use Rattle.stateful_exec_laws.proofs.requests.Cancelled.{TablesStand-left, TablesStand-idle, TablesStand-withdrawn}
use Rattle.stateful_exec_laws.proofs.ended.RunEnded.{TablesStand-ended}

-- each that is left is another one
each_other : (t : ℕ) (P : ℕ → Type 0) (us : List ℕ) → All P us → All (λ u. (u ≢ t) × P u) (filter (λ u. not (u == t)) us)
each_other t P [] all = All-nil (λ u. (u ≢ t) × P u)
each_other t P (u ∷ us) all = go (u == t) refl (each_other t P us (All-tail P u us all))
  where
    go : (b : Bool) → (u == t) ≡ b → All (λ v. (v ≢ t) × P v) (filter (λ v. not (v == t)) us) → All (λ v. (v ≢ t) × P v) (filter (λ v. not (v == t)) (u ∷ us))
    go true is rest = rw is rest
    go false is rest = rw is (All-cons (λ v. (v ≢ t) × P v) u _ (eqb-false u t is, All-head P u us all) rest)

module _ {B C I P R D H G U : Type 0} (w : Workings B C I P R D H G U) (stored : ℕ → Option (Named B)) (p : Past B C I) (points : Digest → Point w) (point : Point w) (next : w.Ids) (old : Tables B C I R U) (t : ℕ) (s : TablesStand w stored p points point next old) where
  module _ (none : at old.requests t ≡ None) where
    requests-unqueued : RequestsStand w stored (Came (Cancel t) ∷ p) old.runs (without old.requests t)
    requests-unqueued = record {
      ascending = sorted_without old.requests t s.requests.ascending;
      each = All-without (λ (e : ℕ × Requested B C I). IsStanding w stored (Came (Cancel t) ∷ p) old.runs e.0 e.1) old.requests t (others-cancelled w stored p t old.runs old.requests s.requests);
      fetches = fetches;
      wanted = λ j live nobody. s.requests.wanted j live (sym (ap (λ l. tickets_on j l) (without_none old.requests t none)) ∙ nobody);
    }
      where
        fetches : (f u : ℕ) → live_fetch f p ≡ true → asked_for f p ≡ Some (Some u) → MatchOption (at (without old.requests t) u) ⊥ (λ q. q.phase ≡ Fetching f)
        fetches f u live asked = subst (λ (l : List (ℕ × Requested B C I)). MatchOption (at l u) ⊥ (λ q. q.phase ≡ Fetching f)) (sym (without_none old.requests t none)) (s.requests.fetches f u live asked)

    queue-unqueued : QueueStands w stored (Came (Cancel t) ∷ p) (without old.queued t) (filter (λ u. not (u == t)) old.recovered)
    queue-unqueued = record {
      each = All-without (λ (e : ℕ × Proposal B C I). IsLiveProposal e.0 (Came (Cancel t) ∷ p) (record { kind = e.1.kind; context = e.1.context; parent = e.1.ancestry.first; input = e.1.input })) old.queued t
          (λ k d l ne. let q = s.queue.each k d l in let same = cancel-LeavesTicket p t _ ne in record { live = same.live ∙ q.live; proposes = same.proposed ∙ q.proposes });
      ready = λ k d l. let e = each_other t (λ u. IsSome (at old.queued u)) old.recovered s.queue.ready k d l in subst (λ o. IsSome o) (sym (at_other old.queued t _ e.0)) e.1;
    }

    once-unqueued : (u : ℕ) → IsSome (at (without old.requests t) u) → at (without old.queued t) u ≡ None
    once-unqueued u some = go (u == t) refl
      where
        before : IsSome (at old.requests u)
        before = subst (λ (l : List (ℕ × Requested B C I)). IsSome (at l u)) (without_none old.requests t none) some

        go : (b : Bool) → (u == t) ≡ b → at (without old.queued t) u ≡ None
        go true is = let no : IsSome (at old.requests t) = subst (λ k. IsSome (at old.requests k)) (eqb-true u t is) before in let off = rw none at no in cc
        go false is = at_other old.queued t u (eqb-false u t is) ∙ s.once u before

    TablesStand-unqueued : TablesStand w stored (Came (Cancel t) ∷ p) points point next (record (taken old t) { queued = without old.queued t; recovered = filter (λ u. not (u == t)) old.recovered })
    TablesStand-unqueued = record {
      at_anchor = s.at_anchor;
      cache = CacheStands-calm w stored p (Came (Cancel t)) (cancel-IsCalm (setting w stored) p t) points next old.anchor old.pause old.cache s.cache;
      runs = RunsStand-calm w stored p (Came (Cancel t)) (cancel-IsCalm (setting w stored) p t) points next old.anchor old.cache (cancel-LeavesJob p t) old.runs s.runs;
      requests = requests-unqueued;
      once = once-unqueued;
      queue = queue-unqueued;
      numbers = record { jobs = s.numbers.jobs; unturned = s.numbers.unturned; fetches = s.numbers.fetches };
    }

  -- whatever a cancel leaves stands for the past with it and its marks
  pub TablesStand-cancel : (new : Tables B C I R U) (marks : List (Mark B)) → Cancels old new t marks → TablesStand w stored (after (Came (Cancel t) ∷ p) marks) points point next new
  TablesStand-cancel new marks (idle r there is_idle new_is marks_is) = rw (new_is, marks_is) (TablesStand-idle w stored p points point next old t s r there is_idle)
  TablesStand-cancel new marks (withdraws r f fetches new_is marks_is) = rw (new_is, marks_is) (TablesStand-withdrawn w stored p points point next old t s r fetches.there f fetches.fetching)
  TablesStand-cancel new marks (leaves r j path there executing others new_is marks_is) =
      rw (new_is, marks_is) (TablesStand-left w stored p points point next old t s r there (λ f is. let no : Executing j path ≡ Fetching f = sym executing ∙ is in cc) joined)
    where
      joined : (k : ℕ) → is_on k r.phase ≡ true → tickets_on k (without old.requests t) ≢ []
      joined k on none = let same : (j == k) ≡ true = sym (ap (λ phase. is_on k phase) executing) ∙ on in others (subst (λ n. tickets_on n (without old.requests t) ≡ []) (sym (eqb-true j k same)) none)
  TablesStand-cancel new marks (ends r j path there executing last new_is marks_is) = rw (new_is, marks_is) (TablesStand-ended w stored p points point next old t s r there j path executing last)
  TablesStand-cancel new marks (unqueued none new_is marks_is) = rw (new_is, marks_is) (TablesStand-unqueued none)
