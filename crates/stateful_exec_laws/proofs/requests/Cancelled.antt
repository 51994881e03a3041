-- The tables stand behind each case of a cancel.
use Rattle.std.proofs.Common.{◌≡◌, ◌≢◌, ◌==◌, ◌&&◌, not, ℕ, Bool, true, false, [], ◌∷◌, All, Option, Some, None, IsSome, MatchOption, get_or, refl, sym, ap, ◌∙◌, subst}
use Rattle.std.proofs.lemmas.Bool.{eqb-true, eq-eqb}
use Rattle.stateful_base.specs.Names.{Named}
use Rattle.stateful_base.specs.declared.digest.Digest.{Digest}
use Rattle.stateful_history.specs.Past.{Past, Came, Made}
use Rattle.stateful_history.specs.Asked.{asked_for}
use Rattle.stateful_history.specs.Live.{live_fetch}
use Rattle.stateful_history.specs.declared.event.Event.TheVariants.{Cancel}
use Rattle.stateful_history.specs.declared.mark.How.TheVariants.{Cancelled}
use Rattle.stateful_history.specs.declared.mark.Mark.TheVariants.{Withdrawn, Ended}
use Rattle.stateful_table.specs.Table.{at, without}
use Rattle.stateful_exec_tables.specs.Cancelling.{IsIdle}
use Rattle.stateful_exec_tables.specs.Phase.{is_on, tickets_on}
use Rattle.stateful_exec_tables.specs.Tables.{taken}
use Rattle.stateful_exec_model.specs.Workings.{Workings, Point}
use Rattle.stateful_exec_tables.specs.declared.state.Tables.{Tables}
use Rattle.stateful_exec_tables.specs.declared.tables.Phase.{Phase}
use Rattle.stateful_exec_tables.specs.declared.tables.Phase.TheVariants.{Fetching}
use Rattle.stateful_exec_tables.specs.declared.tables.Requested.{Requested}
use Rattle.stateful_exec_laws.specs.Setting.{setting}
use Rattle.stateful_exec_laws.specs.Requesting.{IsInPhase, IsStanding, QueueStands}
use Rattle.stateful_exec_laws.specs.Standing.{TablesStand}
use Rattle.stateful_exec_laws.proofs.requests.Calm.{IsCalm, CacheStands-calm, RunsStand-calm}
use Rattle.stateful_exec_laws.proofs.requests.Asking.{LeavesFetch, IsStanding-calm}
use Rattle.stateful_exec_laws.proofs.runs.Removing.{differ, at_other, none_at, All-at, All-without, sorted_without, tickets_stay}
use Rattle.stateful_exec_laws.proofs.ended.GivenUp.{cancel-IsCalm, cancel-LeavesJob, cancel-LeavesTicket, no_fetch, no_run, others-cancelled, fetches-left, RequestsStand-left}

module _ {B C I P R D H G U : Type 0} (w : Workings B C I P R D H G U) (stored : ℕ → Option (Named B)) (p : Past B C I) (points : Digest → Point w) (point : Point w) (next : w.Ids) (old : Tables B C I R U) (t : ℕ) (s : TablesStand w stored p points point next old) where
  module _ (r : Requested B C I) (there : at old.requests t ≡ Some r) where
    pub not_queued : at old.queued t ≡ None
    not_queued = s.once t (rw there refl)

    pub queue-left : QueueStands w stored (Came (Cancel t) ∷ p) old.queued old.recovered
    queue-left = record {
      each = λ k d l. let q = s.queue.each k d l in let same = cancel-LeavesTicket p t _ (none_at old.queued t not_queued k d l) in record { live = same.live ∙ q.live; proposes = same.proposed ∙ q.proposes };
      ready = s.queue.ready;
    }

    pub once-left : (u : ℕ) → IsSome (at (without old.requests t) u) → at old.queued u ≡ None
    once-left u some = go (u == t) refl
      where
        go : (b : Bool) → (u == t) ≡ b → at old.queued u ≡ None
        go true is = subst (λ k. at old.queued k ≡ None) (sym (eqb-true u t is)) not_queued
        go false is = s.once u (subst (λ o. IsSome o) (at_other old.requests t u (λ e. let no : true ≡ false = sym (eq-eqb u t e) ∙ is in cc)) some)

    -- after the cancel of a request that fetches nothing, where each run that it waited for has another request
    pub TablesStand-left : ((f : ℕ) → r.phase ≡ Fetching f → ⊥) → ((j : ℕ) → is_on j r.phase ≡ true → tickets_on j (without old.requests t) ≢ [])
        → TablesStand w stored (Came (Cancel t) ∷ p) points point next (taken old t)
    TablesStand-left fetches_none joined = record {
      at_anchor = s.at_anchor;
      cache = CacheStands-calm w stored p (Came (Cancel t)) (cancel-IsCalm (setting w stored) p t) points next old.anchor old.pause old.cache s.cache;
      runs = RunsStand-calm w stored p (Came (Cancel t)) (cancel-IsCalm (setting w stored) p t) points next old.anchor old.cache (cancel-LeavesJob p t) old.runs s.runs;
      requests = RequestsStand-left w stored p t old.runs old.requests s.requests r there fetches_none joined;
      once = once-left;
      queue = queue-left;
      numbers = record { jobs = s.numbers.jobs; unturned = s.numbers.unturned; fetches = s.numbers.fetches };
    }

    -- after the cancel of an idle request
    pub TablesStand-idle : IsIdle r.phase → TablesStand w stored (Came (Cancel t) ∷ p) points point next (taken old t)
    TablesStand-idle idle = TablesStand-left (λ f is. no_fetch r.phase f idle is) (λ j on. let no : true ≡ false = sym on ∙ no_run r.phase j idle in cc)

pub and_left : (a b : Bool) → (a && b) ≡ true → a ≡ true
and_left true b is = refl
and_left false b is = cc

pub and_right : (a b : Bool) → (a && b) ≡ true → b ≡ true
and_right true b is = is
and_right false b is = cc

pub not_same : (a b : ℕ) → not (a == b) ≡ true → a ≢ b
not_same a b is e = let same = eq-eqb a b e in let no : false ≡ true = rw same at is in cc

pub same_ticket : (t u : ℕ) → Some (Some t) ≡ Some (Some u) → t ≡ u
same_ticket t u is = search

pub same_fetch : {B : Type 0} (f g : ℕ) (phase : Phase B) → phase ≡ Fetching f → phase ≡ Fetching g → f ≡ g
same_fetch f g phase a b = let c : Fetching f ≡ Fetching g = sym a ∙ b in search

module _ {B C I S T : Type 0} where
  pub withdrawn-IsCalm : (w : _) (p : Past B C I) (f : ℕ) → IsCalm {S = S} {T = T} w p (Made (Withdrawn f))
  withdrawn-IsCalm w p f = record { tip = refl; starts_none = tt; built = λ d h. h; kept = refl }

  pub ended-IsCalm : (w : _) (p : Past B C I) (j : ℕ) → IsCalm {S = S} {T = T} w p (Made (Ended j Cancelled))
  ended-IsCalm w p j = record { tip = refl; starts_none = tt; built = λ d h. h; kept = refl }

module _ {B C I P R D H G U : Type 0} (w : Workings B C I P R D H G U) (stored : ℕ → Option (Named B)) (p : Past B C I) (points : Digest → Point w) (point : Point w) (next : w.Ids) (old : Tables B C I R U) (t : ℕ) (s : TablesStand w stored p points point next old)
    (r : Requested B C I) (there : at old.requests t ≡ Some r) where
  abbrev given : Past B C I
  given = Came (Cancel t) ∷ p

  pub own : IsStanding w stored p old.runs t r
  own = All-at (λ (e : ℕ × Requested B C I). IsStanding w stored p old.runs e.0 e.1) old.requests t r there s.requests.each

  module _ (f : ℕ) (fetching : r.phase ≡ Fetching f) where
    pub own_fetch : asked_for f p ≡ Some (Some t)
    own_fetch = let h = subst (λ phase. IsInPhase w stored p old.runs t r.request phase) fetching own.phase in h.1

    pub other_fetch : (u g : ℕ) (q : Requested B C I) → u ≢ t → q.phase ≡ Fetching g → IsStanding w stored p old.runs u q → g ≢ f
    other_fetch u g q ne is stands same =
        let h = subst (λ phase. IsInPhase w stored p old.runs u q.request phase) is stands.phase in
        ne (same_ticket u t (sym h.1 ∙ ap (λ k. asked_for k p) same ∙ own_fetch))

    withdrawn-LeavesFetch : (g : ℕ) → g ≢ f → LeavesFetch given (Made (Withdrawn f)) g
    withdrawn-LeavesFetch g ne = record { live = rw (differ g f (λ e. ne (sym e))) refl; asked = refl }

    -- after the cancel of a request whose fetch is withdrawn
    pub TablesStand-withdrawn : TablesStand w stored (Made (Withdrawn f) ∷ given) points point next (taken old t)
    TablesStand-withdrawn = record {
      at_anchor = s.at_anchor;
      cache = CacheStands-calm w stored given (Made (Withdrawn f)) (withdrawn-IsCalm (setting w stored) given f) points next old.anchor old.pause old.cache
          (CacheStands-calm w stored p (Came (Cancel t)) (cancel-IsCalm (setting w stored) p t) points next old.anchor old.pause old.cache s.cache);
      runs = RunsStand-calm w stored given (Made (Withdrawn f)) (withdrawn-IsCalm (setting w stored) given f) points next old.anchor old.cache (λ j. record { live = refl; started = refl; turns = refl }) old.runs
          (RunsStand-calm w stored p (Came (Cancel t)) (cancel-IsCalm (setting w stored) p t) points next old.anchor old.cache (cancel-LeavesJob p t) old.runs s.runs);
      requests = record {
        ascending = sorted_without old.requests t s.requests.ascending;
        each = All-without (λ (e : ℕ × Requested B C I). IsStanding w stored (Made (Withdrawn f) ∷ given) old.runs e.0 e.1) old.requests t others;
        fetches = fetches;
        wanted = λ j live none. s.requests.wanted j live (sym (tickets_stay j t old.requests r s.requests.ascending there (ap (λ phase. is_on j phase) fetching)) ∙ none);
      };
      once = once-left w stored p points point next old t s r there;
      queue = let q = queue-left w stored p points point next old t s r there in record { each = λ k d l. let e = q.each k d l in record { live = e.live; proposes = e.proposes }; ready = q.ready };
      numbers = record { jobs = s.numbers.jobs; unturned = s.numbers.unturned; fetches = s.numbers.fetches };
    }
      where
        others : All (λ e. e.0 ≢ t → IsStanding w stored (Made (Withdrawn f) ∷ given) old.runs e.0 e.1) old.requests
        others = λ k d l ne.
            let e = get_or old.requests k d in
            IsStanding-calm w stored given (Made (Withdrawn f)) old.runs e.0 e.1 (record { live = refl; verified = refl; proposed = refl })
            (λ g is. withdrawn-LeavesFetch g (other_fetch e.0 g e.1 ne is (s.requests.each k d l)))
            (others-cancelled w stored p t old.runs old.requests s.requests k d l ne)

        fetches : (g u : ℕ) → live_fetch g (Made (Withdrawn f) ∷ given) ≡ true → asked_for g (Made (Withdrawn f) ∷ given) ≡ Some (Some u) → MatchOption (at (without old.requests t) u) ⊥ (λ q. q.phase ≡ Fetching g)
        fetches g u live asked =
            let ne = not_same g f (and_left (not (g == f)) (live_fetch g p) live) in
            fetches-left w stored p t old.runs old.requests s.requests r there g u (λ is. ne (same_fetch g f r.phase is fetching)) (and_right (not (g == f)) (live_fetch g p) live) asked
