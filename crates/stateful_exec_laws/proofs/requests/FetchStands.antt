-- The tables stand behind the answer of a fetch.
use Rattle.std.proofs.Common.{◌≡◌, ◌≢◌, ◌==◌, not, ℕ, true, List, [], ◌∷◌, All, Option, Some, None, MatchOption, get_or, inl, inr, refl, sym, ap, ◌∙◌, subst}
use Rattle.std.proofs.lemmas.List.{get_or_default, append-nil}
use Rattle.std.proofs.lemmas.List.Elements.{All-push}
use Rattle.stateful_base.specs.Names.{Named}
use Rattle.stateful_base.specs.declared.digest.Digest.{Digest}
use Rattle.stateful_history.specs.Past.{Past, Came}
use Rattle.stateful_history.specs.Met.{Met, TrueNames}
use Rattle.stateful_history.specs.Asked.{asked_for}
use Rattle.stateful_history.specs.Fetches.{WasAnsweredNone, Abstains}
use Rattle.stateful_history.specs.Live.{live_fetch}
use Rattle.stateful_history.specs.Setting.{Setting}
use Rattle.stateful_history.specs.declared.event.Event.TheVariants.{Fetched}
use Rattle.stateful_table.specs.Table.{at, without}
use Rattle.stateful_exec_tables.specs.Fetching.{Fetches, IsLiveFetch, with_block}
use Rattle.stateful_exec_model.specs.Fetching.{serving, IsFetched, found, waits, declines, dead}
use Rattle.stateful_exec_model.specs.Moments.{Moment}
use Rattle.stateful_exec_tables.specs.Phase.{is_on}
use Rattle.stateful_exec_tables.specs.Tables.{taken}
use Rattle.stateful_exec_model.specs.Rules.{Needs}
use Rattle.stateful_exec_model.specs.Workings.{Workings, Point}
use Rattle.stateful_exec_walk.specs.declared.request.Verdict.TheVariants.{Invalid}
use Rattle.stateful_exec_tables.specs.declared.state.Tables.{Tables}
use Rattle.stateful_exec_tables.specs.declared.tables.Phase.TheVariants.{Fetching, Waiting}
use Rattle.stateful_exec_tables.specs.declared.tables.Requested.{Requested}
use Rattle.stateful_exec_walk.specs.declared.walk.Acquired.TheVariants.{Waits}
use Rattle.stateful_exec_laws.specs.Setting.{setting}
use Rattle.stateful_exec_laws.specs.Requesting.{first_of, IsStanding, QueueStands}
use Rattle.stateful_exec_laws.specs.Standing.{TablesStand, IsInHand, StandsBehind}
use Rattle.stateful_exec_laws.proofs.requests.Calm.{IsCalm, LeavesJob, CacheStands-calm, RunsStand-calm}
use Rattle.stateful_exec_laws.proofs.requests.Asking.{LeavesTicket, LeavesFetch, IsRequestOf-calm, IsStanding-calm}
use Rattle.stateful_exec_laws.proofs.runs.Removing.{differ, at_gone, All-without, sorted_without, tickets_stay}
use Rattle.stateful_exec_laws.proofs.ended.GivenUp.{fetches-left}
use Rattle.stateful_exec_laws.proofs.requests.Cancelled.{not_queued, once-left, and_left, and_right, not_same, same_fetch, own, own_fetch, other_fetch}
use Rattle.stateful_exec_laws.proofs.requests.Putting.{All-put}
use Rattle.stateful_exec_laws.proofs.requests.PutStands.{TablesStand-put}
use Rattle.stateful_exec_laws.proofs.requests.Advanced.{StandsBehind-concludes}
use Rattle.stateful_exec_laws.proofs.requests.Acquired.{StandsBehind-acquires}

module _ {B C I S T : Type 0} (s : Setting B S T) (p : Past B C I) (f : ℕ) where
  pub fetched-IsCalm : (answer : Option (Named B)) → IsCalm s p (Came (Fetched f answer))
  fetched-IsCalm answer = record { tip = refl; starts_none = tt; built = λ d h. h; kept = refl }

  -- a verification that abstains still does
  pub abstains-fetched : (answer : Option (Named B)) (t : ℕ) (b : Named B) → Abstains s t p b → Abstains s t (Came (Fetched f answer) ∷ p) b
  abstains-fetched None t b (inl none) = inl (inr none)
  abstains-fetched (Some c) t b (inl none) = inl none
  abstains-fetched answer t b (inr undecided) = inr undecided

module _ {B C I : Type 0} (p : Past B C I) (f : ℕ) (answer : Option (Named B)) where
  pub fetched-LeavesJob : (j : ℕ) → LeavesJob p (Came (Fetched f answer)) j
  fetched-LeavesJob j = record { live = refl; started = refl; turns = refl }

  fetched-LeavesTicket : (t : ℕ) → LeavesTicket p (Came (Fetched f answer)) t
  fetched-LeavesTicket t = record { live = refl; verified = refl; proposed = refl }

  fetched-LeavesFetch : (g : ℕ) → g ≢ f → LeavesFetch p (Came (Fetched f answer)) g
  fetched-LeavesFetch g ne = record { live = rw (differ g f (λ e. ne (sym e))) refl; asked = refl }

module _ {B C I P R D H G U : Type 0} (w : Workings B C I P R D H G U) (stored : ℕ → Option (Named B)) (p : Past B C I) (points : Digest → Point w) (point : Point w) (next : w.Ids) (old : Tables B C I R U) (s : TablesStand w stored p points point next old) (f : ℕ) (answer : Option (Named B)) where
  abbrev given : Past B C I
  given = Came (Fetched f answer) ∷ p

  queue-fetched : QueueStands w stored given old.queued old.recovered
  queue-fetched = record { each = λ k d l. let e = s.queue.each k d l in record { live = e.live; proposes = e.proposes }; ready = s.queue.ready }

  -- a request that fetches nothing under this number stands behind the answer
  stands-fetched : (t : ℕ) (r : Requested B C I) → ((g : ℕ) → r.phase ≡ Fetching g → g ≢ f) → IsStanding w stored p old.runs t r → IsStanding w stored given old.runs t r
  stands-fetched t r other h =
      IsStanding-calm w stored p (Came (Fetched f answer)) old.runs t r (fetched-LeavesTicket p f answer t) (λ g is. fetched-LeavesFetch p f answer g (other g is)) h

  module _ (t : ℕ) (r : Requested B C I) (fetches : Fetches old f t r) where
    -- the tables stand without the request that fetched
    pub TablesStand-fetched : TablesStand w stored given points point next (taken old t)
    TablesStand-fetched = record {
      at_anchor = s.at_anchor;
      cache = CacheStands-calm w stored p (Came (Fetched f answer)) (fetched-IsCalm (setting w stored) p f answer) points next old.anchor old.pause old.cache s.cache;
      runs = RunsStand-calm w stored p (Came (Fetched f answer)) (fetched-IsCalm (setting w stored) p f answer) points next old.anchor old.cache (fetched-LeavesJob p f answer) old.runs s.runs;
      requests = record {
        ascending = sorted_without old.requests t s.requests.ascending;
        each = All-without (λ (e : ℕ × Requested B C I). IsStanding w stored given old.runs e.0 e.1) old.requests t others;
        fetches = others_fetch;
        wanted = λ j live none. s.requests.wanted j live (sym (tickets_stay j t old.requests r s.requests.ascending fetches.there (ap (λ phase. is_on j phase) fetches.fetching)) ∙ none);
      };
      once = once-left w stored p points point next old t s r fetches.there;
      queue = queue-fetched;
      numbers = record { jobs = s.numbers.jobs; unturned = s.numbers.unturned; fetches = s.numbers.fetches };
    }
      where
        others : All (λ e. e.0 ≢ t → IsStanding w stored given old.runs e.0 e.1) old.requests
        others = λ k d l ne.
            let e = get_or old.requests k d in
            stands-fetched e.0 e.1 (λ g is. other_fetch w stored p points point next old t s r fetches.there f fetches.fetching e.0 g e.1 ne is (s.requests.each k d l)) (s.requests.each k d l)

        others_fetch : (g u : ℕ) → live_fetch g given ≡ true → asked_for g given ≡ Some (Some u) → MatchOption (at (without old.requests t) u) ⊥ (λ q. q.phase ≡ Fetching g)
        others_fetch g u live asked =
            let ne = not_same g f (and_left (not (g == f)) (live_fetch g p) live) in
            fetches-left w stored p t old.runs old.requests s.requests r fetches.there g u (λ is. ne (same_fetch g f r.phase is fetches.fetching)) (and_right (not (g == f)) (live_fetch g p) live) asked

    -- the request that fetched is in hand
    pub IsInHand-fetched : IsInHand w stored given t r.request (taken old t)
    IsInHand-fetched = record {
      absent = at_gone old.requests t;
      not_queued = not_queued w stored p points point next old t s r fetches.there;
      own = (own w stored p points point next old t s r fetches.there).own;
      asked = IsRequestOf-calm w stored p (Came (Fetched f answer)) t r.request (fetched-LeavesTicket p f answer t) (own w stored p points point next old t s r fetches.there).asked;
      brought = λ k x l. inr ((own w stored p points point next old t s r fetches.there).brought k x l);
    }

    pub acquired-fetched : All (Met (setting w stored) given) r.acquired
    acquired-fetched = λ k x l. inr ((own w stored p points point next old t s r fetches.there).met k x l)

    -- what was answered none abstains
    pub abstains-none : answer ≡ None → Abstains (setting w stored) t given (first_of r.request)
    abstains-none is = inl (subst (λ o. WasAnsweredNone t (Came (Fetched f o) ∷ p)) (sym is) (inl (own_fetch w stored p points point next old t s r fetches.there f fetches.fetching)))

  -- the tables stand behind an answer that no request fetches
  pub TablesStand-dead : (IsLiveFetch old f → ⊥) → TablesStand w stored given points point next old
  TablesStand-dead none = record {
    at_anchor = s.at_anchor;
    cache = CacheStands-calm w stored p (Came (Fetched f answer)) (fetched-IsCalm (setting w stored) p f answer) points next old.anchor old.pause old.cache s.cache;
    runs = RunsStand-calm w stored p (Came (Fetched f answer)) (fetched-IsCalm (setting w stored) p f answer) points next old.anchor old.cache (fetched-LeavesJob p f answer) old.runs s.runs;
    requests = record {
      ascending = s.requests.ascending;
      each = λ k d l.
          let e = get_or old.requests k d in
          stands-fetched e.0 e.1 (λ g is same. none (k, e, l, get_or_default old.requests k e d l, is ∙ ap (λ n. Fetching n) same)) (s.requests.each k d l);
      fetches = λ g u live asked. s.requests.fetches g u (and_right (not (g == f)) (live_fetch g p) live) asked;
      wanted = s.requests.wanted;
    };
    once = s.once;
    queue = queue-fetched;
    numbers = record { jobs = s.numbers.jobs; unturned = s.numbers.unturned; fetches = s.numbers.fetches };
  }

module _ {B C I P R D H G U : Type 0} (w : Workings B C I P R D H G U) (stored : ℕ → Option (Named B)) (p : Past B C I) (points : Digest → Point w) (point : Point w) (m : Moment w) (s : TablesStand w stored p points point m.next m.state)
    (f : ℕ) (answer : Option (Named B)) (names : TrueNames (setting w stored) (Came (Fetched f answer) ∷ p))
    (other_states : (n i : w.Ids) (x y : w.States) (c : List (Point w)) → w.kind.issued n ((i, x) ∷ c) → w.kind.issued n ((i, y) ∷ c))
    (located : w.kind.point m.members ≡ Some point) (drawn : w.kind.issued m.next (point ∷ []))
    (held : ℕ → Option (Named B)) (abstains : (t : ℕ) (r : Requested B C I) (b : Named B) → Fetches m.state f t r → answer ≡ Some b → Needs w held (serving w m t) (with_block r b) Waits
    → Abstains (setting w stored) t (Came (Fetched f answer) ∷ p) (first_of r.request)) where
  -- what stands behind the moment where a request is served stands behind the one before it
  behind_serving : (q : Past B C I) (t : ℕ) (now : Moment w) → StandsBehind w stored q points point (serving w m t) now → StandsBehind w stored q points point m now
  behind_serving q t now h = record { more = h.more; marks_are = h.marks_are; members_are = h.members_are; stands = h.stands; waiting = λ a. h.waiting (All-without (λ (e : ℕ × Requested B C I). e.1.phase ≡ Waiting → Abstains (setting w stored) e.0 q (first_of e.1.request)) m.state.requests t (λ k d l ne. a k d l)) }

  -- the tables stand behind the answer of a fetch
  pub StandsBehind-fetched : (now : Moment w) → IsFetched w held m f answer now → StandsBehind w stored (Came (Fetched f answer) ∷ p) points point m now
  StandsBehind-fetched now (found t r b fetches is acquires) = behind_serving _ t now
      (StandsBehind-acquires w stored (Came (Fetched f answer) ∷ p) points point (serving w m t) (TablesStand-fetched w stored p points point m.next m.state s f answer t r fetches) t (with_block r b)
      (IsInHand-fetched w stored p points point m.next m.state s f answer t r fetches) names other_states located drawn
      (All-push (Met (setting w stored) (Came (Fetched f answer) ∷ p)) r.acquired b (acquired-fetched w stored p points point m.next m.state s f answer t r fetches) (inl is))
      held (abstains t r b fetches is) now acquires)
  StandsBehind-fetched now (waits t r fetches is verification becomes) = rw becomes (record {
    more = [];
    marks_are = refl;
    members_are = refl;
    stands = TablesStand-put w stored (Came (Fetched f answer) ∷ p) points point m.next (taken m.state t) t (TablesStand-fetched w stored p points point m.next m.state s f answer t r fetches) r
        (IsInHand-fetched w stored p points point m.next m.state s f answer t r fetches) (acquired-fetched w stored p points point m.next m.state s f answer t r fetches) Waiting
        verification;
    waiting = λ a. All-put (λ (e : ℕ × Requested B C I). e.1.phase ≡ Waiting → Abstains (setting w stored) e.0 (Came (Fetched f answer) ∷ p) (first_of e.1.request)) (without m.state.requests t) t (record r { phase = Waiting })
        (All-without (λ (e : ℕ × Requested B C I). e.1.phase ≡ Waiting → Abstains (setting w stored) e.0 (Came (Fetched f answer) ∷ p) (first_of e.1.request)) m.state.requests t (λ k d l ne. a k d l)) (λ waits. abstains-none w stored p points point m.next m.state s f answer t r fetches is);
  })
  StandsBehind-fetched now (declines t r fetches is proposal concludes) = behind_serving _ t now
      (StandsBehind-concludes w stored (Came (Fetched f answer) ∷ p) points point (serving w m t) (TablesStand-fetched w stored p points point m.next m.state s f answer t r fetches) t r
      (IsInHand-fetched w stored p points point m.next m.state s f answer t r fetches) Invalid now concludes)
  StandsBehind-fetched now (dead none is) = rw is (record {
    more = [];
    marks_are = sym (append-nil m.marks);
    members_are = refl;
    stands = TablesStand-dead w stored p points point m.next m.state s f answer none;
    waiting = λ a. a;
  })
