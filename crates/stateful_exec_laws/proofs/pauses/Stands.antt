-- The tables stand after a pause.
use Rattle.std.proofs.Common.{◌≡◌, ◌≢◌, ◌==◌, not, ℕ, zero, suc, Bool, true, false, List, [], ◌∷◌, map, Any, Contains, Option, Some, None, IsSome, MatchOption, option_map, refl, sym, ◌∙◌, subst, arith}
use Rattle.std.specs.Ordering.{nat_cmp}
use Rattle.std.specs.List.Sorted.{IsStrictlySortedBy}
use Rattle.std.proofs.lemmas.List.Elements.{All-map, All-weaker}
use Rattle.stateful_base.specs.Names.{Named}
use Rattle.stateful_base.specs.declared.anchor.Anchor.{Anchor}
use Rattle.stateful_base.specs.declared.digest.Digest.{Digest}
use Rattle.stateful_history.specs.Past.{Past, Made, after}
use Rattle.stateful_history.specs.Asked.{asked_for}
use Rattle.stateful_history.specs.Live.{live_fetch}
use Rattle.stateful_history.specs.declared.mark.Mark.{Mark}
use Rattle.stateful_history.specs.declared.mark.Mark.TheVariants.{Withdrawn}
use Rattle.stateful_exec_cache.specs.declared.cache.Cached.{Cached}
use Rattle.stateful_table.specs.Table.{at}
use Rattle.stateful_table.proofs.Tables.{is_at_number}
use Rattle.stateful_exec_pause.specs.Boundary.{Boundary}
use Rattle.stateful_exec_tables.specs.Pausing.{Pauses}
use Rattle.stateful_exec_pause.specs.Pausing.{pause_for}
use Rattle.stateful_exec_tables.specs.Phase.{unfetched, dropped}
use Rattle.stateful_exec_model.specs.Workings.{Workings, Point}
use Rattle.stateful_exec_pause.specs.declared.pause.Pause.{Pause}
use Rattle.stateful_exec_pause.specs.declared.pause.Pause.TheVariants.{Free}
use Rattle.stateful_exec_walk.specs.declared.request.Proposal.{Proposal}
use Rattle.stateful_exec_tables.specs.declared.state.Tables.{Tables}
use Rattle.stateful_exec_tables.specs.declared.tables.LiveRun.{LiveRun}
use Rattle.stateful_exec_tables.specs.declared.tables.Phase.{Phase}
use Rattle.stateful_exec_tables.specs.declared.tables.Phase.TheVariants.{Open, Fetching, Waiting, Executing, Parked}
use Rattle.stateful_exec_tables.specs.declared.tables.Requested.{Requested}
use Rattle.stateful_exec_laws.specs.Setting.{setting}
use Rattle.stateful_exec_laws.specs.Caching.{CacheStands}
use Rattle.stateful_exec_laws.specs.Requesting.{IsInPhase, IsStanding, RequestsStand, QueueStands}
use Rattle.stateful_exec_laws.specs.Running.{RunsStand}
use Rattle.stateful_exec_laws.specs.Standing.{NumbersStand, TablesStand}
use Rattle.stateful_exec_laws.proofs.requests.Calm.{CacheStands-calm, RunsStand-calm}
use Rattle.stateful_exec_laws.proofs.requests.Asking.{IsStanding-calm}
use Rattle.stateful_exec_laws.proofs.requests.Cancelled.{withdrawn-IsCalm, and_left, and_right, not_same}
use Rattle.stateful_exec_laws.proofs.pauses.Tables.{unfetched_none, undone, keys_dropped, at_dropped, tickets_dropped}

-- the marks that withdraw these fetches
abbrev gone : {B : Type 0} → List ℕ → List (Mark B)
gone fetches = map (λ f. Withdrawn f) fetches

module _ {B C I : Type 0} where
  -- a fetch that is live after the marks was live, and isn't one of theirs
  live_before : (f : ℕ) (p : Past B C I) (fs : List ℕ) → live_fetch f (after p (gone fs)) ≡ true → (live_fetch f p ≡ true) × (Contains fs f → ⊥)
  live_before f p [] live = (live, λ c. absurd (omega (arith, c.1)))
  live_before f p (g ∷ fs) live =
      let rest = live_before f (Made (Withdrawn g) ∷ p) fs live in
      let ne : f ≢ g = not_same f g (and_left (not (f == g)) (live_fetch f p) rest.0) in
      (and_right (not (f == g)) (live_fetch f p) rest.0, λ c. other g fs ne rest.1 c)
    where
      other : (g : ℕ) (fs : List ℕ) → f ≢ g → (Contains fs f → ⊥) → Contains (g ∷ fs) f → ⊥
      other g fs ne out (zero, l, e) = ne (sym e)
      other g fs ne out (suc i, l, e) = out (i, omega (arith, l), e)

  asked_before : (f : ℕ) (p : Past B C I) (fs : List ℕ) → asked_for f (after p (gone fs)) ≡ asked_for f p
  asked_before f p [] = refl
  asked_before f p (g ∷ fs) = asked_before f (Made (Withdrawn g) ∷ p) fs

  numbers-gone : (job fetch : ℕ) (p : Past B C I) (fs : List ℕ) → NumbersStand p job fetch → NumbersStand (after p (gone fs)) job fetch
  numbers-gone job fetch p [] h = h
  numbers-gone job fetch p (g ∷ fs) h = numbers-gone job fetch (Made (Withdrawn g) ∷ p) fs (record { jobs = h.jobs; unturned = h.unturned; fetches = h.fetches })

-- what is at a number is one of the entries
any-at : {V : Type 0} (Q : V → Type 0) (es : List (ℕ × V)) (t : ℕ) → MatchOption (at es t) ⊥ Q → Any (λ e. Q e.1) es
any-at Q [] t h = absurd h
any-at {V = V} Q (e ∷ es) t h = go (e.0 == t) refl (any-at Q es t)
  where
    go : (b : Bool) → (e.0 == t) ≡ b → (MatchOption (at es t) ⊥ Q → Any (λ (x : ℕ × V). Q x.1) es) → Any (λ (x : ℕ × V). Q x.1) (e ∷ es)
    go true is rest = let here : Q e.1 = rw (is_at_number t e.0 ∙ is) at h in (zero, e, omega arith, refl, here)
    go false is rest = let any = rest (rw (is_at_number t e.0 ∙ is) at h) in (suc any.0, any.1, omega (arith, any.2), any.3, any.4)

module _ {B C I P R D H G U : Type 0} (w : Workings B C I P R D H G U) (stored : ℕ → Option (Named B)) where
  queue-gone : (queued : List (ℕ × Proposal B C I)) (recovered : List ℕ) (p : Past B C I) (fs : List ℕ) → QueueStands w stored p queued recovered → QueueStands w stored (after p (gone fs)) queued recovered
  queue-gone queued recovered p [] h = h
  queue-gone queued recovered p (g ∷ fs) h = queue-gone queued recovered (Made (Withdrawn g) ∷ p) fs (record { each = λ k d l. let e = h.each k d l in record { live = e.live; proposes = e.proposes }; ready = h.ready })

  module _ (points : Digest → Point w) (next : w.Ids) (anchor : Anchor) (cache : List (Cached U)) where
    cache-gone : (pause : Pause) (p : Past B C I) (fs : List ℕ) → CacheStands w stored p points next anchor pause cache → CacheStands w stored (after p (gone fs)) points next anchor pause cache
    cache-gone pause p [] h = h
    cache-gone pause p (g ∷ fs) h = cache-gone pause (Made (Withdrawn g) ∷ p) fs (CacheStands-calm w stored p (Made (Withdrawn g)) (withdrawn-IsCalm (setting w stored) p g) points next anchor pause cache h)

    runs-gone : (runs : List (ℕ × LiveRun B R)) (p : Past B C I) (fs : List ℕ) → RunsStand w stored p points next anchor cache runs → RunsStand w stored (after p (gone fs)) points next anchor cache runs
    runs-gone runs p [] h = h
    runs-gone runs p (g ∷ fs) h =
        runs-gone runs (Made (Withdrawn g) ∷ p) fs (RunsStand-calm w stored p (Made (Withdrawn g)) (withdrawn-IsCalm (setting w stored) p g) points next anchor cache (λ j. record { live = refl; started = refl; turns = refl }) runs h)

  module _ (runs : List (ℕ × LiveRun B R)) where
    -- a request that fetches nothing stands after the marks
    standing-gone : (t : ℕ) (r : Requested B C I) → ((f : ℕ) → r.phase ≡ Fetching f → ⊥) → (p : Past B C I) (fs : List ℕ) → IsStanding w stored p runs t r → IsStanding w stored (after p (gone fs)) runs t r
    standing-gone t r not p [] h = h
    standing-gone t r not p (g ∷ fs) h =
        standing-gone t r not (Made (Withdrawn g) ∷ p) fs
        (IsStanding-calm w stored p (Made (Withdrawn g)) runs t r (record { live = refl; verified = refl; proposed = refl }) (λ f is. absurd (not f is)) h)

    -- a request stands without its fetch
    standing-undone : (p : Past B C I) (t : ℕ) (r : Requested B C I) → IsStanding w stored p runs t r → IsStanding w stored p runs t (undone r)
    standing-undone p t r h = record { own = h.own; asked = h.asked; brought = h.brought; met = h.met; phase = phase r.phase h.phase }
      where
        phase : (q : Phase B) → IsInPhase w stored p runs t r.request q → IsInPhase w stored p runs t r.request (unfetched q)
        phase Open h = tt
        phase (Fetching f) h = tt
        phase Waiting h = h
        phase (Executing j path) h = h
        phase (Parked path) h = h

    -- the requests stand after the marks of all live fetches
    RequestsStand-gone : (p : Past B C I) (fs : List ℕ) (requests : List (ℕ × Requested B C I)) → ((f : ℕ) → Any (λ (e : ℕ × Requested B C I). e.1.phase ≡ Fetching f) requests → Contains fs f)
        → RequestsStand w stored p runs requests → RequestsStand w stored (after p (gone fs)) runs (map dropped requests)
    RequestsStand-gone p fs requests among h = record {
      ascending = subst (λ ks. IsStrictlySortedBy nat_cmp ks) (sym (keys_dropped requests)) h.ascending;
      each = All-map (λ (e : ℕ × Requested B C I). IsStanding w stored (after p (gone fs)) runs e.0 e.1) dropped requests
          (All-weaker (λ (e : ℕ × Requested B C I). IsStanding w stored p runs e.0 e.1) (λ e. IsStanding w stored (after p (gone fs)) runs e.0 (undone e.1))
          (λ e s. standing-gone e.0 (undone e.1) (λ f is. unfetched_none e.1.phase f is) p fs (standing-undone p e.0 e.1 s)) requests h.each);
      fetches = λ f t live asked.
          let before = live_before f p fs live in
          absurd (before.1 (among f (any-at (λ (r : Requested B C I). r.phase ≡ Fetching f) requests t (h.fetches f t before.0 (sym (asked_before f p fs) ∙ asked)))));
      wanted = λ j live none. h.wanted j live (sym (tickets_dropped j requests) ∙ none);
    }

  -- The tables stand after a pause, where they stand before its marks with that pause.
  pub TablesStand-paused : (boundary : Option Boundary) (p : Past B C I) (points : Digest → Point w) (point : Point w) (next : w.Ids) (old new : Tables B C I R U) (marks : List (Mark B))
      → TablesStand w stored p points point next (record old { pause = pause_for boundary }) → Pauses boundary old new marks → TablesStand w stored (after p marks) points point next new
  TablesStand-paused boundary p points point next old new marks s pauses = rw (pauses.state, pauses.marks_are) (record {
    at_anchor = s.at_anchor;
    cache = cache-gone points next old.anchor old.cache (pause_for boundary) p pauses.fetches s.cache;
    runs = runs-gone points next old.anchor old.cache old.runs p pauses.fetches s.runs;
    requests = RequestsStand-gone old.runs p pauses.fetches old.requests (λ f any. (pauses.are.each f).1 any) s.requests;
    once = λ t some. s.once t (still (at old.requests t) (subst (λ o. IsSome o) (at_dropped old.requests t) some));
    queue = queue-gone old.queued old.recovered p pauses.fetches s.queue;
    numbers = numbers-gone old.next_job old.next_fetch p pauses.fetches s.numbers;
  })
    where
      still : (o : Option (Requested B C I)) → IsSome (option_map undone o) → IsSome o
      still None some = some
      still (Some r) some = some

  -- the tables stand after a pause for a prune
  pub TablesStand-pruning : (p : Past B C I) (points : Digest → Point w) (point : Point w) (next : w.Ids) (old new : Tables B C I R U) (marks : List (Mark B)) → old.pause ≡ Free
      → TablesStand w stored p points point next old → Pauses None old new marks → TablesStand w stored (after p marks) points point next new
  TablesStand-pruning p points point next old new marks free s pauses = TablesStand-paused None p points point next old new marks (record {
    at_anchor = s.at_anchor;
    cache = let c = subst (λ pause. CacheStands w stored p points next old.anchor pause old.cache) free s.cache in record { each = c.each; in_order = c.in_order; knows = c.knows };
    runs = s.runs;
    requests = s.requests;
    once = s.once;
    queue = s.queue;
    numbers = s.numbers;
  }) pauses
