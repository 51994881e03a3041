-- The tables stand after a run that is started for a request.
use Rattle.std.proofs.Common.{◌≡◌, ◌≢◌, ◌==◌, ◌+◌, ◌<◌, ℕ, Bool, true, false, List, [], ◌∷◌, All, Option, Some, None, IsSome, MatchOption, get_or, inr, refl, sym, ap, ◌∙◌, subst, arith}
use Rattle.std.proofs.lemmas.Bool.{eqb-true, eqb-false, eq-eqb}
use Rattle.stateful_base.specs.Names.{Named}
use Rattle.stateful_base.specs.declared.digest.Digest.{Digest}
use Rattle.stateful_history.specs.Setting.{parent_of}
use Rattle.stateful_history.specs.Past.{Past, Made}
use Rattle.stateful_history.specs.Met.{Met}
use Rattle.stateful_history.specs.Jobs.{started_for}
use Rattle.stateful_history.specs.declared.mark.JobKind.TheVariants.{Candidate}
use Rattle.stateful_history.specs.declared.mark.Mark.TheVariants.{Started}
use Rattle.stateful_exec_cache.specs.Cache.{IsAtHand}
use Rattle.stateful_table.specs.Table.{at, put}
use Rattle.stateful_exec_walk.specs.Path.{Path}
use Rattle.stateful_exec_tables.specs.Phase.{tickets_on}
use Rattle.stateful_exec_tables.specs.Tables.{moved}
use Rattle.stateful_exec_model.specs.Starting.{StartsRun}
use Rattle.stateful_exec_model.specs.Workings.{Workings, Point}
use Rattle.stateful_exec_tables.specs.declared.state.Tables.{Tables}
use Rattle.stateful_exec_tables.specs.declared.tables.LiveRun.{LiveRun}
use Rattle.stateful_exec_tables.specs.declared.tables.Phase.TheVariants.{Executing}
use Rattle.stateful_exec_tables.specs.declared.tables.Requested.{Requested}
use Rattle.stateful_exec_laws.specs.Setting.{setting}
use Rattle.stateful_exec_laws.specs.Requesting.{IsInPhase, IsStanding, IsWayOf}
use Rattle.stateful_exec_laws.specs.Standing.{TablesStand, IsInHand}
use Rattle.stateful_exec_laws.proofs.requests.Asking.{IsRequestOf-calm, IsWayOf-calm, IsStanding-calm}
use Rattle.stateful_exec_laws.proofs.requests.Putting.{sorted_put, All-put, put_here, put_other, tickets_more, tickets_put}
use Rattle.stateful_exec_laws.proofs.requests.PutStands.{fetches-put, once-put}
use Rattle.stateful_exec_laws.proofs.ended.RunEnded.{IsStanding-runs}
use Rattle.stateful_exec_laws.proofs.runs.StartStands.{no_run, RunsStand-starts, CacheStands-starts}

module _ {B C I P R D H G U : Type 0} (w : Workings B C I P R D H G U) (stored : ℕ → Option (Named B)) (p : Past B C I) (points : Digest → Point w) (point : Point w) (next now : w.Ids) (old running : Tables B C I R U) (s : TablesStand w stored p points point next old)
    (other_states : (n i : w.Ids) (x y : w.States) (c : List (Point w)) → w.kind.issued n ((i, x) ∷ c) → w.kind.issued n ((i, y) ∷ c))
    (members : w.kind.Members) (located : w.kind.point members ≡ Some point) (drawn : w.kind.issued next (point ∷ []))
    (b parent : Named B) (starts : StartsRun w b parent members next now old running) (met : Met (setting w stored) p b) (parent_met : Met (setting w stored) p parent)
    (parent_is : parent.digest ≡ parent_of (setting w stored) b) (at_hand : IsAtHand old.anchor old.cache parent.digest) (other : b.digest ≢ old.anchor.digest) (unrun : All (λ e. e.1.block.digest ≢ b.digest) old.runs)
    (t : ℕ) (r : Requested B C I) (hand : IsInHand w stored p t r.request old) (acquired : All (Met (setting w stored) p) r.acquired) (blocks : List (Named B)) (way : IsWayOf w stored p r.request (record { blocks = blocks; parent = b })) where
  abbrev given : Past B C I
  given = Made (Started old.next_job Candidate b.digest) ∷ p

  abbrev live : LiveRun B R
  live = record { block = b; run = starts.run }

  abbrev path : Path B
  path = record { blocks = blocks; parent = b }

  abbrev executing : Requested B C I
  executing = record r { phase = Executing old.next_job path }

  nothing : at old.runs old.next_job ≡ None
  nothing = no_run w stored p points point next now old running s other_states members located drawn b parent starts met parent_met parent_is at_hand other unrun

  -- the run of another request is another one
  stays : (u : ℕ) (q : Requested B C I) → IsStanding w stored p old.runs u q → (j : ℕ) (way : Path B) → q.phase ≡ Executing j way → at (put old.runs old.next_job live) j ≡ at old.runs j
  stays u q stands j its is = put_other old.runs old.next_job j live ne
    where
      ne : j ≢ old.next_job
      ne same =
          let h = subst (λ phase. IsInPhase w stored p old.runs u q.request phase) is stands.phase in
          subst (λ o. MatchOption o ⊥ (λ (run : LiveRun B R). run.block ≡ its.parent)) (ap (λ k. at old.runs k) same ∙ nothing) h.0

  others : All (λ e. IsStanding w stored given (put old.runs old.next_job live) e.0 e.1) old.requests
  others = λ k x l.
      let e = get_or old.requests k x in
      let stands = s.requests.each k x l in
      IsStanding-calm w stored p (Made (Started old.next_job Candidate b.digest)) (put old.runs old.next_job live) e.0 e.1 (record { live = refl; verified = refl; proposed = refl }) (λ g is. record { live = refl; asked = refl })
      (IsStanding-runs w stored p old.runs (put old.runs old.next_job live) e.0 e.1 (stays e.0 e.1 stands) stands)

  own : IsStanding w stored given (put old.runs old.next_job live) t executing
  own = record {
    own = hand.own;
    asked = IsRequestOf-calm w stored p (Made (Started old.next_job Candidate b.digest)) t r.request (record { live = refl; verified = refl; proposed = refl }) hand.asked;
    brought = λ k x l. inr (hand.brought k x l);
    met = λ k x l. inr (acquired k x l);
    phase = (rw (put_here old.runs old.next_job live) refl, IsWayOf-calm w stored p (Made (Started old.next_job Candidate b.digest)) r.request path way);
  }

  wanted : (j : ℕ) → IsSome (at (put old.runs old.next_job live) j) → tickets_on j (put old.requests t executing) ≢ []
  wanted j some = go (j == old.next_job) refl
    where
      go : (v : Bool) → (j == old.next_job) ≡ v → tickets_on j (put old.requests t executing) ≢ []
      go true same = tickets_put j t old.requests executing (eq-eqb old.next_job j (sym (eqb-true j old.next_job same)))
      go false other = tickets_more j t old.requests executing hand.absent (s.requests.wanted j (subst (λ o. IsSome o) (put_other old.runs old.next_job j live (eqb-false j old.next_job other)) some))

  started_below : (j : ℕ) → started_for j given ≢ None → j < old.next_job + 1
  started_below j some = go (j == old.next_job) refl
    where
      go : (v : Bool) → (j == old.next_job) ≡ v → j < old.next_job + 1
      go true same = let e = eqb-true j old.next_job same in omega (arith, e)
      go false other = let l = s.numbers.jobs j (λ none. some (rw other none)) in omega (arith, l)

  -- the request waits for the run that is started for it
  pub TablesStand-launches : TablesStand w stored given points point now (moved running t r (Executing old.next_job path))
  TablesStand-launches = rw starts.state (record {
    at_anchor = s.at_anchor;
    cache = CacheStands-starts w stored p points point next now old running s other_states members located drawn b parent starts met parent_met parent_is at_hand other unrun;
    runs = RunsStand-starts w stored p points point next now old running s other_states members located drawn b parent starts met parent_met parent_is at_hand other unrun;
    requests = record {
      ascending = sorted_put old.requests t executing s.requests.ascending;
      each = All-put (λ (e : ℕ × Requested B C I). IsStanding w stored given (put old.runs old.next_job live) e.0 e.1) old.requests t executing others own;
      fetches = λ f u live asked. fetches-put w stored p points point next old t s r hand acquired (Executing old.next_job path) f u live asked;
      wanted = wanted;
    };
    once = once-put w stored p points point next old t s r hand acquired (Executing old.next_job path);
    queue = record { each = λ k x l. let e = s.queue.each k x l in record { live = e.live; proposes = e.proposes }; ready = s.queue.ready };
    numbers = record { jobs = started_below; unturned = λ j l. s.numbers.unturned j (omega (arith, l)); fetches = s.numbers.fetches };
  })
