-- The requests after the end of a run: those that waited for it are in hand, and the others stand.
use Rattle.std.proofs.Common.{◌≡◌, ◌≢◌, not, inr, ℕ, true, false, List, ◌∷◌, All, Option, Some, None, IsSome, MatchOption, get_or, refl, sym, ◌∙◌, subst}
use Rattle.std.proofs.lemmas.Bool.{eq-eqb}
use Rattle.std.proofs.lemmas.List.Elements.{All-filter, filter_passes}
use Rattle.std.proofs.lemmas.Map.Entries.{option_filter}
use Rattle.stateful_base.specs.Names.{Named}
use Rattle.stateful_history.specs.Past.{Past, Came, Made}
use Rattle.stateful_history.specs.Met.{Met}
use Rattle.stateful_history.specs.declared.event.Event.TheVariants.{Turn}
use Rattle.stateful_history.specs.declared.mark.How.{How}
use Rattle.stateful_history.specs.declared.mark.Mark.TheVariants.{Ended}
use Rattle.stateful_table.specs.Table.{at, without}
use Rattle.stateful_table.proofs.Tables.{none_some}
use Rattle.stateful_exec_walk.specs.Path.{Path}
use Rattle.stateful_exec_tables.specs.Phase.{is_on, released_on, not_on}
use Rattle.stateful_exec_walk.specs.Request.{ticket_by}
use Rattle.stateful_exec_model.specs.Workings.{Workings}
use Rattle.stateful_exec_walk.specs.declared.request.Proposal.{Proposal}
use Rattle.stateful_exec_tables.specs.declared.tables.LiveRun.{LiveRun}
use Rattle.stateful_exec_tables.specs.declared.tables.Phase.{Phase}
use Rattle.stateful_exec_tables.specs.declared.tables.Phase.TheVariants.{Fetching, Executing}
use Rattle.stateful_exec_tables.specs.declared.tables.Released.{Released}
use Rattle.stateful_exec_tables.specs.declared.tables.Requested.{Requested}
use Rattle.stateful_exec_laws.specs.Setting.{setting}
use Rattle.stateful_exec_laws.specs.Requesting.{brought_by, IsRequestOf, IsWayOf, IsInPhase, IsStanding, RequestsStand, QueueStands}
use Rattle.stateful_exec_laws.proofs.requests.Asking.{IsStanding-calm}
use Rattle.stateful_exec_laws.proofs.runs.Removing.{at_other, at_gone}
use Rattle.stateful_exec_laws.proofs.ended.RunEnded.{IsStanding-runs}
use Rattle.stateful_exec_laws.proofs.ended.Left.{sorted_filter, each_at, All-released, at_not_on, tickets_not_on}

module _ {B C I P R D H G U : Type 0} (w : Workings B C I P R D H G U) (stored : ℕ → Option (Named B)) (p : Past B C I) (requests : List (ℕ × Requested B C I)) (queued : List (ℕ × Proposal B C I)) (b : Named B) where
  -- A request that waited for the run of this block is in hand: it is of its ticket and live, its way leads down to the block,
  -- which is one of the history, and it is in no table.
  pub record IsTakenOut (r : Released B C I) : Type 0 where
    pub own : ticket_by r.request ≡ r.ticket
    pub asked : IsRequestOf w stored p r.ticket r.request
    pub brought : All (Met (setting w stored) p) (brought_by r.request)
    pub way : IsWayOf w stored p r.request r.path
    pub leads : r.path.parent ≡ b
    pub met : Met (setting w stored) p b
    pub gone : at requests r.ticket ≡ None
    pub unqueued : at queued r.ticket ≡ None

off_its_run : {B : Type 0} (j k : ℕ) (phase : Phase B) (path : Path B) → not (is_on j phase) ≡ true → phase ≡ Executing k path → k ≢ j
off_its_run j k phase path off is same = let on : is_on j phase ≡ true = rw is (eq-eqb k j same) in let no : not true ≡ true = subst (λ b. not b ≡ true) on off in cc

module _ {B C I P R D H G U : Type 0} (w : Workings B C I P R D H G U) (stored : ℕ → Option (Named B)) (p : Past B C I) (runs : List (ℕ × LiveRun B R)) (requests : List (ℕ × Requested B C I)) (h : RequestsStand w stored p runs requests) (j : ℕ) (how : How) where
  abbrev turned : Past B C I
  turned = Came (Turn j) ∷ p

  abbrev ended : Past B C I
  ended = Made (Ended j how) ∷ turned

  standing : (t : ℕ) (r : Requested B C I) → IsStanding w stored p runs t r → IsStanding w stored ended runs t r
  standing t r s =
      IsStanding-calm w stored turned (Made (Ended j how)) runs t r (record { live = refl; verified = refl; proposed = refl }) (λ f is. record { live = refl; asked = refl })
      (IsStanding-calm w stored p (Came (Turn j)) runs t r (record { live = refl; verified = refl; proposed = refl }) (λ f is. record { live = refl; asked = refl }) s)

  fetches_on : (f : ℕ) (o : Option (Requested B C I)) → MatchOption o ⊥ (λ r. r.phase ≡ Fetching f) → MatchOption (option_filter (λ (r : Requested B C I). not (is_on j r.phase)) o) ⊥ (λ r. r.phase ≡ Fetching f)
  fetches_on f None h = h
  fetches_on f (Some r) h = let stays : not (is_on j r.phase) ≡ true = rw h refl in rw stays h

  -- the others stand after the end of the run
  pub RequestsStand-turned : RequestsStand w stored ended (without runs j) (not_on j requests)
  RequestsStand-turned = record {
    ascending = sorted_filter (λ (e : ℕ × Requested B C I). not (is_on j e.1.phase)) requests h.ascending;
    each = λ k d l.
        let e = get_or (not_on j requests) k d in
        IsStanding-runs w stored ended runs (without runs j) e.0 e.1
        (λ i way is. at_other runs j i (off_its_run j i e.1.phase way (filter_passes (λ (x : ℕ × Requested B C I). not (is_on j x.1.phase)) requests k d l) is))
        (standing e.0 e.1 (All-filter (λ (x : ℕ × Requested B C I). not (is_on j x.1.phase)) (λ x. IsStanding w stored p runs x.0 x.1) requests h.each k d l));
    fetches = λ f t live asked. rw (at_not_on j requests t h.ascending) (fetches_on f (at requests t) (h.fetches f t live asked));
    wanted = λ i live none.
        let ne : i ≢ j = (λ same. none_some (at (without runs j) j) (at_gone runs j) (subst (λ n. IsSome (at (without runs j) n)) same live)) in
        h.wanted i (subst (λ o. IsSome o) (at_other runs j i ne) live) (sym (tickets_not_on j i ne requests) ∙ none);
  }

  some_before : (o : Option (Requested B C I)) → IsSome (option_filter (λ (r : Requested B C I). not (is_on j r.phase)) o) → IsSome o
  some_before None some = some
  some_before (Some r) some = refl

  -- a request that is left was there before
  pub left_before : (t : ℕ) → IsSome (at (not_on j requests) t) → IsSome (at requests t)
  left_before t some = some_before (at requests t) (subst (λ o. IsSome o) (at_not_on j requests t h.ascending) some)

  module _ (queued : List (ℕ × Proposal B C I)) (once : (t : ℕ) → IsSome (at requests t) → at queued t ≡ None) (live : LiveRun B R) (live_is : at runs j ≡ Some live) (met : Met (setting w stored) p live.block) where
    -- those that waited for it are in hand
    pub released-IsTakenOut : All (IsTakenOut w stored ended (not_on j requests) queued live.block) (released_on j requests)
    released-IsTakenOut = All-released j (IsTakenOut w stored ended (not_on j requests) queued live.block) requests (λ k d l path is.
        let e = get_or requests k d in
        let s = standing e.0 e.1 (h.each k d l) in
        let there = each_at requests h.ascending k d l in
        let phase : IsInPhase w stored ended runs e.0 e.1.request (Executing j path) = subst (λ phase. IsInPhase w stored ended runs e.0 e.1.request phase) is s.phase in
        let block : live.block ≡ path.parent = subst (λ o. MatchOption o ⊥ (λ (run : LiveRun B R). run.block ≡ path.parent)) live_is phase.0 in
        let leaves : not (is_on j e.1.phase) ≡ false = rw (is, eq-eqb j j refl) refl in
        record {
          own = s.own;
          asked = s.asked;
          brought = s.brought;
          way = phase.1;
          leads = sym block;
          met = inr (inr met);
          gone = rw (at_not_on j requests e.0 h.ascending, there, leaves) refl;
          unqueued = once e.0 (rw there refl);
        })

  -- the queue stands after the end of the run
  pub QueueStands-turned : (queued : List (ℕ × Proposal B C I)) (recovered : List ℕ) → QueueStands w stored p queued recovered → QueueStands w stored ended queued recovered
  QueueStands-turned queued recovered s = record { each = λ k d l. let e = s.each k d l in record { live = e.live; proposes = e.proposes }; ready = s.ready }
