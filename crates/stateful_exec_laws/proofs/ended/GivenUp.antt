-- The tables stand after a cancel.
use Rattle.std.proofs.Common.{◌≡◌, ◌≢◌, ◌==◌, ℕ, Bool, true, false, List, [], ◌∷◌, All, Option, Some, IsSome, MatchOption, refl, sym, ap, ◌∙◌, subst}
use Rattle.std.proofs.lemmas.Bool.{eqb-true, eq-eqb}
use Rattle.std.proofs.lemmas.List.Elements.{All-weaker}
use Rattle.stateful_base.specs.Names.{Named}
use Rattle.stateful_history.specs.Past.{Past, Came}
use Rattle.stateful_history.specs.Asked.{asked_for}
use Rattle.stateful_history.specs.Live.{live_fetch}
use Rattle.stateful_history.specs.declared.event.Event.TheVariants.{Cancel}
use Rattle.stateful_table.specs.Table.{at, without}
use Rattle.stateful_exec_tables.specs.Cancelling.{IsIdle}
use Rattle.stateful_exec_tables.specs.Phase.{is_on, tickets_on}
use Rattle.stateful_exec_model.specs.Workings.{Workings}
use Rattle.stateful_exec_tables.specs.declared.tables.LiveRun.{LiveRun}
use Rattle.stateful_exec_tables.specs.declared.tables.Phase.{Phase}
use Rattle.stateful_exec_tables.specs.declared.tables.Phase.TheVariants.{Open, Fetching, Waiting, Executing, Parked}
use Rattle.stateful_exec_tables.specs.declared.tables.Requested.{Requested}
use Rattle.stateful_exec_laws.specs.Requesting.{IsStanding, RequestsStand}
use Rattle.stateful_exec_laws.proofs.requests.Calm.{IsCalm, LeavesJob}
use Rattle.stateful_exec_laws.proofs.requests.Asking.{LeavesTicket, LeavesFetch, IsStanding-calm}
use Rattle.stateful_exec_laws.proofs.runs.Removing.{differ, at_other, All-without, sorted_without, tickets_stay}

module _ {B C I S T : Type 0} where
  -- a cancel leaves all but its ticket as it is
  pub cancel-IsCalm : (w : _) (p : Past B C I) (t : ℕ) → IsCalm {S = S} {T = T} w p (Came (Cancel t))
  cancel-IsCalm w p t = record { tip = refl; starts_none = tt; built = λ d h. h; kept = refl }

module _ {B C I : Type 0} (p : Past B C I) (t : ℕ) where
  pub cancel-LeavesJob : (j : ℕ) → LeavesJob p (Came (Cancel t)) j
  cancel-LeavesJob j = record { live = refl; started = refl; turns = refl }

  pub cancel-LeavesTicket : (u : ℕ) → u ≢ t → LeavesTicket p (Came (Cancel t)) u
  cancel-LeavesTicket u ne = record { live = rw (differ u t (λ e. ne (sym e))) refl; verified = refl; proposed = refl }

  pub cancel-LeavesFetch : (f : ℕ) → LeavesFetch p (Came (Cancel t)) f
  cancel-LeavesFetch f = record { live = refl; asked = refl }

-- an idle request fetches nothing, and waits for no run
pub no_fetch : {B : Type 0} (phase : Phase B) (f : ℕ) → IsIdle phase → phase ≡ Fetching f → ⊥
no_fetch Open f idle is = cc
no_fetch (Fetching g) f idle is = idle
no_fetch Waiting f idle is = cc
no_fetch (Executing j path) f idle is = idle
no_fetch (Parked path) f idle is = cc

pub no_run : {B : Type 0} (phase : Phase B) (j : ℕ) → IsIdle phase → is_on j phase ≡ false
no_run Open j idle = refl
no_run (Fetching g) j idle = absurd idle
no_run Waiting j idle = refl
no_run (Executing k path) j idle = absurd idle
no_run (Parked path) j idle = refl

module _ {B C I P R D H G U : Type 0} (w : Workings B C I P R D H G U) (stored : ℕ → Option (Named B)) (p : Past B C I) (t : ℕ) (runs : List (ℕ × LiveRun B R)) (requests : List (ℕ × Requested B C I)) (h : RequestsStand w stored p runs requests) where
  -- each other request stands after the cancel
  pub others-cancelled : All (λ e. e.0 ≢ t → IsStanding w stored (Came (Cancel t) ∷ p) runs e.0 e.1) requests
  others-cancelled = All-weaker (λ (e : ℕ × Requested B C I). IsStanding w stored p runs e.0 e.1) (λ e. e.0 ≢ t → IsStanding w stored (Came (Cancel t) ∷ p) runs e.0 e.1)
      (λ e s ne. IsStanding-calm w stored p (Came (Cancel t)) runs e.0 e.1 (cancel-LeavesTicket p t e.0 ne) (λ f is. cancel-LeavesFetch p t f) s) requests h.each

  module _ (r : Requested B C I) (there : at requests t ≡ Some r) where
    -- a live fetch that isn't the request's is another one's
    pub fetches-left : (f u : ℕ) → (r.phase ≡ Fetching f → ⊥) → live_fetch f p ≡ true → asked_for f p ≡ Some (Some u) → MatchOption (at (without requests t) u) ⊥ (λ q. q.phase ≡ Fetching f)
    fetches-left f u not_own live asked = go (u == t) refl (h.fetches f u live asked)
      where
        go : (b : Bool) → (u == t) ≡ b → MatchOption (at requests u) ⊥ (λ q. q.phase ≡ Fetching f) → MatchOption (at (without requests t) u) ⊥ (λ q. q.phase ≡ Fetching f)
        go true is has =
            let here : MatchOption (Some r) ⊥ (λ (q : Requested B C I). q.phase ≡ Fetching f) = subst (λ o. MatchOption o ⊥ (λ (q : Requested B C I). q.phase ≡ Fetching f)) (ap (λ k. at requests k) (eqb-true u t is) ∙ there) has in
            absurd (not_own here)
        go false is has = subst (λ o. MatchOption o ⊥ (λ (q : Requested B C I). q.phase ≡ Fetching f)) (sym (at_other requests t u (λ e. let no : true ≡ false = sym (eq-eqb u t e) ∙ is in cc))) has

    -- The requests stand after a cancel of this one, which fetches nothing, where each run that it waited for has another
    -- request.
    pub RequestsStand-left : ((f : ℕ) → r.phase ≡ Fetching f → ⊥) → ((j : ℕ) → is_on j r.phase ≡ true → tickets_on j (without requests t) ≢ [])
        → RequestsStand w stored (Came (Cancel t) ∷ p) runs (without requests t)
    RequestsStand-left fetches_none joined = record {
      ascending = sorted_without requests t h.ascending;
      each = All-without (λ (e : ℕ × Requested B C I). IsStanding w stored (Came (Cancel t) ∷ p) runs e.0 e.1) requests t others-cancelled;
      fetches = λ f u live asked. fetches-left f u (fetches_none f) live asked;
      wanted = λ j live. waits j live (is_on j r.phase) refl;
    }
      where
        waits : (j : ℕ) → IsSome (at runs j) → (b : Bool) → is_on j r.phase ≡ b → tickets_on j (without requests t) ≢ []
        waits j live true on = joined j on
        waits j live false off = λ none. h.wanted j live (sym (tickets_stay j t requests r h.ascending there off) ∙ none)
