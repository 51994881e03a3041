-- The tables stand with a request more that was in hand.
use Rattle.std.proofs.Common.{◌≡◌, ◌==◌, ℕ, Bool, true, false, All, Option, Some, None, IsSome, MatchOption, refl, sym, ap, ◌∙◌, subst}
use Rattle.std.proofs.lemmas.Bool.{eqb-true, eqb-false}
use Rattle.stateful_base.specs.Names.{Named}
use Rattle.stateful_base.specs.declared.digest.Digest.{Digest}
use Rattle.stateful_history.specs.Past.{Past}
use Rattle.stateful_history.specs.Met.{Met}
use Rattle.stateful_history.specs.Asked.{asked_for}
use Rattle.stateful_history.specs.Live.{live_fetch}
use Rattle.stateful_table.specs.Table.{at, put}
use Rattle.stateful_exec_tables.specs.Tables.{moved}
use Rattle.stateful_exec_model.specs.Workings.{Workings, Point}
use Rattle.stateful_exec_tables.specs.declared.state.Tables.{Tables}
use Rattle.stateful_exec_tables.specs.declared.tables.Phase.{Phase}
use Rattle.stateful_exec_tables.specs.declared.tables.Phase.TheVariants.{Fetching}
use Rattle.stateful_exec_tables.specs.declared.tables.Requested.{Requested}
use Rattle.stateful_exec_laws.specs.Setting.{setting}
use Rattle.stateful_exec_laws.specs.Requesting.{IsInPhase, IsStanding}
use Rattle.stateful_exec_laws.specs.Standing.{TablesStand, IsInHand}
use Rattle.stateful_exec_laws.proofs.requests.Putting.{sorted_put, All-put, put_other, tickets_more}

module _ {B C I P R D H G U : Type 0} (w : Workings B C I P R D H G U) (stored : ℕ → Option (Named B)) (p : Past B C I) (points : Digest → Point w) (point : Point w) (next : w.Ids) (old : Tables B C I R U) (t : ℕ) (s : TablesStand w stored p points point next old)
    (r : Requested B C I) (hand : IsInHand w stored p t r.request old) (met : All (Met (setting w stored) p) r.acquired) (phase : Phase B) where
  abbrev now : Requested B C I
  now = record r { phase = phase }

  -- a live fetch of another ticket is that one's still
  pub fetches-put : (f u : ℕ) → live_fetch f p ≡ true → asked_for f p ≡ Some (Some u) → MatchOption (at (put old.requests t now) u) ⊥ (λ q. q.phase ≡ Fetching f)
  fetches-put f u live asked = go (u == t) refl (s.requests.fetches f u live asked)
    where
      go : (b : Bool) → (u == t) ≡ b → MatchOption (at old.requests u) ⊥ (λ q. q.phase ≡ Fetching f) → MatchOption (at (put old.requests t now) u) ⊥ (λ q. q.phase ≡ Fetching f)
      go true is has = absurd (subst (λ o. MatchOption o ⊥ (λ (q : Requested B C I). q.phase ≡ Fetching f)) (ap (λ k. at old.requests k) (eqb-true u t is) ∙ hand.absent) has)
      go false is has = subst (λ o. MatchOption o ⊥ (λ (q : Requested B C I). q.phase ≡ Fetching f)) (sym (put_other old.requests t u now (eqb-false u t is))) has

  pub once-put : (u : ℕ) → IsSome (at (put old.requests t now) u) → at old.queued u ≡ None
  once-put u some = go (u == t) refl
    where
      go : (b : Bool) → (u == t) ≡ b → at old.queued u ≡ None
      go true is = subst (λ k. at old.queued k ≡ None) (sym (eqb-true u t is)) hand.not_queued
      go false is = s.once u (subst (λ o. IsSome o) (put_other old.requests t u now (eqb-false u t is)) some)

  -- a request in hand that has come so far is put into its table
  pub TablesStand-put : IsInPhase w stored p old.runs t r.request phase → TablesStand w stored p points point next (moved old t r phase)
  TablesStand-put in_phase = record {
    at_anchor = s.at_anchor;
    cache = s.cache;
    runs = s.runs;
    requests = record {
      ascending = sorted_put old.requests t now s.requests.ascending;
      each = All-put (λ (e : ℕ × Requested B C I). IsStanding w stored p old.runs e.0 e.1) old.requests t now s.requests.each (record { own = hand.own; asked = hand.asked; brought = hand.brought; met = met; phase = in_phase });
      fetches = fetches-put;
      wanted = λ j live. tickets_more j t old.requests now hand.absent (s.requests.wanted j live);
    };
    once = once-put;
    queue = s.queue;
    numbers = s.numbers;
  }
