-- After an opening all that is live is in hand, and goes on: nothing is.
use Rattle.std.proofs.Common.{◌≡◌, ℕ, List, Option, None, ap, ◌∙◌}
use Rattle.std.proofs.lemmas.List.Elements.{All-nil}
use Rattle.stateful_base.specs.Names.{Named}
use Rattle.stateful_base.specs.declared.floor.Floor.{Floor}
use Rattle.stateful_history.specs.Fetches.{Abstains}
use Rattle.stateful_history.specs.Live.{live_ticket}
use Rattle.stateful_history.specs.Past.{Past}
use Rattle.stateful_exec_model.specs.Workings.{Workings}
use Rattle.stateful_exec_tables.specs.declared.tables.LiveRun.{LiveRun}
use Rattle.stateful_exec_tables.specs.declared.tables.Phase.TheVariants.{Open, Waiting}
use Rattle.stateful_exec_tables.specs.declared.tables.Requested.{Requested}
use Rattle.stateful_exec_laws.specs.Outstanding.{GoesOnTurning}
use Rattle.stateful_exec_laws.specs.Requesting.{first_of}
use Rattle.stateful_exec_laws.specs.Setting.{setting}
use Rattle.stateful_loop_model.specs.Moments.{Moment}
use Rattle.stateful_loop_model.specs.Opening.{Opens}
use Rattle.stateful_loop_laws.specs.Down.{IsEmpty}
use Rattle.stateful_loop_laws.specs.InHand.{AllInHand, GoesOnAt}
use Rattle.stateful_loop_laws.proofs.hands.Opened.{in_hand-none}

module _ {B C I P R D H G U : Type 0} (w : Workings B C I P R D H G U) (stored_now : ℕ → Option (Named B)) (floor : Floor) (keep : List ℕ)
    (m now : Moment w) (o : Opens w stored_now floor keep m now) (p : Past B C I) where
  -- where nothing went on before, and nothing is live
  pub hands-opens : IsEmpty w m → ((t : ℕ) → live_ticket t p ≡ None) → AllInHand w p now
  hands-opens empty dead = in_hand-none w p now dead (ap (λ l. l.actions) o.loop ∙ empty.actions) (ap (λ l. l.durability.held) o.loop)
      (ap (λ l. l.front) o.loop ∙ empty.front.0)

  -- no run is live, and no request waits
  pub goes-opens : (stored : ℕ → Option (Named B)) (base : w.States) → GoesOnAt w stored base p now
  goes-opens stored base = record {
    runs = rw o.runs (All-nil (λ (e : ℕ × LiveRun B R). GoesOnTurning w stored base p e.0 e.1));
    settled = λ free. rw o.requests.0 (All-nil (λ (e : ℕ × Requested B C I). e.1.phase ≡ Open → ⊥));
    abstain = λ free. rw o.requests.0
        (All-nil (λ (e : ℕ × Requested B C I). e.1.phase ≡ Waiting → Abstains (setting w stored) e.0 p (first_of e.1.request)));
  }
