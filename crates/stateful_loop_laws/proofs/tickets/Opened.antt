-- Where nothing waits, all that waits stands, as after an opening.
use Rattle.std.proofs.Common.{◌≡◌, ℕ, List, [], Option, Some, None, IfSome, sym, ap, ◌∙◌, subst}
use Rattle.std.proofs.lemmas.List.Elements.{All-nil}
use Rattle.stateful_base.specs.Names.{Named}
use Rattle.stateful_base.specs.declared.floor.Floor.{Floor}
use Rattle.stateful_history.specs.Finalizations.{finalized_since}
use Rattle.stateful_history.specs.Past.{Past}
use Rattle.stateful_history.specs.Requests.{IsLiveReceipt}
use Rattle.stateful_exec_model.specs.Workings.{Workings}
use Rattle.stateful_loop_model.specs.Moments.{Moment}
use Rattle.stateful_loop_model.specs.Opening.{Opens}
use Rattle.stateful_loop_model.specs.declared.tables.Finalizing.{Finalizing}
use Rattle.stateful_loop_laws.specs.Tickets.{IsReceiptAt, MessageStands, ActionStands, TicketsStand}
use Rattle.stateful_loop_laws.proofs.tickets.Queueing.{none_apart}

module _ {B C I P R D H G U : Type 0} (w : Workings B C I P R D H G U) (stored : ℕ → Option (Named B)) (p : Past B C I) where
  -- where nothing waits
  pub TicketsStand-none : (m : Moment w) → m.loop.queue ≡ [] → m.loop.actions ≡ [] → m.loop.front ≡ None → m.loop.durability.held ≡ []
      → m.execution.state.recovered ≡ [] → TicketsStand w stored p m
  TicketsStand-none m queue actions front held bare = record {
    queue = rw queue (All-nil (MessageStands w stored p m.execution.state m.execution.build));
    actions = rw actions (All-nil (ActionStands w stored p m.execution.state m.execution.build));
    front = subst (λ (o : Option (Finalizing B G)). IfSome o (λ f. IsLiveReceipt f.ticket p × (finalized_since f.ticket p ≡ Some f.block)))
        (sym front) tt;
    held = rw held (All-nil (λ (r : ℕ × ℕ). IsReceiptAt w.header p r.1 r.0));
    apart = rw (queue, actions, front, held) none_apart;
    once = rw bare none_apart;
  }

  -- after an opening, where nothing waited before it
  pub opens-tickets : (kept : ℕ → Option (Named B)) (floor : Floor) (keep : List ℕ) (m now : Moment w) → m.loop.queue ≡ [] → m.loop.actions ≡ []
      → m.loop.front ≡ None
      → (o : Opens w kept floor keep m now) → TicketsStand w stored p now
  opens-tickets kept floor keep m now queue actions front o =
      TicketsStand-none now (ap (λ l. l.queue) o.loop ∙ queue) (ap (λ l. l.actions) o.loop ∙ actions) (ap (λ l. l.front) o.loop ∙ front)
      (ap (λ l. l.durability.held) o.loop) o.requests.2
