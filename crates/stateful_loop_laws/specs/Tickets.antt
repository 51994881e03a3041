-- What waits in the loop, ticket by ticket: messages, actions, the finalization in front and the
-- receipts.
use Rattle.std.specs.Prelude.{◌≡◌, ◌≢◌, ℕ, Option, Some, None, IfSome, IsSome, List, [], ◌∷◌, ◌++◌}
use Rattle.std.specs.Prelude.{map, All, AllPairs}
use Rattle.stateful_base.specs.Names.{Header, Named}
use Rattle.stateful_history.specs.Finalizations.{finalized_since}
use Rattle.stateful_history.specs.Met.{Met}
use Rattle.stateful_history.specs.Past.{Past, after}
use Rattle.stateful_history.specs.Requests.{IsLiveReceipt, IsLiveSubscription}
use Rattle.stateful_history.specs.declared.mark.Mark.{Mark}
use Rattle.stateful_table.specs.Table.{at}
use Rattle.stateful_exec_walk.specs.Request.{ticket_by}
use Rattle.stateful_exec_model.specs.Workings.{Workings}
use Rattle.stateful_exec_model.specs.declared.building.Building.{Building}
use Rattle.stateful_exec_tables.specs.declared.state.Tables.{Tables}
use Rattle.stateful_exec_laws.specs.Building.{IsElsewhere}
use Rattle.stateful_exec_laws.specs.Requesting.{brought_by, IsRequestOf}
use Rattle.stateful_exec_laws.specs.Setting.{setting}
use Rattle.stateful_loop_model.specs.Moments.{Moment}
use Rattle.stateful_loop_model.specs.declared.message.Action.{Action}
use Rattle.stateful_loop_model.specs.declared.message.Action.TheVariants as action
use Rattle.stateful_loop_model.specs.declared.message.Message.{Message}
use Rattle.stateful_loop_model.specs.declared.message.Message.TheVariants.{Request, Finalized}
use Rattle.stateful_loop_model.specs.declared.message.Message.TheVariants.{Subscribe}
use Rattle.stateful_loop_model.specs.declared.tables.Finalizing.{Finalizing}

-- the ticket of a message
abbrev pub ticket_in : {B C I : Type 0} → Message B C I → ℕ
ticket_in (Request request) = ticket_by request
ticket_in (Finalized t b) = t
ticket_in (Subscribe t) = t

-- the ticket of an action
abbrev pub ticket_under : {B C I : Type 0} → Action B C I → ℕ
ticket_under (action.Message x) = ticket_in x
ticket_under (action.Build t) = t

-- the ticket of the finalization in front, if there is one
abbrev pub ticket_in_front : {B G : Type 0} → Option (Finalizing B G) → List ℕ
ticket_in_front None = []
ticket_in_front (Some f) = f.ticket ∷ []

module _ {B C I : Type 0} (header : Header B) (p : Past B C I) where
  -- the receipt of a ticket is live, and is of a finalized block of this height
  pub record IsReceiptAt (t height : ℕ) : Type 0 where
    pub live : IsLiveReceipt t p
    pub block : Named B
    pub finalized : finalized_since t p ≡ Some block
    pub height_is : height ≡ header.height block.block

module _ {B C I P R D H G U : Type 0} (w : Workings B C I P R D H G U)
    (stored : ℕ → Option (Named B)) (p : Past B C I) where
  module _ (v : Tables B C I R U) (build : Option (Building B C D)) where
    -- the request of this ticket is in no table of execution, and nothing is built for it
    pub record IsOutside (t : ℕ) : Type 0 where
      pub elsewhere : IsElsewhere v t
      pub unbuilt : IfSome build (λ b. b.ticket ≢ t)

    -- a message is what the event of its ticket brought, which is live
    abbrev pub MessageStands : Message B C I → Type 0
    MessageStands (Request request) =
        IsRequestOf w stored p (ticket_by request) request
        × All (Met (setting w stored) p) (brought_by request)
        × IsOutside (ticket_by request)
    MessageStands (Subscribe t) = IsLiveSubscription t p × IsOutside t
    MessageStands (Finalized t b) = IsLiveReceipt t p × (finalized_since t p ≡ Some b)

    -- an action is such a message; or the proposal of its ticket is queued, and was handed out
    abbrev pub ActionStands : Action B C I → Type 0
    ActionStands (action.Message x) = MessageStands x
    ActionStands (action.Build t) =
        IsSome (at v.queued t) × All (λ u. u ≢ t) v.recovered × IfSome build (λ b. b.ticket ≢ t)

  -- All that waits in the loop stands so; no two of these are of one ticket.
  pub record TicketsStand (m : Moment w) : Type 0 where
    pub queue : All (MessageStands m.execution.state m.execution.build) m.loop.queue
    pub actions : All (ActionStands m.execution.state m.execution.build) m.loop.actions
    pub front : IfSome m.loop.front
        (λ f. IsLiveReceipt f.ticket p × (finalized_since f.ticket p ≡ Some f.block))
    pub held : All (λ receipt. IsReceiptAt w.header p receipt.1 receipt.0) m.loop.durability.held
    pub apart : AllPairs (λ t u. t ≢ u)
        (map ticket_in m.loop.queue ++ map ticket_under m.loop.actions
        ++ ticket_in_front m.loop.front ++ map (λ receipt. receipt.1) m.loop.durability.held)
    pub once : AllPairs (λ t u. t ≢ u) m.execution.state.recovered

module _ {B C I P R D H G U : Type 0} (w : Workings B C I P R D H G U)
    (stored : ℕ → Option (Named B)) (p : Past B C I) (m now : Moment w) where
  -- From one moment to a later one some marks are made, and all that waits stands with them.
  pub record TicketsBehind : Type 0 where
    pub more : List (Mark B)
    pub marks_are : now.marks ≡ m.marks ++ more
    pub tickets : TicketsStand w stored (after p more) now
