-- What contracts see of a handler, and how its messages wait.
use Rattle.std.specs.Prelude.{◌≡◌, ℕ, ◌+◌, ◌==◌, Bool, true, not, Option, List, [], ◌∷◌, ◌++◌}
use Rattle.std.specs.Prelude.{filter, option_map}
use Rattle.stateful_types.specs.Mailbox.{Queues, HandsOut}
use Rattle.stateful_types.specs.declared.mailbox.Feedback.{Feedback}
use Rattle.stateful_types.specs.declared.request.Request.{Request}
use Rattle.stateful_p2p.specs.Sending.{Sends}
use Rattle.stateful_p2p.specs.declared.handler.EngineMessage.{EngineMessage}
use Rattle.stateful_p2p.specs.declared.handler.EngineMessage.TheVariants.{Deliver, Produce}
use Rattle.stateful_p2p.specs.declared.event.ActorEvent.{ActorEvent}
use Rattle.stateful_p2p.specs.declared.event.ActorEvent.TheVariants as events

-- what waits once one more message has come: a production is dropped, and deliveries stay in their
-- order
abbrev pub kept : {K : Type 0} → List (EngineMessage K) → EngineMessage K → List (EngineMessage K)
kept waiting (Deliver d key bytes) = waiting ++ Deliver d key bytes ∷ []
kept waiting (Produce n key) = waiting

-- whether it is anything but this delivery
abbrev pub is_not_delivery : {K : Type 0} → ℕ → EngineMessage K → Bool
is_not_delivery d (Deliver e key bytes) = not (e == d)
is_not_delivery d (Produce n key) = true

-- the least numbers of a delivery and of a production that weren't given yet, and the messages
pub record Handled : Type 0 where
  pub next_delivery : ℕ
  pub next_serve : ℕ
  pub queue : Queues (EngineMessage Request)

abbrev pub handled : ℕ → ℕ → Queues (EngineMessage Request) → Handled
handled next_delivery next_serve queue =
    record { next_delivery = next_delivery; next_serve = next_serve; queue = queue }

-- a delivery is on its way under the next number
pub record Delivers (h : Handled) (key : Request) (bytes : List ℕ) (feedback : Feedback)
    (delivery : ℕ) (next : Handled) : Type 0 where
  pub drawn : delivery ≡ h.next_delivery
  pub sends : Sends kept h.queue (Deliver delivery key bytes) feedback next.queue
  pub others : next ≡ record h { next_delivery = delivery + 1; queue = next.queue }

-- a production is on its way under the next number, or was dropped
pub record Produces (h : Handled) (key : Request) (feedback : Feedback) (serve : ℕ)
    (next : Handled) : Type 0 where
  pub drawn : serve ≡ h.next_serve
  pub sends : Sends kept h.queue (Produce serve key) feedback next.queue
  pub others : next ≡ record h { next_serve = serve + 1; queue = next.queue }

-- without this delivery, if it waits
abbrev pub without_delivery : Handled → ℕ → Handled
without_delivery h d =
    record h { queue = record h.queue { overflow = filter (is_not_delivery d) h.queue.overflow } }

abbrev pub event_of : EngineMessage Request → ActorEvent
event_of (Deliver d key bytes) = events.Deliver d key bytes
event_of (Produce n key) = events.Produce n key

-- the first message is handed out as an event, if there is one
pub record HandsEvent (h next : Handled) (event : Option ActorEvent) : Type 0 where
  pub message : Option (EngineMessage Request)
  pub hands : HandsOut h.queue next.queue message
  pub event_is : event ≡ option_map event_of message
  pub others : next ≡ record h { queue = next.queue }
