-- A probe's mailbox.
use Rattle.std.specs.Prelude.{ℕ, List}
use Rattle.stateful_types.specs.Mailbox.{Queues, messages}
use Rattle.stateful_probe.specs.declared.event.Event.{Event}

-- the next ticket, and the events on their way
pub record Mail (K : Type 0) : Type 0 where
  pub next_ticket : ℕ
  pub events : Queues (Event K)

-- the events that wait, in the order in which they are handed out
abbrev pub waiting : {K : Type 0} → Mail K → List (Event K)
waiting mail = messages mail.events
