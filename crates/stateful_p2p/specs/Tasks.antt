-- Events that may come, each with the message that it takes.
use Rattle.std.specs.Prelude.{◌≡◌, ◌^◌, ◌-◌, ◌==◌, nat_le, ℕ, Bool, true, false, Some, List}
use Rattle.stateful_types.specs.Mailbox.{HandsOut}
use Rattle.stateful_types.specs.declared.request.Request.{Request}
use Rattle.stateful_p2p.specs.Inbox.{Inbox}
use Rattle.stateful_p2p.specs.declared.message.Message.{Message}
use Rattle.stateful_p2p.specs.declared.event.ActorEvent.{ActorEvent}
use Rattle.stateful_p2p.specs.declared.event.ActorEvent.TheVariants as events
use Rattle.stateful_p2p_tables.specs.declared.state.State.{State}
use Rattle.stateful_p2p.specs.declared.actor.Task.{Task}
use Rattle.stateful_p2p.specs.declared.actor.Task.TheVariants as tasks

-- whether its number is the last one that there is
abbrev pub has_last_number : {D : Type 0} → Task D → Bool
has_last_number (tasks.Deliver d key bytes) = d == 2 ^ 64 - 1
has_last_number (tasks.Produce n key) = n == 2 ^ 64 - 1
has_last_number task = false

-- a number of the task is above every earlier one
abbrev pub is_new_number : {D : Type 0} → State D → Task D → Bool
is_new_number s (tasks.Deliver d key bytes) = nat_le s.next_delivery d
is_new_number s (tasks.Produce n key) = nat_le s.next_serve n
is_new_number s task = true

-- a number of the task is above every earlier one, and isn't the last that there is
abbrev pub IsTimely : {D : Type 0} → State D → Task D → Type 0
IsTimely s task = (is_new_number s task ≡ true) × (has_last_number task ≡ false)

-- the task is the event, with the message that it took out of the mailbox
pub data Admits {D Op : Type 0} (m : Inbox D Op) : ActorEvent → Task D → Inbox D Op → Type 0 where
  hear : {message : Message D} {left : Inbox D Op}
      → HandsOut m.queue left.queue (Some message)
      → left ≡ record m { queue = left.queue }
      → Admits m events.Message (tasks.Hear message) left
  deliver : {d : ℕ} {key : Request} {bytes : List ℕ}
      → Admits m (events.Deliver d key bytes) (tasks.Deliver d key bytes) m
  judge : {t : ℕ} {valid : Bool} → Admits m (events.Judge t valid) (tasks.Judge t valid) m
  leave : {t : ℕ} → Admits m (events.Leave t) (tasks.Leave t) m
  produce : {n : ℕ} {key : Request} → Admits m (events.Produce n key) (tasks.Produce n key) m
