-- How a bounded mailbox that isn't closed takes a message.
use Rattle.std.specs.Prelude.{List, [], ◌∷◌, ◌++◌}
use Rattle.stateful_types.specs.Mailbox.{Queues, HasRoom, IsBusy}
use Rattle.stateful_types.specs.declared.mailbox.Feedback.{Feedback}
use Rattle.stateful_types.specs.declared.mailbox.Feedback.TheVariants.{Ok, Backoff}

-- the message is ready, or the policy lets it wait or drops it
pub data Sends {T : Type 0} (kept : List T → T → List T) (queue : Queues T) (message : T) : Feedback
    → Queues T
    → Type 0 where
  ready : HasRoom queue
      → Sends kept queue message Ok (record queue { ready = queue.ready ++ message ∷ [] })
  waits : IsBusy queue
      → Sends kept queue message Backoff (record queue { overflow = kept queue.overflow message })
