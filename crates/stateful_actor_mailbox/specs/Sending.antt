-- How a bounded mailbox that isn't closed takes a message.
use Rattle.std.specs.Prelude.{List, [], ◌∷◌, ◌++◌}
use Rattle.stateful_types.specs.Mailbox.{Queues, HasRoom, IsBusy}
use Rattle.stateful_types.specs.declared.mailbox.Feedback.{Feedback}
use Rattle.stateful_types.specs.declared.mailbox.Feedback.TheVariants.{Ok, Backoff}

module _ {T : Type 0} where
  -- a message that has to wait stands behind all that wait
  abbrev pub in_order : List T → T → List T
  in_order waiting message = waiting ++ message ∷ []

  -- the message is ready, or it waits behind all that wait
  pub data Sends (queue : Queues T) (message : T) : Feedback → Queues T → Type 0 where
    ready : HasRoom queue
        → Sends queue message Ok (record queue { ready = queue.ready ++ message ∷ [] })
    waits : IsBusy queue
        → Sends queue message Backoff (record queue { overflow = in_order queue.overflow message })
