-- Messages that a bounded mailbox took.
use Rattle.std.proofs.Common.{◌≡◌, ◌↔◌, false, Result, Ok, Err, [], ◌∷◌, ◌++◌, refl}
use Rattle.std.specs.Bool.{IsTrue}
use Rattle.std.specs.Result.{IfOk}
use Rattle.stateful_types.specs.Mailbox.{Queues, HasRoom, IsBusy}
use Rattle.stateful_types.specs.declared.mailbox.Feedback.{Feedback}
use Rattle.stateful_types.specs.declared.mailbox.Feedback.TheVariants as feedbacks
use Rattle.stateful_actor_mailbox.specs.Sending.{in_order, Sends, ready, waits}

module _ {T E : Type 0} (q after : Queues T) (message : T) where
  -- a message that the queue took
  pub sends : (result : Result Feedback E) → q.closed ≡ false → ((result ≡ Ok feedbacks.Closed) ↔ IsTrue q.closed)
      → ((result ≡ Ok feedbacks.Ok) ↔ HasRoom q) → (result ≡ Ok feedbacks.Backoff → IsBusy q)
      → (result ≡ Ok feedbacks.Ok → after ≡ record q { ready = q.ready ++ message ∷ [] }) → (result ≡ Ok feedbacks.Backoff → after ≡ record q { overflow = in_order q.overflow message })
      → IfOk result (λ feedback. Sends q message feedback after)
  sends (Ok feedbacks.Ok) still closed room busy is_ready is_waiting = rw (is_ready refl) (ready (room.0 refl))
  sends (Ok feedbacks.Backoff) still closed room busy is_ready is_waiting = rw (is_waiting refl) (waits (busy refl))
  sends (Ok feedbacks.Closed) still closed room busy is_ready is_waiting = absurd (let c = closed.0 refl in cc)
  sends (Err e) still closed room busy is_ready is_waiting = tt

module _ {T : Type 0} where
  -- a queue that took a message isn't closed by it
  pub sent_open : (q : Queues T) (message : T) (feedback : Feedback) (after : Queues T) → Sends q message feedback after → after.closed ≡ q.closed
  sent_open q message feedback after (ready room) = refl
  sent_open q message feedback after (waits busy) = refl
