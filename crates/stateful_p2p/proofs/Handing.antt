-- What a handler takes.
use Rattle.std.proofs.Common.{ℕ, ◌+◌, List, refl}
use Rattle.stateful_types.specs.Mailbox.{Queues}
use Rattle.stateful_types.specs.declared.mailbox.Feedback.{Feedback}
use Rattle.stateful_types.specs.declared.request.Request.{Request}
use Rattle.stateful_p2p.specs.Sending.{Sends}
use Rattle.stateful_p2p.specs.Handling.{Handled, kept, Delivers, Produces}
use Rattle.stateful_p2p.specs.declared.handler.EngineMessage.{EngineMessage}
use Rattle.stateful_p2p.specs.declared.handler.EngineMessage.TheVariants.{Deliver, Produce}

pub delivers : (h : Handled) (key : Request) (bytes : List ℕ) (after : Queues (EngineMessage Request)) (feedback : Feedback) → Sends kept h.queue (Deliver h.next_delivery key bytes) feedback after
    → Delivers h key bytes feedback h.next_delivery (record h { next_delivery = h.next_delivery + 1; queue = after })
delivers h key bytes after feedback sent = record { drawn = refl; sends = sent; others = refl }

pub produces : (h : Handled) (key : Request) (after : Queues (EngineMessage Request)) (feedback : Feedback) → Sends kept h.queue (Produce h.next_serve key) feedback after
    → Produces h key feedback h.next_serve (record h { next_serve = h.next_serve + 1; queue = after })
produces h key after feedback sent = record { drawn = refl; sends = sent; others = refl }
