-- Passing messages that aren't to be handed out any more.
use Rattle.std.proofs.Common.{◌≡◌, ◌<◌, true, false, Some, None, List, [], ◌∷◌, ◌++◌, length, All, refl, sym, ap, subst, ◌∙◌, arith, append-nil, append_assoc}
use Rattle.std.proofs.lemmas.List.Elements.{All-nil, All-push}
use Rattle.stateful_types.specs.Mailbox.{Queues, messages}
use Rattle.stateful_types.specs.Mailbox as queues
use Rattle.stateful_actor_mailbox.specs.Tickets.{Book, is_queued}
use Rattle.stateful_actor_mailbox.specs.Mail.{Mail, IsPassed, SameShape, HandsOut, nothing, message}
use Rattle.stateful_actor_mailbox.specs.declared.message.Message.{Message}

module _ {B C I : Type 0} where
  -- some messages that aren't to be handed out were taken out of a queue, the first ones
  pub record Passes (k : Book B) (before now : Queues (Message B C I)) : Type 0 where
    pub passed : List (Message B C I)
    pub all : All (IsPassed k) passed
    pub front : messages before ≡ passed ++ messages now
    pub shape : SameShape before now

  pub none_passed : (k : Book B) (q : Queues (Message B C I)) → Passes k q q
  none_passed k q = record { passed = []; all = All-nil (IsPassed k); front = refl; shape = record { capacity = refl; closed = refl } }

  pub one_passed : (k : Book B) (before now after : Queues (Message B C I)) (first : Message B C I) → Passes k before now → queues.HandsOut now after (Some first)
      → is_queued k first.ticket ≡ false → Passes k before after
  one_passed k before now after first passes hands passed = record {
    passed = passes.passed ++ first ∷ [];
    all = All-push (IsPassed k) passes.passed first passes.all passed;
    front = passes.front ∙ ap (λ w. passes.passed ++ w) hands.front ∙ sym (append_assoc passes.passed (first ∷ []) (messages after));
    shape = record { capacity = hands.capacity ∙ passes.shape.capacity; closed = hands.closed ∙ passes.shape.closed };
  }

  -- fewer messages are left behind one that was taken out
  pub one_fewer : (now after : Queues (Message B C I)) (first : Message B C I) → queues.HandsOut now after (Some first) → length (messages after) < length (messages now)
  one_fewer now after first hands = let long : length (messages now) ≡ length (first ∷ messages after) = ap length hands.front in omega arith

  pub hands_message : (m : Mail B C I) (now after : Queues (Message B C I)) (first : Message B C I) → Passes m.tickets m.queue now → queues.HandsOut now after (Some first)
      → is_queued m.tickets first.ticket ≡ true → HandsOut m (Some first) (record m { queue = after })
  hands_message m now after first passes hands waits = message passes.passed (passes.front ∙ ap (λ w. passes.passed ++ w) hands.front) passes.all waits
      (record { capacity = hands.capacity ∙ passes.shape.capacity; closed = hands.closed ∙ passes.shape.closed })

  pub hands_nothing : (m : Mail B C I) (now after : Queues (Message B C I)) → Passes m.tickets m.queue now → queues.HandsOut now after None
      → messages now ≡ [] → HandsOut m None (record m { queue = after })
  hands_nothing m now after passes hands empty =
      nothing
      (subst (All (IsPassed m.tickets)) (sym (passes.front ∙ ap (λ w. passes.passed ++ w) empty ∙ append-nil passes.passed)) passes.all)
      (sym hands.front ∙ empty)
      (record { capacity = hands.capacity ∙ passes.shape.capacity; closed = hands.closed ∙ passes.shape.closed })
