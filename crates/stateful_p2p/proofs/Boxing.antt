-- What calls leave of a mailbox.
use Rattle.std.proofs.Common.{rules, ◌≡◌, ℕ, ◌+◌, ◌≤◌, ◌↔◌, Bool, true, false, cond, Option, Some, None, Result, Ok, Err, List, [], ◌∷◌, ◌++◌, length, refl, sym, ap, ◌∙◌, arith, length-append}
use Rattle.std.specs.Result.{IfOk}
use Rattle.std.specs.Option.{IsNone}
use Rattle.std.specs.Ordering.{nat_cmp}
use Rattle.std.specs.BTreeMap.{is_at}
use Rattle.std.specs.Map.{values_of}
use Rattle.std.proofs.lemmas.List.Sums.{sum_by-cons}
use Rattle.stateful_types.specs.Mailbox.{Queues, messages, HandsOut}
use Rattle.stateful_types.specs.declared.mailbox.Feedback.{Feedback}
use Rattle.stateful_table.specs.Table.{at, put}
use Rattle.stateful_p2p.specs.Sending.{Sends}
use Rattle.stateful_p2p.specs.Messages.{kept}
use Rattle.stateful_p2p.specs.Tickets.{stands_live, is_live, live_weight, live_count}
use Rattle.stateful_types.specs.declared.request.Request.{Request}
use Rattle.stateful_p2p.specs.Inbox.{Inbox, Asks, Attaches}
use Rattle.stateful_p2p.specs.declared.message.Message.{Message}
use Rattle.stateful_p2p.specs.declared.message.Message.TheVariants.{AttachDatabase, GetOperations}
use Rattle.stateful_p2p.specs.declared.tickets.Standing.{Standing}
use Rattle.stateful_p2p.specs.declared.tickets.Standing.TheVariants.{Open, Answered, Dropped}

weighs : (s : Standing) → stands_live (Some s) ≡ true → 1 ≤ live_weight s
weighs Open live = omega arith
weighs Answered live = omega arith
weighs Dropped live = cc

-- a live ticket is counted
pub live_some : (tickets : List (ℕ × Standing)) (t : ℕ) → is_live tickets t ≡ true → 1 ≤ live_count tickets
live_some [] t live = cc
live_some (e ∷ es) t live = go (is_at (nat_cmp t) e.0) live (live_some es t)
  where
    more : live_count (e ∷ es) ≡ live_weight e.1 + live_count es
    more = sum_by-cons live_weight e.1 (values_of es)

    go : (b : Bool) → stands_live (cond b (Some e.1) (at es t)) ≡ true → (is_live es t ≡ true → 1 ≤ live_count es) → 1 ≤ live_count (e ∷ es)
    go true live rest = let w = weighs e.1 live in let m = more in omega arith
    go false live rest = let r = rest live in let m = more in omega arith

-- a ticket that was cancelled is noted, and is live no more
pub noted : (cancelled : List ℕ) (t live before capacity : ℕ) (b : Bool) → length cancelled + before ≤ capacity → live + cond b 1 0 ≡ before → b ≡ true → length (cancelled ++ t ∷ []) + live ≤ capacity
noted cancelled t live before capacity b room count is = let c = rw is at count in omega (arith, length-append cancelled (t ∷ []))

module _ {D : Type 0} where
  -- nothing was handed out of an empty queue, which stays what it is
  pub same_queue : (q after : Queues (Message D)) (message : Option (Message D)) → HandsOut q after message → (IsNone message ↔ (messages q ≡ [])) → IsNone message → after ≡ q
  same_queue q after None hands none is =
      let before : q.ready ++ q.overflow ≡ [] = none.0 is in
      let behind : after.ready ++ after.overflow ≡ [] = sym hands.front ∙ before in
      go q after hands.capacity hands.closed (nothing q.ready q.overflow before) (nothing after.ready after.overflow behind)
    where
      nothing : (xs ys : List (Message D)) → xs ++ ys ≡ [] → (xs ≡ []) × (ys ≡ [])
      nothing [] ys e = (refl, e)
      nothing (x ∷ xs) ys e = absurd (cons_nil x (xs ++ ys) e)
        where
          cons_nil : (x : Message D) (zs : List (Message D)) → x ∷ zs ≡ [] → ⊥
          cons_nil x zs e = cc

      go : (q after : Queues (Message D)) → after.capacity ≡ q.capacity → after.closed ≡ q.closed → (q.ready ≡ []) × (q.overflow ≡ []) → (after.ready ≡ []) × (after.overflow ≡ []) → after ≡ q
      go q after capacity closed one other =
          let of = λ (c : ℕ) (r o : List (Message D)) (b : Bool). let w : Queues (Message D) = record { capacity = c; ready = r; overflow = o; closed = b } in w in
          ap (λ (c : ℕ). of c after.ready after.overflow after.closed) capacity ∙ ap (λ (r : List (Message D)). of q.capacity r after.overflow after.closed) (other.0 ∙ sym one.0)
          ∙ ap (λ (o : List (Message D)). of q.capacity q.ready o after.closed) (other.1 ∙ sym one.1) ∙ ap (λ (b : Bool). of q.capacity q.ready q.overflow b) closed
  same_queue q after (Some message) hands none is = absurd (some is)
    where
      some : IsNone (Some message) → ⊥
      some is = search rules

module _ {D Op : Type 0} where
  pub attaches : {E : Type 0} (m : Inbox D Op) (db : D) (after : Queues (Message D)) (result : Result Feedback E) → IfOk result (λ feedback. Sends kept m.queue (AttachDatabase db) feedback after)
      → IfOk result (λ feedback. Attaches m db feedback (record m { queue = after }))
  attaches m db after (Ok feedback) sent = record { sends = sent; others = refl }
  attaches m db after (Err e) sent = tt

module _ {D Op : Type 0} where
  pub asks : (m : Inbox D Op) (request : Request) (after : Queues (Message D)) (feedback : Feedback) → Sends kept m.queue (GetOperations m.next_ticket request) feedback after
      → Asks m request feedback m.next_ticket (record m { next_ticket = m.next_ticket + 1; queue = after; tickets = put m.tickets m.next_ticket Open })
  asks m request after feedback sent = record { drawn = refl; sends = sent; others = refl }
