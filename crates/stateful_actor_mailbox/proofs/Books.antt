-- What changes leave of the tickets of a mailbox.
use Rattle.std.proofs.Common.{◌≡◌, ℕ, ◌+◌, ◌==◌, Bool, true, false, cond, Option, Some, None, refl, ap, ◌∙◌, arith}
use Rattle.std.specs.Prelude.{is_some}
use Rattle.std.proofs.lemmas.Bool.{eqb-true}
use Rattle.std.proofs.lemmas.Bool.Decides.{nat_tests}
use Rattle.stateful_table.specs.Table.{at, without}
use Rattle.stateful_table.proofs.Tables.{at-put, at-without, restored}
use Rattle.stateful_actor_mailbox.specs.Tickets.{Book, book, ticket_of, handing, cancelling, telling, ending, moved, was_stopped, opened, handed_out, cancelled, first_due, told_of, told_due, ended, outcome_of, taken_out, AreBelow}
use Rattle.stateful_actor_mailbox.specs.declared.note.Answer.{Answer}
use Rattle.stateful_actor_mailbox.specs.declared.reply.Kind.{Kind}
use Rattle.stateful_actor_mailbox.specs.declared.tickets.Ticket.{Ticket}
use Rattle.stateful_actor_mailbox.specs.declared.tickets.Standing.TheVariants.{Queued}

module _ {B : Type 0} where
  -- what becomes of a ticket, else what it was
  abbrev pub or_same : Option (Ticket B) → Option (Ticket B) → Option (Ticket B)
  or_same None before = before
  or_same (Some ticket) before = Some ticket

  -- what is there once this became of a ticket
  pub at-moved : (k : Book B) (t x : ℕ) (becomes : Option (Ticket B))
      → at (moved k t becomes).entries x ≡ cond (t == x) (or_same becomes (at k.entries x)) (at k.entries x)
  at-moved k t x None = go (t == x)
    where
      go : (b : Bool) → at k.entries x ≡ cond b (at k.entries x) (at k.entries x)
      go true = refl
      go false = refl
  at-moved k t x (Some ticket) = at-put k.entries t ticket x

  pub moved_stopped : (k : Book B) (t : ℕ) (becomes : Option (Ticket B)) → (moved k t becomes).stopped ≡ k.stopped
  moved_stopped k t None = refl
  moved_stopped k t (Some ticket) = refl

  -- a change that makes nothing of nothing leaves the tickets below where they are
  pub moved_below : (next : ℕ) (k : Book B) (t : ℕ) (change : Option (Ticket B) → Option (Ticket B)) → change None ≡ None
      → AreBelow next k → AreBelow next (moved k t (change (at k.entries t)))
  moved_below next k t change none below = record {
    fresh = λ x above. at-moved k t x (change (at k.entries t)) ∙ go x (t == x) refl (below.fresh x above);
    stopped = let same = moved_stopped k t (change (at k.entries t)) in let s = below.stopped in omega arith;
  }
    where
      go : (x : ℕ) (b : Bool) → (t == x) ≡ b → at k.entries x ≡ None → cond b (or_same (change (at k.entries t)) (at k.entries x)) (at k.entries x) ≡ None
      go x true same free =
          let here : at k.entries t ≡ None = ap (at k.entries) (eqb-true t x same) ∙ free in
          ap (λ w. or_same w (at k.entries x)) (ap change here ∙ none) ∙ free
      go x false other free = free

  pub opened_below : (next : ℕ) (k : Book B) (kind : Kind) → AreBelow next k → AreBelow (next + 1) (opened k next kind)
  opened_below next k kind below = record {
    fresh = λ x above. let e = at-put k.entries next (ticket_of kind Queued) x in let f = below.fresh x (omega arith) in grind (arith, nat_tests);
    stopped = let s = below.stopped in omega arith;
  }

  pub handed_below : (next : ℕ) (k : Book B) (t : ℕ) → AreBelow next k → AreBelow next (handed_out k t)
  handed_below next k t below = moved_below next k t handing refl below

  pub cancelled_below : (next : ℕ) (k : Book B) (t : ℕ) → AreBelow next k → AreBelow next (cancelled k t)
  cancelled_below next k t below = go (was_stopped k t)
    where
      go : (b : Bool) → AreBelow next (cond b k (moved k t (cancelling (at k.entries t))))
      go true = below
      go false = moved_below next k t cancelling refl below

  pub told_below : (next : ℕ) (k : Book B) → AreBelow next k → AreBelow next (told_due k)
  told_below next k below = go (first_due k)
    where
      go : (due : Option ℕ) → AreBelow next (told_of k due)
      go None = below
      go (Some t) = moved_below next k t telling refl below

  pub ended_below : (next : ℕ) (k : Book B) (t : ℕ) (answer : Answer B) → AreBelow next k → AreBelow next (ended k t answer)
  ended_below next k t answer below = go (was_stopped k t)
    where
      go : (b : Bool) → AreBelow next (cond b k (moved k t (ending answer (at k.entries t))))
      go true = below
      go false = moved_below next k t (ending answer) refl below

  pub taken_below : (next : ℕ) (k : Book B) (t : ℕ) → AreBelow next k → AreBelow next (taken_out k t)
  taken_below next k t below = go (is_some (outcome_of k t))
    where
      gone : (x : ℕ) (b : Bool) → at k.entries x ≡ None → cond b None (at k.entries x) ≡ None
      gone x true free = refl
      gone x false free = free

      go : (b : Bool) → AreBelow next (cond b (record k { entries = without k.entries t }) k)
      go true = record {
        fresh = λ x above. at-without k.entries t x ∙ gone x (t == x) (below.fresh x above);
        stopped = below.stopped;
      }
      go false = below

  -- the tickets, once one was given back that was drawn
  pub withdrawn : (next : ℕ) (k : Book B) (kind : Kind) → AreBelow next k → record (opened k next kind) { entries = without (opened k next kind).entries next } ≡ k
  withdrawn next k kind below = ap (λ w. book w k.stopped) (restored k.entries next (ticket_of kind Queued) (below.fresh next (omega arith)))
