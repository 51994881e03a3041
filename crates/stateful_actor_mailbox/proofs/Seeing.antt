-- How a ticket is seen to stand, and what each call makes of it.
use Rattle.std.proofs.Common.{◌≡◌, ℕ, ◌≤◌, ◌==◌, Bool, true, false, cond, Option, Some, None, Result, refl, sym, ap, ◌∙◌, arith}
use Rattle.std.specs.Prelude.{nat_lt, is_some}
use Rattle.std.proofs.lemmas.Bool.{eqb-true}
use Rattle.std.proofs.lemmas.Bool.Decides.{nat_tests}
use Rattle.stateful_table.specs.Table.{at, without}
use Rattle.stateful_table.proofs.Tables.{at-put, at-without}
use Rattle.stateful_actor_mailbox.specs.Replies.{is_request, outcome, gone}
use Rattle.stateful_actor_mailbox.specs.Tickets.{Book, ticket_of, end_of, cancelling, cancelling_from, ended_by, ending, end_by_stop, outcome_from, moved, was_stopped, opened, cancelled, ended, outcome_of, taken_out, AreBelow}
use Rattle.stateful_actor_mailbox.specs.declared.note.Answer.{Answer}
use Rattle.stateful_actor_mailbox.specs.declared.reply.Kind.{Kind}
use Rattle.stateful_actor_mailbox.specs.declared.reply.Reply.{Reply}
use Rattle.stateful_actor_mailbox.specs.declared.reply.Stopped.{Stopped}
use Rattle.stateful_actor_mailbox.specs.declared.tickets.Ticket.{Ticket}
use Rattle.stateful_actor_mailbox.specs.declared.tickets.Standing.{Standing}
use Rattle.stateful_actor_mailbox.specs.declared.tickets.Standing.TheVariants.{Queued, Handed, Due, Cancelled, Ended}
use Rattle.stateful_actor_mailbox.proofs.Books.{or_same, at-moved, moved_stopped}

module _ {B : Type 0} where
  -- how it stands once a stop has ended it
  abbrev pub stopped_standing : Kind → Standing B → Standing B
  stopped_standing kind (Ended outcome) = Ended outcome
  stopped_standing kind standing = Ended (gone kind)

  abbrev pub seen_as : Bool → Option (Ticket B) → Option (Ticket B)
  seen_as was_stopped None = None
  seen_as was_stopped (Some ticket) = Some (cond was_stopped (ticket_of ticket.kind (stopped_standing ticket.kind ticket.standing)) ticket)

  abbrev pub seen : Book B → ℕ → Option (Ticket B)
  seen k t = seen_as (was_stopped k t) (at k.entries t)

  pub seen_as_false : (s : Option (Ticket B)) → seen_as false s ≡ s
  seen_as_false None = refl
  seen_as_false (Some ticket) = refl

  twice_stopped : (kind : Kind) (standing : Standing B) → stopped_standing kind (stopped_standing kind standing) ≡ stopped_standing kind standing
  twice_stopped kind Queued = refl
  twice_stopped kind Handed = refl
  twice_stopped kind Due = refl
  twice_stopped kind Cancelled = refl
  twice_stopped kind (Ended outcome) = refl

  seen_twice : (b : Bool) (s : Option (Ticket B)) → seen_as true (seen_as b s) ≡ seen_as true s
  seen_twice b None = refl
  seen_twice false (Some ticket) = refl
  seen_twice true (Some ticket) = ap (λ w. Some (ticket_of ticket.kind w)) (twice_stopped ticket.kind ticket.standing)

  -- how it has ended, where it is seen so
  abbrev pub end_seen : Option (Ticket B) → Option (Result (Reply B) Stopped)
  end_seen None = None
  end_seen (Some ticket) = end_of ticket.standing

  pub outcome_seen : (k : Book B) (t : ℕ) → outcome_of k t ≡ end_seen (seen k t)
  outcome_seen k t = go (was_stopped k t) (at k.entries t)
    where
      by : (kind : Kind) (standing : Standing B) → end_by_stop (ticket_of kind standing) (end_of standing) ≡ end_of (stopped_standing kind standing)
      by kind Queued = refl
      by kind Handed = refl
      by kind Due = refl
      by kind Cancelled = refl
      by kind (Ended outcome) = refl

      go : (b : Bool) (s : Option (Ticket B)) → outcome_from b s ≡ end_seen (seen_as b s)
      go b None = refl
      go true (Some ticket) = by ticket.kind ticket.standing
      go false (Some ticket) = refl

  -- ---- the changes

  -- what becomes of a ticket by a change, as it is seen
  abbrev pub changed : (Option (Ticket B) → Option (Ticket B)) → Bool → Option (Ticket B) → Option (Ticket B)
  changed change here s = cond here (or_same (change s) s) s

  pub seen_moved : (k : Book B) (u t : ℕ) (change : Option (Ticket B) → Option (Ticket B)) → was_stopped k u ≡ false
      → seen (moved k u (change (at k.entries u))) t ≡ changed change (u == t) (seen k t)
  seen_moved k u t change live =
      ap (λ n. seen_as (nat_lt t n) (at (moved k u (change (at k.entries u))).entries t)) (moved_stopped k u (change (at k.entries u)))
      ∙ ap (seen_as (was_stopped k t)) (at-moved k u t (change (at k.entries u)))
      ∙ go (u == t) refl
    where
      go : (b : Bool) → (u == t) ≡ b → seen_as (was_stopped k t) (cond b (or_same (change (at k.entries u)) (at k.entries t)) (at k.entries t)) ≡ changed change b (seen k t)
      go true same =
          let num = eqb-true u t same in
          let alive : was_stopped k t ≡ false = ap (was_stopped k) (sym num) ∙ live in
          let entry : at k.entries u ≡ at k.entries t = ap (at k.entries) num in
          let as_is : seen k t ≡ at k.entries t = ap (λ b. seen_as b (at k.entries t)) alive ∙ seen_as_false (at k.entries t) in
          ap (λ b. seen_as b (or_same (change (at k.entries u)) (at k.entries t))) alive
          ∙ seen_as_false (or_same (change (at k.entries u)) (at k.entries t))
          ∙ ap (λ w. or_same (change w) (at k.entries t)) entry
          ∙ sym (ap (λ w. or_same (change w) w) as_is)
      go false other = refl

  -- where a stop has ended a ticket, a change that leaves ended tickets leaves it
  unchanged : (k : Book B) (u t : ℕ) (change : Option (Ticket B) → Option (Ticket B)) → was_stopped k u ≡ true
      → ((s : Option (Ticket B)) → or_same (change (seen_as true s)) (seen_as true s) ≡ seen_as true s)
      → seen k t ≡ changed change (u == t) (seen k t)
  unchanged k u t change stopped leaves = go (u == t) refl
    where
      go : (b : Bool) → (u == t) ≡ b → seen k t ≡ changed change b (seen k t)
      go true same =
          let num = eqb-true u t same in
          let gone : was_stopped k t ≡ true = ap (was_stopped k) (sym num) ∙ stopped in
          let as_is : seen k t ≡ seen_as true (at k.entries t) = ap (λ b. seen_as b (at k.entries t)) gone in
          as_is ∙ sym (leaves (at k.entries t)) ∙ sym (ap (λ w. or_same (change w) w) as_is)
      go false other = refl

  pub seen_cancelled : (k : Book B) (u t : ℕ) → seen (cancelled k u) t ≡ changed cancelling (u == t) (seen k t)
  seen_cancelled k u t = go (was_stopped k u) refl
    where
      by : (b : Bool) (kind : Kind) (standing : Standing B) (s : Option (Ticket B)) → or_same (cond b (cancelling_from kind (stopped_standing kind standing)) None) s ≡ s
      by true kind Queued s = refl
      by true kind Handed s = refl
      by true kind Due s = refl
      by true kind Cancelled s = refl
      by true kind (Ended outcome) s = refl
      by false kind standing s = refl

      leaves : (s : Option (Ticket B)) → or_same (cancelling (seen_as true s)) (seen_as true s) ≡ seen_as true s
      leaves None = refl
      leaves (Some ticket) = by (is_request ticket.kind) ticket.kind ticket.standing (seen_as true (Some ticket))

      go : (b : Bool) → was_stopped k u ≡ b → seen (cond b k (moved k u (cancelling (at k.entries u)))) t ≡ changed cancelling (u == t) (seen k t)
      go true stopped = unchanged k u t cancelling stopped leaves
      go false live = seen_moved k u t cancelling live

  pub seen_ended : (k : Book B) (u t : ℕ) (answer : Answer B) → seen (ended k u answer) t ≡ changed (ending answer) (u == t) (seen k t)
  seen_ended k u t answer = go (was_stopped k u) refl
    where
      by : (kind : Kind) (standing : Standing B) (s : Option (Ticket B))
          → or_same (cond (is_some (end_of (stopped_standing kind standing))) None (ended_by kind (outcome kind answer))) s ≡ s
      by kind Queued s = refl
      by kind Handed s = refl
      by kind Due s = refl
      by kind Cancelled s = refl
      by kind (Ended outcome) s = refl

      leaves : (s : Option (Ticket B)) → or_same (ending answer (seen_as true s)) (seen_as true s) ≡ seen_as true s
      leaves None = refl
      leaves (Some ticket) = by ticket.kind ticket.standing (seen_as true (Some ticket))

      go : (b : Bool) → was_stopped k u ≡ b → seen (cond b k (moved k u (ending answer (at k.entries u)))) t ≡ changed (ending answer) (u == t) (seen k t)
      go true stopped = unchanged k u t (ending answer) stopped leaves
      go false live = seen_moved k u t (ending answer) live

  -- the same of a ticket whose end was taken out
  abbrev pub polled_out : Option (Ticket B) → Option (Ticket B)
  polled_out s = cond (is_some (end_seen s)) None s

  pub seen_taken : (k : Book B) (u t : ℕ) → seen (taken_out k u) t ≡ cond (u == t) (polled_out (seen k t)) (seen k t)
  seen_taken k u t = ap (λ o. seen (cond (is_some o) (record k { entries = without k.entries u }) k) t) (outcome_seen k u) ∙ go (u == t) refl (is_some (end_seen (seen k u))) refl
    where
      left : (c : Bool) → seen_as (was_stopped k t) (cond c None (at k.entries t)) ≡ cond c None (seen k t)
      left true = refl
      left false = refl

      go : (b : Bool) → (u == t) ≡ b → (o : Bool) → is_some (end_seen (seen k u)) ≡ o
          → seen (cond o (record k { entries = without k.entries u }) k) t ≡ cond b (polled_out (seen k t)) (seen k t)
      go true same true is =
          ap (seen_as (was_stopped k t)) (at-without k.entries u t) ∙ left (u == t) ∙ ap (λ c. cond c None (seen k t)) same
          ∙ sym (ap (λ c. cond c None (seen k t)) (ap (λ w. is_some (end_seen (seen k w))) (sym (eqb-true u t same)) ∙ is))
      go true same false is = sym (ap (λ c. cond c None (seen k t)) (ap (λ w. is_some (end_seen (seen k w))) (sym (eqb-true u t same)) ∙ is))
      go false other true is = ap (seen_as (was_stopped k t)) (at-without k.entries u t) ∙ left (u == t) ∙ ap (λ c. cond c None (seen k t)) other
      go false other false is = refl

  pub seen_stopped : (next : ℕ) (k : Book B) (t : ℕ) → AreBelow next k → seen (record k { stopped = next }) t ≡ seen_as true (seen k t)
  seen_stopped next k t below = go (nat_lt t next) refl ∙ sym (seen_twice (was_stopped k t) (at k.entries t))
    where
      go : (b : Bool) → nat_lt t next ≡ b → seen_as b (at k.entries t) ≡ seen_as true (at k.entries t)
      go true less = refl
      go false more = let above : next ≤ t = grind (arith, nat_tests) in ap (seen_as false) (below.fresh t above) ∙ sym (ap (seen_as true) (below.fresh t above))

  pub not_stopped : (next : ℕ) (k : Book B) → AreBelow next k → was_stopped k next ≡ false
  not_stopped next k below = let s = below.stopped in grind (arith, nat_tests)

  pub seen_opened : (next : ℕ) (k : Book B) (t : ℕ) (kind : Kind) → AreBelow next k
      → seen (opened k next kind) t ≡ cond (next == t) (Some (ticket_of kind Queued)) (seen k t)
  seen_opened next k t kind below = ap (seen_as (was_stopped k t)) (at-put k.entries next (ticket_of kind Queued) t) ∙ go (next == t) refl
    where
      go : (b : Bool) → (next == t) ≡ b → seen_as (was_stopped k t) (cond b (Some (ticket_of kind Queued)) (at k.entries t)) ≡ cond b (Some (ticket_of kind Queued)) (seen k t)
      go true same = ap (λ b. seen_as b (Some (ticket_of kind Queued))) (ap (was_stopped k) (sym (eqb-true next t same)) ∙ not_stopped next k below)
      go false other = refl

  -- nothing is seen of a ticket that wasn't drawn
  pub seen_fresh : (next : ℕ) (k : Book B) (t : ℕ) → AreBelow next k → next ≤ t → seen k t ≡ None
  seen_fresh next k t below above = ap (seen_as (was_stopped k t)) (below.fresh t above)
