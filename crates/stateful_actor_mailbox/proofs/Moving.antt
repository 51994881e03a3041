-- What a call makes of a ticket.
use Rattle.std.proofs.Common.{◌≡◌, ℕ, ◌+◌, ◌≤◌, ◌&&◌, Bool, true, false, cond, Option, Some, None, refl, sym, ap, subst, ◌∙◌, arith}
use Rattle.std.specs.Prelude.{nat_le, is_some}
use Rattle.std.specs.Option.{option_map}
use Rattle.std.specs.List.{find}
use Rattle.std.proofs.lemmas.Bool.{and_parts}
use Rattle.std.proofs.lemmas.Bool.Decides.{nat_tests}
use Rattle.std.proofs.lemmas.Option.{none-some, same_Some}
use Rattle.stateful_table.specs.Table.{at, without}
use Rattle.stateful_actor_mailbox.specs.Tickets.{Book, ticket_of, stands_due, stands_queued, handing, cancelling, telling, ending, is_queued_from, moved, was_stopped, opened, is_queued, handed_out, cancelled, is_due, first_due, told_of, told_due, ended, outcome_of, taken_out, AreBelow}
use Rattle.stateful_actor_mailbox.specs.declared.reply.Kind.{Kind}
use Rattle.stateful_actor_mailbox.specs.declared.tickets.Ticket.{Ticket}
use Rattle.stateful_actor_mailbox.specs.declared.tickets.Standing.{Standing}
use Rattle.stateful_actor_mailbox.specs.declared.tickets.Standing.TheVariants.{Queued}
use Rattle.stateful_actor_mailbox.proofs.Books.{opened_below, handed_below, cancelled_below, told_below, ended_below, taken_below}
use Rattle.stateful_actor_mailbox.proofs.Ascending.{Ascends, ascends-put, ascends-without, found_at, found_least}
use Rattle.stateful_actor_mailbox.proofs.Seeing.{stopped_standing, seen, seen_as}

-- ---- tickets in order

module _ {B : Type 0} where
  -- no ticket is there that wasn't drawn, and they ascend
  pub record AreSound (next : ℕ) (k : Book B) : Type 0 where
    pub below : AreBelow next k
    pub ascend : Ascends 0 k.entries

  moved_ascend : (k : Book B) (t : ℕ) (becomes : Option (Ticket B)) → Ascends 0 k.entries → Ascends 0 (moved k t becomes).entries
  moved_ascend k t None up = up
  moved_ascend k t (Some ticket) up = ascends-put 0 k.entries t ticket (omega arith) up

  unless_ascend : (k : Book B) (t : ℕ) (becomes : Option (Ticket B)) (b : Bool) → Ascends 0 k.entries → Ascends 0 (cond b k (moved k t becomes)).entries
  unless_ascend k t becomes true up = up
  unless_ascend k t becomes false up = moved_ascend k t becomes up

  pub opened_sound : (next : ℕ) (k : Book B) (kind : Kind) → AreSound next k → AreSound (next + 1) (opened k next kind)
  opened_sound next k kind sound = record { below = opened_below next k kind sound.below; ascend = ascends-put 0 k.entries next (ticket_of kind Queued) (omega arith) sound.ascend }

  pub handed_sound : (next : ℕ) (k : Book B) (t : ℕ) → AreSound next k → AreSound next (handed_out k t)
  handed_sound next k t sound = record { below = handed_below next k t sound.below; ascend = moved_ascend k t (handing (at k.entries t)) sound.ascend }

  pub cancelled_sound : (next : ℕ) (k : Book B) (t : ℕ) → AreSound next k → AreSound next (cancelled k t)
  cancelled_sound next k t sound = record { below = cancelled_below next k t sound.below; ascend = unless_ascend k t (cancelling (at k.entries t)) (was_stopped k t) sound.ascend }

  pub told_sound : (next : ℕ) (k : Book B) → AreSound next k → AreSound next (told_due k)
  told_sound next k sound = record { below = told_below next k sound.below; ascend = go (first_due k) }
    where
      go : (due : Option ℕ) → Ascends 0 (told_of k due).entries
      go None = sound.ascend
      go (Some t) = moved_ascend k t (telling (at k.entries t)) sound.ascend

  pub ended_sound : (next : ℕ) (k : Book B) (t : ℕ) (answer : _) → AreSound next k → AreSound next (ended k t answer)
  ended_sound next k t answer sound = record { below = ended_below next k t answer sound.below; ascend = unless_ascend k t (ending answer (at k.entries t)) (was_stopped k t) sound.ascend }

  pub taken_sound : (next : ℕ) (k : Book B) (t : ℕ) → AreSound next k → AreSound next (taken_out k t)
  taken_sound next k t sound = record { below = taken_below next k t sound.below; ascend = go (is_some (outcome_of k t)) }
    where
      go : (b : Bool) → Ascends 0 (cond b (record k { entries = without k.entries t }) k).entries
      go true = ascends-without 0 k.entries t sound.ascend
      go false = sound.ascend

  -- ---- who is queued, and of whom the machine is to be told

  -- the ticket is seen to have come so far
  abbrev pub StandsAs : (Standing B → Bool) → Option (Ticket B) → Type 0
  StandsAs test None = ⊥
  StandsAs test (Some ticket) = test ticket.standing ≡ true

  pub queued_seen : (k : Book B) (t : ℕ) → is_queued k t ≡ true → (was_stopped k t ≡ false) × StandsAs stands_queued (seen k t)
  queued_seen k t is = go (was_stopped k t) (at k.entries t) is
    where
      go : (b : Bool) (s : Option (Ticket B)) → is_queued_from b s ≡ true → (b ≡ false) × StandsAs stands_queued (seen_as b s)
      go b None is = absurd (cc)
      go true (Some ticket) is = absurd (cc)
      go false (Some ticket) is = (refl, is)

  none_mapped : (o : Option (ℕ × Ticket B)) (t : ℕ) → option_map (λ entry. entry.0) o ≡ Some t → (e : ℕ × Ticket B) × (o ≡ Some e) × (e.0 ≡ t)
  none_mapped None t is = absurd (none-some t is)
  none_mapped (Some e) t is = (e, refl, same_Some e.0 t is)

  pub due_seen : (next : ℕ) (k : Book B) (t : ℕ) → AreSound next k → first_due k ≡ Some t → (was_stopped k t ≡ false) × StandsAs stands_due (seen k t)
  due_seen next k t sound is =
      let found = none_mapped (find (is_due k.stopped) k.entries) t is in
      let e = found.0 in
      let known = found_at (is_due k.stopped) 0 k.entries e sound.ascend found.1 in
      let both = and_parts (nat_le k.stopped e.0) (stands_due e.1.standing) known.1 in
      let live : was_stopped k e.0 ≡ false = let le = both.0 in grind (arith, nat_tests) in
      let here : StandsAs stands_due (seen k e.0) = subst (λ (s : Option (Ticket B)). StandsAs stands_due (seen_as (was_stopped k e.0) s)) (sym known.0) (subst (λ (b : Bool). StandsAs stands_due (seen_as b (Some e.1))) (sym live) both.1) in
      subst (λ (u : ℕ). (was_stopped k u ≡ false) × StandsAs stands_due (seen k u)) found.2 (live, here)

  -- where the machine is to be told of a ticket, it is of this one or of a lower one
  pub due_least : (next : ℕ) (k : Book B) (t : ℕ) → AreSound next k → StandsAs stands_due (seen k t) → (u : ℕ) × (first_due k ≡ Some u) × (u ≤ t)
  due_least next k t sound due = go (was_stopped k t) refl (at k.entries t) refl due
    where
      ended : (kind : Kind) (standing : Standing B) → stands_due (stopped_standing kind standing) ≡ true → ⊥
      ended kind standing is = absurd (never standing is)
        where
          never : (standing : Standing B) → stands_due (stopped_standing kind standing) ≡ true → ⊥
          never Queued is = cc
          never standing is = cc

      go : (b : Bool) → was_stopped k t ≡ b → (s : Option (Ticket B)) → at k.entries t ≡ s → StandsAs stands_due (seen_as b s) → (u : ℕ) × (first_due k ≡ Some u) × (u ≤ t)
      go b stopped None there due = absurd due
      go true stopped (Some ticket) there due = absurd (ended ticket.kind ticket.standing due)
      go false live (Some ticket) there due =
          let le : nat_le k.stopped t ≡ true = grind (arith, nat_tests) in
          let passes : is_due k.stopped (t, ticket) ≡ true = ap (λ b. b && stands_due ticket.standing) le ∙ due in
          let found = found_least (is_due k.stopped) 0 k.entries t ticket sound.ascend there passes in
          (found.0.0, ap (option_map (λ entry. entry.0)) found.1, found.2)
