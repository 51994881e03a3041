-- What each call makes of a ticket.
use Rattle.std.proofs.Common.{◌≡◌, ℕ, ◌≤◌, ◌==◌, true, cond, Option, Some, None, List, [], ◌∷◌, fold, refl, sym, ap, ◌∙◌, arith}
use Rattle.std.specs.List.{filter_map}
use Rattle.std.proofs.lemmas.Option.{same_Some}
use Rattle.stateful_history.specs.declared.event.Event.{Event}
use Rattle.stateful_history.specs.declared.event.Event.TheVariants as events
use Rattle.stateful_actor_mailbox.specs.Replies.{note_of}
use Rattle.stateful_actor_mailbox.specs.Messages.{kind_of, event_under}
use Rattle.stateful_actor_mailbox.specs.Tickets.{Book, ticket_of, handing, cancelling, telling, ending, is_queued, told_of}
use Rattle.stateful_actor_mailbox.specs.Mail.{Mail, mail, Asks, HandsOut, Takes, noted, answered}
use Rattle.stateful_actor_mailbox.specs.Mail as mailbox
use Rattle.stateful_actor_mailbox.specs.Laws.{Call, Steps, asks, cancels, takes, hears, polls, ticket_in}
use Rattle.stateful_actor_mailbox.specs.Laws as calls
use Rattle.stateful_actor_mailbox.specs.declared.message.Ask.{Ask}
use Rattle.stateful_actor_mailbox.specs.declared.message.Ask.TheVariants.{Prepare, Propose, Verify, Report, Subscribe}
use Rattle.stateful_actor_mailbox.specs.declared.message.Message.{Message}
use Rattle.stateful_actor_mailbox.specs.declared.note.Note.{Note}
use Rattle.stateful_actor_mailbox.specs.declared.note.Note.TheVariants.{Ends, Stops}
use Rattle.stateful_actor_mailbox.specs.declared.tickets.Ticket.{Ticket}
use Rattle.stateful_actor_mailbox.specs.declared.tickets.Standing.TheVariants.{Queued}
use Rattle.stateful_actor_mailbox.proofs.Seeing.{seen, seen_as, changed, polled_out, seen_moved, seen_cancelled, seen_ended, seen_taken, seen_stopped, seen_opened}
use Rattle.stateful_actor_mailbox.proofs.Moving.{AreSound, opened_sound, handed_sound, cancelled_sound, told_sound, ended_sound, taken_sound, queued_seen, due_seen}

-- ---- what becomes of a ticket

module _ {B : Type 0} (t : ℕ) where
  -- by a note
  abbrev pub noted_as : Option (Ticket B) → Note B → Option (Ticket B)
  noted_as s (Ends u answer) = changed (ending answer) (u == t) s
  noted_as s Stops = seen_as true s

  -- by an event of this ticket that isn't a cancel
  abbrev pub handed_as : Option ℕ → Option (Ticket B) → Option (Ticket B)
  handed_as None s = s
  handed_as (Some u) s = changed handing (u == t) s

module _ {B C I : Type 0} (t : ℕ) where
  -- by an event that is taken out
  abbrev pub event_as : Event B C I → Option (Ticket B) → Option (Ticket B)
  event_as (events.Cancel u) s = changed telling (u == t) s
  event_as event s = handed_as t (ticket_in event) s

  -- by a call
  abbrev pub moved_as : Call B C I → Option (Ticket B) → Option (Ticket B)
  moved_as (calls.asked ask u) s = cond (u == t) (Some (ticket_of (kind_of ask) Queued)) s
  moved_as (calls.cancelled u) s = changed cancelling (u == t) s
  moved_as (calls.taken None) s = s
  moved_as (calls.taken (Some event)) s = event_as event s
  moved_as (calls.told marks) s = fold (noted_as t) s (filter_map note_of marks)
  moved_as (calls.polled_for u answer) s = cond (u == t) (polled_out s) s

  event_of_ask : (u : ℕ) (ask : Ask B C I) (s : Option (Ticket B)) → event_as (event_under u ask) s ≡ changed handing (u == t) s
  event_of_ask u (Prepare context ancestry input) s = refl
  event_of_ask u (Propose context ancestry input) s = refl
  event_of_ask u (Verify ancestry) s = refl
  event_of_ask u (Report b) s = refl
  event_of_ask u Subscribe s = refl

  noted_seen : (m : Mail B C I) (note : Note B) → AreSound m.next_ticket m.tickets → seen (noted m note).tickets t ≡ noted_as t (seen m.tickets t) note
  noted_seen m (Ends u answer) sound = seen_ended m.tickets u t answer
  noted_seen m Stops sound = seen_stopped m.next_ticket m.tickets t sound.below

module _ {B C I : Type 0} where
  noted_sound : (m : Mail B C I) (note : Note B) → AreSound m.next_ticket m.tickets → AreSound (noted m note).next_ticket (noted m note).tickets
  noted_sound m (Ends u answer) sound = ended_sound m.next_ticket m.tickets u answer sound
  noted_sound m Stops sound = record { below = record { fresh = sound.below.fresh; stopped = omega arith }; ascend = sound.ascend }

  noted_number : (m : Mail B C I) (note : Note B) → (noted m note).next_ticket ≡ m.next_ticket
  noted_number m (Ends u answer) = refl
  noted_number m Stops = refl

  -- what notes leave
  pub record Noted (t : ℕ) (m after : Mail B C I) (notes : List (Note B)) : Type 0 where
    pub sound : AreSound after.next_ticket after.tickets
    pub number : after.next_ticket ≡ m.next_ticket
    pub stands : seen after.tickets t ≡ fold (noted_as t) (seen m.tickets t) notes

  all_noted : (t : ℕ) (notes : List (Note B)) (m : Mail B C I) → AreSound m.next_ticket m.tickets → Noted t m (fold noted m notes) notes
  all_noted t [] m sound = record { sound = sound; number = refl; stands = refl }
  all_noted t (note ∷ notes) m sound =
      let rest = all_noted t notes (noted m note) (noted_sound m note sound) in
      record {
        sound = rest.sound;
        number = rest.number ∙ noted_number m note;
        stands = rest.stands ∙ ap (λ s. fold (noted_as t) s notes) (noted_seen t m note sound);
      }

  -- marks leave the numbers of tickets
  pub answered_number : (notes : List (Note B)) (m : Mail B C I) → (fold noted m notes).next_ticket ≡ m.next_ticket
  answered_number [] m = refl
  answered_number (note ∷ notes) m = answered_number notes (noted m note) ∙ noted_number m note

  -- ---- what a call leaves

  pub hands_tickets : (m next : Mail B C I) (found : Option (Message B C I)) → HandsOut m found next → (next.tickets ≡ m.tickets) × (next.next_ticket ≡ m.next_ticket)
  hands_tickets m next found (mailbox.nothing all empty shape) = (refl, refl)
  hands_tickets m next found (mailbox.message passed front all waits shape) = (refl, refl)

  pub hands_queued : (m next : Mail B C I) (found : Option (Message B C I)) (message : Message B C I) → HandsOut m found next → found ≡ Some message → is_queued m.tickets message.ticket ≡ true
  hands_queued m next found message (mailbox.nothing all empty shape) is = absurd (let e = sym is in cc)
  hands_queued m next found message (mailbox.message {first = first} passed front all waits shape) is = ap (λ (w : Message B C I). is_queued m.tickets w.ticket) (sym (same_Some first message is)) ∙ waits

  -- what a call leaves of a ticket, and that tickets are drawn one by one
  pub record Stepped (t : ℕ) (m after : Mail B C I) (call : Call B C I) : Type 0 where
    pub sound : AreSound after.next_ticket after.tickets
    pub number : m.next_ticket ≤ after.next_ticket
    pub stands : seen after.tickets t ≡ moved_as t call (seen m.tickets t)

  taken_step : (t : ℕ) (m after : Mail B C I) (found : Option (Event B C I)) → AreSound m.next_ticket m.tickets → Takes m found after → Stepped t m after (calls.taken found)
  taken_step t m after found sound (mailbox.cancel {t = u} due) =
      let known = due_seen m.next_ticket m.tickets u sound due in
      record {
        sound = told_sound m.next_ticket m.tickets sound;
        number = omega arith;
        stands = ap (λ o. seen (told_of m.tickets o) t) due ∙ seen_moved m.tickets u t telling known.0;
      }
  taken_step t m after found sound (mailbox.event {message = message} {next = next} none hands) =
      let same = hands_tickets m next (Some message) hands in
      let known = queued_seen m.tickets message.ticket (hands_queued m next (Some message) message hands refl) in
      record {
        sound = rw same.1 (handed_sound m.next_ticket m.tickets message.ticket sound);
        number = let e = same.1 in omega arith;
        stands = seen_moved m.tickets message.ticket t handing known.0 ∙ sym (event_of_ask t message.ticket message.ask (seen m.tickets t));
      }
  taken_step t m after found sound (mailbox.nothing {next = next} none hands) =
      let same = hands_tickets m next None hands in
      record {
        sound = rw (same.0, same.1) sound;
        number = let e = same.1 in omega arith;
        stands = ap (λ (k : Book B). seen k t) same.0;
      }

  asked_step : (t : ℕ) (m after : Mail B C I) (ask : Ask B C I) (ticket : ℕ) (feedback : _) → AreSound m.next_ticket m.tickets → Asks m ask feedback ticket after → Stepped t m after (calls.asked ask ticket)
  asked_step t m after ask ticket feedback sound does =
      rw (does.others, does.drawn) (record {
        sound = opened_sound m.next_ticket m.tickets (kind_of ask) sound;
        number = omega arith;
        stands = seen_opened m.next_ticket m.tickets t (kind_of ask) sound.below;
      })

  pub stepped : (t : ℕ) (m after : Mail B C I) (call : Call B C I) → AreSound m.next_ticket m.tickets → Steps m call after → Stepped t m after call
  stepped t m after call sound (asks {ask = ask} {ticket = ticket} feedback does) = asked_step t m after ask ticket feedback sound does
  stepped t m after call sound (cancels {t = u}) = record {
    sound = cancelled_sound m.next_ticket m.tickets u sound;
    number = omega arith;
    stands = seen_cancelled m.tickets u t;
  }
  stepped t m after call sound (takes {found = found} does) = taken_step t m after found sound does
  stepped t m after call sound (hears {marks = marks}) =
      let noted = all_noted t (filter_map note_of marks) m sound in
      record { sound = noted.sound; number = let e = noted.number in omega arith; stands = noted.stands }
  stepped t m after call sound (polls {t = u}) = record {
    sound = taken_sound m.next_ticket m.tickets u sound;
    number = omega arith;
    stands = seen_taken m.tickets u t;
  }
