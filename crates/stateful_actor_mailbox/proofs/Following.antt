-- What is kept of a ticket over calls.
use Rattle.std.proofs.Common.{◌≡◌, ℕ, ◌<◌, ◌==◌, Bool, true, false, cond, Option, Some, None, List, [], ◌∷◌, All, refl, sym, ap, subst, ◌∙◌, arith}
use Rattle.std.specs.Prelude.{slice_get}
use Rattle.std.specs.List.{filter_map, flat_map}
use Rattle.std.proofs.lemmas.Bool.Decides.{nat_tests}
use Rattle.std.proofs.lemmas.List.Elements.{All-head, All-tail, filter_map-append}
use Rattle.std.proofs.lemmas.Option.{same_Some}
use Rattle.stateful_history.specs.declared.event.Event.{Event}
use Rattle.stateful_history.specs.declared.event.Event.TheVariants as events
use Rattle.stateful_actor_mailbox.specs.Messages.{event_under}
use Rattle.stateful_actor_mailbox.specs.Tickets.{stands_due, stands_queued, handing}
use Rattle.stateful_actor_mailbox.specs.Mail.{Mail, HandsOut, Takes, polled_as}
use Rattle.stateful_actor_mailbox.specs.Mail as mailbox
use Rattle.stateful_actor_mailbox.specs.Laws.{Call, Steps, asks, cancels, takes, hears, polls, ticket_in, end_by, marks_of, ended_in, HandsReply, TakesOut, Runs}
use Rattle.stateful_actor_mailbox.specs.Laws as calls
use Rattle.stateful_actor_mailbox.specs.declared.message.Ask.{Ask}
use Rattle.stateful_actor_mailbox.specs.declared.message.Ask.TheVariants.{Prepare, Propose, Verify, Report, Subscribe}
use Rattle.stateful_actor_mailbox.specs.declared.reply.Kind.{Kind}
use Rattle.stateful_actor_mailbox.specs.declared.tickets.Ticket.{Ticket}
use Rattle.stateful_actor_mailbox.proofs.Seeing.{seen, end_seen, changed, outcome_seen}
use Rattle.stateful_actor_mailbox.proofs.Moving.{AreSound, StandsAs, queued_seen, due_seen}
use Rattle.stateful_actor_mailbox.proofs.Stepping.{event_as, moved_as, stepped, hands_queued}
use Rattle.stateful_actor_mailbox.proofs.Fates.{or_else, first_append, end_told}

module _ {B C I : Type 0} where
  -- ---- events

  abbrev pub is_cancel : Event B C I → Bool
  is_cancel (events.Cancel u) = true
  is_cancel event = false

  -- what an event is to a ticket: a cancel, a message that is handed out, or neither
  pub data Means (t : ℕ) (event : Event B C I) : Type 0 where
    cancel : (u : ℕ) → event ≡ events.Cancel u → Means t event
    hands : (u : ℕ) → ticket_in event ≡ Some u → is_cancel event ≡ false → ((s : Option (Ticket B)) → event_as t event s ≡ changed handing (u == t) s) → Means t event
    other : ticket_in event ≡ None → ((s : Option (Ticket B)) → event_as t event s ≡ s) → Means t event

  pub meaning : (t : ℕ) (event : Event B C I) → Means t event
  meaning t (events.Cancel u) = cancel u refl
  meaning t (events.Verify u ancestry) = hands u refl refl (λ s. refl)
  meaning t (events.Prepare u context ancestry input) = hands u refl refl (λ s. refl)
  meaning t (events.Propose u context ancestry input) = hands u refl refl (λ s. refl)
  meaning t (events.Finalized u b) = hands u refl refl (λ s. refl)
  meaning t (events.Subscribe u) = hands u refl refl (λ s. refl)
  meaning t event = other refl (λ s. refl)

  ask_ticket : (u : ℕ) (ask : Ask B C I) → (ticket_in (event_under u ask) ≡ Some u) × (is_cancel (event_under u ask) ≡ false)
  ask_ticket u (Prepare context ancestry input) = (refl, refl)
  ask_ticket u (Propose context ancestry input) = (refl, refl)
  ask_ticket u (Verify ancestry) = (refl, refl)
  ask_ticket u (Report b) = (refl, refl)
  ask_ticket u Subscribe = (refl, refl)

  -- ---- which calls fit a ticket that was drawn

  -- A further ticket is another one. What is taken out of this ticket was queued, or its cancel was due. What is handed out
  -- of it is how it has ended.
  abbrev pub Fits : ℕ → Call B C I → Option (Ticket B) → Type 0
  Fits t (calls.asked ask u) s = (u == t) ≡ false
  Fits t (calls.taken (Some event)) s = ticket_in event ≡ Some t → StandsAs (cond (is_cancel event) stands_due stands_queued) s
  Fits t (calls.polled_for u answer) s = u ≡ t → answer ≡ polled_as (end_seen s)
  Fits t call s = Unit {0}

  pub taken_fits : (t : ℕ) (m : Mail B C I) (found : Option (Event B C I)) (after : Mail B C I) → AreSound m.next_ticket m.tickets → Takes m found after → Fits t (calls.taken found) (seen m.tickets t)
  taken_fits t m found after sound (mailbox.cancel {t = u} due) =
      λ (is : Some u ≡ Some t). subst (λ (w : ℕ). StandsAs stands_due (seen m.tickets w)) (same_Some u t is) (due_seen m.next_ticket m.tickets u sound due).1
  taken_fits t m found after sound (mailbox.event {message = message} {next = next} none gives) =
      let u = message.ticket in
      let of = ask_ticket u message.ask in
      λ (is : ticket_in (event_under u message.ask) ≡ Some t).
      subst (λ (b : Bool). StandsAs (cond b stands_due stands_queued) (seen m.tickets t)) (sym of.1)
      (subst (λ (w : ℕ). StandsAs stands_queued (seen m.tickets w)) (same_Some u t (sym of.0 ∙ is)) (queued_seen m.tickets u (hands_queued m next (Some message) message gives refl)).1)
  taken_fits t m found after sound (mailbox.nothing none gives) = tt

  pub fits : (t : ℕ) (m after : Mail B C I) (call : Call B C I) → AreSound m.next_ticket m.tickets → t < m.next_ticket → Steps m call after → Fits t call (seen m.tickets t)
  fits t m after call sound drawn (asks {ask = ask} {ticket = u} feedback does) = let e = does.drawn in grind (arith, nat_tests)
  fits t m after call sound drawn cancels = tt
  fits t m after call sound drawn hears = tt
  fits t m after call sound drawn (polls {t = u}) =
      λ (same : u ≡ t). ap polled_as (outcome_seen m.tickets u ∙ ap (λ w. end_seen (seen m.tickets w)) same)
  fits t m after call sound drawn (takes {found = found} does) = taken_fits t m found after sound does

  -- ---- over calls

  -- what each call keeps of a ticket is kept
  pub record Keeps (t : ℕ) (P : Option (Ticket B) → Type 0) (m : Mail B C I) : Type 0 where
    pub sound : AreSound m.next_ticket m.tickets
    pub drawn : t < m.next_ticket
    pub holds : P (seen m.tickets t)

  pub one_kept : (t : ℕ) (P Q : Option (Ticket B) → Type 0) (m after : Mail B C I) (call : Call B C I)
      → ((s : Option (Ticket B)) → Fits t call s → P s → Q (moved_as t call s)) → Steps m call after → Keeps t P m → Keeps t Q after
  one_kept t P Q m after call each step keeps =
      let does = stepped t m after call keeps.sound step in
      record {
        sound = does.sound;
        drawn = let d = keeps.drawn in let n = does.number in omega arith;
        holds = subst Q (sym does.stands) (each (seen m.tickets t) (fits t m after call keeps.sound keeps.drawn step) keeps.holds);
      }

  pub all_kept : (t : ℕ) (P : Option (Ticket B) → Type 0) (Fine : Call B C I → Type 0)
      → ((call : Call B C I) (s : Option (Ticket B)) → Fine call → Fits t call s → P s → P (moved_as t call s))
      → (list : List (Call B C I)) (m last : Mail B C I) → All Fine list → Runs m list last → Keeps t P m → Keeps t P last
  all_kept t P Fine each [] m last fine runs keeps = subst (Keeps t P) (sym runs) keeps
  all_kept t P Fine each (call ∷ list) m last fine runs keeps =
      all_kept t P Fine each list runs.0 last (All-tail Fine call list fine) runs.2
      (one_kept t P P m runs.0 call (λ s fit holds. each call s (All-head Fine call list fine) fit holds) runs.1 keeps)

  -- ---- how it ends

  -- the end that calls tell of, of one call and of those behind it
  pub ended_more : (t : ℕ) (kind : Kind) (call : Call B C I) (list : List (Call B C I)) → ended_in t kind (call ∷ list) ≡ or_else (end_told t kind (marks_of call)) (ended_in t kind list)
  ended_more t kind call list =
      ap (λ xs. slice_get xs 0) (filter_map-append (end_by t kind) (marks_of call) (flat_map marks_of list))
      ∙ first_append (filter_map (end_by t kind) (marks_of call)) (filter_map (end_by t kind) (flat_map marks_of list))
