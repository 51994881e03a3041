-- How a ticket ends, over calls.
use Rattle.std.proofs.Common.{◌≡◌, ◌≢◌, ℕ, ◌==◌, Bool, true, false, cond, Option, Some, None, Result, Ok, Err, List, [], ◌∷◌, fold, All, refl, sym, ap, subst, ◌∙◌}
use Rattle.std.specs.Prelude.{is_some}
use Rattle.std.specs.List.{filter_map}
use Rattle.std.proofs.lemmas.Bool.{eqb-true}
use Rattle.std.proofs.lemmas.List.Elements.{All-head, All-tail}
use Rattle.stateful_base.specs.declared.outcome.Moved.{Moved}
use Rattle.stateful_base.specs.declared.outcome.Moved.TheVariants.{Pending}
use Rattle.stateful_history.specs.declared.event.Event.{Event}
use Rattle.stateful_actor_mailbox.specs.Replies.{is_request, note_of}
use Rattle.stateful_actor_mailbox.specs.Messages.{kind_of}
use Rattle.stateful_actor_mailbox.specs.Tickets.{ticket_of, end_of, stands_due, stands_queued, handing, cancelling, cancelling_from, telling}
use Rattle.stateful_actor_mailbox.specs.Mail.{Mail, polled_as}
use Rattle.stateful_actor_mailbox.specs.Laws.{Call, Steps, ticket_in, marks_of, ended_in, HandsReply, Runs}
use Rattle.stateful_actor_mailbox.specs.Laws as calls
use Rattle.stateful_actor_mailbox.specs.declared.reply.Kind.{Kind}
use Rattle.stateful_actor_mailbox.specs.declared.reply.Reply.{Reply}
use Rattle.stateful_actor_mailbox.specs.declared.reply.Stopped.{Stopped}
use Rattle.stateful_actor_mailbox.specs.declared.tickets.Ticket.{Ticket}
use Rattle.stateful_actor_mailbox.specs.declared.tickets.Standing.{Standing}
use Rattle.stateful_actor_mailbox.specs.declared.tickets.Standing.TheVariants.{Queued, Handed, Due, Cancelled, Ended}
use Rattle.stateful_actor_mailbox.proofs.Books.{or_same}
use Rattle.stateful_actor_mailbox.proofs.Seeing.{end_seen, changed, polled_out}
use Rattle.stateful_actor_mailbox.proofs.Moving.{StandsAs}
use Rattle.stateful_actor_mailbox.proofs.Stepping.{noted_as, event_as, moved_as}
use Rattle.stateful_actor_mailbox.proofs.Fates.{or_else, or_none, or_assoc, end_told, EndsAs, marks_end}
use Rattle.stateful_actor_mailbox.proofs.Following.{Means, cancel, hands, other, meaning, Fits, Keeps, one_kept, ended_more}

-- what is told of a ticket that has ended isn't that it is pending
pub told_ended : {B : Type 0} (o : Result (Reply B) Stopped) → polled_as (Some o) ≡ Ok Pending → ⊥
told_ended (Ok reply) is = cc
told_ended (Err stopped) is = cc

module _ {B : Type 0} where
  due_open : (standing : Standing B) → stands_due standing ≡ true → end_of standing ≡ None
  due_open Queued is = refl
  due_open Handed is = refl
  due_open Due is = refl
  due_open Cancelled is = refl
  due_open (Ended outcome) is = absurd (cc)

  queued_open : (standing : Standing B) → stands_queued standing ≡ true → end_of standing ≡ None
  queued_open Queued is = refl
  queued_open Handed is = refl
  queued_open Due is = refl
  queued_open Cancelled is = refl
  queued_open (Ended outcome) is = absurd (cc)

module _ {B : Type 0} (t : ℕ) (kind : Kind) where
  abbrev Ends : Option (Ticket B) → Option (Result (Reply B) Stopped) → Type 0
  Ends s o = EndsAs t kind s o

  unmarked : (s : Option (Ticket B)) (o : Option (Result (Reply B) Stopped)) → Ends s o → Ends s (or_else o None)
  unmarked s o ends = (ends.0, ends.1, ends.2 ∙ sym (or_none o))

  cancel_ends : (standing : Standing B) (r : Bool) → Ends (or_same (cond r (cancelling_from kind standing) None) (Some (ticket_of kind standing))) (end_of standing)
  cancel_ends standing false = (standing, refl, refl)
  cancel_ends Queued true = (Cancelled, refl, refl)
  cancel_ends Handed true = (Due, refl, refl)
  cancel_ends Due true = (Due, refl, refl)
  cancel_ends Cancelled true = (Cancelled, refl, refl)
  cancel_ends (Ended outcome) true = (Ended outcome, refl, refl)

  cancelled_ends : (b : Bool) (s : Option (Ticket B)) (o : Option (Result (Reply B) Stopped)) → Ends s o → Ends (changed cancelling b s) o
  cancelled_ends false s o ends = ends
  cancelled_ends true s o (standing, is, end) =
      subst (λ (w : Option (Ticket B)). Ends (or_same (cancelling w) w) o) (sym is) (let e = cancel_ends standing (is_request kind) in (e.0, e.1, e.2 ∙ end))

  told_ends : (b : Bool) (s : Option (Ticket B)) (o : Option (Result (Reply B) Stopped)) → (b ≡ true → StandsAs stands_due s) → Ends s o → Ends (changed telling b s) o
  told_ends false s o due ends = ends
  told_ends true s o due (standing, is, end) =
      let none = due_open standing (subst (StandsAs stands_due) is (due refl)) in
      subst (λ (w : Option (Ticket B)). Ends (or_same (telling w) w) o) (sym is) (Cancelled, refl, sym none ∙ end)

  handed_ends : (b : Bool) (s : Option (Ticket B)) (o : Option (Result (Reply B) Stopped)) → (b ≡ true → StandsAs stands_queued s) → Ends s o → Ends (changed handing b s) o
  handed_ends false s o queued ends = ends
  handed_ends true s o queued (standing, is, end) =
      let none = queued_open standing (subst (StandsAs stands_queued) is (queued refl)) in
      subst (λ (w : Option (Ticket B)). Ends (or_same (handing w) w) o) (sym is) (Handed, refl, sym none ∙ end)

  poll_ends : (u : ℕ) (answer : Result (Moved (Reply B)) Stopped) (s : Option (Ticket B)) (o : Option (Result (Reply B) Stopped))
      → (u ≡ t → answer ≡ polled_as (end_seen s)) → ((u ≡ t) × (answer ≢ Ok Pending) → ⊥) → Ends s o → Ends (cond (u == t) (polled_out s) s) o
  poll_ends u answer s o fit silent (standing, is, end) = go (u == t) refl o end
    where
      go : (b : Bool) → (u == t) ≡ b → (o : Option (Result (Reply B) Stopped)) → end_of standing ≡ o → Ends (cond b (polled_out s) s) o
      go false apart o end = (standing, is, end)
      go true same None end = (standing, ap (λ w. cond (is_some w) None s) (ap end_seen is ∙ end) ∙ is, end)
      go true same (Some x) end =
          let num = eqb-true u t same in
          absurd (silent (num, λ pending. told_ended x (sym (ap polled_as (ap end_seen is ∙ end)) ∙ sym (fit num) ∙ pending)))

module _ {B C I : Type 0} (t : ℕ) (kind : Kind) where
  event_ends : (event : Event B C I) (s : Option (Ticket B)) (o : Option (Result (Reply B) Stopped)) → Fits t (calls.taken (Some event)) s → EndsAs t kind s o → EndsAs t kind (event_as t event s) o
  event_ends event s o fit ends = go (meaning t event)
    where
      go : Means t event → EndsAs t kind (event_as t event s) o
      go (cancel u is) =
          subst (λ (e : Event B C I). EndsAs t kind (event_as t e s) o) (sym is)
          (told_ends t kind (u == t) s o (λ same. (subst (λ (e : Event B C I). Fits t (calls.taken (Some e)) s) is fit) (ap Some (eqb-true u t same))) ends)
      go (hands u of plain gives) =
          subst (λ w. EndsAs t kind w o) (sym (gives s))
          (handed_ends t kind (u == t) s o (λ same. subst (λ (b : Bool). StandsAs (cond b stands_due stands_queued) s) plain (fit (of ∙ ap Some (eqb-true u t same)))) ends)
      go (other none gives) = subst (λ w. EndsAs t kind w o) (sym (gives s)) ends

  -- what a call makes of the end
  pub call_ends : (call : Call B C I) (s : Option (Ticket B)) (o : Option (Result (Reply B) Stopped)) → Fits t call s → (HandsReply t call → ⊥) → EndsAs t kind s o
      → EndsAs t kind (moved_as t call s) (or_else o (end_told t kind (marks_of call)))
  call_ends (calls.asked ask u) s o fit silent ends = unmarked t kind _ o (subst (λ b. EndsAs t kind (cond b (Some (ticket_of (kind_of ask) Queued)) s) o) (sym fit) ends)
  call_ends (calls.cancelled u) s o fit silent ends = unmarked t kind _ o (cancelled_ends t kind (u == t) s o ends)
  call_ends (calls.taken None) s o fit silent ends = unmarked t kind _ o ends
  call_ends (calls.taken (Some event)) s o fit silent ends = unmarked t kind _ o (event_ends event s o fit ends)
  call_ends (calls.polled_for u answer) s o fit silent ends = unmarked t kind _ o (poll_ends t kind u answer s o fit silent ends)
  call_ends (calls.told marks) s o fit silent (standing, is, end) =
      let told = marks_end t kind marks standing in
      (told.0, ap (λ w. fold (noted_as t) w (filter_map note_of marks)) is ∙ told.1, told.2 ∙ ap (λ w. or_else w (end_told t kind marks)) end)

  -- what calls make of it, until it is handed out
  pub calls_end : (list : List (Call B C I)) (m last : Mail B C I) (o : Option (Result (Reply B) Stopped)) → All (λ call. HandsReply t call → ⊥) list → Runs m list last
      → Keeps t (λ s. EndsAs t kind s o) m → Keeps t (λ s. EndsAs t kind s (or_else o (ended_in t kind list))) last
  calls_end [] m last o silent runs keeps = subst (λ (w : Mail B C I). Keeps t (λ s. EndsAs t kind s (or_else o None)) w) (sym runs) (record { sound = keeps.sound; drawn = keeps.drawn; holds = unmarked t kind _ o keeps.holds })
  calls_end (call ∷ list) m last o silent runs keeps =
      let behind = one_kept t (λ s. EndsAs t kind s o) (λ s. EndsAs t kind s (or_else o (end_told t kind (marks_of call)))) m runs.0 call
      (λ s fit ends. call_ends call s o fit (All-head (λ call. HandsReply t call → ⊥) call list silent) ends) runs.1 keeps in
      let rest = calls_end list runs.0 last (or_else o (end_told t kind (marks_of call))) (All-tail (λ call. HandsReply t call → ⊥) call list silent) runs.2 behind in
      subst (λ w. Keeps t (λ s. EndsAs t kind s w) last) (or_assoc o (end_told t kind (marks_of call)) (ended_in t kind list) ∙ sym (ap (or_else o) (ended_more t kind call list))) rest
