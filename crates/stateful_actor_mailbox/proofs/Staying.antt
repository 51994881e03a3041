-- What a ticket can't become any more, over calls.
use Rattle.std.proofs.Common.{◌≡◌, ℕ, ◌==◌, Bool, true, false, cond, Option, Some, None, Result, List, [], ◌∷◌, fold, refl, sym, ap, subst, ◌∙◌}
use Rattle.std.specs.Prelude.{is_some}
use Rattle.std.specs.List.{filter_map}
use Rattle.std.proofs.lemmas.Bool.{eqb-true}
use Rattle.stateful_history.specs.declared.event.Event.{Event}
use Rattle.stateful_actor_mailbox.specs.Replies.{is_request, note_of, outcome, gone}
use Rattle.stateful_actor_mailbox.specs.Messages.{kind_of}
use Rattle.stateful_actor_mailbox.specs.Tickets.{ticket_of, end_of, stands_due, stands_queued, handing, cancelling, cancelling_from, telling, ended_by, ending}
use Rattle.stateful_actor_mailbox.specs.Laws.{Call, ticket_in, marks_of, TakesOut}
use Rattle.stateful_actor_mailbox.specs.Laws as calls
use Rattle.stateful_actor_mailbox.specs.declared.note.Note.{Note}
use Rattle.stateful_actor_mailbox.specs.declared.note.Note.TheVariants.{Ends, Stops}
use Rattle.stateful_actor_mailbox.specs.declared.reply.Kind.{Kind}
use Rattle.stateful_actor_mailbox.specs.declared.reply.Reply.{Reply}
use Rattle.stateful_actor_mailbox.specs.declared.reply.Stopped.{Stopped}
use Rattle.stateful_actor_mailbox.specs.declared.tickets.Ticket.{Ticket}
use Rattle.stateful_actor_mailbox.specs.declared.tickets.Standing.{Standing}
use Rattle.stateful_actor_mailbox.specs.declared.tickets.Standing.TheVariants.{Queued, Handed, Due, Cancelled, Ended}
use Rattle.stateful_actor_mailbox.proofs.Books.{or_same}
use Rattle.stateful_actor_mailbox.proofs.Seeing.{stopped_standing, end_seen, changed, polled_out}
use Rattle.stateful_actor_mailbox.proofs.Moving.{StandsAs}
use Rattle.stateful_actor_mailbox.proofs.Stepping.{noted_as, event_as, moved_as}
use Rattle.stateful_actor_mailbox.proofs.Fates.{end_told, quiet_marks}
use Rattle.stateful_actor_mailbox.proofs.Following.{Means, cancel, hands, other, meaning, Fits}

module _ {B : Type 0} where
  -- queued, or ended before it was handed out
  abbrev pub is_early : Standing B → Bool
  is_early Handed = false
  is_early Due = false
  is_early standing = true

  -- there is nothing more to hand out of it
  abbrev pub is_settled : Standing B → Bool
  is_settled Cancelled = true
  is_settled (Ended outcome) = true
  is_settled standing = false

  abbrev pub isnt_queued : Standing B → Bool
  isnt_queued Queued = false
  isnt_queued standing = true

  abbrev pub is_queued_or_cancelled : Standing B → Bool
  is_queued_or_cancelled Queued = true
  is_queued_or_cancelled Cancelled = true
  is_queued_or_cancelled standing = false

  abbrev pub is_handed_or_due : Standing B → Bool
  is_handed_or_due Handed = true
  is_handed_or_due Due = true
  is_handed_or_due standing = false

  -- it isn't there any more, or is of this kind and passes
  abbrev pub Passing : Kind → (Standing B → Bool) → Option (Ticket B) → Type 0
  Passing kind test None = Unit {0}
  Passing kind test (Some ticket) = (ticket.kind ≡ kind) × (test ticket.standing ≡ true)

  -- a test that a ticket keeps, unless its message is handed out
  pub record IsKept (test : Standing B → Bool) : Type 0 where
    pub ended : (o : Result (Reply B) Stopped) → test (Ended o) ≡ true
    pub cancelled : test Cancelled ≡ true
    pub due : test Handed ≡ true → test Due ≡ true

  pub early_kept : IsKept is_early
  early_kept = record { ended = λ o. refl; cancelled = refl; due = λ is. absurd (cc) }

  pub settled_kept : IsKept is_settled
  settled_kept = record { ended = λ o. refl; cancelled = refl; due = λ is. absurd (cc) }

  pub not_queued_kept : IsKept isnt_queued
  not_queued_kept = record { ended = λ o. refl; cancelled = refl; due = λ is. refl }

  module _ (t : ℕ) (kind : Kind) (test : Standing B → Bool) (kept : IsKept test) where
    stopped_passes : (k : Kind) (standing : Standing B) → test (stopped_standing k standing) ≡ true
    stopped_passes k Queued = kept.ended (gone k)
    stopped_passes k Handed = kept.ended (gone k)
    stopped_passes k Due = kept.ended (gone k)
    stopped_passes k Cancelled = kept.ended (gone k)
    stopped_passes k (Ended o) = kept.ended o

    ending_passes : (ticket : Ticket B) (c : Bool) (e : Option (Result (Reply B) Stopped)) → Passing kind test (Some ticket) → Passing kind test (or_same (cond c None (ended_by ticket.kind e)) (Some ticket))
    ending_passes ticket true e passes = passes
    ending_passes ticket false None passes = passes
    ending_passes ticket false (Some o) passes = (passes.0, kept.ended o)

    note_passes : (s : Option (Ticket B)) (note : Note B) → Passing kind test s → Passing kind test (noted_as t s note)
    note_passes None Stops passes = tt
    note_passes (Some ticket) Stops passes = (passes.0, stopped_passes ticket.kind ticket.standing)
    note_passes s (Ends u answer) passes = go (u == t) s passes
      where
        go : (b : Bool) (s : Option (Ticket B)) → Passing kind test s → Passing kind test (changed (ending answer) b s)
        go false s passes = passes
        go true None passes = tt
        go true (Some ticket) passes = ending_passes ticket (is_some (end_of ticket.standing)) (outcome ticket.kind answer) passes

    notes_pass : (notes : List (Note B)) (s : Option (Ticket B)) → Passing kind test s → Passing kind test (fold (noted_as t) s notes)
    notes_pass [] s passes = passes
    notes_pass (note ∷ notes) s passes = notes_pass notes (noted_as t s note) (note_passes s note passes)

    cancel_passes : (b : Bool) (s : Option (Ticket B)) → Passing kind test s → Passing kind test (changed cancelling b s)
    cancel_passes false s passes = passes
    cancel_passes true None passes = tt
    cancel_passes true (Some ticket) passes = go (is_request ticket.kind) ticket.standing passes.1
      where
        go : (r : Bool) (standing : Standing B) → test standing ≡ true → Passing kind test (or_same (cond r (cancelling_from ticket.kind standing) None) (Some (ticket_of ticket.kind standing)))
        go false standing is = (passes.0, is)
        go true Queued is = (passes.0, kept.cancelled)
        go true Handed is = (passes.0, kept.due is)
        go true Due is = (passes.0, is)
        go true Cancelled is = (passes.0, is)
        go true (Ended o) is = (passes.0, is)

    told_passes : (b : Bool) (s : Option (Ticket B)) → Passing kind test s → Passing kind test (changed telling b s)
    told_passes false s passes = passes
    told_passes true None passes = tt
    told_passes true (Some ticket) passes = (passes.0, kept.cancelled)

    poll_passes : (b : Bool) (s : Option (Ticket B)) → Passing kind test s → Passing kind test (cond b (polled_out s) s)
    poll_passes false s passes = passes
    poll_passes true s passes = go (is_some (end_seen s))
      where
        go : (c : Bool) → Passing kind test (cond c None s)
        go true = tt
        go false = passes

    handed_passes : (b : Bool) (s : Option (Ticket B)) → (b ≡ true → StandsAs stands_queued s) → (b ≡ true → test Queued ≡ true → ⊥) → Passing kind test s → Passing kind test (changed handing b s)
    handed_passes false s queued never passes = passes
    handed_passes true None queued never passes = tt
    handed_passes true (Some ticket) queued never passes = absurd (go ticket.standing (queued refl) passes.1)
      where
        go : (standing : Standing B) → stands_queued standing ≡ true → test standing ≡ true → ⊥
        go Queued is passes = never refl passes
        go Handed is passes = absurd (cc)
        go Due is passes = absurd (cc)
        go Cancelled is passes = absurd (cc)
        go (Ended o) is passes = absurd (cc)

module _ {B C I : Type 0} (t : ℕ) (kind : Kind) (test : Standing B → Bool) (kept : IsKept test) where
  -- calls that don't hand out what is queued, where the test lets queued ones pass
  abbrev pub IsFine : Call B C I → Type 0
  IsFine call = test Queued ≡ true → TakesOut t call → ⊥

  event_passes : (event : Event B C I) (s : Option (Ticket B)) → IsFine (calls.taken (Some event)) → Fits t (calls.taken (Some event)) s → Passing kind test s → Passing kind test (event_as t event s)
  event_passes event s fine fit passes = go (meaning t event)
    where
      go : Means t event → Passing kind test (event_as t event s)
      go (cancel u is) = subst (λ (e : Event B C I). Passing kind test (event_as t e s)) (sym is) (told_passes t kind test kept (u == t) s passes)
      go (hands u of plain gives) =
          subst (Passing kind test) (sym (gives s))
          (handed_passes t kind test kept (u == t) s
          (λ same. subst (λ (b : Bool). StandsAs (cond b stands_due stands_queued) s) plain (fit (of ∙ ap Some (eqb-true u t same))))
          (λ same queued. fine queued (of ∙ ap Some (eqb-true u t same))) passes)
      go (other none gives) = subst (Passing kind test) (sym (gives s)) passes

  pub call_passes : (call : Call B C I) (s : Option (Ticket B)) → IsFine call → Fits t call s → Passing kind test s → Passing kind test (moved_as t call s)
  call_passes (calls.asked ask u) s fine fit passes = subst (λ b. Passing kind test (cond b (Some (ticket_of (kind_of ask) Queued)) s)) (sym fit) passes
  call_passes (calls.cancelled u) s fine fit passes = cancel_passes t kind test kept (u == t) s passes
  call_passes (calls.taken None) s fine fit passes = passes
  call_passes (calls.taken (Some event)) s fine fit passes = event_passes event s fine fit passes
  call_passes (calls.told marks) s fine fit passes = notes_pass t kind test kept (filter_map note_of marks) s passes
  call_passes (calls.polled_for u answer) s fine fit passes = poll_passes t kind test kept (u == t) s passes

-- ---- tickets that nothing ends and of which nothing is taken out

module _ {B : Type 0} where
  -- it is there, of this kind, and passes
  abbrev pub IsThere : Kind → (Standing B → Bool) → Option (Ticket B) → Type 0
  IsThere kind test s = (standing : Standing B) × (s ≡ Some (ticket_of kind standing)) × (test standing ≡ true)

  -- a test that a ticket keeps which isn't ended, unless something of it is taken out
  pub record IsStable (test : Standing B → Bool) : Type 0 where
    pub live : (standing : Standing B) → test standing ≡ true → end_of standing ≡ None
    pub cancelled : test Queued ≡ true → test Cancelled ≡ true
    pub due : test Handed ≡ true → test Due ≡ true

  pub queued_stable : IsStable is_queued_or_cancelled
  queued_stable = record { live = live; cancelled = λ is. refl; due = λ is. absurd (cc) }
    where
      live : (standing : Standing B) → is_queued_or_cancelled standing ≡ true → end_of standing ≡ None
      live (Ended o) is = absurd (cc)
      live Queued is = refl
      live Handed is = refl
      live Due is = refl
      live Cancelled is = refl

  pub handed_stable : IsStable is_handed_or_due
  handed_stable = record { live = live; cancelled = λ is. absurd (cc); due = λ is. refl }
    where
      live : (standing : Standing B) → is_handed_or_due standing ≡ true → end_of standing ≡ None
      live (Ended o) is = absurd (cc)
      live Queued is = refl
      live Handed is = refl
      live Due is = refl
      live Cancelled is = refl

  pub due_stable : IsStable stands_due
  due_stable = record { live = live; cancelled = λ is. absurd (cc); due = λ is. refl }
    where
      live : (standing : Standing B) → stands_due standing ≡ true → end_of standing ≡ None
      live (Ended o) is = absurd (cc)
      live Queued is = refl
      live Handed is = refl
      live Due is = refl
      live Cancelled is = refl

  module _ (t : ℕ) (kind : Kind) (test : Standing B → Bool) (stable : IsStable test) where
    cancel_stays : (b : Bool) (s : Option (Ticket B)) → IsThere kind test s → IsThere kind test (changed cancelling b s)
    cancel_stays false s there = there
    cancel_stays true s (standing, is, passes) = subst (λ (w : Option (Ticket B)). IsThere kind test (or_same (cancelling w) w)) (sym is) (go (is_request kind) standing passes)
      where
        go : (r : Bool) (standing : Standing B) → test standing ≡ true → IsThere kind test (or_same (cond r (cancelling_from kind standing) None) (Some (ticket_of kind standing)))
        go false standing passes = (standing, refl, passes)
        go true Queued passes = (Cancelled, refl, stable.cancelled passes)
        go true Handed passes = (Due, refl, stable.due passes)
        go true Due passes = (Due, refl, passes)
        go true Cancelled passes = (Cancelled, refl, passes)
        go true (Ended o) passes = (Ended o, refl, passes)

    poll_stays : (b : Bool) (s : Option (Ticket B)) → IsThere kind test s → IsThere kind test (cond b (polled_out s) s)
    poll_stays false s there = there
    poll_stays true s (standing, is, passes) = (standing, ap (λ w. cond (is_some w) None s) (ap end_seen is ∙ stable.live standing passes) ∙ is, passes)

module _ {B C I : Type 0} (t : ℕ) (kind : Kind) where
  -- a call that takes nothing of it out and tells of no mark that ends it
  abbrev pub IsQuiet : Call B C I → Type 0
  IsQuiet call = (TakesOut t call → ⊥) × (end_told t kind (marks_of call) ≡ None)

module _ {B C I : Type 0} (t : ℕ) (kind : Kind) (test : Standing B → Bool) (stable : IsStable test) where
  event_stays : (event : Event B C I) (s : Option (Ticket B)) → (ticket_in event ≡ Some t → ⊥) → IsThere kind test s → IsThere kind test (event_as t event s)
  event_stays event s never there = go (meaning t event)
    where
      apart : (change : Option (Ticket B) → Option (Ticket B)) (u : ℕ) (b : Bool) → (u == t) ≡ b → ticket_in event ≡ Some u → IsThere kind test (changed change b s)
      apart change u false away of = there
      apart change u true same of = absurd (never (of ∙ ap Some (eqb-true u t same)))

      go : Means t event → IsThere kind test (event_as t event s)
      go (cancel u is) = subst (λ (e : Event B C I). IsThere kind test (event_as t e s)) (sym is) (apart telling u (u == t) refl (ap ticket_in is))
      go (hands u of plain gives) = subst (IsThere kind test) (sym (gives s)) (apart handing u (u == t) refl of)
      go (other none gives) = subst (IsThere kind test) (sym (gives s)) there

  pub call_stays : (call : Call B C I) (s : Option (Ticket B)) → IsQuiet t kind call → Fits t call s → IsThere kind test s → IsThere kind test (moved_as t call s)
  call_stays (calls.asked ask u) s quiet fit there = subst (λ b. IsThere kind test (cond b (Some (ticket_of (kind_of ask) Queued)) s)) (sym fit) there
  call_stays (calls.cancelled u) s quiet fit there = cancel_stays t kind test stable (u == t) s there
  call_stays (calls.taken None) s quiet fit there = there
  call_stays (calls.taken (Some event)) s quiet fit there = event_stays event s quiet.0 there
  call_stays (calls.told marks) s quiet fit (standing, is, passes) = (standing, ap (λ w. fold (noted_as t) w (filter_map note_of marks)) is ∙ quiet_marks t kind marks standing quiet.1, passes)
  call_stays (calls.polled_for u answer) s quiet fit there = poll_stays t kind test stable (u == t) s there
