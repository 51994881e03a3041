-- A message that enters the mailbox stands there, beside all that waits.
use Rattle.std.proofs.Common.{◌≡◌, ◌≢◌, ◌≤◌, ◌<◌, ◌++◌, ℕ, true, [], ◌∷◌, map, All, Option, Some, None, IfSome, get_or, refl, sym, subst, arith}
use Rattle.std.proofs.lemmas.Bool.{eq-eqb}
use Rattle.std.proofs.lemmas.Bool.Decides.{nat_tests}
use Rattle.std.proofs.lemmas.List.{append-nil}
use Rattle.std.proofs.lemmas.List.Elements.{All-nil, All-cons, All-append, All-push, All-map, All-weaker}
use Rattle.stateful_base.specs.Names.{Named}
use Rattle.stateful_db.specs.declared.application.ProposalKind.TheVariants as kind
use Rattle.stateful_history.specs.Finalizations.{finalized_since}
use Rattle.stateful_history.specs.Live.{bound_of, is_new, names_live}
use Rattle.stateful_history.specs.Past.{Past, Came}
use Rattle.stateful_history.specs.Requests.{IsLiveRequest, IsLiveReceipt}
use Rattle.stateful_history.specs.declared.event.Event.{Event}
use Rattle.stateful_history.specs.declared.event.Event.TheVariants as event
use Rattle.stateful_exec_model.specs.Workings.{Workings}
use Rattle.stateful_exec_model.specs.declared.building.Building.{Building}
use Rattle.stateful_exec_walk.specs.declared.request.Request.TheVariants.{Verify, Recover}
use Rattle.stateful_exec_laws.specs.Building.{IsElsewhere}
use Rattle.stateful_exec_laws.specs.Setting.{setting}
use Rattle.stateful_exec_laws.proofs.requests.Arrivals.{live_below, new_elsewhere, verify-IsInHand, prepare-IsInHand, propose-IsInHand}
use Rattle.stateful_loop_model.specs.Intake.{message_by}
use Rattle.stateful_loop_model.specs.Moments.{Moment, with_loop}
use Rattle.stateful_loop_model.specs.declared.message.Action.{Action}
use Rattle.stateful_loop_model.specs.declared.message.Action.TheVariants as action
use Rattle.stateful_loop_model.specs.declared.message.Message.{Message}
use Rattle.stateful_loop_model.specs.declared.message.Message.TheVariants.{Request, Finalized, Subscribe}
use Rattle.stateful_loop_model.specs.declared.tables.Finalizing.{Finalizing}
use Rattle.stateful_loop_laws.specs.Execution.{Executes}
use Rattle.stateful_loop_laws.specs.Tickets.{ticket_in, ticket_under, ticket_in_front, MessageStands, ActionStands, TicketsStand, TicketsBehind}
use Rattle.stateful_loop_laws.proofs.tickets.Carrying.{spares_marks}
use Rattle.stateful_loop_laws.proofs.tickets.Grounded.{IsGrounded, grounded}
use Rattle.stateful_loop_laws.proofs.tickets.Saying.{IsAside, IsOff, SaysSame-event}
use Rattle.stateful_loop_laws.proofs.tickets.Times.{apart_with, apart_fewer}
use Rattle.stateful_loop_laws.proofs.tickets.Waiting.{Other, WaitsAt, waiting, waiting_at, times-waiting, times-pushed, waits_of, waits_still, TicketsStand-by}

module _ {B C I P R D H G U : Type 0} (w : Workings B C I P R D H G U) (stored : ℕ → Option (Named B)) (base : w.States) (p : Past B C I)
    (m : Moment w) (x : Executes w stored base p m) (s : TicketsStand w stored p m) where
  ground : IsGrounded w stored p m.execution.state m.execution.build
  ground = grounded w stored base p m x

  message_below : (a : Message B C I) → MessageStands w stored p m.execution.state m.execution.build a → ticket_in a < bound_of p
  message_below (Request (Verify u ancestry)) h = live_below u p _ h.0.live
  message_below (Request (Recover u context ancestry input k)) h = live_below u p _ h.0.live
  message_below (Finalized t b) h = live_below t p _ h.0
  message_below (Subscribe t) h = live_below t p _ h.0.live

  action_below : (a : Action B C I) → ActionStands w stored p m.execution.state m.execution.build a → ticket_under a < bound_of p
  action_below (action.Message a) h = message_below a h
  action_below (action.Build t) h = live_below t p _ (ground.queued t h.0)

  front_below : (f : Option (Finalizing B G)) → IfSome f (λ f. IsLiveReceipt f.ticket p × (finalized_since f.ticket p ≡ Some f.block))
      → All (λ t. t < bound_of p) (ticket_in_front f)
  front_below None h = All-nil (λ t. t < bound_of p)
  front_below (Some f) h = All-cons (λ t. t < bound_of p) f.ticket [] (live_below f.ticket p _ h.0) (All-nil (λ t. t < bound_of p))

  -- all that waits is of earlier tickets
  pub waiting_below : All (λ t. t < bound_of p) (waiting_at w stored m)
  waiting_below =
      let N : ℕ → Type 0 = λ t. t < bound_of p in
      let of_queue : All N (map ticket_in m.loop.queue) = All-map N ticket_in m.loop.queue
      (λ k d l. message_below (get_or m.loop.queue k d) (s.queue k d l)) in
      let of_actions : All N (map ticket_under m.loop.actions) = All-map N ticket_under m.loop.actions
      (λ k d l. action_below (get_or m.loop.actions k d) (s.actions k d l)) in
      let of_held : All N (map (λ receipt. receipt.1) m.loop.durability.held) = All-map N (λ receipt. receipt.1) m.loop.durability.held
      (λ k d l. live_below (get_or m.loop.durability.held k d).1 p _ (s.held k d l).live) in
      All-append N (map ticket_in m.loop.queue ++ map ticket_under m.loop.actions ++ ticket_in_front m.loop.front)
      (map (λ receipt. receipt.1) m.loop.durability.held)
      (All-append N (map ticket_in m.loop.queue ++ map ticket_under m.loop.actions) (ticket_in_front m.loop.front)
      (All-append N (map ticket_in m.loop.queue) (map ticket_under m.loop.actions) of_queue of_actions) (front_below m.loop.front s.front)) of_held

  build_below : (o : Option (Building B C D)) (t : ℕ) → bound_of p ≤ t → IfSome o (λ b. IsLiveRequest b.ticket p) → IfSome o (λ b. b.ticket ≢ t)
  build_below None t above some = tt
  build_below (Some b) t above some = λ same. let l = live_below b.ticket p _ some in omega (arith, l, above, same)

  module _ (e : Event B C I) (a : Message B C I) (off : IsOff (Other w stored m.execution.state m.execution.build (λ u. u ≡ ticket_in a)) e)
      (above : bound_of p ≤ ticket_in a)
      (stands : MessageStands w stored (Came e ∷ p) m.execution.state m.execution.build a) where
    others : All (λ u. ticket_in a ≢ u) (waiting_at w stored m)
    others = All-weaker (λ t. t < bound_of p) (λ u. ticket_in a ≢ u) (λ u l same. omega (arith, l, above, same)) (waiting_at w stored m) waiting_below

    still : WaitsAt w stored (Came e ∷ p) m
    still = waits_still w stored (λ u. u ≡ ticket_in a) p (Came e ∷ p) m.execution.state m.execution.state m.execution.build m.execution.build
        (spares_marks w stored (λ u. u ≡ ticket_in a) p (Came e ∷ p) [] m.execution.state m.execution.state m.execution.build m.execution.build ground
        (SaysSame-event (setting w stored) (Other w stored m.execution.state m.execution.build (λ u. u ≡ ticket_in a)) p e off)
        (All-nil (IsAside (Other w stored m.execution.state m.execution.build (λ u. u ≡ ticket_in a)))) refl refl refl (λ t other h. h))
        m.loop.queue m.loop.actions m.loop.front m.loop.durability.held
        (All-weaker (λ u. ticket_in a ≢ u) (λ u. u ≡ ticket_in a → ⊥) (λ u other same. other (sym same)) (waiting_at w stored m) others)
        (waits_of w stored p m s)

    -- where it is of a later ticket, it stands behind the others
    pub entered : TicketsBehind w stored (Came e ∷ p) m (with_loop w m (record m.loop { queue = m.loop.queue ++ a ∷ [] }))
    entered = record {
      more = [];
      marks_are = sym (append-nil m.marks);
      tickets = TicketsStand-by w stored (Came e ∷ p) (with_loop w m (record m.loop { queue = m.loop.queue ++ a ∷ [] }))
          (record {
            queue = All-push (MessageStands w stored (Came e ∷ p) m.execution.state m.execution.build) m.loop.queue a still.queue stands;
            actions = still.actions;
            front = still.front;
            held = still.held;
          })
          (apart_fewer (ticket_in a ∷ waiting_at w stored m) (waiting (m.loop.queue ++ a ∷ []) m.loop.actions m.loop.front m.loop.durability.held)
          (apart_with (ticket_in a) (waiting_at w stored m) others s.apart)
          (λ t.
          let before = times-waiting t m.loop.queue m.loop.actions m.loop.front m.loop.durability.held in
          let behind = times-waiting t (m.loop.queue ++ a ∷ []) m.loop.actions m.loop.front m.loop.durability.held in
          let pushed = times-pushed ticket_in t m.loop.queue a in
          omega (arith, before, behind, pushed)))
          s.once;
    }

  -- what an event puts into the mailbox stands there
  pub enters-tickets : (count : ℕ) (e : Event B C I) (a : Message B C I) (now : Moment w) → message_by e ≡ Some a → names_live count p e ≡ true
      → now ≡ with_loop w m (record m.loop { queue = m.loop.queue ++ a ∷ [] }) → TicketsBehind w stored (Came e ∷ p) m now
  enters-tickets count e a now is new become = subst (λ (n : Moment w). TicketsBehind w stored (Came e ∷ p) m n) (sym become) (by e new is)
    where
      above : (t : ℕ) → is_new t p ≡ true → bound_of p ≤ t
      above t fresh = grind (arith, nat_tests, fresh)

      out : (t : ℕ) → is_new t p ≡ true → IsElsewhere m.execution.state t
      out t fresh = new_elsewhere w stored p x.points x.point m.next m.execution.state x.tables t fresh

      unbuilt : (t : ℕ) → is_new t p ≡ true → IfSome m.execution.build (λ b. b.ticket ≢ t)
      unbuilt t fresh = build_below m.execution.build t (above t fresh) ground.built

      at_it : (f : Event B C I) (b : Message B C I) → IsOff (Other w stored m.execution.state m.execution.build (λ u. u ≡ ticket_in b)) f
          → bound_of p ≤ ticket_in b
          → MessageStands w stored (Came f ∷ p) m.execution.state m.execution.build b → b ≡ a
          → TicketsBehind w stored (Came f ∷ p) m (with_loop w m (record m.loop { queue = m.loop.queue ++ a ∷ [] }))
      at_it f b off up h same = subst
          (λ c. TicketsBehind w stored (Came f ∷ p) m (with_loop w m (record m.loop { queue = m.loop.queue ++ c ∷ [] }))) same
          (entered f b off up h)

      by : (f : Event B C I) → names_live count p f ≡ true → message_by f ≡ Some a
          → TicketsBehind w stored (Came f ∷ p) m (with_loop w m (record m.loop { queue = m.loop.queue ++ a ∷ [] }))
      by (event.Verify t ancestry) fresh is =
          let o = out t fresh in
          let h = verify-IsInHand w stored p m.execution.state t o ancestry in
          at_it (event.Verify t ancestry) (Request (Verify t ancestry)) (λ y. y.2 refl) (above t fresh)
          (h.asked, h.brought, record { elsewhere = o; unbuilt = unbuilt t fresh }) cc
      by (event.Prepare t context ancestry input) fresh is =
          let o = out t fresh in
          let h = prepare-IsInHand w stored p m.execution.state t o ancestry context input in
          at_it (event.Prepare t context ancestry input) (Request (Recover t context ancestry input kind.Prepare)) (λ y. y.2 refl) (above t fresh)
          (h.asked, h.brought, record { elsewhere = o; unbuilt = unbuilt t fresh }) cc
      by (event.Propose t context ancestry input) fresh is =
          let o = out t fresh in
          let h = propose-IsInHand w stored p m.execution.state t o ancestry context input in
          at_it (event.Propose t context ancestry input) (Request (Recover t context ancestry input kind.Propose)) (λ y. y.2 refl) (above t fresh)
          (h.asked, h.brought, record { elsewhere = o; unbuilt = unbuilt t fresh }) cc
      by (event.Finalized t b) fresh is =
          at_it (event.Finalized t b) (Finalized t b) (λ y. y.2 refl) (above t fresh) (rw (eq-eqb t t refl) refl, rw (eq-eqb t t refl) refl) cc
      by (event.Subscribe t) fresh is =
          at_it (event.Subscribe t) (Subscribe t) (λ y. y.2 refl) (above t fresh) (
            record { live = rw (eq-eqb t t refl) refl; subscribes = rw (eq-eqb t t refl) refl },
            record { elsewhere = out t fresh; unbuilt = unbuilt t fresh },
          ) cc
      by (event.Cancel t) fresh is = let never : None ≡ Some a = is in absurd (cc)
      by (event.Fetched f answer) fresh is = let never : None ≡ Some a = is in absurd (cc)
      by (event.Turn j) fresh is = let never : None ≡ Some a = is in absurd (cc)
      by (event.Flushed k i answer) fresh is = let never : None ≡ Some a = is in absurd (cc)
      by (event.Progress i) fresh is = let never : None ≡ Some a = is in absurd (cc)
      by event.Stop fresh is = let never : None ≡ Some a = is in absurd (cc)
      by (event.Restart floor keep) fresh is = let never : None ≡ Some a = is in absurd (cc)
