-- A message that was taken is served, and what waits stands.
use Rattle.std.proofs.Common.{◌≡◌, ◌+◌, ◌++◌, nat_le, nat_lt, ℕ, List, [], ◌∷◌, map, All, Option, refl, sym, subst, arith}
use Rattle.std.proofs.lemmas.Bool.Decides.{nat_tests}
use Rattle.std.proofs.lemmas.List.{append-nil, map-append}
use Rattle.std.proofs.lemmas.List.Elements.{All-nil, All-cons, All-append, All-filter}
use Rattle.stateful_base.specs.Names.{Named}
use Rattle.stateful_durability.specs.Durability.{receipts_up_to, receipts_above, with_duplicate}
use Rattle.stateful_history.specs.Past.{Past, after}
use Rattle.stateful_history.specs.declared.mark.Mark.{Mark}
use Rattle.stateful_history.specs.declared.mark.Mark.TheVariants as mark
use Rattle.stateful_exec_tables.specs.Tables.{requested}
use Rattle.stateful_exec_walk.specs.Request.{ticket_by}
use Rattle.stateful_exec_model.specs.Workings.{Workings}
use Rattle.stateful_exec_walk.specs.declared.request.Request.{Request}
use Rattle.stateful_exec_laws.specs.Setting.{setting}
use Rattle.stateful_exec_laws.proofs.pauses.Passing.{PassesBy, PassesBy-acquires}
use Rattle.stateful_loop_model.specs.Moments.{Moment, inner, with_inner, with_loop}
use Rattle.stateful_loop_model.specs.Rules.{Schedules, acknowledged}
use Rattle.stateful_loop_model.specs.declared.message.Action.TheVariants as action
use Rattle.stateful_loop_model.specs.declared.message.Message.TheVariants as message
use Rattle.stateful_loop_laws.specs.Tickets.{IsReceiptAt, TicketsBehind}
use Rattle.stateful_loop_laws.proofs.tickets.Carrying.{NoJob, handed_once, spares_passing, spares_marks}
use Rattle.stateful_loop_laws.proofs.tickets.Grounded.{IsGrounded}
use Rattle.stateful_loop_laws.proofs.tickets.Queueing.{grows_any}
use Rattle.stateful_loop_laws.proofs.tickets.QueueRules.{Grows, grows_acquires}
use Rattle.stateful_loop_laws.proofs.tickets.Saying.{IsAside, SaysSame-same}
use Rattle.stateful_loop_laws.proofs.tickets.Taken.{IsTaken, taken_others}
use Rattle.stateful_loop_laws.proofs.tickets.Times.{times, AreApart, times-append, times-parts, apart_fewer, apart_rest}
use Rattle.stateful_loop_laws.proofs.tickets.Waiting.{Other, WaitsAt, waiting, waiting_at, times-waiting, waits_still, TicketsStand-by}

module _ {B C I P R D H G U : Type 0} (w : Workings B C I P R D H G U) (stored : ℕ → Option (Named B)) (p : Past B C I) (m : Moment w)
    (g : IsGrounded w stored p m.execution.state m.execution.build) where
  -- a request acquires what it needs
  pub schedules-tickets : (stored_now : ℕ → Option (Named B)) → m.execution.state.recovered ≡ [] → (request : Request B C I) (now : Moment w)
      → IsTaken w stored p (action.Message (message.Request request)) m → Schedules w stored_now request m now → TicketsBehind w stored p m now
  schedules-tickets stored_now bare request now taken r = subst (λ (n : Moment w). TicketsBehind w stored p m n) (sym r.becomes) (record {
    more = f.more;
    marks_are = f.marks_are;
    tickets = TicketsStand-by w stored (after p f.more) (with_inner w m r.then)
        (record { queue = still.queue; actions = still.actions; front = still.front; held = still.held })
        (apart_rest (ticket_by request) (waiting_at w stored m) taken.apart) (handed_once (λ u. Unit {0}) m.execution.state r.then.state grows bare);
  })
    where
      Own : ℕ → Type 0
      Own u = u ≡ ticket_by request

      f : PassesBy w NoJob (Other w stored m.execution.state m.execution.build Own) (inner w m) r.then
      f = PassesBy-acquires w NoJob (Other w stored m.execution.state m.execution.build Own) stored_now (inner w m) r.then (ticket_by request)
          (requested request) (λ k never. absurd never) (λ o. o.2 refl) r.acquires

      grows : Grows w (inner w m) r.then
      grows = grows_any (λ u. u ≡ ticket_by request) m.execution.state r.then.state
          (grows_acquires w stored_now (inner w m) r.then (ticket_by request) (requested request) taken.stands.2.elsewhere r.acquires)

      still : WaitsAt w stored (after p f.more) (with_inner w m r.then)
      still = waits_still w stored Own p (after p f.more) m.execution.state r.then.state m.execution.build m.execution.build
          (spares_passing w stored Own p p (inner w m) r.then m.execution.build g
          (SaysSame-same (setting w stored) (Other w stored m.execution.state m.execution.build Own) p) f grows)
          m.loop.queue m.loop.actions m.loop.front m.loop.durability.held
          (taken_others w stored p (action.Message (message.Request request)) m taken) taken.waits

  -- a mark answers what was taken
  module _ (t : ℕ) (others : All (λ u. u ≡ t → ⊥) (waiting_at w stored m)) (waits : WaitsAt w stored p m)
      (apart : AreApart (t ∷ waiting_at w stored m)) (once : AreApart m.execution.state.recovered) where
    answered : (mark : Mark B) → IsAside (Other w stored m.execution.state m.execution.build (λ u. u ≡ t)) mark
        → TicketsBehind w stored p m (record m { marks = m.marks ++ mark ∷ [] })
    answered mark aside =
        let Ticket : ℕ → Type 0 = Other w stored m.execution.state m.execution.build (λ u. u ≡ t) in
        let still = waits_still w stored (λ u. u ≡ t) p (after p (mark ∷ [])) m.execution.state m.execution.state m.execution.build m.execution.build
        (spares_marks w stored (λ u. u ≡ t) p p (mark ∷ []) m.execution.state m.execution.state m.execution.build m.execution.build g
        (SaysSame-same (setting w stored) Ticket p)
        (All-cons (IsAside Ticket) mark [] aside (All-nil (IsAside Ticket))) refl refl refl (λ u off h. h))
        m.loop.queue m.loop.actions m.loop.front m.loop.durability.held others waits in
        record {
          more = mark ∷ [];
          marks_are = refl;
          tickets = TicketsStand-by w stored (after p (mark ∷ [])) (record m { marks = m.marks ++ mark ∷ [] })
              (record { queue = still.queue; actions = still.actions; front = still.front; held = still.held })
              (apart_rest t (waiting_at w stored m) apart) once;
        }

  -- a subscription is answered
  pub answers-tickets : (t : ℕ) (now : Moment w) → IsTaken w stored p (action.Message (message.Subscribe t)) m
      → now ≡ record m { marks = m.marks ++ mark.Databases t ∷ [] } → TicketsBehind w stored p m now
  answers-tickets t now taken is = subst (λ (n : Moment w). TicketsBehind w stored p m n) (sym is)
      (answered t (taken_others w stored p (action.Message (message.Subscribe t)) m taken) taken.waits taken.apart taken.once (mark.Databases t)
      (λ o. o.2 refl))

  -- a block that was applied is acknowledged
  pub acknowledges-tickets : (t : ℕ) (b : Named B) (height : ℕ) (now : Moment w) → IsTaken w stored p (action.Message (message.Finalized t b)) m
      → now ≡ record m { marks = m.marks ++ acknowledged (height, t) ∷ [] } → TicketsBehind w stored p m now
  acknowledges-tickets t b height now taken is = subst (λ (n : Moment w). TicketsBehind w stored p m n) (sym is)
      (answered t (taken_others w stored p (action.Message (message.Finalized t b)) m taken) taken.waits taken.apart taken.once
      (acknowledged (height, t)) (λ o. o.2 refl))

  -- or its receipt is held
  pub holds-tickets : (t : ℕ) (b : Named B) (now : Moment w) → IsTaken w stored p (action.Message (message.Finalized t b)) m
      → now ≡ with_loop w m (record m.loop {
        durability = record m.loop.durability {
          held = with_duplicate m.loop.durability.held
              (w.header.height b.block) t;
        };
      }) → TicketsBehind w stored p m now
  holds-tickets t b now taken is = subst (λ (n : Moment w). TicketsBehind w stored p m n) (sym is) (record {
    more = [];
    marks_are = sym (append-nil m.marks);
    tickets = TicketsStand-by w stored p (with_loop w m (record m.loop { durability = record m.loop.durability { held = receipts } }))
        (record {
          queue = taken.waits.queue;
          actions = taken.waits.actions;
          front = taken.waits.front;
          held = All-append Stands (receipts_up_to height held) ((height, t) ∷ receipts_above height held)
              (All-filter (λ (r : ℕ × ℕ). nat_le r.0 height) Stands held taken.waits.held)
              (All-cons Stands (height, t) (receipts_above height held) own
              (All-filter (λ (r : ℕ × ℕ). nat_lt height r.0) Stands held taken.waits.held));
        })
        (apart_fewer (t ∷ waiting_at w stored m) (waiting m.loop.queue m.loop.actions m.loop.front receipts) taken.apart (λ u.
        let before = times-waiting u m.loop.queue m.loop.actions m.loop.front held in
        let behind = times-waiting u m.loop.queue m.loop.actions m.loop.front receipts in
        let more = counted u in
        omega (arith, before, behind, more)))
        taken.once;
  })
    where
      held : List (ℕ × ℕ)
      held = m.loop.durability.held

      height : ℕ
      height = w.header.height b.block

      receipts : List (ℕ × ℕ)
      receipts = with_duplicate held height t

      Stands : ℕ × ℕ → Type 0
      Stands receipt = IsReceiptAt w.header p receipt.1 receipt.0

      own : Stands (height, t)
      own = record { live = taken.stands.0; block = b; finalized = taken.stands.1; height_is = refl }

      ticket : ℕ × ℕ → ℕ
      ticket receipt = receipt.1

      counted : (u : ℕ) → times u (map ticket receipts) ≡ times u (t ∷ []) + times u (map ticket held)
      counted u =
          let parts = times-parts ticket (λ r. nat_le r.0 height) (λ r. nat_lt height r.0) (λ r. grind (arith, nat_tests)) held u in
          let split = times-append u (map ticket (receipts_up_to height held)) (map ticket ((height, t) ∷ receipts_above height held)) in
          rw (map-append ticket (receipts_up_to height held) ((height, t) ∷ receipts_above height held)) (omega (arith, parts, split))
