-- A proposal that is handed out comes among the actions, and a message that is put off does.
use Rattle.std.proofs.Common.{◌≡◌, ◌≢◌, ◌++◌, ℕ, List, [], ◌∷◌, map, All, Option, Some, None, IfSome, IsSome, get_or, sym, subst, arith}
use Rattle.std.proofs.lemmas.List.{append-nil}
use Rattle.std.proofs.lemmas.List.Elements.{All-nil, All-cons, All-head, All-tail, All-append, All-push, All-map, All-weaker}
use Rattle.stateful_base.specs.Names.{Named}
use Rattle.stateful_history.specs.Finalizations.{finalized_since}
use Rattle.stateful_history.specs.Past.{Past}
use Rattle.stateful_history.specs.Requests.{IsLiveReceipt}
use Rattle.stateful_table.specs.Table.{at}
use Rattle.stateful_exec_model.specs.Workings.{Workings}
use Rattle.stateful_exec_walk.specs.declared.request.Request.TheVariants.{Verify, Recover}
use Rattle.stateful_exec_tables.specs.declared.state.Tables.{Tables}
use Rattle.stateful_exec_laws.specs.Building.{IsElsewhere}
use Rattle.stateful_exec_laws.specs.Setting.{setting}
use Rattle.stateful_loop_model.specs.Moments.{Moment, with_loop}
use Rattle.stateful_loop_model.specs.Rules.{Collects}
use Rattle.stateful_loop_model.specs.declared.message.Action.{Action}
use Rattle.stateful_loop_model.specs.declared.message.Action.TheVariants as action
use Rattle.stateful_loop_model.specs.declared.message.Message.{Message}
use Rattle.stateful_loop_model.specs.declared.message.Message.TheVariants.{Request, Finalized, Subscribe}
use Rattle.stateful_loop_model.specs.declared.tables.Finalizing.{Finalizing}
use Rattle.stateful_loop_laws.specs.Execution.{Executes}
use Rattle.stateful_loop_laws.specs.Tickets.{ticket_in, ticket_under, ticket_in_front, MessageStands, ActionStands, TicketsStand, TicketsBehind}
use Rattle.stateful_loop_laws.proofs.tickets.Carrying.{NoJob}
use Rattle.stateful_loop_laws.proofs.tickets.Grounded.{IsGrounded, grounded}
use Rattle.stateful_loop_laws.proofs.tickets.Queueing.{some_none}
use Rattle.stateful_loop_laws.proofs.tickets.Saying.{SaysSame-same}
use Rattle.stateful_loop_laws.proofs.tickets.Times.{AreApart, apart_with, apart_fewer, apart_others, apart_rest}
use Rattle.stateful_loop_laws.proofs.tickets.Waiting.{Other, Spares, waiting, waiting_at, times-waiting, times-pushed, waits_of, waits_still, TicketsStand-by, none_of}

module _ {B C I P R D H G U : Type 0} (w : Workings B C I P R D H G U) (stored : ℕ → Option (Named B)) (base : w.States) (p : Past B C I)
    (m : Moment w) (x : Executes w stored base p m) (s : TicketsStand w stored p m) where
  ground : IsGrounded w stored p m.execution.state m.execution.build
  ground = grounded w stored base p m x

  module _ (t : ℕ) (more : List ℕ) (first : m.execution.state.recovered ≡ t ∷ more) where
    once : AreApart (t ∷ more)
    once = rw first at s.once

    queued : IsSome (at m.execution.state.queued t)
    queued = All-head (λ u. IsSome (at m.execution.state.queued u)) t more (rw first at ground.ready)

    not_elsewhere : (u : ℕ) → IsElsewhere m.execution.state u → t ≡ u → ⊥
    not_elsewhere u out same = some_none (at m.execution.state.queued t) queued
        (subst (λ n. at m.execution.state.queued n ≡ None) (sym same) out.not_queued)

    message_off : (a : Message B C I) → MessageStands w stored p m.execution.state m.execution.build a → t ≡ ticket_in a → ⊥
    message_off (Request (Verify u ancestry)) h same = not_elsewhere u h.2.elsewhere same
    message_off (Request (Recover u context ancestry input k)) h same = not_elsewhere u h.2.elsewhere same
    message_off (Subscribe u) h same = not_elsewhere u h.1.elsewhere same
    message_off (Finalized u b) h same = not_elsewhere u (ground.receipts u h.0).0 same

    action_off : (a : Action B C I) → ActionStands w stored p m.execution.state m.execution.build a → t ≡ ticket_under a → ⊥
    action_off (action.Message a) h same = message_off a h same
    action_off (action.Build u) h same = All-head (λ n. n ≢ u) t more (rw first at h.1) same

    front_off : (f : Option (Finalizing B G)) → IfSome f (λ f. IsLiveReceipt f.ticket p × (finalized_since f.ticket p ≡ Some f.block))
        → All (λ u. t ≢ u) (ticket_in_front f)
    front_off None h = All-nil (λ u. t ≢ u)
    front_off (Some f) h = All-cons (λ u. t ≢ u) f.ticket [] (not_elsewhere f.ticket (ground.receipts f.ticket h.0).0) (All-nil (λ u. t ≢ u))

    others : All (λ u. t ≢ u) (waiting_at w stored m)
    others =
        let N : ℕ → Type 0 = λ u. t ≢ u in
        let of_queue : All N (map ticket_in m.loop.queue) = All-map N ticket_in m.loop.queue
        (λ k d l. message_off (get_or m.loop.queue k d) (s.queue k d l)) in
        let of_actions : All N (map ticket_under m.loop.actions) = All-map N ticket_under m.loop.actions
        (λ k d l. action_off (get_or m.loop.actions k d) (s.actions k d l)) in
        let of_held : All N (map (λ receipt. receipt.1) m.loop.durability.held) =
        All-map N (λ receipt. receipt.1) m.loop.durability.held
        (λ k d l. not_elsewhere (get_or m.loop.durability.held k d).1
        (ground.receipts (get_or m.loop.durability.held k d).1 (s.held k d l).live).0) in
        All-append N (map ticket_in m.loop.queue ++ map ticket_under m.loop.actions ++ ticket_in_front m.loop.front)
        (map (λ receipt. receipt.1) m.loop.durability.held)
        (All-append N (map ticket_in m.loop.queue ++ map ticket_under m.loop.actions) (ticket_in_front m.loop.front)
        (All-append N (map ticket_in m.loop.queue) (map ticket_under m.loop.actions) of_queue of_actions) (front_off m.loop.front s.front)) of_held

    abbrev left : Tables B C I R U
    left = record m.execution.state { recovered = more }

    spares : Spares w stored NoJob p p m.execution.state left m.execution.build m.execution.build
    spares = record {
      says = SaysSame-same (setting w stored) (Other w stored m.execution.state m.execution.build NoJob) p;
      elsewhere = λ u o. record { absent = o.0.absent; not_queued = o.0.not_queued };
      unbuilt = λ u off h. h;
      queued = λ u off some. some;
      recovered = λ u off some all. All-tail (λ n. n ≢ u) t more (rw first at all);
      receipts = ground.receipts;
    }

    abbrev collected : Moment w
    collected = record m { execution = record m.execution { state = left }; loop = record m.loop { actions = m.loop.actions ++ action.Build t ∷ [] } }

    collected_stands : TicketsStand w stored p collected
    collected_stands =
        let still = waits_still w stored NoJob p p m.execution.state left m.execution.build m.execution.build spares m.loop.queue m.loop.actions
        m.loop.front m.loop.durability.held
        (none_of (waiting_at w stored m)) (waits_of w stored p m s) in
        let others_left : All (λ u. u ≢ t) more = All-weaker (λ u. t ≢ u) (λ u. u ≢ t) (λ u other same. other (sym same)) more
        (apart_others t more once) in
        let stands : ActionStands w stored p left m.execution.build (action.Build t) = (queued, others_left, ground.unbuilt t queued) in
        TicketsStand-by w stored p collected
        (record {
          queue = still.queue;
          actions = All-push (ActionStands w stored p left m.execution.build) m.loop.actions
              (action.Build t) still.actions stands;
          front = still.front;
          held = still.held;
        })
        (apart_fewer (t ∷ waiting_at w stored m) (waiting m.loop.queue (m.loop.actions ++ action.Build t ∷ []) m.loop.front m.loop.durability.held)
        (apart_with t (waiting_at w stored m) others s.apart)
        (λ u.
        let before = times-waiting u m.loop.queue m.loop.actions m.loop.front m.loop.durability.held in
        let behind = times-waiting u m.loop.queue (m.loop.actions ++ action.Build t ∷ []) m.loop.front m.loop.durability.held in
        let pushed = times-pushed ticket_under u m.loop.actions (action.Build t) in
        omega (arith, before, behind, pushed)))
        (apart_rest t more once)

  -- a recovered proposal is to be built
  pub collects-tickets : (t : ℕ) (now : Moment w) → Collects w t m now → TicketsBehind w stored p m now
  collects-tickets t now c = subst (λ (n : Moment w). TicketsBehind w stored p m n) (sym c.becomes)
      (record { more = []; marks_are = sym (append-nil m.marks); tickets = collected_stands t c.more c.first })

  -- a message is put off
  pub puts_off-tickets : (a : Message B C I) (rest : List (Message B C I)) (now : Moment w) → m.loop.queue ≡ a ∷ rest
      → now ≡ with_loop w m (record m.loop { queue = rest; actions = m.loop.actions ++ action.Message a ∷ [] }) → TicketsBehind w stored p m now
  puts_off-tickets a rest now is become = subst (λ (n : Moment w). TicketsBehind w stored p m n) (sym become) (record {
    more = [];
    marks_are = sym (append-nil m.marks);
    tickets =
        let messages : All (MessageStands w stored p m.execution.state m.execution.build) (a ∷ rest) = rw is at s.queue in
        TicketsStand-by w stored p (with_loop w m (record m.loop { queue = rest; actions = m.loop.actions ++ action.Message a ∷ [] }))
        (record {
          queue = All-tail (MessageStands w stored p m.execution.state m.execution.build) a rest messages;
          actions = All-push (ActionStands w stored p m.execution.state m.execution.build) m.loop.actions (action.Message a) s.actions
              (All-head (MessageStands w stored p m.execution.state m.execution.build) a rest messages);
          front = s.front;
          held = s.held;
        })
        (apart_fewer (waiting (a ∷ rest) m.loop.actions m.loop.front m.loop.durability.held)
        (waiting rest (m.loop.actions ++ action.Message a ∷ []) m.loop.front m.loop.durability.held)
        (subst (λ (q : List (Message B C I)). AreApart (waiting q m.loop.actions m.loop.front m.loop.durability.held)) is s.apart)
        (λ u.
        let before = times-waiting u (a ∷ rest) m.loop.actions m.loop.front m.loop.durability.held in
        let behind = times-waiting u rest (m.loop.actions ++ action.Message a ∷ []) m.loop.front m.loop.durability.held in
        let pushed = times-pushed ticket_under u m.loop.actions (action.Message a) in
        omega (arith, before, behind, pushed)))
        s.once;
  })
