-- Where a request is given up, all else that waits stands.
use Rattle.std.proofs.Common.{◌≡◌, ◌≢◌, ◌++◌, ◌==◌, ◌⊎◌, inl, inr, not, ℕ, true, List, [], ◌∷◌, filter, map, All, Option, Some, None, IfSome, IsSome, get_or, refl, sym, ap, ◌∙◌, subst, arith}
use Rattle.std.proofs.lemmas.Bool.{eq-eqb}
use Rattle.std.proofs.lemmas.List.Elements.{All-nil, All-cons, All-append, All-filter, All-map, filter_passes}
use Rattle.std.proofs.lemmas.List.Kept.{AllPairs-filter}
use Rattle.stateful_base.specs.Names.{Named}
use Rattle.stateful_history.specs.Finalizations.{finalized_since}
use Rattle.stateful_history.specs.Live.{live_ticket, is_request, names_live}
use Rattle.stateful_history.specs.Past.{Past, Came, after}
use Rattle.stateful_history.specs.Requests.{IsLiveRequest, IsLiveReceipt}
use Rattle.stateful_history.specs.declared.event.Event.TheVariants as event
use Rattle.stateful_history.specs.declared.mark.Mark.{Mark}
use Rattle.stateful_history.specs.declared.ticket.Ticket.{Ticket}
use Rattle.stateful_history.specs.declared.ticket.Ticket.TheVariants as ticket
use Rattle.stateful_table.specs.Table.{at}
use Rattle.stateful_exec_model.specs.Built.{GivesUp, building, asking}
use Rattle.stateful_exec_tables.specs.Cancelling.{Cancels}
use Rattle.stateful_exec_tables.specs.Cancelling.{idle, withdraws, leaves, ends, unqueued}
use Rattle.stateful_exec_model.specs.Workings.{Workings}
use Rattle.stateful_exec_model.specs.declared.building.Building.{Building}
use Rattle.stateful_exec_walk.specs.declared.request.Request.TheVariants.{Verify, Recover}
use Rattle.stateful_exec_tables.specs.declared.state.Tables.{Tables}
use Rattle.stateful_exec_laws.specs.Setting.{setting}
use Rattle.stateful_exec_laws.proofs.pauses.Passing.{PassesBy}
use Rattle.stateful_exec_laws.proofs.pauses.PassingRules.{PassesBy-cancels}
use Rattle.stateful_exec_laws.proofs.runs.Removing.{at_other}
use Rattle.stateful_loop_model.specs.Intake as intake
use Rattle.stateful_loop_model.specs.Message.{asks_of, asks_for}
use Rattle.stateful_loop_model.specs.Moments.{Moment, inner}
use Rattle.stateful_loop_model.specs.declared.message.Action.{Action}
use Rattle.stateful_loop_model.specs.declared.message.Action.TheVariants as action
use Rattle.stateful_loop_model.specs.declared.message.Message.{Message}
use Rattle.stateful_loop_model.specs.declared.message.Message.TheVariants.{Request, Finalized, Subscribe}
use Rattle.stateful_loop_model.specs.declared.tables.Finalizing.{Finalizing}
use Rattle.stateful_loop_laws.specs.Execution.{Executes}
use Rattle.stateful_loop_laws.specs.Tickets.{ticket_in, ticket_under, ticket_in_front, MessageStands, ActionStands, TicketsStand, TicketsBehind}
use Rattle.stateful_loop_laws.proofs.tickets.Carrying.{NoJob, spares_marks}
use Rattle.stateful_loop_laws.proofs.tickets.Grounded.{IsGrounded, grounded}
use Rattle.stateful_loop_laws.proofs.tickets.Saying.{IsAside, SaysSame, SaysSame-event, SaysSame-then, SaysSame-after, all_aside}
use Rattle.stateful_loop_laws.proofs.tickets.Times.{AreApart, apart_fewer, times-filter}
use Rattle.stateful_loop_laws.proofs.tickets.Waiting.{Other, Spares, waiting, waiting_at, times-waiting, waits_still, TicketsStand-by}

module _ {B C I R U : Type 0} (old new : Tables B C I R U) (t : ℕ) (marks : List (Mark B)) where
  -- a cancel leaves other proposals in the queue
  pub cancel_queue : Cancels old new t marks → (u : ℕ) → (u ≡ t → ⊥) → IsSome (at old.queued u) → IsSome (at new.queued u)
  cancel_queue (idle r there is new_is marks_is) u other some = rw new_is some
  cancel_queue (withdraws r f fetches new_is marks_is) u other some = rw new_is some
  cancel_queue (leaves r j path there executing others new_is marks_is) u other some = rw new_is some
  cancel_queue (ends r j path there executing last new_is marks_is) u other some = rw new_is some
  cancel_queue (unqueued gone new_is marks_is) u other some = rw (new_is, at_other old.queued t u other) some

  -- and of those that are handed out at most its own leaves
  pub cancel_recovered : Cancels old new t marks → (new.recovered ≡ old.recovered) ⊎ (new.recovered ≡ filter (λ u. not (u == t)) old.recovered)
  cancel_recovered (idle r there is new_is marks_is) = inl (ap (λ (v : Tables B C I R U). v.recovered) new_is)
  cancel_recovered (withdraws r f fetches new_is marks_is) = inl (ap (λ (v : Tables B C I R U). v.recovered) new_is)
  cancel_recovered (leaves r j path there executing others new_is marks_is) = inl (ap (λ (v : Tables B C I R U). v.recovered) new_is)
  cancel_recovered (ends r j path there executing last new_is marks_is) = inl (ap (λ (v : Tables B C I R U). v.recovered) new_is)
  cancel_recovered (unqueued gone new_is marks_is) = inr (ap (λ (v : Tables B C I R U). v.recovered) new_is)

  still_all : (P : ℕ → Type 0) → (new.recovered ≡ old.recovered) ⊎ (new.recovered ≡ filter (λ u. not (u == t)) old.recovered) → All P old.recovered
      → All P new.recovered
  still_all P (inl is) all = rw is all
  still_all P (inr is) all = rw is (All-filter (λ u. not (u == t)) P old.recovered all)

  still_apart : (new.recovered ≡ old.recovered) ⊎ (new.recovered ≡ filter (λ u. not (u == t)) old.recovered) → AreApart old.recovered
      → AreApart new.recovered
  still_apart (inl is) apart = rw is apart
  still_apart (inr is) apart = rw is (AllPairs-filter (λ a b. a ≢ b) (λ u. not (u == t)) old.recovered apart)

module _ {B C I P R D H G U : Type 0} (w : Workings B C I P R D H G U) (stored : ℕ → Option (Named B)) (base : w.States) (p : Past B C I)
    (m : Moment w) (x : Executes w stored base p m) (s : TicketsStand w stored p m)
    (t : ℕ) (live : IsLiveRequest t p) where
  ground : IsGrounded w stored p m.execution.state m.execution.build
  ground = grounded w stored base p m x

  abbrev came : Past B C I
  came = Came (event.Cancel t) ∷ p

  abbrev Own : ℕ → Type 0
  Own u = u ≡ t

  no_receipt : (u : ℕ) → IsLiveReceipt u p → u ≡ t → ⊥
  no_receipt u receipt same = let both : Some ticket.Request ≡ Some ticket.Receipt = sym live
      ∙ subst (λ n. live_ticket n p ≡ Some ticket.Receipt) same receipt in let never : ⊥ = cc in never

  message_off : (a : Message B C I) → MessageStands w stored p m.execution.state m.execution.build a → not (asks_of a t) ≡ true → ticket_in a ≡ t → ⊥
  message_off (Request (Verify u ancestry)) h off same = let is : (u == t) ≡ true = eq-eqb u t same in
      let no_more : not true ≡ true = rw is at off in let never : ⊥ = cc in never
  message_off (Request (Recover u context ancestry input k)) h off same = let is : (u == t) ≡ true = eq-eqb u t same in
      let no_more : not true ≡ true = rw is at off in let never : ⊥ = cc in never
  message_off (Subscribe u) h off same = let is : (u == t) ≡ true = eq-eqb u t same in let no_more : not true ≡ true = rw is at off in
      let never : ⊥ = cc in never
  message_off (Finalized u b) h off same = no_receipt u h.0 same

  action_off : (a : Action B C I) → ActionStands w stored p m.execution.state m.execution.build a → not (asks_for a t) ≡ true → ticket_under a ≡ t → ⊥
  action_off (action.Message a) h off same = message_off a h off same
  action_off (action.Build u) h off same = let is : (u == t) ≡ true = eq-eqb u t same in let no_more : not true ≡ true = rw is at off in
      let never : ⊥ = cc in never

  front_off : (f : Option (Finalizing B G)) → IfSome f (λ f. IsLiveReceipt f.ticket p × (finalized_since f.ticket p ≡ Some f.block))
      → All (λ u. Own u → ⊥) (ticket_in_front f)
  front_off None h = All-nil (λ u. Own u → ⊥)
  front_off (Some f) h = All-cons (λ u. Own u → ⊥) f.ticket [] (no_receipt f.ticket h.0) (All-nil (λ u. Own u → ⊥))

  abbrev queue_left : List (Message B C I)
  queue_left = filter (λ a. not (asks_of a t)) m.loop.queue

  abbrev actions_left : List (Action B C I)
  actions_left = filter (λ a. not (asks_for a t)) m.loop.actions

  queue_stands : All (MessageStands w stored p m.execution.state m.execution.build) queue_left
  queue_stands = All-filter (λ a. not (asks_of a t)) (MessageStands w stored p m.execution.state m.execution.build) m.loop.queue s.queue

  actions_stand : All (ActionStands w stored p m.execution.state m.execution.build) actions_left
  actions_stand = All-filter (λ a. not (asks_for a t)) (ActionStands w stored p m.execution.state m.execution.build) m.loop.actions s.actions

  others : All (λ u. Own u → ⊥) (waiting queue_left actions_left m.loop.front m.loop.durability.held)
  others =
      let N : ℕ → Type 0 = λ u. Own u → ⊥ in
      let of_queue : All N (map ticket_in queue_left) = All-map N ticket_in queue_left
      (λ k d l. message_off (get_or queue_left k d) (queue_stands k d l)
      (filter_passes (λ (a : Message B C I). not (asks_of a t)) m.loop.queue k d l)) in
      let of_actions : All N (map ticket_under actions_left) = All-map N ticket_under actions_left
      (λ k d l. action_off (get_or actions_left k d) (actions_stand k d l)
      (filter_passes (λ (a : Action B C I). not (asks_for a t)) m.loop.actions k d l)) in
      let of_held : All N (map (λ receipt. receipt.1) m.loop.durability.held) = All-map N (λ receipt. receipt.1) m.loop.durability.held
      (λ k d l. no_receipt (get_or m.loop.durability.held k d).1 (s.held k d l).live) in
      All-append N (map ticket_in queue_left ++ map ticket_under actions_left ++ ticket_in_front m.loop.front)
      (map (λ receipt. receipt.1) m.loop.durability.held)
      (All-append N (map ticket_in queue_left ++ map ticket_under actions_left) (ticket_in_front m.loop.front)
      (All-append N (map ticket_in queue_left) (map ticket_under actions_left) of_queue of_actions) (front_off m.loop.front s.front)) of_held

  abbrev left_by : Tables B C I R U → Option (Building B C D) → List (Mark B) → Moment w
  left_by state build marks = record m {
    execution = record m.execution { state = state; build = build };
    loop = record m.loop { queue = queue_left; actions = actions_left };
    marks = m.marks ++ marks;
  }

  left_stands : (state : Tables B C I R U) (build : Option (Building B C D)) (marks more : List (Mark B)) → m.marks ++ marks ≡ m.marks ++ more
      → Spares w stored Own p (after came more) m.execution.state state m.execution.build build → AreApart state.recovered
      → TicketsBehind w stored came m (left_by state build marks)
  left_stands state build marks more is spares once =
      let still = waits_still w stored Own p
      (after came more) m.execution.state state m.execution.build build spares queue_left actions_left m.loop.front m.loop.durability.held
      others
      (record { queue = queue_stands; actions = actions_stand; front = s.front; held = s.held }) in
      record {
        more = more;
        marks_are = is;
        tickets = TicketsStand-by w stored (after came more) (left_by state build marks)
            (record { queue = still.queue; actions = still.actions; front = still.front; held = still.held })
            (apart_fewer (waiting_at w stored m) (waiting queue_left actions_left m.loop.front m.loop.durability.held) s.apart (λ u.
            let before = times-waiting u m.loop.queue m.loop.actions m.loop.front m.loop.durability.held in
            let behind = times-waiting u queue_left actions_left m.loop.front m.loop.durability.held in
            let fewer = times-filter ticket_in (λ a. not (asks_of a t)) m.loop.queue u in
            let less = times-filter ticket_under (λ a. not (asks_for a t)) m.loop.actions u in
            omega (arith, before, behind, fewer, less)))
            once;
      }

  says : SaysSame (setting w stored) (Other w stored m.execution.state m.execution.build Own) p came
  says = SaysSame-event (setting w stored) (Other w stored m.execution.state m.execution.build Own) p (event.Cancel t) (λ o. o.2 refl)

  given_up : (state : Tables B C I R U) (build : Option (Building B C D)) (marks : List (Mark B))
      → GivesUp m.execution.state state m.execution.build build t marks → TicketsBehind w stored came m (left_by state build marks)
  given_up state build marks (building {b = b} for_it same gone marks_is) =
      left_stands state build marks marks refl
      (spares_marks w stored Own p came marks m.execution.state state m.execution.build build ground says
      (subst (λ ms. All (IsAside (Other w stored m.execution.state m.execution.build Own)) ms) (sym marks_is)
      (All-cons (IsAside (Other w stored m.execution.state m.execution.build Own)) _ [] tt
      (All-nil (IsAside (Other w stored m.execution.state m.execution.build Own)))))
      (ap (λ (v : Tables B C I R U). v.requests) same) (ap (λ (v : Tables B C I R U). v.queued) same)
      (ap (λ (v : Tables B C I R U). v.recovered) same)
      (λ u off h. subst (λ (o : Option (Building B C D)). IfSome o (λ b. b.ticket ≢ u)) (sym gone) tt))
      (subst (λ (v : Tables B C I R U). AreApart v.recovered) (sym same) s.once)
  given_up state build marks (asking other cancels same) =
      let f : PassesBy w NoJob (Other w stored m.execution.state m.execution.build Own) (inner w m)
      (record (inner w m) { state = state; marks = m.marks ++ marks }) =
      PassesBy-cancels w NoJob (Other w stored m.execution.state m.execution.build Own) (inner w m) t (λ o. o.2 refl)
      (λ r j path there on never. never) state marks cancels in
      let recovered = cancel_recovered m.execution.state state t marks cancels in
      left_stands state build marks f.more f.marks_are
      (record {
        says = SaysSame-then (setting w stored) (Other w stored m.execution.state m.execution.build Own) p came (after came f.more) says
            (SaysSame-after (setting w stored) (Other w stored m.execution.state m.execution.build Own) came f.more
            (all_aside NoJob (Other w stored m.execution.state m.execution.build Own) f.more f.beside));
        elsewhere = λ u o. f.elsewhere u o o.0;
        unbuilt = λ u off h. subst (λ (o : Option (Building B C D)). IfSome o (λ b. b.ticket ≢ u)) (sym same) h;
        queued = λ u off some. cancel_queue m.execution.state state t marks cancels u off some;
        recovered = λ u off some all. still_all m.execution.state state t marks (λ n. n ≢ u) recovered all;
        receipts = ground.receipts;
      })
      (still_apart m.execution.state state t marks recovered s.once)

  -- after the cancel what waits stands
  pub cancels-tickets : (now : Moment w) → intake.Cancels w t m now → TicketsBehind w stored (Came (event.Cancel t) ∷ p) m now
  cancels-tickets now c = subst (λ (n : Moment w). TicketsBehind w stored (Came (event.Cancel t) ∷ p) m n) (sym c.becomes)
      (given_up c.state c.build c.marks c.gives_up)

-- what names a live request does
pub request_live : {B C I : Type 0} (count t : ℕ) (p : Past B C I) → names_live count p (event.Cancel t) ≡ true → IsLiveRequest t p
request_live count t p is = go (live_ticket t p) is
  where
    go : (o : Option Ticket) → is_request o ≡ true → o ≡ Some ticket.Request
    go None is = cc
    go (Some ticket.Request) is = refl
    go (Some ticket.Receipt) is = cc
