-- A message or an action that is taken stands, and what is left stands beside it.
use Rattle.std.proofs.Common.{◌≡◌, ◌≢◌, ◌++◌, ℕ, List, ◌∷◌, All, Option, sym, ap, ◌∙◌, subst, arith}
use Rattle.std.proofs.lemmas.List.{append_cancel_left}
use Rattle.std.proofs.lemmas.List.Elements.{All-head, All-tail, All-weaker}
use Rattle.stateful_base.specs.Names.{Named}
use Rattle.stateful_history.specs.Past.{Past, after}
use Rattle.stateful_history.specs.declared.mark.Mark.{Mark}
use Rattle.stateful_exec_model.specs.Workings.{Workings}
use Rattle.stateful_loop_model.specs.Moments.{Moment, with_loop}
use Rattle.stateful_loop_model.specs.Rules.{Takes, of_action, of_message}
use Rattle.stateful_loop_model.specs.declared.message.Action.{Action}
use Rattle.stateful_loop_model.specs.declared.message.Action.TheVariants as action
use Rattle.stateful_loop_model.specs.declared.message.Message.{Message}
use Rattle.stateful_loop_laws.specs.Tickets.{ticket_under, MessageStands, ActionStands, TicketsStand, TicketsBehind}
use Rattle.stateful_loop_laws.proofs.tickets.Times.{AreApart, apart_fewer, apart_others}
use Rattle.stateful_loop_laws.proofs.tickets.Waiting.{WaitsAt, waiting, waiting_at, times-waiting}

module _ {B C I P R D H G U : Type 0} (w : Workings B C I P R D H G U) (stored : ℕ → Option (Named B)) (p : Past B C I) where
  -- an action was taken: it stands, and so does what waits still, under other tickets
  pub record IsTaken (a : Action B C I) (m : Moment w) : Type 0 where
    pub stands : ActionStands w stored p m.execution.state m.execution.build a
    pub waits : WaitsAt w stored p m
    pub apart : AreApart (ticket_under a ∷ waiting_at w stored m)
    pub once : AreApart m.execution.state.recovered

  -- those that wait are of other tickets
  pub taken_others : (a : Action B C I) (m : Moment w) → IsTaken a m → All (λ u. u ≡ ticket_under a → ⊥) (waiting_at w stored m)
  taken_others a m t = All-weaker (λ u. ticket_under a ≢ u) (λ u. u ≡ ticket_under a → ⊥) (λ u other same. other (sym same))
      (waiting_at w stored m) (apart_others (ticket_under a) (waiting_at w stored m) t.apart)

  -- the first action
  pub action_taken : (a : Action B C I) (rest : List (Action B C I)) (m : Moment w) → m.loop.actions ≡ a ∷ rest → TicketsStand w stored p m
      → IsTaken a (with_loop w m (record m.loop { actions = rest }))
  action_taken a rest m is s =
      let all : All (ActionStands w stored p m.execution.state m.execution.build) (a ∷ rest) = rw is at s.actions in
      let apart : AreApart (waiting m.loop.queue (a ∷ rest) m.loop.front m.loop.durability.held) = subst
      (λ acts. AreApart (waiting m.loop.queue acts m.loop.front m.loop.durability.held)) is s.apart in
      record {
        stands = All-head (ActionStands w stored p m.execution.state m.execution.build) a rest all;
        waits = record {
          queue = s.queue;
          actions = All-tail (ActionStands w stored p m.execution.state m.execution.build) a rest all;
          front = s.front;
          held = s.held;
        };
        apart = apart_fewer (waiting m.loop.queue (a ∷ rest) m.loop.front m.loop.durability.held)
            (ticket_under a ∷ waiting m.loop.queue rest m.loop.front m.loop.durability.held) apart (λ u.
            let before = times-waiting u m.loop.queue (a ∷ rest) m.loop.front m.loop.durability.held in
            let behind = times-waiting u m.loop.queue rest m.loop.front m.loop.durability.held in
            omega (arith, before, behind));
        once = s.once;
      }

  -- the first message of the mailbox
  pub message_taken : (a : Message B C I) (rest : List (Message B C I)) (m : Moment w) → m.loop.queue ≡ a ∷ rest → TicketsStand w stored p m
      → IsTaken (action.Message a) (with_loop w m (record m.loop { queue = rest }))
  message_taken a rest m is s =
      let all : All (MessageStands w stored p m.execution.state m.execution.build) (a ∷ rest) = rw is at s.queue in
      record {
        stands = All-head (MessageStands w stored p m.execution.state m.execution.build) a rest all;
        waits = record {
          queue = All-tail (MessageStands w stored p m.execution.state m.execution.build) a rest all;
          actions = s.actions;
          front = s.front;
          held = s.held;
        };
        apart = subst (λ q. AreApart (waiting q m.loop.actions m.loop.front m.loop.durability.held)) is s.apart;
        once = s.once;
      }

  -- what is taken
  pub takes-taken : (a : Message B C I) (m mid : Moment w) → Takes w a m mid → TicketsStand w stored p m → IsTaken (action.Message a) mid
  takes-taken a m mid (of_action {rest = rest} is become) s = subst (λ (n : Moment w). IsTaken (action.Message a) n) (sym become)
      (action_taken (action.Message a) rest m is s)
  takes-taken a m mid (of_message {rest = rest} none_first is become) s = subst (λ (n : Moment w). IsTaken (action.Message a) n) (sym become)
      (message_taken a rest m is s)

  -- execution stays
  pub takes-execution : (a : Message B C I) (m mid : Moment w) → Takes w a m mid → mid.execution ≡ m.execution
  takes-execution a m mid (of_action is become) = ap (λ n. n.execution) become
  takes-execution a m mid (of_message none_first is become) = ap (λ n. n.execution) become

  -- the front stays
  pub takes-front : (a : Message B C I) (m mid : Moment w) → Takes w a m mid → mid.loop.front ≡ m.loop.front
  takes-front a m mid (of_action is become) = ap (λ n. n.loop.front) become
  takes-front a m mid (of_message none_first is become) = ap (λ n. n.loop.front) become

  -- marks that were made since are those that were made since an earlier moment of the same marks
  pub behind_before : (m mid now : Moment w) → mid.marks ≡ m.marks → TicketsBehind w stored p mid now → TicketsBehind w stored p m now
  behind_before m mid now same b = record { more = b.more; marks_are = b.marks_are ∙ ap (λ marks. marks ++ b.more) same; tickets = b.tickets }

  -- what waits stands behind whatever marks were made
  pub tickets_at : (m now : Moment w) (more : List (Mark B)) → now.marks ≡ m.marks ++ more → TicketsBehind w stored p m now
      → TicketsStand w stored (after p more) now
  tickets_at m now more is b = subst (λ (marks : List (Mark B)). TicketsStand w stored (after p marks) now)
      (append_cancel_left m.marks b.more more (sym b.marks_are ∙ is)) b.tickets
