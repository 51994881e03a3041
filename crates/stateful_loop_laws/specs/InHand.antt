-- That all that is live at a moment is in hand: it stands in execution, or waits in the loop.
use Rattle.std.specs.Prelude.{◌≡◌, ◌≢◌, ◌<◌, ◌++◌, ℕ, false, Option, None, IfSome, IsSome}
use Rattle.std.specs.Prelude.{MatchOption, List, map, All}
use Rattle.stateful_base.specs.Names.{Named}
use Rattle.stateful_history.specs.Asked.{verified}
use Rattle.stateful_history.specs.Finalizations.{finalized_since}
use Rattle.stateful_history.specs.Live.{live_ticket}
use Rattle.stateful_history.specs.Past.{Past, after}
use Rattle.stateful_history.specs.Requests.{proposed, subscribed}
use Rattle.stateful_history.specs.declared.mark.Mark.{Mark}
use Rattle.stateful_table.specs.Table.{at}
use Rattle.stateful_exec_model.specs.Workings.{Workings}
use Rattle.stateful_exec_pause.specs.declared.pause.Pause.TheVariants.{Free}
use Rattle.stateful_exec_tables.specs.declared.tables.Phase.TheVariants.{Open}
use Rattle.stateful_exec_tables.specs.declared.tables.Requested.{Requested}
use Rattle.stateful_exec_laws.specs.Outstanding.{RunsGoOn}
use Rattle.stateful_exec_laws.specs.Requesting.{AllAbstain}
use Rattle.stateful_loop_model.specs.Message.{is_verification}
use Rattle.stateful_loop_model.specs.Moments.{Moment}
use Rattle.stateful_loop_model.specs.declared.message.Action.{Action}
use Rattle.stateful_loop_model.specs.declared.message.Action.TheVariants as action
use Rattle.stateful_loop_model.specs.declared.tables.Processing.{Processing}
use Rattle.stateful_loop_laws.specs.Tickets.{ticket_in, ticket_under, ticket_in_front}
use Rattle.stateful_loop_laws.specs.Times.{times}

-- the tickets of all that waits in the loop
abbrev pub waiting_in : {B C I G : Type 0} → Processing B C I G → List ℕ
waiting_in l =
    map ticket_in l.queue ++ map ticket_under l.actions ++ ticket_in_front l.front
    ++ map (λ receipt. receipt.1) l.durability.held

-- no verification waits among the actions
abbrev pub IsPutOff : {B C I : Type 0} → Action B C I → Type 0
IsPutOff (action.Message x) = is_verification x ≡ false
IsPutOff (action.Build t) = Unit {0}

-- what each request needs was looked for
abbrev pub NoneOpen : {B C I : Type 0} → List (ℕ × Requested B C I) → Type 0
NoneOpen requests = All (λ e. e.1.phase ≡ Open → ⊥) requests

-- The ticket of a verification is that of no other event: as is the case where each ticket is above
-- every earlier one.
pub record VerifiedApart {B C I : Type 0} (p : Past B C I) : Type 0 where
  pub unproposed : (t : ℕ) → proposed t p ≢ None → verified t p ≡ None
  pub unsubscribed : (t : ℕ) → subscribed t p ≢ false → verified t p ≡ None
  pub unfinalized : (t : ℕ) → finalized_since t p ≢ None → verified t p ≡ None

module _ {B C I P R D H G U : Type 0} (w : Workings B C I P R D H G U) where
  -- A ticket is found: in the table of requests, among what was recovered, in the live build, or in
  -- the loop.
  pub data IsFound (m : Moment w) (t : ℕ) : Type 0 where
    requested : IsSome (at m.execution.state.requests t) → IsFound m t
    recovered : 0 < times t m.execution.state.recovered → IsFound m t
    built : MatchOption m.execution.build ⊥ (λ b. b.ticket ≡ t) → IsFound m t
    waiting : 0 < times t (waiting_in m.loop) → IsFound m t

module _ {B C I P R D H G U : Type 0} (w : Workings B C I P R D H G U) (p : Past B C I) where
  -- Each live request and receipt is in hand. Put off is no verification; what is held, and what is
  -- being finalized, is above the durable height.
  pub record AllInHand (m : Moment w) : Type 0 where
    pub hand : (t : ℕ) → live_ticket t p ≢ None → IsFound w m t
    pub put_off : All IsPutOff m.loop.actions
    pub above : All (λ receipt. m.loop.durability.durable < receipt.0) m.loop.durability.held
    pub finalizing : IfSome m.loop.front
        (λ f. m.loop.durability.durable < w.header.height f.block.block)

module _ {B C I P R D H G U : Type 0} (w : Workings B C I P R D H G U)
    (stored : ℕ → Option (Named B)) (base : w.States) (p : Past B C I) where
  -- Live runs go on turning. Where nothing pauses, what each request needs was looked for, and each
  -- one that waits abstains.
  pub record GoesOnAt (m : Moment w) : Type 0 where
    pub runs : RunsGoOn w stored base p m.execution.state.runs
    pub settled : m.execution.state.pause ≡ Free → NoneOpen m.execution.state.requests
    pub abstain : m.execution.state.pause ≡ Free → AllAbstain w stored p m.execution.state.requests

-- from one moment to a later one some marks are made, and all is in hand with them
pub record InHandBehind {B C I P R D H G U : Type 0} (w : Workings B C I P R D H G U)
    (p : Past B C I) (m now : Moment w) : Type 0 where
  pub more : List (Mark B)
  pub marks_are : now.marks ≡ m.marks ++ more
  pub hands : AllInHand w (after p more) now
