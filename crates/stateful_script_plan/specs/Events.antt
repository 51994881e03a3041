-- The events of a script.
use Rattle.std.specs.Prelude.{ℕ, ◌+◌, Bool, true, false, if◌then◌else◌, List, [], ◌∷◌, Option, Some}
use Rattle.std.specs.Prelude.{None, option_map, slice_index_or}
use Rattle.stateful_base.specs.Names.{Named}
use Rattle.stateful_base.specs.declared.block.Ancestry.{Ancestry}
use Rattle.stateful_base.specs.declared.number.Height.{Height}
use Rattle.stateful_base.specs.declared.outcome.Handoff.{Handoff}
use Rattle.stateful_base.specs.declared.outcome.Handoff.TheVariants.{Vote}
use Rattle.stateful_base.specs.declared.round.Round.{Round}
use Rattle.stateful_db.specs.declared.barrier.Flushed.{Flushed}
use Rattle.stateful_db.specs.declared.barrier.Flushed.TheVariants.{Good, Interrupted}
use Rattle.stateful_bank.specs.declared.ask.Ask.{Ask}
use Rattle.stateful_bank.specs.declared.block.BankBlock.{BankBlock}
use Rattle.stateful_history.specs.declared.event.Event.{Event}
use Rattle.stateful_history.specs.declared.event.Event.TheVariants as event
use Rattle.stateful_script.specs.declared.script.PlannedEvent.{PlannedEvent}
use Rattle.stateful_script.specs.declared.script.PlannedEvent.TheVariants as line
use Rattle.stateful_script_plan.specs.declared.plan.Planned.{Planned}
use Rattle.stateful_script_plan.specs.Plan.{genesis}

abbrev pub BankEvent : Type 0
BankEvent = Event BankBlock Round Ask

-- a start, where this height was processed last, a crash left so many checkpoints of each database,
-- and one finalization may be unacknowledged
abbrev pub restart : Option Height → List ℕ → BankEvent
restart processed keep =
    event.Restart (record { processed = processed; cutoff = None; max_pending_acks = 1 }) keep

-- the block at a place of the script's names; behind the last place a genesis without targets
abbrev pub planned_at : List Planned → ℕ → Planned
planned_at made place = slice_index_or made place (genesis [])

abbrev pub list_of : Option (Named BankBlock) → List (Named BankBlock)
list_of None = []
list_of (Some b) = b ∷ []

-- a block, and its parent if it has one and the block doesn't come alone
abbrev pub ancestry_of : Bool → Planned → Ancestry BankBlock
ancestry_of true p = record { first = p.block; rest = [] }
ancestry_of false p = record { first = p.block; rest = list_of p.parent }

-- what the build of a block is asked for
abbrev pub ask_for : Handoff Unit → Planned → Ask
ask_for decision p = record { decision = decision; ops = p.block.block.ops }

-- how a database has flushed
abbrev pub flushed : Bool → Flushed
flushed true = Interrupted
flushed false = Good

-- The event of a line, with this ticket if it takes one. A build is asked for on the parent alone,
-- in the round and with the operations of the block that it would give.
abbrev pub event_of : List Planned → ℕ → PlannedEvent → BankEvent
event_of made ticket (line.Verify block alone) =
    event.Verify ticket (ancestry_of alone (planned_at made block))
event_of made ticket (line.Prepare parent block decision) =
    event.Prepare ticket (planned_at made block).block.block.round
    (ancestry_of true (planned_at made parent)) (ask_for decision (planned_at made block))
event_of made ticket (line.Propose parent block) =
    event.Propose ticket (planned_at made block).block.block.round
    (ancestry_of true (planned_at made parent)) (ask_for (Vote tt) (planned_at made block))
event_of made ticket (line.Finalize block) = event.Finalized ticket (planned_at made block).block
event_of made ticket line.Subscribe = event.Subscribe ticket
event_of made ticket (line.Cancel given_up) = event.Cancel given_up
event_of made ticket (line.Fetched fetch answer) =
    event.Fetched fetch (option_map (λ block. (planned_at made block).block) answer)
event_of made ticket (line.Turn job) = event.Turn job
event_of made ticket (line.Flushed barrier database stopped) =
    event.Flushed barrier database (flushed stopped)
event_of made ticket line.Stop = event.Stop
event_of made ticket (line.Restart processed keep) = restart processed keep

-- a request and a finalization take a ticket
abbrev pub takes_ticket : PlannedEvent → Bool
takes_ticket (line.Verify block alone) = true
takes_ticket (line.Prepare parent block decision) = true
takes_ticket (line.Propose parent block) = true
takes_ticket (line.Finalize block) = true
takes_ticket line.Subscribe = true
takes_ticket _ = false

-- the next ticket behind a line
abbrev pub ticket_after : ℕ → PlannedEvent → ℕ
ticket_after ticket l = if takes_ticket l then ticket + 1 else ticket

-- the events of lines, with tickets from this one on
abbrev pub events_from : List Planned → ℕ → List PlannedEvent → List BankEvent
events_from made ticket [] = []
events_from made ticket (l ∷ ls) =
    event_of made ticket l ∷ events_from made (ticket_after ticket l) ls

-- The first start, where nothing was processed and each database is left as it is, and then the
-- event of each line. Tickets are numbered from 0.
unfoldable pub events_of : List Planned → List PlannedEvent → List BankEvent
events_of made ls = restart None [] ∷ events_from made 0 ls
