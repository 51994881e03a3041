-- The blocks that a script's builds give.
use Rattle.std.specs.Prelude.{◌≡◌, ◌⊎◌, ℕ, List, Some, slice_index_or}
use Rattle.stateful_base.specs.declared.outcome.Handoff.{Handoff}
use Rattle.stateful_base.specs.declared.outcome.Handoff.TheVariants.{Vote, Stage}
use Rattle.stateful_base.specs.declared.round.Round.{Round}
use Rattle.stateful_db.specs.Works.{Asked}
use Rattle.stateful_db.specs.declared.application.ProposalKind.{ProposalKind}
use Rattle.stateful_db.specs.declared.application.ProposalKind.TheVariants.{Prepare, Propose}
use Rattle.stateful_bank.specs.declared.ask.Ask.{Ask}
use Rattle.stateful_bank.specs.declared.block.BankBlock.{BankBlock}
use Rattle.stateful_bank_app.specs.Builds.{bank_gives}
use Rattle.stateful_bank_app.specs.Rules.{Rules}
use Rattle.stateful_script.specs.declared.script.PlannedEvent.{PlannedEvent}
use Rattle.stateful_script.specs.declared.script.PlannedEvent.TheVariants as line
use Rattle.stateful_script_plan.specs.declared.plan.Planned.{Planned}
use Rattle.stateful_script_plan.specs.Plan.{Outlined, first_outlined}
use Rattle.stateful_script_plan.specs.Events.{ask_for}

-- what is asked for on a parent, in the round and with the operations of a block
abbrev pub asked : ProposalKind → Handoff (Unit {0}) → Planned → Planned → Asked BankBlock Round Ask
asked kind decision parent p =
    record {
      kind =
          kind;
      context =
          p.block.block.round;
      parent = parent.block.block;
      input = ask_for decision p;
    }

module _ {States Targets : Type 0} (rules : Rules States Targets) (target_of : States → Targets)
    (initial : States) where
  -- on the states after the parent, no block is built for this but the named one
  abbrev pub NamesBuild : ProposalKind
      → Handoff (Unit {0})
      → Outlined States
      → Outlined States
      → Type 0
  NamesBuild kind decision parent p =
      (s : States) (b : BankBlock) → parent.after ≡ Some s
      → (bank_gives rules target_of (asked kind decision parent.planned p.planned) s (Vote b))
      ⊎ (bank_gives rules target_of (asked kind decision parent.planned p.planned) s (Stage b))
      → b ≡ p.planned.block.block

  -- what is outlined at a place of the script's names; behind the last place genesis
  abbrev pub outlined_at : List (Outlined States) → ℕ → Outlined States
  outlined_at outline place = slice_index_or outline place (first_outlined rules target_of initial)

  -- a line that asks for a build names the block that the build gives
  abbrev pub NamesItsBuild : List (Outlined States) → PlannedEvent → Type 0
  NamesItsBuild outline (line.Prepare parent block decision) =
      NamesBuild Prepare decision (outlined_at outline parent) (outlined_at outline block)
  NamesItsBuild outline (line.Propose parent block) =
      NamesBuild Propose (Vote tt) (outlined_at outline parent) (outlined_at outline block)
  NamesItsBuild outline _ = Unit {0}
