-- Builds of blocks: what is asked for, and what they stand on.
use Rattle.std.specs.Prelude.{◌≡◌, ℕ, List, ◌∷◌, Option, Some}
use Rattle.sha2.specs.Sha256.{sha256}
use Rattle.stateful_base.specs.declared.round.Round.{Round}
use Rattle.stateful_base.specs.declared.target.Target.{Target}
use Rattle.stateful_base.specs.declared.outcome.Handoff.{Handoff}
use Rattle.stateful_base.specs.declared.outcome.Handoff.TheVariants.{Wait, Vote, Stage}
use Rattle.stateful_base.specs.declared.outcome.Moved.{Moved}
use Rattle.stateful_base.specs.declared.outcome.Moved.TheVariants.{Pending, Done}
use Rattle.stateful_db.specs.Chain.{IsPoint}
use Rattle.stateful_db.specs.Works.{Asked, BuildOf}
use Rattle.stateful_db.specs.declared.application.ProposalKind.{ProposalKind}
use Rattle.stateful_db.specs.declared.application.ProposalKind.TheVariants.{Prepare, Propose}
use Rattle.stateful_bank.specs.declared.ask.Ask.{Ask}
use Rattle.stateful_bank.specs.declared.block.BankBlock.{BankBlock}
use Rattle.stateful_bank.specs.declared.proposal.Proposal.{Proposal}
use Rattle.stateful_bank.specs.BankBlock.{block_bytes}
use Rattle.stateful_bank.specs.Proposal.{Gives}
use Rattle.stateful_bank_app.specs.Rules.{Rules, bank_meaning}
use Rattle.stateful_bank_app.specs.Progress.{HasDone}
use Rattle.stateful_bank_app.specs.declared.progress.Progress.{Progress}
use Rattle.stateful_bank_app.specs.declared.build.BankBuild.{BankBuild}

-- how the block of a request is handed over: one that is proposed is voted on
abbrev pub decision_of : ProposalKind → Ask → Handoff (Unit {0})
decision_of Prepare ask = ask.decision
decision_of Propose ask = Vote tt

-- what a request asks for: a block above its parent, which it names by the digest of the parent's
-- bytes
abbrev pub proposal_of : Asked BankBlock Round Ask → Proposal
proposal_of a = record {
  decision = decision_of a.kind a.input;
  height = a.parent.height;
  parent = record { 0 = sha256 (block_bytes a.parent) };
  round = a.context;
  ops = a.input.ops;
}

-- what builds of the bank are of
abbrev pub BankBuildOf : Type 0 → Type 0 → Type 0
BankBuildOf Ids States = BuildOf BankBlock Round Ask (Unit {0}) Ids States

module _ {States Targets : Type 0} (w : Rules States Targets) (target_of : States → Targets) where
  -- the targets of a block that leads to these states
  abbrev pub targets_after : States → List Target
  targets_after s = w.listed (target_of s)

  -- a build for the request on these states may hand this over
  abbrev pub bank_gives : Asked BankBlock Round Ask → States → Handoff BankBlock → Type 0
  bank_gives a s given = Gives (bank_meaning w).step targets_after (proposal_of a) s given

module _ {U Ids States Targets : Type 0} (w : Rules States Targets)
    (Holds : U → w.Changes → Ids → Ids × States → List (Ids × States) → Type 0) where
  -- the build is of this, and so many turns were taken: one for each operation that is done
  pub record IsBuild (build : BankBuild U) (b : BankBuildOf Ids States) (turns : ℕ) : Type 0 where
    pub progress : Progress U
    pub work_is : build.work ≡ Some (proposal_of b.asked, progress)
    pub turns_are : progress.done ≡ turns
    pub done : HasDone w Holds progress (proposal_of b.asked).ops b.own b.at b.below

  -- what holds of all that the build may be of, where the databases are at a point of its chain
  abbrev pub EachBuild : BankBuild U
      → Option (Ids × States)
      → (BankBuildOf Ids States → ℕ → Type 0)
      → Type 0
  EachBuild build place Fact =
      (b : BankBuildOf Ids States) (turns : ℕ) (at : Ids × States)
      → IsBuild build b turns
      → place ≡ Some at
      → IsPoint at (b.at ∷ b.below)
      → Fact b turns

-- a turn that ends with a block
abbrev pub IsBuilt : {T : Type 0} → Moved (Handoff T) → Type 0
IsBuilt Pending = ⊥
IsBuilt (Done Wait) = ⊥
IsBuilt (Done (Vote built)) = Unit {0}
IsBuilt (Done (Stage built)) = Unit {0}
