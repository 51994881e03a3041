-- What builds give.
use Rattle.std.specs.Prelude.{◌≡◌, ◌+◌, ◌^◌, ◌<◌, ◌≤◌, true, false, List, [], length, Option, Some}
use Rattle.std.specs.Prelude.{None}
use Rattle.stateful_base.specs.Handoff.{IsWait}
use Rattle.stateful_base.specs.declared.outcome.Handoff.{Handoff}
use Rattle.stateful_base.specs.declared.outcome.Handoff.TheVariants.{Wait, Vote, Stage}
use Rattle.stateful_base.specs.declared.target.Target.{Target}
use Rattle.stateful_bank.specs.declared.block.BankBlock.{BankBlock}
use Rattle.stateful_bank.specs.declared.proposal.Proposal.{Proposal}
use Rattle.stateful_bank.specs.Op.{accept}
use Rattle.stateful_bank.specs.BankBlock.{child_block}

-- why nothing is built for a proposal, whatever the states are
pub data IsDeclined (p : Proposal) : Type 0 where
  Waits : IsWait p.decision → IsDeclined p
  HasNone : p.ops ≡ [] → IsDeclined p
  HasMany : 16 < length p.ops → IsDeclined p
  IsAtEnd : 2 ^ 64 ≤ p.height.0 + 1 → IsDeclined p

-- the block one above the parent, with these operations, in this round, over databases of these
-- targets
abbrev pub built_block : Proposal → List Target → BankBlock
built_block p targets = child_block p.height.0 p.parent p.round p.ops targets

-- Blocks lead from states to states, which are told by the targets of the databases.
module _ {States : Type 0} (step : States → BankBlock → Option States)
    (targets_of : States → List Target) where
  -- why nothing is built on these states
  pub data Declines (p : Proposal) (before : States) : Type 0 where
    Declined : IsDeclined p → Declines p before
    HasNoStates : ((targets : List Target) → step before (built_block p targets) ≡ None)
        → Declines p before
    IsUnacceptable : accept p.ops ≡ false → Declines p before

  -- the block that is built on these states: it leads to states, and commits to them
  pub record Builds (p : Proposal) (before : States) (block : BankBlock) : Type 0 where
    pub asked : IsDeclined p → ⊥
    pub acceptable : accept p.ops ≡ true
    pub after : States
    pub block_is : block ≡ built_block p (targets_of after)
    pub leads : step before block ≡ Some after

  -- what a build hands over: nothing, or a block under its decision
  abbrev pub Gives : Proposal → States → Handoff BankBlock → Type 0
  Gives p before Wait = Declines p before
  Gives p before (Vote block) = (p.decision ≡ Vote tt) × Builds p before block
  Gives p before (Stage block) = (p.decision ≡ Stage tt) × Builds p before block

  -- what blocks lead to doesn't hang on the targets that they commit to
  abbrev pub IgnoresTargets : Type 0
  IgnoresTargets =
      (p : Proposal) (before : States) (a b : List Target)
      → step before (built_block p a) ≡ step before (built_block p b)

  -- then a build on given states hands over one thing and no other
  abbrev pub GivesOne : Type 0
  GivesOne =
      IgnoresTargets
      → (p : Proposal) (before : States)
      → (given : Handoff BankBlock)
      × Gives p before given
      × ((other : Handoff BankBlock) → Gives p before other → other ≡ given)
