-- Runs of blocks: what they stand on, and what they count.
use Rattle.std.specs.Prelude.{◌≡◌, ℕ, ◌+◌, ◌-◌, ◌^◌, List, ◌∷◌, min, false, Option, None, Some}
use Rattle.std.specs.Prelude.{Result, Ok, Err}
use Rattle.stateful_base.specs.declared.round.Round.{Round}
use Rattle.stateful_base.specs.declared.outcome.Finality.{Finality}
use Rattle.stateful_base.specs.declared.outcome.Finality.TheVariants.{Candidate, Finalized}
use Rattle.stateful_base.specs.declared.outcome.Moved.{Moved}
use Rattle.stateful_base.specs.declared.outcome.Moved.TheVariants.{Pending, Done}
use Rattle.stateful_db.specs.Chain.{IsPoint}
use Rattle.stateful_db.specs.Works.{RunOf, block_of}
use Rattle.stateful_db.specs.declared.application.AppFault.{AppFault}
use Rattle.stateful_db.specs.declared.application.AppFault.TheVariants.{Failed, OutOfMemory}
use Rattle.stateful_bank.specs.declared.op.Op.{Op}
use Rattle.stateful_bank.specs.declared.block.BankBlock.{BankBlock}
use Rattle.stateful_bank.specs.Op.{accept}
use Rattle.stateful_bank_app.specs.Rules.{Rules, stepped}
use Rattle.stateful_bank_app.specs.Progress.{HasDone}
use Rattle.stateful_bank_app.specs.declared.progress.Progress.{Progress}
use Rattle.stateful_bank_app.specs.declared.run.BankRun.{BankRun}

-- what runs of the bank are of
abbrev pub BankRunOf : Type 0 → Type 0 → Type 0
BankRunOf Ids States = RunOf BankBlock Round Ids States

module _ {U Ids States Targets : Type 0} (w : Rules States Targets)
    (Holds : U → w.Changes → Ids → Ids × States → List (Ids × States) → Type 0) where
  -- the run is of this, and so many turns were taken: one for each operation that is done
  pub record IsRun (run : BankRun U) (r : BankRunOf Ids States) (turns : ℕ) : Type 0 where
    pub finality_is : run.finality ≡ r.finality
    pub block_is : run.block ≡ r.ancestry.first
    pub progress : Progress U
    pub progress_is : run.progress ≡ Some progress
    pub turns_are : progress.done ≡ turns
    pub done : HasDone w Holds progress (block_of r).ops r.own r.at r.below

  -- what holds of all that the run may be of, where the databases are at a point of its chain
  abbrev pub EachRun : BankRun U
      → Option (Ids × States)
      → (BankRunOf Ids States → ℕ → Type 0)
      → Type 0
  EachRun run place Fact =
      (r : BankRunOf Ids States) (turns : ℕ) (at : Ids × States)
      → IsRun run r turns
      → place ≡ Some at
      → IsPoint at (r.at ∷ r.below)
      → Fact r turns

-- a candidate that isn't acceptable
abbrev pub IsRejected : Finality → List Op → Type 0
IsRejected Candidate ops = accept ops ≡ false
IsRejected Finalized ops = ⊥

-- a turn that ends with a batch
abbrev pub IsSealed : {T : Type 0} → Moved (Option T) → Type 0
IsSealed Pending = ⊥
IsSealed (Done None) = ⊥
IsSealed (Done (Some batch)) = Unit {0}

-- the count of faults behind a turn: one more where it failed, up to the last number
abbrev pub counted : {T : Type 0} → Result T AppFault → ℕ → ℕ
counted (Err Failed) faults = min (faults + 1) (2 ^ 64 - 1)
counted (Err OutOfMemory) faults = faults
counted (Ok value) faults = faults

module _ {States Targets : Type 0} (w : Rules States Targets) (Full : States → Type 0) where
  -- a block of these operations at this height leads to states that end at the last number
  pub record LeadsToFull (s : States) (ops : List Op) (height : ℕ) : Type 0 where
    pub after : States
    pub leads : stepped w s ops height ≡ Some after
    pub is_full : Full after

  -- it leads to states that end below that
  pub record LeadsToRoom (s : States) (ops : List Op) (height : ℕ) : Type 0 where
    pub after : States
    pub leads : stepped w s ops height ≡ Some after
    pub has_room : Full after → ⊥
