-- The finalized blocks that the store of a script hands out.
use Rattle.std.specs.Prelude.{ℕ, ◌≡◌, ◌==◌, List, ◌∷◌, Option, Some, None, find}
use Rattle.std.specs.List.{filter_map}
use Rattle.stateful_base.specs.Names.{Named}
use Rattle.stateful_bank.specs.declared.block.BankBlock.{BankBlock}
use Rattle.stateful_script.specs.declared.script.PlannedEvent.{PlannedEvent}
use Rattle.stateful_script.specs.declared.script.PlannedEvent.TheVariants as line
use Rattle.stateful_script_plan.specs.declared.plan.Planned.{Planned}
use Rattle.stateful_script_plan.specs.Events.{planned_at}

-- the block that a line finalizes, if it does
abbrev pub finalized_by : List Planned → PlannedEvent → Option (Named BankBlock)
finalized_by made (line.Finalize place) = Some (planned_at made place).block
finalized_by made _ = None

-- the blocks that lines finalize, in their order
abbrev pub finalized : List Planned → List PlannedEvent → List (Named BankBlock)
finalized made ls = filter_map (finalized_by made) ls

-- the first of these blocks that has the height
abbrev pub at_height : List (Named BankBlock) → ℕ → Option (Named BankBlock)
at_height blocks height = find (λ b. b.block.height.0 == height) blocks

-- the store has these blocks, but for those behind another one of their height
abbrev pub Keeps : (ℕ → Option (Named BankBlock)) → List (Named BankBlock) → Type 0
Keeps stored blocks = (height : ℕ) → stored height ≡ at_height blocks height

-- the store has the first block, which is genesis, at its height, and at each other height the first
-- block there that a line finalizes
unfoldable pub store_of : List Planned → List PlannedEvent → ℕ → Option (Named BankBlock)
store_of made ls = at_height ((planned_at made 0).block ∷ finalized made ls)
