-- The blocks of a script, and the states after them.
use Rattle.std.specs.Prelude.{ℕ, ◌≡◌, Bool, if◌then◌else◌, List, [], ◌∷◌, ◌++◌, Option, Some, None}
use Rattle.std.specs.Prelude.{option_and_then, slice_get, map, replicate}
use Rattle.std.specs.List.{zip}
use Rattle.sha2.specs.Sha256.{sha256}
use Rattle.stateful_base.specs.Names.{Named}
use Rattle.stateful_base.specs.declared.target.Target.{Target}
use Rattle.stateful_bank.specs.declared.block.BankBlock.{BankBlock}
use Rattle.stateful_bank.specs.BankBlock.{block_bytes, genesis_block}
use Rattle.stateful_bank_app.specs.Rules.{Rules, stepped}
use Rattle.stateful_script.specs.declared.script.PlannedBlock.{PlannedBlock}
use Rattle.stateful_script_text.specs.declared.shown.Label.{Label}
use Rattle.stateful_script_plan.specs.declared.plan.Planned.{Planned}

-- a block with the SHA-256 of its bytes
abbrev pub named : BankBlock → Named BankBlock
named b = record { digest = record { 0 = sha256 (block_bytes b) }; block = b }

-- the target under a root of 32 zero bytes
abbrev pub under_wrong_root : Target → Target
under_wrong_root target = record target { root = record { 0 = replicate 32 0 } }

-- what a block commits to: where it is to be wrong, each root is a wrong one
abbrev pub committed : Bool → List Target → List Target
committed wrong targets = if wrong then map under_wrong_root targets else targets

-- genesis over these targets
unfoldable pub genesis : List Target → Planned
genesis targets = record { block = named (genesis_block targets); parent = None }

-- the block of a line on its parent, over these targets
unfoldable pub block_on : Planned → PlannedBlock → List Target → BankBlock
block_on parent b targets = record {
  height = b.height;
  round = b.round;
  parent = parent.block.digest;
  slow = b.slow;
  ops = b.ops;
  targets = committed b.wrong targets;
}

unfoldable pub child : Planned → PlannedBlock → List Target → Planned
child parent b targets =
    record { block = named (block_on parent b targets); parent = Some parent.block }

-- a planned block, and the states after it from genesis on, where there are such
pub record Outlined (States : Type 0) : Type 0 where
  pub planned : Planned
  pub after : Option States

-- the blocks of these
abbrev pub blocks_of : {States : Type 0} → List (Outlined States) → List Planned
blocks_of outline = map (λ o. o.planned) outline

module _ {States Targets : Type 0} (rules : Rules States Targets) (target_of : States → Targets)
    (initial : States) where
  -- the targets of these states, or of the initial ones where there are none
  abbrev pub targets_after : Option States → List Target
  targets_after None = rules.listed (target_of initial)
  targets_after (Some s) = rules.listed (target_of s)

  -- genesis leads to the initial states
  abbrev pub first_outlined : Outlined States
  first_outlined =
      record { planned = genesis (targets_after (Some initial)); after = Some initial }

  -- the states after a block on this parent, where there are such
  abbrev pub states_after : Outlined States → PlannedBlock → Option States
  states_after parent b = option_and_then (λ s. stepped rules s b.ops b.height.0) parent.after

  -- the block of a line on its parent, over the targets of the states after it
  abbrev pub next_outlined : Outlined States → PlannedBlock → Outlined States
  next_outlined parent b =
      record {
        planned = child parent.planned b (targets_after (states_after parent b));
        after = states_after parent b;
      }

  -- Genesis stands first, and behind it the block of each line, on the block at its parent's place.
  pub data ArePlanned : List PlannedBlock → List (Outlined States) → Type 0 where
    first : ArePlanned [] (first_outlined ∷ [])
    next : (lines : List PlannedBlock) (outline : List (Outlined States)) (b : PlannedBlock)
        (parent : Outlined States)
        → ArePlanned lines outline → slice_get outline b.parent ≡ Some parent
        → ArePlanned (lines ++ b ∷ []) (outline ++ next_outlined parent b ∷ [])

  -- these are the blocks of an outline of the lines
  pub record HaveOutline (lines : List PlannedBlock) (made : List Planned) : Type 0 where
    pub outline : List (Outlined States)
    pub planned : ArePlanned lines outline
    pub made_are : made ≡ blocks_of outline

-- a name with the digest of its block
abbrev pub label_of : List ℕ × Planned → Label
label_of (name, made) = record { name = name; digest = made.block.digest }

-- each name with the digest of its block, in the order of the names
abbrev pub labels_of : List (List ℕ) → List Planned → List Label
labels_of names made = map label_of (zip names made)
