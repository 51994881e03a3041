-- The blocks that lines of a script name.
--
--     block NAME on PARENT view V ITEMS
--     prepare NAME on PARENT view V DECISION ITEMS      a request to build the block ahead of its proposal
--     propose NAME on PARENT view V ITEMS               a request to build the block
--
-- DECISION is `wait`, `vote` or `stage`. NAME is new, and PARENT was given before.
use Rattle.std.specs.Prelude.{ℕ, ◌+◌, ◌^◌, List, Option, Some, None, option_map, nat_lt}
use Rattle.std.specs.Prelude.{if◌then◌else◌, codes}
use Rattle.std.specs.Str.{bytes_eq}
use Rattle.stateful_base.specs.declared.number.Height.{Height}
use Rattle.stateful_base.specs.declared.outcome.Handoff.{Handoff}
use Rattle.stateful_base.specs.declared.outcome.Handoff.TheVariants as handoff
use Rattle.stateful_script.specs.Fields.{Fields, field_as, after_word, number_at, ◌>>=◌}
use Rattle.stateful_script.specs.Named.{is_free, block_at, height_in}
use Rattle.stateful_script.specs.declared.block.Head.{Head}
use Rattle.stateful_script.specs.declared.item.BlockItems.{BlockItems}
use Rattle.stateful_script.specs.declared.script.PlannedBlock.{PlannedBlock}
use Rattle.stateful_script.specs.declared.script.Script.{Script}

-- a name that the line may give
unfoldable pub new_name : Script → List ℕ → Option (List ℕ)
new_name s field = if is_free s field then Some field else None

-- `NAME on PARENT view V`
unfoldable pub head_at : Script → Fields → Option (Head × Fields)
head_at s fields = do
  name ← field_as (new_name s) fields
  on ← after_word (codes "on") name.1
  parent ← block_at s on
  at_view ← after_word (codes "view") parent.1
  view ← number_at at_view
  Some (record { name = name.0; parent = parent.0; view = record { 0 = view.0 } }, view.1)

-- one above the parent's height, up to the last value
unfoldable pub next_height : List PlannedBlock → ℕ → Option Height
next_height blocks parent =
    if nat_lt (height_in blocks parent + 1) (2 ^ 64) then Some
    (record { 0 = height_in blocks parent + 1 })
    else None

-- the height that an item says, or one above the parent's
unfoldable pub height_on : List PlannedBlock → ℕ → Option ℕ → Option Height
height_on blocks parent (Some height) = Some (record { 0 = height })
height_on blocks parent None = next_height blocks parent

-- the block of a line, by its head and by what its items say
unfoldable pub planned_by : List PlannedBlock → Head → BlockItems → Option PlannedBlock
planned_by blocks head said =
    option_map
    (λ height. record {
      parent = head.parent;
      height = height;
      round = record { epoch = record { 0 = said.epoch }; view = head.view };
      slow = said.slow;
      ops = said.ops;
      wrong = said.wrong;
    })
    (height_on blocks head.parent said.height)

-- how a prepared block is to be handed over
unfoldable pub decision : List ℕ → Option (Handoff Unit)
decision field =
    if bytes_eq field (codes "wait") then Some handoff.Wait
    else (if bytes_eq field (codes "vote") then Some (handoff.Vote tt)
    else (if bytes_eq field (codes "stage") then Some (handoff.Stage tt)
    else None))
