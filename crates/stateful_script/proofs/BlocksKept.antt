-- What a line that names a block adds.
use Rattle.std.proofs.Common.{◌≡◌, ℕ, ◌+◌, ◌<◌, ◌≤◌, ◌^◌, true, false, List, [], ◌∷◌, ◌++◌, Option, Some, None, length, nat_lt, arith, refl, ◌∙◌, codes}
use Rattle.std.specs.List.{list_all}
use Rattle.std.proofs.lemmas.Grind.{common_steps}
use Rattle.std.proofs.lemmas.Option.{cond_some}
use Rattle.stateful_base.specs.declared.number.Height.{Height}
use Rattle.stateful_script.specs.Fields.{Fields, field_as, field_at, after_word, number_at}
use Rattle.stateful_script.specs.Named.{is_free, block_at, height_in}
use Rattle.stateful_script.specs.BlockItems.{items_of, is_for_builds, said_of}
use Rattle.stateful_script.specs.BlockLines.{new_name, head_at, next_height, height_on, planned_by}
use Rattle.stateful_script.specs.Lines.{with_block, with_items}
use Rattle.stateful_script.specs.declared.block.Head.{Head}
use Rattle.stateful_script.specs.declared.item.Item.{Item}
use Rattle.stateful_script.specs.declared.item.BlockItems.{BlockItems}
use Rattle.stateful_script.specs.declared.script.PlannedBlock.{PlannedBlock}
use Rattle.stateful_script.specs.declared.script.Script.{Script}
use Rattle.stateful_script.proofs.Found.{Has, this, where_true, bound, mapped}
use Rattle.stateful_script.proofs.ItemsKept.{items_short, said_fits, said_for_build}
use Rattle.stateful_script.proofs.EventsKept.{block_below}

-- the name is free, and the parent is named
pub record IsHead (s : Script) (head : Head) : Type 0 where
  pub free : is_free s head.name ≡ true
  pub parent : head.parent < length s.names

name_free : (s : Script) (fields : Fields) → Has (λ name. is_free s name.0 ≡ true) (field_as (new_name s) fields)
unfolding new_name
name_free s fields =
    let P : List ℕ × Fields → Type 0 = λ name. is_free s name.0 ≡ true in
    bound P _ (field_at fields)
    (λ field _. bound P _ (new_name s field.0)
    (λ name is. this P _ (let parts = cond_some (is_free s field.0) field.0 name is in rw (← parts.1) parts.0)))

pub head_kept : (s : Script) (fields : Fields) → Has (λ head. IsHead s head.0) (head_at s fields)
unfolding head_at
head_kept s fields =
    let P : Head × Fields → Type 0 = λ head. IsHead s head.0 in
    bound P _ (field_as (new_name s) fields)
    (λ name free. bound P _ (after_word (codes "on") name.1)
    (λ on _. bound P _ (block_at s on)
    (λ parent is. bound P _ (after_word (codes "view") parent.1)
    (λ at_view _. bound P _ (number_at at_view)
    (λ view _. this P _ (record { free = name_free s fields name free; parent = block_below s on parent is }))))))

-- the block says what its line says
record IsPlanned (blocks : List PlannedBlock) (head : Head) (said : BlockItems) (block : PlannedBlock) : Type 0 where
  parent : block.parent ≡ head.parent
  ops : block.ops ≡ said.ops
  slow : block.slow ≡ said.slow
  wrong : block.wrong ≡ said.wrong
  height : height_on blocks head.parent said.height ≡ Some block.height

planned : (blocks : List PlannedBlock) (head : Head) (said : BlockItems) → Has (IsPlanned blocks head said) (planned_by blocks head said)
unfolding planned_by
planned blocks head said =
    mapped (IsPlanned blocks head said) _ (height_on blocks head.parent said.height)
    (λ height is. record { parent = refl; ops = refl; slow = refl; wrong = refl; height = is })

next_above : (blocks : List PlannedBlock) (parent : ℕ) → Has (λ h. h.0 ≡ height_in blocks parent + 1) (next_height blocks parent)
unfolding next_height
next_above blocks parent =
    let P : Height → Type 0 = λ h. h.0 ≡ height_in blocks parent + 1 in
    where_true P (nat_lt (height_in blocks parent + 1) (2 ^ 64)) _ (λ _. this P _ refl)

above : (blocks : List PlannedBlock) (parent : ℕ) (said : Option ℕ) → said ≡ None → Has (λ h. h.0 ≡ height_in blocks parent + 1) (height_on blocks parent said)
unfolding height_on
above blocks parent said none = rw none (next_above blocks parent)

-- one name more, with its block
pub record Names (s q : Script) (head : Head) (items : List Item) : Type 0 where
  pub block : PlannedBlock
  pub added : record s { names = s.names ++ head.name ∷ []; blocks = s.blocks ++ block ∷ [] } ≡ q
  pub room : length s.blocks < 1024
  pub parent : block.parent ≡ head.parent
  pub few : length block.ops ≤ 16
  pub slow : block.slow ≤ 9
  pub build : list_all is_for_builds items ≡ true → (block.height.0 ≡ height_in s.blocks head.parent + 1) × (block.slow ≡ 0) × (block.wrong ≡ false)

named_by : (s : Script) (head : Head) (items : List Item) (fields : Fields) (said : BlockItems) (block : PlannedBlock) → items_of fields ≡ Some items → said_of items ≡ Some said → planned_by s.blocks head said ≡ Some block → Has (λ q. Names s q head items) (with_block s head.name block)
unfolding with_block
named_by s head items fields said block from says plans q h =
    let parts = cond_some (nat_lt (length s.blocks) 1024) _ q h in
    let fits = said_fits items (items_short fields items from) said says in
    let is = planned s.blocks head said block plans in
    let room : length s.blocks < 1024 = grind (arith, common_steps, parts.0) in
    record {
      block = block;
      added = parts.1;
      room = room;
      parent = is.parent;
      few = rw is.ops fits.0;
      slow = rw is.slow fits.1;
      build = λ all.
          let b = said_for_build items all said says in
          (above s.blocks head.parent said.height b.height block.height is.height, is.slow ∙ b.slow, is.wrong ∙ b.right);
    }

pub items_name : (s : Script) (head : Head) (items : List Item) (fields : Fields) → items_of fields ≡ Some items → Has (λ q. Names s q head items) (with_items s head items)
unfolding with_items
items_name s head items fields from =
    let P : Script → Type 0 = λ q. Names s q head items in
    bound P _ (said_of items)
    (λ said says. bound P _ (planned_by s.blocks head said)
    (λ block plans. named_by s head items fields said block from says plans))
