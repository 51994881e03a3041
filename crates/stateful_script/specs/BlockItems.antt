-- The items of a line that names a block, in any order:
--
--     mint ACCOUNT AMOUNT       an operation
--     move FROM TO AMOUNT       an operation
--     height H                  the block's height
--     epoch E                   the epoch of its round
--     slow K                    the turns of its hook, up to 9
--     wrong                     every root is 32 zero bytes
--
-- There are at most 16 operations, and each of the others stands at most once. Where a build is
-- asked for, an item is an operation or an epoch.
use Rattle.std.specs.Prelude.{ℕ, ◌==◌, Bool, ◌&&◌, true, false, List, [], ◌∷◌, Option, Some, None}
use Rattle.std.specs.Prelude.{option_and_then, option_map, unwrap_or, length, count_by, nat_le}
use Rattle.std.specs.Prelude.{zero, suc, if◌then◌else◌, codes}
use Rattle.std.specs.List.{filter_map, list_all}
use Rattle.std.specs.Str.{bytes_eq}
use Rattle.stateful_bank.specs.declared.op.Op.{Op}
use Rattle.stateful_bank.specs.declared.op.Op.TheVariants.{Mint, Move}
use Rattle.stateful_script.specs.Fields.{Fields, number_at, account_at, turns_at, ◌>>=◌}
use Rattle.stateful_script.specs.declared.item.Item.{Item}
use Rattle.stateful_script.specs.declared.item.Item.TheVariants as item
use Rattle.stateful_script.specs.declared.item.BlockItems.{BlockItems}

-- each item after its word

unfoldable pub mint_at : Fields → Option (Item × Fields)
mint_at fields = do
  account ← account_at fields
  amount ← number_at account.1
  Some (item.Op (Mint account.0 amount.0), amount.1)

unfoldable pub move_at : Fields → Option (Item × Fields)
move_at fields = do
  from ← account_at fields
  to ← account_at from.1
  amount ← number_at to.1
  Some (item.Op (Move from.0 to.0 amount.0), amount.1)

unfoldable pub height_at : Fields → Option (Item × Fields)
height_at fields = do
  height ← number_at fields
  Some (item.Height height.0, height.1)

unfoldable pub epoch_at : Fields → Option (Item × Fields)
epoch_at fields = do
  epoch ← number_at fields
  Some (item.Epoch epoch.0, epoch.1)

unfoldable pub slow_at : Fields → Option (Item × Fields)
slow_at fields = do
  turns ← turns_at fields
  Some (item.Slow turns.0, turns.1)

-- an item by its word
unfoldable pub item_by : List ℕ → Fields → Option (Item × Fields)
item_by word fields =
    if bytes_eq word (codes "mint") then mint_at fields
    else (if bytes_eq word (codes "move") then move_at fields
    else (if bytes_eq word (codes "height") then height_at fields
    else (if bytes_eq word (codes "epoch") then epoch_at fields
    else (if bytes_eq word (codes "slow") then slow_at fields
    else (if bytes_eq word (codes "wrong") then Some (item.Wrong, fields)
    else None)))))

-- this item before those
abbrev pub with_first : Item → Option (List Item) → Option (List Item)
with_first item items = option_map (λ more. item ∷ more) items

-- the items that all the fields spell, where they are at most so many
unfoldable pub items_within : ℕ → Fields → Option (List Item)
items_within n [] = Some []
items_within zero (word ∷ fields) = None
items_within (suc n) (word ∷ fields) =
    option_and_then (λ found. with_first found.0 (items_within n found.1)) (item_by word fields)

-- the items that all the fields spell: an item has at least one field
unfoldable pub items_of : Fields → Option (List Item)
items_of fields = items_within (length fields) fields

-- what an item says, by its kind

abbrev pub op_of : Item → Option Op
op_of (item.Op op) = Some op
op_of _ = None

abbrev pub height_of : Item → Option ℕ
height_of (item.Height height) = Some height
height_of _ = None

abbrev pub epoch_of : Item → Option ℕ
epoch_of (item.Epoch epoch) = Some epoch
epoch_of _ = None

abbrev pub turns_of : Item → Option ℕ
turns_of (item.Slow turns) = Some turns
turns_of _ = None

abbrev pub is_wrong : Item → Bool
is_wrong item.Wrong = true
is_wrong _ = false

-- an item that may stand where a build is asked for
abbrev pub is_for_builds : Item → Bool
is_for_builds (item.Op op) = true
is_for_builds (item.Epoch epoch) = true
is_for_builds _ = false

-- the one of these, if there is one, where there aren't more
unfoldable pub at_most_one : {A : Type 0} → List A → Option (Option A)
at_most_one [] = Some None
at_most_one (x ∷ []) = Some (Some x)
at_most_one (x ∷ y ∷ xs) = None

-- What items say together: the epoch and the turns of the hook are 0 where none says them. There is
-- nothing where one stands too often.
unfoldable pub said_of : List Item → Option BlockItems
said_of items = do
  height ← at_most_one (filter_map height_of items)
  epoch ← at_most_one (filter_map epoch_of items)
  slow ← at_most_one (filter_map turns_of items)
  if nat_le (count_by is_wrong items) 1 && nat_le (length (filter_map op_of items)) 16
      then Some
      (record {
        ops =
            filter_map op_of items;
        height =
            height;
        epoch =
            unwrap_or epoch 0;
        slow =
            unwrap_or slow 0;
        wrong = count_by is_wrong items == 1;
      })
      else None

-- the items that all the fields spell, where each may stand where a build is asked for
unfoldable pub build_items_of : Fields → Option (List Item)
build_items_of fields = do
  items ← items_of fields
  if list_all is_for_builds items then Some items else None
