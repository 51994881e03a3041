use Rattle.std.proofs.Common.{length}
use Rattle.stateful_script.specs.Cursor.{fields_left}
use Rattle.stateful_script.specs.BlockItems.{items_of}
use Rattle.stateful_script.proofs.ItemsLeft.{Remaining}
use Rattle.stateful_script.proofs.item.parse_items.Given as goal

abbrev pub invariant-items : goal.invariant-items
invariant-items l = Remaining l.items (fields_left l.fields) (items_of (fields_left l.fn.fields))

abbrev pub decreases-items : goal.decreases-items
decreases-items l = length (fields_left l.fields)
