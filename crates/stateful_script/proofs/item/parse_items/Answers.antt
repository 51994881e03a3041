use Rattle.std.proofs.Common.{sym}
use Rattle.stateful_script.specs.Cursor.{fields_left}
use Rattle.stateful_script.proofs.ItemsLeft.{at_first, at_last, one_more, refused}
use Rattle.stateful_script.proofs.item.parse_items.Goals as goal

pub items-init : goal.items-init
items-init c = rw c.new-items.ensures (at_first (fields_left c.args.fields.now))

pub items-preserved : goal.items-preserved
items-preserved c =
    let r = rw c.in-Some.ensures at c.items.invariant in
    rw c.in_ok-push-in-Some-parse_item.ensures.items (one_more _ _ _ _ _ _ r c.in-Some-parse_item.ensures.item c.in-Some-parse_item.ensures.shorter)

pub returns-in-None : goal.returns-in-None
returns-in-None c = let r = rw c.in-Some.ensures at c.items.invariant in sym (refused _ _ _ _ r c.in-None.ensures.item)

pub returns : goal.returns
returns c = sym (at_last _ _ (rw c.in_default.ensures.0 at c.items.invariant))
