use Rattle.std.proofs.Common.{◌≡◌, Some, sym, ap, ◌<◌, length, ◌∙◌, arith, slice_get}
use Rattle.std.proofs.lemmas.Option.{slice_get-get_or}
use Rattle.stateful_db_any.proofs.Staging.{slots_step}
use Rattle.stateful_db_any.proofs.staged.put_slots.Goals as goal

pub loop-i-preserved : goal.loop-i-preserved
loop-i-preserved g c =
    let keys = c.args.keys.now in
    let slots = c.args.slots.now in
    let i = c.loop-i.i in
    let key = c.index-keys-i.result in
    let slot = c.index-slots-i.result in
    let within : i < length keys = omega (arith, c.loop-i-test.true, c.requires) in
    let at_key : slice_get keys i ≡ Some key = slice_get-get_or keys i key within ∙ ap Some (sym c.index-keys-i.is) in
    let at_slot : slice_get slots i ≡ Some slot = slice_get-get_or slots i slot c.loop-i-test.true ∙ ap Some (sym c.index-slots-i.is) in
    slots_step g.K.Ord.cmp c.loop-i.batch c.in_ok-batch.batch keys slots i key slot at_key at_slot c.in_ok-batch.ensures
    ∙ c.loop-i.invariant
