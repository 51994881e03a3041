use Rattle.std.proofs.Common.{◌≡◌, ◌+◌, Some, ap, sym, ◌∙◌, slice_get}
use Rattle.std.proofs.lemmas.Option.{slice_get-get_or}
use Rattle.std.specs.Option.{option_map}
use Rattle.stateful_db_any.specs.Live.{written}
use Rattle.stateful_db_any.proofs.Indexing.{next_write, end_write}
use Rattle.stateful_db_any.proofs.index.note_each.Goals as goal

pub loop-i-preserved : goal.loop-i-preserved
loop-i-preserved g c = λ key before was.
    let ops = c.args.ops.now in
    let i = c.loop-i.i in
    let op = c.index-ops-i.result in
    let (now, (has, same)) = c.loop-i.invariant key before was in
    let is : slice_get ops i ≡ Some op = slice_get-get_or ops i op c.loop-i-test.true ∙ ap Some (sym c.index-ops-i.is) in
    (written g.K.Ord.cmp key (c.args.from + i) op now, (c.in_ok-note.ensures key now has, next_write g.K.Ord.cmp key c.args.from i ops op now before is same))

pub returns : goal.returns
returns g c = λ key before was.
    let (now, (has, same)) = c.loop-i.invariant key before was in
    has ∙ ap (λ o. option_map (λ x. x.0) o) (sym (end_write g.K.Ord.cmp key (c.args.from + c.loop-i.i) c.loop-i.i c.args.ops.now now c.loop-i-test.false) ∙ same)
