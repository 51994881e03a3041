use Rattle.std.proofs.Common.{◌≡◌, ◌-◌, ◌≤◌, Some, None, length, ap, sym, ◌∙◌, arith, slice_get}
use Rattle.std.specs.Option.{option_map, option_copied}
use Rattle.std.specs.Map.{lookup}
use Rattle.std.specs.BTreeMap.{is_at}
use Rattle.stateful_db_log.specs.LogSound.{length_kept}
use Rattle.stateful_db_any.specs.Live.{written}
use Rattle.stateful_db_any.proofs.Indexing.{end_write, index_step, index_past}
use Rattle.stateful_db_any.proofs.index.index_of.Goals as goal
use Rattle.stateful_db_any.proofs.index.index_of.Goals.{in-Some+in_ok-note, in_default}

pub loop-at-preserved : goal.loop-at-preserved
loop-at-preserved g c = λ s key is.
    let (now, (has, same)) = c.loop-at.invariant s key is in
    let range = c.target-range.ensures s is in
    let start = s.target.start.0 in
    let at = c.loop-at.at in
    let low : start ≤ at = omega (arith, c.loop-at.auto.at, ap (λ t. t.start.0) range) in
    let there = c.get.ensures s is low in
    elim c.match-get.branch [
      | in-Some+in_ok-note w ↦
          let op = w.in-Some.op.now in
          let found : slice_get s.kept (at - start) ≡ Some op = sym there ∙ ap option_copied w.in-Some.is in (
            written g.K.Ord.cmp key at op now,
            (ap (λ m. lookup (is_at (g.K.Ord.cmp key)) m.entries) w.index-is ∙ w.in_ok-note.ensures key now has, index_step g.K.Ord.cmp key at start s.kept op now _ low found same),
          )
      | in_default w ↦
          let none : slice_get s.kept (at - start) ≡ None = sym there ∙ ap option_copied w.in_default.is in
          (now, (ap (λ m. lookup (is_at (g.K.Ord.cmp key)) m.entries) w.index-is ∙ has, index_past g.K.Ord.cmp key at start s.kept now _ low none same))
    ]

pub returns : goal.returns
returns g c = λ s key is.
    let (now, (has, same)) = c.loop-at.invariant s key is in
    let range = c.target-range.ensures s is in
    let start = s.target.start.0 in
    let at = c.loop-at.at in
    let short = length_kept c.args.medium.now c.args.number s is in
    let behind : length s.kept ≤ at - start = omega (arith, c.loop-at-test.false, ap (λ t. t.end.0) range, short) in
    has ∙ ap (λ o. option_map (λ x. x.0) o) (sym (end_write g.K.Ord.cmp key at (at - start) s.kept now behind) ∙ same)
