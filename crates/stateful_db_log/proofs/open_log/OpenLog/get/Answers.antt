use Rattle.std.proofs.Common.{◌≤◌, length, ap, sym, ◌∙◌, arith}
use Rattle.stateful_db.specs.CheckpointLaws.{slice_get-last}
use Rattle.stateful_db_medium.specs.Kept as kept
use Rattle.stateful_db_log.proofs.Windows.{Point, slice_get-between}
use Rattle.stateful_db_log.proofs.open_log.OpenLog.get.Goals as goal

pub overflow_sub-at : goal.overflow_sub-at
overflow_sub-at g c =
    let o = c.args.self.now in
    let d = (kept.standing_of o.opened).disk in
    let low = o.begins (length d.older) d.newest (slice_get-last d.older d.newest) in
    omega (arith, low, ap (λ (k : Point). k.target.start.0) c.newest.ensures)

pub returns-clause-inside : goal.returns-clause-inside
returns-clause-inside g c = λ above.
    let o = c.args.self.now in
    let d = (kept.standing_of o.opened).disk in
    let target = d.newest.target in
    let low : o.first ≤ target.start.0 = (let both = o.begins (length d.older) d.newest (slice_get-last d.older d.newest) in omega arith) in
    c.get.ensures
    ∙ sym (slice_get-between o.first o.ops target.start.0 target.end.0 c.args.at low above (omega (arith, ap (λ (k : Point). k.target.end.0) c.newest.ensures)))
