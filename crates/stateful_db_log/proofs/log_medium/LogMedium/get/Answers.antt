use Rattle.std.proofs.Common.{◌≡◌, ◌-◌, ◌≤◌, List, slice_get, ap, sym, ◌∙◌, arith}
use Rattle.stateful_db_medium.specs.declared.checkpoints.Checkpoint.{Checkpoint}
use Rattle.stateful_db_medium.specs.Kept as kept
use Rattle.stateful_db_log.specs.Between.{state_in}
use Rattle.stateful_db_log.specs.LogSound.{stands}
use Rattle.stateful_db_log.proofs.Windows.{slice_get-between}
use Rattle.stateful_db_log.proofs.log_medium.LogMedium.get.Goals as goal

pub overflow_sub-at : goal.overflow_sub-at
overflow_sub-at g c =
    let low = c.args.self.now.begins c.args.number c.get.result.now c.get.ensures in
    omega arith

pub returns : goal.returns
returns g c = λ s at above.
    let m = c.args.self.now in
    let d = kept.disk_of m.medium in
    let k = c.get.result.now in
    let there = stands (state_in m.first m.ops) d.older d.newest c.args.number s at in
    let found = c.get.ensures in
    let same : k ≡ there.0 = cc (found, there.1.0) in
    let is : state_in m.first m.ops k ≡ s = ap (state_in m.first m.ops) same ∙ there.1.1 in
    let low : m.first ≤ k.target.start.0 = (let both = m.begins c.args.number k found in omega arith) in
    let high : k.target.start.0 ≤ c.args.at = omega arith in
    c.get-2.ensures
    ∙ sym (slice_get-between m.first m.ops k.target.start.0 k.target.end.0 c.args.at low high (omega arith))
    ∙ ap (λ (x : Checkpoint (List g.row.Op.Denot)). slice_get x.kept (c.args.at - x.target.start.0)) is
