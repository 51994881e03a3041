use Rattle.std.proofs.Common.{sym, ◌∙◌}
use Rattle.stateful_db_medium.specs.Kept as kept
use Rattle.stateful_db_medium.specs.Ranged.{range_of}
use Rattle.stateful_db_medium.specs.Mapped.{with_end-mapped}
use Rattle.stateful_db_log.specs.Between.{state_in}
use Rattle.stateful_db_log.proofs.open_log.OpenLog.number_with_end.Goals as goal

pub returns : goal.returns
returns g c =
    let o = c.args.self.now in
    let d = (kept.standing_of o.opened).disk in
    c.number_with_end.ensures ∙ sym (with_end-mapped (state_in o.first o.ops) range_of (record { root = d.newest.target.root; start = c.args.end; end = c.args.end }) d)
