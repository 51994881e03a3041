use Rattle.std.proofs.Common.{sym, ◌∙◌}
use Rattle.stateful_base.specs.declared.target.Target.{Target}
use Rattle.stateful_db_medium.specs.Kept as kept
use Rattle.stateful_db_plain.proofs.Rooted.{found_of}
use Rattle.stateful_db_plain.proofs.database.Plain.number_with_end.Goals as goal

pub returns : goal.returns
returns c =
    let db = c.args.self.now in
    let d = (kept.standing_of db.opened).disk in
    let target : Target = record { root = d.newest.target.root; start = c.args.end; end = c.args.end } in
    c.number_with_end.ensures ∙ sym (found_of d db.rooted target)
