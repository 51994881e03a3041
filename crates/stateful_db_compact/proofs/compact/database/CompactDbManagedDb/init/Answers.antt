use Rattle.std.proofs.Common.{subst}
use Rattle.stateful_db.specs.Targeted.{compact_target}
use Rattle.stateful_db.specs.Disk.{Disk}
use Rattle.stateful_db.specs.Reopening.{OpensAt}
use Rattle.stateful_db_medium.specs.Kept as kept
use Rattle.stateful_db_medium.specs.Ranged.{range_of}
use Rattle.stateful_db_medium.specs.Openings.{reopens}
use Rattle.stateful_db_compact.specs.Compacted.{State, target_of}
use Rattle.stateful_db_compact.proofs.compact.database.CompactDbManagedDb.init.Goals as goal

pub returns-clause-ok : goal.returns-clause-ok
returns-clause-ok g c =
    let V = g.row.V.Denot in
    let opened = kept.standing_of c.open.result in
    let P : Disk (State V) → Type 0 = λ d. OpensAt range_of (λ t. t) c.in-Ok.number d opened in
    let opens = subst P c.number_to_open.ensures.disk c.open.ensures.opens in
    reopens target_of compact_target _ c.args.expected c.in-Ok.number opened c.in-Ok.ensures.ok (record { id = opens.id; out = opens.out; disk = opens.disk })
