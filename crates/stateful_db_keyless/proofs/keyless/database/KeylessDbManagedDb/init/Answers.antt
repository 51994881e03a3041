use Rattle.std.proofs.Common.{subst}
use Rattle.stateful_db.specs.Disk.{Disk}
use Rattle.stateful_db.specs.Reopening.{OpensAt}
use Rattle.stateful_db_log.specs.Logs as logs
use Rattle.stateful_db_medium.specs.Ranged.{range_of}
use Rattle.stateful_db_medium.specs.Openings.{reopens}
use Rattle.stateful_db_keyless.specs.Keyless.{State, target_of}
use Rattle.stateful_db_keyless.proofs.keyless.database.KeylessDbManagedDb.init.Goals as goal

pub returns-clause-ok : goal.returns-clause-ok
returns-clause-ok g c =
    let opened = logs.standing_of c.open.result in
    let P : Disk (State g.row.V.Denot) → Type 0 = λ d. OpensAt range_of (λ t. t) c.in-Ok.number d opened in
    let opens = subst P c.number_to_open.ensures.disk c.open.ensures.opens in
    reopens target_of (λ t. t) _ c.args.expected c.in-Ok.number opened c.in-Ok.ensures.ok (record { id = opens.id; out = opens.out; disk = opens.disk })
