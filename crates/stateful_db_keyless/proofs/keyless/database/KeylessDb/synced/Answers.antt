use Rattle.std.proofs.Common.{subst}
use Rattle.stateful_db.specs.Disk.{Disk}
use Rattle.stateful_db.specs.Reopening.{OpensAt}
use Rattle.stateful_db_medium.specs.Ranged.{range_of}
use Rattle.stateful_db_log.specs.Logs as logs
use Rattle.stateful_db_keyless.specs.Keyless.{State}
use Rattle.stateful_db_keyless.proofs.Syncing.{opened_alone}
use Rattle.stateful_db_keyless.proofs.keyless.database.KeylessDb.synced.Goals as goal

pub returns-clause-standing : goal.returns-clause-standing
returns-clause-standing g c =
    let opened = logs.standing_of c.open.result in
    let P : Disk (State g.row.V.Denot) → Type 0 = λ d. OpensAt range_of (λ t. t) 0 d opened in
    let opens = subst P c.replaced-replaced.ensures.disk c.open.ensures.opens in
    let newest : State g.row.V.Denot = record { target = c.args.segment.target; kept = c.args.segment.ops.items } in
    let disk = opened_alone newest opened.disk opens.disk in
    λ i. record { id = opens.id i; disk = disk i; out = opens.out i }
