use Rattle.std.proofs.Common.{sym, ap, ◌∙◌}
use Rattle.std.specs.Option.{option_map}
use Rattle.stateful_db.specs.Disk.{Standing}
use Rattle.stateful_db_log.specs.Held.{further}
use Rattle.stateful_db_any.specs.Any.{State, live_at}
use Rattle.stateful_db_any.specs.Shown.{Seal, ops_in}
use Rattle.stateful_db_any.specs.Stored.{held_here}
use Rattle.stateful_db_any.proofs.database.AnyDbManagedDb.apply.Goals as goal

pub invariant_of-db : goal.invariant_of-db
invariant_of-db g c =
    let S = State g.row.K.Denot g.row.V.Denot in
    let newest = ap (λ (s : Standing S). s.disk.newest) c.in-Ok.ensures.ok in
    record { indexed = λ key. c.args.self.indexed key ∙ ap (λ (s : S). option_map (λ x. x.0) (live_at g.K.Ord.cmp s key)) (sym newest) }

pub returns-in-Ok-longer-clause-ok_held : goal.returns-in-Ok-longer-clause-ok_held
returns-in-Ok-longer-clause-ok_held g c =
    let K = g.row.K.Denot in
    let V = g.row.V.Denot in
    let held = held_here c.args.self in
    c.in-Ok-longer.ensures.ok_held
    ∙ ap (λ h. further h c.batch.inside.layer.1.written.ops) c.in-Ok.ensures.ok_held
    ∙ ap (λ (m : Seal K V). further held (ops_in m)) c.batch.view_is
