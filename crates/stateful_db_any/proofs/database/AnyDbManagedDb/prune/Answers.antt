use Rattle.std.proofs.Common.{sym, ap, ◌∙◌}
use Rattle.std.specs.Option.{option_map}
use Rattle.stateful_db.specs.Disk.{Standing}
use Rattle.stateful_db_any.specs.Any.{State, live_at}
use Rattle.stateful_db_any.proofs.database.AnyDbManagedDb.prune.Goals as goal

pub invariant_of-result : goal.invariant_of-result
invariant_of-result g c =
    let S = State g.row.K.Denot g.row.V.Denot in
    let newest = ap (λ (s : Standing S). s.disk.newest) c.in-Ok.ensures.ok.standing in
    record { indexed = λ key. c.args.self.indexed key ∙ ap (λ (s : S). option_map (λ x. x.0) (live_at g.K.Ord.cmp s key)) (sym newest) }

pub returns-in-Err-clause-listed : goal.returns-in-Err-clause-listed
returns-in-Err-clause-listed g c = (λ failed. c.in-Err.ensures.listed.0 (sym c.broken.ensures.why ∙ failed), λ listed. c.broken.ensures.why ∙ c.in-Err.ensures.listed.1 listed)

pub returns-in-Ok-clause-ok_held : goal.returns-in-Ok-clause-ok_held
returns-in-Ok-clause-ok_held g c = c.in-Ok.ensures.ok.held
