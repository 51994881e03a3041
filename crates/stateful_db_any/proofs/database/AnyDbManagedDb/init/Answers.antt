use Rattle.std.proofs.Common.{◌<◌, length, subst, sym, ap, ◌∙◌}
use Rattle.std.specs.Option.{option_map}
use Rattle.stateful_db.specs.Disk.{Disk, all}
use Rattle.stateful_db.specs.Reopening.{OpensAt}
use Rattle.stateful_db_log.specs.Held.{until}
use Rattle.stateful_db_log.specs.Logs as logs
use Rattle.stateful_db_medium.specs.Ranged.{range_of}
use Rattle.stateful_db_medium.specs.Openings.{reopens, opened_newest}
use Rattle.stateful_db_any.specs.Any.{State, target_of, live_at}
use Rattle.stateful_db_any.proofs.Opening.{element}
use Rattle.stateful_db_any.proofs.database.AnyDbManagedDb.init.Goals as goal

pub invariant_of-result : goal.invariant_of-result
invariant_of-result g c =
    let S = State g.row.K.Denot g.row.V.Denot in
    let opened = logs.standing_of c.open.result in
    let disk = logs.disk_of c.number_to_open.new.self in
    let number = c.in-Ok.number in
    let Within : Disk S → Type 0 = λ d. number < length (all d) in
    let within = subst Within (sym c.number_to_open.ensures.disk) c.in-Ok.ensures.within in
    let (s, is) = element (all disk) number within in
    let newest = opened_newest range_of (λ t. t) disk opened.disk number s c.open.ensures.opens.disk is in
    record { indexed = λ key. c.in-Ok-index_of.ensures s key is ∙ ap (λ (x : S). option_map (λ x. x.0) (live_at g.K.Ord.cmp x key)) (sym newest) }

pub returns-in-Ok-index_of-clause-ok : goal.returns-in-Ok-index_of-clause-ok
returns-in-Ok-index_of-clause-ok g c =
    let opened = logs.standing_of c.open.result in
    let P : Disk (State g.row.K.Denot g.row.V.Denot) → Type 0 = λ d. OpensAt range_of (λ t. t) c.in-Ok.number d opened in
    let opens = subst P c.number_to_open.ensures.disk c.open.ensures.opens in
    reopens target_of (λ t. t) _ c.args.expected c.in-Ok.number opened c.in-Ok.ensures.ok (record { id = opens.id; out = opens.out; disk = opens.disk })

pub returns-in-Ok-index_of-clause-ok_held : goal.returns-in-Ok-index_of-clause-ok_held
returns-in-Ok-index_of-clause-ok_held g c = c.open.ensures.held ∙ ap (λ h. until h (logs.standing_of c.open.result).disk.newest.target.end.0) c.number_to_open.ensures.held

pub returns-in-Err-index_of-clause-listed : goal.returns-in-Err-index_of-clause-listed
returns-in-Err-index_of-clause-listed g c = λ listed. absurd (c.in-Ok.ensures.listed listed)
