use Rattle.std.proofs.Common.{◌∷◌, Err, Some, unwrap_or, inr, ap, sym, ◌∙◌}
use Rattle.std.specs.Ordering.{nat_cmp}
use Rattle.std.specs.BTreeMap.{is_at}
use Rattle.std.specs.Map.{lookup}
use Rattle.std.proofs.lemmas.Bool.{false≢true}
use Rattle.stateful_db.specs.Disk.{point}
use Rattle.stateful_db.proofs.Chains.{has_id-point}
use Rattle.stateful_base.specs.Number.{u64_format}
use Rattle.stateful_db_any.specs.Any.{value_at, sealed}
use Rattle.stateful_db_any.specs.Stored.{standing_of}
use Rattle.stateful_bank_logs.proofs.Balancing.{shows_after, value_after}
use Rattle.stateful_bank_logs.proofs.balances.balance_here.Goals as goal

pub returns-in-Ok : goal.returns-in-Ok
returns-in-Ok c = λ writes i p chain holds at.
    let u = c.args.batch.now in
    let shown = shows_after u i p chain writes holds u.changes.metadata in
    let value = c.in-Ok.ensures.value _ (p ∷ chain) shown (inr at) in
    ap Some (c.unwrap_or.ensures ∙ ap (λ o. unwrap_or o 0) (value ∙ value_after u i p chain writes holds c.from.result)) ∙ ap (λ key. Some (unwrap_or (unwrap_or (lookup (is_at (nat_cmp key)) writes) (value_at nat_cmp p.1 key)) 0)) c.from.ensures

-- a batch that stands on the database isn't stale
pub returns-in-Err-StaleRead : goal.returns-in-Err-StaleRead
returns-in-Err-StaleRead c = λ writes i p chain holds at.
    let u = c.args.batch.now in
    let shown = shows_after u i p chain writes holds u.changes.metadata in
    let own = sealed nat_cmp u64_format.spelling u64_format.spelling (record { writes = writes; metadata = u.changes.metadata }) p.1 in
    let stale = (c.in-Err-StaleRead.ensures.stale ((i, own) ∷ p ∷ chain) shown).0 (ap Err c.in-Err-StaleRead.field-0-is) in
    absurd (false≢true (sym stale ∙ has_id-point (point (standing_of c.args.database.now)) ((i, own) ∷ p ∷ chain) (inr at)))
