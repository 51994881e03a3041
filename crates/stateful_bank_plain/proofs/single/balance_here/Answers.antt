use Rattle.std.proofs.Common.{◌∷◌, Err, Some, unwrap_or, inr, ap, sym, ◌∙◌}
use Rattle.std.proofs.lemmas.Bool.{false≢true}
use Rattle.stateful_db.specs.Disk.{point}
use Rattle.stateful_db.proofs.Chains.{has_id-point}
use Rattle.stateful_db_plain.specs.Whole.{value_at}
use Rattle.stateful_db_plain.specs.Stored.{standing_of}
use Rattle.stateful_bank_plain.specs.Single.{state_after}
use Rattle.stateful_bank_plain.proofs.single.balance_here.Goals as goal

pub returns-in-Ok : goal.returns-in-Ok
returns-in-Ok c = λ entries i p chain holds at.
    let value = c.in-Ok.ensures.value (i, state_after p.1 entries) (p ∷ chain) holds in
    ap Some (c.unwrap_or.ensures ∙ ap (λ o. unwrap_or o 0) value ∙ ap (λ key. unwrap_or (value_at entries key) 0) c.from.ensures)

-- a batch that stands on the database isn't stale
pub returns-in-Err : goal.returns-in-Err
returns-in-Err c = λ entries i p chain holds at.
    let whole = (i, state_after p.1 entries) ∷ p ∷ chain in
    let stale = (c.in-Err.ensures.stale whole holds).0 (ap Err c.in-Err.ensures.cause) in
    absurd (false≢true (sym stale ∙ has_id-point (point (standing_of c.args.database.now)) whole (inr at)))
