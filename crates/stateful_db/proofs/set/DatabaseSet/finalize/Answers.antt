use Rattle.std.proofs.Common.{◌≡◌, ap, map, ◌∙◌, length, Err}
use Rattle.stateful_db.specs.declared.set.SetError.TheVariants.{DatabaseFault}
use Rattle.std.proofs.lemmas.Result.{err_from_is_err_and}
use Rattle.stateful_db.specs.Barrier.{unanswered, open_at}
use Rattle.stateful_db.proofs.OpenHandles.{open_for, map-unanswered, length-open_for, open_at-each_below}
use Rattle.stateful_db.proofs.set.DatabaseSet.finalize.Goals as goal
use Rattle.stateful_db.proofs.set.DatabaseSet.finalize.Goals.{In-Ok}

pub returns-in_err-persist-clause-fault : goal.returns-in_err-persist-clause-fault
returns-in_err-persist-clause-fault g c = λ n k is.
    let p = err_from_is_err_and c.from_residual.result c.from_residual.ensures.1 in
    let same : c.in_err-persist.field-0.0 ≡ DatabaseFault n k = cc in
    c.in_err-persist.ensures.fault n k (ap Err same)

pub returns-in-Ok-clause-tokens : goal.returns-in-Ok-clause-tokens
returns-in-Ok-clause-tokens g c =
    let places = rw c.new-tokens.ensures at c.in_ok-persist.ensures.tokens in
    c.in-Ok.ensures ∙ ap (map unanswered) c.into_vec.ensures ∙ map-unanswered c.persist.new.tokens ∙ ap (map open_for) places

pub returns-in-Ok-clause-count : goal.returns-in-Ok-clause-count
returns-in-Ok-clause-count g c =
    let kind = g.Self.DatabaseSet.kind in
    ap length (returns-in-Ok-clause-tokens g c) ∙ length-open_for (kind.place (g.Self.DatabaseSet.members c.args.self.now)) kind.count

pub returns-in-Ok-clause-handles : goal.returns-in-Ok-clause-handles
returns-in-Ok-clause-handles g c = λ i within.
    let kind = g.Self.DatabaseSet.kind in
    ap (λ handles. open_at handles i) (returns-in-Ok-clause-tokens g c) ∙ open_at-each_below (kind.place (g.Self.DatabaseSet.members c.args.self.now)) kind.count i within
