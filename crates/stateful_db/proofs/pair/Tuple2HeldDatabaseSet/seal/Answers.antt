use Rattle.std.proofs.Common.{◌≡◌, ap, map, Err}
use Rattle.std.proofs.lemmas.Result.{err_from_is_err_and}
use Rattle.stateful_db.specs.Pair.{left, right}
use Rattle.stateful_db.specs.PairLaws.{both_left, both_right}
use Rattle.stateful_db.specs.declared.batch.BatchError.TheVariants.{StaleRead}
use Rattle.stateful_db.proofs.Pairs.{IsPoint-map}
use Rattle.stateful_db.proofs.pair.Tuple2HeldDatabaseSet.seal.Goals as goal

pub returns-in_err-first-clause-stale : goal.returns-in_err-first-clause-stale
returns-in_err-first-clause-stale g c = λ refused p chain here shown among.
    let from = err_from_is_err_and c.from_residual.result c.from_residual.ensures.1 in
    let same : c.in_err-first.field-0.0 ≡ StaleRead = cc in
    c.in_err-first.ensures.stale (ap Err same) (left p) (map left chain) (both_left _ _ p here) shown.0 (IsPoint-map left p chain among)

pub returns-in_err-others-clause-stale : goal.returns-in_err-others-clause-stale
returns-in_err-others-clause-stale g c = λ refused p chain here shown among.
    let from = err_from_is_err_and c.from_residual-in_err-others.result c.from_residual-in_err-others.ensures.1 in
    let same : c.in_err-others.field-0.0 ≡ StaleRead = cc in
    c.in_err-others.ensures.stale (ap Err same) (right p) (map right chain) (both_right _ _ p here) shown.1 (IsPoint-map right p chain among)

pub returns-clause-ok : goal.returns-clause-ok
returns-clause-ok g c = λ p chain here shown among. (
  c.in_ok-first.ensures.ok (left p) (map left chain) (both_left _ _ p here) shown.0 (IsPoint-map left p chain among),
  c.in_ok-others.ensures.ok (right p) (map right chain) (both_right _ _ p here) shown.1 (IsPoint-map right p chain among),
)
