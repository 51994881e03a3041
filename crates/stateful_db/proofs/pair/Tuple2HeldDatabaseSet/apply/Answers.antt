use Rattle.std.proofs.Common.{◌≡◌, suc, ap, sym, ◌∙◌, map, arith, Err}
use Rattle.std.proofs.lemmas.Result.{err_from_is_err_and}
use Rattle.stateful_db.specs.Pair.{left, right}
use Rattle.stateful_db.specs.Single.{single}
use Rattle.stateful_db.specs.SingleLaws.{single_laws}
use Rattle.stateful_db.specs.PairLaws.{both_left, both_right}
use Rattle.stateful_db.specs.declared.database.DbCall.TheVariants.{Apply}
use Rattle.stateful_db.specs.declared.set.SetError.TheVariants.{DatabaseFault}
use Rattle.stateful_db.proofs.Pairs.{each_goes, each_passes, goes_same, each_same, each_later, same_count, same_error, first_failed, others_failed, fault_behind, memory_behind}
use Rattle.stateful_db.proofs.pair.Tuple2HeldDatabaseSet.apply.Goals as goal

pub returns-in_err-apply-clause-err : goal.returns-in_err-apply-clause-err
returns-in_err-apply-clause-err g c =
    rw (err_from_is_err_and c.from_residual.result c.from_residual.ensures.1).1
    (λ p q chain here shown. first_failed (single g.A.ManagedDb.target_of g.A.SyncTarget.Targeted.targeted g.A.ManagedDb.begun g.A.ManagedDb.initial) g.R.DatabaseSet.kind _ _ p q
    (c.in_err-apply.ensures.err (left p) (left q) (map left chain) (both_left _ _ p here) shown.0 0)
    (λ i. g.met.R.DatabaseSet.laws.places.has_state _ (right p) i (both_right _ _ p here)))

pub returns-in_err-apply-clause-later : goal.returns-in_err-apply-clause-later
returns-in_err-apply-clause-later g c = each_later (c.in_err-apply.ensures.later 0) (same_count _)

pub returns-in-Ok-clause-tokens : goal.returns-in-Ok-clause-tokens
returns-in-Ok-clause-tokens g c = each_same (c.in_ok-apply.ensures.tokens 0) c.in-Ok.ensures.tokens

pub returns-in-Ok-clause-later : goal.returns-in-Ok-clause-later
returns-in-Ok-clause-later g c = each_later (c.in_ok-apply.ensures.later 0) c.in-Ok.ensures.later

pub returns-in-Err-clause-fault : goal.returns-in-Err-clause-fault
returns-in-Err-clause-fault g c = λ n k is few.
    let b = fault_behind c.in-Err.error n k (sym c.behind.ensures ∙ same_error is) in
    let f = c.in-Err.ensures.fault b.0 k (ap Err b.1) (omega arith) in
    let number : n ≡ suc b.0 = omega (arith, b.2, f.1) in
    rw number (
      f.0,
      omega (arith, f.1),
      f.2,
      f.3,
      λ p q chain here shown. (
        c.in_ok-apply.ensures.ok (left p) (left q) (map left chain) (both_left _ _ p here) shown.0,
        f.4 (right p) (right q) (map right chain) (both_right _ _ p here) shown.1,
      ),
    )

pub returns-in-Err-clause-memory : goal.returns-in-Err-clause-memory
returns-in-Err-clause-memory g c = λ is p q chain here shown.
    let same = memory_behind c.in-Err.error (sym c.behind.ensures ∙ same_error is) in
    let f = c.in-Err.ensures.memory (ap Err same) (right p) (right q) (map right chain) (both_right _ _ p here) shown.1 in
    (suc f.0, omega (arith, f.1), (c.in_ok-apply.ensures.ok (left p) (left q) (map left chain) (both_left _ _ p here) shown.0, f.2))

pub returns-in-Err-clause-err : goal.returns-in-Err-clause-err
returns-in-Err-clause-err g c = λ p q chain here shown.
    let first = single g.A.ManagedDb.target_of g.A.SyncTarget.Targeted.targeted g.A.ManagedDb.begun g.A.ManagedDb.initial in
    let applied = c.in_ok-apply.ensures.ok (left p) (left q) (map left chain) (both_left _ _ p here) shown.0 in
    let laws = single_laws g.A.ManagedDb.target_of g.A.SyncTarget.Targeted.targeted g.A.ManagedDb.begun g.A.ManagedDb.initial in
    others_failed first g.R.DatabaseSet.kind _ _ p q
    (laws.places.has_state _ (left q) 0 (ap first.point applied ∙ laws.apply.point_applied _ (left p) (left q) (both_left _ _ p here)))
    (c.in-Err.ensures.err (right p) (right q) (map right chain) (both_right _ _ p here) shown.1)

pub returns-in-Err-clause-later : goal.returns-in-Err-clause-later
returns-in-Err-clause-later g c = each_later (c.in_ok-apply.ensures.later 0) c.in-Err.ensures.later

pub returns-in_err-apply-clause-called : goal.returns-in_err-apply-clause-called
returns-in_err-apply-clause-called g c = each_goes Apply _ _ _ _ (c.in_err-apply.ensures.called 0) (goes_same Apply _)

pub returns-in_err-apply-clause-fails : goal.returns-in_err-apply-clause-fails
returns-in_err-apply-clause-fails g c = λ n k is few.
    let p = err_from_is_err_and c.from_residual.result c.from_residual.ensures.1 in
    let same : c.in_err-apply.field-0.0 ≡ DatabaseFault n k = cc in
    let f = c.in_err-apply.ensures.fault n k (ap Err same) (omega arith) in
    let number : n ≡ 0 = omega (arith, f.1) in
    rw number (c.in_err-apply.ensures.fails n k (ap Err same) (omega arith))

pub returns-in-Ok-clause-called : goal.returns-in-Ok-clause-called
returns-in-Ok-clause-called g c = each_goes Apply _ _ _ _ (c.in_ok-apply.ensures.called 0) c.in-Ok.ensures.called

pub returns-in-Ok-clause-passes : goal.returns-in-Ok-clause-passes
returns-in-Ok-clause-passes g c = each_passes Apply _ _ _ _ _ (c.in_ok-apply.ensures.passes 0 (omega arith)) c.in-Ok.ensures.passes

pub returns-in-Err-clause-called : goal.returns-in-Err-clause-called
returns-in-Err-clause-called g c = each_goes Apply _ _ _ _ (c.in_ok-apply.ensures.called 0) c.in-Err.ensures.called

pub returns-in-Err-clause-fails : goal.returns-in-Err-clause-fails
returns-in-Err-clause-fails g c = λ n k is few.
    let b = fault_behind c.in-Err.error n k (sym c.behind.ensures ∙ same_error is) in
    let f = c.in-Err.ensures.fault b.0 k (ap Err b.1) (omega arith) in
    let number : n ≡ suc b.0 = omega (arith, b.2, f.1) in
    rw number (c.in-Err.ensures.fails b.0 k (ap Err b.1) (omega arith))
