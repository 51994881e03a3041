use Rattle.std.proofs.Common.{◌≡◌, suc, refl, ◌∙◌, arith}
use Rattle.stateful_db.specs.Single.{single}
use Rattle.stateful_db.specs.declared.database.DbCall.TheVariants.{Init}
use Rattle.stateful_db.proofs.Pairs.{each_goes, each_passes, goes_same, each_later, same_count, first_is, others_are, both_opened, reclosed}
use Rattle.stateful_db.proofs.pair.Tuple2HeldDatabaseSet.init.Goals as goal

pub returns-in_err-init-clause-later : goal.returns-in_err-init-clause-later
returns-in_err-init-clause-later g c = each_later (c.in_err-init.ensures.later 0) (same_count _)

pub returns-in-Ok-clause-later : goal.returns-in-Ok-clause-later
returns-in-Ok-clause-later g c = each_later (c.in_ok-init.ensures.later 0) c.in-Ok.ensures.later

pub returns-in-Ok-clause-opening : goal.returns-in-Ok-clause-opening
returns-in-Ok-clause-opening g c = λ openable t is.
    let first = single g.A.ManagedDb.target_of g.A.SyncTarget.Targeted.targeted g.A.ManagedDb.begun g.A.ManagedDb.initial in
    both_opened first g.R.DatabaseSet.kind refl _ _ t
    (c.in_ok-init.ensures.opening openable.0 t.0 (c.parts-first.ensures.first ∙ first_is c.args.expected t is))
    (c.in-Ok.ensures.opening openable.1 t.1 (c.parts-first.ensures.others ∙ others_are c.args.expected t is))

pub returns-in-Err-clause-cause : goal.returns-in-Err-clause-cause
returns-in-Err-clause-cause g c = λ few.
    let f = c.in-Err.ensures.cause (omega arith) in
    let number : c.saturating_add.result ≡ suc c.in-Err.refused.index = omega (arith, c.saturating_add.ensures, c.in-Err.ensures.index) in
    rw number (
      rw c.close_if.ensures.closed (rw (← c.parts-first.ensures.first) (reclosed _ _ _ _ _ _ c.is_openable-opens.ensures c.in_ok-init.ensures.ok)),
      rw (← c.parts-first.ensures.others) f,
    )

pub returns-in-Err-clause-later : goal.returns-in-Err-clause-later
returns-in-Err-clause-later g c = each_later (omega (arith, c.close_if.ensures.counts 0, c.in_ok-init.ensures.later 0)) c.in-Err.ensures.later

pub returns-in_err-init-clause-called : goal.returns-in_err-init-clause-called
returns-in_err-init-clause-called g c = each_goes Init _ _ _ _ (c.in_err-init.ensures.called 0) (goes_same Init _)

pub returns-in-Ok-clause-called : goal.returns-in-Ok-clause-called
returns-in-Ok-clause-called g c = each_goes Init _ _ _ _ (c.in_ok-init.ensures.called 0) c.in-Ok.ensures.called

pub returns-in-Ok-clause-passes : goal.returns-in-Ok-clause-passes
returns-in-Ok-clause-passes g c = λ openable.
    each_passes Init _ _ _ _ _ (c.in_ok-init.ensures.passes openable.0 0 (omega arith))
    (c.in-Ok.ensures.passes openable.1)

pub returns-in-Err-clause-called : goal.returns-in-Err-clause-called
returns-in-Err-clause-called g c =
    each_goes Init _ _ _ _ (rw (c.close_if.ensures.calls 0) (c.in_ok-init.ensures.called 0)) c.in-Err.ensures.called

pub returns-in-Err-clause-fails : goal.returns-in-Err-clause-fails
returns-in-Err-clause-fails g c = λ is few.
    let f = c.in-Err.ensures.fails is (omega arith) in
    let number : c.saturating_add.result ≡ suc c.in-Err.refused.index = omega (arith, c.saturating_add.ensures, c.in-Err.ensures.index) in
    rw number (rw (← c.parts-first.ensures.others) f)
