use Rattle.std.proofs.Common.{◌≡◌, ◌∷◌, Err, ap, sym, ◌∙◌}
use Rattle.stateful_db.specs.declared.application.AppFault.TheVariants.{Failed}
use Rattle.stateful_bank_app.proofs.Drafting.{among_behind}
use Rattle.stateful_bank_app.proofs.progress.seal.Goals as goal

pub returns-in_ok-seal_whole-in-Ok-Some-clause-ok : goal.returns-in_ok-seal_whole-in-Ok-Some-clause-ok
returns-in_ok-seal_whole-in-Ok-Some-clause-ok g c = λ changes i p below held at.
    let completes = rw c.in-Ok-Some.field-0-is at c.in-Ok-Some.ensures in
    let shown = completes changes i p below held at in
    c.in_ok-seal_whole-in-Ok-Some.ensures.ok (_ ∷ p ∷ below) shown (among_behind _ _ (p ∷ below) at)

pub returns-in_ok-seal_whole-in-Ok-Some-clause-within : goal.returns-in_ok-seal_whole-in-Ok-Some-clause-within
returns-in_ok-seal_whole-in-Ok-Some-clause-within g c = λ changes i p below held at full.
    let completes = rw c.in-Ok-Some.field-0-is at c.in-Ok-Some.ensures in
    let shown = completes changes i p below held at in
    c.in_ok-seal_whole-in-Ok-Some.ensures.within _ (p ∷ below) shown (among_behind _ _ (p ∷ below) at) full

pub returns-in_err-seal_whole-in-Ok-Some-clause-exhausted : goal.returns-in_err-seal_whole-in-Ok-Some-clause-exhausted
returns-in_err-seal_whole-in-Ok-Some-clause-exhausted g c = λ failed changes i p below held at.
    let completes = rw c.in-Ok-Some.field-0-is at c.in-Ok-Some.ensures in
    let shown = completes changes i p below held at in
    let fault = rw failed at c.from_residual.ensures.1 in
    let seal_failed : c.seal_whole.result ≡ Err Failed = c.in_err-seal_whole-in-Ok-Some.was ∙ ap Err (sym fault) in
    c.seal_whole.ensures.exhausted _ (p ∷ below) shown seal_failed
