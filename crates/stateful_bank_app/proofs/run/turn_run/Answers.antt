use Rattle.std.proofs.Common.{◌≡◌, Err, sym, ◌∙◌, ap, refl}
use Rattle.std.proofs.lemmas.Bool.{false≢true}
use Rattle.stateful_db.specs.declared.application.AppFault.TheVariants.{Failed}
use Rattle.stateful_bank_app.specs.Runs.{IsRejected}
use Rattle.stateful_bank_app.proofs.Running.{refused_outcome, refused_cost, further_run, further_cost, complete_cost, complete_outcome, complete_full, complete_room}
use Rattle.stateful_bank_app.proofs.run.turn_run.Goals as goal

-- an operation that isn't allowed
pub returns-in-Ok-Refused-clause-ok : goal.returns-in-Ok-Refused-clause-ok
returns-in-Ok-Refused-clause-ok g c = λ r turns q is here point.
    let held = sym c.take.ensures.value ∙ c.in-Some.is in
    let ops_are = c.as_slice-ops.ensures ∙ ap (λ block. block.ops) c.inner-block.ensures in
    refused_outcome g.W.World.rules g.W.World.holds _ c.args.run.now r turns is c.in-Some.progress held c.as_slice-ops.result.now ops_are (record { point = q; is = here; among = point }) _ c.in-Ok-Refused.ensures c.in-Ok-Refused.field-0-is

pub returns-in-Ok-Refused-clause-cost : goal.returns-in-Ok-Refused-clause-cost
returns-in-Ok-Refused-clause-cost g c = λ r turns q is here point.
    let held = sym c.take.ensures.value ∙ c.in-Some.is in
    let ops_are = c.as_slice-ops.ensures ∙ ap (λ block. block.ops) c.inner-block.ensures in
    refused_cost g.W.World.rules g.W.World.holds _ c.args.run.now r turns is c.in-Some.progress held c.as_slice-ops.result.now ops_are (record { point = q; is = here; among = point }) _ c.in-Ok-Refused.ensures c.in-Ok-Refused.field-0-is

-- an operation that isn't the last
pub returns-in-Ok-Further-clause-ok : goal.returns-in-Ok-Further-clause-ok
returns-in-Ok-Further-clause-ok g c = λ r turns q is here point.
    let held = sym c.take.ensures.value ∙ c.in-Some.is in
    let ops_are = c.as_slice-ops.ensures ∙ ap (λ block. block.ops) c.inner-block.ensures in
    further_run g.W.World.rules g.W.World.holds _ c.args.run.now r turns is c.in-Some.progress held c.as_slice-ops.result.now ops_are (record { point = q; is = here; among = point }) _ c.in-Ok-Further.ensures c.in-Ok-Further.progress _ c.in-Ok-Further.field-0-is refl refl refl

pub returns-in-Ok-Further-clause-cost : goal.returns-in-Ok-Further-clause-cost
returns-in-Ok-Further-clause-cost g c = λ r turns q is here point.
    let held = sym c.take.ensures.value ∙ c.in-Some.is in
    let ops_are = c.as_slice-ops.ensures ∙ ap (λ block. block.ops) c.inner-block.ensures in
    further_cost g.W.World.rules g.W.World.holds _ c.args.run.now r turns is c.in-Some.progress held c.as_slice-ops.result.now ops_are (record { point = q; is = here; among = point }) _ c.in-Ok-Further.ensures c.in-Ok-Further.progress c.in-Ok-Further.field-0-is

-- the last operation
pub returns-then-is_rejected-clause-cost : goal.returns-then-is_rejected-clause-cost
returns-then-is_rejected-clause-cost g c = λ r turns q is here point.
    let held = sym c.take.ensures.value ∙ c.in-Some.is in
    let ops_are = c.as_slice-ops.ensures ∙ ap (λ block. block.ops) c.inner-block.ensures in
    complete_cost g.W.World.rules g.W.World.holds _ c.args.run.now r turns is c.in-Some.progress held c.as_slice-ops.result.now ops_are (record { point = q; is = here; among = point }) _ c.in-Ok-Complete.ensures c.in-Ok-Complete.batch c.in-Ok-Complete.field-0-is

pub returns-in_ok-sealed-in-Ok-Complete-clause-ok : goal.returns-in_ok-sealed-in-Ok-Complete-clause-ok
returns-in_ok-sealed-in-Ok-Complete-clause-ok g c = λ r turns q is here point.
    let held = sym c.take.ensures.value ∙ c.in-Some.is in
    let ops_are = c.as_slice-ops.ensures ∙ ap (λ block. block.ops) c.inner-block.ensures in
    let good : IsRejected c.args.run.now.finality c.as_slice-ops.result.now → ⊥ = λ rejected. absurd (false≢true (c.if-is_rejected.ensures.1 rejected)) in
    complete_outcome g.W.World.rules g.W.World.holds _ c.args.run.now r turns is c.in-Some.progress held c.as_slice-ops.result.now ops_are (record { point = q; is = here; among = point }) _ c.in-Ok-Complete.ensures c.in-Ok-Complete.batch c.in-Ok-Complete.field-0-is c.inner-block.result.now.height.0 (ap (λ block. block.height.0) c.inner-block.ensures) g.W.Databases.DatabaseSet.shows c.in_ok-sealed-in-Ok-Complete.sealed _ good c.in_ok-sealed-in-Ok-Complete.ensures.ok

pub returns-in_ok-sealed-in-Ok-Complete-clause-cost : goal.returns-in_ok-sealed-in-Ok-Complete-clause-cost
returns-in_ok-sealed-in-Ok-Complete-clause-cost g c = λ r turns q is here point.
    let held = sym c.take.ensures.value ∙ c.in-Some.is in
    let ops_are = c.as_slice-ops.ensures ∙ ap (λ block. block.ops) c.inner-block.ensures in
    complete_cost g.W.World.rules g.W.World.holds _ c.args.run.now r turns is c.in-Some.progress held c.as_slice-ops.result.now ops_are (record { point = q; is = here; among = point }) _ c.in-Ok-Complete.ensures c.in-Ok-Complete.batch c.in-Ok-Complete.field-0-is

pub returns-in_ok-sealed-in-Ok-Complete-clause-within : goal.returns-in_ok-sealed-in-Ok-Complete-clause-within
returns-in_ok-sealed-in-Ok-Complete-clause-within g c = λ ended r turns q is here point.
    let held = sym c.take.ensures.value ∙ c.in-Some.is in
    let ops_are = c.as_slice-ops.ensures ∙ ap (λ block. block.ops) c.inner-block.ensures in
    complete_room g.W.World.rules g.W.World.holds _ c.args.run.now r turns is c.in-Some.progress held c.as_slice-ops.result.now ops_are (record { point = q; is = here; among = point }) _ c.in-Ok-Complete.ensures c.in-Ok-Complete.batch c.in-Ok-Complete.field-0-is c.inner-block.result.now.height.0 (ap (λ block. block.height.0) c.inner-block.ensures) g.W.Databases.DatabaseSet.kind.Full c.in_ok-sealed-in-Ok-Complete.ensures.within

pub returns-in_err-sealed-in-Ok-Complete-clause-exhausted : goal.returns-in_err-sealed-in-Ok-Complete-clause-exhausted
returns-in_err-sealed-in-Ok-Complete-clause-exhausted g c = λ failed r turns q is here point.
    let held = sym c.take.ensures.value ∙ c.in-Some.is in
    let ops_are = c.as_slice-ops.ensures ∙ ap (λ block. block.ops) c.inner-block.ensures in
    let fault = rw failed at c.from_residual.ensures.1 in
    let seal_failed : c.seal.result ≡ Err Failed = c.in_err-sealed-in-Ok-Complete.was ∙ ap Err (sym fault) in
    complete_full g.W.World.rules g.W.World.holds _ c.args.run.now r turns is c.in-Some.progress held c.as_slice-ops.result.now ops_are (record { point = q; is = here; among = point }) _ c.in-Ok-Complete.ensures c.in-Ok-Complete.batch c.in-Ok-Complete.field-0-is c.inner-block.result.now.height.0 (ap (λ block. block.height.0) c.inner-block.ensures) g.W.Databases.DatabaseSet.kind.Full (c.seal.ensures.exhausted seal_failed)
