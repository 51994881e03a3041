use Rattle.std.proofs.Common.{refl}
use Rattle.stateful_exec_model.specs.Built.FaultsBuilt.{other, not_kept}
use Rattle.stateful_exec_tables.proofs.Queues.{handed_on}
use Rattle.stateful_exec_builds.proofs.built.take_built.Goals as goal

pub returns-in-Some-clause-fault : goal.returns-in-Some-clause-fault
returns-in-Some-clause-fault g c = other refl c.in-Some.ensures.other

pub returns-in_err-keep_built-clause-fault : goal.returns-in_err-keep_built-clause-fault
returns-in_err-keep_built-clause-fault g c =
    handed_on _ c.from_residual-in_err-keep_built.result c.in_err-keep_built.field-0.0 c.from_residual-in_err-keep_built.ensures.1
    (not_kept c.in_default.ensures.none (record { same = c.in_ok-block.ensures.same; digest = c.in_ok-block.ensures.digest }) c.in_err-keep_built.ensures.fault)
