use Rattle.std.proofs.Common.{refl}
use Rattle.stateful_loop_model.specs.Errors.{error_of_exec}
use Rattle.stateful_loop_model.proofs.Handing.{converted}
use Rattle.stateful_loop_model.proofs.NotesFollowing.{fault_is}
use Rattle.stateful_loop_finals.proofs.finalizing.observe.Goals as goal

pub returns-in_err-hook-clause-fault : goal.returns-in_err-hook-clause-fault
returns-in_err-hook-clause-fault g c =
    let e = c.in_err-hook.field-0.0 in
    converted _ c.from_residual.result (error_of_exec e) c.from_residual.ensures.1 (e, c.in_err-hook.ensures.fault, refl)

pub returns-in_err-hook-clause-noted : goal.returns-in_err-hook-clause-noted
returns-in_err-hook-clause-noted g c =
    let e = c.in_err-hook.field-0.0 in
    converted _ c.from_residual.result (error_of_exec e) c.from_residual.ensures.1 (λ other. c.in_err-hook.ensures.noted (λ is. other (fault_is e is)))
