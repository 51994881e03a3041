use Rattle.std.proofs.Common.{rules, ◌∙◌, sym, refl}
use Rattle.stateful_exec_tables.proofs.Cancelling.{unqueue, withdrawn, was_idle, is_idle, run_left}
use Rattle.stateful_exec_tables.proofs.state.Tables.cancel.Goals as goal

pub returns-in_default-clause-ok : goal.returns-in_default-clause-ok
returns-in_default-clause-ok g c =
    unqueue c.args.self.now _ c.args.ticket c.args.marks.now.items (sym c.remove.ensures.value ∙ c.in_default.is) (rw (c.remove.ensures.others, c.remove-in_default.ensures.others, c.remove-in_default-2.ensures) refl)

pub returns-in-Fetching-clause-ok : goal.returns-in-Fetching-clause-ok
returns-in-Fetching-clause-ok g c =
    rw c.in_ok-push-in-Fetching.ensures.items
    (withdrawn c.args.self.now _ c.args.ticket c.args.marks.now.items c.in-Some.requested c.in-Fetching.fetch (sym c.remove.ensures.value ∙ c.in-Some.is) c.in-Fetching.is (rw c.remove.ensures.others refl))

pub returns-in-Executing-clause-ok : goal.returns-in-Executing-clause-ok
returns-in-Executing-clause-ok g c =
    run_left c.args.self.now c.leave.new.self c.args.ticket c.args.marks.now.items c.leave.new.marks.items c.in-Some.requested c.in-Executing.job c.in-Executing.path (sym c.remove.ensures.value ∙ c.in-Some.is) c.in-Executing.is c.leave.result (rw c.remove.ensures.others at c.leave.ensures.ok)

pub returns : goal.returns
returns g c = record {
  ok = was_idle c.args.self.now _ c.args.ticket c.args.marks.now.items c.in-Some.requested (sym c.remove.ensures.value ∙ c.in-Some.is) (is_idle c.in-Some.requested.phase c.in-Open.is) (rw c.remove.ensures.others refl);
  numbers = search rules;
}
