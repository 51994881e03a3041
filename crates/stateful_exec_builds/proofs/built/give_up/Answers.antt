use Rattle.std.proofs.Common.{refl, sym, ◌∙◌}
use Rattle.std.proofs.lemmas.Result.{on_ok_weaker}
use Rattle.stateful_exec_model.specs.Built.{building}
use Rattle.stateful_exec_model.proofs.Cancelling.{no_build, other_build}
use Rattle.stateful_exec_builds.proofs.built.give_up.Goals as goal

pub returns-in_default-clause-ok : goal.returns-in_default-clause-ok
returns-in_default-clause-ok g c =
    let none = sym c.replace.ensures.value ∙ c.in_default.is in
    on_ok_weaker c.cancel.result (no_build c.args.tables.now c.cancel.new.self c.args.ticket c.args.marks.now.items c.cancel.new.marks.items c.args.build.now _ none (c.replace.ensures.after ∙ sym none)) c.cancel.ensures.ok

pub returns-then-building-ticket-clause-ok : goal.returns-then-building-ticket-clause-ok
returns-then-building-ticket-clause-ok g c =
    on_ok_weaker c.cancel-then-building-ticket.result (other_build c.args.tables.now c.cancel-then-building-ticket.new.self c.args.ticket c.args.marks.now.items c.cancel-then-building-ticket.new.marks.items c.args.build.now _ c.in-Some.building c.in-Some.ensures.value c.if-building-ticket.true c.in-Some.ensures.value) c.cancel-then-building-ticket.ensures.ok

pub returns-clause-ok : goal.returns-clause-ok
returns-clause-ok g c = (_, building (record { live = sym c.in-Some.ensures.value; ticket = c.if-building-ticket.false }) refl c.in-Some.ensures.after refl, c.in_ok-push.ensures.items)
