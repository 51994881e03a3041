use Rattle.stateful_actor_register.proofs.Ending.{appended_all}
use Rattle.stateful_actor_register.proofs.register.Register.end_all.Goals as goal

pub returns : goal.returns
returns g c =
    appended_all g.row.B.Denot g.row.C.Denot g.row.I.Denot _ c.args.self.now c.args.marks.now.items _ _ _ _
    c.in_ok-numbers.field-0.items c.in_ok-numbers-2.field-0.items c.in_ok-numbers-3.field-0.items c.in_ok-other_tickets.field-0.items
    c.in_ok-numbers.ensures c.in_ok-numbers-2.ensures c.in_ok-numbers-3.ensures c.in_ok-other_tickets.ensures
    (rw c.as_slice.ensures.value at c.in_ok-withdraw.ensures)
    (rw c.as_slice-2.ensures.value at c.in_ok-cancel.ensures)
    (rw c.as_slice-3.ensures.value at c.in_ok-decline.ensures)
    (rw c.as_slice-4.ensures.value at c.drop_each.ensures)
