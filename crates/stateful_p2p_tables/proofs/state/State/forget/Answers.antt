use Rattle.stateful_p2p_tables.proofs.Releasing.{forgot_none, forgot_some, none_of, some_of}
use Rattle.stateful_p2p_tables.proofs.state.State.forget.Goals as goal

pub returns-then-is_none-clause-forgets : goal.returns-then-is_none-clause-forgets
returns-then-is_none-clause-forgets g c =
    forgot_none c.args.self.now c.args.ticket c.remove.new.self (rw (← c.remove.ensures.value) (none_of c.remove.result c.if-is_none.ensures)) c.remove.ensures.others

pub returns-clause-forgets : goal.returns-clause-forgets
returns-clause-forgets g c =
    let some = some_of c.remove.result c.if-is_none.ensures in
    forgot_some c.args.self.now c.args.ticket some.0 c.remove.new.self c.in_ok-settled.settled c.release.new.self (rw (← c.remove.ensures.value) some.1) c.remove.ensures.others c.in_ok-settled.ensures.releases
