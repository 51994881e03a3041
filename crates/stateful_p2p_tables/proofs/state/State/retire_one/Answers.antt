use Rattle.std.proofs.Common.{[], ◌∷◌, sym, append-nil}
use Rattle.std.specs.Prelude.{option_to_list}
use Rattle.stateful_p2p_tables.specs.declared.out.ActorOut.TheVariants.{Forget}
use Rattle.stateful_p2p_tables.proofs.Releasing.{retired_one, retired_none, on_ok}
use Rattle.stateful_p2p_tables.proofs.state.State.retire_one.Goals as goal

pub returns-in_default-clause-retires : goal.returns-in_default-clause-retires
returns-in_default-clause-retires g c =
    ([], [], retired_none c.args.self.now c.args.ticket c.forget.new.self (rw c.in_default.is at c.in_ok-outcome.ensures.forgets), sym (append-nil _), sym (append-nil _))

pub returns-clause-retires : goal.returns-clause-retires
returns-clause-retires g c =
    on_ok c.push_some.result c.push_some.ensures
    (λ e. (Forget c.args.ticket ∷ [], option_to_list c.in-Some.outcome, retired_one c.args.self.now c.args.ticket c.in-Some.outcome c.forget.new.self (rw c.in-Some.is at c.in_ok-outcome.ensures.forgets), c.in_ok-push.ensures.items, e))
