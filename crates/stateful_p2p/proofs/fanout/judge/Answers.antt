use Rattle.std.specs.Prelude.{option_to_list}
use Rattle.stateful_p2p.specs.Resolving.{rejects}
use Rattle.stateful_p2p_tables.proofs.Releasing.{on_ok}
use Rattle.stateful_p2p.proofs.fanout.judge.Goals as goal

pub returns-clause-judges : goal.returns-clause-judges
returns-clause-judges g c =
    on_ok c.push_some.result c.push_some.ensures (λ e. (option_to_list c.in_ok-settled.settled, rw c.if-valid.false (rejects c.in_ok-settled.ensures.releases), e))
