use Rattle.std.proofs.Common.{refl}
use Rattle.stateful_db_bench.proofs.blocks.open.Goals as goal

pub returns : goal.returns
returns g c =
    let opening = c.in_ok-init.ensures.opening c.empty-set.ensures _ refl in
    g.met.S.DatabaseSet.laws.places.tokens_idle _ 0 opening.idle
