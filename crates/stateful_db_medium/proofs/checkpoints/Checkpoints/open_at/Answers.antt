use Rattle.stateful_db_medium.specs.declared.checkpoints.Checkpoint.{Checkpoint}
use Rattle.stateful_db_medium.specs.Ranged.{range_of}
use Rattle.std.proofs.Common.{◌+◌, List, [], ◌∷◌, ◌++◌, sym, subst}
use Rattle.stateful_db_medium.specs.Orders.{Ascend}
use Rattle.stateful_db_medium.proofs.Ascending.{Ascend-take}
use Rattle.stateful_db_medium.proofs.checkpoints.Checkpoints.open_at.Goals as goal

pub invariant_of-self-clause-sizes : goal.invariant_of-self-clause-sizes
invariant_of-self-clause-sizes g c =
    let kept = c.args.self.now in
    let P : List (Checkpoint g.row.X.Denot) → Type 0 = λ ss. Ascend range_of 0 kept.pruned ss in
    subst P (sym c.keep_first.ensures) (Ascend-take range_of 0 kept.pruned (c.args.number + 1) (kept.older.items ++ kept.newest ∷ []) kept.sizes)
