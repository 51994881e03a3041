use Rattle.stateful_db_medium.specs.declared.checkpoints.Checkpoint.{Checkpoint}
use Rattle.stateful_db_medium.specs.Ranged.{range_of}
use Rattle.std.proofs.Common.{◌≡◌, ◌+◌, List, [], ◌∷◌, ◌++◌, drop, ◌∙◌, subst}
use Rattle.std.proofs.lemmas.List.{drop-append-le}
use Rattle.stateful_db_medium.specs.Orders.{Ascend}
use Rattle.stateful_db_medium.proofs.Ascending.{Ascend-drop}
use Rattle.stateful_db_medium.proofs.checkpoints.Checkpoints.drop_first.Goals as goal

pub invariant_of-self-clause-sizes : goal.invariant_of-self-clause-sizes
invariant_of-self-clause-sizes g c =
    let kept = c.args.self.now in
    let n = c.args.count in
    let left : c.drop-drain.new.self.0.items ≡ drop n kept.older.items = c.drop-drain.ensures.items ∙ c.drain.ensures.kept in
    let P : List (Checkpoint g.row.X.Denot) → Type 0 = λ ss. Ascend range_of 0 (kept.pruned + n) ss in
    let states = Ascend-drop range_of 0 kept.pruned n (kept.older.items ++ kept.newest ∷ []) kept.sizes in
    rw left (subst P (drop-append-le n kept.older.items (kept.newest ∷ []) c.requires.within) states)
