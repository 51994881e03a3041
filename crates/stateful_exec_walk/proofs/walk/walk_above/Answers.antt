use Rattle.std.proofs.Common.{◌≡◌, ◌∷◌, [], ◌∙◌, refl, sym}
use Rattle.std.proofs.lemmas.Result.{IfOk-weaker}
use Rattle.stateful_exec_walk.specs.Walk.IsNeeded.{stranger}
use Rattle.stateful_exec_walk.proofs.Walking.{IsNeeded-child, refused}
use Rattle.stateful_exec_walk.proofs.walk.walk_above.Goals as goal

pub returns-then-not-is : goal.returns-then-not-is
returns-then-not-is g c = stranger refl (λ e. refused _ _ c.is.ensures c.if-not-is.true (c.digest.ensures ∙ e ∙ sym c.parent.ensures))

pub returns : goal.returns
returns g c =
    let child = sym c.digest.ensures ∙ c.is.ensures.0 c.if-not-is.false ∙ c.parent.ensures in
    let path : c.in_ok-path.path ≡ record { blocks = c.args.block.now ∷ []; parent = c.args.parent.now } = rw (← c.in_ok-share.ensures, ← c.in_ok-share-2.ensures) c.in_ok-path.ensures in
    IfOk-weaker c.walk_from.result _ _ (λ found. IsNeeded-child _ _ _ c.args.block.now c.args.parent.now c.args.acquired.now c.in_ok-path.path found path child) c.walk_from.ensures
