use Rattle.std.proofs.Common.{◌≤◌, refl, sym, subst, arith}
use Rattle.stateful_sync_shell.proofs.blocks.prune_to.Goals as goal

pub prune-requires : goal.prune-requires
prune-requires g c =
    let kind = g.S.DatabaseSet.kind in
    let laws = g.met.S.DatabaseSet.laws in
    let m = g.S.DatabaseSet.members c.init.new.self in
    let t = c.args.targets.now in
    let opening = c.in_ok-init.ensures.opening c.requires t refl in
    laws.prune.prunable_from m t (g.met.S.DatabaseSet.sound c.init.new.self) opening.idle (λ i within. (
      kind.place m i,
      opening.at.1,
      laws.places.has_newest m opening.at i within opening.here,
      subst (λ u. kind.Agrees u t i) (sym opening.targets_are) (laws.targets.agrees_same t i),
      omega (arith, opening.durable i within),
    ))
