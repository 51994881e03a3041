use Rattle.std.proofs.Common.{◌≡◌, [], ◌∷◌, inr, refl, arith, rules}
use Rattle.stateful_actor_shell.proofs.durable.twice.Goals as goal

pub record_duplicate-requires : goal.record_duplicate-requires
record_duplicate-requires g =
    let held : g.record-2.new.self.held ≡ (1, 0) ∷ (2, 1) ∷ [] = search rules in
    inr (rw held (0, (1, 0), omega arith, refl, refl))
