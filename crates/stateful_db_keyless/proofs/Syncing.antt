-- a database that is opened on one checkpoint alone
use Rattle.std.proofs.Common.{◌≡◌, List, [], ◌∷◌, ◌++◌, length, refl, ap, arith}
use Rattle.stateful_db.specs.Disk.{Disk, IsOpened}

module _ {S : Type 0} where
  -- one durable checkpoint
  abbrev pub alone : S → Disk S
  alone s = record { older = []; newest = s; pruned = 0; durable = 0 }

  one : (older : List S) (newest s : S) → older ++ newest ∷ [] ≡ s ∷ [] → (older ≡ []) × (newest ≡ s)
  one [] newest s kept = (refl, cc)
  one (o ∷ []) newest s kept = cc
  one (o ∷ p ∷ older) newest s kept = cc

  -- it keeps that one, which is durable
  pub opened_alone : (s : S) (d : Disk S) → IsOpened 0 (alone s) d → d ≡ alone s
  opened_alone s d opened =
      let is = one d.older d.newest s opened.kept in
      let pruned : d.pruned ≡ 0 = opened.pruned in
      let durable : d.durable ≡ 0 = omega (arith, opened.durable, pruned, ap length is.0) in
      λ i. record { older = is.0 i; newest = is.1 i; pruned = pruned i; durable = durable i }
