-- the checkpoint of a number, and openings on one checkpoint alone
use Rattle.std.proofs.Common.{◌≡◌, ℕ, zero, suc, ◌<◌, List, [], ◌∷◌, ◌++◌, length, take, Some, refl, ap, ◌∙◌, arith, slice_get}
use Rattle.stateful_base.specs.declared.target.Target.{Target}
use Rattle.stateful_db.specs.Disk.{Disk, Standing, all}
use Rattle.stateful_db.specs.Reopening.{OpensAt}
use Rattle.stateful_db_log.proofs.Windows.{standing_is}

pub element : {X : Type 0} (xs : List X) (i : ℕ) → i < length xs → (x : X) × (slice_get xs i ≡ Some x)
element [] i h = absurd (omega arith)
element (x ∷ xs) zero h = (x, refl)
element (x ∷ xs) (suc i) h = element xs i (omega arith)

module _ {S : Type 0} where
  -- one durable checkpoint, and nothing before it
  abbrev pub alone : S → Disk S
  alone only = record { older = []; newest = only; pruned = 0; durable = 0 }

  single : (older : List S) (newest only : S) → older ++ newest ∷ [] ≡ only ∷ [] → (older ≡ []) × (newest ≡ only)
  single [] newest only h = (refl, cc)
  single (x ∷ []) newest only h = cc
  single (x ∷ y ∷ older) newest only h = cc

  disk_is : (d : Disk S) (only : S) → d.older ≡ [] → d.newest ≡ only → d.pruned ≡ 0 → d.durable ≡ 0 → d ≡ alone only
  disk_is d only a b e f i = record { older = a i; newest = b i; pruned = e i; durable = f i }

  -- a database that is opened on it
  pub opened_alone : (range_of : S → Target) (only : S) (d : Disk S) (opened : Standing S) → d ≡ alone only
      → OpensAt range_of (λ t. t) 0 d opened → opened ≡ record { id = 0; disk = alone only; out = [] }
  opened_alone range_of only d opened is opens =
      let kept : opened.disk.older ++ opened.disk.newest ∷ [] ≡ only ∷ [] = opens.disk.kept ∙ ap (λ (x : Disk S). take 1 (all x)) is in
      let (older, newest) = single opened.disk.older opened.disk.newest only kept in
      let pruned = opens.disk.pruned ∙ ap (λ (x : Disk S). x.pruned) is in
      let durable : opened.disk.durable ≡ 0 = omega (arith, opens.disk.durable, pruned, ap length older) in
      standing_is opened 0 (alone only) [] opens.id (disk_is opened.disk only older newest pruned durable) opens.out
