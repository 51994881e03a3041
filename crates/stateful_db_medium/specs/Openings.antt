-- The checkpoint at which a database opens.
use Rattle.std.proofs.Common.{◌≡◌, ℕ, zero, suc, List, [], ◌∷◌, ◌++◌, take, length, Option, Some}
use Rattle.std.proofs.Common.{None, ap, ◌∙◌, subst, slice_get, add-one}
use Rattle.stateful_base.specs.declared.target.Target.{Target}
use Rattle.stateful_db.specs.Disk.{Disk, Standing, IsOpened, all}
use Rattle.stateful_db.specs.Reopening.{with_end, OpensAt, Reopens}

last_of_take : {X : Type 0} (xs older : List X) (newest w : X) (n : ℕ)
    → older ++ newest ∷ [] ≡ take (suc n) xs
    → slice_get xs n ≡ Some w
    → newest ≡ w
last_of_take [] older newest w n kept is = cc
last_of_take (x ∷ xs) [] newest w zero kept is = cc
last_of_take (x ∷ xs) (o ∷ []) newest w zero kept is = cc
last_of_take (x ∷ xs) (o ∷ p ∷ older) newest w zero kept is = cc
last_of_take (x ∷ []) [] newest w (suc n) kept is = cc
last_of_take (x ∷ y ∷ xs) [] newest w (suc n) kept is = cc
last_of_take (x ∷ xs) (o ∷ older) newest w (suc n) kept is =
    let rest : older ++ newest ∷ [] ≡ take (suc n) xs = cc in
    last_of_take xs older newest w n rest is

module _ {S T : Type 0} (target_of : S → T) (targeted : T → Target) where
  -- the number of the kept checkpoint of the expected target, or of the latest
  abbrev pub IsNumberOf : Option T → Disk S → ℕ → Type 0
  IsNumberOf None d n = n ≡ length d.older
  IsNumberOf (Some t) d n =
      (with_end target_of targeted t d ≡ Some n)
      × ((s : S) × (slice_get (all d) n ≡ Some s) × (target_of s ≡ t))

  -- the newest checkpoint is the one at which the medium was opened
  pub opened_newest : (d e : Disk S) (n : ℕ) (s : S)
      → IsOpened n d e
      → slice_get (all d) n ≡ Some s
      → e.newest ≡ s
  opened_newest d e n s opened is =
      last_of_take (all d) e.older e.newest s n
      (opened.kept ∙ ap (λ k. take k (all d)) (add-one n)) is

  -- a database that is opened at that number
  pub reopens : (d : Disk S) (expected : Option T) (n : ℕ) (s : Standing S)
      → IsNumberOf expected d n
      → OpensAt target_of targeted n d s
      → Reopens target_of targeted expected d s
  reopens d None n s number opens =
      let P : ℕ → Type 0 = λ k. OpensAt target_of targeted k d s in subst P number opens
  reopens d (Some t) n s number opens =
      let newest : s.disk.newest ≡ number.1.0 =
      opened_newest d s.disk n number.1.0 opens.disk number.1.1 in
      (n, number.0, ap target_of newest ∙ number.1.2, opens)
