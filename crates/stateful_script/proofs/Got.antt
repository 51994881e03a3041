-- What stands in a list that has grown, and the heights of blocks then.
use Rattle.std.proofs.Common.{◌≡◌, ℕ, zero, suc, ◌<◌, ◌≤◌, List, [], ◌∷◌, ◌++◌, Some, length, refl, ap, arith}
use Rattle.std.specs.List.{slice_get}
use Rattle.std.specs.Option.{option_map_or}
use Rattle.stateful_script.specs.Named.{height_in}
use Rattle.stateful_script.specs.declared.script.PlannedBlock.{PlannedBlock}

-- what stands in a list stands there still
pub got_before : {X : Type 0} (xs ys : List X) (i : ℕ) → i < length xs → slice_get (xs ++ ys) i ≡ slice_get xs i
got_before [] ys i lt = absurd (omega arith)
got_before (x ∷ xs) ys zero lt = refl
got_before (x ∷ xs) ys (suc i) lt = got_before xs ys i (omega arith)

pub got_behind : {X : Type 0} (xs : List X) (x : X) → slice_get (xs ++ x ∷ []) (length xs) ≡ Some x
got_behind [] x = refl
got_behind (y ∷ xs) x = got_behind xs x

pub height_stays : (blocks : List PlannedBlock) (block : PlannedBlock) (parent : ℕ) → parent ≤ length blocks → height_in (blocks ++ block ∷ []) parent ≡ height_in blocks parent
height_stays blocks block zero le = refl
height_stays blocks block (suc i) le = ap (λ o. option_map_or (λ b. b.height.0) o 0) (got_before blocks (block ∷ []) i (omega arith))
