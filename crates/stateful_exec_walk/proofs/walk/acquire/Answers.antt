use Rattle.std.proofs.Common.{◌≡◌, ◌≤◌, ◌++◌, ◌∷◌, [], List, length, take, arith, refl}
use Rattle.stateful_exec_walk.specs.Walk.IsNeeded.{orphan}
use Rattle.stateful_exec_walk.proofs.walk.acquire.Goals as goal

-- there is no parent
none_left : {X : Type 0} (rest acquired : List X) → length rest ≤ 0 → length acquired ≡ 0 → take 1 rest ++ acquired ≡ []
none_left [] [] l e = refl
none_left [] (y ∷ ys) l e = absurd (omega arith)
none_left (x ∷ xs) ys l e = absurd (omega arith)

pub returns-in-None : goal.returns-in-None
returns-in-None g c =
    orphan (none_left c.args.ancestry.now.rest c.args.acquired.now (rw c.as_slice.ensures at c.in_default.ensures.item.3) c.in-None.ensures.cases) c.parent.ensures
