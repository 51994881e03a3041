-- Room for changes, and calls that want no memory.
use Rattle.std.proofs.Common.{◌≡◌, ℕ, ◌+◌, ◌<◌, ◌≤◌, Bool, true, false, Result, Ok, Err, List, length, get_or, take, subst, ⊎_elim, arith}
use Rattle.std.specs.Result.{OnErr}
use Rattle.std.specs.List.{Contains}
use Rattle.std.proofs.lemmas.List.{take_more}
use Rattle.std.proofs.lemmas.List.Elements.{Contains-push_cases}
use Rattle.std.proofs.lemmas.Grind.{common_steps}
use Rattle.stateful_actor_register.specs.Register.{HasRoomFor, HasRoomForEach}
use Rattle.stateful_actor_register.specs.declared.change.Change.{Change}
use Rattle.stateful_actor_register.specs.declared.register.Register.{Register}

-- room for one change more
pub HasRoomForEach-more : (changes : List Change) (i : ℕ) (d : Change) (old new : Register) → i < length changes → HasRoomForEach (take i changes) old → HasRoomFor (get_or changes i d) new
    → ((other : Change) → HasRoomFor other old → HasRoomFor other new) → HasRoomForEach (take (i + 1) changes) new
HasRoomForEach-more changes i d old new low before here rooms = λ change within.
    ⊎_elim (λ earlier. rooms change (before change earlier)) (λ same. subst (λ c. HasRoomFor c new) same here)
    (Contains-push_cases (take i changes) (get_or changes i d) change (subst (λ cs. Contains cs change) (take_more changes i d low) within))

-- room for all changes
pub HasRoomForEach-all : (changes : List Change) (i : ℕ) (r : Register) → length changes ≤ i → HasRoomForEach (take i changes) r → HasRoomForEach changes r
HasRoomForEach-all changes i r high room = let all : take i changes ≡ changes = grind (arith, common_steps) in subst (λ cs. HasRoomForEach cs r) all room

-- a call that is refused only where a test passes, and it doesn't
pub OnErr-never : {T E : Type 0} (P : Type 0) (result : Result T E) (test : Bool) → OnErr result (test ≡ true) → test ≡ false → OnErr result P
OnErr-never P (Ok x) test err fails = tt
OnErr-never P (Err e) test err fails = absurd (no test err fails)
  where
    no : (test : Bool) → test ≡ true → test ≡ false → ⊥
    no test passes fails = cc
