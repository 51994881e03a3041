-- When a line isn't read.
use Rattle.std.specs.Prelude.{◌≡◌, Option, Some, None, Result, Ok, Err}
use Rattle.stateful_script.specs.declared.error.LineError.{LineError}
use Rattle.stateful_script.specs.declared.error.LineError.TheVariants as error

-- a refusal comes where the definition has nothing; want of memory is free
abbrev pub Refuses : {A : Type 0} → LineError → Option A → Type 0
Refuses error.Refused found = found ≡ None
Refuses error.OutOfMemory found = Unit {0}

-- what came out is what the definition gives, unless memory ran out
abbrev pub Gives : {A : Type 0} → Result A LineError → Option A → Type 0
Gives (Ok a) found = found ≡ Some a
Gives (Err e) found = Refuses e found

-- what came out, with what is left behind it, is what the definition gives, unless memory ran out
abbrev pub Leaves : {A B : Type 0} → Result A LineError → Option (A × B) → B → Type 0
Leaves (Ok a) found left = found ≡ Some (a, left)
Leaves (Err e) found left = Refuses e found

-- what was turned into this is what the definition gives, unless memory ran out
abbrev pub Becomes : {A B : Type 0} → Result A LineError → Option B → B → Type 0
Becomes (Ok a) found after = found ≡ Some after
Becomes (Err e) found after = Refuses e found
