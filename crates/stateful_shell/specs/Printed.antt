-- What a case prints.
use Rattle.std.specs.Prelude.{◌≡◌, ◌++◌, ℕ, List, Bool, true}

-- what is printed, and whether memory lacked for a piece of it
pub record Printed : Type 0 where
  pub text : List ℕ
  pub lacks : Bool

-- a piece is printed behind what was, or memory lacked for it
pub data Adds (old new : Printed) (piece : List ℕ) : Type 0 where
  adds : new.text ≡ old.text ++ piece → new.lacks ≡ old.lacks → Adds old new piece
  lacked : new.lacks ≡ true → Adds old new piece
