-- What the bytes are worth that stand for one whole value, or for none.
use Rattle.std.specs.Prelude.{◌≡◌, ℕ, ◌⊎◌, Option, Some, None, List, ◌∷◌, ◌++◌, Result, Ok, Err}
use Rattle.stateful_base.specs.declared.codec.CodecError.{CodecError}
use Rattle.stateful_base.specs.declared.codec.CodecError.TheVariants.{InvalidEnum, EndOfBuffer}
use Rattle.stateful_base.specs.declared.codec.CodecError.TheVariants.{OutOfMemory}
use Rattle.stateful_base.specs.Format.{Format, EndsInside, IsWrong}

-- this byte is left over: it stands right behind a whole value
pub record IsLeftOver {A : Type 0} (format : Format A) (bytes : List ℕ) (byte : ℕ) : Type 0 where
  pub value : A
  pub rest : List ℕ
  pub fits : format.fits value
  pub place : bytes ≡ format.spelling value ++ byte ∷ rest

-- They are a value's spelling, and nothing more. Else they have a first fault: they end inside a
-- value, or a byte stands there that no case has or that is left over.
abbrev pub IsWhole : {A : Type 0} → Format A → List ℕ → Result A CodecError → Type 0
IsWhole format bytes (Ok value) = format.fits value × (bytes ≡ format.spelling value)
IsWhole format bytes (Err EndOfBuffer) = EndsInside format bytes
IsWhole format bytes (Err (InvalidEnum byte)) =
    IsWrong format bytes byte ⊎ IsLeftOver format bytes byte
IsWhole format bytes (Err OutOfMemory) = ⊥

-- no bytes are worth no value
abbrev pub IsWorth : {A : Type 0}
    → Format A
    → Option (List ℕ)
    → Result (Option A) CodecError
    → Type 0
IsWorth format None (Ok None) = Unit {0}
IsWorth format (Some bytes) (Ok (Some value)) = IsWhole format bytes (Ok value)
IsWorth format (Some bytes) (Err error) = IsWhole format bytes (Err error)
IsWorth format bytes answer = ⊥
