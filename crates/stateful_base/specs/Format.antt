-- Formats: which values are spelled in bytes, and how. What it means to write a value, and to read
-- one.
use Rattle.std.specs.Prelude.{◌≡◌, ℕ, List, [], ◌∷◌, ◌++◌, Result, Ok, Err, OnOk}
use Rattle.stateful_base.specs.declared.codec.CodecError.{CodecError}
use Rattle.stateful_base.specs.declared.codec.CodecError.TheVariants.{InvalidEnum, EndOfBuffer}
use Rattle.stateful_base.specs.declared.codec.CodecError.TheVariants.{OutOfMemory}

-- the values that are spelled, and the bytes of each
pub record Format (A : Type 0) : Type 1 where
  pub fits : A → Type 0
  pub spelling : A → List ℕ

-- the bytes are the front of a spelling, or all of it
pub record Begins {A : Type 0} (format : Format A) (bytes : List ℕ) : Type 0 where
  pub value : A
  pub rest : List ℕ
  pub fits : format.fits value
  pub whole : bytes ++ rest ≡ format.spelling value

-- the bytes end inside a value: with some next byte they are the front of a spelling
pub record EndsInside {A : Type 0} (format : Format A) (bytes : List ℕ) : Type 0 where
  pub next : ℕ
  pub begins : Begins format (bytes ++ next ∷ [])

-- a byte that no case has: what is before it ends inside a value, and with it no spelling begins
pub record IsWrong {A : Type 0} (format : Format A) (bytes : List ℕ) (byte : ℕ) : Type 0 where
  pub front : List ℕ
  pub rest : List ℕ
  pub place : bytes ≡ front ++ byte ∷ rest
  pub inside : EndsInside format front
  pub none : Begins format (front ++ byte ∷ []) → ⊥

-- what stands first in the bytes: a value and what is behind it, an end inside a value, or a byte
-- that no case has
abbrev pub Stands : {A : Type 0} → Format A → List ℕ → Result (A × List ℕ) CodecError → Type 0
Stands format bytes (Ok found) = format.fits found.0 × (bytes ≡ format.spelling found.0 ++ found.1)
Stands format bytes (Err EndOfBuffer) = EndsInside format bytes
Stands format bytes (Err (InvalidEnum byte)) = IsWrong format bytes byte
Stands format bytes (Err OutOfMemory) = ⊥

-- what a reader answered, a value with the bytes that it left
abbrev pub answer_with : {A : Type 0}
    → Result A CodecError
    → List ℕ
    → Result (A × List ℕ) CodecError
answer_with (Ok value) rest = Ok (value, rest)
answer_with (Err error) rest = Err error

-- the fact holds unless memory ran out
abbrev pub UnlessMemory : {A : Type 0} → Result A CodecError → Type 0 → Type 0
UnlessMemory (Ok value) P = P
UnlessMemory (Err EndOfBuffer) P = P
UnlessMemory (Err (InvalidEnum byte)) P = P
UnlessMemory (Err OutOfMemory) P = Unit {0}

-- what is behind a whole value: nothing, or a byte that no case has
abbrev pub end_of : List ℕ → Result (Unit {0}) CodecError
end_of [] = Ok tt
end_of (byte ∷ rest) = Err (InvalidEnum byte)

-- How a format is read. Unless memory ran out the answer is what stands first in the bytes, and
-- whatever stands first is the answer: so what is spelled is read, whatever follows. In each case
-- some bytes are taken from the front.
pub record Reads {A : Type 0} (format : Format A) (result : Result A CodecError)
    (before after : List ℕ) : Type 0 where
  pub first : UnlessMemory result (Stands format before (answer_with result after))
  pub only : (other : Result (A × List ℕ) CodecError)
      → Stands format before other
      → UnlessMemory result (answer_with result after ≡ other)
  pub taken : (front : List ℕ) × (before ≡ front ++ after)

-- How a value is written: its spelling is appended, and only a value that has one is. A refusal may
-- leave a part of it.
pub record Writes {A E : Type 0} (format : Format A) (value : A) (result : Result (Unit {0}) E)
    (before after : List ℕ) : Type 0 where
  pub fits : OnOk result (format.fits value)
  pub appended : OnOk result (after ≡ before ++ format.spelling value)
  pub kept : (more : List ℕ) × (after ≡ before ++ more)

-- some value is spelled, and no spelling begins another
pub record IsFormat {A : Type 0} (format : Format A) : Type 0 where
  pub some : (value : A) × format.fits value
  pub alone : (x y : A) (rest : List ℕ)
      → format.fits x
      → format.fits y
      → format.spelling x ++ rest ≡ format.spelling y
      → x ≡ y
