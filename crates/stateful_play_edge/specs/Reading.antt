-- What the words ask for, and what the bytes of a source are.
use Rattle.std.specs.Prelude.{ℕ, ◌≡◌, ◌<◌, ◌≤◌, ◌⊎◌, ◌*◌, ◌==◌, ◌&&◌, Bool, List, String}
use Rattle.std.specs.Prelude.{string_bytes, Option, Ok, Err, IfSome, length, codes}
use Rattle.std.specs.List.{list_all}
use Rattle.std.specs.Str.{bytes_eq}
use Rattle.std.specs.Io.KnownBytes.{Consumes, IsAtEnd}
use Rattle.stateful_script.specs.Script.{script_or_line}
use Rattle.stateful_script.specs.declared.script.Script.{Script}
use Rattle.stateful_play_edge.specs.declared.reading.Stop.{Stop}
use Rattle.stateful_play_edge.specs.declared.reading.Stop.TheVariants as stop

-- the words are the one word `play`
unfoldable pub asks_play : {Z : Type 0} → List (String Z) → Bool
asks_play words =
    length words == 1 && list_all (λ word. bytes_eq (string_bytes word) (codes "play")) words

-- the most bytes of a script: 16 MiB
abbrev pub limit : ℕ
limit = 16 * 1024 * 1024

-- What a source has left, or a sink holds, where that is told.
abbrev pub Known : Type 0
Known = Option (List ℕ)

-- these bytes were read, and they are all
pub record IsWhole (left left_after : Known) (bytes : List ℕ) : Type 0 where
  pub consumed : Consumes left left_after bytes
  pub ended : IsAtEnd left_after
  pub within : length bytes ≤ limit

-- all bytes were read, and they are this script
abbrev pub IsLoaded : Known → Known → Script → Type 0
IsLoaded left left_after script =
    (bytes : List ℕ) × IsWhole left left_after bytes × (script_or_line bytes ≡ Ok script)

-- All bytes were read, and this is the first line that no rule reads; or it is line 0, and there
-- were too many.
abbrev pub IsUnread : Known → Known → ℕ → Type 0
IsUnread left left_after line =
    ((bytes : List ℕ) × IsWhole left left_after bytes × (script_or_line bytes ≡ Err line))
    ⊎ ((line ≡ 0) × IfSome left (λ bytes. limit < length bytes))

-- why there is no script
abbrev pub Stops : Known → Known → Type 0 → Stop → Type 0
Stops left left_after rose stop.ReadFault = rose
Stops left left_after rose (stop.Refused line) = IsUnread left left_after line
Stops left left_after rose stop.NoMemory = Unit {0}
