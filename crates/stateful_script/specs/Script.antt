-- A script, read line by line.
use Rattle.std.specs.Prelude.{ℕ, ◌≡◌, ◌+◌, ◌==◌, List, [], ◌∷◌, Option, Some, None, Result, Ok, Err}
use Rattle.std.specs.Prelude.{length, if◌then◌else◌}
use Rattle.std.specs.List.{slice_split}
use Rattle.stateful_script.specs.Named.{at_start}
use Rattle.stateful_script.specs.Lines.{read_line}
use Rattle.stateful_script.specs.declared.script.Script.{Script}
use Rattle.stateful_script.specs.declared.script.ScriptError.{ScriptError}
use Rattle.stateful_script.specs.declared.script.ScriptError.TheVariants as error

abbrev pub at_line : {A : Type 0} → ℕ → Option A → (A → Result Script ℕ) → Result Script ℕ
at_line line None f = Err line
at_line line (Some x) f = f x

-- The parts between LFs are lines, but for what stands behind the last LF, which has to be empty.
unfoldable pub read_from : Script → ℕ → List (List ℕ) → Result Script ℕ
read_from s line [] = Err line
read_from s line (last ∷ []) = if length last == 0 then Ok s else Err line
read_from s line (text ∷ next ∷ more) =
    at_line line (read_line s text) (λ q. read_from q (line + 1) (next ∷ more))

-- the script that bytes spell, or the number, from 1, of the first line that no rule reads
unfoldable pub script_or_line : List ℕ → Result Script ℕ
script_or_line bytes = read_from at_start 1 (slice_split (λ b. b == 10) bytes)

-- a line is named where the definition names it; want of memory is free
abbrev pub Fails : ScriptError → Result Script ℕ → Type 0
Fails (error.Line line) read = read ≡ Err line
Fails error.OutOfMemory read = Unit {0}

abbrev pub Reads : Result Script ScriptError → Result Script ℕ → Type 0
Reads (Ok s) read = read ≡ Ok s
Reads (Err e) read = Fails e read
