-- Laws of scripts: which line is named, what a whole script is, and that what it names is there.
use Rattle.std.specs.Prelude.{ℕ, ◌≡◌, ◌≢◌, ◌↔◌, ◌+◌, ◌<◌, ◌≤◌, ◌⊎◌, true, false, List, [], ◌∷◌}
use Rattle.std.specs.Prelude.{◌++◌, Option, Some, None, option_and_then, Ok, Err, length, codes}
use Rattle.std.specs.Prelude.{All, AllPairs, EachIndex, slice_get, slice_index_or}
use Rattle.std.specs.List.{flat_map}
use Rattle.stateful_script.specs.Fields.{is_name}
use Rattle.stateful_script.specs.Named.{at_start, height_in}
use Rattle.stateful_script.specs.Lines.{read_line}
use Rattle.stateful_script.specs.Script.{script_or_line}
use Rattle.stateful_script.specs.declared.script.PlannedBlock.{PlannedBlock}
use Rattle.stateful_script.specs.declared.script.PlannedEvent.{PlannedEvent}
use Rattle.stateful_script.specs.declared.script.PlannedEvent.TheVariants as event
use Rattle.stateful_script.specs.declared.script.Script.{Script}

-- no LF stands in it
abbrev pub IsLine : List ℕ → Type 0
IsLine line = All (λ b. b ≢ 10) line

-- these lines, with an LF behind each
abbrev pub text_of : List (List ℕ) → List ℕ
text_of lines = flat_map (λ line. line ++ 10 ∷ []) lines

-- what has been read after these lines, where a rule reads each of them
abbrev pub after_lines : Script → List (List ℕ) → Option Script
after_lines s [] = Some s
after_lines s (line ∷ lines) = option_and_then (λ q. after_lines q lines) (read_line s line)

-- The bytes are lines with an LF behind each, a rule reads each line, and together they say this
-- script.
pub record IsWhole (bytes : List ℕ) (s : Script) : Type 0 where
  pub lines : List (List ℕ)
  pub apart : All IsLine lines
  pub spelled : bytes ≡ text_of lines
  pub read : after_lines at_start lines ≡ Some s

-- after what was read before, no rule reads this text, or it isn't empty and no LF follows it
abbrev pub IsUnread : Script → List ℕ → List ℕ → Type 0
IsUnread before text rest =
    (((more : List ℕ) × (rest ≡ 10 ∷ more)) × (read_line before text ≡ None))
    ⊎ ((0 < length text) × (rest ≡ []))

-- The line of this number, from 1, is the first that isn't read: a rule reads each line before it.
pub record IsFirstUnread (bytes : List ℕ) (number : ℕ) : Type 0 where
  pub lines : List (List ℕ)
  pub before : Script
  pub text : List ℕ
  pub rest : List ℕ
  pub apart : All IsLine lines
  pub is_line : IsLine text
  pub spelled : bytes ≡ text_of lines ++ text ++ rest
  pub counted : number ≡ length lines + 1
  pub read : after_lines at_start lines ≡ Some before
  pub unread : IsUnread before text rest

-- bytes are read as a script exactly where they are whole lines that rules read
abbrev pub WholeIsRead : Type 0
WholeIsRead = (bytes : List ℕ) (s : Script) → script_or_line bytes ≡ Ok s ↔ IsWhole bytes s

-- a line is named exactly where it is the first that isn't read
abbrev pub FirstIsNamed : Type 0
FirstIsNamed =
    (bytes : List ℕ) (number : ℕ) → script_or_line bytes ≡ Err number ↔ IsFirstUnread bytes number

-- a whole script is empty, or its last byte is an LF
abbrev pub LastIsEnded : Type 0
LastIsEnded =
    (bytes : List ℕ) (s : Script)
    → script_or_line bytes ≡ Ok s
    → (bytes ≡ []) ⊎ ((front : List ℕ) × (bytes ≡ front ++ 10 ∷ []))

-- the blocks of an event are among the first so many names
abbrev pub IsNamedBelow : ℕ → PlannedEvent → Type 0
IsNamedBelow names (event.Verify block alone) = block < names
IsNamedBelow names (event.Prepare parent block decision) = (parent < names) × (block < names)
IsNamedBelow names (event.Propose parent block) = (parent < names) × (block < names)
IsNamedBelow names (event.Finalize block) = block < names
IsNamedBelow names (event.Fetched fetch (Some block)) = block < names
IsNamedBelow names _ = Unit {0}

-- The block of this name's place is one that a build on this parent would give: it is one above it,
-- its hook takes no turn, and its roots aren't wrong.
pub record IsBuild (blocks : List PlannedBlock) (parent place : ℕ) : Type 0 where
  pub before : ℕ
  pub behind : place ≡ before + 1
  pub block : PlannedBlock
  pub there : slice_get blocks before ≡ Some block
  pub on : block.parent ≡ parent
  pub above : block.height.0 ≡ height_in blocks parent + 1
  pub slow : block.slow ≡ 0
  pub right : block.wrong ≡ false

-- the event, where it asks for a build, says what the build would give
abbrev pub IsBuilt : List PlannedBlock → PlannedEvent → Type 0
IsBuilt blocks (event.Prepare parent block decision) = IsBuild blocks parent block
IsBuilt blocks (event.Propose parent block) = IsBuild blocks parent block
IsBuilt blocks _ = Unit {0}

-- What each script keeps: genesis is the first name, and the block at a place has the name at the
-- next place. A parent is named before its child. No name stands twice.
pub record IsPlan (s : Script) : Type 0 where
  pub genesis : slice_get s.names 0 ≡ Some (codes "genesis")
  pub one_each : length s.names ≡ length s.blocks + 1
  pub names : All (λ name. is_name name ≡ true) s.names
  pub once : AllPairs (λ first later. first ≢ later) s.names
  pub parents : EachIndex s.blocks
      (λ i. (d : PlannedBlock) → (slice_index_or s.blocks i d).parent ≤ i)
  pub ops : All (λ block. length block.ops ≤ 16) s.blocks
  pub slow : All (λ block. block.slow ≤ 9) s.blocks
  pub events : All (IsNamedBelow (length s.names)) s.events
  pub builds : All (IsBuilt s.blocks) s.events
  pub few_blocks : length s.blocks ≤ 1024
  pub few_events : length s.events ≤ 65536

abbrev pub PlansAreKept : Type 0
PlansAreKept = (bytes : List ℕ) (s : Script) → script_or_line bytes ≡ Ok s → IsPlan s
