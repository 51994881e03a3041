-- What a script has named so far: blocks by their names, and the databases by the world.
use Rattle.std.specs.Prelude.{ℕ, Bool, ◌&&◌, not, List, [], ◌∷◌, Option, Some, None, zero, suc}
use Rattle.std.specs.Prelude.{slice_get, is_none, position, codes}
use Rattle.std.specs.Option.{option_map_or}
use Rattle.std.specs.Str.{bytes_eq}
use Rattle.stateful_script.specs.Fields.{Fields, is_name, field_as}
use Rattle.stateful_script.specs.declared.script.World.{World}
use Rattle.stateful_script.specs.declared.script.World.TheVariants as world
use Rattle.stateful_script.specs.declared.script.PlannedBlock.{PlannedBlock}
use Rattle.stateful_script.specs.declared.script.Script.{Script}

-- before the first line: genesis alone is named
unfoldable pub at_start : Script
at_start = record { world = None; names = codes "genesis" ∷ []; blocks = []; events = [] }

-- the place of a name among those named so far
unfoldable pub place : Script → List ℕ → Option ℕ
place s name = position (λ n. bytes_eq n name) s.names

-- the next field, as the place of a name that was given
unfoldable pub block_at : Script → Fields → Option (ℕ × Fields)
block_at s fields = field_as (place s) fields

-- a name that a line may give: it isn't named yet, and isn't one of the words that stand for no
-- block
unfoldable pub is_free : Script → List ℕ → Bool
is_free s name =
    is_name name && is_none (place s name) && not (bytes_eq name (codes "none")) && not
    (bytes_eq name (codes "alone"))

-- the height of the block that has the name at a place: genesis has 0
abbrev pub height_in : List PlannedBlock → ℕ → ℕ
height_in blocks zero = 0
height_in blocks (suc i) = option_map_or (λ b. b.height.0) (slice_get blocks i) 0

-- the number of a world's databases
abbrev pub databases_in : Option World → ℕ
databases_in None = 1
databases_in (Some world.Plain) = 1
databases_in (Some world.Pair) = 2
databases_in (Some world.Triple) = 3
