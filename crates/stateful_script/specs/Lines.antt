-- The lines of a script, one by one: what each adds to what those before it said.
--
--     an empty line, and a line that begins with #       add nothing
--     world plain                                        one database of balances
--     world pair                                         balances, and a log of amounts
--     world triple                                       those, and the log's latest commit
--     block, prepare, propose ..                         name a block
--     prepare, propose, verify, turn ..                  add an event
--
-- Every line has only bytes below 128.
use Rattle.std.specs.Prelude.{ℕ, ◌==◌, ◌&&◌, ◌||◌, List, [], ◌∷◌, ◌++◌, Option, Some, None, length}
use Rattle.std.specs.Prelude.{nat_lt, is_none, slice_index, if◌then◌else◌, codes}
use Rattle.std.specs.List.{list_all}
use Rattle.std.specs.Char.{is_ascii}
use Rattle.std.specs.Str.{bytes_eq}
use Rattle.stateful_script.specs.Fields.{Fields, field_at, field_as, fields_of, ◌>>=◌}
use Rattle.stateful_script.specs.BlockItems.{items_of, build_items_of, said_of}
use Rattle.stateful_script.specs.BlockLines.{head_at, planned_by, decision}
use Rattle.stateful_script.specs.EventLines.{event_by}
use Rattle.stateful_script.specs.declared.block.Head.{Head}
use Rattle.stateful_script.specs.declared.item.Item.{Item}
use Rattle.stateful_script.specs.declared.script.World.{World}
use Rattle.stateful_script.specs.declared.script.World.TheVariants as world
use Rattle.stateful_script.specs.declared.script.PlannedBlock.{PlannedBlock}
use Rattle.stateful_script.specs.declared.script.PlannedEvent.{PlannedEvent}
use Rattle.stateful_script.specs.declared.script.PlannedEvent.TheVariants as event
use Rattle.stateful_script.specs.declared.script.Script.{Script}

-- a world line stands at most once, and before the first event line
unfoldable pub with_world : Script → World → Option Script
with_world s world =
    if is_none s.world && length s.events == 0 then Some (record s { world = Some world }) else None

-- lines name at most 1024 blocks
unfoldable pub with_block : Script → List ℕ → PlannedBlock → Option Script
with_block s name block =
    if nat_lt (length s.blocks) 1024
    then Some (record s { names = s.names ++ name ∷ []; blocks = s.blocks ++ block ∷ [] })
    else None

-- there are at most 65536 event lines
unfoldable pub with_event : Script → PlannedEvent → Option Script
with_event s e =
    if nat_lt (length s.events) 65536 then Some (record s { events = s.events ++ e ∷ [] }) else None

-- the block of this head with these items
unfoldable pub with_items : Script → Head → List Item → Option Script
with_items s head items = do
  said ← said_of items
  block ← planned_by s.blocks head said
  with_block s head.name block

-- the world that a word names
unfoldable pub world_by : List ℕ → Option World
world_by word =
    if bytes_eq word (codes "plain") then Some world.Plain
    else (if bytes_eq word (codes "pair") then Some world.Pair
    else (if bytes_eq word (codes "triple") then Some world.Triple
    else None))

-- each line after its first word

unfoldable pub world_line : Script → Fields → Option Script
world_line s fields = do
  world ← field_as world_by fields
  if length world.1 == 0 then with_world s world.0 else None

unfoldable pub block_line : Script → Fields → Option Script
block_line s fields = do
  head ← head_at s fields
  items ← items_of head.1
  with_items s head.0 items

-- A line that asks for a build names the block that the build would give.
unfoldable pub build_line : Script → Head → Fields → PlannedEvent → Option Script
build_line s head fields e = do
  items ← build_items_of fields
  named ← with_items s head items
  with_event named e

unfoldable pub prepare_line : Script → Fields → Option Script
prepare_line s fields = do
  head ← head_at s fields
  how ← field_as decision head.1
  build_line s head.0 how.1 (event.Prepare head.0.parent (length s.names) how.0)

unfoldable pub propose_line : Script → Fields → Option Script
propose_line s fields = do
  head ← head_at s fields
  build_line s head.0 head.1 (event.Propose head.0.parent (length s.names))

unfoldable pub event_line : Script → List ℕ → Fields → Option Script
event_line s word fields = do
  e ← event_by s word fields
  if length e.1 == 0 then with_event s e.0 else None

-- a line by its first word
unfoldable pub line_by : Script → List ℕ → Fields → Option Script
line_by s word fields =
    if bytes_eq word (codes "world") then world_line s fields
    else (if bytes_eq word (codes "block") then block_line s fields
    else (if bytes_eq word (codes "prepare") then prepare_line s fields
    else (if bytes_eq word (codes "propose") then propose_line s fields
    else event_line s word fields)))

unfoldable pub line_of : Script → Fields → Option Script
line_of s fields = do
  word ← field_at fields
  line_by s word.0 word.1

-- one line after those read so far, or none where no rule reads it
unfoldable pub read_line : Script → List ℕ → Option Script
read_line s line =
    if list_all is_ascii line
    then
    (if length line == 0 || slice_index line 0 == 35 then Some s
    else line_of s (fields_of line))
    else None
