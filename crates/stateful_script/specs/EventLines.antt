-- The lines of a script that stand for events, by their forms.
--
--     verify NAME                       a request to verify the block, which brings its parent
--     verify NAME alone                 without its parent
--     finalize NAME                     the block is final
--     subscribe
--     cancel TICKET
--     fetched FETCH NAME                the fetch is answered with the block
--     fetched FETCH none                or with none
--     turn JOB
--     flushed BARRIER DATABASE          the database has flushed
--     flushed BARRIER DATABASE stopped  or was stopped before it had
--     stop
--     restart HEIGHT KEEP ..            with one number for each database
--     restart none KEEP ..
use Rattle.std.specs.Prelude.{ℕ, List, [], ◌∷◌, ◌++◌, Option, Some, None, option_map, zero, suc}
use Rattle.std.specs.Prelude.{if◌then◌else◌, codes}
use Rattle.std.specs.Str.{bytes_eq}
use Rattle.stateful_base.specs.declared.number.Height.{Height}
use Rattle.stateful_script.specs.Fields.{Fields, field_as, number, number_at, last_word, ◌>>=◌}
use Rattle.stateful_script.specs.Named.{place, block_at, databases_in}
use Rattle.stateful_script.specs.declared.script.PlannedEvent.{PlannedEvent}
use Rattle.stateful_script.specs.declared.script.PlannedEvent.TheVariants as event
use Rattle.stateful_script.specs.declared.script.Script.{Script}

-- each form after its first word, with the fields behind it

unfoldable pub verify_of : Script → Fields → Option (PlannedEvent × Fields)
verify_of s fields = do
  block ← block_at s fields
  alone ← last_word (codes "alone") block.1
  Some (event.Verify block.0 alone.0, alone.1)

unfoldable pub finalize_of : Script → Fields → Option (PlannedEvent × Fields)
finalize_of s fields = do
  block ← block_at s fields
  Some (event.Finalize block.0, block.1)

unfoldable pub cancel_of : Fields → Option (PlannedEvent × Fields)
cancel_of fields = do
  ticket ← number_at fields
  Some (event.Cancel ticket.0, ticket.1)

-- a name that was given, or `none`
unfoldable pub answer : Script → List ℕ → Option (Option ℕ)
answer s field =
    if bytes_eq field (codes "none") then Some None else option_map (λ p. Some p) (place s field)

unfoldable pub fetched_of : Script → Fields → Option (PlannedEvent × Fields)
fetched_of s fields = do
  fetch ← number_at fields
  given ← field_as (answer s) fetch.1
  Some (event.Fetched fetch.0 given.0, given.1)

unfoldable pub turn_of : Fields → Option (PlannedEvent × Fields)
turn_of fields = do
  job ← number_at fields
  Some (event.Turn job.0, job.1)

unfoldable pub flushed_of : Fields → Option (PlannedEvent × Fields)
flushed_of fields = do
  barrier ← number_at fields
  database ← number_at barrier.1
  stopped ← last_word (codes "stopped") database.1
  Some (event.Flushed barrier.0 database.0 stopped.0, stopped.1)

-- a height, or `none`
unfoldable pub processed : List ℕ → Option (Option Height)
processed field =
    if bytes_eq field (codes "none") then Some None
    else option_map (λ n. Some (record { 0 = n })) (number field)

-- so many numbers
unfoldable pub numbers_at : ℕ → Fields → Option (List ℕ × Fields)
numbers_at zero fields = Some ([], fields)
numbers_at (suc n) fields = do
  before ← numbers_at n fields
  last ← number_at before.1
  Some (before.0 ++ last.0 ∷ [], last.1)

unfoldable pub restart_of : Script → Fields → Option (PlannedEvent × Fields)
restart_of s fields = do
  height ← field_as processed fields
  keep ← numbers_at (databases_in s.world) height.1
  Some (event.Restart height.0 keep.0, keep.1)

-- an event by the first word of its line
unfoldable pub event_by : Script → List ℕ → Fields → Option (PlannedEvent × Fields)
event_by s word fields =
    if bytes_eq word (codes "verify") then verify_of s fields
    else (if bytes_eq word (codes "finalize") then finalize_of s fields
    else (if bytes_eq word (codes "subscribe") then Some (event.Subscribe, fields)
    else (if bytes_eq word (codes "cancel") then cancel_of fields
    else (if bytes_eq word (codes "fetched") then fetched_of s fields
    else (if bytes_eq word (codes "turn") then turn_of fields
    else (if bytes_eq word (codes "flushed") then flushed_of fields
    else (if bytes_eq word (codes "stop") then Some (event.Stop, fields)
    else (if bytes_eq word (codes "restart") then restart_of s fields
    else None))))))))
