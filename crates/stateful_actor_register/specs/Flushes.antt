-- The databases that barriers wait for.
use Rattle.std.specs.Prelude.{◌≡◌, ℕ, Bool, false, Option, Some, None, List, slice_index_or}
use Rattle.std.specs.List.{fold}
use Rattle.std.specs.Ordering.{nat_cmp}
use Rattle.std.specs.BTreeMap.{get}
use Rattle.std.specs.Global.{Vec}
use Rattle.stateful_actor_register.specs.Change.{flush_after}
use Rattle.stateful_actor_register.specs.declared.change.Change.{Change}
use Rattle.stateful_actor_register.specs.declared.flushes.Flushes.{Flushes}

-- this database of a barrier isn't flushed yet
abbrev pub waits_for : Option (Vec Bool) → ℕ → Bool
waits_for None i = false
waits_for (Some waiting) i = slice_index_or waiting.items i false

-- the barrier waits for the flush of this database
abbrev pub is_waiting : Flushes → ℕ → ℕ → Bool
is_waiting f k i = waits_for (get nat_cmp f.barriers k) i

-- the same databases are waited for
abbrev pub WaitsAlike : Flushes → Flushes → Type 0
WaitsAlike old new = (k i : ℕ) → is_waiting new k i ≡ is_waiting old k i

-- the databases that are waited for after these changes, one after another, where there are so many
-- of them
abbrev pub FlushesApply : ℕ → Flushes → Flushes → List Change → Type 0
FlushesApply count old new changes =
    (k i : ℕ)
    → is_waiting new k i
    ≡ fold (λ was change. flush_after count change k i was) (is_waiting old k i) changes
