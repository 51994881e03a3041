-- Batches whose keys are read before they are written.
use Rattle.std.specs.Prelude.{List, [], ◌∷◌, ◌++◌, Option, Some, None}
use Rattle.std.specs.declared.cmp.Ordering.{Ordering}
use Rattle.std.specs.BTreeMap.{insert_entry}
use Rattle.stateful_db_any.specs.declared.slot.Slot.{Slot}
use Rattle.stateful_db_any.specs.declared.slot.Slot.TheVariants.{Put, Delete, Keep}
use Rattle.stateful_db_any.specs.Shown.{Draft}

-- a batch, and the keys that were read for it, in order
pub record Staging (K V : Type 0) : Type 0 where
  pub batch : Draft K V
  pub keys : List K

module _ {K V : Type 0} where
  -- the writes of staged keys, by the slot of each
  abbrev pub slot_writes : List K → List (Slot V) → List (K × Option V)
  slot_writes keys [] = []
  slot_writes [] (slot ∷ slots) = []
  slot_writes (key ∷ keys) (Put value ∷ slots) = (key, Some value) ∷ slot_writes keys slots
  slot_writes (key ∷ keys) (Delete ∷ slots) = (key, None) ∷ slot_writes keys slots
  slot_writes (key ∷ keys) (Keep ∷ slots) = slot_writes keys slots

  module _ (cmp : K → K → Ordering) where
    -- a batch with one write more
    abbrev pub with_write : Draft K V → K × Option V → Draft K V
    with_write u write =
        record u {
          changes =
              record u.changes { writes = insert_entry cmp u.changes.writes write.0 write.1 };
        }

    -- with these writes, one after another
    abbrev pub with_writes : Draft K V → List (K × Option V) → Draft K V
    with_writes u [] = u
    with_writes u (write ∷ writes) = with_writes (with_write u write) writes

    -- with the writes of staged keys, by the slot of each, and then with the other ones
    abbrev pub filled : Staging K V → List (Slot V) → List (K × Option V) → Draft K V
    filled s slots unstaged = with_writes s.batch (slot_writes s.keys slots ++ unstaged)
