-- The open barriers, the oldest first.
use Rattle.std.specs.Prelude.{ℕ, ◌==◌, ◌&&◌, Bool, true, false, if◌then◌else◌, Option, Some, None}
use Rattle.std.specs.Prelude.{is_some, List, [], ◌∷◌, filter}
use Rattle.std.specs.List.{list_any, list_all}
use Rattle.stateful_base.specs.declared.number.Height.{Height}
use Rattle.stateful_db.specs.Barrier.{open_at, answered}
use Rattle.stateful_db.specs.declared.barrier.Flushed.{Flushed}
use Rattle.stateful_db.specs.declared.barrier.Flushed.TheVariants.{Good, Interrupted}
use Rattle.stateful_loop_model.specs.declared.barriers.Active.{Active}

-- the oldest and the newer one, where they are open
abbrev pub both : Option Active → Option Active → List Active
both None newer = []
both (Some oldest) None = oldest ∷ []
both (Some oldest) (Some newer) = oldest ∷ newer ∷ []

abbrev pub first_of : {T : Type 0} → List T → Option T
first_of [] = None
first_of (x ∷ xs) = Some x

abbrev pub is_interrupted : Option Flushed → Bool
is_interrupted (Some Interrupted) = true
is_interrupted answer = false

abbrev pub is_good : Option Flushed → Bool
is_good (Some Good) = true
is_good answer = false

-- a flush of it was interrupted
abbrev pub is_broken : Active → Bool
is_broken active = list_any (λ handle. is_interrupted handle.answer) active.barrier

-- every flush of it was good
abbrev pub is_flushed : Active → Bool
is_flushed active = list_all (λ handle. is_good handle.answer) active.barrier

-- it has this number, and awaits the answer of this database
abbrev pub awaits : ℕ → ℕ → Active → Bool
awaits k i active = (active.number == k) && is_some (open_at active.barrier i)

abbrev pub numbered : Active → ℕ × Height
numbered active = (active.number, active.height)

-- the oldest of which a flush was interrupted
abbrev pub broken : List Active → Option Active
broken barriers = first_of (filter is_broken barriers)

-- the oldest of all, where every flush of it was good
abbrev pub flushed : List Active → Option Active
flushed [] = None
flushed (active ∷ barriers) = if is_flushed active then Some active else None

-- the one of this number, where it awaits the answer of this database
abbrev pub awaiting : ℕ → ℕ → List Active → Option Active
awaiting k i barriers = first_of (filter (awaits k i) barriers)

-- with this answer of a database
abbrev pub answered_by : ℕ → Flushed → Active → Active
answered_by i answer active = record active { barrier = answered active.barrier i answer }

-- the one of this number takes in the answer of a database that it awaits
abbrev pub with_answer : ℕ → ℕ → Flushed → List Active → List Active
with_answer k i answer [] = []
with_answer k i answer (active ∷ barriers) =
    if awaits k i active then answered_by i answer active ∷ barriers
    else active ∷ with_answer k i answer barriers
