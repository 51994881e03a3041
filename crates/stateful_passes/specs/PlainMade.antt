-- The state that a sync of a plain database makes.
use Rattle.std.specs.Prelude.{ℕ, List, [], ◌∷◌}
use Rattle.stateful_db_pass.specs.Fetched.{Fetched}
use Rattle.stateful_db_plain.specs.Whole.{Whole}

-- the entries that the operation has, where one is there
abbrev pub entries_in : List (List (ℕ × ℕ)) → List (ℕ × ℕ)
entries_in [] = []
entries_in (entries ∷ ops) = entries

-- the state of these entries, whose range ends at the target's end
abbrev pub made : Fetched (List (ℕ × ℕ)) → Whole
made p = record { size = p.target.end.0; entries = entries_in p.ops }
