-- The entries of a whole state as an operation, in bytes.
use Rattle.std.specs.Prelude.{◌≡◌, ℕ, ◌+◌, ◌^◌, ◌<◌, ◌≤◌, List, [], ◌∷◌, ◌++◌, length}
use Rattle.stateful_base.specs.Format.{Format}
use Rattle.stateful_base.specs.Number.{u32_format}
use Rattle.stateful_base.specs.declared.digest.Digest.{Digest}
use Rattle.stateful_db_plain.specs.Whole.{entry_bytes, root_of}

-- the keys ascend from this one on, and keys and values have 64 bits
abbrev pub AscendFrom : ℕ → List (ℕ × ℕ) → Type 0
AscendFrom least [] = Unit {0}
AscendFrom least (e ∷ es) =
    (least ≤ e.0) × ((e.0 < 2 ^ 64) × ((e.1 < 2 ^ 64) × AscendFrom (e.0 + 1) es))

-- so many entries, whose keys ascend from this one on
abbrev pub entries_format : ℕ → ℕ → Format (List (ℕ × ℕ))
entries_format count least = record {
  fits = λ es. (length es ≡ count) × AscendFrom least es;
  spelling = entry_bytes;
}

-- how many entries there are, and then key and value of each, by ascending key
abbrev pub op_format : Format (List (ℕ × ℕ))
op_format = record {
  fits = λ es. u32_format.fits (length es) × AscendFrom 0 es;
  spelling = λ es. u32_format.spelling (length es) ++ entry_bytes es;
}

-- the root of the state of these entries, whose range has this location last, whatever stands before
abbrev pub op_linked : ℕ → Digest → List (ℕ × ℕ) → Digest
op_linked at before es = root_of (record { size = at + 1; entries = es })
