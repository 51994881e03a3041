-- What sealed batches on a database say of keys and locations, the newest first.
use Rattle.std.specs.Prelude.{◌≡◌, ℕ, ◌-◌, nat_lt, if◌then◌else◌, List, [], ◌∷◌, Option, option_map}
use Rattle.std.specs.Prelude.{slice_get}
use Rattle.std.specs.Option.{unwrap_or}
use Rattle.std.specs.declared.cmp.Ordering.{Ordering}
use Rattle.std.specs.Map.{lookup}
use Rattle.std.specs.BTreeMap.{is_at}
use Rattle.stateful_base.specs.declared.target.Target.{Target}
use Rattle.stateful_db_any.specs.declared.op.AnyOp.{AnyOp}
use Rattle.stateful_db_any.specs.Live.{last_write}

-- Operations from a location on. The index has each key that they write, with the location of its
-- last write, or with none where that is a delete.
pub record Written (K V : Type 0) : Type 0 where
  pub from : ℕ
  pub ops : List (AnyOp K V)
  pub index : List (K × Option ℕ)

-- what a sealed batch changes: its operations, and the root and the range behind them
pub record Change (K V : Type 0) : Type 0 where
  pub written : Written K V
  pub target : Target

module _ {K V : Type 0} where
  -- the operation at a location: one of these, or one below them
  abbrev pub op_over : Written K V → ℕ → Option (AnyOp K V) → Option (AnyOp K V)
  op_over w at below = if nat_lt at w.from then below else slice_get w.ops (at - w.from)

  abbrev pub op_through : List (ℕ × Change K V) → ℕ → Option (AnyOp K V) → Option (AnyOp K V)
  op_through [] at below = below
  op_through (l ∷ ls) at below = op_over l.1.written at (op_through ls at below)

  module _ (cmp : K → K → Ordering) where
    -- the location of the last write of a key that is live: as these operations left it, or as it
    -- was below them
    abbrev pub place_over : Written K V → K → Option ℕ → Option ℕ
    place_over w key below = unwrap_or (lookup (is_at (cmp key)) w.index) below

    abbrev pub place_through : List (ℕ × Change K V) → K → Option ℕ → Option ℕ
    place_through [] key below = below
    place_through (l ∷ ls) key below = place_over l.1.written key (place_through ls key below)

    -- the index says of each key what the operations make of it
    abbrev pub IsIndexed : Written K V → Type 0
    IsIndexed w =
        (key : K) (before : Option (ℕ × V))
        → option_map (λ x. x.0) (last_write cmp key w.from w.ops before)
        ≡ place_over w key (option_map (λ x. x.0) before)
