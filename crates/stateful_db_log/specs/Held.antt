-- The operations that a log holds, and the digest before them.
use Rattle.std.specs.Prelude.{ℕ, ◌+◌, ◌-◌, List, ◌++◌, length, take, drop}
use Rattle.stateful_base.specs.declared.digest.Digest.{Digest}
use Rattle.stateful_db_log.specs.Linking.{behind}

-- the operations that are held, from a location on, with the digest before them
pub record Held (Op : Type 0) : Type 0 where
  pub first : ℕ
  pub before : Digest
  pub ops : List Op

module _ {Op : Type 0} where
  -- the location behind them
  abbrev pub end_of : Held Op → ℕ
  end_of h = h.first + length h.ops

  -- without the operations from a location on
  abbrev pub until : Held Op → ℕ → Held Op
  until h end = record h { ops = take (end - h.first) h.ops }

  -- with more operations behind them
  abbrev pub further : Held Op → List Op → Held Op
  further h more = record h { ops = h.ops ++ more }

module _ {Op : Type 0} (link : ℕ → Digest → Op → Digest) where
  -- the digest before the operation at a location
  abbrev pub digest_at : Held Op → ℕ → Digest
  digest_at h at = behind link h.first h.before (take (at - h.first) h.ops)

  -- without the operations before a location
  abbrev pub from : Held Op → ℕ → Held Op
  from h start = record {
    first = start;
    before = digest_at h start;
    ops = drop (start - h.first) h.ops;
  }
