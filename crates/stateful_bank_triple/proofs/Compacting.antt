-- What batches of a compact database hold.
use Rattle.std.proofs.Common.{◌≡◌, ℕ, ◌+◌, List, [], ◌∷◌, ◌++◌, length, map, Some, refl, sym, ap, ◌∙◌, arith}
use Rattle.stateful_base.specs.Number.{u64_format}
use Rattle.stateful_bank.specs.declared.op.Op.{Op}
use Rattle.stateful_bank.specs.Op.{amount_of}
use Rattle.stateful_db_compact.specs.Ops.{Changes}
use Rattle.stateful_db_compact.specs.Compacted.{State, size_of, sealed}
use Rattle.stateful_db_compact.specs.CompactShown.{Holds, DraftShows}
use Rattle.stateful_db_compact.specs.declared.compact.batch.KeylessUnjournaledUnmerkleized.{KeylessUnjournaledUnmerkleized}
use Rattle.stateful_bank_logs.proofs.Appending.{none_of}
use Rattle.stateful_bank_triple.specs.Compact.{HoldsNothing}

module _ (u : KeylessUnjournaledUnmerkleized ℕ) (i : ℕ) (p : ℕ × State ℕ) (c : List (ℕ × State ℕ)) (holds : HoldsNothing u i p c) where
  -- what it changes
  pub changes : Changes ℕ
  changes = holds.1.1.1.0

  pub held : Holds u64_format.spelling u changes p.1
  unfolding changes
  held = holds.1.1.1.1.0

  -- a batch without changes has no value
  without : changes.values ≡ []
  unfolding changes
  without =
      let ends : size_of p.1 + 0 + 1 ≡ size_of p.1 + length holds.1.1.1.0.values + 1 = ap (λ (s : State ℕ). size_of s) holds.1.1.1.1.1 in
      none_of holds.1.1.1.0.values (omega arith)

  -- with the amounts, a floor and the height it shows the state after these
  pub completed : (v : KeylessUnjournaledUnmerkleized ℕ) (ops : List Op) (floor height : ℕ) → v.id ≡ u.id → v.below ≡ u.below → Holds u64_format.spelling v (record { values = changes.values ++ map amount_of ops; metadata = Some height; floor = floor }) p.1 → DraftShows u64_format.spelling v ((i, sealed u64_format.spelling (record { values = map amount_of ops; metadata = Some height; floor = floor }) p.1) ∷ p ∷ c)
  completed v ops floor height same_id same_below now =
      let empty : changes.values ++ map amount_of ops ≡ map amount_of ops = ap (λ (values : List ℕ). values ++ map amount_of ops) without in
      let with_amounts : Holds u64_format.spelling v (record { values = map amount_of ops; metadata = Some height; floor = floor }) p.1 = rw empty at now in
      (holds.0 ∙ sym same_id, (holds.1.0, (rw same_below holds.1.1.0, (record { values = map amount_of ops; metadata = Some height; floor = floor }, (with_amounts, refl)))))
