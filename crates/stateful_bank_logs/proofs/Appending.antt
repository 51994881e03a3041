-- What batches of amounts hold.
use Rattle.std.proofs.Common.{◌≡◌, ℕ, zero, suc, ◌+◌, append_assoc, take, slice_get, List, [], ◌∷◌, ◌++◌, length, map, Some, refl, sym, ap, ◌∙◌, arith}
use Rattle.stateful_base.specs.Number.{u64_format}
use Rattle.stateful_bank.specs.declared.op.Op.{Op}
use Rattle.stateful_bank.specs.Op.{amount_of}
use Rattle.stateful_db_compact.specs.Ops.{Changes}
use Rattle.stateful_db_keyless.specs.Keyless.{State, size_of}
use Rattle.stateful_db_keyless.specs.KeylessShown.{Holds, DraftShows}
use Rattle.stateful_db_keyless.specs.declared.keyless.batch.KeylessUnmerkleized.{KeylessUnmerkleized}
use Rattle.stateful_bank_logs.specs.Amounts.{HoldsNothing, appended, amounts_after}

-- the amount of one operation more
one_amount : (ops : List Op) (k : ℕ) (op : Op) → slice_get ops k ≡ Some op → map amount_of (take k ops) ++ amount_of op ∷ [] ≡ map amount_of (take (k + 1) ops)
one_amount [] k op is = cc
one_amount (o ∷ ops) zero op is = let same : o ≡ op = cc in ap (λ (x : Op). amount_of x ∷ []) (sym same)
one_amount (o ∷ ops) (suc k) op is =
    let next : suc k + 1 ≡ suc (k + 1) = omega arith in
    ap (λ (xs : List ℕ). amount_of o ∷ xs) (one_amount ops k op is) ∙ sym (ap (λ n. map amount_of (take n (o ∷ ops))) next)

pub more_amounts : (values : List ℕ) (ops : List Op) (k : ℕ) (op : Op) (amount : ℕ) → slice_get ops k ≡ Some op → amount ≡ amount_of op → (values ++ map amount_of (take k ops)) ++ amount ∷ [] ≡ values ++ map amount_of (take (k + 1) ops)
more_amounts values ops k op amount there is =
    rw append_assoc (ap (λ (xs : List ℕ). values ++ xs) (ap (λ n. map amount_of (take k ops) ++ n ∷ []) is ∙ one_amount ops k op there))

-- a list of no values
pub none_of : (values : List ℕ) → length values ≡ 0 → values ≡ []
none_of [] e = refl
none_of (value ∷ values) e = absurd (omega arith)

module _ (u : KeylessUnmerkleized ℕ) (i : ℕ) (p : ℕ × State ℕ) (c : List (ℕ × State ℕ)) (holds : HoldsNothing u i p c) where
  -- what it changes
  pub changes : Changes ℕ
  changes = holds.1.1.1.0

  pub held : Holds u64_format.spelling u changes p.1
  unfolding changes
  held = holds.1.1.1.1.0

  -- a batch without changes has no value
  pub without : changes.values ≡ []
  unfolding changes
  without =
      let ends : size_of p.1 + 0 + 1 ≡ size_of p.1 + length holds.1.1.1.0.values + 1 = ap (λ (s : State ℕ). size_of s) holds.1.1.1.1.1 in
      none_of holds.1.1.1.0.values (omega arith)

  -- with the amounts, the floor and the height it shows the state behind the block
  pub completed : (v : KeylessUnmerkleized ℕ) (ops : List Op) (height : ℕ) → v.id ≡ u.id → v.below ≡ u.below → Holds u64_format.spelling v (record { values = changes.values ++ map amount_of ops; metadata = Some height; floor = size_of p.1 }) p.1 → DraftShows u64_format.spelling v ((i, amounts_after p.1 ops height) ∷ p ∷ c)
  completed v ops height same_id same_below now =
      let empty : changes.values ++ map amount_of ops ≡ map amount_of ops = ap (λ (values : List ℕ). values ++ map amount_of ops) without in
      let with_amounts : Holds u64_format.spelling v (appended p.1 ops height) p.1 = rw empty at now in
      (holds.0 ∙ sym same_id, (holds.1.0, (rw same_below holds.1.1.0, (appended p.1 ops height, (with_amounts, refl)))))
