-- What batches of balances hold.
use Rattle.std.proofs.Common.{◌≡◌, ℕ, ◌+◌, List, [], ◌∷◌, ◌++◌, length, Option, unwrap_or, refl, sym, ap, arith, length-append}
use Rattle.std.specs.Ordering.{nat_cmp}
use Rattle.std.specs.List.Sorted.{IsStrictlySortedBy}
use Rattle.std.specs.BTreeMap.{insert_entry, is_at}
use Rattle.std.specs.Map.{lookup}
use Rattle.std.proofs.lemmas.Cmp.{nat_cmp_total}
use Rattle.stateful_base.specs.Number.{u64_format}
use Rattle.stateful_db_any.specs.declared.op.AnyOp.{AnyOp}
use Rattle.stateful_db_any.specs.declared.op.AnyOp.TheVariants.{Commit}
use Rattle.stateful_db_any.specs.Any.{State, size_of, value_at, ops_for, after, sealed, begun}
use Rattle.stateful_db_any.specs.Shown.{Draft, DraftShows}
use Rattle.stateful_db_any.proofs.Values.{sealed_value}
use Rattle.stateful_bank_logs.specs.Balances.{Writes, live_on, HoldsWrites}
use Rattle.stateful_bank_logs.proofs.Writing.{ops_for-same, in_order-insert, in_order-none, sorted-insert}

none_of : (ops : List (AnyOp ℕ ℕ)) → length ops ≡ 0 → ops ≡ []
none_of [] e = refl
none_of (op ∷ ops) e = absurd (omega arith)

module _ (u : Draft ℕ ℕ) (i : ℕ) (p : ℕ × State ℕ ℕ) (c : List (ℕ × State ℕ ℕ)) where
  -- a batch without changes holds no writes
  pub holds_none : DraftShows nat_cmp u64_format.spelling u64_format.spelling u ((i, begun nat_cmp u64_format.spelling u64_format.spelling p.1) ∷ p ∷ c) → HoldsWrites u [] i p c
  unfolding IsStrictlySortedBy
  holds_none shown =
      let ops = ops_for (live_on p.1) u.changes.writes in
      let ends : size_of p.1 + 1 ≡ size_of p.1 + length (ops ++ Commit u.changes.metadata ∷ []) = ap (λ (s : State ℕ ℕ). size_of s) shown.1.1.1.1 in
      let both = length-append ops (Commit u.changes.metadata ∷ []) in
      let none : ops ≡ [] = none_of ops (omega arith) in
      record {
        id_is = shown.0;
        older = shown.1.0;
        stands = shown.1.1.0;
        parent = shown.1.1.1.0;
        same = none;
        ordered = in_order-none (live_on p.1) u.changes.writes none;
        writes_ordered = tt;
        sorted = tt;
      }

  module _ (writes : Writes) (holds : HoldsWrites u writes i p c) where
    -- one write more
    pub holds_more : (key : ℕ) (value : Option ℕ) → HoldsWrites (record u { changes = record u.changes { writes = insert_entry nat_cmp u.changes.writes key value } }) (insert_entry nat_cmp writes key value) i p c
    holds_more key value = record {
      id_is = holds.id_is;
      older = holds.older;
      stands = holds.stands;
      parent = holds.parent;
      same = ops_for-same (live_on p.1) key value u.changes.writes writes holds.ordered holds.writes_ordered holds.same;
      ordered = in_order-insert (live_on p.1) key value u.changes.writes holds.ordered;
      writes_ordered = in_order-insert (live_on p.1) key value writes holds.writes_ordered;
      sorted = sorted-insert key value writes holds.sorted;
    }

    -- the state of its seal
    pub shows_after : (metadata : Option ℕ) → DraftShows nat_cmp u64_format.spelling u64_format.spelling (record u { changes = record u.changes { metadata = metadata } }) ((i, sealed nat_cmp u64_format.spelling u64_format.spelling (record { writes = writes; metadata = metadata }) p.1) ∷ p ∷ c)
    shows_after metadata =
        let same : sealed nat_cmp u64_format.spelling u64_format.spelling (record { writes = writes; metadata = metadata }) p.1 ≡ sealed nat_cmp u64_format.spelling u64_format.spelling (record { writes = u.changes.writes; metadata = metadata }) p.1 =
        ap (λ (ops : List (AnyOp ℕ ℕ)). after nat_cmp u64_format.spelling u64_format.spelling p.1 (ops ++ Commit metadata ∷ [])) (sym holds.same) in
        (holds.id_is, (holds.older, (holds.stands, (holds.parent, same))))

    -- the values there
    pub value_after : (key : ℕ) → value_at nat_cmp (sealed nat_cmp u64_format.spelling u64_format.spelling (record { writes = writes; metadata = u.changes.metadata }) p.1) key ≡ unwrap_or (lookup (is_at (nat_cmp key)) writes) (value_at nat_cmp p.1 key)
    value_after key = sealed_value nat_cmp_total u64_format.spelling u64_format.spelling (record { writes = writes; metadata = u.changes.metadata }) p.1 key holds.sorted
