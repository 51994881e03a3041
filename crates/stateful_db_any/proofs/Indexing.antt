-- indexes of operations, as they grow
use Rattle.std.proofs.Common.{◌≡◌, ℕ, zero, suc, ◌+◌, ◌-◌, ◌≤◌, true, false, cond, List, [], ◌∷◌, ◌++◌, length, drop, Option, Some, None, refl, sym, ap, ◌∙◌, arith, slice_get}
use Rattle.std.specs.Bool.{if◌then◌else◌}
use Rattle.std.specs.Map.{lookup}
use Rattle.std.specs.Option.{option_map, unwrap_or}
use Rattle.std.specs.declared.cmp.Ordering.{Ordering}
use Rattle.std.specs.BTreeMap.{is_at}
use Rattle.stateful_db_any.specs.declared.op.AnyOp.{AnyOp}
use Rattle.stateful_db_any.specs.declared.op.AnyOp.TheVariants.{Commit, Update, Delete}
use Rattle.stateful_db_any.specs.Live.{written, last_write}
use Rattle.stateful_db_any.specs.Through.{IsIndexed}
use Rattle.stateful_db_any.proofs.Writes.{last_write-append}

pub drop-some : {X : Type 0} (xs : List X) (i : ℕ) (x : X) → slice_get xs i ≡ Some x → drop i xs ≡ x ∷ drop (suc i) xs
drop-some [] i x h = cc
drop-some (y ∷ xs) zero x h = let same : y ≡ x = cc in ap (λ z. z ∷ xs) same
drop-some (y ∷ xs) (suc i) x h = drop-some xs i x h

pub drop-none : {X : Type 0} (xs : List X) (i : ℕ) → slice_get xs i ≡ None → drop i xs ≡ []
drop-none [] zero h = refl
drop-none [] (suc i) h = refl
drop-none (y ∷ xs) zero h = cc
drop-none (y ∷ xs) (suc i) h = drop-none xs i h

module _ {K V : Type 0} (cmp : K → K → Ordering) where
  -- what an operation at a location makes of an entry of the index
  abbrev pub noted : K → ℕ → AnyOp K V → Option (Option ℕ) → Option (Option ℕ)
  noted key at (Commit metadata) old = old
  noted key at (Update other value) old = cond (is_at (cmp other) key) (Some (Some at)) old
  noted key at (Delete other) old = cond (is_at (cmp other) key) (Some None) old

  -- with one operation more
  pub indexed_more : (from : ℕ) (ops : List (AnyOp K V)) (index later : List (K × Option ℕ)) (op : AnyOp K V)
      → IsIndexed cmp (record { from = from; ops = ops; index = index })
      → ((key : K) → lookup (is_at (cmp key)) later ≡ noted key (from + length ops) op (lookup (is_at (cmp key)) index))
      → IsIndexed cmp (record { from = from; ops = ops ++ op ∷ []; index = later })
  indexed_more from ops index later op indexed new = λ key before.
      let joined = ap (λ o. option_map (λ (x : ℕ × V). x.0) o) (last_write-append cmp key from ops (op ∷ []) before) in
      joined
      ∙ one key op (last_write cmp key from ops before) (lookup (is_at (cmp key)) index) (option_map (λ x. x.0) before) (indexed key before)
      ∙ sym (ap (λ o. unwrap_or o (option_map (λ (x : ℕ × V). x.0) before)) (new key))
    where
      one : (key : K) (op : AnyOp K V) (now : Option (ℕ × V)) (entry : Option (Option ℕ)) (below : Option ℕ) → option_map (λ (x : ℕ × V). x.0) now ≡ unwrap_or entry below
          → option_map (λ (x : ℕ × V). x.0) (written cmp key (from + length ops) op now) ≡ unwrap_or (noted key (from + length ops) op entry) below
      one key (Commit metadata) now entry below same = same
      one key (Update k v) now entry below same = elim (is_at (cmp k) key) as (λ b. option_map (λ (x : ℕ × V). x.0) (if b then Some (from + length ops, v) else now) ≡ unwrap_or (cond b (Some (Some (from + length ops))) entry) below) [
        | true ↦ refl
        | false ↦ same
      ]
      one key (Delete k) now entry below same = elim (is_at (cmp k) key) as (λ b. option_map (λ (x : ℕ × V). x.0) (if b then None else now) ≡ unwrap_or (cond b (Some None) entry) below) [
        | true ↦ refl
        | false ↦ same
      ]

  -- a step along operations
  pub next_write : (key : K) (from i : ℕ) (ops : List (AnyOp K V)) (op : AnyOp K V) (now before : Option (ℕ × V)) → slice_get ops i ≡ Some op
      → last_write cmp key (from + i) (drop i ops) now ≡ last_write cmp key from ops before
      → last_write cmp key (from + (i + 1)) (drop (i + 1) ops) (written cmp key (from + i) op now) ≡ last_write cmp key from ops before
  next_write key from i ops op now before is same =
      let later : i + 1 ≡ suc i = omega arith in
      let at : from + (i + 1) ≡ from + i + 1 = omega arith in
      ap (λ n. last_write cmp key n (drop (i + 1) ops) (written cmp key (from + i) op now)) at
      ∙ ap (λ n. last_write cmp key (from + i + 1) (drop n ops) (written cmp key (from + i) op now)) later
      ∙ sym (ap (λ xs. last_write cmp key (from + i) xs now) (drop-some ops i op is))
      ∙ same

  -- behind the last
  pub end_write : (key : K) (at n : ℕ) (ops : List (AnyOp K V)) (now : Option (ℕ × V)) → length ops ≤ n → last_write cmp key at (drop n ops) now ≡ now
  end_write key at n ops now h = ap (λ xs. last_write cmp key at xs now) (drop-all n ops h)
    where
      drop-all : (n : ℕ) (xs : List (AnyOp K V)) → length xs ≤ n → drop n xs ≡ []
      drop-all zero [] h = refl
      drop-all zero (x ∷ xs) h = absurd (omega arith)
      drop-all (suc n) [] h = refl
      drop-all (suc n) (x ∷ xs) h = drop-all n xs (omega arith)

  -- a step along operations that begin at a location
  pub index_step : (key : K) (at start : ℕ) (ops : List (AnyOp K V)) (op : AnyOp K V) (now result : Option (ℕ × V)) → start ≤ at → slice_get ops (at - start) ≡ Some op
      → last_write cmp key at (drop (at - start) ops) now ≡ result → last_write cmp key (at + 1) (drop (at + 1 - start) ops) (written cmp key at op now) ≡ result
  index_step key at start ops op now result low is same =
      let later : at + 1 - start ≡ suc (at - start) = omega arith in
      ap (λ n. last_write cmp key (at + 1) (drop n ops) (written cmp key at op now)) later
      ∙ sym (ap (λ xs. last_write cmp key at xs now) (drop-some ops (at - start) op is))
      ∙ same

  -- behind the last one
  pub index_past : (key : K) (at start : ℕ) (ops : List (AnyOp K V)) (now result : Option (ℕ × V)) → start ≤ at → slice_get ops (at - start) ≡ None
      → last_write cmp key at (drop (at - start) ops) now ≡ result → last_write cmp key (at + 1) (drop (at + 1 - start) ops) now ≡ result
  index_past key at start ops now result low none same =
      let later : at + 1 - start ≡ suc (at - start) = omega arith in
      ap (λ n. last_write cmp key (at + 1) (drop n ops) now) later
      ∙ ap (λ xs. last_write cmp key (at + 1) xs now) (past (at - start) ops none)
      ∙ sym (ap (λ xs. last_write cmp key at xs now) (drop-none ops (at - start) none))
      ∙ same
    where
      past : (n : ℕ) (xs : List (AnyOp K V)) → slice_get xs n ≡ None → drop (suc n) xs ≡ []
      past zero [] h = refl
      past zero (x ∷ xs) h = cc
      past (suc n) [] h = refl
      past (suc n) (x ∷ xs) h = past n xs h
