-- which operations have to be kept, behind those of a batch
use Rattle.std.proofs.Common.{◌≡◌, ℕ, zero, suc, ◌+◌, ◌-◌, ◌≤◌, ◌<◌, ◌==◌, inl, inr, true, false, not, List, [], ◌∷◌, ◌++◌, length, take, drop, Option, Some, None, refl, sym, ap, ◌∙◌, arith, slice_get, length-take, length-drop}
use Rattle.std.specs.Bool.{if◌then◌else◌}
use Rattle.std.specs.List.{list_any}
use Rattle.std.specs.Map.{lookup}
use Rattle.std.specs.Option.{option_map, option_eq}
use Rattle.std.specs.declared.cmp.Ordering.{Ordering}
use Rattle.std.specs.Cmp.{IsTotalOrder}
use Rattle.std.specs.BTreeMap.{is_at}
use Rattle.std.proofs.lemmas.Bool.Decides.{nat_tests}
use Rattle.stateful_db.specs.CheckpointLaws.{slice_get-drop}
use Rattle.stateful_db_any.specs.declared.op.AnyOp.{AnyOp}
use Rattle.stateful_db_any.specs.declared.op.AnyOp.TheVariants.{Update}
use Rattle.stateful_db_any.specs.Live.{writes_key, last_write, is_last, passed}
use Rattle.stateful_db_any.specs.Any.{State, size_of, live_at}
use Rattle.stateful_db_any.specs.Through.{Written, Change, op_over, op_through, place_over, place_through, IsIndexed}
use Rattle.stateful_db_log.proofs.Slices.{cases}
use Rattle.stateful_db_any.proofs.Writes.{last_here, last_behind}
use Rattle.stateful_db_any.proofs.Reading.{Reads, place_more, op_more}

split : {X : Type 0} (i : ℕ) (xs : List X) → xs ≡ take i xs ++ drop i xs
split zero xs = refl
split (suc i) [] = refl
split (suc i) (x ∷ xs) = ap (λ ys. x ∷ ys) (split i xs)

pub first_is : {X : Type 0} (i : ℕ) (xs later : List X) (x : X) → drop i xs ≡ x ∷ later → slice_get xs i ≡ Some x
first_is i xs later x h =
    let same : i ≡ i + 0 = omega arith in
    ap (λ n. slice_get xs n) same ∙ sym (slice_get-drop i 0 xs) ∙ ap (λ ys. slice_get ys 0) h

module _ {K V : Type 0} {cmp : K → K → Ordering} (total : IsTotalOrder cmp) where
  -- an update is the last write of its key exactly where no later operation writes the key
  pub current : (key : K) (value : V) (start at : ℕ) (ops later : List (AnyOp K V)) (place : Option ℕ) → start ≤ at → drop (at - start) ops ≡ Update key value ∷ later
      → place ≡ option_map (λ x. x.0) (last_write cmp key start ops None) → option_eq (λ a b. a == b) place (Some at) ≡ not (list_any (writes_key cmp key) later)
  current key value start at ops later place low is there =
      let i = at - start in
      let front = take i ops in
      let whole : ops ≡ front ++ Update key value ∷ later = split i ops ∙ ap (λ xs. front ++ xs) is in
      let some : length (drop i ops) ≡ suc (length later) = ap length is in
      let count : length front ≡ i = omega (arith, length-take i ops, length-drop i ops, some) in
      let spot : start + length front ≡ at = omega (arith, count, low) in
      let found : place ≡ option_map (λ (x : ℕ × V). x.0) (last_write cmp key start (front ++ Update key value ∷ later) None) =
      there ∙ ap (λ xs. option_map (λ (x : ℕ × V). x.0) (last_write cmp key start xs None)) whole in
      elim (cases (list_any (writes_key cmp key) later)) [
        | inl some_later ↦ other place at (λ e. last_behind total key value start front later some_later (sym found ∙ e ∙ ap (λ n. Some n) (sym spot))) ∙ sym (ap not some_later)
        | inr none ↦ same place at (found ∙ last_here total key value start front later none ∙ ap (λ n. Some n) spot) ∙ sym (ap not none)
      ]
    where
      same : (o : Option ℕ) (n : ℕ) → o ≡ Some n → option_eq (λ a b. a == b) o (Some n) ≡ true
      same o n e = ap (λ x. option_eq (λ a b. a == b) x (Some n)) e ∙ itself n
        where
          itself : (n : ℕ) → (n == n) ≡ true
          itself n = grind (arith, nat_tests)

      other : (o : Option ℕ) (n : ℕ) → (o ≡ Some n → ⊥) → option_eq (λ a b. a == b) o (Some n) ≡ false
      other None n h = refl
      other (Some m) n h = elim (cases (m == n)) [
        | inl e ↦ let m_is : m ≡ n = grind (arith, nat_tests) in absurd (h (ap (λ k. Some k) m_is))
        | inr e ↦ e
      ]

module _ {K V : Type 0} {cmp : K → K → Ordering} (total : IsTotalOrder cmp) (spell_key : K → List ℕ) (spell_value : V → List ℕ) where
  -- the location of a key's last write, and the operation at a location, behind the operations of a batch
  pub place_flat : (ls : List (ℕ × Change K V)) (s t : State K V) (w : Written K V) (index : List (K × ℕ)) (key : K)
      → Reads total spell_key spell_value ls s t → w.from ≡ size_of t → IsIndexed cmp w → lookup (is_at (cmp key)) index ≡ option_map (λ x. x.0) (live_at cmp s key)
      → place_over cmp w key (place_through cmp ls key (lookup (is_at (cmp key)) index)) ≡ option_map (λ x. x.0) (last_write cmp key t.target.start.0 (t.kept ++ w.ops) None)
  place_flat ls s t w index key reads from indexed has =
      ap (λ below. place_over cmp w key below) (ap (λ below. place_through cmp ls key below) has ∙ reads.place key)
      ∙ sym (place_more total t w key reads.whole from indexed)

  pub op_flat : (ls : List (ℕ × Change K V)) (s t : State K V) (w : Written K V) (at : ℕ)
      → Reads total spell_key spell_value ls s t → w.from ≡ size_of t → t.target.start.0 ≤ at
      → op_over w at (op_through ls at (slice_get s.kept (at - s.target.start.0))) ≡ slice_get (t.kept ++ w.ops) (at - t.target.start.0)
  op_flat ls s t w at reads from low = ap (λ below. op_over w at below) (reads.op at low) ∙ op_more total t w at reads.whole from low

drop-tail : {X : Type 0} (i : ℕ) (xs later : List X) (x : X) → drop i xs ≡ x ∷ later → drop (suc i) xs ≡ later
drop-tail zero [] later x h = cc
drop-tail zero (y ∷ xs) later x h = cc
drop-tail (suc i) [] later x h = cc
drop-tail (suc i) (y ∷ xs) later x h = drop-tail i xs later x h

pub front_of : {X : Type 0} (i : ℕ) (xs : List X) → i < length xs → (x : X) × ((later : List X) × (drop i xs ≡ x ∷ later))
front_of i [] h = absurd (omega arith)
front_of zero (x ∷ xs) h = (x, (xs, refl))
front_of (suc i) (x ∷ xs) h = front_of i xs (omega arith)

module _ {K V : Type 0} (cmp : K → K → Ordering) where
  -- an operation that isn't the last write of a live key, and not the last of all, is passed
  pub walk_step : (i : ℕ) (ops later : List (AnyOp K V)) (op : AnyOp K V) → drop i ops ≡ op ∷ later → i + 1 < length ops → is_last cmp op later ≡ false → passed cmp (drop i ops) ≡ passed cmp (drop (i + 1) ops) + 1
  walk_step i ops later op is more dead =
      let at : i + 1 ≡ suc i = omega arith in
      let count : length later ≡ length ops - suc i = ap length (sym (drop-tail i ops later op is)) ∙ length-drop (suc i) ops in
      ap (passed cmp) is
      ∙ one op later dead (omega (arith, count))
      ∙ sym (ap (λ n. passed cmp (drop n ops) + 1) at ∙ ap (λ xs. passed cmp xs + 1) (drop-tail i ops later op is))
    where
      one : (op : AnyOp K V) (later : List (AnyOp K V)) → is_last cmp op later ≡ false → 0 < length later → passed cmp (op ∷ later) ≡ passed cmp later + 1
      one op [] dead some = absurd (omega arith)
      one op (next ∷ later) dead some = ap (λ b. if b then 0 else passed cmp (next ∷ later) + 1) dead

  -- the last write of a live key isn't passed
  pub walk_live : (i : ℕ) (ops later : List (AnyOp K V)) (op : AnyOp K V) → drop i ops ≡ op ∷ later → is_last cmp op later ≡ true → passed cmp (drop i ops) ≡ 0
  walk_live i ops later op is live = ap (passed cmp) is ∙ one op later live
    where
      one : (op : AnyOp K V) (later : List (AnyOp K V)) → is_last cmp op later ≡ true → passed cmp (op ∷ later) ≡ 0
      one op [] live = refl
      one op (next ∷ later) live = ap (λ b. if b then 0 else passed cmp (next ∷ later) + 1) live

  -- the last of all isn't passed
  pub walk_end : (i : ℕ) (ops : List (AnyOp K V)) → length ops ≤ suc i → passed cmp (drop i ops) ≡ 0
  walk_end zero [] short = refl
  walk_end zero (op ∷ []) short = refl
  walk_end zero (op ∷ next ∷ ops) short = absurd (omega arith)
  walk_end (suc i) [] short = refl
  walk_end (suc i) (op ∷ ops) short = walk_end i ops (omega arith)
