-- the value at a key, by the location of its last write
use Rattle.std.proofs.Common.{◌≡◌, ℕ, zero, suc, ◌+◌, ◌-◌, ◌≤◌, ◌<◌, ◌⊎◌, inl, inr, Bool, true, false, cond, ◌||◌, List, [], ◌∷◌, ◌++◌, length, Option, Some, None, is_some, refl, sym, ap, ◌∙◌, arith, slice_get}
use Rattle.std.specs.Bool.{if◌then◌else◌}
use Rattle.std.specs.List.{list_any, IsDistinct}
use Rattle.std.specs.List.Sorted.{IsStrictlySortedBy}
use Rattle.std.specs.Map.{lookup, keys_of}
use Rattle.std.specs.Option.{option_map, unwrap_or}
use Rattle.std.specs.declared.cmp.Ordering.{Ordering}
use Rattle.std.specs.Ordering.{eq_by_cmp}
use Rattle.std.specs.Cmp.{IsTotalOrder, Equal-is}
use Rattle.std.proofs.lemmas.Cmp.{tied_back, eq_by_cmp_equiv}
use Rattle.std.proofs.lemmas.Map.{lookup-none}
use Rattle.std.proofs.lemmas.Map.Entries.{none_past_head}
use Rattle.std.proofs.lemmas.Map.Keys.{IsDistinct-from_sorted}
use Rattle.std.specs.BTreeMap.{is_at}
use Rattle.stateful_db_any.specs.declared.op.AnyOp.{AnyOp}
use Rattle.stateful_db_any.specs.declared.op.AnyOp.TheVariants.{Commit, Update, Delete}
use Rattle.stateful_db_any.specs.Ops.{Changes}
use Rattle.stateful_db_any.specs.Live.{writes_key, last_write}
use Rattle.stateful_db_any.specs.Any.{State, live_at, value_at, metadata_of, ops_for, ops_of, sealed}
use Rattle.stateful_db_log.proofs.Slices.{cases}
use Rattle.stateful_db_any.proofs.Writes.{last_write-at, last_write-none, last_write-append, same_key}
use Rattle.stateful_db_any.proofs.Reading.{live_after}

module _ {K V : Type 0} (cmp : K → K → Ordering) where
  -- a key without a last write has no value
  pub value_none : (t : State K V) (key : K) → None ≡ option_map (λ x. x.0) (live_at cmp t key) → None ≡ value_at cmp t key
  value_none t key none = go (live_at cmp t key) none
    where
      go : (o : Option (ℕ × V)) → None ≡ option_map (λ (x : ℕ × V). x.0) o → None ≡ option_map (λ (x : ℕ × V). x.1) o
      go None e = refl
      go (Some w) e = cc

  -- the operation at the location of the last write has the value, and the location is in the range
  pub record IsThere (t : State K V) (key : K) (place : ℕ) : Type 0 where
    pub low : t.target.start.0 ≤ place
    pub other : K
    pub value : V
    pub op : slice_get t.kept (place - t.target.start.0) ≡ Some (Update other value)
    pub is : value_at cmp t key ≡ Some value

  pub value_some : (t : State K V) (key : K) (place : ℕ) → Some place ≡ option_map (λ x. x.0) (live_at cmp t key) → IsThere t key place
  value_some t key place there = go (live_at cmp t key) refl there
    where
      go : (o : Option (ℕ × V)) → live_at cmp t key ≡ o → Some place ≡ option_map (λ (x : ℕ × V). x.0) o → IsThere t key place
      go None e h = cc
      go (Some w) e h =
          let same : w.0 ≡ place = ap (λ o. unwrap_or o place) (sym h) in
          elim (last_write-at cmp key t.target.start.0 t.kept None w.0 w.1 e) [
            | inl never ↦ cc
            | inr (le, (k, is)) ↦ record {
              low = omega arith;
              other = k;
              value = w.1;
              op = ap (λ n. slice_get t.kept (n - t.target.start.0)) (sym same) ∙ is;
              is = ap (λ o. option_map (λ (x : ℕ × V). x.1) o) e;
            }
          ]

module _ {K V : Type 0} where
  -- the metadata of an operation
  abbrev pub metadata_in : Option (AnyOp K V) → Option V
  metadata_in None = None
  metadata_in (Some (Commit metadata)) = metadata
  metadata_in (Some (Update key value)) = None
  metadata_in (Some (Delete key)) = None

  pub metadata_last : (ops : List (AnyOp K V)) (n : ℕ) → (length ops ≡ 0) ⊎ (length ops ≡ suc n) → metadata_of ops ≡ metadata_in (slice_get ops n)
  metadata_last [] n h = refl
  metadata_last (op ∷ []) n (inl h) = absurd (omega arith)
  metadata_last (Commit metadata ∷ []) zero (inr h) = refl
  metadata_last (Update key value ∷ []) zero (inr h) = refl
  metadata_last (Delete key ∷ []) zero (inr h) = refl
  metadata_last (op ∷ []) (suc n) (inr h) = absurd (omega arith)
  metadata_last (op ∷ next ∷ ops) n (inl h) = absurd (omega arith)
  metadata_last (op ∷ next ∷ ops) zero (inr h) = absurd (omega arith)
  metadata_last (Commit metadata ∷ next ∷ ops) (suc n) (inr h) = metadata_last (next ∷ ops) n (inr (omega arith))
  metadata_last (Update key value ∷ next ∷ ops) (suc n) (inr h) = metadata_last (next ∷ ops) n (inr (omega arith))
  metadata_last (Delete key ∷ next ∷ ops) (suc n) (inr h) = metadata_last (next ∷ ops) n (inr (omega arith))

le_or : (a b : ℕ) → (a ≤ b) ⊎ (b < a)
le_or zero b = inl (omega arith)
le_or (suc a) zero = inr (omega arith)
le_or (suc a) (suc b) = elim (le_or a b) [
  | inl h ↦ inl (omega arith)
  | inr h ↦ inr (omega arith)
]

module _ {K V : Type 0} where
  none_kept : (ops : List (AnyOp K V)) → length ops ≡ 0 → metadata_of ops ≡ None
  none_kept [] h = refl
  none_kept (op ∷ ops) h = absurd (omega arith)

  -- the metadata of a state, by the operation at its last location
  pub newest_metadata : (s : State K V) (at : ℕ) (last : Option (AnyOp K V)) → length s.kept ≡ s.target.end.0 - s.target.start.0 → at ≡ s.target.end.0 - 1
      → (s.target.start.0 ≤ at → last ≡ slice_get s.kept (at - s.target.start.0)) → (at < s.target.start.0 → last ≡ None) → metadata_of s.kept ≡ metadata_in last
  newest_metadata s at last count end inside below =
      elim (le_or s.target.start.0 at) [
        | inl low ↦ metadata_last s.kept (at - s.target.start.0) (some low) ∙ ap metadata_in (sym (inside low))
        | inr less ↦ none_kept s.kept (omega arith) ∙ ap metadata_in (sym (below less))
      ]
    where
      some : s.target.start.0 ≤ at → (length s.kept ≡ 0) ⊎ (length s.kept ≡ suc (at - s.target.start.0))
      some low = elim (le_or 1 s.target.end.0) [
        | inl one ↦ inr (omega arith)
        | inr zero_end ↦ inl (omega arith)
      ]

later : {K : Type 0} (e : K → K → Bool) (x : K) (xs : List K) → IsDistinct e (x ∷ xs) → IsDistinct e xs
unfolding IsDistinct
later e x xs h = h.1

absent : {X : Type 0} (o : Option X) → is_some o ≡ false → o ≡ None
absent None h = refl
absent (Some x) h = cc

either_way : {K : Type 0} {cmp : K → K → Ordering} → IsTotalOrder cmp → (a b : K) → is_at (cmp a) b ≡ is_at (cmp b) a
either_way {K} {cmp} total a b = elim (cases (is_at (cmp a) b)) [
  | inl yes_ab ↦ yes_ab ∙ sym (back a b yes_ab)
  | inr no_ab ↦ elim (cases (is_at (cmp b) a)) [
    | inl yes_ba ↦ let both : false ≡ true = sym no_ab ∙ back b a yes_ba in cc
    | inr no_ba ↦ no_ab ∙ sym no_ba
  ]
]
  where
    back : (a b : K) → is_at (cmp a) b ≡ true → is_at (cmp b) a ≡ true
    back a b h = (Equal-is (cmp b a)).1 (tied_back total a b ((Equal-is (cmp a b)).0 h))

module _ {K V : Type 0} {cmp : K → K → Ordering} (total : IsTotalOrder cmp) where
  -- keys that compare alike are live alike
  last_write-same : (one two : K) → is_at (cmp one) two ≡ true → (at : ℕ) (ops : List (AnyOp K V)) (before : Option (ℕ × V)) → last_write cmp one at ops before ≡ last_write cmp two at ops before
  last_write-same one two same at [] before = refl
  last_write-same one two same at (Commit metadata ∷ ops) before = last_write-same one two same (at + 1) ops before
  last_write-same one two same at (Update k v ∷ ops) before =
      ap (λ b. last_write cmp one (at + 1) ops (if b then Some (at, v) else before)) (same_key {V = V} total one two same (Update k v))
      ∙ last_write-same one two same (at + 1) ops (if is_at (cmp k) two then Some (at, v) else before)
  last_write-same one two same at (Delete k ∷ ops) before =
      ap (λ b. last_write cmp one (at + 1) ops (if b then None else before)) (same_key {V = V} total one two same (Delete k))
      ∙ last_write-same one two same (at + 1) ops (if is_at (cmp k) two then None else before)

  -- a key that isn't written is written by no operation
  none_for : (key : K) (live : K → Bool) (metadata : Option V) (writes : List (K × Option V)) → lookup (is_at (cmp key)) writes ≡ None → list_any (writes_key cmp key) (ops_for live writes ++ Commit metadata ∷ []) ≡ false
  none_for key live metadata [] h = refl
  none_for key live metadata ((k, w) ∷ writes) h = elim (cases (is_at (cmp key) k)) [
    | inl here ↦ let both : Some w ≡ None = sym (ap (λ b. cond b (Some w) (lookup (is_at (cmp key)) writes)) here) ∙ h in cc
    | inr apart ↦ one w (none_for key live metadata writes (sym (ap (λ b. cond b (Some w) (lookup (is_at (cmp key)) writes)) apart) ∙ h)) (either_way total k key ∙ apart)
  ]
    where
      one : (w : Option V) → list_any (writes_key cmp key) (ops_for live writes ++ Commit metadata ∷ []) ≡ false → is_at (cmp k) key ≡ false → list_any (writes_key cmp key) (ops_for live ((k, w) ∷ writes) ++ Commit metadata ∷ []) ≡ false
      one (Some v) rest apart = ap (λ b. b || list_any (writes_key cmp key) (ops_for live writes ++ Commit metadata ∷ [])) apart ∙ rest
      one None rest apart = elim (live k) as (λ l. list_any (writes_key cmp key) ((if l then Delete k ∷ ops_for live writes else ops_for live writes) ++ Commit metadata ∷ []) ≡ false) [
        | true ↦ ap (λ b. b || list_any (writes_key cmp key) (ops_for live writes ++ Commit metadata ∷ [])) apart ∙ rest
        | false ↦ rest
      ]

  -- the value behind the operations of a batch: what it writes at the key, or what was there before
  behind : (key : K) (live : K → Bool) (metadata : Option V) (writes : List (K × Option V)) (at : ℕ) (before : Option (ℕ × V)) → IsDistinct (eq_by_cmp cmp) (keys_of writes) → ((k : K) → is_at (cmp k) key ≡ true → live k ≡ is_some before)
      → option_map (λ x. x.1) (last_write cmp key at (ops_for live writes ++ Commit metadata ∷ []) before) ≡ unwrap_or (lookup (is_at (cmp key)) writes) (option_map (λ x. x.1) before)
  behind key live metadata [] at before distinct same = refl
  behind key live metadata ((k, w) ∷ writes) at before distinct same = elim (cases (is_at (cmp k) key)) [
    | inl here ↦
        let at_key : is_at (cmp key) k ≡ true = either_way total key k ∙ here in
        let none = lookup-none (is_at (cmp key)) writes (none_past_head (eq_by_cmp_equiv total) key (k, w) writes distinct at_key) in
        found w here none (same k here)
        ∙ sym (ap (λ b. unwrap_or (cond b (Some w) (lookup (is_at (cmp key)) writes)) (option_map (λ (x : ℕ × V). x.1) before)) at_key)
    | inr apart ↦
        other w apart (λ n. behind key live metadata writes n before (later (eq_by_cmp cmp) k (keys_of writes) distinct) same)
        ∙ sym (ap (λ b. unwrap_or (cond b (Some w) (lookup (is_at (cmp key)) writes)) (option_map (λ (x : ℕ × V). x.1) before)) (either_way total key k ∙ apart))
  ]
    where
      found : (w : Option V) → is_at (cmp k) key ≡ true → lookup (is_at (cmp key)) writes ≡ None → live k ≡ is_some before → option_map (λ x. x.1) (last_write cmp key at (ops_for live ((k, w) ∷ writes) ++ Commit metadata ∷ []) before) ≡ w
      found (Some v) here none alive =
          ap (λ b. option_map (λ (x : ℕ × V). x.1) (last_write cmp key (at + 1) (ops_for live writes ++ Commit metadata ∷ []) (if b then Some (at, v) else before))) here
          ∙ ap (λ o. option_map (λ (x : ℕ × V). x.1) o) (last_write-none cmp key (at + 1) (ops_for live writes ++ Commit metadata ∷ []) (Some (at, v)) (none_for key live metadata writes none))
      found None here none alive = elim (cases (live k)) [
        | inl yes_live ↦
            ap (λ l. option_map (λ (x : ℕ × V). x.1) (last_write cmp key at ((if l then Delete k ∷ ops_for live writes else ops_for live writes) ++ Commit metadata ∷ []) before)) yes_live
            ∙ ap (λ b. option_map (λ (x : ℕ × V). x.1) (last_write cmp key (at + 1) (ops_for live writes ++ Commit metadata ∷ []) (if b then None else before))) here
            ∙ ap (λ o. option_map (λ (x : ℕ × V). x.1) o) (last_write-none cmp key (at + 1) (ops_for live writes ++ Commit metadata ∷ []) None (none_for key live metadata writes none))
        | inr no_live ↦
            ap (λ l. option_map (λ (x : ℕ × V). x.1) (last_write cmp key at ((if l then Delete k ∷ ops_for live writes else ops_for live writes) ++ Commit metadata ∷ []) before)) no_live
            ∙ ap (λ o. option_map (λ (x : ℕ × V). x.1) o) (last_write-none cmp key at (ops_for live writes ++ Commit metadata ∷ []) before (none_for key live metadata writes none))
            ∙ ap (λ o. option_map (λ (x : ℕ × V). x.1) o) (absent before (sym alive ∙ no_live))
      ]

      other : (w : Option V) → is_at (cmp k) key ≡ false → ((n : ℕ) → option_map (λ x. x.1) (last_write cmp key n (ops_for live writes ++ Commit metadata ∷ []) before) ≡ unwrap_or (lookup (is_at (cmp key)) writes) (option_map (λ x. x.1) before)) → option_map (λ x. x.1) (last_write cmp key at (ops_for live ((k, w) ∷ writes) ++ Commit metadata ∷ []) before) ≡ unwrap_or (lookup (is_at (cmp key)) writes) (option_map (λ x. x.1) before)
      other (Some v) apart more =
          ap (λ b. option_map (λ (x : ℕ × V). x.1) (last_write cmp key (at + 1) (ops_for live writes ++ Commit metadata ∷ []) (if b then Some (at, v) else before))) apart
          ∙ more (at + 1)
      other None apart more = elim (cases (live k)) [
        | inl yes_live ↦
            ap (λ l. option_map (λ (x : ℕ × V). x.1) (last_write cmp key at ((if l then Delete k ∷ ops_for live writes else ops_for live writes) ++ Commit metadata ∷ []) before)) yes_live
            ∙ ap (λ b. option_map (λ (x : ℕ × V). x.1) (last_write cmp key (at + 1) (ops_for live writes ++ Commit metadata ∷ []) (if b then None else before))) apart
            ∙ more (at + 1)
        | inr no_live ↦
            ap (λ l. option_map (λ (x : ℕ × V). x.1) (last_write cmp key at ((if l then Delete k ∷ ops_for live writes else ops_for live writes) ++ Commit metadata ∷ []) before)) no_live
            ∙ more at
      ]

  -- the value behind the seal of a batch: what it writes at the key, or the value before
  pub sealed_value : (spell_key : K → List ℕ) (spell_value : V → List ℕ) (ch : Changes K V) (s : State K V) (key : K) → IsStrictlySortedBy cmp (keys_of ch.writes)
      → value_at cmp (sealed cmp spell_key spell_value ch s) key ≡ unwrap_or (lookup (is_at (cmp key)) ch.writes) (value_at cmp s key)
  sealed_value spell_key spell_value ch s key sorted =
      let live = λ (k : K). is_some (live_at cmp s k) in
      let more = ops_of cmp ch s in
      ap (λ o. option_map (λ (x : ℕ × V). x.1) o)
      (live_after total spell_key spell_value s more key ∙ last_write-append cmp key s.target.start.0 s.kept more None)
      ∙ behind key live ch.metadata ch.writes (s.target.start.0 + length s.kept) (live_at cmp s key) (IsDistinct-from_sorted cmp (keys_of ch.writes) sorted) (λ k same. ap is_some (last_write-same k key same s.target.start.0 s.kept None))
