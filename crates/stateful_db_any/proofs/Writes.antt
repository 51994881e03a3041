-- the last writes of keys, along lists of operations
use Rattle.std.proofs.Common.{◌≡◌, ℕ, zero, suc, ◌+◌, ◌-◌, ◌≤◌, ◌<◌, ◌⊎◌, inl, inr, Bool, true, false, not, ◌||◌, List, [], ◌∷◌, ◌++◌, length, drop, Option, Some, None, refl, sym, ap, ◌∙◌, arith, slice_get}
use Rattle.std.specs.Bool.{if◌then◌else◌}
use Rattle.std.specs.List.{list_any}
use Rattle.std.specs.Option.{option_map, unwrap_or}
use Rattle.std.specs.declared.cmp.Ordering.{Ordering}
use Rattle.std.specs.Ordering.{is_eq}
use Rattle.std.specs.declared.cmp.Ordering.TheVariants.{Equal}
use Rattle.std.specs.Cmp.{IsTotalOrder, Equal-is}
use Rattle.std.specs.BTreeMap.{is_at}
use Rattle.std.proofs.lemmas.Cmp.{tied_itself, alike_right}
use Rattle.stateful_db_log.proofs.Slices.{cases}
use Rattle.stateful_db_any.specs.declared.op.AnyOp.{AnyOp}
use Rattle.stateful_db_any.specs.declared.op.AnyOp.TheVariants.{Commit, Update, Delete}
use Rattle.stateful_db_any.specs.Live.{writes_key, written, last_write, stays, passed}

module _ {K V : Type 0} (cmp : K → K → Ordering) where
  -- behind joined lists
  pub last_write-append : (key : K) (at : ℕ) (xs ys : List (AnyOp K V)) (before : Option (ℕ × V)) → last_write cmp key at (xs ++ ys) before ≡ last_write cmp key (at + length xs) ys (last_write cmp key at xs before)
  last_write-append key at [] ys before = let here : at ≡ at + 0 = omega arith in ap (λ n. last_write cmp key n ys before) here
  last_write-append key at (x ∷ xs) ys before =
      let later : at + 1 + length xs ≡ at + suc (length xs) = omega arith in
      let now = written cmp key at x before in
      last_write-append key (at + 1) xs ys now ∙ ap (λ n. last_write cmp key n ys (last_write cmp key (at + 1) xs now)) later

  -- behind operations that don't write the key
  pub last_write-none : (key : K) (at : ℕ) (ops : List (AnyOp K V)) (before : Option (ℕ × V)) → list_any (writes_key cmp key) ops ≡ false → last_write cmp key at ops before ≡ before
  last_write-none key at [] before none = refl
  last_write-none key at (Commit metadata ∷ ops) before none = last_write-none key (at + 1) ops before none
  last_write-none key at (Update other value ∷ ops) before none =
      elim (is_at (cmp other) key) as (λ b. (b || list_any (writes_key cmp key) ops) ≡ false → last_write cmp key (at + 1) ops (if b then Some (at, value) else before) ≡ before) [
        | true ↦ λ h. cc
        | false ↦ λ h. last_write-none key (at + 1) ops before h
      ] none
  last_write-none key at (Delete other ∷ ops) before none =
      elim (is_at (cmp other) key) as (λ b. (b || list_any (writes_key cmp key) ops) ≡ false → last_write cmp key (at + 1) ops (if b then None else before) ≡ before) [
        | true ↦ λ h. cc
        | false ↦ λ h. last_write-none key (at + 1) ops before h
      ] none

  -- behind operations that write the key nothing is left of what was before
  pub last_write-over : (key : K) (at : ℕ) (ops : List (AnyOp K V)) (one two : Option (ℕ × V)) → list_any (writes_key cmp key) ops ≡ true → last_write cmp key at ops one ≡ last_write cmp key at ops two
  last_write-over key at [] one two some = cc
  last_write-over key at (Commit metadata ∷ ops) one two some = last_write-over key (at + 1) ops one two some
  last_write-over key at (Update other value ∷ ops) one two some =
      elim (is_at (cmp other) key) as (λ b. (b || list_any (writes_key cmp key) ops) ≡ true → last_write cmp key (at + 1) ops (if b then Some (at, value) else one) ≡ last_write cmp key (at + 1) ops (if b then Some (at, value) else two)) [
        | true ↦ λ h. refl
        | false ↦ λ h. last_write-over key (at + 1) ops one two h
      ] some
  last_write-over key at (Delete other ∷ ops) one two some =
      elim (is_at (cmp other) key) as (λ b. (b || list_any (writes_key cmp key) ops) ≡ true → last_write cmp key (at + 1) ops (if b then None else one) ≡ last_write cmp key (at + 1) ops (if b then None else two)) [
        | true ↦ λ h. refl
        | false ↦ λ h. last_write-over key (at + 1) ops one two h
      ] some

  -- the last write is what was there before, or one of the operations
  pub last_write-at : (key : K) (at : ℕ) (ops : List (AnyOp K V)) (before : Option (ℕ × V)) (place : ℕ) (value : V) → last_write cmp key at ops before ≡ Some (place, value)
      → (before ≡ Some (place, value)) ⊎ ((at ≤ place) × ((k : K) × (slice_get ops (place - at) ≡ Some (Update k value))))
  last_write-at key at [] before place value is = inl is
  last_write-at key at (op ∷ ops) before place value is =
      elim (last_write-at key (at + 1) ops (written cmp key at op before) place value is) [
        | inl now ↦ here op now
        | inr (le, (k, there)) ↦
            let later : place - at ≡ suc (place - (at + 1)) = omega arith in
            inr (omega arith, (k, ap (λ n. slice_get (op ∷ ops) n) later ∙ there))
      ]
    where
      put : (k : K) (v : V) → (let now : Option (ℕ × V) = Some (at, v) in now ≡ Some (place, value)) → (at ≤ place) × ((k' : K) × (slice_get (Update k v ∷ ops) (place - at) ≡ Some (Update k' value)))
      put k v e =
          let same : at ≡ place = ap (λ o. unwrap_or (option_map (λ (x : ℕ × V). x.0) o) at) e in
          let is_value : v ≡ value = ap (λ o. unwrap_or (option_map (λ (x : ℕ × V). x.1) o) v) e in
          let zero_is : place - at ≡ zero = omega arith in
          (omega arith, (k, ap (λ n. slice_get (Update k v ∷ ops) n) zero_is ∙ ap (λ x. Some (Update k x)) is_value))

      here : (op : AnyOp K V) → written cmp key at op before ≡ Some (place, value) → (before ≡ Some (place, value)) ⊎ ((at ≤ place) × ((k : K) × (slice_get (op ∷ ops) (place - at) ≡ Some (Update k value))))
      here (Commit metadata) now = inl now
      here (Update k v) now =
          elim (is_at (cmp k) key) as (λ b. (if b then Some (at, v) else before) ≡ Some (place, value) → (before ≡ Some (place, value)) ⊎ ((at ≤ place) × ((k' : K) × (slice_get (Update k v ∷ ops) (place - at) ≡ Some (Update k' value))))) [
            | true ↦ λ e. inr (put k v e)
            | false ↦ λ e. inl e
          ] now
      here (Delete k) now =
          elim (is_at (cmp k) key) as (λ b. (if b then None else before) ≡ Some (place, value) → (before ≡ Some (place, value)) ⊎ ((at ≤ place) × ((k' : K) × (slice_get (Delete k ∷ ops) (place - at) ≡ Some (Update k' value))))) [
            | true ↦ λ e. cc
            | false ↦ λ e. inl e
          ] now

  -- behind operations that write the key it isn't written last before them
  pub last_write-behind : (key : K) (at : ℕ) (ops : List (AnyOp K V)) (before : Option (ℕ × V)) (place : ℕ) → list_any (writes_key cmp key) ops ≡ true → option_map (λ x. x.0) (last_write cmp key at ops before) ≡ Some place → at ≤ place
  last_write-behind key at ops before place some is = found (last_write cmp key at ops None) refl (ap (λ o. option_map (λ (x : ℕ × V). x.0) o) (last_write-over key at ops None before some) ∙ is)
    where
      found : (o : Option (ℕ × V)) → last_write cmp key at ops None ≡ o → option_map (λ (x : ℕ × V). x.0) o ≡ Some place → at ≤ place
      found None e h = cc
      found (Some w) e h = elim (last_write-at key at ops None w.0 w.1 e) [
        | inl never ↦ cc
        | inr (le, (k, there)) ↦ let same : w.0 ≡ place = cc in omega arith
      ]

  -- what is passed ends at an operation that has to be kept
  pub first_stays : (ops : List (AnyOp K V)) → 0 < length ops → (op : AnyOp K V) × ((later : List (AnyOp K V)) × ((drop (passed cmp ops) ops ≡ op ∷ later) × (stays cmp op later ≡ true)))
  first_stays [] some = absurd (omega arith)
  first_stays (op ∷ []) some = (op, ([], (refl, refl)))
  first_stays (op ∷ next ∷ ops) some =
      elim (cases (stays cmp op (next ∷ ops))) [
        | inl stay ↦ (op, (next ∷ ops, (ap (λ b. drop (if b then 0 else passed cmp (next ∷ ops) + 1) (op ∷ next ∷ ops)) stay, stay)))
        | inr dead ↦
            let (first, (later, (is, stay))) = first_stays (next ∷ ops) (omega arith) in
            let more : passed cmp (next ∷ ops) + 1 ≡ suc (passed cmp (next ∷ ops)) = omega arith in
            (first, (later, (ap (λ b. drop (if b then 0 else passed cmp (next ∷ ops) + 1) (op ∷ next ∷ ops)) dead ∙ ap (λ n. drop n (op ∷ next ∷ ops)) more ∙ is, stay)))
      ]

  -- how many are passed
  pub passed-le : (ops : List (AnyOp K V)) → passed cmp ops ≤ length ops
  passed-le [] = omega arith
  passed-le (op ∷ ops) = elim (stays cmp op ops) as (λ b. (if b then 0 else passed cmp ops + 1) ≤ suc (length ops)) [
    | true ↦ omega arith
    | false ↦ omega (arith, passed-le ops)
  ]

equal : (o : Ordering) → is_eq o ≡ true → o ≡ Equal
equal o e = (Equal-is o).0 e

pub itself : {K : Type 0} {cmp : K → K → Ordering} → IsTotalOrder cmp → (key : K) → is_at (cmp key) key ≡ true
itself {K} {cmp} total key = (Equal-is (cmp key key)).1 (tied_itself total key)

module _ {K V : Type 0} {cmp : K → K → Ordering} (total : IsTotalOrder cmp) where
  -- keys that compare alike are written by the same operations
  pub same_key : (one two : K) → is_at (cmp one) two ≡ true → (op : AnyOp K V) → writes_key cmp one op ≡ writes_key cmp two op
  same_key one two same (Commit metadata) = refl
  same_key one two same (Update k v) = ap is_eq (alike_right total one two k (equal (cmp one two) same))
  same_key one two same (Delete k) = ap is_eq (alike_right total one two k (equal (cmp one two) same))

  pub same_writes : (one two : K) → is_at (cmp one) two ≡ true → (ops : List (AnyOp K V)) → list_any (writes_key cmp one) ops ≡ list_any (writes_key cmp two) ops
  same_writes one two same [] = refl
  same_writes one two same (op ∷ ops) =
      ap (λ b. b || list_any (writes_key cmp one) ops) (same_key one two same op)
      ∙ ap (λ b. writes_key cmp two op || b) (same_writes one two same ops)

  -- an operation that needn't be kept leaves nothing
  left : (key : K) (at : ℕ) (op : AnyOp K V) (ops : List (AnyOp K V)) → stays cmp op ops ≡ false → last_write cmp key (at + 1) ops (written cmp key at op None) ≡ last_write cmp key (at + 1) ops None
  left key at op [] dead = cc
  left key at (Commit metadata) (next ∷ later) dead = refl
  left key at (Delete k) (next ∷ later) dead = elim (is_at (cmp k) key) as (λ b. last_write cmp key (at + 1) (next ∷ later) (if b then None else None) ≡ last_write cmp key (at + 1) (next ∷ later) None) [
    | true ↦ refl
    | false ↦ refl
  ]
  left key at (Update k v) (next ∷ later) dead =
      elim (cases (is_at (cmp k) key)) [
        | inl same ↦
            let over : list_any (writes_key cmp key) (next ∷ later) ≡ true = sym (same_writes k key same (next ∷ later)) ∙ was (list_any (writes_key cmp k) (next ∷ later)) dead in
            last_write-over cmp key (at + 1) (next ∷ later) _ None over
        | inr other ↦ ap (λ b. last_write cmp key (at + 1) (next ∷ later) (if b then Some (at, v) else None)) other
      ]
    where
      was : (b : Bool) → not b ≡ false → b ≡ true
      was true e = refl
      was false e = cc

  -- the operations that are passed leave nothing
  pub last_write-passed : (key : K) (at : ℕ) (ops : List (AnyOp K V)) → last_write cmp key (at + passed cmp ops) (drop (passed cmp ops) ops) None ≡ last_write cmp key at ops None
  last_write-passed key at [] = refl
  last_write-passed key at (op ∷ ops) =
      elim (cases (stays cmp op ops)) [
        | inl stay ↦
            let here : at + 0 ≡ at = omega arith in
            ap (λ b. last_write cmp key (at + (if b then 0 else passed cmp ops + 1)) (drop (if b then 0 else passed cmp ops + 1) (op ∷ ops)) None) stay
            ∙ ap (λ n. last_write cmp key n (op ∷ ops) None) here
        | inr dead ↦
            let more : passed cmp ops + 1 ≡ suc (passed cmp ops) = omega arith in
            let place : at + suc (passed cmp ops) ≡ at + 1 + passed cmp ops = omega arith in
            ap (λ b. last_write cmp key (at + (if b then 0 else passed cmp ops + 1)) (drop (if b then 0 else passed cmp ops + 1) (op ∷ ops)) None) dead
            ∙ ap (λ n. last_write cmp key (at + n) (drop n (op ∷ ops)) None) more
            ∙ ap (λ n. last_write cmp key n (drop (passed cmp ops) ops) None) place
            ∙ last_write-passed key (at + 1) ops
            ∙ sym (left key at op ops dead)
      ]

  -- an update is the last write of its key exactly where that is its location
  pub last_here : (key : K) (value : V) (at : ℕ) (front later : List (AnyOp K V)) → list_any (writes_key cmp key) later ≡ false → option_map (λ x. x.0) (last_write cmp key at (front ++ Update key value ∷ later) None) ≡ Some (at + length front)
  last_here key value at front later none =
      ap (λ o. option_map (λ (x : ℕ × V). x.0) o)
      (last_write-append cmp key at front (Update key value ∷ later) None
      ∙ ap (λ b. last_write cmp key (at + length front + 1) later (if b then Some (at + length front, value) else last_write cmp key at front None)) (itself total key)
      ∙ last_write-none cmp key (at + length front + 1) later _ none)

  pub last_behind : (key : K) (value : V) (at : ℕ) (front later : List (AnyOp K V)) → list_any (writes_key cmp key) later ≡ true → option_map (λ x. x.0) (last_write cmp key at (front ++ Update key value ∷ later) None) ≡ Some (at + length front) → ⊥
  last_behind key value at front later some is =
      let joined = ap (λ o. option_map (λ (x : ℕ × V). x.0) o) (last_write-append cmp key at front (Update key value ∷ later) None) in
      let le = last_write-behind cmp key (at + length front + 1) later _ (at + length front) some (sym joined ∙ is) in
      omega arith
