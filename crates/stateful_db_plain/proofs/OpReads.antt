-- reading entries by ascending key
use Rattle.std.proofs.Common.{◌≡◌, ℕ, suc, ◌+◌, ◌-◌, ◌^◌, ◌<◌, ◌≤◌, List, [], ◌∷◌, ◌++◌, length, Result, Ok, Err, refl, sym, ap, subst, ◌∙◌, append_assoc, append-nil, arith}
use Rattle.std.specs.Int.{w64, to_be_bytes}
use Rattle.std.specs.declared.cmp.Ordering.TheVariants.{Greater}
use Rattle.std.specs.Ordering.{nat_cmp}
use Rattle.std.specs.BTreeMap.{insert_entry}
use Rattle.std.specs.Cmp.{nat_cmp_is}
use Rattle.stateful_base.specs.declared.codec.CodecError.{CodecError}
use Rattle.stateful_base.specs.declared.codec.CodecError.TheVariants.{InvalidEnum, EndOfBuffer, OutOfMemory}
use Rattle.stateful_base.specs.Format.{Format, Begins, EndsInside, IsWrong, IsFormat}
use Rattle.stateful_base.specs.FormatLaws.{Rest, Rest-then, Rest-both, both, same_first}
use Rattle.stateful_base.specs.FixedLaws.{u32_alone, u64_alone}
use Rattle.stateful_base.specs.Number.{u32_format, u64_format}
use Rattle.stateful_base.proofs.Formats.{Met, begins_at, first_err, rest_ok, rest_err, taken_then}
use Rattle.stateful_db_plain.specs.Bounded.{bounded_format}
use Rattle.stateful_db_plain.specs.Ops.{AscendFrom, entries_format, op_format}
use Rattle.stateful_db_plain.specs.OpsLaws.{filled, filled_fits, has_room, entries_alone, Rest-count}
use Rattle.stateful_db_plain.specs.Whole.{entry_bytes}
use Rattle.stateful_db_plain.proofs.Bounds.{bounded_alone}

-- a rest under equal names
Rest-same : {A X : Type 0} (whole : Format X) (front : List ℕ) (f : Format A) (into into' : A → X) → ((a : A) → into a ≡ into' a) → Rest whole front f into → Rest whole front f into'
Rest-same whole front f into into' same r = record {
  fits = λ a fits. subst whole.fits (same a) (r.fits a fits);
  spelled = λ a fits. ap whole.spelling (sym (same a)) ∙ r.spelled a fits;
  back = λ x bytes fits e. let a = r.back x bytes fits e in (a.0, a.1, a.2 ∙ same a.0);
}

-- the greatest key that leaves room for so many
abbrev pub greatest : ℕ → ℕ
greatest n = 2 ^ 64 - 1 - n

module _ (n least : ℕ) (room : least + suc n ≤ 2 ^ 64) where
  key_law : IsFormat (bounded_format least (greatest n))
  key_law = bounded_alone least (greatest n) (omega arith) (omega arith)

  -- the first key is in bounds
  key_fits : (e : ℕ × ℕ) (es : List (ℕ × ℕ)) → (entries_format (suc n) least).fits (e ∷ es) → (bounded_format least (greatest n)).fits e.0
  key_fits e es fits =
      let up = fits.1 in
      let rest = has_room (e.0 + 1) es (omega (arith, up.1.0)) up.1.1.1 in
      let high : e.0 ≤ greatest n = omega (arith, fits.0) in
      (up.1.0, (up.0, high))

  -- behind the first key stand its value and the others
  Rest-key : (k : ℕ) → (bounded_format least (greatest n)).fits k → Rest (entries_format (suc n) least) (u64_format.spelling k) (both u64_format (entries_format n (k + 1))) (λ p. (k, p.0) ∷ p.1)
  Rest-key k fits = record {
    fits = λ p fits'. (ap suc fits'.1.0, (fits.1.0, (fits.0, (fits'.0, fits'.1.1))));
    spelled = λ p fits'. append_assoc (to_be_bytes w64 k) (to_be_bytes w64 p.0) (entry_bytes p.1);
    back = back;
  } where
    back : (es : List (ℕ × ℕ)) (bytes : List ℕ) → (entries_format (suc n) least).fits es → entry_bytes es ≡ u64_format.spelling k ++ bytes
        → (p : ℕ × List (ℕ × ℕ)) × (both u64_format (entries_format n (k + 1))).fits p × (es ≡ (k, p.0) ∷ p.1)
    back [] bytes fits' e = absurd (omega (arith, fits'.0))
    back (x ∷ es) bytes fits' e =
        let up = fits'.1 in
        let key : x.0 ≡ k = same_first u64_format u64_alone x.0 k (to_be_bytes w64 x.1 ++ entry_bytes es) bytes up.1.0 fits.0 (sym (append_assoc (to_be_bytes w64 x.0) (to_be_bytes w64 x.1) (entry_bytes es)) ∙ e) in
        let count : length es ≡ n = omega (arith, fits'.0) in
        let P : ℕ → Type 0 = λ i. AscendFrom (i + 1) es in
        ((x.1, es), (up.1.1.0, (count, subst P key up.1.1.1)), λ i. (key i, x.1) ∷ es)

  -- behind the first entry stand the others
  Rest-entry : (k v : ℕ) → (bounded_format least (greatest n)).fits k → v < 2 ^ 64
      → Rest (entries_format (suc n) least) (u64_format.spelling k ++ u64_format.spelling v) (entries_format n (k + 1)) (λ es. (k, v) ∷ es)
  Rest-entry k v fits small =
      Rest-then (entries_format (suc n) least) (u64_format.spelling k) (both u64_format (entries_format n (k + 1))) (λ p. (k, p.0) ∷ p.1) (u64_format.spelling v) (entries_format n (k + 1)) (λ es. (v, es))
      (Rest-key k fits) (Rest-both u64_format (entries_format n (k + 1)) u64_alone v small)

  -- what begins the first key begins the entries
  begins_key : (bytes : List ℕ) → Begins (bounded_format least (greatest n)) bytes → Begins (entries_format (suc n) least) bytes
  begins_key bytes b =
      let k = b.value in
      let others = filled n (k + 1) in
      let fill = filled_fits n (k + 1) (omega (arith, b.fits.1.1, room)) in
      let more = to_be_bytes w64 0 ++ entry_bytes others in
      let none : 0 < 2 ^ 64 = omega arith in
      record {
        value = (k, 0) ∷ others;
        rest = b.rest ++ more;
        fits = (ap suc fill.0, (b.fits.1.0, (b.fits.0, (none, fill.1))));
        whole = sym (append_assoc bytes b.rest more) ∙ ap (λ w. w ++ more) b.whole ∙ sym (append_assoc (to_be_bytes w64 k) (to_be_bytes w64 0) (entry_bytes others));
      }

  inside_key : (bytes : List ℕ) → EndsInside (bounded_format least (greatest n)) bytes → EndsInside (entries_format (suc n) least) bytes
  inside_key bytes i = record { next = i.next; begins = begins_key (bytes ++ i.next ∷ []) i.begins }

  wrong_key : (bytes : List ℕ) (byte : ℕ) → IsWrong (bounded_format least (greatest n)) bytes byte → IsWrong (entries_format (suc n) least) bytes byte
  wrong_key bytes byte w = record {
    front = w.front;
    rest = w.rest;
    place = w.place;
    inside = inside_key w.front w.inside;
    none = λ b. none b.value b.rest b.fits b.whole;
  } where
    none : (es : List (ℕ × ℕ)) (rest : List ℕ) → (entries_format (suc n) least).fits es → (w.front ++ byte ∷ []) ++ rest ≡ entry_bytes es → ⊥
    none [] rest fits e = absurd (omega (arith, fits.0))
    none (x ∷ es) rest fits e =
        w.none (begins_at (bounded_format least (greatest n)) key_law x.0 (key_fits x es fits) w.front rest (to_be_bytes w64 x.1 ++ entry_bytes es) byte w.inside
        (sym (append_assoc w.front (byte ∷ []) rest) ∙ e ∙ append_assoc (to_be_bytes w64 x.0) (to_be_bytes w64 x.1) (entry_bytes es)))

  -- the first key is refused
  key_err : (error : CodecError) (mid after : List ℕ) → Met (bounded_format least (greatest n)) (Err error) mid after → Met (entries_format (suc n) least) (Err error) mid after
  key_err EndOfBuffer mid after m = record { first = inside_key mid m.first; taken = m.taken }
  key_err (InvalidEnum byte) mid after m = record { first = wrong_key mid byte m.first; taken = m.taken }
  key_err OutOfMemory mid after m = record { first = tt; taken = m.taken }

  -- its value is refused
  value_err : (k : ℕ) (error : CodecError) (mid last after : List ℕ) → Met (bounded_format least (greatest n)) (Ok k) mid last → Met u64_format (Err error) last after → Met (entries_format (suc n) least) (Err error) mid after
  value_err k error mid last after key value =
      let fits = key.first.0 in
      rest_err (entries_format (suc n) least) (u64_format.spelling k) (both u64_format (entries_format n (k + 1))) (λ p. (k, p.0) ∷ p.1) (Rest-key k fits) error mid last after key.first.1
      (first_err u64_format (entries_format n (k + 1)) u64_alone (entries_alone n (k + 1) (omega (arith, fits.1.1, room))) error last after value)

cmp_gt : (j k : ℕ) → k < j → nat_cmp j k ≡ Greater
cmp_gt j k h = sym (nat_cmp_is j k Greater h)

-- every key is below a bound
abbrev pub Below : ℕ → List (ℕ × ℕ) → Type 0
Below bound [] = Unit {0}
Below bound (e ∷ es) = (e.0 < bound) × Below bound es

below_more : (bound k v : ℕ) (es : List (ℕ × ℕ)) → bound ≤ k → Below bound es → Below (k + 1) (es ++ (k, v) ∷ [])
below_more bound k v [] le below = let here : k < k + 1 = omega arith in (here, tt)
below_more bound k v (e ∷ es) le below = let here : e.0 < k + 1 = omega (arith, below.0) in (here, below_more bound k v es le below.1)

-- a greater key stands last
insert_last : (bound k v : ℕ) (es : List (ℕ × ℕ)) → bound ≤ k → Below bound es → insert_entry nat_cmp es k v ≡ es ++ (k, v) ∷ []
insert_last bound k v [] le below = refl
insert_last bound k v (e ∷ es) le below =
    let less : e.0 < k = omega (arith, below.0) in
    rw (cmp_gt k e.0 less) (ap (λ xs. e ∷ xs) (insert_last bound k v es le below.1))

-- the entries that are read, the bytes behind them, and how many are still to come, from this key on
pub record ReadsOn (count : ℕ) (before mid : List ℕ) (es : List (ℕ × ℕ)) (left least : ℕ) : Type 0 where
  pub front : List ℕ
  pub bound : ℕ
  pub rest : Rest (entries_format count 0) front (entries_format left bound) (λ more. es ++ more)
  pub read : before ≡ front ++ mid
  pub room : bound + left ≤ 2 ^ 64
  pub below : Below bound es
  pub next : 0 < left → bound ≡ least

pub reads_none : (count : ℕ) (before : List ℕ) → count < 2 ^ 32 → ReadsOn count before before [] count 0
reads_none count before small = record {
  front = [];
  bound = 0;
  rest = record { fits = λ es fits. fits; spelled = λ es fits. refl; back = λ es bytes fits e. (es, fits, refl) };
  read = refl;
  room = omega arith;
  below = tt;
  next = λ some. refl;
}

module _ (count : ℕ) (before mid : List ℕ) (es : List (ℕ × ℕ)) (n least : ℕ) (on : ReadsOn count before mid es (suc n) least) where
  is_least : on.bound ≡ least
  is_least = on.next (omega arith)

  pub is_ordered : least ≤ greatest n
  is_ordered = omega (arith, is_least, on.room)

  key_at : (result : Result ℕ CodecError) (after : List ℕ) → Met (bounded_format least (greatest n)) result mid after → Met (bounded_format on.bound (greatest n)) result mid after
  key_at result after m = let P : ℕ → Type 0 = λ b. Met (bounded_format b (greatest n)) result mid after in subst P (sym is_least) m

  pub reads_key_err : (error : CodecError) (after : List ℕ) → Met (bounded_format least (greatest n)) (Err error) mid after → Met (entries_format count 0) (Err error) before after
  reads_key_err error after m =
      rest_err (entries_format count 0) on.front (entries_format (suc n) on.bound) (λ more. es ++ more) on.rest error before mid after on.read
      (key_err n on.bound on.room error mid after (key_at (Err error) after m))

  module _ (k : ℕ) (last : List ℕ) (key : Met (bounded_format least (greatest n)) (Ok k) mid last) where
    pub reads_value_err : (error : CodecError) (after : List ℕ) → Met u64_format (Err error) last after → Met (entries_format count 0) (Err error) before after
    reads_value_err error after m =
        rest_err (entries_format count 0) on.front (entries_format (suc n) on.bound) (λ more. es ++ more) on.rest error before mid after on.read
        (value_err n on.bound on.room k error mid last after (key_at (Ok k) last key) m)

    module _ (v : ℕ) (after : List ℕ) (value : Met u64_format (Ok v) last after) where
      pub reads_memory : Met (entries_format count 0) (Err OutOfMemory) before after
      reads_memory = record { first = tt; taken = taken_then before mid after (on.front, on.read) (taken_then mid last after key.taken value.taken) }

      pub inserted : insert_entry nat_cmp es k v ≡ es ++ (k, v) ∷ []
      inserted = insert_last on.bound k v es (omega (arith, is_least, key.first.0.1.0)) on.below

      -- one entry more is read
      pub reads_more : (next : ℕ) → (0 < n → k + 1 ≡ next) → ReadsOn count before after (es ++ (k, v) ∷ []) n next
      reads_more next is =
          let fits = (key_at (Ok k) last key).first.0 in
          let bytes = u64_format.spelling k ++ u64_format.spelling v in
          record {
            front = on.front ++ bytes;
            bound = k + 1;
            rest =
                Rest-same (entries_format count 0) (on.front ++ bytes) (entries_format n (k + 1)) (λ more. es ++ ((k, v) ∷ more)) (λ more. (es ++ (k, v) ∷ []) ++ more) (λ more. sym (append_assoc es ((k, v) ∷ []) more))
                (Rest-then (entries_format count 0) on.front (entries_format (suc n) on.bound) (λ more. es ++ more) bytes (entries_format n (k + 1)) (λ more. (k, v) ∷ more) on.rest (Rest-entry n on.bound on.room k v fits value.first.0));
            read =
                on.read ∙ ap (λ w. on.front ++ w) (key.first.1 ∙ ap (λ w. u64_format.spelling k ++ w) value.first.1)
                ∙ ap (λ w. on.front ++ w) (sym (append_assoc (u64_format.spelling k) (u64_format.spelling v) after))
                ∙ sym (append_assoc on.front bytes after);
            room = omega (arith, fits.1.1, on.room);
            below = below_more on.bound k v es (omega (arith, fits.1.0)) on.below;
            next = is;
          }

-- all entries are read
pub reads_all : (count : ℕ) (before mid : List ℕ) (es : List (ℕ × ℕ)) (least : ℕ) → ReadsOn count before mid es 0 least → Met (entries_format count 0) (Ok es) before mid
reads_all count before mid es least on =
    let P : List (ℕ × ℕ) → Type 0 = λ xs. Met (entries_format count 0) (Ok xs) before mid in
    subst P (append-nil es)
    (rest_ok (entries_format count 0) on.front (entries_format 0 on.bound) (λ more. es ++ more) on.rest [] before mid mid on.read (record { first = ((refl, tt), refl); taken = ([], refl) }))

-- ---- behind their number

inside_count : (bytes : List ℕ) → EndsInside u32_format bytes → EndsInside op_format bytes
inside_count bytes i =
    let n = i.begins.value in
    let es = filled n 0 in
    let fill = filled_fits n 0 (omega (arith, i.begins.fits)) in
    let tail = entry_bytes es in
    let P : ℕ → Type 0 = λ k. k < 2 ^ 32 in
    record {
      next = i.next;
      begins = record {
        value = es;
        rest = i.begins.rest ++ tail;
        fits = (subst P (sym fill.0) i.begins.fits, fill.1);
        whole = sym (append_assoc (bytes ++ i.next ∷ []) i.begins.rest tail) ∙ ap (λ w. w ++ tail) i.begins.whole ∙ ap (λ k. u32_format.spelling k ++ tail) (sym fill.0);
      };
    }

wrong_count : (bytes : List ℕ) (byte : ℕ) → IsWrong u32_format bytes byte → IsWrong op_format bytes byte
wrong_count bytes byte w = record {
  front = w.front;
  rest = w.rest;
  place = w.place;
  inside = inside_count w.front w.inside;
  none = λ b. w.none (begins_at u32_format u32_alone (length b.value) b.fits.0 w.front b.rest (entry_bytes b.value) byte w.inside (sym (append_assoc w.front (byte ∷ []) b.rest) ∙ b.whole));
}

-- the number isn't there
pub count_err : (error : CodecError) (before after : List ℕ) → Met u32_format (Err error) before after → Met op_format (Err error) before after
count_err EndOfBuffer before after m = record { first = inside_count before m.first; taken = m.taken }
count_err (InvalidEnum byte) before after m = record { first = wrong_count before byte m.first; taken = m.taken }
count_err OutOfMemory before after m = record { first = tt; taken = m.taken }

-- so many entries are read behind their number
pub op_met : (n : ℕ) (result : Result (List (ℕ × ℕ)) CodecError) (before mid after : List ℕ) → Met u32_format (Ok n) before mid → Met (entries_format n 0) result mid after → Met op_format result before after
op_met n (Ok es) before mid after count m = rest_ok op_format (u32_format.spelling n) (entries_format n 0) (λ xs. xs) (Rest-count n count.first.0) es before mid after count.first.1 m
op_met n (Err error) before mid after count m = rest_err op_format (u32_format.spelling n) (entries_format n 0) (λ xs. xs) (Rest-count n count.first.0) error before mid after count.first.1 m
