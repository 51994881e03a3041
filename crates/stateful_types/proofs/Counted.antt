-- Lists of items, by the format of one.
use Rattle.std.proofs.Common.{◌≡◌, ℕ, zero, suc, ◌+◌, ◌-◌, ◌^◌, ◌<◌, List, [], ◌∷◌, ◌++◌, length, get_or, take, replicate, All, Result, Ok, Err, refl, sym, ap, subst, ◌∙◌, append_assoc, arith}
use Rattle.std.specs.List.{flat_map}
use Rattle.std.proofs.lemmas.List.{append-nil, length-replicate, take_more}
use Rattle.std.proofs.lemmas.List.Concat.{flat_map-append}
use Rattle.std.proofs.lemmas.List.Elements.{All-replicate, All-head, All-tail, All-more}
use Rattle.stateful_base.specs.declared.codec.CodecError.{CodecError}
use Rattle.stateful_base.specs.declared.codec.CodecError.TheVariants.{InvalidEnum, EndOfBuffer, OutOfMemory}
use Rattle.stateful_base.specs.Format.{Format, EndsInside, IsWrong, IsFormat}
use Rattle.stateful_base.specs.Number.{u32_format}
use Rattle.stateful_types.specs.Items.{exactly_format, items_format}
use Rattle.stateful_base.specs.FormatLaws.{Rest, Rest-then, Rest-both, both}
use Rattle.stateful_base.specs.FixedLaws.{u32_alone}
use Rattle.stateful_types.specs.ItemsLaws.{cons, Rest-cons, exactly_alone, Rest-counted}
use Rattle.stateful_base.proofs.Formats.{Met, begins_at, first_err, rest_ok, rest_err}

module _ {A : Type 0} (item : Format A) (law : IsFormat item) where
  -- behind some of the items stand the others
  Rest-items : (items : List A) (total n : ℕ) → length items + n ≡ total → All item.fits items
      → Rest (exactly_format total item) (flat_map item.spelling items) (exactly_format n item) (λ xs. items ++ xs)
  Rest-items [] total n e all =
      let same : n ≡ total = omega arith in
      subst (λ (t : ℕ). Rest (exactly_format t item) [] (exactly_format n item) (λ xs. xs)) same (record { fits = λ xs fits. fits; spelled = λ xs fits. refl; back = λ xs bytes fits e'. (xs, fits, refl) })
  Rest-items (x ∷ items) zero n e all = absurd (omega arith)
  Rest-items (x ∷ items) (suc total) n e all =
      let whole = exactly_format (suc total) item in
      let others = exactly_format total item in
      let one = Rest-then whole [] (both item others) cons (item.spelling x) others (λ xs. (x, xs)) (Rest-cons item total) (Rest-both item others law x (All-head item.fits x items all)) in
      Rest-then whole (item.spelling x) others (λ xs. x ∷ xs) (flat_map item.spelling items) (exactly_format n item) (λ xs. items ++ xs) one
      (Rest-items items total n (omega arith) (All-tail item.fits x items all))

  -- one item is refused, and so are all
  pub exactly_err : (items : List A) (total : ℕ) (error : CodecError) (before mid after : List ℕ) → length items < total → All item.fits items → before ≡ flat_map item.spelling items ++ mid
      → Met item (Err error) mid after → Met (exactly_format total item) (Err error) before after
  exactly_err items total error before mid after less all e m =
      let k : ℕ = total - (length items + 1) in
      let rest = exactly_format (suc k) item in
      rest_err (exactly_format total item) (flat_map item.spelling items) rest (λ xs. items ++ xs) (Rest-items items total (suc k) (omega arith) all) error before mid after e
      (rest_err rest [] (both item (exactly_format k item)) cons (Rest-cons item k) error mid mid after refl
      (first_err item (exactly_format k item) law (exactly_alone item law k) error mid after m))

  pub exactly_ok : (items : List A) (total : ℕ) (before after : List ℕ) → length items ≡ total → All item.fits items → before ≡ flat_map item.spelling items ++ after → Met (exactly_format total item) (Ok items) before after
  exactly_ok items total before after len all e = record { first = ((len, all), e); taken = (flat_map item.spelling items, e) }

  pub exactly_memory : (items : List A) (total : ℕ) (before mid after : List ℕ) → before ≡ flat_map item.spelling items ++ mid → ((front : List ℕ) × (mid ≡ front ++ after)) → Met (exactly_format total item) (Err OutOfMemory) before after
  exactly_memory items total before mid after e taken = record {
    first = tt;
    taken = (flat_map item.spelling items ++ taken.0, e ∙ ap (λ (w : List ℕ). flat_map item.spelling items ++ w) taken.1 ∙ sym (append_assoc (flat_map item.spelling items) taken.0 after));
  }

  inside_count : (bytes : List ℕ) → EndsInside u32_format bytes → EndsInside (items_format item) bytes
  inside_count bytes i =
      let n : ℕ = i.begins.value in
      let xs : List A = replicate n law.some.0 in
      let len : length xs ≡ n = length-replicate n law.some.0 in
      let tail : List ℕ = flat_map item.spelling xs in
      record {
        next = i.next;
        begins = record {
          value = xs;
          rest = i.begins.rest ++ tail;
          fits = (subst (λ (k : ℕ). k < 2 ^ 32) (sym len) i.begins.fits, All-replicate item.fits n law.some.0 law.some.1);
          whole = sym (append_assoc (bytes ++ i.next ∷ []) i.begins.rest tail) ∙ ap (λ (w : List ℕ). w ++ tail) i.begins.whole ∙ ap (λ (k : ℕ). u32_format.spelling k ++ tail) (sym len);
        };
      }

  wrong_count : (bytes : List ℕ) (byte : ℕ) → IsWrong u32_format bytes byte → IsWrong (items_format item) bytes byte
  wrong_count bytes byte w = record {
    front = w.front;
    rest = w.rest;
    place = w.place;
    inside = inside_count w.front w.inside;
    none = λ b. w.none (begins_at u32_format u32_alone (length b.value) b.fits.0 w.front b.rest (flat_map item.spelling b.value) byte w.inside (sym (append_assoc w.front (byte ∷ []) b.rest) ∙ b.whole));
  }

  -- the number isn't there
  pub count_err : (error : CodecError) (before after : List ℕ) → Met u32_format (Err error) before after → Met (items_format item) (Err error) before after
  count_err EndOfBuffer before after m = record { first = inside_count before m.first; taken = m.taken }
  count_err (InvalidEnum byte) before after m = record { first = wrong_count before byte m.first; taken = m.taken }
  count_err OutOfMemory before after m = record { first = tt; taken = m.taken }

  -- so many items are read behind their number
  pub items_met : (n : ℕ) (result : Result (List A) CodecError) (before mid after : List ℕ) → Met u32_format (Ok n) before mid → Met (exactly_format n item) result mid after → Met (items_format item) result before after
  items_met n (Ok xs) before mid after count m = rest_ok (items_format item) (u32_format.spelling n) (exactly_format n item) (λ zs. zs) (Rest-counted item law n count.first.0) xs before mid after count.first.1 m
  items_met n (Err error) before mid after count m = rest_err (items_format item) (u32_format.spelling n) (exactly_format n item) (λ zs. zs) (Rest-counted item law n count.first.0) error before mid after count.first.1 m

-- ---- writing

module _ {A : Type 0} (item : Format A) (xs : List A) (i : ℕ) (d : A) (lt : i < length xs) where
  -- one item more has a spelling
  pub fits_more : All item.fits (take i xs) → item.fits (get_or xs i d) → All item.fits (take (i + 1) xs)
  fits_more all fits = All-more item.fits xs i d lt all fits

  -- one item more is written
  pub written_more : (count before out out' : List ℕ) → out ≡ before ++ (count ++ flat_map item.spelling (take i xs)) → out' ≡ out ++ item.spelling (get_or xs i d)
      → out' ≡ before ++ (count ++ flat_map item.spelling (take (i + 1) xs))
  written_more count before out out' e e' =
      let so_far : List ℕ = flat_map item.spelling (take i xs) in
      let next : List ℕ = item.spelling (get_or xs i d) in
      let more : flat_map item.spelling (take (i + 1) xs) ≡ so_far ++ next =
      ap (flat_map item.spelling) (take_more xs i d lt) ∙ flat_map-append item.spelling (take i xs) (get_or xs i d ∷ []) ∙ ap (λ (w : List ℕ). so_far ++ w) (append-nil next) in
      let joined : (before ++ (count ++ so_far)) ++ next ≡ before ++ (count ++ (so_far ++ next)) = simp append_assoc in
      e' ∙ ap (λ (w : List ℕ). w ++ next) e ∙ joined ∙ ap (λ (w : List ℕ). before ++ (count ++ w)) (sym more)
