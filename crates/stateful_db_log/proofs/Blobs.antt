-- what stands first in bytes, of byte strings
use Rattle.std.proofs.Common.{◌≡◌, ℕ, zero, suc, ◌+◌, ◌-◌, ◌*◌, ◌/◌, ◌%◌, ◌<◌, ◌≤◌, ◌^◌, List, [], ◌∷◌, ◌++◌, length, get_or, take, drop, replicate, All, Ok, Err, refl, sym, ap, subst, ◌∙◌, arith, append_assoc, length-append}
use Rattle.std.proofs.lemmas.List.{length-replicate, length-take-le, take-append-drop, drop-drop}
use Rattle.std.proofs.lemmas.List.Elements.{All-append, All-replicate, All-take, All-drop}
use Rattle.std.proofs.lemmas.Nat.{be_bytes_4}
use Rattle.stateful_base.specs.declared.codec.CodecError.TheVariants.{InvalidEnum, EndOfBuffer, OutOfMemory}
use Rattle.stateful_base.specs.declared.codec.CodecError.{CodecError}
use Rattle.stateful_base.specs.Format.{EndsInside, IsWrong, Stands, Reads, Writes}
use Rattle.stateful_base.proofs.Formats.{Met, reads}
use Rattle.stateful_base.proofs.Fixed.{All-behind}
use Rattle.stateful_base.specs.FixedLaws.{IsByte}
use Rattle.stateful_base.specs.Number.{u32_format}
use Rattle.stateful_db_log.specs.Blobs.{blob_format, blob_alone}

-- the four bytes of a number of two
two_bytes : (c d : ℕ) → c < 256 → d < 256 → u32_format.spelling (c * 256 + d) ≡ 0 ∷ 0 ∷ c ∷ d ∷ []
two_bytes c d lc ld = be_bytes_4 (0 ∷ 0 ∷ c ∷ d ∷ []) (c * 256 + d) refl below (omega arith)
  where
    below : (i : ℕ) → get_or (0 ∷ 0 ∷ c ∷ d ∷ []) i 0 < 256
    below zero = omega arith
    below (suc zero) = omega arith
    below (suc (suc zero)) = lc
    below (suc (suc (suc zero))) = ld
    below (suc (suc (suc (suc i)))) = omega arith

-- the first two of the four bytes of a short length are 0
front_of : (n : ℕ) → n < 2 ^ 16 → (c : ℕ) × (d : ℕ) × (u32_format.spelling n ≡ 0 ∷ 0 ∷ c ∷ d ∷ [])
front_of n low =
    let parts : n ≡ n / 256 * 256 + n % 256 = omega arith in
    (n / 256, n % 256, ap u32_format.spelling parts ∙ two_bytes (n / 256) (n % 256) (omega arith) (omega arith))

-- where the front of a spelling ends
inside_at : (bytes rest xs : List ℕ) (next : ℕ) → length xs < 2 ^ 16 → All IsByte xs → bytes ++ next ∷ rest ≡ blob_format.spelling xs → EndsInside blob_format bytes
inside_at bytes rest xs next low all e =
    record { next = next; begins = record { value = xs; rest = rest; fits = (low, all); whole = append_assoc bytes (next ∷ []) rest ∙ e } }

zeros : (n : ℕ) → All IsByte (replicate n 0)
zeros n = All-replicate IsByte n 0 (omega arith)

-- the length isn't there
pub inside_short : (bytes : List ℕ) → length bytes < 4 → ((i : ℕ) → get_or bytes i 0 < 256) → (0 < length bytes → get_or bytes 0 0 ≡ 0) → (1 < length bytes → get_or bytes 1 0 ≡ 0) → EndsInside blob_format bytes
inside_short [] short each first second = inside_at [] (0 ∷ 0 ∷ 0 ∷ []) [] 0 (omega arith) (zeros 0) refl
inside_short (a ∷ []) short each first second =
    let one : a ≡ 0 = first (omega arith) in
    rw one (inside_at (0 ∷ []) (0 ∷ 0 ∷ []) [] 0 (omega arith) (zeros 0) refl)
inside_short (a ∷ b ∷ []) short each first second =
    let one : a ≡ 0 = first (omega arith) in
    let other : b ≡ 0 = second (omega arith) in
    rw (one, other) (inside_at (0 ∷ 0 ∷ []) (0 ∷ []) [] 0 (omega arith) (zeros 0) refl)
inside_short (a ∷ b ∷ c ∷ []) short each first second =
    let one : a ≡ 0 = first (omega arith) in
    let other : b ≡ 0 = second (omega arith) in
    let n : ℕ = c * 256 + 0 in
    let lc : c < 256 = each 2 in
    let xs : List ℕ = replicate n 0 in
    let len : length xs ≡ n = length-replicate {A = ℕ} n 0 in
    let low : length xs < 2 ^ 16 = omega (arith, len) in
    let front : 0 ∷ 0 ∷ c ∷ 0 ∷ [] ≡ u32_format.spelling (length xs) = sym (two_bytes c 0 lc (omega arith)) ∙ ap u32_format.spelling (sym len) in
    rw (one, other) (inside_at (0 ∷ 0 ∷ c ∷ []) xs xs 0 low (zeros n) (ap (λ (w : List ℕ). w ++ xs) front))
inside_short (a ∷ b ∷ c ∷ d ∷ bytes) short each first second = absurd (omega arith)

-- the bytes aren't all there
pub inside_long : (bytes : List ℕ) (n : ℕ) → 4 ≤ length bytes → ((i : ℕ) → get_or bytes i 0 < 256) → All IsByte bytes → get_or bytes 0 0 ≡ 0 → get_or bytes 1 0 ≡ 0
    → n ≡ get_or bytes 2 0 * 256 + get_or bytes 3 0 → length bytes - 4 < n → EndsInside blob_format bytes
inside_long [] n long each all first second is short = absurd (omega arith)
inside_long (a ∷ []) n long each all first second is short = absurd (omega arith)
inside_long (a ∷ b ∷ []) n long each all first second is short = absurd (omega arith)
inside_long (a ∷ b ∷ c ∷ []) n long each all first second is short = absurd (omega arith)
inside_long (a ∷ b ∷ c ∷ d ∷ part) n long each all first second is short =
    let lc : c < 256 = each 2 in
    let ld : d < 256 = each 3 in
    let k : ℕ = n - (length part + 1) in
    let xs : List ℕ = part ++ replicate (suc k) 0 in
    let len : length xs ≡ c * 256 + d = omega (arith, length-append part (replicate (suc k) 0), length-replicate {A = ℕ} (suc k) 0) in
    let low : length xs < 2 ^ 16 = omega (arith, len) in
    let whole : All IsByte xs = All-append IsByte part (replicate (suc k) 0) (All-drop IsByte 4 (a ∷ b ∷ c ∷ d ∷ part) all) (zeros (suc k)) in
    let front : 0 ∷ 0 ∷ c ∷ d ∷ [] ≡ u32_format.spelling (length xs) = sym (two_bytes c d lc ld) ∙ ap u32_format.spelling (sym len) in
    rw (first, second) (inside_at (0 ∷ 0 ∷ c ∷ d ∷ part) (replicate k 0) xs 0 low whole (ap (λ (w : List ℕ). w ++ xs) front))

-- a length of more than two bytes
pub wrong_first : (bytes : List ℕ) → 0 < length bytes → (get_or bytes 0 0 ≡ 0 → ⊥) → IsWrong blob_format bytes (get_or bytes 0 0)
wrong_first [] some differs = absurd (omega arith)
wrong_first (a ∷ bytes) some differs = record {
  front = [];
  rest = bytes;
  place = refl;
  inside = inside_at [] (0 ∷ 0 ∷ 0 ∷ []) [] 0 (omega arith) (zeros 0) refl;
  none = λ begins.
      let s = front_of (length begins.value) begins.fits.0 in
      let e : a ∷ begins.rest ≡ 0 ∷ 0 ∷ s.0 ∷ s.1 ∷ begins.value = begins.whole ∙ ap (λ (w : List ℕ). w ++ begins.value) s.2 in
      let same : a ≡ 0 = cc in
      differs same;
}

pub wrong_second : (bytes : List ℕ) → 1 < length bytes → get_or bytes 0 0 ≡ 0 → (get_or bytes 1 0 ≡ 0 → ⊥) → IsWrong blob_format bytes (get_or bytes 1 0)
wrong_second [] some first differs = absurd (omega arith)
wrong_second (a ∷ []) some first differs = absurd (omega arith)
wrong_second (a ∷ b ∷ bytes) some first differs = record {
  front = 0 ∷ [];
  rest = bytes;
  place = ap (λ n. n ∷ b ∷ bytes) first;
  inside = inside_at (0 ∷ []) (0 ∷ 0 ∷ []) [] 0 (omega arith) (zeros 0) refl;
  none = λ begins.
      let s = front_of (length begins.value) begins.fits.0 in
      let e : 0 ∷ b ∷ begins.rest ≡ 0 ∷ 0 ∷ s.0 ∷ s.1 ∷ begins.value = begins.whole ∙ ap (λ (w : List ℕ). w ++ begins.value) s.2 in
      let same : b ≡ 0 = cc in
      differs same;
}

-- all is there
pub found : (bytes : List ℕ) (n : ℕ) → 4 ≤ length bytes → ((i : ℕ) → get_or bytes i 0 < 256) → All IsByte bytes → get_or bytes 0 0 ≡ 0 → get_or bytes 1 0 ≡ 0
    → n ≡ get_or bytes 2 0 * 256 + get_or bytes 3 0 → n ≤ length bytes - 4 → Stands blob_format bytes (Ok (take n (drop 4 bytes), drop (4 + n) bytes))
found [] n long each all first second is short = absurd (omega arith)
found (a ∷ []) n long each all first second is short = absurd (omega arith)
found (a ∷ b ∷ []) n long each all first second is short = absurd (omega arith)
found (a ∷ b ∷ c ∷ []) n long each all first second is short = absurd (omega arith)
found (a ∷ b ∷ c ∷ d ∷ more) n long each all first second is short =
    let bytes : List ℕ = a ∷ b ∷ c ∷ d ∷ more in
    let lc : c < 256 = each 2 in
    let ld : d < 256 = each 3 in
    let xs : List ℕ = take n more in
    let len : length xs ≡ c * 256 + d = omega (arith, length-take-le n more (omega arith)) in
    let front : 0 ∷ 0 ∷ c ∷ d ∷ [] ≡ u32_format.spelling (length xs) = sym (two_bytes c d lc ld) ∙ ap u32_format.spelling (sym len) in
    let parts : more ≡ xs ++ drop n more = sym (take-append-drop n more) in
    let behind : drop n more ≡ drop (4 + n) bytes = drop-drop n 4 bytes in
    let zero_front : bytes ≡ (0 ∷ 0 ∷ c ∷ d ∷ []) ++ more = rw (first, second) refl in
    let whole : bytes ≡ blob_format.spelling xs ++ drop (4 + n) bytes =
    zero_front ∙ ap (λ (w : List ℕ). (0 ∷ 0 ∷ c ∷ d ∷ []) ++ w) parts
    ∙ ap (λ (w : List ℕ). w ++ (xs ++ drop n more)) front
    ∙ sym (append_assoc (u32_format.spelling (length xs)) xs (drop n more))
    ∙ ap (λ (w : List ℕ). blob_format.spelling xs ++ w) behind in
    ((omega (arith, len), All-take IsByte n more (All-drop IsByte 4 bytes all)), whole)

-- a refusal that takes nothing
pub refused : (bytes : List ℕ) (error : CodecError) → Stands blob_format bytes (Err error) → Met blob_format (Err error) bytes bytes
refused bytes EndOfBuffer h = record { first = h; taken = ([], refl) }
refused bytes (InvalidEnum byte) h = record { first = h; taken = ([], refl) }
refused bytes OutOfMemory h = record { first = tt; taken = ([], refl) }

-- all bytes are taken
pub read : (bytes input after xs : List ℕ) (n : ℕ) → bytes ≡ input → Stands blob_format bytes (Ok (take n (drop 4 bytes), drop (4 + n) bytes))
    → xs ≡ take (4 + n - 4) (drop 4 input) → after ≡ drop (4 + n) input → Reads blob_format (Ok xs) input after
read bytes input after xs n same stands e e' =
    let count : 4 + n - 4 ≡ n = omega arith in
    let is : xs ≡ take n (drop 4 bytes) = e ∙ ap (λ k. take k (drop 4 input)) count ∙ ap (λ (w : List ℕ). take n (drop 4 w)) (sym same) in
    let rest : drop (4 + n) bytes ≡ after = ap (drop (4 + n)) same ∙ sym e' in
    let parts : input ≡ blob_format.spelling xs ++ after =
    sym same ∙ stands.1 ∙ ap (λ (w : List ℕ). blob_format.spelling w ++ drop (4 + n) bytes) (sym is) ∙ ap (λ (w : List ℕ). blob_format.spelling xs ++ w) rest in
    reads blob_format blob_alone (Ok xs) input after (record { first = (subst blob_format.fits (sym is) stands.0, parts); taken = (blob_format.spelling xs, parts) })

-- the length and the bytes are appended
pub written : {E : Type 0} (bytes before mid after : List ℕ) (count : ℕ) → count ≡ length bytes → length bytes < 2 ^ 16 → mid ≡ before ++ u32_format.spelling count → after ≡ mid ++ bytes → All IsByte after
    → Writes {E = E} blob_format bytes (Ok tt) before after
written bytes before mid after count len low e e' all =
    let appended : after ≡ before ++ blob_format.spelling bytes =
    e' ∙ ap (λ (w : List ℕ). w ++ bytes) e ∙ append_assoc before (u32_format.spelling count) bytes ∙ ap (λ n. before ++ (u32_format.spelling n ++ bytes)) len in
    record { fits = (low, All-behind IsByte mid bytes (subst (All IsByte) e' all)); appended = appended; kept = (blob_format.spelling bytes, appended) }
