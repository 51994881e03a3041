-- reading numbers in bounds: at which byte no number in the bounds goes on
use Rattle.std.proofs.Common.{◌≡◌, ℕ, zero, suc, ◌+◌, ◌*◌, ◌/◌, ◌%◌, ◌^◌, ◌<◌, ◌≤◌, List, [], ◌∷◌, ◌++◌, Ok, Err, refl, sym, ap, subst, ◌∙◌, append_assoc, arith, inl, inr}
use Rattle.std.specs.Int.{byte_at, bytes_high_first}
use Rattle.std.proofs.Math.Nat as nat
use Rattle.std.proofs.lemmas.Nat.{le-div}
use Rattle.std.proofs.lemmas.Bool.{cases_lt}
use Rattle.stateful_base.specs.declared.codec.CodecError.{CodecError}
use Rattle.stateful_base.specs.declared.codec.CodecError.TheVariants.{InvalidEnum, EndOfBuffer, OutOfMemory}
use Rattle.stateful_base.specs.Format.{Format, EndsInside, IsFormat}
use Rattle.stateful_base.specs.FormatLaws.{Rest, Rest-then}
use Rattle.stateful_base.specs.FixedLaws.{u64_alone}
use Rattle.stateful_base.specs.Number.{u8_format}
use Rattle.stateful_base.proofs.Formats.{Met, rest_ok, rest_err}
use Rattle.stateful_db_plain.specs.Bounded.{bounded_format, lower_format, GoesOn}

pub power_pos : (k : ℕ) → 0 < 256 ^ k
power_pos k = let one = nat.one-le-pow k 256 (omega arith) in omega arith

-- the byte of this place, below which so many stand
byte_is : (k n : ℕ) → byte_at k n ≡ n / 256 ^ k % 256
byte_is zero n = ap (λ m. m % 256) (sym (nat.div-one n) ∙ ap (λ p. n / p) (sym (nat.pow-zero 256)))
byte_is (suc k) n = refl

-- with one byte more the others are those above it
above_is : (k n : ℕ) → n / 256 ^ suc k ≡ n / 256 ^ k / 256
above_is k n = ap (λ p. n / p) (nat.pow-suc 256 k) ∙ sym (nat.div-div-eq-div-mul n (256 ^ k) 256)

-- two bytes of a number
upper : (m top d : ℕ) → d < 256 → m ≡ top * 256 + d → m / 256 ≡ top
upper m top d small is = omega arith

lowest : (m top d : ℕ) → d < 256 → m ≡ top * 256 + d → m % 256 ≡ d
lowest m top d small is = omega arith

joined : (m top d : ℕ) → m / 256 ≡ top → m % 256 ≡ d → m ≡ top * 256 + d
joined m top d high low = omega arith

divided : (k a b : ℕ) → a ≤ b → a / 256 ^ k ≤ b / 256 ^ k
divided k a b le =
    let below = nat.div-mul-le_self a (256 ^ k) in
    le-div (a / 256 ^ k) b (256 ^ k) (power_pos k) (omega arith)

-- bytes that end inside a byte are none
u8_inside : (bytes : List ℕ) → EndsInside u8_format bytes → bytes ≡ []
u8_inside [] i = refl
u8_inside (b ∷ []) i = let never = i.begins.whole in cc
u8_inside (b ∷ c ∷ bytes) i = let never = i.begins.whole in cc

module _ (least most : ℕ) where
  abbrev lower : ℕ → ℕ → Format ℕ
  lower k top = lower_format least most k top

  whole_is : (k top d n : ℕ) (bytes : List ℕ) → n / 256 ^ suc k ≡ top → bytes_high_first (suc k) n ≡ d ∷ bytes → n / 256 ^ k ≡ top * 256 + d
  whole_is k top d n bytes is e =
      let byte : byte_at k n ≡ d = cc in
      joined (n / 256 ^ k) top d (sym (above_is k n) ∙ is) (sym (byte_is k n) ∙ byte)

  -- behind one byte stand the others
  pub Rest-byte : (k top d : ℕ) → d < 256 → Rest (lower (suc k) top) (d ∷ []) (lower k (top * 256 + d)) (λ n. n)
  Rest-byte k top d small = record {
    fits = λ n fits. (above_is k n ∙ upper (n / 256 ^ k) top d small fits.0, fits.1);
    spelled = λ n fits. ap (λ b. b ∷ bytes_high_first k n) (byte_is k n ∙ lowest (n / 256 ^ k) top d small fits.0);
    back = λ n bytes fits e. (n, (whole_is k top d n bytes fits.0 e, fits.1), refl);
  }

  pub some_number : (k top : ℕ) → least ≤ most → GoesOn least most k top → (n : ℕ) × (lower k top).fits n
  some_number k top order goes =
      let high : top * 256 ^ k ≤ most = (nat.le-div_iff_mul-le (power_pos k)).0 goes.high in
      elim (cases_lt (top * 256 ^ k) least) [
        | inl less ↦
            let above : top ≤ least / 256 ^ k = le-div top least (256 ^ k) (power_pos k) (omega arith) in
            let is : least / 256 ^ k ≡ top = omega (arith, goes.low) in
            let same : least ≤ least = omega arith in
            (least, (is, (same, order)))
        | inr le ↦ (top * 256 ^ k, (nat.mul-div_cancel top (power_pos k), (le, high)))
      ]

  -- what is there is no whole number yet
  inside : (k top : ℕ) → least ≤ most → GoesOn least most (suc k) top → EndsInside (lower (suc k) top) []
  inside k top order goes =
      let some = some_number (suc k) top order goes in
      record { next = byte_at k some.0; begins = record { value = some.0; rest = bytes_high_first k some.0; fits = some.1; whole = refl } }

  -- a byte with which no number in the bounds goes on
  pub wrong_byte : (k top byte : ℕ) (mid after : List ℕ) → least ≤ most → GoesOn least most (suc k) top → mid ≡ byte ∷ after → (GoesOn least most k (top * 256 + byte) → ⊥) → Met (lower (suc k) top) (Err (InvalidEnum byte)) mid after
  wrong_byte k top byte mid after order goes is ends = record {
    first = record {
      front = [];
      rest = after;
      place = is;
      inside = inside k top order goes;
      none = λ b.
          let n = b.value in
          let same : n / 256 ^ k ≡ top * 256 + byte = whole_is k top byte n b.rest b.fits.0 (sym b.whole) in
          let low = divided k least n b.fits.1.0 in
          let high = divided k n most b.fits.1.1 in
          ends (record { low = omega arith; high = omega arith });
    };
    taken = (byte ∷ [], is);
  }

  -- no byte is there
  pub no_byte : (k top : ℕ) (error : CodecError) (mid after : List ℕ) → least ≤ most → GoesOn least most (suc k) top → Met u8_format (Err error) mid after → Met (lower (suc k) top) (Err error) mid after
  no_byte k top EndOfBuffer mid after order goes m = record { first = subst (EndsInside (lower (suc k) top)) (sym (u8_inside mid m.first)) (inside k top order goes); taken = m.taken }
  no_byte k top (InvalidEnum byte) mid after order goes m =
      let w = m.first in
      let front : w.front ≡ [] = u8_inside w.front w.inside in
      record {
        first = record {
          front = [];
          rest = w.rest;
          place = w.place ∙ ap (λ f. f ++ byte ∷ w.rest) front;
          inside = inside k top order goes;
          none = λ b.
              let is : byte ≡ byte_at k b.value = cc in
              let small : byte < 2 ^ 8 = omega (arith, is, byte_is k b.value) in
              w.none (record { value = byte; rest = []; fits = small; whole = ap (λ f. (f ++ byte ∷ []) ++ []) front });
        };
        taken = m.taken;
      }
  no_byte k top OutOfMemory mid after order goes m = record { first = tt; taken = m.taken }

  here : (n : ℕ) → n / 256 ^ 0 ≡ n
  here n = ap (λ p. n / p) (nat.pow-zero 256) ∙ nat.div-one n

  -- all bytes are there
  pub all_there : (top : ℕ) (mid : List ℕ) → GoesOn least most 0 top → Met (lower 0 top) (Ok top) mid mid
  all_there top mid goes =
      let low : least ≤ top = omega (arith, here least, goes.low) in
      let high : top ≤ most = omega (arith, here most, goes.high) in
      record { first = ((here top, (low, high)), refl); taken = ([], refl) }

  -- eight bytes are a number
  pub Rest-bounded : Rest (bounded_format least most) [] (lower 8 0) (λ n. n)
  Rest-bounded = record {
    fits = λ n fits. let is = fits.0 in (omega arith, fits.1);
    spelled = λ n fits. refl;
    back = λ n bytes fits e. let small = fits.0 in let none : n / 256 ^ 8 ≡ 0 = omega arith in (n, (none, fits.1), refl);
  }

  pub bounded_alone : least ≤ most → most < 2 ^ 64 → IsFormat (bounded_format least most)
  bounded_alone order small =
      let low : least < 2 ^ 64 = omega arith in
      let same : least ≤ least = omega arith in
      record { some = (least, (low, (same, order))); alone = λ x y rest fits fits' e. u64_alone.alone x y rest fits.0 fits'.0 e }

-- the bytes that are read, and behind them so many others of a number in the bounds
pub record ReadsDown (least most : ℕ) (before mid : List ℕ) (places top : ℕ) : Type 0 where
  pub front : List ℕ
  pub rest : Rest (bounded_format least most) front (lower_format least most places top) (λ n. n)
  pub read : before ≡ front ++ mid
  pub goes : GoesOn least most places top
  pub small : places ≤ 8

module _ (least most : ℕ) (order : least ≤ most) (wide : most < 2 ^ 64) (before : List ℕ) where
  -- no byte is read yet
  pub reads_start : ReadsDown least most before before 8 0
  reads_start =
      let none : least / 256 ^ 8 ≡ 0 = omega arith in
      record { front = []; rest = Rest-bounded least most; read = refl; goes = record { low = omega arith; high = omega arith }; small = omega arith }

  module _ (mid : List ℕ) (k top : ℕ) (on : ReadsDown least most before mid (suc k) top) where
    pub top_small : top < 2 ^ 56
    top_small =
        let some = some_number least most (suc k) top order on.goes in
        let m = some.0 / 256 ^ k in
        let below : m ≤ some.0 = nat.div-le_self some.0 (256 ^ k) in
        let is : m / 256 ≡ top = sym (above_is k some.0) ∙ some.1.0 in
        omega (arith, some.1.1.1)

    -- one byte more
    pub reads_byte : (d : ℕ) (after : List ℕ) → Met u8_format (Ok d) mid after → GoesOn least most k (top * 256 + d) → ReadsDown least most before after k (top * 256 + d)
    reads_byte d after m goes = record {
      front = on.front ++ d ∷ [];
      rest = Rest-then (bounded_format least most) on.front (lower_format least most (suc k) top) (λ n. n) (d ∷ []) (lower_format least most k (top * 256 + d)) (λ n. n) on.rest (Rest-byte least most k top d m.first.0);
      read = on.read ∙ ap (λ w. on.front ++ w) m.first.1 ∙ sym (append_assoc on.front (d ∷ []) after);
      goes = goes;
      small = omega (arith, on.small);
    }

    whole_err : (error : CodecError) (after : List ℕ) → Met (lower_format least most (suc k) top) (Err error) mid after → Met (bounded_format least most) (Err error) before after
    whole_err error after m = rest_err (bounded_format least most) on.front (lower_format least most (suc k) top) (λ n. n) on.rest error before mid after on.read m

    -- no byte is there
    pub reads_short : (error : CodecError) (after : List ℕ) → Met u8_format (Err error) mid after → Met (bounded_format least most) (Err error) before after
    reads_short error after m = whole_err error after (no_byte least most k top error mid after order on.goes m)

    -- a byte with which no number goes on
    pub reads_wrong : (d : ℕ) (after : List ℕ) → Met u8_format (Ok d) mid after → (GoesOn least most k (top * 256 + d) → ⊥) → Met (bounded_format least most) (Err (InvalidEnum d)) before after
    reads_wrong d after m ends = whole_err (InvalidEnum d) after (wrong_byte least most k top d mid after order on.goes m.first.1 ends)

  -- all bytes are read
  pub reads_number : (mid : List ℕ) (top : ℕ) → ReadsDown least most before mid 0 top → Met (bounded_format least most) (Ok top) before mid
  reads_number mid top on = rest_ok (bounded_format least most) on.front (lower_format least most 0 top) (λ n. n) on.rest top before mid mid on.read (all_there least most top mid on.goes)
