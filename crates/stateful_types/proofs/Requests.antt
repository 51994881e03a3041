-- The format of requests, by its two cases.
use Rattle.std.proofs.Common.{◌≡◌, ℕ, zero, suc, ◌^◌, ◌<◌, List, [], ◌∷◌, ◌++◌, length, replicate, All, Result, Ok, Err, refl, sym, ap, subst, ◌∙◌, append_assoc, inl, inr, lit<, arith, length-append}
use Rattle.std.specs.Prelude.{◌⊎◌}
use Rattle.std.specs.Int.{w64, from_be_bytes, to_be_bytes}
use Rattle.std.specs.Int.NonZero.{non_zero_u64_get}
use Rattle.std.specs.declared.num.NonZeroU64.{NonZeroU64}
use Rattle.std.proofs.Math.Bridge.{le_prop}
use Rattle.std.proofs.lemmas.List.{length-replicate}
use Rattle.std.proofs.lemmas.List.Elements.{All-append, All-cons, All-replicate, All-head}
use Rattle.stateful_base.specs.declared.codec.CodecError.{CodecError}
use Rattle.stateful_base.specs.declared.codec.CodecError.TheVariants.{InvalidEnum, EndOfBuffer, OutOfMemory}
use Rattle.stateful_base.specs.Format.{Format, Begins, EndsInside, IsFormat, Writes}
use Rattle.stateful_base.specs.Number.{bytes_format, u64_format, nonzero_format, location_format}
use Rattle.stateful_types.specs.Request.{request_fits, request_format}
use Rattle.stateful_base.specs.declared.number.Location.{Location}
use Rattle.stateful_types.specs.declared.request.Request.{Request}
use Rattle.stateful_types.specs.declared.request.Request.TheVariants.{Operations, Boundary}
use Rattle.stateful_base.proofs.Formats.{Met}
use Rattle.stateful_base.specs.FormatLaws.{Rest, both, IsFormat-both}
use Rattle.stateful_types.specs.Cases.{two_cases, IsTaggedBy}
use Rattle.stateful_types.specs.CasesLaws.{HasTwoCases, two_tags, first_case, second_case}
use Rattle.stateful_base.specs.FixedLaws.{IsByte, wide64, u64_alone}
use Rattle.stateful_base.proofs.Fixed.{All-front, All-behind}
use Rattle.stateful_base.proofs.Values.{location_alone}

-- ---- numbers that are not 0

same_nonzero : (n m : ℕ) (above : 0 < n) (above' : 0 < m) → n ≡ m → ◌≡◌ {A = NonZeroU64} (record { value = n; ok = above }) (record { value = m; ok = above' })
same_nonzero n m above above' e =
    let P : ℕ → Type 0 = λ k. (h : 0 < k) → ◌≡◌ {A = NonZeroU64} (record { value = n; ok = above }) (record { value = k; ok = h }) in
    let here : P n = λ h. ap (λ (p : 0 < n). record { value = n; ok = p }) (le_prop above h) in
    subst P e here above'

pub nonzero_alone : IsFormat nonzero_format
nonzero_alone = record {
  some = (record { value = 1; ok = omega arith }, omega arith);
  alone = λ x y rest fits fits' e. same_nonzero x.value y.value x.ok y.ok (u64_alone.alone x.value y.value rest fits fits' e);
}

zeros_alone : (front rest : List ℕ) → replicate 8 0 ≡ front ++ 1 ∷ rest → ⊥
zeros_alone front rest e =
    let zeros : All (λ b. b ≡ 0) (front ++ 1 ∷ rest) = subst (All (λ b. b ≡ 0)) e (All-replicate (λ b. b ≡ 0) 8 0 refl) in
    let one : ◌≡◌ {A = ℕ} 1 0 = All-head (λ b. b ≡ 0) 1 rest (All-behind (λ b. b ≡ 0) front (1 ∷ rest) zeros) in
    absurd (omega arith)

positive : (n : ℕ) → (n ≡ 0 → ⊥) → 0 < n
positive zero h = absurd (h refl)
positive (suc n) h = omega arith

-- some number that isn't 0 begins with what begins a number and isn't all of it
inside_nonzero : (bytes : List ℕ) → EndsInside u64_format bytes → EndsInside nonzero_format bytes
inside_nonzero bytes inside =
    let rest = inside.begins.rest in
    let whole : bytes ++ inside.next ∷ rest ≡ to_be_bytes w64 inside.begins.value = sym (append_assoc bytes (inside.next ∷ []) rest) ∙ inside.begins.whole in
    let all : All IsByte bytes = All-front IsByte bytes (inside.next ∷ rest) (subst (All IsByte) (sym whole) (wide64.bytes inside.begins.value)) in
    let zeros : List ℕ = replicate (length rest) 0 in
    let built : List ℕ = bytes ++ 1 ∷ zeros in
    let long : length built ≡ 8 = omega (arith, length-append bytes (1 ∷ zeros), length-append bytes (inside.next ∷ rest), ap length whole, length-replicate {A = ℕ} (length rest) 0) in
    let fits : (bytes_format 8).fits built = (long, All-append IsByte bytes (1 ∷ zeros) all (All-cons IsByte 1 zeros (omega arith) (All-replicate IsByte (length rest) 0 (omega arith)))) in
    let back : to_be_bytes w64 (from_be_bytes w64 built) ≡ built = wide64.back built fits in
    let above : 0 < from_be_bytes w64 built = positive (from_be_bytes w64 built) (λ e. zeros_alone bytes zeros (ap (to_be_bytes w64) (sym e) ∙ back)) in
    record {
      next = 1;
      begins = record {
        value = record { value = from_be_bytes w64 built; ok = above };
        rest = zeros;
        fits = wide64.below built fits;
        whole = append_assoc bytes (1 ∷ []) zeros ∙ sym back;
      };
    }

begins_u64 : (bytes : List ℕ) → Begins nonzero_format bytes → Begins u64_format bytes
begins_u64 bytes b = record { value = b.value.value; rest = b.rest; fits = b.fits; whole = b.whole }

pub nonzero_ok : (x : NonZeroU64) (n : ℕ) (before after : List ℕ) → non_zero_u64_get x ≡ n → Met u64_format (Ok n) before after → Met nonzero_format (Ok x) before after
nonzero_ok x n before after e m =
    let m' : Met u64_format (Ok x.value) before after = subst (λ (k : ℕ). Met u64_format (Ok k) before after) (sym e) m in
    record { first = m'.first; taken = m.taken }

pub nonzero_err : (error : CodecError) (before after : List ℕ) → Met u64_format (Err error) before after → Met nonzero_format (Err error) before after
nonzero_err EndOfBuffer before after m = record { first = inside_nonzero before m.first; taken = m.taken }
nonzero_err (InvalidEnum byte) before after m = record {
  first = record {
    front = m.first.front;
    rest = m.first.rest;
    place = m.first.place;
    inside = inside_nonzero m.first.front m.first.inside;
    none = λ b. m.first.none (begins_u64 (m.first.front ++ byte ∷ []) b);
  };
  taken = m.taken;
}
nonzero_err OutOfMemory before after m = record { first = tt; taken = m.taken }

zero_spelled : (x : NonZeroU64) (rest : List ℕ) → x.value < 2 ^ 64 → replicate 8 0 ++ rest ≡ to_be_bytes w64 x.value → ⊥
zero_spelled x rest fits e =
    let same : 0 ≡ x.value = u64_alone.alone 0 x.value rest (omega arith) fits e in
    absurd (omega (arith, x.ok))

-- a 0 is wrong at its last byte
pub nonzero_zero : (n : ℕ) (before after : List ℕ) → n ≡ 0 → Met u64_format (Ok n) before after → Met nonzero_format (Err (InvalidEnum 0)) before after
nonzero_zero n before after e m = record {
  first = record {
    front = replicate 7 0;
    rest = after;
    place = m.first.1 ∙ ap (λ (k : ℕ). to_be_bytes w64 k ++ after) e;
    inside = record { next = 1; begins = record { value = record { value = 1; ok = omega arith }; rest = []; fits = omega arith; whole = refl } };
    none = λ b. zero_spelled b.value b.rest b.fits b.whole;
  };
  taken = m.taken;
}

pub write_nonzero : {E : Type 0} (x : NonZeroU64) (n : ℕ) (result : Result (Unit {0}) E) (before after : List ℕ) → n ≡ non_zero_u64_get x → Writes u64_format n result before after → Writes nonzero_format x result before after
write_nonzero x n result before after e w =
    let w' : Writes u64_format x.value result before after = subst (λ (k : ℕ). Writes u64_format k result before after) e w in
    record { fits = w'.fits; appended = w'.appended; kept = w.kept }

-- ---- the two cases

abbrev pub range_format : Format (Location × Location)
range_format = both location_format location_format

pub range_alone : IsFormat range_format
range_alone = IsFormat-both location_format location_format location_alone location_alone

abbrev pub asked_format : Format ((Location × Location) × NonZeroU64)
asked_format = both range_format nonzero_format

abbrev pub to_request : ((Location × Location) × NonZeroU64) ⊎ (Location × Location) → Request
to_request (inl p) = Operations p.0.0 p.0.1 p.1
to_request (inr p) = Boundary p.0 p.1

pub request_cases : HasTwoCases request_format 0 asked_format 1 range_format to_request
request_cases = record {
  names = record {
    fits = elim [ inl p ↦ λ fits. (fits.0.0, fits.0.1, fits.1) | inr p ↦ λ fits. fits ];
    spelled = elim [ inl p ↦ λ fits. refl | inr p ↦ λ fits. refl ];
    back = λ x bytes fits e. back x fits;
  };
  up = lit< tt;
  byte = lit< tt;
  first = IsFormat-both range_format nonzero_format range_alone nonzero_alone;
  second = range_alone;
} where
  back : (x : Request) → request_fits x → (p : ((Location × Location) × NonZeroU64) ⊎ (Location × Location)) × (two_cases 0 asked_format 1 range_format).fits p × (x ≡ to_request p)
  back (Operations size start max_ops) fits = (inl ((size, start), max_ops), ((fits.0, fits.1), fits.2), refl)
  back (Boundary size start) fits = (inr (size, start), fits, refl)

pub request_tags : IsTaggedBy request_format (λ n. (n ≡ 0) ⊎ (n ≡ 1))
request_tags = two_tags request_cases

pub operations_case : Rest request_format (0 ∷ []) asked_format (λ p. Operations p.0.0 p.0.1 p.1)
operations_case = first_case request_cases

pub boundary_case : Rest request_format (1 ∷ []) range_format (λ p. Boundary p.0 p.1)
boundary_case = second_case request_cases
