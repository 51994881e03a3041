-- Readers of formats of fixed width, and bytes in lists.
use Rattle.std.proofs.Common.{◌≡◌, ℕ, suc, ◌+◌, ◌-◌, ◌<◌, ◌≤◌, List, [], ◌∷◌, ◌++◌, length, get_or, take, drop, replicate, All, Ok, Err, refl, sym, subst, append_assoc, length-append, arith}
use Rattle.std.proofs.lemmas.List.{take-append-drop, length-take, length-replicate, take_at, drop_at}
use Rattle.std.proofs.lemmas.List.Elements.{All-append, All-replicate, All-take, All-drop, All-from_get_or}
use Rattle.stateful_base.specs.declared.codec.CodecError.TheVariants.{EndOfBuffer}
use Rattle.stateful_base.specs.Format.{EndsInside}
use Rattle.stateful_base.specs.Number.{bytes_format}
use Rattle.stateful_base.specs.FixedLaws.{IsByte}
use Rattle.stateful_base.proofs.Formats.{Met}

-- ---- so many bytes

pub bytes_ok : (n : ℕ) (front before after : List ℕ) → n ≤ length before → front ≡ take n before → after ≡ drop n before → All IsByte before → Met (bytes_format n) (Ok front) before after
bytes_ok n front before after long e e' bytes =
    let parts : before ≡ front ++ after = rw (e, e') (sym (take-append-drop n before)) in
    record {
      first = (rw e (omega (arith, length-take n before), All-take IsByte n before bytes), parts);
      taken = (front, parts);
    }

inside_bytes : (n k : ℕ) (before : List ℕ) → length before + suc k ≡ n → All IsByte before → EndsInside (bytes_format n) before
inside_bytes n k before e bytes = record {
  next = 0;
  begins = record {
    value = before ++ replicate (suc k) 0;
    rest = replicate k 0;
    fits = (simp (length-append, length-replicate) e, All-append IsByte before (replicate (suc k) 0) bytes (All-replicate IsByte (suc k) 0 (omega arith)));
    whole = append_assoc before (0 ∷ []) (replicate k 0);
  };
}

pub bytes_short : (n : ℕ) (before after : List ℕ) → length before < n → All IsByte before → ((front : List ℕ) × (before ≡ front ++ after)) → Met (bytes_format n) (Err EndOfBuffer) before after
bytes_short n before after short bytes taken = record { first = inside_bytes n (n - (length before + 1)) before (omega arith) bytes; taken = taken }

-- what is known of a slice of bytes
pub all_bytes : (bytes : List ℕ) → ((i : ℕ) → get_or bytes i 0 < 256) → All IsByte bytes
all_bytes bytes fits = All-from_get_or IsByte bytes 0 (λ i _. fits i)

-- what holds of the elements of joined lists holds of those of each
pub All-front : {X : Type 0} (P : X → Type 0) (xs ys : List X) → All P (xs ++ ys) → All P xs
All-front P xs ys all = subst (All P) (take_at xs ys (length xs) refl) (All-take P (length xs) (xs ++ ys) all)

pub All-behind : {X : Type 0} (P : X → Type 0) (xs ys : List X) → All P (xs ++ ys) → All P ys
All-behind P xs ys all = subst (All P) (drop_at xs ys (length xs) refl) (All-drop P (length xs) (xs ++ ys) all)
