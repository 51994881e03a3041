-- Lists of items are a format where the items are one.
use Rattle.std.proofs.Common.{◌≡◌, ℕ, zero, suc, ◌^◌, ◌<◌, List, [], ◌∷◌, ◌++◌, length, All, refl}
use Rattle.std.proofs.Common.{sym, ap, subst, ◌∙◌, arith}
use Rattle.std.specs.List.{flat_map}
use Rattle.std.proofs.lemmas.List.{nil_from_length}
use Rattle.std.proofs.lemmas.List.Elements.{All-nil, All-cons, All-head, All-tail}
use Rattle.stateful_base.specs.Format.{Format, IsFormat}
use Rattle.stateful_base.specs.Number.{u32_format}
use Rattle.stateful_types.specs.Items.{exactly_format, items_format}
use Rattle.stateful_base.specs.FormatLaws.{Rest, Rest-format, Rest-alone, same_first, both}
use Rattle.stateful_base.specs.FormatLaws.{IsFormat-both}
use Rattle.stateful_base.specs.FixedLaws.{u32_alone}

abbrev pub cons : {A : Type 0} → A × List A → List A
cons p = p.0 ∷ p.1

-- one item more is that item and the others
pub Rest-cons : {A : Type 0} (item : Format A) (n : ℕ)
    → Rest (exactly_format (suc n) item) [] (both item (exactly_format n item)) cons
Rest-cons {A} item n = record {
  fits = λ p fits. (ap suc fits.1.0, All-cons item.fits p.0 p.1 fits.0 fits.1.1);
  spelled = λ p fits. refl;
  back = λ xs bytes fits e. back xs fits.0 fits.1;
} where
  back : (xs : List A)
      → length xs ≡ suc n
      → All item.fits xs
      → (p : A × List A) × (both item (exactly_format n item)).fits p × (xs ≡ cons p)
  back [] len all = absurd (omega arith)
  back (x ∷ xs) len all =
      ((x, xs), (All-head item.fits x xs all, (omega arith, All-tail item.fits x xs all)), refl)

module _ {A : Type 0} (item : Format A) (law : IsFormat item) where
  pub exactly_alone : (n : ℕ) → IsFormat (exactly_format n item)
  exactly_alone zero = record {
    some = ([], (refl, All-nil item.fits));
    alone = λ xs ys rest fits fits' e. nil_from_length xs fits.0 ∙ sym (nil_from_length ys fits'.0);
  }
  exactly_alone (suc n) =
      Rest-format (exactly_format (suc n) item) (both item (exactly_format n item)) cons
      (Rest-cons item n) (IsFormat-both item (exactly_format n item) law (exactly_alone n))

  -- behind the number of items stand so many
  pub Rest-counted : (n : ℕ)
      → n < 2 ^ 32
      → Rest (items_format item) (u32_format.spelling n) (exactly_format n item) (λ xs. xs)
  Rest-counted n lt = record {
    fits = λ xs fits. (subst (λ (k : ℕ). k < 2 ^ 32) (sym fits.0) lt, fits.1);
    spelled = λ xs fits. ap (λ (k : ℕ). u32_format.spelling k ++ flat_map item.spelling xs) fits.0;
    back =
        λ xs bytes fits e. (
          xs,
          (
            same_first u32_format u32_alone (length xs) n
                (flat_map item.spelling xs) bytes fits.0 lt e,
            fits.1,
          ),
          refl,
        );
  }

  pub items_alone : IsFormat (items_format item)
  items_alone = record {
    some = ([], (omega arith, All-nil item.fits));
    alone = λ xs ys rest fits fits' e.
        Rest-alone (items_format item) (u32_format.spelling (length xs))
        (exactly_format (length xs) item) (λ zs. zs) (Rest-counted (length xs) fits.0)
        (exactly_alone (length xs)) xs ys rest (flat_map item.spelling xs) fits fits' refl e;
  }
