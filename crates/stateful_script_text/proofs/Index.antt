-- The index of labels: with a label more, and what is found by it.
use Rattle.std.proofs.Common.{◌≡◌, ◌<◌, ◌+◌, ◌∷◌, [], ℕ, zero, suc, Bool, true, false, cond, List, Option, Some, None, length, get_or, drop, Bor, slice_get, refl, sym, ◌∙◌, ap, arith}
use Rattle.std.specs.Option.{option_copied}
use Rattle.std.specs.Slice.{IsGetResult}
use Rattle.std.proofs.lemmas.Option.{slice_get_read}
use Rattle.std.specs.List.{find, position_from}
use Rattle.std.specs.BTreeMap.{BTreeMap, get, Updates}
use Rattle.std.proofs.lemmas.Map.Text.{is_eq-slice_cmp}
use Rattle.stateful_base.specs.declared.digest.Digest.{Digest}
use Rattle.stateful_base.specs.Digest.{digest_cmp}
use Rattle.stateful_script_text.specs.LabelIndex.{is_of, IsIndexFrom}
use Rattle.stateful_script_text.specs.declared.shown.Label.{Label}

-- the labels with one more in front
pub IsIndex-front : (label : Label) (labels : List Label) (place : ℕ) (places next : BTreeMap Digest ℕ) → IsIndexFrom (place + 1) labels places → Updates digest_cmp places next label.digest (Some place) → IsIndexFrom place (label ∷ labels) next
IsIndex-front label labels place places next index puts d =
    puts.0 d
    ∙ ap (λ (b : Bool). cond b (Some place) (get digest_cmp places d)) (is_eq-slice_cmp label.digest.0 d.0)
    ∙ ap (λ (o : Option ℕ). cond (is_of d label) (Some place) o) (index d)

module _ {X : Type 0} (test : X → Bool) where
  -- the element at the first place where the test passes
  pub record IsFound (n : ℕ) (xs : List X) (i : ℕ) : Type 0 where
    pub offset : ℕ
    pub place : i ≡ n + offset
    pub within : offset < length xs
    pub found : find test xs ≡ slice_get xs offset

  found_at : (b : Bool) (n : ℕ) (x : X) (xs : List X) (i : ℕ) → test x ≡ b → cond b (Some n) (position_from test (n + 1) xs) ≡ Some i → (position_from test (n + 1) xs ≡ Some i → IsFound (n + 1) xs i) → IsFound n (x ∷ xs) i
  found_at true n x xs i passes at rest = record { offset = 0; place = (let e : n ≡ i = cc in omega (arith, e)); within = omega arith; found = ap (λ (b : Bool). cond b (Some x) (find test xs)) passes }
  found_at false n x xs i passes at rest =
      let f = rest at in
      record { offset = suc f.offset; place = (let p = f.place in omega (arith, p)); within = (let w = f.within in omega (arith, w)); found = ap (λ (b : Bool). cond b (Some x) (find test xs)) passes ∙ f.found }

  pub IsFound-at : (n : ℕ) (xs : List X) (i : ℕ) → position_from test n xs ≡ Some i → IsFound n xs i
  IsFound-at n [] i at = cc
  IsFound-at n (x ∷ xs) i at = found_at (test x) n x xs i refl at (IsFound-at (n + 1) xs i)

  none_at : (b : Bool) (n : ℕ) (x : X) (xs : List X) → test x ≡ b → cond b (Some n) (position_from test (n + 1) xs) ≡ None → (position_from test (n + 1) xs ≡ None → find test xs ≡ None) → find test (x ∷ xs) ≡ None
  none_at true n x xs passes none rest = cc
  none_at false n x xs passes none rest = ap (λ (b : Bool). cond b (Some x) (find test xs)) passes ∙ rest none

  -- where it passes nowhere
  pub find-none : (n : ℕ) (xs : List X) → position_from test n xs ≡ None → find test xs ≡ None
  find-none n [] none = refl
  find-none n (x ∷ xs) none = none_at (test x) n x xs refl none (find-none (n + 1) xs)

-- a list from a place on
pub drop-cons : {X : Type 0} (xs : List X) (n : ℕ) (d : X) → n < length xs → drop n xs ≡ get_or xs n d ∷ drop (suc n) xs
drop-cons [] n d l = absurd (omega (arith, l))
drop-cons (x ∷ xs) zero d l = refl
drop-cons (x ∷ xs) (suc n) d l = drop-cons xs n d (omega (arith, l))

-- what a look-up by a place below the length gives
pub copied-get : {X : Type 0} (xs : List X) (i : ℕ) (r : Option (Bor X)) → i < length xs → IsGetResult xs i i r → option_copied r ≡ slice_get xs i
copied-get xs i None l got = let some = got.2 l in cc
copied-get xs i (Some x) l got = sym (slice_get_read xs (length xs) i x.now refl l got.1)
