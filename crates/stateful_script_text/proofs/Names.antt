-- A block's digest, read back from its name.
use Rattle.std.proofs.Common.{◌≡◌, ℕ, List, [], ◌∷◌, Bool, true, cond, eqb, Option, Some, None, find, get_or, drop, ap, sym, refl, arith, ◌∙◌, inl, inr}
use Rattle.std.specs.Prelude.{Contains}
use Rattle.std.specs.Str.{bytes_eq}
use Rattle.std.proofs.lemmas.Bool.{cases_Bool, cond-true, cond-false, ne_eqb, both_ways}
use Rattle.std.proofs.lemmas.List.Elements.{Contains-append_right, Contains-append_cases, Contains-push_cases}
use Rattle.std.proofs.lemmas.Slice.Eq.{bytes_eq-Decides}
use Rattle.stateful_base.specs.declared.digest.Digest.{Digest}
use Rattle.stateful_script_text.specs.declared.shown.Label.{Label}
use Rattle.stateful_script_text.specs.Line.{name_or_hex, name_of}
use Rattle.stateful_script_text.specs.MarkMeaning.{TellsApart}
use Rattle.stateful_script_text.proofs.Words.{is_plain, is_plain-from_all}
use Rattle.stateful_script_text.proofs.Spelled.{bytes_of, bytes_of-hex_of, is_plain-hex_of}

module _ {X : Type 0} (p : X → Bool) where
  -- what is found is an element, and passes
  found : (xs : List X) (x : X) → find p xs ≡ Some x → Contains xs x × (p x ≡ true)
  found [] x e = absurd (cc)
  found (y ∷ ys) x e =
      elim (cases_Bool (p y)) [
        | inl passed ↦
            let here : Some y ≡ Some x = sym (cond-true (p y) (Some y) (find p ys) passed) ∙ e in
            let same : y ≡ x = cc in
            ((0, omega arith, same), ap p (sym same) ∙ passed)
        | inr failed ↦
            let rest = found ys x (sym (cond-false (p y) (Some y) (find p ys) failed) ∙ e) in
            (Contains-append_right (y ∷ []) ys x rest.0, rest.1)
      ]

  -- where an element passes, one is found
  finds : (xs : List X) (x : X) → Contains xs x → p x ≡ true → (y : X) × (find p xs ≡ Some y)
  finds [] x contains passes = absurd (omega (arith, contains.1))
  finds (y ∷ ys) x contains passes =
      elim (cases_Bool (p y)) [
        | inl passed ↦ (y, cond-true (p y) (Some y) (find p ys) passed)
        | inr failed ↦
            elim (Contains-append_cases (y ∷ []) ys x contains) [
              | inl here ↦
                  elim (Contains-push_cases [] y x here) [
                    | inl nowhere ↦ absurd (omega (arith, nowhere.1))
                    | inr same ↦ absurd (both_ways (p y) failed (ap p same ∙ passes))
                  ]
              | inr behind ↦
                  let rest = finds ys x behind passes in
                  (rest.0, cond-false (p y) (Some y) (find p ys) failed ∙ rest.1)
            ]
      ]

digest_with : List ℕ → Digest
digest_with bytes = record { 0 = bytes }

digest_or_none : Option Label → Digest
digest_or_none (Some label) = label.digest
digest_or_none None = digest_with []

-- the digest of a name
pub digest_of : List Label → List ℕ → Digest
digest_of labels text = cond (eqb (get_or text 0 0) 63) (digest_with (bytes_of (drop 1 text))) (digest_or_none (find (λ label. bytes_eq label.name text) labels))

read_back : (labels : List Label) → TellsApart labels → (d : Digest) (o : Option Label) → find (λ label. bytes_eq label.digest.0 d.0) labels ≡ o → digest_of labels (name_or_hex o d) ≡ d
unfolding digest_of digest_with digest_or_none
read_back labels tell d None e = ap digest_with (bytes_of-hex_of d.0)
read_back labels tell d (Some label) e =
    let by_digest = found (λ (other : Label). bytes_eq other.digest.0 d.0) labels label e in
    let by_name = finds (λ (other : Label). bytes_eq other.name label.name) labels label by_digest.0 ((bytes_eq-Decides label.name label.name).1 refl) in
    let other = found (λ (other : Label). bytes_eq other.name label.name) labels by_name.0 by_name.1 in
    let same_name = (bytes_eq-Decides by_name.0.name label.name).0 other.1 in
    let same_digest = tell.apart by_name.0 label other.0 by_digest.0 same_name in
    cond-false (eqb (get_or label.name 0 0) 63) _ _ (ne_eqb (get_or label.name 0 0) 63 (tell.plain label by_digest.0).1)
    ∙ ap digest_or_none by_name.1 ∙ same_digest ∙ ap digest_with ((bytes_eq-Decides label.digest.0 d.0).0 by_digest.1)

-- names tell digests apart
pub digest_of-name_of : (labels : List Label) → TellsApart labels → (d : Digest) → digest_of labels (name_of labels d) ≡ d
digest_of-name_of labels tell d = read_back labels tell d (find (λ label. bytes_eq label.digest.0 d.0) labels) refl

plain_name : (labels : List Label) → TellsApart labels → (d : Digest) (o : Option Label) → find (λ label. bytes_eq label.digest.0 d.0) labels ≡ o → is_plain (name_or_hex o d) ≡ true
plain_name labels tell d None e = is_plain-hex_of d.0
plain_name labels tell d (Some label) e =
    is_plain-from_all label.name (tell.plain label (found (λ (other : Label). bytes_eq other.digest.0 d.0) labels label e).0).0

pub is_plain-name_of : (labels : List Label) → TellsApart labels → (d : Digest) → is_plain (name_of labels d) ≡ true
is_plain-name_of labels tell d = plain_name labels tell d (find (λ label. bytes_eq label.digest.0 d.0) labels) refl
