-- The index of a cache: with an entry more, and what is found by it.
use Rattle.std.proofs.Common.{◌≡◌, ◌≢◌, ◌<◌, ◌++◌, ◌∷◌, [], ℕ, zero, suc, Bool, true, false, cond, List, Some, None, MatchOption, length, get_or, slice_get, refl, sym, ◌∙◌, ap, subst, arith}
use Rattle.std.specs.Ordering.{is_eq}
use Rattle.std.specs.BTreeMap.{BTreeMap, get, Updates, IsUnchanged}
use Rattle.std.specs.Map.{lookup}
use Rattle.std.proofs.lemmas.Map.Text.{is_eq-slice_cmp}
use Rattle.std.proofs.lemmas.Slice.Eq.{bytes_eq-Decides}
use Rattle.std.proofs.lemmas.List.Elements.{All-weaker, All-push}
use Rattle.stateful_base.specs.declared.digest.Digest.{Digest}
use Rattle.stateful_base.specs.Digest.{digest_cmp}
use Rattle.stateful_exec_cache.specs.Index.{IsIndex}
use Rattle.stateful_exec_cache.proofs.Digests.{same_digest}
use Rattle.stateful_exec_cache.specs.declared.cache.Cached.{Cached}

module _ {X : Type 0} where
  -- the element of a place, with what is known of it
  pub found_at : (P : X → Type 0) (xs : List X) (i : ℕ) (x : X) → MatchOption (slice_get xs i) ⊥ P → x ≡ get_or xs i x → (slice_get xs i ≡ Some x) × P x × (i < length xs)
  found_at P [] i x m e = absurd m
  found_at P (y ∷ ys) zero x m e = (ap Some (sym e), subst P (sym e) m, omega arith)
  found_at P (y ∷ ys) (suc i) x m e = let h = found_at P ys i x m e in (h.0, h.1, omega (arith, h.2))

  pub within : (P : X → Type 0) (xs : List X) (i : ℕ) → MatchOption (slice_get xs i) ⊥ P → i < length xs
  within P [] i m = absurd m
  within P (y ∷ ys) zero m = omega arith
  within P (y ∷ ys) (suc i) m = let h = within P ys i m in omega (arith, h)

  at_end : (P : X → Type 0) (xs : List X) (x : X) → P x → MatchOption (slice_get (xs ++ x ∷ []) (length xs)) ⊥ P
  at_end P [] x p = p
  at_end P (y ∷ ys) x p = at_end P ys x p

  at_front : (P : X → Type 0) (xs ys : List X) (i : ℕ) → MatchOption (slice_get xs i) ⊥ P → MatchOption (slice_get (xs ++ ys) i) ⊥ P
  at_front P [] ys i m = absurd m
  at_front P (x ∷ xs) ys zero m = m
  at_front P (x ∷ xs) ys (suc i) m = at_front P xs ys i m

module _ {U : Type 0} (entries : List (Cached U)) (e : Cached U) (places next : BTreeMap Digest ℕ) (found : IsIndex entries places) (puts : Updates digest_cmp places next e.digest (Some (length entries))) where
  sound_at : (b : Bool) (d : Digest) (i : ℕ) → is_eq (digest_cmp e.digest d) ≡ b → get digest_cmp next d ≡ cond b (Some (length entries)) (get digest_cmp places d) → get digest_cmp next d ≡ Some i → MatchOption (slice_get (entries ++ e ∷ []) i) ⊥ (λ x. x.digest ≡ d)
  sound_at true d i same is at =
      let place : Some (length entries) ≡ Some i = sym is ∙ at in
      let n : length entries ≡ i = cc in
      subst (λ (k : ℕ). MatchOption (slice_get (entries ++ e ∷ []) k) ⊥ (λ x. x.digest ≡ d)) n (at_end (λ x. x.digest ≡ d) entries e (same_digest e.digest d same))
  sound_at false d i same is at = at_front (λ x. x.digest ≡ d) entries (e ∷ []) i (found.sound d i (sym is ∙ at))

  still : (b : Bool) (d : Digest) → get digest_cmp next d ≡ cond b (Some (length entries)) (get digest_cmp places d) → get digest_cmp places d ≢ None → get digest_cmp next d ≢ None
  still true d is some none = cc
  still false d is some none = some (sym is ∙ none)

  pub IsIndex-push : IsIndex (entries ++ e ∷ []) next
  IsIndex-push = record {
    sound = λ d i at. sound_at (is_eq (digest_cmp e.digest d)) d i refl (puts.0 d) at;
    complete = All-push (λ x. get digest_cmp next x.digest ≢ None) entries e
        (All-weaker (λ x. get digest_cmp places x.digest ≢ None) (λ x. get digest_cmp next x.digest ≢ None) (λ x some. still (is_eq (digest_cmp e.digest x.digest)) x.digest (puts.0 x.digest) some) entries found.complete)
        (λ none. let is = puts.1 in cc);
  }

pub IsIndex-same : {U : Type 0} (entries : List (Cached U)) (places next : BTreeMap Digest ℕ) → IsIndex entries places → IsUnchanged places next → IsIndex entries next
IsIndex-same entries places next found same =
    let at : (d : Digest) → get digest_cmp next d ≡ get digest_cmp places d = λ d. ap (λ es. lookup (λ k. is_eq (digest_cmp d k)) es) same in
    record {
      sound = λ d i is. found.sound d i (sym (at d) ∙ is);
      complete = All-weaker (λ x. get digest_cmp places x.digest ≢ None) (λ x. get digest_cmp next x.digest ≢ None) (λ x some none. some (sym (at x.digest) ∙ none)) entries found.complete;
    }
