-- Digests in a set.
use Rattle.std.proofs.Common.{◌≡◌, ◌↔◌, ◌⊎◌, ◌||◌, inl, inr, ℕ, zero, suc, ◌<◌, Bool, true, false, cond, List, [], ◌∷◌, length, get_or, refl, sym, ◌∙◌, ap, subst, arith}
use Rattle.std.specs.Ordering.{is_eq}
use Rattle.std.specs.List.{Contains, list_any}
use Rattle.std.proofs.lemmas.Map.Text.{is_eq-slice_cmp}
use Rattle.std.proofs.lemmas.Map.Views.{Contains-from_any}
use Rattle.std.proofs.lemmas.Slice.Eq.{bytes_eq-Decides}
use Rattle.stateful_base.specs.declared.digest.Digest.{Digest}
use Rattle.stateful_base.specs.Digest.{digest_cmp}

abbrev pub same : Digest → Digest → Bool
same a b = is_eq (digest_cmp a b)

pub same_digest : (a b : Digest) → same a b ≡ true → a ≡ b
same_digest a b e = ap (λ (bs : List ℕ). record { 0 = bs }) ((bytes_eq-Decides a.0 b.0).0 (sym (is_eq-slice_cmp a.0 b.0) ∙ e))

pub same_itself : (a b : Digest) → a ≡ b → same a b ≡ true
same_itself a b e = is_eq-slice_cmp a.0 b.0 ∙ (bytes_eq-Decides a.0 b.0).1 (ap (λ (d : Digest). d.0) e)

-- a search finds a digest exactly where it is in the list
any-here : (d k : Digest) (ks : List Digest) (b : Bool) → same d k ≡ b → b ≡ true → (b || list_any (same d) ks) ≡ true
any-here d k ks true e t = refl
any-here d k ks false e t = cc

any-there : (b rest : Bool) → rest ≡ true → (b || rest) ≡ true
any-there true rest t = refl
any-there false rest t = t

any-contains : (d : Digest) (ks : List Digest) → Contains ks d → list_any (same d) ks ≡ true
any-contains d [] h = absurd (omega (arith, h.1))
any-contains d (k ∷ ks) (zero, l, e) = any-there-first (same d k) (same_itself d k (sym e))
  where
    any-there-first : (b : Bool) → b ≡ true → (b || list_any (same d) ks) ≡ true
    any-there-first true t = refl
    any-there-first false t = cc
any-contains d (k ∷ ks) (suc i, l, e) = any-there (same d k) (list_any (same d) ks) (any-contains d ks (i, omega (arith, l), e))

pub finds : (d : Digest) (ks : List Digest) → (list_any (same d) ks ≡ true) ↔ Contains ks d
finds d ks = (Contains-from_any same_digest d ks, any-contains d ks)

-- once a digest is put in, exactly this one and those before are found
pub finds_more : (k : Digest) (old new : List Digest) → ((d : Digest) → list_any (same d) new ≡ cond (same k d) true (list_any (same d) old)) → (d : Digest) → Contains new d ↔ ((d ≡ k) ⊎ Contains old d)
finds_more k old new puts d = (there (same k d) refl, back (same k d) refl)
  where
    there : (b : Bool) → same k d ≡ b → Contains new d → (d ≡ k) ⊎ Contains old d
    there true is h = inl (sym (same_digest k d is))
    there false is h = inr ((finds d old).0 (sym (puts d ∙ ap (λ x. cond x true (list_any (same d) old)) is) ∙ any-contains d new h))

    back : (b : Bool) → same k d ≡ b → (d ≡ k) ⊎ Contains old d → Contains new d
    back true is h = (finds d new).0 (puts d ∙ ap (λ x. cond x true (list_any (same d) old)) is)
    back false is (inl e) = let t : same k d ≡ true = same_itself k d (sym e) in cc
    back false is (inr h) = (finds d new).0 ((puts d ∙ ap (λ x. cond x true (list_any (same d) old)) is) ∙ any-contains d old h)
