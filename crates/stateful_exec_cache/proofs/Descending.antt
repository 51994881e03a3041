-- The digests of descendants, entry by entry.
use Rattle.std.proofs.Common.{◌≡◌, ◌≢◌, ◌↔◌, ◌⊎◌, ◌<◌, inl, inr, ℕ, suc, List, [], ◌∷◌, ◌++◌, length, refl, sym, ◌∙◌, ap, subst, Any, Contains, take, get_or, arith}
use Rattle.std.proofs.Math.Seq.{take-suc}
use Rattle.std.proofs.lemmas.List.Elements.{Contains-push_cases, Contains-push}
use Rattle.stateful_base.specs.Round.{IsLater}
use Rattle.stateful_base.specs.declared.digest.Digest.{Digest}
use Rattle.stateful_base.specs.declared.anchor.Anchor.{Anchor}
use Rattle.stateful_exec_cache.specs.Cache.{IsIn}
use Rattle.stateful_exec_cache.specs.Cut.{GoesOn, DescendsFrom, AreDescendants}
use Rattle.stateful_exec_cache.specs.declared.cache.Cached.{Cached}
use Rattle.stateful_exec_cache.proofs.Cutting.{Cuts, none, keeps, drops, Any-from, Any-longer, IsCutTo-from}

pub from_either : {X Y Z : Type 0} → (X → Z) → (Y → Z) → X ⊎ Y → Z
from_either f g (inl x) = f x
from_either f g (inr y) = g y

module _ {U : Type 0} (root : Anchor) where
  -- the entries so far, those that would be kept of them, and the digests of these
  pub record Gathers (entries : List (Cached U)) (digests : List Digest) : Type 0 where
    pub kept : List (Cached U)
    pub cuts : Cuts root entries kept
    pub each : (d : Digest) → Contains digests d ↔ IsIn kept d

  pub Gathers-first : (digests : List Digest) → ((d : Digest) → Contains digests d → ⊥) → Gathers [] digests
  Gathers-first digests empty = record { kept = []; cuts = none; each = λ d. (λ c. absurd (empty d c), λ any. absurd (omega (arith, any.2))) }

  is_pushed : (ks : List (Cached U)) (e : Cached U) (d : Digest) → IsIn (ks ++ e ∷ []) d → (e.digest ≡ d) ⊎ IsIn ks d
  is_pushed ks e d any = go (Contains-push_cases ks e any.1 (any.0, any.2, any.3))
    where
      go : Contains ks any.1 ⊎ (e ≡ any.1) → (e.digest ≡ d) ⊎ IsIn ks d
      go (inl c) = inr (Any-from (λ (k : Cached U). k.digest ≡ d) ks any.1 c any.4)
      go (inr is) = inl (ap (λ (k : Cached U). k.digest) is ∙ any.4)

  module _ (es : List (Cached U)) (i : ℕ) (within : i < length es) (e : Cached U) (here : get_or es i e ≡ e) (digests now : List Digest) (gathers : Gathers (take i es) digests) (n : ℕ) (above : n ≡ suc i) where
    next : take n es ≡ take i es ++ e ∷ []
    next = ap (λ m. take m es) above ∙ take-suc es i e within ∙ ap (λ x. take i es ++ x ∷ []) here

    behind : DescendsFrom root digests e → GoesOn root gathers.kept e
    behind d = go d.behind
      where
        go : (e.parent ≡ root.digest) ⊎ Contains digests e.parent → GoesOn root gathers.kept e
        go (inl is) = inl is
        go (inr c) = inr ((gathers.each e.parent).0 c)

    -- the entry's digest was added
    pub Gathers-more : DescendsFrom root digests e → ((d : Digest) → Contains now d ↔ ((d ≡ e.digest) ⊎ Contains digests d)) → Gathers (take n es) now
    Gathers-more d more = record {
      kept = gathers.kept ++ e ∷ [];
      cuts = keeps (take i es) gathers.kept e gathers.cuts next refl d.other d.later (behind d);
      each = λ x. (λ c. into x ((more x).0 c), λ any. (more x).1 (out x (is_pushed gathers.kept e x any)));
    }
      where
        into : (x : Digest) → (x ≡ e.digest) ⊎ Contains digests x → IsIn (gathers.kept ++ e ∷ []) x
        into x (inl is) = Any-from (λ (k : Cached U). k.digest ≡ x) (gathers.kept ++ e ∷ []) e (Contains-push gathers.kept e) (sym is)
        into x (inr c) = Any-longer (λ (k : Cached U). k.digest ≡ x) gathers.kept e ((gathers.each x).0 c)

        out : (x : Digest) → (e.digest ≡ x) ⊎ IsIn gathers.kept x → (x ≡ e.digest) ⊎ Contains digests x
        out x (inl is) = inl (sym is)
        out x (inr any) = inr ((gathers.each x).1 any)

    -- it wasn't
    pub Gathers-same : (DescendsFrom root digests e → ⊥) → Gathers (take n es) digests
    Gathers-same not = record {
      kept = gathers.kept;
      cuts = drops (take i es) e gathers.cuts next (λ other later goes. not (record { other = other; later = later; behind = back goes }));
      each = gathers.each;
    }
      where
        back : GoesOn root gathers.kept e → (e.parent ≡ root.digest) ⊎ Contains digests e.parent
        back (inl is) = inl is
        back (inr any) = inr ((gathers.each e.parent).1 any)

  pub Gathers-all : (es : List (Cached U)) (digests : List Digest) → Gathers es digests → AreDescendants root es digests
  Gathers-all es digests g = record { kept = g.kept; cut = IsCutTo-from root es g.kept g.cuts; each = g.each }
