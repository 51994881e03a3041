-- Walks, block by block.
use Rattle.std.proofs.Common.{◌≡◌, ◌↔◌, ◌<◌, ◌≤◌, ◌++◌, ◌∷◌, [], ℕ, ◌+◌, List, Bool, false, length, get_or, take, drop, refl, sym, ◌∙◌, ap, subst, append_assoc, append-nil, inl, inr, IsTrue}
use Rattle.std.proofs.Math.ListN.{drop_of_length-le}
use Rattle.std.proofs.lemmas.List.{take-append-drop, take_more, drop_more}
use Rattle.std.proofs.lemmas.List.Elements.{All-nil, All-push}
use Rattle.stateful_base.specs.Names.{Header, Named}
use Rattle.stateful_base.specs.declared.digest.Digest.{Digest}
use Rattle.stateful_base.specs.declared.anchor.Anchor.{Anchor}
use Rattle.stateful_exec_cache.specs.Cache.{IsAtHand}
use Rattle.stateful_exec_cache.specs.declared.cache.Cached.{Cached}
use Rattle.stateful_exec_walk.specs.Path.{Path, IsOneAbove, Descends, IsMissing, IsCovered, Leads}
use Rattle.stateful_exec_walk.specs.Walk.{Walks, IsNeeded}
use Rattle.stateful_exec_walk.specs.Walk.IsNeeded.{child}
use Rattle.stateful_exec_walk.specs.declared.walk.Acquired.{Acquired}
use Rattle.stateful_exec_walk.specs.declared.walk.Acquired.TheVariants.{Invalid, Ask, Ready}

-- a test that failed refutes what it tests
pub refused : (r : Bool) (P : Type 0) → (IsTrue r ↔ P) → r ≡ false → P → ⊥
refused r P is f p = let t : IsTrue r = is.1 p in cc

-- the element of a place is the first of those from there on
drop_at : {X : Type 0} (xs : List X) (i : ℕ) (x : X) → i < length xs → x ≡ get_or xs i x → drop i xs ≡ x ∷ drop (i + 1) xs
drop_at xs i x l e = drop_more xs i x l ∙ ap (λ z. z ∷ drop (i + 1) xs) (sym e)

take_at : {X : Type 0} (xs : List X) (i : ℕ) (x : X) → i < length xs → x ≡ get_or xs i x → take (i + 1) xs ≡ take i xs ++ x ∷ []
take_at xs i x l e = take_more xs i x l ∙ ap (λ z. take i xs ++ z ∷ []) (sym e)

module _ {B U : Type 0} (header : Header B) (anchor : Anchor) (cache : List (Cached U)) where
  pub not_at_hand : (b : Named B) (r : Bool) (d : Digest) → d ≡ b.digest → (IsTrue r ↔ IsAtHand anchor cache d) → r ≡ false → IsAtHand anchor cache b.digest → ⊥
  not_at_hand b r d e is f h = let t : IsTrue r = is.1 (subst (λ (x : Digest). IsAtHand anchor cache x) (sym e) h) in cc

  -- a walk of these blocks has come to the path's end, and put those that it passed below those on top
  pub record Reaches (top blocks : List (Named B)) (path : Path B) : Type 0 where
    pub missing : List (Named B)
    pub joined : path.blocks ≡ top ++ missing
    pub leads : Leads header anchor cache blocks missing path.parent []

  -- a walk begins at the path's end
  pub Reaches-first : (path : Path B) → Reaches path.blocks (path.parent ∷ []) path
  Reaches-first path = record {
    missing = [];
    joined = simp append-nil;
    leads = record { parts = refl; each = All-nil (IsMissing header anchor cache); descends = tt };
  }

  Descends-push : (blocks : List (Named B)) (last next : Named B) → IsOneAbove header last next → Descends header (blocks ++ last ∷ []) → Descends header ((blocks ++ last ∷ []) ++ next ∷ [])
  Descends-push [] last next above d = (above, tt)
  Descends-push (x ∷ []) last next above d = (d.0, (above, tt))
  Descends-push (x ∷ y ∷ ys) last next above d = (d.0, Descends-push (y ∷ ys) last next above d.1)

  module _ (top : List (Named B)) (first : Named B) (acquired : List (Named B)) (i : ℕ) (path : Path B) (reached : Reaches top (first ∷ take i acquired) path) where
    -- what follows the path's end is what is left
    Leads-left : Leads header anchor cache (first ∷ acquired) reached.missing path.parent (drop i acquired)
    Leads-left = record {
      parts = ap (λ bs. first ∷ bs) (sym (take-append-drop i acquired)) ∙ ap (λ bs. bs ++ drop i acquired) reached.leads.parts ∙ append_assoc reached.missing (path.parent ∷ []) (drop i acquired);
      each = reached.leads.each;
      descends = reached.leads.descends;
    }

    -- a missing block is passed
    pub Reaches-next : (next : Named B) → i < length acquired → next ≡ get_or acquired i next → IsMissing header anchor cache path.parent → IsOneAbove header path.parent next
        → Reaches top (first ∷ take (i + 1) acquired) (record { blocks = path.blocks ++ path.parent ∷ []; parent = next })
    Reaches-next next l e missing above = record {
      missing = reached.missing ++ path.parent ∷ [];
      joined = ap (λ bs. bs ++ path.parent ∷ []) reached.joined ∙ append_assoc top reached.missing (path.parent ∷ []);
      leads = record {
        parts = ap (λ bs. first ∷ bs) (take_at acquired i next l e) ∙ ap (λ bs. bs ++ next ∷ []) reached.leads.parts;
        each = All-push (IsMissing header anchor cache) reached.missing path.parent reached.leads.each missing;
        descends = Descends-push reached.missing path.parent next above reached.leads.descends;
      };
    }

    -- the path's end is at hand
    pub Walks-ready : IsAtHand anchor cache path.parent.digest → Walks header anchor cache top (first ∷ acquired) (Ready path)
    Walks-ready known = (reached.missing, drop i acquired, reached.joined, Leads-left, known)

    pub Walks-covered : IsCovered header anchor cache path.parent → Walks header anchor cache top (first ∷ acquired) Invalid
    Walks-covered covered = (reached.missing, path.parent, drop i acquired, Leads-left, inl covered)

    -- the next block isn't the parent
    pub Walks-broken : (next : Named B) → i < length acquired → next ≡ get_or acquired i next → IsMissing header anchor cache path.parent → (IsOneAbove header path.parent next → ⊥)
        → Walks header anchor cache top (first ∷ acquired) Invalid
    Walks-broken next l e missing other =
        (reached.missing, path.parent, drop i acquired, Leads-left, inr (missing, (next, drop (i + 1) acquired, drop_at acquired i next l e, other)))

    -- no block is left
    pub Walks-ask : length acquired ≤ i → IsMissing header anchor cache path.parent → (digest : Digest) → digest ≡ header.parent path.parent.block → Walks header anchor cache top (first ∷ acquired) (Ask digest)
    Walks-ask l missing digest e = (
      reached.missing,
      path.parent,
      subst (λ (bs : List (Named B)). Leads header anchor cache (first ∷ acquired) reached.missing path.parent bs) (drop_of_length-le acquired l) Leads-left,
      missing,
      e,
    )

  -- a run on this parent needs what a walk from it finds
  pub IsNeeded-child : (b parent : Named B) (acquired : List (Named B)) (path : Path B) (found : Acquired B) → path ≡ record { blocks = b ∷ []; parent = parent } → parent.digest ≡ header.parent b.block
      → Walks header anchor cache path.blocks (path.parent ∷ acquired) found → IsNeeded header anchor cache b (parent ∷ acquired) found
  IsNeeded-child b parent acquired path found is e walks = child refl e (subst (λ (p : Path B). Walks header anchor cache p.blocks (p.parent ∷ acquired) found) is walks)
