-- Chains are cut where the databases are.
use Rattle.std.proofs.Common.{◌≡◌, ◌⊎◌, ◌++◌, inl, inr, List, [], ◌∷◌, refl, ap, ◌∙◌, subst}
use Rattle.stateful_base.specs.Names.{Named}
use Rattle.stateful_base.specs.declared.digest.Digest.{Digest}
use Rattle.stateful_exec_model.specs.Workings.{Workings, Point}
use Rattle.stateful_exec_laws.specs.Chains.{Stacked, here, further}

module _ {B C I P R D H G U : Type 0} (w : Workings B C I P R D H G U) (points : Digest → Point w) (Led : w.States → Named B → w.States → Type 0) (first : Digest) (point : Point w) (first_is : points first ≡ point) where
  -- the chain of a block above the first goes through the first's point, and is one too where it is cut behind it
  pub record CutBelow (d : Digest) (chain : List (Point w)) : Type 0 where
    pub above : List (Point w)
    pub older : List (Point w)
    pub is : chain ≡ points d ∷ above ++ point ∷ older
    pub cut : Stacked w points Led first d (points d ∷ above ++ point ∷ [])

  top : {d : Digest} {at : Point w} {c : List (Point w)} → Stacked w points Led first d (at ∷ c) → at ≡ points d
  top (here e at_is) = at_is
  top (further e at_is s ne l) = at_is

  -- a block is the first, or its chain is cut
  pub split : {d : Digest} {chain : List (Point w)} → Stacked w points Led first d chain → (d ≡ first) ⊎ CutBelow d chain
  split (here e at_is) = inl e
  split (further {d = d} {at = at} {q = q} {c = c} {b = b} e at_is s ne l) = inr (go (split s))
    where
      parent : Digest
      parent = w.header.parent b.block

      go : (w.header.parent b.block ≡ first) ⊎ CutBelow (w.header.parent b.block) (q ∷ c) → CutBelow d (at ∷ q ∷ c)
      go (inl same) =
          let q_is : q ≡ point = top s ∙ ap points same ∙ first_is in
          record {
            above = [];
            older = c;
            is = ap (λ (x : Point w). x ∷ q ∷ c) at_is ∙ ap (λ (x : Point w). points d ∷ x ∷ c) q_is;
            cut = subst (λ (x : Point w). Stacked w points Led first d (points d ∷ x ∷ [])) q_is
                (subst (λ (x : Point w). Stacked w points Led first d (x ∷ q ∷ [])) at_is (further e at_is (here same (top s)) ne l));
          }
      go (inr r) = record {
        above = points (w.header.parent b.block) ∷ r.above;
        older = r.older;
        is = ap (λ (x : Point w). x ∷ q ∷ c) at_is ∙ ap (λ l. points d ∷ l) r.is;
        cut = further e refl r.cut ne (subst (λ (x : Point w). Led x.1 b (points d).1) (top s) (subst (λ (x : Point w). Led q.1 b x.1) at_is l));
      }
