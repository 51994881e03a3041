-- What holds over the states of a block at hand holds on the block's chain.
use Rattle.std.proofs.Common.{◌≡◌, ◌++◌, ◌⊎◌, inl, inr, ℕ, List, [], ◌∷◌, Option, Some, refl, sym, ap, ◌∙◌, subst}
use Rattle.std.proofs.lemmas.List.Elements.{All-contains}
use Rattle.stateful_base.specs.Names.{Named}
use Rattle.stateful_base.specs.declared.digest.Digest.{Digest}
use Rattle.stateful_history.specs.Past.{Past}
use Rattle.stateful_exec_cache.specs.declared.cache.Cached.{Cached}
use Rattle.stateful_exec_model.specs.Starting.{IsOver, databases, batch}
use Rattle.stateful_exec_model.specs.Workings.{Workings, Point}
use Rattle.stateful_exec_tables.specs.declared.state.Tables.{Tables}
use Rattle.stateful_exec_laws.specs.Chains.{Chain, Leads, here}
use Rattle.stateful_exec_laws.specs.Caching.{IsCached}
use Rattle.stateful_exec_laws.specs.Standing.{TablesStand}
use Rattle.stateful_exec_laws.proofs.front.Cutting.{CutBelow, split}

module _ {B C I P R D H G U : Type 0} (w : Workings B C I P R D H G U) (stored : ℕ → Option (Named B)) (p : Past B C I) (points : Digest → Point w) (point : Point w) (next : w.Ids) (old : Tables B C I R U) (s : TablesStand w stored p points point next old)
    (now : w.Ids) (members : w.kind.Members) (located : w.kind.point members ≡ Some point) (drawn : w.kind.issued next (point ∷ [])) (Has : Point w → List (Point w) → Type 0) (parent : Digest) where
  -- it holds on the chain of the block, above which ids were drawn
  pub record IsOnChain : Type 0 where
    pub below : List (Point w)
    pub chain : Chain w stored p points old.anchor.digest parent (points parent ∷ below)
    pub has : Has (points parent) below
    pub issued : w.kind.issued now ((next, w.kind.begun (points parent).1) ∷ points parent ∷ below)

  cut_of : (e : Cached U) (c : IsCached w stored p points next old.anchor e) → (e.digest ≡ old.anchor.digest) ⊎ CutBelow w points (Leads w stored p) old.anchor.digest point s.at_anchor e.digest (points e.digest ∷ c.below)
      → (e.digest ≡ old.anchor.digest → ⊥) → CutBelow w points (Leads w stored p) old.anchor.digest point s.at_anchor e.digest (points e.digest ∷ c.below)
  cut_of e c (inl same) ne = absurd (ne same)
  cut_of e c (inr cut) ne = cut

  -- what holds over the states of the block holds on its chain
  pub on_chain : IsOver w old.anchor.digest old.cache members next now Has parent → IsOnChain
  on_chain (databases same over) =
      let at_point : points parent ≡ point = ap points same ∙ s.at_anchor in
      let got = over point located drawn in
      record {
        below = [];
        chain = here same refl;
        has = subst (λ (q : Point w). Has q []) (sym at_point) got.0;
        issued = subst (λ (q : Point w). w.kind.issued now ((next, w.kind.begun q.1) ∷ q ∷ [])) (sym at_point) got.1;
      }
  on_chain (batch e other contains is over) =
      let cached = All-contains (IsCached w stored p points next old.anchor) old.cache e s.cache.each contains in
      let cut = cut_of e cached (split w points (Leads w stored p) old.anchor.digest point s.at_anchor cached.chain) (λ same. other (sym is ∙ same)) in
      let shown = subst (λ l. w.shows e.batch l) cut.is cached.shows in
      let issued_before = subst (λ l. w.kind.issued next l) cut.is cached.drawn in
      let got = over point (points e.digest) cut.above cut.older located shown issued_before in
      record {
        below = cut.above ++ point ∷ [];
        chain = subst (λ x. Chain w stored p points old.anchor.digest x (points x ∷ cut.above ++ point ∷ [])) is cut.cut;
        has = subst (λ x. Has (points x) (cut.above ++ point ∷ [])) is got.0;
        issued = subst (λ x. w.kind.issued now ((next, w.kind.begun (points x).1) ∷ points x ∷ cut.above ++ point ∷ [])) is got.1;
      }
