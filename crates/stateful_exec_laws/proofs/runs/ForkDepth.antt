-- A fork is as deep as the path of the block over which it is made.
use Rattle.std.proofs.Common.{◌≡◌, ◌⊎◌, ◌++◌, inl, inr, ℕ, List, [], ◌∷◌, All, Option, length, suc, refl, sym, ap, ◌∙◌, subst, arith}
use Rattle.std.proofs.lemmas.List.Elements.{All-contains, All-cons, All-nil}
use Rattle.stateful_base.specs.Names.{Named}
use Rattle.stateful_base.specs.declared.digest.Digest.{Digest}
use Rattle.stateful_base.specs.declared.outcome.Finality.TheVariants.{Candidate}
use Rattle.stateful_history.specs.Past.{Past}
use Rattle.stateful_history.specs.Met.{Met}
use Rattle.stateful_exec_cache.specs.declared.cache.Cached.{Cached}
use Rattle.stateful_exec_model.specs.Building.{IsNewBuild}
use Rattle.stateful_exec_model.specs.Starting.{IsOver, databases, batch, IsFresh}
use Rattle.stateful_exec_model.specs.Workings.{Workings, Point}
use Rattle.stateful_exec_tables.specs.declared.state.Tables.{Tables}
use Rattle.stateful_exec_laws.specs.Setting.{setting}
use Rattle.stateful_exec_laws.specs.Chains.{Stacked, here, further, Leads}
use Rattle.stateful_exec_laws.specs.Caching.{IsCached}
use Rattle.stateful_exec_laws.specs.Depth.{LeadDown, IsAsDeepAsItsPath, IsFooting, RunsAreAsDeep, BuildsAreAsDeep}

module _ {B C I P R D H G U : Type 0} (w : Workings B C I P R D H G U) (stored : ℕ → Option (Named B)) (p : Past B C I) (points : Digest → Point w) (first : Digest) (point : Point w) (first_is : points first ≡ point) where
  -- the chain of a block above the first one: a point for each block down to it, then its own, and older ones
  record Laddered (d : Digest) (chain : List (Point w)) : Type 0 where
    pub at : Point w
    pub above : List (Point w)
    pub older : List (Point w)
    pub is : chain ≡ at ∷ above ++ point ∷ older
    pub blocks : List (Named B)
    pub met : All (Met (setting w stored) p) blocks
    pub down : LeadDown w first d blocks
    pub many : length (at ∷ above) ≡ length blocks

  top : {d : Digest} {at : Point w} {c : List (Point w)} → Stacked w points (Leads w stored p) first d (at ∷ c) → at ≡ points d
  top (here e at_is) = at_is
  top (further e at_is s ne l) = at_is

  laddered : {d : Digest} {chain : List (Point w)} → Stacked w points (Leads w stored p) first d chain → (d ≡ first) ⊎ Laddered d chain
  laddered (here e at_is) = inl e
  laddered (further {d = d} {at = at} {q = q} {c = c} {b = b} e at_is s ne l) = inr (go (laddered s))
    where
      go : (w.header.parent b.block ≡ first) ⊎ Laddered (w.header.parent b.block) (q ∷ c) → Laddered d (at ∷ q ∷ c)
      go (inl same) =
          let q_is : q ≡ point = top s ∙ ap points same ∙ first_is in
          record {
            at = at;
            above = [];
            older = c;
            is = ap (λ (x : Point w). at ∷ x ∷ c) q_is;
            blocks = b ∷ [];
            met = All-cons (Met (setting w stored) p) b [] l.met (All-nil (Met (setting w stored) p));
            down = (e, ne, same);
            many = refl;
          }
      go (inr r) = record {
        at = at;
        above = r.at ∷ r.above;
        older = r.older;
        is = ap (λ l. at ∷ l) r.is;
        blocks = b ∷ r.blocks;
        met = All-cons (Met (setting w stored) p) b r.blocks l.met r.met;
        down = (e, ne, r.down);
        many = ap suc r.many;
      }

  length-above : (above : List (Point w)) → length (above ++ point ∷ []) ≡ suc (length above)
  length-above [] = refl
  length-above (x ∷ xs) = ap suc (length-above xs)

module _ {B C I P R D H G U : Type 0} (w : Workings B C I P R D H G U) (stored : ℕ → Option (Named B)) (p : Past B C I) (points : Digest → Point w) (point : Point w) (next now : w.Ids)
    (m : w.kind.Members) (old new : Tables B C I R U) (f : IsFooting w stored p points point next now m old new) (Has : Point w → List (Point w) → Type 0) (parent : Digest) where
  ladder_of : (e : Cached U) (c : IsCached w stored p points next old.anchor e) → (e.digest ≡ old.anchor.digest) ⊎ Laddered w stored p points old.anchor.digest point f.stands.at_anchor e.digest (points e.digest ∷ c.below)
      → (e.digest ≡ old.anchor.digest → ⊥) → Laddered w stored p points old.anchor.digest point f.stands.at_anchor e.digest (points e.digest ∷ c.below)
  ladder_of e c (inl same) ne = absurd (ne same)
  ladder_of e c (inr l) ne = l

  pub as_deep : IsOver w old.anchor.digest old.cache m next now Has parent → IsAsDeepAsItsPath w stored p Has old.anchor.digest parent
  as_deep (databases same over) = record {
    at = point;
    below = [];
    has = (over point f.located f.drawn).0;
    blocks = [];
    met = All-nil (Met (setting w stored) p);
    down = same;
    deep = refl;
  }
  as_deep (batch e other contains is over) =
      let cached = All-contains (IsCached w stored p points next old.anchor) old.cache e f.stands.cache.each contains in
      let l = ladder_of e cached (laddered w stored p points old.anchor.digest point f.stands.at_anchor cached.chain) (λ same. other (sym is ∙ same)) in
      let shown = subst (λ x. w.shows e.batch x) l.is cached.shows in
      let issued = subst (λ x. w.kind.issued next x) l.is cached.drawn in
      record {
        at = l.at;
        below = l.above ++ point ∷ [];
        has = (over point l.at l.above l.older f.located shown issued).0;
        blocks = l.blocks;
        met = l.met;
        down = subst (λ d. LeadDown w old.anchor.digest d l.blocks) is l.down;
        deep = let above = length-above w stored p points old.anchor.digest point f.stands.at_anchor l.above in let many = l.many in omega (arith, above, many);
      }

module _ {B C I P R D H G U : Type 0} (w : Workings B C I P R D H G U) (stored : ℕ → Option (Named B)) (p : Past B C I) (points : Digest → Point w) (point : Point w) (next now : w.Ids) (m : w.kind.Members) (old new : Tables B C I R U) where
  pub runs-as-deep : RunsAreAsDeep w stored p points point next now m old new
  runs-as-deep b parent f run = as_deep w stored p points point next now m old new f (λ q c. IsFresh w run.run Candidate b parent next q c) parent.digest run.over

  pub builds-as-deep : BuildsAreAsDeep w stored p points point next now m old new
  builds-as-deep t provider build f start =
      as_deep w stored p points point next now m old new f (λ q c. IsNewBuild w start.live start.proposal provider next q c) start.proposal.ancestry.first.digest start.over
