-- Blocks at hand are joined to the anchor: matching steps lead along the chains of the cache.
use Rattle.std.proofs.Common.{◌≡◌, ℕ, List, [], ◌∷◌, Option, inl, inr, refl, sym, ap, ◌∙◌, subst}
use Rattle.std.proofs.lemmas.List.Elements.{All-contains}
use Rattle.stateful_base.specs.Names.{Named}
use Rattle.stateful_base.specs.declared.anchor.Anchor.{Anchor}
use Rattle.stateful_base.specs.declared.digest.Digest.{Digest}
use Rattle.stateful_history.specs.Joined.{Earns, at_anchor, further as and_on, Joined}
use Rattle.stateful_history.specs.Known.{Known}
use Rattle.stateful_history.specs.Past.{Past}
use Rattle.stateful_exec_cache.specs.Cache.{IsIn, IsAtHand}
use Rattle.stateful_exec_model.specs.Workings.{Workings, Point}
use Rattle.stateful_exec_tables.specs.declared.state.Tables.{Tables}
use Rattle.stateful_exec_laws.specs.Setting.{setting}
use Rattle.stateful_exec_laws.specs.Chains.{here, further, Chain}
use Rattle.stateful_exec_laws.specs.Caching.{IsCached}
use Rattle.stateful_exec_laws.specs.Standing.{TablesStand}
pub use Rattle.stateful_exec_laws.specs.Ground.{IsFolded}

module _ {B C I P R D H G U : Type 0} (w : Workings B C I P R D H G U) (stored : ℕ → Option (Named B)) (p : Past B C I) (points : Digest → Point w) (anchor tip : Digest) (now : w.States) (now_is : (points anchor).1 ≡ now) where
  abbrev Path : Digest → w.States → Type 0
  Path d t = Earns (setting w stored) p anchor tip now d t

  -- matching steps lead along a chain
  pub Earns-from_chain : {d : Digest} {at : Point w} {c : List (Point w)} → Chain w stored p points anchor d (at ∷ c) → Earns (setting w stored) p anchor tip now d at.1
  Earns-from_chain (here {d = d} {at = at} e is) =
      let t : at.1 ≡ now = ap (λ (x : Point w). x.1) is ∙ ap (λ (x : Digest). (points x).1) e ∙ now_is in
      subst (λ (x : Digest). Path x at.1) (sym e) (subst (λ (x : w.States). Path anchor x) (sym t) at_anchor)
  Earns-from_chain (further {at = at} {b = b} e is s ne l) =
      subst (λ (x : Digest). Path x at.1) e (and_on (Earns-from_chain s) l.met (λ a. ne (sym e ∙ a)) l.matches (λ other. l.earned))

module _ {B C I P R D H G U : Type 0} (w : Workings B C I P R D H G U) (stored : ℕ → Option (Named B)) (base : w.States) (p : Past B C I) (points : Digest → Point w) (point : Point w) (next : w.Ids) (v : Tables B C I R U) (s : TablesStand w stored p points point next v)
    (tip : Anchor) (folded : IsFolded w stored base p v.anchor tip point) where
  -- a known block with a chain is joined
  pub Joined-from_chain : (d : Digest) (at : Point w) (below : List (Point w)) → Known (setting w stored) p d → Chain w stored p points v.anchor.digest d (at ∷ below) → Joined (setting w stored) base p d
  Joined-from_chain d at below known chain = record {
    known = known;
    anchor = v.anchor;
    tip = tip;
    now = point.1;
    state = at.1;
    anchored = folded.anchor_is;
    tipped = folded.tip_is;
    folded = folded.folded;
    path = Earns-from_chain w stored p points v.anchor.digest tip.digest point.1 (ap (λ (x : Point w). x.1) s.at_anchor) chain;
  }

  -- a known block with an entry in the cache is joined
  pub Joined-cached : (d : Digest) → Known (setting w stored) p d → IsIn v.cache d → Joined (setting w stored) base p d
  Joined-cached d known any =
      let c : IsCached w stored p points next v.anchor any.1 = All-contains (IsCached w stored p points next v.anchor) v.cache any.1 s.cache.each (any.0, any.2, any.3) in
      Joined-from_chain d _ c.below known (subst (λ (x : Digest). Chain w stored p points v.anchor.digest x (points any.1.digest ∷ c.below)) any.4 c.chain)

  -- the anchor is joined, where it is known
  pub Joined-anchor : (d : Digest) → Known (setting w stored) p d → d ≡ v.anchor.digest → Joined (setting w stored) base p d
  Joined-anchor d known e = Joined-from_chain d (points d) [] known (here e refl)

  -- a known block at hand is joined
  pub Joined-at_hand : (d : Digest) → Known (setting w stored) p d → IsAtHand v.anchor v.cache d → Joined (setting w stored) base p d
  Joined-at_hand d known (inl e) = Joined-anchor d known e
  Joined-at_hand d known (inr any) = Joined-cached d known any
