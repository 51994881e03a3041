-- Where reasons of false verdicts and of declines are found: over a cache that stands, with an anchor and a tip of the history.
use Rattle.std.proofs.Common.{◌≡◌, inl, inr, ℕ, List, [], ◌∷◌, Option, refl, sym, ap, ◌∙◌, subst}
use Rattle.std.proofs.lemmas.List.Elements.{All-contains}
use Rattle.stateful_base.specs.Names.{Named}
use Rattle.stateful_base.specs.Anchor.{anchor_by}
use Rattle.stateful_base.specs.declared.anchor.Anchor.{Anchor}
use Rattle.stateful_base.specs.declared.digest.Digest.{Digest}
use Rattle.stateful_history.specs.Anchors.{applied, anchor_of, tip_of}
use Rattle.stateful_history.specs.Met.{Met, TrueNames}
use Rattle.stateful_history.specs.Past.{Past}
use Rattle.stateful_history.specs.Setting.{parent_of}
use Rattle.stateful_history.specs.States.{HasState}
use Rattle.stateful_history.specs.States as states
use Rattle.stateful_exec_cache.specs.Cache.{IsIn, IsAtHand}
use Rattle.stateful_exec_cache.specs.declared.cache.Cached.{Cached}
use Rattle.stateful_exec_model.specs.Workings.{Workings, Point}
use Rattle.stateful_exec_pause.specs.declared.pause.Pause.{Pause}
use Rattle.stateful_exec_pause.specs.declared.pause.Pause.TheVariants.{Free, Finalizing, Pruning}
use Rattle.stateful_exec_laws.specs.Setting.{setting}
use Rattle.stateful_exec_laws.specs.Chains.{here, further, Chain}
use Rattle.stateful_exec_laws.specs.Caching.{IsCached, CacheStands}
use Rattle.stateful_exec_laws.proofs.earned.Path.{IsFolded}
use Rattle.stateful_exec_laws.proofs.ended.Kept.{IsRoundOf}
use Rattle.stateful_exec_laws.proofs.ended.Points.{parent_at_hand}
pub use Rattle.stateful_exec_laws.specs.Ground.{IsOfBlock, IsFinal, IsTipBy, IsGround}

module _ {B C I P R D H G U : Type 0} (w : Workings B C I P R D H G U) (stored : ℕ → Option (Named B)) (base : w.States) (p : Past B C I) (points : Digest → Point w) (point : Point w) (next : w.Ids) (tip : Anchor) where
  module _ (pause : Pause) (anchor : Anchor) (cache : List (Cached U)) (g : IsGround w stored base p points point next tip pause anchor cache) where
    abbrev Entry : Cached U → Type 0
    Entry = IsCached w stored p points next anchor

    -- the entry of a cached digest
    pub entry_of : (d : Digest) → (any : IsIn cache d) → Entry any.1
    entry_of d any = All-contains Entry cache any.1 g.stands.each (any.0, any.2, any.3)

    -- blocks of the history with the anchor's digest are the anchor's
    pub top_is : (b : Named B) → Met (setting w stored) p b → b.digest ≡ anchor.digest → anchor ≡ anchor_by w.header b
    top_is b met is = g.top.is ∙ ap (λ (c : Named B). anchor_by w.header c) (g.names g.top.block b g.top.met met (sym (is ∙ ap (λ (a : Anchor). a.digest) g.top.is)))

    pub round_of_top : IsRoundOf w stored p anchor
    round_of_top b met is = sym (ap (λ (a : Anchor). a.round) (top_is b met is))

    -- no entry is the anchor's
    pub uncached_anchor : IsIn cache anchor.digest → ⊥
    uncached_anchor any = (entry_of anchor.digest any).other any.4

    -- each block at hand is one of the history, on a chain
    pub block_of : (d : Digest) → IsAtHand anchor cache d → (b : Named B) × Met (setting w stored) p b × (b.digest ≡ d)
    block_of d (inl e) = (g.top.block, g.top.met, sym (e ∙ ap (λ (a : Anchor). a.digest) g.top.is))
    block_of d (inr any) = let h : Entry any.1 = entry_of d any in (h.block, h.met, h.digest_is ∙ any.4)

    pub chain_of : (d : Digest) → IsAtHand anchor cache d → (below : List (Point w)) × Chain w stored p points anchor.digest d (points d ∷ below)
    chain_of d (inl e) = ([], here e refl)
    chain_of d (inr any) = let h : Entry any.1 = entry_of d any in (h.below, subst (λ (x : Digest). Chain w stored p points anchor.digest x (points x ∷ h.below)) any.4 h.chain)

    -- the parent of a cached block is at hand
    pub parent_at : (x : Named B) → Met (setting w stored) p x → IsIn cache x.digest → IsAtHand anchor cache (parent_of (setting w stored) x)
    parent_at x met any =
        let h : Entry any.1 = entry_of x.digest any in
        let one : h.block ≡ x = g.names h.block x h.met met (h.digest_is ∙ any.4) in
        subst (λ (d : Digest). IsAtHand anchor cache d) (sym h.parent_is ∙ ap (λ (b : Named B). parent_of (setting w stored) b) one) (parent_at_hand anchor.digest cache g.stands.in_order any.0 any.1 any.2 any.3)

    reaches_from : {d : Digest} {at : Point w} {c : List (Point w)} → Chain w stored p points anchor.digest d (at ∷ c) → states.Reaches (setting w stored) (Met (setting w stored) p) anchor.digest point.1 d at.1
    reaches_from (here {d = d} {at = at} e is) =
        let t : at.1 ≡ point.1 = ap (λ (x : Point w). x.1) (is ∙ ap points e ∙ g.at_anchor) in
        subst (λ (x : Digest). states.Reaches (setting w stored) (Met (setting w stored) p) anchor.digest point.1 x at.1) (sym e)
        (subst (λ (x : w.States). states.Reaches (setting w stored) (Met (setting w stored) p) anchor.digest point.1 anchor.digest x) (sym t) states.here)
    reaches_from (further {at = at} {b = b} e is s ne l) =
        subst (λ (x : Digest). states.Reaches (setting w stored) (Met (setting w stored) p) anchor.digest point.1 x at.1) e
        (states.further (reaches_from s) l.met (λ a. ne (sym e ∙ a)) l.matches.step)

    -- the states on a chain are those of its block
    pub HasState-on : {d : Digest} {at : Point w} {c : List (Point w)} → Chain w stored p points anchor.digest d (at ∷ c) → HasState (setting w stored) base p d at.1
    HasState-on chain = record { anchor = anchor; now = point.1; anchored = g.folded.anchor_is; folded = g.folded.folded; reached = reaches_from chain }

module _ {B C I P R D H G U : Type 0} (w : Workings B C I P R D H G U) (stored : ℕ → Option (Named B)) (base : w.States) (points : Digest → Point w) (point : Point w) (tip : Anchor)
    (p q : Past B C I) (met : (b : Named B) → Met (setting w stored) p b → Met (setting w stored) q b) (anchor_same : anchor_of w.header q ≡ anchor_of w.header p) (tip_same : tip_of w.header q ≡ tip_of w.header p) (applied_same : applied q ≡ applied p) where
  pub IsOfBlock-longer : (anchor : Anchor) → IsOfBlock w stored p anchor → IsOfBlock w stored q anchor
  IsOfBlock-longer anchor h = record { block = h.block; met = met h.block h.met; is = h.is }

  pub IsTipBy-longer : (pause : Pause) (anchor : Anchor) (cache : List (Cached U)) → IsTipBy w stored p pause anchor cache tip → IsTipBy w stored q pause anchor cache tip
  IsTipBy-longer Free anchor cache is = is
  IsTipBy-longer Pruning anchor cache is = is
  IsTipBy-longer (Finalizing boundary) anchor cache f = record {
    block = f.block;
    met = met f.block f.met;
    tip_is = f.tip_is;
    digest_is = f.digest_is;
    round_is = f.round_is;
    on_anchor = f.on_anchor;
    higher = f.higher;
    later = f.later;
    own = f.own;
    closed = f.closed;
  }

  pub IsFolded-longer : (anchor : Anchor) → IsFolded w stored base p anchor tip point → IsFolded w stored base q anchor tip point
  IsFolded-longer anchor f = record { anchor_is = anchor_same ∙ f.anchor_is; tip_is = tip_same ∙ f.tip_is; folded = rw applied_same f.folded }

  -- the ground is there over a longer past with the same anchor and tip, where the cache stands and names are true
  pub IsGround-longer : (next now : w.Ids) (pause : Pause) (anchor : Anchor) (cache : List (Cached U)) → CacheStands w stored q points now anchor pause cache → TrueNames (setting w stored) q
      → IsGround w stored base p points point next tip pause anchor cache → IsGround w stored base q points point now tip pause anchor cache
  IsGround-longer next now pause anchor cache stands names g = record {
    stands = stands;
    at_anchor = g.at_anchor;
    names = names;
    folded = IsFolded-longer anchor g.folded;
    top = IsOfBlock-longer anchor g.top;
    tip_by = IsTipBy-longer pause anchor cache g.tip_by;
  }
