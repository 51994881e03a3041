-- What is known once a finalization has begun: the finalized block, and what is cached and compatible with it.
use Rattle.std.proofs.Common.{◌≡◌, ◌≢◌, ◌++◌, ◌↔◌, ◌⊎◌, inl, inr, ℕ, List, [], ◌∷◌, All, Any, Contains, Option, Some, refl, sym, ap, ◌∙◌, subst, arith, MatchOption}
use Rattle.std.proofs.lemmas.List.Elements.{All-nil, All-cons, All-head, All-tail, All-push, All-contains}
use Rattle.stateful_base.specs.Names.{Named}
use Rattle.stateful_base.specs.Anchor.{anchor_by}
use Rattle.stateful_base.specs.Round.{IsLater}
use Rattle.stateful_base.specs.declared.anchor.Anchor.{Anchor}
use Rattle.stateful_base.specs.declared.digest.Digest.{Digest}
use Rattle.stateful_base.specs.declared.round.Round.{Round}
use Rattle.stateful_history.specs.Setting.{Setting}
use Rattle.stateful_history.specs.Past.{Past, Made}
use Rattle.stateful_history.specs.Anchors.{tip_of}
use Rattle.stateful_history.specs.Met.{Met, TrueNames}
use Rattle.stateful_history.specs.Known.{Known, is_tip, kept, stays, IsPastTip}
use Rattle.stateful_history.specs.declared.mark.Mark.TheVariants.{Began}
use Rattle.stateful_exec_cache.specs.Cache.{IsIn, InOrder}
use Rattle.stateful_exec_cache.specs.Cut.{GoesOn}
use Rattle.stateful_exec_cache.specs.declared.cache.Cached.{Cached}
use Rattle.stateful_exec_pause.specs.Boundary.{Boundary}
use Rattle.stateful_exec_pause.specs.Boundary.{IsBoundaryOf}
use Rattle.stateful_exec_model.specs.Workings.{Workings, Point}
use Rattle.stateful_exec_pause.specs.declared.pause.Pause.TheVariants.{Free, Finalizing}
use Rattle.stateful_exec_laws.specs.Setting.{setting}
use Rattle.stateful_exec_laws.specs.Caching.{IsKnownBy, IsCached, CacheStands}
use Rattle.stateful_exec_laws.proofs.linked.Naming.{named_apart}

-- no round is later than itself
IsLater-self : (r : Round) → IsLater r r → ⊥
IsLater-self r (inl l) = omega arith
IsLater-self r (inr l) = omega (arith, l.1)

-- the element of an `Any`, with what is true of each
pub Any-found : {X : Type 0} (P Q : X → Type 0) (xs : List X) → All P xs → Any Q xs → (x : X) × P x × Q x
Any-found P Q xs all any = (any.1, subst P any.3 (all any.0 any.1 any.2), any.4)

pub Any-contains : {X : Type 0} (Q : X → Type 0) (xs : List X) (x : X) → Contains xs x → Q x → Any Q xs
Any-contains Q xs x c h = (c.0, x, c.1, c.2, h)

some_digest : (x y : Anchor) → Some x ≡ Some y → y.digest ≡ x.digest
some_digest x y e = cc

-- The block is one of the history, where digests name blocks, and the tip is this anchor, which is that of a block too.
pub record IsOverTip {B C I S T : Type 0} (s : Setting B S T) (p : Past B C I) (anchor : Anchor) (b : Named B) : Type 0 where
  pub names : TrueNames s p
  pub met : Met s p b
  pub tip_is : tip_of s.header p ≡ Some anchor
  pub top : Named B
  pub top_met : Met s p top
  pub named : anchor ≡ anchor_by s.header top

module _ {B C I S T : Type 0} (s : Setting B S T) where
  -- a known block other than the tip is of a later round
  past_tip : {p : Past B C I} {d : Digest} → Known s p d → (anchor : Anchor) → tip_of s.header p ≡ Some anchor → TrueNames s p → (x : Named B) → Met s p x → x.digest ≡ d → d ≢ anchor.digest → IsPastTip s p x
  past_tip (is_tip {tip = a} e) anchor tip_is names x met is other = absurd (other (some_digest anchor a (sym tip_is ∙ e)))
  past_tip (kept {p = p} {item = item} {b = y} m k l parent) anchor tip_is names x met is other = subst (λ (z : Named B). IsPastTip s (item ∷ p) z) (names y x m met (sym is)) l
  past_tip (stays {p = p} {item = item} {b = y} o m k old l parent) anchor tip_is names x met is other = subst (λ (z : Named B). IsPastTip s (item ∷ p) z) (names y x (inr m) met (sym is)) l

module _ {B C I P R D H G U : Type 0} (w : Workings B C I P R D H G U) (stored : ℕ → Option (Named B)) (p : Past B C I) (points : Digest → Point w) (next : w.Ids) (anchor : Anchor) (cache : List (Cached U)) (old : CacheStands w stored p points next anchor Free cache)
    (ticket : ℕ) (b : Named B) (over : IsOverTip (setting w stored) p anchor b) (boundary : Boundary) (is_boundary : IsBoundaryOf w.header b cache boundary) where
  abbrev began : Past B C I
  began = Made (Began ticket b) ∷ p

  abbrev New : Digest → Type 0
  New d = Known (setting w stored) began d

  abbrev Later : Named B → Type 0
  Later x = IsLater (w.header.round b.block) (w.header.round x.block)

  abbrev Entry : Cached U → Type 0
  Entry = IsCached w stored p points next anchor

  not_anchor : (x : Named B) → Met (setting w stored) p x → IsPastTip (setting w stored) p x → x.digest ≢ anchor.digest
  not_anchor x met late e =
      let same : x ≡ over.top = over.names x over.top met over.top_met (e ∙ ap (λ (a : Anchor). a.digest) over.named) in
      let later : IsLater anchor.round (w.header.round x.block) = subst (λ (o : Option Anchor). MatchOption o ⊥ (λ tip. IsLater tip.round (w.header.round x.block))) over.tip_is late in
      IsLater-self (w.header.round x.block) (subst (λ (r : Round). IsLater r (w.header.round x.block)) (ap (λ (a : Anchor). a.round) over.named ∙ ap (λ (y : Named B). w.header.round y.block) (sym same)) later)

  not_root : (x : Named B) → Met (setting w stored) p x → Later x → x.digest ≢ b.digest
  not_root x met later e =
      let same : x ≡ b = over.names x b met over.met e in
      IsLater-self (w.header.round b.block) (subst (λ (y : Named B). Later y) same later)

  -- a known block of a later round, whose parent is at hand, is kept
  found : (x : Named B) → Met (setting w stored) p x → Known (setting w stored) p x.digest → IsPastTip (setting w stored) p x → Later x → (w.header.parent x.block ≡ b.digest) ⊎ IsIn is_boundary.kept (w.header.parent x.block) → IsIn is_boundary.kept x.digest
  found x met k late later parent = elim ((old.knows x.digest).0 k) [
    | inl is ↦ absurd (not_anchor x met late is)
    | inr any ↦
        let e = Any-found (λ c. Entry c × (c.digest ≢ b.digest → IsLater (w.header.round b.block) c.round → GoesOn (anchor_by w.header b) is_boundary.kept c → Contains is_boundary.kept c)) (λ c. c.digest ≡ x.digest) cache (λ i d l. (old.each i d l, is_boundary.cut.whole anchor.digest (named_apart w stored p points next anchor cache over.names old.each old.in_order) i d l)) any in
        let h : Entry e.0 = e.1.0 in
        let same : h.block ≡ x = over.names h.block x h.met met (h.digest_is ∙ e.2) in
        let parent_is : e.0.parent ≡ w.header.parent x.block = sym h.parent_is ∙ ap (λ (y : Named B). w.header.parent y.block) same in
        let round_is : w.header.round x.block ≡ e.0.round = ap (λ (y : Named B). w.header.round y.block) (sym same) ∙ h.round_is in
        let goes : GoesOn (anchor_by w.header b) is_boundary.kept e.0 = subst (λ (d : Digest). (d ≡ b.digest) ⊎ IsIn is_boundary.kept d) (sym parent_is) parent in
        Any-contains (λ c. c.digest ≡ x.digest) is_boundary.kept e.0 (e.1.1 (λ root. not_root x met later (sym e.2 ∙ root)) (subst (λ (r : Round). IsLater (w.header.round b.block) r) round_is later) goes) e.2
  ]

  -- what is known once the finalization has begun is the finalized block, or kept
  known_kept : {d : Digest} → Known (setting w stored) began d → (d ≡ b.digest) ⊎ IsIn is_boundary.kept d
  known_kept (is_tip {tip = a} e) = inl (some_digest (anchor_by w.header b) a e)
  known_kept (kept m k l parent) = cc
  known_kept (stays {b = x} o m k late later parent) = inr (found x m k late later (known_kept parent))

  -- a cached block of a later round stays known above a parent that does
  carry : (e : Cached U) → Contains cache e → IsLater (w.header.round b.block) e.round → New e.parent → New e.digest
  carry e among later parent =
      let h : Entry e = All-contains Entry cache e old.each among in
      let k : Known (setting w stored) p e.digest = (old.knows e.digest).1 (inr (Any-contains (λ c. c.digest ≡ e.digest) cache e among refl)) in
      let late : IsPastTip (setting w stored) p h.block = past_tip (setting w stored) k anchor over.tip_is over.names h.block h.met h.digest_is h.other in
      subst (λ (d : Digest). New d) h.digest_is
      (stays tt h.met (subst (λ (d : Digest). Known (setting w stored) p d) (sym h.digest_is) k) late (subst (λ (r : Round). IsLater (w.header.round b.block) r) (sym h.round_is) later) (subst (λ (d : Digest). New d) (sym h.parent_is) parent))

  from_parent : (earlier : List Digest) (d : Digest) → All New earlier → (d ≡ b.digest) ⊎ Contains earlier d → New d
  from_parent earlier d all (inl is) = subst (λ (x : Digest). New x) (sym is) (is_tip refl)
  from_parent earlier d all (inr among) = All-contains New earlier d all among

  walk : (earlier : List Digest) (ks : List (Cached U)) → All New earlier → All (λ k. Contains cache k) ks → All (λ k. IsLater (w.header.round b.block) k.round) ks → InOrder b.digest earlier ks → All (λ k. New k.digest) ks
  walk earlier [] known among later order = All-nil (λ (k : Cached U). New k.digest)
  walk earlier (e ∷ es) known among later order =
      let here : New e.digest = carry e (All-head (λ k. Contains cache k) e es among) (All-head (λ k. IsLater (w.header.round b.block) k.round) e es later) (from_parent earlier e.parent known order.0) in
      All-cons (λ (k : Cached U). New k.digest) e es here (walk (earlier ++ e.digest ∷ []) es (All-push New earlier e.digest known here) (All-tail (λ k. Contains cache k) e es among) (All-tail (λ k. IsLater (w.header.round b.block) k.round) e es later) order.1)

  -- what is kept stays known
  kept_known : (d : Digest) → IsIn is_boundary.kept d → New d
  kept_known d any =
      let e = Any-found (λ k. New k.digest) (λ k. k.digest ≡ d) is_boundary.kept (walk [] is_boundary.kept (All-nil New) is_boundary.cut.among is_boundary.cut.later is_boundary.cut.in_order) any in
      subst (λ (x : Digest). New x) e.2 e.1

  -- what is kept is cached
  kept_in : (d : Digest) → IsIn is_boundary.kept d → IsIn cache d
  kept_in d any =
      let e = Any-found (λ k. Contains cache k) (λ k. k.digest ≡ d) is_boundary.kept is_boundary.cut.among any in
      Any-contains (λ c. c.digest ≡ d) cache e.0 e.1 e.2

  -- known once the finalization has begun are the finalized block, and what is cached and compatible with it
  pub Known-began : (d : Digest) → Known (setting w stored) began d ↔ IsKnownBy (Finalizing boundary) anchor cache d
  Known-began d = (λ k. into (known_kept k), λ h. back h)
    where
      into : (d ≡ b.digest) ⊎ IsIn is_boundary.kept d → (d ≡ boundary.digest) ⊎ (IsIn cache d × Contains boundary.compatible d)
      into (inl is) = inl (is ∙ sym is_boundary.digest_is)
      into (inr any) = inr (kept_in d any, (is_boundary.each d).1 (inr any))

      behind : (d ≡ b.digest) ⊎ IsIn is_boundary.kept d → New d
      behind (inl is) = subst (λ (x : Digest). New x) (sym is) (is_tip refl)
      behind (inr any) = kept_known d any

      back : (d ≡ boundary.digest) ⊎ (IsIn cache d × Contains boundary.compatible d) → New d
      back (inl is) = behind (inl (is ∙ is_boundary.digest_is))
      back (inr h) = behind ((is_boundary.each d).0 h.1)
