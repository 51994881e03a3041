-- What stays of the cache and of the live runs where the finalized block becomes the anchor: what is known then.
use Rattle.std.proofs.Common.{◌≡◌, ◌≢◌, ◌++◌, ◌⊎◌, inl, inr, ℕ, List, [], ◌∷◌, All, Contains, Option, Some, MatchOption, refl, sym, ap, ◌∙◌, subst}
use Rattle.std.proofs.lemmas.List.Elements.{All-weaker, All-nil, All-cons, All-head, All-tail, All-push, All-contains}
use Rattle.stateful_base.specs.Names.{Named}
use Rattle.stateful_base.specs.Anchor.{anchor_by}
use Rattle.stateful_base.specs.Round.{IsLater}
use Rattle.stateful_base.specs.declared.anchor.Anchor.{Anchor}
use Rattle.stateful_base.specs.declared.digest.Digest.{Digest}
use Rattle.stateful_base.specs.declared.round.Round.{Round}
use Rattle.stateful_history.specs.Setting.{Setting, parent_of}
use Rattle.stateful_history.specs.Past.{Past, Made}
use Rattle.stateful_history.specs.Anchors.{tip_of}
use Rattle.stateful_history.specs.Finalizations.{begun}
use Rattle.stateful_history.specs.Known.{Known, is_tip, kept, stays, IsPastTip}
use Rattle.stateful_history.specs.Met.{Met, TrueNames}
use Rattle.stateful_history.specs.declared.mark.Mark.TheVariants.{Applied}
use Rattle.stateful_exec_cache.specs.Cache.{IsIn, IsAtHand, InOrder}
use Rattle.stateful_exec_cache.specs.Cut.{GoesOn, IsCutTo}
use Rattle.stateful_exec_cache.specs.declared.cache.Cached.{Cached}
use Rattle.stateful_exec_pause.specs.Boundary.{Boundary, IsRetained}
use Rattle.stateful_exec_tables.specs.Keeping.{step_in}
use Rattle.stateful_exec_model.specs.Workings.{Workings, Point}
use Rattle.stateful_exec_pause.specs.declared.pause.Pause.TheVariants.{Finalizing}
use Rattle.stateful_exec_laws.specs.Setting.{setting}
use Rattle.stateful_exec_laws.specs.Chains.{Chain, Leads}
use Rattle.stateful_exec_laws.specs.Caching.{IsCached, CacheStands}
use Rattle.stateful_exec_laws.proofs.ended.Known.{IsLater-self}
use Rattle.stateful_exec_laws.proofs.ended.Finalizing.{Finalizes}
use Rattle.stateful_exec_laws.proofs.front.Left.{begun-tip, begun-Met}
use Rattle.stateful_exec_laws.proofs.pauses.Known.{Any-found, Any-contains}
use Rattle.stateful_exec_laws.proofs.linked.Rooting.{Stacked-root, Stacked-child}
use Rattle.stateful_exec_laws.proofs.runs.Spared.{knows-calm}
use Rattle.stateful_exec_laws.proofs.linked.Naming.{named_apart}

-- what holds of the tip, and goes over from the parent of a known block to it, holds of each known block
pub Known-each : {B C I S T : Type 0} (s : Setting B S T) (P : Digest → Type 0) {p : Past B C I} {d : Digest} → Known s p d → ((tip : Anchor) → tip_of s.header p ≡ Some tip → P tip.digest)
    → ((x : Named B) → Met s p x → Known s p x.digest → IsPastTip s p x → P (parent_of s x) → P x.digest) → P d
Known-each s P (is_tip {tip = tip} e) base step = base tip e
Known-each s P (kept {b = x} m k l parent) base step = step x m (kept m k l parent) l (Known-each s P parent base step)
Known-each s P (stays {b = x} o m k old l parent) base step = step x (inr m) (stays o m k old l parent) l (Known-each s P parent base step)

module _ {B C I P R D H G U : Type 0} (w : Workings B C I P R D H G U) (stored : ℕ → Option (Named B)) (p : Past B C I) (points : Digest → Point w) (next : w.Ids) (anchor : Anchor) (cache : List (Cached U)) (boundary : Boundary)
    (old : CacheStands w stored p points next anchor (Finalizing boundary) cache) (names : TrueNames (setting w stored) p) (f : Finalizes w stored p anchor cache boundary)
    (b : Named B) (begun_is : begun p ≡ Some b) (kept_entries : List (Cached U)) (cut : IsCutTo (anchor_by w.header b) cache kept_entries) where
  abbrev now : Past B C I
  now = Made (Applied b) ∷ p

  abbrev Entry : Cached U → Type 0
  Entry = IsCached w stored p points next anchor

  abbrev Later : Named B → Type 0
  Later x = IsLater (w.header.round b.block) (w.header.round x.block)

  tip_is : tip_of w.header p ≡ Some (anchor_by w.header b)
  tip_is = begun-tip w.header p b begun_is

  pub root-Met : Met (setting w stored) p b
  root-Met = begun-Met (setting w stored) p b begun_is

  own_boundary : (b.digest ≡ boundary.digest) × (w.header.round b.block ≡ boundary.round)
  own_boundary = subst (λ o. MatchOption o ⊥ (λ (t : Anchor). (t.digest ≡ boundary.digest) × (t.round ≡ boundary.round))) tip_is f.tip

  pub root_is : b.digest ≡ boundary.digest
  root_is = own_boundary.0

  pub root_round : w.header.round b.block ≡ boundary.round
  root_round = own_boundary.1

  -- a compatible block isn't the old anchor
  pub compatible_other : (d : Digest) → Contains boundary.compatible d → d ≢ anchor.digest
  compatible_other d has e = f.other (subst (λ (x : Digest). Contains boundary.compatible x) e has)

  pub root_other : b.digest ≢ anchor.digest
  root_other = compatible_other b.digest (subst (λ (d : Digest). Contains boundary.compatible d) (sym own_boundary.0) f.own)

  not_root : (x : Named B) → Met (setting w stored) p x → Later x → x.digest ≢ b.digest
  not_root x met later e = let same : x ≡ b = names x b met root-Met e in IsLater-self (w.header.round b.block) (subst (λ (y : Named B). Later y) same later)

  leads_on : (t : w.States) (x : Named B) (u : w.States) → Leads w stored p t x u → Leads w stored now t x u
  leads_on t x u l = record { met = inr l.met; matches = l.matches; earned = l.earned }

  -- the chains of a digest go on from the root
  abbrev Restacks : Digest → Type 0
  Restacks d = (c : List (Point w)) → Chain w stored p points anchor.digest d c → Chain w stored now points b.digest d c

  restacks-root : (d : Digest) → d ≡ b.digest → Restacks d
  restacks-root d is c chain = Stacked-root w points (Leads w stored p) anchor.digest (Leads w stored now) b.digest chain is

  restacks-child : (x : Named B) → Met (setting w stored) p x → x.digest ≢ anchor.digest → Later x → Restacks (w.header.parent x.block) → Restacks x.digest
  restacks-child x met other later on c chain =
      Stacked-child w points (Leads w stored p) anchor.digest (Leads w stored now) b.digest chain other (not_root x met later) x (λ t u y l e. names y x l.met met e) refl on leads_on

  -- an entry that stays
  record Carried (e : Cached U) : Type 0 where
    entry : Entry e
    later : Later entry.block
    compatible : Contains boundary.compatible e.digest
    restacks : Restacks e.digest

  carry : (e : Cached U) → Entry e → (IsRetained boundary (step_in e) → Contains boundary.compatible e.digest) → IsLater (w.header.round b.block) e.round → Contains boundary.compatible e.parent × Restacks e.parent → Carried e
  carry e h closed l parent =
      let later : Later h.block = subst (λ (r : Round). IsLater (w.header.round b.block) r) (sym h.round_is) l in
      let other : e.digest ≢ b.digest = (λ is. not_root h.block h.met later (h.digest_is ∙ is)) in
      record {
        entry = h;
        later = later;
        compatible = closed (record { other = λ is. other (is ∙ sym own_boundary.0); later = subst (λ (r : Round). IsLater r e.round) own_boundary.1 l; parent = parent.0 });
        restacks = subst (λ (d : Digest). Restacks d) h.digest_is
            (restacks-child h.block h.met (λ is. h.other (sym h.digest_is ∙ is)) later (subst (λ (d : Digest). Restacks d) (sym h.parent_is) parent.1));
      }

  abbrev Fits : Digest → Type 0
  Fits d = Contains boundary.compatible d × Restacks d

  from_parent : (earlier : List Digest) (d : Digest) → All Fits earlier → (d ≡ b.digest) ⊎ Contains earlier d → Fits d
  from_parent earlier d all (inl is) = (subst (λ (x : Digest). Contains boundary.compatible x) (sym (is ∙ own_boundary.0)) f.own, restacks-root d is)
  from_parent earlier d all (inr among) = All-contains Fits earlier d all among

  abbrev Closed : Cached U → Type 0
  Closed e = IsRetained boundary (step_in e) → Contains boundary.compatible e.digest

  walk : (earlier : List Digest) (ks : List (Cached U)) → All Fits earlier → All (λ k. Entry k × Closed k) ks → All (λ k. IsLater (w.header.round b.block) k.round) ks → InOrder b.digest earlier ks → All Carried ks
  walk earlier [] fits entries later order = All-nil Carried
  walk earlier (e ∷ es) fits entries later order =
      let h = All-head (λ k. Entry k × Closed k) e es entries in
      let carried : Carried e = carry e h.0 h.1 (All-head (λ k. IsLater (w.header.round b.block) k.round) e es later) (from_parent earlier e.parent fits order.0) in
      All-cons Carried e es carried
      (walk (earlier ++ e.digest ∷ []) es (All-push Fits earlier e.digest fits (carried.compatible, carried.restacks)) (All-tail (λ k. Entry k × Closed k) e es entries) (All-tail (λ k. IsLater (w.header.round b.block) k.round) e es later) order.1)

  carried : All Carried kept_entries
  carried = walk [] kept_entries (All-nil Fits)
      (All-weaker (Contains cache) (λ k. Entry k × Closed k) (λ e among. (All-contains Entry cache e old.each among, All-contains Closed cache e f.closed among)) kept_entries cut.among) cut.later cut.in_order

  -- a known block of a later round, whose parent stays, is kept
  found : (x : Named B) → Met (setting w stored) p x → Known (setting w stored) p x.digest → IsPastTip (setting w stored) p x → (w.header.parent x.block ≡ b.digest) ⊎ IsIn kept_entries (w.header.parent x.block)
      → (x.digest ≡ b.digest) ⊎ IsIn kept_entries x.digest
  found x met k late parent = elim ((old.knows x.digest).0 k) [
    | inl is ↦ inl (is ∙ sym own_boundary.0)
    | inr any ↦
        let later : Later x = subst (λ (o : Option Anchor). MatchOption o ⊥ (λ tip. IsLater tip.round (w.header.round x.block))) tip_is late in
        let e = Any-found (λ c. Entry c × (c.digest ≢ b.digest → IsLater (w.header.round b.block) c.round → GoesOn (anchor_by w.header b) kept_entries c → Contains kept_entries c)) (λ c. c.digest ≡ x.digest) cache (λ i d l. (old.each i d l, cut.whole anchor.digest (named_apart w stored p points next anchor cache names old.each old.in_order) i d l)) any.0 in
        let h : Entry e.0 = e.1.0 in
        let same : h.block ≡ x = names h.block x h.met met (h.digest_is ∙ e.2) in
        let parent_is : e.0.parent ≡ w.header.parent x.block = sym h.parent_is ∙ ap (λ (y : Named B). w.header.parent y.block) same in
        let round_is : w.header.round x.block ≡ e.0.round = ap (λ (y : Named B). w.header.round y.block) (sym same) ∙ h.round_is in
        let goes : GoesOn (anchor_by w.header b) kept_entries e.0 = subst (λ (d : Digest). (d ≡ b.digest) ⊎ IsIn kept_entries d) (sym parent_is) parent in
        inr (Any-contains (λ c. c.digest ≡ x.digest) kept_entries e.0 (e.1.1 (λ root. not_root x met later (sym e.2 ∙ root)) (subst (λ (r : Round). IsLater (w.header.round b.block) r) round_is later) goes) e.2)
  ]

  -- what is known is the finalized block, or kept
  pub known_stays : (d : Digest) → Known (setting w stored) p d → (d ≡ b.digest) ⊎ IsIn kept_entries d
  known_stays d k = Known-each (setting w stored) (λ x. (x ≡ b.digest) ⊎ IsIn kept_entries x) k
      (λ tip e. let same : Some tip ≡ Some (anchor_by w.header b) = sym e ∙ tip_is in let digests : tip.digest ≡ b.digest = cc in inl digests) found

  -- what is kept was cached, is compatible, and its chains go on from the root
  record IsKept (d : Digest) : Type 0 where
    cached : IsIn cache d
    compatible : Contains boundary.compatible d
    restacks : Restacks d

  of_kept : (d : Digest) → IsIn kept_entries d → IsKept d
  of_kept d any =
      let e = Any-found (λ k. Contains cache k × Carried k) (λ k. k.digest ≡ d) kept_entries (λ i x l. (cut.among i x l, carried i x l)) any in
      record {
        cached = Any-contains (λ c. c.digest ≡ d) cache e.0 e.1.0 e.2;
        compatible = subst (λ (x : Digest). Contains boundary.compatible x) e.2 e.1.1.compatible;
        restacks = subst (λ (x : Digest). Restacks x) e.2 e.1.1.restacks;
      }

  -- a compatible block that was at hand stays at hand
  pub stays_at_hand : (d : Digest) → Contains boundary.compatible d → IsAtHand anchor cache d → IsAtHand (anchor_by w.header b) kept_entries d
  stays_at_hand d has (inl e) = absurd (compatible_other d has e)
  stays_at_hand d has (inr a) = known_stays d ((old.knows d).1 (inr (a, has)))

  -- the chains of what is at hand go on from the root
  pub restacks : (d : Digest) → IsAtHand (anchor_by w.header b) kept_entries d → (c : List (Point w)) → Chain w stored p points anchor.digest d c → Chain w stored (Made (Applied b) ∷ p) points b.digest d c
  restacks d (inl is) = restacks-root d is
  restacks d (inr a) = (of_kept d a).restacks

  -- each entry that stays is compatible
  pub kept_compatible : All (λ e. Contains boundary.compatible e.digest) kept_entries
  kept_compatible = All-weaker Carried (λ e. Contains boundary.compatible e.digest) (λ e c. c.compatible) kept_entries carried

  -- the cut cache stands over the finalized block, once it is applied
  pub CacheStands-cut : CacheStands w stored (Made (Applied b) ∷ p) points next (anchor_by w.header b) (Finalizing boundary) kept_entries
  CacheStands-cut = record {
    each = All-weaker Carried (IsCached w stored now points next (anchor_by w.header b)) (λ e h. record {
      block = h.entry.block;
      met = inr h.entry.met;
      digest_is = h.entry.digest_is;
      parent_is = h.entry.parent_is;
      round_is = h.entry.round_is;
      other = λ is. not_root h.entry.block h.entry.met h.later (h.entry.digest_is ∙ is);
      below = h.entry.below;
      chain = h.restacks (points e.digest ∷ h.entry.below) h.entry.chain;
      drawn = h.entry.drawn;
      shows = h.entry.shows;
    }) kept_entries carried;
    in_order = cut.in_order;
    knows = λ d. (
      (λ k. elim (known_stays d ((knows-calm w stored p (Made (Applied b)) (record { tip = refl; starts_none = tt; built = λ x was. was; kept = refl }) d).0 k)) [
        | inl is ↦ inl (is ∙ own_boundary.0)
        | inr a ↦ inr (a, (of_kept d a).compatible)
      ]),
      λ h. (knows-calm w stored p (Made (Applied b)) (record { tip = refl; starts_none = tt; built = λ x was. was; kept = refl }) d).1 ((old.knows d).1 (elim h [ inl is ↦ inl is | inr a ↦ inr ((of_kept d a.0).cached, a.1) ])),
    );
  }
