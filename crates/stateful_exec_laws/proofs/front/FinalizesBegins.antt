-- A finalization goes on once it has begun, and for later pasts with the same tip.
use Rattle.std.proofs.Common.{◌≡◌, ◌≢◌, inl, inr, ℕ, List, [], ◌∷◌, Contains, Option, MatchOption, map, sym, ap, ◌∙◌, subst, arith, refl}
use Rattle.std.proofs.lemmas.List.Elements.{All-contains}
use Rattle.stateful_base.specs.Names.{Named}
use Rattle.stateful_base.specs.Round.{IsLater}
use Rattle.stateful_base.specs.declared.anchor.Anchor.{Anchor}
use Rattle.stateful_base.specs.declared.digest.Digest.{Digest}
use Rattle.stateful_base.specs.declared.round.Round.{Round}
use Rattle.stateful_history.specs.Anchors.{tip_of}
use Rattle.stateful_history.specs.Finalizations.{IsChildOf}
use Rattle.stateful_history.specs.Met.{Met}
use Rattle.stateful_history.specs.Past.{Past, Made, after}
use Rattle.stateful_history.proofs.Marks.{Met-after}
use Rattle.stateful_history.specs.declared.mark.Mark.{Mark}
use Rattle.stateful_history.specs.declared.mark.Mark.TheVariants.{Withdrawn, Began}
use Rattle.stateful_exec_cache.specs.Cache.{IsIn}
use Rattle.stateful_exec_cache.specs.declared.cache.Cached.{Cached}
use Rattle.stateful_exec_pause.specs.Boundary.{Boundary}
use Rattle.stateful_exec_pause.specs.Boundary.{IsBoundaryOf}
use Rattle.stateful_exec_tables.specs.Pausing.{Pauses}
use Rattle.stateful_exec_model.specs.Workings.{Workings, Point}
use Rattle.stateful_exec_pause.specs.declared.pause.Pause.TheVariants.{Free}
use Rattle.stateful_exec_tables.specs.declared.state.Tables.{Tables}
use Rattle.stateful_exec_laws.specs.Setting.{setting}
use Rattle.stateful_exec_laws.specs.Caching.{IsCached, CacheStands}
use Rattle.stateful_exec_laws.proofs.earned.Closed.{IsClosed-begins}
use Rattle.stateful_exec_laws.proofs.ended.Finalizing.{IsOver, Finalizes}
use Rattle.stateful_exec_laws.proofs.ended.Known.{IsLater-self}
use Rattle.stateful_exec_laws.proofs.ended.Points.{parent_at_hand}
use Rattle.stateful_exec_laws.proofs.linked.Naming.{named_apart}
use Rattle.stateful_exec_laws.proofs.pauses.Known.{IsOverTip}

module _ {B C I P R D H G U : Type 0} (w : Workings B C I P R D H G U) (stored : ℕ → Option (Named B)) (p : Past B C I) where
  -- the next block above the anchor is another one
  pub child_other : (anchor : Anchor) (b : Named B) → IsOverTip (setting w stored) p anchor b → IsChildOf w.header anchor b → b.digest ≢ anchor.digest
  child_other anchor b over child e =
      let same : b ≡ over.top = over.names b over.top over.met over.top_met (e ∙ ap (λ (a : Anchor). a.digest) over.named) in
      let height : anchor.height.0 ≡ w.header.height b.block = ap (λ (a : Anchor). a.height.0) over.named ∙ ap (λ (c : Named B). w.header.height c.block) (sym same) in
      omega (arith, height, child.0)

  -- a finalization goes on for a past with the same tip and at least these blocks
  pub Finalizes-later : (q : Past B C I) → tip_of w.header q ≡ tip_of w.header p → ((b : Named B) → Met (setting w stored) p b → Met (setting w stored) q b) → (anchor : Anchor) (cache : List (Cached U)) (boundary : Boundary) → Finalizes w stored p anchor cache boundary → Finalizes w stored q anchor cache boundary
  Finalizes-later q same met anchor cache boundary f = record {
    tip = subst (λ o. MatchOption o ⊥ (λ (t : Anchor). (t.digest ≡ boundary.digest) × (t.round ≡ boundary.round))) (sym same) f.tip;
    other = f.other;
    own = f.own;
    each = λ d has. elim (f.each d has) [ inl is ↦ inl is | inr over ↦ inr (record { block = over.block; met = met over.block over.met; is = over.is; retained = over.retained }) ];
    closed = f.closed;
  }

  module _ (anchor : Anchor) (cache : List (Cached U)) (boundary : Boundary) where
    withdrawn : (q : Past B C I) (fs : List ℕ) → tip_of w.header (after q (map (λ f. Withdrawn f) fs)) ≡ tip_of w.header q
    withdrawn q [] = refl
    withdrawn q (x ∷ fs) = withdrawn (Made (Withdrawn x) ∷ q) fs

    -- it goes on after the marks of a pause
    pub Finalizes-paused : (marks : List (Mark B)) (old new : Tables B C I R U) (b : Option Boundary) → Pauses b old new marks → Finalizes w stored p anchor cache boundary → Finalizes w stored (after p marks) anchor cache boundary
    Finalizes-paused marks old new b pauses f = rw pauses.marks_are
        (Finalizes-later (after p (map (λ x. Withdrawn x) pauses.fetches)) (withdrawn p pauses.fetches) (Met-after (setting w stored) p (map (λ x. Withdrawn x) pauses.fetches)) anchor cache boundary f)

  module _ (points : Digest → Point w) (next : w.Ids) (anchor : Anchor) (cache : List (Cached U)) (old : CacheStands w stored p points next anchor Free cache)
      (ticket : ℕ) (b : Named B) (over : IsOverTip (setting w stored) p anchor b) (boundary : Boundary) (is : IsBoundaryOf w.header b cache boundary) where
    -- what is kept goes on over the finalization
    over_kept : (d : Digest) → IsIn is.kept d → IsOver w stored (Made (Began ticket b) ∷ p) boundary d
    over_kept d (k, y, l, at, e) =
        let among : Contains is.kept y = (k, l, at) in
        let h : IsCached w stored p points next anchor y = All-contains (IsCached w stored p points next anchor) cache y old.each (All-contains (λ x. Contains cache x) is.kept y is.cut.among among) in
        let later : IsLater (w.header.round b.block) y.round = All-contains (λ x. IsLater (w.header.round b.block) x.round) is.kept y is.cut.later among in
        let own_later : IsLater (w.header.round b.block) (w.header.round h.block.block) = subst (λ (r : Round). IsLater (w.header.round b.block) r) (sym h.round_is) later in
        record {
          block = h.block;
          met = inr h.met;
          is = h.digest_is ∙ e;
          retained = record {
            other = λ x.
                let same : h.block ≡ b = over.names h.block b h.met over.met (x ∙ is.digest_is) in
                IsLater-self (w.header.round b.block) (subst (λ (c : Named B). IsLater (w.header.round b.block) (w.header.round c.block)) same own_later);
            later = subst (λ (r : Round). IsLater r (w.header.round h.block.block)) (sym is.round_is) own_later;
            parent = subst (λ (x : Digest). Contains boundary.compatible x) (sym h.parent_is) ((is.each y.parent).1 (parent_at_hand b.digest is.kept is.cut.in_order k y l at));
          };
        }

    -- the finalization of the next block goes on once it has begun
    pub Finalizes-begins : IsChildOf w.header anchor b → Finalizes w stored (Made (Began ticket b) ∷ p) anchor cache boundary
    Finalizes-begins child = record {
      tip = (sym is.digest_is, sym is.round_is);
      other = λ has. elim ((is.each anchor.digest).0 has) [
        | inl e ↦ child_other anchor b over child (sym e)
        | inr (k, y, l, at, e) ↦
            let h : IsCached w stored p points next anchor y = All-contains (IsCached w stored p points next anchor) cache y old.each (All-contains (λ x. Contains cache x) is.kept y is.cut.among (k, l, at)) in
            h.other e
      ];
      own = (is.each boundary.digest).1 (inl is.digest_is);
      each = λ d has. elim ((is.each d).0 has) [ inl e ↦ inl (e ∙ sym is.digest_is) | inr a ↦ inr (over_kept d a) ];
      closed = IsClosed-begins w.header b anchor.digest cache boundary (named_apart w stored p points next anchor cache over.names old.each old.in_order) is;
    }
