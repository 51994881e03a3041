-- The ground on which reasons are found is there where a finalization begins, and once its block is the anchor.
use Rattle.std.proofs.Common.{◌≡◌, ◌≢◌, ◌≤◌, ◌++◌, inl, inr, ℕ, List, [], ◌∷◌, Option, None, Some, refl, sym, ap, ◌∙◌, subst}
use Rattle.stateful_base.specs.Names.{Named}
use Rattle.stateful_base.specs.Anchor.{anchor_by}
use Rattle.stateful_base.specs.Round.{IsLater}
use Rattle.stateful_base.specs.declared.anchor.Anchor.{Anchor}
use Rattle.stateful_base.specs.declared.digest.Digest.{Digest}
use Rattle.stateful_base.specs.declared.round.Round.{Round}
use Rattle.stateful_history.specs.Anchors.{applied}
use Rattle.stateful_history.specs.Met.{Met}
use Rattle.stateful_history.specs.Past.{Past, Made}
use Rattle.stateful_history.specs.Setting.{parent_of}
use Rattle.stateful_history.specs.States.{fold}
use Rattle.stateful_history.specs.declared.mark.Mark.TheVariants.{Began, Applied}
use Rattle.stateful_exec_cache.specs.Cache.{IsIn}
use Rattle.stateful_exec_cache.specs.declared.cache.Cached.{Cached}
use Rattle.stateful_exec_pause.specs.Boundary.{Boundary}
use Rattle.stateful_exec_pause.specs.Boundary.{IsBoundaryOf}
use Rattle.stateful_exec_model.specs.Workings.{Workings, Point}
use Rattle.stateful_exec_pause.specs.declared.pause.Pause.TheVariants.{Free, Finalizing}
use Rattle.stateful_exec_laws.specs.Setting.{setting}
use Rattle.stateful_exec_laws.specs.Caching.{CacheStands}
use Rattle.stateful_exec_laws.proofs.earned.Closed.{IsClosed-begins}
use Rattle.stateful_exec_laws.proofs.earned.Paused.{CacheStands-AreNamed}
use Rattle.stateful_exec_laws.proofs.reasons.Ground.{IsGround}
use Rattle.stateful_exec_laws.proofs.reasons.Known.{later_than_tip}
use Rattle.stateful_exec_laws.proofs.reasons.Missing.{Known-above}

module _ {B C I P R D H G U : Type 0} (w : Workings B C I P R D H G U) (stored : ℕ → Option (Named B)) (base : w.States) (p : Past B C I) (points : Digest → Point w) (point : Point w) (next : w.Ids) (anchor : Anchor) (cache : List (Cached U)) (g : IsGround w stored base p points point next anchor Free anchor cache)
    (b : Named B) (met : Met (setting w stored) p b) where
  -- a cached block other than the anchor is of a later round
  pub cached-later : IsIn cache b.digest → b.digest ≢ anchor.digest → IsLater anchor.round (w.header.round b.block)
  cached-later any other = elim (Known-above (setting w stored) ((g.stands.knows b.digest).1 (inr any)) g.names b met refl) [
    | inl tip ↦
        let same_tip : Some tip.0 ≡ Some anchor = sym tip.1 ∙ g.folded.tip_is in
        let e : tip.0 ≡ anchor = cc in
        absurd (other (sym tip.2 ∙ ap (λ (a : Anchor). a.digest) e))
    | inr above ↦ later_than_tip w stored base p points point next anchor Free anchor cache g b above.1
  ]

  -- The ground is there where the finalization of a child of the anchor begins, of a later round and no lower, and the cache
  -- stands with its boundary.
  pub IsGround-began : (t : ℕ) (boundary : Boundary) → IsBoundaryOf w.header b cache boundary → parent_of (setting w stored) b ≡ anchor.digest → anchor.height.0 ≤ w.header.height b.block → IsLater anchor.round (w.header.round b.block)
      → CacheStands w stored (Made (Began t b) ∷ p) points next anchor (Finalizing boundary) cache → IsGround w stored base (Made (Began t b) ∷ p) points point next (anchor_by w.header b) (Finalizing boundary) anchor cache
  IsGround-began t boundary is_boundary on_anchor higher later stands = record {
    stands = stands;
    at_anchor = g.at_anchor;
    names = λ x y has_x has_y. g.names x y (before x has_x) (before y has_y);
    folded = record { anchor_is = g.folded.anchor_is; tip_is = refl; folded = g.folded.folded };
    top = record { block = g.top.block; met = inr g.top.met; is = g.top.is };
    tip_by = record {
      block = b;
      met = inr met;
      tip_is = refl;
      digest_is = is_boundary.digest_is;
      round_is = is_boundary.round_is;
      on_anchor = on_anchor;
      higher = higher;
      later = subst (λ (r : Round). IsLater anchor.round r) (sym is_boundary.round_is) later;
      own = (is_boundary.each boundary.digest).1 (inl is_boundary.digest_is);
      closed = IsClosed-begins w.header b anchor.digest cache boundary (CacheStands-AreNamed w stored p points next anchor cache g.names g.stands) is_boundary;
    };
  }
    where
      before : (x : Named B) → Met (setting w stored) (Made (Began t b) ∷ p) x → Met (setting w stored) p x
      before x (inl brought) = subst (λ (y : Named B). Met (setting w stored) p y) (sym brought) met
      before x (inr old) = old

module _ {B C I P R D H G U : Type 0} (w : Workings B C I P R D H G U) (stored : ℕ → Option (Named B)) (base : w.States) (p : Past B C I) (points : Digest → Point w) (point : Point w) (next : w.Ids) (anchor : Anchor) (cache : List (Cached U)) (boundary : Boundary)
    (b : Named B) (met : Met (setting w stored) p b) (g : IsGround w stored base p points point next (anchor_by w.header b) (Finalizing boundary) anchor cache) where
  fold-more : (t : Option w.States) (u : w.States) (bs : List (Named B)) → fold (setting w stored) t bs ≡ Some u → (v : w.States) → w.works.meaning.step u b.block ≡ Some v → fold (setting w stored) t (bs ++ b ∷ []) ≡ Some v
  fold-more t u [] is v step = rw (is, step) refl
  fold-more (Some t) u (c ∷ bs) is v step = fold-more (w.works.meaning.step t c.block) u bs is v step
  fold-more None u (c ∷ bs) is v step = cc

  -- and once its block is the anchor and nothing pauses any more, over the states to which the block leads
  pub IsGround-moved : (now_points : Digest → Point w) (now : Point w) (ids : w.Ids) (kept : List (Cached U)) → w.works.meaning.step point.1 b.block ≡ Some now.1 → now_points b.digest ≡ now
      → CacheStands w stored (Made (Applied b) ∷ p) now_points ids (anchor_by w.header b) Free kept → IsGround w stored base (Made (Applied b) ∷ p) now_points now ids (anchor_by w.header b) Free (anchor_by w.header b) kept
  IsGround-moved now_points now ids kept step at_now stands = record {
    stands = stands;
    at_anchor = at_now;
    names = λ x y has_x has_y. g.names x y (before x has_x) (before y has_y);
    folded = record { anchor_is = refl; tip_is = g.folded.tip_is; folded = fold-more (Some base) point.1 (applied p) g.folded.folded now.1 step };
    top = record { block = b; met = inr met; is = refl };
    tip_by = refl;
  }
    where
      before : (x : Named B) → Met (setting w stored) (Made (Applied b) ∷ p) x → Met (setting w stored) p x
      before x (inl brought) = subst (λ (y : Named B). Met (setting w stored) p y) (sym brought) met
      before x (inr old) = old
