-- The ground of reasons is there while a finalization goes on, where its block is of a later round than the anchor's.
use Rattle.std.proofs.Common.{◌≡◌, ℕ, Option, MatchOption, refl, sym, subst, arith}
use Rattle.stateful_base.specs.Names.{Named}
use Rattle.stateful_base.specs.Anchor.{anchor_by}
use Rattle.stateful_base.specs.Round.{IsLater}
use Rattle.stateful_base.specs.declared.anchor.Anchor.{Anchor}
use Rattle.stateful_base.specs.declared.digest.Digest.{Digest}
use Rattle.stateful_base.specs.declared.round.Round.{Round}
use Rattle.stateful_history.specs.Past.{Past}
use Rattle.stateful_exec_model.specs.Workings.{Workings, Point}
use Rattle.stateful_exec_pause.specs.declared.pause.Pause.TheVariants.{Finalizing}
use Rattle.stateful_exec_tables.specs.declared.state.Tables.{Tables}
use Rattle.stateful_exec_laws.specs.Ground.{IsGround}
use Rattle.stateful_loop_laws.specs.Execution.{IsPausedFor}

module _ {B C I P R D H G U : Type 0} (w : Workings B C I P R D H G U) (stored : ℕ → Option (Named B)) (base : w.States) (p : Past B C I)
    (points : Digest → Point w) (point : Point w) (next : w.Ids) (v : Tables B C I R U) (b : Named B) where
  -- so it is
  pub IsGround-paused : (h : IsPausedFor w stored base p points point next v b) → IsLater v.anchor.round (w.header.round b.block)
      → IsGround w stored base p points point next (anchor_by w.header b) (Finalizing h.boundary) v.anchor v.cache
  IsGround-paused h later = record {
    stands = h.ground.stands;
    at_anchor = h.ground.at_anchor;
    names = h.ground.names;
    folded = h.ground.folded;
    top = h.ground.top;
    tip_by = record {
      block = b;
      met = h.ground.met;
      tip_is = refl;
      digest_is = sym at_tip.0;
      round_is = sym at_tip.1;
      on_anchor = h.ground.child.1;
      higher = let above = h.ground.child.0 in omega (arith, above);
      later = subst (λ (r : Round). IsLater v.anchor.round r) at_tip.1 later;
      own = h.finalizes.own;
      closed = h.finalizes.closed;
    };
  }
    where
      at_tip : (b.digest ≡ h.boundary.digest) × (w.header.round b.block ≡ h.boundary.round)
      at_tip = subst (λ (o : Option Anchor). MatchOption o ⊥ (λ t. (t.digest ≡ h.boundary.digest) × (t.round ≡ h.boundary.round)))
          h.ground.folded.tip_is h.finalizes.tip
