-- The marks of finalizations keep their rules.
use Rattle.std.proofs.Common.{◌≡◌, ◌≤◌, inr, ℕ, [], ◌∷◌, List, Option, Some, None, refl, arith}
use Rattle.stateful_base.specs.Names.{Named}
use Rattle.stateful_base.specs.declared.anchor.Anchor.{Anchor}
use Rattle.stateful_history.specs.Anchors.{tip_of}
use Rattle.stateful_history.specs.Finalizations.{finalized_since, IsChildOf, FinalizesInOrder}
use Rattle.stateful_history.specs.Past.{Past, Came, EachMark}
use Rattle.stateful_history.specs.Runs.{unhooked, StartsWell, EndsAsItsKind}
use Rattle.stateful_history.specs.declared.event.Event.TheVariants.{Turn}
use Rattle.stateful_history.specs.declared.mark.How.TheVariants.{Kept, Hooked}
use Rattle.stateful_history.specs.declared.mark.JobKind.TheVariants.{Finalized, Hook}
use Rattle.stateful_history.specs.declared.mark.Mark.TheVariants.{Started, Ended, Began, Applied}
use Rattle.stateful_exec_cache.specs.Cache.{IsIn}
use Rattle.stateful_exec_cache.specs.declared.cache.Cached.{Cached}
use Rattle.stateful_exec_model.specs.Finalizing.{MayBegin, front_at}
use Rattle.stateful_exec_model.specs.Workings.{Workings, Point}
use Rattle.stateful_exec_model.specs.declared.front.Stage.TheVariants.{Begun, Running, Ran, Hooking}
use Rattle.stateful_exec_laws.specs.Setting.{setting}
use Rattle.stateful_exec_laws.specs.Due.{IsToRun, IsDue}
use Rattle.stateful_exec_laws.specs.Fronting.{FrontStands}

module _ {B C I P R D H G U : Type 0} (w : Workings B C I P R D H G U) (stored : ℕ → Option (Named B)) (p : Past B C I) where
  -- a block that may begin and is above the anchor is its child
  pub child_of : (anchor : Anchor) (b : Named B) → (w.header.height b.block ≤ anchor.height.0 → ⊥) → MayBegin w.header anchor b → IsChildOf w.header anchor b
  child_of anchor b above may = let next = may.next in (omega (arith, above, next), may.on_anchor)

  -- a finalization begins in order: of the block of a receipt, the next child of the tip, where none is begun
  pub begins-FinalizesInOrder : (cache : List (Cached U)) → IsDue (setting w stored) p {R = R} {H = H} cache None → (t : ℕ) (b : Named B) → finalized_since t p ≡ Some b → (anchor : Anchor) → tip_of w.header p ≡ Some anchor → IsChildOf w.header anchor b
      → FinalizesInOrder w.header p (Began t b)
  begins-FinalizesInOrder cache due t b asked anchor tip child = (asked, due, rw tip child)

  module _ (point : Point w) (next : w.Ids) (anchor : Anchor) (b : Named B) where
    -- the run of the block starts well where it isn't cached
    pub runs-StartsWell : FrontStands w stored p point next anchor (front_at b Begun) → (cache : List (Cached U)) → IsToRun (setting w stored) p cache b.digest → (IsIn cache b.digest → ⊥) → (j : ℕ) → StartsWell (setting w stored) p (Started j Finalized b.digest)
    runs-StartsWell f cache due out j = (rw f.at_stage.begun_is refl, due.unran, due.has_to out)

    -- it ends in its own turn
    pub ran-EndsAsItsKind : (j : ℕ) (run : R) → FrontStands w stored p point next anchor (front_at b (Running j run)) → EachMark (EndsAsItsKind (Turn j)) (Came (Turn j) ∷ p) (Ended j Kept ∷ [])
    ran-EndsAsItsKind j run f = let job = f.at_stage.1.job in ((job.live, rw job.is refl, inr refl), tt)

    -- the block is applied in order, whether it was cached or run
    pub begun-FinalizesInOrder : FrontStands w stored p point next anchor (front_at b Begun) → FinalizesInOrder w.header p (Applied b)
    begun-FinalizesInOrder f = f.at_stage.begun_is

    pub ran-FinalizesInOrder : (batch : U) → FrontStands w stored p point next anchor (front_at b (Ran batch)) → FinalizesInOrder w.header p (Applied b)
    ran-FinalizesInOrder batch f = f.at_stage.0.begun_is

    -- its hook starts well, and ends in its own turn
    pub hooks-StartsWell : unhooked p ≡ Some b → (j : ℕ) → StartsWell (setting w stored) p (Started j Hook b.digest)
    hooks-StartsWell is j = rw is refl

    pub hooked-EndsAsItsKind : (j : ℕ) (hook : H) → FrontStands w stored p point next anchor (front_at b (Hooking j hook)) → EachMark (EndsAsItsKind (Turn j)) (Came (Turn j) ∷ p) (Ended j Hooked ∷ [])
    hooked-EndsAsItsKind j hook f = let job = f.at_stage.1.job in ((job.live, rw job.is refl, inr refl), tt)
