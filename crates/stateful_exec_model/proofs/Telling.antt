-- How the ends of runs are told.
use Rattle.std.proofs.Common.{◌≡◌, ◌↔◌, ◌∷◌, List, Bool, true, false, Option, Some, None, IsTrue, refl}
use Rattle.stateful_base.specs.Names.{Named}
use Rattle.stateful_base.specs.declared.anchor.Anchor.{Anchor}
use Rattle.stateful_exec_cache.specs.declared.cache.Cached.{Cached}
use Rattle.stateful_history.specs.declared.mark.How.{How}
use Rattle.stateful_history.specs.declared.mark.How.TheVariants.{Rejected, Mismatched}
use Rattle.stateful_exec_model.specs.Workings.{Workings, Point}
use Rattle.stateful_exec_model.specs.Ending.{IsTold}
use Rattle.stateful_exec_tables.specs.Keeping.{Takes}
use Rattle.stateful_exec_model.specs.Ending.IsTold.{rejected, mismatched, agreed}

module _ {B C I P R D H G U : Type 0} (w : Workings B C I P R D H G U) (anchor : Anchor) (b : Named B) (cache new : List (Cached U)) (ended : Option U) where
  pub without_batch : ended ≡ None → IsTold w anchor b cache cache ended Rejected
  without_batch is = rw is (rejected refl)

  module _ (batch : U) (ended_is : ended ≡ Some batch) (matches : Bool) (decides : (p : Point w) (c : List (Point w)) → w.shows batch (p ∷ c) → IsTrue matches ↔ (w.kind.target_of p.1 ≡ w.works.meaning.targets b.block)) where
    pub other_targets : matches ≡ false → IsTold w anchor b cache cache ended Mismatched
    other_targets fails = rw ended_is (mismatched (λ p c shown same. let t : IsTrue matches = (decides p c shown).1 same in cc) refl)

    pub its_targets : matches ≡ true → (how : How) → Takes w.header anchor b batch cache new how → IsTold w anchor b cache new ended how
    its_targets holds how takes = rw ended_is (agreed (λ p c shown. (decides p c shown).0 holds) takes)
