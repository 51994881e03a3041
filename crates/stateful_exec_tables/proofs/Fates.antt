-- What becomes of a request that has waited for a run.
use Rattle.std.proofs.Common.{◌↔◌, inl, inr}
use Rattle.stateful_base.specs.Names.{Header, Named}
use Rattle.stateful_history.specs.declared.mark.How.{How}
use Rattle.stateful_exec_pause.specs.Fates.{IsFate}
use Rattle.stateful_exec_pause.specs.declared.pause.Pause.{Pause}
use Rattle.stateful_exec_pause.specs.declared.pause.Fate.{Fate}
use Rattle.stateful_exec_pause.specs.declared.pause.Fate.TheVariants as fate

module _ {B : Type 0} (header : Header B) (pause : Pause) (b : Named B) (how : How) (known same : Type 0) (both : known ↔ same) where
  -- what is the same as that the block is known tells the same
  pub IsFate-same : (f : Fate) → IsFate header pause known b how f → IsFate header pause same b how f
  IsFate-same fate.Invalid (inl given_up) = inl given_up
  IsFate-same fate.Invalid (inr is) = inr (is.0, λ k. is.1 (both.1 k))
  IsFate-same fate.Parked (inl awaits) = inl awaits
  IsFate-same fate.Parked (inr is) = inr (is.0, both.0 is.1)
  IsFate-same fate.GoesOn is = (is.0, is.1, is.2, both.0 is.3)
