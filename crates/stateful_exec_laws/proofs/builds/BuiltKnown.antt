-- What stays as it is behind a block that was built in its turn, and what is known there.
use Rattle.std.proofs.Common.{◌≡◌, ◌⊎◌, inl, inr, ℕ, ◌∷◌, Option}
use Rattle.stateful_base.specs.Names.{Named}
use Rattle.stateful_base.specs.declared.digest.Digest.{Digest}
use Rattle.stateful_history.specs.Setting.{Setting}
use Rattle.stateful_history.specs.Past.{Past, Came, Made}
use Rattle.stateful_history.specs.Met.{Met}
use Rattle.stateful_history.specs.Known.{Known, is_tip, kept, stays}
use Rattle.stateful_history.specs.declared.event.Event.TheVariants.{Turn}
use Rattle.stateful_history.specs.declared.mark.Mark.TheVariants.{Built}
use Rattle.stateful_exec_model.specs.Workings.{Workings}
use Rattle.stateful_exec_laws.specs.Setting.{setting}
use Rattle.stateful_exec_laws.specs.Chains.{Leads}

module _ {B C I S T : Type 0} (s : Setting B S T) (j t : ℕ) (b : Named B) where
  -- a known block stays known
  pub Known-built : {p : Past B C I} {d : Digest} → Known s p d → Known s (Made (Built j t b) ∷ p) d
  Known-built (is_tip e) = is_tip e
  Known-built (kept m k l parent) = stays tt m (kept m k l parent) l l (Known-built parent)
  Known-built (stays o m k old l parent) = stays tt (inr m) (stays o m k old l parent) l l (Known-built parent)

  -- no other block becomes known
  pub Known-built_before : {p : Past B C I} {d : Digest} → Known s (Made (Built j t b) ∷ p) d → (d ≡ b.digest) ⊎ Known s p d
  Known-built_before (is_tip e) = inr (is_tip e)
  Known-built_before (kept m k l parent) = inl cc
  Known-built_before (stays o m k old l parent) = inr k

module _ {B C I P R D H G U : Type 0} (w : Workings B C I P R D H G U) (stored : ℕ → Option (Named B)) (p : Past B C I) (j t : ℕ) (b : Named B) where
  pub Met-built : (c : Named B) → Met (setting w stored) p c → Met (setting w stored) (Made (Built j t b) ∷ Came (Turn j) ∷ p) c
  Met-built c met = inr (inr met)

  pub Leads-built : (x : w.States) (c : Named B) (u : w.States) → Leads w stored p x c u → Leads w stored (Made (Built j t b) ∷ Came (Turn j) ∷ p) x c u
  Leads-built x c u l = record { met = inr (inr l.met); matches = l.matches; earned = elim l.earned [ inl a ↦ inl a | inr was ↦ inr (inr was) ] }
