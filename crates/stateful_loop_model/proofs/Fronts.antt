-- What a finalization in front is, by how far it has come.
use Rattle.std.proofs.Common.{◌≡◌, ℕ, ◌<◌, ◌+◌, Option, Some, None, sym, ap, ◌∙◌, arith, All}
use Rattle.stateful_durability.specs.Durability.{Coverage}
use Rattle.stateful_exec_model.specs.Finalizing.{front_at}
use Rattle.stateful_exec_model.specs.Workings.{Workings}
use Rattle.stateful_exec_model.specs.declared.front.Front.{Front}
use Rattle.stateful_exec_model.specs.declared.front.Stage.{Stage}
use Rattle.stateful_exec_model.specs.declared.front.Stage.TheVariants.{Begun, Running, Ran, Advanced, Hooking}
use Rattle.stateful_loop_model.specs.Reached.{reached_by, stage_of}
use Rattle.stateful_loop_model.specs.Sound.{FrontAgrees, AgreesWith}
use Rattle.stateful_loop_model.specs.declared.reached.Reached.{Reached}
use Rattle.stateful_loop_model.specs.declared.reached.Reached.TheVariants as reached
use Rattle.stateful_loop_model.specs.declared.tables.Finalizing.{Finalizing}

pub begun_isnt_ran : reached.Begun ≡ reached.Ran → ⊥
begun_isnt_ran e = cc

pub begun_isnt_advanced : reached.Begun ≡ reached.Advanced → ⊥
begun_isnt_advanced e = cc

-- some are awaited
pub some_awaited : (n : ℕ) → n ≡ 0 → 0 < n → ⊥
some_awaited n e lt = omega arith

module _ {B C I P R D H G U : Type 0} (w : Workings B C I P R D H G U) (c : Coverage) (f : Finalizing B G) (front : Option (Front B R U H)) where
  -- it is at a stage that tells how far it has come
  staged : (stage : Stage R U H) (r : Reached) → front ≡ front_at f.block stage → reached_by front ≡ r → stage_of stage ≡ r
  staged stage r is e = sym (ap reached_by is) ∙ e

  -- it has begun
  begun_by : (stage : Stage R U H) → front ≡ front_at f.block stage → AgreesWith w c f stage → stage_of stage ≡ reached.Begun
      → (front ≡ front_at f.block Begun) × (f.captured ≡ None) × (w.header.height f.block.block ≡ c.applied + 1)
  begun_by Begun is agrees e = (is, agrees.0, agrees.1)
  begun_by (Running j run) is agrees e = absurd (cc)
  begun_by (Ran batch) is agrees e = absurd (cc)
  begun_by Advanced is agrees e = absurd (cc)
  begun_by (Hooking j hook) is agrees e = absurd (cc)

  pub at_begun : FrontAgrees w c (Some f) front → reached_by front ≡ reached.Begun
      → (front ≡ front_at f.block Begun) × (f.captured ≡ None) × (w.header.height f.block.block ≡ c.applied + 1)
  at_begun agrees e = begun_by agrees.0 agrees.1 agrees.2 (staged agrees.0 reached.Begun agrees.1 e)

  -- its block was run
  ran_by : (stage : Stage R U H) → front ≡ front_at f.block stage → AgreesWith w c f stage → stage_of stage ≡ reached.Ran
      → (batch : U) × (front ≡ front_at f.block (Ran batch)) × (f.captured ≡ None) × (w.header.height f.block.block ≡ c.applied + 1)
  ran_by Begun is agrees e = absurd (cc)
  ran_by (Running j run) is agrees e = absurd (cc)
  ran_by (Ran batch) is agrees e = (batch, is, agrees.0, agrees.1)
  ran_by Advanced is agrees e = absurd (cc)
  ran_by (Hooking j hook) is agrees e = absurd (cc)

  pub at_ran : FrontAgrees w c (Some f) front → reached_by front ≡ reached.Ran
      → (batch : U) × (front ≡ front_at f.block (Ran batch)) × (f.captured ≡ None) × (w.header.height f.block.block ≡ c.applied + 1)
  at_ran agrees e = ran_by agrees.0 agrees.1 agrees.2 (staged agrees.0 reached.Ran agrees.1 e)

  -- its block is the anchor, and no hook goes on
  advanced_by : (stage : Stage R U H) → front ≡ front_at f.block stage → AgreesWith w c f stage → stage_of stage ≡ reached.Advanced
      → (front ≡ front_at f.block Advanced) × (w.header.height f.block.block ≡ c.applied) × All (λ receipt. receipt.0 < c.applied) c.held
  advanced_by Begun is agrees e = absurd (cc)
  advanced_by (Running j run) is agrees e = absurd (cc)
  advanced_by (Ran batch) is agrees e = absurd (cc)
  advanced_by Advanced is agrees e = (is, agrees.0, agrees.1)
  advanced_by (Hooking j hook) is agrees e = absurd (cc)

  pub at_advanced : FrontAgrees w c (Some f) front → reached_by front ≡ reached.Advanced
      → (front ≡ front_at f.block Advanced) × (w.header.height f.block.block ≡ c.applied) × All (λ receipt. receipt.0 < c.applied) c.held
  at_advanced agrees e = advanced_by agrees.0 agrees.1 agrees.2 (staged agrees.0 reached.Advanced agrees.1 e)
