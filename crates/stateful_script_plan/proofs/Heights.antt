-- What the store of a script has at a height is a block of that height, and genesis is at its own.
use Rattle.std.proofs.Common.{◌≡◌, ℕ, ◌==◌, inl, inr, List, [], ◌∷◌, Some, slice_get, sym, ap}
use Rattle.std.proofs.lemmas.Bool.{cases_Bool, eqb-true}
use Rattle.std.proofs.lemmas.Option.{none-some, same_Some}
use Rattle.stateful_base.specs.Names.{Named}
use Rattle.stateful_history.specs.Honest.{StoresHeights}
use Rattle.stateful_bank.specs.BankBlock.{block_header}
use Rattle.stateful_bank.specs.declared.block.BankBlock.{BankBlock}
use Rattle.stateful_base.specs.declared.target.Target.{Target}
use Rattle.stateful_bank_app.specs.Rules.{Rules}
use Rattle.stateful_script.specs.declared.script.PlannedBlock.{PlannedBlock}
use Rattle.stateful_script.specs.declared.script.PlannedEvent.{PlannedEvent}
use Rattle.stateful_script_plan.specs.declared.plan.Planned.{Planned}
use Rattle.stateful_script_plan.specs.Plan.{Outlined, ArePlanned, blocks_of, genesis, targets_after, first_outlined}
use Rattle.stateful_script_plan.specs.Events.{planned_at}
use Rattle.stateful_script_plan.specs.Store.{at_height, finalized, store_of}
use Rattle.stateful_script_plan.proofs.Outlines.{genesis_first}

found_there : (height : ℕ) (blocks : List (Named BankBlock)) (b : Named BankBlock) → at_height blocks height ≡ Some b → b.block.height.0 ≡ height
found_there height [] b h = absurd (none-some b h)
found_there height (c ∷ blocks) b h =
    elim (cases_Bool (c.block.height.0 == height)) [
      | inl there ↦
          let same : c ≡ b = same_Some c b (rw there at h) in
          rw (← same) (eqb-true c.block.height.0 height there)
      | inr other ↦ found_there height blocks b (rw other at h)
    ]

pub heights_stored : (made : List Planned) (ls : List PlannedEvent) → StoresHeights block_header (store_of made ls)
unfolding store_of
heights_stored made ls height b found = found_there height ((planned_at made 0).block ∷ finalized made ls) b found

-- genesis is stored at its height, with the targets of the initial states
module _ {States Targets : Type 0} (rules : Rules States Targets) (target_of : States → Targets) (initial : States) where
  first_at : (outline : List (Outlined States)) → slice_get outline 0 ≡ Some (first_outlined rules target_of initial)
      → planned_at (blocks_of outline) 0 ≡ genesis (targets_after rules target_of initial (Some initial))
  first_at [] h = absurd (none-some (first_outlined rules target_of initial) h)
  first_at (o ∷ outline) h = ap (λ (x : Outlined States). x.planned) (same_Some o (first_outlined rules target_of initial) h)

  targets_found : (targets : List Target) (more : List (Named BankBlock)) (b : Named BankBlock) → at_height ((genesis targets).block ∷ more) 0 ≡ Some b → b.block.targets ≡ targets
  unfolding genesis
  targets_found targets more b h = ap (λ (x : Named BankBlock). x.block.targets) (sym (same_Some (genesis targets).block b h))

  pub genesis_stored : (lines : List PlannedBlock) (outline : List (Outlined States)) (ls : List PlannedEvent) (b : Named BankBlock)
      → ArePlanned rules target_of initial lines outline → store_of (blocks_of outline) ls 0 ≡ Some b
      → b.block.targets ≡ rules.listed (target_of initial)
  unfolding store_of
  genesis_stored lines outline ls b planned found =
      targets_found (targets_after rules target_of initial (Some initial)) (finalized (blocks_of outline) ls) b
      (rw (first_at outline (genesis_first rules target_of initial lines outline planned)) at found)
