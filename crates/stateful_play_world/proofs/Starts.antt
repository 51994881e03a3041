-- Where a play begins.
use Rattle.std.proofs.Common.{◌≡◌, ℕ, List, Option, refl, sym, ap, ◌∙◌}
use Rattle.stateful_base.specs.Names.{Named}
use Rattle.stateful_bank.specs.declared.block.BankBlock.{BankBlock}
use Rattle.stateful_script.specs.declared.script.PlannedBlock.{PlannedBlock}
use Rattle.stateful_script.specs.declared.script.PlannedEvent.{PlannedEvent}
use Rattle.stateful_actor_laws.specs.Media.{IsAsAtStart}
use Rattle.stateful_script_plan.specs.declared.plan.Planned.{Planned}
use Rattle.stateful_script_plan.specs.Plan.{HaveOutline}
use Rattle.stateful_bank_app.specs.Fresh.{AreEmpty}
use Rattle.stateful_script_plan.specs.Store.{store_of}
use Rattle.stateful_script_plan.proofs.Heights.{genesis_stored}
use Rattle.stateful_play_world.specs.Grounds.{Grounds, bank}

module _ {Drafts Sealed Sets : Type 0} (g : Grounds Drafts Sealed Sets) where
  -- databases on empty media are as at the start
  pub empty_starts : (stored : ℕ → Option (Named BankBlock)) (lines : List PlannedBlock) (made : List Planned) (ls : List PlannedEvent)
      → HaveOutline g.rules g.kind.target_of g.kind.initial lines made → ((h : ℕ) → stored h ≡ store_of made ls h)
      → g.rules.committed (g.rules.listed (g.kind.target_of g.kind.initial)) ≡ g.kind.target_of g.kind.initial
      → (m : g.kind.Members) → AreEmpty g.kind m → IsAsAtStart (bank g) stored m
  empty_starts stored lines made ls planned same commits m empty = record {
    initial = λ i within. let h = empty.has i within in
        record { place = h.place; at = record { state = g.kind.initial; has = h.has; targets = refl }; durable = h.durable };
    genesis = λ b found. ap g.rules.committed (genesis_stored g.rules g.kind.target_of g.kind.initial lines planned.outline ls b planned.planned
        (rw (← planned.made_are) (sym (same 0) ∙ found))) ∙ commits;
  }
