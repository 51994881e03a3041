-- What runs end with.
use Rattle.std.proofs.Common.{◌≡◌, true, false, Option, Some, None, refl, ap}
use Rattle.std.specs.Option.{option_map}
use Rattle.stateful_base.specs.declared.outcome.Finality.{Finality}
use Rattle.stateful_base.specs.declared.outcome.Finality.TheVariants.{Candidate, Finalized}
use Rattle.stateful_db.specs.Meaning.{outcome}
use Rattle.stateful_bank.specs.declared.block.BankBlock.{BankBlock}
use Rattle.stateful_bank.specs.Op.{accept}
use Rattle.stateful_bank_app.specs.Rules.{Rules, bank_meaning, changes_of, stepped}
use Rattle.stateful_bank_app.specs.Runs.{IsRejected}

module _ {States Targets : Type 0} (w : Rules States Targets) (s : States) (b : BankBlock) where
  -- the states of a block, by what its operations change
  leads : (o : Option w.Changes) → changes_of w s b.ops ≡ o → stepped w s b.ops b.height.0 ≡ option_map (λ changes. w.sealed s changes b.ops b.height.0) o
  leads o e = ap (λ z. option_map (λ changes. w.sealed s changes b.ops b.height.0) z) e

  accepted : (finality : Finality) (o : Option States) → stepped w s b.ops b.height.0 ≡ o → (IsRejected finality b.ops → ⊥) → outcome (bank_meaning w) finality s b ≡ o
  accepted Candidate o e good =
      elim (accept b.ops) as (λ t. (t ≡ false → ⊥) → ◌≡◌ {A = Option States} (elim t as (λ x. Option States) [ false ↦ None | true ↦ stepped w s b.ops b.height.0 ]) o) [
        | false ↦ λ isnt. absurd (isnt refl)
        | true ↦ λ isnt. e
      ] good
  accepted Finalized o e good = e

  -- no states where the operations aren't allowed
  pub outcome_refused : (finality : Finality) → changes_of w s b.ops ≡ None → outcome (bank_meaning w) finality s b ≡ None
  outcome_refused Candidate none =
      elim (accept b.ops) as (λ t. ◌≡◌ {A = Option States} (elim t as (λ x. Option States) [ false ↦ None | true ↦ stepped w s b.ops b.height.0 ]) None) [
        | false ↦ refl
        | true ↦ leads None none
      ]
  outcome_refused Finalized none = leads None none

  -- no states for a candidate that isn't acceptable
  pub outcome_rejected : (finality : Finality) → IsRejected finality b.ops → outcome (bank_meaning w) finality s b ≡ None
  outcome_rejected Candidate rejected = rw rejected
  outcome_rejected Finalized rejected = absurd rejected

  -- the states behind the operations otherwise
  pub outcome_allowed : (finality : Finality) (changes : w.Changes) → (IsRejected finality b.ops → ⊥) → changes_of w s b.ops ≡ Some changes → outcome (bank_meaning w) finality s b ≡ Some (w.sealed s changes b.ops b.height.0)
  outcome_allowed finality changes good allowed = accepted finality (Some (w.sealed s changes b.ops b.height.0)) (leads (Some changes) allowed) good
