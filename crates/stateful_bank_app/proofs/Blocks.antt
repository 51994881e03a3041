-- Blocks that are run at once.
use Rattle.std.proofs.Common.{◌≡◌, ℕ, List, ◌∷◌, Option, Some, None, MatchOption, option_map, refl}
use Rattle.std.specs.Option.{IsSomeAnd}
use Rattle.stateful_bank.specs.declared.op.Op.{Op}
use Rattle.stateful_bank.specs.Accounts.{Becomes}
use Rattle.stateful_bank_app.specs.Rules.{Rules}

module _ {U M Ids States Targets : Type 0} (w : Rules States Targets) (Holds : U → w.Changes → Ids → Ids × States → List (Ids × States) → Type 0) (Shows : M → List (Ids × States) → Type 0) (own : Ids) (p : Ids × States) (c : List (Ids × States)) (ops : List Op) (height : ℕ) where
  -- where an operation isn't allowed, there are no states
  pub none_behind : (changes : Option w.Changes) → changes ≡ None → option_map (λ now. w.sealed p.1 now ops height) changes ≡ None
  none_behind None e = refl
  none_behind (Some changes) e = absurd cc

  -- the seal of a batch that holds all changes shows the states behind them
  pub sealed_behind : (batch : U) (sealed : Option M) (changes : Option w.Changes) → MatchOption changes ⊥ (λ now. Holds batch now own p c)
      → ((now : w.Changes) → Holds batch now own p c → IsSomeAnd sealed (λ m. Shows m ((own, w.sealed p.1 now ops height) ∷ p ∷ c)))
      → Becomes (λ m s. Shows m ((own, s) ∷ p ∷ c)) sealed (option_map (λ now. w.sealed p.1 now ops height) changes)
  sealed_behind batch sealed None held seals = absurd held
  sealed_behind batch None (Some now) held seals = absurd (seals now held)
  sealed_behind batch (Some m) (Some now) held seals = seals now held
