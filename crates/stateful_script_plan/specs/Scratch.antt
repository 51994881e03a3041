-- The states after blocks, as sealed batches over databases that stay where they were opened.
use Rattle.std.specs.Prelude.{◌≡◌, List, [], ◌∷◌, ◌++◌, Option, Some, None, MatchOption}
use Rattle.stateful_db.specs.Databases.{Databases}
use Rattle.stateful_script_plan.specs.declared.scratch.After.{After}
use Rattle.stateful_script_plan.specs.declared.scratch.After.TheVariants as after

module _ {Ids States Targets : Type 0} (d : Databases Ids States Targets) where
  -- databases that are open at the initial states, where these ids are drawn next
  pub record IsScratch (next : Ids) (m : d.Members) (at : Ids × States) : Type 0 where
    pub here : d.point m ≡ Some at
    pub initial : at.1 ≡ d.initial
    pub drawn : d.issued next (at ∷ [])

  -- a chain that ends at this point, whose first states are these, of ids that were drawn
  pub record Chain (next : Ids) (at : Ids × States) (s : States) : Type 0 where
    pub first : Ids × States
    pub behind : List (Ids × States)
    pub is : first.1 ≡ s
    pub above : List (Ids × States)
    pub ends : first ∷ behind ≡ above ++ at ∷ []
    pub drawn : d.issued next (first ∷ behind)

  -- a batch on such a chain to which nothing was done
  pub record BeginsOn {U : Type 0} (Opened : U → List (Ids × States) → Type 0) (next : Ids)
      (at : Ids × States) (batch : U) (s : States) : Type 0 where
    pub chain : Chain next at s
    pub own : Ids
    pub opened : Opened batch ((own, d.begun s) ∷ chain.first ∷ chain.behind)
    pub drawn : d.issued next ((own, d.begun s) ∷ chain.first ∷ chain.behind)

  -- a batch over these states, or none where there are none
  abbrev pub Begins : {U : Type 0}
      → (U → List (Ids × States) → Type 0)
      → Ids
      → Ids × States
      → Option U
      → Option States
      → Type 0
  Begins Opened next at None states = states ≡ None
  Begins Opened next at (Some batch) states = MatchOption states ⊥ (BeginsOn Opened next at batch)

  -- a sealed batch that leads to these states, on a chain that ends at this point
  pub record LeadsTo {M : Type 0} (Shows : M → List (Ids × States) → Type 0) (next : Ids)
      (at : Ids × States) (batch : M) (s : States) : Type 0 where
    pub own : Ids
    pub above : List (Ids × States)
    pub shown : Shows batch ((own, s) ∷ above ++ at ∷ [])
    pub drawn : d.issued next ((own, s) ∷ above ++ at ∷ [])

  -- what is kept of these states, where there are such
  abbrev pub Keeps : {M : Type 0}
      → (M → List (Ids × States) → Type 0)
      → Ids
      → Ids × States
      → After M
      → Option States
      → Type 0
  Keeps Shows next at after.Initial states = states ≡ Some at.1
  Keeps Shows next at (after.Sealed batch) states =
      MatchOption states ⊥ (LeadsTo Shows next at batch)
  Keeps Shows next at after.Nothing states = states ≡ None
