-- Operations of a block that are done one a turn.
use Rattle.std.specs.Prelude.{◌≡◌, ℕ, ◌+◌, ◌<◌, List, length, take, max, Some, None}
use Rattle.stateful_bank.specs.declared.op.Op.{Op}
use Rattle.stateful_bank_app.specs.Rules.{Rules, changes_of, turns_of}
use Rattle.stateful_bank_app.specs.declared.progress.Progress.{Progress}
use Rattle.stateful_bank_app.specs.declared.progress.Advanced.{Advanced}
use Rattle.stateful_bank_app.specs.declared.progress.Advanced.TheVariants as advanced

module _ {U Ids States Targets : Type 0} (w : Rules States Targets)
    (Holds : U → w.Changes → Ids → Ids × States → List (Ids × States) → Type 0) where
  -- a batch of these ids over a chain holds what some operations change on the chain's first states
  pub record Shows (batch : U) (ops : List Op) (own : Ids) (p : Ids × States)
      (c : List (Ids × States)) : Type 0 where
    pub changes : w.Changes
    pub after : changes_of w p.1 ops ≡ Some changes
    pub holds : Holds batch changes own p c

  -- so many of these operations are done, and there are others, or there are none at all
  pub record HasDone (progress : Progress U) (ops : List Op) (own : Ids) (p : Ids × States)
      (c : List (Ids × States)) : Type 0 where
    pub within : progress.done < max 1 (length ops)
    pub shows : Shows progress.batch (take progress.done ops) own p c

  -- one operation more behind so many: it isn't allowed, or there are others, or all are done; with
  -- the turns that all take
  abbrev pub Advances : Advanced U
      → ℕ
      → List Op
      → Ids
      → Ids × States
      → List (Ids × States)
      → Type 0
  Advances advanced.Refused done ops own p c =
      (changes_of w p.1 ops ≡ None) × (turns_of w p.1 ops ≡ done + 1)
  Advances (advanced.Further progress) done ops own p c =
      HasDone progress ops own p c
      × (progress.done ≡ done + 1)
      × (done + 1 < turns_of w p.1 ops)
  Advances (advanced.Complete batch) done ops own p c =
      Shows batch ops own p c × (turns_of w p.1 ops ≡ done + 1)
