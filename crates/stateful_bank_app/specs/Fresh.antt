-- Databases on empty media.
use Rattle.std.specs.Prelude.{◌≡◌, ℕ, ◌<◌, ◌≤◌, List, [], get_or, Option, Some}
use Rattle.stateful_db.specs.Calls.{Calls, uncalled}
use Rattle.stateful_db.specs.Databases.{Databases}
use Rattle.stateful_db.specs.declared.database.DbCall.{DbCall}

-- on none of so many databases a call was made, and those are to fail that are listed for its number,
-- or none where no list is left for it
abbrev pub AreUncalled : ℕ → (ℕ → Option Calls) → List (List (DbCall × ℕ)) → Type 0
AreUncalled count calls failing =
    (i : ℕ) → i < count → calls i ≡ Some (uncalled (get_or failing i []))

module _ {Ids States Targets : Type 0} (d : Databases Ids States Targets) where
  -- the database of this number keeps durably a checkpoint of its part of these states
  pub record HasDurably (m : d.Members) (s : States) (i : ℕ) : Type 0 where
    pub place : ℕ
    pub has : d.HasAt m i place s
    pub durable : place ≤ d.durable m i

  -- The databases can be opened, each keeps durably a checkpoint of its part of the initial states,
  -- and opened at the targets of these they are at these.
  pub record AreEmpty (m : d.Members) : Type 0 where
    pub openable : d.Openable m
    pub has : (i : ℕ) → i < d.count → HasDurably m d.initial i
    pub opened : (k : d.Members) (p : Ids × States)
        → d.Reopened m (Some (d.target_of d.initial)) k
        → d.point k ≡ Some p
        → p.1 ≡ d.initial
