-- Batches that may still change, as accounts.
use Rattle.std.specs.Prelude.{◌≡◌, List, ◌∷◌, Option, Some}
use Rattle.stateful_db.specs.Chain.{IsPoint}
use Rattle.stateful_bank.specs.Accounts as accounts
use Rattle.stateful_bank_app.specs.Rules.{Rules}

-- the point where these databases are, which is one of the chain
pub record IsAmong {P : Type 0} (place : Option P) (c : List P) : Type 0 where
  pub point : P
  pub is : place ≡ Some point
  pub among : IsPoint point c

module _ (Ids : Type 0) {States Targets : Type 0} (w : Rules States Targets) where
  -- what a batch of these ids changes, over a chain whose first point is its parent
  pub record Place : Type 0 where
    pub changes : w.Changes
    pub own : Ids
    pub parent : Ids × States
    pub below : List (Ids × States)

  -- places as states of accounts
  abbrev pub draft_book : accounts.Book
  draft_book = record {
    State = Place;
    balance = λ s account. Some (w.balance s.parent.1 s.changes account);
    with_balance = λ s account balance.
        record s { changes = w.with_balance s.changes account balance };
  }

  -- the batch holds that, over databases that are at this point
  pub record StandsAt {U : Type 0}
      (Holds : U → w.Changes → Ids → Ids × States → List (Ids × States) → Type 0)
      (at : Option (Ids × States)) (batch : U) (s : Place) : Type 0 where
    pub holds : Holds batch s.changes s.own s.parent s.below
    pub among : IsAmong at (s.parent ∷ s.below)
