-- Where the store has the finalized blocks of a history, or none, at their heights, it does so for the pasts within it.
use Rattle.std.proofs.Common.{◌∷◌, [], ℕ, List, Option}
use Rattle.stateful_base.specs.Names.{Header, Named}
use Rattle.stateful_history.specs.Past.{Past, Item, Came, Made, after, after_entry, after_all}
use Rattle.stateful_history.specs.Honest.{StoresFinalized}
use Rattle.stateful_history.specs.declared.entry.Entry.{Entry}
use Rattle.stateful_history.specs.declared.event.Event.TheVariants.{Finalized}
use Rattle.stateful_history.specs.declared.mark.Mark.{Mark}

module _ {B C I : Type 0} (header : Header B) (stored : ℕ → Option (Named B)) where
  pub StoresFinalized-before_item : (item : Item B C I) (p : Past B C I) → StoresFinalized header stored (item ∷ p) → StoresFinalized header stored p
  StoresFinalized-before_item (Came (Finalized t b)) p stores = stores.1
  StoresFinalized-before_item item p stores = stores

  pub StoresFinalized-before_marks : (p : Past B C I) (marks : List (Mark B)) → StoresFinalized header stored (after p marks)
      → StoresFinalized header stored p
  StoresFinalized-before_marks p [] stores = stores
  StoresFinalized-before_marks p (mark ∷ marks) stores =
      StoresFinalized-before_item (Made mark) p (StoresFinalized-before_marks (Made mark ∷ p) marks stores)

  pub StoresFinalized-before_all : (p : Past B C I) (entries : List (Entry B C I)) → StoresFinalized header stored (after_all p entries)
      → StoresFinalized header stored p
  StoresFinalized-before_all p [] stores = stores
  StoresFinalized-before_all p (entry ∷ entries) stores =
      StoresFinalized-before_item (Came entry.event) p
      (StoresFinalized-before_marks (Came entry.event ∷ p) entry.marks
      (StoresFinalized-before_all (after_entry p entry.event entry.marks) entries stores))
