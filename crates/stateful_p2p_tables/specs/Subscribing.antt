-- Which keys are fetched, and for whom.
use Rattle.std.specs.Prelude.{◌≡◌, ◌↔◌, ℕ, Bool, false, Option, Some, None, List, [], Contains}
use Rattle.std.specs.Ordering.{nat_cmp, eq_by_cmp}
use Rattle.std.specs.declared.cmp.Ordering.{Ordering}
use Rattle.std.specs.BTreeMap.{BTreeMap, get}
use Rattle.std.specs.BTreeSet.{BTreeSet, contains}
use Rattle.std.specs.List.Sorted.{IsStrictlySortedBy}
use Rattle.stateful_types.specs.declared.request.Request.{Request}
use Rattle.stateful_table.specs.Table.{at, put, without}

-- whether it is this key
abbrev pub is_key : {K : Type 0} → (K → K → Ordering) → K → Option K → Bool
is_key cmp key None = false
is_key cmp key (Some other) = eq_by_cmp cmp other key

-- whether a set has the ticket
abbrev pub has_ticket : Option (BTreeSet ℕ) → ℕ → Bool
has_ticket None t = false
has_ticket (Some tickets) t = contains nat_cmp tickets t

-- whether the index has the ticket under this key
abbrev pub is_listed : {K : Type 0} → (K → K → Ordering) → BTreeMap K (BTreeSet ℕ) → K → ℕ → Bool
is_listed cmp index key t = has_ticket (get cmp index key) t

-- the subscribers of a key: the tickets for which it is fetched, in ascending order
pub record AreSubscribers (subscriptions : List (ℕ × Request)) (key : Request)
    (tickets : List ℕ) : Type 0 where
  pub ascending : IsStrictlySortedBy nat_cmp tickets
  pub members : (t : ℕ) → Contains tickets t ↔ (at subscriptions t ≡ Some key)

abbrev pub tickets_of : Option (BTreeSet ℕ) → List ℕ
tickets_of None = []
tickets_of (Some tickets) = tickets.keys

abbrev pub ListsSubscribers : List (ℕ × Request) → Request → Option (BTreeSet ℕ) → Type 0
ListsSubscribers subscriptions key found = AreSubscribers subscriptions key (tickets_of found)

-- the ticket is subscribed to this key alone
abbrev pub subscribed : List (ℕ × Request) → ℕ → Request → List (ℕ × Request)
subscribed subscriptions t key = put (without subscriptions t) t key
