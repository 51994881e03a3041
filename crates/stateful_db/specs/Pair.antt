-- What a set means that has one database before the others. The first has the number 0, and the
-- others follow.
use Rattle.std.specs.Prelude.{◌≡◌, ℕ, zero, suc, ◌+◌, ◌-◌, ◌^◌, ◌⊎◌, min, List, map, drop, Option}
use Rattle.std.specs.Prelude.{Some, None}
use Rattle.std.specs.Option.{option_map}
use Rattle.stateful_db.specs.Calls.{Calls, Counts}
use Rattle.stateful_db.specs.Databases.{Databases}
use Rattle.stateful_db.specs.declared.set.SetError.{SetError}
use Rattle.stateful_db.specs.declared.set.SetError.TheVariants.{DatabaseFault}

module _ {I J S T : Type 0} where
  -- the first's part of a point, and that of the others
  abbrev pub left : (I × J) × (S × T) → I × S
  left p = (p.0.0, p.1.0)

  abbrev pub right : (I × J) × (S × T) → J × T
  right p = (p.0.1, p.1.1)

  -- a point of both, where both have one
  abbrev pub both : Option (I × S) → Option (J × T) → Option ((I × J) × (S × T))
  both None q = None
  both (Some p) None = None
  both (Some p) (Some q) = Some ((p.0, q.0), (p.1, q.1))

-- the first's targets, and those of the others
abbrev pub first_of : {A B : Type 0} → Option (A × B) → Option A
first_of expected = option_map (λ t. t.0) expected

abbrev pub others_of : {A B : Type 0} → Option (A × B) → Option B
others_of expected = option_map (λ t. t.1) expected

-- of the database of this number: what is of the first, or of one of the others
abbrev pub by_number {ℓ} : {X : Type ℓ} → X → (ℕ → X) → ℕ → X
by_number here behind zero = here
by_number here behind (suc i) = behind i

-- of each the calls are counted
pub each_counts : (x : Option Calls) (n : ℕ) (f : ℕ → Option Calls) (g : ℕ → ℕ)
    → Counts x n
    → ((i : ℕ) → Counts (f i) (g i))
    → (i : ℕ)
    → Counts (by_number x f i) (by_number n g i)
each_counts x n f g first others zero = first
each_counts x n f g first others (suc i) = others i

module _ {I J S U T V : Type 0} (a : Databases I S T) (b : Databases J U V) where
  -- the first is lost, and the others are as before; or it has changed so, and one of the others is
  -- lost
  abbrev pub LostInOrder : (a.Members → Type 0)
      → a.Members
      → (ℕ → b.Members → Type 0)
      → b.Members
      → ℕ
      → a.Members × b.Members
      → Type 0
  LostInOrder Lost changed LostBehind others zero k = Lost k.0 × (k.1 ≡ others)
  LostInOrder Lost changed LostBehind others (suc i) k = (k.0 ≡ changed) × LostBehind i k.1

  -- the first is lost, and the others are as before; or one of the others is lost, and the first is
  -- as before
  abbrev pub pair : Databases (I × J) (S × U) (T × V)
  pair = record {
    Members = a.Members × b.Members;
    count = suc b.count;
    point = λ m. both (a.point m.0) (b.point m.1);
    target_of = λ s. (a.target_of s.0, b.target_of s.1);
    target_at = λ t. by_number (a.target_at t.0 0) (b.target_at t.1);
    Agrees = λ t u. by_number (a.Agrees t.0 u.0 0) (b.Agrees t.1 u.1);
    operations = λ t. a.operations t.0 + b.operations t.1;
    initial = (a.initial, b.initial);
    Full = λ s. a.Full s.0 ⊎ b.Full s.1;
    Spent = λ n. a.Spent n.0 ⊎ b.Spent n.1;
    following = λ n. (a.following n.0, b.following n.1);
    begun = λ s. (a.begun s.0, b.begun s.1);
    issued = λ n c. a.issued n.0 (map left c) × b.issued n.1 (map right c);
    HasAt = λ m i k s. by_number (a.HasAt m.0 0 k s.0) (λ j. b.HasAt m.1 j k s.1) i;
    Keeps =
        λ m i origin states. by_number (a.Keeps m.0 0 origin (map (λ s. s.0) states))
        (λ j. b.Keeps m.1 j origin (map (λ s. s.1) states)) i;
    first = λ m. by_number (a.first m.0 0) (b.first m.1);
    place = λ m. by_number (a.place m.0 0) (b.place m.1);
    durable = λ m. by_number (a.durable m.0 0) (b.durable m.1);
    tokens = λ m. by_number (a.tokens m.0 0) (b.tokens m.1);
    Sound = λ m. a.Sound m.0 × b.Sound m.1;
    Idle = λ m. a.Idle m.0 × b.Idle m.1;
    HasRoom = λ m. a.HasRoom m.0 × b.HasRoom m.1;
    Openable = λ m. a.Openable m.0 × b.Openable m.1;
    Closed = λ m. a.Closed m.0 × b.Closed m.1;
    NoneAway = λ m. a.NoneAway m.0 × b.NoneAway m.1;
    AllAway = λ m. a.AllAway m.0 × b.AllAway m.1;
    Lost = λ m. by_number (a.Lost m.0 0) (b.Lost m.1);
    HasState = λ m i s. by_number (a.HasState m.0 0 s.0) (λ j. b.HasState m.1 j s.1) i;
    applied = λ m p. (a.applied m.0 (left p), b.applied m.1 (right p));
    finalized = λ m. (a.finalized m.0, b.finalized m.1);
    flushed = λ m i at. by_number (a.flushed m.0 0 at, m.1) (λ j. (m.0, b.flushed m.1 j at)) i;
    Prunable = λ m t. a.Prunable m.0 t.0 × b.Prunable m.1 t.1;
    pruned = λ m t. (a.pruned m.0 t.0, b.pruned m.1 t.1);
    LostApplying =
        λ m p. LostInOrder (a.LostApplying m.0 (left p) 0) (a.applied m.0 (left p))
        (b.LostApplying m.1 (right p)) m.1;
    LostFinalizing =
        λ m. LostInOrder (a.LostFinalizing m.0 0) (a.finalized m.0) (b.LostFinalizing m.1) m.1;
    LostFlushing =
        λ m i at k. by_number (a.LostFlushing m.0 0 at k.0 × (k.1 ≡ m.1))
        (λ j. (k.0 ≡ m.0) × b.LostFlushing m.1 j at k.1) i;
    LostPruning =
        λ m t. LostInOrder (a.LostPruning m.0 t.0 0) (a.pruned m.0 t.0) (b.LostPruning m.1 t.1) m.1;
    Reopened =
        λ m expected k. a.Reopened m.0 (first_of expected) k.0
        × b.Reopened m.1 (others_of expected) k.1;
    Reclosed =
        λ m expected k. a.Reclosed m.0 (first_of expected) k.0
        × b.Reclosed m.1 (others_of expected) k.1;
    Refuses =
        λ m expected i why. by_number (a.Refuses m.0 (first_of expected) 0 why)
        (λ j. b.Refuses m.1 (others_of expected) j why) i;
    NotOpened = λ m expected i before now why k.
        by_number
        (a.NotOpened m.0 (first_of expected) 0 before now why k.0 × (k.1 ≡ m.1))
        (λ j. a.Reclosed m.0 (first_of expected) k.0
        × b.NotOpened m.1 (others_of expected) j before now why k.1)
        i;
    Crashed = λ m keep k. a.Crashed m.0 keep k.0 × b.Crashed m.1 (drop 1 keep) k.1;
  }

-- the error of a set that stands behind one database: its databases have the next numbers, up to
-- the last one
abbrev pub behind_first : SetError → SetError
behind_first (DatabaseFault index call) = DatabaseFault (min (index + 1) (2 ^ 64 - 1)) call
behind_first error = error
