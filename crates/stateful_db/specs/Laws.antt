-- What holds of every set of databases, whatever its members are.
use Rattle.std.specs.Prelude.{◌≡◌, ℕ, ◌+◌, ◌<◌, ◌≤◌, ◌⊎◌, max, List, [], ◌∷◌, ◌++◌, length}
use Rattle.std.specs.Prelude.{slice_get, Option, Some, None}
use Rattle.stateful_base.specs.Causes.{Rose}
use Rattle.stateful_db.specs.Tokens.{without}
use Rattle.stateful_db.specs.Databases.{Databases, EndsWithin, Preserves}
use Rattle.stateful_db.specs.declared.database.InitError.{InitError}
use Rattle.stateful_db.specs.declared.database.InitError.TheVariants as error

module _ {Ids States Targets : Type 0} (d : Databases Ids States Targets) where
  -- behind an opening at these targets a checkpoint is kept where its range doesn't end behind
  -- theirs, and it is durable where it was
  pub record KeepsUpTo (t : Targets) (old new : d.Members) : Type 0 where
    pub kept : (i k : ℕ) (s : States)
        → i < d.count
        → d.HasAt old i k s
        → EndsWithin d t i s
        → d.HasAt new i k s
    pub durable : (i k : ℕ) (s : States)
        → i < d.count
        → d.HasAt old i k s
        → EndsWithin d t i s
        → k ≤ d.durable old i
        → k ≤ d.durable new i

  -- a checkpoint is kept behind a prune to these targets where it isn't older than the oldest that
  -- the prune leaves
  pub record KeepsFrom (t : Targets) (old new : d.Members) : Type 0 where
    pub kept : (i k : ℕ) (s : States)
        → i < d.count
        → d.first (d.pruned old t) i ≤ k
        → d.HasAt old i k s
        → d.HasAt new i k s
    pub durable : (i : ℕ) → i < d.count → d.durable new i ≡ d.durable old i

  -- of batch ids and chains
  pub record IdLaws : Type 0 where
    pub issued_first : (n : Ids) (p : Ids × States) (c : List (Ids × States))
        → d.issued n (p ∷ c)
        → d.issued n (p ∷ [])
    pub issued_other : (n i : Ids) (s t : States) (c : List (Ids × States))
        → d.issued n ((i, s) ∷ c)
        → d.issued n ((i, t) ∷ c)
    pub issued_cut : (n : Ids) (above older : List (Ids × States)) (p : Ids × States)
        → d.issued n (above ++ p ∷ older)
        → d.issued n (above ++ p ∷ [])
    pub issued_following : (n : Ids) (c : List (Ids × States))
        → d.issued n c
        → d.issued (d.following n) c

  -- of targets
  pub record TargetLaws : Type 0 where
    pub agrees_all : (t u : Targets) → ((i : ℕ) → i < d.count → d.Agrees t u i) → t ≡ u
    pub agrees_same : (t : Targets) (i : ℕ) → d.Agrees t t i

  -- of where the databases are, and of the tokens that are out
  pub record PlaceLaws : Type 0 where
    pub openable_closed : (m : d.Members) → d.Closed m → d.Openable m
    pub away_openable : (m : d.Members) → d.Openable m → d.NoneAway m
    pub away_here : (m : d.Members) (p : Ids × States) → d.point m ≡ Some p → d.NoneAway m
    pub has_state : (m : d.Members) (p : Ids × States) (i : ℕ)
        → d.point m ≡ Some p
        → d.HasState m i p.1
    pub has_newest : (m : d.Members) (p : Ids × States) (i : ℕ)
        → i < d.count
        → d.point m ≡ Some p
        → d.HasAt m i (d.place m i) p.1
    pub newest_has : (m : d.Members) (i : ℕ) (s : States)
        → i < d.count
        → d.HasAt m i (d.place m i) s
        → d.HasState m i s
    pub whole_states : (m : d.Members) (p : Ids × States) (s : States)
        → d.point m ≡ Some p
        → ((i : ℕ) → i < d.count → d.HasState m i s)
        → p.1 ≡ s
    pub has_kept : (m : d.Members) (i origin k : ℕ) (states : List States) (s : States)
        → i < d.count
        → d.Keeps m i origin states
        → slice_get states k ≡ Some s
        → d.first m i ≤ origin + k
        → d.HasAt m i (origin + k) s
    pub idle_from : (m : d.Members) (p : Ids × States)
        → d.point m ≡ Some p
        → ((i : ℕ) → i < d.count → d.tokens m i ≡ [])
        → d.Idle m
    pub room_from : (m : d.Members) (p : Ids × States)
        → d.point m ≡ Some p
        → ((i : ℕ) → i < d.count → length (d.tokens m i) < 2)
        → d.HasRoom m
    pub idle_room : (m : d.Members) → d.Idle m → d.HasRoom m
    pub tokens_idle : (m : d.Members) (i : ℕ) → d.Idle m → d.tokens m i ≡ []

  -- of an apply
  pub record ApplyLaws : Type 0 where
    pub keeps_applied : (m : d.Members) (p q : Ids × States) (i origin : ℕ) (states : List States)
        → i < d.count
        → origin ≤ d.place m i
        → d.point m ≡ Some p
        → d.Keeps m i origin states
        → d.Keeps (d.applied m q) i origin (states ++ q.1 ∷ [])
    pub first_applied : (m : d.Members) (q : Ids × States) (i : ℕ)
        → d.first (d.applied m q) i ≡ d.first m i
    pub place_applied : (m : d.Members) (p q : Ids × States) (i : ℕ)
        → i < d.count
        → d.point m ≡ Some p
        → d.place (d.applied m q) i ≡ d.place m i + 1
    pub durable_applied : (m : d.Members) (q : Ids × States) (i : ℕ)
        → d.durable (d.applied m q) i ≡ d.durable m i
    pub tokens_applied : (m : d.Members) (q : Ids × States) (i : ℕ)
        → d.tokens (d.applied m q) i ≡ d.tokens m i
    pub point_applied : (m : d.Members) (p q : Ids × States)
        → d.point m ≡ Some p
        → d.point (d.applied m q) ≡ Some q
    pub preserves_applied : (m : d.Members) (q : Ids × States) → Preserves d m (d.applied m q)
    pub preserves_lost_applying : (m k : d.Members) (q : Ids × States) (n : ℕ)
        → d.LostApplying m q n k
        → Preserves d m k

  -- of a finalize
  pub record FinalizeLaws : Type 0 where
    pub keeps_finalized : (m : d.Members) (i origin : ℕ) (states : List States)
        → d.Keeps m i origin states
        → d.Keeps (d.finalized m) i origin states
    pub first_finalized : (m : d.Members) (i : ℕ) → d.first (d.finalized m) i ≡ d.first m i
    pub place_finalized : (m : d.Members) (i : ℕ) → d.place (d.finalized m) i ≡ d.place m i
    pub durable_finalized : (m : d.Members) (i : ℕ) → d.durable (d.finalized m) i ≡ d.durable m i
    pub tokens_finalized : (m : d.Members) (p : Ids × States) (i : ℕ)
        → i < d.count
        → d.point m ≡ Some p
        → d.tokens (d.finalized m) i ≡ d.tokens m i ++ d.place m i ∷ []
    pub point_finalized : (m : d.Members) → d.point (d.finalized m) ≡ d.point m
    pub state_finalized : (m : d.Members) (i : ℕ) (s : States)
        → d.HasState m i s
        → d.HasState (d.finalized m) i s
    pub preserves_finalized : (m : d.Members) → Preserves d m (d.finalized m)
    pub preserves_lost_finalizing : (m k : d.Members) (n : ℕ)
        → d.LostFinalizing m n k
        → Preserves d m k

  -- of a flush
  pub record FlushLaws : Type 0 where
    pub keeps_flushed : (m : d.Members) (n at i origin : ℕ) (states : List States)
        → d.Keeps m i origin states
        → d.Keeps (d.flushed m n at) i origin states
    pub first_flushed : (m : d.Members) (n at i : ℕ) → d.first (d.flushed m n at) i ≡ d.first m i
    pub place_flushed : (m : d.Members) (n at i : ℕ) → d.place (d.flushed m n at) i ≡ d.place m i
    pub durable_flushed : (m : d.Members) (p : Ids × States) (n at : ℕ)
        → n < d.count
        → d.point m ≡ Some p
        → d.durable (d.flushed m n at) n ≡ max at (d.durable m n)
    pub durable_others : (m : d.Members) (n at i : ℕ)
        → n < d.count
        → i < d.count
        → (i ≡ n → ⊥)
        → d.durable (d.flushed m n at) i ≡ d.durable m i
    pub tokens_flushed : (m : d.Members) (n at : ℕ)
        → n < d.count
        → d.tokens (d.flushed m n at) n ≡ without at (d.tokens m n)
    pub tokens_others : (m : d.Members) (n at i : ℕ)
        → n < d.count
        → i < d.count
        → (i ≡ n → ⊥)
        → d.tokens (d.flushed m n at) i ≡ d.tokens m i
    pub point_flushed : (m : d.Members) (n at : ℕ) → d.point (d.flushed m n at) ≡ d.point m
    pub preserves_flushed : (m : d.Members) (n at : ℕ) → Preserves d m (d.flushed m n at)
    pub preserves_lost_flushing : (m k : d.Members) (n at : ℕ)
        → d.LostFlushing m n at k
        → Preserves d m k

  -- of a prune
  pub record PruneLaws : Type 0 where
    pub prunable_from : (m : d.Members) (t : Targets)
        → d.Sound m
        → d.Idle m
        → ((i : ℕ)
        → i < d.count
        → (k : ℕ)
        × (s : States)
        × d.HasAt m i k s
        × d.Agrees (d.target_of s) t i
        × (k ≤ d.durable m i))
        → d.Prunable m t
    pub keeps_pruned : (m : d.Members) (t : Targets) (i origin : ℕ) (states : List States)
        → d.Prunable m t
        → d.Keeps m i origin states
        → d.Keeps (d.pruned m t) i origin states
    pub first_pruned : (m : d.Members) (t : Targets) (i k : ℕ) (s : States)
        → d.Sound m
        → d.Prunable m t
        → i < d.count
        → d.HasAt m i k s
        → d.Agrees (d.target_of s) t i
        → d.first (d.pruned m t) i ≡ k
    pub place_pruned : (m : d.Members) (t : Targets) (i : ℕ)
        → d.Prunable m t
        → d.place (d.pruned m t) i ≡ d.place m i
    pub durable_pruned : (m : d.Members) (t : Targets) (i : ℕ)
        → d.durable (d.pruned m t) i ≡ d.durable m i
    pub tokens_pruned : (m : d.Members) (t : Targets) (i : ℕ)
        → d.tokens (d.pruned m t) i ≡ d.tokens m i
    pub point_pruned : (m : d.Members) (t : Targets) → d.point (d.pruned m t) ≡ d.point m
    pub state_pruned : (m : d.Members) (t : Targets) (i : ℕ) (s : States)
        → d.HasState m i s
        → d.HasState (d.pruned m t) i s
    pub kept_pruned : (m : d.Members) (t : Targets) → d.Prunable m t → KeepsFrom t m (d.pruned m t)
    pub kept_lost_pruning : (m k : d.Members) (t : Targets) (n : ℕ)
        → d.Prunable m t
        → d.LostPruning m t n k
        → KeepsFrom t m k

  -- of a crash and of an opening
  pub record OpeningLaws : Type 0 where
    pub openable_crashed : (m k : d.Members) (keep : List ℕ) → d.Crashed m keep k → d.Openable k
    pub durable_crashed : (m k : d.Members) (keep : List ℕ) (i : ℕ)
        → i < d.count
        → d.Crashed m keep k
        → d.durable k i ≡ d.durable m i
    pub sound_crashed : (m k : d.Members) (keep : List ℕ)
        → d.Sound m
        → d.Crashed m keep k
        → d.Sound k
    pub kept_crashed : (m k : d.Members) (keep : List ℕ) (i at : ℕ) (s : States)
        → i < d.count
        → d.Crashed m keep k
        → at ≤ d.durable m i
        → d.HasAt m i at s
        → d.HasAt k i at s
    pub refused : (m k : d.Members) (expected : Option Targets) (i : ℕ) (why : InitError)
        → i < d.count
        → d.Refuses m expected i why
        → d.Reopened m expected k
        → ⊥
    pub refused_first : (m k : d.Members) (expected : Option Targets) (i j : ℕ)
        (why given : InitError) (before now : ℕ)
        → i < d.count
        → d.Refuses m expected i why
        → d.NotOpened m expected j before now given k
        → j ≤ i
    pub cause : (m k : d.Members) (expected : Option Targets) (i : ℕ) (why : InitError)
        (before now : ℕ)
        → d.NotOpened m expected i before now why k
        → (why ≡ error.OutOfMemory)
        ⊎ (((why ≡ error.Database) × Rose before now) ⊎ d.Refuses m expected i why)
    pub not_refused : (m : d.Members) (t : Targets) (i at : ℕ) (s : States) (why : InitError)
        → d.Sound m
        → i < d.count
        → d.HasAt m i at s
        → d.Agrees (d.target_of s) t i
        → d.Refuses m (Some t) i why
        → ⊥
    pub opened_at : (m k : d.Members) (t : Targets) (i at : ℕ) (s : States)
        → d.Sound m
        → i < d.count
        → d.Openable m
        → d.Reopened m (Some t) k
        → d.HasAt m i at s
        → d.Agrees (d.target_of s) t i
        → (d.place k i ≡ at) × d.HasAt k i at s
    pub kept_reclosed : (m k : d.Members) (t : Targets)
        → d.Sound m
        → d.Reclosed m (Some t) k
        → KeepsUpTo t m k
    pub refused_reclosed : (m k : d.Members) (expected : Option Targets) (i : ℕ) (why : InitError)
        → i < d.count
        → d.Refuses m expected i why
        → d.Reclosed m expected k
        → ⊥
    pub away_reclosed : (m k : d.Members) (expected : Option Targets)
        → d.NoneAway m
        → d.Reclosed m expected k
        → d.NoneAway k
    pub openable_reclosed : (m k : d.Members) (expected : Option Targets)
        → d.Openable m
        → d.Reclosed m expected k
        → d.Openable k
    pub kept_reopened : (m k : d.Members) (t : Targets)
        → d.Sound m
        → d.Reopened m (Some t) k
        → KeepsUpTo t m k
    pub kept_not_opened : (m k : d.Members) (t : Targets) (j : ℕ) (why : InitError) (before now : ℕ)
        → d.Sound m
        → d.NotOpened m (Some t) j before now why k
        → KeepsUpTo t m k
    pub away_reopened : (m k : d.Members) (expected : Option Targets)
        → d.NoneAway m
        → d.Reopened m expected k
        → d.NoneAway k
    pub away_not_opened : (m k : d.Members) (expected : Option Targets) (i : ℕ) (why : InitError)
        (before now : ℕ)
        → d.NoneAway m
        → d.NotOpened m expected i before now why k
        → d.NoneAway k
    pub openable_not_opened : (m k : d.Members) (expected : Option Targets) (i : ℕ)
        (why : InitError) (before now : ℕ)
        → d.Openable m
        → d.NotOpened m expected i before now why k
        → d.Openable k

  pub record Laws : Type 0 where
    pub ids : IdLaws
    pub targets : TargetLaws
    pub places : PlaceLaws
    pub apply : ApplyLaws
    pub finalize : FinalizeLaws
    pub flush : FlushLaws
    pub prune : PruneLaws
    pub opening : OpeningLaws
