-- What a set of databases means to the layer above: each function and relation over its members, in
-- one record.
use Rattle.std.specs.Prelude.{◌≡◌, ℕ, ◌+◌, ◌<◌, ◌≤◌, ◌⊎◌, max, List, [], ◌∷◌, ◌++◌, length}
use Rattle.std.specs.Prelude.{slice_get, Option, Some, None}
use Rattle.stateful_base.specs.declared.target.Target.{Target}
use Rattle.stateful_db.specs.Tokens.{without}
use Rattle.stateful_db.specs.declared.database.InitError.{InitError}
use Rattle.stateful_db.specs.declared.database.InitError.TheVariants as error

pub record Databases (Ids States Targets : Type 0) : Type 1 where
  -- all that is known of the databases, but for the next batch ids
  pub Members : Type 0
  -- how many there are
  pub count : ℕ
  -- where every database is here: of each the id of the last applied batch, and the state
  pub point : Members → Option (Ids × States)
  -- what a block commits to that leads to these states
  pub target_of : States → Targets
  -- the part of the database of this number, as a root with a range
  pub target_at : Targets → ℕ → Target
  -- the parts of the database of this number are the same
  pub Agrees : Targets → Targets → ℕ → Type 0
  -- the sum of the ends of the ranges
  pub operations : Targets → ℕ
  -- the states of empty media
  pub initial : States
  -- the range of a state ends at the last number or behind it
  pub Full : States → Type 0
  -- a database has no batch id left
  pub Spent : Ids → Type 0
  -- the next batch ids once one of each database is drawn
  pub following : Ids → Ids
  -- the states that the seal of batches without changes gives
  pub begun : States → States
  -- the ids of the chain were drawn before these
  pub issued : Ids → List (Ids × States) → Type 0
  -- the medium of the database of this number keeps a checkpoint at this place, which is its part
  -- of these states
  pub HasAt : Members → ℕ → ℕ → States → Type 0
  -- the checkpoints of the database of this number, from a place on, are its parts of these states,
  -- less the pruned ones
  pub Keeps : Members → ℕ → ℕ → List States → Type 0
  -- the place of its oldest checkpoint
  pub first : Members → ℕ → ℕ
  -- the place of its newest checkpoint
  pub place : Members → ℕ → ℕ
  -- the place of its last durable checkpoint
  pub durable : Members → ℕ → ℕ
  -- the places of the tokens that are out at it, the oldest first
  pub tokens : Members → ℕ → List ℕ
  -- each database's checkpoints are in order
  pub Sound : Members → Type 0
  -- every database is here, and no token is out
  pub Idle : Members → Type 0
  -- every database is here, and at each at most one token is out
  pub HasRoom : Members → Type 0
  -- every database is closed, or lost with its medium
  pub Openable : Members → Type 0
  -- every database is closed
  pub Closed : Members → Type 0
  -- no database is away
  pub NoneAway : Members → Type 0
  -- every database is away
  pub AllAway : Members → Type 0
  -- the database of this number is lost, with its medium
  pub Lost : Members → ℕ → Type 0
  -- the database of this number has its part of these states, where it is here
  pub HasState : Members → ℕ → States → Type 0
  -- each database has one checkpoint more
  pub applied : Members → Ids × States → Members
  -- at each database a token more is out, for all its checkpoints
  pub finalized : Members → Members
  -- the database of this number is durable up to a place, and a token of it is in
  pub flushed : Members → ℕ → ℕ → Members
  -- no token is out, and each database keeps a durable checkpoint of its part of these targets
  pub Prunable : Members → Targets → Type 0
  -- each database is without the checkpoints that are older than the one of these targets
  pub pruned : Members → Targets → Members
  -- the database of this number is lost by an apply; those before have applied, and those behind
  -- are as before
  pub LostApplying : Members → Ids × States → ℕ → Members → Type 0
  -- the database of this number is lost by a finalize; a token more is out at those before, and
  -- those behind are as before
  pub LostFinalizing : Members → ℕ → Members → Type 0
  -- the database of this number is lost by a flush up to a place; the others are as before
  pub LostFlushing : Members → ℕ → ℕ → Members → Type 0
  -- the database of this number is lost by a prune; those before are pruned, and those behind are
  -- as before
  pub LostPruning : Members → Targets → ℕ → Members → Type 0
  -- each database that was closed or lost is open at its checkpoint of these targets, or at its
  -- latest; the others are as before
  pub Reopened : Members → Option Targets → Members → Type 0
  -- each database that was closed or lost is closed, at the checkpoint at which it was opened; the
  -- others are as before
  pub Reclosed : Members → Option Targets → Members → Type 0
  -- the checkpoints of the database of this number, which is closed or lost, speak against an
  -- opening, for this reason
  pub Refuses : Members → Option Targets → ℕ → InitError → Type 0
  -- The database of this number, which was closed or lost, doesn't open at its checkpoint of these
  -- targets, or at its latest, for this reason, which may be that its count rose, from this to
  -- that. It is lost where it failed or wanted memory, and else closed as before. Those before that
  -- were closed or lost are closed again, each at the checkpoint at which it was opened. The others
  -- are as before.
  pub NotOpened : Members → Option Targets → ℕ → (before now : ℕ) → InitError → Members → Type 0
  -- each database is closed, with its durable checkpoints and as many others as these numbers keep;
  -- without a number it keeps all
  pub Crashed : Members → List ℕ → Members → Type 0

-- the range of these states at the database of this number doesn't end behind that of the targets
abbrev pub EndsWithin : {Ids States Targets : Type 0} (d : Databases Ids States Targets)
    → Targets → ℕ → States → Type 0
EndsWithin d t i s = (d.target_at (d.target_of s) i).end.0 ≤ (d.target_at t i).end.0

-- each database keeps the checkpoints that it kept, and what was durable is
pub record Preserves {Ids States Targets : Type 0} (d : Databases Ids States Targets)
    (old new : d.Members) : Type 0 where
  pub kept : (i k : ℕ) (s : States) → i < d.count → d.HasAt old i k s → d.HasAt new i k s
  pub durable : (i : ℕ) → i < d.count → d.durable old i ≤ d.durable new i

-- what the databases are where they were opened at these targets
pub record IsOpening {Ids States Targets : Type 0} (d : Databases Ids States Targets) (next : Ids)
    (m : d.Members) (targets : Targets) : Type 0 where
  pub at : Ids × States
  pub here : d.point m ≡ Some at
  pub targets_are : d.target_of at.1 ≡ targets
  pub drawn : d.issued next (at ∷ [])
  pub idle : d.Idle m
  pub durable : (i : ℕ) → i < d.count → d.durable m i ≡ d.place m i
  pub keeps : (i : ℕ) → i < d.count → d.Keeps m i (d.place m i) (at.1 ∷ [])
