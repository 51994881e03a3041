-- What was gathered for a request: its block with those of its ancestors that came with it or were
-- fetched.
use Rattle.std.specs.Prelude.{◌≡◌, ℕ, ◌++◌, Option, None, Some, List, [], ◌∷◌, All, Any, IsSome}
use Rattle.std.specs.Prelude.{MatchOption, take}
use Rattle.stateful_base.specs.Names.{Named}
use Rattle.stateful_base.specs.declared.digest.Digest.{Digest}
use Rattle.stateful_history.specs.Asked.{asked_digest}
use Rattle.stateful_history.specs.Fetches.{WasAsked}
use Rattle.stateful_history.specs.Past.{Past}
use Rattle.stateful_history.specs.Setting.{Setting, parent_of}
use Rattle.stateful_history.specs.Honest.{Descends, IsHonest, IsAnswered}
use Rattle.stateful_table.specs.Table.{at}
use Rattle.stateful_exec_walk.specs.declared.request.Request.{Request}
use Rattle.stateful_exec_walk.specs.declared.request.Request.TheVariants.{Verify, Recover}
use Rattle.stateful_exec_tables.specs.declared.tables.Phase.TheVariants.{Fetching}
use Rattle.stateful_exec_tables.specs.declared.tables.Requested.{Requested}

-- the first block of what is asked, and its ancestors in the order in which they are walked
abbrev pub gathered : {B C I : Type 0} → Request B C I → List (Named B) → List (Named B)
gathered (Verify t ancestry) acquired = ancestry.first ∷ (take 1 ancestry.rest ++ acquired)
gathered (Recover t context ancestry input kind) acquired = ancestry.first ∷ acquired

-- each of these blocks is the parent of the one before it
abbrev pub AreLinked : {B S T : Type 0} → Setting B S T → List (Named B) → Type 0
AreLinked s [] = Unit {0}
AreLinked s (b ∷ bs) = Descends s b bs

-- these blocks without the last one
abbrev pub but_last : {T : Type 0} → List T → List T
but_last [] = []
but_last (x ∷ []) = []
but_last (x ∷ y ∷ xs) = x ∷ but_last (y ∷ xs)

-- the last of these
abbrev pub last_of : {T : Type 0} → List T → Option T
last_of [] = None
last_of (x ∷ []) = Some x
last_of (x ∷ y ∷ xs) = last_of (y ∷ xs)

module _ {B C I S T : Type 0} (s : Setting B S T) (p : Past B C I) where
  -- what was asked for the ticket, since something was applied or pruned, is the parent of one of
  -- these blocks
  abbrev pub AsksParents : ℕ → List (Named B) → Type 0
  AsksParents t blocks = (d : Digest) → WasAsked t d p → Any (λ b. d ≡ parent_of s b) blocks

  -- and so it is for each request that fetches, with what was gathered for it
  abbrev pub AsksAlong : List (ℕ × Requested B C I) → Type 0
  AsksAlong requests =
      All
      (λ e. (f : ℕ) → e.1.phase ≡ Fetching f → AsksParents e.0 (gathered e.1.request e.1.acquired))
      requests

  -- nothing was asked for any ticket since something was applied or pruned
  abbrev pub AsksNothing : Type 0
  AsksNothing = (t : ℕ) (d : Digest) → WasAsked t d p → ⊥

  -- or it was for a request of the table
  abbrev pub AsksForThese : List (ℕ × Requested B C I) → Type 0
  AsksForThese requests = (t : ℕ) (d : Digest) → WasAsked t d p → IsSome (at requests t)

  -- What was gathered for a request is linked, where ancestries are and fetches were answered with
  -- the asked blocks; and the block that is fetched for it is the parent of the last one.
  pub record IsGathered (r : Requested B C I) : Type 0 where
    pub linked : IsHonest s p → IsAnswered p → AreLinked s (gathered r.request r.acquired)
    pub fetched : (f : ℕ)
        → r.phase ≡ Fetching f
        → MatchOption (last_of (gathered r.request r.acquired)) ⊥
        (λ b. asked_digest f p ≡ Some (parent_of s b))

  -- so it is for each request
  abbrev pub GatheringsStand : List (ℕ × Requested B C I) → Type 0
  GatheringsStand requests = All (λ e. IsGathered e.1) requests
