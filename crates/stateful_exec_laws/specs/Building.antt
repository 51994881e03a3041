-- The live build stands for a past.
use Rattle.std.specs.Prelude.{◌≡◌, ◌<◌, ℕ, Some, Option, None, IfSome, List, ◌∷◌, MatchOption}
use Rattle.stateful_base.specs.Names.{Named}
use Rattle.stateful_base.specs.declared.anchor.Anchor.{Anchor}
use Rattle.stateful_base.specs.declared.digest.Digest.{Digest}
use Rattle.stateful_db.specs.Works.{Asked, build_of}
use Rattle.stateful_history.specs.Past.{Past}
use Rattle.stateful_history.specs.Met.{Met}
use Rattle.stateful_history.specs.Jobs.{IsLiveJob, turns}
use Rattle.stateful_history.specs.Requests.{IsLiveProposal}
use Rattle.stateful_history.specs.declared.mark.JobKind.TheVariants.{Build}
use Rattle.stateful_exec_cache.specs.Cache.{IsAtHand}
use Rattle.stateful_exec_cache.specs.declared.cache.Cached.{Cached}
use Rattle.stateful_table.specs.Table.{at}
use Rattle.stateful_exec_model.specs.Workings.{Workings, Point}
use Rattle.stateful_exec_model.specs.declared.building.Building.{Building}
use Rattle.stateful_exec_tables.specs.declared.state.Tables.{Tables}
use Rattle.stateful_exec_laws.specs.Setting.{setting}
use Rattle.stateful_exec_laws.specs.Chains.{Chain}

-- each build takes some turn, where that is told
abbrev pub BuildsTakeTurns : {B C I P R D H G U : Type 0} → Workings B C I P R D H G U → Type 0
BuildsTakeTurns {B} {C} {I} w =
    (asked : Asked B C I) (s : w.States) (n : ℕ) → w.works.build_cost asked s ≡ Some n → 0 < n

-- the request of this ticket is in no table
pub record IsElsewhere {B C I R U : Type 0} (v : Tables B C I R U) (t : ℕ) : Type 0 where
  pub absent : at v.requests t ≡ None
  pub not_queued : at v.queued t ≡ None

module _ {B C I P R D H G U : Type 0} (w : Workings B C I P R D H G U)
    (stored : ℕ → Option (Named B)) (p : Past B C I) (points : Digest → Point w)
    (next : w.Ids) where
  module _ (anchor : Anchor) (cache : List (Cached U)) where
    -- the build is of a live job, for a live proposal on a parent at hand; it stands on the
    -- parent's chain, and has had the job's turns, fewer than it takes, where that is told
    pub record IsBuilding (b : Building B C D) : Type 0 where
      pub input : I
      pub proposal : IsLiveProposal b.ticket p
          (record { kind = b.kind; context = b.context; parent = b.parent; input = input })
      pub job : IsLiveJob b.job Build b.parent.digest p
      pub met : Met (setting w stored) p b.parent
      pub at_hand : IsAtHand anchor cache b.parent.digest
      pub below : List (Point w)
      pub chain : Chain w stored p points anchor.digest b.parent.digest
          (points b.parent.digest ∷ below)
      pub own : w.Ids
      pub drawn : (s : w.States) → w.kind.issued next ((own, s) ∷ points b.parent.digest ∷ below)
      pub provider : P
      pub builds : w.works.building b.build
          (build_of
          (record
          { kind = b.kind; context = b.context; parent = b.parent.block; input = input })
          provider own
          (points b.parent.digest) below)
          (turns b.job p)
      pub unfinished : (n : ℕ)
          → w.works.build_cost
          (record
          { kind = b.kind; context = b.context; parent = b.parent.block; input = input })
          (points b.parent.digest).1
          ≡ Some n
          → turns b.job p < n

  module _ (v : Tables B C I R U) where
    -- The live build, if there is one, stands so; its request is in no table; and each live job of
    -- a build is its one.
    pub record BuildStands (build : Option (Building B C D)) : Type 0 where
      pub each : IfSome build (IsBuilding v.anchor v.cache)
      pub elsewhere : IfSome build (λ b. IsElsewhere v b.ticket)
      pub complete : (j : ℕ) (d : Digest)
          → IsLiveJob j Build d p
          → MatchOption build ⊥ (λ b. b.job ≡ j)
