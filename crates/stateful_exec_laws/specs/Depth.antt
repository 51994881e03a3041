-- How deep the batches are over which runs and builds begin.
use Rattle.std.specs.Prelude.{◌≡◌, ◌≢◌, ◌+◌, ℕ, Option, Some, List, [], ◌∷◌, All, length}
use Rattle.stateful_base.specs.Names.{Named}
use Rattle.stateful_base.specs.declared.digest.Digest.{Digest}
use Rattle.stateful_base.specs.declared.outcome.Finality.TheVariants.{Candidate}
use Rattle.stateful_history.specs.Past.{Past}
use Rattle.stateful_history.specs.Met.{Met}
use Rattle.stateful_exec_model.specs.Building.{StartsBuild, IsNewBuild}
use Rattle.stateful_exec_model.specs.Starting.{StartsRun, IsFresh}
use Rattle.stateful_exec_model.specs.Workings.{Workings, Point}
use Rattle.stateful_exec_model.specs.declared.building.Building.{Building}
use Rattle.stateful_exec_tables.specs.declared.state.Tables.{Tables}
use Rattle.stateful_exec_laws.specs.Setting.{setting}
use Rattle.stateful_exec_laws.specs.Standing.{TablesStand}

-- the blocks of a path from that of a digest down to another one, which isn't among them
abbrev pub LeadDown : {B C I P R D H G U : Type 0} → Workings B C I P R D H G U
    → Digest → Digest → List (Named B) → Type 0
LeadDown w first d [] = d ≡ first
LeadDown w first d (b ∷ bs) =
    (b.digest ≡ d) × (d ≢ first) × LeadDown w first (w.header.parent b.block) bs

module _ {B C I P R D H G U : Type 0} (w : Workings B C I P R D H G U)
    (stored : ℕ → Option (Named B)) (p : Past B C I) where
  -- It holds over a chain that has one point for each block from that of the digest down to the
  -- anchor, which isn't among them, and one more, where the databases are.
  pub record IsAsDeepAsItsPath (Has : Point w → List (Point w) → Type 0)
      (anchor d : Digest) : Type 0 where
    pub at : Point w
    pub below : List (Point w)
    pub has : Has at below
    pub blocks : List (Named B)
    pub met : All (Met (setting w stored) p) blocks
    pub down : LeadDown w anchor d blocks
    pub deep : length (at ∷ below) ≡ length blocks + 1

  module _ (points : Digest → Point w) (point : Point w) (next now : w.Ids)
      (m : w.kind.Members) (old new : Tables B C I R U) where
    -- the tables stand, and the databases are at the anchor's point
    pub record IsFooting : Type 0 where
      pub stands : TablesStand w stored p points point next old
      pub located : w.kind.point m ≡ Some point
      pub drawn : w.kind.issued next (point ∷ [])

    -- each run begins over a chain as deep as the path of its parent
    abbrev pub RunsAreAsDeep : Type 0
    RunsAreAsDeep = (b parent : Named B) → IsFooting
        → (run : StartsRun w b parent m next now old new)
        → IsAsDeepAsItsPath (λ q c. IsFresh w run.run Candidate b parent next q c)
        old.anchor.digest
        parent.digest

    -- and so does each build
    abbrev pub BuildsAreAsDeep : Type 0
    BuildsAreAsDeep = (t : ℕ) (provider : P) (build : Option (Building B C D)) → IsFooting
        → (start : StartsBuild w t provider m next now old new build)
        → IsAsDeepAsItsPath (λ q c. IsNewBuild w start.live start.proposal provider next q c)
        old.anchor.digest
        start.proposal.ancestry.first.digest
