-- The chains of points on which batches stand, tied to the blocks that lead along them.
use Rattle.std.specs.Prelude.{◌≡◌, ◌≢◌, ℕ, Option, List, ◌∷◌}
use Rattle.stateful_base.specs.Names.{Named}
use Rattle.stateful_base.specs.declared.digest.Digest.{Digest}
use Rattle.stateful_history.specs.Past.{Past}
use Rattle.stateful_history.specs.Met.{Met}
use Rattle.stateful_history.specs.Joined.{Matches, IsEarned}
use Rattle.stateful_exec_model.specs.Workings.{Workings, Point}
use Rattle.stateful_exec_laws.specs.Setting.{setting}

-- The chain of the block of a digest: its own point, those of the blocks from it down to the first,
-- which is where the databases are, and older ones. The points are those of each block, by its
-- digest.
pub data Stacked {B C I P R D H G U : Type 0} (w : Workings B C I P R D H G U)
    (points : Digest → Point w) (Led : w.States → Named B → w.States → Type 0)
    (first : Digest) : Digest
    → List (Point w)
    → Type 0 where
  here : {d : Digest} {at : Point w} {older : List (Point w)}
      → d ≡ first
      → at ≡ points d
      → Stacked w points Led first d (at ∷ older)
  further : {d : Digest} {at q : Point w} {c : List (Point w)} {b : Named B}
      → b.digest ≡ d
      → at ≡ points d
      → Stacked w points Led first (w.header.parent b.block) (q ∷ c)
      → d ≢ first
      → Led q.1 b at.1
      → Stacked w points Led first d (at ∷ q ∷ c)

module _ {B C I P R D H G U : Type 0} (w : Workings B C I P R D H G U)
    (stored : ℕ → Option (Named B)) (p : Past B C I) where
  -- a block of the history that leads from states to states: they match, and it is acceptable
  -- there, or was built here
  pub record Leads (t : w.States) (b : Named B) (u : w.States) : Type 0 where
    pub met : Met (setting w stored) p b
    pub matches : Matches (setting w stored) t b u
    pub earned : IsEarned (setting w stored) p t b

  -- the chain of the block of a digest at a place, from the anchor on
  abbrev pub Chain : (Digest → Point w) → Digest → Digest → List (Point w) → Type 0
  Chain points anchor = Stacked w points Leads anchor
