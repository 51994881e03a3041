-- What a sync keeps beside what is there.
use Rattle.std.specs.Prelude.{◌≡◌, ℕ, ◌+◌, ◌-◌, ◌^◌, ◌<◌, ◌≤◌, ◌∷◌, ◌++◌, length, List, []}
use Rattle.std.specs.Prelude.{Bool, true, Option, Some, None}
use Rattle.stateful_base.specs.declared.digest.Digest.{Digest}
use Rattle.stateful_base.specs.declared.target.Target.{Target}
use Rattle.stateful_db_log.specs.Linking.{behind}
use Rattle.stateful_db_pass.specs.declared.pass.Fetches.{Fetches}
use Rattle.stateful_db_pass.specs.declared.pass.Fetches.TheVariants.{Latest}
use Rattle.stateful_db_pass.specs.Fetched.{Fetched, count}

-- one operation is there, which is all of the range, and from which alone a database can be made
pub record IsSingle {Op : Type 0} (alone : Op → Bool) (target : Target) (ops : List Op) : Type 0 where
  pub op : Op
  pub is : ops ≡ op ∷ []
  pub by_itself : alone op ≡ true
  pub last : target.start.0 + 1 ≡ target.end.0

-- The digest behind the operations is kept, and there are never more of them than the range has.
-- Where all are there they lead to the root. Where the latest operation is fetched alone, it is
-- there once the digest before it is.
pub record IsKept {Op : Type 0} (linked : ℕ → Digest → Op → Digest) (alone : Op → Bool)
    (target : Target) (fetches : Fetches) (before : Option Digest) (last : Digest) (ops : List Op)
    : Type 0 where
  pub small : target.end.0 < 2 ^ 64
  pub none : before ≡ None → ops ≡ []
  pub most : length ops ≤ target.end.0 - target.start.0
  pub ranged : (d : Digest) → before ≡ Some d → target.start.0 < target.end.0
  pub chained : (d : Digest) → before ≡ Some d → behind linked target.start.0 d ops ≡ last
  pub rooted : (d : Digest)
      → before ≡ Some d
      → length ops ≡ target.end.0 - target.start.0
      → last ≡ target.root
  pub single : fetches ≡ Latest → (d : Digest) → before ≡ Some d → IsSingle alone target ops

-- Operations can stand behind those that are there: with this digest before the range this one is
-- before them, and the range has room.
pub record IsNext {Op : Type 0} (linked : ℕ → Digest → Op → Digest) (alone : Op → Bool)
    (p : Fetched Op) (before from : Digest) (ops : List Op) : Type 0 where
  pub ranged : p.target.start.0 < p.target.end.0
  pub room : length p.ops + length ops ≤ count p
  pub chained : behind linked p.target.start.0 before p.ops ≡ from
  pub single : p.fetches ≡ Latest → IsSingle alone p.target (p.ops ++ ops)
