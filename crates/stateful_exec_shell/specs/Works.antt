-- How the fake works.
use Rattle.std.specs.Prelude.{◌≡◌, ◌≢◌, ℕ, Option, Some, None, List, ◌∷◌, IsSomeAnd}
use Rattle.std.proofs.lemmas.Option.{none-some}
use Rattle.stateful_base.specs.declared.round.Round.{Round}
use Rattle.stateful_base.specs.declared.target.Target.{Target}
use Rattle.stateful_base.specs.declared.outcome.Moved.{Moved}
use Rattle.stateful_base.specs.declared.outcome.Moved.TheVariants as moved
use Rattle.stateful_base.specs.declared.outcome.Handoff.{Handoff}
use Rattle.stateful_base.specs.declared.outcome.Handoff.TheVariants.{Wait, Vote, Stage}
use Rattle.stateful_db.specs.declared.application.ProposedBlock.{ProposedBlock}
use Rattle.stateful_db.specs.Works.{Works, TakesTurns, RunOf, BuildOf, block_of}
use Rattle.stateful_db_plain.specs.Whole.{Whole, begun}
use Rattle.stateful_db_plain.specs.Shown.{DraftShows, SealShows}
use Rattle.stateful_db_plain.specs.declared.batch.PlainMerkleized.{PlainMerkleized}
use Rattle.stateful_exec_shell.specs.Fake.{fake_meaning}
use Rattle.stateful_exec_shell.specs.declared.block.End.{End}
use Rattle.stateful_exec_shell.specs.declared.block.End.TheVariants.{Nothing}
use Rattle.stateful_exec_shell.specs.declared.block.FakeBlock.{FakeBlock}
use Rattle.stateful_exec_shell.specs.declared.fake.FakeBuild.{FakeBuild}
use Rattle.stateful_exec_shell.specs.declared.fake.FakeHook.{FakeHook}
use Rattle.stateful_exec_shell.specs.declared.fake.Order.{Order}
use Rattle.stateful_exec_shell.specs.declared.work.Work.{Work}

-- the work has its batch, without changes, on this chain of points
abbrev pub Stands : Work → ℕ → ℕ × Whole → List (ℕ × Whole) → Type 0
Stands work own at below = IsSomeAnd work.batch (λ u. DraftShows u ((own, begun at.1) ∷ at ∷ below))

-- a turn goes on, or ends without a batch where the work says so, or with one that shows the same
-- entries
abbrev pub EndsWith : Moved (Option PlainMerkleized)
    → End
    → ℕ
    → ℕ × Whole
    → List (ℕ × Whole)
    → Work
    → Type 0
EndsWith moved.Pending end own at below now = Stands now own at below
EndsWith (moved.Done None) end own at below now = end ≡ Nothing
EndsWith (moved.Done (Some m)) end own at below now =
    (end ≢ Nothing) × SealShows m ((own, begun at.1) ∷ at ∷ below)

-- what is handed over has the batch, and its block leads to states
abbrev pub IsHanded : PlainMerkleized → Handoff (ProposedBlock FakeBlock PlainMerkleized) → Type 0
IsHanded m Wait = Unit {0}
IsHanded m (Vote p) = (p.merkleized ≡ m) × (p.block.end ≢ Nothing)
IsHanded m (Stage p) = (p.merkleized ≡ m) × (p.block.end ≢ Nothing)

abbrev pub FakeRunOf : Type 0
FakeRunOf = RunOf FakeBlock Round ℕ Whole

abbrev pub FakeBuildOf : Type 0
FakeBuildOf = BuildOf FakeBlock Round Order (Unit {0}) ℕ Whole

-- the run is of this: it ends as its block says
abbrev pub IsRun : Work → FakeRunOf → ℕ → Type 0
IsRun run r turns = (run.end ≡ (block_of r).end) × Stands run r.own r.at r.below

-- the build is of this
abbrev pub IsBuild : FakeBuild → FakeBuildOf → ℕ → Type 0
IsBuild build b turns = Stands build.work b.own b.at b.below

-- A build may give whatever leads to states. It isn't told how many turns anything takes.
abbrev pub fake_works : Works FakeBlock Round Order
    (Unit {0}) ℕ Whole Target Work FakeBuild FakeHook (Unit {0})
fake_works = record {
  meaning = fake_meaning;
  gives = λ asked whole given. Unit {0};
  run_cost = λ finality whole block. None;
  build_cost = λ asked whole. None;
  hook_cost = λ block whole. None;
  runs = IsRun;
  building = IsBuild;
  captures = λ captured context block whole. Unit {0};
  hooks = λ hooked h turns. Unit {0};
  Notes = Unit {0};
  noted = λ notes block. notes;
}

-- nothing is told of turns
pub fake_takes_turns : TakesTurns fake_works
fake_takes_turns =
    record {
      runs =
          λ f s b n is. absurd (none-some n is);
      builds = λ asked s n is. absurd (none-some n is);
    }
