-- What turns end with.
use Rattle.std.proofs.Common.{◌≡◌, ◌≢◌, ℕ, ◌+◌, List, ◌∷◌, Option, Some, None, IsSomeAnd, sym, ◌∙◌, refl, ap, subst}
use Rattle.stateful_base.specs.declared.outcome.Finality.{Finality}
use Rattle.stateful_base.specs.declared.outcome.Finality.TheVariants.{Candidate, Finalized}
use Rattle.stateful_base.specs.declared.outcome.Moved.{Moved}
use Rattle.stateful_base.specs.declared.outcome.Moved.TheVariants.{Pending, Done}
use Rattle.stateful_db.specs.Meaning.{outcome, Ends}
use Rattle.stateful_base.specs.declared.outcome.Handoff.{Handoff}
use Rattle.stateful_base.specs.declared.outcome.Handoff.TheVariants.{Wait, Vote, Stage}
use Rattle.stateful_db.specs.Chain.{IsPoint}
use Rattle.stateful_db.specs.Works.{block_of, run_chain, BuildEnds}
use Rattle.stateful_db.specs.declared.application.ProposedBlock.{ProposedBlock}
use Rattle.stateful_db_plain.specs.Whole.{Whole, begun}
use Rattle.stateful_db_plain.specs.Shown.{SealShows}
use Rattle.stateful_db_plain.specs.declared.batch.PlainMerkleized.{PlainMerkleized}
use Rattle.stateful_exec_shell.specs.Fake.{led, fake_meaning}
use Rattle.stateful_exec_shell.specs.Works.{Stands, EndsWith, FakeRunOf, IsRun, FakeBuildOf, IsBuild, IsHanded, fake_works}
use Rattle.stateful_exec_shell.specs.declared.block.End.{End}
use Rattle.stateful_exec_shell.specs.declared.block.End.TheVariants.{States, Nothing, Fails}
use Rattle.stateful_exec_shell.specs.declared.block.FakeBlock.{FakeBlock}
use Rattle.stateful_exec_shell.specs.declared.fake.FakeBuild.{FakeBuild}
use Rattle.stateful_exec_shell.specs.declared.work.Work.{Work}

-- a batch was sealed
pub sealed_ends : (o : Option PlainMerkleized) (end : End) (own : ℕ) (at : ℕ × Whole) (below : List (ℕ × Whole)) (now : Work) → end ≢ Nothing
    → IsSomeAnd o (λ m. SealShows m ((own, begun at.1) ∷ at ∷ below)) → EndsWith (Done o) end own at below now
sealed_ends None end own at below now isnt shown = absurd shown
sealed_ends (Some m) end own at below now isnt shown = (isnt, shown)

-- what leads to states leads to the same entries
pub led_on : (end : End) (whole : Whole) → end ≢ Nothing → led end whole ≡ Some (begun whole)
led_on States whole isnt = refl
led_on Nothing whole isnt = absurd (isnt refl)
led_on Fails whole isnt = refl

-- every block is acceptable
outcome_is : (f : Finality) (whole : Whole) (b : FakeBlock) → outcome fake_meaning f whole b ≡ led b.end whole
outcome_is Candidate whole b = refl
outcome_is Finalized whole b = refl

module _ (run now : Work) (r : FakeRunOf) (n : ℕ) (is : IsRun run r n) (same : now.end ≡ run.end) where
  -- a turn of a run
  pub run_ends : (moved : Moved (Option PlainMerkleized)) → EndsWith moved run.end r.own r.at r.below now
      → Ends moved (outcome fake_meaning r.finality r.at.1 (block_of r)) (λ m s. SealShows m (run_chain r s)) (IsRun now r (n + 1))
  run_ends Pending stands = (same ∙ is.0, stands)
  run_ends (Done None) nothing =
      outcome_is r.finality r.at.1 (block_of r) ∙ ap (λ e. led e r.at.1) (sym is.0 ∙ nothing)
  run_ends (Done (Some m)) shown =
      rw (outcome_is r.finality r.at.1 (block_of r) ∙ ap (λ e. led e r.at.1) (sym is.0) ∙ led_on run.end r.at.1 shown.0) shown.1

-- what is handed over of a build
build_ends : (GoesOn : Type 0) (b : FakeBuildOf) (m : PlainMerkleized) (given : Handoff (ProposedBlock FakeBlock PlainMerkleized))
    → SealShows m ((b.own, begun b.at.1) ∷ b.at ∷ b.below) → IsHanded m given → BuildEnds fake_works (Done given) SealShows b GoesOn
build_ends GoesOn b m Wait shown handed = tt
build_ends GoesOn b m (Vote p) shown handed = record {
  gives = tt;
  states = begun b.at.1;
  steps = led_on p.block.end b.at.1 handed.1;
  shown = subst (λ z. SealShows z ((b.own, begun b.at.1) ∷ b.at ∷ b.below)) (sym handed.0) shown;
}
build_ends GoesOn b m (Stage p) shown handed = record {
  gives = tt;
  states = begun b.at.1;
  steps = led_on p.block.end b.at.1 handed.1;
  shown = subst (λ z. SealShows z ((b.own, begun b.at.1) ∷ b.at ∷ b.below)) (sym handed.0) shown;
}

-- a turn of a build, where the database is at a point of its chain
pub build_turned : (GoesOn : FakeBuildOf → ℕ → Type 0) (build : FakeBuild) (now : Work) (moved : Moved (Option PlainMerkleized)) (q : ℕ × Whole) (place : Option (ℕ × Whole))
    → place ≡ Some q
    → ((own : ℕ) (at : ℕ × Whole) (below : List (ℕ × Whole)) → Stands build.work own at below → IsPoint q (at ∷ below) → EndsWith moved build.work.end own at below now)
    → (m : PlainMerkleized) → moved ≡ Done (Some m)
    → (given : Handoff (ProposedBlock FakeBlock PlainMerkleized)) → IsHanded m given
    → (b : FakeBuildOf) (n : ℕ) (r : ℕ × Whole) → IsBuild build b n → place ≡ Some r → IsPoint r (b.at ∷ b.below) → BuildEnds fake_works (Done given) SealShows b (GoesOn b n)
build_turned GoesOn build now moved q place here each m ended given handed b n r is there at =
    let equal : r ≡ q = cc in
    let at_q = subst (λ z. IsPoint z (b.at ∷ b.below)) equal at in
    let turned = subst (λ z. EndsWith z build.work.end b.own b.at b.below now) ended (each b.own b.at b.below is at_q) in
    build_ends (GoesOn b n) b m given turned.1 handed
