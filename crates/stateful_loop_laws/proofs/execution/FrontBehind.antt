-- Execution stands after a rule of a finalization: what its tables and its front stand for, with where it is placed.
use Rattle.std.proofs.Common.{◌≡◌, ℕ, [], ◌∷◌, All, true, false, Option, None, Some, IsSome, refl, sym, ap, ◌∙◌, subst}
use Rattle.stateful_base.specs.Names.{Named}
use Rattle.stateful_base.specs.declared.digest.Digest.{Digest}
use Rattle.stateful_history.specs.Jobs.{IsLiveJob}
use Rattle.stateful_history.specs.Past.{Past, after}
use Rattle.stateful_history.specs.declared.mark.JobKind.TheVariants.{Build}
use Rattle.stateful_exec_model.specs.Workings.{Workings}
use Rattle.stateful_exec_model.specs.declared.building.Building.{Building}
use Rattle.stateful_exec_model.specs.declared.front.Front.{Front}
use Rattle.stateful_exec_laws.specs.Building.{BuildStands}
use Rattle.stateful_exec_laws.proofs.earned.Carried.{IsMild}
use Rattle.stateful_exec_laws.proofs.earned.Together.{AreEarned-none}
use Rattle.stateful_exec_laws.proofs.front.Rules.{StandsWithFront}
use Rattle.stateful_loop_model.specs.Moments.{Moment, inner}
use Rattle.stateful_loop_laws.specs.Execution.{IsPlaced, Executes, ExecutesBehind}
use Rattle.stateful_loop_laws.proofs.duly.JobMarks.{AreOfJobs, MakesOfJobs, AreOfJobs-made}

module _ {B C I P R D H G U : Type 0} (w : Workings B C I P R D H G U) (stored : ℕ → Option (Named B)) (base : w.States) (p : Past B C I)
    (m : Moment w) (e : Executes w stored base p m) where
  -- beside a finalization no build is live
  pub unbuilt : (front : Front B R U H) → m.execution.front ≡ Some front → m.execution.build ≡ None
  unbuilt front is = go m.execution.build refl
    where
      go : (o : Option (Building B C D)) → m.execution.build ≡ o → m.execution.build ≡ None
      go None none = none
      go (Some b) built =
          let no : Some front ≡ None = sym is ∙ e.alone (subst (λ (o : Option (Building B C D)). IsSome o) (sym built) refl) in absurd (cc)

  module _ (q : Past B C I) (now : Moment w) (builds : (k : ℕ) (d : Digest) → IsLiveJob k Build d q → IsLiveJob k Build d p)
      (f : StandsWithFront w stored e.points e.point q (inner w m) (inner w now) now.execution.front) (made : MakesOfJobs q m.marks now.marks) where
    abbrev of_jobs : AreOfJobs q f.more
    of_jobs = AreOfJobs-made q m.marks now.marks f.more f.marks_are made

    -- the marks that were made neither open, finalize nor prune
    pub front_mild : All (λ x. IsMild x) f.more
    front_mild = of_jobs.mild

    unbuilt_then : m.execution.build ≡ None → BuildStands w stored (after q f.more) e.points now.next now.execution.state None
    unbuilt_then none =
        let none_before : BuildStands w stored p e.points m.next m.execution.state None =
        subst (λ (o : Option (Building B C D)). BuildStands w stored p e.points m.next m.execution.state o) none e.builds in
        record { each = tt; elsewhere = tt; complete = λ k d live. none_before.complete k d (builds k d (of_jobs.builds k d live)) }

    -- no build is live, and the finalization has come on: execution stands behind it, placed as it is then
    pub ExecutesBehind-front : m.execution.build ≡ None → now.execution.build ≡ m.execution.build → w.kind.issued now.next (e.point ∷ [])
        → IsPlaced w stored base
        (after q f.more) e.points e.point now.next now.execution.state now.execution.front → ExecutesBehind w stored base q m now
    ExecutesBehind-front none same drawn placed = record {
      more = f.more;
      marks_are = f.marks_are;
      executes = record {
        points = e.points;
        point = e.point;
        located = ap (λ x. w.kind.point x) f.members_are ∙ e.located;
        drawn = drawn;
        tables = f.tables;
        builds =
            subst (λ (o : Option (Building B C D)). BuildStands w stored (after q f.more) e.points now.next now.execution.state o)
            (sym (same ∙ none)) (unbuilt_then none);
        fronts = f.fronts;
        placed = placed;
        alone = λ some. let no : false ≡ true = subst (λ (o : Option (Building B C D)). IsSome o) (same ∙ none) some in absurd (cc);
      };
      earned = AreEarned-none w stored base q f.more of_jobs.none;
    }
