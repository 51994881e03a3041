-- Marks of jobs that are no builds: they leave what was applied and each live build, and none of them is a verdict.
use Rattle.std.proofs.Common.{◌≡◌, ◌≢◌, ◌++◌, ℕ, List, [], ◌∷◌, All, Option, inr, sym, ◌∙◌, subst}
use Rattle.std.proofs.lemmas.List.{append-nil, append_cancel_left}
use Rattle.std.proofs.lemmas.List.Elements.{All-nil, All-cons}
use Rattle.stateful_base.specs.Names.{Named}
use Rattle.stateful_base.specs.declared.digest.Digest.{Digest}
use Rattle.stateful_history.specs.Jobs.{IsLiveJob}
use Rattle.stateful_history.specs.Met.{TrueNames}
use Rattle.stateful_history.specs.Past.{Past, Came, after}
use Rattle.stateful_history.specs.declared.event.Event.TheVariants.{Turn}
use Rattle.stateful_history.specs.declared.mark.How.{How}
use Rattle.stateful_history.specs.declared.mark.JobKind.{JobKind}
use Rattle.stateful_history.specs.declared.mark.JobKind.TheVariants.{Build}
use Rattle.stateful_history.specs.declared.mark.Mark.{Mark}
use Rattle.stateful_history.specs.declared.mark.Mark.TheVariants.{Started, Ended}
use Rattle.stateful_history.proofs.Marks.{Met-after}
use Rattle.stateful_exec_model.specs.Workings.{Workings, Point}
use Rattle.stateful_exec_laws.specs.Setting.{setting}
use Rattle.stateful_exec_laws.proofs.earned.Carried.{IsMild, IsFolded-mild}
use Rattle.stateful_exec_laws.proofs.earned.Together.{IsNoneTrue}
use Rattle.stateful_exec_laws.proofs.runs.Sparing.{live-started_other, live-ended_other}
use Rattle.stateful_loop_laws.proofs.places.PlacedBehind.{IsGrown}

module _ {B C I : Type 0} (q : Past B C I) where
  -- these marks are such
  pub record AreOfJobs (more : List (Mark B)) : Type 0 where
    pub mild : All (λ m. IsMild m) more
    pub none : All (λ m. IsNoneTrue m) more
    pub builds : (k : ℕ) (d : Digest) → IsLiveJob k Build d (after q more) → IsLiveJob k Build d q

  -- such marks are made
  pub record MakesOfJobs (old new : List (Mark B)) : Type 0 where
    pub more : List (Mark B)
    pub marks_are : new ≡ old ++ more
    pub of_jobs : AreOfJobs more

  -- no mark is made; or a job has ended, or one was started that is no build
  pub makes_none : (old new : List (Mark B)) → new ≡ old → MakesOfJobs old new
  makes_none old new is = record {
    more = [];
    marks_are = is ∙ sym (append-nil old);
    of_jobs = record { mild = All-nil (λ m. IsMild m); none = All-nil (λ m. IsNoneTrue m); builds = λ k d live. live };
  }

  pub makes_ended : (old new : List (Mark B)) (j : ℕ) (how : How) → new ≡ old ++ Ended j how ∷ [] → MakesOfJobs old new
  makes_ended old new j how is = record {
    more = Ended j how ∷ [];
    marks_are = is;
    of_jobs = record {
      mild = All-cons (λ m. IsMild m) (Ended j how) [] tt (All-nil (λ m. IsMild m));
      none = All-cons (λ m. IsNoneTrue m) (Ended j how) [] tt (All-nil (λ m. IsNoneTrue m));
      builds = λ k d live. (live-ended_other q j how Build k d live).1;
    };
  }

  pub makes_started : (old new : List (Mark B)) (j : ℕ) (kind : JobKind) (d : Digest) → kind ≢ Build → new ≡ old ++ Started j kind d ∷ []
      → MakesOfJobs old new
  makes_started old new j kind d other is = record {
    more = Started j kind d ∷ [];
    marks_are = is;
    of_jobs = record {
      mild = All-cons (λ m. IsMild m) (Started j kind d) [] tt (All-nil (λ m. IsMild m));
      none = All-cons (λ m. IsNoneTrue m) (Started j kind d) [] tt (All-nil (λ m. IsNoneTrue m));
      builds = λ k e live. live-started_other q j kind d Build other k e live;
    };
  }

  -- the marks that were made are those
  pub AreOfJobs-made : (old new more : List (Mark B)) → new ≡ old ++ more → MakesOfJobs old new → AreOfJobs more
  AreOfJobs-made old new more is made =
      subst (λ (l : List (Mark B)). AreOfJobs l) (append_cancel_left old made.more more (sym made.marks_are ∙ is)) made.of_jobs

module _ {B C I P R D H G U : Type 0} (w : Workings B C I P R D H G U) (stored : ℕ → Option (Named B)) (base : w.States) (p : Past B C I)
    (point : Point w) (more : List (Mark B)) (mild : All (λ m. IsMild m) more) where
  -- behind mild marks the past has grown
  pub IsGrown-marks : TrueNames (setting w stored) (after p more) → IsGrown w stored base p (after p more) point
  IsGrown-marks names = record {
    met = Met-after (setting w stored) p more;
    folded = λ anchor tip f. IsFolded-mild w stored base anchor tip point p more mild f;
    names = names;
  }

  -- and after a turn and such marks
  pub IsGrown-turn : (j : ℕ) → TrueNames (setting w stored) (after (Came (Turn j) ∷ p) more)
      → IsGrown w stored base p (after (Came (Turn j) ∷ p) more) point
  IsGrown-turn j names = record {
    met = λ b met. Met-after (setting w stored) (Came (Turn j) ∷ p) more b (inr met);
    folded =
        λ anchor tip f. IsFolded-mild w stored base anchor tip point (Came (Turn j) ∷ p) more mild
        (record { anchor_is = f.anchor_is; tip_is = f.tip_is; folded = f.folded });
    names = names;
  }
