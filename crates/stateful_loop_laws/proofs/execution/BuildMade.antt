-- What a turn of a build makes: marks that neither open nor finalize and are no verdicts; no ids are drawn, and the anchor and the pause stay.
use Rattle.std.proofs.Common.{◌≡◌, ◌++◌, ◌==◌, not, ℕ, List, [], ◌∷◌, All, Option, sym, ap, ◌∙◌}
use Rattle.std.proofs.lemmas.List.{append-nil}
use Rattle.std.proofs.lemmas.List.Elements.{All-nil, All-cons}
use Rattle.stateful_base.specs.declared.digest.Digest.{Digest}
use Rattle.stateful_base.specs.declared.outcome.Handoff.{Handoff}
use Rattle.stateful_base.specs.declared.outcome.Handoff.TheVariants.{Wait, Vote, Stage}
use Rattle.stateful_db.specs.declared.application.ProposedBlock.{ProposedBlock}
use Rattle.stateful_history.specs.Jobs.{IsLiveJob}
use Rattle.stateful_history.specs.Live.{live_job}
use Rattle.stateful_history.specs.Past.{Past, after}
use Rattle.stateful_history.specs.declared.mark.Decision.{Decision}
use Rattle.stateful_history.specs.declared.mark.Decision.TheVariants as decision
use Rattle.stateful_history.specs.declared.mark.How.TheVariants.{Nothing}
use Rattle.stateful_history.specs.declared.mark.JobKind.{JobKind}
use Rattle.stateful_history.specs.declared.mark.Mark.{Mark}
use Rattle.stateful_history.specs.declared.mark.Mark.TheVariants.{Ended, Declined}
use Rattle.stateful_exec_model.specs.Built.{Gives, EndsBuild, TurnsBuild, other, goes_on, ends}
use Rattle.stateful_exec_model.specs.Moments.{Moment}
use Rattle.stateful_exec_model.specs.Workings.{Workings}
use Rattle.stateful_exec_model.specs.declared.building.Building.{Building}
use Rattle.stateful_exec_laws.proofs.requests.Cancelled.{and_right}
use Rattle.stateful_exec_laws.proofs.earned.Carried.{IsMild}
use Rattle.stateful_exec_laws.proofs.earned.Together.{IsNoneTrue}
use Rattle.stateful_exec_laws.proofs.runs.Sparing.{live-ended_other}

module _ {B : Type 0} where
  two_mild : (x y : Mark B) → IsMild x → IsMild y → All (λ m. IsMild m) (x ∷ y ∷ [])
  two_mild x y hx hy = All-cons (λ m. IsMild m) x (y ∷ []) hx (All-cons (λ m. IsMild m) y [] hy (All-nil (λ m. IsMild m)))

  two_none : (x y : Mark B) → IsNoneTrue x → IsNoneTrue y → All (λ m. IsNoneTrue m) (x ∷ y ∷ [])
  two_none x y hx hy = All-cons (λ m. IsNoneTrue m) x (y ∷ []) hx (All-cons (λ m. IsNoneTrue m) y [] hy (All-nil (λ m. IsNoneTrue m)))

module _ {B C I P R D H G U : Type 0} (w : Workings B C I P R D H G U) (q : Past B C I) where
  -- from one moment to a later one a build has made such marks alone; no job is live behind them that wasn't before
  pub record MakesOfBuild (m now : Moment w) : Type 0 where
    pub more : List (Mark B)
    pub marks_are : now.marks ≡ m.marks ++ more
    pub mild : All (λ x. IsMild x) more
    pub none : All (λ x. IsNoneTrue x) more
    pub jobs : (kind : JobKind) (k : ℕ) (d : Digest) → IsLiveJob k kind d (after q more) → IsLiveJob k kind d q
    pub next_is : now.next ≡ m.next
    pub anchor : now.state.anchor ≡ m.state.anchor
    pub pause : now.state.pause ≡ m.state.pause

  same : (m now : Moment w) → now ≡ m → MakesOfBuild m now
  same m now is = record {
    more = [];
    marks_are = ap (λ (n : Moment w). n.marks) is ∙ sym (append-nil m.marks);
    mild = All-nil (λ x. IsMild x);
    none = All-nil (λ x. IsNoneTrue x);
    jobs = λ kind k d live. live;
    next_is = ap (λ (n : Moment w). n.next) is;
    anchor = ap (λ (n : Moment w). n.state.anchor) is;
    pause = ap (λ (n : Moment w). n.state.pause) is;
  }

  given : (b : Building B C D) (m now : Moment w) (p : ProposedBlock B U) (handed : Decision) → Gives w b m p handed now → MakesOfBuild m now
  given b m now p handed g = record {
    more = _;
    marks_are = ap (λ (n : Moment w). n.marks) g.becomes;
    mild = two_mild _ _ tt tt;
    none = two_none _ _ tt tt;
    jobs = λ kind k d live. record { live = and_right (not (k == b.job)) (live_job k q) live.live; is = live.is };
    next_is = ap (λ (n : Moment w). n.next) g.becomes;
    anchor = ap (λ (n : Moment w). n.state.anchor) g.becomes;
    pause = ap (λ (n : Moment w). n.state.pause) g.becomes;
  }

  ended : (b : Building B C D) (m : Moment w) (handed : Handoff (ProposedBlock B U)) (now : Moment w) → EndsBuild w b m handed now
      → MakesOfBuild m now
  ended b m Wait now is = record {
    more = Ended b.job Nothing ∷ Declined b.ticket ∷ [];
    marks_are = ap (λ (n : Moment w). n.marks) is;
    mild = two_mild _ _ tt tt;
    none = two_none _ _ tt tt;
    jobs = λ kind k d live. (live-ended_other q b.job Nothing kind k d (record { live = live.live; is = live.is })).1;
    next_is = ap (λ (n : Moment w). n.next) is;
    anchor = ap (λ (n : Moment w). n.state.anchor) is;
    pause = ap (λ (n : Moment w). n.state.pause) is;
  }
  ended b m (Vote p) now g = given b m now p decision.Vote g
  ended b m (Stage p) now g = given b m now p decision.Stage g

  -- so does a turn, whatever it leads to
  pub MakesOfBuild-turns : (count : D → ℕ) (m : Moment w) (build : Option (Building B C D)) (j : ℕ) (now : Moment w)
      (after_turn : Option (Building B C D)) → TurnsBuild w count m build j now after_turn → MakesOfBuild m now
  MakesOfBuild-turns count m build j now after_turn (other none is same_after) = same m now is
  MakesOfBuild-turns count m build j now after_turn (goes_on live had is after_is) = same m now is
  MakesOfBuild-turns count m build j now after_turn (ends {b = b} {turned = turned} {given = handed} live had leads after_is) =
      ended (record b { build = turned }) m handed now leads
