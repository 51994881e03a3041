-- Marks are in their places after turns of the live build, of the hook and of the finalized block's run.
use Rattle.std.proofs.Common.{◌≡◌, ◌++◌, inr, ℕ, List, [], ◌∷◌, All, Option, None, Some, Ok, Err, refl, sym, ap, ◌∙◌, subst, append-nil}
use Rattle.std.proofs.lemmas.List.Elements.{All-nil, All-cons}
use Rattle.stateful_base.specs.Names.{Named}
use Rattle.stateful_base.specs.declared.outcome.Moved.TheVariants.{Pending, Done}
use Rattle.stateful_base.specs.declared.digest.Digest.{Digest}
use Rattle.stateful_history.specs.Finalizations.{begun}
use Rattle.stateful_history.specs.Jobs.{JobOf, job_of, started_for}
use Rattle.stateful_history.specs.Past.{Past, Made, Came, EachMark, after}
use Rattle.stateful_history.specs.declared.event.Event.TheVariants.{Turn}
use Rattle.stateful_history.specs.declared.mark.How.{How}
use Rattle.stateful_history.specs.declared.mark.How.TheVariants as how
use Rattle.stateful_history.specs.declared.mark.JobKind.{JobKind}
use Rattle.stateful_history.specs.declared.mark.JobKind.TheVariants as job
use Rattle.stateful_history.specs.declared.mark.Mark.{Mark}
use Rattle.stateful_history.specs.declared.mark.Mark.TheVariants.{Ended}
use Rattle.stateful_exec_model.specs.Finalizing.{front_at, TurnsHook, hook_turned, unhooked, StepsFinal, turned, not_live}
use Rattle.stateful_exec_model.specs.Workings.{Workings}
use Rattle.stateful_exec_model.specs.declared.front.Front.{Front}
use Rattle.stateful_exec_model.specs.declared.front.Stage.TheVariants.{Running, Hooking}
use Rattle.stateful_exec_laws.specs.Due.{IsDue}
use Rattle.stateful_exec_laws.specs.Fronting.{FrontStands}
use Rattle.stateful_exec_laws.specs.Setting.{setting}
use Rattle.stateful_exec_laws.proofs.pauses.DueStands.{IsDue-hooks, IsDue-steps_final}
use Rattle.stateful_loop_model.specs.Moments.{Moment}
use Rattle.stateful_loop_laws.specs.Execution.{Executes}
use Rattle.stateful_loop_laws.specs.Places.{EndsNoRun, IsInPlace, HasMovedIn, PlacesKept, PlacesBehind}
use Rattle.stateful_loop_laws.specs.RuleMarks.{IsOfRule}
use Rattle.stateful_loop_laws.proofs.places.Front.{one_rule, one_askless}
use Rattle.stateful_loop_laws.proofs.places.Past.{IsAskless, asked-before}
use Rattle.stateful_loop_laws.proofs.places.Still.{IsHookless, asks-same, places-of, unhooked-after}

module _ {B C I : Type 0} where
  -- a job of another kind is no candidate's
  pub other-kind : (j : ℕ) (p : Past B C I) (kind : JobKind) (e : Digest) → (kind ≡ job.Candidate → ⊥) → started_for j p ≡ Some (job_of kind e)
      → (h : How) → EndsNoRun p (Ended j h)
  other-kind j p kind e other is h = inr (λ d started. let both : Some (job_of kind e) ≡ Some (job_of job.Candidate d) = sym is ∙ started in
      let same : job_of kind e ≡ job_of job.Candidate d = cc in other (ap (λ (o : JobOf). o.kind) same))

module _ {B C I P R D H G U : Type 0} (w : Workings B C I P R D H G U) (stored : ℕ → Option (Named B)) (base : w.States) (p : Past B C I) (j : ℕ)
    (m : Moment w) (e : Executes w stored base p m) (k : PlacesKept w stored (Came (Turn j) ∷ p) m) where
  abbrev given : Past B C I
  given = Came (Turn j) ∷ p

  fronts_at : (front : Option (Front B R U H)) → m.execution.front ≡ front → FrontStands w stored p e.point m.next m.execution.state.anchor front
  fronts_at front is = subst (λ (o : Option (Front B R U H)). FrontStands w stored p e.point m.next m.execution.state.anchor o) is e.fronts

  -- a turn of what is in front makes no mark, or ends its job
  in_front : (front : Option (Front B R U H)) (marks more : List (Mark B)) → marks ≡ m.marks ++ more → All IsOfRule more → All IsAskless more
      → All IsHookless more
      → EachMark (IsInPlace w stored base) given more → EachMark EndsNoRun given more → IsDue (setting w stored)
      (after given more) m.execution.state.cache front
      → (HasMovedIn front → HasMovedIn m.execution.front)
      → PlacesBehind w stored base given m (record m { execution = record m.execution { front = front }; marks = marks })
  in_front front marks more is rules askless hookless each ends due moved =
      places-of w stored base given m _ more is each rules ends k.past due
      (asks-same w stored given more askless m.execution.state m.execution.state m.execution.build m.execution.build m.execution.front front refl refl refl
      (λ on t d was. k.asks.nothing (moved on) t d (asked-before t d given more askless was)) k.asks)
      (λ f captured at some. unhooked-after given more hookless ∙ k.hooks f captured at some)

  one_hookless : (x : Mark B) → IsHookless x → All IsHookless (x ∷ [])
  one_hookless x h = All-cons IsHookless x [] h (All-nil IsHookless)

  -- where nothing is begun, as behind a block that was applied
  none_begun : (b : Named B) (hook : H) → m.execution.front ≡ front_at b (Hooking j hook) → begun given ≡ None
  none_begun b hook is = subst (λ (o : Option (Front B R U H)). IsDue (setting w stored) given m.execution.state.cache o) is k.due

  hooked_kind : (b : Named B) (hook : H) → m.execution.front ≡ front_at b (Hooking j hook) → started_for j p ≡ Some (job_of job.Hook b.digest)
  hooked_kind b hook is = (fronts_at (front_at b (Hooking j hook)) is).at_stage.1.job.is

  running_kind : (b : Named B) (run : R) → m.execution.front ≡ front_at b (Running j run) → started_for j p ≡ Some (job_of job.Finalized b.digest)
  running_kind b run is = (fronts_at (front_at b (Running j run)) is).at_stage.1.job.is

  -- They are after a turn of the hook.
  pub places-hook : (count : H → ℕ) (marks : List (Mark B)) (front : Option (Front B R U H)) (b : Named B) (hook : H)
      → m.execution.front ≡ front_at b (Hooking j hook) → TurnsHook w count m.members m.execution.front j m.marks marks front
      → PlacesBehind w stored base given m (record m { execution = record m.execution { front = front }; marks = marks })
  places-hook count marks front b hook is (unhooked off same is_front) = absurd (off b hook (record { is = is }))
  places-hook count marks front b hook is (hook_turned {b = c} {hook = old} {now = now} {answer = Ok Pending} live had settles) =
      in_front front marks [] (settles.0 ∙ sym (append-nil m.marks)) (All-nil IsOfRule) (All-nil IsAskless) (All-nil IsHookless) tt tt
      (IsDue-hooks w stored given m.execution.state.cache (none_begun b hook is) count m.members m.execution.front j m.marks marks front b hook is
      (hook_turned live had settles))
      (λ on. subst (λ (o : Option (Front B R U H)). HasMovedIn o) (sym is) tt)
  places-hook count marks front b hook is (hook_turned {b = c} {hook = old} {now = now} {answer = Ok (Done o)} live had settles) =
      in_front front marks (Ended j how.Hooked ∷ []) settles.0 (one_rule _ tt) (one_askless _ tt) (one_hookless _ tt) ((tt, tt, tt, tt, tt), tt)
      (other-kind j given job.Hook b.digest (λ no. cc) (hooked_kind b hook is) how.Hooked, tt)
      (IsDue-hooks w stored (Made (Ended j how.Hooked) ∷ given) m.execution.state.cache
      (none_begun b hook is) count m.members m.execution.front j m.marks marks front
      b hook is (hook_turned live had settles))
      (λ on. subst (λ (o : Option (Front B R U H)). HasMovedIn o) (sym is) tt)
  places-hook count marks front b hook is (hook_turned {answer = Err fault} live had settles) = absurd settles

  -- They are after a turn of the finalized block's run.
  pub places-final : (count : R → ℕ) (marks : List (Mark B)) (front : Option (Front B R U H)) (b : Named B) (run : R)
      → m.execution.front ≡ front_at b (Running j run) → StepsFinal w count m.members m.execution.front j m.marks marks front
      → PlacesBehind w stored base given m (record m { execution = record m.execution { front = front }; marks = marks })
  places-final count marks front b run is (not_live off same is_front) = absurd (off b run (record { is = is }))
  places-final count marks front b run is (turned {b = c} {run = old} {turned = now} {answer = Ok Pending} live had settles) =
      in_front front marks [] (settles.0 ∙ sym (append-nil m.marks)) (All-nil IsOfRule) (All-nil IsAskless) (All-nil IsHookless) tt tt
      (IsDue-steps_final w stored given m.execution.state.cache count m.members m.execution.front j m.marks marks front b run is
      (turned live had settles))
      (λ on. absurd (subst (λ (o : Option (Front B R U H)). HasMovedIn o) settles.1 on))
  places-final count marks front b run is (turned {b = c} {run = old} {turned = now} {answer = Ok (Done o)} live had settles) =
      in_front front marks (Ended j how.Kept ∷ []) settles.2 (one_rule _ tt) (one_askless _ tt) (one_hookless _ tt) ((tt, tt, tt, tt, tt), tt)
      (other-kind j given job.Finalized b.digest (λ no. cc) (running_kind b run is) how.Kept, tt)
      (IsDue-steps_final w stored
      (Made (Ended j how.Kept) ∷ given) m.execution.state.cache count m.members m.execution.front j m.marks marks front b run is
      (turned live had settles))
      (λ on. absurd (subst (λ (o : Option (Front B R U H)). HasMovedIn o) settles.3 on))
  places-final count marks front b run is (turned {answer = Err fault} live had settles) = absurd settles
