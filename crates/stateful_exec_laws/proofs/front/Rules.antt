-- The tables and the finalization stand after each rule of its run and of its hook.
use Rattle.std.proofs.Common.{◌≡◌, ◌++◌, ℕ, Bool, List, [], ◌∷◌, Option, Some, Result, Ok, Err, sym, ap, ◌∙◌, subst}
use Rattle.std.proofs.lemmas.List.{append-nil}
use Rattle.stateful_base.specs.Names.{Named}
use Rattle.stateful_base.specs.declared.digest.Digest.{Digest}
use Rattle.stateful_base.specs.declared.outcome.Moved.{Moved}
use Rattle.stateful_base.specs.declared.outcome.Moved.TheVariants.{Pending, Done}
use Rattle.stateful_db.specs.declared.application.AppFault.{AppFault}
use Rattle.stateful_db.specs.declared.application.Hooked.{Hooked}
use Rattle.stateful_db.specs.declared.application.Hooked.TheVariants as hooked
use Rattle.stateful_history.specs.Past.{Past, Came, Made, after}
use Rattle.stateful_history.specs.declared.event.Event.TheVariants.{Turn}
use Rattle.stateful_history.specs.declared.mark.How.TheVariants as how
use Rattle.stateful_history.specs.declared.mark.JobKind.TheVariants as job
use Rattle.stateful_history.specs.declared.mark.Mark.{Mark}
use Rattle.stateful_history.specs.declared.mark.Mark.TheVariants.{Started, Ended}
use Rattle.stateful_exec_model.specs.Finalizing.{front_at, RunsFinal, HasRunOn, IsFinalLive, SettlesFinal, StepsFinal, turned, not_live, IsLeftBehind, HooksOn, Observes, HasHooked, IsHookLive, SettlesHook, TurnsHook, hook_turned, unhooked}
use Rattle.stateful_exec_model.specs.Moments.{Moment}
use Rattle.stateful_exec_model.specs.Workings.{Workings, Point}
use Rattle.stateful_exec_model.specs.declared.front.Front.{Front}
use Rattle.stateful_exec_model.specs.declared.front.Stage.TheVariants.{Begun, Running, Advanced, Hooking}
use Rattle.stateful_exec_laws.specs.Fronting.{RunsTakeTurns, FrontStands}
use Rattle.stateful_exec_laws.specs.Requesting.{AllAbstain}
use Rattle.stateful_exec_laws.specs.Standing.{TablesStand}
use Rattle.stateful_exec_laws.proofs.front.Hooks.{TablesStand-hooks, FrontStands-hooks, TablesStand-turns_hook, FrontStands-hook_goes_on, TablesStand-hooked, FrontStands-hooked}
use Rattle.stateful_exec_laws.proofs.front.Runs.{TablesStand-runs_final, FrontStands-runs, TablesStand-turns_final, FrontStands-goes_on, TablesStand-ran, FrontStands-ran}

module _ {B C I P R D H G U : Type 0} (w : Workings B C I P R D H G U) (stored : ℕ → Option (Named B)) (points : Digest → Point w) (point : Point w) where
  -- What stands after a rule of a finalization, over a past that has the rule's event: some marks are made, no database moves, and
  -- the tables and the finalization stand for the past with these marks.
  pub record StandsWithFront (p : Past B C I) (m now : Moment w) (front : Option (Front B R U H)) : Type 0 where
    pub more : List (Mark B)
    pub marks_are : now.marks ≡ m.marks ++ more
    pub members_are : now.members ≡ m.members
    pub tables : TablesStand w stored (after p more) points point now.next now.state
    pub fronts : FrontStands w stored (after p more) point now.next now.state.anchor front
    pub waiting : AllAbstain w stored p m.state.requests → AllAbstain w stored (after p more) now.state.requests

  -- marks alone are made
  marked : (q : Past B C I) (m now : Moment w) (front : Option (Front B R U H)) (more : List (Mark B)) → now ≡ record m { marks = now.marks } → now.marks ≡ m.marks ++ more → (AllAbstain w stored q m.state.requests → AllAbstain w stored (after q more) m.state.requests)
      → TablesStand w stored (after q more) points point m.next m.state → FrontStands w stored (after q more) point m.next m.state.anchor front → StandsWithFront q m now front
  marked q m now front more same is waits t f = record {
    more = more;
    marks_are = is;
    members_are = ap (λ (n : Moment w). n.members) same;
    tables = subst (λ (n : Moment w). TablesStand w stored (after q more) points point n.next n.state) (sym same) t;
    fronts = subst (λ (n : Moment w). FrontStands w stored (after q more) point n.next n.state.anchor front) (sym same) f;
    waiting = subst (λ (n : Moment w). AllAbstain w stored q m.state.requests → AllAbstain w stored (after q more) n.state.requests) (sym same) waits;
  }

  module _ (p : Past B C I) (m now : Moment w) (s : TablesStand w stored p points point m.next m.state) (located : w.kind.point m.members ≡ Some point) where
    -- behind the start of the finalized block's run
    pub StandsWithFront-runs : (other_states : (n i : w.Ids) (x y : w.States) (c : List (Point w)) → w.kind.issued n ((i, x) ∷ c) → w.kind.issued n ((i, y) ∷ c)) → w.kind.issued m.next (point ∷ []) → RunsTakeTurns w → (b : Named B) (front : Option (Front B R U H))
        → RunsFinal w b m.members m.next now.next m.state now.state front → now.members ≡ m.members → now.marks ≡ m.marks ++ Started m.state.next_job job.Finalized b.digest ∷ []
        → FrontStands w stored p point m.next m.state.anchor (front_at b Begun) → StandsWithFront p m now front
    StandsWithFront-runs other_states drawn costs b front starts members is f =
        let anchored : now.state.anchor ≡ m.state.anchor = ap (λ v. v.anchor) starts.state in
        record {
          more = _;
          marks_are = is;
          members_are = members;
          tables = TablesStand-runs_final w stored p points point m.next m.state s b other_states m.members located drawn now.next now.state front starts;
          fronts = subst (λ a. FrontStands w stored (Made (Started m.state.next_job job.Finalized b.digest) ∷ p) point now.next a front) (sym anchored)
              (FrontStands-runs w stored p points point m.next m.state s b other_states m.members located drawn now.next now.state front starts costs f);
          waiting = λ a. rw starts.state a;
        }

    settled_final : (j : ℕ) (b : Named B) (run next_run : R) (answer : Result (Moved (Option U)) AppFault) (after_turn : Option (Front B R U H)) (count : R → ℕ) → FrontStands w stored p point m.next m.state.anchor (front_at b (Running j run))
        → HasRunOn w count m.members run next_run answer → SettlesFinal w j b next_run answer m.marks now.marks after_turn → now ≡ record m { marks = now.marks } → StandsWithFront (Came (Turn j) ∷ p) m now after_turn
    settled_final j b run next_run (Ok Pending) after_turn count f had is same = marked (Came (Turn j) ∷ p) m now after_turn [] same (is.0 ∙ sym (append-nil m.marks)) (λ a. a)
        (TablesStand-turns_final w stored p points point m.next m.state s b j run next_run f m.members located)
        (subst (λ o. FrontStands w stored (Came (Turn j) ∷ p) point m.next m.state.anchor o) (sym is.1) (FrontStands-goes_on w stored p points point m.next m.state s b j run next_run f m.members located had.turns))
    settled_final j b run next_run (Ok (Done ended)) after_turn count f had is same = marked (Came (Turn j) ∷ p) m now after_turn _ same is.2 (λ a. a)
        (TablesStand-ran w stored p points point m.next m.state s b j run next_run f m.members located)
        (subst (λ o. FrontStands w stored (Made (Ended j how.Kept) ∷ Came (Turn j) ∷ p) point m.next m.state.anchor o) (sym is.3) (FrontStands-ran w stored p points point m.next m.state s b j run next_run f m.members located ended is.0 had.turns is.1))
    settled_final j b run next_run (Err fault) after_turn count f had is same = absurd is

    -- after a turn of it, whatever it leads to
    pub StandsWithFront-steps : (count : R → ℕ) (front after_turn : Option (Front B R U H)) (j : ℕ) (b : Named B) (run : R) → IsFinalLive w front j b run → FrontStands w stored p point m.next m.state.anchor front
        → StepsFinal w count m.members front j m.marks now.marks after_turn → now ≡ record m { marks = now.marks } → StandsWithFront (Came (Turn j) ∷ p) m now after_turn
    StandsWithFront-steps count front after_turn j b run live f (turned {b = c} {run = r} {turned = next_run} {answer = answer} is_live had settles) same =
        settled_final j c r next_run answer after_turn count (subst (λ o. FrontStands w stored p point m.next m.state.anchor o) is_live.is f) had settles same
    StandsWithFront-steps count front after_turn j b run live f (not_live off marks is) same = absurd (off b run live)

    settled_hook : (j : ℕ) (b : Named B) (hook next_hook : H) (answer : Result (Moved Unit) AppFault) (after_turn : Option (Front B R U H)) (count : H → ℕ) → FrontStands w stored p point m.next m.state.anchor (front_at b (Hooking j hook))
        → HasHooked w count m.members hook next_hook answer → SettlesHook w j b next_hook answer m.marks now.marks after_turn → now ≡ record m { marks = now.marks } → StandsWithFront (Came (Turn j) ∷ p) m now after_turn
    settled_hook j b hook next_hook (Ok Pending) after_turn count f had is same = marked (Came (Turn j) ∷ p) m now after_turn [] same (is.0 ∙ sym (append-nil m.marks)) (λ a. a)
        (TablesStand-turns_hook w stored p points point m.next m.state s b j hook next_hook f)
        (subst (λ o. FrontStands w stored (Came (Turn j) ∷ p) point m.next m.state.anchor o) (sym is.1) (FrontStands-hook_goes_on w stored p points point m.next m.state s b j hook next_hook f count m.members located had))
    settled_hook j b hook next_hook (Ok (Done ended)) after_turn count f had is same = marked (Came (Turn j) ∷ p) m now after_turn _ same is.0 (λ a. a)
        (TablesStand-hooked w stored p points point m.next m.state s b j hook next_hook f)
        (subst (λ o. FrontStands w stored (Made (Ended j how.Hooked) ∷ Came (Turn j) ∷ p) point m.next m.state.anchor o) (sym is.1) (FrontStands-hooked w stored p points point m.next m.state s b j hook next_hook f))
    settled_hook j b hook next_hook (Err fault) after_turn count f had is same = absurd is

    -- after a turn of the hook, whatever it leads to
    pub StandsWithFront-hooks : (count : H → ℕ) (front after_turn : Option (Front B R U H)) (j : ℕ) (b : Named B) (hook : H) → IsHookLive w front j b hook → FrontStands w stored p point m.next m.state.anchor front
        → TurnsHook w count m.members front j m.marks now.marks after_turn → now ≡ record m { marks = now.marks } → StandsWithFront (Came (Turn j) ∷ p) m now after_turn
    StandsWithFront-hooks count front after_turn j b hook live f (hook_turned {b = c} {hook = h} {now = next_hook} {answer = answer} is_live had settles) same =
        settled_hook j c h next_hook answer after_turn count (subst (λ o. FrontStands w stored p point m.next m.state.anchor o) is_live.is f) had settles same
    StandsWithFront-hooks count front after_turn j b hook live f (unhooked off marks is) same = absurd (off b hook live)

    observed : (b : Named B) (captured : G) (hook : Hooked H) (front : Option (Front B R U H)) (live : Bool) → (left : IsLeftBehind w b captured m.members hook) → (before : w.States) → w.works.captures captured (w.context_of b.block) b.block before
        → HooksOn w b hook m.state now.state m.marks now.marks front live → now.members ≡ m.members → now.next ≡ m.next → FrontStands w stored p point m.next m.state.anchor (front_at b Advanced) → StandsWithFront p m now front
    observed b captured hooked.Done front live left before read is members next f = record {
      more = [];
      marks_are = is.1 ∙ sym (append-nil m.marks);
      members_are = members;
      tables = rw (is.0, next) s;
      fronts = rw (is.0, is.2, next) f;
      waiting = λ a. rw is.0 a;
    }
    observed b captured (hooked.Pending hook) front live left before read is members next f = record {
      more = _;
      marks_are = is.2;
      members_are = members;
      tables = rw (is.0, next) (TablesStand-hooks w stored p points point m.next m.state s b f);
      fronts = rw (is.0, is.3, next) (FrontStands-hooks w stored p points point m.next m.state s b f m.members located captured hook left before read);
      waiting = λ a. rw is.0 a;
    }

    -- Behind what the application observes of the finalized block, and the hook that it may leave, where it has read these states
    -- before.
    pub StandsWithFront-observes : (b : Named B) (captured : G) (front : Option (Front B R U H)) (live : Bool) → (o : Observes w b captured m.members m.state now.state m.marks now.marks front live) → (before : w.States) → w.works.captures captured (w.context_of b.block) b.block before
        → now.members ≡ m.members → now.next ≡ m.next → FrontStands w stored p point m.next m.state.anchor (front_at b Advanced) → StandsWithFront p m now front
    StandsWithFront-observes b captured front live o before read members next f = observed b captured o.hook front live o.left_is before read o.hooks_on members next f
