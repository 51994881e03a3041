-- Execution stands after a turn of the finalized block's run, and of its hook.
use Rattle.std.proofs.Common.{◌≡◌, ℕ, List, ◌∷◌, Option, Result, Ok, Err, refl, sym, subst}
use Rattle.stateful_base.specs.Names.{Named}
use Rattle.stateful_base.specs.declared.outcome.Moved.{Moved}
use Rattle.stateful_base.specs.declared.outcome.Moved.TheVariants.{Pending, Done}
use Rattle.stateful_db.specs.declared.application.AppFault.{AppFault}
use Rattle.stateful_history.specs.Past.{Past, Came, after}
use Rattle.stateful_history.specs.declared.event.Event.TheVariants.{Turn}
use Rattle.stateful_history.specs.declared.mark.How.TheVariants as how
use Rattle.stateful_history.specs.declared.mark.Mark.{Mark}
use Rattle.stateful_exec_model.specs.Finalizing.{front_at, HasRunOn, SettlesFinal, IsFinalLive, StepsFinal, turned, not_live, HasHooked, IsHookLive, SettlesHook, TurnsHook, hook_turned, unhooked}
use Rattle.stateful_exec_model.specs.Workings.{Workings}
use Rattle.stateful_exec_model.specs.declared.front.Front.{Front}
use Rattle.stateful_exec_model.specs.declared.front.Stage.TheVariants.{Running, Ran, Advanced, Hooking}
use Rattle.stateful_exec_laws.proofs.front.Rules.{StandsWithFront, StandsWithFront-steps, StandsWithFront-hooks}
use Rattle.stateful_loop_model.specs.Intake.{Counts, Hooks}
use Rattle.stateful_loop_model.specs.Moments.{Moment, inner}
use Rattle.stateful_loop_laws.specs.Execution.{IsPausedOver, HasMovedOn, IsPlaced, Executes, NamesBehind, ExecutesBehind}
use Rattle.stateful_loop_laws.proofs.execution.FrontBehind.{unbuilt, front_mild, ExecutesBehind-front}
use Rattle.stateful_loop_laws.proofs.duly.JobMarks.{MakesOfJobs, makes_none, makes_ended, IsGrown-turn}
use Rattle.stateful_loop_laws.proofs.places.PlacedBehind.{IsGrown, IsPausedOver-left, HasMovedOn-left}

module _ {B C I P R D H G U : Type 0} (w : Workings B C I P R D H G U) (j : ℕ) (old new : List (Mark B)) (next : Option (Front B R U H))
    (b : Named B) where
  module _ (q : Past B C I) where
    -- the marks of the turn of a hook, and of the finalized block's run
    hook_made : (now : H) (answer : Result (Moved Unit) AppFault) → SettlesHook w j b now answer old new next → MakesOfJobs q old new
    hook_made now (Ok Pending) is = makes_none q old new is.0
    hook_made now (Ok (Done ended)) is = makes_ended q old new j how.Hooked is.0
    hook_made now (Err fault) is = absurd is

    run_made : (now : R) (answer : Result (Moved (Option U)) AppFault) → SettlesFinal w j b now answer old new next → MakesOfJobs q old new
    run_made now (Ok Pending) is = makes_none q old new is.0
    run_made now (Ok (Done ended)) is = makes_ended q old new j how.Kept is.2
    run_made now (Err fault) is = absurd is

  module _ (IsThere : Option (Front B R U H) → Type 0) where
    -- and how far the finalization has come then
    hook_there : (now : H) (answer : Result (Moved Unit) AppFault) → SettlesHook w j b now answer old new next
        → ((h : H) → IsThere (front_at b (Hooking j h))) → IsThere (front_at b Advanced) → IsThere next
    hook_there now (Ok Pending) is on done = subst IsThere (sym is.1) (on now)
    hook_there now (Ok (Done ended)) is on done = subst IsThere (sym is.1) done
    hook_there now (Err fault) is on done = absurd is

    run_there : (now : R) (answer : Result (Moved (Option U)) AppFault) → SettlesFinal w j b now answer old new next
        → ((r : R) → IsThere (front_at b (Running j r))) → ((batch : U) → IsThere (front_at b (Ran batch))) → IsThere next
    run_there now (Ok Pending) is on done = subst IsThere (sym is.1) (on now)
    run_there now (Ok (Done ended)) is on done = subst IsThere (sym is.3) (done is.0)
    run_there now (Err fault) is on done = absurd is

module _ {B C I P R D H G U : Type 0} (w : Workings B C I P R D H G U) (stored : ℕ → Option (Named B)) (base : w.States) (p : Past B C I)
    (m : Moment w) (e : Executes w stored base p m) (j : ℕ) (marks : List (Mark B)) (next : Option (Front B R U H)) where
  -- the moment behind such a turn
  abbrev pub Turned : Moment w
  Turned = record m { execution = record m.execution { front = next }; marks = marks }

  abbrev q : Past B C I
  q = Came (Turn j) ∷ p

  grown : NamesBehind w stored base q m Turned → (f : StandsWithFront w stored e.points e.point q (inner w m) (inner w Turned) next)
      → MakesOfJobs q m.marks marks → IsGrown w stored base p (after q f.more) e.point
  grown names f made =
      IsGrown-turn w stored base p e.point f.more
      (front_mild w stored base p m e q Turned (λ k d live. record { live = live.live; is = live.is }) f made) j (names f.more f.marks_are)

  module _ (names : NamesBehind w stored base q m Turned) where
    hooked : (count : H → ℕ) (b : Named B) (hook now : H) (answer : Result (Moved Unit) AppFault) → IsHookLive w m.execution.front j b hook
        → HasHooked w count m.members hook now answer → SettlesHook w j b now answer m.marks marks next → ExecutesBehind w stored base q m Turned
    hooked count b hook now answer live had settles =
        let f : StandsWithFront w stored e.points e.point q (inner w m) (inner w Turned) next =
        StandsWithFront-hooks w stored e.points e.point p (inner w m)
        (inner w Turned) e.tables e.located count m.execution.front next j b hook live e.fronts (hook_turned live had settles) refl in
        let made : MakesOfJobs q m.marks marks = hook_made w j m.marks marks next b q now answer settles in
        let before : HasMovedOn w stored base p e.points e.point m.next m.execution.state =
        subst (λ (o : Option (Front B R U H)). IsPlaced w stored base p e.points e.point m.next m.execution.state o) live.is e.placed in
        let after_it : HasMovedOn w stored base (after q f.more) e.points e.point m.next m.execution.state =
        HasMovedOn-left w stored base p (after q f.more) e.point
        (grown names f made) e.points e.points m.next m.next m.execution.state m.execution.state f.tables refl
        (record { anchor = refl; cache = refl; pause = refl }) refl before in
        ExecutesBehind-front w stored base p m e q Turned (λ k d on. record { live = on.live; is = on.is }) f made
        (unbuilt w stored base p m e _ live.is) refl e.drawn
        (hook_there w j m.marks marks next b
        (λ o. IsPlaced w stored base (after q f.more) e.points e.point m.next m.execution.state o) now answer settles (λ h. after_it) after_it)

    turns_hook : (counts : Counts R D H) → Hooks w j m → TurnsHook w counts.hook m.members m.execution.front j m.marks marks next
        → ExecutesBehind w stored base q m Turned
    turns_hook counts hooks (hook_turned {b = b} {hook = hook} {now = now} {answer = answer} live had settles) =
        hooked counts.hook b hook now answer live had settles
    turns_hook counts hooks (unhooked off same is) = absurd (off hooks.0 hooks.1 hooks.2)

    stepped : (count : R → ℕ) (b : Named B) (run now : R) (answer : Result (Moved (Option U)) AppFault) → IsFinalLive w m.execution.front j b run
        → HasRunOn w count m.members run now answer → SettlesFinal w j b now answer m.marks marks next → ExecutesBehind w stored base q m Turned
    stepped count b run now answer live had settles =
        let f : StandsWithFront w stored e.points e.point q (inner w m) (inner w Turned) next =
        StandsWithFront-steps w stored e.points e.point p (inner w m)
        (inner w Turned) e.tables e.located count m.execution.front next j b run live e.fronts (turned live had settles) refl in
        let made : MakesOfJobs q m.marks marks = run_made w j m.marks marks next b q now answer settles in
        let before : IsPausedOver w stored base p e.points e.point m.next m.execution.state b =
        subst (λ (o : Option (Front B R U H)). IsPlaced w stored base p e.points e.point m.next m.execution.state o) live.is e.placed in
        let after_it : IsPausedOver w stored base (after q f.more) e.points e.point m.next m.execution.state b =
        IsPausedOver-left w stored base p (after q f.more) e.point
        (grown names f made) e.points e.points m.next m.next m.execution.state m.execution.state f.tables refl
        (record { anchor = refl; cache = refl; pause = refl }) refl refl b before in
        ExecutesBehind-front w stored base p m e q Turned (λ k d on. record { live = on.live; is = on.is }) f made
        (unbuilt w stored base p m e _ live.is) refl e.drawn
        (run_there w j m.marks marks next b
        (λ o. IsPlaced w stored base (after q f.more) e.points e.point m.next m.execution.state o) now answer settles (λ r. after_it)
        (λ batch. after_it))

    -- after a turn of the finalized block's run, whatever it leads to
    pub turns_final : (counts : Counts R D H) (b : Named B) (run : R) → IsFinalLive w m.execution.front j b run
        → StepsFinal w counts.run m.members m.execution.front j m.marks marks next → ExecutesBehind w stored base q m Turned
    turns_final counts b run live (turned {b = c} {run = r} {turned = now} {answer = answer} is_live had settles) =
        stepped counts.run c r now answer is_live had settles
    turns_final counts b run live (not_live off same is) = absurd (off b run live)

  -- Execution stands after a turn of the hook, whatever it leads to.
  pub Executes-turns_hook : (counts : Counts R D H) (now : Moment w) → Hooks w j m
      → TurnsHook w counts.hook m.members m.execution.front j m.marks marks next
      → now ≡ record m { execution = record m.execution { front = next }; marks = marks } → NamesBehind w stored base
      (Came (Turn j) ∷ p) m now → ExecutesBehind w stored base (Came (Turn j) ∷ p) m now
  Executes-turns_hook counts now hooks turns is names =
      subst (λ (n : Moment w). ExecutesBehind w stored base (Came (Turn j) ∷ p) m n) (sym is)
      (turns_hook (subst (λ (n : Moment w). NamesBehind w stored base (Came (Turn j) ∷ p) m n) is names) counts hooks turns)
