-- Behind steps of the machine, one after another, it stands for the past with their entries, as a new one does for the empty past.
use Rattle.std.proofs.Common.{◌≡◌, ◌∷◌, [], ℕ, Bool, List, Option, refl, sym, ◌∙◌, subst, true≢false}
use Rattle.stateful_base.specs.Names.{Named}
use Rattle.stateful_db.specs.Laws.{Laws}
use Rattle.stateful_history.specs.Holding.{Holds}
use Rattle.stateful_history.specs.Met.{TrueNames}
use Rattle.stateful_history.specs.Past.{Came, Past, after_entry, after_all}
use Rattle.stateful_history.specs.Honest.{StoresHeights, StoresFinalized}
use Rattle.stateful_history.specs.declared.entry.Entry.{Entry}
use Rattle.stateful_history.specs.declared.mark.Mark.{Mark}
use Rattle.stateful_history.proofs.Marks.{TrueNames-before_all}
use Rattle.stateful_exec_model.specs.Workings.{Workings}
use Rattle.stateful_actor_register.specs.declared.register.Register.{Register}
use Rattle.stateful_actor_register.proofs.Entries.{RegisterStands-none}
use Rattle.stateful_exec_laws.specs.Building.{BuildsTakeTurns}
use Rattle.stateful_exec_laws.specs.Fronting.{RunsTakeTurns}
use Rattle.stateful_exec_laws.specs.Setting.{setting}
use Rattle.stateful_exec_laws.specs.Storing.{IsStoredNow}
use Rattle.stateful_loop_laws.proofs.places.Past.{past-kept-first}
use Rattle.stateful_loop_laws.proofs.hands.Opened.{VerifiedApart-none}
use Rattle.stateful_loop_model.specs.Intake.{Counts}
use Rattle.stateful_loop_model.specs.Moments.{Moment}
use Rattle.stateful_actor_laws.specs.Entering.{Steps}
use Rattle.stateful_actor_laws.specs.Machine.{numbered, IsNew}
use Rattle.stateful_actor_laws.specs.Stands.{StandsAt, Stands}
use Rattle.stateful_actor_laws.specs.StepBehind.{StepBehind, EachStands}
use Rattle.stateful_actor_laws.proofs.steps.StoresBefore.{StoresFinalized-before_marks, StoresFinalized-before_all}
use Rattle.stateful_actor_laws.proofs.steps.Stepping.{IsStoredNow-step}
use Rattle.stateful_actor_laws.proofs.steps.StepStands.{step-behind}

module _ {B C I P R D H G U : Type 0} (w : Workings B C I P R D H G U) (stored : ℕ → Option (Named B)) (base : w.States) where
  -- a new machine at which no database is away
  pub StandsAt-new : (failed : Bool) (register : Register) (m : Moment w) → IsNew w failed register m → m.marks ≡ [] → w.kind.NoneAway m.members
      → StandsAt w stored base [] m
  StandsAt-new failed register m new unmarked away = record {
    restart = record {
      unmarked = unmarked;
      counted = record {
        numbers = record { jobs = λ j some. absurd (some refl); unturned = λ j le. refl; fetches = λ f some. absurd (some refl) };
        barriers = λ k some. absurd (some refl);
        none_away = away;
      };
      apart = VerifiedApart-none;
    };
    up_is = new.down;
    open_is = refl;
    up = λ up. absurd (true≢false (sym up ∙ new.down));
    reasons = λ up trust. absurd (true≢false (sym up ∙ new.down));
    hands = λ up. absurd (true≢false (sym up ∙ new.down));
    down = λ down. record { tickets = λ t. refl; fetches = λ f. refl; jobs = λ j. refl; barriers = λ k. refl };
    past = past-kept-first w stored [] refl;
    places = λ up. absurd (true≢false (sym up ∙ new.down));
  }

  -- and with it its register
  pub Stands-new : (failed : Bool) (register : Register) (m : Moment w) → IsNew w failed register m → m.marks ≡ [] → w.kind.NoneAway m.members
      → Stands w stored base [] failed register m
  Stands-new failed register m new unmarked away =
      let s = StandsAt-new failed register m new unmarked away in record {
        registered = RegisterStands-none (numbered w.kind.count) register new.blank;
        restart = s.restart;
        past = s.past;
        at = λ working. s;
      }

module _ {B C I P R D H G U : Type 0} (w : Workings B C I P R D H G U) (laws : Laws w.kind) (stored stored_now : ℕ → Option (Named B))
    (counts : Counts R D H) (provider : P) (runs_cost : RunsTakeTurns w) (builds_cost : BuildsTakeTurns w)
    (heights : StoresHeights w.header stored) where
  -- at the end the machine stands for the past with the entries, and the databases hold what was applied
  abbrev StandsAtLast : Past B C I → List (Entry B C I) → Moment w → w.States → Type 0
  StandsAtLast p entries last base = StandsAt w stored base (after_all p entries) last
      × Holds (setting w stored) w.kind base (after_all p entries) last.members

  -- Names are true with all of the entries.
  pub steps-stand : (base : w.States) (p : Past B C I) (old : Moment w) (entries : List (Entry B C I)) (last : Moment w)
      → IsStoredNow stored p stored_now → StandsAt w stored base p old → Holds (setting w stored) w.kind base p old.members
      → Steps w stored_now provider counts p old entries last
      → TrueNames (setting w stored) (after_all p entries) → StoresFinalized w.header stored (after_all p entries)
      → EachStands w stored (StandsAtLast p entries last) base p entries
  steps-stand base p old [] last stored_is s holds steps names stores =
      subst (λ (n : Moment w). StandsAt w stored base p n × Holds (setting w stored) w.kind base p n.members) (sym steps) (s, holds)
  steps-stand base p old (entry ∷ entries) last stored_is s holds (may_come_is, register, registered, new, marks_are, step, rest) names stores = (
    new,
    marks_are,
    b,
    steps-stand b.base_behind (after_entry p entry.event entry.marks) (record new { marks = [] }) entries last
        (subst (λ (ms : List (Mark B)). IsStoredNow stored (after_entry p entry.event ms) stored_now) marks_are
        (IsStoredNow-step w stored base p entry.event new stored_now stored_is b))
        (subst (λ (ms : List (Mark B)). StandsAt w stored b.base_behind (after_entry p entry.event ms) (record new { marks = [] })) marks_are b.stands)
        (subst (λ (ms : List (Mark B)). Holds (setting w stored) w.kind b.base_behind (after_entry p entry.event ms) new.members) marks_are b.holds)
        rest names stores,
  )
    where
      names_here : TrueNames (setting w stored) (after_entry p entry.event entry.marks)
      names_here = TrueNames-before_all (setting w stored) (after_entry p entry.event entry.marks) entries names

      b : StepBehind w stored base p entry.event new
      b = step-behind w laws stored stored_now counts provider runs_cost builds_cost heights base p stored_is entry.event register old new registered
          s.restart s.past (λ other. s) may_come_is step
          (subst (λ (ms : List (Mark B)). TrueNames (setting w stored) (after_entry p entry.event ms)) (sym marks_are) names_here)
          (StoresFinalized-before_marks w.header stored (Came entry.event ∷ p) entry.marks
          (StoresFinalized-before_all w.header stored (after_entry p entry.event entry.marks) entries stores))
