-- False verdicts and declines have their reasons, and what is kept for reasons is kept: after a whole event, but for a restart.
use Rattle.std.proofs.Common.{◌≡◌, ◌∷◌, ℕ, true, List, Option, sym, ◌∙◌, subst}
use Rattle.std.proofs.lemmas.List.{append_cancel_left}
use Rattle.stateful_base.specs.Names.{Named}
use Rattle.stateful_db.specs.Laws.{Laws}
use Rattle.stateful_history.specs.Live.{names_live}
use Rattle.stateful_history.specs.Met.{TrueNames}
use Rattle.stateful_history.specs.Past.{Past, Came, after}
use Rattle.stateful_history.specs.Stops.{IsRestart}
use Rattle.stateful_history.specs.Honest.{StoresFinalized}
use Rattle.stateful_history.specs.declared.event.Event.{Event}
use Rattle.stateful_history.specs.declared.mark.Mark.{Mark}
use Rattle.stateful_exec_model.specs.Workings.{Workings}
use Rattle.stateful_exec_laws.specs.Building.{BuildsTakeTurns}
use Rattle.stateful_exec_laws.specs.Fronting.{RunsTakeTurns}
use Rattle.stateful_exec_laws.specs.Setting.{setting}
use Rattle.stateful_exec_laws.specs.Storing.{IsStoredNow}
use Rattle.stateful_loop_model.specs.Intake.{Counts, TakesIn}
use Rattle.stateful_loop_model.specs.Moments.{Moment}
use Rattle.stateful_loop_model.specs.Rules.{Quiet, Along}
use Rattle.stateful_loop_laws.specs.Execution.{NamesBehind}
use Rattle.stateful_loop_laws.specs.Reasons.{IsTrusted, ReasonsStand, ReasonsUpBehind}
use Rattle.stateful_loop_laws.specs.RuleMarks.{MarksBehind}
use Rattle.stateful_loop_laws.specs.Stands.{IsUpAt}
use Rattle.stateful_loop_laws.specs.TakenBehind.{TakenBehind}
use Rattle.stateful_loop_laws.proofs.events.EventUp.{along_marks, names-taken}
use Rattle.stateful_loop_laws.proofs.execution.Kept.{Executes-names}
use Rattle.stateful_loop_laws.proofs.duly.MarksOfRules.{taken_in_marks}
use Rattle.stateful_loop_laws.proofs.events.NamesBehind.{NamesBehind-marks, NamesBehind-before}
use Rattle.stateful_loop_laws.proofs.reasons.Along.{reasons_with, reasons_then, reasons-along}
use Rattle.stateful_loop_laws.proofs.reasons.Intake.{reasons-takes_in}
use Rattle.stateful_loop_laws.proofs.reasons.Stand.{reasons_stand-takes_in}
use Rattle.stateful_loop_laws.proofs.events.RuleItems.{IsStoredNow-after}
use Rattle.stateful_loop_laws.proofs.events.TakenIn.{takes_in-up}
use Rattle.stateful_loop_laws.proofs.events.Trusted.{IsTrusted-before_marks, TrustedBehind, TrustedBehind-before, TrustedBehind-then}
use Rattle.stateful_loop_laws.proofs.ways.Beside.{StoresFinalized-after}

module _ {B C I P R D H G U : Type 0} (w : Workings B C I P R D H G U) (laws : Laws w.kind) (stored : ℕ → Option (Named B)) (base : w.States)
    (p : Past B C I) (stored_now : ℕ → Option (Named B)) (stored_is : IsStoredNow stored p stored_now) (counts : Counts R D H) (provider : P)
    (runs_cost : RunsTakeTurns w) (builds_cost : BuildsTakeTurns w) where
  -- The event is taken in, and rules go one after another. The marks that are named are those of the whole entry, be they more.
  pub reasons-up : (e : Event B C I) (marks : List (Mark B)) (m mid now : Moment w) → m.loop.up ≡ true → Quiet w m → IsUpAt w stored base p m
      → ReasonsStand w stored p base m → (IsRestart e → ⊥) → names_live w.kind.count p e ≡ true → NamesBehind w stored base (Came e ∷ p) m now
      → TrustedBehind w stored (Came e ∷ p) m now → StoresFinalized w.header stored (Came e ∷ p) → TakesIn w stored_now counts m mid e
      → Along w stored_now provider mid now → ReasonsUpBehind w stored base e marks (Came e ∷ p) m now
  reasons-up e marks m mid now up quiet h stand on live names trust stores takes along =
      reasons_then w laws stored base e marks q m mid now first
      (subst (λ (ms : List (Mark B)). ReasonsUpBehind w stored base e marks (after q ms) mid now)
      (append_cancel_left m.marks taken.more first.more (sym taken.marks_are ∙ first.marks_are)) rest)
    where
      q : Past B C I
      q = Came e ∷ p

      taken : TakenBehind w stored base (Came e ∷ p) m mid
      taken = takes_in-up w laws stored base p stored_now stored_is counts m mid up quiet h e on live
          (names-taken w stored base (Came e ∷ p) m stored_now provider mid now (taken_in_marks w stored_now counts m mid e takes) along names) takes

      then : MarksBehind w mid now
      then = along_marks w stored_now provider mid now along

      before : TrustedBehind w stored (Came e ∷ p) m mid
      before = TrustedBehind-before w stored (Came e ∷ p) m mid now taken.more then.more taken.marks_are then.marks_are trust

      trusted : IsTrusted w stored (Came e ∷ p)
      trusted = IsTrusted-before_marks w stored taken.more (Came e ∷ p) (before taken.more taken.marks_are)

      names_there : NamesBehind w stored base (Came e ∷ p) m mid
      names_there = NamesBehind-marks w stored base (Came e ∷ p) m mid taken.more taken.marks_are
          (Executes-names w stored base (after (Came e ∷ p) taken.more) mid taken.stands.executes)

      names_came : TrueNames (setting w stored) (Came e ∷ p)
      names_came = NamesBehind-before w stored base (Came e ∷ p) m mid taken.more taken.marks_are names_there

      first : ReasonsUpBehind w stored base e marks (Came e ∷ p) m mid
      first = reasons_with w laws stored base e marks (Came e ∷ p) m mid
          (reasons-takes_in w laws stored base marks p stored_now stored_is counts m mid h up stand e trusted names_came takes)
          (reasons_stand-takes_in w laws stored base p stored_now counts m mid h up stand e on trusted names_came names_there takes)

      rest : ReasonsUpBehind w stored base e marks (after (Came e ∷ p) taken.more) mid now
      rest = reasons-along w laws stored base e marks (after (Came e ∷ p) taken.more) stored_now
          (IsStoredNow-after stored (Came e ∷ p) stored_now stored_is taken.more taken.of_rules) provider runs_cost builds_cost
          (StoresFinalized-after w.header stored (Came e ∷ p) taken.more stores) mid now taken.stands
          (subst (λ (ms : List (Mark B)). ReasonsStand w stored (after (Came e ∷ p) ms) base mid)
          (append_cancel_left m.marks first.more taken.more (sym first.marks_are ∙ taken.marks_are)) first.stand)
          (TrustedBehind-then w stored (Came e ∷ p) m mid now taken.more taken.marks_are trust) along
