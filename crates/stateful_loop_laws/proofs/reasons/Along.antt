-- False verdicts and declines have their reasons, and what is kept for reasons is kept: along the rules after an event.
use Rattle.std.proofs.Common.{◌≡◌, ◌++◌, [], ℕ, List, Option, sym, ap, ◌∙◌, subst, append-nil}
use Rattle.std.proofs.lemmas.List.{append_assoc, append_cancel_left}
use Rattle.stateful_base.specs.Names.{Named}
use Rattle.stateful_db.specs.Laws.{Laws}
use Rattle.stateful_history.specs.Past.{Past, after}
use Rattle.stateful_history.specs.Honest.{StoresFinalized}
use Rattle.stateful_history.specs.declared.event.Event.{Event}
use Rattle.stateful_history.specs.declared.mark.Mark.{Mark}
use Rattle.stateful_history.proofs.Marks.{after-append, EachMark-append}
use Rattle.stateful_exec_model.specs.Workings.{Workings}
use Rattle.stateful_exec_laws.specs.Building.{BuildsTakeTurns}
use Rattle.stateful_exec_laws.specs.Fronting.{RunsTakeTurns}
use Rattle.stateful_exec_laws.specs.Storing.{IsStoredNow}
use Rattle.stateful_loop_model.specs.Moments.{Moment}
use Rattle.stateful_loop_model.specs.Rules.{Along, none, further}
use Rattle.stateful_loop_laws.specs.Behind.{UpBehind}
use Rattle.stateful_loop_laws.specs.Reasons.{IsTrusted, ReasonsStand, HasItsReason, ReasonsBehind, ReasonsUpBehind}
use Rattle.stateful_loop_laws.specs.Stands.{IsUpAt}
use Rattle.stateful_loop_laws.proofs.events.AlongUp.{rule_is_up, along-up}
use Rattle.stateful_loop_laws.proofs.execution.Kept.{Executes-names}
use Rattle.stateful_loop_laws.proofs.events.NamesBehind.{NamesBehind-marks}
use Rattle.stateful_loop_laws.proofs.reasons.Linked.{reasons_at}
use Rattle.stateful_loop_laws.proofs.reasons.Rules.{reasons-rule}
use Rattle.stateful_loop_laws.proofs.reasons.Stand.{ReasonsStandBehind, reasons_stand-rule}
use Rattle.stateful_loop_laws.proofs.events.RuleItems.{IsStoredNow-after}
use Rattle.stateful_loop_laws.proofs.events.RuleUp.{rule-up}
use Rattle.stateful_loop_laws.proofs.events.Trusted.{TrustedBehind, TrustedBehind-before}
use Rattle.stateful_loop_laws.proofs.ways.Beside.{StoresFinalized-after}

module _ {B C I P R D H G U : Type 0} (w : Workings B C I P R D H G U) (laws : Laws w.kind) (stored : ℕ → Option (Named B)) (base : w.States)
    (e : Event B C I) (marks : List (Mark B)) where
  -- the reasons and what is kept for them, of the same marks
  pub reasons_with : (p : Past B C I) (m now : Moment w) → ReasonsBehind w stored base e marks p m now → ReasonsStandBehind w stored base p m now
      → ReasonsUpBehind w stored base e marks p m now
  reasons_with p m now reasons kept = record {
    more = kept.more;
    marks_are = kept.marks_are;
    each = reasons_at w stored base e marks p m now kept.more kept.marks_are reasons;
    stand = kept.stand;
  }

  -- behind some marks, and then behind others
  pub reasons_then : (p : Past B C I) (m mid now : Moment w) (one : ReasonsUpBehind w stored base e marks p m mid)
      → ReasonsUpBehind w stored base e marks (after p one.more) mid now → ReasonsUpBehind w stored base e marks p m now
  reasons_then p m mid now one two = record {
    more = one.more ++ two.more;
    marks_are = two.marks_are ∙ ap (λ (ms : List (Mark B)). ms ++ two.more) one.marks_are ∙ append_assoc m.marks one.more two.more;
    each = EachMark-append (HasItsReason w stored base e marks) p one.more two.more one.each two.each;
    stand = subst (λ (q : Past B C I). ReasonsStand w stored q base now) (sym (after-append p one.more two.more)) two.stand;
  }

  -- whatever list of marks was made first
  reasons_on : (p : Past B C I) (m mid now : Moment w) (more : List (Mark B)) → mid.marks ≡ m.marks ++ more
      → (one : ReasonsUpBehind w stored base e marks p m mid) → ReasonsUpBehind w stored base e marks (after p more) mid now
      → ReasonsUpBehind w stored base e marks (after p one.more) mid now
  reasons_on p m mid now more is one two = subst (λ (ms : List (Mark B)). ReasonsUpBehind w stored base e marks (after p ms) mid now)
      (append_cancel_left m.marks more one.more (sym is ∙ one.marks_are)) two

  stand_on : (p : Past B C I) (m mid : Moment w) (more : List (Mark B)) → mid.marks ≡ m.marks ++ more
      → (one : ReasonsUpBehind w stored base e marks p m mid) → ReasonsStand w stored (after p more) base mid
  stand_on p m mid more is one = subst (λ (ms : List (Mark B)). ReasonsStand w stored (after p ms) base mid)
      (append_cancel_left m.marks one.more more (sym one.marks_are ∙ is)) one.stand

  module _ (p : Past B C I) (stored_now : ℕ → Option (Named B)) (stored_is : IsStoredNow stored p stored_now) (provider : P)
      (runs_cost : RunsTakeTurns w) (builds_cost : BuildsTakeTurns w) (stores : StoresFinalized w.header stored p) where
    -- Each false verdict and each decline of rules, one after another, has its reason, and what is kept for that is kept.
    pub reasons-along : (m now : Moment w) → IsUpAt w stored base p m → ReasonsStand w stored p base m → TrustedBehind w stored p m now
        → Along w stored_now provider m now → ReasonsUpBehind w stored base e marks p m now
    reasons-along m _ h stand trust none = record { more = []; marks_are = sym (append-nil m.marks); each = tt; stand = stand }
    reasons-along m now h stand trust (further {mid = mid} along rule) =
        let one : UpBehind w stored base p m mid = along-up w stored base laws p stored_now stored_is provider runs_cost builds_cost stores m mid h along in
        let there : IsUpAt w stored base (after p one.more) mid = one.up (rule_is_up w stored_now provider mid now rule) in
        let stored_there : IsStoredNow stored (after p one.more) stored_now = IsStoredNow-after stored p stored_now stored_is one.more one.of_rules in
        let two : UpBehind w stored base (after p one.more) mid now = rule-up w laws stored base (after p one.more) stored_now stored_there provider
        mid now there runs_cost builds_cost (StoresFinalized-after w.header stored p one.more stores) rule in
        let before : TrustedBehind w stored p m mid =
        TrustedBehind-before w stored p m mid now one.more two.more one.marks_are two.marks_are trust in
        let first : ReasonsUpBehind w stored base e marks p m mid = reasons-along m mid h stand before along in
        let kept : ReasonsStand w stored (after p one.more) base mid = stand_on p m mid one.more one.marks_are first in
        let trusted : IsTrusted w stored (after p one.more) = before one.more one.marks_are in
        reasons_then p m mid now first (reasons_on p m mid now one.more one.marks_are first
        (reasons_with (after p one.more) mid now
        (reasons-rule w laws stored base e marks (after p one.more) stored_now stored_there trusted provider mid now there kept rule)
        (reasons_stand-rule w laws stored base (after p one.more) stored_now stored_there trusted provider mid now there
        (NamesBehind-marks w stored base (after p one.more) mid now two.more two.marks_are (Executes-names w stored base _ now two.executes)) kept rule)))
