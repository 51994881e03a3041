-- After a whole event, but for a restart, a machine that was up and at which nothing could go on stands, or it is down and its numbers stand.
use Rattle.std.proofs.Common.{◌≡◌, ◌++◌, ◌∷◌, [], ℕ, true, List, Option, sym, ap, ◌∙◌, subst, append_assoc, append-nil}
use Rattle.std.proofs.lemmas.List.Elements.{All-nil, All-append}
use Rattle.stateful_base.specs.Names.{Named}
use Rattle.stateful_db.specs.Laws.{Laws}
use Rattle.stateful_history.specs.Live.{names_live}
use Rattle.stateful_history.specs.Past.{Past, Came, after}
use Rattle.stateful_history.specs.Stops.{IsRestart}
use Rattle.stateful_history.specs.Honest.{StoresFinalized}
use Rattle.stateful_history.specs.declared.event.Event.{Event}
use Rattle.stateful_history.specs.declared.mark.Mark.{Mark}
use Rattle.stateful_history.proofs.Marks.{after-append}
use Rattle.stateful_exec_model.specs.Workings.{Workings}
use Rattle.stateful_exec_laws.specs.Building.{BuildsTakeTurns}
use Rattle.stateful_exec_laws.specs.Fronting.{RunsTakeTurns}
use Rattle.stateful_exec_laws.specs.Storing.{IsStoredNow}
use Rattle.stateful_loop_model.specs.Intake.{Counts, TakesIn}
use Rattle.stateful_loop_model.specs.Moments.{Moment}
use Rattle.stateful_loop_model.specs.Rules.{Quiet, Rule, Along, none, further}
use Rattle.stateful_loop_laws.specs.Behind.{UpBehind}
use Rattle.stateful_loop_laws.specs.EventBehind.{EventBehind}
use Rattle.stateful_loop_laws.specs.Execution.{NamesBehind}
use Rattle.stateful_loop_laws.specs.RuleMarks.{IsOfRule, MarksBehind}
use Rattle.stateful_loop_laws.specs.Stands.{IsUpAt}
use Rattle.stateful_loop_laws.specs.TakenBehind.{TakenBehind}
use Rattle.stateful_loop_laws.proofs.events.AlongUp.{along-up, up-then}
use Rattle.stateful_loop_laws.proofs.duly.MarksOfRules.{rule_marks, taken_in_marks}
use Rattle.stateful_loop_laws.proofs.events.NamesBehind.{NamesBehind-later}
use Rattle.stateful_loop_laws.proofs.events.RuleItems.{IsStoredNow-after}
use Rattle.stateful_loop_laws.proofs.events.RuleUp.{holds_at}
use Rattle.stateful_loop_laws.proofs.events.TakenIn.{takes_in-up}
use Rattle.stateful_loop_laws.proofs.ways.Beside.{StoresFinalized-after}

module _ {B C I P R D H G U : Type 0} (w : Workings B C I P R D H G U) where
  -- rules, one after another, make marks of rules
  pub along_marks : (stored : ℕ → Option (Named B)) (provider : P) (m now : Moment w) → Along w stored provider m now → MarksBehind w m now
  along_marks stored provider m _ none = record { more = []; marks_are = sym (append-nil m.marks); each = All-nil (λ x. IsOfRule x) }
  along_marks stored provider m now (further {mid = mid} along rule) =
      let one = along_marks stored provider m mid along in
      let two = rule_marks w stored provider mid now rule in
      record {
        more = one.more ++ two.more;
        marks_are = two.marks_are ∙ ap (λ ms. ms ++ two.more) one.marks_are ∙ append_assoc m.marks one.more two.more;
        each = All-append (λ x. IsOfRule x) one.more two.more one.each two.each;
      }

module _ {B C I P R D H G U : Type 0} (w : Workings B C I P R D H G U) (stored : ℕ → Option (Named B)) (base : w.States) (q : Past B C I)
    (m : Moment w) where
  -- names that are true with all marks of an event are true with those that are made where it is taken in
  pub names-taken : (stored_now : ℕ → Option (Named B)) (provider : P) (mid now : Moment w) → MarksBehind w m mid
      → Along w stored_now provider mid now
      → NamesBehind w stored base q m now → NamesBehind w stored base q m mid
  names-taken stored_now provider mid now made along names =
      let then = along_marks w stored_now provider mid now along in
      NamesBehind-later w stored base q m mid made.more made.marks_are then.more
      (names (made.more ++ then.more) (then.marks_are ∙ ap (λ ms. ms ++ then.more) made.marks_are ∙ append_assoc m.marks made.more then.more))

  -- what stands where an event is taken in is what stands behind the first of its rules
  abbrev pub up-taken : (mid : Moment w) → TakenBehind w stored base q m mid → UpBehind w stored base q m mid
  up-taken mid t = record {
    more = t.more;
    marks_are = t.marks_are;
    of_rules = t.of_rules;
    earned = t.earned;
    said = t.said;
    up = λ up. t.stands;
    sound = t.stands.sound;
    in_order = t.stands.in_order;
    executes = t.stands.executes;
    tickets = t.stands.tickets;
    holds = holds_at w stored base q m mid (after q t.more) t.stands.loop.first t.stands.loop.origin t.stands.executes t.stands.loop.keeping;
    numbers = t.stands.loop.barriers.numbers;
  }

  -- what is kept of it after the event
  pub event-behind : (now : Moment w) → UpBehind w stored base q m now → EventBehind w stored base q m now
  event-behind now u = record {
    more = u.more;
    marks_are = u.marks_are;
    of_rules = u.of_rules;
    earned = u.earned;
    said = u.said;
    up = u.up;
    holds = u.holds;
    counted = record { numbers = u.executes.tables.numbers; barriers = u.numbers; none_away = u.sound.none_away };
  }

module _ {B C I P R D H G U : Type 0} (w : Workings B C I P R D H G U) (laws : Laws w.kind) (stored : ℕ → Option (Named B)) (base : w.States)
    (p : Past B C I) (stored_now : ℕ → Option (Named B)) (stored_is : IsStoredNow stored p stored_now) (counts : Counts R D H) (provider : P)
    (runs_cost : RunsTakeTurns w) (builds_cost : BuildsTakeTurns w) where
  -- The event is taken in, and rules go one after another, where the store has the finalized blocks that came, or none, at their
  -- heights.
  pub event-up : (e : Event B C I) (m mid now : Moment w) → m.loop.up ≡ true → Quiet w m → IsUpAt w stored base p m → (IsRestart e → ⊥)
      → names_live w.kind.count p e ≡ true → NamesBehind w stored base (Came e ∷ p) m now → StoresFinalized w.header stored (Came e ∷ p)
      → TakesIn w stored_now counts m mid e → Along w stored_now provider mid now → EventBehind w stored base (Came e ∷ p) m now
  event-up e m mid now up quiet h on live names stores takes along =
      let taken : TakenBehind w stored base (Came e ∷ p) m mid =
      takes_in-up w laws stored base p stored_now stored_is counts m mid up quiet h e on live
      (names-taken w stored base (Came e ∷ p) m stored_now provider mid now (taken_in_marks w stored_now counts m mid e takes) along names) takes in
      event-behind w stored base (Came e ∷ p) m now
      (up-then w stored base (Came e ∷ p) m mid now (up-taken w stored base (Came e ∷ p) m mid taken)
      (along-up w stored base laws (after (Came e ∷ p) taken.more) stored_now
      (IsStoredNow-after stored (Came e ∷ p) stored_now stored_is taken.more taken.of_rules)
      provider runs_cost builds_cost (StoresFinalized-after w.header stored (Came e ∷ p) taken.more stores) mid now taken.stands
      along))
