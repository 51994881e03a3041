-- Marks are in their places after a whole event, but for a restart: it is taken in, and rules go one after another.
use Rattle.std.proofs.Common.{◌≡◌, ◌++◌, ◌∷◌, [], ℕ, true, List, Option, sym, ap, ◌∙◌, subst, append_assoc, append-nil}
use Rattle.std.proofs.lemmas.List.{append_cancel_left}
use Rattle.stateful_base.specs.Names.{Named}
use Rattle.stateful_db.specs.Laws.{Laws}
use Rattle.stateful_history.specs.Live.{names_live}
use Rattle.stateful_history.specs.Past.{Past, Came, EachMark, after}
use Rattle.stateful_history.specs.Stops.{IsRestart}
use Rattle.stateful_history.specs.Honest.{StoresFinalized}
use Rattle.stateful_history.specs.declared.event.Event.{Event}
use Rattle.stateful_history.specs.declared.mark.Mark.{Mark}
use Rattle.stateful_history.proofs.Marks.{after-append, EachMark-append}
use Rattle.stateful_exec_model.specs.Workings.{Workings}
use Rattle.stateful_exec_laws.specs.Building.{BuildsTakeTurns}
use Rattle.stateful_exec_laws.specs.Fronting.{RunsTakeTurns}
use Rattle.stateful_exec_laws.specs.Storing.{IsStoredNow}
use Rattle.stateful_loop_model.specs.Intake.{Counts, TakesIn}
use Rattle.stateful_loop_model.specs.Moments.{Moment}
use Rattle.stateful_loop_model.specs.Rules.{Quiet, Along, none, further}
use Rattle.stateful_loop_laws.specs.Behind.{UpBehind}
use Rattle.stateful_loop_laws.specs.Execution.{NamesBehind}
use Rattle.stateful_loop_laws.specs.Places.{IsInPlace, PlacesKept, PlacesBehind}
use Rattle.stateful_loop_laws.specs.Stands.{IsUpAt}
use Rattle.stateful_loop_laws.specs.TakenBehind.{TakenBehind}
use Rattle.stateful_loop_laws.proofs.events.AlongUp.{rule_is_up, along-up}
use Rattle.stateful_loop_laws.proofs.events.EventUp.{names-taken}
use Rattle.stateful_loop_laws.proofs.duly.MarksOfRules.{taken_in_marks}
use Rattle.stateful_loop_laws.proofs.places.Rules.{places-rule}
use Rattle.stateful_loop_laws.proofs.places.Taken.{places-takes_in}
use Rattle.stateful_loop_laws.proofs.events.RuleItems.{IsStoredNow-after}
use Rattle.stateful_loop_laws.proofs.events.TakenIn.{takes_in-up}
use Rattle.stateful_loop_laws.proofs.ways.Beside.{StoresFinalized-after}

module _ {B C I P R D H G U : Type 0} (w : Workings B C I P R D H G U) (stored : ℕ → Option (Named B)) (base : w.States) where
  -- marks are in their places behind none, and behind some and then others
  pub places-none : (p : Past B C I) (m : Moment w) → PlacesKept w stored p m → PlacesBehind w stored base p m m
  places-none p m k = record { more = []; marks_are = sym (append-nil m.marks); each = tt; kept = k }

  pub places-then : (p : Past B C I) (m mid now : Moment w) (more : List (Mark B)) → mid.marks ≡ m.marks ++ more
      → PlacesBehind w stored base p m mid → PlacesBehind w stored base (after p more) mid now → PlacesBehind w stored base p m now
  places-then p m mid now more is one two =
      let same : one.more ≡ more = append_cancel_left m.marks one.more more (sym one.marks_are ∙ is) in
      record {
        more = more ++ two.more;
        marks_are = two.marks_are ∙ ap (λ (ms : List (Mark B)). ms ++ two.more) is ∙ append_assoc m.marks more two.more;
        each = EachMark-append (IsInPlace w stored base) p more two.more
            (subst (λ (ms : List (Mark B)). EachMark (IsInPlace w stored base) p ms) same one.each) two.each;
        kept = subst (λ (q : Past B C I). PlacesKept w stored q now) (sym (after-append p more two.more)) two.kept;
      }

  module _ (laws : Laws w.kind) (p : Past B C I) (stored_now : ℕ → Option (Named B)) (stored_is : IsStoredNow stored p stored_now) (provider : P)
      (runs_cost : RunsTakeTurns w) (builds_cost : BuildsTakeTurns w) (stores : StoresFinalized w.header stored p) where
    -- Marks are in their places after rules, one after another.
    pub places-along : (m now : Moment w) → IsUpAt w stored base p m → PlacesKept w stored p m → Along w stored_now provider m now
        → PlacesBehind w stored base p m now
    places-along m _ h k none = places-none p m k
    places-along m now h k (further {mid = mid} along rule) =
        let up : UpBehind w stored base p m mid =
        along-up w stored base laws p stored_now stored_is provider runs_cost builds_cost stores m mid h along in
        let one : PlacesBehind w stored base p m mid = places-along m mid h k along in
        let same : one.more ≡ up.more = append_cancel_left m.marks one.more up.more (sym one.marks_are ∙ up.marks_are) in
        places-then p m mid now up.more up.marks_are one
        (places-rule w laws stored base (after p up.more) stored_now (IsStoredNow-after stored p stored_now stored_is up.more up.of_rules) mid now
        (up.up (rule_is_up w stored_now provider mid now rule))
        (subst (λ (ms : List (Mark B)). PlacesKept w stored (after p ms) mid) same one.kept) provider rule)

module _ {B C I P R D H G U : Type 0} (w : Workings B C I P R D H G U) (laws : Laws w.kind) (stored : ℕ → Option (Named B)) (base : w.States)
    (p : Past B C I) (stored_now : ℕ → Option (Named B)) (stored_is : IsStoredNow stored p stored_now) (counts : Counts R D H) (provider : P)
    (runs_cost : RunsTakeTurns w) (builds_cost : BuildsTakeTurns w) where
  -- The event is taken in, and rules go one after another: each mark is in its place, and what is kept for them is kept, be the machine
  -- up then or not.
  pub places-up : (e : Event B C I) (m mid now : Moment w) → m.loop.up ≡ true → Quiet w m → IsUpAt w stored base p m → PlacesKept w stored p m
      → (IsRestart e → ⊥) → names_live w.kind.count p e ≡ true → NamesBehind w stored base (Came e ∷ p) m now
      → StoresFinalized w.header stored (Came e ∷ p) → TakesIn w stored_now counts m mid e → Along w stored_now provider mid now
      → PlacesBehind w stored base (Came e ∷ p) m now
  places-up e m mid now up quiet h k on live names stores takes along =
      let names_mid : NamesBehind w stored base (Came e ∷ p) m mid =
      names-taken w stored base (Came e ∷ p) m stored_now provider mid now (taken_in_marks w stored_now counts m mid e takes) along names in
      let taken : TakenBehind w stored base (Came e ∷ p) m mid =
      takes_in-up w laws stored base p stored_now stored_is counts m mid up quiet h e on live names_mid takes in
      let one : PlacesBehind w stored base (Came e ∷ p) m mid =
      places-takes_in w laws stored base p stored_now counts m mid h k e on live names_mid takes in
      let same : one.more ≡ taken.more = append_cancel_left m.marks one.more taken.more (sym one.marks_are ∙ taken.marks_are) in
      places-then w stored base (Came e ∷ p) m mid now taken.more taken.marks_are one
      (places-along w stored base laws (after (Came e ∷ p) taken.more) stored_now
      (IsStoredNow-after stored (Came e ∷ p) stored_now stored_is taken.more taken.of_rules)
      provider runs_cost builds_cost (StoresFinalized-after w.header stored (Came e ∷ p) taken.more stores) mid now taken.stands
      (subst (λ (ms : List (Mark B)). PlacesKept w stored (after (Came e ∷ p) ms) mid) same one.kept) along)
