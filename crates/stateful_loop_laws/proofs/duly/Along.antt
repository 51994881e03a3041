-- Marks of jobs, answers to builds, withdrawn fetches and finalizations keep their rules after a whole event, but for a restart.
use Rattle.std.proofs.Common.{◌≡◌, ◌∷◌, ℕ, true, List, Option, refl, sym, ◌∙◌, subst}
use Rattle.std.proofs.lemmas.List.{append_cancel_left}
use Rattle.stateful_base.specs.Names.{Named}
use Rattle.stateful_db.specs.Laws.{Laws}
use Rattle.stateful_history.specs.Live.{names_live}
use Rattle.stateful_history.specs.Past.{Past, Came, after}
use Rattle.stateful_history.specs.Stops.{IsRestart}
use Rattle.stateful_history.specs.Honest.{StoresFinalized}
use Rattle.stateful_history.specs.declared.event.Event.{Event}
use Rattle.stateful_history.specs.declared.mark.Mark.{Mark}
use Rattle.stateful_exec_model.specs.Workings.{Workings}
use Rattle.stateful_exec_laws.specs.Building.{BuildsTakeTurns}
use Rattle.stateful_exec_laws.specs.Fronting.{RunsTakeTurns}
use Rattle.stateful_exec_laws.specs.Storing.{IsStoredNow}
use Rattle.stateful_loop_model.specs.Intake.{Counts, TakesIn}
use Rattle.stateful_loop_model.specs.Moments.{Moment}
use Rattle.stateful_loop_model.specs.Rules.{Quiet, Along, none, further}
use Rattle.stateful_loop_laws.specs.Behind.{UpBehind}
use Rattle.stateful_loop_laws.specs.Duly.{DulyBehind}
use Rattle.stateful_loop_laws.specs.Execution.{NamesBehind}
use Rattle.stateful_loop_laws.specs.Places.{PlacesKept, PlacesBehind}
use Rattle.stateful_loop_laws.specs.Stands.{IsUpAt}
use Rattle.stateful_loop_laws.specs.TakenBehind.{TakenBehind}
use Rattle.stateful_loop_laws.proofs.events.AlongUp.{rule_is_up, along-up}
use Rattle.stateful_loop_laws.proofs.duly.Rules.{duly-rule}
use Rattle.stateful_loop_laws.proofs.duly.Taken.{duly-takes_in}
use Rattle.stateful_loop_laws.proofs.events.EventUp.{names-taken}
use Rattle.stateful_loop_laws.proofs.duly.MarksOfRules.{taken_in_marks}
use Rattle.stateful_loop_laws.proofs.places.Along.{places-along}
use Rattle.stateful_loop_laws.proofs.places.Taken.{places-takes_in}
use Rattle.stateful_loop_laws.proofs.events.RuleItems.{IsStoredNow-after}
use Rattle.stateful_loop_laws.proofs.events.TakenIn.{takes_in-up}
use Rattle.stateful_loop_laws.proofs.duly.Unruled.{duly-none, duly-then}
use Rattle.stateful_loop_laws.proofs.ways.Beside.{StoresFinalized-after}

module _ {B C I P R D H G U : Type 0} (w : Workings B C I P R D H G U) (laws : Laws w.kind) (stored : ℕ → Option (Named B)) (base : w.States)
    (event : Event B C I) (p : Past B C I) (stored_now : ℕ → Option (Named B)) (stored_is : IsStoredNow stored p stored_now) (provider : P)
    (runs_cost : RunsTakeTurns w) (builds_cost : BuildsTakeTurns w) (stores : StoresFinalized w.header stored p) where
  -- All is said duly after rules, one after another.
  pub duly-along : (m now : Moment w) → IsUpAt w stored base p m → PlacesKept w stored p m → Along w stored_now provider m now
      → DulyBehind w stored base event p m now
  duly-along m _ h k none = duly-none w stored base event p m m refl
  duly-along m now h k (further {mid = mid} along rule) =
      let one : DulyBehind w stored base event p m mid = duly-along m mid h k along in
      let up : UpBehind w stored base p m mid =
      along-up w stored base laws p stored_now stored_is provider runs_cost builds_cost stores m mid h along in
      let placed : PlacesBehind w stored base p m mid =
      places-along w stored base laws p stored_now stored_is provider runs_cost builds_cost stores m mid h k along in
      let up_same : up.more ≡ one.more = append_cancel_left m.marks up.more one.more (sym up.marks_are ∙ one.marks_are) in
      let placed_same : placed.more ≡ one.more = append_cancel_left m.marks placed.more one.more (sym placed.marks_are ∙ one.marks_are) in
      duly-then w stored base event p m mid now one
      (duly-rule w stored base event (after p one.more) stored_now mid now
      (subst (λ (ms : List (Mark B)). IsUpAt w stored base (after p ms) mid) up_same (up.up (rule_is_up w stored_now provider mid now rule)))
      (subst (λ (ms : List (Mark B)). PlacesKept w stored (after p ms) mid) placed_same placed.kept) provider rule)

module _ {B C I P R D H G U : Type 0} (w : Workings B C I P R D H G U) (laws : Laws w.kind) (stored : ℕ → Option (Named B)) (base : w.States)
    (p : Past B C I) (stored_now : ℕ → Option (Named B)) (stored_is : IsStoredNow stored p stored_now) (counts : Counts R D H) (provider : P)
    (runs_cost : RunsTakeTurns w) (builds_cost : BuildsTakeTurns w) where
  -- The event is taken in, and rules go one after another: all is said duly.
  pub duly-up : (e : Event B C I) (m mid now : Moment w) → m.loop.up ≡ true → Quiet w m → IsUpAt w stored base p m → PlacesKept w stored p m
      → (IsRestart e → ⊥) → names_live w.kind.count p e ≡ true → NamesBehind w stored base (Came e ∷ p) m now
      → StoresFinalized w.header stored (Came e ∷ p) → TakesIn w stored_now counts m mid e → Along w stored_now provider mid now
      → DulyBehind w stored base e (Came e ∷ p) m now
  duly-up e m mid now up quiet h k on live names stores takes along =
      let names_mid : NamesBehind w stored base (Came e ∷ p) m mid =
      names-taken w stored base (Came e ∷ p) m stored_now provider mid now (taken_in_marks w stored_now counts m mid e takes) along names in
      let taken : TakenBehind w stored base (Came e ∷ p) m mid =
      takes_in-up w laws stored base p stored_now stored_is counts m mid up quiet h e on live names_mid takes in
      let placed : PlacesBehind w stored base (Came e ∷ p) m mid =
      places-takes_in w laws stored base p stored_now counts m mid h k e on live names_mid takes in
      let one : DulyBehind w stored base e (Came e ∷ p) m mid =
      duly-takes_in w stored base p m h.executes k.past.orderly.apart stored_now counts mid e on takes in
      let taken_same : taken.more ≡ one.more = append_cancel_left m.marks taken.more one.more (sym taken.marks_are ∙ one.marks_are) in
      let placed_same : placed.more ≡ taken.more = append_cancel_left m.marks placed.more taken.more (sym placed.marks_are ∙ taken.marks_are) in
      duly-then w stored base e (Came e ∷ p) m mid now one
      (subst (λ (ms : List (Mark B)). DulyBehind w stored base e (after (Came e ∷ p) ms) mid now) taken_same
      (duly-along w laws stored base e (after (Came e ∷ p) taken.more) stored_now
      (IsStoredNow-after stored (Came e ∷ p) stored_now stored_is taken.more taken.of_rules)
      provider runs_cost builds_cost (StoresFinalized-after w.header stored (Came e ∷ p) taken.more stores) mid now taken.stands
      (subst (λ (ms : List (Mark B)). PlacesKept w stored (after (Came e ∷ p) ms) mid) placed_same placed.kept) along))
