-- After a whole event, but for a restart, all that is live is in hand, and goes on.
use Rattle.std.proofs.Common.{◌≡◌, ◌++◌, ◌∷◌, [], ℕ, true, List, Option, sym, ap, ◌∙◌, subst, append_assoc, append-nil}
use Rattle.std.proofs.lemmas.List.{append_cancel_left}
use Rattle.stateful_base.specs.Names.{Named}
use Rattle.stateful_db.specs.Laws.{Laws}
use Rattle.stateful_history.specs.Live.{names_live}
use Rattle.stateful_history.specs.Past.{Past, Came, after}
use Rattle.stateful_history.specs.Stops.{IsRestart}
use Rattle.stateful_history.specs.Honest.{StoresFinalized}
use Rattle.stateful_history.specs.declared.event.Event.{Event}
use Rattle.stateful_history.specs.declared.mark.Mark.{Mark}
use Rattle.stateful_history.proofs.Marks.{after-append}
use Rattle.stateful_exec_model.specs.Workings.{Workings}
use Rattle.stateful_exec_laws.specs.Building.{BuildsTakeTurns}
use Rattle.stateful_exec_laws.specs.Fronting.{RunsTakeTurns}
use Rattle.stateful_exec_laws.specs.Storing.{IsStoredNow}
use Rattle.stateful_loop_model.specs.Intake.{Counts, TakesIn}
use Rattle.stateful_loop_model.specs.Moments.{Moment}
use Rattle.stateful_loop_model.specs.Rules.{Quiet, Rule, Along, none, further}
use Rattle.stateful_loop_laws.specs.Behind.{UpBehind}
use Rattle.stateful_loop_laws.specs.Execution.{NamesBehind}
use Rattle.stateful_loop_laws.specs.HandsBehind.{HandsBehind}
use Rattle.stateful_loop_laws.specs.InHand.{AllInHand, GoesOnAt}
use Rattle.stateful_loop_laws.specs.Stands.{IsUpAt}
use Rattle.stateful_loop_laws.specs.TakenBehind.{TakenBehind}
use Rattle.stateful_loop_laws.proofs.events.AlongUp.{rule_is_up, along-up}
use Rattle.stateful_loop_laws.proofs.events.EventUp.{names-taken}
use Rattle.stateful_loop_laws.proofs.carried.GoesRules.{goes-rule}
use Rattle.stateful_loop_laws.proofs.carried.GoesTakes.{goes-takes_in}
use Rattle.stateful_loop_laws.proofs.hands.Opened.{in_hand_at}
use Rattle.stateful_loop_laws.proofs.hands.Intake.{in_hand-takes_in}
use Rattle.stateful_loop_laws.proofs.hands.Takes.{in_hand-rule}
use Rattle.stateful_loop_laws.proofs.duly.MarksOfRules.{taken_in_marks}
use Rattle.stateful_loop_laws.proofs.events.RuleItems.{IsStoredNow-after}
use Rattle.stateful_loop_laws.proofs.events.RuleUp.{rule-up}
use Rattle.stateful_loop_laws.proofs.events.TakenIn.{takes_in-up}
use Rattle.stateful_loop_laws.proofs.ways.Beside.{StoresFinalized-after}

module _ {B C I P R D H G U : Type 0} (w : Workings B C I P R D H G U) (stored : ℕ → Option (Named B)) (base : w.States) where
  -- behind whatever marks were made
  pub hands_at : (p : Past B C I) (m now : Moment w) (more : List (Mark B)) → now.marks ≡ m.marks ++ more → HandsBehind w stored base p m now
      → AllInHand w (after p more) now × GoesOnAt w stored base (after p more) now
  hands_at p m now more is b = subst (λ (ms : List (Mark B)). AllInHand w (after p ms) now × GoesOnAt w stored base (after p ms) now)
      (append_cancel_left m.marks b.more more (sym b.marks_are ∙ is)) (b.hands, b.goes)

  -- after no mark
  pub hands_same : (p : Past B C I) (m : Moment w) → AllInHand w p m → GoesOnAt w stored base p m → HandsBehind w stored base p m m
  hands_same p m hands goes = record { more = []; marks_are = sym (append-nil m.marks); hands = hands; goes = goes }

  -- behind some marks, and then behind others
  pub hands_then : (p : Past B C I) (m mid now : Moment w) (more : List (Mark B)) → mid.marks ≡ m.marks ++ more
      → HandsBehind w stored base (after p more) mid now → HandsBehind w stored base p m now
  hands_then p m mid now more is b = record {
    more = more ++ b.more;
    marks_are = b.marks_are ∙ ap (λ (ms : List (Mark B)). ms ++ b.more) is ∙ append_assoc m.marks more b.more;
    hands = subst (λ (q : Past B C I). AllInHand w q now) (sym (after-append p more b.more)) b.hands;
    goes = subst (λ (q : Past B C I). GoesOnAt w stored base q now) (sym (after-append p more b.more)) b.goes;
  }

  module _ (laws : Laws w.kind) (stored_now : ℕ → Option (Named B)) (provider : P) (runs_cost : RunsTakeTurns w)
      (builds_cost : BuildsTakeTurns w) where
    -- after a rule
    pub hands-rule : (p : Past B C I) → IsStoredNow stored p stored_now → (m now : Moment w) → IsUpAt w stored base p m → AllInHand w p m
        → GoesOnAt w stored base p m → Rule w stored_now provider m now → UpBehind w stored base p m now → HandsBehind w stored base p m now
    hands-rule p stored_is m now h hands goes rule u = record {
      more = u.more;
      marks_are = u.marks_are;
      hands = in_hand_at w p m now u.more u.marks_are (in_hand-rule w p stored_now provider m now h.sound h.in_order hands rule);
      goes = goes-rule w stored base laws runs_cost p stored_now stored_is provider m now h goes rule u;
    }

    module _ (p : Past B C I) (stored_is : IsStoredNow stored p stored_now) (stores : StoresFinalized w.header stored p) where
      -- after rules, one after another
      pub hands-along : (m now : Moment w) → IsUpAt w stored base p m → AllInHand w p m → GoesOnAt w stored base p m
          → Along w stored_now provider m now → HandsBehind w stored base p m now
      hands-along m _ h hands goes none = hands_same p m hands goes
      hands-along m now h hands goes (further {mid = mid} along rule) =
          let one : UpBehind w stored base p m mid =
          along-up w stored base laws p stored_now stored_is provider runs_cost builds_cost stores m mid h along in
          let there : IsUpAt w stored base (after p one.more) mid = one.up (rule_is_up w stored_now provider mid now rule) in
          let before = hands_at p m mid one.more one.marks_are (hands-along m mid h hands goes along) in
          let is : IsStoredNow stored (after p one.more) stored_now = IsStoredNow-after stored p stored_now stored_is one.more one.of_rules in
          hands_then p m mid now one.more one.marks_are
          (hands-rule (after p one.more) is mid now there before.0 before.1 rule
          (rule-up w laws stored base (after p one.more) stored_now is provider mid now there
          runs_cost builds_cost (StoresFinalized-after w.header stored p one.more stores) rule))

module _ {B C I P R D H G U : Type 0} (w : Workings B C I P R D H G U) (laws : Laws w.kind) (stored : ℕ → Option (Named B)) (base : w.States)
    (p : Past B C I) (stored_now : ℕ → Option (Named B)) (stored_is : IsStoredNow stored p stored_now) (counts : Counts R D H) (provider : P)
    (runs_cost : RunsTakeTurns w) (builds_cost : BuildsTakeTurns w) where
  -- The event is taken in, and rules go one after another, where the store has the finalized blocks that came, or none, at their
  -- heights.
  pub hands-up : (e : Event B C I) (m mid now : Moment w) → m.loop.up ≡ true → Quiet w m → IsUpAt w stored base p m → AllInHand w p m
      → GoesOnAt w stored base p m → (IsRestart e → ⊥) → names_live w.kind.count p e ≡ true → NamesBehind w stored base (Came e ∷ p) m now
      → StoresFinalized w.header stored (Came e ∷ p) → TakesIn w stored_now counts m mid e → Along w stored_now provider mid now
      → HandsBehind w stored base (Came e ∷ p) m now
  hands-up e m mid now up quiet h hands goes on live names stores takes along =
      let taken : TakenBehind w stored base (Came e ∷ p) m mid =
      takes_in-up w laws stored base p stored_now stored_is counts m mid up quiet h e on live
      (names-taken w stored base (Came e ∷ p) m stored_now provider mid now (taken_in_marks w stored_now counts m mid e takes) along names) takes in
      hands_then w stored base (Came e ∷ p) m mid now taken.more taken.marks_are
      (hands-along w stored base laws stored_now provider runs_cost builds_cost (after (Came e ∷ p) taken.more)
      (IsStoredNow-after stored (Came e ∷ p) stored_now stored_is taken.more taken.of_rules)
      (StoresFinalized-after w.header stored (Came e ∷ p) taken.more stores) mid now taken.stands
      (in_hand_at w (Came e ∷ p) m mid taken.more taken.marks_are (in_hand-takes_in w p m hands stored_now counts e mid on takes))
      (goes-takes_in w stored base runs_cost p stored_now stored_is counts m mid h.executes goes w.kind.count e on live takes taken) along)
