-- A whole cancel cancels no run for which another live request waits, as long as the machine doesn't stop.
use Rattle.std.proofs.Common.{◌≡◌, ◌++◌, ◌∷◌, [], inl, inr, ℕ, true, List, Option, sym, ap, ◌∙◌, subst}
use Rattle.std.specs.List.{Contains}
use Rattle.std.proofs.lemmas.List.{append_cancel_left}
use Rattle.std.proofs.lemmas.List.Elements.{All-weaker, All-contains_itself, Contains-append_right}
use Rattle.stateful_base.specs.Names.{Named}
use Rattle.stateful_db.specs.Laws.{Laws}
use Rattle.stateful_history.specs.Live.{names_live}
use Rattle.stateful_history.specs.Past.{Past, Came, EachMark, after}
use Rattle.stateful_history.specs.Prunes.{PruneRule}
use Rattle.stateful_history.specs.Runs.{CancelledHasCause}
use Rattle.stateful_history.specs.Shared.{SharedRunGoesOn}
use Rattle.stateful_history.specs.Stops.{IsStopped}
use Rattle.stateful_history.specs.Honest.{StoresFinalized}
use Rattle.stateful_history.specs.declared.event.Event.{Event}
use Rattle.stateful_history.specs.declared.event.Event.TheVariants.{Cancel, Progress}
use Rattle.stateful_history.specs.declared.mark.How.TheVariants.{Cancelled}
use Rattle.stateful_history.specs.declared.mark.Mark.{Mark}
use Rattle.stateful_history.specs.declared.mark.Mark.TheVariants.{Ended}
use Rattle.stateful_history.proofs.Marks.{EachMark-append}
use Rattle.stateful_exec_model.specs.Workings.{Workings}
use Rattle.stateful_exec_laws.specs.Building.{BuildsTakeTurns}
use Rattle.stateful_exec_laws.specs.Fronting.{RunsTakeTurns}
use Rattle.stateful_exec_laws.specs.Setting.{setting}
use Rattle.stateful_exec_laws.specs.Storing.{IsStoredNow}
use Rattle.stateful_loop_model.specs.Intake as intake
use Rattle.stateful_loop_model.specs.Intake.{Counts, TakesIn, enters, cancels}
use Rattle.stateful_loop_model.specs.Moments.{Moment}
use Rattle.stateful_loop_model.specs.Rules.{Quiet, Along}
use Rattle.stateful_loop_laws.specs.Duly.{AreAmong, IsDulySaid, DulyBehind}
use Rattle.stateful_loop_laws.specs.Execution.{NamesBehind}
use Rattle.stateful_loop_laws.specs.InHand.{VerifiedApart, AllInHand, GoesOnAt}
use Rattle.stateful_loop_laws.specs.Places.{PlacesKept, PlacesBehind}
use Rattle.stateful_loop_laws.specs.Stands.{IsUpAt}
use Rattle.stateful_loop_laws.specs.TakenBehind.{TakenBehind}
use Rattle.stateful_loop_laws.proofs.duly.Along.{duly-along}
use Rattle.stateful_loop_laws.proofs.barriers.DurablySaid.{EachMark-weaker}
use Rattle.stateful_loop_laws.proofs.events.EventUp.{names-taken}
use Rattle.stateful_loop_laws.proofs.duly.MarksOfRules.{taken_in_marks}
use Rattle.stateful_loop_laws.proofs.places.Taken.{places-takes_in}
use Rattle.stateful_loop_laws.proofs.events.RuleItems.{IsStoredNow-after}
use Rattle.stateful_loop_laws.proofs.duly.SharedTaken.{shared-cancels}
use Rattle.stateful_loop_laws.proofs.events.TakenIn.{takes_in-up}
use Rattle.stateful_loop_laws.proofs.ways.Beside.{StoresFinalized-after}

-- the event is a cancel
abbrev pub IsCancel : {B C I : Type 0} → Event B C I → Type 0
IsCancel (Cancel t) = Unit {0}
IsCancel event = ⊥

module _ {B C I P R D H G U : Type 0} (w : Workings B C I P R D H G U) (stored : ℕ → Option (Named B)) (base : w.States)
    (x event : Event B C I) (other : IsCancel x → ⊥) (all : List (Mark B)) (stops : IsStopped x all → IsStopped event all)
    (rule : Option (PruneRule w.Targets)) where
  -- What is said duly in an entry that is of no cancel cancels no run, unless the machine stops or starts.
  pub shared-said : (p : Past B C I) (mark : Mark B) → IsDulySaid w stored base x all p mark → SharedRunGoesOn (setting w stored) rule event all p mark
  shared-said p (Ended j Cancelled) said = go said.3
    where
      go : CancelledHasCause (setting w stored) x all p (Ended j Cancelled) → SharedRunGoesOn (setting w stored) rule event all p (Ended j Cancelled)
      go (inl cause) = absurd (other (subst (λ (v : Event B C I). IsCancel v) (sym cause.1) tt))
      go (inr stopped) = inr (stops stopped)
  shared-said p mark said = tt

module _ {B C I P R D H G U : Type 0} (w : Workings B C I P R D H G U) (laws : Laws w.kind) (stored : ℕ → Option (Named B)) (base : w.States)
    (p : Past B C I) (stored_now : ℕ → Option (Named B)) (stored_is : IsStoredNow stored p stored_now) (counts : Counts R D H) (provider : P)
    (runs_cost : RunsTakeTurns w) (builds_cost : BuildsTakeTurns w) (rule : Option (PruneRule w.Targets)) (t : ℕ) where
  abbrev given : Past B C I
  given = Came (Cancel t) ∷ p

  -- how a cancel is taken in
  cancel_of : (m mid : Moment w) → TakesIn w stored_now counts m mid (Cancel t) → intake.Cancels w t m mid
  cancel_of m mid (enters is becomes) = cc
  cancel_of m mid (cancels c) = c

  abbrev cancel : Event B C I
  cancel = Cancel t

  -- an event that neither cancels nor stops
  abbrev plain : Event B C I
  plain = Progress 0

  -- where the machine stops in an entry of that one, so it does in one of the cancel
  stops : (all : List (Mark B)) → IsStopped plain all → IsStopped cancel all
  stops all (inl is) = cc
  stops all (inr (inl restart)) = absurd restart
  stops all (inr (inr has)) = inr (inr has)

  -- The cancel is taken in, and rules go one after another.
  pub shared-up : (m mid now : Moment w) → m.marks ≡ [] → m.loop.up ≡ true → Quiet w m → IsUpAt w stored base p m → PlacesKept w stored p m
      → VerifiedApart p → GoesOnAt w stored base p m → AllInHand w p m
      → names_live w.kind.count p (Cancel t) ≡ true → NamesBehind w stored base (Came (Cancel t) ∷ p) m now
      → StoresFinalized w.header stored (Came (Cancel t) ∷ p) → TakesIn w stored_now counts m mid (Cancel t) → Along w stored_now provider mid now
      → EachMark (SharedRunGoesOn (setting w stored) rule (Cancel t) now.marks) (Came (Cancel t) ∷ p) now.marks
  shared-up m mid now bare up quiet h k apart goes hands live names stores takes along =
      let names_mid : NamesBehind w stored base given m mid =
      names-taken w stored base given m stored_now provider mid now (taken_in_marks w stored_now counts m mid (Cancel t) takes) along names in
      let taken : TakenBehind w stored base given m mid =
      takes_in-up w laws stored base p stored_now stored_is counts m mid up quiet h (Cancel t) (λ no. no) live names_mid takes in
      let placed : PlacesBehind w stored base given m mid =
      places-takes_in w laws stored base p stored_now counts m mid h k (Cancel t) (λ no. no) live names_mid takes in
      let same : placed.more ≡ taken.more = append_cancel_left m.marks placed.more taken.more (sym placed.marks_are ∙ taken.marks_are) in
      let then : DulyBehind w stored base plain (after given taken.more) mid now =
      duly-along w laws stored base plain (after given taken.more) stored_now
      (IsStoredNow-after stored given stored_now stored_is taken.more taken.of_rules)
      provider runs_cost builds_cost (StoresFinalized-after w.header stored given taken.more stores) mid now taken.stands
      (subst (λ (ms : List (Mark B)). PlacesKept w stored (after given ms) mid) same placed.kept) along in
      let c : intake.Cancels w t m mid = cancel_of m mid takes in
      let first : taken.more ≡ c.marks =
      append_cancel_left m.marks taken.more c.marks (sym taken.marks_are ∙ ap (λ (n : Moment w). n.marks) c.becomes) in
      let all_are : now.marks ≡ taken.more ++ then.more =
      then.marks_are ∙ ap (λ (ms : List (Mark B)). ms ++ then.more) (taken.marks_are ∙ ap (λ (ms : List (Mark B)). ms ++ taken.more) bare) in
      let among : AreAmong now.marks then.more =
      All-weaker (Contains then.more) (Contains now.marks)
      (λ mark has. subst (λ (ms : List (Mark B)). Contains ms mark) (sym all_are) (Contains-append_right taken.more then.more mark has))
      then.more (All-contains_itself then.more) in
      subst (λ (ms : List (Mark B)). EachMark (SharedRunGoesOn (setting w stored) rule (Cancel t) now.marks) given ms) (sym all_are)
      (EachMark-append (SharedRunGoesOn (setting w stored) rule (Cancel t) now.marks) given taken.more then.more
      (subst (λ (ms : List (Mark B)). EachMark (SharedRunGoesOn (setting w stored) rule (Cancel t) now.marks) given ms) (sym first)
      (shared-cancels w stored base p m up quiet h apart goes hands rule t now.marks mid c))
      (EachMark-weaker (IsDulySaid w stored base plain now.marks) (SharedRunGoesOn (setting w stored) rule (Cancel t) now.marks)
      (shared-said w stored base plain cancel (λ no. no) now.marks (stops now.marks) rule)
      (after given taken.more) then.more (then.each now.marks among)))
