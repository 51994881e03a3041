-- After every event that is taken in by a machine that is up, but for a restart, all that stood stands.
use Rattle.std.proofs.Common.{◌≡◌, ◌&&◌, ◌∷◌, [], ℕ, Bool, true, false, not, List, Option, refl, sym, ◌∙◌, subst}
use Rattle.std.proofs.lemmas.List.{append_cancel_left}
use Rattle.stateful_base.specs.Names.{Named}
use Rattle.stateful_db.specs.Laws.{Laws}
use Rattle.stateful_durability.specs.Durability.{IsInOrder}
use Rattle.stateful_history.specs.Joined.{TrueIsEarned}
use Rattle.stateful_history.specs.Live.{names_live, may_come}
use Rattle.stateful_history.specs.Opening.{is_down}
use Rattle.stateful_history.specs.Past.{Past, Came, EachMark, after}
use Rattle.stateful_history.specs.Stops.{IsRestart}
use Rattle.stateful_history.specs.declared.event.Event.{Event}
use Rattle.stateful_history.specs.declared.event.Event.TheVariants as event
use Rattle.stateful_history.specs.declared.mark.Mark.{Mark}
use Rattle.stateful_exec_model.specs.Workings.{Workings}
use Rattle.stateful_exec_laws.specs.Setting.{setting}
use Rattle.stateful_exec_laws.specs.Storing.{IsStoredNow}
use Rattle.stateful_loop_model.proofs.SoundingIntake.{taken_in_sound}
use Rattle.stateful_loop_model.specs.Intake.{Counts, TakesIn}
use Rattle.stateful_loop_model.specs.Moments.{Moment}
use Rattle.stateful_loop_model.specs.Rules.{Quiet, collect}
use Rattle.stateful_loop_model.specs.Sound.{Sound, IsUp}
use Rattle.stateful_loop_laws.specs.Durability.{IsDurablySaid, LoopBehind}
use Rattle.stateful_loop_laws.specs.Execution.{Executes, NamesBehind, ExecutesBehind}
use Rattle.stateful_loop_laws.specs.RuleMarks.{MarksBehind}
use Rattle.stateful_loop_laws.specs.Stands.{CapturedStands, LoopStands, IsUpAt}
use Rattle.stateful_loop_laws.specs.TakenBehind.{TakenBehind}
use Rattle.stateful_loop_laws.specs.Tickets.{TicketsStand, TicketsBehind}
use Rattle.stateful_loop_laws.specs.Ways.{WaysKept, WaysBehind}
use Rattle.stateful_loop_laws.proofs.execution.CapturedKept.{taken_in-captured}
use Rattle.stateful_loop_laws.proofs.execution.Taken.{Executes-taken}
use Rattle.stateful_loop_laws.proofs.loop.Intake.{LoopBehind-takes_in}
use Rattle.stateful_loop_laws.proofs.duly.MarksOfRules.{taken_in_marks}
use Rattle.stateful_loop_laws.proofs.events.NamesBehind.{NamesBehind-before}
use Rattle.stateful_loop_laws.proofs.loop.OrderTaken.{taken_in_order}
use Rattle.stateful_loop_laws.proofs.tickets.Intake.{takes_in-tickets}
use Rattle.stateful_loop_laws.proofs.ways.Intake.{WaysBehind-takes_in}

second_of : (a b : Bool) → (a && b) ≡ true → b ≡ true
second_of true b e = e
second_of false b e = cc

-- an event that may come, and is no restart, names what is live
pub may_come-live : {B C I : Type 0} (count : ℕ) (p : Past B C I) (e : Event B C I) → (IsRestart e → ⊥) → may_come count p e ≡ true
    → names_live count p e ≡ true
may_come-live count p (event.Restart floor keep) on may = absurd (on tt)
may_come-live count p e on may = second_of (not (is_down p)) (names_live count p e) may

module _ {B C I P R D H G U : Type 0} (w : Workings B C I P R D H G U) where
  -- where nothing can go on without another event, no recovered proposal waits
  pub quiet-bare : (m : Moment w) → m.loop.up ≡ true → Quiet w m → m.execution.state.recovered ≡ []
  quiet-bare m up quiet = go m.execution.state.recovered refl
    where
      go : (l : List ℕ) → m.execution.state.recovered ≡ l → l ≡ []
      go [] is = refl
      go (t ∷ l) is = absurd (quiet (collect up (λ none. let no : t ∷ l ≡ [] = sym is ∙ none in cc)))

module _ {B C I P R D H G U : Type 0} (w : Workings B C I P R D H G U) (stored : ℕ → Option (Named B)) (base : w.States) (q : Past B C I)
    (m now : Moment w) where
  -- What stands after the event is put together of what stands of execution, of the loop, of what waits and of the ways.
  pub TakenBehind-of : Sound w now → IsInOrder now.loop.durability → CapturedStands w now.loop.front → MarksBehind w m now → ExecutesBehind w stored base q m now
      → LoopBehind w stored base q m now → TicketsBehind w stored q m now → WaysBehind w stored q m now → TakenBehind w stored base q m now
  TakenBehind-of sound in_order captured made x l t k =
      let by_execution : x.more ≡ made.more = append_cancel_left m.marks x.more made.more (sym x.marks_are ∙ made.marks_are) in
      let by_loop : l.more ≡ made.more = append_cancel_left m.marks l.more made.more (sym l.marks_are ∙ made.marks_are) in
      let by_tickets : t.more ≡ made.more = append_cancel_left m.marks t.more made.more (sym t.marks_are ∙ made.marks_are) in
      let by_ways : k.more ≡ made.more = append_cancel_left m.marks k.more made.more (sym k.marks_are ∙ made.marks_are) in
      record {
        more = made.more;
        marks_are = made.marks_are;
        of_rules = made.each;
        stands = record {
          sound = sound;
          in_order = in_order;
          executes = subst (λ (marks : List (Mark B)). Executes w stored base (after q marks) now) by_execution x.executes;
          loop = subst (λ (marks : List (Mark B)). LoopStands w stored base (after q marks) now) by_loop l.loop;
          captured = captured;
          tickets = subst (λ (marks : List (Mark B)). TicketsStand w stored (after q marks) now) by_tickets t.tickets;
          ways = subst (λ (marks : List (Mark B)). WaysKept w stored (after q marks) now.execution.state) by_ways k.kept;
        };
        earned = subst (λ (marks : List (Mark B)). EachMark (TrueIsEarned (setting w stored) base) q marks) by_execution x.earned;
        said = subst (λ (marks : List (Mark B)). EachMark (IsDurablySaid w) q marks) by_loop l.said;
      }

module _ {B C I P R D H G U : Type 0} (w : Workings B C I P R D H G U) (laws : Laws w.kind) (stored : ℕ → Option (Named B)) (base : w.States)
    (p : Past B C I) (stored_now : ℕ → Option (Named B)) (stored_is : IsStoredNow stored p stored_now) (counts : Counts R D H)
    (m now : Moment w) where
  -- An event that names what is live is taken in by a machine that is up, and at which nothing could go on without it.
  pub takes_in-up : m.loop.up ≡ true → Quiet w m → IsUpAt w stored base p m → (e : Event B C I) → (IsRestart e → ⊥)
      → names_live w.kind.count p e ≡ true → NamesBehind w stored base (Came e ∷ p) m now → TakesIn w stored_now counts m now e
      → TakenBehind w stored base (Came e ∷ p) m now
  takes_in-up up quiet h e on live names takes =
      let u : IsUp w m = h.sound.up up in
      let made : MarksBehind w m now = taken_in_marks w stored_now counts m now e takes in
      TakenBehind-of w stored base (Came e ∷ p) m now
      (taken_in_sound w laws stored_now counts m now e takes u)
      (taken_in_order w stored_now counts e m now takes h.in_order)
      (taken_in-captured w stored_now counts e m now takes h.captured)
      made
      (Executes-taken w laws stored base p stored_now stored_is w.kind.count counts m now h.executes h.ways e on live names takes)
      (LoopBehind-takes_in w stored base p m now h.loop laws u stored_now counts e on takes)
      (takes_in-tickets w stored base p m h.executes h.tickets (quiet-bare w m up quiet) stored_now w.kind.count counts e now on live takes)
      (WaysBehind-takes_in w laws stored base p m now h.executes h.ways stored_now counts e on
      (NamesBehind-before w stored base (Came e ∷ p) m now made.more made.marks_are names) takes)
