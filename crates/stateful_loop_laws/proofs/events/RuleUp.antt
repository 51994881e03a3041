-- A machine that is up stands after each rule of its loop.
use Rattle.std.proofs.Common.{◌≡◌, ◌++◌, ℕ, All, List, Option, MatchOption, sym, ◌∙◌, subst}
use Rattle.std.proofs.lemmas.List.{append_cancel_left}
use Rattle.stateful_base.specs.Names.{Named}
use Rattle.stateful_base.specs.declared.anchor.Anchor.{Anchor}
use Rattle.stateful_db.specs.Laws.{Laws}
use Rattle.stateful_durability.specs.Durability.{IsInOrder}
use Rattle.stateful_history.specs.Holding.{HoldsSince, Holds}
use Rattle.stateful_history.specs.Joined.{TrueIsEarned}
use Rattle.stateful_history.specs.Past.{Past, EachMark, after}
use Rattle.stateful_history.specs.Honest.{StoresFinalized}
use Rattle.stateful_history.specs.declared.mark.Mark.{Mark}
use Rattle.stateful_exec_model.specs.Workings.{Workings, Point}
use Rattle.stateful_exec_laws.specs.Building.{BuildsTakeTurns}
use Rattle.stateful_exec_laws.specs.Fronting.{RunsTakeTurns}
use Rattle.stateful_exec_laws.specs.Setting.{setting}
use Rattle.stateful_exec_laws.specs.Storing.{IsStoredNow}
use Rattle.stateful_loop_model.proofs.Sounding.{rule_sound}
use Rattle.stateful_loop_model.specs.Moments.{Moment}
use Rattle.stateful_loop_model.specs.Rules.{IsFinalizing, HasStates, AppliesBlock, Rule}
use Rattle.stateful_loop_model.specs.Sound.{Sound}
use Rattle.stateful_loop_model.specs.declared.tables.Finalizing.{Finalizing}
use Rattle.stateful_loop_laws.specs.Behind.{UpBehind}
use Rattle.stateful_loop_laws.specs.Checkpoints.{Keeping}
use Rattle.stateful_loop_laws.specs.Execution.{Executes, ExecutesBehind}
use Rattle.stateful_loop_laws.specs.RuleMarks.{IsOfRule, MarksBehind}
use Rattle.stateful_loop_laws.specs.Stands.{CapturedStands, IsUpAt}
use Rattle.stateful_loop_laws.specs.Tickets.{TicketsBehind}
use Rattle.stateful_loop_laws.specs.Ways.{WaysKept, WaysBehind}
use Rattle.stateful_loop_laws.proofs.execution.CapturedKept.{rule-captured}
use Rattle.stateful_loop_laws.proofs.execution.AnchorStands.{Executes-anchor, Executes-folded}
use Rattle.stateful_loop_laws.proofs.execution.Applies.{Executes-applies}
use Rattle.stateful_loop_laws.proofs.execution.Rules.{executes-rule}
use Rattle.stateful_loop_laws.proofs.loop.Applies.{ShowsStates}
use Rattle.stateful_loop_laws.proofs.loop.Rules.{DurablyBehind, DurablyBehind-rule}
use Rattle.stateful_loop_laws.proofs.duly.MarksOfRules.{rule_marks}
use Rattle.stateful_loop_laws.proofs.loop.OrderKept.{rule_order}
use Rattle.stateful_loop_laws.proofs.tickets.Kept.{rule-tickets}
use Rattle.stateful_loop_laws.proofs.tickets.Taken.{tickets_at}
use Rattle.stateful_loop_laws.proofs.ways.Rules.{WaysBehind-rule}

module _ {B C I P R D H G U : Type 0} (w : Workings B C I P R D H G U) (stored : ℕ → Option (Named B)) (base : w.States) (p : Past B C I)
    (m now : Moment w) where
  -- execution stands behind whatever marks were made, and true verdicts among them are earned
  pub executes_at : (more : List (Mark B)) → now.marks ≡ m.marks ++ more → ExecutesBehind w stored base p m now
      → Executes w stored base (after p more) now × EachMark (TrueIsEarned (setting w stored) base) p more
  executes_at more is b = subst
      (λ (marks : List (Mark B)). Executes w stored base (after p marks) now × EachMark (TrueIsEarned (setting w stored) base) p marks)
      (append_cancel_left m.marks b.more more (sym b.marks_are ∙ is)) (b.executes, b.earned)

  -- the ways are kept behind them
  pub ways_at : (more : List (Mark B)) → now.marks ≡ m.marks ++ more → WaysBehind w stored p m now
      → WaysKept w stored (after p more) now.execution.state
  ways_at more is b = subst (λ (marks : List (Mark B)). WaysKept w stored (after p marks) now.execution.state)
      (append_cancel_left m.marks b.more more (sym b.marks_are ∙ is)) b.kept

  -- the databases hold what they keep, where execution stands
  pub holds_at : (q : Past B C I) (first : Anchor) (origin : ℕ → ℕ) → Executes w stored base q now
      → Keeping (setting w stored) w.kind base q now.members now.execution.state.anchor first origin
      → Holds (setting w stored) w.kind base q now.members
  holds_at q first origin e k =
      subst (λ (o : Option Anchor). MatchOption o (Unit {0}) (λ a. HoldsSince (setting w stored) w.kind base q now.members a)) (sym k.opened)
      (record {
        point = e.point;
        here = e.located;
        state = Executes-folded w stored base q now e;
        origin = origin;
        keeps = k.keeps;
        durable = k.durable;
      })

  -- the parts stand behind the same marks
  pub up_behind : Sound w now → IsInOrder now.loop.durability → CapturedStands w now.loop.front → ExecutesBehind w stored base p m now
      → TicketsBehind w stored p m now → WaysBehind w stored p m now → MarksBehind w m now → DurablyBehind w stored base p m now → UpBehind w stored base p m now
  up_behind sound in_order captured executes tickets ways marks loop =
      let e = executes_at loop.more loop.marks_are executes in
      let t = tickets_at w stored p m now loop.more loop.marks_are tickets in
      record {
        more = loop.more;
        marks_are = loop.marks_are;
        of_rules = subst (λ (xs : List (Mark B)). All IsOfRule xs)
            (append_cancel_left m.marks marks.more loop.more (sym marks.marks_are ∙ loop.marks_are)) marks.each;
        earned = e.1;
        said = loop.said;
        up = λ up. record {
          sound = sound;
          in_order = in_order;
          executes = e.0;
          loop = loop.loop up;
          captured = captured;
          tickets = t;
          ways = ways_at loop.more loop.marks_are ways;
        };
        sound = sound;
        in_order = in_order;
        executes = e.0;
        tickets = t;
        holds = holds_at (after p loop.more) loop.first loop.origin e.0 loop.keeping;
        numbers = loop.numbers;
      }

module _ {B C I P R D H G U : Type 0} (w : Workings B C I P R D H G U) (laws : Laws w.kind) (stored : ℕ → Option (Named B)) (base : w.States)
    (p : Past B C I) (stored_now : ℕ → Option (Named B)) (stored_is : IsStoredNow stored p stored_now) (provider : P) (m now : Moment w)
    (h : IsUpAt w stored base p m) where
  -- where a block is applied, the batch shows the states that the block leads to
  shows : (f : Finalizing B G) → IsFinalizing w m f → HasStates w m f.block → (r : AppliesBlock w f m now)
      → ShowsStates w stored f.block r.batch h.executes.point
  shows f fin states r =
      let a = Executes-applies w laws stored base p m now f r h.executes fin states in
      let same : a.point ≡ h.executes.point = let here = h.executes.located in let there = a.located in cc in
      subst (λ (x : Point w). ShowsStates w stored f.block r.batch x) same
      (record { next = a.q; rest = a.rest; shows = a.shows; steps = a.matches.step })

  -- The machine stands after a rule, where the store has the finalized blocks that came, or none, at their heights.
  pub rule-up : RunsTakeTurns w → BuildsTakeTurns w → StoresFinalized w.header stored p → Rule w stored_now provider m now
      → UpBehind w stored base p m now
  rule-up runs_cost builds_cost stores rule =
      up_behind w stored base p m now (rule_sound w laws stored_now provider m now rule h.sound)
      (rule_order w stored_now provider m now h.sound rule h.in_order)
      (rule-captured w stored_now provider m now h.executes.point h.executes.located rule h.captured)
      (executes-rule w laws stored base p stored_now stored_is m now h runs_cost builds_cost provider rule)
      (rule-tickets w stored stored_now p base m h.executes h.tickets provider now rule)
      (WaysBehind-rule w laws stored stored_now base p m now h.sound h.executes h.tickets h.ways stored_is stores provider rule)
      (rule_marks w stored_now provider m now rule)
      (DurablyBehind-rule w stored base p laws m now h.sound h.in_order (Executes-anchor w stored base p m h.executes) h.executes.point
      h.executes.located (Executes-folded w stored base p m h.executes) h.loop stored_now provider shows rule)
