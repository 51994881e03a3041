-- A machine that is up stands after rules of its loop, one after another.
use Rattle.std.proofs.Common.{◌≡◌, ◌≢◌, ◌<◌, ◌++◌, ℕ, [], true, None, List, Option, sym, ap, ◌∙◌, subst, append_assoc, append-nil}
use Rattle.std.proofs.lemmas.List.Elements.{All-nil, All-append}
use Rattle.stateful_base.specs.Names.{Named}
use Rattle.stateful_db.specs.Laws.{Laws}
use Rattle.stateful_history.specs.Barriers.{begun_over}
use Rattle.stateful_history.specs.Holding.{Holds}
use Rattle.stateful_history.specs.Joined.{TrueIsEarned}
use Rattle.stateful_history.specs.Past.{Past, after}
use Rattle.stateful_history.specs.Honest.{StoresFinalized}
use Rattle.stateful_history.specs.declared.mark.Mark.{Mark}
use Rattle.stateful_history.proofs.Marks.{after-append, EachMark-append}
use Rattle.stateful_exec_model.specs.Workings.{Workings}
use Rattle.stateful_exec_laws.specs.Building.{BuildsTakeTurns}
use Rattle.stateful_exec_laws.specs.Fronting.{RunsTakeTurns}
use Rattle.stateful_exec_laws.specs.Setting.{setting}
use Rattle.stateful_exec_laws.specs.Storing.{IsStoredNow}
use Rattle.stateful_loop_model.specs.Moments.{Moment}
use Rattle.stateful_loop_model.specs.Rules.{Rule, collects, puts_off, runs, applies, covers, observes, ends, breaks, completes, builds, takes, Along, none, further}
use Rattle.stateful_loop_laws.specs.Behind.{UpBehind}
use Rattle.stateful_loop_laws.specs.Durability.{IsDurablySaid}
use Rattle.stateful_loop_laws.specs.Execution.{Executes}
use Rattle.stateful_loop_laws.specs.RuleMarks.{IsOfRule}
use Rattle.stateful_loop_laws.specs.Stands.{IsUpAt}
use Rattle.stateful_loop_laws.specs.Tickets.{TicketsStand}
use Rattle.stateful_loop_laws.proofs.events.RuleItems.{IsStoredNow-after}
use Rattle.stateful_loop_laws.proofs.events.RuleUp.{holds_at, rule-up}
use Rattle.stateful_loop_laws.proofs.ways.Beside.{StoresFinalized-after}

module _ {B C I P R D H G U : Type 0} (w : Workings B C I P R D H G U) where
  -- a rule goes where the machine is up
  pub rule_is_up : (stored : ℕ → Option (Named B)) (provider : P) (m now : Moment w) → Rule w stored provider m now → m.loop.up ≡ true
  rule_is_up stored provider m now (collects up r) = up
  rule_is_up stored provider m now (Rule.schedules collected building is verifies r) = collected.0
  rule_is_up stored provider m now (puts_off collected building is other e) = collected.0
  rule_is_up stored provider m now (runs fin begun awaits unknown r) = fin.0.0
  rule_is_up stored provider m now (applies fin captured states r) = fin.0.0
  rule_is_up stored provider m now (covers fin advanced captured needed r) = fin.0.0
  rule_is_up stored provider m now (observes fin advanced is covered r) = fin.0.0
  rule_is_up stored provider m now (ends fin advanced captured r) = fin.0.0
  rule_is_up stored provider m now (breaks idle is e) = idle.0.0
  rule_is_up stored provider m now (completes idle unbroken done r) = idle.0.0
  rule_is_up stored provider m now (Rule.begins idle unbroken undone needed r) = idle.0.0
  rule_is_up stored provider m now (builds calm is r) = calm.0.0.0
  rule_is_up stored provider m now (takes calm take does) = calm.0.0.0

module _ {B C I P R D H G U : Type 0} (w : Workings B C I P R D H G U) (stored : ℕ → Option (Named B)) (base : w.States) where
  -- what stands stands after no mark
  pub up-same : (p : Past B C I) (m : Moment w) → IsUpAt w stored base p m → UpBehind w stored base p m m
  up-same p m h = record {
    more = [];
    marks_are = sym (append-nil m.marks);
    of_rules = All-nil (λ x. IsOfRule x);
    earned = tt;
    said = tt;
    up = λ up. h;
    sound = h.sound;
    in_order = h.in_order;
    executes = h.executes;
    tickets = h.tickets;
    holds = holds_at w stored base p m m p h.loop.first h.loop.origin h.executes h.loop.keeping;
    numbers = h.loop.barriers.numbers;
  }

  -- what stands behind some marks, and then behind others
  pub up-then : (p : Past B C I) (m mid now : Moment w) (one : UpBehind w stored base p m mid) → UpBehind w stored base (after p one.more) mid now
      → UpBehind w stored base p m now
  up-then p m mid now one two =
      let both : after p (one.more ++ two.more) ≡ after (after p one.more) two.more = after-append p one.more two.more in
      record {
        more = one.more ++ two.more;
        marks_are = two.marks_are ∙ ap (λ ms. ms ++ two.more) one.marks_are ∙ append_assoc m.marks one.more two.more;
        of_rules = All-append (λ x. IsOfRule x) one.more two.more one.of_rules two.of_rules;
        earned = EachMark-append (TrueIsEarned (setting w stored) base) p one.more two.more one.earned two.earned;
        said = EachMark-append (IsDurablySaid w) p one.more two.more one.said two.said;
        up = λ up. subst (λ q. IsUpAt w stored base q now) (sym both) (two.up up);
        sound = two.sound;
        in_order = two.in_order;
        executes = subst (λ q. Executes w stored base q now) (sym both) two.executes;
        tickets = subst (λ q. TicketsStand w stored q now) (sym both) two.tickets;
        holds = subst (λ q. Holds (setting w stored) w.kind base q now.members) (sym both) two.holds;
        numbers = subst (λ q. (k : ℕ) → begun_over k q ≢ None → k < now.loop.next_barrier) (sym both) two.numbers;
      }

  module _ (laws : Laws w.kind) (p : Past B C I) (stored_now : ℕ → Option (Named B)) (stored_is : IsStoredNow stored p stored_now) (provider : P)
      (runs_cost : RunsTakeTurns w) (builds_cost : BuildsTakeTurns w) (stores : StoresFinalized w.header stored p) where
    -- The machine stands after rules, one after another.
    pub along-up : (m now : Moment w) → IsUpAt w stored base p m → Along w stored_now provider m now → UpBehind w stored base p m now
    along-up m _ h none = up-same p m h
    along-up m now h (further {mid = mid} along rule) =
        let one : UpBehind w stored base p m mid = along-up m mid h along in
        let there : IsUpAt w stored base (after p one.more) mid = one.up (rule_is_up w stored_now provider mid now rule) in
        up-then p m mid now one (rule-up w laws stored base (after p one.more) stored_now
        (IsStoredNow-after stored p stored_now stored_is one.more one.of_rules) provider mid now there
        runs_cost builds_cost (StoresFinalized-after w.header stored p one.more stores) rule)
