-- What stands after a rule of the loop of a machine that was up.
use Rattle.std.specs.Prelude.{◌≡◌, ◌≢◌, ◌<◌, ℕ, true, Option, None, List, ◌++◌, All}
use Rattle.stateful_base.specs.Names.{Named}
use Rattle.stateful_durability.specs.Durability.{IsInOrder}
use Rattle.stateful_history.specs.Barriers.{begun_over}
use Rattle.stateful_history.specs.Holding.{Holds}
use Rattle.stateful_history.specs.Joined.{TrueIsEarned}
use Rattle.stateful_history.specs.Past.{Past, EachMark, after}
use Rattle.stateful_history.specs.declared.mark.Mark.{Mark}
use Rattle.stateful_exec_model.specs.Workings.{Workings}
use Rattle.stateful_exec_laws.specs.Setting.{setting}
use Rattle.stateful_loop_laws.specs.Durability.{IsDurablySaid}
use Rattle.stateful_loop_laws.specs.Execution.{Executes}
use Rattle.stateful_loop_laws.specs.RuleMarks.{IsOfRule}
use Rattle.stateful_loop_laws.specs.Stands.{IsUpAt}
use Rattle.stateful_loop_laws.specs.Tickets.{TicketsStand}
use Rattle.stateful_loop_model.specs.Moments.{Moment}
use Rattle.stateful_loop_model.specs.Sound.{Sound}

module _ {B C I P R D H G U : Type 0} (w : Workings B C I P R D H G U)
    (stored : ℕ → Option (Named B))
    (base : w.States) (p : Past B C I) (m now : Moment w) where
  -- From one moment to a later one some marks are made, all of them marks of rules. True verdicts
  -- among them are earned, and those of barriers and acknowledgements keep their rules. Where the
  -- machine is up it stands for the past with them. Be it up, or taken down by a broken barrier,
  -- execution and what waits stand, heights and receipts are in order, the databases hold what was
  -- applied, and each barrier so far has a number below the next one.
  pub record UpBehind : Type 0 where
    pub more : List (Mark B)
    pub marks_are : now.marks ≡ m.marks ++ more
    pub of_rules : All IsOfRule more
    pub earned : EachMark (TrueIsEarned (setting w stored) base) p more
    pub said : EachMark (IsDurablySaid w) p more
    pub up : now.loop.up ≡ true → IsUpAt w stored base (after p more) now
    pub sound : Sound w now
    pub in_order : IsInOrder now.loop.durability
    pub executes : Executes w stored base (after p more) now
    pub tickets : TicketsStand w stored (after p more) now
    pub holds : Holds (setting w stored) w.kind base (after p more) now.members
    pub numbers : (k : ℕ) → begun_over k (after p more) ≢ None → k < now.loop.next_barrier
