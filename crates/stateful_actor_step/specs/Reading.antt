-- What is read of a machine and of its databases.
use Rattle.std.specs.Prelude.{ℕ, Bool, List, []}
use Rattle.stateful_history.specs.declared.mark.Mark.{Mark}
use Rattle.stateful_exec_model.specs.Workings.{Workings}
use Rattle.stateful_actor_register.specs.declared.register.Register.{Register}
use Rattle.stateful_loop_model.specs.Intake.{Counts}
use Rattle.stateful_loop_model.specs.Moments.{Executing, Moment, moment}
use Rattle.stateful_loop_model.specs.declared.tables.Processing.{Processing}
use Rattle.stateful_actor_step.specs.Faults.{Tally, tally}
use Rattle.stateful_actor_step.specs.Machine.{Machine}

-- How an application works, and what is read of it, of its jobs and of its databases.
pub record Reading (B C I P R D H G U A S : Type 0) : Type 1 where
  pub workings : Workings B C I P R D H G U
  -- all that is known of databases, but for the batch ids that they draw next; these; and how often
  -- the database of a number has failed
  pub members : S → workings.kind.Members
  pub next : S → workings.Ids
  pub counted : S → ℕ → ℕ
  -- how often an application has failed, and a run, a build and a hook
  pub count : A → ℕ
  pub counts : Counts R D H
  -- what an application keeps of finalized blocks
  pub notes : A → workings.works.Notes

-- A machine beside its databases, between two events: whether it has answered an error since its
-- last start, its register of live work, all else that goes on, how often the application and the
-- databases have failed, and what the application keeps of finalized blocks.
pub record Node {B C I P R D H G U : Type 0} (w : Workings B C I P R D H G U) : Type 0 where
  pub failed : Bool
  pub register : Register
  pub at : Moment w
  pub faults : Tally
  pub notes : w.works.Notes

module _ {B C I P R D H G U A S : Type 0} (r : Reading B C I P R D H G U A S) where
  -- execution and the loop beside these databases, with the marks made so far
  abbrev pub beside : Executing B C I R D H U
      → Processing B C I G
      → S
      → List (Mark B)
      → Moment r.workings
  beside execution loop databases marks =
      moment r.workings execution loop (r.members databases) (r.next databases) marks

  abbrev pub tallied : A → S → Tally
  tallied application databases = tally (r.count application) (r.counted databases)

  abbrev pub node : {K : Type 0}
      → Machine A (Executing B C I R D H U) (Processing B C I G) P K
      → S
      → Node r.workings
  node machine databases = record {
    failed = machine.failed;
    register = machine.register;
    at = beside machine.execution machine.loop databases [];
    faults = tallied machine.application databases;
    notes = r.notes machine.application;
  }
