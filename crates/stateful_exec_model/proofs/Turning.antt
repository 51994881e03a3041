-- Turns of runs.
use Rattle.std.proofs.Common.{◌≡◌, ◌+◌, ◌∷◌, ℕ, List, Option, Some, Result, Ok, Err, IfOk, IsErrOf, IsSome, refl, ap, ◌∙◌}
use Rattle.std.proofs.lemmas.Bool.{eq-eqb}
use Rattle.stateful_base.specs.Causes.{Rose}
use Rattle.stateful_base.specs.declared.outcome.Moved.{Moved}
use Rattle.stateful_db.specs.Chain.{IsPoint}
use Rattle.stateful_db.specs.Meaning.{outcome, Ends}
use Rattle.stateful_db.specs.Works.{RunOf, block_of, run_chain, Costs}
use Rattle.stateful_db.specs.declared.application.AppFault.{AppFault}
use Rattle.stateful_db.specs.declared.application.AppFault.TheVariants.{Failed}
use Rattle.stateful_table.specs.Table.{at, put, without}
use Rattle.stateful_table.proofs.Tables.{at-put}
use Rattle.stateful_exec_model.specs.Workings.{Workings, Point}
use Rattle.stateful_exec_model.specs.Ending.{Turns, TurnsRun}
use Rattle.stateful_exec_tables.specs.declared.state.Tables.{Tables}
use Rattle.stateful_exec_tables.specs.declared.tables.LiveRun.{LiveRun}

-- what is put in a table is there
pub put_there : {V : Type 0} (table now : List (ℕ × V)) (t : ℕ) (v : V) → now ≡ put table t v → IsSome (at now t)
put_there table now t v is = rw (is, at-put table t v t, eq-eqb t t refl) refl

module _ {B C I P R D H G U : Type 0} (w : Workings B C I P R D H G U) (m : w.kind.Members) (run turned : R) where
  abbrev pub IsEnd : Moved (Option U) → Type 0
  IsEnd moved = (r : RunOf B C w.Ids w.States) (n : ℕ) (q : Point w) → w.works.runs run r n → w.kind.point m ≡ Some q → IsPoint q (r.at ∷ r.below)
      → Ends moved (outcome w.works.meaning r.finality r.at.1 (block_of r)) (λ batch s. w.shows batch (run_chain r s)) (w.works.runs turned r (n + 1))

  abbrev pub IsCost : Moved (Option U) → Type 0
  IsCost moved = (r : RunOf B C w.Ids w.States) (n : ℕ) (q : Point w) → w.works.runs run r n → w.kind.point m ≡ Some q → IsPoint q (r.at ∷ r.below)
      → Costs (w.works.run_cost r.finality r.at.1 (block_of r)) moved n

  pub turns : (answer : Result (Moved (Option U)) AppFault) → IfOk answer IsEnd → IfOk answer IsCost → IfOk answer (Turns w m run turned)
  turns (Ok moved) ends costs = record { ends = ends; costs = costs }
  turns (Err fault) ends costs = tt

module _ {B C I P R D H G U : Type 0} (w : Workings B C I P R D H G U) (count : R → ℕ) (m : w.kind.Members) (j : ℕ) (old taken new : Tables B C I R U) (live : LiveRun B R) (turned : R) (answer : Result (Moved (Option U)) AppFault) where
  -- a run is taken out, has a turn, and is put back
  pub turns_run : at old.runs j ≡ Some live → taken ≡ record old { runs = without old.runs j } → ((l : LiveRun B R) → put taken.runs j l ≡ put old.runs j l)
      → IfOk answer (IsEnd w m live.run turned) → IfOk answer (IsCost w m live.run turned) → (IsErrOf answer Failed → Rose (count live.run) (count turned))
      → new ≡ record taken { runs = put taken.runs j (record live { run = turned }) } → TurnsRun w count m j old new answer
  turns_run there out again ends costs failed back = record {
    live = live;
    live_is = there;
    turned = turned;
    turns = turns w m live.run turned answer ends costs;
    failed = failed;
    state =
        let run = record live { run = turned } in
        back ∙ ap (λ (t : Tables B C I R U). record t { runs = put taken.runs j run }) out ∙ ap (λ rs. record old { runs = rs }) (again run);
  }
