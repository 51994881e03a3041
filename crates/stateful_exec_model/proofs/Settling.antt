-- What a turn's answer leads to.
use Rattle.std.proofs.Common.{◌≡◌, ℕ, List, Option, Result, Ok, subst}
use Rattle.stateful_base.specs.Names.{Named}
use Rattle.stateful_base.specs.declared.outcome.Moved.{Moved}
use Rattle.stateful_base.specs.declared.outcome.Moved.TheVariants.{Done}
use Rattle.stateful_db.specs.declared.application.AppFault.{AppFault}
use Rattle.stateful_history.specs.declared.mark.How.{How}
use Rattle.stateful_history.specs.declared.mark.Mark.{Mark}
use Rattle.stateful_exec_model.specs.Workings.{Workings}
use Rattle.stateful_exec_model.specs.Moments.{Moment, moment}
use Rattle.stateful_exec_tables.specs.Phase.{released_on}
use Rattle.stateful_exec_model.specs.Ending.{InTurn, Follows, EndsRun, SettlesBy}
use Rattle.stateful_exec_tables.specs.Tables.{released}
use Rattle.stateful_exec_model.specs.Causes.{FaultsFollow, FaultsAnswer}
use Rattle.stateful_exec_model.specs.Causes.FaultsSettle.{following}
use Rattle.stateful_exec_tables.specs.declared.error.ExecError.{ExecError}
use Rattle.stateful_exec_tables.specs.declared.state.Tables.{Tables}
use Rattle.stateful_exec_tables.specs.declared.tables.Released.{Released}

module _ {B C I P R D H G U : Type 0} (w : Workings B C I P R D H G U) (members : w.kind.Members) (next : w.Ids) (old mid freed : Tables B C I R U) (before after : List (Mark B)) (j : ℕ) (answer : Result (Moved (Option U)) AppFault) (moved : Moved (Option U)) (ended : Option U)
    (b : Named B) (how : How) (all : List (Released B C I)) (ok : answer ≡ Ok moved) (done : moved ≡ Done ended)
    (ends : EndsRun w (moment w old members next before) j b ended how (moment w mid members next after)) (each : all ≡ released_on j mid.requests) (rest : freed ≡ released j mid) where
  pub settled : (now : Moment w) → InTurn (Follows w b how) all (moment w freed members next after) now → SettlesBy w (moment w old members next before) j answer now
  settled now follow = rw (ok, done) (record {
    block = b;
    how = how;
    done = moment w mid members next after;
    ends = ends;
    follow =
        subst (λ (l : List (Released B C I)). InTurn (Follows w b how) l (moment w (released j mid) members next after) now) each
        (subst (λ (v : Tables B C I R U). InTurn (Follows w b how) all (moment w v members next after) now) rest follow);
  })

  pub unserved : (rose : Type 0) (e : ExecError) → FaultsFollow w rose b how all (moment w freed members next after) e → FaultsAnswer w rose (moment w old members next before) j answer e
  unserved rose e faults = rw (ok, done) (following ends
      (subst (λ (l : List (Released B C I)). FaultsFollow w rose b how l (moment w (released j mid) members next after) e) each
      (subst (λ (v : Tables B C I R U). FaultsFollow w rose b how all (moment w v members next after) e) rest faults)))
