-- What becomes of a request, by what was met on its path.
use Rattle.std.proofs.Common.{rules, ◌≡◌, ◌⊎◌, ◌++◌, ◌∷◌, [], ℕ, List, Result, IsErrAnd, IfErr, refl, sym, subst, ◌∙◌}
use Rattle.std.proofs.lemmas.List.{append-nil}
use Rattle.std.proofs.lemmas.Result.{err_from_is_err_and}
use Rattle.stateful_base.specs.Names.{Named}
use Rattle.stateful_history.specs.declared.mark.Mark.{Mark}
use Rattle.stateful_history.specs.declared.mark.Mark.TheVariants as mark
use Rattle.stateful_history.specs.declared.mark.JobKind.TheVariants as job
use Rattle.stateful_exec_walk.specs.Path.{Path}
use Rattle.stateful_exec_model.specs.Workings.{Workings}
use Rattle.stateful_exec_model.specs.Moments.{Moment, moment, Becomes}
use Rattle.stateful_exec_model.specs.Starting.{StartsRun}
use Rattle.stateful_exec_tables.specs.Tables.{requested, told, moved, ended}
use Rattle.stateful_exec_tables.specs.Meeting.{Skips, to_end, to_left, to_met}
use Rattle.stateful_exec_model.specs.Rules.{Advances, arrives, leaves, joins, starts, misses}
use Rattle.stateful_exec_model.specs.Causes.{FaultsStart, FaultsAdvance, starting}
use Rattle.stateful_exec_tables.specs.declared.error.ExecError.{ExecError}
use Rattle.stateful_exec_walk.specs.declared.request.Request.{Request}
use Rattle.stateful_exec_walk.specs.declared.request.Verdict.TheVariants.{Valid, Invalid}
use Rattle.stateful_exec_tables.specs.declared.state.Tables.{Tables}
use Rattle.stateful_exec_tables.specs.declared.tables.Phase.TheVariants.{Executing}
use Rattle.stateful_exec_tables.specs.declared.met.Met.{Met}
use Rattle.stateful_exec_tables.specs.declared.met.Met.TheVariants.{Arrived, Left, Known, Run, Unrun, Missed}

module _ {B C I P R D H G U : Type 0} (w : Workings B C I P R D H G U) (members : w.kind.Members) (next : w.Ids) (old new : Tables B C I R U) (before after : List (Mark B)) (t : ℕ) (request : Request B C I) (path q : Path B) where
  -- the request goes so along its path
  abbrev Goes : Type 0
  Goes = Advances w (moment w old members next before) t (requested request) path (moment w new members next after)

  becomes : (state : Tables B C I R U) (more : List (Mark B)) → new ≡ state → after ≡ before ++ more → Becomes w (moment w old members next before) state more (moment w new members next after)
  becomes state more is marks = rw (is, marks) refl

  pub at_end : Skips w.header old path q Arrived → new ≡ ended old t request Valid → after ≡ before ++ told t request Valid → Goes
  at_end (to_end all) is marks = arrives all (becomes (ended old t request Valid) (told t request Valid) is marks)
  at_end (to_met reaches goes other met) is marks = absurd met

  pub at_stop : (found : Met B) → (found ≡ Left) ⊎ (found ≡ Missed) → Skips w.header old path q found → new ≡ ended old t request Invalid → after ≡ before ++ told t request Invalid → Goes
  at_stop Left which (to_left reaches stops) is marks = leaves reaches stops (becomes (ended old t request Invalid) (told t request Invalid) is marks)
  at_stop Left which (to_met reaches goes other met) is marks = absurd met
  at_stop Missed which (to_met reaches goes other met) is marks = misses reaches goes met.0 met.1 met.2 (becomes (ended old t request Invalid) (told t request Invalid) is marks)
  at_stop Arrived which skips is marks = search rules
  at_stop Known which skips is marks = search rules
  at_stop (Run j) which skips is marks = search rules
  at_stop (Unrun b parent) which skips is marks = search rules

  pub at_run : (j : ℕ) → Skips w.header old path q (Run j) → new ≡ moved old t (requested request) (Executing j q) → after ≡ before → Goes
  at_run j (to_met reaches goes other met) is marks = joins j reaches goes met.0 met.1 (becomes (moved old t (requested request) (Executing j q)) [] is (marks ∙ sym (append-nil before)))

module _ {B C I P R D H G U : Type 0} (w : Workings B C I P R D H G U) (members left : w.kind.Members) (next now : w.Ids) (old running new : Tables B C I R U) (before after : List (Mark B)) (t : ℕ) (request : Request B C I) (path q : Path B) where
  pub at_unrun : (b parent : Named B) (j : ℕ) → Skips w.header old path q (Unrun b parent)
      → StartsRun w b parent members next now old running
      → j ≡ old.next_job
      → new ≡ moved running t (requested request) (Executing j q)
      → after ≡ before ++ mark.Started old.next_job job.Candidate b.digest ∷ []
      → left ≡ members
      → Advances w (moment w old members next before) t (requested request) path (moment w new left now after)
  at_unrun b parent j (to_met {parent = p} reaches goes other met) begins is state marks same =
      starts reaches goes met.0 met.1 met.2 (record {
        running = running;
        starts = subst (λ (p : Named B). StartsRun w q.parent p members next now old running) met.4 (subst (λ (b : Named B). StartsRun w b parent members next now old running) met.3 begins);
        state = subst (λ (k : ℕ). new ≡ moved running t (requested request) (Executing k q)) is state;
        members = same;
        marks = subst (λ (b : Named B). after ≡ before ++ mark.Started old.next_job job.Candidate b.digest ∷ []) met.3 marks;
      })

module _ {B C I P R D H G U : Type 0} (w : Workings B C I P R D H G U) (rose : Type 0) (m : Moment w) (path q : Path B) (b parent : Named B) where
  not_started : (e : ExecError) → Skips w.header m.state path q (Unrun b parent) → FaultsStart w rose m.state.next_job m.members m.next e → FaultsAdvance w rose m path e
  not_started e (to_met reaches goes other met) faults = starting reaches goes met.0 met.1 met.2 faults

  pub refused_start : {T : Type 0} (r : Result T ExecError) (e : ExecError) → IsErrAnd r (λ f. f ≡ e) → Skips w.header m.state path q (Unrun b parent) → FaultsStart w rose m.state.next_job m.members m.next e → IfErr r (FaultsAdvance w rose m path)
  refused_start r e of skips faults = let p = err_from_is_err_and r of in rw (p.1, p.2) (not_started e skips faults)
