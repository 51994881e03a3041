-- What becomes of a request with its next block.
use Rattle.std.proofs.Common.{◌≡◌, ◌++◌, ◌∷◌, [], ℕ, List, Some, Result, Err, IsErrAnd, IsErrOf, IfErr, refl, sym, ap, subst, ◌∙◌}
use Rattle.std.proofs.lemmas.List.{append-nil}
use Rattle.std.proofs.lemmas.Result.{err_from_is_err_and}
use Rattle.stateful_base.specs.Names.{Named}
use Rattle.stateful_history.specs.declared.mark.Mark.{Mark}
use Rattle.stateful_history.specs.declared.mark.Mark.TheVariants as mark
use Rattle.stateful_history.specs.declared.mark.JobKind.TheVariants as job
use Rattle.stateful_exec_walk.specs.Path.{Path}
use Rattle.stateful_exec_model.specs.Workings.{Workings}
use Rattle.stateful_exec_model.specs.Moments.{Moment, moment, Becomes}
use Rattle.stateful_exec_model.specs.Starting.{StartsRun}
use Rattle.stateful_exec_tables.specs.Tables.{requested, taken, told, moved, ended}
use Rattle.stateful_exec_tables.specs.Meeting.{JoinsAs}
use Rattle.stateful_exec_model.specs.Causes.{FaultsStart}
use Rattle.stateful_exec_tables.specs.Stepping.{IsParked}
use Rattle.stateful_exec_tables.specs.Stepping.{IsAbout}
use Rattle.stateful_exec_model.specs.Verifying.{Processes, passes, joins_run, starts_run, ends, FaultsProcess, not_started}
use Rattle.stateful_exec_tables.specs.declared.error.ExecError.{ExecError}
use Rattle.stateful_exec_tables.specs.declared.error.ExecError.TheVariants.{OutOfMemory}
use Rattle.stateful_exec_walk.specs.declared.request.Request.{Request}
use Rattle.stateful_exec_walk.specs.declared.request.Verdict.TheVariants.{Invalid}
use Rattle.stateful_exec_tables.specs.declared.state.Tables.{Tables}
use Rattle.stateful_exec_tables.specs.declared.tables.Phase.TheVariants.{Executing, Parked}
use Rattle.stateful_exec_tables.specs.declared.met.Met.TheVariants as met
use Rattle.stateful_exec_model.specs.declared.joined.Joined.TheVariants.{Known, Run, Missed}

module _ {B C I P R D H G U : Type 0} (w : Workings B C I P R D H G U) (members left : w.kind.Members) (next now : w.Ids) (old new : Tables B C I R U) (before after : List (Mark B)) (t : ℕ) (request : Request B C I) (path q : Path B) (parked : IsParked old t request path) (parts : path.blocks ≡ q.blocks ++ q.parent ∷ []) where
  abbrev m : Moment w
  m = moment w old members next before

  about : IsAbout old t request q.blocks q.parent path.parent
  about = record { parked = subst (λ (bs : List (Named B)). IsParked old t request (record { blocks = bs; parent = path.parent })) parts parked }

  becomes : (state : Tables B C I R U) (more : List (Mark B)) → new ≡ state → after ≡ before ++ more → Becomes w m state more (moment w new members next after)
  becomes state more is marks = rw (is, marks) refl

  pub at_known : JoinsAs w.header (taken old t) q.parent path.parent met.Known → new ≡ moved (taken old t) t (requested request) (Parked q) → after ≡ before
      → Processes w m t (moment w new members next after) (Some Known)
  at_known known is marks = passes about known (becomes (moved (taken old t) t (requested request) (Parked q)) [] is (marks ∙ sym (append-nil before)))

  pub at_live : (j : ℕ) → JoinsAs w.header (taken old t) q.parent path.parent (met.Run j) → new ≡ moved (taken old t) t (requested request) (Executing j q) → after ≡ before
      → Processes w m t (moment w new members next after) (Some (Run j))
  at_live j joins is marks = joins_run about joins.0 joins.1 (becomes (moved (taken old t) t (requested request) (Executing j q)) [] is (marks ∙ sym (append-nil before)))

  pub at_missed : JoinsAs w.header (taken old t) q.parent path.parent met.Missed → new ≡ ended (taken old t) t request Invalid → after ≡ before ++ told t request Invalid
      → Processes w m t (moment w new members next after) (Some Missed)
  at_missed joins is marks = ends about joins.0 joins.1 joins.2 (becomes (ended (taken old t) t request Invalid) (told t request Invalid) is marks)

  pub at_started : (running : Tables B C I R U) (b parent : Named B) (j : ℕ) → JoinsAs w.header (taken old t) q.parent path.parent (met.Unrun b parent)
      → StartsRun w b parent members next now (taken old t) running
      → j ≡ old.next_job
      → new ≡ moved running t (requested request) (Executing j q)
      → after ≡ before ++ mark.Started old.next_job job.Candidate b.digest ∷ []
      → left ≡ members
      → Processes w m t (moment w new left now after) (Some (Run j))
  at_started running b parent j joins begins is state marks same =
      starts_run about joins.0 joins.1 joins.2 is (record {
        running = running;
        starts = subst (λ (p : Named B). StartsRun w q.parent p members next now (taken old t) running) joins.4 (subst (λ (b : Named B). StartsRun w b parent members next now (taken old t) running) joins.3 begins);
        state = subst (λ (k : ℕ). new ≡ moved running t (requested request) (Executing k q)) is state;
        members = same;
        marks = subst (λ (b : Named B). after ≡ before ++ mark.Started old.next_job job.Candidate b.digest ∷ []) joins.3 marks;
      })

module _ {B C I P R D H G U : Type 0} (w : Workings B C I P R D H G U) (m : Moment w) (t : ℕ) (request : Request B C I) (path q : Path B) (parked : IsParked m.state t request path) (parts : path.blocks ≡ q.blocks ++ q.parent ∷ []) where
  pub at_refused : (rose : Type 0) {T : Type 0} (r : Result T ExecError) (e : ExecError) → IsErrAnd r (λ f. f ≡ e) → (b parent : Named B) → JoinsAs w.header (taken m.state t) q.parent path.parent (met.Unrun b parent)
      → FaultsStart w rose m.state.next_job m.members m.next e → IfErr r (FaultsProcess w rose m t)
  at_refused rose r e of b parent joins faults =
      let about : IsAbout m.state t request q.blocks q.parent path.parent =
      record { parked = subst (λ (bs : List (Named B)). IsParked m.state t request (record { blocks = bs; parent = path.parent })) parts parked } in
      let p = err_from_is_err_and r of in
      rw (p.1, p.2) (not_started about joins.0 joins.1 joins.2 faults)

-- what holds where another error than want of memory comes is handed on with the error
pub unless_memory : {S T N : Type 0} (r : Result T ExecError) (s : Result S ExecError) (e : ExecError) → IsErrAnd r (λ f. f ≡ e) → s ≡ Err e → ((IsErrOf s OutOfMemory → ⊥) → N) → (IsErrOf r OutOfMemory → ⊥) → N
unless_memory r s e of is holds other =
    holds (λ oom. let p = err_from_is_err_and r of in let same = sym is ∙ oom in let own : e ≡ OutOfMemory = cc in other (p.1 ∙ ap (λ x. Err x) (p.2 ∙ own)))
