-- Requests that follow the end of a run, one after another.
use Rattle.std.proofs.Common.{◌≡◌, ◌≤◌, ◌++◌, ◌∷◌, [], ℕ, Option, List, Result, Ok, Err, IsErrAnd, IsErrOf, IfErr, length, sym, ap, ◌∙◌, subst, arith}
use Rattle.std.proofs.lemmas.List.{append_assoc, append-nil, nil_from_length}
use Rattle.std.proofs.lemmas.Result.{err_from_is_err_and}
use Rattle.stateful_base.specs.Causes.{Rose}
use Rattle.stateful_base.specs.Names.{Named}
use Rattle.stateful_exec_model.specs.Workings.{Workings}
use Rattle.stateful_exec_walk.specs.Path.{Path}
use Rattle.stateful_exec_model.specs.Moments.{Moment}
use Rattle.stateful_exec_tables.specs.Tables.{Rises}
use Rattle.stateful_exec_model.specs.Ending.{InTurn, StopsAt}
use Rattle.stateful_exec_model.specs.Ending.InTurn.{none, next}
use Rattle.stateful_exec_model.specs.Causes.{FaultsStart, FaultsAdvance, FaultsAcquire}
use Rattle.stateful_exec_model.specs.Causes.FaultsAcquire.{memory as no_memory, no_fetch, running}
use Rattle.stateful_exec_model.specs.Causes.FaultsAdvance.{memory, starting}
use Rattle.stateful_exec_tables.specs.declared.error.ExecError.{ExecError}
use Rattle.stateful_exec_tables.specs.declared.error.ExecError.TheVariants.{Lost, SkippedHeight, NotExtending, ConflictAtAnchor, FinalizedRejected, FinalizedMismatch, ProposalMismatch, ProposalStale, PendingChanged, Application, Exhausted, OutOfMemory}
use Rattle.stateful_exec_tables.specs.declared.state.Tables.{Tables}
use Rattle.stateful_exec_tables.specs.declared.tables.Requested.{Requested}

pub Rose-earlier : (a b c : ℕ) → a ≤ b → Rose b c → Rose a c
Rose-earlier a b c before rose = omega arith

err-injective : {S : Type 0} {x y : ExecError} → IsErrOf {T = S} (Err x) y → x ≡ y
err-injective is = search

-- an error that isn't that of memory
pub not_memory : {S T : Type 0} (r : Result T ExecError) (e : ExecError) → IsErrAnd r (λ f. f ≡ e) → (IsErrOf r OutOfMemory → ⊥) → IsErrOf {T = S} (Err e) OutOfMemory → ⊥
not_memory {S = S} r e of other is =
    let p = err_from_is_err_and r of in
    let same : e ≡ OutOfMemory = err-injective {S = S} is in
    other (p.1 ∙ ap Err (p.2 ∙ same))

pub no_error : {T : Type 0} (x : T) (e : ExecError) → IsErrOf (Ok x) e → ⊥
no_error x e is = cc

module _ {B C I R U : Type 0} (old mid new : Tables B C I R U) where
  pub Rises-then : Rises old mid → Rises mid new → Rises old new
  Rises-then first then = (omega (arith, first.0, then.0), omega (arith, first.1, then.1))

module _ {X M : Type 0} (R : X → M → M → Type 0) where
  pub InTurn-more : {xs : List X} {m n last : M} (x : X) → InTurn R xs m n → R x n last → InTurn R (xs ++ x ∷ []) m last
  InTurn-more x none r = next r none
  InTurn-more x (next s rest) r = next s (InTurn-more x rest r)

module _ {B C I P R D H G U : Type 0} (w : Workings B C I P R D H G U) (rose later : Type 0) (weaker : rose → later) where
  FaultsStart-later : (job : ℕ) (m : w.kind.Members) (n : w.Ids) (e : ExecError) → FaultsStart w rose job m n e → FaultsStart w later job m n e
  FaultsStart-later job m n Lost f = f
  FaultsStart-later job m n (SkippedHeight expected given) f = f
  FaultsStart-later job m n (NotExtending expected given) f = f
  FaultsStart-later job m n (ConflictAtAnchor expected given) f = f
  FaultsStart-later job m n (FinalizedRejected digest) f = f
  FaultsStart-later job m n (FinalizedMismatch index expected given) f = f
  FaultsStart-later job m n (ProposalMismatch fault) f = f
  FaultsStart-later job m n (ProposalStale anchor round) f = f
  FaultsStart-later job m n (PendingChanged before after) f = f
  FaultsStart-later job m n Application f = (weaker f.0, f.1, f.2)
  FaultsStart-later job m n Exhausted f = f
  FaultsStart-later job m n OutOfMemory f = f

  pub FaultsAdvance-later : (m : Moment w) (path : Path B) (e : ExecError) → FaultsAdvance w rose m path e → FaultsAdvance w later m path e
  FaultsAdvance-later m path e (memory is) = memory is
  FaultsAdvance-later m path e (starting reaches goes unknown unrun known f) = starting reaches goes unknown unrun known (FaultsStart-later m.state.next_job m.members m.next e f)

module _ {B C I P R D H G U : Type 0} (w : Workings B C I P R D H G U) (rose later : Type 0) (weaker : rose → later) where
  pub FaultsAcquire-later : (stored : ℕ → Option (Named B)) (m : Moment w) (r : Requested B C I) (e : ExecError) → FaultsAcquire w rose stored m r e → FaultsAcquire w later stored m r e
  FaultsAcquire-later stored m r e (no_memory is) = no_memory is
  FaultsAcquire-later stored m r e (no_fetch digest is needs none_left) = no_fetch digest is needs none_left
  FaultsAcquire-later stored m r e (running {path = path} needs f) = running needs (FaultsAdvance-later w rose later weaker m path e f)

module _ {X M : Type 0} (R : X → M → M → Type 0) (whole : List X) (first : M) where
  -- so many were served, and these are left
  pub record Reached (done left : List X) (m : M) : Type 0 where
    pub all : done ++ left ≡ whole
    pub turns : InTurn R done first m

  pub Reached-first : (left : List X) → left ≡ whole → Reached [] left first
  Reached-first left is = record { all = is; turns = none }

  module _ (done left : List X) (m : M) (reached : Reached done left m) where
    pub Reached-next : (x : X) (rest : List X) (now : M) → left ≡ x ∷ rest → R x m now → Reached (done ++ x ∷ []) rest now
    Reached-next x rest now step served = record {
      all = append_assoc done (x ∷ []) rest ∙ ap (λ l. done ++ l) (sym step) ∙ reached.all;
      turns = InTurn-more R x reached.turns served;
    }

    pub Reached-all : (n : ℕ) → n ≡ length left → n ≡ 0 → InTurn R whole first m
    Reached-all n size ends =
        subst (λ (l : List X). InTurn R l first m) (sym (append-nil done) ∙ ap (λ l. done ++ l) (sym (nil_from_length left (sym size ∙ ends))) ∙ reached.all) reached.turns

    pub Reached-refused : {T E : Type 0} (Faults : X → M → E → Type 0) (result : Result T E) (e : E) → IsErrAnd result (λ f. f ≡ e)
        → (x : X) (rest : List X) → left ≡ x ∷ rest → Faults x m e → IfErr result (StopsAt R Faults whole first)
    Reached-refused Faults result e of x rest step faults =
        let p = err_from_is_err_and result of in
        rw (p.1, p.2) (record {
          served = done;
          next = x;
          rest = rest;
          mid = m;
          parts = sym reached.all ∙ ap (λ l. done ++ l) step;
          turns = reached.turns;
          fault = faults;
        })
