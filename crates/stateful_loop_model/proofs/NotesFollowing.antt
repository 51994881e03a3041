-- How the notes of an application follow what was applied, from call to call.
use Rattle.std.proofs.Common.{◌≡◌, inl, inr, ◌++◌, ◌∷◌, [], ℕ, Bool, true, false, List, Option, Some, Result, Ok, Err, OnOk, IfOk, IfErr, IsErrAnd, sym, ap, ◌∙◌, subst, append-nil, append_assoc}
use Rattle.std.specs.Prelude.{IsErrOf}
use Rattle.std.proofs.lemmas.List.Sums.{fold-append}
use Rattle.stateful_base.specs.Names.{Named}
use Rattle.stateful_history.specs.Finalizations.{applied_in}
use Rattle.stateful_history.specs.declared.mark.Mark.{Mark}
use Rattle.stateful_exec_model.specs.Workings.{Workings}
use Rattle.stateful_exec_tables.specs.declared.error.ExecError.{ExecError}
use Rattle.stateful_exec_tables.specs.declared.error.ExecError.TheVariants as exec
use Rattle.stateful_loop_model.specs.Errors.{error_of_exec}
use Rattle.stateful_loop_model.specs.Moments.{Moment}
use Rattle.stateful_loop_model.specs.Noted.{noted_all, unobserved, NotesFollow, NotesMayFollow}
use Rattle.stateful_loop_model.specs.Rules.{ObservesBlock, Goes}
use Rattle.stateful_loop_model.specs.declared.error.StepError.{StepError}
use Rattle.stateful_loop_model.specs.declared.error.StepError.TheVariants.{OutOfMemory}
use Rattle.stateful_loop_model.specs.declared.tables.Finalizing.{Finalizing}
use Rattle.stateful_loop_model.proofs.AppliedMarks.{applied_in-append}
use Rattle.stateful_loop_model.proofs.Observing.{read, LeavesUnobserved, CanObserve, rule_leaves, observes_none}

-- memory didn't run out: what holds then
module _ {T : Type 0} (result : Result T StepError) (other : IsErrOf result OutOfMemory → ⊥) where
  pub not_memory : IsErrAnd result (λ f. f ≡ OutOfMemory) → ⊥
  not_memory is = go result is other
    where
      go : (r : Result T StepError) → IsErrAnd r (λ f. f ≡ OutOfMemory) → (IsErrOf r OutOfMemory → ⊥) → ⊥
      go (Ok x) is other = is
      go (Err e) is other = other (ap Err is)

  pub not_by_memory : {X : Type 0} (fault : ExecError) → IsErrAnd result (λ f. f ≡ error_of_exec fault) → IsErrOf {T = X} (Err fault) exec.OutOfMemory → ⊥
  not_by_memory fault made is = not_memory (subst (λ (e : ExecError). IsErrAnd result (λ f. f ≡ error_of_exec e)) (same fault exec.OutOfMemory is) made)
    where
      same : {X : Type 0} (a b : ExecError) → IsErrOf {T = X} (Err a) b → a ≡ b
      same a b is = cc

  pub not_again : {X : Type 0} (e : StepError) → IsErrAnd result (λ f. f ≡ e) → IsErrOf {T = X} (Err e) OutOfMemory → ⊥
  not_again e made is = not_memory (subst (λ (x : StepError). IsErrAnd result (λ f. f ≡ x)) (error_is e OutOfMemory is) made)
    where
      error_is : {X : Type 0} (a b : StepError) → IsErrOf {T = X} (Err a) b → a ≡ b
      error_is a b is = cc

-- which error that is
pub error_is : {T : Type 0} (e : StepError) → IsErrOf {T = T} (Err e) OutOfMemory → e ≡ OutOfMemory
error_is e is = cc

pub fault_is : {T : Type 0} (e : ExecError) → IsErrOf {T = T} (Err e) exec.OutOfMemory → error_of_exec e ≡ OutOfMemory
fault_is e is = same e exec.OutOfMemory is
  where
    same : {X : Type 0} (a b : ExecError) → IsErrOf {T = X} (Err a) b → error_of_exec a ≡ error_of_exec b
    same a b is = let e : a ≡ b = cc in ap error_of_exec e

-- what holds of a result, by two clauses
pub both_ok : {T E P Q R : Type 0} (r : Result T E) → OnOk r P → OnOk r Q → (P → Q → R) → OnOk r R
both_ok (Ok x) p q f = f p q
both_ok (Err e) p q f = tt

pub stay_ok : {T P S R : Type 0} (r : Result T StepError) → OnOk r P → ((IsErrOf r OutOfMemory → ⊥) → S) → (P → S → R) → OnOk r R
stay_ok (Ok x) p stay f = f p (stay (λ is. cc))
stay_ok (Err e) p stay f = tt

-- what stays is left by a refusal too
pub stays_refused : {T S : Type 0} (r : Result T StepError) → ((IsErrOf r OutOfMemory → ⊥) → S) → IfErr r (λ e. (e ≡ OutOfMemory → ⊥) → S)
stays_refused (Ok x) stay = tt
stays_refused (Err e) stay = λ other. stay (λ is. other (error_is e is))

module _ {N B : Type 0} (noted : N → B → N) where
  pub noted_all-append : (notes : N) (first then : List (Named B)) → noted_all noted notes (first ++ then) ≡ noted_all noted (noted_all noted notes first) then
  noted_all-append notes first then = fold-append _ notes first then

  module _ {G : Type 0} where
    -- nothing was applied, and the application was told of nothing
    pub NotesFollow-same : (before now : N) (was is : Option (Finalizing B G)) (old new : List (Mark B)) → now ≡ before → is ≡ was → new ≡ old
        → NotesFollow noted before now was is old new
    NotesFollow-same before now was is old new notes front marks = record {
      added = [];
      marks_are = marks ∙ sym (append-nil old);
      told = [];
      told_are = ap unobserved front ∙ sym (append-nil (unobserved was));
      notes_are = notes;
    }

    -- one after another
    pub NotesFollow-then : (before mid now : N) (was between is : Option (Finalizing B G)) (old then new : List (Mark B))
        → NotesFollow noted before mid was between old then → NotesFollow noted mid now between is then new → NotesFollow noted before now was is old new
    NotesFollow-then before mid now was between is old then new a b = record {
      added = a.added ++ b.added;
      marks_are = b.marks_are ∙ ap (λ (l : List (Mark B)). l ++ b.added) a.marks_are ∙ append_assoc old a.added b.added;
      told = a.told ++ b.told;
      told_are = append_assoc a.told b.told (unobserved is) ∙ ap (λ (l : List (Named B)). a.told ++ l) b.told_are
          ∙ sym (append_assoc a.told (unobserved between) (applied_in b.added))
          ∙ ap (λ (l : List (Named B)). l ++ applied_in b.added) a.told_are ∙ append_assoc (unobserved was) (applied_in a.added) (applied_in b.added)
          ∙ ap (λ (l : List (Named B)). unobserved was ++ l) (sym (applied_in-append a.added b.added));
      notes_are = b.notes_are ∙ ap (λ (n : N). noted_all noted n b.told) a.notes_are ∙ sym (noted_all-append before a.told b.told);
    }

    -- at an earlier application and an earlier front that are the same
    pub NotesFollow-earlier : {A : Type 0} (notes : A → N) (a mid : A) (now : N) (was f is : Option (Finalizing B G)) (old new : List (Mark B)) → mid ≡ a → f ≡ was
        → NotesFollow noted (notes mid) now f is old new → NotesFollow noted (notes a) now was is old new
    NotesFollow-earlier notes a mid now was f is old new same front n =
        subst (λ x. NotesFollow noted (notes x) now was is old new) same (subst (λ (x : Option (Finalizing B G)). NotesFollow noted (notes mid) now x is old new) front n)

    pub NotesMayFollow-earlier : {A : Type 0} (notes : A → N) (a mid : A) (now : N) (was f : Option (Finalizing B G)) → mid ≡ a → f ≡ was
        → NotesMayFollow noted (notes mid) now f → NotesMayFollow noted (notes a) now was
    NotesMayFollow-earlier notes a mid now was f same front n =
        subst (λ x. NotesMayFollow noted (notes x) now was) same (subst (λ (x : Option (Finalizing B G)). NotesMayFollow noted (notes mid) now x) front n)

  -- a call that told the application of nothing was refused
  pub stay_refused : {T G : Type 0} (r : Result T StepError) (before now : N) (front : Option (Finalizing B G)) → ((IsErrOf r OutOfMemory → ⊥) → now ≡ before)
      → IfErr r (λ e. (e ≡ OutOfMemory → ⊥) → NotesMayFollow noted before now front)
  stay_refused (Ok x) before now front stay = tt
  stay_refused (Err e) before now front stay = λ other. inl (stay (λ is. other (error_is e is)))

  module _ {C I P R D H G U : Type 0} (w : Workings B C I P R D H G U) (m now : Moment w) (before after : N) where
    abbrev pub Follow : Type 0
    Follow = NotesFollow noted before after m.loop.front now.loop.front m.marks now.marks

    -- what was applied is still to be observed, and the application was told of nothing
    pub leaves_follow : LeavesUnobserved w m now → after ≡ before → Follow
    leaves_follow l stay = record { added = l.added; marks_are = l.marks_are; told = []; told_are = l.fronts; notes_are = stay }

    -- the application observed the block in front
    pub observes_follow : (f : Finalizing B G) (captured : G) → m.loop.front ≡ Some f → f.captured ≡ Some captured → ObservesBlock w f captured m now
        → after ≡ noted before f.block.block → Follow
    observes_follow f captured front is r notes =
        let a = observes_none w f captured m now r in
        record {
          added = a.added;
          marks_are = a.marks_are;
          told = f.block ∷ [];
          told_are = ap (λ (l : List (Named B)). f.block ∷ l) (ap (λ (n : Moment w). unobserved n.loop.front) r.becomes)
              ∙ sym (ap (λ (l : List (Named B)). unobserved m.loop.front ++ l) a.none ∙ append-nil (unobserved m.loop.front) ∙ ap unobserved front ∙ read f captured is);
          notes_are = notes;
        }

    -- a rule went, or none could, and the application was told of nothing
    module _ (stored : ℕ → Option (Named B)) (provider : P) (unread : CanObserve w m → ⊥) where
      goes_follow : (went : Bool) → Goes w stored provider m now went → after ≡ before → Follow
      goes_follow true r stay = elim (rule_leaves w stored provider m now r) [ inl l ↦ leaves_follow l stay | inr can ↦ absurd (unread can) ]
      goes_follow false over stay =
          NotesFollow-same before after m.loop.front now.loop.front m.marks now.marks stay (ap (λ (n : Moment w). n.loop.front) over.1)
          (ap (λ (n : Moment w). n.marks) over.1)

      pub stay_follow : (r : Result Bool StepError) → IfOk r (λ went. Goes w stored provider m now went) → ((IsErrOf r OutOfMemory → ⊥) → after ≡ before)
          → OnOk r Follow
      stay_follow (Ok went) goes stay = goes_follow went goes (stay (λ is. cc))
      stay_follow (Err e) goes stay = tt
