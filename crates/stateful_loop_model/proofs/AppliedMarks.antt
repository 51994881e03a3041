-- Marks that say of no block that it was applied: those of requests, of what resumes, and of hooks that begin.
use Rattle.std.proofs.Common.{◌≡◌, ◌++◌, ◌∷◌, [], ℕ, Bool, List, Option, map, refl, sym, ap, ◌∙◌, append-nil, append_assoc}
use Rattle.stateful_base.specs.Names.{Named}
use Rattle.stateful_db.specs.declared.application.Hooked.{Hooked}
use Rattle.stateful_db.specs.declared.application.Hooked.TheVariants as hooked
use Rattle.stateful_history.specs.Finalizations.{applied_in}
use Rattle.stateful_history.specs.declared.mark.Mark.{Mark}
use Rattle.stateful_history.specs.declared.mark.Mark.TheVariants.{Applied, Withdrawn}
use Rattle.stateful_exec_model.specs.Ending.{InTurn, none, next}
use Rattle.stateful_exec_model.specs.Finalizing.{HooksOn}
use Rattle.stateful_exec_model.specs.Moments as exec
use Rattle.stateful_exec_walk.specs.Path.{Path}
use Rattle.stateful_exec_model.specs.Pausing.{GoesAlong, AcquiresAnew, unparked, unsettled, Resumes}
use Rattle.stateful_exec_tables.specs.Phase.{parked_in, unacquired_in}
use Rattle.stateful_exec_tables.specs.Tables.{told, requested}
use Rattle.stateful_exec_model.specs.Rules.{Concludes, Advances, Acquires, arrives, leaves, joins, starts, misses, valid, invalid, asks, waits, runs}
use Rattle.stateful_exec_model.specs.Workings.{Workings}
use Rattle.stateful_exec_model.specs.declared.front.Front.{Front}
use Rattle.stateful_exec_walk.specs.declared.request.Request.{Request}
use Rattle.stateful_exec_walk.specs.declared.request.Request.TheVariants.{Verify, Recover}
use Rattle.stateful_exec_walk.specs.declared.request.Verdict.{Verdict}
use Rattle.stateful_exec_walk.specs.declared.request.Verdict.TheVariants.{Valid, Invalid}
use Rattle.stateful_exec_tables.specs.declared.state.Tables.{Tables}
use Rattle.stateful_exec_tables.specs.declared.tables.Requested.{Requested}
use Rattle.stateful_loop_model.specs.Rules.{acknowledged}

pub applied_in-append : {B : Type 0} (first then : List (Mark B)) → applied_in (first ++ then) ≡ applied_in first ++ applied_in then
applied_in-append [] then = refl
applied_in-append {B} (Applied b ∷ first) then = ap (λ (l : List (Named B)). b ∷ l) (applied_in-append first then)
applied_in-append (mark ∷ first) then = applied_in-append first then

-- marks were made, and none of them says that a block was applied
pub record AppliesNone {B : Type 0} (old new : List (Mark B)) : Type 0 where
  pub added : List (Mark B)
  pub marks_are : new ≡ old ++ added
  pub none : applied_in added ≡ []

module _ {B : Type 0} where
  pub AppliesNone-made : (old new added : List (Mark B)) → new ≡ old ++ added → applied_in added ≡ [] → AppliesNone old new
  AppliesNone-made old new added is nothing = record { added = added; marks_are = is; none = nothing }

  pub AppliesNone-same : (old new : List (Mark B)) → new ≡ old → AppliesNone old new
  AppliesNone-same old new is = record { added = []; marks_are = is ∙ sym (append-nil old); none = refl }

  pub AppliesNone-then : (old mid new : List (Mark B)) → AppliesNone old mid → AppliesNone mid new → AppliesNone old new
  AppliesNone-then old mid new e f = record {
    added = e.added ++ f.added;
    marks_are = f.marks_are ∙ ap (λ (l : List (Mark B)). l ++ f.added) e.marks_are ∙ append_assoc old e.added f.added;
    none = applied_in-append e.added f.added ∙ ap (λ (l : List (Named B)). l ++ applied_in f.added) e.none ∙ f.none;
  }

  pub withdrawn_none : (fetches : List ℕ) → applied_in {B = B} (map (λ f. Withdrawn f) fetches) ≡ []
  withdrawn_none [] = refl
  withdrawn_none (f ∷ fetches) = withdrawn_none fetches

  pub acknowledged_none : (receipts : List (ℕ × ℕ)) → applied_in {B = B} (map acknowledged receipts) ≡ []
  acknowledged_none [] = refl
  acknowledged_none (receipt ∷ receipts) = acknowledged_none receipts

  told_none : {C I : Type 0} (t : ℕ) (request : Request B C I) (verdict : Verdict) → applied_in (told t request verdict) ≡ []
  told_none t (Verify u ancestry) Valid = refl
  told_none t (Verify u ancestry) Invalid = refl
  told_none t (Recover u context ancestry input kind) Valid = refl
  told_none t (Recover u context ancestry input kind) Invalid = refl

module _ {B C I P R D H G U : Type 0} (w : Workings B C I P R D H G U) where
  -- an equation of moments, read
  marked : (m now : exec.Moment w) (state : Tables B C I R U) (members : w.kind.Members) (ids : w.Ids) (added : List (Mark B))
      → now ≡ exec.moment w state members ids (m.marks ++ added) → applied_in added ≡ [] → AppliesNone m.marks now.marks
  marked m now state members ids added is nothing = AppliesNone-made m.marks now.marks added (ap (λ (n : exec.Moment w). n.marks) is) nothing

  concluded_none : (m : exec.Moment w) (t : ℕ) (r : Requested B C I) (verdict : Verdict) (now : exec.Moment w) → Concludes w m t r verdict now
      → AppliesNone m.marks now.marks
  concluded_none m t r verdict now is = marked m now _ _ _ _ is (told_none t r.request verdict)

  advances_none : (m : exec.Moment w) (t : ℕ) (r : Requested B C I) (path : Path B) (now : exec.Moment w) → Advances w m t r path now
      → AppliesNone m.marks now.marks
  advances_none m t r path now (arrives passed ends) = concluded_none m t r Valid now ends
  advances_none m t r path now (leaves reach out ends) = concluded_none m t r Invalid now ends
  advances_none m t r path now (joins j reach goes unknown has is) = marked m now _ _ _ [] is refl
  advances_none m t r path now (starts reach goes unknown unrun known l) = AppliesNone-made m.marks now.marks _ l.marks refl
  advances_none m t r path now (misses reach goes unknown unrun orphan ends) = concluded_none m t r Invalid now ends

  module _ (stored : ℕ → Option (Named B)) where
    pub acquires_none : (m : exec.Moment w) (t : ℕ) (r : Requested B C I) (now : exec.Moment w) → Acquires w stored m t r now
        → AppliesNone m.marks now.marks
    acquires_none m t r now (valid needs ends) = concluded_none m t r Valid now ends
    acquires_none m t r now (invalid needs ends) = concluded_none m t r Invalid now ends
    acquires_none m t r now (asks digest needs left is) = marked m now _ _ _ _ is refl
    acquires_none m t r now (waits needs is) = marked m now _ _ _ [] is refl
    acquires_none m t r now (runs {path = path} needs a) = advances_none m t (requested r.request) path now a

    along_none : (xs : List _) (m now : exec.Moment w) → InTurn (GoesAlong w) xs m now → AppliesNone m.marks now.marks
    along_none xs m now none = AppliesNone-same m.marks m.marks refl
    along_none xs m now (next {x = x} {n = n} a rest) =
        AppliesNone-then m.marks n.marks now.marks (advances_none m x.ticket (requested x.request) x.path n a) (along_none _ n now rest)

    anew_none : (xs : List _) (m now : exec.Moment w) → InTurn (AcquiresAnew w stored) xs m now → AppliesNone m.marks now.marks
    anew_none xs m now none = AppliesNone-same m.marks m.marks refl
    anew_none xs m now (next {x = x} {n = n} a rest) =
        AppliesNone-then m.marks n.marks now.marks (acquires_none m x.0 (requested x.1.request) n a) (anew_none _ n now rest)

    pub resumes_none : (m now : exec.Moment w) → Resumes w stored m now → AppliesNone m.marks now.marks
    resumes_none m now r =
        AppliesNone-then m.marks r.mid.marks now.marks (along_none (parked_in m.state.requests) (unparked w m) r.mid r.along)
        (anew_none (unacquired_in r.mid.state.requests) (unsettled w r.mid) now r.anew)

  pub hooks_none : (b : Named B) (hook : Hooked H) (old new : Tables B C I R U) (before now : List (Mark B)) (after : Option (Front B R U H)) (live : Bool)
      → HooksOn w b hook old new before now after live → AppliesNone before now
  hooks_none b hooked.Done old new before now after live h = AppliesNone-same before now h.1
  hooks_none b (hooked.Pending hook) old new before now after live h = AppliesNone-made before now _ h.2 refl
