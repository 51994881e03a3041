-- What is refused, and what isn't.
use Rattle.std.proofs.Common.{◌≡◌, ◌≢◌, ℕ, ◌≤◌, ◌⊎◌, ⊎_elim, inl, inr, Result, Ok, Err, List, [], ◌∷◌, ◌++◌, map, refl, sym, ap, subst, ◌∙◌, arith}
use Rattle.std.specs.Prelude.{IfOk, IfErr, IsErrOf}
use Rattle.std.specs.Ordering.{nat_cmp}
use Rattle.std.specs.declared.cmp.Ordering.{Ordering}
use Rattle.std.specs.declared.cmp.Ordering.TheVariants.{Less, Equal, Greater}
use Rattle.std.specs.List.Sorted.{IsPermutation}
use Rattle.stateful_base.specs.Names.{Header, Named}
use Rattle.stateful_base.specs.declared.anchor.Anchor.{Anchor}
use Rattle.stateful_sync.specs.Classify.{anchored, place_of, Passes, below, again, further, Refuses, conflicts, skips, Leads, RefusesAt, IsByHeight, IsRefusal, IsClassified, height_at, handover_at, handover_by, retained_of}
use Rattle.stateful_sync.specs.declared.handover.Handover.{Handover}
use Rattle.stateful_sync.specs.declared.handover.Point.{Point}
use Rattle.stateful_sync_plan.specs.declared.error.SyncError.{SyncError}
use Rattle.stateful_sync_plan.specs.declared.error.SyncError.TheVariants.{Database, TargetMismatch, MissingBlock, CompletedConflict, SkippedHeight, ConflictAtAnchor, OutOfMemory}
use Rattle.stateful_sync.proofs.Sorting.{one_by_height}

module _ {B : Type 0} (header : Header B) (anchor : Anchor) where
  height_again : (b : Named B) (last : Point) → place_of header b ≡ last → header.height b.block ≡ last.height.0
  height_again b last same = ap (λ (p : Point). p.height.0) same

  -- from a place at or above the anchor a block leads to one place at most
  passes_once : (last : Point) (b : Named B) (p q : Point) → anchor.height.0 ≤ last.height.0 → Passes header anchor last b p → Passes header anchor last b q → p ≡ q
  passes_once last b p q reached (below under) (below under') = refl
  passes_once last b p q reached (below under) (again same) = refl
  passes_once last b p q reached (below under) (further next) = absurd (omega arith)
  passes_once last b p q reached (again same) (below under) = refl
  passes_once last b p q reached (again same) (again same') = refl
  passes_once last b p q reached (again same) (further next) = let h = height_again b last same in absurd (omega arith)
  passes_once last b p q reached (further next) (below under) = absurd (omega arith)
  passes_once last b p q reached (further next) (again same) = let h = height_again b last same in absurd (omega arith)
  passes_once last b p q reached (further next) (further next') = refl

  passes_reaches : (last : Point) (b : Named B) (p : Point) → anchor.height.0 ≤ last.height.0 → Passes header anchor last b p → anchor.height.0 ≤ p.height.0
  passes_reaches last b p reached (below under) = reached
  passes_reaches last b p reached (again same) = reached
  passes_reaches last b p reached (further next) = omega arith

  -- and it isn't refused there
  passes_unrefused : (last : Point) (b : Named B) (p : Point) (error : SyncError) → anchor.height.0 ≤ last.height.0 → Passes header anchor last b p → Refuses header last b error → ⊥
  passes_unrefused last b p error reached (below under) (conflicts level apart) = omega arith
  passes_unrefused last b p error reached (below under) (skips above) = omega arith
  passes_unrefused last b p error reached (again same) (conflicts level apart) = apart (ap (λ (p : Point). p.digest) same)
  passes_unrefused last b p error reached (again same) (skips above) = let h = height_again b last same in omega arith
  passes_unrefused last b p error reached (further next) (conflicts level apart) = omega arith
  passes_unrefused last b p error reached (further next) (skips above) = omega arith

  -- it is refused for one cause
  refused_once : (last : Point) (b : Named B) (e f : SyncError) → Refuses header last b e → Refuses header last b f → e ≡ f
  refused_once last b e f (conflicts level apart) (conflicts level' apart') = refl
  refused_once last b e f (conflicts level apart) (skips above) = absurd (omega arith)
  refused_once last b e f (skips above) (conflicts level apart) = absurd (omega arith)
  refused_once last b e f (skips above) (skips above') = refl

  -- where all lead on, none is refused
  leads_unrefused : (front : List (ℕ × Named B)) (one : ℕ × Named B) (back : List (ℕ × Named B)) (first last end : Point) (error : SyncError)
      → anchor.height.0 ≤ first.height.0 → Leads header anchor first (front ++ one ∷ back) end → Leads header anchor first front last → Refuses header last one.1 error → ⊥
  leads_unrefused [] one back first last end error reached whole part cause =
      passes_unrefused first one.1 whole.0 error reached whole.1 (subst (λ w. Refuses header w one.1 error) part cause)
  leads_unrefused (x ∷ front) one back first last end error reached whole part cause =
      let same = passes_once first x.1 whole.0 part.0 reached whole.1 part.1 in
      leads_unrefused front one back part.0 last end error (passes_reaches first x.1 part.0 reached part.1)
      (subst (λ w. Leads header anchor w (front ++ one ∷ back) end) same whole.2) part.2 cause

  -- the first that is refused is one
  first_once : (front : List (ℕ × Named B)) (one : ℕ × Named B) (back front' : List (ℕ × Named B)) (one' : ℕ × Named B) (back' : List (ℕ × Named B)) (first last last' : Point) (e f : SyncError)
      → anchor.height.0 ≤ first.height.0 → front ++ one ∷ back ≡ front' ++ one' ∷ back'
      → Leads header anchor first front last → Refuses header last one.1 e
      → Leads header anchor first front' last' → Refuses header last' one'.1 f → e ≡ f
  first_once [] one back [] one' back' first last last' e f reached place leads cause leads' cause' =
      let same : one ≡ one' = cc in
      refused_once first one.1 e f (subst (λ w. Refuses header w one.1 e) leads cause)
      (subst (λ (w : ℕ × Named B). Refuses header first w.1 f) (sym same) (subst (λ w. Refuses header w one'.1 f) leads' cause'))
  first_once [] one back (x ∷ front') one' back' first last last' e f reached place leads cause leads' cause' =
      let same : one ≡ x = cc in
      absurd (passes_unrefused first x.1 leads'.0 e reached leads'.1 (subst (λ (w : ℕ × Named B). Refuses header first w.1 e) same (subst (λ w. Refuses header w one.1 e) leads cause)))
  first_once (x ∷ front) one back [] one' back' first last last' e f reached place leads cause leads' cause' =
      let same : one' ≡ x = cc in
      absurd (passes_unrefused first x.1 leads.0 f reached leads.1 (subst (λ (w : ℕ × Named B). Refuses header first w.1 f) same (subst (λ w. Refuses header w one'.1 f) leads' cause')))
  first_once (x ∷ front) one back (y ∷ front') one' back' first last last' e f reached place leads cause leads' cause' =
      let same : y ≡ x = cc in
      let passes = subst (λ (w : ℕ × Named B). Passes header anchor first w.1 leads'.0) same leads'.1 in
      let next = passes_once first x.1 leads'.0 leads.0 reached passes leads.1 in
      first_once front one back front' one' back' leads.0 last last' e f (passes_reaches first x.1 leads.0 reached leads.1) (cc) leads.2 cause
      (subst (λ w. Leads header anchor w front' last') next leads'.2) cause'

  refused_at_once : (xs ys : List (ℕ × Named B)) (e f : SyncError) → xs ≡ ys → RefusesAt header anchor xs e → RefusesAt header anchor ys f → e ≡ f
  refused_at_once xs ys e f same one other =
      first_once one.front one.one one.back other.front other.one other.back (anchored anchor) one.last other.last e f (omega arith)
      (sym one.place ∙ same ∙ other.place) one.leads one.cause other.leads other.cause

  unless_memory : (e : SyncError) → (e ≡ OutOfMemory) ⊎ (e ≢ OutOfMemory)
  unless_memory (Database index) = inr (λ e. cc)
  unless_memory (TargetMismatch index expected recovered) = inr (λ e. cc)
  unless_memory (MissingBlock missing) = inr (λ e. cc)
  unless_memory (CompletedConflict height recorded given) = inr (λ e. cc)
  unless_memory (SkippedHeight expected given) = inr (λ e. cc)
  unless_memory (ConflictAtAnchor expected given) = inr (λ e. cc)
  unless_memory OutOfMemory = inl refl

  -- a cause is told, unless memory ran out
  pub exactly : {A : Type 0} (retained sorted : List (ℕ × Named B)) (result : Result A SyncError)
      → IsByHeight header retained sorted
      → IfOk result (λ a. (last : Point) × Leads header anchor (anchored anchor) sorted last)
      → IfErr result (λ e. e ≢ OutOfMemory → RefusesAt header anchor sorted e)
      → (error : SyncError) → IsRefusal header anchor retained error → IsErrOf result error ⊎ IsErrOf result OutOfMemory
  exactly retained sorted (Ok a) order leads refused error refusal =
      let same : refusal.sorted ≡ sorted = one_by_height header retained refusal.sorted sorted refusal.order order in
      let place = sym same ∙ refusal.refused.place in
      absurd (leads_unrefused refusal.refused.front refusal.refused.one refusal.refused.back (anchored anchor) refusal.refused.last leads.0 error (omega arith)
      (subst (λ w. Leads header anchor (anchored anchor) w leads.0) place leads.1) refusal.refused.leads refusal.refused.cause)
  exactly retained sorted (Err e) order leads refused error refusal = ⊎_elim
      (λ (memory : e ≡ OutOfMemory). inr (ap Err memory))
      (λ (other : e ≢ OutOfMemory).
      inl (ap Err (refused_at_once sorted refusal.sorted e error (one_by_height header retained sorted refusal.sorted order refusal.order) (refused other) refusal.refused)))
      (unless_memory e)

  -- each block is there behind its name for what becomes of it
  retained_by : (order : Ordering) (one : ℕ × Named B) → retained_of (handover_by order one.0 one.1) ≡ one
  retained_by Less one = refl
  retained_by Equal one = refl
  retained_by Greater one = refl

  retained_all : (xs : List (ℕ × Named B)) → map retained_of (map (handover_at header anchor) xs) ≡ xs
  retained_all [] = refl
  retained_all (x ∷ xs) = ap (λ w. w ∷ map retained_of (map (handover_at header anchor) xs)) (retained_by (nat_cmp (height_at header x) anchor.height.0) x) ∙ ap (λ w. x ∷ w) (retained_all xs)

  module _ {A : Type 0} (items : A → List (Handover B)) (retained sorted : List (ℕ × Named B)) (order : IsByHeight header retained sorted) where
    -- what is answered for blocks by their heights is answered for them as they were retained
    pub classified_by : (result : Result A SyncError)
        → IfOk result (λ a. items a ≡ map (handover_at header anchor) sorted)
        → IfOk result (λ a. (last : Point) × Leads header anchor (anchored anchor) sorted last)
        → IfOk result (λ a. IsClassified header anchor retained (items a))
    classified_by (Ok a) are leads = record { sorted = sorted; order = order; last = leads.0; leads = leads.1; are = are }
    classified_by (Err e) are leads = are

    pub kept_by : (result : Result A SyncError) → IfOk result (λ a. items a ≡ map (handover_at header anchor) sorted)
        → IfOk result (λ a. IsPermutation retained (map retained_of (items a)))
    kept_by (Ok a) are = rw (are, retained_all) order.same
    kept_by (Err e) are = are

    pub refused_by : (result : Result A SyncError) → IfErr result (λ e. e ≢ OutOfMemory → RefusesAt header anchor sorted e)
        → IfErr result (λ e. e ≢ OutOfMemory → IsRefusal header anchor retained e)
    refused_by (Ok a) refused = refused
    refused_by (Err e) refused = λ other. record { sorted = sorted; order = order; refused = refused other }
