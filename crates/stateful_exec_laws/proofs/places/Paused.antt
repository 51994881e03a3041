-- The marks of a pause have their cause: each names a live fetch.
use Rattle.std.proofs.Common.{◌≡◌, ◌≢◌, ◌⊎◌, inl, inr, ℕ, true, List, [], ◌∷◌, All, Any, Contains, Option, None, Some, map, sym, subst}
use Rattle.std.specs.List.{AllByRecursion}
use Rattle.std.specs.List.Sorted.{IsStrictlySortedBy}
use Rattle.std.specs.Ordering.{nat_cmp}
use Rattle.std.specs.declared.cmp.Ordering.TheVariants.{Less}
use Rattle.std.proofs.lemmas.List.Elements.{All-nil, All-cons, All-head, All-tail, All-weaker, All-contains, All-contains_itself}
use Rattle.std.proofs.lemmas.Map.Keys.{sorted_head, sorted_tail}
use Rattle.stateful_base.specs.Names.{Named}
use Rattle.stateful_base.specs.declared.digest.Digest.{Digest}
use Rattle.stateful_history.specs.Fetches.{IsBegan, MayWithdraw, WithdrawnHasCause}
use Rattle.stateful_history.specs.Live.{live_fetch}
use Rattle.stateful_history.specs.Past.{Past, Made, EachMark}
use Rattle.stateful_history.specs.Prunes.{PruneRule, HasPending}
use Rattle.stateful_history.specs.Setting.{Setting}
use Rattle.stateful_history.specs.declared.event.Event.{Event}
use Rattle.stateful_history.specs.declared.mark.Mark.{Mark}
use Rattle.stateful_history.specs.declared.mark.Mark.TheVariants.{Withdrawn}
use Rattle.stateful_exec_pause.specs.Boundary.{Boundary}
use Rattle.stateful_exec_tables.specs.Fetching.{IsLiveFetch}
use Rattle.stateful_exec_tables.specs.Pausing.{Pauses}
use Rattle.stateful_exec_model.specs.Workings.{Workings, Point}
use Rattle.stateful_exec_tables.specs.declared.state.Tables.{Tables}
use Rattle.stateful_exec_tables.specs.declared.tables.Phase.{Phase}
use Rattle.stateful_exec_tables.specs.declared.tables.Phase.TheVariants.{Fetching}
use Rattle.stateful_exec_tables.specs.declared.tables.Requested.{Requested}
use Rattle.stateful_exec_laws.specs.Setting.{setting}
use Rattle.stateful_exec_laws.specs.Requesting.{IsInPhase, IsStanding}
use Rattle.stateful_exec_laws.specs.Standing.{TablesStand}
use Rattle.stateful_exec_laws.proofs.ended.FollowStands.{below_apart}
use Rattle.stateful_exec_laws.proofs.runs.Removing.{differ}

module _ {B C I S T : Type 0} (s : Setting B S T) (rule : Option (PruneRule T)) (event : Event B C I) (all : List (Mark B)) where
  -- a finalization begins in the entry, or a prune is due
  abbrev pub Pauses_for : Past B C I → Type 0
  Pauses_for p = Any IsBegan all ⊎ HasPending s rule p

  pending-withdrawn : (r : Option (PruneRule T)) (g : ℕ) (p : Past B C I) → HasPending s r p → HasPending s r (Made (Withdrawn g) ∷ p)
  pending-withdrawn None g p h = h
  pending-withdrawn (Some r) g p h = h

  still_for : (g : ℕ) (p : Past B C I) → Pauses_for p → Pauses_for (Made (Withdrawn g) ∷ p)
  still_for g p (inl began) = inl began
  still_for g p (inr due) = inr (pending-withdrawn rule g p due)

  may_withdraw : (p : Past B C I) (f : ℕ) → Pauses_for p → MayWithdraw s rule event all p f
  may_withdraw p f (inl began) = inr (inr (inl began))
  may_withdraw p f (inr due) = inr (inr (inr due))

  live_still : (g : ℕ) (p : Past B C I) (fs : List ℕ) → AllByRecursion (λ f. nat_cmp g f ≡ Less) fs → All (λ f. live_fetch f p ≡ true) fs → All (λ f. live_fetch f (Made (Withdrawn g) ∷ p) ≡ true) fs
  live_still g p [] below live = All-nil (λ f. live_fetch f (Made (Withdrawn g) ∷ p) ≡ true)
  live_still g p (f ∷ fs) below live =
      let own : live_fetch f p ≡ true = All-head (λ x. live_fetch x p ≡ true) f fs live in
      let other : f ≢ g = λ same. below_apart g f below.0 (sym same) in
      All-cons (λ x. live_fetch x (Made (Withdrawn g) ∷ p) ≡ true) f fs (rw (differ f g (λ e. other (sym e))) own) (live_still g p fs below.1 (All-tail (λ x. live_fetch x p ≡ true) f fs live))

  withdrawn_each : (fs : List ℕ) (p : Past B C I) → IsStrictlySortedBy nat_cmp fs → All (λ f. live_fetch f p ≡ true) fs → Pauses_for p → EachMark (WithdrawnHasCause s rule event all) p (map (λ f. Withdrawn f) fs)
  withdrawn_each [] p sorted live cause = tt
  withdrawn_each (f ∷ fs) p sorted live cause = (
    (All-head (λ x. live_fetch x p ≡ true) f fs live, may_withdraw p f cause),
    withdrawn_each fs (Made (Withdrawn f) ∷ p) (sorted_tail nat_cmp f fs sorted) (live_still f p fs (sorted_head nat_cmp f fs sorted) (All-tail (λ x. live_fetch x p ≡ true) f fs live)) (still_for f p cause),
  )

module _ {B C I P R D H G U : Type 0} (w : Workings B C I P R D H G U) (stored : ℕ → Option (Named B)) (p : Past B C I) (points : Digest → Point w) (point : Point w) (next : w.Ids) (old : Tables B C I R U) (s : TablesStand w stored p points point next old) where
  live-fetched : (f : ℕ) → IsLiveFetch old f → live_fetch f p ≡ true
  live-fetched f any =
      let h : IsStanding w stored p old.runs any.1.0 any.1.1 = All-contains (λ (e : ℕ × Requested B C I). IsStanding w stored p old.runs e.0 e.1) old.requests any.1 s.requests.each (any.0, any.2, any.3) in
      let phase : IsInPhase w stored p old.runs any.1.0 any.1.1.request (Fetching f) = subst (λ (x : Phase B). IsInPhase w stored p old.runs any.1.0 any.1.1.request x) any.4 h.phase in
      phase.0

  -- each mark of a pause has its cause, where a finalization begins in its entry or a prune is due
  pub pauses-cause : (rule : Option (PruneRule w.Targets)) (event : Event B C I) (all marks : List (Mark B)) (boundary : Option Boundary) (new : Tables B C I R U) → Pauses_for (setting w stored) rule event all p → Pauses boundary old new marks
      → EachMark (WithdrawnHasCause (setting w stored) rule event all) p marks
  pauses-cause rule event all marks boundary new cause pauses =
      rw pauses.marks_are (withdrawn_each (setting w stored) rule event all pauses.fetches p pauses.are.ascending
      (All-weaker (λ (f : ℕ). Contains pauses.fetches f) (λ f. live_fetch f p ≡ true) (λ f among. live-fetched f ((pauses.are.each f).0 among)) pauses.fetches (All-contains_itself pauses.fetches)) cause)
