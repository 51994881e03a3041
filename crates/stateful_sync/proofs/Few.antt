-- How many dispatches can come without a further tip.
use Rattle.std.proofs.Common.{◌≡◌, ℕ, ◌+◌, ◌≤◌, true, Option, Some, None, List, [], ◌∷◌, length, set, get_or, All, refl, sym, ap, subst, ◌∙◌, arith, length-append}
use Rattle.std.proofs.lemmas.List.Elements.{All-set, All-map}
use Rattle.std.proofs.lemmas.Option.{none-some, slice_get_within, get_or_from_slice_get}
use Rattle.stateful_sync.specs.Assigned.{generation_of, is_reached, once_reached, once_marked, unless_assigned}
use Rattle.stateful_sync.specs.Coordinator.{Coordination, ChangesAt, Acts, goes_to_all, converges, regroups, goes_to_seeking, waits, Steps, reached, tipped, acted, marked, Call}
use Rattle.stateful_sync.specs.Laws.{Turn, Runs, tips, recorded, dispatches, dispatched}
use Rattle.stateful_sync.specs.declared.tip.Tip.{Tip}
use Rattle.stateful_sync.specs.declared.action.DbSyncState.{DbSyncState}
use Rattle.stateful_sync.specs.declared.action.DbSyncState.TheVariants.{Seeking, Reached}
use Rattle.stateful_sync.specs.declared.action.CoordinatorAction.{CoordinatorAction}
use Rattle.stateful_sync.proofs.Order.{KeepsNewest, reached_keeps, marked_keeps, assigned_unless_assigned}
use Rattle.stateful_sync.proofs.Runs.{both_empty}

same_reached : (n : ℕ) (d : DbSyncState) → is_reached d ≡ true → generation_of d ≡ n → d ≡ Reached n
same_reached n (Seeking h) e e' = absurd (cc)
same_reached n (Reached h) e e' = ap Reached e'

module _ {T : Type 0} where
  -- every database is assigned the newest generation
  abbrev pub AllNewest : Coordination T → Type 0
  AllNewest s = All (λ d. generation_of d ≡ s.newest.number) s.databases

  -- so many dispatches can come at most until a tip is recorded
  pub data AtMost (s : Coordination T) : ℕ → Type 0 where
    none : s.pending ≡ None → AllNewest s → AtMost s 0
    one : s.pending ≡ None → AtMost s 1
    two : AllNewest s → AtMost s 2
    three : AtMost s 3

  -- what one call dispatches, and how many can still come
  abbrev Falls : Coordination T → ℕ → ℕ → Type 0
  Falls next dispatched k = (j : ℕ) × AtMost next j × (dispatched + j ≤ k)

  changed_newest : (s : Coordination T) (index : ℕ) (change : DbSyncState → DbSyncState) (next : Coordination T) → KeepsNewest s.newest.number change
      → (at : ChangesAt s index change next) → AllNewest s → All (λ d. generation_of d ≡ s.newest.number) (set s.databases index (change at.before))
  changed_newest s index change next keeps at all =
      let n = s.newest.number in
      let here : generation_of at.before ≡ n = subst (λ d. generation_of d ≡ n) (get_or_from_slice_get s.databases index at.before at.before at.was) (all index at.before (slice_get_within s.databases index at.before at.was)) in
      All-set (λ d. generation_of d ≡ n) s.databases index (change at.before) (keeps.newest at.before here) all

  change_falls : (s : Coordination T) (index : ℕ) (change : DbSyncState → DbSyncState) (next : Coordination T) (k : ℕ) → KeepsNewest s.newest.number change
      → (at : ChangesAt s index change next) → AtMost s k → AtMost (record s { databases = set s.databases index (change at.before) }) k
  change_falls s index change next k keeps at (none pending all) = none pending (changed_newest s index change next keeps at all)
  change_falls s index change next k keeps at (one pending) = one pending
  change_falls s index change next k keeps at (two all) = two (changed_newest s index change next keeps at all)
  change_falls s index change next k keeps at three = three

  -- a tip goes out: it was pending, so two or three could come
  all_goes : (s : Coordination T) (tip : Tip T) (next : Coordination T) (k : ℕ) → s.pending ≡ Some tip → next.pending ≡ None → AllNewest next → AtMost s k → Falls next 1 k
  all_goes s tip next k some after all (none pending newest) = absurd (none-some tip (sym pending ∙ some))
  all_goes s tip next k some after all (one pending) = absurd (none-some tip (sym pending ∙ some))
  all_goes s tip next k some after all (two newest) = (0, none after all, omega arith)
  all_goes s tip next k some after all three = (0, none after all, omega arith)

  some_goes : (s : Coordination T) (tip : Tip T) (next : Coordination T) (k : ℕ) → s.pending ≡ Some tip → next.pending ≡ None → AtMost s k → Falls next 1 k
  some_goes s tip next k some after (none pending newest) = absurd (none-some tip (sym pending ∙ some))
  some_goes s tip next k some after (one pending) = absurd (none-some tip (sym pending ∙ some))
  some_goes s tip next k some after (two newest) = (1, one after, omega arith)
  some_goes s tip next k some after three = (1, one after, omega arith)

  -- those that are apart aren't all assigned the newest generation
  apart_falls : (s next : Coordination T) (k : ℕ) → (AllNewest s → ⊥) → next.pending ≡ s.pending → AllNewest next → AtMost s k → Falls next 1 k
  apart_falls s next k apart same all (none pending newest) = absurd (apart newest)
  apart_falls s next k apart same all (one pending) = (0, none (same ∙ pending) all, omega arith)
  apart_falls s next k apart same all (two newest) = absurd (apart newest)
  apart_falls s next k apart same all three = (2, two all, omega arith)

  acts_fall : (s next : Coordination T) (action : CoordinatorAction T) (k : ℕ) → Acts s action next → AtMost s k → Falls next (length (dispatched (Some action))) k
  acts_fall s next action k (goes_to_all {g = g} {tip = tip} all pending) most =
      all_goes s tip _ k pending refl (All-map (λ d. generation_of d ≡ s.newest.number + 1) (λ d. Seeking (s.newest.number + 1)) s.databases (λ i d lt. refl)) most
  acts_fall s next action k (converges {g = g} all pending) most = (k, most, omega arith)
  acts_fall s next action k (regroups all apart) most =
      let n = s.newest.number in
      apart_falls s _ k (λ newest. apart n (λ i d lt. same_reached n (get_or s.databases i d) (all i d lt) (newest i d lt))) refl
      (All-map (λ d. generation_of d ≡ n) (unless_assigned n) s.databases (λ i d lt. assigned_unless_assigned n (get_or s.databases i d))) most
  acts_fall s next action k (goes_to_seeking {tip = tip} any pending) most = some_goes s tip _ k pending refl most
  acts_fall s next action k (waits any pending) most = (k, most, omega arith)

  step_falls : (s next : Coordination T) (call : Call T) (answer : Option (CoordinatorAction T)) (k : ℕ) → Steps s call answer next → recorded call ≡ [] → AtMost s k
      → Falls next (length (dispatched answer)) k
  step_falls s next call answer k (reached {index = index} {g = g} at) unrecorded most =
      (k, subst (λ w. AtMost w k) (sym at.is) (change_falls s index (once_reached g) next k (reached_keeps s.newest.number g) at most), omega arith)
  step_falls s next call answer k (tipped taken) unrecorded most = absurd (cc)
  step_falls s next call answer k (acted {action = action} acts) unrecorded most = acts_fall s next action k acts most
  step_falls s next call answer k (marked {index = index} {g = g} newest at) unrecorded most =
      (k, subst (λ w. AtMost w k) (sym at.is) (change_falls s index (once_marked g) next k (subst (λ n. KeepsNewest n (once_marked g)) newest (marked_keeps g)) at most), omega arith)

  -- without a further tip no more come
  pub few : (turns : List (Turn T)) (s last : Coordination T) (k : ℕ) → Runs s turns last → tips turns ≡ [] → AtMost s k → length (dispatches turns) ≤ k
  few [] s last k runs unrecorded most = omega arith
  few (turn ∷ turns) s last k runs unrecorded most =
      let parts = both_empty (recorded turn.call) (tips turns) unrecorded in
      let (j, fewer, falls) = step_falls s turn.after turn.call turn.answer k runs.0 parts.0 most in
      let rest = few turns turn.after last j runs.1 parts.1 fewer in
      omega (arith, length-append (dispatched turn.answer) (dispatches turns))
