-- What keeps a coordinator in order.
use Rattle.std.proofs.Common.{◌≡◌, ℕ, ◌+◌, ◌<◌, ◌≤◌, ◌==◌, Bool, true, false, ⊎_elim, Option, Some, None, List, map, set, get_or, length, replicate, All, refl, sym, ap, subst, ◌∙◌, arith}
use Rattle.std.specs.Prelude.{slice_get, if◌then◌else◌, unwrap_or, IsTrue, not}
use Rattle.std.specs.List.{Any}
use Rattle.std.proofs.lemmas.Bool.{eqb-true}
use Rattle.std.proofs.lemmas.List.Elements.{All-set, All-map, All-replicate}
use Rattle.std.proofs.lemmas.List.{length-replicate, get_or-replicate}
use Rattle.std.proofs.lemmas.Option.{none-some, same_Some, get_or_from_slice_get, slice_get_within, slice_get-get_or}
use Rattle.stateful_sync.specs.Assigned.{generation_of, is_reached, once_reached, once_marked, unless_reached, unless_assigned, StandAs}
use Rattle.stateful_sync.specs.Coordinator.{Coordination, IsInOrder, ChangesAt, TakesTip, takes, ignores, Acts, goes_to_all, converges, regroups, goes_to_seeking, waits, Steps, reached, tipped, acted, marked, Call, height_of, latest, AllReached, NeedsNumber, Seeks, dispatch, next_generation}
use Rattle.stateful_sync.specs.declared.tip.Tip.{Tip}
use Rattle.stateful_sync.specs.declared.action.DbSyncState.{DbSyncState}
use Rattle.stateful_sync.specs.declared.action.DbSyncState.TheVariants.{Seeking, Reached}
use Rattle.stateful_sync.specs.declared.action.Standing.TheVariants.{Together, Apart, OnTheWay}
use Rattle.stateful_sync.specs.declared.action.Generation.{Generation}
use Rattle.stateful_sync.specs.declared.action.CoordinatorAction.{CoordinatorAction}
use Rattle.stateful_sync.proofs.Lists.{any_changed, any_map, none_passes}

-- the generation that is assigned then
pub assigned_once_reached : (g : ℕ) (d : DbSyncState) → generation_of (once_reached g d) ≡ generation_of d
assigned_once_reached g d = go (generation_of d == g) refl
  where
    go : (b : Bool) → (generation_of d == g) ≡ b → generation_of (if b then Reached g else d) ≡ generation_of d
    go true e = sym (eqb-true (generation_of d) g e)
    go false e = refl

pub assigned_unless_assigned : (g : ℕ) (d : DbSyncState) → generation_of (unless_assigned g d) ≡ g
assigned_unless_assigned g d = go (generation_of d == g) refl
  where
    go : (b : Bool) → (generation_of d == g) ≡ b → generation_of (if b then d else Seeking g) ≡ g
    go true e = eqb-true (generation_of d) g e
    go false e = refl

pub bounded_unless_reached : (g : ℕ) (d : DbSyncState) → generation_of d ≤ g → generation_of (unless_reached g d) ≤ g
bounded_unless_reached g (Seeking h) le = omega arith
bounded_unless_reached g (Reached h) le = le

pub assigned_unless_reached : (g : ℕ) (d : DbSyncState) → is_reached d ≡ false → generation_of (unless_reached g d) ≡ g
assigned_unless_reached g (Seeking h) e = refl
assigned_unless_reached g (Reached h) e = absurd (cc)

all_assigned : (g : ℕ) (ds : List DbSyncState) → All (λ d. d ≡ Reached g) ds → All (λ d. generation_of d ≡ g) ds
all_assigned g ds all k d lt = ap generation_of (all k d lt)

-- a change that keeps whether a database is assigned the newest generation
pub record KeepsNewest (n : ℕ) (change : DbSyncState → DbSyncState) : Type 0 where
  pub newest : (d : DbSyncState) → generation_of d ≡ n → generation_of (change d) ≡ n
  pub bounds : (d : DbSyncState) → generation_of d ≤ n → generation_of (change d) ≤ n

pub reached_keeps : (n g : ℕ) → KeepsNewest n (once_reached g)
reached_keeps n g = record { newest = λ d e. assigned_once_reached g d ∙ e; bounds = λ d le. rw assigned_once_reached le }

marked_newest : (n : ℕ) (d : DbSyncState) → generation_of d ≡ n → generation_of (once_marked n d) ≡ n
marked_newest n (Seeking h) e = e
marked_newest n (Reached h) e = refl

marked_bounds : (n : ℕ) (d : DbSyncState) → generation_of d ≤ n → generation_of (once_marked n d) ≤ n
marked_bounds n (Seeking h) le = le
marked_bounds n (Reached h) le = omega arith

pub marked_keeps : (n : ℕ) → KeepsNewest n (once_marked n)
marked_keeps n = record { newest = marked_newest n; bounds = marked_bounds n }

module _ {T : Type 0} where
  -- a change at one place, from what is read there
  pub changes_at : (s : Coordination T) (index : ℕ) (change : DbSyncState → DbSyncState) (d result : DbSyncState)
      → index < length s.databases → result ≡ change (get_or s.databases index d)
      → ChangesAt s index change (record s { databases = set s.databases index result })
  changes_at s index change d result lt is = record {
    before = get_or s.databases index d;
    was = slice_get-get_or s.databases index d lt;
    is = ap (λ x. record s { databases = set s.databases index x }) is;
  }

  pub change_in_order : (s next : Coordination T) (index : ℕ) (change : DbSyncState → DbSyncState)
      → KeepsNewest s.newest.number change → ChangesAt s index change next → IsInOrder s → IsInOrder next
  change_in_order s next index change keeps at order =
      let n = s.newest.number in
      let bound : generation_of at.before ≤ n = subst (λ d. generation_of d ≤ n) (get_or_from_slice_get s.databases index at.before at.before at.was) (order.bounds index at.before (slice_get_within s.databases index at.before at.was)) in
      subst IsInOrder (sym at.is) (record {
        greatest = any_changed (λ d. generation_of d ≡ n) s.databases index (change at.before) at.before at.was (keeps.newest at.before) order.greatest;
        bounds = All-set (λ d. generation_of d ≤ n) s.databases index (change at.before) (keeps.bounds at.before bound) order.bounds;
        higher = order.higher;
      })

  -- what was dispatched last is no higher than what is dispatched next
  pub latest_above : (s : Coordination T) → IsInOrder s → height_of s.newest.tip ≤ height_of (latest s)
  latest_above s order = go s.pending refl
    where
      go : (o : Option (Tip T)) → s.pending ≡ o → height_of s.newest.tip ≤ height_of (unwrap_or o s.newest.tip)
      go None e = omega arith
      go (Some tip) e = let above = order.higher tip e in omega arith

  pub takes_in_order : (s next : Coordination T) (tip : Tip T) → TakesTip s tip next → IsInOrder s → IsInOrder next
  takes_in_order s next tip (takes above) order =
      let last = latest_above s order in
      record {
        greatest = order.greatest;
        bounds = order.bounds;
        higher = λ other e. subst (λ (w : Tip T). height_of s.newest.tip < height_of w) (same_Some tip other e) (omega arith);
      }
  takes_in_order s next tip (ignores below) order = order

  pub acts_in_order : (s next : Coordination T) (action : CoordinatorAction T) → Acts s action next → IsInOrder s → IsInOrder next
  acts_in_order s next action (goes_to_all {g = g} {tip = tip} all pending) order =
      let n = s.newest.number + 1 in
      let (k, x, lt, is, e) = order.greatest in
      record {
        greatest = any_map (λ d. generation_of d ≡ n) (λ d. Seeking n) s.databases (k, x, lt, is, refl);
        bounds = All-map (λ d. generation_of d ≤ n) (λ d. Seeking n) s.databases (λ k d lt. omega arith);
        higher = λ other e. absurd (none-some other e);
      }
  acts_in_order s next action (converges {g = g} all pending) order = order
  acts_in_order s next action (regroups all apart) order =
      let n = s.newest.number in
      let (k, x, lt, is, e) = order.greatest in
      record {
        greatest = any_map (λ d. generation_of d ≡ n) (unless_assigned n) s.databases (k, x, lt, is, assigned_unless_assigned n x);
        bounds = All-map (λ d. generation_of d ≤ n) (unless_assigned n) s.databases (λ k d lt. rw assigned_unless_assigned (omega arith));
        higher = order.higher;
      }
  acts_in_order s next action (goes_to_seeking {tip = tip} any pending) order =
      let n = s.newest.number + 1 in
      let (k, x, lt, is, e) = any in
      record {
        greatest = any_map (λ d. generation_of d ≡ n) (unless_reached n) s.databases (k, x, lt, is, assigned_unless_reached n x e);
        bounds = All-map (λ d. generation_of d ≤ n) (unless_reached n) s.databases (λ k d lt. bounded_unless_reached n (get_or s.databases k d) (let le = order.bounds k d lt in omega arith));
        higher = λ other e. absurd (none-some other e);
      }
  acts_in_order s next action (waits any pending) order = order

  pub step_in_order : (s next : Coordination T) (call : Call T) (answer : Option (CoordinatorAction T)) → Steps s call answer next → IsInOrder s → IsInOrder next
  step_in_order s next call answer (reached {index = index} {g = g} at) order = change_in_order s next index (once_reached g) (reached_keeps s.newest.number g) at order
  step_in_order s next call answer (tipped taken) order = takes_in_order s next _ taken order
  step_in_order s next call answer (acted {action = action} acts) order = acts_in_order s next action acts order
  step_in_order s next call answer (marked {index = index} {g = g} newest at) order =
      change_in_order s next index (once_marked g) (subst (λ n. KeepsNewest n (once_marked g)) newest (marked_keeps g)) at order

  -- the one generation that all have reached is the newest
  pub one_is_newest : (s : Coordination T) (g : ℕ) → AllReached s g → IsInOrder s → g ≡ s.newest.number
  one_is_newest s g all order =
      let (k, x, lt, is, e) = order.greatest in
      let here : x ≡ Reached g = sym is ∙ all k x lt in
      sym (ap generation_of here) ∙ e

  -- what is done, by where the databases stand
  pub acts_together : (s : Coordination T) (tip : Tip T) (databases : List DbSyncState) (newest : Generation T)
      → StandAs s.databases s.newest.number Together → s.pending ≡ Some tip
      → newest ≡ next_generation s.newest tip → databases ≡ map (λ d. Seeking newest.number) s.databases
      → Acts s (dispatch newest) (record { databases = databases; newest = newest; pending = None })
  acts_together s tip databases newest stand pending is are =
      let here : databases ≡ map (λ d. Seeking (s.newest.number + 1)) s.databases = are ∙ ap (λ (w : Generation T). map (λ d. Seeking w.number) s.databases) is in
      rw (here, is) (goes_to_all {g = s.newest.number} {tip = tip} stand pending)

  pub acts_on_the_way : (s : Coordination T) (tip : Tip T) (databases : List DbSyncState) (newest : Generation T)
      → StandAs s.databases s.newest.number OnTheWay → s.pending ≡ Some tip
      → newest ≡ next_generation s.newest tip → databases ≡ map (unless_reached newest.number) s.databases
      → Acts s (dispatch newest) (record { databases = databases; newest = newest; pending = None })
  acts_on_the_way s tip databases newest stand pending is are =
      let here : databases ≡ map (unless_reached (s.newest.number + 1)) s.databases = are ∙ ap (λ (w : Generation T). map (unless_reached w.number) s.databases) is in
      rw (here, is) (goes_to_seeking {tip = tip} stand pending)

  -- all are apart, so they haven't all reached one generation
  pub not_together : (s : Coordination T) → IsInOrder s → StandAs s.databases s.newest.number Apart → (g : ℕ) → AllReached s g → ⊥
  not_together s order stand g all =
      stand.1 (subst (λ n. All (λ d. generation_of d ≡ n) s.databases) (one_is_newest s g all order) (all_assigned g s.databases all))

  pub acts_apart : (s : Coordination T) (databases : List DbSyncState)
      → IsInOrder s → StandAs s.databases s.newest.number Apart
      → databases ≡ map (unless_assigned s.newest.number) s.databases
      → Acts s (dispatch s.newest) (record s { databases = databases })
  acts_apart s databases order stand are = rw are (regroups stand.0 (not_together s order stand))

  -- no new generation is needed where they are apart
  pub apart_needs_none : (s : Coordination T) → IsInOrder s → StandAs s.databases s.newest.number Apart → NeedsNumber s → ⊥
  apart_needs_none s order stand needs = ⊎_elim
      (λ (one : (g : ℕ) × AllReached s g). not_together s order stand one.0 one.1)
      (λ (any : Any (λ d. is_reached d ≡ false) s.databases). none_passes is_reached s.databases any stand.0)
      needs.case

  -- a database that is seeking, by what is read at its place
  pub seeks_by : (s : Coordination T) (index : ℕ) (d : DbSyncState) → slice_get s.databases index ≡ Some d
      → (IsTrue (not (is_reached d)) → Seeks s index) × (Seeks s index → IsTrue (not (is_reached d)))
  seeks_by s index (Seeking g) at = (λ e. (g, at), λ h. refl)
  seeks_by s index (Reached g) at = (λ e. absurd (cc), λ h. let same = same_Some _ _ (sym h.1 ∙ at) in absurd (cc))

  -- what a coordinator begins with is in order
  pub start_in_order : (count : ℕ) (tip : Tip T) (databases : List DbSyncState) → 1 ≤ count → databases ≡ replicate count (Seeking 0)
      → IsInOrder (record { databases = databases; newest = record { number = 0; tip = tip }; pending = None })
  start_in_order count tip databases some are = rw are (record {
    greatest = (0, Seeking 0, rw length-replicate some, get_or-replicate count 0 (Seeking 0) (Seeking 0) some, refl);
    bounds = All-replicate (λ d. generation_of d ≤ 0) count (Seeking 0) (omega arith);
    higher = λ other e. absurd (none-some other e);
  })
