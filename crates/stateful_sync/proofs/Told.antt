-- What a coordinator's state tells of the calls before.
use Rattle.std.proofs.Common.{◌≡◌, ℕ, ◌+◌, ◌≤◌, ◌==◌, Bool, true, false, ◌⊎◌, inl, inr, ⊎_elim, Option, Some, None, List, [], ◌∷◌, ◌++◌, length, map, set, All, Contains, refl, sym, ap, subst, ◌∙◌, arith, length-set}
use Rattle.std.specs.Prelude.{slice_get, if◌then◌else◌}
use Rattle.std.proofs.lemmas.Bool.{eqb-true}
use Rattle.std.proofs.lemmas.List.{append-nil, length-map}
use Rattle.std.proofs.lemmas.List.Elements.{All-nil, All-append, All-cons, All-weaker, Contains-push, Contains-append_left}
use Rattle.std.proofs.lemmas.Option.{none-some, same_Some}
use Rattle.stateful_base.specs.declared.anchor.Anchor.{Anchor}
use Rattle.stateful_sync.specs.Assigned.{generation_of, once_reached, once_marked, unless_reached, unless_assigned}
use Rattle.stateful_sync.specs.Coordinator.{Coordination, IsInOrder, ChangesAt, TakesTip, takes, ignores, Acts, goes_to_all, converges, regroups, goes_to_seeking, waits, Steps, reached, tipped, acted, marked, Call, record_reached, record_tip_update, next_action, mark_reached_same_target, height_of, tip_of, latest, next_generation, dispatch}
use Rattle.stateful_sync.specs.Laws.{Turn, tips, recorded, dispatches, dispatched, last_of, last_dispatch, IsGiven, at_start, by_dispatch, HasReached, by_itself, by_target}
use Rattle.stateful_sync.specs.declared.tip.Tip.{Tip}
use Rattle.stateful_sync.specs.declared.action.Generation.{Generation}
use Rattle.stateful_sync.specs.declared.action.DbSyncState.{DbSyncState}
use Rattle.stateful_sync.specs.declared.action.DbSyncState.TheVariants.{Seeking, Reached}
use Rattle.stateful_sync.specs.declared.action.CoordinatorAction.{CoordinatorAction}
use Rattle.stateful_sync.proofs.Lists.{at_mapped, at_changed}
use Rattle.stateful_sync.proofs.Order.{step_in_order}
use Rattle.stateful_sync.proofs.Runs.{turn_of, last_of_push, tips_push, dispatches_push, stands_more, stands_last}

-- which generation was assigned before
seeks_before_reached : (g h : ℕ) (d : DbSyncState) → once_reached g d ≡ Seeking h → d ≡ Seeking h
seeks_before_reached g h d e = go (generation_of d == g) e
  where
    go : (b : Bool) → (if b then Reached g else d) ≡ Seeking h → d ≡ Seeking h
    go true e = absurd (cc)
    go false e = e

-- it was said to be reached, or was
reached_before : (g h : ℕ) (d : DbSyncState) → once_reached g d ≡ Reached h → (d ≡ Reached h) ⊎ ((d ≡ Seeking h) × (g ≡ h))
reached_before g h d e = go (generation_of d == g) refl e
  where
    by_same : (d : DbSyncState) → generation_of d ≡ g → g ≡ h → (d ≡ Reached h) ⊎ ((d ≡ Seeking h) × (g ≡ h))
    by_same (Seeking k) is same = inr (ap Seeking (is ∙ same), same)
    by_same (Reached k) is same = inl (ap Reached (is ∙ same))

    go : (b : Bool) → (generation_of d == g) ≡ b → (if b then Reached g else d) ≡ Reached h → (d ≡ Reached h) ⊎ ((d ≡ Seeking h) × (g ≡ h))
    go true is e = by_same d (eqb-true (generation_of d) g is) cc
    go false is e = inl e

seeks_before_marked : (g h : ℕ) (d : DbSyncState) → once_marked g d ≡ Seeking h → d ≡ Seeking h
seeks_before_marked g h (Seeking k) e = e
seeks_before_marked g h (Reached k) e = absurd (cc)

marked_before : (g h : ℕ) (d : DbSyncState) → once_marked g d ≡ Reached h → (k : ℕ) × (d ≡ Reached k) × (g ≡ h)
marked_before g h (Seeking k) e = absurd (cc)
marked_before g h (Reached k) e = (k, refl, cc)

sought_unless_reached : (g h : ℕ) (d : DbSyncState) → unless_reached g d ≡ Seeking h → h ≡ g
sought_unless_reached g h (Seeking k) e = cc
sought_unless_reached g h (Reached k) e = absurd (cc)

reached_unless_reached : (g h : ℕ) (d : DbSyncState) → unless_reached g d ≡ Reached h → d ≡ Reached h
reached_unless_reached g h (Seeking k) e = absurd (cc)
reached_unless_reached g h (Reached k) e = e

sought_unless_assigned : (g h : ℕ) (d : DbSyncState) → unless_assigned g d ≡ Seeking h → h ≡ g
sought_unless_assigned g h d e = go (generation_of d == g) refl e
  where
    go : (b : Bool) → (generation_of d == g) ≡ b → (if b then d else Seeking g) ≡ Seeking h → h ≡ g
    go true is e = sym (ap generation_of e) ∙ eqb-true (generation_of d) g is
    go false is e = cc

reached_unless_assigned : (g h : ℕ) (d : DbSyncState) → unless_assigned g d ≡ Reached h → d ≡ Reached h
reached_unless_assigned g h d e = go (generation_of d == g) e
  where
    go : (b : Bool) → (if b then d else Seeking g) ≡ Reached h → d ≡ Reached h
    go true e = e
    go false e = absurd (cc)

module _ {T : Type 0} (start : Generation T) where
  -- what was given and reached stays so
  given_more : (turns more : List (Turn T)) (index g : ℕ) → IsGiven start turns index g → IsGiven start (turns ++ more) index g
  given_more turns more index g (at_start e) = at_start e
  given_more turns more index g (by_dispatch {before = before} {turn = turn} {tip = tip} stands dispatch at) = by_dispatch {tip = tip} (stands_more turns more before turn stands) dispatch at

  reached_more : (turns more : List (Turn T)) (index g : ℕ) → HasReached start index turns g → HasReached start index (turns ++ more) g
  reached_more turns more index g (by_itself {before = before} {turn = turn} stands call given) = by_itself (stands_more turns more before turn stands) call given
  reached_more turns more index g (by_target {before = before} {turn = turn} {h = h} stands call had) = by_target {h = h} (stands_more turns more before turn stands) call had

  -- what the state tells of so many databases
  pub record Told (count : ℕ) (past : List (Turn T)) (s : Coordination T) : Type 0 where
    pub order : IsInOrder s
    pub many : length s.databases ≡ count
    pub newest : last_dispatch start past ≡ s.newest
    pub above_start : height_of start.tip ≤ height_of (latest s)
    pub above_tips : All (λ tip. height_of tip ≤ height_of (latest s)) (tips past)
    pub was_recorded : (tip : Tip T) → s.pending ≡ Some tip → Contains (tips past) tip
    pub given : (i g : ℕ) → slice_get s.databases i ≡ Some (Seeking g) → IsGiven start past i g
    pub has_reached : (i g : ℕ) → slice_get s.databases i ≡ Some (Reached g) → HasReached start i past g

  module _ (count : ℕ) (past : List (Turn T)) (s : Coordination T) (told : Told count past s) where
    -- the same of one call more, from what it changes
    told_by : (turn : Turn T) (next : Coordination T)
        → IsInOrder next
        → length next.databases ≡ length s.databases
        → last_of start (dispatches past ++ dispatched turn.answer) ≡ next.newest
        → height_of (latest s) ≤ height_of (latest next)
        → All (λ tip. height_of tip ≤ height_of (latest next)) (recorded turn.call)
        → ((tip : Tip T) → next.pending ≡ Some tip → Contains (tips past ++ recorded turn.call) tip)
        → ((i g : ℕ) → slice_get next.databases i ≡ Some (Seeking g) → IsGiven start (past ++ turn ∷ []) i g)
        → ((i g : ℕ) → slice_get next.databases i ≡ Some (Reached g) → HasReached start i (past ++ turn ∷ []) g)
        → Told count (past ++ turn ∷ []) next
    told_by turn next order long newest rises above were_recorded were_given were_reached =
        let were = told.above_start in
        record {
          order = order;
          many = long ∙ told.many;
          newest = ap (last_of start) (dispatches_push past turn) ∙ newest;
          above_start = omega arith;
          above_tips = rw tips_push
              (All-append (λ tip. height_of tip ≤ height_of (latest next)) (tips past) _
              (All-weaker (λ tip. height_of tip ≤ height_of (latest s)) (λ tip. height_of tip ≤ height_of (latest next)) (λ tip le. omega arith) (tips past) told.above_tips)
              above);
          was_recorded = λ tip e. rw tips_push (were_recorded tip e);
          given = were_given;
          has_reached = were_reached;
        }

    none_above : (next : Coordination T) → All (λ (tip : Tip T). height_of tip ≤ height_of (latest next)) []
    none_above next = All-nil (λ tip. height_of tip ≤ height_of (latest next))

    same_newest : last_of start (dispatches past ++ []) ≡ s.newest
    same_newest = ap (last_of start) (append-nil (dispatches past)) ∙ told.newest

    still_recorded : (more : List (Tip T)) (tip : Tip T) → s.pending ≡ Some tip → Contains (tips past ++ more) tip
    still_recorded more tip e = Contains-append_left (tips past) more tip (told.was_recorded tip e)

    still_given : (turn : Turn T) (i g : ℕ) → slice_get s.databases i ≡ Some (Seeking g) → IsGiven start (past ++ turn ∷ []) i g
    still_given turn i g at = given_more past (turn ∷ []) i g (told.given i g at)

    still_reached : (turn : Turn T) (i g : ℕ) → slice_get s.databases i ≡ Some (Reached g) → HasReached start i (past ++ turn ∷ []) g
    still_reached turn i g at = reached_more past (turn ∷ []) i g (told.has_reached i g at)

    -- a database says that it has reached a generation
    told_reached : (index g : ℕ) (next : Coordination T) → ChangesAt s index (once_reached g) next → IsInOrder next
        → Told count (past ++ turn_of (record_reached index g) None next ∷ []) next
    told_reached index g next at order =
        let turn = turn_of (record_reached index g) None next in
        let databases : next.databases ≡ set s.databases index (once_reached g at.before) = ap (λ (w : Coordination T). w.databases) at.is in
        let pending : next.pending ≡ s.pending = ap (λ (w : Coordination T). w.pending) at.is in
        let newest : next.newest ≡ s.newest = ap (λ (w : Coordination T). w.newest) at.is in
        let same : latest next ≡ latest s = ap latest at.is in
        told_by turn next order (ap length databases ∙ length-set s.databases index (once_reached g at.before)) (same_newest ∙ sym newest) (rw same (omega arith)) (none_above next)
        (λ tip e. still_recorded [] tip (sym pending ∙ e))
        (λ i h e. ⊎_elim
        (λ (here : (i ≡ index) × (once_reached g at.before ≡ Seeking h)).
        still_given turn i h (ap (slice_get s.databases) here.0 ∙ at.was ∙ ap Some (seeks_before_reached g h at.before here.1)))
        (λ (there : slice_get s.databases i ≡ Some (Seeking h)). still_given turn i h there)
        (at_changed s.databases index i (once_reached g at.before) at.before (Seeking h) at.was (rw databases at e)))
        (λ i h e. ⊎_elim
        (λ (here : (i ≡ index) × (once_reached g at.before ≡ Reached h)). ⊎_elim
        (λ (had : at.before ≡ Reached h). still_reached turn i h (ap (slice_get s.databases) here.0 ∙ at.was ∙ ap Some had))
        (λ (now : (at.before ≡ Seeking h) × (g ≡ h)).
        by_itself {before = past} {turn = turn} (stands_last past turn) (rw (here.0, now.1) refl) (told.given i h (ap (slice_get s.databases) here.0 ∙ at.was ∙ ap Some now.0)))
        (reached_before g h at.before here.1))
        (λ (there : slice_get s.databases i ≡ Some (Reached h)). still_reached turn i h there)
        (at_changed s.databases index i (once_reached g at.before) at.before (Reached h) at.was (rw databases at e)))

    -- a database is said to have the same target in the newest generation
    told_marked : (index g : ℕ) (next : Coordination T) → ChangesAt s index (once_marked g) next → IsInOrder next
        → Told count (past ++ turn_of (mark_reached_same_target index g) None next ∷ []) next
    told_marked index g next at order =
        let turn = turn_of (mark_reached_same_target index g) None next in
        let databases : next.databases ≡ set s.databases index (once_marked g at.before) = ap (λ (w : Coordination T). w.databases) at.is in
        let pending : next.pending ≡ s.pending = ap (λ (w : Coordination T). w.pending) at.is in
        let newest : next.newest ≡ s.newest = ap (λ (w : Coordination T). w.newest) at.is in
        let same : latest next ≡ latest s = ap latest at.is in
        told_by turn next order (ap length databases ∙ length-set s.databases index (once_marked g at.before)) (same_newest ∙ sym newest) (rw same (omega arith)) (none_above next)
        (λ tip e. still_recorded [] tip (sym pending ∙ e))
        (λ i h e. ⊎_elim
        (λ (here : (i ≡ index) × (once_marked g at.before ≡ Seeking h)).
        still_given turn i h (ap (slice_get s.databases) here.0 ∙ at.was ∙ ap Some (seeks_before_marked g h at.before here.1)))
        (λ (there : slice_get s.databases i ≡ Some (Seeking h)). still_given turn i h there)
        (at_changed s.databases index i (once_marked g at.before) at.before (Seeking h) at.was (rw databases at e)))
        (λ i h e. ⊎_elim
        (λ (here : (i ≡ index) × (once_marked g at.before ≡ Reached h)).
        let (k, had, now) = marked_before g h at.before here.1 in
        by_target {before = past} {turn = turn} {h = k} (stands_last past turn) (rw (here.0, now) refl) (told.has_reached i k (ap (slice_get s.databases) here.0 ∙ at.was ∙ ap Some had)))
        (λ (there : slice_get s.databases i ≡ Some (Reached h)). still_reached turn i h there)
        (at_changed s.databases index i (once_marked g at.before) at.before (Reached h) at.was (rw databases at e)))

    -- a tip is recorded
    told_tip : (anchor : Anchor) (targets : T) (next : Coordination T) → TakesTip s (tip_of anchor targets) next → IsInOrder next
        → Told count (past ++ turn_of (record_tip_update anchor targets) None next ∷ []) next
    told_tip anchor targets next (takes above) order =
        let tip = tip_of anchor targets in
        let turn = turn_of (record_tip_update anchor targets) None (record s { pending = Some tip }) in
        told_by turn (record s { pending = Some tip }) order refl same_newest (omega arith)
        (All-cons (λ other. height_of other ≤ height_of tip) tip [] (omega arith) (All-nil (λ other. height_of other ≤ height_of tip)))
        (λ other e. subst (Contains (tips past ++ tip ∷ [])) (same_Some tip other e) (Contains-push (tips past) tip))
        (still_given turn) (still_reached turn)
    told_tip anchor targets next (ignores below) order =
        let tip = tip_of anchor targets in
        let turn = turn_of (record_tip_update anchor targets) None s in
        told_by turn s order refl same_newest (omega arith)
        (All-cons (λ other. height_of other ≤ height_of (latest s)) tip [] below (All-nil (λ other. height_of other ≤ height_of (latest s))))
        (λ other e. still_recorded (tip ∷ []) other e)
        (still_given turn) (still_reached turn)

    -- a generation is dispatched to some databases
    told_dispatched : (g : Generation T) (change : DbSyncState → DbSyncState) (next : Coordination T)
        → next.databases ≡ map change s.databases → next.newest ≡ g
        → ((h : ℕ) (d : DbSyncState) → change d ≡ Seeking h → h ≡ g.number)
        → ((h : ℕ) (d : DbSyncState) → change d ≡ Reached h → d ≡ Reached h)
        → IsInOrder next → height_of (latest s) ≤ height_of (latest next)
        → ((tip : Tip T) → next.pending ≡ Some tip → s.pending ≡ Some tip)
        → Told count (past ++ turn_of next_action (Some (dispatch g)) next ∷ []) next
    told_dispatched g change next databases newest seeks reaches order rises pending =
        let turn = turn_of next_action (Some (dispatch g)) next in
        told_by turn next order (ap length databases ∙ length-map s.databases change) (last_of_push start (dispatches past) g ∙ sym newest) rises (none_above next)
        (λ tip e. still_recorded [] tip (pending tip e))
        (λ i h e.
        let (d, at, is) = at_mapped change s.databases i (Seeking h) (rw databases at e) in
        let same : h ≡ g.number = seeks h d is in
        subst (IsGiven start (past ++ turn ∷ []) i) (sym same)
        (by_dispatch {before = past} {turn = turn} {tip = g.tip} (stands_last past turn) refl (subst (λ n. slice_get next.databases i ≡ Some (Seeking n)) same e)))
        (λ i h e.
        let (d, at, is) = at_mapped change s.databases i (Reached h) (rw databases at e) in
        still_reached turn i h (at ∙ ap Some (reaches h d is)))

    -- nothing changes
    told_rest : (action : CoordinatorAction T) → dispatched (Some action) ≡ [] → Told count (past ++ turn_of next_action (Some action) s ∷ []) s
    told_rest action quiet =
        let turn = turn_of next_action (Some action) s in
        told_by turn s told.order refl (ap (λ w. last_of start (dispatches past ++ w)) quiet ∙ same_newest) (omega arith) (none_above s)
        (λ tip e. still_recorded [] tip e) (still_given turn) (still_reached turn)

    told_acted : (next : Coordination T) (action : CoordinatorAction T) → Acts s action next → IsInOrder next
        → Told count (past ++ turn_of next_action (Some action) next ∷ []) next
    told_acted next action (goes_to_all {g = g} {tip = tip} all pending) order =
        told_dispatched (next_generation s.newest tip) (λ d. Seeking (s.newest.number + 1)) _ refl refl
        (λ h d e. cc) (λ h d e. absurd (cc)) order (rw pending (omega arith)) (λ other e. absurd (none-some other e))
    told_acted next action (converges {g = g} all pending) order = told_rest _ refl
    told_acted next action (regroups all apart) order =
        told_dispatched s.newest (unless_assigned s.newest.number) _ refl refl
        (sought_unless_assigned s.newest.number) (reached_unless_assigned s.newest.number) order (omega arith) (λ other e. e)
    told_acted next action (goes_to_seeking {tip = tip} any pending) order =
        told_dispatched (next_generation s.newest tip) (unless_reached (s.newest.number + 1)) _ refl refl
        (sought_unless_reached (s.newest.number + 1)) (reached_unless_reached (s.newest.number + 1)) order (rw pending (omega arith)) (λ other e. absurd (none-some other e))
    told_acted next action (waits any pending) order = told_rest _ refl

  -- each call keeps what is told
  pub told_step : (count : ℕ) (past : List (Turn T)) (s : Coordination T) (call : Call T) (answer : Option (CoordinatorAction T)) (next : Coordination T)
      → Steps s call answer next → Told count past s → Told count (past ++ turn_of call answer next ∷ []) next
  told_step count past s call answer next steps told = go call answer next steps (step_in_order s next call answer steps told.order)
    where
      go : (call : Call T) (answer : Option (CoordinatorAction T)) (next : Coordination T) → Steps s call answer next → IsInOrder next → Told count (past ++ turn_of call answer next ∷ []) next
      go call answer next (reached {index = index} {g = g} at) order = told_reached count past s told index g next at order
      go call answer next (tipped {anchor = anchor} {targets = targets} taken) order = told_tip count past s told anchor targets next taken order
      go call answer next (acted {action = action} acts) order = told_acted count past s told next action acts order
      go call answer next (marked {index = index} {g = g} newest at) order = told_marked count past s told index g next at order
