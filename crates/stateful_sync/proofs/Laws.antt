-- That a new coordinator keeps the laws, whatever calls come.
use Rattle.std.proofs.Common.{◌≡◌, ℕ, ◌<◌, ◌≤◌, Option, Some, None, List, [], ◌∷◌, ◌++◌, length, replicate, All, refl, sym, ap, subst, ◌∙◌, arith}
use Rattle.std.specs.Prelude.{slice_get}
use Rattle.std.proofs.lemmas.List.{nil_from_length, length-replicate, get_or-replicate}
use Rattle.std.proofs.lemmas.List.Elements.{All-nil, All-replicate}
use Rattle.std.proofs.lemmas.Option.{none-some, slice_get-get_or, slice_get_within, get_or_from_slice_get}
use Rattle.stateful_base.specs.declared.anchor.Anchor.{Anchor}
use Rattle.stateful_sync.specs.Assigned.{generation_of}
use Rattle.stateful_sync.specs.Coordinator.{Coordination, Acts, goes_to_all, converges, regroups, goes_to_seeking, waits, Steps, reached, tipped, acted, marked, Call, height_of, tip_of, latest, next_generation, AllReached, IsInOrder}
use Rattle.stateful_sync.specs.Laws.{Turn, Runs, tips, dispatches, dispatched, last_dispatch, Follows, again, further, HasConverged, at_start, KeepsLaws}
use Rattle.stateful_sync.specs.declared.tip.Tip.{Tip}
use Rattle.stateful_sync.specs.declared.action.Generation.{Generation}
use Rattle.stateful_sync.specs.declared.action.DbSyncState.{DbSyncState}
use Rattle.stateful_sync.specs.declared.action.DbSyncState.TheVariants.{Seeking, Reached}
use Rattle.stateful_sync.specs.declared.action.CoordinatorAction.{CoordinatorAction}
use Rattle.stateful_sync.specs.declared.action.CoordinatorAction.TheVariants.{Converged}
use Rattle.stateful_sync.proofs.Order.{start_in_order, one_is_newest}
use Rattle.stateful_sync.proofs.Runs.{run_split, kept}
use Rattle.stateful_sync.proofs.Few.{none, three, few}
use Rattle.stateful_sync.proofs.Told.{Told, told_step}

module _ {T : Type 0} (start : Generation T) (count : ℕ) where
  -- what is dispatched behind these calls follows the last one
  follows : (past : List (Turn T)) (s next : Coordination T) (call : Call T) (answer : Option (CoordinatorAction T)) (g : Generation T)
      → Told start count past s → Steps s call answer next → dispatched answer ≡ g ∷ [] → Follows (tips past) (last_dispatch start past) g
  follows past s next call answer g told (reached at) e = absurd (cc)
  follows past s next call answer g told (tipped taken) e = absurd (cc)
  follows past s next call answer g told (acted acts) e = rw told.newest (go acts e)
    where
      same : (h : Generation T) → ◌≡◌ {A = List (Generation T)} (h ∷ []) (g ∷ []) → h ≡ g
      same h e = cc

      goes : (tip : Tip T) → s.pending ≡ Some tip → Follows (tips past) s.newest (next_generation s.newest tip)
      goes tip pending =
          let above : latest s ≡ tip = rw pending refl in
          further {tip = tip} (told.was_recorded tip pending) (subst (λ w. All (λ other. height_of other ≤ height_of w) (tips past)) above told.above_tips) (told.order.higher tip pending)

      go : {action : CoordinatorAction T} {next : Coordination T} → Acts s action next → dispatched (Some action) ≡ g ∷ [] → Follows (tips past) s.newest g
      go (goes_to_all {tip = tip} all pending) e = subst (Follows (tips past) s.newest) (same (next_generation s.newest tip) e) (goes tip pending)
      go (converges all pending) e = absurd (cc)
      go (regroups all apart) e = subst (Follows (tips past) s.newest) (same s.newest e) again
      go (goes_to_seeking {tip = tip} any pending) e = subst (Follows (tips past) s.newest) (same (next_generation s.newest tip) e) (goes tip pending)
      go (waits any pending) e = absurd (cc)
  follows past s next call answer g told (marked newest at) e = absurd (cc)

  abbrev HaveConverged : List (Turn T) → Coordination T → Anchor → T → Type 0
  HaveConverged past next anchor targets = HasConverged start count past (tip_of anchor targets)
      × AllReached next (last_dispatch start past).number
      × (next.pending ≡ None)

  -- where all have reached one generation and no tip is pending, they have converged
  together : (past : List (Turn T)) (s : Coordination T) (g : ℕ) (tip : Tip T) → Told start count past s → AllReached s g → s.pending ≡ None → s.newest.tip ≡ tip
      → HasConverged start count past tip × AllReached s (last_dispatch start past).number × (s.pending ≡ None)
  together past s g tip told all pending is =
      let above : latest s ≡ tip = rw pending is in
      let number : (last_dispatch start past).number ≡ g = ap (λ (w : Generation T). w.number) told.newest ∙ sym (one_is_newest s g all told.order) in (
        record {
          last = ap (λ (w : Generation T). w.tip) told.newest ∙ is;
          above_start = subst (λ w. height_of start.tip ≤ height_of w) above told.above_start;
          above_tips = subst (λ w. All (λ other. height_of other ≤ height_of w) (tips past)) above told.above_tips;
          each = λ index within.
              rw number (told.has_reached index g (slice_get-get_or s.databases index (Reached g) (omega (arith, told.many)) ∙ ap Some (all index (Reached g) (omega (arith, told.many)))));
        },
        rw number all,
        pending,
      )

  converged : (past : List (Turn T)) (s next : Coordination T) (call : Call T) (answer : Option (CoordinatorAction T)) (anchor : Anchor) (targets : T)
      → Told start count past s → Steps s call answer next → answer ≡ Some (Converged anchor targets) → HaveConverged past next anchor targets
  converged past s next call answer anchor targets told (reached at) e = absurd (cc)
  converged past s next call answer anchor targets told (tipped taken) e = absurd (cc)
  converged past s next call answer anchor targets told (acted acts) e = go acts e
    where
      go : {action : CoordinatorAction T} {next : Coordination T} → Acts s action next → ◌≡◌ {A = Option (CoordinatorAction T)} (Some action) (Some (Converged anchor targets)) → HaveConverged past next anchor targets
      go (goes_to_all all pending) e = absurd (cc)
      go (converges {g = g} all pending) e =
          let to : s.newest.tip.anchor ≡ anchor = cc in
          let with : s.newest.tip.targets ≡ targets = cc in
          together past s g (tip_of anchor targets) told all pending (ap (λ a. tip_of a s.newest.tip.targets) to ∙ ap (tip_of anchor) with)
      go (regroups all apart) e = absurd (cc)
      go (goes_to_seeking any pending) e = absurd (cc)
      go (waits any pending) e = absurd (cc)
  converged past s next call answer anchor targets told (marked newest at) e = absurd (cc)

  -- what a new coordinator tells of no calls
  told_first : (databases : List DbSyncState) → 1 ≤ count → databases ≡ replicate count (Seeking 0) → start.number ≡ 0
      → Told start count [] (record { databases = databases; newest = start; pending = None })
  told_first databases some are zeroth =
      let at_start_of : (i : ℕ) (d : DbSyncState) → slice_get databases i ≡ Some d → Seeking 0 ≡ d = λ i d at.
      let here : slice_get (replicate count (Seeking 0)) i ≡ Some d = rw are at at in
      let within : i < count = subst (λ n. i < n) (length-replicate count (Seeking 0)) (slice_get_within (replicate count (Seeking 0)) i d here) in
      sym (get_or-replicate count i (Seeking 0) d within) ∙ get_or_from_slice_get (replicate count (Seeking 0)) i d d here in
      record {
        order = subst (λ n. IsInOrder (record { databases = databases; newest = record { number = n; tip = start.tip }; pending = None })) (sym zeroth) (start_in_order count start.tip databases some are);
        many = ap length are ∙ length-replicate count (Seeking 0);
        newest = refl;
        above_start = omega arith;
        above_tips = All-nil (λ tip. height_of tip ≤ height_of start.tip);
        was_recorded = λ tip e. absurd (none-some tip e);
        given = λ i g at. at_start (ap generation_of (sym (at_start_of i (Seeking g) at)) ∙ sym zeroth);
        has_reached = λ i g at. let same = at_start_of i (Reached g) at in absurd (cc);
      }

  pub KeepsLaws-new : (databases : List DbSyncState) → 1 ≤ count → databases ≡ replicate count (Seeking 0) → start.number ≡ 0
      → KeepsLaws start count (record { databases = databases; newest = start; pending = None })
  KeepsLaws-new databases some are zeroth turns last runs =
      let init : Coordination T = record { databases = databases; newest = start; pending = None } in
      let told = told_first databases some are zeroth in
      let newest : All (λ d. generation_of d ≡ start.number) databases =
      rw (are, zeroth) (All-replicate (λ d. generation_of d ≡ 0) count (Seeking 0) refl) in
      let told_at : (before : List (Turn T)) (mid : Coordination T) → Runs init before mid → Told start count before mid =
      λ before mid r. kept (Told start count) (told_step start count) before [] init mid r told in
      record {
        first = λ unrecorded. nil_from_length (dispatches turns) (let fewer = few turns init last 0 runs unrecorded (none refl newest) in omega arith);
        few = λ before between behind place unrecorded.
            let r = run_split (before ++ between) behind init last (subst (λ w. Runs init w last) place runs) in
            let q = run_split before between init r.0 r.1 in
            few between q.0 r.0 3 q.2 unrecorded three;
        grows = λ before turn g stands dispatch.
            let r = run_split before (turn ∷ stands.behind) init last (subst (λ w. Runs init w last) stands.place runs) in
            follows before r.0 turn.after turn.call turn.answer g (told_at before r.0 r.1) r.2.0 dispatch;
        converged = λ before turn anchor targets stands answer.
            let r = run_split before (turn ∷ stands.behind) init last (subst (λ w. Runs init w last) stands.place runs) in
            converged before r.0 turn.after turn.call turn.answer anchor targets (told_at before r.0 r.1) r.2.0 answer;
      }
