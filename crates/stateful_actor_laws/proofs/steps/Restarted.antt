-- What stands after a restart.
use Rattle.std.proofs.Common.{◌≡◌, ◌++◌, ◌∷◌, [], inl, inr, ℕ, Bool, true, false, not, if◌then◌else◌, nat_lt, List, All, Option, Some, None, refl, sym, ap, ◌∙◌, subst, true≢false}
use Rattle.std.proofs.lemmas.List.Elements.{All-push}
use Rattle.stateful_base.specs.Anchor.{anchor_by}
use Rattle.stateful_base.specs.Names.{Named}
use Rattle.stateful_base.specs.declared.anchor.Anchor.{Anchor}
use Rattle.stateful_base.specs.declared.floor.Floor.{Floor}
use Rattle.stateful_db.specs.Laws.{Laws}
use Rattle.stateful_history.specs.Canonical.{pruned_below}
use Rattle.stateful_history.specs.Live.{live_ticket}
use Rattle.stateful_history.specs.Met.{TrueNames}
use Rattle.stateful_history.specs.Opening.{is_down, opens}
use Rattle.stateful_history.specs.Past.{Past, Came, Made, EachMark, after, after_entry}
use Rattle.stateful_history.specs.Prunes.{PrunedIsDue}
use Rattle.stateful_history.specs.Restarts.{reopened_height, OpenedIsStored}
use Rattle.stateful_history.specs.Stops.{EndsStopped, NothingLive, StopsClean, StartsClean}
use Rattle.stateful_history.specs.Honest.{StoresHeights}
use Rattle.stateful_history.specs.declared.event.Event.{Event}
use Rattle.stateful_history.specs.declared.event.Event.TheVariants.{Restart}
use Rattle.stateful_history.specs.declared.mark.Mark.{Mark}
use Rattle.stateful_history.specs.declared.mark.Mark.TheVariants.{Opened}
use Rattle.stateful_history.proofs.Marks.{after-push, EachMark-push, TrueNames-before_entry}
use Rattle.stateful_exec_model.specs.Workings.{Workings}
use Rattle.stateful_actor_register.specs.Ends.{EndsAll, LeavesNothing}
use Rattle.stateful_actor_register.specs.Register.{RegisterStands}
use Rattle.stateful_actor_register.specs.declared.register.Register.{Register}
use Rattle.stateful_exec_laws.specs.Setting.{setting}
use Rattle.stateful_exec_laws.specs.Storing.{IsStoredNow}
use Rattle.stateful_loop_laws.specs.Open.{is_open}
use Rattle.stateful_loop_laws.specs.Down.{IsEnding, IsEmpty}
use Rattle.stateful_loop_laws.specs.Duly.{IsDulySaid}
use Rattle.stateful_loop_laws.specs.EventBehind.{RestartedBehind}
use Rattle.stateful_loop_laws.specs.Reasons.{HasItsReason}
use Rattle.stateful_loop_laws.specs.Places.{IsInPlace, PastKept, PlacesKept}
use Rattle.stateful_loop_laws.proofs.events.EventRestarts.{event-restarts}
use Rattle.stateful_loop_laws.proofs.events.GoesDown.{IsEmpty-cleared}
use Rattle.stateful_loop_laws.proofs.events.Counting.{IsCounted-up}
use Rattle.stateful_loop_laws.proofs.reasons.Stand.{reasons_stand-opens}
use Rattle.stateful_loop_laws.proofs.places.Came.{past-kept-came}
use Rattle.stateful_loop_laws.proofs.places.Opened.{kept-opens}
use Rattle.stateful_loop_laws.proofs.places.Past.{past-kept}
use Rattle.stateful_loop_laws.proofs.hands.HandsOpened.{hands-opens, goes-opens}
use Rattle.stateful_loop_laws.proofs.hands.Opened.{VerifiedApart-marks}
use Rattle.stateful_loop_laws.proofs.events.Restarting.{opening-ends, pruned-ends}
use Rattle.stateful_loop_laws.proofs.earned.VerifiedApart.{VerifiedApart-came}
use Rattle.stateful_loop_laws.proofs.duly.Unruled.{IsUnbuilt, unbuilt-answered}
use Rattle.stateful_loop_model.specs.Clearing.{IsCleared}
use Rattle.stateful_loop_model.specs.Moments.{Moment}
use Rattle.stateful_loop_model.specs.Opening.{Opens}
use Rattle.stateful_actor_laws.specs.Machine.{numbered}
use Rattle.stateful_actor_laws.specs.Steps.{Restarts}
use Rattle.stateful_actor_laws.specs.Stands.{CanRestartAt}
use Rattle.stateful_actor_laws.specs.StepBehind.{IsCommittedTo, StepBehind}
use Rattle.stateful_actor_laws.proofs.steps.OpensQuiet.{opens-quiet}
use Rattle.stateful_actor_laws.proofs.steps.ReasonsEnd.{HasItsReason-ends}
use Rattle.stateful_actor_laws.proofs.work.SharedRuns.{shared-stopped}
use Rattle.stateful_actor_laws.proofs.steps.StartRules.{IsCommittedTo-ends, PrunedIsDue-ends, PrunedIsDue-opened, EndsStopped-restart, StartsClean-ends, StopsClean-ends, OpenedIsStored-ends}
use Rattle.stateful_actor_laws.proofs.steps.Stepping.{base-opened, StepBehind-of}
use Rattle.stateful_actor_laws.proofs.work.Ends.{IsWorkEnd, EndsAll-ends, IsWorkEnd-ending, is_down-ends, opens-opened}
use Rattle.stateful_actor_laws.proofs.work.Duly.{work-duly, work-unbuilt}
use Rattle.stateful_actor_laws.proofs.work.Named.{NamesWork, EndsAll-named}
use Rattle.stateful_actor_laws.proofs.work.Places.{work-in_place, past-work}

module _ {B C I P R D H G U : Type 0} (w : Workings B C I P R D H G U) (laws : Laws w.kind) (stored : ℕ → Option (Named B)) (base : w.States)
    (p : Past B C I) (stored_now : ℕ → Option (Named B)) (stored_is : IsStoredNow stored p stored_now) (heights : StoresHeights w.header stored)
    (floor : Floor) (keep : List ℕ) (m now : Moment w) (s : CanRestartAt w p m) (held : PastKept w stored p) where
  abbrev event : Event B C I
  event = Restart floor keep

  abbrev q : Past B C I
  q = Came (Restart floor keep) ∷ p

  module _ (mid : Moment w) (over : List (Mark B)) (are : mid.marks ≡ m.marks ++ over) (ends : EndsAll q over) (leaves : LeavesNothing q over)
      (cleared : IsCleared w (record m { marks = mid.marks }) mid) (o : Opens w stored_now floor keep mid now)
      (names : TrueNames (setting w stored) p) where
    abbrev anchor : Anchor
    anchor = anchor_by w.header o.block

    ends_work : All IsWorkEnd over
    ends_work = EndsAll-ends q over ends

    ending : All IsEnding over
    ending = IsWorkEnd-ending over ends_work

    nothing : NothingLive (after q over)
    nothing = leaves.without_barriers (λ k. refl)

    b : RestartedBehind w stored o.opening.at.1 q m now
    b = event-restarts w laws stored stored_now floor keep p m mid now s.counted over ending heights stored_is names nothing
        (subst (λ (ms : List (Mark B)). IsCleared w (record m { marks = ms }) mid) are cleared) o

    more_are : b.more ≡ now.marks
    more_are = sym (b.marks_are ∙ ap (λ (ms : List (Mark B)). ms ++ b.more) s.unmarked)

    all_are : b.more ≡ over ++ Opened anchor ∷ []
    all_are = more_are ∙ o.marks
        ∙ ap (λ (ms : List (Mark B)). ms ++ Opened anchor ∷ []) (are ∙ ap (λ (ms : List (Mark B)). ms ++ over) s.unmarked)

    past_is : after q b.more ≡ Made (Opened anchor) ∷ after q over
    past_is = ap (λ (ms : List (Mark B)). after q ms) all_are ∙ after-push q over (Opened anchor)

    empty : IsEmpty w mid
    empty = IsEmpty-cleared w _ mid cleared

    none_live : (t : ℕ) → live_ticket t (after q b.more) ≡ None
    none_live t = ap (λ (r : Past B C I). live_ticket t r) past_is ∙ nothing.tickets t

    down_is : is_down (after q b.more) ≡ false
    down_is = ap (λ (r : Past B C I). is_down r) past_is ∙ is_down-ends q over ends_work

    open_there : is_open (after q b.more) ≡ true
    open_there = ap (λ (r : Past B C I). is_open r) past_is

    none_prunes : pruned_below (after q b.more) ≡ pruned_below p
    none_prunes = ap (λ (r : Past B C I). pruned_below r) past_is ∙ pruned-ends q over ending

    -- a rule of the marks by which live work ends, and of that of the opening
    each_restart : (Rule : Past B C I → Mark B → Type 0) → EachMark Rule q over → Rule (after q over) (Opened anchor) → EachMark Rule q b.more
    each_restart Rule ends_over opens_here =
        subst (λ (ms : List (Mark B)). EachMark Rule q ms) (sym all_are) (EachMark-push Rule q over (Opened anchor) ends_over opens_here)

    -- what is kept after the restart, and each mark by which live work ends names live work
    kept_first : PastKept w stored q
    kept_first = past-kept-came w stored (numbered w.kind.count) p event refl held

    named : EachMark NamesWork q over
    named = EndsAll-named q over ends

    placed : PlacesKept w stored (after q b.more) now
    placed = subst (λ (r : Past B C I). PlacesKept w stored r now) (sym past_is)
        (kept-opens w stored stored_now floor keep (after q over) mid now (past-work w stored q over named kept_first) nothing cleared.front.0 o)

    -- the block of the opening is the store's of the height that is opened
    is_stored : stored (reopened_height floor) ≡ Some o.block
    is_stored = kept (nat_lt (reopened_height floor) (pruned_below p)) (sym (stored_is (reopened_height floor)) ∙ o.is_stored)
      where
        kept : (low : Bool) → (if low then None else stored (reopened_height floor)) ≡ Some o.block → stored (reopened_height floor) ≡ Some o.block
        kept true e = cc
        kept false e = e

    at_stored : OpenedIsStored (setting w stored) event (after q over) (Opened anchor)
    at_stored = (opening-ends q over ending, (o.block, is_stored, refl, heights (reopened_height floor) o.block is_stored))

    -- that block commits to the states that the databases hold
    committed_here : IsCommittedTo w stored o.opening.at.1 (Opened anchor)
    committed_here = (o.block, rw (heights (reopened_height floor) o.block is_stored) is_stored, o.opening.targets_are)

    restarts_at : StepBehind w stored base p (Restart floor keep) now
    restarts_at = StepBehind-of w stored base p (Restart floor keep) now o.opening.at.1 b.more more_are (record {
      base_is = base-opened base b.more (w.kind.point now.members) o.opening.at
          (ap (λ (ms : List (Mark B)). opens ms) all_are ∙ opens-opened over anchor) o.opening.here;
      earned = b.earned;
      reasons = λ trust. each_restart (HasItsReason w stored o.opening.at.1 event b.more)
          (HasItsReason-ends w stored o.opening.at.1 event b.more (inr (inl tt)) q over ends) (tt, tt);
      said = b.said;
      in_place = each_restart (IsInPlace w stored o.opening.at.1) (work-in_place w stored o.opening.at.1 q over kept_first.past.gone named)
          (tt, tt, tt, tt, tt);
      duly = each_restart (IsDulySaid w stored o.opening.at.1 event b.more)
          (work-duly w stored o.opening.at.1 event b.more (inr (inl tt)) q over named) (tt, tt, tt, tt, λ rule. tt, tt);
      builds = unbuilt-answered q b.more (subst (λ (ms : List (Mark B)). All IsUnbuilt ms) (sym all_are)
          (All-push IsUnbuilt over (Opened anchor) (work-unbuilt q over named) tt));
      due = λ rule. each_restart (PrunedIsDue (setting w stored) rule) (PrunedIsDue-ends (setting w stored) rule q over ends_work)
          (PrunedIsDue-opened (setting w stored) rule (after q over) anchor);
      shared = λ rule. shared-stopped w stored rule event b.more (inr (inl tt)) q b.more;
      opened = each_restart (OpenedIsStored (setting w stored) event) (OpenedIsStored-ends (setting w stored) event q over ends_work) at_stored;
      committed = subst (λ (ms : List (Mark B)). All (IsCommittedTo w stored o.opening.at.1) ms) (sym all_are)
          (All-push (IsCommittedTo w stored o.opening.at.1) over (Opened anchor) (IsCommittedTo-ends w stored o.opening.at.1 over ends_work)
          committed_here);
      clean_start = each_restart StartsClean (StartsClean-ends q over ends_work) nothing;
      clean_stop = each_restart (StopsClean event b.more) (StopsClean-ends event b.more (inr (inl tt)) q over ends_work) tt;
      ends_stopped = subst (λ (ms : List (Mark B)). EndsStopped event ms) (sym all_are) (EndsStopped-restart floor keep over anchor ends_work);
      holds = b.holds;
      pruned = none_prunes;
      up_is = b.up ∙ sym open_there;
      open_is = open_there ∙ ap (λ d. not d) (sym down_is);
      counted = IsCounted-up w stored o.opening.at.1 (after q b.more) now b.stands;
      up = λ up. (b.stands, opens-quiet w stored_now floor keep mid now empty o);
      reasons_stand = λ up trust. reasons_stand-opens w laws stored o.opening.at.1 (after q b.more) stored_now floor keep mid now cleared.queue
          cleared.actions o;
      apart = VerifiedApart-marks q b.more (VerifiedApart-came (numbered w.kind.count) p event refl s.apart);
      hands = λ up. (
        hands-opens w stored_now floor keep mid now o (after q b.more) empty none_live,
        goes-opens w stored_now floor keep mid now o (after q b.more) stored o.opening.at.1,
      );
      down = λ down. absurd (true≢false (sym b.up ∙ down));
      past = past-kept w stored (after q b.more) now placed;
      places = λ up. placed;
      empty = λ down. absurd (true≢false (sym b.up ∙ down));
    })

  -- All live work is ended, and the databases are opened.
  pub restarts : (register : Register) → RegisterStands (numbered w.kind.count) p register → Restarts w stored_now register event floor keep m now
      → TrueNames (setting w stored) (after_entry p event now.marks) → StepBehind w stored base p event now
  restarts register registered r names =
      let work = r.work p registered in
      restarts_at r.cleared work.0 work.1 (subst (λ (ms : List (Mark B)). EndsAll (after q ms) work.0) s.unmarked work.2)
      (subst (λ (ms : List (Mark B)). LeavesNothing (after q ms) work.0) s.unmarked work.3) r.clears r.opens
      (TrueNames-before_entry (setting w stored) p event now.marks names)
