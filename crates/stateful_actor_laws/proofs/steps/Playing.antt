-- What stands after an event other than a restart: it is taken in, what can go on does, and a machine that isn't up any more stops.
use Rattle.std.proofs.Common.{◌≡◌, ◌≢◌, ◌⊎◌, ◌++◌, ◌∷◌, [], inl, inr, ℕ, true, false, not, List, All, Option, sym, ap, ◌∙◌, subst, append_assoc, true≢false}
use Rattle.std.specs.List.{Contains}
use Rattle.std.proofs.lemmas.List.{append_cancel_left}
use Rattle.std.proofs.lemmas.List.Elements.{All-append, All-push, All-weaker, All-contains_itself, Contains-append_left, Contains-append_right, Contains-push}
use Rattle.stateful_base.specs.Names.{Named}
use Rattle.stateful_db.specs.Laws.{Laws}
use Rattle.stateful_history.specs.Canonical.{pruned_below}
use Rattle.stateful_history.specs.Live.{names_live, may_come}
use Rattle.stateful_history.specs.Met.{TrueNames}
use Rattle.stateful_history.specs.Opening.{is_down, opens}
use Rattle.stateful_history.specs.Past.{Past, Came, Made, EachMark, EachNext, after, after_entry}
use Rattle.stateful_history.specs.Prunes.{PrunedIsDue}
use Rattle.stateful_history.specs.Restarts.{OpenedIsStored}
use Rattle.stateful_history.specs.Runs.{BuildIsAnswered}
use Rattle.stateful_history.specs.Shared.{SharedRunGoesOn}
use Rattle.stateful_history.specs.Stops.{IsRestart, NothingLive, BrokeBefore, StopsClean, StartsClean}
use Rattle.stateful_history.specs.Honest.{StoresFinalized}
use Rattle.stateful_history.specs.declared.event.Event.{Event}
use Rattle.stateful_history.specs.declared.event.Event.TheVariants.{Stop}
use Rattle.stateful_history.specs.declared.mark.Mark.{Mark}
use Rattle.stateful_history.specs.declared.mark.Mark.TheVariants.{BarrierDone, Stopped}
use Rattle.stateful_history.proofs.Marks.{after-append, after-push, EachMark-append, EachMark-push}
use Rattle.stateful_exec_model.specs.Workings.{Workings}
use Rattle.stateful_actor_register.specs.Ends.{EndsAll, LeavesNothing}
use Rattle.stateful_actor_register.specs.Register.{RegisterStands}
use Rattle.stateful_actor_register.specs.declared.register.Register.{Register}
use Rattle.stateful_exec_laws.specs.Building.{BuildsTakeTurns}
use Rattle.stateful_exec_laws.specs.Fronting.{RunsTakeTurns}
use Rattle.stateful_exec_laws.specs.Setting.{setting}
use Rattle.stateful_exec_laws.specs.Storing.{IsStoredNow}
use Rattle.stateful_loop_laws.specs.Open.{is_open}
use Rattle.stateful_loop_laws.specs.Down.{IsEnding}
use Rattle.stateful_loop_laws.specs.EventBehind.{EventBehind, StoppedBehind}
use Rattle.stateful_loop_laws.specs.Duly.{AreAmong, IsDulySaid, DulyBehind}
use Rattle.stateful_loop_laws.specs.Execution.{NamesBehind}
use Rattle.stateful_loop_laws.specs.Reasons.{IsTrusted, ReasonsStand, HasItsReason, ReasonsUpBehind}
use Rattle.stateful_loop_laws.specs.Places.{IsInPlace, PastKept, PlacesKept, PlacesBehind}
use Rattle.stateful_loop_laws.specs.HandsBehind.{HandsBehind}
use Rattle.stateful_loop_laws.specs.InHand.{VerifiedApart}
use Rattle.stateful_loop_laws.proofs.events.Counting.{ends_stopped}
use Rattle.stateful_loop_laws.proofs.duly.Along.{duly-up}
use Rattle.stateful_loop_laws.proofs.events.EventDown.{event-down}
use Rattle.stateful_loop_laws.proofs.events.EventUp.{event-up}
use Rattle.stateful_loop_laws.proofs.hands.HandsUp.{hands_at, hands-up}
use Rattle.stateful_loop_laws.proofs.hands.Opened.{VerifiedApart-marks}
use Rattle.stateful_loop_laws.proofs.events.NamesBehind.{NamesBehind-marks, NamesBehind-later}
use Rattle.stateful_loop_laws.proofs.reasons.Up.{reasons-up}
use Rattle.stateful_loop_laws.proofs.places.Along.{places-up}
use Rattle.stateful_loop_laws.proofs.places.Past.{past-kept}
use Rattle.stateful_loop_laws.proofs.events.Restarting.{pruned-ends}
use Rattle.stateful_loop_laws.proofs.events.RuleItems.{is_down-after, is_open-after, pruned_below-after, opens-none}
use Rattle.stateful_loop_laws.proofs.events.TakenIn.{may_come-live}
use Rattle.stateful_loop_laws.proofs.events.Trusted.{IsTrusted-before, IsTrusted-before_marks}
use Rattle.stateful_loop_laws.proofs.earned.VerifiedApart.{VerifiedApart-came}
use Rattle.stateful_loop_laws.proofs.duly.Unruled.{IsUnbuilt, unbuilt-answered, answered-append}
use Rattle.stateful_loop_model.specs.Clearing.{IsCleared}
use Rattle.stateful_loop_model.specs.Intake.{Counts, TakesIn}
use Rattle.stateful_loop_model.specs.Intake as intake
use Rattle.stateful_loop_model.specs.Moments.{Moment}
use Rattle.stateful_actor_laws.specs.Machine.{numbered}
use Rattle.stateful_actor_laws.specs.Steps.{Stops, Advances}
use Rattle.stateful_actor_laws.specs.Stands.{StandsAt}
use Rattle.stateful_actor_laws.specs.StepBehind.{IsCommittedTo, StepBehind}
use Rattle.stateful_actor_laws.proofs.work.LiveFlushes.{numbered_le, names_live-more}
use Rattle.stateful_actor_laws.proofs.steps.ReasonsEnd.{HasItsReason-ends}
use Rattle.stateful_actor_laws.proofs.steps.StartRules.{IsCommittedTo-rules, IsCommittedTo-ends, PrunedIsDue-rules, PrunedIsDue-ends, PrunedIsDue-stopped, EndsStopped-unbroken, BrokeBefore-after, StartsClean-rules, StartsClean-ends, StopsClean-rules, StopsClean-ends, OpenedIsStored-rules, OpenedIsStored-ends, OpenedIsStored-stopped}
use Rattle.stateful_actor_laws.proofs.work.SharedRuns.{shared-stopped, shared-advances}
use Rattle.stateful_actor_laws.proofs.work.StaysUp.{Broke, along-stays, takes_in-stays}
use Rattle.stateful_actor_laws.proofs.steps.Stepping.{may_come-up, is_down-came, is_open-came, base-same, StepBehind-of}
use Rattle.stateful_actor_laws.proofs.work.Unbroken.{IsUnbroken, UnbrokenBehind, taken_in_unbroken, along_unbroken}
use Rattle.stateful_actor_laws.proofs.work.Ends.{IsWorkEnd, EndsAll-ends, IsWorkEnd-ending, opens-ending, opens-neither}
use Rattle.stateful_actor_laws.proofs.work.Duly.{work-duly, work-unbuilt}
use Rattle.stateful_actor_laws.proofs.work.Named.{NamesWork, EndsAll-named}
use Rattle.stateful_actor_laws.proofs.work.Places.{work-in_place, past-work, past-stopped}

module _ {B C I P R D H G U : Type 0} (w : Workings B C I P R D H G U) (laws : Laws w.kind) (stored : ℕ → Option (Named B)) (base : w.States)
    (p : Past B C I) (stored_now : ℕ → Option (Named B)) (stored_is : IsStoredNow stored p stored_now) (counts : Counts R D H) (provider : P)
    (runs_cost : RunsTakeTurns w) (builds_cost : BuildsTakeTurns w) (event : Event B C I) (on : IsRestart event → ⊥)
    (may_come_is : may_come (numbered w.kind.count) p event ≡ true)
    (stores : StoresFinalized w.header stored (Came event ∷ p))
    (m settled : Moment w) (s : StandsAt w stored base p m) (a : Advances w stored_now provider counts event m settled) where
  abbrev q : Past B C I
  q = Came event ∷ p

  was_up : is_down p ≡ false
  was_up = may_come-up (numbered w.kind.count) p event on may_come_is

  up : m.loop.up ≡ true
  up = s.up_is ∙ s.open_is ∙ ap (λ b. not b) was_up

  marks_are : settled.marks ≡ m.marks ++ settled.marks
  marks_are = ap (λ (ms : List (Mark B)). ms ++ settled.marks) (sym s.restart.unmarked)

  behind : NamesBehind w stored base q m settled → EventBehind w stored base q m settled
  behind names =
      event-up w laws stored base p stored_now stored_is counts provider runs_cost builds_cost event m a.taken settled up (s.up up).1 (s.up up).0 on
      (names_live-more (numbered w.kind.count) w.kind.count (numbered_le w.kind.count) p event
      (may_come-live (numbered w.kind.count) p event on may_come_is)) names stores a.takes a.settles.along

  -- where the world is trusted with all marks of the entry, those that were made after the event have their reasons
  reasons_behind : (marks : List (Mark B)) → NamesBehind w stored base q m settled → (b : EventBehind w stored base q m settled)
      → IsTrusted w stored (after q b.more) → ReasonsUpBehind w stored base event marks q m settled
  reasons_behind marks names b trust =
      reasons-up w laws stored base p stored_now stored_is counts provider runs_cost builds_cost event marks m a.taken settled up (s.up up).1
      (s.up up).0 (s.reasons up (IsTrusted-before w stored (Came event) p (IsTrusted-before_marks w stored b.more q trust))) on
      (names_live-more (numbered w.kind.count) w.kind.count (numbered_le w.kind.count) p event
      (may_come-live (numbered w.kind.count) p event on may_come_is)) names
      (λ more is. subst (λ (ms : List (Mark B)). IsTrusted w stored (after q ms)) (append_cancel_left m.marks b.more more (sym b.marks_are ∙ is)) trust)
      stores a.takes a.settles.along

  -- of the same marks
  reasons_of : (marks : List (Mark B)) (b : EventBehind w stored base q m settled) (r : ReasonsUpBehind w stored base event marks q m settled)
      → EachMark (HasItsReason w stored base event marks) q b.more × ReasonsStand w stored (after q b.more) base settled
  reasons_of marks b r = subst (λ (ms : List (Mark B)). EachMark (HasItsReason w stored base event marks) q ms × ReasonsStand w stored (after q ms) base settled)
      (append_cancel_left m.marks r.more b.more (sym r.marks_are ∙ b.marks_are)) (r.each, r.stand)

  -- each mark is in its place
  placed : NamesBehind w stored base q m settled → PlacesBehind w stored base q m settled
  placed names =
      places-up w laws stored base p stored_now stored_is counts provider runs_cost builds_cost event m a.taken settled up (s.up up).1 (s.up up).0
      (s.places up) on
      (names_live-more (numbered w.kind.count) w.kind.count (numbered_le w.kind.count) p event
      (may_come-live (numbered w.kind.count) p event on may_come_is)) names stores a.takes a.settles.along

  -- the event names what is live
  names_live_is : names_live (numbered w.kind.count) p event ≡ true
  names_live_is = may_come-live (numbered w.kind.count) p event on may_come_is

  -- tickets are apart behind it, and after marks
  apart : (more : List (Mark B)) → VerifiedApart (after q more)
  apart more = VerifiedApart-marks q more (VerifiedApart-came (numbered w.kind.count) p event names_live_is s.restart.apart)

  -- all that is live is in hand behind it
  hands : NamesBehind w stored base q m settled → HandsBehind w stored base q m settled
  hands names =
      hands-up w laws stored base p stored_now stored_is counts provider runs_cost builds_cost event m a.taken settled up (s.up up).1 (s.up up).0
      (s.hands up).0 (s.hands up).1 on
      (names_live-more (numbered w.kind.count) w.kind.count (numbered_le w.kind.count) p event names_live_is) names stores a.takes a.settles.along

  -- and all is said duly
  said_duly : NamesBehind w stored base q m settled → DulyBehind w stored base event q m settled
  said_duly names =
      duly-up w laws stored base p stored_now stored_is counts provider runs_cost builds_cost event m a.taken settled up (s.up up).1 (s.up up).0
      (s.places up) on
      (names_live-more (numbered w.kind.count) w.kind.count (numbered_le w.kind.count) p event
      (may_come-live (numbered w.kind.count) p event on may_come_is)) names stores a.takes a.settles.along

  more_are : (more : List (Mark B)) (last : Moment w) → last.marks ≡ m.marks ++ more → more ≡ last.marks
  more_are more last is = sym (is ∙ ap (λ (ms : List (Mark B)). ms ++ more) s.restart.unmarked)

  -- it isn't after a stop
  still_up : settled.loop.up ≡ true → event ≡ Stop → ⊥
  still_up still stop = no_rule (subst (λ (e : Event B C I). TakesIn w stored_now counts m a.taken e) stop a.takes)
    where
      stopped : TakesIn w stored_now counts m a.taken Stop → a.taken.loop.up ≡ false
      stopped (intake.enters x e) = cc
      stopped (intake.stops e) = ap (λ (n : Moment w). n.loop.up) e

      no_rule : TakesIn w stored_now counts m a.taken Stop → ⊥
      no_rule takes = go (along-stays w stored_now provider a.taken settled a.settles.along)
        where
          go : (settled.loop.up ≡ a.taken.loop.up) ⊎ Broke w settled → ⊥
          go (inl same) = true≢false (sym still ∙ same ∙ stopped takes)
          go (inr broke) = true≢false (sym still ∙ broke.down)

  -- the machine is up
  pub goes-on : settled.loop.up ≡ true → TrueNames (setting w stored) (after_entry p event settled.marks) → StepBehind w stored base p event settled
  goes-on still names =
      let names_there : NamesBehind w stored base q m settled = NamesBehind-marks w stored base q m settled settled.marks marks_are names in
      let b : EventBehind w stored base q m settled = behind names_there in
      let l : PlacesBehind w stored base q m settled = placed names_there in
      let same : l.more ≡ b.more = more_are l.more settled l.marks_are ∙ sym (more_are b.more settled b.marks_are) in
      let y : DulyBehind w stored base event q m settled = said_duly names_there in
      let same_duly : y.more ≡ b.more = more_are y.more settled y.marks_are ∙ sym (more_are b.more settled b.marks_are) in
      let kept : PlacesKept w stored (after q b.more) settled =
      subst (λ (ms : List (Mark B)). PlacesKept w stored (after q ms) settled) same l.kept in
      let none_opens : opens b.more ≡ false = opens-none b.more b.of_rules in
      let down_is : is_down (after q b.more) ≡ false = is_down-after q b.more b.of_rules ∙ is_down-came p event on ∙ was_up in
      let open_there : is_open (after q b.more) ≡ true =
      is_open-after q b.more b.of_rules ∙ is_open-came p event on ∙ s.open_is ∙ ap (λ d. not d) was_up in
      let first : UnbrokenBehind w m a.taken = taken_in_unbroken w stored_now counts m a.taken event a.takes in
      let then : UnbrokenBehind w a.taken settled = along_unbroken w stored_now provider a.taken settled a.settles.along still in
      let both : settled.marks ≡ m.marks ++ (first.more ++ then.more) =
      then.marks_are ∙ ap (λ (ms : List (Mark B)). ms ++ then.more) first.marks_are ∙ append_assoc m.marks first.more then.more in
      let unbroken : All IsUnbroken b.more = subst (λ (ms : List (Mark B)). All IsUnbroken ms)
      (append_cancel_left m.marks (first.more ++ then.more) b.more (sym both ∙ b.marks_are))
      (All-append IsUnbroken first.more then.more first.each then.each) in
      let no_stop : event ≢ Stop = λ stop. still_up still stop in
      let all : b.more ≡ settled.marks = more_are b.more settled b.marks_are in
      let duly : EachMark (IsDulySaid w stored base event b.more) q b.more =
      subst (λ (ms : List (Mark B)). EachMark (IsDulySaid w stored base event ms) q ms) same_duly (y.each y.more (All-contains_itself y.more)) in
      StepBehind-of w stored base p event settled base b.more (more_are b.more settled b.marks_are) (record {
        base_is = base-same base b.more (w.kind.point settled.members) none_opens;
        earned = b.earned;
        reasons = λ trust. (reasons_of b.more b (reasons_behind b.more names_there b trust)).0;
        said = b.said;
        in_place = subst (λ (ms : List (Mark B)). EachMark (IsInPlace w stored base) q ms) same l.each;
        duly = duly;
        builds = subst (λ (ms : List (Mark B)). EachNext BuildIsAnswered q ms) same_duly y.answered;
        due = λ rule. PrunedIsDue-rules (setting w stored) rule q b.more b.of_rules;
        shared = λ rule. subst (λ (ms : List (Mark B)). EachMark (SharedRunGoesOn (setting w stored) rule event ms) q ms) (sym all)
            (shared-advances w laws stored stored_now counts provider runs_cost builds_cost base p stored_is rule event m settled s may_come_is a names
            stores (subst (λ (ms : List (Mark B)). EachMark (IsDulySaid w stored base event ms) q ms) all duly));
        opened = OpenedIsStored-rules (setting w stored) event q b.more b.of_rules;
        committed = IsCommittedTo-rules w stored base b.more b.of_rules;
        clean_start = StartsClean-rules q b.more b.of_rules;
        clean_stop = StopsClean-rules event b.more q b.more b.of_rules;
        ends_stopped = EndsStopped-unbroken event b.more no_stop unbroken;
        holds = b.holds;
        pruned = pruned_below-after q b.more b.of_rules;
        up_is = still ∙ sym open_there;
        open_is = open_there ∙ ap (λ d. not d) (sym down_is);
        counted = b.counted;
        up = λ up. (b.up up, a.settles.quiet);
        reasons_stand = λ up trust. (reasons_of b.more b (reasons_behind b.more names_there b trust)).1;
        apart = apart b.more;
        hands = λ up. hands_at w stored base q m settled b.more b.marks_are (hands names_there);
        down = λ down. absurd (true≢false (sym still ∙ down));
        past = past-kept w stored (after q b.more) settled kept;
        places = λ up. kept;
        empty = λ down. absurd (true≢false (sym still ∙ down));
      })

  -- the event is a stop, or a barrier broke, where the machine isn't up any more
  why_down : settled.loop.up ≡ false → (event ≡ Stop) ⊎ BrokeBefore (after q settled.marks)
  why_down down =
      go (takes_in-stays w stored_now counts m a.taken event a.takes) (along-stays w stored_now provider a.taken settled a.settles.along)
    where
      go : (a.taken.loop.up ≡ m.loop.up) ⊎ (event ≡ Stop) → (settled.loop.up ≡ a.taken.loop.up) ⊎ Broke w settled
          → (event ≡ Stop) ⊎ BrokeBefore (after q settled.marks)
      go (inr stop) then = inl stop
      go (inl same) (inl then) = absurd (true≢false (sym up ∙ sym same ∙ sym then ∙ down))
      go (inl same) (inr broke) = inr (subst (λ (r : Past B C I). BrokeBefore r)
          (sym (ap (λ (ms : List (Mark B)). after q ms) broke.marks_are
          ∙ after-push q broke.before (BarrierDone broke.number broke.height false))) (inl tt))

  module _ (now : Moment w) (over : List (Mark B)) (are : now.marks ≡ settled.marks ++ over ++ Stopped ∷ [])
      (ends : EndsAll (after q settled.marks) over) (leaves : LeavesNothing (after q settled.marks) over)
      (cleared : IsCleared w (record settled { marks = now.marks }) now) (names_there : NamesBehind w stored base q m settled)
      (b : EventBehind w stored base q m settled) (l : PlacesBehind w stored base q m settled)
      (y : DulyBehind w stored base event q m settled) (why : (event ≡ Stop) ⊎ BrokeBefore (after q settled.marks)) where
    abbrev last : List (Mark B)
    last = over ++ Stopped ∷ []

    all_are : now.marks ≡ settled.marks ++ last
    all_are = are ∙ append_assoc settled.marks over (Stopped ∷ [])

    ends_work : All IsWorkEnd over
    ends_work = EndsAll-ends (after q settled.marks) over ends

    ending : All IsEnding last
    ending = ends_stopped over (IsWorkEnd-ending over ends_work)

    past_is : after q (settled.marks ++ last) ≡ Made Stopped ∷ after (after q settled.marks) over
    past_is = after-append q settled.marks last ∙ after-push (after q settled.marks) over Stopped

    first_are : b.more ≡ settled.marks
    first_are = more_are b.more settled b.marks_are

    down : StoppedBehind w stored base q m now
    down = event-down w stored base q m settled now b last ending
        (subst (λ (ms : List (Mark B)). NothingLive (after q (ms ++ last))) (sym first_are)
        (subst (λ (r : Past B C I). NothingLive r) (sym past_is) leaves.stopped))
        (subst (λ (ms : List (Mark B)). IsCleared w (record settled { marks = ms }) now) all_are cleared)

    down_are : down.more ≡ settled.marks ++ last
    down_are = more_are down.more now down.marks_are ∙ all_are

    down_are_both : down.more ≡ b.more ++ last
    down_are_both = down_are ∙ ap (λ (ms : List (Mark B)). ms ++ last) (sym first_are)

    is_over : is_down (after q down.more) ≡ true
    is_over = ap (λ (ms : List (Mark B)). is_down (after q ms)) down_are ∙ ap (λ (r : Past B C I). is_down r) past_is

    is_closed : is_open (after q down.more) ≡ false
    is_closed = ap (λ (ms : List (Mark B)). is_open (after q ms)) down_are ∙ ap (λ (r : Past B C I). is_open r) past_is

    none_opens : opens down.more ≡ false
    none_opens = ap (λ (ms : List (Mark B)). opens ms) down_are_both
        ∙ opens-neither b.more last (opens-none b.more b.of_rules) (opens-ending last ending)

    none_prunes : pruned_below (after q down.more) ≡ pruned_below p
    none_prunes = ap (λ (ms : List (Mark B)). pruned_below (after q ms)) down_are_both
        ∙ ap (λ (r : Past B C I). pruned_below r) (after-append q b.more last)
        ∙ pruned-ends (after q b.more) last ending
        ∙ pruned_below-after q b.more b.of_rules

    -- a rule of these marks, those by which live work ends, and that of the stop
    each_down : (Rule : Past B C I → Mark B → Type 0) → EachMark Rule q b.more → EachMark Rule (after q b.more) over
        → Rule (after (after q b.more) over) Stopped → EachMark Rule q down.more
    each_down Rule rules ends_over stop =
        subst (λ (ms : List (Mark B)). EachMark Rule q ms) (sym down_are_both)
        (EachMark-append Rule q b.more last rules (EachMark-push Rule (after q b.more) over Stopped ends_over stop))

    has_stopped : Contains down.more Stopped
    has_stopped = subst (λ (ms : List (Mark B)). Contains ms Stopped) (sym down_are_both)
        (Contains-append_right b.more last Stopped (Contains-push over Stopped))

    why_here : (event ≡ Stop) ⊎ BrokeBefore (after (after q b.more) over)
    why_here = stopped_or_broke why
      where
        stopped_or_broke : (event ≡ Stop) ⊎ BrokeBefore (after q settled.marks) → (event ≡ Stop) ⊎ BrokeBefore (after (after q b.more) over)
        stopped_or_broke (inl stop) = inl stop
        stopped_or_broke (inr broke) = inr (BrokeBefore-after (after q b.more) over
            (subst (λ (ms : List (Mark B)). BrokeBefore (after q ms)) (sym first_are) broke))

    -- what is kept after the marks of the event, and each mark by which live work ends names live work
    kept_first : PastKept w stored (after q b.more)
    kept_first = subst (λ (ms : List (Mark B)). PastKept w stored (after q ms))
        (more_are l.more settled l.marks_are ∙ sym (more_are b.more settled b.marks_are)) (past-kept w stored (after q l.more) settled l.kept)

    named : EachMark NamesWork (after q b.more) over
    named = subst (λ (ms : List (Mark B)). EachMark NamesWork (after q ms) over) (sym first_are) (EndsAll-named (after q settled.marks) over ends)

    same_duly : y.more ≡ b.more
    same_duly = more_are y.more settled y.marks_are ∙ sym (more_are b.more settled b.marks_are)

    -- the marks of the event are among all of them
    among : AreAmong down.more b.more
    among = All-weaker (λ x. Contains b.more x) (λ x. Contains down.more x)
        (λ x has. subst (λ (ms : List (Mark B)). Contains ms x) (sym down_are_both) (Contains-append_left b.more last x has)) b.more
        (All-contains_itself b.more)

    -- behind all of them
    last_is : after q down.more ≡ Made Stopped ∷ after (after q b.more) over
    last_is = ap (λ (ms : List (Mark B)). after q ms) down_are_both ∙ after-append q b.more last ∙ after-push (after q b.more) over Stopped

    none_live : NothingLive (Made Stopped ∷ after (after q b.more) over)
    none_live = subst (λ (ms : List (Mark B)). NothingLive (Made Stopped ∷ after (after q ms) over)) (sym first_are) leaves.stopped

    -- what is trusted with all these marks is trusted with the first ones
    trusted_first : IsTrusted w stored (after q down.more) → IsTrusted w stored (after q b.more)
    trusted_first trust = IsTrusted-before_marks w stored last (after q b.more)
        (subst (λ (r : Past B C I). IsTrusted w stored r) (after-append q b.more last)
        (subst (λ (ms : List (Mark B)). IsTrusted w stored (after q ms)) down_are_both trust))

    stops_at : StepBehind w stored base p event now
    stops_at = StepBehind-of w stored base p event now base down.more (more_are down.more now down.marks_are) (record {
      base_is = base-same base down.more (w.kind.point now.members) none_opens;
      earned = down.earned;
      reasons = λ trust. each_down (HasItsReason w stored base event down.more)
          (reasons_of down.more b (reasons_behind down.more names_there b (trusted_first trust))).0
          (HasItsReason-ends w stored base event down.more (inr (inr has_stopped)) (after q b.more) over
          (subst (λ (ms : List (Mark B)). EndsAll (after q ms) over) (sym first_are) ends)) (tt, tt);
      said = down.said;
      in_place = each_down (IsInPlace w stored base)
          (subst (λ (ms : List (Mark B)). EachMark (IsInPlace w stored base) q ms)
          (more_are l.more settled l.marks_are ∙ sym (more_are b.more settled b.marks_are)) l.each)
          (work-in_place w stored base (after q b.more) over kept_first.past.gone named) (tt, tt, tt, tt, tt);
      duly = each_down (IsDulySaid w stored base event down.more)
          (subst (λ (ms : List (Mark B)). AreAmong down.more ms → EachMark (IsDulySaid w stored base event down.more) q ms) same_duly
          (y.each down.more) among)
          (work-duly w stored base event down.more (inr (inr has_stopped)) (after q b.more) over named) (tt, tt, tt, tt, λ rule. tt, tt);
      builds = subst (λ (ms : List (Mark B)). EachNext BuildIsAnswered q ms) (sym down_are_both)
          (answered-append q b.more last (subst (λ (ms : List (Mark B)). EachNext BuildIsAnswered q ms) same_duly y.answered)
          (unbuilt-answered (after q b.more) last (All-push IsUnbuilt over Stopped (work-unbuilt (after q b.more) over named) tt)));
      due = λ rule. each_down (PrunedIsDue (setting w stored) rule) (PrunedIsDue-rules (setting w stored) rule q b.more b.of_rules)
          (PrunedIsDue-ends (setting w stored) rule (after q b.more) over ends_work)
          (PrunedIsDue-stopped (setting w stored) rule (after (after q b.more) over));
      shared = λ rule. shared-stopped w stored rule event down.more (inr (inr has_stopped)) q down.more;
      opened = each_down (OpenedIsStored (setting w stored) event) (OpenedIsStored-rules (setting w stored) event q b.more b.of_rules)
          (OpenedIsStored-ends (setting w stored) event (after q b.more) over ends_work)
          (OpenedIsStored-stopped (setting w stored) event (after (after q b.more) over));
      committed = subst (λ (ms : List (Mark B)). All (IsCommittedTo w stored base) ms) (sym down_are_both)
          (All-append (IsCommittedTo w stored base) b.more last (IsCommittedTo-rules w stored base b.more b.of_rules)
          (All-push (IsCommittedTo w stored base) over Stopped (IsCommittedTo-ends w stored base over ends_work) tt));
      clean_start = each_down StartsClean (StartsClean-rules q b.more b.of_rules) (StartsClean-ends (after q b.more) over ends_work) tt;
      clean_stop = each_down (StopsClean event down.more) (StopsClean-rules event down.more q b.more b.of_rules)
          (StopsClean-ends event down.more (inr (inr has_stopped)) (after q b.more) over ends_work) (why_here, none_live);
      ends_stopped = λ cause. (b.more ++ over, down_are_both ∙ sym (append_assoc b.more over (Stopped ∷ [])));
      holds = down.holds;
      pruned = none_prunes;
      up_is = down.down.empty.up ∙ sym is_closed;
      open_is = is_closed ∙ ap (λ d. not d) (sym is_over);
      counted = down.down.counted;
      up = λ up. absurd (true≢false (sym up ∙ down.down.empty.up));
      reasons_stand = λ up trust. absurd (true≢false (sym up ∙ down.down.empty.up));
      apart = apart down.more;
      hands = λ up. absurd (true≢false (sym up ∙ down.down.empty.up));
      down = λ is. down.down.nothing;
      past = subst (λ (r : Past B C I). PastKept w stored r) (sym last_is)
          (past-stopped w stored (after (after q b.more) over) (past-work w stored (after q b.more) over named kept_first));
      places = λ up. absurd (true≢false (sym up ∙ down.down.empty.up));
      empty = λ is. down.down.empty;
    })

  -- it stops
  pub stops : (register : Register) (now : Moment w) → RegisterStands (numbered w.kind.count) p register
      → Stops w stored_now register event settled now
      → TrueNames (setting w stored) (after_entry p event now.marks) → StepBehind w stored base p event now
  stops register now registered t names =
      let work = t.work p registered in
      let over : List (Mark B) = work.0 in
      let are : now.marks ≡ settled.marks ++ over ++ Stopped ∷ [] = t.marks_are ∙ ap (λ (ms : List (Mark B)). ms ++ Stopped ∷ []) work.1 in
      let known : TrueNames (setting w stored) (after q (settled.marks ++ over ++ Stopped ∷ [])) =
      subst (λ (ms : List (Mark B)). TrueNames (setting w stored) (after q ms)) are names in
      let names_there : NamesBehind w stored base q m settled =
      NamesBehind-later w stored base q m settled settled.marks marks_are (over ++ Stopped ∷ [])
      (subst (λ (ms : List (Mark B)). TrueNames (setting w stored) (after q ms)) (append_assoc settled.marks over (Stopped ∷ [])) known) in
      stops_at now over are work.2 work.3 t.cleared names_there (behind names_there) (placed names_there) (said_duly names_there) (why_down t.down)
