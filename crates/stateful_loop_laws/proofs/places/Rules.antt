-- Marks are in their places after each rule of the loop.
use Rattle.std.proofs.Common.{◌≡◌, ◌≢◌, ◌++◌, ◌<◌, ℕ, true, false, map, List, [], ◌∷◌, All, Option, None, Some, IsSome, refl, sym, ap, ◌∙◌, subst, append-nil, append_assoc}
use Rattle.std.proofs.lemmas.List.{append_cancel_left}
use Rattle.std.proofs.lemmas.List.Elements.{All-nil, All-cons, All-append}
use Rattle.stateful_base.specs.Names.{Named}
use Rattle.stateful_durability.specs.Durability.{receipts_up_to}
use Rattle.stateful_db.specs.Laws.{Laws}
use Rattle.stateful_history.specs.Live.{bound_of}
use Rattle.stateful_history.specs.Opening.{opening}
use Rattle.stateful_history.specs.Past.{Past, after}
use Rattle.stateful_history.specs.declared.mark.Mark.{Mark}
use Rattle.stateful_history.specs.declared.mark.Mark.TheVariants as mark
use Rattle.stateful_table.specs.Table.{at}
use Rattle.stateful_exec_model.specs.Ending.{InTurn, none, next}
use Rattle.stateful_exec_model.specs.Finalizing.{front_at}
use Rattle.stateful_exec_model.specs.Moments as exec
use Rattle.stateful_exec_model.specs.Pausing.{GoesAlong, unparked}
use Rattle.stateful_exec_tables.specs.Phase.{parked_in}
use Rattle.stateful_exec_tables.specs.Tables.{requested}
use Rattle.stateful_exec_model.specs.Workings.{Workings}
use Rattle.stateful_exec_model.specs.declared.front.Front.{Front}
use Rattle.stateful_exec_model.specs.declared.front.Stage.TheVariants.{Advanced}
use Rattle.stateful_exec_pause.specs.declared.pause.Pause.TheVariants.{Free}
use Rattle.stateful_exec_tables.specs.declared.tables.Released.{Released}
use Rattle.stateful_exec_tables.specs.declared.tables.Requested.{Requested}
use Rattle.stateful_exec_laws.specs.Due.{IsDue}
use Rattle.stateful_exec_laws.specs.Requesting.{IsStanding}
use Rattle.stateful_exec_laws.specs.Setting.{setting}
use Rattle.stateful_exec_laws.specs.Ways.{WaysStand}
use Rattle.stateful_exec_laws.proofs.requests.Arrivals.{live_below}
use Rattle.stateful_exec_laws.proofs.pauses.DueStands.{IsDue-quietly}
use Rattle.stateful_exec_laws.specs.Storing.{IsStoredNow}
use Rattle.stateful_exec_laws.proofs.earned.Left.{LeavesBehind-advances}
use Rattle.stateful_exec_laws.proofs.front.MovedStands.{TablesStand-free}
use Rattle.stateful_exec_laws.proofs.places.Starts.{live-request}
use Rattle.stateful_exec_laws.proofs.requests.Quiet.{GoesQuietly-resumes}
use Rattle.stateful_exec_laws.proofs.runs.Removing.{All-at}
use Rattle.stateful_exec_laws.proofs.requests.ServedMarks.{advances-marks}
use Rattle.stateful_loop_model.specs.Moments.{Moment, Executing, inner, with_loop}
use Rattle.stateful_loop_model.specs.Rules.{acknowledged, BeginsBarrier, DoesMessage, schedules, answers, acknowledges, holds, begins, EndsFinalization, Takes, Rule, collects, puts_off, runs, applies, covers, observes, ends, breaks, completes, builds, takes}
use Rattle.stateful_loop_model.specs.declared.message.Action.TheVariants as action
use Rattle.stateful_loop_model.specs.declared.message.Message.{Message}
use Rattle.stateful_loop_model.specs.declared.message.Message.TheVariants as message
use Rattle.stateful_loop_model.specs.declared.tables.Finalizing.{Finalizing}
use Rattle.stateful_loop_laws.specs.Execution.{HasMovedOn, IsPlaced, Executes}
use Rattle.stateful_loop_laws.specs.Places.{HasMovedIn, PlacesKept, PlacesBehind}
use Rattle.stateful_loop_laws.specs.RuleMarks.{IsOfRule, MarksBehind}
use Rattle.stateful_loop_laws.specs.Stands.{IsUpAt}
use Rattle.stateful_loop_laws.specs.Tickets.{MessageStands}
use Rattle.stateful_loop_laws.specs.Ways.{WaysKept}
use Rattle.stateful_loop_laws.proofs.barriers.Acknowledging.{finalized-Met, receipt-EndsLive}
use Rattle.stateful_loop_laws.proofs.execution.AnchorStands.{Executes-takes, idle-front}
use Rattle.stateful_loop_laws.proofs.execution.Kept.{Executes-same}
use Rattle.stateful_loop_laws.proofs.duly.MarksOfRules.{takes-marks, rule_marks}
use Rattle.stateful_loop_laws.proofs.places.Builds.{places-builds, places-begins}
use Rattle.stateful_loop_laws.proofs.places.Ends.{IsResumedInPlace, resumed-in_place}
use Rattle.stateful_loop_laws.proofs.places.Front.{places-runs, places-applies, places-observes}
use Rattle.stateful_loop_laws.proofs.places.Past.{gone-after, whole-after}
use Rattle.stateful_loop_laws.proofs.places.Scheduled.{kept-same, places-before, places-schedules}
use Rattle.stateful_loop_laws.proofs.places.Served.{served-rules, not-there}
use Rattle.stateful_loop_laws.proofs.places.Still.{IsStill, places-still, barrier-new, completes-in_place}
use Rattle.stateful_loop_laws.proofs.events.RuleItems.{IsStoredNow-after}
use Rattle.stateful_loop_laws.proofs.tickets.Taken.{action_taken, message_taken, takes-taken, takes-execution}
use Rattle.stateful_loop_laws.proofs.tickets.Uncancelled.{live-uncancelled}
use Rattle.stateful_loop_laws.proofs.ways.Behind.{WaysStand-free}
use Rattle.stateful_loop_laws.proofs.ways.Beside.{WaysStand-tip}

one_still : {B : Type 0} (m : Mark B) → IsStill m → All IsStill (m ∷ [])
one_still m h = All-cons IsStill m [] h (All-nil IsStill)

still_receipts : {B : Type 0} (receipts : List (ℕ × ℕ)) → All (IsStill {B = B}) (map acknowledged receipts)
still_receipts [] = All-nil IsStill
still_receipts (r ∷ receipts) = All-cons IsStill (acknowledged r) _ tt (still_receipts receipts)

module _ {B C I P R D H G U : Type 0} (w : Workings B C I P R D H G U) where
  -- requests that go along their paths leave the pause, and make marks of rules
  record GoesOnward (m now : exec.Moment w) : Type 0 where
    pause : now.state.pause ≡ m.state.pause
    more : List (Mark B)
    marks_are : now.marks ≡ m.marks ++ more
    rules : All IsOfRule more

  onward : (p : Past B C I) (rs : List (Released B C I)) (m last : exec.Moment w) → InTurn (GoesAlong w) rs m last → GoesOnward m last
  onward p [] m _ none = record { pause = refl; more = []; marks_are = sym (append-nil m.marks); rules = All-nil IsOfRule }
  onward p (r ∷ rs) m last (next {n = n} rule rules) =
      let one = advances-marks w p m n r.ticket (requested r.request) r.path rule in
      let rest = onward p rs n last rules in
      record {
        pause = rest.pause ∙ (LeavesBehind-advances w m n r.ticket (requested r.request) r.path rule).left.pause;
        more = one.more ++ rest.more;
        marks_are = rest.marks_are ∙ ap (λ (ms : List (Mark B)). ms ++ rest.more) one.marks_are ∙ append_assoc m.marks one.more rest.more;
        rules = All-append IsOfRule one.more rest.more (served-rules r.ticket p one.more one.each) rest.rules;
      }

module _ {B C I P R D H G U : Type 0} (w : Workings B C I P R D H G U) (laws : Laws w.kind) (stored : ℕ → Option (Named B)) (base : w.States)
    (p : Past B C I) (stored_now : ℕ → Option (Named B)) (stored_is : IsStoredNow stored p stored_now) where
  module _ (m now : Moment w) (e : Executes w stored base p m) (kept : WaysKept w stored p m.execution.state) (h : PlacesKept w stored p m)
      (f : Finalizing B G) (is : m.execution.front ≡ front_at f.block Advanced) (made : MarksBehind w m now)
      (r : EndsFinalization w stored_now f m now) where
    moved : HasMovedOn w stored base p e.points e.point m.next m.execution.state
    moved = subst (λ (o : Option (Front B R U H)). IsPlaced w stored base p e.points e.point m.next m.execution.state o) is e.placed

    ways : WaysStand w stored p m.execution.state.anchor (record m.execution.state { pause = Free })
    ways = WaysStand-free w stored p m.execution.state.anchor m.execution.state moved.moved
        (WaysStand-tip w stored p m.execution.state m.execution.state.anchor moved.ground.folded.tip_is kept)

    along : GoesOnward w (unparked w (inner w m)) r.resumes.mid
    along = onward w p (parked_in m.execution.state.requests) (unparked w (inner w m)) r.resumes.mid r.resumes.along

    on : IsResumedInPlace w stored stored_now base m.execution.state.anchor e.points e.point laws.ids.issued_other p (inner w m) r.then
    on = resumed-in_place w stored stored_now base m.execution.state.anchor e.points e.point laws.ids.issued_other p (inner w m)
        (TablesStand-free w stored p e.points e.point m.next m.execution.state moved.moved.boundary moved.moved.pause_is moved.moved.moved e.tables)
        moved.ground ways e.located e.drawn stored_is h.past.orderly h.asks.along
        (h.asks.nothing (subst (λ (o : Option (Front B R U H)). HasMovedIn o) (sym is) tt)) r.then r.resumes
        (λ more at_mid. IsStoredNow-after stored p stored_now stored_is more
        (subst (λ (ms : List (Mark B)). All IsOfRule ms) (append_cancel_left m.marks along.more more (sym along.marks_are ∙ at_mid)) along.rules))
        along.pause

    abbrev last : Past B C I
    last = after p on.more

    marks_are : now.marks ≡ m.marks ++ on.more
    marks_are = ap (λ (n : Moment w). n.marks) r.becomes ∙ on.marks_are

    rules : All IsOfRule on.more
    rules = subst (λ (ms : List (Mark B)). All IsOfRule ms) (append_cancel_left m.marks made.more on.more (sym made.marks_are ∙ marks_are)) made.each

    below : (t : ℕ) (o : Option (Requested B C I)) → at r.then.state.requests t ≡ o → IsSome o → t < bound_of last
    below t None is some = cc
    below t (Some x) is some =
        let st = All-at (λ (y : ℕ × Requested B C I). IsStanding w stored last r.then.state.runs y.0 y.1) r.then.state.requests t x is on.stands.requests.each in
        live_below t last _ (live-request w stored last t x.request st.asked)

    -- where a finalization ends
    pub places-ends : PlacesBehind w stored base p m now
    places-ends = record {
      more = on.more;
      marks_are = marks_are;
      each = on.each;
      kept = subst (λ (n : Moment w). PlacesKept w stored last n) (sym r.becomes) (record {
        past = record { orderly = on.stays.orderly; gone = gone-after p on.more h.past.gone; whole = whole-after p on.more rules ∙ h.past.whole };
        due = IsDue-quietly w stored p (inner w m) r.then None (GoesQuietly-resumes w stored_now (inner w m) r.then r.resumes)
            (subst (λ (o : Option (Front B R U H)). IsDue (setting w stored) p m.execution.state.cache o) is h.due) on.more on.marks_are;
        asks = record {
          along = on.stays.along;
          earlier = λ t d was. below t (at r.then.state.requests t) refl (on.stays.these t d was);
          inside = λ t d was live out. not-there r.then.state.requests t out.elsewhere.absent (on.stays.these t d was);
          nothing = λ moved. absurd moved;
        };
        hooks = λ g captured at some. let never : ⊥ = cc in absurd never;
      });
    }

  -- what becomes of a message that is taken
  does-places : (m now : Moment w) (x : Message B C I) → m.execution.front ≡ None → m.execution.build ≡ None → opening p ≢ None
      → MessageStands w stored p m.execution.state m.execution.build x → Executes w stored base p m
      → PlacesKept w stored p m → DoesMessage w stored_now m now x → PlacesBehind w stored base p m now
  does-places m now _ front build opened stands e h (schedules {request = request} r) =
      places-schedules w stored base p stored_now request m now front stands e h r
  does-places m now _ front build opened stands e h (answers {t = t} is) =
      subst (λ (n : Moment w). PlacesBehind w stored base p m n) (sym is)
      (places-still w stored base p m _ (mark.Databases t ∷ []) refl
      (((stands.0, opened, h.past.whole), tt, tt, tt, live-uncancelled p h.past.gone t _ stands.0.live), tt)
      (one_still _ tt) refl refl refl refl refl refl h)
  does-places m now _ front build opened stands e h (acknowledges {t = t} {b = b} old durable is) =
      subst (λ (n : Moment w). PlacesBehind w stored base p m n) (sym is)
      (places-still w stored base p m _ (acknowledged (w.header.height b.block, t) ∷ []) refl (
        (
          receipt-EndsLive (setting w stored) p t (w.header.height b.block) (record { live = stands.0; block = b; finalized = stands.1; height_is = refl }),
          tt,
          tt,
          tt,
          live-uncancelled p h.past.gone t _ stands.0,
        ),
        tt,
      ) (one_still _ tt) refl refl refl refl refl refl h)
  does-places m now _ front build opened stands e h (holds old above is) =
      subst (λ (n : Moment w). PlacesBehind w stored base p m n) (sym is)
      (places-still w stored base p m _ [] (sym (append-nil m.marks)) tt (All-nil IsStill) refl refl refl refl refl refl h)
  does-places m now _ front build opened stands e h (begins {t = t} {b = b} above r) =
      places-begins w stored base p m now front build e h t b above (finalized-Met (setting w stored) t b p stands.1) stands.0 r

  module _ (m now : Moment w) (h : IsUpAt w stored base p m) (k : PlacesKept w stored p m) where
    begins_barrier : BeginsBarrier w m now → PlacesBehind w stored base p m now
    begins_barrier r = subst (λ (n : Moment w). PlacesBehind w stored base p m n) (sym r.becomes)
        (places-still w stored base p m _ (mark.BarrierBegun m.loop.next_barrier (record { 0 = m.loop.durability.applied }) ∷ []) refl
        ((tt, barrier-new w stored base p m h.loop, tt, tt, tt), tt) (one_still _ tt) refl refl refl refl refl refl k)

    opened : opening p ≢ None
    opened closed = let some = h.loop.keeping.opened in let both = sym closed ∙ some in cc

    -- After a rule marks were made in their places, and what is kept for them is kept.
    pub places-rule : (provider : P) → Rule w stored_now provider m now → PlacesBehind w stored base p m now
    places-rule provider (collects {t = t} up r) = subst (λ (n : Moment w). PlacesBehind w stored base p m n) (sym r.becomes)
        (places-still w stored base p m _ [] (sym (append-nil m.marks)) tt (All-nil IsStill) refl refl refl refl refl refl k)
    places-rule provider (Rule.schedules {request = request} {rest = rest} collected building is verifies r) =
        let mid : Moment w = with_loop w m (record m.loop { queue = rest }) in
        places-before w stored base p m mid now refl
        (places-schedules w stored base p stored_now request mid now (h.executes.alone building)
        (message_taken w stored p (message.Request request) rest m is h.tickets).stands
        (Executes-same w stored base p m mid refl refl refl h.executes) (kept-same w stored base p m mid refl refl k) r)
    places-rule provider (puts_off collected building is other becomes) = subst (λ (n : Moment w). PlacesBehind w stored base p m n) (sym becomes)
        (places-still w stored base p m _ [] (sym (append-nil m.marks)) tt (All-nil IsStill) refl refl refl refl refl refl k)
    places-rule provider (runs {f = f} fin begun awaits unknown r) = places-runs w stored base p m now h.executes k f.block begun unknown r
    places-rule provider (applies {f = f} fin captured states r) = places-applies w stored base p m now h.executes k f r
    places-rule provider (covers fin advanced captured needed r) = begins_barrier r
    places-rule provider (observes {f = f} {captured = captured} fin advanced is covered o) =
        places-observes w stored base p m now h.executes k f captured fin advanced is o
    places-rule provider (ends {f = f} fin advanced none_is r) =
        places-ends m now h.executes h.ways k f advanced (rule_marks w stored_now provider m now (ends fin advanced none_is r)) r
    places-rule provider (breaks {active = active} idle is becomes) = subst (λ (n : Moment w). PlacesBehind w stored base p m n) (sym becomes)
        (places-still w stored base p m _ (mark.BarrierDone active.number active.height false ∷ []) refl ((tt, tt, tt, tt, tt), tt) (one_still _ tt)
        refl refl refl refl refl refl k)
    places-rule provider (completes {active = active} idle unbroken done r) = subst (λ (n : Moment w). PlacesBehind w stored base p m n)
        (sym r.becomes)
        (places-still w stored base p m _ _ refl (completes-in_place w stored base p m k.past.gone h.tickets active)
        (All-cons IsStill (mark.BarrierDone active.number active.height true) _ tt
        (still_receipts (receipts_up_to active.height.0 m.loop.durability.held)))
        refl refl refl refl refl refl k)
    places-rule provider (Rule.begins idle unbroken undone needed r) = begins_barrier r
    places-rule provider (builds {t = t} {rest = rest} calm is r) =
        let mid : Moment w = with_loop w m (record m.loop { actions = rest }) in
        places-before w stored base p m mid now refl
        (places-builds w stored base p mid now (idle-front w m (h.sound.up calm.0.0.0) calm.0.2) calm.0.1
        (Executes-same w stored base p m mid refl refl refl h.executes) (kept-same w stored base p m mid refl refl k) t provider
        (action_taken w stored p (action.Build t) rest m is h.tickets).stands.0 r)
    places-rule provider (takes {x = x} {mid = mid} calm take does) =
        let same = takes-execution w stored p x m mid take in
        places-before w stored base p m mid now (takes-marks w x m mid take)
        (does-places mid now x
        (ap (λ (n : Executing B C I R D H U). n.front) same ∙ idle-front w m (h.sound.up calm.0.0.0) calm.0.2)
        (ap (λ (n : Executing B C I R D H U). n.build) same ∙ calm.0.1) opened
        (takes-taken w stored p x m mid take h.tickets).stands
        (Executes-takes w stored base p x m mid take h.executes)
        (kept-same w stored base p m mid same (taken_front x mid take) k) does)
      where
        taken_front : (x : Message B C I) (mid : Moment w) → Takes w x m mid → mid.loop.front ≡ m.loop.front
        taken_front x mid (Takes.of_action is become) = ap (λ n. n.loop.front) become
        taken_front x mid (Takes.of_message none_first is become) = ap (λ n. n.loop.front) become
