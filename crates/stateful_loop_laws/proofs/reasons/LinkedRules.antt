-- What was gathered stays linked, and the parents of queued proposals known or lost, after each rule of the loop.
use Rattle.std.proofs.Common.{◌≡◌, ◌<◌, ◌++◌, ◌∷◌, [], ℕ, Bool, List, Option, None, Some, All, map, refl, sym, ap, ◌∙◌, subst, append-nil, arith}
use Rattle.std.proofs.lemmas.List.Elements.{All-nil, All-cons, All-head}
use Rattle.stateful_base.specs.Names.{Named}
use Rattle.stateful_db.specs.Laws.{Laws}
use Rattle.stateful_db.specs.declared.application.Hooked.{Hooked}
use Rattle.stateful_db.specs.declared.application.Hooked.TheVariants as hooked
use Rattle.stateful_history.specs.Finalizations.{finalized_since}
use Rattle.stateful_history.specs.Met.{Met}
use Rattle.stateful_history.specs.Past.{Past, Made, after}
use Rattle.stateful_history.specs.declared.event.Event.TheVariants.{Stop}
use Rattle.stateful_history.specs.declared.mark.Mark.{Mark}
use Rattle.stateful_history.specs.declared.mark.Mark.TheVariants as mark
use Rattle.stateful_exec_model.specs.Finalizing.{front_at, HooksOn}
use Rattle.stateful_exec_walk.specs.Request.{ticket_by}
use Rattle.stateful_exec_tables.specs.Tables.{requested}
use Rattle.stateful_exec_model.specs.Workings.{Workings}
use Rattle.stateful_exec_model.specs.declared.front.Front.{Front}
use Rattle.stateful_exec_model.specs.declared.front.Stage.TheVariants.{Advanced}
use Rattle.stateful_exec_pause.specs.declared.pause.Pause.{Pause}
use Rattle.stateful_exec_pause.specs.declared.pause.Pause.TheVariants.{Free}
use Rattle.stateful_exec_walk.specs.declared.request.Request.{Request}
use Rattle.stateful_exec_tables.specs.declared.state.Tables.{Tables}
use Rattle.stateful_exec_laws.specs.Gathering.{gathered, AreLinked}
use Rattle.stateful_exec_laws.specs.Ground.{IsGround}
use Rattle.stateful_exec_laws.specs.Setting.{setting}
use Rattle.stateful_exec_laws.specs.Standing.{TablesStand}
use Rattle.stateful_exec_laws.specs.Storing.{IsStoredNow}
use Rattle.stateful_exec_laws.specs.Ways.{WaysStand}
use Rattle.stateful_exec_laws.proofs.linked.Began.{StaysLinked-began}
use Rattle.stateful_exec_laws.proofs.linked.Fetched.{StaysLinked-unqueued}
use Rattle.stateful_exec_laws.proofs.linked.On.{IsStill, StaysLinked, StaysLinked-marks}
use Rattle.stateful_exec_laws.proofs.linked.Resumed.{StaysLinked-resumed}
use Rattle.stateful_exec_laws.proofs.linked.Served.{StaysLinked-acquires}
use Rattle.stateful_exec_laws.proofs.linked.Turned.{LinkedBehind}
use Rattle.stateful_exec_laws.proofs.front.MovedStands.{TablesStand-free}
use Rattle.stateful_exec_laws.proofs.linked.QueueServed.{queue-met}
use Rattle.stateful_exec_laws.proofs.requests.ServedMarks.{acquires-marks}
use Rattle.stateful_loop_model.specs.Moments.{Moment, Executing, inner, with_loop}
use Rattle.stateful_loop_model.specs.Rules.{acknowledged, Schedules, Builds, starts, declines, BeginsBarrier, BeginsFinalization, EndsFinalization, DoesMessage, schedules, answers, acknowledges, holds, begins, Rule}
use Rattle.stateful_loop_model.specs.Rules as rule
use Rattle.stateful_loop_model.specs.declared.message.Message.{Message}
use Rattle.stateful_loop_model.specs.declared.message.Message.TheVariants as message
use Rattle.stateful_loop_model.specs.declared.tables.Finalizing.{Finalizing}
use Rattle.stateful_loop_laws.specs.Execution.{Executes, IsPlaced, IsFree, HasMovedOn, NamesBehind}
use Rattle.stateful_loop_laws.specs.Reasons.{MessageIsLinked, IsTrusted}
use Rattle.stateful_loop_laws.specs.Stands.{IsUpAt}
use Rattle.stateful_loop_laws.specs.Tickets.{MessageStands}
use Rattle.stateful_loop_laws.proofs.barriers.Acknowledging.{finalized-Met}
use Rattle.stateful_loop_laws.proofs.execution.AnchorStands.{Executes-takes, idle-front}
use Rattle.stateful_loop_laws.proofs.execution.Kept.{Executes-same}
use Rattle.stateful_loop_laws.proofs.duly.MarksOfRules.{takes-marks}
use Rattle.stateful_loop_laws.proofs.reasons.Linked.{LoopIsLinked, takes-linked}
use Rattle.stateful_loop_laws.proofs.reasons.Resumed.{resumed-may}
use Rattle.stateful_loop_laws.proofs.reasons.RoundsLater.{later-finalized}
use Rattle.stateful_loop_laws.proofs.tickets.Taken.{message_taken, takes-taken, takes-execution}
use Rattle.stateful_loop_laws.proofs.ways.Behind.{WaysStand-free}
use Rattle.stateful_loop_laws.proofs.ways.Beside.{WaysStand-tip}

module _ {B C I P R D H G U : Type 0} (w : Workings B C I P R D H G U) (stored : ℕ → Option (Named B)) (base : w.States) (p : Past B C I) where
  -- from one moment of the loop to a later one some marks are made, and it stays so with them
  pub record TablesLinkedBehind (m now : Moment w) : Type 0 where
    pub more : List (Mark B)
    pub marks_are : now.marks ≡ m.marks ++ more
    pub stays : StaysLinked w stored base (after p more) now.execution.state

  abbrev pub AreStill : List (Mark B) → Type 0
  AreStill marks = All (λ m. IsStill {C = C} {I = I} (Made m)) marks

  pub one_still : (m : Mark B) → IsStill {C = C} {I = I} (Made m) → AreStill (m ∷ [])
  one_still m still = All-cons (λ x. IsStill {C = C} {I = I} (Made x)) m [] still (All-nil (λ x. IsStill {C = C} {I = I} (Made x)))

  pub none_still : AreStill []
  none_still = All-nil (λ x. IsStill {C = C} {I = I} (Made x))

  acknowledged_still : (receipts : List (ℕ × ℕ)) → AreStill (map acknowledged receipts)
  acknowledged_still [] = none_still
  acknowledged_still (receipt ∷ receipts) =
      All-cons (λ x. IsStill {C = C} {I = I} (Made x)) (acknowledged receipt) _ tt (acknowledged_still receipts)

  module _ (m now : Moment w) (e : Executes w stored base p m) (names : NamesBehind w stored base p m now)
      (h : StaysLinked w stored base p m.execution.state) where
    abbrev v : Tables B C I R U
    v = m.execution.state

    -- where marks are made that open nothing, begin no finalization and ask for nothing
    pub still-behind : (marks : List (Mark B)) → AreStill marks → now.marks ≡ m.marks ++ marks → StaysLinked w stored base (after p marks) v
    still-behind marks still is =
        StaysLinked-marks w stored base marks p still (names marks is) v (queue-met w stored p v.queued v.recovered e.tables.queue) h

    -- and the requests and the queue are as they were
    pub tables-still : (marks : List (Mark B)) → AreStill marks → now.marks ≡ m.marks ++ marks → now.execution.state.requests ≡ v.requests
        → now.execution.state.queued ≡ v.queued → TablesLinkedBehind m now
    tables-still marks still is requests queued = record {
      more = marks;
      marks_are = is;
      stays = record { gatherings = rw requests (still-behind marks still is).gatherings; reaches = rw queued (still-behind marks still is).reaches };
    }

    pub tables-same : now.marks ≡ m.marks → now.execution.state.requests ≡ v.requests → now.execution.state.queued ≡ v.queued
        → TablesLinkedBehind m now
    tables-same is requests queued = tables-still [] none_still (is ∙ sym (append-nil m.marks)) requests queued

  -- those that were made since another moment of the same marks
  pub tables-since : (m mid now : Moment w) → mid.marks ≡ m.marks → TablesLinkedBehind mid now → TablesLinkedBehind m now
  tables-since m mid now same b = record {
    more = b.more;
    marks_are = b.marks_are ∙ ap (λ (ms : List (Mark B)). ms ++ b.more) same;
    stays = b.stays;
  }

  names_since : (m mid now : Moment w) → mid.marks ≡ m.marks → NamesBehind w stored base p m now → NamesBehind w stored base p mid now
  names_since m mid now same names more is = names more (is ∙ ap (λ (ms : List (Mark B)). ms ++ more) same)

  module _ (m now : Moment w) (e : Executes w stored base p m) (names : NamesBehind w stored base p m now)
      (h : StaysLinked w stored base p m.execution.state) where
    -- a barrier begins
    begins-barrier : BeginsBarrier w m now → TablesLinkedBehind m now
    begins-barrier r = tables-still m now e names h _ (one_still (mark.BarrierBegun m.loop.next_barrier (record { 0 = m.loop.durability.applied })) tt)
        (ap (λ (n : Moment w). n.marks) r.becomes) (ap (λ (n : Moment w). n.execution.state.requests) r.becomes)
        (ap (λ (n : Moment w). n.execution.state.queued) r.becomes)

    -- what is observed after a finalized block makes no mark, or that of the hook's start
    observed : (b : Named B) (hook_left : Hooked H) (new : Tables B C I R U) (made : List (Mark B)) (after : Option (Front B R U H)) (live : Bool)
        → HooksOn w b hook_left m.execution.state new m.marks made after live → now.marks ≡ made → now.execution.state ≡ new → TablesLinkedBehind m now
    observed b hooked.Done new made after live hooks is state =
        tables-same m now e names h (is ∙ hooks.1) (ap (λ (t : Tables B C I R U). t.requests) (state ∙ hooks.0))
        (ap (λ (t : Tables B C I R U). t.queued) (state ∙ hooks.0))
    observed b (hooked.Pending hook) new made after live hooks is state =
        tables-still m now e names h _ (one_still _ tt) (is ∙ hooks.2) (ap (λ (t : Tables B C I R U). t.requests) (state ∙ hooks.0))
        (ap (λ (t : Tables B C I R U). t.queued) (state ∙ hooks.0))

    -- a build is started, or its proposal is declined
    tables-builds : (provider : P) (t : ℕ) → Builds w provider t m now → TablesLinkedBehind m now
    tables-builds provider t (starts s is) = record {
      more = _;
      marks_are = ap (λ (n : Moment w). n.marks) is;
      stays = StaysLinked-unqueued w stored base _ m.execution.state now.execution.state t
          (ap (λ (n : Moment w). n.execution.state.requests) is ∙ ap (λ (v : Tables B C I R U). v.requests) s.state)
          (ap (λ (n : Moment w). n.execution.state.queued) is ∙ ap (λ (v : Tables B C I R U). v.queued) s.state)
          (still-behind m now e names h (mark.Started m.execution.state.next_job _ s.proposal.ancestry.first.digest ∷ []) (one_still _ tt)
          (ap (λ (n : Moment w). n.marks) is));
    }
    tables-builds provider t (declines off is) = record {
      more = _;
      marks_are = ap (λ (n : Moment w). n.marks) is;
      stays = StaysLinked-unqueued w stored base _ m.execution.state now.execution.state t
          (ap (λ (n : Moment w). n.execution.state.requests) is) (ap (λ (n : Moment w). n.execution.state.queued) is)
          (still-behind m now e names h (mark.Declined t ∷ []) (one_still _ tt) (ap (λ (n : Moment w). n.marks) is));
    }

    module _ (front : m.execution.front ≡ None) where
      free : IsFree w stored base p e.points e.point m.next m.execution.state
      free = subst (λ (f : Option (Front B R U H)). IsPlaced w stored base p e.points e.point m.next m.execution.state f) front e.placed

      -- a request acquires what it needs
      tables-schedules : (stored_now : ℕ → Option (Named B)) (request : Request B C I)
          → MessageStands w stored p m.execution.state m.execution.build (message.Request request) → AreLinked (setting w stored) (gathered request [])
          → Schedules w stored_now request m now → TablesLinkedBehind m now
      tables-schedules stored_now request stands linked r =
          let k = acquires-marks w p (inner w m) r.then (ticket_by request) stored_now (requested request) r.acquires in
          let is : now.marks ≡ m.marks ++ k.more = ap (λ (n : Moment w). n.marks) r.becomes ∙ k.marks_are in
          record {
            more = k.more;
            marks_are = is;
            stays = subst (λ (n : Moment w). StaysLinked w stored base (after p k.more) n.execution.state) (sym r.becomes)
                (StaysLinked-acquires w stored base p e.points e.point (inner w m) r.then e.tables h k.more k.marks_are (names k.more is)
                (ticket_by request) (requested request) m.execution.state.anchor
                (subst (λ (x : Pause). IsGround w stored base p e.points e.point m.next m.execution.state.anchor x m.execution.state.anchor
                m.execution.state.cache) (sym free.pause_is) free.ground) free.pause_is (record {
                  absent = stands.2.elsewhere.absent;
                  not_queued = stands.2.elsewhere.not_queued;
                  own = refl;
                  asked = stands.0;
                  brought = stands.1;
                }) (All-nil (Met (setting w stored) p)) linked stored_now r.acquires);
          }

      -- a finalization begins, of a block that came as finalized
      tables-begins : IsTrusted w stored p → (t : ℕ) (b : Named B) → finalized_since t p ≡ Some b
          → m.execution.state.anchor.height.0 < w.header.height b.block → BeginsFinalization w t b m now → TablesLinkedBehind m now
      tables-begins trust t b came high r =
          let is : now.marks ≡ m.marks ++ mark.Began t b ∷ r.withdrawn = ap (λ (n : Moment w). n.marks) r.becomes in
          record {
            more = _;
            marks_are = is;
            stays = subst (λ (n : Moment w). StaysLinked w stored base (after p (mark.Began t b ∷ r.withdrawn)) n.execution.state) (sym r.becomes)
                (StaysLinked-began w stored base p e.points e.point m.next m.execution.state r.state e.tables free.ground t b r.boundary r.is_boundary
                (finalized-Met (setting w stored) t b p came) r.may.on_anchor (omega (arith, high))
                (later-finalized w stored p trust.rise m.execution.state.anchor free.ground.top t b came r.may.on_anchor) h r.withdrawn
                (names (mark.Began t b ∷ r.withdrawn) is) r.pauses);
          }

      -- what becomes of a message that is taken
      tables-does : IsTrusted w stored p → (stored_now : ℕ → Option (Named B)) (x : Message B C I)
          → MessageStands w stored p m.execution.state m.execution.build x → MessageIsLinked (setting w stored) x → DoesMessage w stored_now m now x
          → TablesLinkedBehind m now
      tables-does trust stored_now _ stands linked (schedules {request = request} r) = tables-schedules stored_now request stands linked r
      tables-does trust stored_now _ stands linked (answers is) =
          tables-still m now e names h _ (one_still _ tt) (ap (λ (n : Moment w). n.marks) is)
          (ap (λ (n : Moment w). n.execution.state.requests) is) (ap (λ (n : Moment w). n.execution.state.queued) is)
      tables-does trust stored_now _ stands linked (acknowledges again durable is) =
          tables-still m now e names h _ (one_still _ tt) (ap (λ (n : Moment w). n.marks) is)
          (ap (λ (n : Moment w). n.execution.state.requests) is) (ap (λ (n : Moment w). n.execution.state.queued) is)
      tables-does trust stored_now _ stands linked (holds again above is) =
          tables-same m now e names h (ap (λ (n : Moment w). n.marks) is)
          (ap (λ (n : Moment w). n.execution.state.requests) is) (ap (λ (n : Moment w). n.execution.state.queued) is)
      tables-does trust stored_now _ stands linked (begins {t = t} {b = b} above r) = tables-begins trust t b stands.1 above r

module _ {B C I P R D H G U : Type 0} (w : Workings B C I P R D H G U) (laws : Laws w.kind) (stored : ℕ → Option (Named B)) (base : w.States)
    (p : Past B C I) (stored_now : ℕ → Option (Named B)) (stored_is : IsStoredNow stored p stored_now) (trust : IsTrusted w stored p)
    (m now : Moment w) (u : IsUpAt w stored base p m) (names : NamesBehind w stored base p m now)
    (h : StaysLinked w stored base p m.execution.state) where
  -- a finalization ends, and the requests that were parked or wait go on
  tables-ends : (f : Finalizing B G) → m.execution.front ≡ front_at f.block Advanced → EndsFinalization w stored_now f m now
      → TablesLinkedBehind w stored base p m now
  tables-ends f at_front r = record {
    more = k.more;
    marks_are = ap (λ (n : Moment w). n.marks) r.becomes ∙ k.marks_are;
    stays = subst (λ (n : Moment w). StaysLinked w stored base (after p k.more) n.execution.state) (sym r.becomes) k.stays;
  }
    where
      e : Executes w stored base p m
      e = u.executes

      moved : HasMovedOn w stored base p e.points e.point m.next m.execution.state
      moved = subst (λ (o : Option (Front B R U H)). IsPlaced w stored base p e.points e.point m.next m.execution.state o) at_front e.placed

      tables : TablesStand w stored p e.points e.point m.next (record m.execution.state { pause = Free })
      tables = TablesStand-free w stored p e.points e.point m.next m.execution.state moved.moved.boundary moved.moved.pause_is moved.moved.moved e.tables

      ways : WaysStand w stored p m.execution.state.anchor (record m.execution.state { pause = Free })
      ways = WaysStand-free w stored p m.execution.state.anchor m.execution.state moved.moved
          (WaysStand-tip w stored p m.execution.state m.execution.state.anchor moved.ground.folded.tip_is u.ways)

      k : LinkedBehind w stored base p (inner w m) r.then
      k = StaysLinked-resumed w stored stored_now base m.execution.state.anchor e.points e.point laws.ids.issued_other p (inner w m) tables
          moved.ground ways e.located e.drawn trust.honest trust.answered h r.then r.resumes
          (resumed-may w stored stored_now base m.execution.state.anchor e.points e.point Stop [] laws.ids.issued_other p (inner w m) tables
          moved.ground ways e.located e.drawn stored_is h.gatherings trust.honest trust.answered r.then r.resumes)

  -- it is so of the tables at a moment with the same
  as_at : (mid : Moment w) → mid.execution ≡ m.execution → StaysLinked w stored base p mid.execution.state
  as_at mid same = subst (λ (x : Executing B C I R D H U). StaysLinked w stored base p x.state) (sym same) h

  -- It stays so after a rule of the loop, where the messages of the loop are linked.
  pub tables-rule : LoopIsLinked w stored m → (provider : P) → Rule w stored_now provider m now → TablesLinkedBehind w stored base p m now
  tables-rule loop provider (rule.collects up r) =
      tables-same w stored base p m now u.executes names h (ap (λ (n : Moment w). n.marks) r.becomes)
      (ap (λ (n : Moment w). n.execution.state.requests) r.becomes) (ap (λ (n : Moment w). n.execution.state.queued) r.becomes)
  tables-rule loop provider (rule.schedules {request = request} {rest = rest} collected building is verifies r) =
      let mid : Moment w = with_loop w m (record m.loop { queue = rest }) in
      tables-since w stored base p m mid now refl
      (tables-schedules w stored base p mid now (Executes-same w stored base p m mid refl refl refl u.executes)
      (names_since w stored base p m mid now refl names) h (u.executes.alone building) stored_now request
      (message_taken w stored p (message.Request request) rest m is u.tickets).stands
      (All-head (λ (x : Message B C I). MessageIsLinked (setting w stored) x) (message.Request request) rest
      (subst (λ (l : List (Message B C I)). All (λ x. MessageIsLinked (setting w stored) x) l) is loop.queue)) r)
  tables-rule loop provider (rule.puts_off collected building is other becomes) =
      tables-same w stored base p m now u.executes names h (ap (λ (n : Moment w). n.marks) becomes)
      (ap (λ (n : Moment w). n.execution.state.requests) becomes) (ap (λ (n : Moment w). n.execution.state.queued) becomes)
  tables-rule loop provider (rule.runs fin begun awaits unknown r) =
      tables-still w stored base p m now u.executes names h _ (one_still w stored base p _ tt) (ap (λ (n : Moment w). n.marks) r.becomes)
      (ap (λ (n : Moment w). n.execution.state.requests) r.becomes ∙ ap (λ (t : Tables B C I R U). t.requests) r.runs.state)
      (ap (λ (n : Moment w). n.execution.state.queued) r.becomes ∙ ap (λ (t : Tables B C I R U). t.queued) r.runs.state)
  tables-rule loop provider (rule.applies fin captured states r) =
      tables-still w stored base p m now u.executes names h _ (one_still w stored base p _ tt) (ap (λ (n : Moment w). n.marks) r.becomes)
      (ap (λ (n : Moment w). n.execution.state.requests) r.becomes ∙ ap (λ (t : Tables B C I R U). t.requests) r.moves.state)
      (ap (λ (n : Moment w). n.execution.state.queued) r.becomes ∙ ap (λ (t : Tables B C I R U). t.queued) r.moves.state)
  tables-rule loop provider (rule.covers fin advanced captured needed r) = begins-barrier w stored base p m now u.executes names h r
  tables-rule loop provider (rule.observes {f = f} fin advanced is covered r) =
      observed w stored base p m now u.executes names h f.block r.observes.hook r.state r.marks r.front r.live r.observes.hooks_on
      (ap (λ (n : Moment w). n.marks) r.becomes) (ap (λ (n : Moment w). n.execution.state) r.becomes)
  tables-rule loop provider (rule.ends {f = f} fin advanced captured r) = tables-ends f advanced r
  tables-rule loop provider (rule.breaks idle broken is) =
      tables-still w stored base p m now u.executes names h _ (one_still w stored base p _ tt) (ap (λ (n : Moment w). n.marks) is)
      (ap (λ (n : Moment w). n.execution.state.requests) is) (ap (λ (n : Moment w). n.execution.state.queued) is)
  tables-rule loop provider (rule.completes {active = active} idle unbroken done r) =
      tables-still w stored base p m now u.executes names h _
      (All-cons (λ x. IsStill {C = C} {I = I} (Made x)) _ _ tt (acknowledged_still w stored base p _)) (ap (λ (n : Moment w). n.marks) r.becomes)
      (ap (λ (n : Moment w). n.execution.state.requests) r.becomes) (ap (λ (n : Moment w). n.execution.state.queued) r.becomes)
  tables-rule loop provider (rule.begins idle unbroken undone needed r) = begins-barrier w stored base p m now u.executes names h r
  tables-rule loop provider (rule.builds {t = t} {rest = rest} calm is r) =
      let mid : Moment w = with_loop w m (record m.loop { actions = rest }) in
      tables-since w stored base p m mid now refl
      (tables-builds w stored base p mid now (Executes-same w stored base p m mid refl refl refl u.executes)
      (names_since w stored base p m mid now refl names) h provider t r)
  tables-rule loop provider (rule.takes {x = x} {mid = mid} calm take does) =
      let same = takes-execution w stored p x m mid take in
      let marks = takes-marks w x m mid take in
      tables-since w stored base p m mid now marks
      (tables-does w stored base p mid now (Executes-takes w stored base p x m mid take u.executes)
      (names_since w stored base p m mid now marks names) (as_at mid same)
      (ap (λ (n : Executing B C I R D H U). n.front) same ∙ idle-front w m (u.sound.up calm.0.0.0) calm.0.2) trust stored_now x
      (takes-taken w stored p x m mid take u.tickets).stands (takes-linked w stored x m mid take loop) does)
