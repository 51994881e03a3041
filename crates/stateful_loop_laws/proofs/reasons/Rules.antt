-- False verdicts and declines have their reasons: those that the rules of the loop make.
use Rattle.std.proofs.Common.{◌≡◌, ◌++◌, ◌∷◌, [], ℕ, Bool, List, Option, Some, None, IsSome, All, map, refl, sym, ap, ◌∙◌, subst}
use Rattle.std.proofs.lemmas.List.Elements.{All-nil, All-cons, All-head, All-tail}
use Rattle.stateful_base.specs.Names.{Named}
use Rattle.stateful_db.specs.Laws.{Laws}
use Rattle.stateful_db.specs.declared.application.Hooked.{Hooked}
use Rattle.stateful_db.specs.declared.application.Hooked.TheVariants as hooked
use Rattle.stateful_history.specs.Past.{Past}
use Rattle.stateful_history.specs.declared.event.Event.{Event}
use Rattle.stateful_history.specs.declared.mark.Mark.{Mark}
use Rattle.stateful_history.specs.declared.mark.Mark.TheVariants.{Withdrawn, Declined}
use Rattle.stateful_table.specs.Table.{at}
use Rattle.stateful_exec_tables.specs.Queueing.{IsReady}
use Rattle.stateful_exec_model.specs.Finalizing.{front_at, HooksOn}
use Rattle.stateful_exec_walk.specs.Request.{ticket_by}
use Rattle.stateful_exec_tables.specs.Tables.{requested}
use Rattle.stateful_exec_model.specs.Workings.{Workings}
use Rattle.stateful_exec_model.specs.declared.front.Front.{Front}
use Rattle.stateful_exec_model.specs.declared.front.Stage.TheVariants.{Advanced}
use Rattle.stateful_exec_pause.specs.declared.pause.Pause.{Pause}
use Rattle.stateful_exec_walk.specs.declared.request.Proposal.{Proposal}
use Rattle.stateful_exec_walk.specs.declared.request.Request.{Request}
use Rattle.stateful_exec_tables.specs.declared.state.Tables.{Tables}
use Rattle.stateful_exec_laws.specs.Gathering.{gathered, AreLinked}
use Rattle.stateful_exec_laws.specs.Setting.{setting}
use Rattle.stateful_exec_laws.specs.Storing.{IsStoredNow}
use Rattle.stateful_exec_laws.proofs.front.MovedStands.{TablesStand-free}
use Rattle.stateful_exec_laws.proofs.linked.QueueLost.{declined-queued}
use Rattle.stateful_exec_laws.proofs.reasons.Acquired.{acquires-reason}
use Rattle.stateful_exec_laws.proofs.reasons.Ground.{IsGround}
use Rattle.stateful_history.specs.Met.{Met}
use Rattle.stateful_loop_model.specs.Moments.{Moment, Executing, inner, with_loop}
use Rattle.stateful_loop_model.specs.Rules.{acknowledged, Schedules, Builds, starts, declines, DoesMessage, schedules, answers, acknowledges, holds, begins, EndsFinalization, Rule}
use Rattle.stateful_loop_model.specs.Rules as rule
use Rattle.stateful_loop_model.specs.declared.message.Action.{Action}
use Rattle.stateful_loop_model.specs.declared.message.Action.TheVariants as action
use Rattle.stateful_loop_model.specs.declared.message.Message.{Message}
use Rattle.stateful_loop_model.specs.declared.message.Message.TheVariants as message
use Rattle.stateful_loop_model.specs.declared.tables.Finalizing.{Finalizing}
use Rattle.stateful_loop_laws.specs.Execution.{Executes, IsPlaced, IsFree, HasMovedOn}
use Rattle.stateful_loop_laws.specs.Reasons.{RefusesNone, MessageIsLinked, ActionIsLinked, IsTrusted, ReasonsStand, HasItsReason, ReasonsBehind}
use Rattle.stateful_loop_laws.specs.Stands.{IsUpAt}
use Rattle.stateful_loop_laws.specs.Tickets.{MessageStands}
use Rattle.stateful_loop_laws.specs.Ways.{WaysKept}
use Rattle.stateful_loop_laws.proofs.execution.AnchorStands.{Executes-takes, idle-front}
use Rattle.stateful_loop_laws.proofs.execution.Kept.{Executes-same}
use Rattle.stateful_loop_laws.proofs.duly.MarksOfRules.{takes-marks}
use Rattle.stateful_loop_laws.proofs.reasons.Linked.{takes-linked}
use Rattle.stateful_loop_laws.proofs.reasons.Plain.{one_plain, reasons_plain, reasons_none, reasons_by, reasons_since}
use Rattle.stateful_loop_laws.proofs.reasons.Resumed.{resumed-reasons}
use Rattle.stateful_loop_laws.proofs.tickets.Taken.{action_taken, message_taken, takes-taken, takes-execution}
use Rattle.stateful_loop_laws.proofs.ways.Behind.{WaysStand-free}
use Rattle.stateful_loop_laws.proofs.ways.Beside.{WaysStand-tip}

withdrawn_plain : {B : Type 0} (fetches : List ℕ) → All (λ (x : Mark B). RefusesNone x) (map (λ f. Withdrawn f) fetches)
withdrawn_plain [] = All-nil (λ x. RefusesNone x)
withdrawn_plain (f ∷ fetches) = All-cons (λ x. RefusesNone x) (Withdrawn f) _ tt (withdrawn_plain fetches)

acknowledged_plain : {B : Type 0} (receipts : List (ℕ × ℕ)) → All (λ (x : Mark B). RefusesNone x) (map acknowledged receipts)
acknowledged_plain [] = All-nil (λ x. RefusesNone x)
acknowledged_plain (receipt ∷ receipts) = All-cons (λ x. RefusesNone x) (acknowledged receipt) _ tt (acknowledged_plain receipts)

module _ {B C I P R D H G U : Type 0} (w : Workings B C I P R D H G U) (laws : Laws w.kind) (stored : ℕ → Option (Named B)) (base : w.States)
    (event : Event B C I) (marks : List (Mark B)) (p : Past B C I) (stored_now : ℕ → Option (Named B)) (stored_is : IsStoredNow stored p stored_now)
    (trust : IsTrusted w stored p) where
  abbrev Behind : Moment w → Moment w → Type 0
  Behind = ReasonsBehind w stored base event marks p

  -- what is observed after a finalized block makes no mark, or that of the hook's start
  hooks_made : (m now : Moment w) (b : Named B) (hook_left : Hooked H) (old new : Tables B C I R U) (made : List (Mark B))
      (after : Option (Front B R U H)) (live : Bool) → HooksOn w b hook_left old new m.marks made after live → now.marks ≡ made → Behind m now
  hooks_made m now b hooked.Done old new made after live h is = reasons_none w stored base event marks p m now (is ∙ h.1)
  hooks_made m now b (hooked.Pending hook_left) old new made after live h is =
      reasons_plain w stored base event marks p m now _ (is ∙ h.2) (one_plain _ tt)

  module _ (m now : Moment w) (h : Executes w stored base p m) where
    plain : (more : List (Mark B)) → now.marks ≡ m.marks ++ more → All (λ x. RefusesNone x) more → Behind m now
    plain = reasons_plain w stored base event marks p m now

    none : now.marks ≡ m.marks → Behind m now
    none = reasons_none w stored base event marks p m now

    module _ (front : m.execution.front ≡ None) where
      free : IsFree w stored base p h.points h.point m.next m.execution.state
      free = subst (λ (f : Option (Front B R U H)). IsPlaced w stored base p h.points h.point m.next m.execution.state f) front h.placed

      -- a request acquires what it needs
      reasons-schedules : (request : Request B C I) → MessageStands w stored p m.execution.state m.execution.build (message.Request request)
          → AreLinked (setting w stored) (gathered request []) → Schedules w stored_now request m now → Behind m now
      reasons-schedules request stands linked r =
          reasons_by w stored base event marks p m now (inner w m) r.then refl (ap (λ (n : Moment w). n.marks) r.becomes)
          (acquires-reason w stored base event marks p h.points h.point m.next m.execution.state.anchor (inner w m)
          (subst (λ (x : Pause). IsGround w stored base p h.points h.point m.next m.execution.state.anchor x m.execution.state.anchor m.execution.state.cache)
          (sym free.pause_is) free.ground)
          free.pause_is stored_now stored_is (ticket_by request) (requested request) r.then
          (record { absent = stands.2.elsewhere.absent; not_queued = stands.2.elsewhere.not_queued; own = refl; asked = stands.0; brought = stands.1 })
          (All-nil (Met (setting w stored) p)) linked r.acquires)

      -- the parent of a proposal that can't be built is out of reach
      declined : (t : ℕ) (o : Option (Proposal B C I)) → at m.execution.state.queued t ≡ o → IsSome o → ReasonsStand w stored p base m
          → ((x : _) → IsReady m.execution.state t x → ⊥) → HasItsReason w stored base event marks p (Declined t)
      declined t None is some stand off = cc
      declined t (Some q) is some stand off = (
        tt,
        declined-queued w stored base p h.points h.point m.next m.execution.state.anchor m.execution.state free.ground h.tables.queue
            stand.reaches t q is (off q) event marks,
      )

      -- a build is started, or its proposal is declined
      reasons-builds : (provider : P) (t : ℕ) → IsSome (at m.execution.state.queued t) → ReasonsStand w stored p base m
          → Builds w provider t m now → Behind m now
      reasons-builds provider t queued stand (starts s is) = plain _ (ap (λ (n : Moment w). n.marks) is) (one_plain _ tt)
      reasons-builds provider t queued stand (declines off is) = record {
        more = _;
        marks_are = ap (λ (n : Moment w). n.marks) is;
        each = (declined t (at m.execution.state.queued t) refl queued stand off, tt);
      }

      -- what becomes of a message that was taken
      reasons-does : (x : Message B C I) → MessageStands w stored p m.execution.state m.execution.build x → MessageIsLinked (setting w stored) x
          → DoesMessage w stored_now m now x → Behind m now
      reasons-does _ stands linked (schedules {request = request} r) = reasons-schedules request stands linked r
      reasons-does _ stands linked (answers is) = plain _ (ap (λ (n : Moment w). n.marks) is) (one_plain _ tt)
      reasons-does _ stands linked (acknowledges again durable is) = plain _ (ap (λ (n : Moment w). n.marks) is) (one_plain _ tt)
      reasons-does _ stands linked (holds again above is) = none (ap (λ (n : Moment w). n.marks) is)
      reasons-does _ stands linked (begins above r) =
          plain _ (ap (λ (n : Moment w). n.marks) r.becomes)
          (All-cons (λ x. RefusesNone x) _ r.withdrawn tt
          (subst (λ (ms : List (Mark B)). All (λ x. RefusesNone x) ms) (sym r.pauses.marks_are) (withdrawn_plain r.pauses.fetches)))

    -- a finalization ends, and the requests that were parked or wait go on
    reasons-ends : (f : Finalizing B G) → m.execution.front ≡ front_at f.block Advanced → WaysKept w stored p m.execution.state
        → ReasonsStand w stored p base m → EndsFinalization w stored_now f m now → Behind m now
    reasons-ends f at_front kept stand r =
        let moved : HasMovedOn w stored base p h.points h.point m.next m.execution.state = subst
        (λ (o : Option (Front B R U H)). IsPlaced w stored base p h.points h.point m.next m.execution.state o) at_front h.placed in
        reasons_by w stored base event marks p m now (inner w m) r.then refl (ap (λ (n : Moment w). n.marks) r.becomes)
        (resumed-reasons w stored stored_now base m.execution.state.anchor h.points h.point event marks laws.ids.issued_other p (inner w m)
        (TablesStand-free w stored p h.points h.point m.next m.execution.state moved.moved.boundary moved.moved.pause_is moved.moved.moved h.tables)
        moved.ground
        (WaysStand-free w stored p m.execution.state.anchor m.execution.state moved.moved
        (WaysStand-tip w stored p m.execution.state m.execution.state.anchor moved.ground.folded.tip_is kept))
        h.located h.drawn stored_is stand.gatherings trust.honest trust.answered r.then r.resumes)

  module _ (provider : P) (m now : Moment w) (h : IsUpAt w stored base p m) (stand : ReasonsStand w stored p base m) where
    told : (more : List (Mark B)) → now.marks ≡ m.marks ++ more → All (λ x. RefusesNone x) more → Behind m now
    told = reasons_plain w stored base event marks p m now

    -- Each false verdict and each decline that a rule of the loop makes has its reason.
    pub reasons-rule : Rule w stored_now provider m now → Behind m now
    reasons-rule (rule.collects up r) = reasons_none w stored base event marks p m now (ap (λ (n : Moment w). n.marks) r.becomes)
    reasons-rule (rule.schedules {request = request} {rest = rest} collected building is verifies r) =
        let mid : Moment w = with_loop w m (record m.loop { queue = rest }) in
        reasons_since w stored base event marks p m now mid refl
        (reasons-schedules mid now (Executes-same w stored base p m mid refl refl refl h.executes) (h.executes.alone building) request
        (message_taken w stored p (message.Request request) rest m is h.tickets).stands
        (All-head (λ (x : Message B C I). MessageIsLinked (setting w stored) x) (message.Request request) rest
        (subst (λ (l : List (Message B C I)). All (λ x. MessageIsLinked (setting w stored) x) l) is stand.queue)) r)
    reasons-rule (rule.puts_off collected building is other becomes) =
        reasons_none w stored base event marks p m now (ap (λ (n : Moment w). n.marks) becomes)
    reasons-rule (rule.runs fin begun awaits unknown r) = told _ (ap (λ (n : Moment w). n.marks) r.becomes) (one_plain _ tt)
    reasons-rule (rule.applies fin captured states r) = told _ (ap (λ (n : Moment w). n.marks) r.becomes) (one_plain _ tt)
    reasons-rule (rule.covers fin advanced captured needed r) = told _ (ap (λ (n : Moment w). n.marks) r.becomes) (one_plain _ tt)
    reasons-rule (rule.observes {f = f} fin advanced is covered r) =
        hooks_made m now f.block r.observes.hook m.execution.state r.state r.marks r.front r.live r.observes.hooks_on
        (ap (λ (n : Moment w). n.marks) r.becomes)
    reasons-rule (rule.ends {f = f} fin advanced captured r) = reasons-ends m now h.executes f advanced h.ways stand r
    reasons-rule (rule.breaks idle broken is) = told _ (ap (λ (n : Moment w). n.marks) is) (one_plain _ tt)
    reasons-rule (rule.completes idle unbroken done r) =
        told _ (ap (λ (n : Moment w). n.marks) r.becomes) (All-cons (λ x. RefusesNone x) _ _ tt (acknowledged_plain _))
    reasons-rule (rule.begins idle unbroken undone needed r) = told _ (ap (λ (n : Moment w). n.marks) r.becomes) (one_plain _ tt)
    reasons-rule (rule.builds {t = t} {rest = rest} calm is r) =
        let mid : Moment w = with_loop w m (record m.loop { actions = rest }) in
        reasons_since w stored base event marks p m now mid refl
        (reasons-builds mid now (Executes-same w stored base p m mid refl refl refl h.executes)
        (idle-front w m (h.sound.up calm.0.0.0) calm.0.2) provider t
        (action_taken w stored p (action.Build t) rest m is h.tickets).stands.0
        (record {
          queue = stand.queue;
          actions = All-tail (λ (a : Action B C I). ActionIsLinked (setting w stored) a) (action.Build t) rest
              (subst (λ (l : List (Action B C I)). All (λ a. ActionIsLinked (setting w stored) a) l) is stand.actions);
          gatherings = stand.gatherings;
          reaches = stand.reaches;
        }) r)
    reasons-rule (rule.takes {x = x} {mid = mid} calm take does) =
        reasons_since w stored base event marks p m now mid (takes-marks w x m mid take)
        (reasons-does mid now (Executes-takes w stored base p x m mid take h.executes)
        (ap (λ (n : Executing B C I R D H U). n.front) (takes-execution w stored p x m mid take) ∙ idle-front w m (h.sound.up calm.0.0.0) calm.0.2)
        x (takes-taken w stored p x m mid take h.tickets).stands (takes-linked w stored x m mid take (record { queue = stand.queue; actions = stand.actions })) does)
