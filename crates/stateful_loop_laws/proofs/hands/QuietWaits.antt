-- Where nothing can go on without another event, all that is live waits for outstanding work.
use Rattle.std.proofs.Common.{zero, suc, ◌≡◌, ◌≢◌, ◌<◌, ◌≤◌, ◌+◌, ◌∷◌, inl, inr, ℕ, Bool, true, false, List, [], map, All, Option, Some, None, IfSome, IsSome, MatchOption, refl, sym, ap, ◌∙◌, subst, arith, cond, ◌==◌}
use Rattle.std.proofs.lemmas.Bool.{eqb-true, true≢false, false≢true}
use Rattle.std.proofs.lemmas.List.Elements.{All-head, All-tail}
use Rattle.stateful_base.specs.Names.{Named}
use Rattle.stateful_base.specs.declared.digest.Digest.{Digest}
use Rattle.stateful_history.specs.Asked.{verified}
use Rattle.stateful_history.specs.Finalizations.{finalized_since}
use Rattle.stateful_history.specs.Jobs.{IsOutstandingCandidate}
use Rattle.stateful_history.specs.Live.{live_ticket}
use Rattle.stateful_history.specs.Met.{Met}
use Rattle.stateful_history.specs.Past.{Past}
use Rattle.stateful_history.specs.Prunes.{PruneRule}
use Rattle.stateful_history.specs.Requests.{IsLiveProposal, IsLiveReceipt}
use Rattle.stateful_history.specs.Setting.{parent_of}
use Rattle.stateful_history.specs.States.{HasState}
use Rattle.stateful_history.specs.States as states
use Rattle.stateful_history.specs.declared.ticket.Ticket.TheVariants.{Receipt}
use Rattle.stateful_history.specs.Telling.{telling_of}
use Rattle.stateful_history.specs.Waiting.{Waits, finalization, barrier, AllWait}
use Rattle.stateful_table.specs.Table.{at}
use Rattle.stateful_exec_model.specs.Finalizing.{front_at}
use Rattle.stateful_exec_pause.specs.Pausing.{IsAwaited}
use Rattle.stateful_exec_tables.specs.Pausing.{IsCount, none as no_count}
use Rattle.stateful_exec_model.specs.Workings.{Workings, Point}
use Rattle.stateful_exec_model.specs.declared.building.Building.{Building}
use Rattle.stateful_exec_model.specs.declared.front.Front.{Front}
use Rattle.stateful_exec_model.specs.declared.front.Stage.{Stage}
use Rattle.stateful_exec_model.specs.declared.front.Stage.TheVariants.{Begun, Running, Ran, Advanced, Hooking}
use Rattle.stateful_exec_walk.specs.declared.request.Proposal.{Proposal}
use Rattle.stateful_exec_walk.specs.declared.request.Request.TheVariants.{Verify, Recover}
use Rattle.stateful_exec_tables.specs.declared.state.Tables.{Tables}
use Rattle.stateful_exec_tables.specs.declared.tables.LiveRun.{LiveRun}
use Rattle.stateful_exec_tables.specs.declared.tables.Phase.{Phase}
use Rattle.stateful_exec_tables.specs.declared.tables.Phase.TheVariants.{Open, Fetching, Waiting, Executing, Parked}
use Rattle.stateful_exec_tables.specs.declared.tables.Requested.{Requested}
use Rattle.stateful_exec_laws.specs.Building.{BuildStands}
use Rattle.stateful_exec_laws.specs.Chains.{here, further, Chain}
use Rattle.stateful_exec_laws.specs.Fronting.{FrontStands}
use Rattle.stateful_exec_laws.specs.Ground.{IsGround}
use Rattle.stateful_exec_laws.specs.Outstanding.{GoesOnTurning}
use Rattle.stateful_exec_laws.specs.Running.{IsRunning}
use Rattle.stateful_exec_laws.specs.Setting.{setting}
use Rattle.stateful_exec_laws.proofs.requests.Outstands.{run-Waits, hook-Waits, build-Waits}
use Rattle.stateful_exec_laws.proofs.runs.Removing.{All-at}
use Rattle.stateful_exec_laws.proofs.requests.RequestsWait.{IsSettled, Waits-requested}
use Rattle.stateful_loop_model.specs.Barriers.{broken, flushed}
use Rattle.stateful_loop_model.specs.Moments.{Moment}
use Rattle.stateful_loop_model.specs.Rules.{IsCollected, IsIdle, IsFinalizing, Quiet, drain, run_or_apply, apply, go_on, break_or_complete, begin, take}
use Rattle.stateful_loop_model.specs.Sound.{IsUp, FrontAgrees}
use Rattle.stateful_loop_model.specs.declared.message.Action.{Action}
use Rattle.stateful_loop_model.specs.declared.message.Action.TheVariants as action
use Rattle.stateful_loop_model.specs.declared.message.Message.TheVariants.{Request, Finalized, Subscribe}
use Rattle.stateful_loop_model.specs.declared.tables.Finalizing.{Finalizing}
use Rattle.stateful_loop_laws.specs.Execution.{Executes, IsPlaced, IsFree}
use Rattle.stateful_loop_laws.specs.InHand.{IsPutOff, VerifiedApart, IsFound, requested, recovered, built, waiting, waiting_in, AllInHand, GoesOnAt}
use Rattle.stateful_loop_laws.specs.Stands.{IsUpAt}
use Rattle.stateful_loop_laws.specs.Tickets.{ticket_in, ticket_under, ticket_in_front, IsReceiptAt, ActionStands}
use Rattle.stateful_loop_laws.proofs.barriers.Acknowledging.{finalized-Met}
use Rattle.stateful_loop_laws.proofs.execution.AnchorStands.{Executes-anchor, Executes-folded, idle-front}
use Rattle.stateful_loop_laws.proofs.loop.Waits.{outstanding_undurable}
use Rattle.stateful_loop_laws.proofs.events.TakenIn.{quiet-bare}
use Rattle.stateful_loop_laws.proofs.tickets.Times.{times}
use Rattle.stateful_loop_laws.proofs.tickets.Waiting.{times-waiting}

-- where one of a list is of this ticket, it holds of it
pub found_in : {X : Type 0} (f : X → ℕ) (P : X → Type 0) (Q : Type 0) (t : ℕ) → ((x : X) → f x ≡ t → P x → Q) → (xs : List X) → All P xs
    → 0 < times t (map f xs) → Q
found_in f P Q t each [] all some = absurd (omega (arith, some))
found_in f P Q t each (x ∷ xs) all some = by (f x == t) refl some (λ left. found_in f P Q t each xs (All-tail P x xs all) left)
  where
    by : (b : Bool) → (f x == t) ≡ b → 0 < cond (f x == t) 1 0 + times t (map f xs) → (0 < times t (map f xs) → Q) → Q
    by true is more rest = each x (eqb-true (f x) t is) (All-head P x xs all)
    by false is more rest = let left : 0 < 0 + times t (map f xs) = rw is at more in rest (omega (arith, left))

-- where it isn't impossible to be none, there is none
pub empty : {X : Type 0} (xs : List X) → (xs ≢ [] → ⊥) → xs ≡ []
empty [] not = refl
empty (x ∷ xs) not = absurd (not (λ e. cc))

nothing : {X : Type 0} (o : Option X) → (o ≢ None → ⊥) → o ≡ None
nothing None not = refl
nothing (Some x) not = absurd (not (λ e. cc))

pub some_is : {X : Type 0} (o : Option X) → IsSome o → (x : X) × (o ≡ Some x)
some_is None some = absurd (false≢true some)
some_is (Some x) some = (x, refl)

module _ {B C I P R D H G U : Type 0} (w : Workings B C I P R D H G U) (stored : ℕ → Option (Named B)) (base : w.States) (p : Past B C I)
    (m : Moment w) where
  module _ (x : Executes w stored base p m) where
    abbrev v : Tables B C I R U
    v = m.execution.state

    reaches_from : {d : Digest} {there : Point w} {c : List (Point w)} → Chain w stored p x.points v.anchor.digest d (there ∷ c)
        → states.Reaches (setting w stored) (Met (setting w stored) p) v.anchor.digest x.point.1 d there.1
    reaches_from (here {d = d} {at = there} e is) =
        let t : there.1 ≡ x.point.1 = ap (λ (y : Point w). y.1) (is ∙ ap x.points e ∙ x.tables.at_anchor) in
        subst (λ (y : Digest). states.Reaches (setting w stored) (Met (setting w stored) p) v.anchor.digest x.point.1 y there.1) (sym e)
        (subst (λ (y : w.States). states.Reaches (setting w stored) (Met (setting w stored) p) v.anchor.digest x.point.1 v.anchor.digest y) (sym t)
        states.here)
    reaches_from (further {at = there} {b = b} e is s ne l) =
        subst (λ (y : Digest). states.Reaches (setting w stored) (Met (setting w stored) p) v.anchor.digest x.point.1 y there.1) e
        (states.further (reaches_from s) l.met (λ a. ne (sym e ∙ a)) l.matches.step)

    -- the states on a chain are those of its block, whatever goes on
    pub chain-HasState : {d : Digest} {there : Point w} {c : List (Point w)} → Chain w stored p x.points v.anchor.digest d (there ∷ c)
        → HasState (setting w stored) base p d there.1
    chain-HasState chain = record {
      anchor = v.anchor;
      now = x.point.1;
      anchored = Executes-anchor w stored base p m x;
      folded = Executes-folded w stored base p m x;
      reached = reaches_from chain;
    }

    -- those of the anchor are those of the databases
    pub anchor-HasState : HasState (setting w stored) base p v.anchor.digest x.point.1
    anchor-HasState = record {
      anchor = v.anchor;
      now = x.point.1;
      anchored = Executes-anchor w stored base p m x;
      folded = Executes-folded w stored base p m x;
      reached = states.here;
    }

    -- a live run is outstanding, whatever goes on
    pub run-outstanding : (j : ℕ) (live : LiveRun B R) → IsRunning w stored p x.points m.next v.anchor v.cache j live
        → GoesOnTurning w stored base p j live → IsOutstandingCandidate (setting w stored) (telling_of w.works) base p j live.block
    run-outstanding j live r goes_on =
        let has_state : HasState (setting w stored) base p (parent_of (setting w stored) live.block)
        (x.points (parent_of (setting w stored) live.block)).1 =
        subst (λ (d : Digest). HasState (setting w stored) base p d (x.points d).1) r.parent_is (chain-HasState r.chain) in
        record {
          met = r.met;
          job = r.job;
          state = (x.points (parent_of (setting w stored) live.block)).1;
          has_state = has_state;
          unfinished = goes_on (x.points (parent_of (setting w stored) live.block)).1 has_state;
        }

  module _ (rule : Option (PruneRule w.Targets)) (up : m.loop.up ≡ true) (quiet : Quiet w m) (h : IsUpAt w stored base p m) (apart : VerifiedApart p)
      (goes : GoesOnAt w stored base p m) (hands : AllInHand w p m) where
    abbrev Waits_for : ℕ → Type 0
    Waits_for t = Waits (setting w stored) (telling_of w.works) w.kind.count rule base p t

    abbrev e : Executes w stored base p m
    e = h.executes

    abbrev tables : Tables B C I R U
    tables = m.execution.state

    is_up : IsUp w m
    is_up = h.sound.up up

    collected : IsCollected w m
    collected = (up, quiet-bare w m up quiet)

    none_recovered : (t : ℕ) → 0 < times t tables.recovered → ⊥
    none_recovered t some = let no : 0 < times t [] = subst (λ (us : List ℕ). 0 < times t us) collected.1 some in omega (arith, no)

    -- nothing pauses where no finalization goes on
    pub free_at : m.execution.front ≡ None → IsFree w stored base p e.points e.point m.next tables
    free_at is = subst (λ (front : Option (Front B R U H)). IsPlaced w stored base p e.points e.point m.next tables front) is e.placed

    phase_settled : (phase : Phase B) → (phase ≡ Open → ⊥) → ((path : _) → phase ≡ Parked path → ⊥) → IsSettled phase
    phase_settled Open opened parked = opened refl
    phase_settled (Parked path) opened parked = parked path refl
    phase_settled (Fetching f) opened parked = tt
    phase_settled Waiting opened parked = tt
    phase_settled (Executing j path) opened parked = tt

    requested_waits : m.execution.front ≡ None → (t : ℕ) → IsSome (at tables.requests t) → Waits_for t
    requested_waits none t some =
        let free = free_at none in
        let (r, there) = some_is (at tables.requests t) some in
        let ground : IsGround w stored base p e.points e.point m.next tables.anchor tables.pause tables.anchor tables.cache =
        subst (λ pause. IsGround w stored base p e.points e.point m.next tables.anchor pause tables.anchor tables.cache)
        (sym free.pause_is) free.ground in
        Waits-requested w stored w.kind.count rule base p e.points e.point m.next tables e.tables tables.anchor ground apart.unproposed goes.runs
        (goes.abstain free.pause_is) t r there
        (phase_settled r.phase
        (All-at (λ (e : ℕ × Requested B C I). e.1.phase ≡ Open → ⊥) tables.requests t r there (goes.settled free.pause_is))
        (All-at (λ (e : ℕ × Requested B C I). (path : _) → e.1.phase ≡ Parked path → ⊥) tables.requests t r there (h.ways.unparked free.pause_is)))

    -- a finalization goes on
    at_front : (f : Finalizing B G) → m.loop.front ≡ Some f → m.execution.build ≡ None → (t : ℕ) → Waits_for t
    at_front f front unbuilt t =
        let agrees : FrontAgrees w m.loop.durability (Some f) m.execution.front =
        subst (λ (o : Option (Finalizing B G)). FrontAgrees w m.loop.durability o m.execution.front) front is_up.front in
        go agrees.0 agrees.1
      where
        finalizing : IsFinalizing w m f
        finalizing = (collected, unbuilt, front)

        stands : (stage : Stage R U H) → m.execution.front ≡ front_at f.block stage
            → FrontStands w stored p e.point m.next tables.anchor (front_at f.block stage)
        stands stage is = subst (λ (o : Option (Front B R U H)). FrontStands w stored p e.point m.next tables.anchor o) is e.fronts

        awaited : (runs : List (ℕ × LiveRun B R)) → tables.runs ≡ runs → m.execution.front ≡ front_at f.block Begun → Waits_for t
        awaited [] is at_begin = absurd (quiet (run_or_apply finalizing at_begin
            (subst (λ (xs : List (ℕ × LiveRun B R)). IsCount (λ (r : ℕ × LiveRun B R). IsAwaited w.header tables.pause r.1.block) xs 0)
            (sym is) no_count)))
        awaited (r ∷ runs) is at_begin =
            let running = All-head (λ (r : ℕ × LiveRun B R). IsRunning w stored p e.points m.next tables.anchor tables.cache r.0 r.1) r runs
            (subst (λ xs. All
            (λ (r : ℕ × LiveRun B R). IsRunning w stored p e.points m.next tables.anchor tables.cache r.0 r.1) xs) is e.tables.runs.each) in
            let goes_on = All-head (λ (r : ℕ × LiveRun B R). GoesOnTurning w stored base p r.0 r.1) r runs
            (subst (λ xs. All (λ (r : ℕ × LiveRun B R). GoesOnTurning w stored base p r.0 r.1) xs) is goes.runs) in
            finalization (inl (rw (stands Begun at_begin).at_stage.begun_is refl))
            (inl (r.0, r.1.block, inl (run-outstanding e r.0 r.1 running goes_on)))

        go : (stage : Stage R U H) → m.execution.front ≡ front_at f.block stage → Waits_for t
        go Begun is = awaited tables.runs refl is
        go (Running j run) is = run-Waits w stored base p e.point m.next tables.anchor f.block j w.kind.count rule t run (stands (Running j run) is)
            (anchor-HasState e)
        go (Ran batch) is = absurd (quiet (apply finalizing is))
        go Advanced is = absurd (quiet (go_on finalizing is))
        go (Hooking j hook) is =
            let own = subst
            (λ (o : Option (Finalizing B G)). IfSome o (λ f. IsLiveReceipt f.ticket p ×
            (finalized_since f.ticket p ≡ Some f.block))) front h.tickets.front in
            hook-Waits w stored base p e.point m.next tables.anchor f.block j w.kind.count rule t hook (stands (Hooking j hook) is)
            (finalized-Met (setting w stored) f.ticket f.block p own.1) (anchor-HasState e)

    -- what is put off is of no verification
    action_apart : (a : Action B C I) → ActionStands w stored p tables m.execution.build a → IsPutOff a → verified (ticket_under a) p ≡ None
    action_apart (action.Message (Request (Verify u ancestry))) stands off = absurd (true≢false off)
    action_apart (action.Message (Request (Recover u context ancestry input kind))) stands off =
        apart.unproposed u (λ is. let no = sym stands.0.proposes ∙ is in cc)
    action_apart (action.Message (Subscribe u)) stands off = apart.unsubscribed u (λ is. true≢false (sym stands.0.subscribes ∙ is))
    action_apart (action.Message (Finalized u b)) stands off = apart.unfinalized u (λ is. let no = sym stands.1 ∙ is in cc)
    action_apart (action.Build u) stands off =
        let (q, there) = some_is (at tables.queued u) stands.0 in
        let live = All-at (λ (e : ℕ × Proposal B C I). IsLiveProposal e.0 p
        (record {
          kind = e.1.kind;
          context = e.1.context;
          parent = e.1.ancestry.first;
          input = e.1.input;
        })) tables.queued u q there e.tables.queue.each in
        apart.unproposed u (λ is. let no = sym live.proposes ∙ is in cc)

    -- nothing of a verification waits in the loop, but in the mailbox
    pub actions_apart : (t : ℕ) → 0 < times t (map ticket_under m.loop.actions) → verified t p ≡ None
    actions_apart t some = found_in ticket_under (λ a. ActionStands w stored p tables m.execution.build a × IsPutOff a) (verified t p ≡ None) t
        (λ a is both. subst (λ u. verified u p ≡ None) is (action_apart a both.0 both.1))
        m.loop.actions (λ k d within. (h.tickets.actions k d within, hands.put_off k d within)) some

    held_apart : (t : ℕ) → 0 < times t (map (λ (receipt : ℕ × ℕ). receipt.1) m.loop.durability.held) → verified t p ≡ None
    held_apart t some = found_in (λ (receipt : ℕ × ℕ). receipt.1) (λ receipt. IsReceiptAt w.header p receipt.1 receipt.0) (verified t p ≡ None) t
        (λ receipt is r. subst (λ u. verified u p ≡ None) is (apart.unfinalized receipt.1 (λ no. let never = sym r.finalized ∙ no in cc)))
        m.loop.durability.held h.tickets.held some

    -- no finalization goes on in the loop where none does in execution
    pub none_in_front : m.execution.front ≡ None → m.loop.front ≡ None
    none_in_front is = by m.loop.front refl
      where
        by : (o : Option (Finalizing B G)) → m.loop.front ≡ o → m.loop.front ≡ None
        by None none = none
        by (Some f) some =
            let agrees : FrontAgrees w m.loop.durability (Some f) m.execution.front =
            subst (λ (o : Option (Finalizing B G)). FrontAgrees w m.loop.durability o m.execution.front) some is_up.front in
            let no = sym is ∙ agrees.1 in absurd (cc)

    -- a ticket that is found is in one of these, where nothing is in the mailbox or in front
    pub waits_where : (t : ℕ) → IsFound w m t → m.loop.queue ≡ [] → m.loop.front ≡ None → (Q : Type 0)
        → (0 < times t (map ticket_under m.loop.actions) → Q) → (0 < times t (map (λ (receipt : ℕ × ℕ). receipt.1) m.loop.durability.held) → Q)
        → (IsSome (at tables.requests t) → Q) → (MatchOption m.execution.build ⊥ (λ b. b.ticket ≡ t) → Q) → Q
    waits_where t (requested some) queue front Q action held table build = table some
    waits_where t (recovered some) queue front Q action held table build = absurd (none_recovered t some)
    waits_where t (built is) queue front Q action held table build = build is
    waits_where t (waiting some) queue front Q action held table build = by (times t (map ticket_under m.loop.actions)) refl
      where
        parts : times t (waiting_in m.loop) ≡ times t (map ticket_in m.loop.queue) + times t (map ticket_under m.loop.actions)
            + times t (ticket_in_front m.loop.front) + times t (map (λ (receipt : ℕ × ℕ). receipt.1) m.loop.durability.held)
        parts = times-waiting t m.loop.queue m.loop.actions m.loop.front m.loop.durability.held

        queued : times t (map ticket_in m.loop.queue) ≡ 0
        queued = rw queue refl

        fronted : times t (ticket_in_front m.loop.front) ≡ 0
        fronted = rw front refl

        by : (n : ℕ) → times t (map ticket_under m.loop.actions) ≡ n → Q
        by zero is = held (omega (arith, some, parts, queued, fronted, is))
        by (suc n) is = action (omega (arith, is))

    -- a block is built
    at_build : (b : Building B C D) → m.execution.build ≡ Some b → (t : ℕ) → live_ticket t p ≢ None → Waits_for t
    at_build b is t live = by (verified t p) refl
      where
        no_front : m.execution.front ≡ None
        no_front = e.alone (rw is refl)

        stands : BuildStands w stored p e.points m.next tables (Some b)
        stands = subst (λ o. BuildStands w stored p e.points m.next tables o) is e.builds

        waits : verified t p ≡ None → Waits_for t
        waits off = build-Waits w stored base p e.point m.next e.points tables b stands (chain-HasState e stands.each.chain) w.kind.count rule t off

        queue : m.loop.queue ≡ []
        queue = empty m.loop.queue (λ some. quiet (drain collected (rw is refl) some))

        by : (o : Option (Named B)) → verified t p ≡ o → Waits_for t
        by None off = waits off
        by (Some c) on = waits_where t (hands.hand t live) queue (none_in_front no_front) (Waits_for t)
            (λ some. waits (actions_apart t some))
            (λ some. waits (held_apart t some))
            (λ some. requested_waits no_front t some)
            (λ own. let ticket_is : b.ticket ≡ t = subst (λ o. MatchOption o ⊥ (λ b. b.ticket ≡ t)) is own in
            waits (subst (λ u. verified u p ≡ None) ticket_is (apart.unproposed b.ticket
            (λ no. let never = sym stands.each.proposal.proposes ∙ no in cc))))

    -- nothing is in front
    at_rest : m.execution.build ≡ None → m.loop.front ≡ None → (t : ℕ) → live_ticket t p ≢ None → Waits_for t
    at_rest unbuilt front t live = waits_where t (hands.hand t live) queue front (Waits_for t)
        (λ some. let no : 0 < times t [] = subst (λ (acts : List (Action B C I)). 0 < times t (map ticket_under acts)) actions some in
        absurd (omega (arith, no)))
        (λ some. held some)
        (λ some. requested_waits (idle-front w m is_up front) t some)
        (λ own. absurd (subst (λ o. MatchOption o ⊥ (λ b. b.ticket ≡ t)) unbuilt own))
      where
        idle : IsIdle w m
        idle = (collected, unbuilt, front)

        queue : m.loop.queue ≡ []
        queue = empty m.loop.queue (λ some. quiet (take idle (inr some)))

        actions : m.loop.actions ≡ []
        actions = empty m.loop.actions (λ some. quiet (take idle (inl some)))

        held : 0 < times t (map (λ (receipt : ℕ × ℕ). receipt.1) m.loop.durability.held) → Waits_for t
        held some = found_in (λ (receipt : ℕ × ℕ). receipt.1)
            (λ receipt. IsReceiptAt w.header p receipt.1 receipt.0 × (m.loop.durability.durable < receipt.0) ×
            (receipt.0 ≤ m.loop.durability.applied))
            (Waits_for t) t
            (λ receipt is own.
            let low = own.1 in
            let high = own.2 in
            barrier (subst (λ u. live_ticket u p ≡ Some Receipt) is own.0.live)
            (outstanding_undurable w stored base p m h.loop is_up (λ needed. quiet (begin idle needed))
            (nothing (flushed m.loop.barriers) (λ some. quiet (break_or_complete idle (inr some))))
            (nothing (broken m.loop.barriers) (λ some. quiet (break_or_complete idle (inl some)))) (omega (arith, low, high))))
            m.loop.durability.held
            (λ k d within. (h.tickets.held k d within, hands.above k d within, h.in_order.applied k d within)) some

    -- All that is live waits for outstanding work, where the machine is up and nothing can go on without another event.
    pub quiet-waits : AllWait (setting w stored) (telling_of w.works) w.kind.count rule base p
    quiet-waits t live = by_build m.execution.build refl
      where
        by_front : (o : Option (Finalizing B G)) → m.loop.front ≡ o → m.execution.build ≡ None → Waits_for t
        by_front None front unbuilt = at_rest unbuilt front t live
        by_front (Some f) front unbuilt = at_front f front unbuilt t

        by_build : (o : Option (Building B C D)) → m.execution.build ≡ o → Waits_for t
        by_build None unbuilt = by_front m.loop.front refl unbuilt
        by_build (Some b) is = at_build b is t live
