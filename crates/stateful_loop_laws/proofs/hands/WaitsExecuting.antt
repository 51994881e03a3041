-- Where nothing can go on without another event, a live request that has nothing else to wait for waits for a candidate run.
use Rattle.std.proofs.Common.{◌≡◌, ◌<◌, inl, inr, ℕ, true, List, [], map, Option, Some, None, IsSome, MatchOption, refl, sym, ◌∙◌, subst, arith}
use Rattle.stateful_base.specs.Names.{Named}
use Rattle.stateful_base.specs.declared.digest.Digest.{Digest}
use Rattle.stateful_history.specs.Asked.{verified}
use Rattle.stateful_history.specs.Fetches.{HasFetch, Abstains}
use Rattle.stateful_history.specs.Finalizations.{begun}
use Rattle.stateful_history.specs.Jobs.{IsLiveJob}
use Rattle.stateful_history.specs.Live.{live_ticket}
use Rattle.stateful_history.specs.Past.{Past}
use Rattle.stateful_history.specs.Requests.{IsLiveRequest, IsLiveVerification}
use Rattle.stateful_history.specs.Waiting.{IsFinalizing}
use Rattle.stateful_history.specs.declared.mark.JobKind.TheVariants.{Build}
use Rattle.stateful_history.specs.declared.ticket.Ticket.TheVariants.{Receipt}
use Rattle.stateful_history.specs.declared.ticket.Ticket.TheVariants as tickets
use Rattle.stateful_table.specs.Table.{at}
use Rattle.stateful_exec_tables.specs.Fetching.{IsVerification}
use Rattle.stateful_exec_model.specs.Finalizing.{front_at}
use Rattle.stateful_exec_walk.specs.Path.{Path}
use Rattle.stateful_exec_model.specs.Workings.{Workings}
use Rattle.stateful_exec_model.specs.declared.building.Building.{Building}
use Rattle.stateful_exec_model.specs.declared.front.Front.{Front}
use Rattle.stateful_exec_model.specs.declared.front.Stage.{Stage}
use Rattle.stateful_exec_model.specs.declared.front.Stage.TheVariants.{Begun, Running, Ran, Advanced, Hooking}
use Rattle.stateful_exec_walk.specs.declared.request.Request.{Request}
use Rattle.stateful_exec_walk.specs.declared.request.Request.TheVariants.{Verify, Recover}
use Rattle.stateful_exec_tables.specs.declared.state.Tables.{Tables}
use Rattle.stateful_exec_tables.specs.declared.tables.Phase.{Phase}
use Rattle.stateful_exec_tables.specs.declared.tables.Phase.TheVariants.{Open, Fetching, Waiting, Executing, Parked}
use Rattle.stateful_exec_tables.specs.declared.tables.Requested.{Requested}
use Rattle.stateful_exec_laws.specs.Building.{BuildStands}
use Rattle.stateful_exec_laws.specs.Fronting.{FrontStands}
use Rattle.stateful_exec_laws.specs.Requesting.{first_of, IsRequestOf, IsInPhase, IsStanding}
use Rattle.stateful_exec_laws.specs.Setting.{setting}
use Rattle.stateful_exec_laws.proofs.requests.Cancelled.{own}
use Rattle.stateful_exec_laws.proofs.runs.Removing.{All-at}
use Rattle.stateful_loop_model.specs.Moments.{Moment}
use Rattle.stateful_loop_model.specs.Rules.{IsCollected, IsIdle, Quiet, drain, go_on, take}
use Rattle.stateful_loop_model.specs.Sound.{IsUp, FrontAgrees}
use Rattle.stateful_loop_model.specs.declared.message.Action.{Action}
use Rattle.stateful_loop_model.specs.declared.tables.Finalizing.{Finalizing}
use Rattle.stateful_loop_laws.specs.Execution.{Executes, IsFree}
use Rattle.stateful_loop_laws.specs.InHand.{VerifiedApart, AllInHand, GoesOnAt}
use Rattle.stateful_loop_laws.specs.Stands.{IsUpAt}
use Rattle.stateful_loop_laws.specs.Tickets.{ticket_under, IsReceiptAt}
use Rattle.stateful_loop_laws.specs.Times.{times}
use Rattle.stateful_loop_laws.proofs.execution.AnchorStands.{idle-front}
use Rattle.stateful_loop_laws.proofs.hands.QuietWaits.{found_in, empty, some_is, free_at, none_in_front, waits_where, actions_apart}
use Rattle.stateful_loop_laws.proofs.events.TakenIn.{quiet-bare}

-- the request of a ticket waits for the run of a job
pub record IsExecuting {B C I : Type 0} (requests : List (ℕ × Requested B C I)) (t : ℕ) : Type 0 where
  pub job : ℕ
  pub path : Path B
  pub request : Requested B C I
  pub there : at requests t ≡ Some request
  pub executing : request.phase ≡ Executing job path

module _ {B C I P R D H G U : Type 0} (w : Workings B C I P R D H G U) (stored : ℕ → Option (Named B)) (base : w.States) (p : Past B C I)
    (m : Moment w) (up : m.loop.up ≡ true) (quiet : Quiet w m) (h : IsUpAt w stored base p m) (apart : VerifiedApart p)
    (goes : GoesOnAt w stored base p m) (hands : AllInHand w p m) where
  abbrev e : Executes w stored base p m
  e = h.executes

  abbrev tables : Tables B C I R U
  tables = m.execution.state

  is_up : IsUp w m
  is_up = h.sound.up up

  collected : IsCollected w m
  collected = (up, quiet-bare w m up quiet)

  -- no finalization goes on in execution where none does in the past
  module _ (finalizes_none : IsFinalizing p → ⊥) where
    stands : (b : Named B) (stage : Stage R U H) → m.execution.front ≡ front_at b stage
        → FrontStands w stored p e.point m.next tables.anchor (front_at b stage)
    stands b stage is = subst (λ (o : Option (Front B R U H)). FrontStands w stored p e.point m.next tables.anchor o) is e.fronts

    begun_none : (b : Named B) → begun p ≡ Some b → ⊥
    begun_none b is = finalizes_none (inl (rw is refl))

    unbuilt : (x : Front B R U H) → m.execution.front ≡ Some x → m.execution.build ≡ None
    unbuilt x is = go m.execution.build refl
      where
        go : (o : Option (Building B C D)) → m.execution.build ≡ o → m.execution.build ≡ None
        go None none = none
        go (Some b) some = let no : Some x ≡ None = sym is ∙ e.alone (rw some refl) in cc

    at_stage : (f : Finalizing B G) → m.loop.front ≡ Some f → (stage : Stage R U H) → m.execution.front ≡ front_at f.block stage → ⊥
    at_stage f front Begun is = begun_none f.block (stands f.block Begun is).at_stage.begun_is
    at_stage f front (Running j run) is = begun_none f.block (stands f.block (Running j run) is).at_stage.0.begun_is
    at_stage f front (Ran batch) is = begun_none f.block (stands f.block (Ran batch) is).at_stage.0.begun_is
    at_stage f front Advanced is = quiet (go_on (collected, unbuilt (record { block = f.block; stage = Advanced }) is, front) is)
    at_stage f front (Hooking j hook) is = finalizes_none (inr (j, f.block.digest, (stands f.block (Hooking j hook) is).at_stage.1.job))

    no_front : m.execution.front ≡ None
    no_front = go m.loop.front refl
      where
        go : (o : Option (Finalizing B G)) → m.loop.front ≡ o → m.execution.front ≡ None
        go None front = idle-front w m is_up front
        go (Some f) front =
            let agrees : FrontAgrees w m.loop.durability (Some f) m.execution.front =
            subst (λ (o : Option (Finalizing B G)). FrontAgrees w m.loop.durability o m.execution.front) front is_up.front in
            absurd (at_stage f front agrees.0 agrees.1)

  module _ (t : ℕ) (live : IsLiveRequest t p) (finalizes_none : IsFinalizing p → ⊥)
      (builds_none : verified t p ≡ None → (k : ℕ) (d : Digest) → IsLiveJob k Build d p → ⊥) where
    front_none : m.execution.front ≡ None
    front_none = no_front finalizes_none

    loop_front_none : m.loop.front ≡ None
    loop_front_none = none_in_front w stored base p m None up quiet h apart goes hands front_none

    -- its receipt isn't held
    held_none : 0 < times t (map (λ (receipt : ℕ × ℕ). receipt.1) m.loop.durability.held) → ⊥
    held_none some = found_in (λ (receipt : ℕ × ℕ). receipt.1) (λ receipt. IsReceiptAt w.header p receipt.1 receipt.0) ⊥ t
        (λ receipt is r. let no : Some tickets.Request ≡ Some Receipt = sym live ∙ subst (λ u. live_ticket u p ≡ Some Receipt) is r.live in cc)
        m.loop.durability.held h.tickets.held some

    -- where a block is built, it is a verification
    verifies : (b : Building B C D) → m.execution.build ≡ Some b → verified t p ≡ None → ⊥
    verifies b is off =
        let s : BuildStands w stored p e.points m.next tables (Some b) =
        subst (λ o. BuildStands w stored p e.points m.next tables o) is e.builds in
        builds_none off b.job b.parent.digest s.each.job

    where_found : m.loop.queue ≡ [] → (0 < times t (map ticket_under m.loop.actions) → ⊥)
        → (MatchOption m.execution.build ⊥ (λ b. b.ticket ≡ t) → ⊥) → IsSome (at tables.requests t)
    where_found queue actions built =
        waits_where w stored base p m None up quiet h apart goes hands t
        (hands.hand t (λ none. let no : Some tickets.Request ≡ None = sym live ∙ none in cc)) queue loop_front_none
        (IsSome (at tables.requests t)) (λ some. absurd (actions some)) (λ some. absurd (held_none some)) (λ some. some) (λ own. absurd (built own))

    -- it is in the table of requests
    in_table : IsSome (at tables.requests t)
    in_table = go m.execution.build refl
      where
        go : (o : Option (Building B C D)) → m.execution.build ≡ o → IsSome (at tables.requests t)
        go None none =
            let idle : IsIdle w m = (collected, none, loop_front_none) in
            let bare : m.loop.actions ≡ [] = empty m.loop.actions (λ some. quiet (take idle (inl some))) in
            where_found (empty m.loop.queue (λ some. quiet (take idle (inr some))))
            (λ some. let no : 0 < times t [] = subst (λ (acts : List (Action B C I)). 0 < times t (map ticket_under acts)) bare some in omega (arith, no))
            (λ own. subst (λ o. MatchOption o ⊥ (λ b. b.ticket ≡ t)) none own)
        go (Some b) is =
            where_found (empty m.loop.queue (λ some. quiet (drain collected (rw is refl) some)))
            (λ some. verifies b is (actions_apart w stored base p m None up quiet h apart goes hands t some))
            (λ own. let ticket_is : b.ticket ≡ t = subst (λ o. MatchOption o ⊥ (λ b. b.ticket ≡ t)) is own in
            let s : BuildStands w stored p e.points m.next tables (Some b) =
            subst (λ o. BuildStands w stored p e.points m.next tables o) is e.builds in
            verifies b is (subst (λ u. verified u p ≡ None) ticket_is (apart.unproposed b.ticket
            (λ no. let never = sym s.each.proposal.proposes ∙ no in cc))))

    free : IsFree w stored base p e.points e.point m.next tables
    free = free_at w stored base p m None up quiet h apart goes hands front_none

    module _ (fetches_none : HasFetch t p → ⊥)
        (abstains_not : (b : Named B) → IsLiveVerification t p b → Abstains (setting w stored) t p b → ⊥) where
      verification : (request : Request B C I) → IsRequestOf w stored p t request → IsVerification request
          → IsLiveVerification t p (first_of request)
      verification (Verify u ancestry) asked is = asked
      verification (Recover u context ancestry input kind) asked is = absurd is

      -- It waits for a run, where it neither fetches nor abstains.
      pub quiet-executes : IsExecuting m.execution.state.requests t
      quiet-executes =
          let (r, there) = some_is (at tables.requests t) in_table in
          go r there r.phase refl
        where
          go : (r : Requested B C I) → at tables.requests t ≡ Some r → (phase : Phase B) → r.phase ≡ phase → IsExecuting tables.requests t
          go r there Open is =
              absurd (All-at (λ (x : ℕ × Requested B C I). x.1.phase ≡ Open → ⊥) tables.requests t r there (goes.settled free.pause_is) is)
          go r there (Parked path) is =
              absurd (All-at (λ (x : ℕ × Requested B C I). (way : _) → x.1.phase ≡ Parked way → ⊥) tables.requests t r there
              (h.ways.unparked free.pause_is) path is)
          go r there (Fetching f) is =
              let s : IsStanding w stored p tables.runs t r = own w stored p e.points e.point m.next tables t e.tables r there in
              let own_fetch = subst (λ (x : Phase B). IsInPhase w stored p tables.runs t r.request x) is s.phase in
              absurd (fetches_none (record { fetch = f; live = own_fetch.0; own = own_fetch.1 }))
          go r there Waiting is =
              let s : IsStanding w stored p tables.runs t r = own w stored p e.points e.point m.next tables t e.tables r there in
              let judges = subst (λ (x : Phase B). IsInPhase w stored p tables.runs t r.request x) is s.phase in
              absurd (abstains_not (first_of r.request) (verification r.request s.asked judges)
              (All-at (λ (x : ℕ × Requested B C I). x.1.phase ≡ Waiting → Abstains (setting w stored) x.0 p (first_of x.1.request))
              tables.requests t r there (goes.abstain free.pause_is) is))
          go r there (Executing j path) is = record { job = j; path = path; request = r; there = there; executing = is }
