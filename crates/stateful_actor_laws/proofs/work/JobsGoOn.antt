-- Behind each step every live job was turned less often than it takes turns.
use Rattle.std.proofs.Common.{◌≡◌, ℕ, Bool, true, false, Option, Some, None, List, refl, sym, ap, ◌∙◌, subst, true≢false}
use Rattle.std.specs.Prelude.{IfSome, IsSome, MatchOption}
use Rattle.stateful_base.specs.Names.{Named}
use Rattle.stateful_base.specs.declared.digest.Digest.{Digest}
use Rattle.stateful_history.specs.Finalizations.{finalized_since}
use Rattle.stateful_history.specs.Jobs.{IsLiveJob, JobOf, job_of, IsOutstandingCandidate, IsOutstandingFinalized, IsOutstandingBuild, IsOutstandingHook}
use Rattle.stateful_history.specs.Past.{Past}
use Rattle.stateful_history.specs.Requests.{Proposal, IsLiveReceipt}
use Rattle.stateful_history.specs.Telling.{telling_of}
use Rattle.stateful_history.specs.declared.mark.JobKind.{JobKind}
use Rattle.stateful_history.specs.declared.mark.JobKind.TheVariants.{Candidate, Finalized, Build, Hook}
use Rattle.stateful_table.specs.Table.{at}
use Rattle.stateful_exec_model.specs.Finalizing.{front_at}
use Rattle.stateful_exec_model.specs.Workings.{Workings, Point}
use Rattle.stateful_exec_model.specs.declared.building.Building.{Building}
use Rattle.stateful_exec_model.specs.declared.front.Front.{Front}
use Rattle.stateful_exec_model.specs.declared.front.Stage.{Stage}
use Rattle.stateful_exec_model.specs.declared.front.Stage.TheVariants.{Begun, Running, Ran, Advanced, Hooking}
use Rattle.stateful_exec_tables.specs.declared.tables.LiveRun.{LiveRun}
use Rattle.stateful_exec_laws.specs.Building.{BuildStands}
use Rattle.stateful_exec_laws.specs.Fronting.{FrontStands, RunsAs, HooksAs}
use Rattle.stateful_exec_laws.specs.Outstanding.{GoesOnTurning}
use Rattle.stateful_exec_laws.specs.Running.{IsRunning}
use Rattle.stateful_exec_laws.specs.Setting.{setting}
use Rattle.stateful_exec_laws.proofs.ended.Stands.{running}
use Rattle.stateful_exec_laws.proofs.requests.Outstands.{run-IsOutstanding, hook-IsOutstanding, build-IsOutstanding}
use Rattle.stateful_exec_laws.proofs.runs.Removing.{All-at}
use Rattle.stateful_loop_model.specs.Moments.{Moment}
use Rattle.stateful_loop_model.specs.Sound.{IsUp, FrontAgrees}
use Rattle.stateful_loop_model.specs.declared.tables.Finalizing.{Finalizing}
use Rattle.stateful_loop_laws.specs.Execution.{Executes}
use Rattle.stateful_loop_laws.specs.InHand.{GoesOnAt}
use Rattle.stateful_loop_laws.specs.Stands.{IsUpAt}
use Rattle.stateful_loop_laws.proofs.barriers.Acknowledging.{finalized-Met}
use Rattle.stateful_loop_laws.proofs.hands.QuietWaits.{chain-HasState, anchor-HasState, run-outstanding}
use Rattle.stateful_actor_laws.specs.Jobs.{EachJobGoesOn}
use Rattle.stateful_actor_laws.specs.Stands.{StandsAt}

same_digest : (kind : JobKind) (d e : Digest) → Some (job_of kind d) ≡ Some (job_of kind e) → d ≡ e
same_digest kind d e is = let same : job_of kind d ≡ job_of kind e = cc in ap (λ (o : JobOf). o.digest) same

module _ {B C I P R D H G U : Type 0} (w : Workings B C I P R D H G U) (stored : ℕ → Option (Named B)) (base : w.States) (p : Past B C I) (m : Moment w) where
  -- a live job of each kind is outstanding
  abbrev FoundFinal : ℕ → Digest → Type 0
  FoundFinal j d = (b : Named B) × (b.digest ≡ d) × IsOutstandingFinalized (setting w stored) (telling_of w.works) base p j b

  abbrev FoundBuild : ℕ → Digest → Type 0
  FoundBuild j d = (t : ℕ) × (r : Proposal B C I) × (r.parent.digest ≡ d) × IsOutstandingBuild (setting w stored) (telling_of w.works) base p j t r

  abbrev FoundHook : ℕ → Digest → Type 0
  FoundHook j d = (b : Named B) × (b.digest ≡ d) × IsOutstandingHook (setting w stored) (telling_of w.works) base p j b

  module _ (up : m.loop.up ≡ true) (h : IsUpAt w stored base p m) (goes : GoesOnAt w stored base p m) where
    abbrev e : Executes w stored base p m
    e = h.executes

    candidate : (j : ℕ) (d : Digest) → IsLiveJob j Candidate d p
        → (b : Named B) × (b.digest ≡ d) × IsOutstandingCandidate (setting w stored) (telling_of w.works) base p j b
    candidate j d job = go (at m.execution.state.runs j) refl (e.tables.runs.complete j d job)
      where
        go : (o : Option (LiveRun B R)) → at m.execution.state.runs j ≡ o → IsSome o
            → (b : Named B) × (b.digest ≡ d) × IsOutstandingCandidate (setting w stored) (telling_of w.works) base p j b
        go None is some = cc
        go (Some live) is some =
            let r : IsRunning w stored p e.points m.next m.execution.state.anchor m.execution.state.cache j live =
            running w stored p e.points e.point m.next m.execution.state e.tables j live is in (
              live.block,
              same_digest Candidate live.block.digest d (sym r.job.is ∙ job.is),
              run-outstanding w stored base p m e j live r
                  (All-at (λ (x : ℕ × LiveRun B R). GoesOnTurning w stored base p x.0 x.1) m.execution.state.runs j live is goes.runs),
            )

    stands : (b : Named B) (stage : Stage R U H) → m.execution.front ≡ front_at b stage
        → FrontStands w stored p e.point m.next m.execution.state.anchor (front_at b stage)
    stands b stage is = subst (λ (o : Option (Front B R U H)). FrontStands w stored p e.point m.next m.execution.state.anchor o) is e.fronts

    final : (j : ℕ) (d : Digest) → IsLiveJob j Finalized d p
        → (b : Named B) × (b.digest ≡ d) × IsOutstandingFinalized (setting w stored) (telling_of w.works) base p j b
    final j d job = go m.execution.front refl (e.fronts.runs j d job)
      where
        at_stage : (b : Named B) (stage : Stage R U H) → m.execution.front ≡ front_at b stage → RunsAs j stage → FoundFinal j d
        at_stage b Begun is among = absurd among
        at_stage b (Ran batch) is among = absurd among
        at_stage b Advanced is among = absurd among
        at_stage b (Hooking k hook) is among = absurd among
        at_stage b (Running k run) is among =
            let s = stands b (Running k run) is in
            let out : IsOutstandingFinalized (setting w stored) (telling_of w.works) base p k b =
            run-IsOutstanding w stored base p e.point m.next m.execution.state.anchor b k run s (anchor-HasState w stored base p m e) in
            let here = subst (λ (i : ℕ). IsOutstandingFinalized (setting w stored) (telling_of w.works) base p i b) among out in
            (b, same_digest Finalized b.digest d (sym here.job.is ∙ job.is), here)

        go : (o : Option (Front B R U H)) → m.execution.front ≡ o → MatchOption o ⊥ (λ f. RunsAs j f.stage) → FoundFinal j d
        go None is among = absurd among
        go (Some f) is among = at_stage f.block f.stage is among

    build : (j : ℕ) (d : Digest) → IsLiveJob j Build d p
        → (t : ℕ) × (r : Proposal B C I) × (r.parent.digest ≡ d) × IsOutstandingBuild (setting w stored) (telling_of w.works) base p j t r
    build j d job = go m.execution.build refl (e.builds.complete j d job)
      where
        go : (o : Option (Building B C D)) → m.execution.build ≡ o → MatchOption o ⊥ (λ b. b.job ≡ j) → FoundBuild j d
        go None is among = absurd among
        go (Some b) is among =
            let s : BuildStands w stored p e.points m.next m.execution.state (Some b) =
            subst (λ (x : Option (Building B C D)). BuildStands w stored p e.points m.next m.execution.state x) is e.builds in
            let out = build-IsOutstanding w stored base p e.point m.next e.points m.execution.state b s (chain-HasState w stored base p m e s.each.chain) in
            let here = subst (λ (i : ℕ). IsOutstandingBuild (setting w stored) (telling_of w.works) base p i b.ticket
            (record { kind = b.kind; context = b.context; parent = b.parent; input = s.each.input })) among out in (
              b.ticket,
              record { kind = b.kind; context = b.context; parent = b.parent; input = s.each.input },
              same_digest Build b.parent.digest d (sym here.job.is ∙ job.is),
              here,
            )

    hook : (j : ℕ) (d : Digest) → IsLiveJob j Hook d p
        → (b : Named B) × (b.digest ≡ d) × IsOutstandingHook (setting w stored) (telling_of w.works) base p j b
    hook j d job = go m.execution.front refl (e.fronts.hooks j d job)
      where
        at_stage : (f : Finalizing B G) → m.loop.front ≡ Some f → (k : ℕ) (tool : H) → m.execution.front ≡ front_at f.block (Hooking k tool) → k ≡ j → FoundHook j d
        at_stage f front k tool is among =
            let s = stands f.block (Hooking k tool) is in
            let own = subst (λ (o : Option (Finalizing B G)). IfSome o (λ g. IsLiveReceipt g.ticket p × (finalized_since g.ticket p ≡ Some g.block))) front
            h.tickets.front in
            let out : IsOutstandingHook (setting w stored) (telling_of w.works) base p k f.block =
            hook-IsOutstanding w stored base p e.point m.next m.execution.state.anchor f.block k tool s
            (finalized-Met (setting w stored) f.ticket f.block p own.1) (anchor-HasState w stored base p m e) in
            let here = subst (λ (i : ℕ). IsOutstandingHook (setting w stored) (telling_of w.works) base p i f.block) among out in
            (f.block, same_digest Hook f.block.digest d (sym here.job.is ∙ job.is), here)

        hooked : (b : Named B) (stage : Stage R U H) → m.execution.front ≡ front_at b stage → HooksAs j stage → (k : ℕ) × (tool : H) × (stage ≡ Hooking k tool) × (k ≡ j)
        hooked b Begun is among = absurd among
        hooked b (Ran batch) is among = absurd among
        hooked b Advanced is among = absurd among
        hooked b (Running k run) is among = absurd among
        hooked b (Hooking k tool) is among = (k, tool, refl, among)

        in_front : (o : Option (Finalizing B G)) → m.loop.front ≡ o → (x : Front B R U H) → m.execution.front ≡ Some x → HooksAs j x.stage
            → FrontAgrees w m.loop.durability o m.execution.front → FoundHook j d
        in_front None none x is among agrees = let never : Some x ≡ None = sym is ∙ agrees in cc
        in_front (Some f) front x is among agrees =
            let found = hooked x.block x.stage is among in
            let both : Some x ≡ front_at f.block agrees.0 = sym is ∙ agrees.1 in
            let same : x ≡ record { block = f.block; stage = agrees.0 } = cc in
            let staged : m.execution.front ≡ front_at f.block (Hooking found.0 found.1) =
            agrees.1 ∙ ap (λ (st : Stage R U H). front_at f.block st) (sym (ap (λ (y : Front B R U H). y.stage) same) ∙ found.2) in
            at_stage f front found.0 found.1 staged found.3

        go : (o : Option (Front B R U H)) → m.execution.front ≡ o → MatchOption o ⊥ (λ f. HooksAs j f.stage) → FoundHook j d
        go None is among = absurd among
        go (Some x) is among = let u : IsUp w m = h.sound.up up in in_front m.loop.front refl x is among u.front

  module _ (s : StandsAt w stored base p m) where
    none_live : m.loop.up ≡ false → (j : ℕ) (kind : JobKind) (d : Digest) → IsLiveJob j kind d p → ⊥
    none_live down j kind d job = true≢false (sym job.live ∙ (s.down down).jobs j)

    -- whether the machine is up or down
    pub jobs-go_on : EachJobGoesOn w stored base p
    jobs-go_on = go m.loop.up refl
      where
        go : (b : Bool) → m.loop.up ≡ b → EachJobGoesOn w stored base p
        go true up =
            let there = (s.up up).0 in
            let goes = (s.hands up).1 in
            record { candidates = candidate up there goes; finals = final up there goes; builds = build up there goes; hooks = hook up there goes }
        go false down = record {
          candidates = λ j d job. absurd (none_live down j Candidate d job);
          finals = λ j d job. absurd (none_live down j Finalized d job);
          builds = λ j d job. absurd (none_live down j Build d job);
          hooks = λ j d job. absurd (none_live down j Hook d job);
        }
