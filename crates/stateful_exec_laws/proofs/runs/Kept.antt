-- Live runs go on turning behind requests that are served, after runs that are taken out, and after the anchor's move.
use Rattle.std.proofs.Common.{◌≡◌, ◌≢◌, ◌<◌, ℕ, List, [], ◌∷◌, All, Option, Some, get_or, refl, sym, ap, ◌∙◌, subst, arith}
use Rattle.std.proofs.lemmas.List.Elements.{All-weaker}
use Rattle.stateful_base.specs.Names.{Named}
use Rattle.stateful_base.specs.declared.anchor.Anchor.{Anchor}
use Rattle.stateful_base.specs.declared.digest.Digest.{Digest}
use Rattle.stateful_base.specs.declared.outcome.Finality.TheVariants as finality
use Rattle.stateful_history.specs.Jobs.{turns}
use Rattle.stateful_history.specs.Past.{Past, Came, Made, after}
use Rattle.stateful_history.specs.Setting.{parent_of}
use Rattle.stateful_history.specs.States.{HasState}
use Rattle.stateful_history.specs.declared.event.Event.TheVariants.{Turn}
use Rattle.stateful_history.specs.declared.mark.How.{How}
use Rattle.stateful_history.specs.declared.mark.Mark.{Mark}
use Rattle.stateful_history.specs.declared.mark.Mark.TheVariants.{Ended}
use Rattle.stateful_exec_cache.specs.Cache.{IsAtHand}
use Rattle.stateful_exec_cache.specs.declared.cache.Cached.{Cached}
use Rattle.stateful_table.specs.Table.{put, without}
use Rattle.stateful_exec_model.specs.Ending.{Follows, given_up, at_boundary, failed, parked, goes_on}
use Rattle.stateful_exec_model.specs.Moments.{Moment}
use Rattle.stateful_exec_walk.specs.Path.{Path}
use Rattle.stateful_exec_tables.specs.Tables.{ended, requested}
use Rattle.stateful_exec_model.specs.Rules.{Concludes, Advances, arrives, leaves, joins, starts, misses, Acquires, valid, invalid, asks, waits, runs}
use Rattle.stateful_exec_model.specs.Workings.{Workings, Point}
use Rattle.stateful_exec_pause.specs.declared.pause.Pause.{Pause}
use Rattle.stateful_exec_walk.specs.declared.request.Request.{Request}
use Rattle.stateful_exec_walk.specs.declared.request.Request.TheVariants.{Verify, Recover}
use Rattle.stateful_exec_walk.specs.declared.request.Verdict as said
use Rattle.stateful_exec_walk.specs.declared.request.Verdict.TheVariants as verdict
use Rattle.stateful_exec_tables.specs.declared.tables.LiveRun.{LiveRun}
use Rattle.stateful_exec_tables.specs.declared.tables.Released.{Released}
use Rattle.stateful_exec_tables.specs.declared.tables.Requested.{Requested}
use Rattle.stateful_exec_laws.specs.Setting.{setting}
use Rattle.stateful_exec_laws.specs.Outstanding.{GoesOnTurning, RunsGoOn}
use Rattle.stateful_exec_laws.specs.Running.{IsRunning}
use Rattle.stateful_exec_laws.specs.Standing.{NumbersStand}
use Rattle.stateful_exec_laws.proofs.requests.Putting.{All-put}
use Rattle.stateful_exec_laws.proofs.reasons.Ground.{IsGround, HasState-on}
use Rattle.stateful_exec_laws.proofs.runs.Removing.{All-without, differ}
use Rattle.stateful_exec_laws.proofs.runs.Turned.{HasState-once, GoesOnTurning-same, RunsGoOn-starts}
use Rattle.stateful_exec_laws.proofs.requests.SamePast.{IsSamePast}
use Rattle.stateful_exec_laws.proofs.reasons.Settled.{IsSamePast-turned}

-- marks turn no job
pub turns-after : {B C I : Type 0} (p : Past B C I) (marks : List (Mark B)) (j : ℕ) → turns j (after p marks) ≡ turns j p
turns-after p [] j = refl
turns-after p (mark ∷ marks) j = turns-after (Made mark ∷ p) marks j

-- each run takes some turn, where that is told
abbrev pub RunsTakeTurns : {B C I P R D H G U : Type 0} → Workings B C I P R D H G U → Type 0
RunsTakeTurns w = (b : Named _) (t : w.States) (n : ℕ) → w.works.run_cost finality.Candidate t b.block ≡ Some n → 0 < n

module _ {B C I P R D H G U : Type 0} (w : Workings B C I P R D H G U) (stored : ℕ → Option (Named B)) (base : w.States) (p : Past B C I) (m now : Moment w) (t : ℕ)
    (more : List (Mark B)) (same : IsSamePast (setting w stored) p (after p more)) (numbers : NumbersStand p m.state.next_job m.state.next_fetch) (costs : RunsTakeTurns w) (on : RunsGoOn w stored base p m.state.runs) where
  abbrev Go_on : List (ℕ × LiveRun B R) → Type 0
  Go_on live = RunsGoOn w stored base (after p more) live

  same_runs : Go_on m.state.runs
  same_runs = All-weaker (λ (e : ℕ × LiveRun B R). GoesOnTurning w stored base p e.0 e.1) (λ e. GoesOnTurning w stored base (after p more) e.0 e.1)
      (λ e goes. GoesOnTurning-same w stored base p (after p more) same e.0 e.1 (turns-after p more e.0) goes) m.state.runs on

  ended_runs : (request : Request B C I) (v : said.Verdict) → Go_on (ended m.state t request v).runs
  ended_runs (Verify u ancestry) verdict.Valid = same_runs
  ended_runs (Verify u ancestry) verdict.Invalid = same_runs
  ended_runs (Recover u context ancestry input kind) verdict.Valid = same_runs
  ended_runs (Recover u context ancestry input kind) verdict.Invalid = same_runs

  pub concluded : (r : Requested B C I) (v : said.Verdict) → Concludes w m t r v now → Go_on now.state.runs
  concluded r v concludes = rw concludes (ended_runs r.request v)

  -- they go on behind a request that goes along its path
  pub RunsGoOn-advances : (r : Requested B C I) (path : Path B) → Advances w m t r path now → Go_on now.state.runs
  RunsGoOn-advances r path (arrives all concludes) = concluded r verdict.Valid concludes
  RunsGoOn-advances r path (leaves reaches out concludes) = concluded r verdict.Invalid concludes
  RunsGoOn-advances r path (joins j reaches on_it unknown has becomes) = rw becomes same_runs
  RunsGoOn-advances r path (starts {b = b} reaches on_it unknown unrun known launches) =
      rw (launches.state, launches.starts.state) (RunsGoOn-starts w stored base p (after p more) same (λ j. turns-after p more j) m.state.runs on m.state.next_job (record { block = b; run = launches.starts.run })
      (numbers.unturned m.state.next_job (omega arith)) (costs b))
  RunsGoOn-advances r path (misses reaches on_it unknown unrun out concludes) = concluded r verdict.Invalid concludes

  -- behind one that acquires what it needs
  pub RunsGoOn-acquires : (stored_now : ℕ → Option (Named B)) (r : Requested B C I) → Acquires w stored_now m t r now → Go_on now.state.runs
  RunsGoOn-acquires stored_now r (valid needs concludes) = concluded r verdict.Valid concludes
  RunsGoOn-acquires stored_now r (invalid needs concludes) = concluded r verdict.Invalid concludes
  RunsGoOn-acquires stored_now r (asks d needs left becomes) = rw becomes same_runs
  RunsGoOn-acquires stored_now r (waits needs becomes) = rw becomes same_runs
  RunsGoOn-acquires stored_now r (runs {path = path} needs advances) = RunsGoOn-advances (requested r.request) path advances

module _ {B C I P R D H G U : Type 0} (w : Workings B C I P R D H G U) (stored : ℕ → Option (Named B)) (base : w.States) (p : Past B C I) (m now : Moment w)
    (more : List (Mark B)) (same : IsSamePast (setting w stored) p (after p more)) (numbers : NumbersStand p m.state.next_job m.state.next_fetch) (costs : RunsTakeTurns w) (on : RunsGoOn w stored base p m.state.runs) where
  -- and behind one that follows the end of a run
  pub RunsGoOn-follows : (b : Named B) (how : How) (r : Released B C I) → Follows w b how r m now → RunsGoOn w stored base (after p more) now.state.runs
  RunsGoOn-follows b how r (given_up out concludes) = concluded w stored base p m now r.ticket more same numbers costs on (requested r.request) verdict.Invalid concludes
  RunsGoOn-follows b how r (at_boundary out becomes) = rw becomes (same_runs w stored base p m now r.ticket more same numbers costs on)
  RunsGoOn-follows b how r (failed not_held out concludes) = concluded w stored base p m now r.ticket more same numbers costs on (requested r.request) verdict.Invalid concludes
  RunsGoOn-follows b how r (parked pruning any becomes) = rw becomes (same_runs w stored base p m now r.ticket more same numbers costs on)
  RunsGoOn-follows b how r (goes_on kept not_held other any advances) = RunsGoOn-advances w stored base p m now r.ticket more same numbers costs on (requested r.request) r.path advances

module _ {B C I P R D H G U : Type 0} (w : Workings B C I P R D H G U) (stored : ℕ → Option (Named B)) (base : w.States) (p : Past B C I) where
  -- they go on where one of them is taken out
  pub RunsGoOn-without : (q : Past B C I) → IsSamePast (setting w stored) p q → (j : ℕ) → ((k : ℕ) → k ≢ j → turns k q ≡ turns k p) → (live : List (ℕ × LiveRun B R)) → RunsGoOn w stored base p live → RunsGoOn w stored base q (without live j)
  RunsGoOn-without q same j turned live on =
      All-without (λ (e : ℕ × LiveRun B R). GoesOnTurning w stored base q e.0 e.1) live j
      (All-weaker (λ (e : ℕ × LiveRun B R). GoesOnTurning w stored base p e.0 e.1) (λ e. e.0 ≢ j → GoesOnTurning w stored base q e.0 e.1)
      (λ e goes other. GoesOnTurning-same w stored base p q same e.0 e.1 (turned e.0 other) goes) live on)

  -- and after its last turn
  pub RunsGoOn-ended : (j : ℕ) (how : How) (turned : LiveRun B R) (live : List (ℕ × LiveRun B R)) → RunsGoOn w stored base p live → RunsGoOn w stored base (Made (Ended j how) ∷ Came (Turn j) ∷ p) (without (put live j turned) j)
  RunsGoOn-ended j how turned live on =
      All-without (λ (e : ℕ × LiveRun B R). GoesOnTurning w stored base q e.0 e.1) (put live j turned) j
      (All-put (λ (e : ℕ × LiveRun B R). e.0 ≢ j → GoesOnTurning w stored base q e.0 e.1) live j turned
      (All-weaker (λ (e : ℕ × LiveRun B R). GoesOnTurning w stored base p e.0 e.1) (λ e. e.0 ≢ j → GoesOnTurning w stored base q e.0 e.1)
      (λ e goes other. GoesOnTurning-same w stored base p q (IsSamePast-turned (setting w stored) p j how) e.0 e.1 (rw (differ e.0 j (λ is. other (sym is))) refl) goes) live on)
      (λ other. absurd (other refl)))
    where
      q : Past B C I
      q = Made (Ended j how) ∷ Came (Turn j) ∷ p

  -- After the anchor's move each run goes on whose parent is at hand before and behind it, with the same states.
  module _ (points now_points : Digest → Point w) (point now_point : Point w) (next ids : w.Ids) (tip now_tip anchor moved_to : Anchor) (pause after_it : Pause) (cache kept : List (Cached U)) (q : Past B C I)
      (g : IsGround w stored base p points point next tip pause anchor cache) (h : IsGround w stored base q now_points now_point ids now_tip after_it moved_to kept) where
    pub GoesOnTurning-moved : (j : ℕ) (run : LiveRun B R) → turns j q ≡ turns j p → IsRunning w stored p points next anchor cache j run → IsRunning w stored q now_points ids moved_to kept j run
        → (now_points (parent_of (setting w stored) run.block)).1 ≡ (points (parent_of (setting w stored) run.block)).1 → GoesOnTurning w stored base p j run → GoesOnTurning w stored base q j run
    GoesOnTurning-moved j run turned old new states on t has n cost =
        let now_state : HasState (setting w stored) base q (parent_of (setting w stored) run.block) (now_points (parent_of (setting w stored) run.block)).1 =
        subst (λ (d : Digest). HasState (setting w stored) base q d (now_points d).1) new.parent_is (HasState-on w stored base q now_points now_point ids now_tip after_it moved_to kept h new.chain) in
        let then_state : HasState (setting w stored) base p (parent_of (setting w stored) run.block) (points (parent_of (setting w stored) run.block)).1 =
        subst (λ (d : Digest). HasState (setting w stored) base p d (points d).1) old.parent_is (HasState-on w stored base p points point next tip pause anchor cache g old.chain) in
        let one : t ≡ (now_points (parent_of (setting w stored) run.block)).1 = HasState-once (setting w stored) q h.names base (parent_of (setting w stored) run.block) t (now_points (parent_of (setting w stored) run.block)).1 has now_state in
        subst (λ (k : ℕ). k < n) (sym turned) (on (points (parent_of (setting w stored) run.block)).1 then_state n (ap (λ (x : w.States). w.works.run_cost finality.Candidate x run.block.block) (sym (one ∙ states)) ∙ cost))

    pub RunsGoOn-moved : (live : List (ℕ × LiveRun B R)) → All (λ e. turns e.0 q ≡ turns e.0 p) live → All (λ e. IsRunning w stored p points next anchor cache e.0 e.1) live → All (λ e. IsRunning w stored q now_points ids moved_to kept e.0 e.1) live
        → ((d : Digest) → IsAtHand anchor cache d → IsAtHand moved_to kept d → (now_points d).1 ≡ (points d).1) → RunsGoOn w stored base p live → RunsGoOn w stored base q live
    RunsGoOn-moved live turned old new states on = λ k d l.
        let e = get_or live k d in
        let r : IsRunning w stored p points next anchor cache e.0 e.1 = old k d l in
        let s : IsRunning w stored q now_points ids moved_to kept e.0 e.1 = new k d l in
        GoesOnTurning-moved e.0 e.1 (turned k d l) r s
        (states (parent_of (setting w stored) e.1.block) (subst (λ (x : Digest). IsAtHand anchor cache x) r.parent_is r.at_hand) (subst (λ (x : Digest). IsAtHand moved_to kept x) s.parent_is s.at_hand)) (on k d l)
