-- Each live candidate run goes on over a finalization, behind the begin of its own run, after turns and cancels, and behind
-- requests that are served.
use Rattle.std.proofs.Common.{◌≡◌, ◌≢◌, inl, inr, ℕ, List, [], ◌∷◌, All, Option, Result, Ok, Err, sym, subst}
use Rattle.std.proofs.lemmas.List.Elements.{All-weaker}
use Rattle.stateful_base.specs.Names.{Header, Named}
use Rattle.stateful_base.specs.declared.outcome.Moved.{Moved}
use Rattle.stateful_base.specs.declared.outcome.Moved.TheVariants.{Pending, Done}
use Rattle.stateful_db.specs.declared.application.AppFault.{AppFault}
use Rattle.stateful_history.specs.declared.mark.How.{How}
use Rattle.stateful_history.specs.declared.mark.Mark.{Mark}
use Rattle.stateful_exec_pause.specs.Boundary.{Boundary, step_by, IsRetained}
use Rattle.stateful_exec_model.specs.Ending.{InTurn, none, next, EndsRun, TurnsRun, Follows, given_up, at_boundary, failed, parked, goes_on, Settles, SettlesBy, Steps}
use Rattle.stateful_exec_pause.specs.Fates.{Crosses}
use Rattle.stateful_exec_tables.specs.Cancelling.{Cancels}
use Rattle.stateful_exec_tables.specs.Cancelling.{idle, withdraws, leaves, ends, unqueued}
use Rattle.stateful_exec_model.specs.Finalizing.{RunsFinal}
use Rattle.stateful_exec_model.specs.Moments.{Moment}
use Rattle.stateful_exec_walk.specs.Path.{Path}
use Rattle.stateful_exec_tables.specs.Pausing.{AwaitsRuns}
use Rattle.stateful_exec_tables.specs.Phase.{released_on}
use Rattle.stateful_exec_model.specs.Rules as rules
use Rattle.stateful_exec_tables.specs.Meeting.{GoesOn}
use Rattle.stateful_exec_tables.specs.Tables.{ended, requested}
use Rattle.stateful_exec_model.specs.Rules.{Concludes, Advances, Acquires}
use Rattle.stateful_exec_model.specs.Workings.{Workings}
use Rattle.stateful_exec_model.specs.declared.front.Front.{Front}
use Rattle.stateful_exec_pause.specs.declared.pause.Pause.{Pause}
use Rattle.stateful_exec_pause.specs.declared.pause.Pause.TheVariants.{Free, Finalizing, Pruning}
use Rattle.stateful_exec_walk.specs.declared.request.Request.{Request}
use Rattle.stateful_exec_walk.specs.declared.request.Request.TheVariants.{Verify, Recover}
use Rattle.stateful_exec_walk.specs.declared.request.Verdict.{Verdict}
use Rattle.stateful_exec_walk.specs.declared.request.Verdict.TheVariants as verdict
use Rattle.stateful_exec_tables.specs.declared.state.Tables.{Tables}
use Rattle.stateful_exec_tables.specs.declared.tables.LiveRun.{LiveRun}
use Rattle.stateful_exec_tables.specs.declared.tables.Released.{Released}
use Rattle.stateful_exec_tables.specs.declared.tables.Requested.{Requested}
use Rattle.stateful_exec_laws.proofs.ended.Finalizing.{IsRetained-crossed}
use Rattle.stateful_exec_laws.proofs.requests.Putting.{All-put}
use Rattle.stateful_exec_laws.proofs.runs.Removing.{All-without, All-at}
use Rattle.stateful_exec_laws.proofs.pauses.Retained.{none_awaited}
use Rattle.stateful_loop_laws.specs.Execution.{RunsGoOver}

-- what goes on over a finalization does so once another block is compatible
goes_crossed : {B : Type 0} (header : Header B) (b : Named B) (old new : Pause) → Crosses header b old new → (x : Named B) → GoesOn header old x
    → GoesOn header new x
goes_crossed header b Free new is x h = subst (λ (p : Pause). GoesOn header p x) (sym is) h
goes_crossed header b Pruning new is x h = subst (λ (p : Pause). GoesOn header p x) (sym is) h
goes_crossed header b (Finalizing old) (Finalizing new) (inl over) x h = IsRetained-crossed old new b.digest (step_by header x) over.1 h
goes_crossed header b (Finalizing old) (Finalizing new) (inr off) x h = subst (λ (o : Boundary). IsRetained o (step_by header x)) (sym off.1) h
goes_crossed header b (Finalizing old) Free crosses x h = absurd crosses
goes_crossed header b (Finalizing old) Pruning crosses x h = absurd crosses

module _ {B C I P R D H G U : Type 0} (w : Workings B C I P R D H G U) where
  abbrev Over : Moment w → Type 0
  Over m = RunsGoOver w.header m.state

  -- a live run of a pause
  abbrev GoesIn : Pause → ℕ × LiveRun B R → Type 0
  GoesIn pause e = GoesOn w.header pause e.1.block

  ended_over : (v : Tables B C I R U) (t : ℕ) (request : Request B C I) (x : Verdict) → RunsGoOver w.header v
      → RunsGoOver w.header (ended v t request x)
  ended_over v t (Verify u ancestry) verdict.Valid h = h
  ended_over v t (Verify u ancestry) verdict.Invalid h = h
  ended_over v t (Recover u context ancestry input kind) verdict.Valid h = h
  ended_over v t (Recover u context ancestry input kind) verdict.Invalid h = h

  concludes_over : (m now : Moment w) (t : ℕ) (r : Requested B C I) (x : Verdict) → Concludes w m t r x now → Over m → Over now
  concludes_over m now t r x is h = rw is (ended_over m.state t r.request x h)

  -- behind a request that goes along its path
  pub RunsGoOver-advances : (m now : Moment w) (t : ℕ) (r : Requested B C I) (path : Path B) → Advances w m t r path now → RunsGoOver w.header m.state
      → RunsGoOver w.header now.state
  RunsGoOver-advances m now t r path (rules.arrives all concludes) h = concludes_over m now t r verdict.Valid concludes h
  RunsGoOver-advances m now t r path (rules.leaves reaches out concludes) h = concludes_over m now t r verdict.Invalid concludes h
  RunsGoOver-advances m now t r path (rules.joins j reaches on unknown has becomes) h = rw becomes h
  RunsGoOver-advances m now t r path (rules.starts {b = b} reaches on unknown unrun known launches) h =
      rw (launches.state, launches.starts.state)
      (All-put (GoesIn m.state.pause) m.state.runs m.state.next_job (record { block = b; run = launches.starts.run }) h on)
  RunsGoOver-advances m now t r path (rules.misses reaches on unknown unrun known concludes) h = concludes_over m now t r verdict.Invalid concludes h

  -- behind one that acquires what it needs
  pub RunsGoOver-acquires : (stored : ℕ → Option (Named B)) (m now : Moment w) (t : ℕ) (r : Requested B C I) → Acquires w stored m t r now
      → RunsGoOver w.header m.state → RunsGoOver w.header now.state
  RunsGoOver-acquires stored m now t r (rules.valid needs concludes) h = concludes_over m now t r verdict.Valid concludes h
  RunsGoOver-acquires stored m now t r (rules.invalid needs concludes) h = concludes_over m now t r verdict.Invalid concludes h
  RunsGoOver-acquires stored m now t r (rules.asks digest needs left becomes) h = rw becomes h
  RunsGoOver-acquires stored m now t r (rules.waits needs becomes) h = rw becomes h
  RunsGoOver-acquires stored m now t r (rules.runs {path = path} needs advances) h = RunsGoOver-advances m now t (requested r.request) path advances h

  -- behind one that follows the end of the run that it waited for
  pub RunsGoOver-follows : (b : Named B) (how : How) (r : Released B C I) (m now : Moment w) → Follows w b how r m now → RunsGoOver w.header m.state
      → RunsGoOver w.header now.state
  RunsGoOver-follows b how r m now (given_up out concludes) h = concludes_over m now r.ticket (requested r.request) verdict.Invalid concludes h
  RunsGoOver-follows b how r m now (at_boundary is becomes) h = rw becomes h
  RunsGoOver-follows b how r m now (failed not_held out concludes) h = concludes_over m now r.ticket (requested r.request) verdict.Invalid concludes h
  RunsGoOver-follows b how r m now (parked pruning any becomes) h = rw becomes h
  RunsGoOver-follows b how r m now (goes_on kept not_held other any advances) h =
      RunsGoOver-advances m now r.ticket (requested r.request) r.path advances h

  follow_over : (b : Named B) (how : How) (rs : List (Released B C I)) (m last : Moment w) → InTurn (Follows w b how) rs m last → Over m → Over last
  follow_over b how [] m _ none h = h
  follow_over b how (r ∷ rs) m last (next {n = n} rule turns) h = follow_over b how rs n last turns (RunsGoOver-follows b how r m n rule h)

  -- after the end of a run
  pub RunsGoOver-ends : (m now : Moment w) (j : ℕ) (b : Named B) (o : Option U) (how : How) → EndsRun w m j b o how now → RunsGoOver w.header m.state
      → RunsGoOver w.header now.state
  RunsGoOver-ends m now j b o how e h = rw e.becomes (All-without (GoesIn e.pause) m.state.runs j
      (All-weaker (GoesIn m.state.pause) (λ (x : ℕ × LiveRun B R). x.0 ≢ j → GoesIn e.pause x)
      (λ x goes other. goes_crossed w.header b m.state.pause e.pause e.crosses x.1.block goes) m.state.runs h))

  settles_over : (m now : Moment w) (j : ℕ) (o : Option U) → Settles w m j o now → Over m → Over now
  settles_over m now j o s h =
      follow_over s.block s.how (released_on j s.done.state.requests) _ now s.follow (RunsGoOver-ends m s.done j s.block o s.how s.ends h)

  turned_over : (count : R → ℕ) (members : w.kind.Members) (j : ℕ) (old new : Tables B C I R U) (answer : Result (Moved (Option U)) AppFault)
      → TurnsRun w count members j old new answer → RunsGoOver w.header old → RunsGoOver w.header new
  turned_over count members j old new answer t h = rw t.state
      (All-put (GoesIn old.pause) old.runs j (record t.live { run = t.turned }) h (All-at (GoesIn old.pause) old.runs j t.live t.live_is h))

  settled_over : (m now : Moment w) (j : ℕ) (answer : Result (Moved (Option U)) AppFault) → SettlesBy w m j answer now → Over m → Over now
  settled_over m now j (Ok Pending) is h = rw is h
  settled_over m now j (Ok (Done o)) settles h = settles_over m now j o settles h
  settled_over m now j (Err fault) nothing h = absurd nothing

  -- after a turn of a candidate run, and what it leads to
  pub RunsGoOver-steps : (count : R → ℕ) (m now : Moment w) (j : ℕ) → Steps w count m j now → RunsGoOver w.header m.state
      → RunsGoOver w.header now.state
  RunsGoOver-steps count m now j s h =
      settled_over (record m { state = s.running }) now j s.answer s.settles (turned_over count m.members j m.state s.running s.answer s.turns h)

  -- after a cancel
  pub RunsGoOver-cancels : (old new : Tables B C I R U) (t : ℕ) (marks : List (Mark B)) → Cancels old new t marks → RunsGoOver w.header old
      → RunsGoOver w.header new
  RunsGoOver-cancels old new t marks (idle r there is_idle state made) h = rw state h
  RunsGoOver-cancels old new t marks (withdraws r fetch fetches state made) h = rw state h
  RunsGoOver-cancels old new t marks (leaves r j path there phase others state made) h = rw state h
  RunsGoOver-cancels old new t marks (ends r j path there phase alone state made) h = rw state
      (All-without (GoesIn old.pause) old.runs j
      (All-weaker (GoesIn old.pause) (λ (x : ℕ × LiveRun B R). x.0 ≢ j → GoesIn old.pause x) (λ x goes other. goes) old.runs h))
  RunsGoOver-cancels old new t marks (unqueued out state made) h = rw state h

  -- it is so where the run of the finalized block begins, for which no candidate run is awaited
  pub RunsGoOver-begins : (b : Named B) (m : w.kind.Members) (ids now : w.Ids) (old new : Tables B C I R U) (front : Option (Front B R U H))
      (boundary : Boundary) → old.pause ≡ Finalizing boundary → AwaitsRuns w.header old 0
      → RunsFinal w b m ids now old new front → RunsGoOver w.header new
  RunsGoOver-begins b m ids now old new front boundary pause_is awaits r =
      rw r.state (subst (λ (x : Pause). All (λ (e : ℕ × LiveRun B R). GoesOn w.header x e.1.block) old.runs) (sym pause_is)
      (none_awaited w.header old boundary pause_is awaits))
