-- False verdicts and declines have their reasons: those after a turn of a candidate run.
use Rattle.std.proofs.Common.{◌≡◌, ℕ, ◌∷◌, List, Option, Some, None, Result, Ok, Err, refl, sym, ap, subst}
use Rattle.stateful_base.specs.Names.{Named}
use Rattle.stateful_base.specs.Anchor.{anchor_by}
use Rattle.stateful_base.specs.declared.anchor.Anchor.{Anchor}
use Rattle.stateful_base.specs.declared.outcome.Moved.{Moved}
use Rattle.stateful_base.specs.declared.outcome.Moved.TheVariants.{Pending, Done}
use Rattle.stateful_db.specs.Laws.{Laws}
use Rattle.stateful_db.specs.declared.application.AppFault.{AppFault}
use Rattle.stateful_history.specs.Finalizations.{finalized_since}
use Rattle.stateful_history.specs.Past.{Past, Came}
use Rattle.stateful_history.specs.declared.event.Event.{Event}
use Rattle.stateful_history.specs.declared.event.Event.TheVariants.{Turn}
use Rattle.stateful_history.specs.declared.mark.Mark.{Mark}
use Rattle.stateful_exec_model.specs.Ending.{TurnsRun, Settles, SettlesBy, Steps}
use Rattle.stateful_exec_model.specs.Finalizing.{front_at}
use Rattle.stateful_exec_model.specs.Moments as exec
use Rattle.stateful_exec_model.specs.Workings.{Workings}
use Rattle.stateful_exec_model.specs.declared.front.Front.{Front}
use Rattle.stateful_exec_model.specs.declared.front.Stage.{Stage}
use Rattle.stateful_exec_model.specs.declared.front.Stage.TheVariants.{Begun, Running, Ran, Advanced, Hooking}
use Rattle.stateful_exec_pause.specs.declared.pause.Pause.{Pause}
use Rattle.stateful_exec_pause.specs.declared.pause.Pause.TheVariants.{Free}
use Rattle.stateful_exec_tables.specs.declared.state.Tables.{Tables}
use Rattle.stateful_exec_laws.specs.Setting.{setting}
use Rattle.stateful_exec_laws.proofs.ended.Rule.{IsReleasedFrom-plain, IsReleasedFrom-over}
use Rattle.stateful_exec_laws.proofs.ended.Rule as ended
use Rattle.stateful_exec_laws.proofs.ended.Told.{IsPlain}
use Rattle.stateful_exec_laws.proofs.requests.KeptMarks.{KeepsBehind, KeepsBehind-same}
use Rattle.stateful_exec_laws.proofs.reasons.Ground.{IsGround, round_of_top}
use Rattle.stateful_exec_laws.proofs.reasons.Turned.{settled-reason}
use Rattle.stateful_loop_model.specs.Moments.{Moment, inner}
use Rattle.stateful_loop_laws.specs.Execution.{IsFree, IsPausedFor, HasMovedOn, IsPlacedAt, IsPlaced, Executes}
use Rattle.stateful_loop_laws.specs.Reasons.{HasItsReason}
use Rattle.stateful_loop_laws.specs.Rounds.{RoundsRise}
use Rattle.stateful_loop_laws.specs.Ways.{WaysKept}
use Rattle.stateful_loop_laws.proofs.reasons.GroundPaused.{IsGround-paused}
use Rattle.stateful_loop_laws.proofs.reasons.Settled.{settled-moved}
use Rattle.stateful_loop_laws.proofs.reasons.RoundsLater.{later-finalized}
use Rattle.stateful_loop_laws.proofs.ways.Beside.{WaysStand-tip}

module _ {B C I P R D H G U : Type 0} (w : Workings B C I P R D H G U) (laws : Laws w.kind) (stored : ℕ → Option (Named B)) (base : w.States)
    (event : Event B C I) (marks : List (Mark B)) (p : Past B C I) (m : Moment w) (e : Executes w stored base p m)
    (kept : WaysKept w stored p m.execution.state) (rise : RoundsRise (setting w stored) p) (j : ℕ) where
  abbrev v : Tables B C I R U
  v = m.execution.state

  abbrev Rule : Past B C I → Mark B → Type 0
  Rule = HasItsReason w stored base event marks

  abbrev Behind : exec.Moment w → Type 0
  Behind now = KeepsBehind w Rule (Came (Turn j) ∷ p) (inner w m) now

  module _ (count : R → ℕ) (now : exec.Moment w) (turn : Steps w count (inner w m) j now) where
    -- where each end of a run keeps the rule
    by_answer : ((o : Option U) (running : Tables B C I R U) → TurnsRun w count m.members j v running (Ok (Done o))
        → Settles w (record (inner w m) { state = running }) j o now → Behind now) → Behind now
    by_answer settled = go turn.running turn.answer turn.turns turn.settles
      where
        go : (running : Tables B C I R U) (answer : Result (Moved (Option U)) AppFault) → TurnsRun w count m.members j v running answer
            → SettlesBy w (record (inner w m) { state = running }) j answer now → Behind now
        go running (Ok Pending) turns is = KeepsBehind-same w Rule (Came (Turn j) ∷ p) (inner w m) now (ap (λ (n : exec.Moment w). n.marks) is)
        go running (Ok (Done o)) turns settles = settled o running turns settles
        go running (Err fault) turns settles = absurd settles

    -- where nothing pauses
    turned_free : IsFree w stored base p e.points e.point m.next v → Behind now
    turned_free f = by_answer (λ o running turns settles.
        settled-reason w stored base p e.points e.point v.anchor (inner w m) e.tables
        (subst (λ (x : Pause). IsGround w stored base p e.points e.point m.next v.anchor x v.anchor v.cache) (sym f.pause_is) f.ground)
        (WaysStand-tip w stored p v v.anchor f.ground.folded.tip_is kept) e.located e.drawn j settles.block o settles.how event marks
        laws.ids.issued_other count running turns settles.done now settles.ends
        (IsReleasedFrom-plain w stored p e.point (inner w m) j settles.block o settles.how settles.done e.points e.tables e.located f.ground.names
        (round_of_top w stored base p e.points e.point m.next v.anchor Free v.anchor v.cache f.ground)
        (subst (λ (x : Pause). IsPlain x) (sym f.pause_is) tt) f.ground.folded.tip_is count running turns settles.ends).released
        settles.follow)

    -- where a finalization goes on, whose block came as finalized
    turned_over : (b : Named B) (t : ℕ) → finalized_since t p ≡ Some b → IsPausedFor w stored base p e.points e.point m.next v b → Behind now
    turned_over b t came f =
        let tip : Anchor = anchor_by w.header b in
        let ground : IsGround w stored base p e.points e.point m.next tip v.pause v.anchor v.cache =
        subst (λ (x : Pause). IsGround w stored base p e.points e.point m.next tip x v.anchor v.cache) (sym f.pause_is)
        (IsGround-paused w stored base p e.points e.point m.next v b f
        (later-finalized w stored p rise v.anchor f.ground.top t b came f.ground.child.1)) in
        let over : ended.GoesOn w stored p (inner w m) = record { boundary = f.boundary; pause_is = f.pause_is; goes_on = f.finalizes } in
        by_answer (λ o running turns settles.
        settled-reason w stored base p e.points e.point tip (inner w m) e.tables ground
        (WaysStand-tip w stored p v tip f.ground.folded.tip_is kept) e.located e.drawn j settles.block o settles.how event marks
        laws.ids.issued_other count running turns settles.done now settles.ends
        (IsReleasedFrom-over w stored p e.point (inner w m) j settles.block o settles.how settles.done e.points e.tables e.located f.ground.names
        (round_of_top w stored base p e.points e.point m.next tip v.pause v.anchor v.cache ground)
        over count running turns settles.ends).0.released
        settles.follow)

    -- where the finalized block is the anchor
    turned_moved : HasMovedOn w stored base p e.points e.point m.next v → Behind now
    turned_moved f = by_answer (λ o running turns settles.
        settled-moved w laws stored base event marks p e.points e.point (inner w m) e.tables e.located e.drawn f
        (WaysStand-tip w stored p v v.anchor f.ground.folded.tip_is kept) j settles.block o settles.how count running turns settles.done now
        settles.ends settles.follow)

    -- Each mark after a turn of a candidate run keeps the rule, where the block of the finalization that goes on came as finalized.
    pub turned-reasons : ((b : Named B) (stage : Stage R U H) → m.execution.front ≡ front_at b stage → (t : ℕ) × (finalized_since t p ≡ Some b))
        → Behind now
    turned-reasons came = go m.execution.front refl e.placed
      where
        at_stage : (b : Named B) (stage : Stage R U H) → (t : ℕ) × (finalized_since t p ≡ Some b)
            → IsPlacedAt w stored base p e.points e.point m.next v b stage → Behind now
        at_stage b Begun c h = turned_over b c.0 c.1 h
        at_stage b (Running k run) c h = turned_over b c.0 c.1 h.paused
        at_stage b (Ran batch) c h = turned_over b c.0 c.1 h.paused
        at_stage b Advanced c h = turned_moved h
        at_stage b (Hooking k hook) c h = turned_moved h

        go : (front : Option (Front B R U H)) → m.execution.front ≡ front → IsPlaced w stored base p e.points e.point m.next v front → Behind now
        go None is h = turned_free h
        go (Some f) is h = at_stage f.block f.stage (came f.block f.stage is) h
