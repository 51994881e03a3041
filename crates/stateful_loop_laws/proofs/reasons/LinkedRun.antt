-- What was gathered stays linked, and the parents of queued proposals known or lost, after a turn of a candidate run.
use Rattle.std.proofs.Common.{◌≡◌, ℕ, inl, inr, [], ◌∷◌, Option, Some, None, Result, Ok, Err, refl, sym, subst}
use Rattle.std.proofs.lemmas.List.{append-nil}
use Rattle.stateful_base.specs.Names.{Named}
use Rattle.stateful_base.specs.Anchor.{anchor_by}
use Rattle.stateful_base.specs.declared.anchor.Anchor.{Anchor}
use Rattle.stateful_base.specs.declared.outcome.Moved.{Moved}
use Rattle.stateful_base.specs.declared.outcome.Moved.TheVariants.{Pending, Done}
use Rattle.stateful_db.specs.Laws.{Laws}
use Rattle.stateful_db.specs.declared.application.AppFault.{AppFault}
use Rattle.stateful_history.specs.Finalizations.{finalized_since}
use Rattle.stateful_history.specs.Honest.{IsHonest, IsAnswered}
use Rattle.stateful_history.specs.Met.{TrueNames}
use Rattle.stateful_history.specs.Past.{Past, Came}
use Rattle.stateful_history.specs.declared.event.Event.TheVariants.{Turn}
use Rattle.stateful_exec_model.specs.Ending.{TurnsRun, Settles, SettlesBy, Steps}
use Rattle.stateful_exec_model.specs.Finalizing.{front_at}
use Rattle.stateful_exec_model.specs.Moments as exec
use Rattle.stateful_exec_model.specs.Workings.{Workings}
use Rattle.stateful_exec_model.specs.declared.front.Front.{Front}
use Rattle.stateful_exec_model.specs.declared.front.Stage.{Stage}
use Rattle.stateful_exec_model.specs.declared.front.Stage.TheVariants.{Begun, Running, Ran, Advanced, Hooking}
use Rattle.stateful_exec_pause.specs.declared.pause.Pause.{Pause}
use Rattle.stateful_exec_pause.specs.declared.pause.Pause.TheVariants.{Free}
use Rattle.stateful_exec_tables.specs.declared.state.Tables.{Tables}
use Rattle.stateful_exec_laws.specs.Setting.{setting}
use Rattle.stateful_exec_laws.proofs.ended.Rule.{IsReleasedFrom-plain, IsReleasedFrom-over}
use Rattle.stateful_exec_laws.proofs.ended.Rule as ended
use Rattle.stateful_exec_laws.proofs.ended.Told.{IsPlain}
use Rattle.stateful_exec_laws.proofs.linked.On.{StaysLinked, StaysLinked-on}
use Rattle.stateful_exec_laws.proofs.linked.Turned.{LinkedBehind, StaysLinked-settled}
use Rattle.stateful_exec_laws.proofs.linked.QueueServed.{queue-met}
use Rattle.stateful_exec_laws.proofs.reasons.Ground.{IsGround, round_of_top}
use Rattle.stateful_loop_model.specs.Moments.{Moment, inner}
use Rattle.stateful_loop_laws.specs.Execution.{IsFree, IsPausedFor, HasMovedOn, IsPlacedAt, IsPlaced, Executes}
use Rattle.stateful_loop_laws.specs.Rounds.{RoundsRise}
use Rattle.stateful_loop_laws.specs.Ways.{WaysKept}
use Rattle.stateful_loop_laws.proofs.execution.Kept.{Executes-names}
use Rattle.stateful_loop_laws.proofs.reasons.GroundPaused.{IsGround-paused}
use Rattle.stateful_loop_laws.proofs.reasons.LinkedMoved.{StaysLinked-moved}
use Rattle.stateful_loop_laws.proofs.reasons.RoundsLater.{later-finalized}
use Rattle.stateful_loop_laws.proofs.ways.Beside.{WaysStand-tip}

module _ {B C I P R D H G U : Type 0} (w : Workings B C I P R D H G U) (laws : Laws w.kind) (stored : ℕ → Option (Named B)) (base : w.States)
    (p : Past B C I) (m : Moment w) (e : Executes w stored base p m) (kept : WaysKept w stored p m.execution.state)
    (rise : RoundsRise (setting w stored) p) (honest : IsHonest (setting w stored) p) (answered : IsAnswered p)
    (h : StaysLinked w stored base p m.execution.state) (j : ℕ) where
  abbrev v : Tables B C I R U
  v = m.execution.state

  abbrev Behind : exec.Moment w → Type 0
  Behind now = LinkedBehind w stored base (Came (Turn j) ∷ p) (inner w m) now

  came_names : TrueNames (setting w stored) (Came (Turn j) ∷ p)
  came_names x y has_x has_y = Executes-names w stored base p m e x y
      (elim has_x [ inl none ↦ absurd none | inr one ↦ one ]) (elim has_y [ inl none ↦ absurd none | inr one ↦ one ])

  -- where no run ends, it is so too
  pub StaysLinked-turn : StaysLinked w stored base (Came (Turn j) ∷ p) v
  StaysLinked-turn = StaysLinked-on w stored base p (Came (Turn j)) tt came_names v (queue-met w stored p v.queued v.recovered e.tables.queue) h

  module _ (count : R → ℕ) (now : exec.Moment w) (turn : Steps w count (inner w m) j now) where
    -- where it is so after each end of a run
    by_answer : ((o : Option U) (running : Tables B C I R U) → TurnsRun w count m.members j v running (Ok (Done o))
        → Settles w (record (inner w m) { state = running }) j o now → Behind now) → Behind now
    by_answer settled = go turn.running turn.answer turn.turns turn.settles
      where
        go : (running : Tables B C I R U) (answer : Result (Moved (Option U)) AppFault) → TurnsRun w count m.members j v running answer
            → SettlesBy w (record (inner w m) { state = running }) j answer now → Behind now
        go running (Ok Pending) turns is = rw (is, turns.state) (record {
          more = [];
          marks_are = sym (append-nil m.marks);
          stays = record { gatherings = StaysLinked-turn.gatherings; reaches = StaysLinked-turn.reaches };
        })
        go running (Ok (Done o)) turns settles = settled o running turns settles
        go running (Err fault) turns settles = absurd settles

    -- where nothing pauses
    turned_free : IsFree w stored base p e.points e.point m.next v → Behind now
    turned_free f = by_answer (λ o running turns settles.
        StaysLinked-settled w stored base v.anchor laws.ids.issued_other p e.points e.point (inner w m) e.tables
        (subst (λ (x : Pause). IsGround w stored base p e.points e.point m.next v.anchor x v.anchor v.cache) (sym f.pause_is) f.ground)
        (WaysStand-tip w stored p v v.anchor f.ground.folded.tip_is kept) e.located e.drawn honest answered j settles.block o settles.how h
        count running turns settles.done now settles.ends
        (IsReleasedFrom-plain w stored p e.point (inner w m) j settles.block o settles.how settles.done e.points e.tables e.located f.ground.names
        (round_of_top w stored base p e.points e.point m.next v.anchor Free v.anchor v.cache f.ground)
        (subst (λ (x : Pause). IsPlain x) (sym f.pause_is) tt) f.ground.folded.tip_is count running turns settles.ends).released
        settles.follow)

    -- where a finalization goes on, whose block came as finalized
    turned_over : (b : Named B) (t : ℕ) → finalized_since t p ≡ Some b → IsPausedFor w stored base p e.points e.point m.next v b → Behind now
    turned_over b t came f =
        let tip : Anchor = anchor_by w.header b in
        let ground : IsGround w stored base p e.points e.point m.next tip v.pause v.anchor v.cache =
        subst (λ (x : Pause). IsGround w stored base p e.points e.point m.next tip x v.anchor v.cache) (sym f.pause_is)
        (IsGround-paused w stored base p e.points e.point m.next v b f
        (later-finalized w stored p rise v.anchor f.ground.top t b came f.ground.child.1)) in
        let over : ended.GoesOn w stored p (inner w m) = record { boundary = f.boundary; pause_is = f.pause_is; goes_on = f.finalizes } in
        by_answer (λ o running turns settles.
        StaysLinked-settled w stored base tip laws.ids.issued_other p e.points e.point (inner w m) e.tables ground
        (WaysStand-tip w stored p v tip f.ground.folded.tip_is kept) e.located e.drawn honest answered j settles.block o settles.how h
        count running turns settles.done now settles.ends
        (IsReleasedFrom-over w stored p e.point (inner w m) j settles.block o settles.how settles.done e.points e.tables e.located f.ground.names
        (round_of_top w stored base p e.points e.point m.next tip v.pause v.anchor v.cache ground)
        over count running turns settles.ends).0.released
        settles.follow)

    -- where the finalized block is the anchor
    turned_moved : HasMovedOn w stored base p e.points e.point m.next v → Behind now
    turned_moved f = by_answer (λ o running turns settles.
        StaysLinked-moved w laws stored base p e.points e.point (inner w m) e.tables e.located e.drawn f
        (WaysStand-tip w stored p v v.anchor f.ground.folded.tip_is kept) honest answered h j settles.block o settles.how count running turns
        settles.done now settles.ends settles.follow)

    -- It stays so after a turn of a candidate run, where the block of the finalization that goes on came as finalized.
    pub StaysLinked-run : ((b : Named B) (stage : Stage R U H) → m.execution.front ≡ front_at b stage → (t : ℕ) × (finalized_since t p ≡ Some b))
        → LinkedBehind w stored base (Came (Turn j) ∷ p) (inner w m) now
    StaysLinked-run came = go m.execution.front refl e.placed
      where
        at_stage : (b : Named B) (stage : Stage R U H) → (t : ℕ) × (finalized_since t p ≡ Some b)
            → IsPlacedAt w stored base p e.points e.point m.next v b stage → Behind now
        at_stage b Begun c x = turned_over b c.0 c.1 x
        at_stage b (Running k run) c x = turned_over b c.0 c.1 x.paused
        at_stage b (Ran batch) c x = turned_over b c.0 c.1 x.paused
        at_stage b Advanced c x = turned_moved x
        at_stage b (Hooking k hook) c x = turned_moved x

        go : (front : Option (Front B R U H)) → m.execution.front ≡ front → IsPlaced w stored base p e.points e.point m.next v front → Behind now
        go None is x = turned_free x
        go (Some f) is x = at_stage f.block f.stage (came f.block f.stage is) x
