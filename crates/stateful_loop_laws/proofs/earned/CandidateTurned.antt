-- Execution stays placed as it is after a turn of a candidate run, and true verdicts that follow its end are earned.
use Rattle.std.proofs.Common.{All, ◌≡◌, inl, inr, ℕ, [], ◌∷◌, Contains, Option, Some, Result, Ok, Err, MatchOption, sym, ap, ◌∙◌, subst}
use Rattle.stateful_base.specs.Names.{Named}
use Rattle.stateful_base.specs.Anchor.{anchor_by}
use Rattle.stateful_base.specs.declared.anchor.Anchor.{Anchor}
use Rattle.stateful_base.specs.declared.digest.Digest.{Digest}
use Rattle.stateful_base.specs.declared.outcome.Moved.{Moved}
use Rattle.stateful_base.specs.declared.outcome.Moved.TheVariants.{Pending, Done}
use Rattle.stateful_db.specs.Laws.{Laws}
use Rattle.stateful_db.specs.declared.application.AppFault.{AppFault}
use Rattle.stateful_history.specs.Anchors.{tip_of}
use Rattle.stateful_history.specs.Met.{TrueNames}
use Rattle.stateful_history.specs.Past.{Past, Came, Made, after}
use Rattle.stateful_history.specs.declared.event.Event.TheVariants.{Turn}
use Rattle.stateful_history.specs.declared.mark.Mark.TheVariants.{Ended}
use Rattle.stateful_exec_pause.specs.Fates.{Crosses}
use Rattle.stateful_exec_model.specs.Ending.{TurnsRun, Settles, SettlesBy, Steps}
use Rattle.stateful_exec_model.specs.Moments.{Moment}
use Rattle.stateful_exec_tables.specs.Phase.{released_on}
use Rattle.stateful_exec_model.specs.Workings.{Workings, Point}
use Rattle.stateful_exec_model.specs.declared.building.Building.{Building}
use Rattle.stateful_exec_model.specs.declared.front.Front.{Front}
use Rattle.stateful_exec_pause.specs.declared.pause.Pause.{Pause}
use Rattle.stateful_exec_pause.specs.declared.pause.Pause.TheVariants.{Free, Finalizing}
use Rattle.stateful_exec_tables.specs.declared.state.Tables.{Tables}
use Rattle.stateful_exec_tables.specs.declared.tables.Released.{Released}
use Rattle.stateful_exec_laws.specs.Ground.{IsFolded}
use Rattle.stateful_exec_laws.specs.Requesting.{steps}
use Rattle.stateful_exec_laws.specs.Setting.{setting}
use Rattle.stateful_exec_laws.specs.Standing.{TablesStand}
use Rattle.stateful_exec_laws.specs.Ways.{KeepOff}
use Rattle.stateful_exec_laws.proofs.earned.Marks.{EarnsBehind}
use Rattle.stateful_exec_laws.proofs.earned.Together.{EarnsBehind-same}
use Rattle.stateful_exec_laws.proofs.ended.Kept.{IsRoundOf}
use Rattle.stateful_exec_laws.proofs.ended.Rule.{GoesOn, IsReleased, plain_stays, IsReleasedFrom-plain, IsReleasedFrom-over}
use Rattle.stateful_exec_laws.proofs.ended.Told.{IsPlain}
use Rattle.stateful_exec_laws.proofs.front.MovedStands.{HasMoved-ended, IsReleasedFrom-moved}
use Rattle.stateful_exec_laws.proofs.pauses.Steps.{IsPaused-steps}
use Rattle.stateful_exec_laws.proofs.reasons.Ground.{round_of_top}
use Rattle.stateful_exec_laws.proofs.requests.StepsStand.{IsPaused, plain, goes, has_moved}
use Rattle.stateful_loop_laws.specs.Execution.{IsFree, IsPausedFor, HasMovedOn}
use Rattle.stateful_loop_laws.proofs.earned.CandidateStands.{StandsStepped}
use Rattle.stateful_loop_laws.proofs.earned.Turned.{EarnsBehind-settled}
use Rattle.stateful_loop_laws.proofs.duly.JobMarks.{IsGrown-turn}
use Rattle.stateful_loop_laws.proofs.execution.FetchesNone.{FetchesNone-steps}
use Rattle.stateful_loop_laws.proofs.execution.LetGo.{IsLetGo, let-go-free, let-go-over, let-go-moved}
use Rattle.stateful_loop_laws.proofs.places.PlacedBehind.{IsGrown, tip_apart, round_of_block, IsFree-behind, IsPausedFor-behind, HasMovedOn-behind}
use Rattle.stateful_loop_laws.proofs.execution.StepsLeave.{pause-steps}

module _ {B C I P R D H G U : Type 0} (w : Workings B C I P R D H G U) (laws : Laws w.kind) (stored : ℕ → Option (Named B)) (base : w.States)
    (p : Past B C I) (points : Digest → Point w) (point : Point w) (m now : Moment w)
    (s : TablesStand w stored p points point m.next m.state) (located : w.kind.point m.members ≡ Some point)
    (drawn : w.kind.issued m.next (point ∷ [])) (count : R → ℕ) (j : ℕ) (turn : Steps w count m j now)
    (off : All (λ (r : Released B C I). KeepOff m.state.anchor (steps r.path)) (released_on j m.state.requests)) where
  abbrev given : Past B C I
  given = Came (Turn j) ∷ p

  -- each mark keeps the rule, where the end of the run lets go what waited for it
  earned_by : ((o : Option U) (running : Tables B C I R U) → TurnsRun w count m.members j m.state running (Ok (Done o))
      → (settles : Settles w (record m { state = running }) j o now) → IsLetGo w stored base p point m j settles.block settles.how settles.done)
      → EarnsBehind w stored base given m now
  earned_by lets = go turn.running turn.answer turn.turns turn.settles
    where
      go : (running : Tables B C I R U) (answer : Result (Moved (Option U)) AppFault) → TurnsRun w count m.members j m.state running answer
          → SettlesBy w (record m { state = running }) j answer now → EarnsBehind w stored base (Came (Turn j) ∷ p) m now
      go running (Ok Pending) turns is = EarnsBehind-same w stored base (Came (Turn j) ∷ p) m now (ap (λ (n : Moment w). n.marks) is)
      go running (Ok (Done o)) turns settles =
          let l : IsLetGo w stored base p point m j settles.block settles.how settles.done = lets o running turns settles in
          EarnsBehind-settled w stored base p point m l.names located drawn l.tip l.folded l.round laws.ids.issued_other j settles.block settles.how _
          settles.done settles.ends.becomes
          (ap (λ (v : Tables B C I R U). v.anchor) turns.state) l.released l.free_way
          (subst (λ (n : Moment w). All (λ (r : Released B C I). KeepOff n.state.anchor (steps r.path)) (released_on j n.state.requests))
          (sym settles.ends.becomes)
          (subst (λ (v : Tables B C I R U). All (λ (r : Released B C I). KeepOff v.anchor (steps r.path)) (released_on j v.requests))
          (sym turns.state) off))
          now settles.follow
      go running (Err fault) turns settles = absurd settles

  -- What stands after the turn, where execution is placed so before it: it is so placed again, and each mark keeps the rule.
  pub record IsTurned (IsThere : Past B C I → (Digest → Point w) → w.Ids → Tables B C I R U → Type 0) : Type 0 where
    pub names : TrueNames (setting w stored) p
    pub round : IsRoundOf w stored p m.state.anchor
    pub paused : IsPaused w stored p m
    pub there : (build : Option (Building B C D)) (front : Option (Front B R U H))
        (st : StandsStepped w laws stored p points point m now j build front) → TrueNames (setting w stored) (after (Came (Turn j) ∷ p) st.more)
        → IsThere (after (Came (Turn j) ∷ p) st.more) st.then now.next now.state
    pub earned : EarnsBehind w stored base (Came (Turn j) ∷ p) m now

  -- where nothing pauses
  module _ (f : IsFree w stored base p points point m.next m.state) where
    round_free : IsRoundOf w stored p m.state.anchor
    round_free = round_of_top w stored base p points point m.next m.state.anchor Free m.state.anchor m.state.cache f.ground

    free_so : IsPaused w stored p m
    free_so = plain (subst (λ (x : Pause). IsPlain x) (sym f.pause_is) tt) f.ground.folded.tip_is

    IsFree-stepped : (build : Option (Building B C D)) (front : Option (Front B R U H))
        (st : StandsStepped w laws stored p points point m now j build front)
        → TrueNames (setting w stored) (after given st.more) → IsFree w stored base (after given st.more) st.then point now.next now.state
    IsFree-stepped build front st names =
        IsFree-behind w stored base p (after given st.more) point
        (IsGrown-turn w stored base p point st.more st.mild j names) points st.then m.next now.next m.state now.state st.tables st.anchor
        (pause-steps w count m now j (λ (x : Pause). x ≡ Free)
        (λ b new crosses. plain_stays w.header b m.state.pause new (subst (λ (x : Pause). IsPlain x)
        (sym f.pause_is) tt) crosses ∙ f.pause_is) f.pause_is turn) f

    EarnsBehind-free : EarnsBehind w stored base given m now
    EarnsBehind-free = earned_by (λ o running turns settles.
        let-go-free w stored base p point m j settles.block settles.how settles.done points s located count o running turns settles.ends f)

    -- execution is free of a pause still
    pub turned_free : IsTurned (λ q then ids v. IsFree w stored base q then point ids v)
    turned_free = record { names = f.ground.names; round = round_free; paused = free_so; there = IsFree-stepped; earned = EarnsBehind-free }

  -- where a finalization goes on
  module _ (b : Named B) (f : IsPausedFor w stored base p points point m.next m.state b) where
    round_over : IsRoundOf w stored p m.state.anchor
    round_over =
        round_of_block w stored p m.state.anchor m.state.cache (anchor_by w.header b) f.boundary f.ground.names f.ground.top

    over : GoesOn w stored p m
    over = record { boundary = f.boundary; pause_is = f.pause_is; goes_on = f.finalizes }

    over_so : IsPaused w stored p m
    over_so = goes over

    IsPausedFor-stepped : (build : Option (Building B C D)) (front : Option (Front B R U H))
        (st : StandsStepped w laws stored p points point m now j build front)
        → TrueNames (setting w stored) (after given st.more) → IsPausedFor w stored base (after given st.more) st.then point now.next now.state b
    IsPausedFor-stepped build front st names =
        by (IsPaused-steps w stored p points point m s f.ground.names round_over located count j now over_so turn st.more st.marks_are)
      where
        grown : IsGrown w stored base p (after (Came (Turn j) ∷ p) st.more) point
        grown = IsGrown-turn w stored base p point st.more st.mild j names

        no_tip : tip_of w.header (after (Came (Turn j) ∷ p) st.more) ≡ Some now.state.anchor → ⊥
        no_tip is =
            let two : Some (anchor_by w.header b) ≡ Some now.state.anchor =
            sym (grown.folded m.state.anchor (anchor_by w.header b) f.ground.folded).tip_is ∙ is in
            let same : anchor_by w.header b ≡ now.state.anchor = search in
            tip_apart w stored p m.state.anchor m.state.cache (anchor_by w.header b) f.boundary f.finalizes f.ground.folded.tip_is (same ∙ st.anchor)

        by : IsPaused w stored (after (Came (Turn j) ∷ p) st.more) now
            → IsPausedFor w stored base (after (Came (Turn j) ∷ p) st.more) st.then point now.next now.state b
        by (plain free tip) = absurd (no_tip tip)
        by (goes g) =
            IsPausedFor-behind w stored base p
            (after (Came (Turn j) ∷ p) st.more) point grown points st.then m.next now.next m.state now.state st.tables st.anchor b
            g.boundary g.pause_is g.goes_on
            (FetchesNone-steps w count m now j turn f.settled) f
        by (has_moved h tip) = absurd (no_tip tip)

    EarnsBehind-over : EarnsBehind w stored base given m now
    EarnsBehind-over = earned_by (λ o running turns settles.
        let-go-over w stored base p point m j settles.block settles.how settles.done points s located count o running turns settles.ends b f)

    -- it is paused for the finalization still
    pub turned_over : IsTurned (λ q then ids v. IsPausedFor w stored base q then point ids v b)
    turned_over = record { names = f.ground.names; round = round_over; paused = over_so; there = IsPausedFor-stepped; earned = EarnsBehind-over }

  -- where the block of the finalization is the anchor
  module _ (f : HasMovedOn w stored base p points point m.next m.state) where
    round_moved : IsRoundOf w stored p m.state.anchor
    round_moved = round_of_top w stored base p points point m.next m.state.anchor Free m.state.anchor m.state.cache f.ground

    moved_so : IsPaused w stored p m
    moved_so = has_moved f.moved f.ground.folded.tip_is

    HasMovedOn-stepped : (build : Option (Building B C D)) (front : Option (Front B R U H))
        (st : StandsStepped w laws stored p points point m now j build front)
        → TrueNames (setting w stored) (after given st.more) → HasMovedOn w stored base (after given st.more) st.then point now.next now.state
    HasMovedOn-stepped build front st names =
        by (IsPaused-steps w stored p points point m s f.ground.names round_moved located count j now moved_so turn st.more st.marks_are)
      where
        grown : IsGrown w stored base p (after (Came (Turn j) ∷ p) st.more) point
        grown = IsGrown-turn w stored base p point st.more st.mild j names

        -- execution isn't free of the pause before its end
        crossed : (b : Named B) (old new : Pause) → old ≡ Finalizing f.moved.boundary → Crosses w.header b old new → IsPlain new → ⊥
        crossed b (Finalizing x) (Finalizing y) is crosses free = free
        crossed b (Finalizing x) new is crosses free = absurd crosses
        crossed b old new is crosses free = cc

        not_plain : IsPlain now.state.pause → ⊥
        not_plain =
            pause-steps w count m now j (λ (x : Pause). IsPlain x → ⊥) (λ b new crosses. crossed b m.state.pause new f.moved.pause_is crosses)
            (λ free. subst (λ (x : Pause). IsPlain x) f.moved.pause_is free) turn

        not_over : GoesOn w stored (after (Came (Turn j) ∷ p) st.more) now → ⊥
        not_over g =
            let tip : tip_of w.header (after (Came (Turn j) ∷ p) st.more) ≡ Some m.state.anchor =
            (grown.folded m.state.anchor m.state.anchor f.ground.folded).tip_is in
            let tip_is : (m.state.anchor.digest ≡ g.boundary.digest) × (m.state.anchor.round ≡ g.boundary.round) =
            subst (λ (o : Option Anchor). MatchOption o ⊥ (λ t. (t.digest ≡ g.boundary.digest) × (t.round ≡ g.boundary.round))) tip g.goes_on.tip in
            g.goes_on.other
            (subst (λ (d : Digest). Contains g.boundary.compatible d) (sym tip_is.0 ∙ ap (λ (a : Anchor). a.digest) (sym st.anchor)) g.goes_on.own)

        by : IsPaused w stored (after (Came (Turn j) ∷ p) st.more) now
            → HasMovedOn w stored base (after (Came (Turn j) ∷ p) st.more) st.then point now.next now.state
        by (plain free tip) = absurd (not_plain free)
        by (goes g) = absurd (not_over g)
        by (has_moved h tip) =
            HasMovedOn-behind w stored base p
            (after (Came (Turn j) ∷ p) st.more) point grown points st.then m.next now.next m.state now.state st.tables st.anchor h
            (FetchesNone-steps w count m now j turn f.settled) f

    EarnsBehind-moved : EarnsBehind w stored base given m now
    EarnsBehind-moved = earned_by (λ o running turns settles.
        let-go-moved w stored base p point m j settles.block settles.how settles.done points s located count o running turns settles.ends f)

    -- it has moved on to the finalized block still
    pub turned_moved : IsTurned (λ q then ids v. HasMovedOn w stored base q then point ids v)
    turned_moved = record {
      names = f.ground.names;
      round = round_moved;
      paused = moved_so;
      there = HasMovedOn-stepped;
      earned = EarnsBehind-moved;
    }
