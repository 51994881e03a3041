-- False verdicts and declines have their reasons: those after the end of a run once the anchor has moved on.
use Rattle.std.proofs.Common.{◌≡◌, ℕ, List, [], ◌∷◌, Option, Some, Ok, ◌∙◌, subst}
use Rattle.std.proofs.lemmas.List.{append_assoc}
use Rattle.stateful_base.specs.Names.{Named}
use Rattle.stateful_base.specs.declared.anchor.Anchor.{Anchor}
use Rattle.stateful_base.specs.declared.digest.Digest.{Digest}
use Rattle.stateful_base.specs.declared.outcome.Moved.TheVariants.{Done}
use Rattle.stateful_db.specs.Laws.{Laws}
use Rattle.stateful_history.specs.Past.{Past, Came}
use Rattle.stateful_history.specs.declared.event.Event.{Event}
use Rattle.stateful_history.specs.declared.event.Event.TheVariants.{Turn}
use Rattle.stateful_history.specs.declared.mark.How.{How}
use Rattle.stateful_history.specs.declared.mark.Mark.{Mark}
use Rattle.stateful_history.specs.declared.mark.Mark.TheVariants.{Ended}
use Rattle.stateful_table.specs.Table.{put}
use Rattle.stateful_exec_tables.specs.Tables.{released}
use Rattle.stateful_exec_model.specs.Ending.{EndsRun, TurnsRun, InTurn, Follows}
use Rattle.stateful_exec_model.specs.Moments.{Moment}
use Rattle.stateful_exec_tables.specs.Phase.{released_on}
use Rattle.stateful_exec_model.specs.Workings.{Workings, Point}
use Rattle.stateful_exec_pause.specs.declared.pause.Pause.TheVariants.{Free}
use Rattle.stateful_exec_tables.specs.declared.state.Tables.{Tables}
use Rattle.stateful_exec_laws.specs.Standing.{TablesStand}
use Rattle.stateful_exec_laws.specs.Ways.{WaysStand}
use Rattle.stateful_exec_laws.proofs.requests.KeptMarks.{KeepsBehind}
use Rattle.stateful_exec_laws.proofs.front.MovedStands.{HasMoved-ended, IsReleasedFrom-moved}
use Rattle.stateful_exec_laws.proofs.reasons.Followed.{HasWaited}
use Rattle.stateful_exec_laws.proofs.reasons.Ground.{round_of_top}
use Rattle.stateful_exec_laws.proofs.reasons.Marks.{HasItsReason}
use Rattle.stateful_loop_laws.specs.Execution.{HasMovedOn}
use Rattle.stateful_loop_laws.proofs.reasons.FollowsMoved.{follow-moved}
use Rattle.stateful_loop_laws.proofs.reasons.Moved.{follows-moved}

module _ {B C I P R D H G U : Type 0} (w : Workings B C I P R D H G U) (laws : Laws w.kind) (stored : ℕ → Option (Named B)) (base : w.States)
    (event : Event B C I) (marks : List (Mark B)) (p : Past B C I) (points : Digest → Point w) (point : Point w) (m : Moment w)
    (s : TablesStand w stored p points point m.next m.state) (located : w.kind.point m.members ≡ Some point)
    (drawn : w.kind.issued m.next (point ∷ [])) (f : HasMovedOn w stored base p points point m.next m.state)
    (ways : WaysStand w stored p m.state.anchor m.state) (j : ℕ) (b : Named B) (o : Option U) (how : How) where
  abbrev Kept : Past B C I → Mark B → Type 0
  Kept = HasItsReason w stored base event marks

  -- Each mark after the last turn of a run keeps the rule, once the anchor has moved on.
  pub settled-moved : (count : R → ℕ) (running : Tables B C I R U) → TurnsRun w count m.members j m.state running (Ok (Done o))
      → (done last : Moment w) → EndsRun w (record m { state = running }) j b o how done
      → InTurn (Follows w b how) (released_on j done.state.requests) (record done { state = released j done.state }) last
      → KeepsBehind w Kept (Came (Turn j) ∷ p) m last
  settled-moved count running turns done last ends follow =
      let e : EndsRun w (record m
      { state = record m.state { runs = put m.state.runs j (record turns.live { run = turns.turned }) } }) j b o how done =
      subst (λ (t : Tables B C I R U). EndsRun w (record m { state = t }) j b o how done) turns.state ends in
      let round = round_of_top w stored base p points point m.next m.state.anchor Free m.state.anchor m.state.cache f.ground in
      let k = follow-moved w laws stored base p points point m s located drawn f ways j b o how turns.live turns.live_is turns.turned turns.turns done e
      (λ r. Unit {0}) (λ k d l. tt) (λ q n. Unit {0}) tt Kept
      (λ on q n now r at tip_is hand waited stays rule. follows-moved w stored base event marks q on point n at.moved at.free.ground b how r hand.asked
      (subst (λ (x : Anchor). HasWaited w stored base x b how q n.state.pause n.state.anchor n.state.cache r) tip_is waited) now rule)
      (λ on q n now r more is at waited besides names rule stays. tt) last
      (IsReleasedFrom-moved w stored p point m j b o how done points s located f.ground.names round f.ground.folded.tip_is f.moved count running turns
      ends).released
      (HasMoved-ended w stored p point m j b o how done points s located f.ground.names round f.ground.folded.tip_is f.moved count running turns ends)
      follow in
      record {
        more = Ended j how ∷ k.more;
        marks_are = k.marks_are ∙ append_assoc m.marks (Ended j how ∷ []) k.more;
        each = ((tt, tt), k.each);
      }
