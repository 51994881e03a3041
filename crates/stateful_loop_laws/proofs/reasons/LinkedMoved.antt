-- What was gathered stays linked, and the parents of queued proposals known or lost, after the end of a run once the anchor has moved on.
use Rattle.std.proofs.Common.{◌≡◌, inr, ℕ, List, [], ◌∷◌, All, Option, Some, Ok, refl, sym, ◌∙◌, subst}
use Rattle.std.proofs.lemmas.List.{append_assoc}
use Rattle.std.proofs.lemmas.List.Elements.{All-head}
use Rattle.stateful_base.specs.Names.{Named}
use Rattle.stateful_base.specs.declared.digest.Digest.{Digest}
use Rattle.stateful_base.specs.declared.outcome.Moved.TheVariants.{Done}
use Rattle.stateful_db.specs.Laws.{Laws}
use Rattle.stateful_history.specs.Honest.{IsHonest, IsAnswered}
use Rattle.stateful_history.specs.Known.{Known}
use Rattle.stateful_history.specs.Past.{Past, Came, Made, EachMark}
use Rattle.stateful_history.specs.declared.event.Event.TheVariants.{Turn}
use Rattle.stateful_history.specs.declared.mark.How.{How}
use Rattle.stateful_history.specs.declared.mark.Mark.{Mark}
use Rattle.stateful_history.specs.declared.mark.Mark.TheVariants.{Ended}
use Rattle.stateful_exec_cache.specs.Cache.{IsIn, IsAtHand}
use Rattle.stateful_table.specs.Table.{put}
use Rattle.stateful_exec_tables.specs.Tables.{released}
use Rattle.stateful_exec_model.specs.Ending.{EndsRun, TurnsRun, InTurn, Follows}
use Rattle.stateful_exec_model.specs.Moments.{Moment}
use Rattle.stateful_exec_tables.specs.Phase.{released_on}
use Rattle.stateful_exec_tables.specs.Meeting.{IsPassed, first_or}
use Rattle.stateful_exec_model.specs.Workings.{Workings, Point}
use Rattle.stateful_exec_pause.specs.declared.pause.Pause.TheVariants.{Free}
use Rattle.stateful_exec_tables.specs.declared.state.Tables.{Tables}
use Rattle.stateful_exec_tables.specs.declared.tables.Released.{Released}
use Rattle.stateful_exec_laws.specs.Gathering.{gathered, AreLinked}
use Rattle.stateful_exec_laws.specs.Requesting.{first_of, IsWayOf}
use Rattle.stateful_exec_laws.specs.Setting.{setting}
use Rattle.stateful_exec_laws.specs.Standing.{TablesStand}
use Rattle.stateful_exec_laws.specs.Ways.{WaysStand}
use Rattle.stateful_exec_laws.proofs.linked.On.{StaysLinked}
use Rattle.stateful_exec_laws.proofs.linked.Served.{StaysLinked-follows}
use Rattle.stateful_exec_laws.proofs.linked.Turned.{LinkedBehind, released-linked, StaysLinked-ended}
use Rattle.stateful_exec_laws.proofs.front.MovedStands.{HasMoved-ended, IsReleasedFrom-moved}
use Rattle.stateful_exec_laws.proofs.reasons.Ground.{IsGround, round_of_top}
use Rattle.stateful_exec_laws.proofs.requests.ServedMarks.{follows-marks}
use Rattle.stateful_loop_laws.specs.Execution.{HasMovedOn}
use Rattle.stateful_loop_laws.proofs.reasons.FollowsMoved.{follow-moved}

any_marks : {B C I : Type 0} (p : Past B C I) (ms : List (Mark B)) → EachMark (λ q mark. Unit {0}) p ms
any_marks p [] = tt
any_marks p (mark ∷ ms) = (tt, any_marks (Made mark ∷ p) ms)

module _ {B C I P R D H G U : Type 0} (w : Workings B C I P R D H G U) (stored : ℕ → Option (Named B)) (base : w.States) (p : Past B C I)
    (points : Digest → Point w) (point : Point w) (m : Moment w)
    (g : IsGround w stored base p points point m.next m.state.anchor Free m.state.anchor m.state.cache) where
  -- once the anchor has moved on what is at hand is known, and so is the first block of a request that has passed all on its way
  known-moved : (b : Named B) (x : Released B C I) → IsWayOf w stored p x.request x.path → x.path.parent ≡ b → IsIn m.state.cache b.digest
      → All (IsPassed w.header m.state) x.path.blocks → Known (setting w stored) p (first_of x.request).digest
  known-moved b x way leads any all =
      subst (λ (y : Named B). Known (setting w stored) p y.digest) way.begins ((g.stands.knows _).1 (first_at_hand x.path.blocks all))
    where
      first_at_hand : (blocks : List (Named B)) → All (IsPassed w.header m.state) blocks
          → IsAtHand m.state.anchor m.state.cache (first_or x.path.parent blocks).digest
      first_at_hand [] passed = inr (subst (λ (y : Named B). IsIn m.state.cache y.digest) (sym leads) any)
      first_at_hand (z ∷ blocks) passed = (All-head (IsPassed w.header m.state) z blocks passed).1

module _ {B C I P R D H G U : Type 0} (w : Workings B C I P R D H G U) (laws : Laws w.kind) (stored : ℕ → Option (Named B)) (base : w.States)
    (p : Past B C I) (points : Digest → Point w) (point : Point w) (m : Moment w)
    (s : TablesStand w stored p points point m.next m.state) (located : w.kind.point m.members ≡ Some point)
    (drawn : w.kind.issued m.next (point ∷ [])) (f : HasMovedOn w stored base p points point m.next m.state)
    (ways : WaysStand w stored p m.state.anchor m.state) (honest : IsHonest (setting w stored) p) (answered : IsAnswered p)
    (h : StaysLinked w stored base p m.state) (j : ℕ) (b : Named B) (o : Option U) (how : How) where
  -- It stays so after the last turn of a run, and the requests that waited for it.
  pub StaysLinked-moved : (count : R → ℕ) (running : Tables B C I R U) → TurnsRun w count m.members j m.state running (Ok (Done o))
      → (done last : Moment w) → EndsRun w (record m { state = running }) j b o how done
      → InTurn (Follows w b how) (released_on j done.state.requests) (record done { state = released j done.state }) last
      → LinkedBehind w stored base (Came (Turn j) ∷ p) m last
  StaysLinked-moved count running turns done last ends follow =
      let e : EndsRun w (record m
      { state = record m.state { runs = put m.state.runs j (record turns.live { run = turns.turned }) } }) j b o how done =
      subst (λ (t : Tables B C I R U). EndsRun w (record m { state = t }) j b o how done) turns.state ends in
      let round = round_of_top w stored base p points point m.next m.state.anchor Free m.state.anchor m.state.cache f.ground in
      let k = follow-moved w laws stored base p points point m s located drawn f ways j b o how turns.live turns.live_is turns.turned turns.turns done e
      (λ r. AreLinked (setting w stored) (gathered r.request []))
      (released-linked w stored base p honest answered m.state h.gatherings j)
      (λ q n. StaysLinked w stored base q n.state)
      (StaysLinked-ended w stored base p j how f.ground.names m.state _ points point m.next s h refl refl) (λ q mark. Unit {0})
      (λ on q n now r at tip_is hand waited stays rule. let marks = follows-marks w q n now b how r rule in
      record { more = marks.more; marks_are = marks.marks_are; each = any_marks q marks.more })
      (λ on q n now r more is at waited linked names rule stays.
      StaysLinked-follows w stored base q on point n now at.ready.stands stays more is names b how r linked
      (λ any kept all. known-moved w stored base q on point n at.free.ground b r waited.way waited.leads any all) rule) last
      (IsReleasedFrom-moved w stored p point m j b o how done points s located f.ground.names round f.ground.folded.tip_is f.moved count running turns
      ends).released
      (HasMoved-ended w stored p point m j b o how done points s located f.ground.names round f.ground.folded.tip_is f.moved count running turns ends)
      follow in
      record {
        more = Ended j how ∷ k.more;
        marks_are = k.marks_are ∙ append_assoc m.marks (Ended j how ∷ []) k.more;
        stays = k.stays;
      }
