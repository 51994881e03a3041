-- Marks stand in their places: the rule of the last turn of a run, and of what follows it.
use Rattle.std.proofs.Common.{◌≡◌, ◌++◌, ℕ, Bool, true, false, ◌==◌, List, [], ◌∷◌, Option, None, Some, Ok, refl, subst}
use Rattle.stateful_base.specs.Names.{Named}
use Rattle.stateful_base.specs.declared.anchor.Anchor.{Anchor}
use Rattle.stateful_base.specs.declared.digest.Digest.{Digest}
use Rattle.stateful_base.specs.declared.outcome.Moved.TheVariants.{Done}
use Rattle.stateful_history.specs.Jobs.{job_of, started_for}
use Rattle.stateful_history.specs.Past.{Past, Came, Made, EachMark, after}
use Rattle.stateful_history.specs.declared.event.Event.TheVariants.{Turn}
use Rattle.stateful_history.specs.declared.mark.How.{How}
use Rattle.stateful_history.specs.declared.mark.JobKind.TheVariants.{Candidate}
use Rattle.stateful_history.specs.declared.mark.Mark.{Mark}
use Rattle.stateful_history.specs.declared.mark.Mark.TheVariants.{Ended}
use Rattle.stateful_table.specs.Table.{at, put}
use Rattle.stateful_exec_tables.specs.Tables.{released}
use Rattle.stateful_exec_model.specs.Ending.{EndsRun, TurnsRun, Turns, InTurn, Follows}
use Rattle.stateful_exec_model.specs.Moments.{Moment}
use Rattle.stateful_exec_walk.specs.Path.{Path}
use Rattle.stateful_exec_tables.specs.Phase.{is_on, path_on, released_on, tickets_on}
use Rattle.stateful_exec_model.specs.Workings.{Workings, Point}
use Rattle.stateful_exec_tables.specs.declared.state.Tables.{Tables}
use Rattle.stateful_exec_tables.specs.declared.tables.LiveRun.{LiveRun}
use Rattle.stateful_exec_tables.specs.declared.tables.Phase.{Phase}
use Rattle.stateful_exec_tables.specs.declared.tables.Phase.TheVariants.{Open, Fetching, Waiting, Executing, Parked}
use Rattle.stateful_exec_tables.specs.declared.tables.Released.{Released}
use Rattle.stateful_exec_tables.specs.declared.tables.Requested.{Requested}
use Rattle.stateful_exec_laws.specs.Setting.{setting}
use Rattle.stateful_exec_laws.specs.Running.{IsRunning}
use Rattle.stateful_exec_laws.specs.Standing.{TablesStand}
use Rattle.stateful_exec_laws.specs.Ways.{WaysStand}
use Rattle.stateful_exec_laws.proofs.ended.Rule.{IsReleased, same_block}
use Rattle.stateful_exec_laws.proofs.ended.Stands.{running}
use Rattle.stateful_exec_laws.proofs.requests.KeptMarks.{KeepsReady, KeepsReady-then}
use Rattle.stateful_exec_laws.proofs.places.Followed.{IsOrderly, IsOrderlyBut, AreLeft, AreLeft-follow}
use Rattle.stateful_exec_laws.proofs.places.Marks.{IsInPlace}
use Rattle.stateful_exec_laws.proofs.reasons.Followed.{AreWaiting}
use Rattle.stateful_exec_laws.proofs.reasons.Ground.{IsGround}
use Rattle.stateful_exec_laws.proofs.reasons.Turned.{Now, waiting}
use Rattle.stateful_exec_laws.proofs.runs.SpentRuns.{MayRunAgain-turned}

-- where no request is released, none waits for the run
released_none : {B C I : Type 0} (job : ℕ) (es : List (ℕ × Requested B C I)) → released_on job es ≡ [] → tickets_on job es ≡ []
released_none job [] none = refl
released_none {B = B} {C = C} {I = I} job (e ∷ es) none = by_phase e.1.phase refl (released_none job es)
  where
    off : path_on job e.1.phase ≡ None → is_on job e.1.phase ≡ false → (released_on job es ≡ [] → tickets_on job es ≡ []) → tickets_on job (e ∷ es) ≡ []
    off no_path is rest = rw is (rest (rw no_path at none))

    on : (k : ℕ) (path : Path B) → e.1.phase ≡ Executing k path → (b : Bool) → (k == job) ≡ b → (released_on job es ≡ [] → tickets_on job es ≡ []) → tickets_on job (e ∷ es) ≡ []
    on k path is true same rest = let some = rw (is, same) at none in cc
    on k path is false other rest = off (rw (is, other) refl) (rw (is, other) refl) rest

    by_phase : (phase : Phase B) → e.1.phase ≡ phase → (released_on job es ≡ [] → tickets_on job es ≡ []) → tickets_on job (e ∷ es) ≡ []
    by_phase (Executing k path) is rest = on k path is (k == job) refl rest
    by_phase Open is rest = off (rw is refl) (rw is refl) rest
    by_phase (Fetching f) is rest = off (rw is refl) (rw is refl) rest
    by_phase Waiting is rest = off (rw is refl) (rw is refl) rest
    by_phase (Parked path) is rest = off (rw is refl) (rw is refl) rest

module _ {B C I P R D H G U : Type 0} (w : Workings B C I P R D H G U) (stored : ℕ → Option (Named B)) (base : w.States) (p : Past B C I) (points : Digest → Point w) (point : Point w) (tip : Anchor) (m : Moment w)
    (s : TablesStand w stored p points point m.next m.state) (g : IsGround w stored base p points point m.next tip m.state.pause m.state.anchor m.state.cache) (ways : WaysStand w stored p tip m.state)
    (located : w.kind.point m.members ≡ Some point) (drawn : w.kind.issued m.next (point ∷ []))
    (j : ℕ) (b : Named B) (o : Option U) (how : How) (kept : IsOrderly w stored p)
    (other_states : (n i : w.Ids) (x y : w.States) (c : List (Point w)) → w.kind.issued n ((i, x) ∷ c) → w.kind.issued n ((i, y) ∷ c)) where
  abbrev q : Past B C I
  q = Made (Ended j how) ∷ Came (Turn j) ∷ p

  abbrev But : Past B C I → Moment w → Type 0
  But x n = IsOrderlyBut w stored b x

  abbrev Orderly : Past B C I → Moment w → Type 0
  Orderly x n = IsOrderly w stored x

  module _ (live : LiveRun B R) (live_is : at m.state.runs j ≡ Some live) (turned : R) (turns : Turns w m.members live.run turned (Done o)) (done : Moment w)
      (ends : EndsRun w (record m { state = record m.state { runs = put m.state.runs j (record live { run = turned }) } }) j b o how done) (r : IsReleased w stored q point j b done) where
    own : IsRunning w stored p points m.next m.state.anchor m.state.cache j live
    own = running w stored p points point m.next m.state s j live live_is

    abbrev After : Moment w
    After = Now w stored base p points point tip m s g ways located drawn j b o how live live_is turned turns done ends r (Turn j) [] other_states

    but : But q After
    but = record {
      apart = kept.apart;
      live = kept.live;
      again = MayRunAgain-turned (setting w stored) p j how b.digest
          (subst (λ (x : Named B). started_for j p ≡ Some (job_of Candidate x.digest)) (same_block w stored p point m j b o how done live live_is turned ends) own.job.is) kept.again;
    }

    module _ (rel : IsReleased w stored q point j b After) where
      abbrev Start : Moment w
      Start = record After { state = released j After.state }

      start : AreLeft w stored base rel.points point tip other_states b how But (released_on j m.state.requests) q Start
      start =
          let on : AreWaiting w stored base tip rel.points point (Turn j) [] other_states b how (released_on j m.state.requests) q Start = waiting w stored base p points point tip m s g ways located drawn j b o how live live_is turned turns done ends r (Turn j) [] other_states rel in
          record { grounded = on.grounded; stays = but; hands = on.hands; apart = on.apart; also = on.also }

      follow_from : (rs : List (Released B C I)) → released_on j m.state.requests ≡ rs → (last : Moment w) → AreLeft w stored base rel.points point tip other_states b how But rs q Start → InTurn (Follows w b how) rs Start last
          → KeepsReady w (IsInPlace w stored base) (Follows w b how) (AreLeft w stored base rel.points point tip other_states b how Orderly) [] q Start last
      follow_from [] none last ready rules = absurd (s.requests.wanted j (rw live_is refl) (released_none j m.state.requests none))
      follow_from (x ∷ rs) some last ready rules = AreLeft-follow w stored base rel.points point tip other_states b how x rs q Start last ready rules

      place_from : (last : Moment w) → InTurn (Follows w b how) (released_on j m.state.requests) Start last
          → KeepsReady w (IsInPlace w stored base) (Follows w b how) (AreLeft w stored base rel.points point tip other_states b how Orderly) [] (Came (Turn j) ∷ p) m last
      place_from last rules =
          KeepsReady-then w (IsInPlace w stored base) (Follows w b how) (AreLeft w stored base rel.points point tip other_states b how Orderly) [] (Came (Turn j) ∷ p) m Start last (Ended j how ∷ []) refl ((tt, tt, tt, tt, tt), tt)
          (follow_from (released_on j m.state.requests) refl last start rules)

  -- What stands after the last turn of a run: each mark from its end on is in its place, and a run that ended in vain is started
  -- again only for another request.
  pub record IsPlaced (last : Moment w) : Type 0 where
    pub more : List (Mark B)
    pub marks_are : last.marks ≡ m.marks ++ more
    pub each : EachMark (IsInPlace w stored base) (Came (Turn j) ∷ p) more
    pub orderly : IsOrderly w stored (after (Came (Turn j) ∷ p) more)

  place_turned : (live : LiveRun B R) (live_is : at m.state.runs j ≡ Some live) (turned : R) (turns : Turns w m.members live.run turned (Done o)) (done last : Moment w)
      (ends : EndsRun w (record m { state = record m.state { runs = put m.state.runs j (record live { run = turned }) } }) j b o how done) (r : IsReleased w stored q point j b done)
      → InTurn (Follows w b how) (released_on j done.state.requests) (record done { state = released j done.state }) last → IsPlaced last
  place_turned live live_is turned turns done last ends r follow =
      let after_is : done ≡ After live live_is turned turns done ends r = ends.becomes in
      let rel : IsReleased w stored q point j b (After live live_is turned turns done ends r) = subst (λ (n : Moment w). IsReleased w stored q point j b n) after_is r in
      let k = place_from live live_is turned turns done ends r rel last (subst (λ (n : Moment w). InTurn (Follows w b how) (released_on j n.state.requests) (record n { state = released j n.state }) last) after_is follow) in
      record { more = k.more; marks_are = k.marks_are; each = k.each; orderly = k.ready.stays }

  pub settled-in_place : (count : R → ℕ) (had : Tables B C I R U) → TurnsRun w count m.members j m.state had (Ok (Done o)) → (done last : Moment w) → EndsRun w (record m { state = had }) j b o how done → IsReleased w stored q point j b done
      → InTurn (Follows w b how) (released_on j done.state.requests) (record done { state = released j done.state }) last → IsPlaced last
  settled-in_place count had turns done last ends r follow =
      place_turned turns.live turns.live_is turns.turned turns.turns done last
      (subst (λ (t : Tables B C I R U). EndsRun w (record m { state = t }) j b o how done) turns.state ends) r follow
