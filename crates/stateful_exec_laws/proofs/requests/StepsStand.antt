-- The tables stand after a turn of a candidate run, and what its answer leads to.
use Rattle.std.proofs.Common.{◌≡◌, ℕ, List, [], ◌∷◌, Option, Some, Result, Ok, Err, refl, sym, ap}
use Rattle.std.proofs.lemmas.List.{append-nil}
use Rattle.stateful_base.specs.Names.{Named}
use Rattle.stateful_base.specs.declared.digest.Digest.{Digest}
use Rattle.stateful_base.specs.declared.outcome.Moved.{Moved}
use Rattle.stateful_base.specs.declared.outcome.Moved.TheVariants.{Pending, Done}
use Rattle.stateful_db.specs.declared.application.AppFault.{AppFault}
use Rattle.stateful_history.specs.Anchors.{tip_of}
use Rattle.stateful_history.specs.Past.{Past, Came}
use Rattle.stateful_history.specs.Met.{TrueNames}
use Rattle.stateful_history.specs.declared.event.Event.TheVariants.{Turn}
use Rattle.stateful_history.specs.declared.mark.How.{How}
use Rattle.stateful_exec_model.specs.Ending.{TurnsRun, SettlesBy, Steps}
use Rattle.stateful_exec_model.specs.Moments.{Moment}
use Rattle.stateful_exec_model.specs.Workings.{Workings, Point}
use Rattle.stateful_exec_tables.specs.declared.state.Tables.{Tables}
use Rattle.stateful_exec_laws.specs.Setting.{setting}
use Rattle.stateful_exec_laws.specs.Standing.{TablesStand, StandsBehind}
use Rattle.stateful_exec_laws.proofs.ended.Kept.{IsRoundOf}
use Rattle.stateful_exec_laws.proofs.ended.Rule.{GoesOn, IsReleasedFrom-plain, IsReleasedFrom-over}
use Rattle.stateful_exec_laws.proofs.ended.Told.{IsPlain}
use Rattle.stateful_exec_laws.proofs.ended.FollowStands.{IsSettled, IsSettled-from}
use Rattle.stateful_exec_laws.proofs.front.MovedStands.{HasMovedSo, IsReleasedFrom-moved}
use Rattle.stateful_exec_laws.proofs.runs.TurnedStands.{TablesStand-goes_on}

-- how execution is paused: for no finalization; for one that goes on; or for one to whose block the anchor has moved
pub data IsPaused {B C I P R D H G U : Type 0} (w : Workings B C I P R D H G U) (stored : ℕ → Option (Named B)) (p : Past B C I) (m : Moment w) : Type 0 where
  plain : IsPlain m.state.pause → tip_of w.header p ≡ Some m.state.anchor → IsPaused w stored p m
  goes : GoesOn w stored p m → IsPaused w stored p m
  has_moved : HasMovedSo m.state → tip_of w.header p ≡ Some m.state.anchor → IsPaused w stored p m

module _ {B C I P R D H G U : Type 0} (w : Workings B C I P R D H G U) (stored : ℕ → Option (Named B)) (point : Point w)
    (other_states : (n i : w.Ids) (x y : w.States) (c : List (Point w)) → w.kind.issued n ((i, x) ∷ c) → w.kind.issued n ((i, y) ∷ c)) where
  -- What stands after a turn of a candidate run: where it goes on, the tables over the same points; where it has ended, the
  -- tables behind what follows.
  pub data IsStepped (p : Past B C I) (points : Digest → Point w) (m : Moment w) (j : ℕ) (now : Moment w) : Type 0 where
    goes_on : StandsBehind w stored (Came (Turn j) ∷ p) points point m now → IsStepped p points m j now
    has_ended : (how : How) → IsSettled w stored point other_states p points m now j how → IsStepped p points m j now

  module _ (p : Past B C I) (points : Digest → Point w) (m : Moment w) (s : TablesStand w stored p points point m.next m.state) (names : TrueNames (setting w stored) p) (round : IsRoundOf w stored p m.state.anchor)
      (located : w.kind.point m.members ≡ Some point) (drawn : w.kind.issued m.next (point ∷ [])) (count : R → ℕ) (j : ℕ) (now : Moment w) where
    -- after a run that goes on
    pub StandsBehind-turned : (running : Tables B C I R U) → TurnsRun w count m.members j m.state running (Ok Pending) → now ≡ record m { state = running } → StandsBehind w stored (Came (Turn j) ∷ p) points point m now
    StandsBehind-turned running turns is =
        let stands : TablesStand w stored (Came (Turn j) ∷ p) points point m.next running = rw turns.state (TablesStand-goes_on w stored p points point m.next m.state s j turns.live turns.live_is m.members located turns.turned turns.turns) in
        rw is (record { more = []; marks_are = sym (append-nil m.marks); members_are = refl; stands = stands; waiting = λ a. rw turns.state a })

    stepped : IsPaused w stored p m → (running : Tables B C I R U) (answer : Result (Moved (Option U)) AppFault)
        → TurnsRun w count m.members j m.state running answer → SettlesBy w (record m { state = running }) j answer now → IsStepped p points m j now
    stepped paused running (Ok Pending) turns settles = goes_on (StandsBehind-turned running turns settles)
    stepped (plain free tip) running (Ok (Done o)) turns settles =
        has_ended settles.how (IsSettled-from w stored point other_states p m names located drawn points j settles.block settles.how _ settles.done now
        (IsReleasedFrom-plain w stored p point m j settles.block o settles.how settles.done points s located names round free tip count running turns settles.ends) settles.ends.becomes (ap (λ (v : Tables B C I R U). v.requests) turns.state) settles.follow)
    stepped (goes over) running (Ok (Done o)) turns settles =
        has_ended settles.how (IsSettled-from w stored point other_states p m names located drawn points j settles.block settles.how _ settles.done now
        (IsReleasedFrom-over w stored p point m j settles.block o settles.how settles.done points s located names round over count running turns settles.ends).0 settles.ends.becomes (ap (λ (v : Tables B C I R U). v.requests) turns.state) settles.follow)
    stepped (has_moved moved tip) running (Ok (Done o)) turns settles =
        has_ended settles.how (IsSettled-from w stored point other_states p m names located drawn points j settles.block settles.how _ settles.done now
        (IsReleasedFrom-moved w stored p point m j settles.block o settles.how settles.done points s located names round tip moved count running turns settles.ends) settles.ends.becomes (ap (λ (v : Tables B C I R U). v.requests) turns.state) settles.follow)
    stepped paused running (Err fault) turns settles = absurd settles

    -- the tables stand after a turn of a candidate run
    pub IsStepped-by : IsPaused w stored p m → Steps w count m j now → IsStepped p points m j now
    IsStepped-by paused steps = stepped paused steps.running steps.answer steps.turns steps.settles
