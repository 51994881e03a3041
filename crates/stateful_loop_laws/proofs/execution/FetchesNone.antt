-- Where no request fetches, none does after a turn of a candidate run; and where execution is paused, every fetch is given up.
use Rattle.std.proofs.Common.{◌≡◌, not, ℕ, List, [], ◌∷◌, get_or, Option, Result, Ok, Err}
use Rattle.std.proofs.lemmas.List.Elements.{All-filter, All-map}
use Rattle.stateful_base.specs.Names.{Named}
use Rattle.stateful_base.specs.declared.outcome.Moved.{Moved}
use Rattle.stateful_base.specs.declared.outcome.Moved.TheVariants.{Pending, Done}
use Rattle.stateful_db.specs.declared.application.AppFault.{AppFault}
use Rattle.stateful_history.specs.declared.mark.How.{How}
use Rattle.stateful_history.specs.declared.mark.Mark.{Mark}
use Rattle.stateful_exec_pause.specs.Boundary.{Boundary}
use Rattle.stateful_exec_model.specs.Ending.{InTurn, none, next, TurnsRun, Follows, given_up, at_boundary, failed, parked, goes_on, Settles, SettlesBy, Steps}
use Rattle.stateful_exec_tables.specs.Tables.{released}
use Rattle.stateful_exec_model.specs.Moments.{Moment}
use Rattle.stateful_exec_walk.specs.Path.{Path}
use Rattle.stateful_exec_tables.specs.Pausing.{Pauses}
use Rattle.stateful_exec_tables.specs.Phase.{is_on, released_on, dropped}
use Rattle.stateful_exec_tables.specs.Tables.{moved, requested, ended}
use Rattle.stateful_exec_model.specs.Rules.{Concludes, Advances, arrives, leaves, joins, starts, misses}
use Rattle.stateful_exec_model.specs.Workings.{Workings}
use Rattle.stateful_exec_walk.specs.declared.request.Request.{Request}
use Rattle.stateful_exec_walk.specs.declared.request.Request.TheVariants.{Verify, Recover}
use Rattle.stateful_exec_walk.specs.declared.request.Verdict.{Verdict}
use Rattle.stateful_exec_walk.specs.declared.request.Verdict.TheVariants.{Valid, Invalid}
use Rattle.stateful_exec_tables.specs.declared.state.Tables.{Tables}
use Rattle.stateful_exec_tables.specs.declared.tables.Phase.{Phase}
use Rattle.stateful_exec_tables.specs.declared.tables.Phase.TheVariants.{Fetching, Parked}
use Rattle.stateful_exec_tables.specs.declared.tables.Released.{Released}
use Rattle.stateful_exec_tables.specs.declared.tables.Requested.{Requested}
use Rattle.stateful_exec_laws.proofs.pauses.Tables.{unfetched_none}
use Rattle.stateful_exec_laws.proofs.requests.Putting.{All-put}
use Rattle.stateful_loop_laws.specs.Execution.{FetchesNone}

module _ {B C I R U : Type 0} where
  -- where execution is paused no request fetches
  pub FetchesNone-pauses : (boundary : Option Boundary) (old new : Tables B C I R U) (marks : List (Mark B)) → Pauses boundary old new marks
      → FetchesNone new.requests
  FetchesNone-pauses boundary old new marks pauses = rw pauses.state
      (All-map (λ (e : ℕ × Requested B C I). (f : ℕ) → e.1.phase ≡ Fetching f → ⊥) dropped old.requests
      (λ k d l. unfetched_none (get_or old.requests k d).1.phase))

  -- nor does one in another phase
  FetchesNone-moved : (v : Tables B C I R U) (t : ℕ) (r : Requested B C I) (phase : Phase B) → ((f : ℕ) → phase ≡ Fetching f → ⊥)
      → FetchesNone v.requests → FetchesNone (moved v t r phase).requests
  FetchesNone-moved v t r phase other before =
      All-put (λ (e : ℕ × Requested B C I). (f : ℕ) → e.1.phase ≡ Fetching f → ⊥) v.requests t (record r { phase = phase }) before other

  FetchesNone-ended : (v : Tables B C I R U) (t : ℕ) (request : Request B C I) (x : Verdict) → FetchesNone v.requests
      → FetchesNone (ended v t request x).requests
  FetchesNone-ended v t (Verify u ancestry) Valid before = before
  FetchesNone-ended v t (Verify u ancestry) Invalid before = before
  FetchesNone-ended v t (Recover u context ancestry input kind) Valid before = before
  FetchesNone-ended v t (Recover u context ancestry input kind) Invalid before = before

module _ {B C I P R D H G U : Type 0} (w : Workings B C I P R D H G U) where
  FetchesNone-concludes : (m now : Moment w) (t : ℕ) (r : Requested B C I) (x : Verdict) → Concludes w m t r x now → FetchesNone m.state.requests
      → FetchesNone now.state.requests
  FetchesNone-concludes m now t r x is before = rw is (FetchesNone-ended m.state t r.request x before)

  -- a request that goes along its path
  pub FetchesNone-advances : (m now : Moment w) (t : ℕ) (r : Requested B C I) (path : Path B) → Advances w m t r path now
      → FetchesNone m.state.requests
      → FetchesNone now.state.requests
  FetchesNone-advances m now t r path (arrives all concludes) before = FetchesNone-concludes m now t r Valid concludes before
  FetchesNone-advances m now t r path (leaves reaches off concludes) before = FetchesNone-concludes m now t r Invalid concludes before
  FetchesNone-advances m now t r path (joins j reaches on unknown has becomes) before =
      rw becomes (FetchesNone-moved m.state t r _ (λ f is. cc) before)
  FetchesNone-advances m now t r path (starts reaches on unknown unrun known launches) before =
      rw (launches.state, launches.starts.state) (All-put
      (λ (e : ℕ × Requested B C I). (f : ℕ) → e.1.phase ≡ Fetching f → ⊥) m.state.requests t _ before (λ f is. cc))
  FetchesNone-advances m now t r path (misses reaches on unknown unrun known concludes) before =
      FetchesNone-concludes m now t r Invalid concludes before

  -- one that follows the end of the run that it waited for
  pub FetchesNone-follows : (b : Named B) (how : How) (r : Released B C I) (m now : Moment w) → Follows w b how r m now → FetchesNone m.state.requests
      → FetchesNone now.state.requests
  FetchesNone-follows b how r m now (given_up off concludes) before =
      FetchesNone-concludes m now r.ticket (requested r.request) Invalid concludes before
  FetchesNone-follows b how r m now (at_boundary off becomes) before =
      rw becomes (FetchesNone-moved m.state r.ticket (requested r.request) (Parked r.path) (λ f is. cc) before)
  FetchesNone-follows b how r m now (failed off out concludes) before =
      FetchesNone-concludes m now r.ticket (requested r.request) Invalid concludes before
  FetchesNone-follows b how r m now (parked pruning any becomes) before =
      rw becomes (FetchesNone-moved m.state r.ticket (requested r.request) (Parked r.path) (λ f is. cc) before)
  FetchesNone-follows b how r m now (goes_on kept not_held other any advances) before =
      FetchesNone-advances m now r.ticket (requested r.request) r.path advances before

  -- and all of a list, in turn
  pub FetchesNone-in_turn : {X : Type 0} (Rule : X → Moment w → Moment w → Type 0)
      → ((x : X) (m now : Moment w) → Rule x m now → FetchesNone m.state.requests → FetchesNone now.state.requests)
      → (xs : List X) (m last : Moment w) → InTurn Rule xs m last → FetchesNone m.state.requests → FetchesNone last.state.requests
  FetchesNone-in_turn Rule keeps [] m _ none before = before
  FetchesNone-in_turn Rule keeps (x ∷ xs) m last (next {n = n} rule rules) before =
      FetchesNone-in_turn Rule keeps xs n last rules (keeps x m n rule before)

  FetchesNone-settles : (m now : Moment w) (j : ℕ) (o : Option U) → Settles w m j o now → FetchesNone m.state.requests
      → FetchesNone now.state.requests
  FetchesNone-settles m now j o settles before =
      let done : FetchesNone settles.done.state.requests = rw settles.ends.becomes before in
      FetchesNone-in_turn (Follows w settles.block settles.how) (FetchesNone-follows settles.block settles.how)
      (released_on j settles.done.state.requests)
      (record settles.done { state = released j settles.done.state }) now settles.follow
      (All-filter (λ (e : ℕ × Requested B C I). not (is_on j e.1.phase)) (λ e. (f : ℕ) → e.1.phase ≡ Fetching f → ⊥) settles.done.state.requests done)

  -- after a turn of a candidate run, and what its answer leads to, no request fetches that didn't
  pub FetchesNone-steps : (count : R → ℕ) (m now : Moment w) (j : ℕ) → Steps w count m j now → FetchesNone m.state.requests
      → FetchesNone now.state.requests
  FetchesNone-steps count m now j steps before = by steps.running steps.answer steps.turns steps.settles
    where
      by : (running : Tables B C I R U) (answer : Result (Moved (Option U)) AppFault) → TurnsRun w count m.members j m.state running answer
          → SettlesBy w (record m { state = running }) j answer now → FetchesNone now.state.requests
      by running (Ok Pending) turns settles = rw (settles, turns.state) before
      by running (Ok (Done o)) turns settles = FetchesNone-settles (record m { state = running }) now j o settles (rw turns.state before)
      by running (Err fault) turns settles = absurd settles
