-- No request is parked behind requests that are served where none was, nor after a pause's begin.
use Rattle.std.proofs.Common.{◌≡◌, ℕ, get_or, true, is_none, List, Option, subst}
use Rattle.std.proofs.lemmas.List.Elements.{filter_passes}
use Rattle.stateful_base.specs.Names.{Named}
use Rattle.stateful_history.specs.declared.mark.How.{How}
use Rattle.stateful_table.specs.Table.{put}
use Rattle.stateful_exec_model.specs.Ending.{Follows, given_up, at_boundary, failed, parked, goes_on}
use Rattle.stateful_exec_model.specs.Moments.{Moment}
use Rattle.stateful_exec_walk.specs.Path.{Path}
use Rattle.stateful_exec_tables.specs.Phase.{parked_path, not_parked}
use Rattle.stateful_exec_tables.specs.Tables.{ended, requested}
use Rattle.stateful_exec_model.specs.Rules.{Concludes, Advances, arrives, leaves, joins, starts, misses, Acquires, valid, invalid, asks, waits, runs}
use Rattle.stateful_exec_model.specs.Workings.{Workings}
use Rattle.stateful_exec_pause.specs.declared.pause.Pause.TheVariants.{Free}
use Rattle.stateful_exec_walk.specs.declared.request.Request.{Request}
use Rattle.stateful_exec_walk.specs.declared.request.Request.TheVariants.{Verify, Recover}
use Rattle.stateful_exec_walk.specs.declared.request.Verdict.{Verdict}
use Rattle.stateful_exec_walk.specs.declared.request.Verdict.TheVariants as verdict
use Rattle.stateful_exec_tables.specs.declared.state.Tables.{Tables}
use Rattle.stateful_exec_tables.specs.declared.tables.Phase.{Phase}
use Rattle.stateful_exec_tables.specs.declared.tables.Phase.TheVariants.{Fetching, Waiting, Executing, Parked}
use Rattle.stateful_exec_tables.specs.declared.tables.Released.{Released}
use Rattle.stateful_exec_tables.specs.declared.tables.Requested.{Requested}
use Rattle.stateful_exec_laws.proofs.requests.Putting.{All-put}
use Rattle.stateful_loop_laws.specs.Ways.{ParksNone}

-- none is left of which each parked one is taken out
pub ParksNone-not_parked : {B C I : Type 0} (requests : List (ℕ × Requested B C I)) → ParksNone (not_parked requests)
ParksNone-not_parked {B = B} {C = C} {I = I} requests k d l path is =
    let stays : is_none (parked_path (get_or (not_parked requests) k d).1.phase) ≡ true = filter_passes
    (λ (x : ℕ × Requested B C I). is_none (parked_path x.1.phase)) requests k d l in
    let no : is_none (parked_path (Parked path)) ≡ true = subst (λ (phase : Phase B). is_none (parked_path phase) ≡ true) is stays in
    absurd (cc)

module _ {B C I P R D H G U : Type 0} (w : Workings B C I P R D H G U) (m now : Moment w) (h : ParksNone m.state.requests) where
  ended_none : (v : Tables B C I R U) (t : ℕ) (request : Request B C I) (x : Verdict) → ParksNone v.requests
      → ParksNone (ended v t request x).requests
  ended_none v t (Verify u ancestry) verdict.Valid k = k
  ended_none v t (Verify u ancestry) verdict.Invalid k = k
  ended_none v t (Recover u context ancestry input kind) verdict.Valid k = k
  ended_none v t (Recover u context ancestry input kind) verdict.Invalid k = k

  -- a request that ends leaves none parked
  pub ParksNone-concludes : (t : ℕ) (r : Requested B C I) (x : Verdict) → Concludes w m t r x now → ParksNone now.state.requests
  ParksNone-concludes t r x is = rw is (ended_none m.state t r.request x h)

  -- and so does one that is put back, and isn't parked
  pub ParksNone-put : (t : ℕ) (r : Requested B C I) (phase : Phase B) → ((path : Path B) → phase ≡ Parked path → ⊥) → ParksNone
      (put m.state.requests t (record r { phase = phase }))
  ParksNone-put t r phase not_parked = All-put (λ (e : ℕ × Requested B C I). (path : Path B) → e.1.phase ≡ Parked path → ⊥) m.state.requests t
      (record r { phase = phase }) h not_parked

  -- a request that goes along its path isn't parked
  pub ParksNone-advances : (t : ℕ) (r : Requested B C I) (path : Path B) → Advances w m t r path now → ParksNone now.state.requests
  ParksNone-advances t r path (arrives all concludes) = ParksNone-concludes t r verdict.Valid concludes
  ParksNone-advances t r path (leaves reaches out concludes) = ParksNone-concludes t r verdict.Invalid concludes
  ParksNone-advances t r path (joins {left = left} {b = b} j reaches on unknown has becomes) = rw becomes
      (ParksNone-put t r (Executing j (record { blocks = left; parent = b })) (λ x is. cc))
  ParksNone-advances t r path (starts {left = left} {b = b} reaches on unknown unrun known launches) = rw (launches.state, launches.starts.state)
      (ParksNone-put t r (Executing m.state.next_job (record { blocks = left; parent = b })) (λ x is. cc))
  ParksNone-advances t r path (misses reaches on unknown unrun known concludes) = ParksNone-concludes t r verdict.Invalid concludes

  -- one that acquires what it needs
  pub ParksNone-acquires : (stored : ℕ → Option (Named B)) (t : ℕ) (r : Requested B C I) → Acquires w stored m t r now → ParksNone now.state.requests
  ParksNone-acquires stored t r (valid needs concludes) = ParksNone-concludes t r verdict.Valid concludes
  ParksNone-acquires stored t r (invalid needs concludes) = ParksNone-concludes t r verdict.Invalid concludes
  ParksNone-acquires stored t r (asks digest needs left becomes) = rw becomes (ParksNone-put t r (Fetching m.state.next_fetch) (λ x is. cc))
  ParksNone-acquires stored t r (waits needs becomes) = rw becomes (ParksNone-put t r Waiting (λ x is. cc))
  ParksNone-acquires stored t r (runs {path = path} needs advances) = ParksNone-advances t (requested r.request) path advances

  -- and one that follows the end of the run that it waited for, where nothing pauses
  pub ParksNone-follows : m.state.pause ≡ Free → (b : Named B) (how : How) (r : Released B C I) → Follows w b how r m now
      → ParksNone now.state.requests
  ParksNone-follows free b how r (given_up out concludes) = ParksNone-concludes r.ticket (requested r.request) verdict.Invalid concludes
  ParksNone-follows free b how r (at_boundary is becomes) = absurd (rw free at is)
  ParksNone-follows free b how r (failed not_held out concludes) = ParksNone-concludes r.ticket (requested r.request) verdict.Invalid concludes
  ParksNone-follows free b how r (parked pruning any becomes) = absurd (cc)
  ParksNone-follows free b how r (goes_on kept not_held other any advances) = ParksNone-advances r.ticket (requested r.request) r.path advances
