-- After each rule of execution what each request needs was looked for, where it was so before.
use Rattle.std.proofs.Common.{◌≡◌, not, ℕ, true, List, [], ◌∷◌, Option, Result, Ok, Err, refl, sym, ap, ◌∙◌, subst}
use Rattle.std.proofs.lemmas.List.Elements.{All-filter, All-weaker, filter_passes}
use Rattle.stateful_base.specs.Names.{Named}
use Rattle.stateful_base.specs.declared.outcome.Moved.{Moved}
use Rattle.stateful_base.specs.declared.outcome.Moved.TheVariants.{Pending, Done}
use Rattle.stateful_db.specs.declared.application.AppFault.{AppFault}
use Rattle.stateful_history.specs.declared.mark.How.{How}
use Rattle.stateful_table.specs.Table.{put}
use Rattle.stateful_exec_model.specs.Ending.{InTurn, none as in_none, next as in_next, Settles, SettlesBy, Steps, Follows, given_up, at_boundary, failed, parked, goes_on}
use Rattle.stateful_exec_tables.specs.Tables.{released}
use Rattle.stateful_exec_model.specs.Fetching.{IsFetched, found, waits as awaits, declines, dead, serving}
use Rattle.stateful_exec_tables.specs.Fetching.{with_block}
use Rattle.stateful_exec_model.specs.Moments.{Moment, Becomes}
use Rattle.stateful_exec_walk.specs.Path.{Path}
use Rattle.stateful_exec_model.specs.Pausing.{Resumes, AcquiresAnew, unsettled}
use Rattle.stateful_exec_tables.specs.Phase.{is_on, released_on, is_unacquired, unacquired_in, not_unacquired}
use Rattle.stateful_exec_tables.specs.Tables.{requested, moved, ended}
use Rattle.stateful_exec_model.specs.Rules.{Concludes, Advances, arrives, leaves, joins, starts, misses, Acquires, valid, invalid, asks, waits, runs}
use Rattle.stateful_exec_model.specs.Workings.{Workings}
use Rattle.stateful_exec_walk.specs.declared.request.Request.{Request}
use Rattle.stateful_exec_walk.specs.declared.request.Request.TheVariants.{Verify, Recover}
use Rattle.stateful_exec_walk.specs.declared.request.Verdict.{Verdict}
use Rattle.stateful_exec_walk.specs.declared.request.Verdict.TheVariants.{Valid, Invalid}
use Rattle.stateful_exec_tables.specs.declared.state.Tables.{Tables}
use Rattle.stateful_exec_tables.specs.declared.tables.Phase.{Phase}
use Rattle.stateful_exec_tables.specs.declared.tables.Phase.TheVariants.{Open, Fetching, Waiting, Executing, Parked}
use Rattle.stateful_exec_tables.specs.declared.tables.Released.{Released}
use Rattle.stateful_exec_tables.specs.declared.tables.Requested.{Requested}
use Rattle.stateful_exec_laws.proofs.requests.Putting.{All-put}
use Rattle.stateful_loop_laws.specs.InHand.{NoneOpen}

module _ {B C I P R D H G U : Type 0} (w : Workings B C I P R D H G U) where
  -- what each request needs was looked for, where it was so before
  abbrev pub Settling : Moment w → Moment w → Type 0
  Settling m now = NoneOpen m.state.requests → NoneOpen now.state.requests

  settling_put : (m now : Moment w) (t : ℕ) (r : Requested B C I) → (r.phase ≡ Open → ⊥) → now.state.requests ≡ put m.state.requests t r
      → Settling m now
  settling_put m now t r settled is h = rw is (All-put (λ (e : ℕ × Requested B C I). e.1.phase ≡ Open → ⊥) m.state.requests t r h settled)

  settling_becomes : (m now : Moment w) (t : ℕ) (r : Requested B C I) (phase : Phase B) → (phase ≡ Open → ⊥)
      → Becomes w m (moved m.state t r phase) [] now
      → Settling m now
  settling_becomes m now t r phase settled is = settling_put m now t (record r { phase = phase }) settled (ap (λ (n : Moment w). n.state.requests) is)

  settling_concludes : (m now : Moment w) (t : ℕ) (r : Requested B C I) (v : Verdict) → Concludes w m t r v now → Settling m now
  settling_concludes m now t r v c h = rw (ap (λ (n : Moment w). n.state.requests) c ∙ same r.request v) h
    where
      same : (request : Request B C I) (v : Verdict) → (ended m.state t request v).requests ≡ m.state.requests
      same (Verify u ancestry) Valid = refl
      same (Verify u ancestry) Invalid = refl
      same (Recover u context ancestry input kind) Valid = refl
      same (Recover u context ancestry input kind) Invalid = refl

  -- one with blocks to run
  pub settling_advances : (m now : Moment w) (t : ℕ) (r : Requested B C I) (path : Path B) → Advances w m t r path now → Settling m now
  settling_advances m now t r path (arrives passed c) = settling_concludes m now t r Valid c
  settling_advances m now t r path (leaves reaches off c) = settling_concludes m now t r Invalid c
  settling_advances m now t r path (misses reaches on off none off_parent c) = settling_concludes m now t r Invalid c
  settling_advances m now t r path (joins {left = left} {b = b} {parent = parent} j reaches on off run becomes) =
      settling_becomes m now t r (Executing j (record { blocks = left; parent = b })) (λ e. cc) becomes
  settling_advances m now t r path (starts {left = left} {b = b} {parent = parent} reaches on off none known l) =
      settling_put m now t (record r { phase = Executing m.state.next_job (record { blocks = left; parent = b }) }) (λ e. cc)
      (ap (λ (v : Tables B C I R U). v.requests) l.state
      ∙ ap (λ (v : Tables B C I R U). put v.requests t
      (record r { phase = Executing m.state.next_job (record { blocks = left; parent = b }) })) l.starts.state)

  -- one that acquires what it needs
  pub settling_acquires : (stored_now : ℕ → Option (Named B)) (m now : Moment w) (t : ℕ) (r : Requested B C I) → Acquires w stored_now m t r now
      → Settling m now
  settling_acquires stored_now m now t r (valid needs c) = settling_concludes m now t r Valid c
  settling_acquires stored_now m now t r (invalid needs c) = settling_concludes m now t r Invalid c
  settling_acquires stored_now m now t r (asks digest needs left becomes) =
      settling_put m now t (record r { phase = Fetching m.state.next_fetch }) (λ e. cc) (ap (λ (n : Moment w). n.state.requests) becomes)
  settling_acquires stored_now m now t r (waits needs becomes) = settling_becomes m now t r Waiting (λ e. cc) becomes
  settling_acquires stored_now m now t r (runs {path = path} needs advances) = settling_advances m now t (requested r.request) path advances

  -- one that follows the end of the run that it waited for
  pub settling_follows : (b : Named B) (how : How) (r : Released B C I) (m now : Moment w) → Follows w b how r m now → Settling m now
  settling_follows b how r m now (given_up up c) = settling_concludes m now r.ticket (requested r.request) Invalid c
  settling_follows b how r m now (at_boundary is becomes) = settling_becomes m now r.ticket (requested r.request) (Parked r.path) (λ e. cc) becomes
  settling_follows b how r m now (failed not_held off c) = settling_concludes m now r.ticket (requested r.request) Invalid c
  settling_follows b how r m now (parked pause there becomes) =
      settling_becomes m now r.ticket (requested r.request) (Parked r.path) (λ e. cc) becomes
  settling_follows b how r m now (goes_on up not_held pause there rule) = settling_advances m now r.ticket (requested r.request) r.path rule

  module _ {X : Type 0} (Rule : X → Moment w → Moment w → Type 0) (settling : (x : X) (m now : Moment w) → Rule x m now → Settling m now) where
    -- for each of a list
    pub settling_in_turn : (xs : List X) (m last : Moment w) → InTurn Rule xs m last → Settling m last
    settling_in_turn [] m last in_none h = h
    settling_in_turn (x ∷ xs) m last (in_next {n = n} rule rest) h = settling_in_turn xs n last rest (settling x m n rule h)

  -- the end of a run, and what follows it
  pub settling_settles : (m now : Moment w) (j : ℕ) (o : Option U) → Settles w m j o now → Settling m now
  settling_settles m now j o s h =
      let done : Moment w = s.done in
      settling_in_turn (Follows w s.block s.how) (λ r n l. settling_follows s.block s.how r n l) (released_on j done.state.requests)
      (record done { state = released j done.state }) now s.follow
      (All-filter (λ (e : ℕ × Requested B C I). not (is_on j e.1.phase)) (λ (e : ℕ × Requested B C I). e.1.phase ≡ Open → ⊥) done.state.requests
      (subst (λ es. NoneOpen es) (sym (ap (λ (n : Moment w). n.state.requests) s.ends.becomes)) h))

  -- a turn of a run, and what its answer leads to
  pub settling_steps : (count : R → ℕ) (m now : Moment w) (j : ℕ) → Steps w count m j now → Settling m now
  settling_steps count m now j steps h = by steps.answer steps.settles
    where
      before : NoneOpen steps.running.requests
      before = subst (λ es. NoneOpen es) (sym (ap (λ (v : Tables B C I R U). v.requests) steps.turns.state)) h

      by : (answer : Result (Moved (Option U)) AppFault) → SettlesBy w (record m { state = steps.running }) j answer now → NoneOpen now.state.requests
      by (Ok Pending) settles = subst (λ (n : Moment w). NoneOpen n.state.requests) (sym settles) before
      by (Ok (Done o)) settles = settling_settles (record m { state = steps.running }) now j o settles before
      by (Err fault) settles = absurd settles

  -- after a resume it is so, whatever was before
  pub settled_resumes : (stored_now : ℕ → Option (Named B)) (m now : Moment w) → Resumes w stored_now m now → NoneOpen now.state.requests
  settled_resumes stored_now m now r =
      settling_in_turn (AcquiresAnew w stored_now) (λ x n l. settling_acquires stored_now n l x.0 (requested x.1.request))
      (unacquired_in r.mid.state.requests)
      (unsettled w r.mid) now r.anew
      (All-weaker (λ (e : ℕ × Requested B C I). not (is_unacquired e.1.phase) ≡ true) (λ (e : ℕ × Requested B C I). e.1.phase ≡ Open → ⊥)
      (λ e off is. let no : not true ≡ true = rw is at off in cc) (not_unacquired r.mid.state.requests)
      (filter_passes (λ (e : ℕ × Requested B C I). not (is_unacquired e.1.phase)) r.mid.state.requests))

  settling_serving : (m : Moment w) (t : ℕ) → Settling m (serving w m t)
  settling_serving m t h = All-filter _ (λ (e : ℕ × Requested B C I). e.1.phase ≡ Open → ⊥) m.state.requests h

  -- the answer of a fetch
  pub settling_fetched : (stored_now : ℕ → Option (Named B)) (m now : Moment w) (fetch : ℕ) (answer : Option (Named B))
      → IsFetched w stored_now m fetch answer now → Settling m now
  settling_fetched stored_now m now fetch answer (found t r b fetches is acquires) h =
      settling_acquires stored_now (serving w m t) now t (with_block r b) acquires (settling_serving m t h)
  settling_fetched stored_now m now fetch answer (awaits t r fetches is verification becomes) h =
      settling_becomes (serving w m t) now t r Waiting (λ e. cc) becomes (settling_serving m t h)
  settling_fetched stored_now m now fetch answer (declines t r fetches is other c) h =
      settling_concludes (serving w m t) now t r Invalid c (settling_serving m t h)
  settling_fetched stored_now m now fetch answer (dead off same) h = subst (λ (n : Moment w). NoneOpen n.state.requests) (sym same) h
