-- The rules of execution bring proposals into the queue of builds that weren't there, each once, and take none out.
use Rattle.std.proofs.Common.{◌≡◌, ◌≢◌, ◌==◌, not, ℕ, get_or, false, List, is_none, All, Option, Some, Result, Ok, Err, refl, sym, ap, ◌∙◌, subst}
use Rattle.std.proofs.lemmas.Bool.{eq-eqb}
use Rattle.std.proofs.lemmas.List.Elements.{All-filter, filter_passes}
use Rattle.std.proofs.lemmas.List.Kept.{AllPairs-filter}
use Rattle.stateful_base.specs.Names.{Named}
use Rattle.stateful_base.specs.declared.outcome.Moved.{Moved}
use Rattle.stateful_base.specs.declared.outcome.Moved.TheVariants.{Pending, Done}
use Rattle.stateful_db.specs.declared.application.AppFault.{AppFault}
use Rattle.stateful_history.specs.declared.mark.How.{How}
use Rattle.stateful_table.specs.Table.{at, put}
use Rattle.stateful_exec_tables.specs.Tables.{released}
use Rattle.stateful_exec_model.specs.Ending.{TurnsRun, Follows, given_up, at_boundary, failed, parked, goes_on, Settles, SettlesBy, Steps}
use Rattle.stateful_exec_tables.specs.Fetching.{Fetches, with_block}
use Rattle.stateful_exec_model.specs.Fetching.{serving, IsFetched, found, waits as awaits, declines, dead}
use Rattle.stateful_exec_model.specs.Moments.{Moment}
use Rattle.stateful_exec_walk.specs.Path.{Path}
use Rattle.stateful_exec_model.specs.Pausing.{GoesAlong, AcquiresAnew, unparked, unsettled, Resumes}
use Rattle.stateful_exec_tables.specs.Phase.{is_on, released_on, parked_path, parked_in, is_unacquired, unacquired_in}
use Rattle.stateful_exec_tables.specs.Tables.{taken, requested}
use Rattle.stateful_exec_model.specs.Rules.{Launches, Advances, arrives, leaves, joins, starts, misses, Acquires, valid, invalid, asks, waits, runs}
use Rattle.stateful_exec_model.specs.Workings.{Workings}
use Rattle.stateful_exec_walk.specs.declared.request.Verdict.TheVariants.{Valid, Invalid}
use Rattle.stateful_exec_tables.specs.declared.state.Tables.{Tables}
use Rattle.stateful_exec_tables.specs.declared.tables.Phase.TheVariants.{Executing, Fetching, Waiting}
use Rattle.stateful_exec_tables.specs.declared.tables.Released.{Released}
use Rattle.stateful_exec_tables.specs.declared.tables.Requested.{Requested}
use Rattle.stateful_exec_laws.specs.Building.{IsElsewhere}
use Rattle.stateful_exec_laws.proofs.pauses.AnewStands.{entries_apart}
use Rattle.stateful_exec_laws.proofs.ended.Left.{each_at, All-released, released_apart, at_not_on}
use Rattle.stateful_exec_laws.proofs.ended.FollowStands.{ticket_of}
use Rattle.stateful_exec_laws.proofs.requests.Parked.{All-parked, parked_apart, at_kept}
use Rattle.stateful_exec_laws.proofs.runs.Removing.{at_gone}
use Rattle.stateful_loop_laws.proofs.tickets.Queueing.{IsOrderly, QueueGrows, grows_beside, grows_kept, grows_then, grows_any, grows_moved, grows_concludes, grows_put, grows_in_turn}

module _ {B C I P R D H G U : Type 0} (w : Workings B C I P R D H G U) where
  -- the queue grows by proposals of one ticket, or of any
  abbrev GrowsBy : ℕ → (m now : Moment w) → Type 0
  GrowsBy t m now = QueueGrows (λ u. u ≡ t) m.state now.state

  -- by proposals of any tickets
  abbrev pub Grows : (m now : Moment w) → Type 0
  Grows m now = QueueGrows (λ u. Unit {0}) m.state now.state

  grows_launches : (m now : Moment w) (t : ℕ) (r : Requested B C I) (left : List (Named B)) (b parent : Named B) → IsElsewhere m.state t
      → Launches w m t r left b parent now → GrowsBy t m now
  grows_launches m now t r left b parent hand l =
      let now_r : Requested B C I = record r { phase = Executing m.state.next_job (record { blocks = left; parent = b }) } in
      grows_moved m.state now.state t now_r hand
      (ap (λ (v : Tables B C I R U). v.requests) l.state ∙ ap (λ (v : Tables B C I R U). put v.requests t now_r) l.starts.state)
      (ap (λ (v : Tables B C I R U). v.queued) l.state ∙ ap (λ (v : Tables B C I R U). v.queued) l.starts.state)
      (ap (λ (v : Tables B C I R U). v.recovered) l.state ∙ ap (λ (v : Tables B C I R U). v.recovered) l.starts.state)

  -- a request that goes along its path
  pub grows_advances : (m now : Moment w) (t : ℕ) (r : Requested B C I) (path : Path B) → IsElsewhere m.state t → Advances w m t r path now
      → GrowsBy t m now
  grows_advances m now t r path hand (arrives all c) = grows_concludes w m now t r Valid hand c
  grows_advances m now t r path hand (leaves reaches off c) = grows_concludes w m now t r Invalid hand c
  grows_advances m now t r path hand (joins j reaches on unknown has becomes) = grows_put w m now t r _ hand becomes
  grows_advances m now t r path hand (starts reaches on unknown unrun known launches) = grows_launches m now t r _ _ _ hand launches
  grows_advances m now t r path hand (misses reaches on unknown unrun known c) = grows_concludes w m now t r Invalid hand c

  -- one that acquires what it needs
  pub grows_acquires : (stored_now : ℕ → Option (Named B)) (m now : Moment w) (t : ℕ) (r : Requested B C I) → IsElsewhere m.state t
      → Acquires w stored_now m t r now → GrowsBy t m now
  grows_acquires stored_now m now t r hand (valid needs c) = grows_concludes w m now t r Valid hand c
  grows_acquires stored_now m now t r hand (invalid needs c) = grows_concludes w m now t r Invalid hand c
  grows_acquires stored_now m now t r hand (asks digest needs left becomes) =
      grows_moved m.state now.state t (record r { phase = Fetching m.state.next_fetch }) hand (ap (λ (n : Moment w). n.state.requests) becomes)
      (ap (λ (n : Moment w). n.state.queued) becomes) (ap (λ (n : Moment w). n.state.recovered) becomes)
  grows_acquires stored_now m now t r hand (waits needs becomes) = grows_put w m now t r _ hand becomes
  grows_acquires stored_now m now t r hand (runs {path = path} needs advances) = grows_advances m now t (requested r.request) path hand advances

  -- one that follows the end of the run that it waited for
  pub grows_follows : (b : Named B) (how : How) (r : Released B C I) (m now : Moment w) → IsElsewhere m.state r.ticket → Follows w b how r m now
      → GrowsBy r.ticket m now
  grows_follows b how r m now hand (given_up up c) = grows_concludes w m now r.ticket (requested r.request) Invalid hand c
  grows_follows b how r m now hand (at_boundary is becomes) = grows_put w m now r.ticket (requested r.request) _ hand becomes
  grows_follows b how r m now hand (failed not_held off c) = grows_concludes w m now r.ticket (requested r.request) Invalid hand c
  grows_follows b how r m now hand (parked pause there becomes) = grows_put w m now r.ticket (requested r.request) _ hand becomes
  grows_follows b how r m now hand (goes_on up not_held pause there rule) = grows_advances m now r.ticket (requested r.request) r.path hand rule

  -- the end of a run, and what follows it
  pub grows_settles : (m now : Moment w) (j : ℕ) (o : Option U) → IsOrderly m.state → Settles w m j o now → Grows m now
  grows_settles m now j o orderly s =
      let done : Moment w = s.done in
      let mid : Moment w = record done { state = released j done.state } in
      let first : Grows m done = grows_beside (λ u. Unit {0}) m.state done.state (ap (λ (n : Moment w). n.state.requests) s.ends.becomes)
      (ap (λ (n : Moment w). n.state.queued) s.ends.becomes)
      (ap (λ (n : Moment w). n.state.recovered) s.ends.becomes) in
      let in_order : IsOrderly done.state = first.orderly orderly in
      let out : Grows done mid = grows_kept (λ u. Unit {0}) done.state mid.state (λ e. not (is_on j e.1.phase)) refl refl refl in
      let hands : All (λ (r : Released B C I). IsElsewhere mid.state r.ticket) (released_on j done.state.requests) =
      All-released j (λ (r : Released B C I). IsElsewhere mid.state r.ticket) done.state.requests (λ k d l path is.
      let e = get_or done.state.requests k d in
      let there = each_at done.state.requests in_order.ascending k d l in
      let gone : not (is_on j e.1.phase) ≡ false = rw (is, eq-eqb j j refl) refl in
      record {
        absent = rw (at_not_on j done.state.requests e.0 in_order.ascending, there, gone) refl;
        not_queued = in_order.once e.0 (rw there refl);
      }) in
      grows_then (λ u. Unit {0}) m.state done.state now.state first (grows_then (λ u. Unit {0}) done.state mid.state now.state out
      (grows_in_turn w (Follows w s.block s.how) ticket_of (λ r n l. grows_follows s.block s.how r n l)
      (released_on j done.state.requests) mid now hands
      (released_apart j done.state.requests in_order.ascending) s.follow))

  -- a turn of a run, and what its answer leads to
  pub grows_steps : (count : R → ℕ) (m now : Moment w) (j : ℕ) → IsOrderly m.state → Steps w count m j now → Grows m now
  grows_steps count m now j orderly steps = by steps.running steps.answer steps.turns steps.settles
    where
      turned : (running : Tables B C I R U) (answer : Result (Moved (Option U)) AppFault) → TurnsRun w count m.members j m.state running answer
          → QueueGrows (λ u. Unit {0}) m.state running
      turned running answer turns = grows_beside (λ u. Unit {0}) m.state running (ap (λ (v : Tables B C I R U). v.requests) turns.state)
          (ap (λ (v : Tables B C I R U). v.queued) turns.state)
          (ap (λ (v : Tables B C I R U). v.recovered) turns.state)

      by : (running : Tables B C I R U) (answer : Result (Moved (Option U)) AppFault) → TurnsRun w count m.members j m.state running answer
          → SettlesBy w (record m { state = running }) j answer now → Grows m now
      by running (Ok Pending) turns settles = subst (λ (n : Moment w). Grows m n) (sym settles) (turned running (Ok Pending) turns)
      by running (Ok (Done o)) turns settles =
          let first : QueueGrows (λ u. Unit {0}) m.state running = turned running (Ok (Done o)) turns in
          grows_then (λ u. Unit {0}) m.state running now.state first
          (grows_settles (record m { state = running }) now j o (first.orderly orderly) settles)
      by running (Err fault) turns settles = absurd settles

  -- a resume
  pub grows_resumes : (stored_now : ℕ → Option (Named B)) (m now : Moment w) → IsOrderly m.state → Resumes w stored_now m now → Grows m now
  grows_resumes stored_now m now orderly r =
      let mid : Moment w = r.mid in
      let out : Grows m (unparked w m) = grows_kept (λ u. Unit {0}) m.state (unparked w m).state
      (λ e. is_none (parked_path e.1.phase)) refl refl refl in
      let hands : All (λ (x : Released B C I). IsElsewhere (unparked w m).state x.ticket) (parked_in m.state.requests) =
      All-parked (λ (x : Released B C I). IsElsewhere (unparked w m).state x.ticket) m.state.requests (λ k d l path is.
      let e = get_or m.state.requests k d in
      let there = each_at m.state.requests orderly.ascending k d l in
      let gone : is_none (parked_path e.1.phase) ≡ false = rw is refl in
      record {
        absent = rw (
          at_kept (λ phase. is_none (parked_path phase)) (λ j way. refl) (λ f. refl) m.state.requests e.0 orderly.ascending,
          there,
          gone,
        ) refl;
        not_queued = orderly.once e.0 (rw there refl);
      }) in
      let along : Grows (unparked w m) mid =
      grows_in_turn w (GoesAlong w) ticket_of (λ x n l. grows_advances n l x.ticket (requested x.request) x.path) (parked_in m.state.requests)
      (unparked w m) mid hands
      (parked_apart m.state.requests orderly.ascending) r.along in
      let first : Grows m mid = grows_then (λ u. Unit {0}) m.state (unparked w m).state mid.state out along in
      let in_order : IsOrderly mid.state = first.orderly orderly in
      let left : Grows mid (unsettled w mid) = grows_kept (λ u. Unit {0}) mid.state (unsettled w mid).state
      (λ e. not (is_unacquired e.1.phase)) refl refl refl in
      let in_hand : All (λ (e : ℕ × Requested B C I). IsElsewhere (unsettled w mid).state e.0) (unacquired_in mid.state.requests) = (λ k d l.
      let e = get_or (unacquired_in mid.state.requests) k d in
      let unacquired = filter_passes (λ (x : ℕ × Requested B C I). is_unacquired x.1.phase) mid.state.requests k d l in
      let there = All-filter (λ (x : ℕ × Requested B C I). is_unacquired x.1.phase) (λ x. at mid.state.requests x.0 ≡ Some x.1) mid.state.requests
      (each_at mid.state.requests in_order.ascending) k d l in
      let gone : not (is_unacquired e.1.phase) ≡ false = rw unacquired refl in
      record {
        absent = rw (
          at_kept (λ phase. not (is_unacquired phase)) (λ j way. refl) (λ f. refl) mid.state.requests e.0 in_order.ascending,
          there,
          gone,
        ) refl;
        not_queued = in_order.once e.0 (rw there refl);
      }) in
      let anew : Grows (unsettled w mid) now =
      grows_in_turn w (AcquiresAnew w stored_now) (λ e. e.0) (λ e n l. grows_acquires stored_now n l e.0 (requested e.1.request))
      (unacquired_in mid.state.requests) (unsettled w mid) now in_hand
      (AllPairs-filter (λ (e f : ℕ × Requested B C I). e.0 ≢ f.0) (λ e. is_unacquired e.1.phase) mid.state.requests
      (entries_apart mid.state.requests in_order.ascending)) r.anew in
      grows_then (λ u. Unit {0}) m.state mid.state now.state first (grows_then (λ u. Unit {0}) mid.state (unsettled w mid).state now.state left anew)

  -- the answer of a fetch
  pub grows_fetched : (stored_now : ℕ → Option (Named B)) (m now : Moment w) (fetch : ℕ) (answer : Option (Named B)) → IsOrderly m.state
      → IsFetched w stored_now m fetch answer now → Grows m now
  grows_fetched stored_now m now fetch answer orderly fetched = by fetched
    where
      served : (t : ℕ) → Grows m (serving w m t)
      served t = grows_kept (λ u. Unit {0}) m.state (taken m.state t) (λ e. not (e.0 == t)) refl refl refl

      hand : (t : ℕ) (r : Requested B C I) → Fetches m.state fetch t r → IsElsewhere (serving w m t).state t
      hand t r f = record { absent = at_gone m.state.requests t; not_queued = orderly.once t (rw (f.there) refl) }

      one : (t : ℕ) → GrowsBy t (serving w m t) now → Grows m now
      one t g = grows_then (λ u. Unit {0}) m.state (taken m.state t) now.state (served t) (grows_any (λ u. u ≡ t) (taken m.state t) now.state g)

      by : IsFetched w stored_now m fetch answer now → Grows m now
      by (found t r b f is rule) = one t (grows_acquires stored_now (serving w m t) now t (with_block r b) (hand t r f) rule)
      by (awaits t r f is verification becomes) = one t (grows_put w (serving w m t) now t r Waiting (hand t r f) becomes)
      by (declines t r f is proposal rule) = one t (grows_concludes w (serving w m t) now t r Invalid (hand t r f) rule)
      by (dead off is) = subst (λ (n : Moment w). Grows m n) (sym is) (grows_beside (λ u. Unit {0}) m.state m.state refl refl refl)
