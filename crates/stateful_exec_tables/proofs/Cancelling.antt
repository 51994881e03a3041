-- Cancels of requests that wait for a run.
use Rattle.std.proofs.Common.{rules, ◌≡◌, ◌≢◌, ◌⊎◌, ◌==◌, not, ◌++◌, ◌∷◌, [], ℕ, List, Some, None, Result, Ok, Err, OnOk, filter, refl, sym, ◌∙◌}
use Rattle.std.proofs.lemmas.List.{append-nil}
use Rattle.stateful_history.specs.declared.mark.How.TheVariants.{Cancelled}
use Rattle.stateful_history.specs.declared.mark.Mark.{Mark}
use Rattle.stateful_history.specs.declared.mark.Mark.TheVariants as mark
use Rattle.stateful_table.specs.Table.{at, without}
use Rattle.stateful_exec_walk.specs.Path.{Path}
use Rattle.stateful_exec_tables.specs.Phase.{tickets_on}
use Rattle.stateful_exec_tables.specs.Tables.{taken}
use Rattle.stateful_exec_tables.specs.Cancelling.{IsIdle, idle, withdraws, leaves, ends, unqueued}
use Rattle.stateful_exec_tables.specs.Cancelling.{Cancels}
use Rattle.stateful_exec_tables.specs.declared.state.Tables.{Tables}
use Rattle.stateful_exec_tables.specs.declared.tables.Phase.{Phase}
use Rattle.stateful_exec_tables.specs.declared.tables.Phase.TheVariants.{Open, Waiting, Fetching, Executing, Parked}
use Rattle.stateful_exec_tables.specs.declared.tables.Requested.{Requested}

-- a cancel that makes these marks
abbrev pub HasCancelled : {B C I R U : Type 0} → (old new : Tables B C I R U) → ℕ → (before after : List (Mark B)) → Type 0
HasCancelled {B = B} old new t before after = (more : List (Mark B)) × Cancels old new t more × (after ≡ before ++ more)

module _ {B C I R U : Type 0} (old new : Tables B C I R U) (t : ℕ) (before : List (Mark B)) where
  pub unqueue : at old.requests t ≡ None
      → new ≡ record (taken old t) { queued = without old.queued t; recovered = filter (λ u. not (u == t)) old.recovered }
      → HasCancelled old new t before before
  unqueue none is = ([], unqueued none is refl, sym (append-nil before))

  pub withdrawn : (r : Requested B C I) (fetch : ℕ) → at old.requests t ≡ Some r → r.phase ≡ Fetching fetch → new ≡ taken old t
      → HasCancelled old new t before (before ++ mark.Withdrawn fetch ∷ [])
  withdrawn r fetch there phase is = (mark.Withdrawn fetch ∷ [], withdraws r fetch (record { there = there; fetching = phase }) is refl, refl)

  pub was_idle : (r : Requested B C I) → at old.requests t ≡ Some r → IsIdle r.phase → new ≡ taken old t → HasCancelled old new t before before
  was_idle r there is_idle is = ([], idle r there is_idle is refl, sym (append-nil before))

module _ {B C I R U : Type 0} (old new : Tables B C I R U) (t : ℕ) (before after : List (Mark B)) (r : Requested B C I) (j : ℕ) (path : Path B) where
  pub run_left : at old.requests t ≡ Some r → r.phase ≡ Executing j path
      → {T E : Type 0} (result : Result T E)
      → OnOk result ((tickets_on j (without old.requests t) ≢ [] → (new ≡ taken old t) × (after ≡ before))
      × (tickets_on j (without old.requests t) ≡ [] → (new ≡ record (taken old t) { runs = without old.runs j }) × (after ≡ before ++ mark.Ended j Cancelled ∷ [])))
      → OnOk result (HasCancelled old new t before after)
  run_left there phase (Err e) left = tt
  run_left there phase (Ok x) left = go (tickets_on j (without old.requests t)) refl
    where
      go : (waiting : List ℕ) → tickets_on j (without old.requests t) ≡ waiting → HasCancelled old new t before after
      go [] is = let done = left.1 is in (mark.Ended j Cancelled ∷ [], ends r j path there phase is done.0 refl, done.1)
      go (u ∷ us) is =
          let some : tickets_on j (without old.requests t) ≢ [] = (λ none. let no : u ∷ us ≡ [] = sym is ∙ none in cc) in
          let done = left.0 some in
          ([], leaves r j path there phase some done.0 refl, done.1 ∙ sym (append-nil before))

-- a phase that waits for nothing
pub is_idle : {B : Type 0} (phase : Phase B) → (phase ≡ Open) ⊎ ((phase ≡ Waiting) ⊎ ((path : Path B) × (phase ≡ Parked path))) → IsIdle phase
is_idle Open which = tt
is_idle Waiting which = tt
is_idle (Parked path) which = tt
is_idle (Fetching fetch) which = search rules
is_idle (Executing job path) which = search rules
