-- Requests that wait still abstain after a pause and after a cancel.
use Rattle.std.proofs.Common.{◌≡◌, ◌≤◌, ℕ, List, [], ◌∷◌, Option, Some, map}
use Rattle.std.proofs.lemmas.List.Elements.{All-map, All-weaker}
use Rattle.stateful_base.specs.Names.{Named}
use Rattle.stateful_history.specs.Anchors.{tip_of}
use Rattle.stateful_history.specs.Fetches.{Abstains}
use Rattle.stateful_history.specs.Past.{Past, Came, Made, after}
use Rattle.stateful_history.specs.declared.event.Event.TheVariants.{Cancel}
use Rattle.stateful_history.specs.declared.mark.Mark.{Mark}
use Rattle.stateful_history.specs.declared.mark.Mark.TheVariants.{Withdrawn, Began}
use Rattle.stateful_exec_pause.specs.Boundary.{Boundary}
use Rattle.stateful_exec_tables.specs.Cancelling.{Cancels}
use Rattle.stateful_exec_tables.specs.Cancelling.{idle, withdraws, leaves, ends, unqueued}
use Rattle.stateful_exec_tables.specs.Pausing.{Pauses}
use Rattle.stateful_exec_tables.specs.Phase.{unfetched, dropped}
use Rattle.stateful_exec_model.specs.Workings.{Workings}
use Rattle.stateful_exec_tables.specs.declared.state.Tables.{Tables}
use Rattle.stateful_exec_tables.specs.declared.tables.Phase.{Phase}
use Rattle.stateful_exec_tables.specs.declared.tables.Phase.TheVariants.{Open, Fetching, Waiting, Executing, Parked}
use Rattle.stateful_exec_tables.specs.declared.tables.Requested.{Requested}
use Rattle.stateful_table.specs.Table.{without}
use Rattle.stateful_exec_laws.specs.Setting.{setting}
use Rattle.stateful_exec_laws.specs.Requesting.{first_of, AllAbstain}
use Rattle.stateful_exec_laws.proofs.runs.Removing.{All-without}
use Rattle.stateful_exec_laws.proofs.pauses.Begins.{abstains-began}

-- what waits without its fetch waited before
waits_before : {B : Type 0} (phase : Phase B) → unfetched phase ≡ Waiting → phase ≡ Waiting
waits_before Open is = absurd (cc)
waits_before (Fetching f) is = absurd (cc)
waits_before Waiting is = is
waits_before (Executing j path) is = absurd (cc)
waits_before (Parked path) is = absurd (cc)

module _ {B C I P R D H G U : Type 0} (w : Workings B C I P R D H G U) (stored : ℕ → Option (Named B)) where
  abstains-withdrawn : (t : ℕ) (b : Named B) (p : Past B C I) (fs : List ℕ) → Abstains (setting w stored) t p b → Abstains (setting w stored) t (after p (map (λ f. Withdrawn f) fs)) b
  abstains-withdrawn t b p [] h = h
  abstains-withdrawn t b p (f ∷ fs) h = abstains-withdrawn t b (Made (Withdrawn f) ∷ p) fs h

  -- after a pause
  pub AllAbstain-paused : (boundary : Option Boundary) (p : Past B C I) (old new : Tables B C I R U) (marks : List (Mark B)) → Pauses boundary old new marks → AllAbstain w stored p old.requests → AllAbstain w stored (after p marks) new.requests
  AllAbstain-paused boundary p old new marks pauses h = rw (pauses.state, pauses.marks_are)
      (All-map (λ (e : ℕ × Requested B C I). e.1.phase ≡ Waiting → Abstains (setting w stored) e.0 (after p (map (λ f. Withdrawn f) pauses.fetches)) (first_of e.1.request)) dropped old.requests
      (All-weaker (λ (e : ℕ × Requested B C I). e.1.phase ≡ Waiting → Abstains (setting w stored) e.0 p (first_of e.1.request))
      (λ e. unfetched e.1.phase ≡ Waiting → Abstains (setting w stored) e.0 (after p (map (λ f. Withdrawn f) pauses.fetches)) (first_of e.1.request))
      (λ e abstains is. abstains-withdrawn e.0 (first_of e.1.request) p pauses.fetches (abstains (waits_before e.1.phase is))) old.requests h))

  -- after a pause for the finalization of a block that is no lower than the anchor, which is the tip
  pub AllAbstain-finalizing : (p : Past B C I) (ticket : ℕ) (b : Named B) (boundary : Boundary) (old new : Tables B C I R U) (marks : List (Mark B)) → tip_of w.header p ≡ Some old.anchor → old.anchor.height.0 ≤ w.header.height b.block
      → Pauses (Some boundary) old new marks → AllAbstain w stored p old.requests → AllAbstain w stored (after p (Began ticket b ∷ marks)) new.requests
  AllAbstain-finalizing p ticket b boundary old new marks tip up pauses h = AllAbstain-paused (Some boundary) (Made (Began ticket b) ∷ p) old new marks pauses
      (All-weaker (λ (e : ℕ × Requested B C I). e.1.phase ≡ Waiting → Abstains (setting w stored) e.0 p (first_of e.1.request))
      (λ e. e.1.phase ≡ Waiting → Abstains (setting w stored) e.0 (Made (Began ticket b) ∷ p) (first_of e.1.request))
      (λ e abstains is. abstains-began w stored p ticket b old.anchor tip up e.0 (first_of e.1.request) (abstains is)) old.requests h)

  left : (p : Past B C I) (t : ℕ) (requests : List (ℕ × Requested B C I)) → AllAbstain w stored p requests → AllAbstain w stored p (without requests t)
  left p t requests h = All-without (λ (e : ℕ × Requested B C I). e.1.phase ≡ Waiting → Abstains (setting w stored) e.0 p (first_of e.1.request)) requests t (λ k d l ne. h k d l)

  -- after a cancel
  pub AllAbstain-cancels : (p : Past B C I) (t : ℕ) (old new : Tables B C I R U) (marks : List (Mark B)) → Cancels old new t marks → AllAbstain w stored p old.requests → AllAbstain w stored (after (Came (Cancel t) ∷ p) marks) new.requests
  AllAbstain-cancels p t old new marks (idle r there is_idle new_is marks_is) h = rw (new_is, marks_is) (left p t old.requests h)
  AllAbstain-cancels p t old new marks (withdraws r f fetches new_is marks_is) h = rw (new_is, marks_is) (left p t old.requests h)
  AllAbstain-cancels p t old new marks (leaves r j path there executing others new_is marks_is) h = rw (new_is, marks_is) (left p t old.requests h)
  AllAbstain-cancels p t old new marks (ends r j path there executing last new_is marks_is) h = rw (new_is, marks_is) (left p t old.requests h)
  AllAbstain-cancels p t old new marks (unqueued none new_is marks_is) h = rw (new_is, marks_is) (left p t old.requests h)
