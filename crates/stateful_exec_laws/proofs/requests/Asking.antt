-- Requests stand for a longer past, where the item that is added leaves them as they are.
use Rattle.std.proofs.Common.{◌≡◌, inr, ℕ, List, ◌∷◌, Option, refl, ◌∙◌}
use Rattle.std.proofs.lemmas.List.Elements.{All-weaker}
use Rattle.stateful_base.specs.Names.{Named}
use Rattle.stateful_history.specs.Past.{Past, Item}
use Rattle.stateful_history.specs.Met.{Met}
use Rattle.stateful_history.specs.Live.{live_fetch, live_ticket}
use Rattle.stateful_history.specs.Asked.{asked_for, verified}
use Rattle.stateful_history.specs.Requests.{proposed}
use Rattle.stateful_exec_walk.specs.Path.{Path}
use Rattle.stateful_exec_model.specs.Workings.{Workings}
use Rattle.stateful_exec_walk.specs.declared.request.Request.{Request}
use Rattle.stateful_exec_walk.specs.declared.request.Request.TheVariants.{Verify, Recover}
use Rattle.stateful_exec_tables.specs.declared.tables.LiveRun.{LiveRun}
use Rattle.stateful_exec_tables.specs.declared.tables.Phase.{Phase}
use Rattle.stateful_exec_tables.specs.declared.tables.Phase.TheVariants.{Open, Fetching, Waiting, Executing, Parked}
use Rattle.stateful_exec_tables.specs.declared.tables.Requested.{Requested}
use Rattle.stateful_exec_laws.specs.Setting.{setting}
use Rattle.stateful_exec_laws.specs.Requesting.{brought_by, steps, IsRequestOf, IsWayOf, IsInPhase, IsStanding}

-- the item changes nothing of a ticket
pub record LeavesTicket {B C I : Type 0} (p : Past B C I) (x : Item B C I) (t : ℕ) : Type 0 where
  pub live : live_ticket t (x ∷ p) ≡ live_ticket t p
  pub verified : verified t (x ∷ p) ≡ verified t p
  pub proposed : proposed t (x ∷ p) ≡ proposed t p

-- the item changes nothing of a fetch
pub record LeavesFetch {B C I : Type 0} (p : Past B C I) (x : Item B C I) (f : ℕ) : Type 0 where
  pub live : live_fetch f (x ∷ p) ≡ live_fetch f p
  pub asked : asked_for f (x ∷ p) ≡ asked_for f p

module _ {B C I P R D H G U : Type 0} (w : Workings B C I P R D H G U) (stored : ℕ → Option (Named B)) (p : Past B C I) (x : Item B C I) where
  pub IsRequestOf-calm : (t : ℕ) (request : Request B C I) → LeavesTicket p x t → IsRequestOf w stored p t request → IsRequestOf w stored (x ∷ p) t request
  IsRequestOf-calm t (Verify u ancestry) same h = record { live = same.live ∙ h.live; verifies = same.verified ∙ h.verifies }
  IsRequestOf-calm t (Recover u context ancestry input kind) same h = record { live = same.live ∙ h.live; proposes = same.proposed ∙ h.proposes }

  pub IsWayOf-calm : (request : Request B C I) (path : Path B) → IsWayOf w stored p request path → IsWayOf w stored (x ∷ p) request path
  IsWayOf-calm request path h = record {
    met = All-weaker (Met (setting w stored) p) (Met (setting w stored) (x ∷ p)) (λ b m. inr m) (steps path) h.met;
    leads = h.leads;
    begins = h.begins;
  }

  module _ (runs : List (ℕ × LiveRun B R)) (t : ℕ) (request : Request B C I) where
    IsInPhase-calm : (phase : Phase B) → ((f : ℕ) → phase ≡ Fetching f → LeavesFetch p x f) → IsInPhase w stored p runs t request phase → IsInPhase w stored (x ∷ p) runs t request phase
    IsInPhase-calm Open fetch h = tt
    IsInPhase-calm (Fetching f) fetch h = let same = fetch f refl in (same.live ∙ h.0, same.asked ∙ h.1)
    IsInPhase-calm Waiting fetch h = h
    IsInPhase-calm (Executing j path) fetch h = (h.0, IsWayOf-calm request path h.1)
    IsInPhase-calm (Parked path) fetch h = IsWayOf-calm request path h

  -- a request stands for the longer past
  pub IsStanding-calm : (runs : List (ℕ × LiveRun B R)) (t : ℕ) (r : Requested B C I) → LeavesTicket p x t → ((f : ℕ) → r.phase ≡ Fetching f → LeavesFetch p x f)
      → IsStanding w stored p runs t r → IsStanding w stored (x ∷ p) runs t r
  IsStanding-calm runs t r ticket fetch h = record {
    own = h.own;
    asked = IsRequestOf-calm t r.request ticket h.asked;
    brought = All-weaker (Met (setting w stored) p) (Met (setting w stored) (x ∷ p)) (λ b m. inr m) (brought_by r.request) h.brought;
    met = All-weaker (Met (setting w stored) p) (Met (setting w stored) (x ∷ p)) (λ b m. inr m) r.acquired h.met;
    phase = IsInPhase-calm runs t r.request r.phase fetch h.phase;
  }
