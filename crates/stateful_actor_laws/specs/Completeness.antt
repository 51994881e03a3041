-- Which events are refused for reasons outside of the machine alone.
use Rattle.std.specs.Prelude.{◌≡◌, ◌∷◌, ◌<◌, ◌^◌, ℕ, Option, Some}
use Rattle.sha2.specs.Sha256.{sha256}
use Rattle.stateful_base.specs.Names.{Named}
use Rattle.stateful_base.specs.declared.outcome.Handoff.{Handoff}
use Rattle.stateful_history.specs.Jobs.{IsLiveJob}
use Rattle.stateful_history.specs.Lawful.{handed_block, IsLawful, LawfulSince}
use Rattle.stateful_history.specs.Met.{TrueNames}
use Rattle.stateful_history.specs.Past.{Past, Came, Made}
use Rattle.stateful_history.specs.Requests.{Proposal, asked_by, IsLiveProposal}
use Rattle.stateful_history.specs.States.{HasState}
use Rattle.stateful_history.specs.Telling.{telling_of}
use Rattle.stateful_history.specs.declared.event.Event.{Event}
use Rattle.stateful_history.specs.declared.event.Event.TheVariants.{Turn}
use Rattle.stateful_history.specs.declared.mark.JobKind.TheVariants.{Build}
use Rattle.stateful_history.specs.declared.mark.Mark.TheVariants.{Built}
use Rattle.stateful_exec_model.specs.Workings.{Workings}
use Rattle.stateful_exec_laws.specs.Setting.{setting}
use Rattle.stateful_loop_laws.specs.Execution.{NamesBehind}
use Rattle.stateful_loop_model.specs.Intake.{Counts, TakesIn}
use Rattle.stateful_loop_model.specs.Moments.{Moment}
use Rattle.stateful_actor_laws.specs.Machine.{numbered}

module _ {B C I P R D H G U : Type 0} (w : Workings B C I P R D H G U)
    (stored : ℕ → Option (Named B)) (base : w.States) (p : Past B C I) where
  -- names are true with whatever block a build of this job may give for a live request, under the
  -- SHA-256 of its bytes
  abbrev pub NamesBuilt : ℕ → Type 0
  NamesBuilt j = (t : ℕ) (r : Proposal B C I) (before : w.States) (given : Handoff B) (b : Named B)
      → IsLiveProposal t p r
      → IsLiveJob j Build r.parent.digest p
      → HasState (setting w stored) base p r.parent.digest before
      → w.works.gives (asked_by r) before given
      → handed_block given ≡ Some b.block
      → b.digest.0 ≡ sha256 (w.header.bytes b.block)
      → TrueNames (setting w stored) (Made (Built j t b) ∷ Came (Turn j) ∷ p)

  -- so it is with whatever block a build may give that the event turns
  abbrev pub IsBuiltNamed : Event B C I → Type 0
  IsBuiltNamed (Turn j) = NamesBuilt j
  IsBuiltNamed event = Unit {0}

  -- What an event and the world are trusted with: each event since the last restart was lawful, and
  -- so is this one; names are true with it, with the marks of its intake, and with whatever block a
  -- build may give that it turns.
  pub record ComesLawfully (stored_now : ℕ → Option (Named B)) (counts : Counts R D H)
      (m : Moment w) (event : Event B C I) : Type 0 where
    pub since : LawfulSince (setting w stored) (telling_of w.works) w.round_of base
        (numbered w.kind.count) p
    pub lawful : IsLawful (setting w stored) (telling_of w.works) w.round_of base p
        (numbered w.kind.count) event
    pub named : TrueNames (setting w stored) (Came event ∷ p)
    pub taken : (now : Moment w)
        → TakesIn w stored_now counts m now event
        → NamesBehind w stored base (Came event ∷ p) m now
    pub built : IsBuiltNamed event
