-- Execution stands for a longer past, where what is added says nothing of it, or tells of a ticket that it doesn't have.
use Rattle.std.proofs.Common.{◌≡◌, ◌≢◌, inl, inr, ℕ, ◌∷◌, Option, None, Some, IfSome, ◌∙◌}
use Rattle.stateful_base.specs.Names.{Named}
use Rattle.stateful_history.specs.Anchors.{applied, anchor_of}
use Rattle.stateful_history.specs.Finalizations.{begun}
use Rattle.stateful_history.specs.Met.{Brings, Met, TrueNames}
use Rattle.stateful_history.specs.Past.{Past, Item}
use Rattle.stateful_history.specs.Setting.{Setting}
use Rattle.stateful_exec_model.specs.Workings.{Workings}
use Rattle.stateful_exec_model.specs.declared.building.Building.{Building}
use Rattle.stateful_exec_laws.specs.Setting.{setting}
use Rattle.stateful_exec_laws.specs.Building.{IsElsewhere, BuildStands}
use Rattle.stateful_exec_laws.specs.Standing.{TablesStand}
use Rattle.stateful_exec_laws.proofs.requests.Asking.{LeavesTicket}
use Rattle.stateful_exec_laws.proofs.requests.Calm.{IsCalm, LeavesJob}
use Rattle.stateful_exec_laws.proofs.ended.ConcludeStands.{TellsOf, TablesStand-told}
use Rattle.stateful_exec_laws.proofs.pauses.EventsPass.{BuildStands-event, BuildStands-tells, FrontStands-event}
use Rattle.stateful_exec_laws.proofs.runs.Spared.{TablesStand-spared}
use Rattle.stateful_exec_laws.proofs.requests.Tells.{IsSilent, silent-Spares}
use Rattle.stateful_loop_model.specs.Moments.{Moment}
use Rattle.stateful_loop_laws.specs.Execution.{Executes}
use Rattle.stateful_loop_laws.proofs.places.Places.{IsPlaced-calm, placed-names}

module _ {B C I S T : Type 0} (s : Setting B S T) (p : Past B C I) (x : Item B C I) where
  -- names are true with an item that brings no block
  pub names-on : ((b : Named B) → Brings x b → ⊥) → TrueNames s p → TrueNames s (x ∷ p)
  names-on none names b c has_b has_c = names b c (before b has_b) (before c has_c)
    where
      before : (d : Named B) → Met s (x ∷ p) d → Met s p d
      before d (inl new) = absurd (none d new)
      before d (inr old) = old

module _ {B C I P R D H G U : Type 0} (w : Workings B C I P R D H G U) (stored : ℕ → Option (Named B)) (base : w.States) where
  -- names are true where execution stands
  pub Executes-names : (p : Past B C I) (m : Moment w) → Executes w stored base p m → TrueNames (setting w stored) p
  Executes-names p m h = placed-names w stored base p h.points h.point m.next m.execution.state m.execution.front h.placed

  -- it stands at another moment of the same tables and ids, where the databases are where they were
  pub Executes-same : (p : Past B C I) (m now : Moment w) → now.execution ≡ m.execution → w.kind.point now.members ≡ w.kind.point m.members
      → now.next ≡ m.next → Executes w stored base p m → Executes w stored base p now
  Executes-same p m now execution place next h = record {
    points = h.points;
    point = h.point;
    located = place ∙ h.located;
    drawn = rw next h.drawn;
    tables = rw (execution, next) h.tables;
    builds = rw (execution, next) h.builds;
    fronts = rw (execution, next) h.fronts;
    placed = rw (execution, next) h.placed;
    alone = rw execution h.alone;
  }

  module _ (p : Past B C I) (x : Item B C I) (anchor_same : anchor_of w.header (x ∷ p) ≡ anchor_of w.header p)
      (applied_same : applied (x ∷ p) ≡ applied p) (begun_same : begun (x ∷ p) ≡ begun p) (names : TrueNames (setting w stored) (x ∷ p))
      (m : Moment w)
      (h : Executes w stored base p m) where
    -- it stands behind an item that says nothing of jobs and opens and finalizes nothing, where the tables and the build do
    pub Executes-calm : IsCalm (setting w stored) p x → ((j : ℕ) → LeavesJob p x j)
        → TablesStand w stored (x ∷ p) h.points h.point m.next m.execution.state
        → BuildStands w stored (x ∷ p) h.points m.next m.execution.state m.execution.build
        → Executes w stored base (x ∷ p) m
    Executes-calm calm jobs tables builds = record {
      points = h.points;
      point = h.point;
      located = h.located;
      drawn = h.drawn;
      tables = tables;
      builds = builds;
      fronts = FrontStands-event w stored p x jobs h.point m.next m.execution.state.anchor m.execution.front begun_same h.fronts;
      placed =
          IsPlaced-calm w stored base p x calm anchor_same applied_same names h.points h.point m.next m.execution.state m.execution.front h.placed;
      alone = h.alone;
    }

    -- behind what tells of a ticket that is in no table and that nothing is built for
    pub Executes-tells : (t : ℕ) → TellsOf (setting w stored) p x t → IsElsewhere m.execution.state t → IfSome m.execution.build (λ b. b.ticket ≢ t)
        → Executes w stored base (x ∷ p) m
    Executes-tells t tells out unbuilt =
        Executes-calm tells.calm tells.jobs
        (TablesStand-told w stored p h.points h.point m.next m.execution.state t h.tables x tells out.absent out.not_queued)
        (BuildStands-tells w stored p x tells.jobs h.points m.next m.execution.state m.execution.build t tells unbuilt h.builds)

    -- and behind what says nothing of execution
    pub Executes-silent : IsSilent (setting w stored) p x → Executes w stored base (x ∷ p) m
    Executes-silent silent =
        Executes-calm silent.calm silent.jobs
        (TablesStand-spared w stored p x h.points h.point m.next m.execution.state (silent-Spares w stored p x silent m.execution.state) h.tables)
        (BuildStands-event w stored p x silent.jobs h.points m.next m.execution.state m.execution.build silent.calm
        (tickets m.execution.build) h.builds)
      where
        tickets : (o : Option (Building B C D)) → IfSome o (λ b. LeavesTicket p x b.ticket)
        tickets None = tt
        tickets (Some b) = silent.tickets b.ticket
