-- The run and the hook of a finalization, and the live build, are outstanding work.
use Rattle.std.proofs.Common.{◌≡◌, inl, inr, ℕ, Option, Some, None, refl, sym, subst}
use Rattle.stateful_base.specs.Names.{Named}
use Rattle.stateful_base.specs.declared.anchor.Anchor.{Anchor}
use Rattle.stateful_base.specs.declared.digest.Digest.{Digest}
use Rattle.stateful_history.specs.Asked.{verified}
use Rattle.stateful_history.specs.Jobs.{IsOutstandingFinalized, IsOutstandingHook, IsOutstandingBuild}
use Rattle.stateful_history.specs.Met.{Met}
use Rattle.stateful_history.specs.Past.{Past}
use Rattle.stateful_history.specs.Prunes.{PruneRule}
use Rattle.stateful_history.specs.States.{HasState}
use Rattle.stateful_history.specs.Telling.{telling_of}
use Rattle.stateful_history.specs.Waiting.{Waits, finalization, build}
use Rattle.stateful_exec_model.specs.Finalizing.{front_at}
use Rattle.stateful_exec_model.specs.Workings.{Workings, Point}
use Rattle.stateful_exec_model.specs.declared.building.Building.{Building}
use Rattle.stateful_exec_model.specs.declared.front.Stage.TheVariants.{Running, Hooking}
use Rattle.stateful_exec_tables.specs.declared.state.Tables.{Tables}
use Rattle.stateful_exec_laws.specs.Setting.{setting}
use Rattle.stateful_exec_laws.specs.Building.{IsBuilding, BuildStands}
use Rattle.stateful_exec_laws.specs.Fronting.{FrontStands}
use Rattle.stateful_exec_laws.proofs.front.Left.{begun-Met}

module _ {B C I P R D H G U : Type 0} (w : Workings B C I P R D H G U) (stored : ℕ → Option (Named B)) (base : w.States) (p : Past B C I) (point : Point w) (next : w.Ids) where
  module _ (anchor : Anchor) (b : Named B) (j : ℕ) where
    -- the run of the finalized block
    pub run-IsOutstanding : (run : R) → FrontStands w stored p point next anchor (front_at b (Running j run)) → HasState (setting w stored) base p anchor.digest point.1 → IsOutstandingFinalized (setting w stored) (telling_of w.works) base p j b
    run-IsOutstanding run f has = record {
      met = begun-Met (setting w stored) p b f.at_stage.0.begun_is;
      job = f.at_stage.1.job;
      state = point.1;
      has_state = subst (λ (d : Digest). HasState (setting w stored) base p d point.1) (sym f.at_stage.0.parent_is) has;
      unfinished = f.at_stage.1.unfinished;
    }

    -- its hook
    pub hook-IsOutstanding : (hook : H) → FrontStands w stored p point next anchor (front_at b (Hooking j hook)) → Met (setting w stored) p b → HasState (setting w stored) base p anchor.digest point.1 → IsOutstandingHook (setting w stored) (telling_of w.works) base p j b
    hook-IsOutstanding hook f met has = record {
      met = met;
      job = f.at_stage.1.job;
      state = point.1;
      has_state = subst (λ (a : Anchor). HasState (setting w stored) base p a.digest point.1) f.at_stage.0 has;
      unfinished = f.at_stage.1.unfinished;
    }

    -- while they are live, whatever is unanswered waits for them
    module _ (count : ℕ) (rule : Option (PruneRule _)) (t : ℕ) where
      pub run-Waits : (run : R) → FrontStands w stored p point next anchor (front_at b (Running j run)) → HasState (setting w stored) base p anchor.digest point.1 → Waits (setting w stored) (telling_of w.works) count rule base p t
      run-Waits run f has = finalization (inl (rw f.at_stage.0.begun_is refl)) (inl (j, b, inr (run-IsOutstanding run f has)))

      pub hook-Waits : (hook : H) → FrontStands w stored p point next anchor (front_at b (Hooking j hook)) → Met (setting w stored) p b → HasState (setting w stored) base p anchor.digest point.1 → Waits (setting w stored) (telling_of w.works) count rule base p t
      hook-Waits hook f met has = finalization (inr (j, b.digest, f.at_stage.1.job)) (inr (j, b, hook-IsOutstanding hook f met has))

  module _ (points : Digest → Point w) (v : Tables B C I R U) (b : Building B C D) (h : BuildStands w stored p points next v (Some b)) (has : HasState (setting w stored) base p b.parent.digest (points b.parent.digest).1) where
    abbrev building : IsBuilding w stored p points next v.anchor v.cache b
    building = h.each

    -- the live build
    pub build-IsOutstanding : IsOutstandingBuild (setting w stored) (telling_of w.works) base p b.job b.ticket (record { kind = b.kind; context = b.context; parent = b.parent; input = h.each.input })
    build-IsOutstanding = record {
      proposal = building.proposal;
      job = building.job;
      state = (points b.parent.digest).1;
      has_state = has;
      unfinished = building.unfinished;
    }

    -- each request to build waits for it
    pub build-Waits : (count : ℕ) (rule : Option (PruneRule _)) (t : ℕ) → verified t p ≡ None → Waits (setting w stored) (telling_of w.works) count rule base p t
    build-Waits count rule t off = build off (b.job, b.ticket, _, build-IsOutstanding)
