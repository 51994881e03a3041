-- After a restart the machine is up, whether it was up or down before.
use Rattle.std.proofs.Common.{◌++◌, ◌∷◌, [], ℕ, List, All, Option, sym, ap, ◌∙◌, subst, append_assoc}
use Rattle.stateful_base.specs.Anchor.{anchor_by}
use Rattle.stateful_base.specs.Names.{Named}
use Rattle.stateful_base.specs.declared.floor.Floor.{Floor}
use Rattle.stateful_db.specs.Laws.{Laws}
use Rattle.stateful_history.specs.Joined.{TrueIsEarned}
use Rattle.stateful_history.specs.Met.{TrueNames}
use Rattle.stateful_history.specs.Past.{Past, Came, after}
use Rattle.stateful_history.specs.Stops.{NothingLive}
use Rattle.stateful_history.specs.Honest.{StoresHeights}
use Rattle.stateful_history.specs.declared.event.Event.TheVariants.{Restart}
use Rattle.stateful_history.specs.declared.mark.Mark.{Mark}
use Rattle.stateful_history.specs.declared.mark.Mark.TheVariants.{Opened}
use Rattle.stateful_history.proofs.Marks.{after-append, EachMark-append}
use Rattle.stateful_exec_model.specs.Workings.{Workings}
use Rattle.stateful_exec_laws.specs.Setting.{setting}
use Rattle.stateful_exec_laws.specs.Storing.{IsStoredNow}
use Rattle.stateful_loop_model.specs.Clearing.{IsCleared}
use Rattle.stateful_loop_model.specs.Moments.{Moment}
use Rattle.stateful_loop_model.specs.Opening.{Opens}
use Rattle.stateful_loop_laws.specs.Down.{IsEnding, IsCounted}
use Rattle.stateful_loop_laws.specs.Durability.{IsDurablySaid}
use Rattle.stateful_loop_laws.specs.EventBehind.{RestartedBehind}
use Rattle.stateful_loop_laws.specs.OpenedBehind.{OpenedBehind}
use Rattle.stateful_loop_laws.specs.Stands.{IsUpAt}
use Rattle.stateful_loop_laws.proofs.events.EndingMarks.{earned-ends, said-ends}
use Rattle.stateful_loop_laws.proofs.events.Restarting.{restarts-up}
use Rattle.stateful_loop_laws.proofs.events.RuleUp.{holds_at}

module _ {B C I P R D H G U : Type 0} (w : Workings B C I P R D H G U) (laws : Laws w.kind) (stored stored_now : ℕ → Option (Named B))
    (floor : Floor) (keep : List ℕ) (p : Past B C I) (m mid now : Moment w) where
  abbrev q : Past B C I
  q = Came (Restart floor keep) ∷ p

  -- All live work is ended, all that went on is dropped, and the databases are opened; each block of the store is one of its height.
  pub event-restarts : IsCounted w p m → (over : List (Mark B)) → All IsEnding over → StoresHeights w.header stored
      → IsStoredNow stored p stored_now → TrueNames (setting w stored) p → NothingLive (after (Came (Restart floor keep) ∷ p) over)
      → IsCleared w (record m { marks = m.marks ++ over }) mid → (o : Opens w stored_now floor keep mid now)
      → RestartedBehind w stored o.opening.at.1 (Came (Restart floor keep) ∷ p) m now
  event-restarts counted over ending heights stored_is names nothing cleared o = record {
    more = over ++ Opened (anchor_by w.header o.block) ∷ [];
    marks_are = opened.marks_are ∙ ap (λ marks. marks ++ Opened (anchor_by w.header o.block) ∷ []) cleared.rest.2 ∙ append_assoc m.marks over
        (Opened (anchor_by w.header o.block) ∷ []);
    earned = EachMark-append (TrueIsEarned (setting w stored) o.opening.at.1) q over (Opened (anchor_by w.header o.block) ∷ [])
        (earned-ends (setting w stored) o.opening.at.1 q over ending) opened.earned;
    said = EachMark-append (IsDurablySaid w) q over (Opened (anchor_by w.header o.block) ∷ []) (said-ends w q over ending) opened.said;
    up = opened.up;
    stands = stands;
    holds = holds_at w stored o.opening.at.1 q m now
        (after q (over ++ Opened (anchor_by w.header o.block) ∷ [])) stands.loop.first stands.loop.origin stands.executes
        stands.loop.keeping;
  }
    where
      opened : OpenedBehind w stored o.opening.at.1 (after q over) mid now (anchor_by w.header o.block)
      opened = restarts-up w laws stored stored_now floor keep p m mid now counted (m.marks ++ over) over ending heights stored_is
          names nothing cleared o

      stands : IsUpAt w stored o.opening.at.1 (after q (over ++ Opened (anchor_by w.header o.block) ∷ [])) now
      stands = subst (λ past. IsUpAt w stored o.opening.at.1 past now)
          (sym (after-append q over (Opened (anchor_by w.header o.block) ∷ []))) opened.stands
