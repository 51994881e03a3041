-- After a stop, and after an event in which a barrier broke, the machine is down.
use Rattle.std.proofs.Common.{◌≡◌, ◌++◌, ℕ, List, All, Option, sym, ap, ◌∙◌, subst, append_assoc}
use Rattle.stateful_base.specs.Names.{Named}
use Rattle.stateful_history.specs.Holding.{Holds}
use Rattle.stateful_history.specs.Joined.{TrueIsEarned}
use Rattle.stateful_history.specs.Past.{Past, after}
use Rattle.stateful_history.specs.Stops.{NothingLive}
use Rattle.stateful_history.specs.declared.mark.Mark.{Mark}
use Rattle.stateful_history.proofs.Marks.{after-append, EachMark-append}
use Rattle.stateful_exec_model.specs.Workings.{Workings}
use Rattle.stateful_exec_laws.specs.Setting.{setting}
use Rattle.stateful_loop_model.specs.Clearing.{IsCleared}
use Rattle.stateful_loop_model.specs.Moments.{Moment}
use Rattle.stateful_loop_laws.specs.Down.{IsEnding, IsDownAt}
use Rattle.stateful_loop_laws.specs.Durability.{IsDurablySaid}
use Rattle.stateful_loop_laws.specs.EventBehind.{EventBehind, StoppedBehind}
use Rattle.stateful_loop_laws.proofs.events.EndingMarks.{earned-ends, said-ends, Holds-ends}
use Rattle.stateful_loop_laws.proofs.events.GoesDown.{IsDownAt-stopped}

module _ {B C I P R D H G U : Type 0} (w : Workings B C I P R D H G U) (stored : ℕ → Option (Named B)) (base : w.States) (q : Past B C I)
    (m now last : Moment w) where
  -- It is, where marks that end what was live are made behind those of the event, and all that went on is dropped.
  pub event-down : (b : EventBehind w stored base q m now) (over : List (Mark B)) → All IsEnding over → NothingLive (after q (b.more ++ over))
      → IsCleared w (record now { marks = now.marks ++ over }) last → StoppedBehind w stored base q m last
  event-down b over ending nothing cleared =
      let both : after q (b.more ++ over) ≡ after (after q b.more) over = after-append q b.more over in
      let down : IsDownAt w (after (after q b.more) over) last =
      IsDownAt-stopped w (after q b.more) now last b.counted (now.marks ++ over) over ending cleared (subst NothingLive both nothing) in
      record {
        more = b.more ++ over;
        marks_are = cleared.rest.2 ∙ ap (λ marks. marks ++ over) b.marks_are ∙ append_assoc m.marks b.more over;
        earned = EachMark-append (TrueIsEarned (setting w stored) base) q b.more over b.earned
            (earned-ends (setting w stored) base (after q b.more) over ending);
        said = EachMark-append (IsDurablySaid w) q b.more over b.said (said-ends w (after q b.more) over ending);
        holds = subst (λ past. Holds (setting w stored) w.kind base past last.members) (sym both)
            (subst (λ members. Holds (setting w stored) w.kind base (after (after q b.more) over) members) (sym cleared.rest.0)
            (Holds-ends (setting w stored) base w.kind (after q b.more) over now.members ending b.holds));
        down = subst (λ past. IsDownAt w past last) (sym both) down;
      }
