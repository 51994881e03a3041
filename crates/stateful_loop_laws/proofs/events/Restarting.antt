-- A restart in whole: all live work is ended, all that went on is dropped, and the databases are opened.
use Rattle.std.proofs.Common.{◌≡◌, ◌∷◌, [], ℕ, List, All, Option, refl, ◌∙◌}
use Rattle.std.proofs.lemmas.List.Elements.{All-head, All-tail}
use Rattle.stateful_base.specs.Anchor.{anchor_by}
use Rattle.stateful_base.specs.Names.{Named}
use Rattle.stateful_base.specs.declared.floor.Floor.{Floor}
use Rattle.stateful_db.specs.Laws.{Laws}
use Rattle.stateful_history.specs.Canonical.{pruned_below}
use Rattle.stateful_history.specs.Met.{Brings, TrueNames}
use Rattle.stateful_history.specs.Opening.{opening}
use Rattle.stateful_history.specs.Past.{Past, Came, Made, after}
use Rattle.stateful_history.specs.Setting.{Setting}
use Rattle.stateful_history.specs.Stops.{NothingLive}
use Rattle.stateful_history.specs.Honest.{StoresHeights}
use Rattle.stateful_history.specs.declared.event.Event.TheVariants.{Restart}
use Rattle.stateful_history.specs.declared.mark.Mark.{Mark}
use Rattle.stateful_history.specs.declared.mark.Mark.TheVariants.{Withdrawn, Ended, Declined, Dropped, Stopped}
use Rattle.stateful_exec_model.specs.Workings.{Workings}
use Rattle.stateful_exec_laws.specs.Setting.{setting}
use Rattle.stateful_exec_laws.specs.Storing.{IsStoredNow}
use Rattle.stateful_loop_laws.specs.Down.{IsEnding, IsCounted}
use Rattle.stateful_loop_laws.specs.OpenedBehind.{OpenedBehind}
use Rattle.stateful_loop_laws.proofs.execution.Kept.{names-on}
use Rattle.stateful_loop_laws.proofs.events.GoesDown.{IsDownAt-restarts}
use Rattle.stateful_loop_laws.proofs.events.OpensUp.{opens-up}
use Rattle.stateful_loop_model.specs.Clearing.{IsCleared}
use Rattle.stateful_loop_model.specs.Moments.{Moment}
use Rattle.stateful_loop_model.specs.Opening.{Opens}

module _ {B C I : Type 0} where
  brings_none : (p : Past B C I) (mark : Mark B) → IsEnding mark → (b : Named B) → Brings {C = C} {I = I} (Made mark) b → ⊥
  brings_none p (Withdrawn f) is b new = new
  brings_none p (Ended j how) is b new = new
  brings_none p (Declined t) is b new = new
  brings_none p (Dropped t) is b new = new
  brings_none p Stopped is b new = new
  brings_none p mark is b new = is

  prunes_none : (p : Past B C I) (mark : Mark B) → IsEnding mark → pruned_below (Made mark ∷ p) ≡ pruned_below p
  prunes_none p (Withdrawn f) is = refl
  prunes_none p (Ended j how) is = refl
  prunes_none p (Declined t) is = refl
  prunes_none p (Dropped t) is = refl
  prunes_none p Stopped is = refl
  prunes_none p mark is = absurd is

  opens_none : (p : Past B C I) (mark : Mark B) → IsEnding mark → opening (Made mark ∷ p) ≡ opening p
  opens_none p (Withdrawn f) is = refl
  opens_none p (Ended j how) is = refl
  opens_none p (Declined t) is = refl
  opens_none p (Dropped t) is = refl
  opens_none p Stopped is = refl
  opens_none p mark is = absurd is

  -- marks by which live work ends leave what is pruned
  pub pruned-ends : (p : Past B C I) (marks : List (Mark B)) → All IsEnding marks → pruned_below (after p marks) ≡ pruned_below p
  pruned-ends p [] ending = refl
  pruned-ends p (mark ∷ marks) ending =
      pruned-ends (Made mark ∷ p) marks (All-tail IsEnding mark marks ending) ∙ prunes_none p mark (All-head IsEnding mark marks ending)

  -- and the opening, which is none after a restart
  pub opening-ends : (p : Past B C I) (marks : List (Mark B)) → All IsEnding marks → opening (after p marks) ≡ opening p
  opening-ends p [] ending = refl
  opening-ends p (mark ∷ marks) ending =
      opening-ends (Made mark ∷ p) marks (All-tail IsEnding mark marks ending) ∙ opens_none p mark (All-head IsEnding mark marks ending)

  -- and names are true with them
  pub names-ends : {S T : Type 0} (s : Setting B S T) (p : Past B C I) (marks : List (Mark B)) → All IsEnding marks → TrueNames s p
      → TrueNames s (after p marks)
  names-ends s p [] ending names = names
  names-ends s p (mark ∷ marks) ending names =
      names-ends s (Made mark ∷ p) marks (All-tail IsEnding mark marks ending)
      (names-on s p (Made mark) (brings_none p mark (All-head IsEnding mark marks ending)) names)

module _ {B C I P R D H G U : Type 0} (w : Workings B C I P R D H G U) (laws : Laws w.kind) (stored stored_now : ℕ → Option (Named B))
    (floor : Floor) (keep : List ℕ) (p : Past B C I) (m mid now : Moment w) (counted : IsCounted w p m) (marks more : List (Mark B))
    (ending : All IsEnding more) where
  abbrev q : Past B C I
  q = after (Came (Restart floor keep) ∷ p) more

  stored_behind : IsStoredNow stored p stored_now → IsStoredNow stored q stored_now
  stored_behind is h = rw (pruned-ends (Came (Restart floor keep) ∷ p) more ending) (is h)

  -- Whether the machine was up or down, it is up after a restart, over the states that the databases hold.
  pub restarts-up : StoresHeights w.header stored → IsStoredNow stored p stored_now → TrueNames (setting w stored) p → NothingLive q
      → IsCleared w (record m { marks = marks }) mid → (o : Opens w stored_now floor keep mid now)
      → OpenedBehind w stored o.opening.at.1 q mid now (anchor_by w.header o.block)
  restarts-up heights stored_is names nothing cleared o =
      opens-up w laws stored stored_now floor keep q mid now heights (stored_behind stored_is)
      (names-ends (setting w stored) (Came (Restart floor keep) ∷ p) more ending
      (names-on (setting w stored) p (Came (Restart floor keep)) (λ b new. new) names))
      (IsDownAt-restarts w p m mid counted marks more ending cleared floor keep nothing) o
