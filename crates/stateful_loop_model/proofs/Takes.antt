-- What becomes of what is taken.
use Rattle.std.proofs.Common.{◌≡◌, ◌<◌, ◌≤◌, ◌∷◌, ◌++◌, [], ℕ, List, Option, Some, refl, ◌∙◌, subst}
use Rattle.stateful_base.specs.Names.{Named}
use Rattle.stateful_base.specs.declared.number.Height.{Height}
use Rattle.stateful_durability.specs.Durability.{Coverage, with_duplicate}
use Rattle.stateful_history.specs.declared.mark.JobKind.TheVariants as job
use Rattle.stateful_history.specs.declared.mark.Mark.{Mark}
use Rattle.stateful_history.specs.declared.mark.Mark.TheVariants as mark
use Rattle.stateful_exec_model.specs.Building.{Proposes}
use Rattle.stateful_exec_model.specs.Building.Proposes.{starts, declines}
use Rattle.stateful_exec_model.specs.Finalizing.{IsRedelivered}
use Rattle.stateful_exec_model.specs.Moments as exec
use Rattle.stateful_exec_walk.specs.Request.{ticket_by}
use Rattle.stateful_exec_tables.specs.Tables.{requested}
use Rattle.stateful_exec_model.specs.Rules.{Acquires}
use Rattle.stateful_exec_model.specs.Workings.{Workings}
use Rattle.stateful_exec_model.specs.declared.building.Building.{Building}
use Rattle.stateful_exec_model.specs.declared.building.BuildStart.{BuildStart}
use Rattle.stateful_exec_model.specs.declared.building.BuildStart.TheVariants.{Started, Declined}
use Rattle.stateful_exec_walk.specs.declared.request.Request.{Request}
use Rattle.stateful_loop_model.specs.Moments.{Executing, Moment, moment}
use Rattle.stateful_loop_model.specs.Rules.{Schedules, Builds, DoesMessage}
use Rattle.stateful_loop_model.specs.Rules.Builds.{starts as builds, declines as builds_none}
use Rattle.stateful_loop_model.specs.Rules.DoesMessage.{acknowledges, holds}
use Rattle.stateful_loop_model.specs.declared.message.Message.TheVariants.{Finalized}
use Rattle.stateful_loop_model.specs.declared.tables.Processing.{Processing}

module _ {B C I P R D H G U : Type 0} (w : Workings B C I P R D H G U) (old new : Executing B C I R D H U) (l : Processing B C I G) (m m' : w.kind.Members) (n n' : w.Ids) (k k' : List (Mark B)) where
  abbrev before : Moment w
  before = moment w old l m n k

  abbrev after : Moment w
  after = moment w new l m' n' k'

  pub scheduled : (stored : ℕ → Option (Named B)) (request : Request B C I) → (new.build ≡ old.build) × (new.front ≡ old.front)
      → Acquires w stored (exec.moment w old.state m n k) (ticket_by request) (requested request) (exec.moment w new.state m' n' k')
      → Schedules w stored request before after
  scheduled stored request works acquires = record {
    then = exec.moment w new.state m' n' k';
    acquires = acquires;
    becomes = rw (works.0, works.1) refl;
  }

  module _ (t : ℕ) (provider : P) (members : m' ≡ m) (front : new.front ≡ old.front) (started : BuildStart) (proposes : Proposes w t provider m n n' old.state new.state old.build new.build started) where
    pub begun : (j : ℕ) (b : Building B C D) → started ≡ Started j → Some b ≡ new.build → k' ≡ k ++ mark.Started j job.Build b.parent.digest ∷ [] → Builds w provider t before after
    begun j b is there marks = go (subst (λ (s : BuildStart). Proposes w t provider m n n' old.state new.state old.build new.build s) is proposes)
      where
        go : Proposes w t provider m n n' old.state new.state old.build new.build (Started j) → Builds w provider t before after
        go (starts drawn s) =
            let same = there ∙ s.build_is in
            let parent : b.parent ≡ s.proposal.ancestry.first = cc in
            builds s (rw (members, front, marks, drawn, parent) refl)

    pub declined : started ≡ Declined → k' ≡ k ++ mark.Declined t ∷ [] → Builds w provider t before after
    declined is marks = go (subst (λ (s : BuildStart). Proposes w t provider m n n' old.state new.state old.build new.build s) is proposes)
      where
        go : Proposes w t provider m n n' old.state new.state old.build new.build Declined → Builds w provider t before after
        go (declines none state same drawn) = builds_none none (rw (members, front, marks, state, same, drawn) refl)

-- A block that was applied comes again.
module _ {B C I P R D H G U : Type 0} (w : Workings B C I P R D H G U) (stored : ℕ → Option (Named B)) (e : Executing B C I R D H U) (l : Processing B C I G) (m : w.kind.Members) (n : w.Ids) (k : List (Mark B)) (t : ℕ) (b : Named B) (past : IsRedelivered w.header e.state.anchor b) (height : Height) (height_is : height ≡ record { 0 = w.header.height b.block }) where
  pub acknowledged_again : (k' : List (Mark B)) → height.0 ≤ l.durability.durable → k' ≡ k ++ mark.Acknowledged t height ∷ []
      → DoesMessage w stored (moment w e l m n k) (moment w e l m n k') (Finalized t b)
  acknowledged_again k' durable marks = acknowledges past (subst (λ (h : Height). h.0 ≤ l.durability.durable) height_is durable) (rw (marks, height_is) refl)

  pub held_again : (d : Coverage) → l.durability.durable < height.0 → d ≡ record l.durability { held = with_duplicate l.durability.held height.0 t }
      → DoesMessage w stored (moment w e l m n k) (moment w e (record l { durability = d }) m n k) (Finalized t b)
  held_again d above is = holds past (subst (λ (h : Height). l.durability.durable < h.0) height_is above) (rw (is, height_is) refl)
