-- How the blocks of builds are taken.
use Rattle.std.proofs.Common.{◌≡◌, ◌+◌, ◌++◌, ◌∷◌, [], ℕ, List, Option, Some, None, Result, Ok, Err, OnOk, IfErr, IsErrOf, refl, sym, ap, ◌∙◌, subst}
use Rattle.std.proofs.lemmas.List.{append_assoc}
use Rattle.stateful_base.specs.Causes.{Rose}
use Rattle.stateful_base.specs.Names.{Named}
use Rattle.stateful_base.specs.declared.outcome.Handoff.{Handoff}
use Rattle.stateful_base.specs.declared.outcome.Moved.{Moved}
use Rattle.stateful_base.specs.declared.outcome.Moved.TheVariants.{Pending, Done}
use Rattle.stateful_db.specs.Chain.{IsPoint}
use Rattle.stateful_db.specs.Works.{BuildOf, BuildEnds, Costs}
use Rattle.stateful_db.specs.declared.application.AppFault.{AppFault}
use Rattle.stateful_db.specs.declared.application.AppFault.TheVariants.{Failed}
use Rattle.stateful_db.specs.declared.application.ProposedBlock.{ProposedBlock}
use Rattle.stateful_history.specs.declared.mark.Decision.{Decision}
use Rattle.stateful_history.specs.declared.mark.Mark.{Mark}
use Rattle.stateful_history.specs.declared.mark.Mark.TheVariants as mark
use Rattle.stateful_exec_tables.specs.Errors.{error_of_app}
use Rattle.stateful_exec_model.specs.Workings.{Workings, Point}
use Rattle.stateful_exec_model.specs.Moments.{Moment, moment}
use Rattle.stateful_exec_model.specs.Built.{decided, IsBuilt, Gives, EndsBuild, FaultsGiven, HasTurn, IsLiveBuild, TurnsBuild, FaultsTurn, goes_on, ends, failed, ending}
use Rattle.stateful_exec_model.specs.declared.building.Building.{Building}
use Rattle.stateful_exec_tables.specs.declared.error.ExecError.{ExecError}
use Rattle.stateful_exec_tables.specs.declared.state.Tables.{Tables}

module _ {B C I P R D H G U : Type 0} (w : Workings B C I P R D H G U) (b : Building B C D) (old new : Tables B C I R U) (p : ProposedBlock B U) (block : Named B) where
  pub gives : (before mid after : List (Mark B)) (handed decision : Decision) (shared : Named B) → shared ≡ block → IsBuilt w b old.anchor p block old.cache new.cache → new ≡ record old { cache = new.cache }
      → decision ≡ decided b.kind handed → mid ≡ before ++ mark.Built b.job b.ticket shared ∷ [] → after ≡ mid ++ mark.Answered b.ticket decision block ∷ []
      → (members : w.kind.Members) (next : w.Ids) → Gives w b (moment w old members next before) p handed (moment w new members next after)
  gives before mid after handed decision shared same built rest decided_is made made_too members next = record {
    block = block;
    cache = new.cache;
    built = built;
    becomes =
        let all : after ≡ before ++ mark.Built b.job b.ticket block ∷ mark.Answered b.ticket (decided b.kind handed) block ∷ [] =
        made_too ∙ ap (λ ms. ms ++ mark.Answered b.ticket decision block ∷ []) (made ∙ ap (λ (x : Named B). before ++ mark.Built b.job b.ticket x ∷ []) same) ∙ append_assoc before (mark.Built b.job b.ticket block ∷ []) (mark.Answered b.ticket decision block ∷ [])
        ∙ ap (λ d. before ++ mark.Built b.job b.ticket block ∷ mark.Answered b.ticket d block ∷ []) decided_is in
        ap (λ (t : Tables B C I R U). moment w t members next after) rest ∙ ap (λ ms. moment w (record old { cache = new.cache }) members next ms) all;
  }

module _ {B C I P R D H G U : Type 0} (w : Workings B C I P R D H G U) (count : D → ℕ) (members : w.kind.Members) (next : w.Ids) (old : Tables B C I R U) (before : List (Mark B)) (build : Option (Building B C D)) (j : ℕ) (b : Building B C D) (turned : D) (there : Some b ≡ build) (job : b.job ≡ j) where
  abbrev m : Moment w
  m = moment w old members next before

  abbrev IsEnd : Moved (Handoff (ProposedBlock B U)) → Type 0
  IsEnd moved = (b' : BuildOf B C I P w.Ids w.States) (n : ℕ) (q : Point w) → w.works.building b.build b' n → w.kind.point members ≡ Some q → IsPoint q (b'.at ∷ b'.below)
      → BuildEnds w.works moved w.shows b' (w.works.building turned b' (n + 1))

  abbrev IsCost : Moved (Handoff (ProposedBlock B U)) → Type 0
  IsCost moved = (b' : BuildOf B C I P w.Ids w.States) (n : ℕ) (q : Point w) → w.works.building b.build b' n → w.kind.point members ≡ Some q → IsPoint q (b'.at ∷ b'.below)
      → Costs (w.works.build_cost b'.asked b'.at.1) moved n

  live : IsLiveBuild w build j b
  live = record { live = sym there; job = job }

  has_turn : (moved so : Moved (Handoff (ProposedBlock B U))) → moved ≡ so → IsEnd moved → IsCost moved → HasTurn w count members b.build turned (Ok so)
  has_turn moved so is end cost = record { ends = subst IsEnd is end; costs = subst IsCost is cost; failed = λ none. let k : Ok so ≡ Err Failed = none in cc }

  pub turned_on : (moved : Moved (Handoff (ProposedBlock B U))) → moved ≡ Pending → IsEnd moved → IsCost moved → TurnsBuild w count m build j m (Some (record b { build = turned }))
  turned_on moved is end cost = goes_on live (has_turn moved Pending is end cost) refl refl

  module _ (moved : Moved (Handoff (ProposedBlock B U))) (given : Handoff (ProposedBlock B U)) (is : moved ≡ Done given) (end : IsEnd moved) (cost : IsCost moved) {T : Type 0} where
    pub turned_out : (new : Tables B C I R U) (after : List (Mark B)) (result : Result T ExecError) (left : Option (Building B C D)) → left ≡ None
        → OnOk result ((ms : w.kind.Members) (n : w.Ids) → EndsBuild w (record b { build = turned }) (moment w old ms n before) given (moment w new ms n after))
        → OnOk result (TurnsBuild w count m build j (moment w new members next after) left)
    turned_out new after (Ok x) left none ended = ends live (has_turn moved (Done given) is end cost) (ended members next) none
    turned_out new after (Err e) left none ended = tt

    pub not_taken : (result : Result T ExecError) → IfErr result (FaultsGiven w (record b { build = turned }) old.anchor given old.cache) → IfErr result (FaultsTurn w count m build j)
    not_taken (Ok x) fault = tt
    not_taken (Err e) fault = ending live (has_turn moved (Done given) is end cost) fault

  abbrev refused : AppFault → Result (Moved (Handoff (ProposedBlock B U))) AppFault
  refused fault = Err fault

  pub not_turned : (fault : AppFault) → (IsErrOf (refused fault) Failed → Rose (count b.build) (count turned)) → FaultsTurn w count m build j (error_of_app fault)
  not_turned fault rose = failed live (record { ends = tt; costs = tt; failed = rose }) refl
