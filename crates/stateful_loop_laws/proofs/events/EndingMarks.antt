-- Marks by which live work ends are no verdicts, barriers or acknowledgements, and leave what the databases hold.
use Rattle.std.proofs.Common.{◌≡◌, ◌∷◌, [], List, All, Option, Some, None, MatchOption, refl, sym, ap, ◌∙◌, subst}
use Rattle.std.proofs.lemmas.List.Elements.{All-head, All-tail}
use Rattle.stateful_base.specs.declared.anchor.Anchor.{Anchor}
use Rattle.stateful_db.specs.Databases.{Databases}
use Rattle.stateful_history.specs.Anchors.{applied}
use Rattle.stateful_history.specs.Durable.{durable}
use Rattle.stateful_history.specs.Holding.{HoldsSince, Holds}
use Rattle.stateful_history.specs.Joined.{TrueIsEarned}
use Rattle.stateful_history.specs.Past.{Past, Made, EachMark, after}
use Rattle.stateful_history.specs.Setting.{Setting}
use Rattle.stateful_history.specs.States.{fold, prefixes}
use Rattle.stateful_history.specs.declared.mark.Mark.{Mark}
use Rattle.stateful_history.specs.declared.mark.Mark.TheVariants.{Withdrawn, Ended, Declined, Dropped, Stopped}
use Rattle.stateful_exec_model.specs.Workings.{Workings}
use Rattle.stateful_loop_laws.specs.Down.{IsEnding}
use Rattle.stateful_loop_laws.specs.Durability.{IsDurablySaid}
use Rattle.stateful_loop_laws.proofs.events.Restarting.{opening-ends}

module _ {B C I : Type 0} where
  -- a rule that each such mark keeps
  each_ending : (Rule : Past B C I → Mark B → Type 0) → ((p : Past B C I) (mark : Mark B) → IsEnding mark → Rule p mark)
      → (p : Past B C I) (marks : List (Mark B)) → All IsEnding marks → EachMark Rule p marks
  each_ending Rule keeps p [] ending = tt
  each_ending Rule keeps p (mark ∷ marks) ending =
      (keeps p mark (All-head IsEnding mark marks ending), each_ending Rule keeps (Made mark ∷ p) marks (All-tail IsEnding mark marks ending))

  applies_none : (p : Past B C I) (mark : Mark B) → IsEnding mark → (applied (Made mark ∷ p) ≡ applied p) × (durable (Made mark ∷ p) ≡ durable p)
  applies_none p (Withdrawn f) is = (refl, refl)
  applies_none p (Ended j how) is = (refl, refl)
  applies_none p (Declined t) is = (refl, refl)
  applies_none p (Dropped t) is = (refl, refl)
  applies_none p Stopped is = (refl, refl)
  applies_none p mark is = absurd is

  -- what was applied, and the durable height
  pub applied-ends : (p : Past B C I) (marks : List (Mark B)) → All IsEnding marks
      → (applied (after p marks) ≡ applied p) × (durable (after p marks) ≡ durable p)
  applied-ends p [] ending = (refl, refl)
  applied-ends p (mark ∷ marks) ending =
      let later = applied-ends (Made mark ∷ p) marks (All-tail IsEnding mark marks ending) in
      let one = applies_none p mark (All-head IsEnding mark marks ending) in
      (later.0 ∙ one.0, later.1 ∙ one.1)

  module _ {S T : Type 0} (s : Setting B S T) (base : S) where
    -- none is a true verdict
    pub earned-ends : (p : Past B C I) (marks : List (Mark B)) → All IsEnding marks → EachMark (TrueIsEarned s base) p marks
    earned-ends = each_ending (TrueIsEarned s base) one
      where
        one : (p : Past B C I) (mark : Mark B) → IsEnding mark → TrueIsEarned s base p mark
        one p (Withdrawn f) is = tt
        one p (Ended j how) is = tt
        one p (Declined t) is = tt
        one p (Dropped t) is = tt
        one p Stopped is = tt
        one p mark is = absurd is

    -- the databases hold what was applied still
    pub Holds-ends : {Ids : Type 0} (d : Databases Ids S T) (p : Past B C I) (marks : List (Mark B)) (m : d.Members) → All IsEnding marks
        → Holds s d base p m → Holds s d base (after p marks) m
    Holds-ends d p marks m ending holds =
        subst (λ (o : Option Anchor). MatchOption o (Unit {0}) (λ a. HoldsSince s d base (after p marks) m a)) (sym (opening-ends p marks ending))
        (since _ holds)
      where
        since : (o : Option Anchor) → MatchOption o (Unit {0}) (λ a. HoldsSince s d base p m a)
            → MatchOption o (Unit {0}) (λ a. HoldsSince s d base (after p marks) m a)
        since None h = tt
        since (Some a) h =
            let same = applied-ends p marks ending in
            record {
              point = h.point;
              here = h.here;
              state = ap (λ blocks. fold s (Some base) blocks) same.0 ∙ h.state;
              origin = h.origin;
              keeps = λ i low. subst (λ blocks. d.Keeps m i (h.origin i) (prefixes s (Some base) blocks)) (sym same.0) (h.keeps i low);
              durable = λ i low. let height = same.1 in let old = h.durable i low in rw height old;
            }

module _ {B C I P R D H G U : Type 0} (w : Workings B C I P R D H G U) where
  -- none is of a barrier, and none acknowledges
  pub said-ends : (p : Past B C I) (marks : List (Mark B)) → All IsEnding marks → EachMark (IsDurablySaid w) p marks
  said-ends = each_ending (IsDurablySaid w) one
    where
      one : (p : Past B C I) (mark : Mark B) → IsEnding mark → IsDurablySaid w p mark
      one p (Withdrawn f) is = (tt, tt, tt, tt, tt)
      one p (Ended j how) is = (tt, tt, tt, tt, tt)
      one p (Declined t) is = (tt, tt, tt, tt, tt)
      one p (Dropped t) is = (tt, tt, tt, tt, tt)
      one p Stopped is = (tt, tt, tt, tt, tt)
      one p mark is = absurd is
