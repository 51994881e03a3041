-- The rules on marks of barriers and of acknowledgements, one by one.
use Rattle.std.proofs.Common.{List, [], ◌∷◌}
use Rattle.stateful_history.specs.Barriers.{BarrierIsOver, GoodIsInOrder}
use Rattle.stateful_history.specs.Durable.{GoodIsFlushed, AcknowledgedIsDurable}
use Rattle.stateful_history.specs.Finalizations.{AcknowledgedIsApplied}
use Rattle.stateful_history.specs.Past.{Past, Made, EachMark}
use Rattle.stateful_history.specs.declared.mark.Mark.{Mark}
use Rattle.stateful_exec_model.specs.Workings.{Workings}
use Rattle.stateful_loop_laws.specs.Durability.{IsDurablySaid}

-- a rule that follows from another one
pub EachMark-weaker : {B C I : Type 0} (Rule Weaker : Past B C I → Mark B → Type 0) → ((q : Past B C I) (mark : Mark B) → Rule q mark → Weaker q mark)
    → (p : Past B C I) (marks : List (Mark B)) → EachMark Rule p marks → EachMark Weaker p marks
EachMark-weaker Rule Weaker follows p [] each = tt
EachMark-weaker Rule Weaker follows p (mark ∷ marks) each = (follows p mark each.0, EachMark-weaker Rule Weaker follows (Made mark ∷ p) marks each.1)

module _ {B C I P R D H G U : Type 0} (w : Workings B C I P R D H G U) (p : Past B C I) (marks : List (Mark B)) where
  -- the marks keep each of the rules
  pub record AreDurablySaid : Type 0 where
    pub over : EachMark (BarrierIsOver w.header) p marks
    pub flushed : EachMark (GoodIsFlushed w.header w.kind.count) p marks
    pub in_order : EachMark GoodIsInOrder p marks
    pub durable : EachMark AcknowledgedIsDurable p marks
    pub applied : EachMark (AcknowledgedIsApplied w.header) p marks

  -- where each mark keeps all of them
  pub AreDurablySaid-each : EachMark (IsDurablySaid w) p marks → AreDurablySaid
  AreDurablySaid-each said = record {
    over = EachMark-weaker (IsDurablySaid w) (BarrierIsOver w.header) (λ q mark s. s.0) p marks said;
    flushed = EachMark-weaker (IsDurablySaid w) (GoodIsFlushed w.header w.kind.count) (λ q mark s. s.1) p marks said;
    in_order = EachMark-weaker (IsDurablySaid w) GoodIsInOrder (λ q mark s. s.2) p marks said;
    durable = EachMark-weaker (IsDurablySaid w) AcknowledgedIsDurable (λ q mark s. s.3) p marks said;
    applied = EachMark-weaker (IsDurablySaid w) (AcknowledgedIsApplied w.header) (λ q mark s. s.4) p marks said;
  }
