-- False verdicts and declines have their reasons: the rule on both, and what is told of a request that ends.
use Rattle.std.proofs.Common.{◌≢◌, ℕ, List, Option, MatchOption, inl, inr, refl, sym, subst}
use Rattle.stateful_base.specs.Names.{Named}
use Rattle.stateful_base.specs.declared.anchor.Anchor.{Anchor}
use Rattle.stateful_history.specs.Canonical.{IsCanonical}
use Rattle.stateful_history.specs.Declines.{MayDecline, DeclinedHasReason}
use Rattle.stateful_history.specs.Past.{Past, EachMark}
use Rattle.stateful_history.specs.Reasons.{HasReason, FalseHasReason}
use Rattle.stateful_history.specs.Requests.{Proposal}
use Rattle.stateful_history.specs.Telling.{telling_of}
use Rattle.stateful_history.specs.declared.event.Event.{Event}
use Rattle.stateful_history.specs.declared.mark.Mark.{Mark}
use Rattle.stateful_exec_model.specs.Moments.{Moment}
use Rattle.stateful_exec_tables.specs.Tables.{told}
use Rattle.stateful_exec_model.specs.Rules.{Concludes}
use Rattle.stateful_exec_model.specs.Workings.{Workings}
use Rattle.stateful_exec_walk.specs.declared.request.Request.{Request}
use Rattle.stateful_exec_walk.specs.declared.request.Request.TheVariants.{Verify, Recover}
use Rattle.stateful_exec_walk.specs.declared.request.Verdict.TheVariants as verdict
use Rattle.stateful_exec_tables.specs.declared.tables.Requested.{Requested}
use Rattle.stateful_exec_laws.specs.Setting.{setting}
use Rattle.stateful_exec_laws.specs.Requesting.{first_of, IsRequestOf}
use Rattle.stateful_exec_laws.proofs.requests.KeptMarks.{KeepsBehind}
use Rattle.stateful_exec_laws.proofs.reasons.Stuck.{IsStuck, HasReason-stuck, IsOutOfReach-stuck}

module _ {B C I P R D H G U : Type 0} (w : Workings B C I P R D H G U) (stored : ℕ → Option (Named B)) (base : w.States) (event : Event B C I) (marks : List (Mark B)) where
  -- a false verdict has its reason, and so has a declined proposal
  abbrev pub HasItsReason : Past B C I → Mark B → Type 0
  HasItsReason p mark = FalseHasReason (setting w stored) base p mark × DeclinedHasReason (setting w stored) (telling_of w.works) base event marks p mark

  -- the request may end badly here: its block may be judged false, or it may be declined
  abbrev pub MayEnd : Past B C I → ℕ → Request B C I → Type 0
  MayEnd p t (Verify u ancestry) = HasReason (setting w stored) base p ancestry.first
  MayEnd p t (Recover u context ancestry input kind) =
      MayDecline (setting w stored) (telling_of w.works) base event marks p t (record { kind = kind; context = context; parent = ancestry.first; input = input })

  module _ (p : Past B C I) (t : ℕ) where
    told-ended : (request : Request B C I) → IsRequestOf w stored p t request → MayEnd p t request → EachMark HasItsReason p (told t request verdict.Invalid)
    told-ended (Verify u ancestry) asked ends = ((subst (λ (o : Option (Named B)). MatchOption o ⊥ (λ b. HasReason (setting w stored) base p b)) (sym asked.verifies) ends, tt), tt)
    told-ended (Recover u context ancestry input kind) asked ends =
        ((tt, subst (λ (o : Option (Proposal B C I)). MatchOption o ⊥ (λ r. MayDecline (setting w stored) (telling_of w.works) base event marks p t r)) (sym asked.proposes) ends), tt)

    told-valid : (request : Request B C I) → EachMark HasItsReason p (told t request verdict.Valid)
    told-valid (Verify u ancestry) = ((tt, tt), tt)
    told-valid (Recover u context ancestry input kind) = tt

    -- a request that ends badly does so by right
    pub concludes-ended : (m : Moment w) (r : Requested B C I) (now : Moment w) → IsRequestOf w stored p t r.request → MayEnd p t r.request → Concludes w m t r verdict.Invalid now → KeepsBehind w HasItsReason p m now
    concludes-ended m r now asked ends is = rw is (record { more = _; marks_are = refl; each = told-ended r.request asked ends })

    -- and one that ends well makes neither mark
    pub concludes-valid : (m : Moment w) (r : Requested B C I) (now : Moment w) → Concludes w m t r verdict.Valid now → KeepsBehind w HasItsReason p m now
    concludes-valid m r now is = rw is (record { more = _; marks_are = refl; each = told-valid r.request })

    -- a request whose block is stuck may end badly, where that is neither final nor the anchor
    pub MayEnd-stuck : (anchor : Anchor) (request : Request B C I) → (first_of request).digest ≢ anchor.digest → (IsCanonical (setting w stored) p (first_of request) → ⊥) → IsStuck w stored base p anchor (first_of request) → MayEnd p t request
    MayEnd-stuck anchor (Verify u ancestry) other not_final stuck = HasReason-stuck w stored base p anchor ancestry.first other not_final stuck
    MayEnd-stuck anchor (Recover u context ancestry input kind) other not_final stuck = inr (inr (inr (inl (IsOutOfReach-stuck w stored base p anchor ancestry.first stuck))))
