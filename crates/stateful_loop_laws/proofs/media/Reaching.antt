-- At which heights the databases can be opened again, after marks and events.
use Rattle.std.proofs.Common.{◌≡◌, ◌≤◌, ◌⊎◌, inl, inr, ℕ, true, false, List, [], ◌∷◌, All, Option, Some, None, MatchOption, refl, ◌∙◌, subst, arith}
use Rattle.std.proofs.lemmas.List.Elements.{All-head, All-tail}
use Rattle.stateful_base.specs.declared.anchor.Anchor.{Anchor}
use Rattle.stateful_history.specs.Durable.{durable, WasRecorded}
use Rattle.stateful_history.specs.Opening.{opening}
use Rattle.stateful_history.specs.Past.{Past, Came, Made, Cut, Tried, EachMark, after}
use Rattle.stateful_history.specs.Restarts.{IsUntouched, WasReached, IsUnopened, CanReopen}
use Rattle.stateful_history.specs.Stops.{IsRestart}
use Rattle.stateful_history.specs.declared.event.Event.{Event}
use Rattle.stateful_history.specs.declared.event.Event.TheVariants.{Restart}
use Rattle.stateful_history.specs.declared.mark.Mark.{Mark}
use Rattle.stateful_history.specs.declared.mark.Mark.TheVariants.{Opened, Converged, Pruned, Acknowledged, BarrierDone, Withdrawn, Ended, Declined, Dropped, Stopped}
use Rattle.stateful_exec_model.specs.Workings.{Workings}
use Rattle.stateful_loop_laws.specs.Down.{IsEnding}
use Rattle.stateful_loop_laws.specs.Durability.{IsDurablySaid}
use Rattle.stateful_loop_laws.specs.RuleMarks.{IsOfRule}

module _ {B C I : Type 0} where
  -- where nothing was opened before, there is no opening
  pub unopened-none : (p : Past B C I) → IsUnopened p → opening p ≡ None
  unopened-none [] h = refl
  unopened-none (Came (Restart floor keep) ∷ p) h = refl
  unopened-none (Made (Opened anchor) ∷ p) h = absurd h
  unopened-none (Made (Converged anchor) ∷ p) h = absurd h
  unopened-none (item ∷ p) h = unopened-none p h

  -- a height that is untouched isn't below the opening's
  untouched-above : (q : ℕ) (p : Past B C I) (first : Anchor) → IsUntouched q p → opening p ≡ Some first → first.height.0 ≤ q
  untouched-above q [] first h is = absurd h
  untouched-above q (Came (Restart floor keep) ∷ p) first h is = cc
  untouched-above q (Made (Opened anchor) ∷ p) first h is =
      let same : anchor ≡ first = search in subst (λ (a : Anchor). a.height.0 ≤ q) same h
  untouched-above q (Made (Converged anchor) ∷ p) first h is =
      let same : anchor ≡ first = search in subst (λ (a : Anchor). a.height.0 ≤ q) same h
  untouched-above q (Made (Pruned marshal target) ∷ p) first h is = untouched-above q p first h.1 is
  untouched-above q (Cut target ∷ p) first h is = untouched-above q p first h.1 is
  untouched-above q (Tried height ∷ p) first h is = untouched-above q p first h.1 is
  untouched-above q (item ∷ p) first h is = untouched-above q p first h is

  opening_mark : (p : Past B C I) (mark : Mark B) → IsOfRule mark → opening (Made mark ∷ p) ≡ opening p
  opening_mark p (Opened anchor) h = absurd h
  opening_mark p (Converged anchor) h = absurd h
  opening_mark p mark h = refl

  durable_mark : (p : Past B C I) (mark : Mark B) → IsOfRule mark → durable p ≤ durable (Made mark ∷ p)
  durable_mark p (Opened anchor) h = absurd h
  durable_mark p (Converged anchor) h = absurd h
  durable_mark p (BarrierDone k height true) h = omega arith
  durable_mark p (BarrierDone k height false) h = omega arith
  durable_mark p mark h = omega arith

  -- marks of rules leave what is durable so
  durable-after : (p : Past B C I) (marks : List (Mark B)) → All IsOfRule marks → durable p ≤ durable (after p marks)
  durable-after p [] each = omega arith
  durable-after p (mark ∷ marks) each =
      let one = durable_mark p mark (All-head IsOfRule mark marks each) in
      let rest = durable-after (Made mark ∷ p) marks (All-tail IsOfRule mark marks each) in
      omega (arith, one, rest)

  -- a height that was reached was so before an event other than a restart
  pub reached-came : (q : ℕ) (p : Past B C I) (e : Event B C I) → (IsRestart e → ⊥)
      → (WasReached q (Came e ∷ p) → WasReached q p) × (WasReached q p → WasReached q (Came e ∷ p))
  reached-came q p (Restart floor keep) on = absurd (on tt)
  reached-came q p e on = (λ h. h, λ h. h)

  -- and so was the opening
  pub opening-came : (p : Past B C I) (e : Event B C I) → (IsRestart e → ⊥) → opening (Came e ∷ p) ≡ opening p
  opening-came p (Restart floor keep) on = absurd (on tt)
  opening-came p e on = refl

  can-came : (q : ℕ) (p : Past B C I) (e : Event B C I) → (IsRestart e → ⊥) → CanReopen q (Came e ∷ p) → CanReopen q p
  can-came q p e on (inl reached) = inl ((reached-came q p e on).0 reached)
  can-came q p e on (inr none) = inr none

  can_then_came : (q : ℕ) (p : Past B C I) (e : Event B C I) → (IsRestart e → ⊥) → CanReopen q p → CanReopen q (Came e ∷ p)
  can_then_came q p e on (inl reached) = inl ((reached-came q p e on).1 reached)
  can_then_came q p e on (inr none) = inr none

  -- an event other than a restart neither takes nor gives
  pub CanReopen-came : (q : ℕ) (p : Past B C I) (e : Event B C I) → (IsRestart e → ⊥)
      → (CanReopen q (Came e ∷ p) → CanReopen q p) × (CanReopen q p → CanReopen q (Came e ∷ p))
  CanReopen-came q p e on = (can-came q p e on, can_then_came q p e on)

  can_mark : (q : ℕ) (p : Past B C I) (mark : Mark B) → IsOfRule mark → CanReopen q p → CanReopen q (Made mark ∷ p)
  can_mark q p (Opened anchor) h can = absurd h
  can_mark q p (Converged anchor) h can = absurd h
  can_mark q p (Pruned marshal target) h can = absurd h
  can_mark q p (Acknowledged t height) h (inl reached) = inl (inr reached)
  can_mark q p (Acknowledged t height) h (inr none) = inr none
  can_mark q p mark h (inl reached) = inl reached
  can_mark q p mark h (inr none) = inr none

  -- marks of rules take nothing
  pub CanReopen-after : (q : ℕ) (p : Past B C I) (marks : List (Mark B)) → All IsOfRule marks → CanReopen q p → CanReopen q (after p marks)
  CanReopen-after q p [] each can = can
  CanReopen-after q p (mark ∷ marks) each can =
      CanReopen-after q (Made mark ∷ p) marks (All-tail IsOfRule mark marks each)
      (can_mark q p mark (All-head IsOfRule mark marks each) can)

  reached_ending : (q : ℕ) (p : Past B C I) (mark : Mark B) → IsEnding mark → WasReached q (Made mark ∷ p) → WasReached q p
  reached_ending q p (Withdrawn f) h reached = reached
  reached_ending q p (Ended j how) h reached = reached
  reached_ending q p (Declined t) h reached = reached
  reached_ending q p (Dropped t) h reached = reached
  reached_ending q p Stopped h reached = reached
  reached_ending q p mark h reached = absurd h

  unopened_ending : (p : Past B C I) (mark : Mark B) → IsEnding mark → IsUnopened (Made mark ∷ p) → IsUnopened p
  unopened_ending p (Withdrawn f) h none = none
  unopened_ending p (Ended j how) h none = none
  unopened_ending p (Declined t) h none = none
  unopened_ending p (Dropped t) h none = none
  unopened_ending p Stopped h none = none
  unopened_ending p mark h none = absurd h

  -- marks by which live work ends, and that of a stop, give nothing
  pub reached-ends : (q : ℕ) (p : Past B C I) (marks : List (Mark B)) → All IsEnding marks → WasReached q (after p marks) → WasReached q p
  reached-ends q p [] each reached = reached
  reached-ends q p (mark ∷ marks) each reached =
      reached_ending q p mark (All-head IsEnding mark marks each)
      (reached-ends q (Made mark ∷ p) marks (All-tail IsEnding mark marks each) reached)

  unopened-ends : (p : Past B C I) (marks : List (Mark B)) → All IsEnding marks → IsUnopened (after p marks) → IsUnopened p
  unopened-ends p [] each none = none
  unopened-ends p (mark ∷ marks) each none =
      unopened_ending p mark (All-head IsEnding mark marks each)
      (unopened-ends (Made mark ∷ p) marks (All-tail IsEnding mark marks each) none)

  pub CanReopen-ends : (q : ℕ) (p : Past B C I) (marks : List (Mark B)) → All IsEnding marks → CanReopen q (after p marks) → CanReopen q p
  CanReopen-ends q p marks each (inl reached) = inl (reached-ends q p marks each reached)
  CanReopen-ends q p marks each (inr none) = inr (unopened-ends p marks each none.0, none.1)

module _ {B C I P R D H G U : Type 0} (w : Workings B C I P R D H G U) where
  -- where there is an opening, a height is reached by an acknowledgement alone
  reached_mark : (q : ℕ) (p : Past B C I) (mark : Mark B) (first : Anchor) → IsOfRule mark → IsDurablySaid w p mark → opening p ≡ Some first
      → WasReached q (Made mark ∷ p) → WasReached q p ⊎ ((first.height.0 ≤ q) × (q ≤ durable p))
  reached_mark q p (Opened anchor) first h said is reached = absurd h
  reached_mark q p (Converged anchor) first h said is reached = absurd h
  reached_mark q p (Pruned marshal target) first h said is reached = absurd h
  reached_mark q p (Acknowledged t height) first h said is (inl own) =
      let near : height.0 ≤ durable p =
      subst (λ (o : Option Anchor). MatchOption o (WasRecorded height.0 p) (λ anchor. height.0 ≤ durable p)) is said.3 in
      inr (untouched-above q p first own.1 is, omega (arith, near, own.0))
  reached_mark q p (Acknowledged t height) first h said is (inr reached) = inl reached
  reached_mark q p mark first h said is reached = inl reached

  -- after marks of rules that keep the rules of barriers and of acknowledgements
  pub reached-after : (q : ℕ) (p : Past B C I) (marks : List (Mark B)) (first : Anchor) → All IsOfRule marks → EachMark (IsDurablySaid w) p marks
      → opening p ≡ Some first → WasReached q (after p marks) → WasReached q p ⊎ ((first.height.0 ≤ q) × (q ≤ durable (after p marks)))
  reached-after q p [] first each said is reached = inl reached
  reached-after q p (mark ∷ marks) first each said is reached =
      go (reached-after q (Made mark ∷ p) marks first (All-tail IsOfRule mark marks each) said.1
      (opening_mark p mark (All-head IsOfRule mark marks each) ∙ is) reached)
    where
      last : durable p ≤ durable (after (Made mark ∷ p) marks)
      last = durable-after p (mark ∷ marks) each

      one : WasReached q p ⊎ ((first.height.0 ≤ q) × (q ≤ durable p))
          → WasReached q p ⊎ ((first.height.0 ≤ q) × (q ≤ durable (after (Made mark ∷ p) marks)))
      one (inl before) = inl before
      one (inr own) = inr (own.0, omega (arith, own.1, last))

      go : WasReached q (Made mark ∷ p) ⊎ ((first.height.0 ≤ q) × (q ≤ durable (after (Made mark ∷ p) marks)))
          → WasReached q p ⊎ ((first.height.0 ≤ q) × (q ≤ durable (after (Made mark ∷ p) marks)))
      go (inl there) = one (reached_mark q p mark first (All-head IsOfRule mark marks each) said.0 is there)
      go (inr own) = inr own
