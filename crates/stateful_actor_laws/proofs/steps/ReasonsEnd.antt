-- The marks by which all live work ends have their reasons: a proposal is declined since the machine stops or starts.
use Rattle.std.proofs.Common.{◌≡◌, ◌∷◌, [], inl, inr, ℕ, List, All, map, Option, Some, MatchOption, get_or, sym, subst}
use Rattle.std.proofs.lemmas.List.Elements.{All-head, All-tail, All-same, All-append, All-map, All-weaker, Contains-get_or}
use Rattle.stateful_base.specs.Names.{Named}
use Rattle.stateful_history.specs.Declines.{MayDecline}
use Rattle.stateful_history.specs.Past.{Past, Made, EachMark}
use Rattle.stateful_history.specs.Requests.{Proposal, proposed}
use Rattle.stateful_history.specs.Stops.{IsStopped}
use Rattle.stateful_history.specs.Telling.{telling_of}
use Rattle.stateful_history.specs.declared.event.Event.{Event}
use Rattle.stateful_history.specs.declared.mark.How.TheVariants.{Cancelled}
use Rattle.stateful_history.specs.declared.mark.Mark.{Mark}
use Rattle.stateful_history.specs.declared.mark.Mark.TheVariants.{Withdrawn, Ended, Declined, Dropped}
use Rattle.stateful_exec_model.specs.Workings.{Workings}
use Rattle.stateful_actor_register.specs.Ends.{EndsAll}
use Rattle.stateful_exec_laws.specs.Setting.{setting}
use Rattle.stateful_loop_laws.specs.Reasons.{HasItsReason}

module _ {B C I : Type 0} where
  -- the mark ends live work, and where it declines a request, this asked to build
  abbrev EndsAt : Past B C I → Mark B → Type 0
  EndsAt p (Withdrawn f) = Unit {0}
  EndsAt p (Ended j how) = Unit {0}
  EndsAt p (Declined t) = (r : Proposal B C I) × (proposed t p ≡ Some r)
  EndsAt p (Dropped t) = Unit {0}
  EndsAt p mark = ⊥

  later : (p : Past B C I) (other mark : Mark B) → EndsAt p mark → EndsAt (Made other ∷ p) mark
  later p other (Declined t) h = h
  later p other mark h = h

  -- so it is with each mark by which all live work ends
  ends_at : (p : Past B C I) (marks : List (Mark B)) → EndsAll p marks → All (EndsAt p) marks
  ends_at p marks e = All-same (EndsAt p) marks _ e.are
      (All-append (EndsAt p) _ (map (λ (t : ℕ). Dropped t) e.others)
      (All-append (EndsAt p) _ (map (λ (t : ℕ). Declined t) e.proposals)
      (All-append (EndsAt p) (map (λ (f : ℕ). Withdrawn f) e.fetches) (map (λ (j : ℕ). Ended j Cancelled) e.jobs)
      (All-map (EndsAt p) (λ (f : ℕ). Withdrawn f) e.fetches (λ k d l. tt))
      (All-map (EndsAt p) (λ (j : ℕ). Ended j Cancelled) e.jobs (λ k d l. tt)))
      (All-map (EndsAt p) (λ (t : ℕ). Declined t) e.proposals (λ k d l.
      let asked = e.each_builds (get_or e.proposals k d) (Contains-get_or e.proposals k d l) in (asked.0, asked.1.proposes))))
      (All-map (EndsAt p) (λ (t : ℕ). Dropped t) e.others (λ k d l. tt)))

module _ {B C I P R D H G U : Type 0} (w : Workings B C I P R D H G U) (stored : ℕ → Option (Named B)) (base : w.States)
    (event : Event B C I) (marks : List (Mark B)) (stopped : IsStopped event marks) where
  reason_at : (p : Past B C I) (mark : Mark B) → EndsAt p mark → HasItsReason w stored base event marks p mark
  reason_at p (Withdrawn f) h = (tt, tt)
  reason_at p (Ended j how) h = (tt, tt)
  reason_at p (Declined t) h = (
    tt,
    subst (λ (o : Option (Proposal B C I)). MatchOption o ⊥ (λ r. MayDecline (setting w stored) (telling_of w.works) base event marks p t r))
        (sym h.1) (inr (inl stopped)),
  )
  reason_at p (Dropped t) h = (tt, tt)
  reason_at p mark h = absurd h

  each_reason : (ends : List (Mark B)) (p : Past B C I) → All (EndsAt p) ends → EachMark (HasItsReason w stored base event marks) p ends
  each_reason [] p h = tt
  each_reason (mark ∷ ends) p h = (
    reason_at p mark (All-head (EndsAt p) mark ends h),
    each_reason ends (Made mark ∷ p) (All-weaker (EndsAt p) (EndsAt (Made mark ∷ p)) (λ x k. later p mark x k) ends (All-tail (EndsAt p) mark ends h)),
  )

  -- Each of them has its reason in an entry in which the machine stops or starts.
  pub HasItsReason-ends : (p : Past B C I) (ends : List (Mark B)) → EndsAll p ends → EachMark (HasItsReason w stored base event marks) p ends
  HasItsReason-ends p ends e = each_reason ends p (ends_at p ends e)
