-- The marks by which all live work ends keep the rules on jobs and fetches, where the machine stops or starts.
use Rattle.std.proofs.Common.{◌≡◌, ◌∷◌, [], inl, inr, ℕ, true, None, Some, Option, List, All, MatchOption, refl, sym, subst}
use Rattle.std.proofs.lemmas.List.Elements.{All-nil, All-cons}
use Rattle.stateful_base.specs.Names.{Named}
use Rattle.stateful_history.specs.Jobs.{JobOf, started_for}
use Rattle.stateful_history.specs.Live.{live_job}
use Rattle.stateful_history.specs.Past.{Past, Made, EachMark}
use Rattle.stateful_history.specs.Runs.{fits, EndsAsItsKind}
use Rattle.stateful_history.specs.Stops.{IsStopped}
use Rattle.stateful_history.specs.declared.event.Event.{Event}
use Rattle.stateful_history.specs.declared.mark.How.{How}
use Rattle.stateful_history.specs.declared.mark.How.TheVariants.{Cancelled}
use Rattle.stateful_history.specs.declared.mark.JobKind.{JobKind}
use Rattle.stateful_history.specs.declared.mark.JobKind.TheVariants.{Candidate, Finalized, Build, Hook}
use Rattle.stateful_history.specs.declared.mark.Mark.{Mark}
use Rattle.stateful_history.specs.declared.mark.Mark.TheVariants.{Withdrawn, Ended, Declined, Dropped}
use Rattle.stateful_exec_model.specs.Workings.{Workings}
use Rattle.stateful_exec_laws.proofs.runs.TurnedStands.{live-started}
use Rattle.stateful_loop_laws.specs.Duly.{IsDulySaid}
use Rattle.stateful_loop_laws.proofs.duly.Unruled.{IsUnbuilt}
use Rattle.stateful_actor_laws.proofs.work.Named.{NamesWork}

-- a job of any kind may be cancelled
fits_cancelled : (kind : JobKind) → fits kind Cancelled ≡ true
fits_cancelled Candidate = refl
fits_cancelled Finalized = refl
fits_cancelled Build = refl
fits_cancelled Hook = refl

module _ {B C I : Type 0} where
  -- a live job ends as its kind where it is cancelled
  cancelled_so : (event : Event B C I) (p : Past B C I) (j : ℕ) → live_job j p ≡ true → EndsAsItsKind event p (Ended j Cancelled)
  cancelled_so event p j live = (live, go (started_for j p) refl, inl refl)
    where
      go : (o : Option JobOf) → started_for j p ≡ o → MatchOption o ⊥ (λ k. fits k.kind Cancelled ≡ true)
      go None is = absurd (live-started j p live is)
      go (Some k) is = fits_cancelled k.kind

  one_unbuilt : (p : Past B C I) (m : Mark B) → NamesWork p m → IsUnbuilt m
  one_unbuilt p (Ended j how) h = subst (λ (x : How). IsUnbuilt {B = B} (Ended j x)) (sym h.0) tt
  one_unbuilt p (Withdrawn f) h = tt
  one_unbuilt p (Declined t) h = tt
  one_unbuilt p (Dropped t) h = tt
  one_unbuilt p m h = absurd h

  -- no build ends by them, but by a cancel
  pub work-unbuilt : (p : Past B C I) (marks : List (Mark B)) → EachMark NamesWork p marks → All IsUnbuilt marks
  work-unbuilt p [] each = All-nil IsUnbuilt
  work-unbuilt p (m ∷ marks) each = All-cons IsUnbuilt m marks (one_unbuilt p m each.0) (work-unbuilt (Made m ∷ p) marks each.1)

module _ {B C I P R D H G U : Type 0} (w : Workings B C I P R D H G U) (stored : ℕ → Option (Named B)) (base : w.States)
    (event : Event B C I) (all : List (Mark B)) (stopped : IsStopped event all) where
  one_duly : (p : Past B C I) (m : Mark B) → NamesWork p m → IsDulySaid w stored base event all p m
  one_duly p (Withdrawn f) h = (tt, tt, tt, tt, λ rule. (h, inr (inl stopped)), tt)
  one_duly p (Ended j how) h = subst (λ (x : How). IsDulySaid w stored base event all p (Ended j x)) (sym h.0)
      (tt, tt, cancelled_so event p j h.1, inr stopped, λ rule. tt, tt)
  one_duly p (Declined t) h = (tt, tt, tt, tt, λ rule. tt, tt)
  one_duly p (Dropped t) h = (tt, tt, tt, tt, λ rule. tt, tt)
  one_duly p m h = absurd h

  -- each keeps the rules
  pub work-duly : (p : Past B C I) (marks : List (Mark B)) → EachMark NamesWork p marks → EachMark (IsDulySaid w stored base event all) p marks
  work-duly p [] each = tt
  work-duly p (m ∷ marks) each = (one_duly p m each.0, work-duly (Made m ∷ p) marks each.1)
