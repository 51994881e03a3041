-- What a receipt waits for in the middle of its finalization, and behind it.
use Rattle.std.proofs.Common.{◌≡◌, ◌≢◌, ◌<◌, ℕ, true, false, Option, Some, None, [], ◌∷◌, eqb, cond, ◌||◌, arith, refl, ap, inl, inr, ◌∙◌}
use Rattle.stateful_base.specs.Names.{Named}
use Rattle.stateful_base.specs.declared.anchor.Anchor.{Anchor}
use Rattle.stateful_base.specs.declared.floor.Floor.{Floor}
use Rattle.stateful_base.specs.declared.items.Items.{Items}
use Rattle.stateful_base.specs.declared.outcome.Finality.TheVariants as finality
use Rattle.stateful_history.specs.Setting.{Setting, parent_of}
use Rattle.stateful_history.specs.Telling.{Telling}
use Rattle.stateful_history.specs.Past.{Past, Came, Made}
use Rattle.stateful_history.specs.States.{HasState}
use Rattle.stateful_history.specs.Live.{live_ticket, live_job, live_fetch, live_flush}
use Rattle.stateful_history.specs.Jobs.{job_of, HasOutstandingRun}
use Rattle.stateful_history.specs.Requests.{IsLiveReceipt}
use Rattle.stateful_history.specs.Prunes.{PruneRule}
use Rattle.stateful_history.specs.Waiting.{Waits, fetch, abstention, run, finalization, prune, build, barrier, AllWait}
use Rattle.stateful_history.specs.declared.ticket.Ticket.TheVariants.{Receipt}
use Rattle.stateful_history.specs.declared.event.Event.TheVariants as event
use Rattle.stateful_history.specs.declared.mark.JobKind.TheVariants.{Finalized}
use Rattle.stateful_history.specs.declared.mark.Mark.TheVariants.{Opened, Began, Started, Applied}

same : (n : ℕ) → eqb n n ≡ true
same n = grind arith

module _ {B C I S T : Type 0} (s : Setting B S T) (a : Telling B C I S) (count : ℕ) (rule : Option (PruneRule T)) (base : S) where
  no_run : (p : Past B C I) → ((j : ℕ) → live_job j p ≡ false) → HasOutstandingRun s a base p → ⊥
  no_run p jobs (j, b, inl candidate) = cc (candidate.job.live, jobs j)
  no_run p jobs (j, b, inr finalized) = cc (finalized.job.live, jobs j)

  -- where nothing is live but tickets, a receipt waits for nothing
  idle : (p : Past B C I) (t : ℕ)
      → IsLiveReceipt t p
      → ((f : ℕ) → live_fetch f p ≡ false)
      → ((j : ℕ) → live_job j p ≡ false)
      → ((k i : ℕ) → live_flush count k i p ≡ false)
      → Waits s a count rule base p t → ⊥
  idle p t receipt fetches jobs flushes (fetch own) = cc (own.live, fetches own.fetch)
  idle p t receipt fetches jobs flushes (abstention verifies abstains) = cc (receipt, verifies.live)
  idle p t receipt fetches jobs flushes (run {j = j} outstanding stands) = cc (outstanding.job.live, jobs j)
  idle p t receipt fetches jobs flushes (finalization goes_on (inl work)) = no_run p jobs work
  idle p t receipt fetches jobs flushes (finalization goes_on (inr work)) = cc (work.2.job.live, jobs work.0)
  idle p t receipt fetches jobs flushes (prune due (inl work)) = no_run p jobs work
  idle p t receipt fetches jobs flushes (prune due (inr work)) = cc (work.2, flushes work.0 work.1)
  idle p t receipt fetches jobs flushes (build other work) = cc (work.3.job.live, jobs work.0)
  idle p t receipt fetches jobs flushes (barrier is work) = cc (work.2, flushes work.0 work.1)

  -- a block is finalized where nothing else goes on
  module _ (floor : Floor) (keep : Items ℕ) (anchor : Anchor) (t j : ℕ) (b : Named B) where
    abbrev began : Past B C I
    began = Made (Began t b) ∷ Came (event.Finalized t b) ∷ Made (Opened anchor) ∷ Came (event.Restart floor keep) ∷ []

    abbrev running : Past B C I
    running = Made (Started j Finalized b.digest) ∷ began

    abbrev applied : Past B C I
    applied = Made (Applied b) ∷ began

    -- the receipt is live
    receipt : (p : Past B C I) → live_ticket t p ≡ live_ticket t began → IsLiveReceipt t p
    receipt p is = is ∙ ap (λ x. cond x (Some Receipt) None) (same t)

    -- it waits for the run of its block
    waits : (state : S) → HasState s base running (parent_of s b) state
        → ((n : ℕ) → a.run_cost finality.Finalized state b.block ≡ Some n → 0 < n)
        → Waits s a count rule base running t
    waits state has costs = finalization (inl refl) (inl (
      j,
      b,
      inr record {
        met = inr (inl refl);
        job = record { live = ap (λ x. x || false) (same j); is = ap (λ x. cond x (Some (job_of Finalized b.digest)) None) (same j) };
        state = state;
        has_state = has;
        unfinished = costs;
      },
    ))

    -- a machine that has applied the block and begins no barrier is refused: the receipt waits for nothing
    applied_refused : AllWait s a count rule base applied → ⊥
    applied_refused all = idle applied t (receipt applied refl) (λ f. refl) (λ i. refl) (λ k i. refl) (all t (is_some (receipt applied refl)))
      where
        is_some : IsLiveReceipt t applied → live_ticket t applied ≢ None
        is_some is none = cc
