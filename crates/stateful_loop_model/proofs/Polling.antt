-- How a barrier is polled, as tests on the answers of its flushes.
use denote.Enum.Bare.{sameb}
use Rattle.std.proofs.Common.{◌≡◌, ℕ, ◌<◌, Bool, true, false, Option, Some, None, List, length, get_or, ap, sym, ◌∙◌, refl}
use Rattle.std.proofs.lemmas.Bool.{false≢true, false_from_ne_true}
use Rattle.std.proofs.lemmas.List.Folds.{list_any_none, Any-from_list_any, list_any-from_Any, list_all_at}
use Rattle.std.proofs.lemmas.List.Sums.{list_all-from_AllPass}
use Rattle.std.specs.List.{list_any, list_all, All, Any}
use Rattle.stateful_db.specs.Barrier.{IsGood, IsBroken, Polled}
use Rattle.stateful_db.specs.contracts.barrier.BarrierPoll.{the_type}
use Rattle.stateful_db.specs.declared.barrier.BarrierPoll.{BarrierPoll}
use Rattle.stateful_db.specs.declared.barrier.BarrierPoll.TheVariants as poll
use Rattle.stateful_db.specs.declared.barrier.Flushed.{Flushed}
use Rattle.stateful_db.specs.declared.barrier.Flushed.TheVariants.{Good, Interrupted}
use Rattle.stateful_db.specs.declared.barrier.Handle.{Handle}
use Rattle.stateful_loop_model.specs.Barriers.{is_interrupted, is_good}

interrupted_is : (answer : Option Flushed) → is_interrupted answer ≡ true → answer ≡ Some Interrupted
interrupted_is None h = absurd (false≢true h)
interrupted_is (Some Good) h = absurd (false≢true h)
interrupted_is (Some Interrupted) h = refl

abbrev pub broken_in : List Handle → Bool
broken_in handles = list_any (λ handle. is_interrupted handle.answer) handles

abbrev pub flushed_in : List Handle → Bool
flushed_in handles = list_all (λ handle. is_good handle.answer) handles

pub broken_polls : (handles : List Handle) → Any IsBroken handles → broken_in handles ≡ true
broken_polls handles (k, x, lt, is, broke) =
    list_any-from_Any (λ handle. is_interrupted handle.answer) handles (k, x, lt, is, ap is_interrupted broke)

pub unbroken_polls : (handles : List Handle) → (Any IsBroken handles → ⊥) → broken_in handles ≡ false
unbroken_polls handles h =
    false_from_ne_true (broken_in handles) (λ e.
    let (k, x, lt, is, t) = Any-from_list_any (λ handle. is_interrupted handle.answer) handles e in
    h (k, x, lt, is, interrupted_is x.answer t))

pub all_good_polls : (handles : List Handle) → All IsGood handles → broken_in handles ≡ false
all_good_polls handles h = list_any_none (λ handle. is_interrupted handle.answer) handles (λ k d lt. ap is_interrupted (h k d lt))

pub flushed_polls : (handles : List Handle) → All IsGood handles → flushed_in handles ≡ true
flushed_polls handles h = list_all-from_AllPass (λ handle. is_good handle.answer) handles (λ k d lt. ap is_good (h k d lt))

pub one_is_bad : (handles : List Handle) (k : ℕ) (x : Handle) → k < length handles → get_or handles k x ≡ x → is_good x.answer ≡ false → flushed_in handles ≡ false
one_is_bad handles k x lt is bad = list_all_at (λ handle. is_good handle.answer) handles k x lt (ap (λ y. is_good y.answer) is ∙ bad)

-- whether a barrier is polled as interrupted
pub interrupted_polls : (handles : List Handle) (polled : BarrierPoll) → Polled handles polled → sameb the_type polled poll.Interrupted ≡ broken_in handles
interrupted_polls handles poll.Durable h = sym (all_good_polls handles h)
interrupted_polls handles poll.Interrupted h = sym (broken_polls handles h)
interrupted_polls handles poll.Pending h = sym (unbroken_polls handles h.1)

-- whether a barrier is polled as durable
pub durable_polls : (handles : List Handle) (polled : BarrierPoll) → Polled handles polled → sameb the_type polled poll.Durable ≡ flushed_in handles
durable_polls handles poll.Durable h = sym (flushed_polls handles h)
durable_polls handles poll.Interrupted (k, x, lt, is, bad) = sym (one_is_bad handles k x lt is (ap is_good bad))
durable_polls handles poll.Pending h = sym (one_is_bad handles h.0.0 h.0.1 h.0.2 h.0.3 (ap is_good h.0.4))
