-- Which database answers to an open barrier, and which events enter the mailbox alone.
use Rattle.std.proofs.Common.{◌≡◌, ⊎_elim, ℕ, zero, suc, ◌<◌, Option, Some, None, IsSome, List, [], ◌∷◌, All, Contains, length, Result, Ok, Err, IsErr, IsErrAnd, OnOk, IfErr, refl, sym, ap, ◌∙◌, subst, arith}
use Rattle.std.specs.Prelude.{option_and_then}
use Rattle.std.proofs.lemmas.Bool.{false≢true, cases_Bool}
use Rattle.std.proofs.lemmas.List.Elements.{All-head, All-tail, Contains-append_left, Contains-append_right}
use Rattle.stateful_base.specs.Names.{Named}
use Rattle.stateful_db.specs.Barrier.{open_at}
use Rattle.stateful_db.specs.declared.barrier.Flushed.{Flushed}
use Rattle.stateful_db.specs.declared.barrier.Handle.{Handle}
use Rattle.stateful_db.specs.declared.database.FlushToken.{FlushToken}
use Rattle.stateful_history.specs.declared.event.Event.{Event}
use Rattle.stateful_history.specs.declared.event.Event.TheVariants as event
use Rattle.stateful_exec_model.specs.Workings.{Workings}
use Rattle.stateful_loop_model.specs.Barriers.{awaits, awaiting}
use Rattle.stateful_loop_model.specs.Intake.{Counts, message_by, TakesIn, progresses, restarts}
use Rattle.stateful_loop_model.specs.Moments.{Moment}
use Rattle.stateful_loop_model.specs.Sound.{out_in, out_at}
use Rattle.stateful_loop_model.specs.declared.barriers.Active.{Active}
use Rattle.stateful_loop_model.proofs.OutTokens.{awaiting_first, awaiting_behind, opened_by, out_in_open, some_is}

-- what holds of a result, by what held of it
pub on_ok : {T E P Q : Type 0} (r : Result T E) → OnOk r P → (P → Q) → OnOk r Q
on_ok (Ok x) p f = f p
on_ok (Err e) p f = p

pub on_err : {T E : Type 0} (r : Result T E) (Q P : E → Type 0) → IfErr r Q → ((e : E) → Q e → P e) → IfErr r P
on_err (Ok x) Q P is f = is
on_err (Err e) Q P is f = f e is

-- an error is no success
pub ok_none : {T E : Type 0} (r : Result T E) (P : Type 0) → IsErr r → OnOk r P
ok_none (Ok x) P is = absurd (false≢true is)
ok_none (Err e) P is = tt

-- what holds of the error that was converted
pub err_to : {T E : Type 0} (r : Result T E) (Q P : E → Type 0) → IsErrAnd r Q → ((e : E) → Q e → P e) → IfErr r P
err_to (Ok x) Q P is f = absurd is
err_to (Err e) Q P is f = f e is

-- a handle that is open is one of them
open_within : (handles : List Handle) (i : ℕ) (t : FlushToken) → open_at handles i ≡ Some t → i < length handles
open_within [] i t e = absurd (cc)
open_within (h ∷ hs) zero t e = omega arith
open_within (h ∷ hs) (suc i) t e = let lt : i < length hs = open_within hs i t e in omega (arith, lt)

module _ (k i : ℕ) where
  -- an answer is awaited of one of the databases
  pub within_awaited : (n : ℕ) (barriers : List Active)
      → All (λ active. length active.barrier ≡ n) barriers → IsSome (awaiting k i barriers) → i < n
  within_awaited n [] all there = absurd (false≢true there)
  within_awaited n (b ∷ bs) all there = ⊎_elim
      (λ w. subst (λ m. i < m) (All-head (λ active. length active.barrier ≡ n) b bs all) (open_within b.barrier i (opened_by k i b w).0 (opened_by k i b w).1))
      (λ w. within_awaited n bs (All-tail (λ active. length active.barrier ≡ n) b bs all) (subst IsSome (awaiting_behind k i b bs w) there))
      (cases_Bool (awaits k i b))

  -- the token whose answer is awaited is out
  pub out_at_awaited : (barriers : List Active) (a : Active) (t : FlushToken) → awaiting k i barriers ≡ Some a → open_at a.barrier i ≡ Some t
      → Contains (out_at barriers i) t.place
  out_at_awaited [] a t e o = absurd (cc)
  out_at_awaited (b ∷ bs) a t e o = ⊎_elim
      (λ w. let same : b ≡ a = some_is b a (sym (awaiting_first k i b bs w) ∙ e) in
      let is : out_in b.barrier i ≡ t.place ∷ [] = out_in_open b.barrier i t (ap (λ x. open_at x.barrier i) same ∙ o) in
      Contains-append_left (out_in b.barrier i) (out_at bs i) t.place (subst (λ xs. Contains xs t.place) (sym is) (0, omega arith, refl)))
      (λ w. Contains-append_right (out_in b.barrier i) (out_at bs i) t.place (out_at_awaited bs a t (sym (awaiting_behind k i b bs w) ∙ e) o))
      (cases_Bool (awaits k i b))

  pub token_awaited : (barriers : List Active) (t : FlushToken) → option_and_then (λ active. open_at active.barrier i) (awaiting k i barriers) ≡ Some t
      → IsSome (awaiting k i barriers) × Contains (out_at barriers i) t.place
  token_awaited barriers t e = found (awaiting k i barriers) refl e
    where
      found : (o : Option Active) → awaiting k i barriers ≡ o → option_and_then (λ active. open_at active.barrier i) o ≡ Some t
          → IsSome (awaiting k i barriers) × Contains (out_at barriers i) t.place
      found None is e = absurd (cc)
      found (Some a) is e = (subst IsSome (sym is) refl, out_at_awaited barriers a t is e)

module _ {B C I P R D H G U : Type 0} (w : Workings B C I P R D H G U) (stored : ℕ → Option (Named B)) (counts : Counts R D H) (m : Moment w) where
  -- an event that acts neither at once nor in the mailbox changes nothing
  pub idles : (v : Event B C I) → message_by v ≡ None
      → ((t : ℕ) → v ≡ event.Cancel t → ⊥) → ((f : ℕ) (answer : Option (Named B)) → v ≡ event.Fetched f answer → ⊥)
      → ((j : ℕ) → v ≡ event.Turn j → ⊥)
      → ((k i : ℕ) (answer : Flushed) → v ≡ event.Flushed k i answer → ⊥) → (v ≡ event.Stop → ⊥) → TakesIn w stored counts m m v
  idles (event.Verify t ancestry) e c f j a s = absurd (cc)
  idles (event.Prepare t context ancestry input) e c f j a s = absurd (cc)
  idles (event.Propose t context ancestry input) e c f j a s = absurd (cc)
  idles (event.Finalized t b) e c f j a s = absurd (cc)
  idles (event.Subscribe t) e c f j a s = absurd (cc)
  idles (event.Cancel t) e c f j a s = absurd (c t refl)
  idles (event.Fetched n answer) e c f j a s = absurd (f n answer refl)
  idles (event.Turn n) e c f j a s = absurd (j n refl)
  idles (event.Flushed k i answer) e c f j a s = absurd (a k i answer refl)
  idles (event.Progress i) e c f j a s = progresses refl
  idles event.Stop e c f j a s = absurd (s refl)
  idles (event.Restart floor keep) e c f j a s = restarts refl
