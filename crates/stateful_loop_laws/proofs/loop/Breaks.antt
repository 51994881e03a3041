-- A barrier breaks only where a flush of it was interrupted.
use Rattle.std.proofs.Common.{◌≡◌, ◌<◌, ◌∷◌, [], ℕ, suc, true, false, List, All, length, Option, Some, None, filter, refl, subst, arith, ⊎_elim}
use Rattle.std.specs.Prelude.{slice_get}
use Rattle.std.specs.List.{list_any}
use Rattle.std.proofs.lemmas.Bool.{or_cases, false≢true}
use Rattle.std.proofs.lemmas.List.Elements.{All-head, All-filter, filter_passes}
use Rattle.stateful_base.specs.Names.{Named}
use Rattle.stateful_db.specs.declared.barrier.Flushed.{Flushed}
use Rattle.stateful_db.specs.declared.barrier.Flushed.TheVariants.{Good, Interrupted}
use Rattle.stateful_db.specs.declared.barrier.Handle.{Handle}
use Rattle.stateful_history.specs.Barriers.{WasInterrupted}
use Rattle.stateful_history.specs.Past.{Past}
use Rattle.stateful_history.specs.declared.mark.Mark.TheVariants.{BarrierDone}
use Rattle.stateful_exec_model.specs.Workings.{Workings}
use Rattle.stateful_loop_laws.specs.Durability.{IsDurablySaid}
use Rattle.stateful_loop_laws.specs.OpenBarriers.{ActiveStands}
use Rattle.stateful_loop_laws.specs.Stands.{LoopStands}
use Rattle.stateful_loop_model.specs.Barriers.{first_of, is_broken, is_interrupted, broken}
use Rattle.stateful_loop_model.specs.Moments.{Moment}
use Rattle.stateful_loop_model.specs.Sound.{IsUp}
use Rattle.stateful_loop_model.specs.declared.barriers.Active.{Active}

-- what holds of all holds of the first
pub first_all : {T : Type 0} (Q : T → Type 0) (xs : List T) (x : T) → first_of xs ≡ Some x → All Q xs → Q x
first_all Q [] x e all = absurd (cc)
first_all {T} Q (y ∷ ys) x e all = subst Q (some_is y x e) (All-head Q y ys all)
  where
    some_is : (a b : T) → Some a ≡ Some b → a ≡ b
    some_is a b h = cc

interrupted_is : (answer : Option Flushed) → is_interrupted answer ≡ true → answer ≡ Some Interrupted
interrupted_is None e = absurd (false≢true e)
interrupted_is (Some Good) e = absurd (false≢true e)
interrupted_is (Some Interrupted) e = refl

-- a handle with such an answer is there
interrupted_at : (hs : List Handle) → list_any (λ (h : Handle). is_interrupted h.answer) hs ≡ true
    → (i : ℕ) × (h : Handle) × (i < length hs) × (slice_get hs i ≡ Some h) × (h.answer ≡ Some Interrupted)
interrupted_at [] any = absurd (false≢true any)
interrupted_at (h ∷ hs) any = ⊎_elim
    (λ own. (0, h, omega arith, refl, interrupted_is h.answer own))
    (λ other. let r = interrupted_at hs other in (suc r.0, r.1, omega (arith, r.2), r.3, r.4))
    (or_cases (is_interrupted h.answer) (list_any (λ (x : Handle). is_interrupted x.answer) hs) any)

module _ {B C I P R D H G U : Type 0} (w : Workings B C I P R D H G U) (stored : ℕ → Option (Named B)) (base : w.States) where
  -- the mark of a barrier that broke keeps the rules
  pub IsDurablySaid-broken : (p : Past B C I) (m : Moment w) (active : Active) → IsUp w m → broken m.loop.barriers ≡ Some active
      → LoopStands w stored base p m
      → IsDurablySaid w p (BarrierDone active.number active.height false)
  IsDurablySaid-broken p m active u is h =
      let stands : ActiveStands w.kind w.header p m.members h.first h.origin active =
      first_all (ActiveStands w.kind w.header p m.members h.first h.origin) (filter is_broken m.loop.barriers) active is
      (All-filter is_broken (ActiveStands w.kind w.header p m.members h.first h.origin) m.loop.barriers h.barriers.each) in
      let count : length active.barrier ≡ w.kind.count =
      first_all (λ (a : Active). length a.barrier ≡ w.kind.count) (filter is_broken m.loop.barriers) active is
      (All-filter is_broken (λ (a : Active). length a.barrier ≡ w.kind.count) m.loop.barriers u.counts) in
      let breaks : is_broken active ≡ true = first_all (λ (a : Active). is_broken a ≡ true) (filter is_broken m.loop.barriers) active is
      (filter_passes is_broken m.loop.barriers) in
      let (i, handle, l, there, answer) = interrupted_at active.barrier breaks in
      let was : WasInterrupted active.number p = (stands.handles i handle (omega (arith, l, count)) there).interrupted answer in
      ((stands.live, stands.over, λ _. was), tt, tt, tt, tt)
