-- What holds of equal tables and applications: where no proposal was recovered nothing has changed.
use Rattle.std.proofs.Common.{◌≡◌, ℕ, Option, List, sym, subst}
use Rattle.stateful_exec_model.specs.Workings.{Workings}
use Rattle.stateful_history.specs.declared.mark.Mark.{Mark}
use Rattle.stateful_loop_model.specs.Moments.{Executing, Moment, moment}
use Rattle.stateful_loop_model.specs.Sound.{IsUp}
use Rattle.stateful_loop_model.specs.declared.tables.Finalizing.{Finalizing}
use Rattle.stateful_loop_model.specs.declared.tables.Processing.{Processing}

module _ {B C I P R D H G U : Type 0} (w : Workings B C I P R D H G U) (members : w.kind.Members) (next : w.Ids) (marks : List (Mark B))
    (now e : Executing B C I R D H U) (later l : Processing B C I G) (same : now ≡ e) (kept : later ≡ l) where
  -- at the earlier moment
  pub earlier : (T : Moment w → Type 0) → T (moment w now later members next marks) → T (moment w e l members next marks)
  earlier T h = subst (λ x. T (moment w x l members next marks)) same (subst (λ x. T (moment w now x members next marks)) kept h)

  -- at the later one
  pub still_up : IsUp w (moment w e l members next marks) → IsUp w (moment w now later members next marks)
  still_up h = subst (λ x. IsUp w (moment w x later members next marks)) (sym same) (subst (λ x. IsUp w (moment w e x members next marks)) (sym kept) h)

  -- with the front taken out, or put back
  pub front_is : (f : Option (Finalizing B G)) → later.front ≡ f → IsUp w (moment w now later members next marks) → IsUp w (moment w now (record later { front = f }) members next marks)
  front_is f is h = subst (λ x. IsUp w (moment w now (record later { front = x }) members next marks)) is h

  pub without_front : (T : Moment w → Type 0) (f : Option (Finalizing B G)) → later.front ≡ f → T (moment w now (record later { front = f }) members next marks) → T (moment w e l members next marks)
  without_front T f is h = earlier T (subst (λ x. T (moment w now (record later { front = x }) members next marks)) (sym is) h)

-- the count of an application that is the same
pub same_count : {A : Type 0} (T : ℕ → Type 0) (count : A → ℕ) (now a : A) → now ≡ a → T (count now) → T (count a)
same_count T count now a same h = subst (λ x. T (count x)) same h
