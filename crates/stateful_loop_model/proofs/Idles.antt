-- What goes on where nothing is in front: barriers break, complete and begin.
use Rattle.std.proofs.Common.{◌≡◌, ◌++◌, ◌∷◌, [], ℕ, false, Option, Some, None, List, refl, sym, ap, ◌∙◌}
use Rattle.std.specs.Prelude.{option_map}
use Rattle.stateful_base.specs.Names.{Named}
use Rattle.stateful_base.specs.declared.number.Height.{Height}
use Rattle.stateful_exec_model.specs.Workings.{Workings}
use Rattle.stateful_history.specs.declared.mark.Mark.{Mark}
use Rattle.stateful_history.specs.declared.mark.Mark.TheVariants as mark
use Rattle.stateful_loop_model.specs.Barriers.{numbered, broken, flushed}
use Rattle.stateful_loop_model.specs.Moments.{Executing, moment}
use Rattle.stateful_loop_model.specs.Rules.{IsIdle, CompletesBarrier, Rule}
use Rattle.stateful_loop_model.specs.Rules.Rule.{breaks, completes}
use Rattle.stateful_loop_model.specs.declared.barriers.Active.{Active}
use Rattle.stateful_loop_model.specs.declared.tables.Processing.{Processing}

none_is_some : {T : Type 0} (x : T) → Some x ≡ None → ⊥
none_is_some x h = cc

some_same : {T : Type 0} (x y : T) → Some x ≡ Some y → x ≡ y
some_same x y h = cc

-- the barrier of a number and a height that were told
numbered_of : (o : Option Active) (x : ℕ × Height) → Some x ≡ option_map numbered o → (a : Active) × (o ≡ Some a) × (x ≡ numbered a)
numbered_of None x h = absurd (none_is_some x h)
numbered_of (Some a) x h = (a, refl, some_same x (numbered a) h)

module _ {B C I P R D H G U : Type 0} (w : Workings B C I P R D H G U) (stored : ℕ → Option (Named B)) (provider : P)
    (e : Executing B C I R D H U) (l now : Processing B C I G) (members : w.kind.Members) (next : w.Ids) (marks after : List (Mark B))
    (number : ℕ) (height : Height) (idle : IsIdle w (moment w e l members next marks)) where
  pub breaks_barrier : Some (number, height) ≡ option_map numbered (broken l.barriers) → now ≡ record l { up = false }
      → after ≡ marks ++ mark.BarrierDone number height false ∷ [] → Rule w stored provider (moment w e l members next marks) (moment w e now members next after)
  breaks_barrier told is marked =
      let (a, there, same) = numbered_of (broken l.barriers) (number, height) told in
      breaks idle there
      (ap (λ x. moment w e x members next after) is
      ∙ ap (λ k. moment w e (record l { up = false }) members next k) (marked ∙ ap (λ (x : ℕ × Height). marks ++ mark.BarrierDone x.0 x.1 false ∷ []) same))

  pub completes_barrier : broken l.barriers ≡ None → Some (number, height) ≡ option_map numbered (flushed l.barriers)
      → ((a : Active) → a.number ≡ number → a.height ≡ height → CompletesBarrier w a (moment w e l members next marks) (moment w e now members next after))
      → Rule w stored provider (moment w e l members next marks) (moment w e now members next after)
  completes_barrier none told done =
      let (a, there, same) = numbered_of (flushed l.barriers) (number, height) told in
      completes idle none there (done a (sym (ap (λ (x : ℕ × Height). x.0) same)) (sym (ap (λ (x : ℕ × Height). x.1) same)))
