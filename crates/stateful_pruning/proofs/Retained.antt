-- What a prune retains, where heights ascend.
use Rattle.std.proofs.Common.{◌≡◌, ℕ, ◌+◌, ◌-◌, ◌≤◌, Option, Some, None, List, ◌∷◌, ◌++◌, length, get_or, take, refl, ap, ◌∙◌, arith, length-append, length-take}
use Rattle.std.specs.Prelude.{All, IfSome}
use Rattle.std.specs.List.Sorted.{IsNonDecreasingBy}
use Rattle.std.proofs.lemmas.List.{get_or-drop, get_or-take, get_or_at}
use Rattle.std.proofs.lemmas.List.Sorted.{IsNonDecreasingBy-drop}
use Rattle.stateful_pruning.specs.declared.pruning.Prune.{Prune}
use Rattle.stateful_pruning.specs.Rule.{Entry, Schedule, window, IsPrune, IsAnswer, KeepsWindows}
use Rattle.stateful_pruning.proofs.Windows.{window-window, length-window}

module _ {T : Type 0} where
  -- the first of these is no higher than any
  above_first : (xs : List (Entry T)) (height : ℕ) → IsNonDecreasingBy (λ (e : Entry T). e.height) xs → All (λ (e : Entry T). e.height ≡ height) (take 1 xs) → All (λ (e : Entry T). height ≤ e.height) xs
  above_first xs height ascending first k d within =
      let at : (get_or xs 0 d).height ≡ height = rw (get_or-take 1 xs 0 d (omega arith)) at (first 0 d (omega (arith, length-take 1 xs))) in
      omega (arith, ascending 0 k d (omega arith) within)

  -- one of these is no higher than those from it on
  above_entry : (xs older : List (Entry T)) (entry : Entry T) (newer : List (Entry T)) (n : ℕ) → IsNonDecreasingBy (λ (e : Entry T). e.height) xs → xs ≡ older ++ entry ∷ newer → n ≤ length (entry ∷ newer) → All (λ (e : Entry T). entry.height ≤ e.height) (window n xs)
  above_entry xs older entry newer n ascending is few k d within =
      let long : length xs ≡ length older + length (entry ∷ newer) = ap length is ∙ length-append older (entry ∷ newer) in
      let at : get_or xs (length older) d ≡ entry = ap (λ ys. get_or ys (length older) d) is ∙ get_or_at older entry newer d (length older) refl in
      let later : (get_or xs (length older) d).height ≤ (get_or xs (length xs - n + k) d).height = ascending (length older) (length xs - n + k) d (omega arith) (omega (arith, length-window n xs)) in
      rw (get_or-drop (length xs - n) xs k d) (rw at at later)

  -- nothing within the windows is pruned
  pub keeps_windows : (s : Schedule) (entries : List (Entry T)) (prune : Prune T) → s.qmdb_window ≤ s.marshal_window → IsPrune s entries prune → IsNonDecreasingBy (λ (e : Entry T). e.height) entries → KeepsWindows s entries prune
  keeps_windows s entries prune smaller is ascending =
      let all = window s.marshal_window entries in
      let found = is.target.1 in
      let target : Entry T = record { height = prune.barrier_height.0; targets = prune.qmdb_target; operations = is.target.0 } in
      let within : IsNonDecreasingBy (λ (e : Entry T). e.height) all = IsNonDecreasingBy-drop (λ (e : Entry T). e.height) (length entries - s.marshal_window) entries ascending in
      let marshal = above_first all prune.marshal_height.0 within is.marshal in
      let long = ap length found.allowed.marshal ∙ length-append found.older (target ∷ found.newer) in
      let at : get_or all (length found.older) target ≡ target = ap (λ ys. get_or ys (length found.older) target) found.allowed.marshal ∙ get_or_at found.older target found.newer target (length found.older) refl in
      record {
        marshal = marshal;
        qmdb = rw (← window-window s.qmdb_window s.marshal_window entries smaller) (above_entry all found.older target found.newer s.qmdb_window within found.allowed.marshal found.allowed.qmdb);
        block = rw at at (marshal (length found.older) target (omega arith));
      }

  -- of an answer
  pub answer_keeps_windows : (s : Schedule) (entries : List (Entry T)) (answer : Option (Prune T)) → s.qmdb_window ≤ s.marshal_window → IsAnswer s entries answer → IfSome answer (λ prune. IsNonDecreasingBy (λ (e : Entry T). e.height) entries → KeepsWindows s entries prune)
  answer_keeps_windows s entries None smaller is = tt
  answer_keeps_windows s entries (Some prune) smaller is = keeps_windows s entries prune smaller is.prune
