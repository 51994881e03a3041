-- The rule's answer, from what the code finds.
use Rattle.std.proofs.Common.{◌≡◌, ℕ, ◌%◌, ◌<◌, ◌≤◌, Option, Some, None, List, [], ◌∷◌, ◌++◌, length, get_or, take, refl, sym, ap, ◌∙◌, arith, length-append, length-take}
use Rattle.std.proofs.lemmas.List.{get_or_at}
use Rattle.std.specs.Prelude.{IsSome}
use Rattle.stateful_pruning.specs.declared.pruning.Prune.{Prune}
use Rattle.stateful_pruning.specs.Rule.{Entry, Schedule, window, IsTarget, IsDue, IsAnswer}
use Rattle.stateful_pruning.proofs.Windows.{window_all, all_of_one, one_of_all}

-- none, where none is due
pub none_due : {T : Type 0} (s : Schedule) (entries : List (Entry T)) → (IsDue s entries → ⊥) → IsAnswer s entries None
none_due s entries not_due = record { due = (λ some. cc, λ due. absurd (not_due due)); prune = tt }

module _ {T : Type 0} (s : Schedule) (entries : List (Entry T)) (newest : Entry T) (is : window 1 entries ≡ newest ∷ []) where
  -- none, where the newest height isn't one at which a prune may be due
  pub none_at : (newest.height % s.interval ≡ s.offset → ⊥) → IsAnswer s entries None
  none_at other = none_due s entries (λ due. other (one_of_all (λ (newest : Entry T). newest.height % s.interval ≡ s.offset) (window 1 entries) newest is due.time))

  -- the one by the oldest entry and the target of a full window
  pub some_at : (oldest target : Entry T) → newest.height % s.interval ≡ s.offset → length entries ≡ s.marshal_window → take 1 entries ≡ oldest ∷ [] → IsTarget s entries target → IsAnswer s entries (Some (record { marshal_height = record { 0 = oldest.height }; barrier_height = record { 0 = target.height }; qmdb_target = target.targets }))
  some_at oldest target time full first found =
      let whole : window s.marshal_window entries ≡ entries = window_all s.marshal_window entries (omega arith) in
      let due : IsDue s entries = record {
        time = all_of_one (λ (newest : Entry T). newest.height % s.interval ≡ s.offset) (window 1 entries) newest is time;
        full = ap length whole ∙ full;
        target = (found.older, target, found.newer, found.allowed);
      } in
      record {
        due = (λ _. due, λ _. refl);
        prune = record {
          marshal = rw whole (all_of_one (λ (entry : Entry T). entry.height ≡ oldest.height) (take 1 entries) oldest first refl);
          target = (target.operations, found);
        };
      }

-- of two lists of the same length in front, what stands behind them is the same
same_place : {A : Type 0} (xs before after : List A) (x y : A) (behind rest : List A) → xs ≡ before ++ x ∷ behind → xs ≡ after ++ y ∷ rest → length behind ≡ length rest → x ≡ y
same_place xs before after x y behind rest one other same =
    let long : length before ≡ length after = omega (arith, ap length one, ap length other, length-append before (x ∷ behind), length-append after (y ∷ rest)) in
    sym (ap (λ zs. get_or zs (length before) x) one ∙ get_or_at before x behind x (length before) refl)
    ∙ ap (λ zs. get_or zs (length before) x) other
    ∙ get_or_at after y rest x (length before) (sym long)

-- the databases' target is one
one_target : {T : Type 0} (s : Schedule) (entries : List (Entry T)) (entry other : Entry T) → IsTarget s entries entry → IsTarget s entries other → entry ≡ other
one_target s entries entry other a b =
    let same : length a.newer ≡ length b.newer = omega (arith, a.newest b.older other b.newer b.allowed, b.newest a.older entry a.newer a.allowed) in
    same_place (window s.marshal_window entries) a.older b.older entry other a.newer b.newer a.allowed.marshal b.allowed.marshal same

-- the answer is one
pub one_answer : {T : Type 0} (s : Schedule) (entries : List (Entry T)) (a b : Option (Prune T)) → 1 ≤ s.marshal_window → IsAnswer s entries a → IsAnswer s entries b → a ≡ b
one_answer s entries None None some x y = refl
one_answer {T = T} s entries None (Some q) some x y = absurd (let h : IsSome {T = Prune T} None = x.due.1 (y.due.0 refl) in cc)
one_answer {T = T} s entries (Some p) None some x y = absurd (let h : IsSome {T = Prune T} None = y.due.1 (x.due.0 refl) in cc)
one_answer {T = T} s entries (Some p) (Some q) some x y =
    let full = (x.due.0 refl).full in
    let entry : Entry T = record { height = p.barrier_height.0; targets = p.qmdb_target; operations = x.prune.target.0 } in
    let other : Entry T = record { height = q.barrier_height.0; targets = q.qmdb_target; operations = y.prune.target.0 } in
    let one : entry ≡ other = one_target s entries entry other x.prune.target.1 y.prune.target.1 in
    let within : 0 < length (take 1 (window s.marshal_window entries)) = omega (arith, length-take 1 (window s.marshal_window entries)) in
    let height : p.marshal_height.0 ≡ q.marshal_height.0 = sym (x.prune.marshal 0 entry within) ∙ y.prune.marshal 0 entry within in
    ap (λ (h : ℕ). Some (record { marshal_height = record { 0 = h }; barrier_height = p.barrier_height; qmdb_target = p.qmdb_target })) height
    ∙ ap (λ (e : Entry T). Some (record { marshal_height = q.marshal_height; barrier_height = record { 0 = e.height }; qmdb_target = e.targets })) one
