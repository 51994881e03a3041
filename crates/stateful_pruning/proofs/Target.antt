-- The newest entry to which the databases may be pruned.
use Rattle.std.proofs.Common.{◌≡◌, ℕ, ◌+◌, ◌-◌, ◌<◌, ◌≤◌, leb, true, false, List, ◌∷◌, ◌++◌, length, get_or, take, drop, refl, sym, ap, ◌∙◌, ⊎_elim, arith, length-append, length-drop}
use Rattle.std.specs.List.{AllWithin}
use Rattle.std.proofs.lemmas.List.{take-append-drop, drop_more, get_or_at}
use Rattle.std.proofs.lemmas.Bool.Decides.{leb_tells}
use Rattle.stateful_pruning.specs.Rule.{Entry, Schedule, window, OnNewest, MayPruneTo, MayPrune, IsTarget}
use Rattle.stateful_pruning.specs.Pruning.{Recorded, IsSound}
use Rattle.stateful_pruning.proofs.Windows.{window_all, length-window}

-- what stands before and behind a place
split_at : {A : Type 0} (xs : List A) (i : ℕ) (x : A) → i < length xs → x ≡ get_or xs i x → xs ≡ take i xs ++ x ∷ drop (i + 1) xs
split_at xs i x within is =
    let rest : drop i xs ≡ x ∷ drop (i + 1) xs = rw is (drop_more xs i x within) in
    sym (take-append-drop i xs) ∙ ap (λ ys. take i xs ++ ys) rest

-- what holds within some places holds of what stands at one of them
passed_over : {A : Type 0} (P : A → Type 0) (xs before : List A) (x : A) (behind : List A) (low high : ℕ) → AllWithin P xs low high → xs ≡ before ++ x ∷ behind → low ≤ length before → length before < high → P x
passed_over P xs before x behind low high all is from to =
    let at : get_or xs (length before) x ≡ x = ap (λ ys. get_or ys (length before) x) is ∙ get_or_at before x behind x (length before) refl in
    rw at at (all (length before) x from to)

-- a full marshal window, whose newest entry has so many operations
pub record IsFull {T : Type 0} (s : Schedule) (entries : List (Entry T)) (operations : ℕ) : Type 0 where
  pub qmdb : 1 ≤ s.qmdb_window
  pub marshal : s.qmdb_window ≤ s.marshal_window
  pub full : length entries ≡ s.marshal_window
  pub newest : OnNewest (λ (newest : Entry T). newest.operations ≡ operations) entries

pub full_from : {T : Type 0} (p : Recorded T) (operations : ℕ) → IsSound p → length p.kept ≡ p.schedule.marshal_window → OnNewest (λ (newest : Entry T). newest.operations ≡ operations) p.kept → IsFull p.schedule p.kept operations
full_from p operations sound full newest = record { qmdb = sound.qmdb; marshal = sound.marshal; full = full; newest = newest }

module _ {T : Type 0} (s : Schedule) (entries : List (Entry T)) (operations : ℕ) (full : IsFull s entries operations) where
  -- an entry to which the databases may be pruned has as many operations fewer
  has_fewer : (before : List (Entry T)) (entry : Entry T) (behind : List (Entry T)) → MayPruneTo s entries before entry behind → entry.operations + s.retained_operations ≤ operations
  has_fewer before entry behind may =
      let some : 0 < length (window 1 entries) = omega (arith, length-window 1 entries, full.full, full.qmdb, full.marshal) in
      omega (arith, full.newest 0 entry some, may.operations 0 entry some)

  -- and stands where the code looks for it
  stands_outside : (before : List (Entry T)) (entry : Entry T) (behind : List (Entry T)) → MayPruneTo s entries before entry behind → (entries ≡ before ++ entry ∷ behind) × (length before < s.marshal_window - s.qmdb_window + 1)
  stands_outside before entry behind may =
      let at : entries ≡ before ++ entry ∷ behind = sym (window_all s.marshal_window entries (omega (arith, full.full))) ∙ may.marshal in
      (at, omega (arith, ap length at, length-append before (entry ∷ behind), full.full, may.qmdb))

  -- where there are fewer operations than are retained, there is no such entry
  pub none_without_operations : operations < s.retained_operations → MayPrune s entries → ⊥
  none_without_operations few (before, entry, behind, may) = absurd (omega (arith, has_fewer before entry behind may))

  -- nor where all entries outside the QMDB window have too many
  pub none_outside : (most : ℕ) → most + s.retained_operations ≡ operations → AllWithin (λ (entry : Entry T). most < entry.operations) entries 0 (s.marshal_window - s.qmdb_window + 1) → MayPrune s entries → ⊥
  none_outside most enough all (before, entry, behind, may) =
      let at = stands_outside before entry behind may in
      let many = passed_over (λ (entry : Entry T). most < entry.operations) entries before entry behind 0 _ all at.0 (omega arith) at.1 in
      absurd (omega (arith, has_fewer before entry behind may))

  -- the first one that the code comes to is the newest
  pub is_target : (most i : ℕ) (entry : Entry T) → most + s.retained_operations ≡ operations → i < s.marshal_window - s.qmdb_window + 1 → entry ≡ get_or entries i entry → entry.operations ≤ most → AllWithin (λ (entry : Entry T). most < entry.operations) entries (i + 1) (s.marshal_window - s.qmdb_window + 1) → IsTarget s entries entry
  is_target most i entry enough within is fewer all =
      let inside : i < length entries = omega (arith, full.full, full.qmdb, full.marshal) in
      record {
        older = take i entries;
        newer = drop (i + 1) entries;
        allowed = record {
          marshal = window_all s.marshal_window entries (omega (arith, full.full)) ∙ split_at entries i entry inside is;
          qmdb = omega (arith, length-drop (i + 1) entries, full.full, full.qmdb, full.marshal);
          operations = λ k d some. omega (arith, full.newest k d some);
        };
        newest = λ before other behind may.
            let at = stands_outside before other behind may in
            let long : length before + length (other ∷ behind) ≡ length entries = omega (arith, ap length at.0, length-append before (other ∷ behind)) in
            ⊎_elim
            (λ (older : (leb (length before) i ≡ true) × (length before ≤ i)). omega (arith, older.1, length-drop (i + 1) entries))
            (λ (newer : (leb (length before) i ≡ false) × (i < length before)).
            let many = passed_over (λ (entry : Entry T). most < entry.operations) entries before other behind (i + 1) _ all at.0 (omega (arith, newer.1)) at.1 in
            absurd (omega (arith, has_fewer before other behind may)))
            (leb_tells (length before) i);
      }
