-- checkpoints that have the targets of their states, over the changes of a disk, and by their ends
use Rattle.std.proofs.Common.{◌≡◌, ◌==◌, ℕ, zero, suc, ◌+◌, ◌≤◌, cond, List, [], ◌∷◌, ◌++◌, length, take, drop, Option, Some, None, slice_get, refl, sym, ap, subst, ◌∙◌, inl, inr, Result, Ok, Err, OnOk, OnErr}
use Rattle.std.specs.List.{position_from}
use Rattle.std.proofs.lemmas.List.{drop-append-le}
use Rattle.std.proofs.lemmas.Iterator.Adapters.{position_from-zero}
use Rattle.stateful_base.specs.declared.target.Target.{Target}
use Rattle.stateful_db.specs.Disk.{Disk, Standing, all, applied, cut}
use Rattle.stateful_db.specs.CheckpointLaws.{slice_get-front, slice_get-drop, slice_get-last}
use Rattle.stateful_db.specs.Reopening.{with_end, HasNone, FailsToReopen}
use Rattle.stateful_db.specs.declared.database.InitError.{InitError}
use Rattle.stateful_db.specs.declared.database.InitError.TheVariants as error
use Rattle.stateful_db_medium.specs.declared.checkpoints.Checkpoint.{Checkpoint}
use Rattle.stateful_db_medium.specs.Mapped.{mapped, mapped_standing, Agree, agree_each, applied-mapped, cut-mapped, with_end-mapped, number-mapped, fails-mapped, none-mapped}
use Rattle.stateful_db_medium.specs.Openings.{IsNumberOf}
use Rattle.stateful_db_medium.specs.Ranged.{range_of}
use Rattle.stateful_db_plain.specs.Whole.{Whole, target_of}
use Rattle.stateful_db_plain.specs.Rooted.{state_of, AreRooted}

abbrev Kept : Type 0
Kept = Checkpoint Whole

-- what the states say of the targets
abbrev told : Kept → Target
told k = target_of (state_of k)

-- one alone
pub rooted_one : (k : Kept) → k.target ≡ told k → AreRooted (k ∷ [])
rooted_one k is zero x at =
    let same : k ≡ x = cc in
    let P : Kept → Type 0 = λ y. y.target ≡ told y in
    subst P same is
rooted_one k is (suc i) x at = cc

-- one more
pub rooted_more : (ks : List Kept) (k : Kept) → AreRooted ks → k.target ≡ told k → AreRooted (ks ++ k ∷ [])
rooted_more [] k rooted is i x at = rooted_one k is i x at
rooted_more (j ∷ ks) k rooted is zero x at = rooted zero x at
rooted_more (j ∷ ks) k rooted is (suc i) x at = rooted_more ks k (λ n y h. rooted (suc n) y h) is i x at

-- the oldest of them
pub rooted_take : (n : ℕ) (ks ls : List Kept) → ls ≡ take n ks → AreRooted ks → AreRooted ls
rooted_take n ks ls is rooted i k at = rooted i k (slice_get-front n i ks k (ap (λ xs. slice_get xs i) (sym is) ∙ at))

module _ (d : Disk Kept) (rooted : AreRooted (all d)) where
  -- without so many of the oldest
  pub rooted_cut : (n : ℕ) → n ≤ length d.older → AreRooted (all (cut d n))
  rooted_cut n within i k at =
      let rest : drop n d.older ++ d.newest ∷ [] ≡ drop n (all d) = sym (drop-append-le n d.older (d.newest ∷ []) within) in
      rooted (n + i) k (sym (slice_get-drop n i (all d)) ∙ ap (λ ks. slice_get ks i) (sym rest) ∙ at)

  pub rooted_newest : d.newest.target ≡ told d.newest
  rooted_newest = rooted (length d.older) d.newest (slice_get-last d.older d.newest)

same_from : (end i : ℕ) (ks : List Kept) → AreRooted ks → position_from (λ k. (told k).end.0 == end) i ks ≡ position_from (λ k. (range_of k).end.0 == end) i ks
same_from end i [] rooted = refl
same_from end i (k ∷ ks) rooted =
    let is : (told k).end.0 ≡ (range_of k).end.0 = ap (λ (t : Target). t.end.0) (sym (rooted zero k refl)) in
    ap (λ n. cond (n == end) (Some i) (position_from (λ j. (told j).end.0 == end) (i + 1) ks)) is
    ∙ ap (λ o. cond ((range_of k).end.0 == end) (Some i) o) (same_from end (i + 1) ks (λ n j at. rooted (suc n) j at))

module _ (d : Disk Kept) (rooted : AreRooted (all d)) where
  -- the states say where the targets are
  same_end : (t : Target) → with_end told (λ u. u) t d ≡ with_end range_of (λ u. u) t d
  same_end t =
      position_from-zero (λ k. (told k).end.0 == t.end.0) (all d)
      ∙ same_from t.end.0 0 (all d) rooted
      ∙ sym (position_from-zero (λ k. (range_of k).end.0 == t.end.0) (all d))

  pub found_of : (t : Target) → with_end target_of (λ u. u) t (mapped state_of d) ≡ with_end range_of (λ u. u) t d
  found_of t = with_end-mapped state_of target_of t d ∙ same_end t

  number_told : (expected : Option Target) (n : ℕ) → IsNumberOf range_of (λ u. u) expected d n → IsNumberOf told (λ u. u) expected d n
  number_told None n h = h
  number_told (Some t) n h = (same_end t ∙ h.0, (h.1.0, h.1.1, sym (rooted n h.1.0 h.1.1) ∙ h.1.2))

  -- the number of the checkpoint to open at
  pub number_of : (expected : Option Target) (n : ℕ) → IsNumberOf range_of (λ u. u) expected d n → IsNumberOf target_of (λ u. u) expected (mapped state_of d) n
  number_of expected n h = number-mapped state_of target_of expected d n (number_told expected n h)

  fails_told : (expected : Option Target) (rose : Type 0) (e : InitError) → FailsToReopen range_of (λ u. u) expected d rose e → FailsToReopen told (λ u. u) expected d rose e
  fails_told expected rose error.OutOfMemory h = tt
  fails_told None rose error.Database h = h
  fails_told (Some t) rose error.Database (inl h) = inl h
  fails_told (Some t) rose error.Database (inr h) = inr (same_end t ∙ h)
  fails_told None rose (error.TargetMismatch given recovered) h = h
  fails_told (Some t) rose (error.TargetMismatch given recovered) (n, k, found, at, differs, expected, is) =
      let root : k.target ≡ told k = rooted n k at in
      (n, k, same_end t ∙ found, at, λ same. differs (root ∙ same), expected, is ∙ root)

  -- why it doesn't open
  pub fails_of : (expected : Option Target) (rose : Type 0) (e : InitError) → FailsToReopen range_of (λ u. u) expected d rose e → FailsToReopen target_of (λ u. u) expected (mapped state_of d) rose e
  fails_of expected rose e h = fails-mapped state_of target_of expected d rose e (fails_told expected rose e h)

  none_told : (expected : Option Target) → HasNone range_of (λ u. u) expected d → HasNone told (λ u. u) expected d
  none_told None h = h
  none_told (Some t) h = same_end t ∙ h

  pub none_of : (expected : Option Target) → HasNone range_of (λ u. u) expected d → HasNone target_of (λ u. u) expected (mapped state_of d)
  none_of expected h = none-mapped state_of target_of expected d (none_told expected h)

-- a state is what it is
pub agree_here : (ks : List Kept) → Agree state_of state_of ks
agree_here ks = agree_each state_of state_of ks (λ i k at. refl)

module _ (s t : Standing Kept) where
  -- one checkpoint more, or not
  pub rooted_pushed : {E : Type 0} (r : Result (Unit {0}) E) (id : ℕ) (k : Kept) → OnOk r (t ≡ record s { id = id; disk = applied s.disk k }) → OnErr r (t ≡ s)
      → AreRooted (all s.disk) → k.target ≡ told k → AreRooted (all t.disk)
  rooted_pushed (Ok done) id k more same rooted is = let P : Standing Kept → Type 0 = λ x. AreRooted (all x.disk) in subst P (sym more) (rooted_more (all s.disk) k rooted is)
  rooted_pushed (Err refused) id k more same rooted is = let P : Standing Kept → Type 0 = λ x. AreRooted (all x.disk) in subst P (sym same) rooted

  -- the states behind one checkpoint more
  pub standing_grown : (id at : ℕ) (k : Kept) (w : Whole) → t ≡ record s { id = at; disk = applied s.disk k } → at ≡ id → state_of k ≡ w
      → mapped_standing state_of t ≡ record (mapped_standing state_of s) { id = id; disk = applied (mapped state_of s.disk) w }
  standing_grown id at k w is is_id is_state =
      let more : mapped state_of (applied s.disk k) ≡ applied (mapped state_of s.disk) w =
      applied-mapped state_of state_of s.disk k (agree_here (all s.disk)) ∙ ap (λ v. applied (mapped state_of s.disk) v) is_state in
      let last : mapped_standing state_of (record s { id = at; disk = applied s.disk k }) ≡ record (mapped_standing state_of s) { id = id; disk = applied (mapped state_of s.disk) w } =
      λ i. record { id = is_id i; disk = more i; out = s.out } in
      ap (λ x. mapped_standing state_of x) is ∙ last

  -- the states without so many of the oldest
  pub standing_cut : (n m : ℕ) → t ≡ record s { disk = cut s.disk n } → n ≡ m → mapped_standing state_of t ≡ record (mapped_standing state_of s) { disk = cut (mapped state_of s.disk) m }
  standing_cut n m is same =
      let less : mapped state_of (cut s.disk n) ≡ cut (mapped state_of s.disk) m =
      cut-mapped state_of state_of s.disk n (agree_here (all (cut s.disk n))) ∙ ap (λ j. cut (mapped state_of s.disk) j) same in
      ap (λ x. mapped_standing state_of x) is ∙ ap (λ d. record (mapped_standing state_of s) { disk = d }) less
