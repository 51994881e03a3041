-- Checkpoints that a disk keeps, over the changes of the disk.
use Rattle.std.proofs.Common.{◌≡◌, ℕ, zero, suc, ◌+◌, ◌-◌, ◌<◌, ◌≤◌, ◌==◌, ◌⊎◌, inl, inr, Bool, not}
use Rattle.std.proofs.Common.{cond, List, [], ◌∷◌, ◌++◌, length, take, drop, get_or, min, max}
use Rattle.std.proofs.Common.{Option, Some, None, true, false, refl, sym, ap, subst, ◌∙◌, arith}
use Rattle.std.proofs.Common.{length-append, length-take, length-drop}
use Rattle.std.specs.Prelude.{slice_get, position}
use Rattle.std.proofs.lemmas.List.{drop-append-le}
use Rattle.std.specs.List.{prefix_len, position_or_len}
use Rattle.std.proofs.lemmas.List.Quantifiers.{position-Some}
use Rattle.std.proofs.lemmas.Option.{slice_get-get_or, slice_get_within, get_or_from_slice_get}
use Rattle.std.proofs.lemmas.Bool.Decides.{nat_tests}
use Rattle.stateful_base.specs.declared.target.Target.{Target}
use Rattle.stateful_db.specs.Disk.{Disk, Standing, all, place, HasAt, applied, flushed, cut}
use Rattle.stateful_db.specs.Disk.{IsCrash, IsOpened, IsEither, IsSound}
use Rattle.stateful_db.specs.Reopening.{with_end, Is_at, Reopens, OpensAt, HasNone, Differs}
use Rattle.stateful_db.specs.Reopening.{Refuses, KeepsDurable, pruned_to}
use Rattle.stateful_db.specs.declared.database.InitError.{InitError}
use Rattle.stateful_db.specs.declared.database.InitError.TheVariants as error

-- ---- elements of lists

module _ {X : Type 0} where
  pub slice_get-drop : (n i : ℕ) (xs : List X) → slice_get (drop n xs) i ≡ slice_get xs (n + i)
  slice_get-drop zero i xs = let at : i ≡ zero + i = omega arith in ap (slice_get xs) at
  slice_get-drop (suc n) i [] = refl
  slice_get-drop (suc n) i (x ∷ xs) =
      let at : suc (n + i) ≡ suc n + i = omega arith in
      slice_get-drop n i xs ∙ ap (slice_get (x ∷ xs)) at

  pub slice_get-take : (n i : ℕ) (xs : List X) → i < n → slice_get (take n xs) i ≡ slice_get xs i
  slice_get-take zero i xs h = absurd (omega arith)
  slice_get-take (suc n) i [] h = refl
  slice_get-take (suc n) zero (x ∷ xs) h = refl
  slice_get-take (suc n) (suc i) (x ∷ xs) h = slice_get-take n i xs (omega arith)

  -- what is in a front of a list is in the list
  pub slice_get-front : (n i : ℕ) (xs : List X) (x : X)
      → slice_get (take n xs) i ≡ Some x
      → slice_get xs i ≡ Some x
  slice_get-front zero i xs x h = cc
  slice_get-front (suc n) i [] x h = h
  slice_get-front (suc n) zero (y ∷ xs) x h = h
  slice_get-front (suc n) (suc i) (y ∷ xs) x h = slice_get-front n i xs x h

  pub slice_get-left : (xs ys : List X) (i : ℕ) (x : X)
      → slice_get xs i ≡ Some x
      → slice_get (xs ++ ys) i ≡ Some x
  slice_get-left [] ys i x h = cc
  slice_get-left (y ∷ xs) ys zero x h = h
  slice_get-left (y ∷ xs) ys (suc i) x h = slice_get-left xs ys i x h

  pub slice_get-last : (xs : List X) (x : X) → slice_get (xs ++ x ∷ []) (length xs) ≡ Some x
  slice_get-last [] x = refl
  slice_get-last (y ∷ xs) x = slice_get-last xs x

  some_same : (o : Option X) (x y : X) → o ≡ Some x → o ≡ Some y → x ≡ y
  some_same o x y one other = cc

-- ---- changes of a disk

module _ {S : Type 0} where
  pub length-all : (d : Disk S) → length (all d) ≡ suc (length d.older)
  length-all d = omega (arith, length-append d.older (d.newest ∷ []))

  pub HasAt-applied : (d : Disk S) (t s : S) (k : ℕ) → HasAt d k s → HasAt (applied d t) k s
  HasAt-applied d t s k h = (h.0, slice_get-left (all d) (t ∷ []) (k - d.pruned) s h.1)

  pub HasAt-newest : (d : Disk S) → HasAt d (place d) d.newest
  HasAt-newest d =
      let at : place d - d.pruned ≡ length d.older = omega arith in
      (omega arith, ap (slice_get (all d)) at ∙ slice_get-last d.older d.newest)

  pub newest-HasAt : (d : Disk S) (s : S) → HasAt d (place d) s → d.newest ≡ s
  newest-HasAt d s h =
      some_same (slice_get (all d) (place d - d.pruned)) d.newest s (HasAt-newest d).1 h.1

  -- a place of a checkpoint is no later than the newest's
  pub HasAt-within : (d : Disk S) (k : ℕ) (s : S) → HasAt d k s → k ≤ place d
  HasAt-within d k s h =
      let within = slice_get_within (all d) (k - d.pruned) s h.1 in omega (arith, length-all d)

  -- a state from a place on that isn't pruned
  pub HasAt-kept : (d : Disk S) (origin k : ℕ) (states : List S) (s : S)
      → drop (origin - d.pruned) (all d) ≡ drop (d.pruned - origin) states
      → slice_get states k ≡ Some s
      → d.pruned ≤ origin + k
      → HasAt d (origin + k) s
  HasAt-kept d origin k states s keeps is near =
      let j : ℕ = origin + k - d.pruned - (origin - d.pruned) in
      let one : origin + k - d.pruned ≡ (origin - d.pruned) + j = omega arith in
      let other : (d.pruned - origin) + j ≡ k = omega arith in (
        near,
        ap (slice_get (all d)) one ∙ sym (slice_get-drop (origin - d.pruned) j (all d))
            ∙ ap (λ xs. slice_get xs j) keeps ∙ slice_get-drop (d.pruned - origin) j states
            ∙ ap (slice_get states) other ∙ is,
      )

  pub HasAt-cut : (d : Disk S) (n k : ℕ) (s : S)
      → n ≤ length d.older
      → d.pruned + n ≤ k
      → HasAt d k s
      → HasAt (cut d n) k s
  HasAt-cut d n k s within from h =
      let rest : drop n d.older ++ d.newest ∷ [] ≡ drop n (all d) =
      sym (drop-append-le n d.older (d.newest ∷ []) within) in
      let at : n + (k - (d.pruned + n)) ≡ k - d.pruned = omega arith in (
        from,
        ap (λ xs. slice_get xs (k - (d.pruned + n))) rest
            ∙ slice_get-drop n (k - (d.pruned + n)) (all d) ∙ ap (slice_get (all d)) at ∙ h.1,
      )

  pub HasAt-crash : (d e : Disk S) (keep k : ℕ) (s : S)
      → IsCrash keep d e
      → k ≤ d.durable
      → HasAt d k s
      → HasAt e k s
  HasAt-crash d e keep k s crash durable h =
      let n : ℕ = max (d.durable + 1 - d.pruned) (min (keep - d.pruned) (length (all d))) in
      let pruned : e.pruned ≡ d.pruned = crash.pruned in
      let near : k - d.pruned < n = omega (arith, h.0) in
      let low : e.pruned ≤ k = omega (arith, h.0) in (
        low,
        ap (λ i. slice_get (all e) (k - i)) pruned
            ∙ ap (λ xs. slice_get xs (k - d.pruned)) crash.prefix
            ∙ slice_get-take n (k - d.pruned) (all d) near ∙ h.1,
      )

  pub HasAt-opened : (d e : Disk S) (n k : ℕ) (s : S)
      → IsOpened n d e
      → k - d.pruned ≤ n
      → HasAt d k s
      → HasAt e k s
  HasAt-opened d e n k s opened near h =
      let pruned : e.pruned ≡ d.pruned = opened.pruned in
      let below : k - d.pruned < n + 1 = omega arith in
      let low : e.pruned ≤ k = omega (arith, h.0) in (
        low,
        ap (λ i. slice_get (all e) (k - i)) pruned
            ∙ ap (λ xs. slice_get xs (k - d.pruned)) opened.kept
            ∙ slice_get-take (n + 1) (k - d.pruned) (all d) below ∙ h.1,
      )

  -- a crash leaves what was in order in order
  pub IsSound-crash : (range_of : S → Target) (d e : Disk S) (keep : ℕ)
      → IsCrash keep d e
      → IsSound range_of d
      → IsSound range_of e
  IsSound-crash range_of d e keep crash sound =
      let n : ℕ = max (d.durable + 1 - d.pruned) (min (keep - d.pruned) (length (all d))) in
      let lengths : length (all e) ≡ length (take n (all d)) = ap length crash.prefix in
      let kept : e.pruned ≤ e.durable = omega (arith, sound.kept, crash.pruned, crash.durable) in
      record {
        kept = kept;
        within =
            omega (
              arith,
              sound.kept,
              sound.within,
              crash.pruned,
              crash.durable,
              length-all e,
              length-all d,
              length-take n (all d),
            );
        ends = λ i j s t less at there. sound.ends i j s t less (back n i s at) (back n j t there);
        starts =
            λ i j s t less at there. sound.starts i j s t less (back n i s at) (back n j t there);
      }
    where
      back : (n i : ℕ) (s : S) → slice_get (all e) i ≡ Some s → slice_get (all d) i ≡ Some s
      back n i s at =
          slice_get-front
          (max (d.durable + 1 - d.pruned) (min (keep - d.pruned) (length (all d)))) i (all d) s
          (sym (ap (λ (xs : List S). slice_get xs i) crash.prefix) ∙ at)

  pub place-opened : (d e : Disk S) (n : ℕ)
      → IsOpened n d e
      → n < length (all d)
      → place e ≡ d.pruned + n
  place-opened d e n opened within =
      let kept : length (all e) ≡ length (take (n + 1) (all d)) = ap length opened.kept in
      omega (arith, length-all e, length-take (n + 1) (all d), opened.pruned)

-- the first element that passes isn't behind one that does
prefix_len-passes : {X : Type 0} (p : X → Bool) (xs : List X) (i : ℕ) (x : X)
    → slice_get xs i ≡ Some x
    → p x ≡ true
    → prefix_len (λ y. not (p y)) xs ≤ i
prefix_len-passes p [] i x is passes = cc
prefix_len-passes p (y ∷ xs) zero x is passes =
    let same : y ≡ x = cc in rw (same, passes) (omega arith)
prefix_len-passes p (y ∷ xs) (suc i) x is passes =
    let behind = prefix_len-passes p xs i x is passes in grind (arith, nat_tests)

-- where an element passes, there is a first one
pub position-passes : {X : Type 0} (p : X → Bool) (xs : List X) (i : ℕ) (x : X)
    → slice_get xs i ≡ Some x
    → p x ≡ true
    → position p xs ≡ None
    → ⊥
position-passes p xs i x is passes none =
    let first : position_or_len p xs ≤ i = prefix_len-passes p xs i x is passes in
    let within : i < length xs = slice_get_within xs i x is in
    let below : position_or_len p xs < length xs = omega arith in
    grind (arith, nat_tests)

module _ {S T : Type 0} (target_of : S → T) (targeted : T → Target) where
  abbrev pub range_of : S → Target
  range_of s = targeted (target_of s)

  -- the kept checkpoint with the end of a target is the one whose range ends there
  pub with_end-is : (t : T) (d : Disk S) (n k : ℕ) (s : S)
      → IsSound range_of d
      → with_end target_of targeted t d ≡ Some n
      → HasAt d k s
      → (range_of s).end.0 ≡ (targeted t).end.0
      → n ≡ k - d.pruned
  with_end-is t d n k s sound found h same =
      let p = position-Some (λ u. (range_of u).end.0 == (targeted t).end.0) (all d) n s found in
      let u : S = get_or (all d) n s in
      let at : slice_get (all d) n ≡ Some u = slice_get-get_or (all d) n s p.0 in
      let ends : (range_of u).end.0 ≡ (targeted t).end.0 = grind (arith, nat_tests, p.1) in
      let earlier : n < k - d.pruned → (range_of u).end.0 < (range_of s).end.0 =
      λ less. sound.ends n (k - d.pruned) u s less at h.1 in
      let later : k - d.pruned < n → (range_of s).end.0 < (range_of u).end.0 =
      λ less. sound.ends (k - d.pruned) n s u less h.1 at in
      grind arith

  -- where a checkpoint has the end of a target, no kept one whose range ends there or before is
  -- behind it
  pub with_end-from : (t : T) (d : Disk S) (n k : ℕ) (s : S)
      → IsSound range_of d
      → with_end target_of targeted t d ≡ Some n
      → HasAt d k s
      → (range_of s).end.0 ≤ (targeted t).end.0
      → (k - d.pruned ≤ n) × (n < length (all d))
  with_end-from t d n k s sound found h near =
      let p = position-Some (λ u. (range_of u).end.0 == (targeted t).end.0) (all d) n s found in
      let u : S = get_or (all d) n s in
      let at : slice_get (all d) n ≡ Some u = slice_get-get_or (all d) n s p.0 in
      let ends : (range_of u).end.0 ≡ (targeted t).end.0 = grind (arith, nat_tests, p.1) in
      let earlier : n < k - d.pruned → (range_of u).end.0 < (range_of s).end.0 =
      λ less. sound.ends n (k - d.pruned) u s less at h.1 in
      (grind arith, p.0)
