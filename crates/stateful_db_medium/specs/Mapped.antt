-- Disks whose checkpoints stand for others: what is kept of a checkpoint is less than what it is to
-- the layer above.
use Rattle.std.proofs.Common.{◌≡◌, ℕ, zero, suc, ◌+◌, ◌-◌, ◌==◌, Bool, cond, List, [], ◌∷◌, ◌++◌}
use Rattle.std.proofs.Common.{length, map, take, min, max, Option, Some, None, refl, sym, ap, ◌∙◌}
use Rattle.std.proofs.Common.{arith, inl, inr, position, slice_get}
use Rattle.std.specs.List.{position_from}
use Rattle.std.proofs.lemmas.List.{take-map, drop-map}
use Rattle.std.proofs.lemmas.Iterator.Adapters.{position_from-zero}
use Rattle.stateful_base.specs.declared.target.Target.{Target}
use Rattle.stateful_db.specs.Disk.{Disk, Standing, all, applied, cut, IsCrash, IsOpened, IsSound}
use Rattle.stateful_db.specs.Reopening.{with_end, HasNone, FailsToReopen}
use Rattle.stateful_db.specs.declared.database.InitError.{InitError}
use Rattle.stateful_db.specs.declared.database.InitError.TheVariants as error
use Rattle.stateful_db_medium.specs.Openings.{IsNumberOf}

module _ {K S : Type 0} where
  -- each checkpoint as what it stands for
  abbrev pub mapped : (K → S) → Disk K → Disk S
  mapped f d =
      record { older = map f d.older; newest = f d.newest; pruned = d.pruned; durable = d.durable }

  abbrev pub mapped_standing : (K → S) → Standing K → Standing S
  mapped_standing f s = record { id = s.id; disk = mapped f s.disk; out = s.out }

  -- two meanings agree on these checkpoints
  abbrev pub Agree : (K → S) → (K → S) → List K → Type 0
  Agree f g [] = Unit {0}
  Agree f g (k ∷ ks) = (f k ≡ g k) × Agree f g ks

  pub map-append_one : (f : K → S) (ks : List K) (k : K)
      → map f (ks ++ k ∷ []) ≡ map f ks ++ f k ∷ []
  map-append_one f [] k = refl
  map-append_one f (j ∷ ks) k = ap (λ xs. f j ∷ xs) (map-append_one f ks k)

  pub length-mapped : (f : K → S) (ks : List K) → length (map f ks) ≡ length ks
  length-mapped f [] = refl
  length-mapped f (k ∷ ks) = omega (arith, length-mapped f ks)

  pub map-agree : (f g : K → S) (ks : List K) → Agree f g ks → map f ks ≡ map g ks
  map-agree f g [] a = refl
  map-agree f g (k ∷ ks) a = let tail = map-agree f g ks a.1 in rw (a.0, tail) refl

  -- meanings that agree on each checkpoint of a list
  pub agree_each : (f g : K → S) (ks : List K)
      → ((i : ℕ) (k : K) → slice_get ks i ≡ Some k → f k ≡ g k)
      → Agree f g ks
  agree_each f g [] each = tt
  agree_each f g (k ∷ ks) each = (each 0 k refl, agree_each f g ks (λ i j at. each (suc i) j at))

  all-mapped : (f : K → S) (d : Disk K) → all (mapped f d) ≡ map f (all d)
  all-mapped f d = sym (map-append_one f d.older d.newest)

  -- a crash
  pub crash-mapped : (f g : K → S) (keep : ℕ) (d e : Disk K)
      → IsCrash keep d e
      → Agree g f (all e)
      → IsCrash keep (mapped f d) (mapped g e)
  crash-mapped f g keep d e crash agree =
      let n = max (d.durable + 1 - d.pruned) (min (keep - d.pruned) (length (all d))) in
      let count : length (all (mapped f d)) ≡ length (all d) =
      ap length (all-mapped f d) ∙ length-mapped f (all d) in
      record {
        prefix =
            all-mapped g e ∙ map-agree g f (all e) agree ∙ ap (map f) crash.prefix
            ∙ sym (take-map f n (all d))
            ∙ ap (λ xs. take n xs) (sym (all-mapped f d))
            ∙ ap
            (λ m. take (max (d.durable + 1 - d.pruned) (min (keep - d.pruned) m))
            (all (mapped f d)))
            (sym count);
        pruned = crash.pruned;
        durable = crash.durable;
      }

  -- an opening
  pub opened-mapped : (f g : K → S) (n : ℕ) (d e : Disk K)
      → IsOpened n d e
      → Agree g f (all e)
      → IsOpened n (mapped f d) (mapped g e)
  opened-mapped f g n d e opened agree = record {
    kept =
        all-mapped g e ∙ map-agree g f (all e) agree ∙ ap (map f) opened.kept
        ∙ sym (take-map f (n + 1) (all d))
        ∙ ap (λ xs. take (n + 1) xs) (sym (all-mapped f d));
    pruned = opened.pruned;
    durable = opened.durable ∙ ap (λ m. e.pruned + m) (sym (length-mapped g e.older));
  }

  -- one checkpoint more
  pub applied-mapped : (f g : K → S) (d : Disk K) (k : K)
      → Agree g f (all d)
      → mapped g (applied d k) ≡ applied (mapped f d) (g k)
  applied-mapped f g d k agree =
      let older : map g (all d) ≡ all (mapped f d) =
      map-agree g f (all d) agree ∙ sym (all-mapped f d) in
      ap (λ xs. record { older = xs; newest = g k; pruned = d.pruned; durable = d.durable }) older

  agree-front : (f g : K → S) (ks : List K) (k : K)
      → Agree g f (ks ++ k ∷ [])
      → Agree g f ks × (g k ≡ f k)
  agree-front f g [] k a = (tt, a.0)
  agree-front f g (j ∷ ks) k a = let rest = agree-front f g ks k a.1 in ((a.0, rest.0), rest.1)

  -- the same checkpoints
  pub same-mapped : (f g : K → S) (d : Disk K) → Agree g f (all d) → mapped g d ≡ mapped f d
  same-mapped f g d agree =
      let (older, newest) = agree-front f g d.older d.newest agree in
      let same = map-agree g f d.older older in
      rw (same, newest) refl

  -- without so many of the oldest
  pub cut-mapped : (f g : K → S) (d : Disk K) (n : ℕ)
      → Agree g f (all (cut d n))
      → mapped g (cut d n) ≡ cut (mapped f d) n
  cut-mapped f g d n agree =
      same-mapped f g (cut d n) agree
      ∙ ap
      (λ xs. record
      { older = xs; newest = f d.newest; pruned = d.pruned + n; durable = d.durable })
      (sym (drop-map f n d.older))

  from-map : (p : S → Bool) (f : K → S) (i : ℕ) (ks : List K)
      → position_from p i (map f ks) ≡ position_from (λ k. p (f k)) i ks
  from-map p f i [] = refl
  from-map p f i (k ∷ ks) = ap (λ o. cond (p (f k)) (Some i) o) (from-map p f (i + 1) ks)

  position-map : (p : S → Bool) (f : K → S) (ks : List K)
      → position p (map f ks) ≡ position (λ k. p (f k)) ks
  position-map p f ks =
      position_from-zero p (map f ks) ∙ from-map p f 0 ks
      ∙ sym (position_from-zero (λ k. p (f k)) ks)

  pub slice_get-map : (f : K → S) (ks : List K) (i : ℕ) (k : K)
      → slice_get ks i ≡ Some k
      → slice_get (map f ks) i ≡ Some (f k)
  slice_get-map f [] i k at = cc
  slice_get-map f (j ∷ ks) zero k at = let same : j ≡ k = cc in ap (λ x. Some (f x)) same
  slice_get-map f (j ∷ ks) (suc i) k at = slice_get-map f ks i k at

-- Where the range of what a checkpoint stands for is known from what is kept, checkpoints are found
-- alike.
module _ {K S : Type 0} (f : K → S) (range : S → Target) where
  abbrev kept_range : K → Target
  kept_range k = range (f k)

  pub with_end-mapped : (t : Target) (d : Disk K)
      → with_end range (λ u. u) t (mapped f d) ≡ with_end kept_range (λ u. u) t d
  with_end-mapped t d =
      ap (λ ss. position (λ s. (range s).end.0 == t.end.0) ss) (all-mapped f d)
      ∙ position-map (λ s. (range s).end.0 == t.end.0) f (all d)

  pub number-mapped : (expected : Option Target) (d : Disk K) (n : ℕ)
      → IsNumberOf kept_range (λ u. u) expected d n
      → IsNumberOf range (λ u. u) expected (mapped f d) n
  number-mapped None d n h = h ∙ sym (length-mapped f d.older)
  number-mapped (Some t) d n h = (
    with_end-mapped t d
        ∙ h.0,
    (
      f h.1.0,
      ap (λ ss. slice_get ss n) (all-mapped f d)
          ∙ slice_get-map f (all d) n h.1.0 h.1.1,
      h.1.2,
    ),
  )

  pub fails-mapped : (expected : Option Target) (d : Disk K) (rose : Type 0) (e : InitError)
      → FailsToReopen kept_range (λ u. u) expected d rose e
      → FailsToReopen range (λ u. u) expected (mapped f d) rose e
  fails-mapped expected d rose error.OutOfMemory h = tt
  fails-mapped None d rose error.Database h = h
  fails-mapped (Some t) d rose error.Database (inl h) = inl h
  fails-mapped (Some t) d rose error.Database (inr h) = inr (with_end-mapped t d ∙ h)
  fails-mapped None d rose (error.TargetMismatch given recovered) h = h
  fails-mapped (Some t) d rose (error.TargetMismatch given recovered)
      (n, k, found, at, differs, expected, is) = (
        n,
        f k,
        with_end-mapped t d ∙ found,
        ap (λ ss. slice_get ss n) (all-mapped f d)
            ∙ slice_get-map f (all d) n k at,
        differs,
        expected,
        is,
      )

  pub none-mapped : (expected : Option Target) (d : Disk K)
      → HasNone kept_range (λ u. u) expected d
      → HasNone range (λ u. u) expected (mapped f d)
  none-mapped None d h = h
  none-mapped (Some t) d h = with_end-mapped t d ∙ h

module _ {K S : Type 0} (f : K → S) (range : S → Target) where
  from_map : (ks : List K) (i : ℕ) (s : S)
      → slice_get (map f ks) i ≡ Some s
      → (k : K) × ((slice_get ks i ≡ Some k) × (f k ≡ s))
  from_map [] i s h = cc
  from_map (k ∷ ks) zero s h = (k, (refl, cc))
  from_map (k ∷ ks) (suc i) s h = from_map ks i s h

  -- checkpoints that stand for others are in order
  pub sound-mapped : (d : Disk K) → IsSound (λ k. range (f k)) d → IsSound range (mapped f d)
  sound-mapped d sound =
      let back : (i : ℕ) (s : S)
      → slice_get (all (mapped f d)) i ≡ Some s
      → (k : K) × ((slice_get (all d) i ≡ Some k) × (f k ≡ s)) =
      λ i s at. from_map (all d) i s (ap (λ xs. slice_get xs i) (sym (all-mapped f d)) ∙ at) in
      record {
        kept = sound.kept;
        within = omega (arith, sound.within, length-mapped f d.older);
        ends = λ i j s t less at_i at_j.
            let one = back i s at_i in let two = back j t at_j in
            let e = sound.ends i j one.0 two.0 less one.1.0 two.1.0 in
            omega (arith, e, ap (λ x. (range x).end.0) one.1.1, ap (λ x. (range x).end.0) two.1.1);
        starts = λ i j s t less at_i at_j.
            let one = back i s at_i in let two = back j t at_j in
            let e = sound.starts i j one.0 two.0 less one.1.0 two.1.0 in
            omega (
              arith,
              e,
              ap (λ x. (range x).start.0) one.1.1,
              ap (λ x. (range x).start.0) two.1.1,
            );
      }
