-- the operations of kept checkpoints, where others are dropped or appended
use Rattle.std.proofs.Common.{◌≡◌, ℕ, zero, suc, ◌+◌, ◌-◌, ◌≤◌, ◌<◌, ◌⊎◌, inl, inr, List, [], ◌∷◌, ◌++◌, length, take, drop, min, map, Some, None, slice_get, refl, sym, ap, ◌∙◌, arith, length-take, length-drop, length-append}
use Rattle.std.proofs.lemmas.List.{take-take, drop-drop, take-append-le, drop-append-le, take_all}
use Rattle.stateful_db.specs.Disk.{Disk, Standing, IsSound, all, applied, cut}
use Rattle.stateful_db.specs.CheckpointLaws.{slice_get-last, slice_get-left, slice_get-take, slice_get-drop, length-all}
use Rattle.std.proofs.lemmas.Option.{slice_get_within}
use Rattle.stateful_db_medium.specs.declared.checkpoints.Checkpoint.{Checkpoint}
use Rattle.stateful_db_medium.specs.Ranged.{range_of}
use Rattle.stateful_db_medium.specs.Mapped.{mapped, Agree, agree_each}
use Rattle.stateful_base.specs.declared.digest.Digest.{Digest}
use Rattle.stateful_db_log.specs.Linking.{behind}
use Rattle.stateful_db_log.specs.Between.{between, state_in}
use Rattle.stateful_db_log.specs.Logs.{oldest_of, begin_of}

abbrev pub Point : Type 0
Point = Checkpoint (Unit {0})

-- an element is one of the front, or the last
slice_get_cases : {X : Type 0} (i : ℕ) (xs : List X) (y x : X) → slice_get (xs ++ y ∷ []) i ≡ Some x → (slice_get xs i ≡ Some x) ⊎ (y ≡ x)
slice_get_cases zero [] y x h = inr cc
slice_get_cases (suc i) [] y x h = inl h
slice_get_cases zero (z ∷ xs) y x h = inl h
slice_get_cases (suc i) (z ∷ xs) y x h = slice_get_cases i xs y x h

le_or : (a b : ℕ) → (a ≤ b) ⊎ (b ≤ a)
le_or zero b = inl (omega arith)
le_or (suc a) zero = inr (omega arith)
le_or (suc a) (suc b) = elim (le_or a b) [
  | inl h ↦ inl (omega arith)
  | inr h ↦ inr (omega arith)
]

from_take : {X : Type 0} (n i : ℕ) (xs : List X) (x : X) → slice_get (take n xs) i ≡ Some x → slice_get xs i ≡ Some x
from_take zero i xs x h = cc
from_take (suc n) i [] x h = cc
from_take (suc n) zero (y ∷ xs) x h = h
from_take (suc n) (suc i) (y ∷ xs) x h = from_take n i xs x h

-- of checkpoints in order the newest ends last
ends_last : (d : Disk Point) → IsSound range_of d → (i : ℕ) (k : Point) → slice_get (all d) i ≡ Some k → k.target.end.0 ≤ d.newest.target.end.0
ends_last d sound i k at =
    let within : i < length (all d) = slice_get_within (all d) i k at in
    let last : slice_get (all d) (length d.older) ≡ Some d.newest = slice_get-last d.older d.newest in
    elim (le_or (length d.older) i) [
      | inl h ↦
          let same : i ≡ length d.older = omega (arith, length-all d) in
          let here : slice_get (all d) (length d.older) ≡ Some k = ap (λ j. slice_get (all d) j) (sym same) ∙ at in
          let is : d.newest ≡ k = cc in
          omega (arith, ap (λ (x : Point). x.target.end.0) is)
      | inr h ↦ elim (le_or i (length d.older)) [
        | inl less ↦ elim (split i (length d.older) less) [
          | inl below ↦ let later = sound.ends i (length d.older) k d.newest below at last in omega arith
          | inr same ↦
              let here : slice_get (all d) (length d.older) ≡ Some k = ap (λ j. slice_get (all d) j) (sym same) ∙ at in
              let is : d.newest ≡ k = cc in
              omega (arith, ap (λ (x : Point). x.target.end.0) is)
        ]
        | inr more ↦
            let same : i ≡ length d.older = omega arith in
            let here : slice_get (all d) (length d.older) ≡ Some k = ap (λ j. slice_get (all d) j) (sym same) ∙ at in
            let is : d.newest ≡ k = cc in
            omega (arith, ap (λ (x : Point). x.target.end.0) is)
      ]
    ]
  where
    split : (a b : ℕ) → a ≤ b → (a < b) ⊎ (a ≡ b)
    split zero zero h = inr refl
    split zero (suc b) h = inl (omega arith)
    split (suc a) zero h = absurd (omega arith)
    split (suc a) (suc b) h = elim (split a b (omega arith)) [
      | inl less ↦ inl (omega arith)
      | inr same ↦ inr (ap suc same)
    ]

module _ {Op : Type 0} where
  -- a part of the first ones is a part of all
  window-take : (m k n : ℕ) (xs : List Op) → k + m ≤ n → take m (drop k (take n xs)) ≡ take m (drop k xs)
  window-take m zero n xs h = take-take m n xs (omega arith)
  window-take m (suc k) zero xs h = absurd (omega arith)
  window-take m (suc k) (suc n) [] h = refl
  window-take m (suc k) (suc n) (x ∷ xs) h = window-take m k n xs (omega arith)

  -- a part of the front is a part of the whole
  window-append : (m k : ℕ) (xs ys : List Op) → k + m ≤ length xs → take m (drop k (xs ++ ys)) ≡ take m (drop k xs)
  window-append m zero xs ys h = take-append-le m xs ys (omega arith)
  window-append m (suc k) [] ys h = absurd (omega arith)
  window-append m (suc k) (x ∷ xs) ys h = window-append m k xs ys (omega arith)

  none : (m : ℕ) (xs ys : List Op) → m ≡ 0 → take m xs ≡ take m ys
  none m xs ys h = rw h refl

  -- where the operations are cut off behind an end, those before it stay
  between-cut : (first end : ℕ) (ops : List Op) (s e : ℕ) → first ≤ s → e ≤ end → between first (take (end - first) ops) s e ≡ between first ops s e
  between-cut first end ops s e low high =
      elim (le_or s e) [
        | inl h ↦ window-take (e - s) (s - first) (end - first) ops (omega arith)
        | inr h ↦ none (e - s) _ _ (omega arith)
      ]

  -- where operations are appended, those before stay
  between-append : (first : ℕ) (ops more : List Op) (s e : ℕ) → first ≤ s → e ≤ first + length ops → between first (ops ++ more) s e ≡ between first ops s e
  between-append first ops more s e low high =
      elim (le_or s e) [
        | inl h ↦ window-append (e - s) (s - first) ops more (omega arith)
        | inr h ↦ none (e - s) _ _ (omega arith)
      ]

  -- where operations are dropped from the front, those behind stay
  between-drop : (first later : ℕ) (ops : List Op) (s e : ℕ) → first ≤ later → later ≤ s → between later (drop (later - first) ops) s e ≡ between first ops s e
  between-drop first later ops s e low high =
      let at : (later - first) + (s - later) ≡ s - first = omega arith in
      ap (λ xs. take (e - s) xs) (drop-drop (s - later) (later - first) ops ∙ ap (λ n. drop n ops) at)

  -- the checkpoints `d` begin and end at the location `first` or later, and the newest ends where the operations do
  pub record Holds (first : ℕ) (ops : List Op) (d : Disk Point) : Type 0 where
    pub sound : IsSound range_of d
    pub begins : (i : ℕ) (k : Point) → slice_get (all d) i ≡ Some k → first ≤ min k.target.start.0 k.target.end.0
    pub ends : d.newest.target.end.0 ≡ first + length ops

  -- what is left where only some of the oldest checkpoints are kept, and the operations behind them are cut off
  module _ (first : ℕ) (ops : List Op) (d e : Disk Point) (n : ℕ) (h : Holds first ops d) (sound : IsSound range_of e) (kept : all e ≡ take n (all d)) where
    abbrev end : ℕ
    end = e.newest.target.end.0

    was : (i : ℕ) (k : Point) → slice_get (all e) i ≡ Some k → slice_get (all d) i ≡ Some k
    was i k at = from_take n i (all d) k (ap (λ ks. slice_get ks i) (sym kept) ∙ at)

    pub first_begins : (i : ℕ) (k : Point) → slice_get (all e) i ≡ Some k → first ≤ min k.target.start.0 k.target.end.0
    first_begins i k at = h.begins i k (was i k at)

    pub first_ends : end ≡ first + length (take (end - first) ops)
    first_ends =
        let was_here = was (length e.older) e.newest (slice_get-last e.older e.newest) in
        let low = h.begins (length e.older) e.newest was_here in
        let last = ends_last d h.sound (length e.older) e.newest was_here in
        omega (arith, length-take (end - first) ops, h.ends)

    pub first_agree : Agree (state_in first (take (end - first) ops)) (state_in first ops) (all e)
    first_agree = agree_each _ _ (all e) (λ i k at.
        let low : first ≤ k.target.start.0 = (let both = h.begins i k (was i k at) in omega arith) in
        ap (λ xs. record { target = k.target; kept = xs }) (between-cut first end ops k.target.start.0 k.target.end.0 low (ends_last e sound i k at)))

  -- what is left where the operations before the start of the oldest checkpoint (or before its end) are dropped
  module _ (first : ℕ) (ops : List Op) (d : Disk Point) (k : Point) (later : ℕ) (h : Holds first ops d) (oldest : slice_get (all d) 0 ≡ Some k) (is : later ≡ min k.target.start.0 k.target.end.0) where
    pub later_first : first ≤ later
    later_first = let low = h.begins 0 k oldest in omega arith

    pub later_begins : (i : ℕ) (x : Point) → slice_get (all d) i ≡ Some x → later ≤ min x.target.start.0 x.target.end.0
    later_begins zero x at = let same : k ≡ x = cc in omega (arith, ap (λ (y : Point). y.target.start.0) same, ap (λ (y : Point). y.target.end.0) same)
    later_begins (suc i) x at =
        let above = h.sound.starts 0 (suc i) k x (omega arith) oldest at in
        let behind = h.sound.ends 0 (suc i) k x (omega arith) oldest at in
        omega arith

    pub later_ends : d.newest.target.end.0 ≡ later + length (drop (later - first) ops)
    later_ends =
        let last = ends_last d h.sound 0 k oldest in
        omega (arith, later_first, length-drop (later - first) ops, h.ends)

    pub later_agree : Agree (state_in later (drop (later - first) ops)) (state_in first ops) (all d)
    later_agree = agree_each _ _ (all d) (λ i x at.
        let low : later ≤ x.target.start.0 = (let both = later_begins i x at in omega arith) in
        ap (λ xs. record { target = x.target; kept = xs }) (between-drop first later ops x.target.start.0 x.target.end.0 later_first low))

module _ {Op : Type 0} where
  -- the operations of a checkpoint that is added
  between-more : (first : ℕ) (ops more : List Op) (s e a b : ℕ) → first ≤ s → s ≤ e → e ≡ first + length ops → s ≤ a → b ≡ e + length more → between first (ops ++ more) a b ≡ drop (a - s) (between first ops s e ++ more)
  between-more first ops more s e a b low range ends above behind =
      let whole : between first ops s e ≡ drop (s - first) ops = take_all (e - s) (drop (s - first) ops) (omega (arith, length-drop (s - first) ops)) in
      let joined : between first ops s e ++ more ≡ drop (s - first) (ops ++ more) = ap (λ xs. xs ++ more) whole ∙ sym (drop-append-le (s - first) ops more (omega arith)) in
      let at : (s - first) + (a - s) ≡ a - first = omega arith in
      take_all (b - a) (drop (a - first) (ops ++ more)) (omega (arith, length-drop (a - first) (ops ++ more), length-append ops more))
      ∙ ap (λ n. drop n (ops ++ more)) (sym at)
      ∙ sym (drop-drop (a - s) (s - first) (ops ++ more))
      ∙ ap (λ xs. drop (a - s) xs) (sym joined)

  -- one checkpoint more, with the operations that are appended
  module _ (first : ℕ) (ops more : List Op) (d : Disk Point) (k : Point) (h : Holds first ops d) (sound : IsSound range_of (applied d k))
      (range : d.newest.target.start.0 ≤ d.newest.target.end.0) (ends : k.target.end.0 ≡ d.newest.target.end.0 + length more) where
    last_here : slice_get (all d) (length d.older) ≡ Some d.newest
    last_here = slice_get-last d.older d.newest

    above_newest : d.newest.target.start.0 ≤ k.target.start.0
    above_newest =
        let one : slice_get (all (applied d k)) (length d.older) ≡ Some d.newest = slice_get-left (all d) (k ∷ []) (length d.older) d.newest last_here in
        let two : slice_get (all (applied d k)) (length (all d)) ≡ Some k = slice_get-last (all d) k in
        sound.starts (length d.older) (length (all d)) d.newest k (omega (arith, length-all d)) one two

    pub more_begins : (i : ℕ) (x : Point) → slice_get (all (applied d k)) i ≡ Some x → first ≤ min x.target.start.0 x.target.end.0
    more_begins i x at =
        elim (slice_get_cases i (all d) k x at) [
          | inl inside ↦ h.begins i x inside
          | inr is ↦
              let low = h.begins (length d.older) d.newest last_here in
              omega (arith, above_newest, ends, ap (λ (y : Point). y.target.start.0) is, ap (λ (y : Point). y.target.end.0) is)
        ]

    pub more_ends : k.target.end.0 ≡ first + length (ops ++ more)
    more_ends = omega (arith, length-append ops more, h.ends)

    pub more_agree : Agree (state_in first (ops ++ more)) (state_in first ops) (all d)
    more_agree = agree_each _ _ (all d) (λ i x at.
        let low : first ≤ x.target.start.0 = (let both = h.begins i x at in omega arith) in
        let high : x.target.end.0 ≤ first + length ops = (let last = ends_last d h.sound i x at in omega (arith, h.ends)) in
        ap (λ xs. record { target = x.target; kept = xs }) (between-append first ops more x.target.start.0 x.target.end.0 low high))

    pub more_is : state_in first (ops ++ more) k ≡ record { target = k.target; kept = drop (k.target.start.0 - d.newest.target.start.0) (between first ops d.newest.target.start.0 d.newest.target.end.0 ++ more) }
    more_is = ap (λ xs. record { target = k.target; kept = xs })
        (between-more first ops more d.newest.target.start.0 d.newest.target.end.0 k.target.start.0 k.target.end.0 (let both = h.begins (length d.older) d.newest last_here in omega arith) range h.ends above_newest ends)

-- of the checkpoints that a prune leaves too
pub cut_begins : (first : ℕ) (d : Disk Point) (n : ℕ) → n ≤ length d.older → ((i : ℕ) (k : Point) → slice_get (all d) i ≡ Some k → first ≤ min k.target.start.0 k.target.end.0) → (i : ℕ) (k : Point) → slice_get (all (cut d n)) i ≡ Some k → first ≤ min k.target.start.0 k.target.end.0
cut_begins first d n within begins i k at =
    let rest : drop n d.older ++ d.newest ∷ [] ≡ drop n (all d) = sym (drop-append-le n d.older (d.newest ∷ []) within) in
    begins (n + i) k (sym (slice_get-drop n i (all d)) ∙ ap (λ ks. slice_get ks i) (sym rest) ∙ at)

pub standing_is : {S : Type 0} (s : Standing S) (id : ℕ) (d : Disk S) (out : List ℕ) → s.id ≡ id → s.disk ≡ d → s.out ≡ out → s ≡ record { id = id; disk = d; out = out }
standing_is s id d out a b e i = record { id = a i; disk = b i; out = e i }

-- the checkpoint of number 0 is the oldest
pub oldest_is : (d : Disk Point) (k : Point) → slice_get (all d) 0 ≡ Some k → oldest_of d.older d.newest ≡ k
oldest_is d k at = first d.older at
  where
    first : (older : List Point) → slice_get (older ++ d.newest ∷ []) 0 ≡ Some k → oldest_of older d.newest ≡ k
    first [] h = cc
    first (x ∷ older) h = cc

pub begin_is : (d : Disk Point) (k : Point) → slice_get (all d) 0 ≡ Some k → min k.target.start.0 k.target.end.0 ≡ begin_of d
begin_is d k at = ap (λ (x : Point). min x.target.start.0 x.target.end.0) (sym (oldest_is d k at))

-- what checkpoints stand for begins where they do
pub begin-mapped : {Op : Type 0} (first : ℕ) (ops : List Op) (d : Disk Point) → begin_of (mapped (state_in first ops) d) ≡ begin_of d
begin-mapped first ops d = same d.older
  where
    same : (older : List Point) → (let s = oldest_of (map (state_in first ops) older) (state_in first ops d.newest) in min s.target.start.0 s.target.end.0) ≡ (let s = oldest_of older d.newest in min s.target.start.0 s.target.end.0)
    same [] = refl
    same (x ∷ older) = refl

-- the only checkpoint
pub alone : (k x : Point) (i : ℕ) → slice_get (k ∷ []) i ≡ Some x → k ≡ x
alone k x zero at = cc
alone k x (suc i) at = cc

-- all operations
pub between-all : {Op : Type 0} (start end : ℕ) (ops : List Op) → length ops ≡ end - start → between start ops start end ≡ ops
between-all start end ops whole =
    let here : start - start ≡ 0 = omega arith in
    rw here (take_all (end - start) ops (omega arith))

-- the first operations of a list that isn't empty
pub behind-front : {Op : Type 0} (link : ℕ → Digest → Op → Digest) (n at : ℕ) (d : Digest) (op : Op) (ops : List Op) → 0 < n → behind link at d (take n (op ∷ ops)) ≡ behind link (at + 1) (link at d op) (take (n - 1) ops)
behind-front link zero at d op ops h = absurd (omega arith)
behind-front link (suc n) at d op ops h = let same : suc n - 1 ≡ n = omega arith in rw same refl

-- an operation of a part
pub slice_get-between : {Op : Type 0} (first : ℕ) (ops : List Op) (start end at : ℕ) → first ≤ start → start ≤ at → at < end → slice_get (between first ops start end) (at - start) ≡ slice_get ops (at - first)
slice_get-between first ops start end at low high inside =
    let here : start - first + (at - start) ≡ at - first = omega arith in
    slice_get-take (end - start) (at - start) (drop (start - first) ops) (omega arith)
    ∙ slice_get-drop (start - first) (at - start) ops
    ∙ ap (slice_get ops) here

-- one of the first ones more
take-next : {X : Type 0} (n : ℕ) (xs : List X) (x : X) → slice_get xs n ≡ Some x → take (suc n) xs ≡ take n xs ++ x ∷ []
take-next n [] x h = cc
take-next zero (y ∷ xs) x h = let same : y ≡ x = cc in ap (λ z. z ∷ []) same
take-next (suc n) (y ∷ xs) x h = ap (λ zs. y ∷ zs) (take-next n xs x h)

-- one operation more
pub between-next : {Op : Type 0} (first : ℕ) (ops : List Op) (start at : ℕ) (op : Op) → first ≤ start → start ≤ at → slice_get ops (at - first) ≡ Some op → between first ops start (at + 1) ≡ between first ops start at ++ op ∷ []
between-next first ops start at op low high is =
    let here : start - first + (at - start) ≡ at - first = omega arith in
    let more : at + 1 - start ≡ suc (at - start) = omega arith in
    ap (λ n. take n (drop (start - first) ops)) more
    ∙ take-next (at - start) (drop (start - first) ops) op (slice_get-drop (start - first) (at - start) ops ∙ ap (slice_get ops) here ∙ is)

-- what isn't in a list is behind it
pub slice_get-there : {X : Type 0} (xs : List X) (n : ℕ) → slice_get xs n ≡ None → length xs ≤ n
slice_get-there [] n h = omega arith
slice_get-there (x ∷ xs) zero h = cc
slice_get-there (x ∷ xs) (suc n) h = let rest = slice_get-there xs n h in omega (arith, rest)
