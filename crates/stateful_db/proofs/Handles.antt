-- Handles of a barrier, one more at a time.
use Rattle.std.proofs.Common.{◌≡◌, ℕ, zero, suc, ◌+◌, ◌<◌, ◌≤◌, List, [], ◌∷◌, length, get_or, take, set, Some, inl, inr, ap, sym, refl, subst, ◌∙◌, arith, get_or-take, ◌⊎◌}
use Rattle.std.specs.List.{Any}
use Rattle.std.proofs.lemmas.List.{length-take, get_or_default, take_all}
use Rattle.std.proofs.lemmas.List.Elements.{All-more}
use Rattle.std.proofs.lemmas.Bool.{cases_eq}
use Rattle.stateful_db.specs.Barrier.{IsGood, IsBroken, IsOpen, Polled, answered}
use Rattle.stateful_db.specs.declared.barrier.Handle.{Handle}
use Rattle.stateful_db.specs.declared.barrier.Flushed.{Flushed}
use Rattle.stateful_db.specs.declared.barrier.BarrierPoll.{BarrierPoll}
use Rattle.stateful_db.specs.declared.barrier.BarrierPoll.TheVariants as poll

module _ {X : Type 0} (P : X → Type 0) where
  pub Any-at : (xs : List X) (i : ℕ) (d : X) → i < length xs → P (get_or xs i d) → Any P xs
  Any-at xs i d h p = (i, get_or xs i d, h, get_or_default xs i (get_or xs i d) d h, p)

  pub Any-more : (xs : List X) (n : ℕ) → Any P (take n xs) → Any P (take (n + 1) xs)
  Any-more xs n (k, x, h, e, p) =
      let below : k < n = omega (arith, length-take n xs) in
      (k, x, omega (arith, length-take n xs, length-take (n + 1) xs), get_or-take (n + 1) xs k x (omega arith) ∙ sym (get_or-take n xs k x below) ∙ e, p)

  pub Any-last : (xs : List X) (i : ℕ) (d : X) → i < length xs → P (get_or xs i d) → Any P (take (i + 1) xs)
  Any-last xs i d h p =
      let here = get_or-take (i + 1) xs i d (omega arith) in
      Any-at (take (i + 1) xs) i d (omega (arith, length-take (i + 1) xs)) (subst P (sym here) p)

  -- what holds of none of the first i elements, nor of the next, holds of none of the first i + 1
  pub none_more : (xs : List X) (i : ℕ) (d : X) → i < length xs → (P (get_or xs i d) → ⊥) → (Any P (take i xs) → ⊥) → Any P (take (i + 1) xs) → ⊥
  none_more xs i d h here before (k, x, l, e, p) = split (cases_eq k i)
    where
      within : k < i + 1
      within = omega (arith, length-take (i + 1) xs)

      is_x : get_or xs k x ≡ x
      is_x = sym (get_or-take (i + 1) xs k x within) ∙ e

      split : (k ≡ i) ⊎ (k ≡ i → ⊥) → ⊥
      split (inl same) = here (subst P (sym is_x ∙ ap (λ n. get_or xs n x) same ∙ get_or_default xs i x d h) p)
      split (inr other) =
          let below : k < i = omega (arith, within) in
          before (k, x, omega (arith, length-take i xs), get_or-take i xs k x below ∙ is_x, p)

module _ (hs : List Handle) (i : ℕ) (d : Handle) (h : i < length hs) where
  -- a good handle isn't broken
  pub unbroken_good : IsGood (get_or hs i d) → (Any IsBroken (take i hs) → ⊥) → Any IsBroken (take (i + 1) hs) → ⊥
  unbroken_good good = none_more IsBroken hs i d h (λ broken. cc)

  -- an open handle isn't broken
  pub unbroken_open : IsOpen (get_or hs i d) → (Any IsBroken (take i hs) → ⊥) → Any IsBroken (take (i + 1) hs) → ⊥
  unbroken_open is = none_more IsBroken hs i d h (λ broken. cc)

  -- one good handle more
  pub Polled-good : (p : BarrierPoll) → IsGood (get_or hs i d) → (Any IsBroken (take i hs) → ⊥) → Polled (take i hs) p → Polled (take (i + 1) hs) p
  Polled-good poll.Durable good none all = All-more IsGood hs i d h all good
  Polled-good poll.Interrupted good none any = absurd (none any)
  Polled-good poll.Pending good none pending = (Any-more IsOpen hs i pending.0, unbroken_good good none)

  -- one open handle more
  pub Polled-open : IsOpen (get_or hs i d) → (Any IsBroken (take i hs) → ⊥) → Polled (take (i + 1) hs) poll.Pending
  Polled-open is none = (Any-last IsOpen hs i d h is, unbroken_open is none)

-- all handles are among the first so many
pub Polled-all : (hs : List Handle) (n : ℕ) (p : BarrierPoll) → length hs ≤ n → Polled (take n hs) p → Polled hs p
Polled-all hs n p h = subst (λ xs. Polled xs p) (take_all n hs h)

-- a handle that is written with an answer
pub set-answered : (hs : List Handle) (i : ℕ) (x : Handle) (answer : Flushed) → x ≡ get_or hs i x → set hs i (record { token = x.token; answer = Some answer }) ≡ answered hs i answer
set-answered [] i x answer e = refl
set-answered (y ∷ hs) zero x answer e = ap (λ (z : Handle). record { token = z.token; answer = Some answer } ∷ hs) e
set-answered (y ∷ hs) (suc i) x answer e = ap (λ zs. y ∷ zs) (set-answered hs i x answer e)
