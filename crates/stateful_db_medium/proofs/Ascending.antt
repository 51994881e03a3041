-- lists of checkpoints whose ranges ascend
use Rattle.std.proofs.Common.{ℕ, zero, suc, ◌+◌, ◌<◌, ◌≤◌, List, [], ◌∷◌, ◌++◌, length, take, drop, arith}
use Rattle.stateful_base.specs.declared.target.Target.{Target}
use Rattle.stateful_db_medium.specs.Orders.{Ascend}

module _ {S : Type 0} (range : S → Target) where
  -- the oldest of them
  pub Ascend-take : (start end k : ℕ) (ss : List S) → Ascend range start end ss → Ascend range start end (take k ss)
  Ascend-take start end zero ss up = tt
  Ascend-take start end (suc k) [] up = tt
  Ascend-take start end (suc k) (s ∷ ss) up = (up.0, (up.1.0, Ascend-take (range s).start.0 (range s).end.0 k ss up.1.1))

  Ascend-lower : (start start' end end' : ℕ) (ss : List S) → start' ≤ start → end' ≤ end → Ascend range start end ss → Ascend range start' end' ss
  Ascend-lower start start' end end' [] less lower up = tt
  Ascend-lower start start' end end' (s ∷ ss) less lower up = (omega (arith, up.0), (omega (arith, up.1.0), up.1.1))

  -- without so many of the oldest
  pub Ascend-drop : (start end k : ℕ) (ss : List S) → Ascend range start end ss → Ascend range start (end + k) (drop k ss)
  Ascend-drop start end zero ss up = Ascend-lower start start end (end + zero) ss (omega arith) (omega arith) up
  Ascend-drop start end (suc k) [] up = tt
  Ascend-drop start end (suc k) (s ∷ ss) up =
      Ascend-lower (range s).start.0 start ((range s).end.0 + k) (end + suc k) (drop k ss) up.0 (omega (arith, up.1.0)) (Ascend-drop (range s).start.0 (range s).end.0 k ss up.1.1)

  -- one more, that ends behind the last and doesn't start before it
  pub Ascend-push : (start end : ℕ) (ss : List S) (s t : S) → Ascend range start end (ss ++ s ∷ []) → (range s).start.0 ≤ (range t).start.0 → (range s).end.0 < (range t).end.0 → Ascend range start end ((ss ++ s ∷ []) ++ t ∷ [])
  Ascend-push start end [] s t up starts ends = (up.0, (up.1.0, (starts, (ends, tt))))
  Ascend-push start end (u ∷ ss) s t up starts ends = (up.0, (up.1.0, Ascend-push (range u).start.0 (range u).end.0 ss s t up.1.1 starts ends))

  -- the last ends behind the number of those before it
  pub Ascend-last : (start end : ℕ) (ss : List S) (s : S) → Ascend range start end (ss ++ s ∷ []) → end + length ss < (range s).end.0
  Ascend-last start end [] s up = omega (arith, up.1.0)
  Ascend-last start end (t ∷ ss) s up = let behind = Ascend-last (range t).start.0 (range t).end.0 ss s up.1.1 in omega (arith, up.1.0)
