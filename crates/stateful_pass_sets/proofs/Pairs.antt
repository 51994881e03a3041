-- Syncs of one database before those of others, by those of its parts.
use Rattle.std.proofs.Common.{◌≡◌, ℕ, zero, suc, ◌<◌, ◌≤◌, [], ◌∷◌, Some, refl, arith}
use Rattle.stateful_db.specs.Databases.{Databases, IsOpening}
use Rattle.stateful_db.specs.Pair.{by_number, left, right, pair}
use Rattle.stateful_db.specs.PairLaws.{both_points, both_left, both_right}
use Rattle.stateful_pass_sets.specs.Made.{IsMade}
use Rattle.stateful_pass_sets.specs.Seeking.{Seeking}

pub each_later : {x y : ℕ} {f g : ℕ → ℕ}
    → x ≤ y
    → ((i : ℕ) → f i ≤ g i)
    → (n : ℕ)
    → by_number x f n ≤ by_number y g n
each_later first others zero = first
each_later first others (suc n) = others n

-- what is so of each is so of all
pub each_led : {First : Type 0} {Behind : ℕ → Type 0} (n : ℕ)
    → First
    → ((i : ℕ) → i < n → Behind i)
    → (i : ℕ)
    → i < suc n
    → by_number First Behind i
each_led n first behind zero within = first
each_led n first behind (suc i) within = behind i (omega arith)

pub same_count : (f : ℕ → ℕ) (i : ℕ) → f i ≤ f i
same_count f i = omega arith

-- ---- the set that is made

same_parts : {A B : Type 0} (x y : A × B) → x.0 ≡ y.0 → x.1 ≡ y.1 → x ≡ y
same_parts (a, b) (c, d) first other = rw (first, other) refl

module _ {I J S U T V : Type 0} (a : Databases I S T) (b : Databases J U V) where
  both_opened : (n : I × J) (m : a.Members × b.Members) (t : T × V)
      → a.count ≡ 1
      → IsOpening a n.0 m.0 t.0
      → IsOpening b n.1 m.1 t.1
      → IsOpening (pair a b) n m t
  both_opened n m t one first others = record {
    at = at;
    here = both_points (a.point m.0) (b.point m.1) at first.here others.here;
    targets_are = rw (first.targets_are, others.targets_are) refl;
    drawn = (first.drawn, others.drawn);
    idle = (first.idle, others.idle);
    durable = durable;
    keeps = keeps;
  }
    where
      at : (I × J) × (S × U)
      at = ((first.at.0, others.at.0), (first.at.1, others.at.1))

      durable : (i : ℕ) → i < suc b.count → (pair a b).durable m i ≡ (pair a b).place m i
      durable zero h = first.durable 0 (omega (arith, one))
      durable (suc i) h = others.durable i (omega arith)

      keeps : (i : ℕ)
          → i < suc b.count
          → (pair a b).Keeps m i ((pair a b).place m i) (at.1 ∷ [])
      keeps zero h = first.keeps 0 (omega (arith, one))
      keeps (suc i) h = others.keeps i (omega arith)

  -- both parts are made
  pub both_made : (s : S × U) (f g : ℕ → Seeking) (n : I × J) (m : a.Members × b.Members)
      → a.count ≡ 1
      → IsMade a s.0 f n.0 m.0
      → IsMade b s.1 g n.1 m.1
      → IsMade (pair a b) s (by_number (f 0) g) n m
  both_made s f g n m one first others = record {
    opening = both_opened n m (a.target_of s.0, b.target_of s.1) one first.opening others.opening;
    states = states;
    targets = targets;
    places = places;
  }
    where
      states : (p : (I × J) × (S × U)) → (pair a b).point m ≡ Some p → p.1 ≡ s
      states p here =
          same_parts p.1 s
          (first.states (left p) (both_left (a.point m.0) (b.point m.1) p here))
          (others.states (right p) (both_right (a.point m.0) (b.point m.1) p here))

      targets : (i : ℕ)
          → i < suc b.count
          → (pair a b).target_at ((pair a b).target_of s) i ≡ (by_number (f 0) g i).target
      targets zero h = first.targets 0 (omega (arith, one))
      targets (suc i) h = others.targets i (omega arith)

      places : (i : ℕ) → i < suc b.count → (pair a b).place m i ≡ 0
      places zero h = first.places 0 (omega (arith, one))
      places (suc i) h = others.places i (omega arith)
