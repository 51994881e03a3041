-- Databases that are closed on empty media, one of them or several.
use Rattle.std.proofs.Common.{◌≡◌, ◌+◌, ◌<◌, ℕ, suc, zero, List, [], ◌∷◌, ◌++◌, Option, None, Some, take, refl, sym, ap, ◌∙◌, arith, add-one}
use Rattle.std.proofs.lemmas.Option.{none-some, same_Some}
use Rattle.stateful_base.specs.declared.target.Target.{Target}
use Rattle.stateful_db.specs.Databases.{Databases}
use Rattle.stateful_db.specs.Member.{Member, here, closed, lost, away}
use Rattle.stateful_db.specs.Pair.{pair, both}
use Rattle.stateful_db.specs.Single.{single}
use Rattle.stateful_bank_app.specs.Fresh.{AreEmpty, HasDurably}

-- closed on a medium with this state alone
abbrev pub empty_on : {S : Type 0} → S → Member S
empty_on initial = closed (record { older = []; newest = initial; pruned = 0; durable = 0 })

last_one : {S : Type 0} (older : List S) (newest initial : S) → older ++ newest ∷ [] ≡ initial ∷ [] → newest ≡ initial
last_one [] newest initial e = cc
last_one (x ∷ []) newest initial e = absurd (cc)
last_one (x ∷ y ∷ older) newest initial e = absurd (cc)

take_one : {S : Type 0} (n : ℕ) (x : S) → take (n + 1) (x ∷ []) ≡ x ∷ []
take_one zero x = refl
take_one (suc n) x = rw (add-one (suc n)) refl

module _ {S T : Type 0} (target_of : S → T) (targeted : T → Target) (begun : S → S) (initial : S) where
  abbrev one : Databases ℕ S T
  one = single target_of targeted begun initial

  opened : (m : Member S) (p : ℕ × S) → one.Reopened (empty_on initial) (Some (target_of initial)) m → one.point m ≡ Some p → p.1 ≡ initial
  opened (here s) p h is =
      let kept : s.disk.older ++ s.disk.newest ∷ [] ≡ initial ∷ [] = h.3.disk.kept ∙ take_one h.0 initial in
      sym (ap (λ (q : ℕ × S). q.1) (same_Some (s.id, s.disk.newest) p is)) ∙ last_one s.disk.older s.disk.newest initial kept
  opened (closed d) p h is = absurd (h)
  opened (lost d) p h is = absurd (h)
  opened away p h is = absurd (h)

  pub one_empty : AreEmpty one (empty_on initial)
  one_empty = record {
    openable = tt;
    has = λ i within. record { place = 0; has = (omega arith, refl); durable = omega arith };
    opened = opened;
  }

same_parts : {X Y : Type 0} (p : X × Y) (x : X) (y : Y) → p.0 ≡ x → p.1 ≡ y → p ≡ (x, y)
same_parts (a, b) x y e f = cc

module _ {I J S T U V : Type 0} (a : Databases I S T) (b : Databases J U V) where
  both_some : (p : Option (I × S)) (q : Option (J × U)) (at : (I × J) × (S × U)) → both p q ≡ Some at
      → (p ≡ Some (at.0.0, at.1.0)) × (q ≡ Some (at.0.1, at.1.1))
  both_some None q at is = absurd (none-some at is)
  both_some (Some p) None at is = absurd (none-some at is)
  both_some (Some p) (Some q) at is =
      let same : ((p.0, q.0), (p.1, q.1)) ≡ at = same_Some ((p.0, q.0), (p.1, q.1)) at is in
      (ap (λ (x : (I × J) × (S × U)). Some (x.0.0, x.1.0)) same, ap (λ (x : (I × J) × (S × U)). Some (x.0.1, x.1.1)) same)

  has_each : (m : a.Members) (n : b.Members) → a.count ≡ 1 → AreEmpty a m → AreEmpty b n → (i : ℕ) → i < suc b.count
      → HasDurably (pair a b) (m, n) (a.initial, b.initial) i
  has_each m n one first others zero within =
      let h = first.has 0 (omega (arith, one)) in record { place = h.place; has = h.has; durable = h.durable }
  has_each m n one first others (suc i) within =
      let h = others.has i (omega (arith, within)) in record { place = h.place; has = h.has; durable = h.durable }

  -- one database, and those behind it
  pub both_empty : (m : a.Members) (n : b.Members) → a.count ≡ 1 → AreEmpty a m → AreEmpty b n → AreEmpty (pair a b) (m, n)
  both_empty m n one first others = record {
    openable = (first.openable, others.openable);
    has = has_each m n one first others;
    opened = λ k p h is.
        let parts = both_some (a.point k.0) (b.point k.1) p is in
        same_parts p.1 a.initial b.initial (first.opened k.0 (p.0.0, p.1.0) h.0 parts.0) (others.opened k.1 (p.0.1, p.1.1) h.1 parts.1);
  }
