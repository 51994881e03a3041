-- Answers of a set that has one database before the others, by those of its parts.
use Rattle.std.proofs.Common.{◌≡◌, ℕ, zero, suc, ◌+◌, ◌-◌, ◌^◌, ◌<◌, ◌≤◌, ◌⊎◌, ◌↔◌, inl, inr, Bool, true, false, List, [], ◌∷◌, ◌++◌, map, min, Option, Some, None, Result, Err, refl, sym, ap, subst, ◌∙◌, arith, IsTrue}
use Rattle.std.proofs.lemmas.List.{map-append}
use Rattle.stateful_base.specs.declared.target.Target.{Target}
use Rattle.stateful_db.specs.Calls.{Calls, Goes, Passes}
use Rattle.stateful_db.specs.Chain.{IsPoint, AllBelow, ids}
use Rattle.stateful_db.specs.Databases.{Databases, IsOpening}
use Rattle.stateful_db.specs.Disk.{Disk, Standing}
use Rattle.stateful_db.specs.Member.{Member, here, closed, lost, away, IsOpenable, member_closed_if, MemberReopened, MemberReclosed}
use Rattle.stateful_db.specs.Pair.{left, right, both, by_number, first_of, others_of, behind_first, pair}
use Rattle.stateful_db.specs.PairLaws.{both_points}
use Rattle.stateful_db.specs.declared.database.DbCall.{DbCall}
use Rattle.stateful_db.specs.declared.set.SetError.{SetError}
use Rattle.stateful_db.specs.declared.set.SetError.TheVariants.{Lost, Exhausted, DatabaseFault, OutOfMemory}

-- ---- numbers of databases

pub each_same : {X : Type 0} {x y : X} {f g : ℕ → X} → x ≡ y → ((i : ℕ) → f i ≡ g i) → (n : ℕ) → by_number x f n ≡ by_number y g n
each_same first others zero = first
each_same first others (suc n) = others n

pub each_later : {x y : ℕ} {f g : ℕ → ℕ} → x ≤ y → ((i : ℕ) → f i ≤ g i) → (n : ℕ) → by_number x f n ≤ by_number y g n
each_later first others zero = first
each_later first others (suc n) = others n

pub same_count : (f : ℕ → ℕ) (i : ℕ) → f i ≤ f i
same_count f i = omega arith

pub each_goes : (call : DbCall) (x y : Option Calls) (f g : ℕ → Option Calls) → Goes call x y → ((i : ℕ) → Goes call (f i) (g i)) → (n : ℕ) → Goes call (by_number x f n) (by_number y g n)
each_goes call x y f g first others zero = first
each_goes call x y f g first others (suc n) = others n

pub each_passes : (call : DbCall) (x y : Option Calls) (f g : ℕ → Option Calls) (count : ℕ) → Passes call x y → ((i : ℕ) → i < count → Passes call (f i) (g i)) → (n : ℕ) → n < suc count → Passes call (by_number x f n) (by_number y g n)
each_passes call x y f g count first others zero within = first
each_passes call x y f g count first others (suc n) within = others n (omega arith)

pub goes_same : (call : DbCall) (f : ℕ → Option Calls) (i : ℕ) → Goes call (f i) (f i)
goes_same call f i = inl refl

pub same_error : {T E : Type 0} {x y : E} → ◌≡◌ {A = Result T E} (Err x) (Err y) → x ≡ y
same_error is = cc

-- a fault of the others, with the number that it has among them
pub fault_behind : (e : SetError) (n : ℕ) (k : DbCall) → behind_first e ≡ DatabaseFault n k → (j : ℕ) × (e ≡ DatabaseFault j k) × (n ≡ min (j + 1) (2 ^ 64 - 1))
fault_behind (DatabaseFault j call) n k is =
    let number : min (j + 1) (2 ^ 64 - 1) ≡ n = cc in
    let kind : call ≡ k = cc in
    (j, ap (DatabaseFault j) kind, sym number)
fault_behind Lost n k is = cc
fault_behind Exhausted n k is = cc
fault_behind OutOfMemory n k is = cc

pub memory_behind : (e : SetError) → behind_first e ≡ OutOfMemory → e ≡ OutOfMemory
memory_behind (DatabaseFault j call) is = cc
memory_behind Lost is = cc
memory_behind Exhausted is = cc
memory_behind OutOfMemory is = refl

-- ---- chains

pub IsPoint-map : {P Q : Type 0} (f : P → Q) (p : P) (c : List P) → IsPoint p c → IsPoint (f p) (map f c)
IsPoint-map f p [] h = h
IsPoint-map f p (q ∷ c) (inl e) = inl (ap f e)
IsPoint-map f p (q ∷ c) (inr h) = inr (IsPoint-map f p c h)

pub map-chain : {P Q : Type 0} (f : P → Q) (q p : P) (above older : List P) → map f (q ∷ above ++ p ∷ older) ≡ f q ∷ map f above ++ f p ∷ map f older
map-chain f q p above older = ap (λ xs. f q ∷ xs) (map-append f above (p ∷ older))

-- what holds of a chain of parts holds of the parts of the chain, and the other way round
pub of_parts : {X Y : Type 0} (f : X → Y) (Holds : List Y → Type 0) (q p : X) (above older : List X) → Holds (map f (q ∷ above ++ p ∷ older)) → Holds (f q ∷ map f above ++ f p ∷ map f older)
of_parts f Holds q p above older = subst Holds (map-chain f q p above older)

pub of_whole : {X Y : Type 0} (f : X → Y) (Holds : List Y → Type 0) (y : Y) (q p : X) (above older : List X) → Holds (y ∷ f q ∷ map f above ++ f p ∷ map f older) → Holds (y ∷ map f (q ∷ above ++ p ∷ older))
of_whole f Holds y q p above older = subst (λ xs. Holds (y ∷ xs)) (sym (map-chain f q p above older))

pub below_parts : {X S : Type 0} {n : ℕ} (f : X → ℕ × S) (q p : X) (above older : List X) → AllBelow n (ids (map f (q ∷ above ++ p ∷ older))) → AllBelow n (ids (f q ∷ map f above ++ f p ∷ map f older))
below_parts {n = n} f q p above older = of_parts f (λ xs. AllBelow n (ids xs)) q p above older

pub below_whole : {X S : Type 0} {n : ℕ} (f : X → ℕ × S) (y : ℕ × S) (q p : X) (above older : List X) → AllBelow n (ids (y ∷ f q ∷ map f above ++ f p ∷ map f older)) → AllBelow n (ids (y ∷ map f (q ∷ above ++ p ∷ older)))
below_whole {n = n} f y q p above older = of_whole f (λ xs. AllBelow n (ids xs)) y q p above older

-- ---- states behind a failed apply

module _ {I J S U T V : Type 0} (a : Databases I S T) (b : Databases J U V) (k : a.Members) (m : b.Members) (p q : (I × J) × (S × U)) where
  pub first_failed : a.HasState k 0 p.1.0 ⊎ a.HasState k 0 q.1.0 → ((i : ℕ) → b.HasState m i p.1.1) → (i : ℕ) → (pair a b).HasState (k, m) i p.1 ⊎ (pair a b).HasState (k, m) i q.1
  first_failed first others zero = first
  first_failed first others (suc i) = inl (others i)

  pub others_failed : a.HasState k 0 q.1.0 → ((i : ℕ) → b.HasState m i p.1.1 ⊎ b.HasState m i q.1.1) → (i : ℕ) → (pair a b).HasState (k, m) i p.1 ⊎ (pair a b).HasState (k, m) i q.1
  others_failed first others zero = inr first
  others_failed first others (suc i) = others i

-- ---- openings

pub first_is : {A B : Type 0} (expected : Option (A × B)) (t : A × B) → expected ≡ Some t → first_of expected ≡ Some t.0
first_is expected t is = rw is refl

pub others_are : {A B : Type 0} (expected : Option (A × B)) (t : A × B) → expected ≡ Some t → others_of expected ≡ Some t.1
others_are expected t is = rw is refl

-- both parts were opened
pub both_opened : {I J S U T V : Type 0} (a : Databases I S T) (b : Databases J U V) → a.count ≡ 1 → (n : I × J) (m : a.Members × b.Members) (t : T × V) → IsOpening a n.0 m.0 t.0 → IsOpening b n.1 m.1 t.1 → IsOpening (pair a b) n m t
both_opened {I} {J} {S} {U} a b one n m t first others = record {
  at = at;
  here = both_points (a.point m.0) (b.point m.1) at first.here others.here;
  targets_are = rw (first.targets_are, others.targets_are) refl;
  drawn = (first.drawn, others.drawn);
  idle = (first.idle, others.idle);
  durable = durable;
  keeps = keeps;
}
  where
    at : (I × J) × (S × U)
    at = ((first.at.0, others.at.0), (first.at.1, others.at.1))

    durable : (i : ℕ) → i < suc b.count → (pair a b).durable m i ≡ (pair a b).place m i
    durable zero h = first.durable 0 (omega arith)
    durable (suc i) h = others.durable i (omega arith)

    keeps : (i : ℕ) → i < suc b.count → (pair a b).Keeps m i ((pair a b).place m i) (at.1 ∷ [])
    keeps zero h = first.keeps 0 (omega arith)
    keeps (suc i) h = others.keeps i (omega arith)

not_true : IsTrue false → ⊥
not_true is = cc

-- what was opened is closed again
pub reclosed : {S T : Type 0} (target_of : S → T) (targeted : T → Target) (m k : Member S) (expected : Option T) (opens : Bool) → (IsTrue opens ↔ IsOpenable m) → MemberReopened target_of targeted m expected k → MemberReclosed target_of targeted m expected (member_closed_if opens k)
reclosed target_of targeted (here s) k expected true is opened = absurd (is.0 refl)
reclosed target_of targeted (here s) k expected false is opened = rw opened refl
reclosed target_of targeted away k expected true is opened = absurd (is.0 refl)
reclosed target_of targeted away k expected false is opened = rw opened refl
reclosed target_of targeted (closed d) (here s) expected true is opened = (s, opened, refl)
reclosed target_of targeted (closed d) (closed e) expected true is opened = absurd opened
reclosed target_of targeted (closed d) (lost e) expected true is opened = absurd opened
reclosed target_of targeted (closed d) away expected true is opened = absurd opened
reclosed target_of targeted (closed d) k expected false is opened = absurd (not_true (is.1 tt))
reclosed target_of targeted (lost d) (here s) expected true is opened = (s, opened, refl)
reclosed target_of targeted (lost d) (closed e) expected true is opened = absurd opened
reclosed target_of targeted (lost d) (lost e) expected true is opened = absurd opened
reclosed target_of targeted (lost d) away expected true is opened = absurd opened
reclosed target_of targeted (lost d) k expected false is opened = absurd (not_true (is.1 tt))
