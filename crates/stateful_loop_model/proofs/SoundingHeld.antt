-- Receipts that are held stay held where receipts are added, and where those of durable heights are acknowledged.
use Rattle.std.proofs.Common.{◌≡◌, ◌⊎◌, inl, inr, ⊎_elim, ℕ, zero, suc, ◌<◌, ◌≤◌, ◌++◌, List, [], ◌∷◌, Any, Contains, Bool, true, false, Option, Some, None, refl, sym, ap, ◌∙◌, subst, arith, nat_le, nat_lt}
use Rattle.std.specs.List.{filter}
use Rattle.std.proofs.lemmas.Bool.{false≢true, le-leb, lt-ltb, cases_lt}
use Rattle.std.proofs.lemmas.List.Elements.{Contains-append_left, Contains-append_right}
use Rattle.stateful_durability.specs.Durability.{Coverage, receipts_up_to, receipts_above, with_duplicate}
use Rattle.stateful_exec_model.specs.Workings.{Workings}
use Rattle.stateful_loop_model.specs.Sound.{IsHeldFor, AreHeld}
use Rattle.stateful_loop_model.specs.declared.tables.Finalizing.{Finalizing}

-- what passes a filter is in it
Contains-filter : {X : Type 0} (test : X → Bool) (xs : List X) (x : X) → Contains xs x → test x ≡ true → Contains (filter test xs) x
Contains-filter test [] x (k, lt, is) t = let l : k < 0 = lt in absurd (omega (arith, l))
Contains-filter {X} test (y ∷ ys) x (zero, lt, is) t = first (test y) refl
  where
    first : (b : Bool) → test y ≡ b → Contains (filter test (y ∷ ys)) x
    first true e = rw e (0, omega arith, is)
    first false e = absurd (false≢true (sym e ∙ ap test is ∙ t))
Contains-filter {X} test (y ∷ ys) x (suc k, lt, is) t = behind (test y) refl (Contains-filter test ys x (k, omega (arith, lt), is) t)
  where
    behind : (b : Bool) → test y ≡ b → Contains (filter test ys) x → Contains (filter test (y ∷ ys)) x
    behind true e c = rw e (suc c.0, omega (arith, c.1), c.2)
    behind false e c = rw e c

-- a receipt of this height is among these
abbrev pub HasOf : ℕ → List (ℕ × ℕ) → Type 0
HasOf n receipts = Any (λ receipt. receipt.0 ≡ n) receipts

among : (n : ℕ) (xs : List (ℕ × ℕ)) (x : ℕ × ℕ) → Contains xs x → x.0 ≡ n → HasOf n xs
among n xs x c e = (c.0, x, c.1, c.2, e)

pub has_left : (n : ℕ) (xs ys : List (ℕ × ℕ)) → HasOf n xs → HasOf n (xs ++ ys)
has_left n xs ys (k, x, lt, is, e) = among n (xs ++ ys) x (Contains-append_left xs ys x (k, lt, is)) e

pub has_right : (n : ℕ) (xs ys : List (ℕ × ℕ)) → HasOf n ys → HasOf n (xs ++ ys)
has_right n xs ys (k, x, lt, is, e) = among n (xs ++ ys) x (Contains-append_right xs ys x (k, lt, is)) e

pub has_here : (n t : ℕ) (xs : List (ℕ × ℕ)) → HasOf n ((n, t) ∷ xs)
has_here n t xs = (0, (n, t), omega arith, refl, refl)

pub has_above : (h n : ℕ) (xs : List (ℕ × ℕ)) → h < n → HasOf n xs → HasOf n (receipts_above h xs)
has_above h n xs lt (k, x, l, is, e) =
    among n (receipts_above h xs) x (Contains-filter (λ r. nat_lt h r.0) xs x (k, l, is) (lt-ltb h x.0 (subst (λ v. h < v) (sym e) lt))) e

pub has_up_to : (h n : ℕ) (xs : List (ℕ × ℕ)) → n ≤ h → HasOf n xs → HasOf n (receipts_up_to h xs)
has_up_to h n xs le (k, x, l, is, e) =
    among n (receipts_up_to h xs) x (Contains-filter (λ r. nat_le r.0 h) xs x (k, l, is) (le-leb x.0 h (subst (λ v. v ≤ h) (sym e) le))) e

pub below : (a b : ℕ) → (a ≤ b) ⊎ (b < a)
below a b = ⊎_elim (λ lt. inr lt) (λ le. inl le) (cases_lt b a)

-- one receipt more, behind those of its height
pub has_duplicate : (h t n : ℕ) (xs : List (ℕ × ℕ)) → HasOf n xs → HasOf n (with_duplicate xs h t)
has_duplicate h t n xs has = ⊎_elim
    (λ le. has_left n (receipts_up_to h xs) ((h, t) ∷ receipts_above h xs) (has_up_to h n xs le has))
    (λ lt. has_right n (receipts_up_to h xs) ((h, t) ∷ receipts_above h xs) (has_right n ((h, t) ∷ []) (receipts_above h xs) (has_above h n xs lt has)))
    (below n h)

pub held_duplicate : (c : Coverage) (h t n : ℕ) → IsHeldFor c n → IsHeldFor (record c { held = with_duplicate c.held h t }) n
held_duplicate c h t n held = ⊎_elim (λ le. inl le) (λ has. inr (has_duplicate h t n c.held has)) held

pub held_push : (c : Coverage) (h t n : ℕ) → IsHeldFor c n → IsHeldFor (record c { held = c.held ++ (h, t) ∷ [] }) n
held_push c h t n held = ⊎_elim (λ le. inl le) (λ has. inr (has_left n c.held ((h, t) ∷ []) has)) held

-- those of the heights that are durable from now on are acknowledged
pub held_above : (c : Coverage) (h n : ℕ) (barriers : List ℕ) → c.durable < h → IsHeldFor c n
    → IsHeldFor (record c { durable = h; barriers = barriers; held = receipts_above h c.held }) n
held_above c h n barriers later held =
    ⊎_elim (λ le. inl le) (λ lt. ⊎_elim (λ le. inl (omega (arith, later, le))) (λ has. inr (has_above h n c.held lt has)) held) (below n h)

module _ {B C I P R D H G U : Type 0} (w : Workings B C I P R D H G U) where
  -- barriers don't matter to receipts
  pub held_covered : (c : Coverage) (barriers : List ℕ) (front : Option (Finalizing B G)) → AreHeld w c front → AreHeld w (record c { barriers = barriers }) front
  held_covered c barriers None h = h
  held_covered c barriers (Some f) h = h
