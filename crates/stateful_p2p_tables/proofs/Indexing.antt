-- Tickets by key.
use Rattle.std.proofs.Common.{◌≡◌, ℕ, ◌==◌, ◌&&◌, Bool, true, false, cond, Option, Some, None, List, [], ◌∷◌, refl, sym, ap, ◌∙◌, arith}
use Rattle.std.specs.Cmp.{IsTotalOrder}
use Rattle.std.specs.Ordering.{nat_cmp, is_eq}
use Rattle.std.specs.declared.cmp.Ordering.{Ordering}
use Rattle.std.specs.declared.cmp.Ordering.TheVariants.{Less, Equal, Greater}
use Rattle.std.specs.Map.{lookup}
use Rattle.std.specs.BTreeMap.{BTreeMap, get, is_at}
use Rattle.std.specs.BTreeSet.{BTreeSet, contains}
use Rattle.std.proofs.lemmas.Bool.{eqb-true}
use Rattle.std.proofs.lemmas.Bool.Decides.{nat_tests}
use Rattle.stateful_table.specs.Table.{at, put, without}
use Rattle.stateful_p2p_tables.specs.Subscribing.{is_key, has_ticket, is_listed}
use Rattle.stateful_table.proofs.Tables.{at-put, at-without, is_at_number}

pub equal : (o : Ordering) → is_eq o ≡ true → o ≡ Equal
equal Less e = let no : ⊥ = cc in absurd no
equal Equal e = refl
equal Greater e = let no : ⊥ = cc in absurd no

module _ {K : Type 0} (cmp : K → K → Ordering) (order : IsTotalOrder cmp) where
  -- equal keys find the same
  same_found : {X : Type 0} (es : List (K × X)) (key k : K) → is_at (cmp key) k ≡ true → lookup (is_at (cmp k)) es ≡ lookup (is_at (cmp key)) es
  same_found [] key k e = refl
  same_found (x ∷ es) key k e =
      let c = order.congr key k x.0 (equal (cmp key k) e) in
      let rest = same_found es key k e in
      rw (c, rest) refl

  -- what is listed once the tickets of a key are others
  pub listed_by : (m n : BTreeMap K (BTreeSet ℕ)) (key : K) (old new : Option (BTreeSet ℕ)) (ticket : ℕ) (b : Bool) → get cmp m key ≡ old
      → ((q : K) → get cmp n q ≡ cond (is_at (cmp key) q) new (get cmp m q)) → ((t : ℕ) → has_ticket new t ≡ cond (t == ticket) b (has_ticket old t))
      → (k : K) (t : ℕ) → is_listed cmp n k t ≡ cond (is_key cmp k (Some key) && (t == ticket)) b (is_listed cmp m k t)
  listed_by m n key old new ticket b is gets has k t = go (is_at (cmp key) k) refl
    where
      go : (h : Bool) → is_at (cmp key) k ≡ h → is_listed cmp n k t ≡ cond (is_at (cmp key) k && (t == ticket)) b (is_listed cmp m k t)
      go true here =
          let g = gets k in
          let f = same_found m.entries key k here ∙ is in
          rw (here, g, here, has t) (ap (λ w. cond (t == ticket) b (has_ticket w t)) (sym f))
      go false other = let g = gets k in rw (other, g, other) refl

-- the tickets of a set once one more is in it, or one fewer
pub has_by : (old new : BTreeSet ℕ) (ticket : ℕ) (b : Bool) → ((q : ℕ) → contains nat_cmp new q ≡ cond (is_at (nat_cmp ticket) q) b (contains nat_cmp old q)) → (t : ℕ) → has_ticket (Some new) t ≡ cond (t == ticket) b (has_ticket (Some old) t)
has_by old new ticket b is t = is t ∙ ap (λ w. cond w b (contains nat_cmp old t)) (is_at_number ticket t)

flip : (t u : ℕ) → (t == u) ≡ (u == t)
flip t u = grind (arith, nat_tests)

module _ {K : Type 0} (cmp : K → K → Ordering) where
  -- the index is that of the tickets once one left
  pub left_listed : (index after : BTreeMap K (BTreeSet ℕ)) (keys : List (ℕ × K)) (ticket : ℕ) (key : K) → ((k : K) (t : ℕ) → is_listed cmp index k t ≡ is_key cmp k (at keys t)) → at keys ticket ≡ Some key
      → ((k : K) (t : ℕ) → is_listed cmp after k t ≡ cond (is_key cmp k (Some key) && (t == ticket)) false (is_listed cmp index k t)) → (k : K) (t : ℕ) → is_listed cmp after k t ≡ is_key cmp k (at (without keys ticket) t)
  left_listed index after keys ticket key agrees there lists k t = rw (lists k t, agrees k t, at-without keys ticket t, flip ticket t) (go (is_key cmp k (Some key)) refl (t == ticket) refl)
    where
      go : (h : Bool) → is_key cmp k (Some key) ≡ h → (b : Bool) → (t == ticket) ≡ b → cond (h && b) false (is_key cmp k (at keys t)) ≡ is_key cmp k (cond b None (at keys t))
      go true is true same = refl
      go false is true same = rw (eqb-true t ticket same, there) is
      go true is false other = refl
      go false is false other = refl

  -- the index is that of the tickets once one came that had none
  pub come_listed : (index after : BTreeMap K (BTreeSet ℕ)) (keys : List (ℕ × K)) (ticket : ℕ) (key : K) → ((k : K) (t : ℕ) → is_listed cmp index k t ≡ is_key cmp k (at keys t)) → at keys ticket ≡ None
      → ((k : K) (t : ℕ) → is_listed cmp after k t ≡ cond (is_key cmp k (Some key) && (t == ticket)) true (is_listed cmp index k t)) → (k : K) (t : ℕ) → is_listed cmp after k t ≡ is_key cmp k (at (put keys ticket key) t)
  come_listed index after keys ticket key agrees there lists k t = rw (lists k t, agrees k t, at-put keys ticket key t, flip ticket t) (go (is_key cmp k (Some key)) refl (t == ticket) refl)
    where
      go : (h : Bool) → is_key cmp k (Some key) ≡ h → (b : Bool) → (t == ticket) ≡ b → cond (h && b) true (is_key cmp k (at keys t)) ≡ is_key cmp k (cond b (Some key) (at keys t))
      go true is true same = sym is
      go false is true same = rw (eqb-true t ticket same, there) (sym is)
      go true is false other = refl
      go false is false other = refl
