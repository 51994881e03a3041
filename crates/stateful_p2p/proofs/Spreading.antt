-- How many verdicts are awaited once several tickets take a candidate.
use Rattle.std.proofs.Common.{rules, ◌≡◌, ℕ, ◌+◌, ◌*◌, ◌≤◌, ◌<◌, ◌==◌, Bool, true, false, not, cond, Option, Some, None, List, [], ◌∷◌, length, filter, Result, Ok, Err, OnOk, refl, sym, ◌∙◌, arith}
use Rattle.std.specs.Option.{is_some}
use Rattle.std.specs.Ordering.{nat_cmp, match_ordering, MatchOrdering}
use Rattle.std.specs.declared.cmp.Ordering.{Ordering}
use Rattle.std.specs.declared.cmp.Ordering.TheVariants.{Less, Equal, Greater}
use Rattle.std.specs.List.{AllByRecursion}
use Rattle.std.specs.List.Sorted.{IsStrictlySortedBy}
use Rattle.std.proofs.lemmas.Bool.{eqb-true, eqb-false}
use Rattle.std.proofs.lemmas.Cmp.{ranked}
use Rattle.std.proofs.lemmas.Map.Keys.{sorted_head, sorted_tail}
use Rattle.std.specs.Map.{values_of}
use Rattle.std.proofs.lemmas.List.Sums.{sum_by-cons}
use Rattle.stateful_types.specs.declared.request.Request.{Request}
use Rattle.stateful_table.specs.Table.{at, put, put_each, total}
use Rattle.stateful_p2p_tables.specs.Deliveries.{IsSound, Takes, waiting_on, awaited_of, is_free, awaiting}
use Rattle.stateful_p2p.specs.Fanout.{delivered}
use Rattle.stateful_p2p_tables.specs.declared.state.State.{State}
use Rattle.stateful_table.proofs.Tables.{at-put, is_at_number}
use Rattle.stateful_p2p_tables.proofs.Counting.{on}

module _ {V : Type 0} (weigh : V → ℕ) where
  total_cons : (e : ℕ × V) (es : List (ℕ × V)) → total weigh (e ∷ es) ≡ weigh e.1 + total weigh es
  total_cons e es = sum_by-cons weigh e.1 (values_of es)

  -- what the values weigh with one more
  pub total_new : (es : List (ℕ × V)) (t : ℕ) (v : V) → at es t ≡ None → total weigh (put es t v) ≡ total weigh es + weigh v
  total_new [] t v none = let one = total_cons (t, v) [] in omega (arith, one)
  total_new (e ∷ es) t v none = go (nat_cmp t e.0) (ranked t e.0 (nat_cmp t e.0) refl) (e.0 == t) refl (total_new es t v)
    where
      some_none : Some e.1 ≡ None → ⊥
      some_none = λ e. cc

      rest : (e.0 == t) ≡ false → at es t ≡ None
      rest other = let here = is_at_number t e.0 in rw (here ∙ other) at none

      go : (o : Ordering) → MatchOrdering o (t < e.0) (t ≡ e.0) (e.0 < t) → (b : Bool) → (e.0 == t) ≡ b → (at es t ≡ None → total weigh (put es t v) ≡ total weigh es + weigh v)
          → total weigh (match_ordering o ((t, v) ∷ e ∷ es) ((e.0, v) ∷ es) (e ∷ put es t v)) ≡ total weigh (e ∷ es) + weigh v
      go o at_e true same further = absurd (let here = is_at_number t e.0 in let found = rw (here ∙ same) at none in some_none found)
      go Less lt false other further = let one = total_cons (t, v) (e ∷ es) in omega (arith, one)
      go Equal is false other further = absurd (eqb-false e.0 t other (sym is))
      go Greater gt false other further = let f = further (rest other) in let one = total_cons e es in let two = total_cons e (put es t v) in omega (arith, f, one, two)

-- tickets above one that was put aren't touched by it
above : (u es : List (ℕ × ℕ)) (x d : ℕ) (ts : List ℕ) → AllByRecursion (λ y. nat_cmp x y ≡ Less) ts → AllByRecursion (λ t. at es t ≡ at u t) ts → AllByRecursion (λ t. at (put es x d) t ≡ at u t) ts
above u es x d [] less same = same
above u es x d (t ∷ ts) less same = (at-put es x d t ∙ apart (x == t) refl ∙ same.0, above u es x d ts less.1 same.1)
  where
    apart : (b : Bool) → (x == t) ≡ b → cond (x == t) (Some d) (at es t) ≡ at es t
    apart true e = absurd (let f = eqb-true x t e in let l = less.0 in let no : ⊥ = below (ranked x t (nat_cmp x t) refl) f in no)
      where
        below : MatchOrdering (nat_cmp x t) (x < t) (x ≡ t) (t < x) → x ≡ t → ⊥
        below m f = let m' = rw (less.0) at m in omega (arith, m', f)
    apart false e = rw (e) refl

-- what the values weigh once each free ticket of an ascending list got the same
total_each : (weigh : ℕ → ℕ) (u es : List (ℕ × ℕ)) (d : ℕ) (ts : List ℕ) → IsStrictlySortedBy nat_cmp ts → AllByRecursion (λ t. at es t ≡ at u t) ts
    → total weigh (put_each es (filter (is_free u) ts) d) ≡ total weigh es + length (filter (is_free u) ts) * weigh d
total_each weigh u es d [] sorted same = omega arith
total_each weigh u es d (t ∷ ts) sorted same = go (λ es' same'. total_each weigh u es' d ts (sorted_tail nat_cmp t ts sorted) same') (is_free u t) refl
  where
    none : (found : Option ℕ) → not (is_some found) ≡ true → found ≡ None
    none None e = refl
    none (Some x) e = absurd (let no : ⊥ = cc in no)

    go : ((es' : List (ℕ × ℕ)) → AllByRecursion (λ q. at es' q ≡ at u q) ts → total weigh (put_each es' (filter (is_free u) ts) d) ≡ total weigh es' + length (filter (is_free u) ts) * weigh d)
        → (b : Bool) → is_free u t ≡ b → total weigh (put_each es (cond b (t ∷ filter (is_free u) ts) (filter (is_free u) ts)) d) ≡ total weigh es + length (cond b (t ∷ filter (is_free u) ts) (filter (is_free u) ts)) * weigh d
    go each false e = each es same.1
    go each true e =
        let one = total_new weigh es t d (same.0 ∙ none (at u t) e) in
        let more = each (put es t d) (above u es t d ts (sorted_head nat_cmp t ts sorted) same.1) in
        omega (arith, one, more)

all_same : (u : List (ℕ × ℕ)) (ts : List ℕ) → AllByRecursion (λ t. at u t ≡ at u t) ts
all_same u [] = search rules
all_same u (t ∷ ts) = (refl, all_same u ts)

module _ {D : Type 0} where
  -- as many verdicts are awaited as tickets took the candidate
  pub awaiting_sound : (s : State D) (d : ℕ) (key : Request) (takers : List ℕ) → IsSound s → s.next_delivery ≤ d → Takes s key takers → IsSound (awaiting (delivered s d) d takers)
  awaiting_sound s d key takers sound new takes = record {
    counted = λ e. counted e (d == e) refl;
    fresh = λ e up. fresh e up (d == e) refl;
  }
    where
      each : (e : ℕ) → waiting_on e (put_each s.unjudged takers d) ≡ waiting_on e s.unjudged + length takers * on e d
      each e = rw (takes.free) (total_each (on e) s.unjudged s.unjudged d takes.subscribers takes.are.ascending (all_same s.unjudged takes.subscribers))

      counted : (e : ℕ) (b : Bool) → (d == e) ≡ b → waiting_on e (put_each s.unjudged takers d) ≡ awaited_of (at (put s.deliveries d (record { awaited = length takers; given = [] })) e)
      counted e true here =
          let f = each e in
          let f' = rw (here) at f in
          let c = sound.counted e in
          let n = sound.fresh e (let same = eqb-true d e here in omega (arith, new, same)) in
          let c' = rw (n) at c in
          rw (at-put s.deliveries d (record { awaited = length takers; given = [] }) e, here) (omega (arith, f', c'))
      counted e false other =
          let f = each e in
          let f' = rw (other) at f in
          rw (at-put s.deliveries d (record { awaited = length takers; given = [] }) e, other) (let c = sound.counted e in omega (arith, f', c))

      fresh : (e : ℕ) → d + 1 ≤ e → (b : Bool) → (d == e) ≡ b → at (put s.deliveries d (record { awaited = length takers; given = [] })) e ≡ None
      fresh e up true same = absurd (let f = eqb-true d e same in let no : ⊥ = omega (arith, up, f) in no)
      fresh e up false other = rw (at-put s.deliveries d (record { awaited = length takers; given = [] }) e, other) (sound.fresh e (omega (arith, up, new)))

-- what holds whatever the answer is
pub on_any : {T E P : Type 0} (r : Result T E) → P → OnOk r P
on_any (Ok x) p = p
on_any (Err e) p = search rules
