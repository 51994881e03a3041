-- How many answers deliveries get, and on whom they wait.
use Rattle.std.proofs.Common.{◌≡◌, ◌≢◌, ℕ, zero, suc, ◌+◌, ◌≤◌, ◌<◌, ◌==◌, nat_le, Bool, true, false, not, cond, Option, Some, None, List, [], ◌∷◌, map, filter, length, All, count_by, refl, sym, ap, subst, ◌∙◌, arith}
use Rattle.std.specs.Prelude.{option_to_list}
use Rattle.std.specs.Option.{is_some, unwrap_or, option_map}
use Rattle.std.specs.Ordering.{nat_cmp, match_ordering, MatchOrdering}
use Rattle.std.specs.declared.cmp.Ordering.{Ordering}
use Rattle.std.specs.declared.cmp.Ordering.TheVariants.{Less, Equal, Greater}
use Rattle.std.specs.BTreeMap.{is_at}
use Rattle.std.specs.Map.{keys_of, values_of}
use Rattle.std.specs.List.Sorted.{IsStrictlySortedBy}
use Rattle.std.proofs.lemmas.Bool.{eqb-true, eqb-false, eq-eqb, leb-true, leb-false}
use Rattle.std.proofs.lemmas.Bool.Decides.{nat_tests}
use Rattle.std.proofs.lemmas.Cmp.{ranked}
use Rattle.std.proofs.lemmas.Map.Keys.{sorted_head, sorted_tail}
use Rattle.std.proofs.lemmas.Map.Entries.{sum_by-remove_entry}
use Rattle.std.proofs.lemmas.Map.Views.{All-keys-insert_entry}
use Rattle.std.proofs.lemmas.List.Sums.{sum_by-cons}
use Rattle.std.proofs.lemmas.List.Kept.{IsStrictlySortedBy-filter}
use Rattle.std.proofs.lemmas.List.Elements.{All-nil, All-cons, All-head, All-tail, All-weaker, All-from_recursion, recursion_from_All}
use Rattle.stateful_types.specs.declared.request.Request.{Request}
use Rattle.stateful_table.specs.Table.{at, put, without, put_each, total}
use Rattle.stateful_p2p_tables.specs.Deliveries.{outcome, heard, settled_by, kept, waiting_on, awaited_of, IsSound, Releases, has_none, releases, Forgets, stranger, forgets, Retires, nobody, unfetched, fetched}
use Rattle.stateful_p2p.specs.Fanout as fanout
use Rattle.stateful_p2p.specs.Laws.{is_answer_to}
use Rattle.stateful_p2p_tables.specs.declared.state.State.{State}
use Rattle.stateful_p2p_tables.specs.declared.state.Verdicts.{Verdicts}
use Rattle.stateful_base.specs.Format.{Format}
use Rattle.stateful_p2p_tables.specs.Subscribing.{subscribed}
use Rattle.stateful_p2p.specs.Inbox.{Inbox}
use Rattle.stateful_p2p.specs.Resolving.{Setup, Hears, Judges, Leaves, Produces, Does}
use Rattle.stateful_p2p.specs.Resolving as resolving
use Rattle.stateful_p2p.specs.History.{Takes}
use Rattle.stateful_p2p.specs.declared.message.Message.{Message}
use Rattle.stateful_p2p.specs.declared.actor.Task.{Task}
use Rattle.stateful_p2p.specs.declared.actor.Task.TheVariants as tasks
use Rattle.stateful_p2p.specs.declared.event.ActorEvent.{ActorEvent}
use Rattle.stateful_p2p.specs.declared.event.ActorEvent.TheVariants as events
use Rattle.stateful_p2p_tables.specs.declared.out.ActorOut.{ActorOut}
use Rattle.stateful_p2p_tables.specs.declared.out.ActorOut.TheVariants.{Fetch, Forget, Candidate, Feedback, Unjudged}
use Rattle.stateful_table.proofs.Tables.{at-put, at-without, is_at_number, remove_is_without}
use Rattle.stateful_p2p_tables.proofs.Counting.{on, released_sound, heard_less}
use Rattle.stateful_p2p.proofs.Moving.{count_append, count_cons}
use Rattle.stateful_p2p.proofs.Putting.{count_zero, all_produced}
use Rattle.stateful_p2p.proofs.Spreading.{awaiting_sound}
use Rattle.stateful_p2p.proofs.Forgetting.{sorted_nil}

-- ---- tables in order

abbrev pub InOrder : {V : Type 0} → List (ℕ × V) → Type 0
InOrder table = IsStrictlySortedBy nat_cmp (keys_of table)

less : (t x : ℕ) → t < x → nat_cmp t x ≡ Less
less t x lt = grind (arith, nat_tests)

more : (t x : ℕ) → nat_cmp t x ≡ Less → t < x
more t x is = go (ranked t x (nat_cmp t x) refl)
  where
    go : MatchOrdering (nat_cmp t x) (t < x) (t ≡ x) (x < t) → t < x
    go ranks = subst (λ o. MatchOrdering o (t < x) (t ≡ x) (x < t)) is ranks

cons_in_order : (t : ℕ) (ks : List ℕ) → All (λ k. t < k) ks → IsStrictlySortedBy nat_cmp ks → IsStrictlySortedBy nat_cmp (t ∷ ks)
unfolding IsStrictlySortedBy
cons_in_order t ks below sorted = (recursion_from_All (λ k. nat_cmp t k ≡ Less) ks (All-weaker (λ k. t < k) (λ k. nat_cmp t k ≡ Less) (λ k lt. less t k lt) ks below), sorted)

module _ {V : Type 0} where
  keys_without : (es : List (ℕ × V)) (t : ℕ) → keys_of (without es t) ≡ filter (λ k. not (k == t)) (keys_of es)
  keys_without [] t = refl
  keys_without (e ∷ es) t = go (e.0 == t) (keys_without es t)
    where
      go : (b : Bool) → keys_of (without es t) ≡ filter (λ k. not (k == t)) (keys_of es) → keys_of (cond (not b) (e ∷ without es t) (without es t)) ≡ cond (not b) (e.0 ∷ filter (λ k. not (k == t)) (keys_of es)) (filter (λ k. not (k == t)) (keys_of es))
      go true rest = rest
      go false rest = ap (λ w. e.0 ∷ w) rest

  pub without_in_order : (es : List (ℕ × V)) (t : ℕ) → InOrder es → InOrder (without es t)
  without_in_order es t sorted = subst (IsStrictlySortedBy nat_cmp) (sym (keys_without es t)) (IsStrictlySortedBy-filter nat_cmp (λ k. not (k == t)) (keys_of es) sorted)

  head_below : (e : ℕ × V) (es : List (ℕ × V)) → InOrder (e ∷ es) → All (λ k. e.0 < k) (keys_of es)
  head_below e es sorted = All-weaker (λ k. nat_cmp e.0 k ≡ Less) (λ k. e.0 < k) (λ k is. more e.0 k is) (keys_of es) (All-from_recursion (λ k. nat_cmp e.0 k ≡ Less) (keys_of es) (sorted_head nat_cmp e.0 (keys_of es) sorted))

  pub put_in_order : (es : List (ℕ × V)) (t : ℕ) (v : V) → InOrder es → InOrder (put es t v)
  put_in_order [] t v sorted = cons_in_order t [] (All-nil (λ k. t < k)) sorted_nil
  put_in_order (e ∷ es) t v sorted = go (nat_cmp t e.0) (ranked t e.0 (nat_cmp t e.0) refl) (put_in_order es t v (sorted_tail nat_cmp e.0 (keys_of es) sorted)) (head_below e es sorted)
    where
      go : (o : Ordering) → MatchOrdering o (t < e.0) (t ≡ e.0) (e.0 < t) → InOrder (put es t v) → All (λ k. e.0 < k) (keys_of es) → InOrder (match_ordering o ((t, v) ∷ e ∷ es) ((e.0, v) ∷ es) (e ∷ put es t v))
      go Less lt rest below = cons_in_order t (e.0 ∷ keys_of es) (All-cons (λ k. t < k) e.0 (keys_of es) lt (All-weaker (λ k. e.0 < k) (λ k. t < k) (λ k up. omega arith) (keys_of es) below)) sorted
      go Equal same rest below = sorted
      go Greater gt rest below = cons_in_order e.0 (keys_of (put es t v)) (All-keys-insert_entry nat_cmp t v (λ k. e.0 < k) es below gt) rest

  pub each_in_order : (es : List (ℕ × V)) (ts : List ℕ) (v : V) → InOrder es → InOrder (put_each es ts v)
  each_in_order es [] v sorted = sorted
  each_in_order es (t ∷ ts) v sorted = each_in_order (put es t v) ts v (put_in_order es t v sorted)

  -- what the values weigh without one of them
  pub total_without : (weigh : V → ℕ) (es : List (ℕ × V)) (t : ℕ) (v : V) → InOrder es → at es t ≡ Some v → total weigh (without es t) + weigh v ≡ total weigh es
  total_without weigh es t v sorted there =
      let e = sum_by-remove_entry weigh (is_at (nat_cmp t)) es in
      let w = ap {B = ℕ} (λ found. unwrap_or (option_map weigh found) 0) there in
      let r = ap {B = ℕ} (λ table. total weigh table) (remove_is_without es t sorted) in
      omega arith

  -- what is found is above what all are above
  above_all : (n : ℕ) (es : List (ℕ × V)) (u : ℕ) → All (λ k. n < k) (keys_of es) → is_some (at es u) ≡ true → n < u
  above_all n [] u below there = absurd cc
  above_all n (e ∷ es) u below there =
      go (e.0 == u) refl (ap (λ b. is_some (cond b (Some e.1) (at es u))) (sym (is_at_number u e.0)) ∙ there) (above_all n es u (All-tail (λ k. n < k) e.0 (keys_of es) below)) (All-head (λ k. n < k) e.0 (keys_of es) below)
    where
      go : (b : Bool) → (e.0 == u) ≡ b → is_some (cond b (Some e.1) (at es u)) ≡ true → (is_some (at es u) ≡ true → n < u) → n < e.0 → n < u
      go true same is rest lt = let k = eqb-true e.0 u same in omega arith
      go false other is rest lt = rest is

  -- the first is the lowest
  pub first_lowest : (e : ℕ × V) (es : List (ℕ × V)) (u : ℕ) → InOrder (e ∷ es) → is_some (at (e ∷ es) u) ≡ true → e.0 ≤ u
  first_lowest e es u sorted there = go (e.0 == u) refl (ap (λ b. is_some (cond b (Some e.1) (at es u))) (sym (is_at_number u e.0)) ∙ there)
    where
      go : (b : Bool) → (e.0 == u) ≡ b → is_some (cond b (Some e.1) (at es u)) ≡ true → e.0 ≤ u
      go true same is = let k = eqb-true e.0 u same in omega arith
      go false other is = let lt = above_all e.0 es u (head_below e es sorted) is in omega arith

-- ---- who waits on which delivery

-- whoever has a candidate to judge is counted
waits_counted : (es : List (ℕ × ℕ)) (t d : ℕ) → at es t ≡ Some d → 1 ≤ waiting_on d es
waits_counted [] t d there = absurd cc
waits_counted (e ∷ es) t d there = go (e.0 == t) refl (ap (λ b. cond b (Some e.1) (at es t)) (sym (is_at_number t e.0)) ∙ there) (sum_by-cons (on d) e.1 (values_of es)) (waits_counted es t d)
  where
    same_some : (x y : ℕ) → ◌≡◌ {A = Option ℕ} (Some x) (Some y) → x ≡ y
    same_some x y e = cc

    go : (b : Bool) → (e.0 == t) ≡ b → cond b (Some e.1) (at es t) ≡ Some d → waiting_on d (e ∷ es) ≡ on d e.1 + waiting_on d es → (at es t ≡ Some d → 1 ≤ waiting_on d es) → 1 ≤ waiting_on d (e ∷ es)
    go true same is all rest = let k = ap {B = ℕ} (λ b. cond b 1 0) (eq-eqb e.1 d (same_some e.1 d is)) in omega arith
    go false other is all rest = let r = rest is in omega arith

-- where some are counted, one has it
counted_waits : (es : List (ℕ × ℕ)) (d : ℕ) → InOrder es → 1 ≤ waiting_on d es → (t : ℕ) × (at es t ≡ Some d)
counted_waits [] d sorted some = absurd (omega arith)
counted_waits (e ∷ es) d sorted some = go (e.1 == d) refl (sum_by-cons (on d) e.1 (values_of es)) (counted_waits es d (sorted_tail nat_cmp e.0 (keys_of es) sorted))
  where
    here : at (e ∷ es) e.0 ≡ Some e.1
    here = ap (λ b. cond b (Some e.1) (at es e.0)) (is_at_number e.0 e.0 ∙ eq-eqb e.0 e.0 refl)

    behind : (t : ℕ) → at es t ≡ Some d → at (e ∷ es) t ≡ Some d
    behind t there = ap (λ b. cond b (Some e.1) (at es t)) (is_at_number t e.0 ∙ apart (e.0 == t) refl) ∙ there
      where
        apart : (b : Bool) → (e.0 == t) ≡ b → b ≡ false
        apart true same = absurd (let lt = above_all e.0 es t (head_below e es sorted) (ap is_some there) in let k = eqb-true e.0 t same in omega arith)
        apart false other = refl

    go : (b : Bool) → (e.1 == d) ≡ b → waiting_on d (e ∷ es) ≡ on d e.1 + waiting_on d es → (1 ≤ waiting_on d es → (t : ℕ) × (at es t ≡ Some d)) → (t : ℕ) × (at (e ∷ es) t ≡ Some d)
    go true same all rest = (e.0, here ∙ ap {B = Option ℕ} (λ w. Some w) (eqb-true e.1 d same))
    go false other all rest = let k = ap {B = ℕ} (λ b. cond b 1 0) other in let r = rest (omega arith) in (r.0, behind r.0 r.1)

heard_ordered : (v : Verdicts) (t : ℕ) (verdict : Option Bool) → InOrder v.given → InOrder (heard v t verdict).given
heard_ordered v t None ordered = ordered
heard_ordered v t (Some valid) ordered = put_in_order v.given t valid ordered

-- whether the delivery has verdicts that are awaited
abbrev pub stands : {D : Type 0} → State D → ℕ → Bool
stands s d = is_some (at s.deliveries d)

module _ {D : Type 0} where
  -- as many verdicts are awaited as tickets have a candidate to judge, and one at least
  pub record IsCounted (s : State D) : Type 0 where
    pub sound : IsSound s
    pub ordered : InOrder s.unjudged
    pub awaits : (d : ℕ) (v : Verdicts) → at s.deliveries d ≡ Some v → (1 ≤ v.awaited) × InOrder v.given

  -- what somebody has to judge stands
  pub judged_stands : (s : State D) (t d : ℕ) → IsCounted s → at s.unjudged t ≡ Some d → (v : Verdicts) × (at s.deliveries d ≡ Some v)
  judged_stands s t d counted there = go (at s.deliveries d) refl (counted.sound.counted d)
    where
      one : 1 ≤ waiting_on d s.unjudged
      one = waits_counted s.unjudged t d there

      go : (found : Option Verdicts) → at s.deliveries d ≡ found → waiting_on d s.unjudged ≡ awaited_of (at s.deliveries d) → (v : Verdicts) × (at s.deliveries d ≡ Some v)
      go None is e = absurd (let z = ap awaited_of is in omega (arith, one))
      go (Some v) is e = (v, is)

  -- and what stands somebody has to judge
  pub stands_judged : (s : State D) (d : ℕ) → IsCounted s → stands s d ≡ true → (t : ℕ) × (at s.unjudged t ≡ Some d)
  stands_judged s d counted there = go (at s.deliveries d) refl there
    where
      go : (found : Option Verdicts) → at s.deliveries d ≡ found → is_some found ≡ true → (t : ℕ) × (at s.unjudged t ≡ Some d)
      go None is e = absurd cc
      go (Some v) is e =
          let a = (counted.awaits d v is).0 in
          let z = ap {B = ℕ} awaited_of is in
          let c = counted.sound.counted d in
          counted_waits s.unjudged d counted.ordered (omega arith)

  -- and its number isn't new
  pub stands_old : (s : State D) (d : ℕ) → IsCounted s → stands s d ≡ true → d < s.next_delivery
  stands_old s d counted there = go (nat_le s.next_delivery d) refl
    where
      go : (b : Bool) → nat_le s.next_delivery d ≡ b → d < s.next_delivery
      go true up = absurd (let none = counted.sound.fresh d (leb-true s.next_delivery d up) in let e = ap is_some none in let never : ⊥ = cc in never)
      go false down = leb-false s.next_delivery d down

  -- ---- a ticket judges or leaves

  pub released_counted : (s : State D) (t : ℕ) (verdict : Option Bool) (settled : Option ActorOut) (next : State D) → IsCounted s → Releases s t verdict settled next → IsCounted next
  released_counted s t verdict settled next counted (has_none none) = counted
  released_counted s t verdict settled next counted (releases {d = d} {v = v} here there) = record {
    sound = released_sound s t d v (heard v t verdict) (without s.unjudged t) counted.sound there (heard_less v t verdict) (λ weigh. total_without weigh s.unjudged t d counted.ordered here);
    ordered = without_in_order s.unjudged t counted.ordered;
    awaits = λ e w. still e w ((heard v t verdict).awaited == 0) refl;
  }
    where
      same_some : (x y : Verdicts) → ◌≡◌ {A = Option Verdicts} (Some x) (Some y) → x ≡ y
      same_some x y e = cc

      none_some : (w : Verdicts) → None ≡ Some w → ⊥
      none_some w e = cc

      old : (e : ℕ) (w : Verdicts) (b : Bool) → (d == e) ≡ b → at (without s.deliveries d) e ≡ Some w → at s.deliveries e ≡ Some w
      old e w true same is = absurd (none_some w (sym (at-without s.deliveries d e ∙ ap (λ b. cond b None (at s.deliveries e)) same) ∙ is))
      old e w false other is = sym (at-without s.deliveries d e ∙ ap (λ b. cond b None (at s.deliveries e)) other) ∙ is

      still : (e : ℕ) (w : Verdicts) (b : Bool) → ((heard v t verdict).awaited == 0) ≡ b → at (cond b (without s.deliveries d) (put (without s.deliveries d) d (heard v t verdict))) e ≡ Some w → (1 ≤ w.awaited) × InOrder w.given
      still e w true none is = counted.awaits e w (old e w (d == e) refl is)
      still e w false some is = go (d == e) refl (at-put (without s.deliveries d) d (heard v t verdict) e)
        where
          go : (b : Bool) → (d == e) ≡ b → at (put (without s.deliveries d) d (heard v t verdict)) e ≡ cond b (Some (heard v t verdict)) (at (without s.deliveries d) e) → (1 ≤ w.awaited) × InOrder w.given
          go true same e' =
              let w_is : heard v t verdict ≡ w = same_some (heard v t verdict) w (sym e' ∙ is) in
              subst (λ (x : Verdicts). (1 ≤ x.awaited) × InOrder x.given) w_is
              (let n = eqb-false (heard v t verdict).awaited 0 some in positive (heard v t verdict).awaited n, heard_ordered v t verdict (counted.awaits d v there).1)
            where
              positive : (n : ℕ) → (n ≡ 0 → ⊥) → 1 ≤ n
              positive zero some = absurd (some refl)
              positive (suc n) some = omega arith
          go false other e' = counted.awaits e w (old e w (d == e) refl (sym e' ∙ is))

  -- as many answers are put out as deliveries stand no more
  pub released_answers : (s : State D) (t : ℕ) (verdict : Option Bool) (settled : Option ActorOut) (next : State D) → Releases s t verdict settled next → (e : ℕ) → count_by (is_answer_to e) (option_to_list settled) + cond (stands next e) 1 0 ≡ cond (stands s e) 1 0
  released_answers s t verdict settled next (has_none none) e = omega arith
  released_answers s t verdict settled next (releases {d = d} {v = v} here there) e = go ((heard v t verdict).awaited == 0)
    where
      answer : (given : List (ℕ × Bool)) → count_by (is_answer_to e) (outcome d given ∷ []) ≡ cond (d == e) 1 0
      answer [] = count_cons (is_answer_to e) (Unjudged d) [] ∙ omega arith
      answer (first ∷ given) = count_cons (is_answer_to e) (Feedback d first.1) [] ∙ omega arith

      was : (d == e) ≡ true → stands s e ≡ true
      was same = subst (λ w. is_some (at s.deliveries w) ≡ true) (eqb-true d e same) (ap is_some there)

      gone : (b : Bool) → (d == e) ≡ b → is_some (at (without s.deliveries d) e) ≡ cond b false (stands s e)
      gone b is = ap is_some (at-without s.deliveries d e) ∙ ap (λ b. is_some (cond b None (at s.deliveries e))) is ∙ both b
        where
          both : (b : Bool) → is_some (cond b None (at s.deliveries e)) ≡ cond b false (stands s e)
          both true = refl
          both false = refl

      stays : (b : Bool) → (d == e) ≡ b → is_some (at (put (without s.deliveries d) d (heard v t verdict)) e) ≡ cond b true (stands s e)
      stays true is = ap is_some (at-put (without s.deliveries d) d (heard v t verdict) e ∙ ap (λ b. cond b (Some (heard v t verdict)) (at (without s.deliveries d) e)) is)
      stays false is = ap is_some (at-put (without s.deliveries d) d (heard v t verdict) e ∙ ap (λ b. cond b (Some (heard v t verdict)) (at (without s.deliveries d) e)) is) ∙ gone false is

      settles : (b : Bool) → (d == e) ≡ b → count_by (is_answer_to e) (outcome d (heard v t verdict).given ∷ []) + cond (is_some (at (without s.deliveries d) e)) 1 0 ≡ cond (stands s e) 1 0
      settles true is =
          let a = answer (heard v t verdict).given ∙ ap {B = ℕ} (λ b. cond b 1 0) is in
          let b = ap {B = ℕ} (λ b. cond b 1 0) (gone true is) in
          let c = ap {B = ℕ} (λ b. cond b 1 0) (was is) in omega arith
      settles false is =
          let a = answer (heard v t verdict).given ∙ ap {B = ℕ} (λ b. cond b 1 0) is in
          let b = ap {B = ℕ} (λ b. cond b 1 0) (gone false is) in omega arith

      awaits_on : (b : Bool) → (d == e) ≡ b → 0 + cond (is_some (at (put (without s.deliveries d) d (heard v t verdict)) e)) 1 0 ≡ cond (stands s e) 1 0
      awaits_on true is = let a = ap {B = ℕ} (λ b. cond b 1 0) (stays true is) in let c = ap {B = ℕ} (λ b. cond b 1 0) (was is) in omega arith
      awaits_on false is = let a = ap {B = ℕ} (λ b. cond b 1 0) (stays false is) in omega arith

      go : (b : Bool) → count_by (is_answer_to e) (option_to_list (cond b (Some (outcome d (heard v t verdict).given)) None)) + cond (is_some (at (cond b (without s.deliveries d) (put (without s.deliveries d) d (heard v t verdict))) e)) 1 0 ≡ cond (stands s e) 1 0
      go true = settles (d == e) refl
      go false = awaits_on (d == e) refl

  -- what is served and who subscribes says nothing of it
  pub recounted : (s : State D) (database : Option D) (subscriptions : List (ℕ × Request)) (n : ℕ) → IsCounted s → IsCounted (record s { database = database; subscriptions = subscriptions; next_serve = n })
  recounted s database subscriptions n counted = record {
    sound = record { counted = counted.sound.counted; fresh = counted.sound.fresh };
    ordered = counted.ordered;
    awaits = counted.awaits;
  }

  pub forgot_counted : (s : State D) (t : ℕ) (one : Option (Option ActorOut)) (next : State D) → IsCounted s → Forgets s t one next → IsCounted next
  forgot_counted s t one next counted (stranger none) = counted
  forgot_counted s t one next counted (forgets {settled = settled} some rel) =
      released_counted (record s { subscriptions = without s.subscriptions t }) t None settled next (recounted s s.database (without s.subscriptions t) s.next_serve counted) rel

  pub forgot_answers : (s : State D) (t : ℕ) (settled : Option ActorOut) (next : State D) → Forgets s t (Some settled) next → (e : ℕ) → count_by (is_answer_to e) (option_to_list settled) + cond (stands next e) 1 0 ≡ cond (stands s e) 1 0
  forgot_answers s t settled next (forgets some rel) e = released_answers (record s { subscriptions = without s.subscriptions t }) t None settled next rel e

  pub retired_counted : (s : State D) (ts : List ℕ) (f o : List ActorOut) (last : State D) → IsCounted s → Retires s ts f o last → IsCounted last
  retired_counted s ts f o last counted nobody = counted
  retired_counted s ts f o last counted (unfetched {t = t} {ts = us} {next = next} one rest) = retired_counted next us f o last (forgot_counted s t None next counted one) rest
  retired_counted s ts f o last counted (fetched {t = t} {ts = us} {one = x} {forgotten = g} {settled = p} {next = next} one rest) = retired_counted next us g p last (forgot_counted s t (Some x) next counted one) rest

  pub retired_answers : (s : State D) (ts : List ℕ) (f o : List ActorOut) (last : State D) → Retires s ts f o last → (e : ℕ) → count_by (is_answer_to e) o + cond (stands last e) 1 0 ≡ cond (stands s e) 1 0
  retired_answers s ts f o last nobody e = omega arith
  retired_answers s ts f o last (unfetched {ts = us} (stranger none) rest) e = retired_answers s us f o last rest e
  retired_answers s ts f o last (fetched {t = t} {ts = us} {one = x} {forgotten = g} {settled = p} {next = next} one rest) e =
      let a = forgot_answers s t x next one e in
      let b = retired_answers next us g p last rest e in
      let c = count_append (is_answer_to e) (option_to_list x) p in
      omega arith

  pub retired_forgets : (s : State D) (ts : List ℕ) (f o : List ActorOut) (last : State D) → Retires s ts f o last → (e : ℕ) → count_by (is_answer_to e) f ≡ 0
  retired_forgets s ts f o last nobody e = refl
  retired_forgets s ts f o last (unfetched {ts = us} {next = next} one rest) e = retired_forgets next us f o last rest e
  retired_forgets s ts f o last (fetched {t = t} {ts = us} {forgotten = g} {settled = p} {next = next} one rest) e = let a = count_cons (is_answer_to e) (Forget t) g in let b = retired_forgets next us g p last rest e in omega arith

-- ---- an event

-- whether the event is this delivery
abbrev pub delivers_it : {D : Type 0} → ℕ → Task D → Bool
delivers_it e (tasks.Deliver d key bytes) = d == e
delivers_it e task = false

no_answers : (ts : List ℕ) (e : ℕ) → count_by (is_answer_to e) (map (λ t. Candidate t) ts) ≡ 0
no_answers [] e = refl
no_answers (t ∷ ts) e = let c = count_cons (is_answer_to e) (Candidate t) (map (λ t. Candidate t) ts) in let r = no_answers ts e in omega arith

module _ {D : Type 0} where
  -- as many answers are put out as deliveries come, less those that stand
  abbrev pub Answers : State D → Task D → List ActorOut → State D → Type 0
  Answers s task done next = (e : ℕ) → count_by (is_answer_to e) done + cond (stands next e) 1 0 ≡ cond (delivers_it e task) 1 0 + cond (stands s e) 1 0

  -- a delivery that has a number above all earlier ones
  delivered_counted_up : (s : State D) (d : ℕ) → IsCounted s → s.next_delivery ≤ d → IsCounted (fanout.delivered s d)
  delivered_counted_up s d counted new = record {
    sound = record { counted = counted.sound.counted; fresh = λ e up. counted.sound.fresh e (omega arith) };
    ordered = counted.ordered;
    awaits = counted.awaits;
  }

module _ {D Op : Type 0} where
  heard_counted : (s : State D) (m : Inbox D Op) (message : Message D) (done : List ActorOut) (next : State D) → IsCounted s → Hears s m message done next → IsCounted next
  heard_counted s m message done next counted (resolving.attaches {db = db}) = recounted s (Some db) s.subscriptions s.next_serve counted
  heard_counted s m message done next counted (resolving.fetches {t = t} {key = key} live) = recounted s s.database (subscribed s.subscriptions t key) s.next_serve counted
  heard_counted s m message done next counted (resolving.passes_over dead) = counted

  heard_answers : (s : State D) (m : Inbox D Op) (message other : Message D) (done : List ActorOut) (next : State D) → Hears s m message done next → Answers s (tasks.Hear other) done next
  heard_answers s m message other done next resolving.attaches e = refl
  heard_answers s m message other done next (resolving.fetches {t = t} {key = key} live) e = let c = count_cons (is_answer_to e) (Fetch t key) [] in omega arith
  heard_answers s m message other done next (resolving.passes_over dead) e = refl

  judged_counted : (s : State D) (m : Inbox D Op) (t : ℕ) (valid : Bool) (done : List ActorOut) (next : State D) (left : Inbox D Op) → IsCounted s → Judges s m t valid done next left → IsCounted next
  judged_counted s m t valid done next left counted (resolving.accepts {settled = settled} {next = mid} rel) = recounted mid mid.database (without mid.subscriptions t) mid.next_serve (released_counted s t (Some true) settled mid counted rel)
  judged_counted s m t valid done next left counted (resolving.rejects {settled = settled} rel) = released_counted s t (Some false) settled next counted rel

  judged_answers : (s : State D) (m : Inbox D Op) (t : ℕ) (valid : Bool) (done : List ActorOut) (next : State D) (left : Inbox D Op) → Judges s m t valid done next left → Answers s (tasks.Judge t valid) done next
  judged_answers s m t valid done next left (resolving.accepts {settled = settled} {next = mid} rel) e =
      let a = released_answers s t (Some true) settled mid rel e in let c = count_cons (is_answer_to e) (Forget t) (option_to_list settled) in omega arith
  judged_answers s m t valid done next left (resolving.rejects {settled = settled} rel) e = let a = released_answers s t (Some false) settled next rel e in omega arith

  left_counted : (s : State D) (m : Inbox D Op) (t : ℕ) (done : List ActorOut) (next : State D) (left : Inbox D Op) → IsCounted s → Leaves s m t done next left → IsCounted next
  left_counted s m t done next left counted (Leaves.leaves {settled = settled} f) = forgot_counted s t (Some settled) next counted f
  left_counted s m t done next left counted (resolving.leaves_unfetched f) = forgot_counted s t None next counted f

  left_answers : (s : State D) (m : Inbox D Op) (t : ℕ) (done : List ActorOut) (next : State D) (left : Inbox D Op) → Leaves s m t done next left → Answers s (tasks.Leave t) done next
  left_answers s m t done next left (Leaves.leaves {settled = settled} f) = λ e. let a = forgot_answers s t settled next f e in let c = count_cons (is_answer_to e) (Forget t) (option_to_list settled) in omega arith
  left_answers s m t done next left (resolving.leaves_unfetched (stranger none)) = λ e. omega arith

  delivered_counted : (operations : Format Op) (s : State D) (m : Inbox D Op) (d : ℕ) (key : Request) (bytes : List ℕ) (done : List ActorOut) (next : State D) (left : Inbox D Op) → IsCounted s → s.next_delivery ≤ d → fanout.Delivers operations s m d key bytes done next left → IsCounted next
  delivered_counted operations s m d key bytes done next left counted new (fanout.unheard x) = delivered_counted_up s d counted new
  delivered_counted operations s m d key bytes done next left counted new (fanout.malformed x y) = delivered_counted_up s d counted new
  delivered_counted operations s m d key bytes done next left counted new (fanout.untaken x y) = delivered_counted_up s d counted new
  delivered_counted operations s m d key bytes done next left counted new (fanout.taken {takers = takers} takes some is) = record {
    sound = awaiting_sound s d key takers counted.sound new takes;
    ordered = each_in_order s.unjudged takers d counted.ordered;
    awaits = λ e w there. go e w (d == e) refl (at-put s.deliveries d (record { awaited = length takers; given = [] }) e) there;
  }
    where
      same_some : (x y : Verdicts) → ◌≡◌ {A = Option Verdicts} (Some x) (Some y) → x ≡ y
      same_some x y e = cc

      some_long : (ts : List ℕ) → ts ≢ [] → 1 ≤ length ts
      some_long [] some = absurd (some refl)
      some_long (t ∷ ts) some = omega arith

      go : (e : ℕ) (w : Verdicts) (b : Bool) → (d == e) ≡ b → at (put s.deliveries d (record { awaited = length takers; given = [] })) e ≡ cond (d == e) (Some (record { awaited = length takers; given = [] })) (at s.deliveries e) → at (put s.deliveries d (record { awaited = length takers; given = [] })) e ≡ Some w
          → (1 ≤ w.awaited) × InOrder w.given
      go e w true same is there =
          let fresh : Verdicts = record { awaited = length takers; given = [] } in
          let w_is : fresh ≡ w = same_some fresh w (sym (is ∙ ap (λ b. cond b (Some fresh) (at s.deliveries e)) same) ∙ there) in
          subst (λ (x : Verdicts). (1 ≤ x.awaited) × InOrder x.given) w_is (some_long takers some, sorted_nil)
      go e w false other is there =
          let fresh : Verdicts = record { awaited = length takers; given = [] } in
          counted.awaits e w (sym (is ∙ ap (λ b. cond b (Some fresh) (at s.deliveries e)) other) ∙ there)

  delivered_answers : (operations : Format Op) (s : State D) (m : Inbox D Op) (d : ℕ) (key : Request) (bytes : List ℕ) (done : List ActorOut) (next : State D) (left : Inbox D Op) → IsCounted s → s.next_delivery ≤ d → fanout.Delivers operations s m d key bytes done next left
      → Answers s (tasks.Deliver d key bytes) done next
  delivered_answers operations s m d key bytes done next left counted new (fanout.unheard x) = λ e. let c = count_cons (is_answer_to e) (Unjudged d) [] in omega arith
  delivered_answers operations s m d key bytes done next left counted new (fanout.malformed x y) = λ e. let c = count_cons (is_answer_to e) (Feedback d false) [] in omega arith
  delivered_answers operations s m d key bytes done next left counted new (fanout.untaken x y) = λ e. let c = count_cons (is_answer_to e) (Unjudged d) [] in omega arith
  delivered_answers operations s m d key bytes done next left counted new (fanout.taken {takers = takers} takes some is) = λ e. go e (d == e) refl (ap is_some (at-put s.deliveries d (record { awaited = length takers; given = [] }) e))
    where
      go : (e : ℕ) (b : Bool) → (d == e) ≡ b → is_some (at (put s.deliveries d (record { awaited = length takers; given = [] })) e) ≡ is_some (cond (d == e) (Some (record { awaited = length takers; given = [] })) (at s.deliveries e))
          → count_by (is_answer_to e) (map (λ t. Candidate t) takers) + cond (is_some (at (put s.deliveries d (record { awaited = length takers; given = [] })) e)) 1 0 ≡ cond (d == e) 1 0 + cond (stands s e) 1 0
      go e true same is =
          let z = no_answers takers e in
          let a = ap {B = ℕ} (λ b. cond b 1 0) (is ∙ ap (λ b. is_some (cond b (Some (record { awaited = length takers; given = [] })) (at s.deliveries e))) same) in
          let b = ap {B = ℕ} (λ b. cond b 1 0) same in
          let f = ap {B = ℕ} (λ w. cond (is_some w) 1 0) (counted.sound.fresh e (let k = eqb-true d e same in omega arith)) in
          omega arith
      go e false other is =
          let z = no_answers takers e in
          let a = ap {B = ℕ} (λ b. cond b 1 0) (is ∙ ap (λ b. is_some (cond b (Some (record { awaited = length takers; given = [] })) (at s.deliveries e))) other) in
          let b = ap {B = ℕ} (λ b. cond b 1 0) other in
          omega arith

module _ {D Op : Type 0} (u : Setup D Op) where
  produced_answers : (s : State D) (n : ℕ) (key : Request) (done : List ActorOut) (next : State D) → Produces u s n key done next → (e : ℕ) → count_by (is_answer_to e) done + cond (stands next e) 1 0 ≡ cond (stands s e) 1 0
  produced_answers s n key done next p e =
      let z = count_zero (is_answer_to e) done (all_produced (λ y. is_answer_to e y ≡ false) {Op = Op} (λ n bytes. refl) (λ n. refl) u s n key done next p) in
      let a = ap {B = ℕ} (λ (w : State D). cond (stands w e) 1 0) p.others in
      omega arith

  pub done_counted : (s : State D) (m : Inbox D Op) (event : ActorEvent) (task : Task D) (done : List ActorOut) (next : State D) (left : Inbox D Op) → IsCounted s → ((d : ℕ) (key : Request) (bytes : List ℕ) → event ≡ events.Deliver d key bytes → s.next_delivery ≤ d)
      → Does u s m event done next left → Takes m left event task → IsCounted next × Answers s task done next
  done_counted s m event task done next left counted new (Does.hears {message = message} hands are h) (Takes.hears {message = other} handed) = (heard_counted s m message done next counted h, heard_answers s m message other done next h)
  done_counted s m event task done next left counted new (Does.delivers {d = d} {key = key} {bytes = bytes} h) Takes.delivers =
      (delivered_counted u.operations s m d key bytes done next left counted (new d key bytes refl) h, delivered_answers u.operations s m d key bytes done next left counted (new d key bytes refl) h)
  done_counted s m event task done next left counted new (Does.judges {t = t} {valid = valid} h) Takes.judges = (judged_counted s m t valid done next left counted h, judged_answers s m t valid done next left h)
  done_counted s m event task done next left counted new (Does.leaves {t = t} h) Takes.leaves = (left_counted s m t done next left counted h, left_answers s m t done next left h)
  done_counted s m event task done next left counted new (Does.produces {n = n} {key = key} h) Takes.produces =
      (subst IsCounted (sym h.others) (recounted s next.database s.subscriptions (n + 1) counted), λ e. let a = produced_answers s n key done next h e in omega arith)
