-- Who is forgotten: whoever was fetched for and ended, once.
use Rattle.std.proofs.Common.{◌≡◌, ℕ, zero, suc, ◌+◌, ◌≤◌, ◌<◌, ◌==◌, ◌↔◌, Bool, true, false, cond, ◌||◌, ◌&&◌, Some, None, List, [], ◌∷◌, ◌++◌, map, All, Contains, count_by, ◌⊎◌, inl, inr, refl, sym, ap, subst, ◌∙◌, arith}
use Rattle.std.specs.Prelude.{option_to_list}
use Rattle.std.specs.Option.{is_some}
use Rattle.std.specs.Ordering.{nat_cmp}
use Rattle.std.specs.declared.cmp.Ordering.TheVariants.{Less}
use Rattle.std.specs.List.Sorted.{IsStrictlySortedBy, IsNonDecreasing, IsPermutation}
use Rattle.std.proofs.lemmas.Bool.{eqb-true, eqb-false, eq-eqb}
use Rattle.std.proofs.lemmas.Bool.Decides.{nat_tests}
use Rattle.std.proofs.lemmas.List.Sums.{sum_by-cons}
use Rattle.std.proofs.lemmas.List.Sorted.{IsNonDecreasingBy-drop, list_any-IsPermutation}
use Rattle.std.proofs.lemmas.List.Elements.{All-nil, All-append, All-weaker, All-contains_itself, recursion_from_All, Contains-append_right}
use Rattle.stateful_base.specs.Format.{Format}
use Rattle.stateful_types.specs.Mailbox.{messages}
use Rattle.stateful_types.specs.declared.request.Request.{Request}
use Rattle.stateful_table.specs.Table.{at, without}
use Rattle.stateful_p2p.specs.Tickets.{is_live}
use Rattle.stateful_p2p.specs.Inbox.{Inbox}
use Rattle.stateful_p2p_tables.specs.Deliveries.{Forgets, stranger, forgets, Retires, nobody, unfetched, fetched}
use Rattle.stateful_p2p.specs.Fanout.{Delivers, unheard, malformed, untaken, taken}
use Rattle.stateful_p2p.specs.Resolving.{Setup, may_come, Hears, attaches, fetches, passes_over, Judges, accepts, rejects, Leaves, leaves_unfetched, Does, Steps}
use Rattle.stateful_p2p.specs.History.{Entry, Stepped, outs_of, count_outs, Turns}
use Rattle.stateful_p2p.specs.Laws.{IsLive, WasFetched, is_fetch_of, is_forget_of, is_request_of}
use Rattle.stateful_p2p_tables.specs.declared.state.State.{State}
use Rattle.stateful_p2p.specs.declared.message.Message.{Message}
use Rattle.stateful_p2p.specs.declared.message.Message.TheVariants.{GetOperations}
use Rattle.stateful_p2p.specs.declared.actor.Task.{Task}
use Rattle.stateful_p2p.specs.declared.event.ActorEvent.{ActorEvent}
use Rattle.stateful_p2p.specs.declared.event.ActorEvent.TheVariants as events
use Rattle.stateful_p2p_tables.specs.declared.out.ActorOut.{ActorOut}
use Rattle.stateful_p2p_tables.specs.declared.out.ActorOut.TheVariants.{Fetch, Forget}
use Rattle.stateful_table.proofs.Tables.{at-put, at-without}
use Rattle.stateful_p2p.proofs.Histories.{count_push}
use Rattle.stateful_p2p.proofs.Moving.{in_cons, in_none, count_append, count_cons}
use Rattle.stateful_p2p.proofs.Putting.{count_zero, count_there, all_released, all_forgot, all_retired, all_delivered, all_produced}
use Rattle.stateful_p2p.proofs.Placing.{IsPlaced}
use Rattle.stateful_p2p.proofs.Current.{has, there_has, there_is, Held, released_same, Gone, forgot_gone, retired_gone, gone_held, IsTold}
use Rattle.stateful_p2p.proofs.Following.{accepted_gone}

-- ---- lists in order

less : (t x : ℕ) → t < x → nat_cmp t x ≡ Less
less t x lt = grind (arith, nat_tests)

pub sorted_cons : (t : ℕ) (xs : List ℕ) → ((x : ℕ) → Contains xs x → t < x) → IsStrictlySortedBy nat_cmp xs → IsStrictlySortedBy nat_cmp (t ∷ xs)
unfolding IsStrictlySortedBy
sorted_cons t xs below sorted = (recursion_from_All (λ y. nat_cmp t y ≡ Less) xs (All-weaker (Contains xs) (λ y. nat_cmp t y ≡ Less) (λ x there. less t x (below x there)) xs (All-contains_itself xs)), sorted)

pub sorted_nil : IsStrictlySortedBy nat_cmp []
unfolding IsStrictlySortedBy
sorted_nil = tt

rises_tail : (t : ℕ) (ts : List ℕ) → IsNonDecreasing (t ∷ ts) → IsNonDecreasing ts
rises_tail t ts rises = IsNonDecreasingBy-drop (λ x. x) 1 (t ∷ ts) rises

rises_head : (t : ℕ) (ts : List ℕ) (x : ℕ) → IsNonDecreasing (t ∷ ts) → Contains ts x → t ≤ x
rises_head t ts x rises there =
    let in_all = Contains-append_right (t ∷ []) ts x there in
    let le = rises 0 in_all.0 x (omega arith) in_all.1 in
    let is = in_all.2 in
    omega arith

-- ---- who is forgotten of those who were cancelled

or_cases : (a b : Bool) → (a || b) ≡ true → (a ≡ true) ⊎ (b ≡ true)
or_cases true b e = inl refl
or_cases false b e = inr e

or_right : (a b : Bool) → b ≡ true → (a || b) ≡ true
or_right true b e = refl
or_right false b e = e

module _ {D : Type 0} where
  -- whether something is fetched for the ticket
  abbrev pub subscribes : State D → ℕ → Bool
  subscribes s t = is_some (at s.subscriptions t)

  cleared_at : (t x : ℕ) (s next : State D) → Gone t s next → subscribes next x ≡ cond (t == x) false (subscribes s x)
  cleared_at t x s next gone = ap is_some (gone.subs x) ∙ go (t == x)
    where
      go : (b : Bool) → is_some (cond b None (at s.subscriptions x)) ≡ cond b false (subscribes s x)
      go true = refl
      go false = refl

  -- the tickets that are forgotten, in order: those that were fetched for
  pub record AreForgotten (s : State D) (ts : List ℕ) (f : List ActorOut) : Type 0 where
    pub gone : List ℕ
    pub are : f ≡ map (λ t. Forget t) gone
    pub ascending : IsStrictlySortedBy nat_cmp gone
    pub members : (t : ℕ) → Contains gone t ↔ ((has ts t ≡ true) × (subscribes s t ≡ true))

  pub forgotten : (s : State D) (ts : List ℕ) (f o : List ActorOut) (last : State D) → Held s → IsNonDecreasing ts → Retires s ts f o last → AreForgotten s ts f
  forgotten s ts f o last held rises nobody = record { gone = []; are = refl; ascending = sorted_nil; members = λ t. (λ there. absurd (in_none t there), λ both. let e = both.0 in absurd cc) }
  forgotten s ts f o last held rises (unfetched {t = t} {ts = us} (stranger none) rest) = skip (forgotten s us f o last held (rises_tail t us rises) rest)
    where
      skip : AreForgotten s us f → AreForgotten s (t ∷ us) f
      skip r = record {
        gone = r.gone;
        are = r.are;
        ascending = r.ascending;
        members = λ x. (λ there. let both = (r.members x).0 there in (or_right (t == x) (has us x) both.0, both.1), λ both. (r.members x).1 (back x (or_cases (t == x) (has us x) both.0) both.1, both.1));
      }
        where
          back : (x : ℕ) → ((t == x) ≡ true) ⊎ (has us x ≡ true) → subscribes s x ≡ true → has us x ≡ true
          back x (inl same) sub = absurd (let e = ap is_some (ap (at s.subscriptions) (sym (eqb-true t x same)) ∙ none) in let never : ⊥ = cc in never)
          back x (inr there) sub = there
  forgotten s ts f o last held rises (fetched {t = t} {ts = us} {one = one'} {forgotten = g} {settled = p} {next = next} one rest) = add (forgotten next us g p last (gone_held s t next held gone) (rises_tail t us rises) rest) (was_there one)
    where
      gone : Gone t s next
      gone = forgot_gone s t (Some one') next held one

      was_there : Forgets s t (Some one') next → subscribes s t ≡ true
      was_there (forgets some rel) = ap is_some some

      add : AreForgotten next us g → subscribes s t ≡ true → AreForgotten s (t ∷ us) (Forget t ∷ g)
      add r sub = record {
        gone = t ∷ r.gone;
        are = ap (λ w. Forget t ∷ w) r.are;
        ascending = sorted_cons t r.gone below r.ascending;
        members = λ x. (λ there. to x (in_cons t r.gone x there), λ both. from x (t == x) refl both);
      }
        where
          on : (x : ℕ) → Contains r.gone x → (t == x) ≡ false
          on x there = go (t == x) refl (cleared_at t x s next gone)
            where
              go : (b : Bool) → (t == x) ≡ b → subscribes next x ≡ cond b false (subscribes s x) → b ≡ false
              go true same e = absurd (let yes' = ((r.members x).0 there).1 in let no : ⊥ = cc in no)
              go false other e = refl

          below : (x : ℕ) → Contains r.gone x → t < x
          below x there = let le = rises_head t us x rises (there_has us x ((r.members x).0 there).0) in let ne = eqb-false t x (on x there) in omega arith

          to : (x : ℕ) → (t ≡ x) ⊎ Contains r.gone x → (has (t ∷ us) x ≡ true) × (subscribes s x ≡ true)
          to x (inl same) = (ap (λ b. b || has us x) (eq-eqb t x same), subst (λ w. subscribes s w ≡ true) same sub)
          to x (inr there) =
              let both = (r.members x).0 there in
              (or_right (t == x) (has us x) both.0, sym (cleared_at t x s next gone ∙ ap (λ b. cond b false (subscribes s x)) (on x there)) ∙ both.1)

          from : (x : ℕ) (b : Bool) → (t == x) ≡ b → (has (t ∷ us) x ≡ true) × (subscribes s x ≡ true) → Contains (t ∷ r.gone) x
          from x true same both = (0, omega arith, eqb-true t x same)
          from x false other both =
              let there : has us x ≡ true = sym (ap (λ b. b || has us x) other) ∙ both.0 in
              Contains-append_right (t ∷ []) r.gone x ((r.members x).1 (there, cleared_at t x s next gone ∙ ap (λ b. cond b false (subscribes s x)) other ∙ both.1))

  -- what is settled forgets nobody
  pub settled_only : (s : State D) (ts : List ℕ) (f o : List ActorOut) (last : State D) → Retires s ts f o last → (x : ℕ) → All (λ y. is_forget_of x y ≡ false) o
  settled_only s ts f o last nobody x = All-nil (λ y. is_forget_of x y ≡ false)
  settled_only s ts f o last (unfetched {ts = us} {next = next} one rest) x = settled_only next us f o last rest x
  settled_only s ts f o last (fetched {t = t} {ts = us} {one = one'} {forgotten = g} {settled = p} {next = next} one rest) x =
      All-append (λ y. is_forget_of x y ≡ false) (option_to_list one') p (all_forgot (λ y. is_forget_of x y ≡ false) (λ d v. refl) (λ d. refl) s t one' next one) (settled_only next us g p last rest x)

  -- as many are put out as lose their subscription
  pub forgot_counts : (s : State D) (ts : List ℕ) (f o : List ActorOut) (last : State D) → Held s → Retires s ts f o last → (x : ℕ) → count_by (is_forget_of x) f + cond (subscribes last x) 1 0 ≡ cond (subscribes s x) 1 0
  forgot_counts s ts f o last held nobody x = omega arith
  forgot_counts s ts f o last held (unfetched {t = t} {ts = us} {next = next} (stranger none) rest) x = forgot_counts s us f o last held rest x
  forgot_counts s ts f o last held (fetched {t = t} {ts = us} {one = one'} {forgotten = g} {settled = p} {next = next} one rest) x =
      let gone = forgot_gone s t (Some one') next held one in
      go (t == x) refl (cleared_at t x s next gone) (was_there one) (forgot_counts next us g p last (gone_held s t next held gone) rest x)
    where
      was_there : Forgets s t (Some one') next → subscribes s t ≡ true
      was_there (forgets some rel) = ap is_some some

      more : count_by (is_forget_of x) (Forget t ∷ g) ≡ cond (t == x) 1 0 + count_by (is_forget_of x) g
      more = count_cons (is_forget_of x) (Forget t) g

      go : (b : Bool) → (t == x) ≡ b → subscribes next x ≡ cond b false (subscribes s x) → subscribes s t ≡ true → count_by (is_forget_of x) g + cond (subscribes last x) 1 0 ≡ cond (subscribes next x) 1 0
          → count_by (is_forget_of x) (Forget t ∷ g) + cond (subscribes last x) 1 0 ≡ cond (subscribes s x) 1 0
      go true same e sub r =
          let m = more ∙ ap (λ b. cond b 1 0 + count_by (is_forget_of x) g) same in
          let a = ap {B = ℕ} (λ b. cond b 1 0) e in
          let b = ap {B = ℕ} (λ b. cond b 1 0) (subst (λ w. subscribes s w ≡ true) (eqb-true t x same) sub) in
          omega arith
      go false other e sub r =
          let m = more ∙ ap (λ b. cond b 1 0 + count_by (is_forget_of x) g) other in
          let a = ap {B = ℕ} (λ b. cond b 1 0) e in
          omega arith

-- ---- as many are forgotten as were fetched for and ended

-- a fetch that is counted is there
fetch_there : (outs : List ActorOut) (t : ℕ) → 1 ≤ count_by (is_fetch_of t) outs → (key : Request) × Contains outs (Fetch t key)
fetch_there [] t some = absurd (omega arith)
fetch_there (x ∷ outs) t some = go x (count_cons (is_fetch_of t) x outs) some (fetch_there outs t)
  where
    further : (x : ActorOut) → count_by (is_fetch_of t) (x ∷ outs) ≡ 0 + count_by (is_fetch_of t) outs → 1 ≤ count_by (is_fetch_of t) (x ∷ outs) → (1 ≤ count_by (is_fetch_of t) outs → (key : Request) × Contains outs (Fetch t key)) → (key : Request) × Contains (x ∷ outs) (Fetch t key)
    further x e some rest = let r = rest (omega arith) in (r.0, Contains-append_right (x ∷ []) outs (Fetch t r.0) r.1)

    at_fetch : (v : ℕ) (key : Request) (b : Bool) → (v == t) ≡ b → count_by (is_fetch_of t) (Fetch v key ∷ outs) ≡ cond b 1 0 + count_by (is_fetch_of t) outs → 1 ≤ count_by (is_fetch_of t) (Fetch v key ∷ outs) → (1 ≤ count_by (is_fetch_of t) outs → (key : Request) × Contains outs (Fetch t key))
        → (k : Request) × Contains (Fetch v key ∷ outs) (Fetch t k)
    at_fetch v key true same e some rest = (key, (0, omega arith, ap {B = ActorOut} (λ w. Fetch w key) (eqb-true v t same)))
    at_fetch v key false other e some rest = further (Fetch v key) e some rest

    go : (x : ActorOut) → count_by (is_fetch_of t) (x ∷ outs) ≡ cond (is_fetch_of t x) 1 0 + count_by (is_fetch_of t) outs → 1 ≤ count_by (is_fetch_of t) (x ∷ outs) → (1 ≤ count_by (is_fetch_of t) outs → (key : Request) × Contains outs (Fetch t key)) → (key : Request) × Contains (x ∷ outs) (Fetch t key)
    go (Fetch v key) e some rest = at_fetch v key (v == t) refl e some rest
    go x e some rest = further x e some rest

pub counted_fetch : {D : Type 0} (h : List (Entry D)) (t : ℕ) → 1 ≤ count_outs (is_fetch_of t) h → (key : Request) × WasFetched h t key
counted_fetch [] t some = absurd (omega arith)
counted_fetch {D} (e ∷ h) t some = go (count_by (is_fetch_of t) (outs_of e)) refl (sum_by-cons (λ (entry : Entry D). count_by (is_fetch_of t) (outs_of entry)) e h) (counted_fetch h t)
  where
    go : (n : ℕ) → count_by (is_fetch_of t) (outs_of e) ≡ n → count_outs (is_fetch_of t) (e ∷ h) ≡ count_by (is_fetch_of t) (outs_of e) + count_outs (is_fetch_of t) h → (1 ≤ count_outs (is_fetch_of t) h → (key : Request) × WasFetched h t key) → (key : Request) × WasFetched (e ∷ h) t key
    go zero none all rest =
        let r = rest (omega arith) in
        (r.0, record { before = e ∷ r.1.before; entry = r.1.entry; after = r.1.after; place = ap (λ w. e ∷ w) r.1.place; here = r.1.here })
    go (suc n) some' all rest = let r = fetch_there (outs_of e) t (omega arith) in (r.0, record { before = []; entry = e; after = h; place = refl; here = r.1 })

module _ {D : Type 0} where
  -- who was fetched for was forgotten, or is subscribed
  pub record IsBalanced (h : List (Entry D)) (s : State D) : Type 0 where
    pub even : (t : ℕ) → count_outs (is_forget_of t) h + cond (subscribes s t) 1 0 ≡ count_outs (is_fetch_of t) h

  abbrev Evens : State D → List ActorOut → State D → Type 0
  Evens s done next = (x : ℕ) → count_by (is_forget_of x) done + cond (subscribes next x) 1 0 ≡ count_by (is_fetch_of x) done + cond (subscribes s x) 1 0

  -- nobody is fetched for or forgotten
  evens_same : (s next : State D) (done : List ActorOut) → next.subscriptions ≡ s.subscriptions → ((x : ℕ) → All (λ y. is_forget_of x y ≡ false) done) → ((x : ℕ) → All (λ y. is_fetch_of x y ≡ false) done) → Evens s done next
  evens_same s next done same no_forgets no_fetches x =
      let e = ap {B = ℕ} (λ w. cond (is_some (at w x)) 1 0) same in
      let a = count_zero (is_forget_of x) done (no_forgets x) in
      let b = count_zero (is_fetch_of x) done (no_fetches x) in
      omega arith

  -- one is forgotten
  evens_forgot : (s next : State D) (t : ℕ) (rest : List ActorOut) → ((x : ℕ) → subscribes next x ≡ cond (t == x) false (subscribes s x)) → subscribes s t ≡ true → ((x : ℕ) → All (λ y. is_forget_of x y ≡ false) rest) → ((x : ℕ) → All (λ y. is_fetch_of x y ≡ false) rest)
      → Evens s (Forget t ∷ rest) next
  evens_forgot s next t rest cleared sub no_forgets no_fetches x =
      let a = count_zero (is_forget_of x) rest (no_forgets x) in
      let b = count_zero (is_fetch_of x) rest (no_fetches x) in
      let c = count_cons (is_forget_of x) (Forget t) rest in
      let d = count_cons (is_fetch_of x) (Forget t) rest in
      go (t == x) refl (cleared x) c a (omega arith)
    where
      go : (b : Bool) → (t == x) ≡ b → subscribes next x ≡ cond b false (subscribes s x) → count_by (is_forget_of x) (Forget t ∷ rest) ≡ cond b 1 0 + count_by (is_forget_of x) rest → count_by (is_forget_of x) rest ≡ 0
          → count_by (is_fetch_of x) (Forget t ∷ rest) ≡ 0
          → count_by (is_forget_of x) (Forget t ∷ rest) + cond (subscribes next x) 1 0 ≡ count_by (is_fetch_of x) (Forget t ∷ rest) + cond (subscribes s x) 1 0
      go true same e c a d =
          let p = ap {B = ℕ} (λ b. cond b 1 0) e in
          let q = ap {B = ℕ} (λ b. cond b 1 0) (subst (λ w. subscribes s w ≡ true) (eqb-true t x same) sub) in
          omega arith
      go false other e c a d = let p = ap {B = ℕ} (λ b. cond b 1 0) e in omega arith

module _ {D Op : Type 0} where
  evens_heard : (s : State D) (m : Inbox D Op) (message : Message D) (done : List ActorOut) (next : State D) → Hears s m message done next → ((t : ℕ) (key : Request) → message ≡ GetOperations t key → subscribes s t ≡ false) → Evens s done next
  evens_heard s m message done next attaches new x = refl
  evens_heard s m message done next (passes_over dead) new x = refl
  evens_heard s m message done next (fetches {t = t} {key = key} live) new x =
      let c = count_cons (is_forget_of x) (Fetch t key) [] in
      let d = count_cons (is_fetch_of x) (Fetch t key) [] in
      go (t == x) refl (subbed x) d c (new t key refl)
    where
      subbed : (x : ℕ) → subscribes next x ≡ cond (t == x) true (subscribes s x)
      subbed x = ap is_some (at-put (without s.subscriptions t) t key x ∙ ap (λ w. cond (t == x) (Some key) w) (at-without s.subscriptions t x)) ∙ both (t == x)
        where
          both : (b : Bool) → is_some (cond b (Some key) (cond b None (at s.subscriptions x))) ≡ cond b true (subscribes s x)
          both true = refl
          both false = refl

      go : (b : Bool) → (t == x) ≡ b → subscribes next x ≡ cond b true (subscribes s x) → count_by (is_fetch_of x) (Fetch t key ∷ []) ≡ cond b 1 0 + 0 → count_by (is_forget_of x) (Fetch t key ∷ []) ≡ 0 → subscribes s t ≡ false
          → count_by (is_forget_of x) (Fetch t key ∷ []) + cond (subscribes next x) 1 0 ≡ count_by (is_fetch_of x) (Fetch t key ∷ []) + cond (subscribes s x) 1 0
      go true same e d c none =
          let p = ap {B = ℕ} (λ b. cond b 1 0) e in
          let q = ap {B = ℕ} (λ b. cond b 1 0) (subst (λ w. subscribes s w ≡ false) (eqb-true t x same) none) in
          omega arith
      go false other e d c none = let p = ap {B = ℕ} (λ b. cond b 1 0) e in omega arith

  evens_judged : (s : State D) (m : Inbox D Op) (t : ℕ) (valid : Bool) (done : List ActorOut) (next : State D) (left : Inbox D Op) → Judges s m t valid done next left → subscribes s t ≡ true → Evens s done next
  evens_judged s m t valid done next left (accepts {settled = settled} {next = mid} rel) sub =
      evens_forgot s next t (option_to_list settled) cleared sub (λ x. all_released (λ y. is_forget_of x y ≡ false) (λ d v. refl) (λ d. refl) s t (Some true) settled mid rel)
      (λ x. all_released (λ y. is_fetch_of x y ≡ false) (λ d v. refl) (λ d. refl) s t (Some true) settled mid rel)
    where
      cleared : (x : ℕ) → subscribes next x ≡ cond (t == x) false (subscribes s x)
      cleared x = cleared_at t x s next (accepted_gone s t settled mid rel)
  evens_judged s m t valid done next left (rejects {settled = settled} rel) sub =
      evens_same s next done (released_same s t (Some false) settled next rel) (λ x. all_released (λ y. is_forget_of x y ≡ false) (λ d v. refl) (λ d. refl) s t (Some false) settled next rel)
      (λ x. all_released (λ y. is_fetch_of x y ≡ false) (λ d v. refl) (λ d. refl) s t (Some false) settled next rel)

  evens_left : (s : State D) (m : Inbox D Op) (t : ℕ) (done : List ActorOut) (next : State D) (left : Inbox D Op) → Held s → Leaves s m t done next left → Evens s done next
  evens_left s m t done next left held (Leaves.leaves {settled = settled} f) =
      evens_forgot s next t (option_to_list settled) (λ x. cleared_at t x s next (forgot_gone s t (Some settled) next held f)) (was_there f) (λ x. all_forgot (λ y. is_forget_of x y ≡ false) (λ d v. refl) (λ d. refl) s t settled next f)
      (λ x. all_forgot (λ y. is_fetch_of x y ≡ false) (λ d v. refl) (λ d. refl) s t settled next f)
    where
      was_there : Forgets s t (Some settled) next → subscribes s t ≡ true
      was_there (forgets some rel) = ap is_some some
  evens_left s m t done next left held (leaves_unfetched (stranger none)) = λ x. refl

  delivered_subs : (operations : Format Op) (s : State D) (m : Inbox D Op) (d : ℕ) (key : Request) (bytes : List ℕ) (done : List ActorOut) (next : State D) (left : Inbox D Op) → Delivers operations s m d key bytes done next left → next.subscriptions ≡ s.subscriptions
  delivered_subs operations s m d key bytes done next left (unheard a) = refl
  delivered_subs operations s m d key bytes done next left (malformed a b) = refl
  delivered_subs operations s m d key bytes done next left (untaken a b) = refl
  delivered_subs operations s m d key bytes done next left (taken a b c) = refl

  evens_delivered : (operations : Format Op) (s : State D) (m : Inbox D Op) (d : ℕ) (key : Request) (bytes : List ℕ) (done : List ActorOut) (next : State D) (left : Inbox D Op) → Delivers operations s m d key bytes done next left → Evens s done next
  evens_delivered operations s m d key bytes done next left h =
      evens_same s next done (delivered_subs operations s m d key bytes done next left h) (λ x. all_delivered (λ y. is_forget_of x y ≡ false) (λ t. refl) (λ d v. refl) (λ d. refl) operations s m d key bytes done next left h)
      (λ x. all_delivered (λ y. is_fetch_of x y ≡ false) (λ t. refl) (λ d v. refl) (λ d. refl) operations s m d key bytes done next left h)

module _ {D Op : Type 0} (u : Setup D Op) where
  evens_done : (s : State D) (m : Inbox D Op) (event : ActorEvent) (done : List ActorOut) (next : State D) (left : Inbox D Op) → Held s → Does u s m event done next left
      → ((t : ℕ) (key : Request) → Contains (messages m.queue) (GetOperations t key) → subscribes s t ≡ false) → ((t : ℕ) (valid : Bool) → event ≡ events.Judge t valid → subscribes s t ≡ true) → Evens s done next
  evens_done s m event done next left held (Does.hears {message = message} hands are h) new judged =
      evens_heard s m message done next h (λ t key is. new t key (subst (λ w. Contains w (GetOperations t key)) (sym hands.front) (0, omega arith, is)))
  evens_done s m event done next left held (Does.delivers {d = d} {key = key} {bytes = bytes} h) new judged = evens_delivered u.operations s m d key bytes done next left h
  evens_done s m event done next left held (Does.judges {t = t} {valid = valid} h) new judged = evens_judged s m t valid done next left h (judged t valid refl)
  evens_done s m event done next left held (Does.leaves {t = t} h) new judged = evens_left s m t done next left held h
  evens_done s m event done next left held (Does.produces {n = n} {key = key} h) new judged =
      evens_same s next done (ap (λ (w : State D). w.subscriptions) h.others) (λ x. all_produced (λ y. is_forget_of x y ≡ false) {Op = Op} (λ n bytes. refl) (λ n. refl) u s n key done next h)
      (λ x. all_produced (λ y. is_fetch_of x y ≡ false) {Op = Op} (λ n bytes. refl) (λ n. refl) u s n key done next h)

  -- a ticket for which nothing was fetched isn't subscribed
  unsubscribed : (h : List (Entry D)) (s : State D) (t : ℕ) → IsBalanced h s → count_outs (is_fetch_of t) h ≡ 0 → subscribes s t ≡ false
  unsubscribed h s t balanced none = go (subscribes s t) (balanced.even t)
    where
      go : (b : Bool) → count_outs (is_forget_of t) h + cond b 1 0 ≡ count_outs (is_fetch_of t) h → b ≡ false
      go true e = absurd (omega arith)
      go false e = refl

  -- who is subscribed and live wasn't cancelled
  pub subscribed_on : (h : List (Entry D)) (s : State D) (m : Inbox D Op) (t : ℕ) → IsPlaced h m → IsTold h s m.cancelled → IsBalanced h s → subscribes s t ≡ true → is_live m.tickets t ≡ true → has m.cancelled t ≡ false
  subscribed_on h s m t here told balanced sub live =
      let e = balanced.even t in
      let c = ap {B = ℕ} (λ b. cond b 1 0) sub in
      let f = counted_fetch h t (omega arith) in
      ((told.subs t f.0).1 ((here.live t).0 live, f.1)).1

  -- who was cancelled and is subscribed is live no more
  pub cancelled_dead : (h : List (Entry D)) (s : State D) (m : Inbox D Op) (t : ℕ) → IsPlaced h m → IsTold h s m.cancelled → IsBalanced h s → subscribes s t ≡ true → has m.cancelled t ≡ true → IsLive h t → ⊥
  cancelled_dead h s m t here told balanced sub gone live = let e = subscribed_on h s m t here told balanced sub ((here.live t).1 live) in let never : ⊥ = cc in never

  pub same_gone : (m : Inbox D Op) (gone : List ℕ) → IsPermutation m.cancelled gone → (x : ℕ) → has gone x ≡ has m.cancelled x
  same_gone m gone all x = sym (list_any-IsPermutation (λ t. t == x) m.cancelled gone all)

  and_left : (a b : Bool) → (a && b) ≡ true → a ≡ true
  and_left true b e = refl
  and_left false b e = absurd cc

  and_right : (a b : Bool) → (a && b) ≡ true → b ≡ true
  and_right true b e = e
  and_right false b e = absurd cc

  -- who judges is subscribed, once the cancels were heard of
  judge_subscribed : (h : List (Entry D)) (s : State D) (m : Inbox D Op) (gone : List ℕ) (f o : List ActorOut) (between : State D) (t : ℕ) (valid : Bool) → IsPlaced h m → IsTold h s m.cancelled → IsBalanced h s → IsPermutation m.cancelled gone → Retires s gone f o between
      → may_come s m (events.Judge t valid) ≡ true → subscribes between t ≡ true
  judge_subscribed h s m gone f o between t valid here told balanced all retires comes =
      let live = and_left (is_live m.tickets t) (is_some (at s.unjudged t)) comes in
      let has_to = there_is (at s.unjudged t) (and_right (is_live m.tickets t) (is_some (at s.unjudged t)) comes) in
      let sub : subscribes s t ≡ true = told.held t has_to.0 has_to.1 in
      let on = same_gone m gone all t ∙ subscribed_on h s m t here told balanced sub live in
      let same = (retired_gone s gone f o between told.held retires).subs t in
      ap is_some same ∙ ap (λ b. is_some (cond b None (at s.subscriptions t))) on ∙ sub

  -- nothing is subscribed whose request is on its way
  waiting_unsubscribed : (h : List (Entry D)) (s : State D) (m : Inbox D Op) (gone : List ℕ) (f o : List ActorOut) (between : State D) (t : ℕ) (key : Request) → IsPlaced h m → IsTold h s m.cancelled → IsBalanced h s → Retires s gone f o between
      → Contains (messages m.queue) (GetOperations t key) → subscribes between t ≡ false
  waiting_unsubscribed h s m gone f o between t key here told balanced retires there =
      let w = count_there (is_request_of t) (messages m.queue) (GetOperations t key) there (eq-eqb t t refl) in
      let few = here.few t in
      let none = unsubscribed h s t balanced (omega arith) in
      let same = (retired_gone s gone f o between told.held retires).subs t in
      ap is_some same ∙ go (has gone t) none
    where
      go : (b : Bool) → subscribes s t ≡ false → is_some (cond b None (at s.subscriptions t)) ≡ false
      go true none = refl
      go false none = none

  stepped_balanced : (h : List (Entry D)) (s : State D) (m : Inbox D Op) (event : ActorEvent) (task : Task D) (outs : List ActorOut) (next : State D) (left : Inbox D Op) → IsPlaced h m → IsTold h s m.cancelled → IsBalanced h s → may_come s m event ≡ true → Steps u s m event outs next left
      → IsBalanced (h ++ Stepped task outs ∷ []) next
  stepped_balanced h s m event task outs next left here told balanced comes steps = record { even = even }
    where
      m0 : Inbox D Op
      m0 = record m { cancelled = [] }

      held : Held steps.between
      held = (retired_gone s steps.gone steps.forgotten steps.settled steps.between told.held steps.retires).held

      own : Evens steps.between steps.done next
      own = evens_done steps.between m0 event steps.done next left held steps.does (λ t key there. waiting_unsubscribed h s m steps.gone steps.forgotten steps.settled steps.between t key here told balanced steps.retires there)
          (λ t valid is. judge_subscribed h s m steps.gone steps.forgotten steps.settled steps.between t valid here told balanced steps.all steps.retires (subst (λ e. may_come s m e ≡ true) is comes))

      even : (t : ℕ) → count_outs (is_forget_of t) (h ++ Stepped task outs ∷ []) + cond (subscribes next t) 1 0 ≡ count_outs (is_fetch_of t) (h ++ Stepped task outs ∷ [])
      even t =
          let a = count_push (is_forget_of t) h (Stepped task outs) in
          let b = count_push (is_fetch_of t) h (Stepped task outs) in
          let c = ap (count_by (is_forget_of t)) steps.outs_are ∙ count_append (is_forget_of t) (steps.forgotten ++ steps.settled) steps.done in
          let d = ap (count_by (is_fetch_of t)) steps.outs_are ∙ count_append (is_fetch_of t) (steps.forgotten ++ steps.settled) steps.done in
          let c' = count_append (is_forget_of t) steps.forgotten steps.settled in
          let d' = count_append (is_fetch_of t) steps.forgotten steps.settled in
          let p = all_retired (λ y. is_fetch_of t y ≡ false) (λ d v. refl) (λ d. refl) (λ x. refl) s steps.gone steps.forgotten steps.settled steps.between steps.retires in
          let z = count_zero (is_fetch_of t) steps.forgotten p.0 in
          let z' = count_zero (is_fetch_of t) steps.settled p.1 in
          let y = count_zero (is_forget_of t) steps.settled (settled_only s steps.gone steps.forgotten steps.settled steps.between steps.retires t) in
          let f = forgot_counts s steps.gone steps.forgotten steps.settled steps.between told.held steps.retires t in
          let o = own t in
          let e = balanced.even t in
          omega arith

  pub turn_balanced : (h : List (Entry D)) (s : State D) (m : Inbox D Op) (e : Entry D) (next : State D) (left : Inbox D Op) → Turns u s m e next left → IsPlaced h m → IsTold h s m.cancelled → IsBalanced h s → IsBalanced (h ++ e ∷ []) next
  turn_balanced h s m e next left (Turns.asks asks) here told balanced = record { even = λ t. let a = count_push (is_forget_of t) h e in let b = count_push (is_fetch_of t) h e in let c = balanced.even t in omega arith }
  turn_balanced h s m e next left (Turns.attaches sent_db) here told balanced = record { even = λ t. let a = count_push (is_forget_of t) h e in let b = count_push (is_fetch_of t) h e in let c = balanced.even t in omega arith }
  turn_balanced h s m e next left Turns.cancels here told balanced = record { even = λ t. let a = count_push (is_forget_of t) h e in let b = count_push (is_fetch_of t) h e in let c = balanced.even t in omega arith }
  turn_balanced h s m e next left Turns.polls here told balanced = record { even = λ t. let a = count_push (is_forget_of t) h e in let b = count_push (is_fetch_of t) h e in let c = balanced.even t in omega arith }
  turn_balanced h s m e next left (Turns.steps {event = event} {task = task} {outs = outs} comes takes steps) here told balanced = stepped_balanced h s m event task outs next left here told balanced comes steps
