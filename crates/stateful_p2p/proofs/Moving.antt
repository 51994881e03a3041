-- What an entry does to the tickets and the requests of a mailbox.
use Rattle.std.proofs.Common.{◌≡◌, ℕ, ◌+◌, ◌≤◌, ◌==◌, Bool, true, false, not, cond, Option, Some, None, List, [], ◌∷◌, ◌++◌, filter, Contains, count_by, ◌⊎◌, inl, inr, refl, sym, ap, subst, ◌∙◌, arith, append_assoc, append-nil}
use Rattle.std.proofs.lemmas.Bool.{eqb-true, eqb-false}
use Rattle.std.proofs.lemmas.List.Sums.{sum_by-cons, sum_by-append}
use Rattle.std.proofs.lemmas.List.Elements.{All-cons, All-weaker, All-contains, All-filter, All-contains_itself, Contains-push_cases, Contains-append_left, Contains-append_right, Contains-append_cases}
use Rattle.stateful_types.specs.Mailbox.{Queues, messages}
use Rattle.stateful_types.specs.declared.request.Request.{Request}
use Rattle.stateful_types.specs.declared.mailbox.Feedback.{Feedback}
use Rattle.stateful_table.specs.Table.{at, put, without}
use Rattle.stateful_p2p.specs.Tickets.{stands_live, is_live, ended, ended_from, answered}
use Rattle.stateful_p2p.specs.Sending.{Sends, ready, waits}
use Rattle.stateful_p2p.specs.Messages.{is_request, is_not_of, kept}
use Rattle.stateful_p2p.specs.Laws.{is_request_of}
use Rattle.stateful_p2p.specs.declared.message.Message.{Message}
use Rattle.stateful_p2p.specs.declared.message.Message.TheVariants.{AttachDatabase, GetOperations}
use Rattle.stateful_p2p.specs.declared.tickets.Standing.{Standing}
use Rattle.stateful_p2p.specs.declared.tickets.Standing.TheVariants.{Open, Answered, Dropped}
use Rattle.stateful_table.proofs.Tables.{at-put, at-without}

-- ---- tickets

pub live_put : (tickets : List (ℕ × Standing)) (t : ℕ) (s : Standing) (x : ℕ) → is_live (put tickets t s) x ≡ cond (t == x) (stands_live (Some s)) (is_live tickets x)
live_put tickets t s x = ap stands_live (at-put tickets t s x) ∙ go (t == x)
  where
    go : (b : Bool) → stands_live (cond b (Some s) (at tickets x)) ≡ cond b (stands_live (Some s)) (is_live tickets x)
    go true = refl
    go false = refl

pub live_without : (tickets : List (ℕ × Standing)) (t x : ℕ) → is_live (without tickets t) x ≡ cond (t == x) false (is_live tickets x)
live_without tickets t x = ap stands_live (at-without tickets t x) ∙ go (t == x)
  where
    go : (b : Bool) → stands_live (cond b None (at tickets x)) ≡ cond b false (is_live tickets x)
    go true = refl
    go false = refl

-- what isn't live at a ticket stays so
same_at : (tickets : List (ℕ × Standing)) (t x : ℕ) → is_live tickets t ≡ false → is_live tickets x ≡ cond (t == x) false (is_live tickets x)
same_at tickets t x dead = go (t == x) refl
  where
    go : (b : Bool) → (t == x) ≡ b → is_live tickets x ≡ cond b false (is_live tickets x)
    go true same = ap (is_live tickets) (sym (eqb-true t x same)) ∙ dead
    go false other = refl

-- a ticket that ended isn't live, and the others are what they were
pub live_ended : (tickets : List (ℕ × Standing)) (t x : ℕ) → is_live (ended tickets t) x ≡ cond (t == x) false (is_live tickets x)
live_ended tickets t x = go (at tickets t) refl
  where
    go : (held : Option Standing) → at tickets t ≡ held → is_live (ended_from held tickets t) x ≡ cond (t == x) false (is_live tickets x)
    go None is = same_at tickets t x (ap stands_live is)
    go (Some Open) is = live_put tickets t Dropped x
    go (Some Answered) is = live_without tickets t x
    go (Some Dropped) is = same_at tickets t x (ap stands_live is)

-- a candidate changes nothing of who is live
pub live_answered : (tickets : List (ℕ × Standing)) (t x : ℕ) → is_live (answered tickets t) x ≡ is_live tickets x
live_answered tickets t x = go (is_live tickets t) refl
  where
    same : (b : Bool) → (t == x) ≡ b → is_live tickets t ≡ true → cond b true (is_live tickets x) ≡ is_live tickets x
    same true here live = sym (ap (is_live tickets) (sym (eqb-true t x here)) ∙ live)
    same false other live = refl

    go : (b : Bool) → is_live tickets t ≡ b → is_live (cond b (put tickets t Answered) tickets) x ≡ is_live tickets x
    go true live = live_put tickets t Answered x ∙ same (t == x) refl live
    go false dead = refl

-- ---- requests on their way

pub Contains-filter : {X : Type 0} (p : X → Bool) (xs : List X) (x : X) → Contains (filter p xs) x → Contains xs x
Contains-filter p xs x there = All-contains (Contains xs) (filter p xs) x (All-filter p (Contains xs) xs (All-contains_itself xs)) there

-- in a list, or at its head
pub in_cons : {X : Type 0} (x : X) (xs : List X) (y : X) → Contains (x ∷ xs) y → (x ≡ y) ⊎ Contains xs y
in_cons {X} x xs y there = All-contains P (x ∷ xs) y (All-cons P x xs (λ e. inl e) (All-weaker (Contains xs) P (λ w c e. inr (subst (Contains xs) e c)) xs (All-contains_itself xs))) there refl
  where
    P : X → Type 0
    P w = w ≡ y → (x ≡ y) ⊎ Contains xs y

pub in_none : {X : Type 0} (y : X) → Contains [] y → ⊥
in_none y there = omega (arith, there.1)

pub count_append : {X : Type 0} (p : X → Bool) (xs ys : List X) → count_by p (xs ++ ys) ≡ count_by p xs + count_by p ys
count_append p xs ys = sum_by-append (λ x. cond (p x) 1 0) xs ys

pub count_cons : {X : Type 0} (p : X → Bool) (x : X) (xs : List X) → count_by p (x ∷ xs) ≡ cond (p x) 1 0 + count_by p xs
count_cons p x xs = sum_by-cons (λ x. cond (p x) 1 0) x xs

module _ {D : Type 0} where
  -- without the requests of a ticket: no others are gone
  pub count_others : (t x : ℕ) (xs : List (Message D)) → count_by (is_request_of x) (filter (is_not_of t) xs) ≡ cond (t == x) 0 (count_by (is_request_of x) xs)
  count_others t x [] = go (t == x)
    where
      go : (b : Bool) → ◌≡◌ {A = ℕ} 0 (cond b 0 0)
      go true = refl
      go false = refl
  count_others t x (AttachDatabase db ∷ xs) = count_cons (is_request_of x) (AttachDatabase db) (filter (is_not_of t) xs) ∙ (let e = count_cons (is_request_of x) (AttachDatabase db) xs in let r = count_others t x xs in go (t == x) r e)
    where
      go : (b : Bool) → count_by (is_request_of x) (filter (is_not_of t) xs) ≡ cond b 0 (count_by (is_request_of x) xs) → count_by (is_request_of x) (AttachDatabase db ∷ xs) ≡ 0 + count_by (is_request_of x) xs
          → 0 + count_by (is_request_of x) (filter (is_not_of t) xs) ≡ cond b 0 (count_by (is_request_of x) (AttachDatabase db ∷ xs))
      go true r e = omega arith
      go false r e = omega arith
  count_others t x (GetOperations v key ∷ xs) = go (v == t) refl (v == x) refl (t == x) refl (count_others t x xs)
    where
      rest : List (Message D)
      rest = filter (is_not_of t) xs

      more : count_by (is_request_of x) (GetOperations v key ∷ xs) ≡ cond (v == x) 1 0 + count_by (is_request_of x) xs
      more = count_cons (is_request_of x) (GetOperations v key) xs

      go : (a : Bool) → (v == t) ≡ a → (b : Bool) → (v == x) ≡ b → (d : Bool) → (t == x) ≡ d → count_by (is_request_of x) rest ≡ cond d 0 (count_by (is_request_of x) xs)
          → count_by (is_request_of x) (cond (not a) (GetOperations v key ∷ rest) rest) ≡ cond d 0 (count_by (is_request_of x) (GetOperations v key ∷ xs))
      go true at_t b here true same h = h
      go true at_t true here false same h = absurd (omega (arith, eqb-true v t at_t, eqb-true v x here, eqb-false t x same))
      go true at_t false here false same h = omega (arith, h, more ∙ ap (λ b. cond b 1 0 + count_by (is_request_of x) xs) here)
      go false at_t true here true same h = absurd (omega (arith, eqb-false v t at_t, eqb-true v x here, eqb-true t x same))
      go false at_t false here true same h = count_cons (is_request_of x) (GetOperations v key) rest ∙ ap (λ b. cond b 1 0 + count_by (is_request_of x) rest) here ∙ omega (arith, h)
      go false at_t b here false same h = omega (arith, h, more, count_cons (is_request_of x) (GetOperations v key) rest)

  -- requests alone
  count_requests : (x : ℕ) (xs : List (Message D)) → count_by (is_request_of x) (filter is_request xs) ≡ count_by (is_request_of x) xs
  count_requests x [] = refl
  count_requests x (AttachDatabase db ∷ xs) = count_requests x xs ∙ sym (count_cons (is_request_of x) (AttachDatabase db) xs ∙ omega arith)
  count_requests x (GetOperations v key ∷ xs) = omega (arith, count_cons (is_request_of x) (GetOperations v key) xs, count_cons (is_request_of x) (GetOperations v key) (filter is_request xs), count_requests x xs)

  -- a database that is sent changes nothing of the requests
  pub sent_database : (q : Queues (Message D)) (db : D) (feedback : Feedback) (after : Queues (Message D)) → Sends kept q (AttachDatabase db) feedback after → (x : ℕ) → count_by (is_request_of x) (messages after) ≡ count_by (is_request_of x) (messages q)
  sent_database q db feedback after (ready room) x = go (room.overflow)
    where
      one : count_by (is_request_of {D = D} x) (AttachDatabase db ∷ []) ≡ 0
      one = count_cons (is_request_of x) (AttachDatabase db) [] ∙ refl

      go : q.overflow ≡ [] → count_by (is_request_of x) ((q.ready ++ AttachDatabase db ∷ []) ++ q.overflow) ≡ count_by (is_request_of x) (q.ready ++ q.overflow)
      go none = omega (arith, count_append (is_request_of x) (q.ready ++ AttachDatabase db ∷ []) q.overflow, count_append (is_request_of x) q.ready (AttachDatabase db ∷ []), count_append (is_request_of x) q.ready q.overflow, one)
  sent_database q db feedback after (waits busy) x =
      omega (arith, count_append (is_request_of x) q.ready (AttachDatabase db ∷ filter is_request q.overflow), count_append (is_request_of x) q.ready q.overflow, count_cons (is_request_of x) (AttachDatabase db) (filter is_request q.overflow), count_requests x q.overflow)

  pub sent_request : (q : Queues (Message D)) (t : ℕ) (key : Request) (feedback : Feedback) (after : Queues (Message D)) → Sends kept q (GetOperations t key) feedback after → messages after ≡ messages q ++ GetOperations t key ∷ []
  sent_request q t key feedback after (ready room) = ap (λ w. (q.ready ++ GetOperations t key ∷ []) ++ w) room.overflow ∙ append-nil (q.ready ++ GetOperations t key ∷ []) ∙ ap (λ w. w ++ GetOperations t key ∷ []) (sym (ap (λ w. q.ready ++ w) room.overflow ∙ append-nil q.ready))
  sent_request q t key feedback after (waits busy) = sym (append_assoc q.ready q.overflow (GetOperations t key ∷ []))

  no_request : (db : D) (t : ℕ) (key : Request) → AttachDatabase db ≡ GetOperations t key → ⊥
  no_request db t key e = cc

  -- which requests are on their way behind a database that is sent
  pub sent_from : (q : Queues (Message D)) (db : D) (feedback : Feedback) (after : Queues (Message D)) → Sends kept q (AttachDatabase db) feedback after → (t : ℕ) (key : Request) → Contains (messages after) (GetOperations t key) → Contains (messages q) (GetOperations t key)
  sent_from q db feedback after (ready room) t key there = go (Contains-append_cases (q.ready ++ AttachDatabase db ∷ []) q.overflow (GetOperations t key) there)
    where
      first : Contains q.ready (GetOperations t key) ⊎ (AttachDatabase db ≡ GetOperations t key) → Contains (messages q) (GetOperations t key)
      first (inl c) = Contains-append_left q.ready q.overflow (GetOperations t key) c
      first (inr e) = absurd (no_request db t key e)

      go : Contains (q.ready ++ AttachDatabase db ∷ []) (GetOperations t key) ⊎ Contains q.overflow (GetOperations t key) → Contains (messages q) (GetOperations t key)
      go (inl c) = first (Contains-push_cases q.ready (AttachDatabase db) (GetOperations t key) c)
      go (inr c) = Contains-append_right q.ready q.overflow (GetOperations t key) c
  sent_from q db feedback after (waits busy) t key there = go (Contains-append_cases q.ready (AttachDatabase db ∷ filter is_request q.overflow) (GetOperations t key) there)
    where
      first : (AttachDatabase db ≡ GetOperations t key) ⊎ Contains (filter is_request q.overflow) (GetOperations t key) → Contains (messages q) (GetOperations t key)
      first (inl e) = absurd (no_request db t key e)
      first (inr c) = Contains-append_right q.ready q.overflow (GetOperations t key) (Contains-filter is_request q.overflow (GetOperations t key) c)

      go : Contains q.ready (GetOperations t key) ⊎ Contains (AttachDatabase db ∷ filter is_request q.overflow) (GetOperations t key) → Contains (messages q) (GetOperations t key)
      go (inl c) = Contains-append_left q.ready q.overflow (GetOperations t key) c
      go (inr c) = first (in_cons (AttachDatabase db) (filter is_request q.overflow) (GetOperations t key) c)

  -- without the requests of a ticket that wait
  pub without_waiting : (q : Queues (Message D)) (t x : ℕ) → (t == x) ≡ false → count_by (is_request_of x) (q.ready ++ filter (is_not_of t) q.overflow) ≡ count_by (is_request_of x) (messages q)
  without_waiting q t x other =
      let e = count_others t x q.overflow in
      let e' = rw other at e in
      omega (arith, count_append (is_request_of x) q.ready (filter (is_not_of t) q.overflow), count_append (is_request_of x) q.ready q.overflow, e')

  pub fewer_waiting : (q : Queues (Message D)) (t x : ℕ) → count_by (is_request_of x) (q.ready ++ filter (is_not_of t) q.overflow) ≤ count_by (is_request_of x) (messages q)
  fewer_waiting q t x = go (t == x) (count_others t x q.overflow)
    where
      go : (b : Bool) → count_by (is_request_of x) (filter (is_not_of t) q.overflow) ≡ cond b 0 (count_by (is_request_of x) q.overflow) → count_by (is_request_of x) (q.ready ++ filter (is_not_of t) q.overflow) ≤ count_by (is_request_of x) (messages q)
      go true e = omega (arith, count_append (is_request_of x) q.ready (filter (is_not_of t) q.overflow), count_append (is_request_of x) q.ready q.overflow, e)
      go false e = omega (arith, count_append (is_request_of x) q.ready (filter (is_not_of t) q.overflow), count_append (is_request_of x) q.ready q.overflow, e)

  pub without_from : (q : Queues (Message D)) (t : ℕ) (message : Message D) → Contains (q.ready ++ filter (is_not_of t) q.overflow) message → Contains (messages q) message
  without_from q t message there = go (Contains-append_cases q.ready (filter (is_not_of t) q.overflow) message there)
    where
      go : Contains q.ready message ⊎ Contains (filter (is_not_of t) q.overflow) message → Contains (messages q) message
      go (inl c) = Contains-append_left q.ready q.overflow message c
      go (inr c) = Contains-append_right q.ready q.overflow message (Contains-filter (is_not_of t) q.overflow message c)
