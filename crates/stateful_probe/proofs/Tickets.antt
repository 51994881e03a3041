-- That each ticket is given once, and is answered, taken back or waits; and what a stop leaves.
use Rattle.std.proofs.Common.{◌≡◌, ℕ, zero, suc, ◌+◌, ◌<◌, ◌≤◌, ◌==◌, Bool, true, false, not, cond, Option, Some, None, List, [], ◌∷◌, map, filter, length, slice_index_or, All, sum_by, count_by, refl, sym, ap, subst, ◌∙◌, arith}
use Rattle.std.specs.List.{list_any}
use Rattle.std.proofs.lemmas.Bool.{and_parts, not-true, leb-true, eqb-true, eqb-false}
use Rattle.std.proofs.lemmas.List.Sums.{sum_by-cons, sum_by-append}
use Rattle.std.proofs.lemmas.List.Elements.{All-head, All-tail}
use Rattle.stateful_base.specs.declared.finalization.Finalization.{Finalization}
use Rattle.stateful_probe.specs.Setup.{Setup, committee}
use Rattle.stateful_probe.specs.Probe.{may_come, names_live, is_waiting, left_waiting, asked, handed_out, Steps, answered, closed, begins_round, waits, leaves, asks_again, recorded, served, stops}
use Rattle.stateful_probe.specs.Laws.{Turn, Runs, asks, takes_back, ends, asked_count, cancelled_count, answered_count}
use Rattle.stateful_probe.specs.declared.state.State.{State}
use Rattle.stateful_probe.specs.declared.event.Event.{Event}
use Rattle.stateful_probe.specs.declared.event.Event.TheVariants.{Subscribe, Stop}
use Rattle.stateful_probe.specs.declared.event.Out.{Out}
use Rattle.stateful_probe.specs.declared.event.Out.TheVariants.{Floor, Closed}
use Rattle.stateful_probe.proofs.Outs.{asked_all, sent_all}

-- how many wait under the ticket
abbrev count_of : ℕ → List ℕ → ℕ
count_of t waiting = count_by (λ w. w == t) waiting

-- ---- lists of tickets

sum_none : {X : Type 0} (f : X → ℕ) (xs : List X) → All (λ x. f x ≡ 0) xs → sum_by f xs ≡ 0
sum_none f [] all = refl
sum_none f (x ∷ xs) all = omega (arith, sum_by-cons f x xs, All-head (λ x. f x ≡ 0) x xs all, sum_none f xs (All-tail (λ x. f x ≡ 0) x xs all))

-- each ticket of a list is ended once where each element ends its own
ends_each : {K C : Type 0} (t : ℕ) (end : ℕ → Out K C) → ((w : ℕ) → ends t (end w) ≡ cond (w == t) 1 0) → (waiting : List ℕ) → sum_by (ends t) (map end waiting) ≡ count_of t waiting
ends_each t end one [] = refl
ends_each t end one (w ∷ waiting) = omega (arith, sum_by-cons (ends t) (end w) (map end waiting), sum_by-cons (λ w. cond (w == t) 1 0) w waiting, one w, ends_each t end one waiting)

-- without a ticket
count_without : (t t' : ℕ) (waiting : List ℕ) → count_of t (filter (λ w. not (w == t')) waiting) ≡ cond (t' == t) 0 (count_of t waiting)
count_without t t' [] = go (t' == t) 0
  where
    go : (b : Bool) (n : ℕ) → n ≡ cond b n n
    go true n = refl
    go false n = refl
count_without t t' (w ∷ waiting) = go (w == t') refl (w == t) refl (t' == t) refl (count_without t t' waiting)
  where
    rest : List ℕ
    rest = filter (λ w. not (w == t')) waiting

    more : count_of t (w ∷ waiting) ≡ cond (w == t) 1 0 + count_of t waiting
    more = sum_by-cons (λ v. cond (v == t) 1 0) w waiting

    go : (a : Bool) → (w == t') ≡ a → (b : Bool) → (w == t) ≡ b → (d : Bool) → (t' == t) ≡ d → count_of t rest ≡ cond d 0 (count_of t waiting)
        → count_of t (cond (not a) (w ∷ rest) rest) ≡ cond d 0 (count_of t (w ∷ waiting))
    go true at b here true same h = h
    go true at true here false same h = absurd (omega (arith, eqb-true w t' at, eqb-true w t here, eqb-false t' t same))
    go true at false here false same h = omega (arith, h, more ∙ ap (λ b. cond b 1 0 + count_of t waiting) here)
    go false at true here true same h = absurd (omega (arith, eqb-false w t' at, eqb-true w t here, eqb-true t' t same))
    go false at false here true same h = sum_by-cons (λ v. cond (v == t) 1 0) w rest ∙ ap (λ b. cond b 1 0 + count_of t rest) here ∙ omega (arith, h)
    go false at b here false same h = omega (arith, h, more, sum_by-cons (λ v. cond (v == t) 1 0) w rest)

-- one that waits is counted
count_waiting : (t : ℕ) (waiting : List ℕ) → list_any (λ w. w == t) waiting ≡ true → 1 ≤ count_of t waiting
count_waiting t [] any = cc
count_waiting t (w ∷ waiting) any = go (w == t) refl any (count_waiting t waiting)
  where
    more : count_of t (w ∷ waiting) ≡ cond (w == t) 1 0 + count_of t waiting
    more = sum_by-cons (λ v. cond (v == t) 1 0) w waiting

    go : (b : Bool) → (w == t) ≡ b → list_any (λ w. w == t) (w ∷ waiting) ≡ true → (list_any (λ w. w == t) waiting ≡ true → 1 ≤ count_of t waiting)
        → 1 ≤ count_of t (w ∷ waiting)
    go true here any rest = let e = more ∙ ap (λ b. cond b 1 0 + count_of t waiting) here in omega arith
    go false here any rest = let e = more in let r = rest (rw here at any) in omega arith

-- the one that waits is taken back
count_leaving : (t given : ℕ) (waiting : List ℕ) → count_of given waiting ≤ 1 → list_any (λ w. w == given) waiting ≡ true
    → cond (given == t) 1 0 + count_of t (filter (λ w. not (w == given)) waiting) ≡ count_of t waiting
count_leaving t given waiting single any = go (given == t) refl (count_without t given waiting)
  where
    go : (b : Bool) → (given == t) ≡ b → count_of t (filter (λ w. not (w == given)) waiting) ≡ cond b 0 (count_of t waiting)
        → cond b 1 0 + count_of t (filter (λ w. not (w == given)) waiting) ≡ count_of t waiting
    go true same h =
        let e : count_of given waiting ≡ count_of t waiting = ap (λ v. count_of v waiting) (eqb-true given t same) in
        let one : 1 ≤ count_of given waiting = count_waiting given waiting any in
        omega arith
    go false other h = omega arith

-- ---- one event

-- each ticket waits once at most, and none that is yet to be given
pub record IsLive (next : ℕ) (waiting : List ℕ) : Type 0 where
  pub single : (t : ℕ) → count_of t waiting ≤ 1
  pub fresh : (t : ℕ) → next ≤ t → count_of t waiting ≡ 0

-- the least ticket that is new behind an event
abbrev next_of : {K : Type 0} → ℕ → Event K → ℕ
next_of n (Subscribe t) = t + 1
next_of n event = n

module _ {S K C : Type 0} (u : Setup S K C) where
  ends_asked : (t : ℕ) (known : Option (List K)) → sum_by (ends {K = K} {C = C} t) (asked known) ≡ 0
  ends_asked t known = sum_none (ends t) (asked known) (asked_all (λ out. ends t out ≡ 0) (λ keys. refl) known)

  ends_handed : (t : ℕ) (waiting : List ℕ) (chosen : Option (Finalization C)) → sum_by (ends {K = K} t) (handed_out waiting chosen) + count_of t (left_waiting waiting chosen) ≡ count_of t waiting
  ends_handed t waiting None = omega arith
  ends_handed t waiting (Some f) = omega (arith, ends_each {K = K} {C = C} t (λ w. Floor w f) (λ w. refl) waiting)

  -- what an event does to a ticket: whoever asked or waited is answered, taken back, or waits
  step_ticket : (latest : Option (Finalization C)) (s : State K C) (e : Event K) (outs : List (Out K C)) (next : State K C) → Steps u latest s e outs next
      → IsLive s.next_ticket s.subscribers → may_come s e ≡ true → (t : ℕ)
      → sum_by (ends t) outs + takes_back t e + count_of t next.subscribers ≡ asks t e + count_of t s.subscribers
  step_ticket latest s e outs next (answered is) live comes t = omega arith
  step_ticket latest s e outs next (closed unset serving) live comes t = omega arith
  step_ticket latest s e outs next (begins_round unset idle nobody) live comes t = let none = ends_asked t (committee u) in let before = ap (count_of t) nobody in omega arith
  step_ticket latest s e outs next (waits {t = given} unset others) live comes t = omega (arith, sum_by-append (λ w. cond (w == t) 1 0) s.subscribers (given ∷ []))
  step_ticket latest s e outs next (leaves {t = given}) live comes t =
      let e = count_leaving t given s.subscribers (live.single given) (and_parts (not s.stopped) (is_waiting s given) comes).1 in omega arith
  step_ticket latest s e outs next (asks_again unset others) live comes t = let none = ends_asked t (committee u) in omega arith
  step_ticket latest s e outs next (recorded {chosen = chosen} idle waited good others known selects) live comes t = let all = ends_handed t s.subscribers chosen in omega arith
  step_ticket latest s e outs next (served {peer = peer} serving request sends) live comes t =
      let none = sum_none (ends t) outs (sent_all (λ out. ends t out ≡ 0) u (λ peer bytes. refl) latest peer outs sends) in omega arith
  step_ticket latest s e outs next stops live comes t = let all = ends_each {K = K} {C = C} t (λ w. Closed w) (λ w. refl) s.subscribers in omega arith
  step_ticket latest s e outs next _ live comes t = omega arith

  step_next : (latest : Option (Finalization C)) (s : State K C) (e : Event K) (outs : List (Out K C)) (next : State K C) → Steps u latest s e outs next → next.next_ticket ≡ next_of s.next_ticket e
  step_next latest s e outs next (answered is) = refl
  step_next latest s e outs next _ = refl

  step_live : (latest : Option (Finalization C)) (s : State K C) (e : Event K) (outs : List (Out K C)) (next : State K C) → Steps u latest s e outs next
      → IsLive s.next_ticket s.subscribers → may_come s e ≡ true → IsLive next.next_ticket next.subscribers
  step_live latest s e outs next step live comes =
      subst (λ n. IsLive n next.subscribers) (sym (step_next latest s e outs next step))
      (go e (and_parts (not s.stopped) _ comes).1 (λ t. omega (arith, step_ticket latest s e outs next step live comes t)))
    where
      go : (e : Event K) → names_live s e ≡ true → ((t : ℕ) → count_of t next.subscribers ≤ asks t e + count_of t s.subscribers) → IsLive (next_of s.next_ticket e) next.subscribers
      go (Subscribe given) new few = record { single = λ t. given_once (given == t) t refl (few t); fresh = λ t above. given_before (given == t) t refl above (few t) }
        where
          given_once : (b : Bool) (t : ℕ) → (given == t) ≡ b → count_of t next.subscribers ≤ cond b 1 0 + count_of t s.subscribers → count_of t next.subscribers ≤ 1
          given_once true t same h = omega (arith, live.fresh t, leb-true s.next_ticket given new, eqb-true given t same)
          given_once false t other h = omega (arith, live.single t)

          given_before : (b : Bool) (t : ℕ) → (given == t) ≡ b → given + 1 ≤ t → count_of t next.subscribers ≤ cond b 1 0 + count_of t s.subscribers → count_of t next.subscribers ≡ 0
          given_before true t same above h = absurd (omega (arith, eqb-true given t same))
          given_before false t other above h = omega (arith, live.fresh t, leb-true s.next_ticket given new)
      go _ _ few = record { single = λ t. omega (arith, few t, live.single t); fresh = λ t above. omega (arith, few t, live.fresh t above) }

  -- ---- many events

  -- a ticket that is yet to be given is asked under once at most, and an earlier one no more
  asked_once : (turns : List (Turn K C)) (s last : State K C) → Runs u s turns last → (t : ℕ) → (asked_count t turns ≤ 1) × (t < s.next_ticket → asked_count t turns ≡ 0)
  asked_once [] s last runs t = (omega arith, λ earlier. refl)
  asked_once (turn ∷ turns) s last runs t =
      let rest = asked_once turns runs.2 last runs.4 t in
      let more = sum_by-cons (λ turn. asks t turn.event) turn turns in
      let n = step_next turn.latest s turn.event turn.outs runs.2 runs.3 in
      let later : t < next_of s.next_ticket turn.event → asked_count t turns ≡ 0 = λ lt. rest.1 (omega arith) in
      let both : (asks t turn.event + asked_count t turns ≤ 1) × (t < s.next_ticket → asks t turn.event + asked_count t turns ≡ 0) = go turn.event (and_parts (not s.stopped) _ runs.1).1 rest.0 later in
      (omega (arith, both.0, more), λ earlier. omega (arith, both.1 earlier, more))
    where
      go : (e : Event K) → names_live s e ≡ true → asked_count t turns ≤ 1 → (t < next_of s.next_ticket e → asked_count t turns ≡ 0)
          → (asks t e + asked_count t turns ≤ 1) × (t < s.next_ticket → asks t e + asked_count t turns ≡ 0)
      go (Subscribe given) new few later = asked_now (given == t) refl
        where
          asked_now : (b : Bool) → (given == t) ≡ b → (cond b 1 0 + asked_count t turns ≤ 1) × (t < s.next_ticket → cond b 1 0 + asked_count t turns ≡ 0)
          asked_now true same =
              let e = eqb-true given t same in
              let low = leb-true s.next_ticket given new in
              let none : asked_count t turns ≡ 0 = later (omega arith) in
              (omega arith, λ earlier. absurd (omega arith))
          asked_now false other = let low = leb-true s.next_ticket given new in (omega arith, λ earlier. let none : asked_count t turns ≡ 0 = later (omega arith) in omega arith)
      go _ new few later = (omega arith, λ earlier. let none : asked_count t turns ≡ 0 = later earlier in omega arith)

  pub once : (turns : List (Turn K C)) (s last : State K C) → Runs u s turns last → (t : ℕ) → asked_count t turns ≤ 1
  once turns s last runs t = (asked_once turns s last runs t).0

  -- whoever asked or waited was answered, was taken back, or waits
  pub none_forgotten : (turns : List (Turn K C)) (s last : State K C) → IsLive s.next_ticket s.subscribers → Runs u s turns last → (t : ℕ)
      → answered_count t turns + cancelled_count t turns + count_of t last.subscribers ≡ asked_count t turns + count_of t s.subscribers
  none_forgotten [] s last live runs t = omega (arith, ap (λ w. count_of t w.subscribers) runs)
  none_forgotten (turn ∷ turns) s last live runs t =
      let next = runs.2 in
      let here = step_ticket turn.latest s turn.event turn.outs next runs.3 live runs.1 t in
      let rest = none_forgotten turns next last (step_live turn.latest s turn.event turn.outs next runs.3 live runs.1) runs.4 t in
      omega (arith, here, rest, sum_by-cons (λ turn. asks t turn.event) turn turns, sum_by-cons (λ turn. takes_back t turn.event) turn turns, sum_by-cons (λ turn. sum_by (ends t) turn.outs) turn turns)

  -- ---- a stop

  step_stops : (latest : Option (Finalization C)) (s : State K C) (e : Event K) (outs : List (Out K C)) (next : State K C) → Steps u latest s e outs next
      → e ≡ Stop → (next.subscribers ≡ []) × (next.stopped ≡ true)
  step_stops latest s e outs next stops is = (refl, refl)
  step_stops latest s e outs next _ is = cc

  -- behind a stop nothing follows
  nothing_follows : (turns : List (Turn K C)) (s last : State K C) → s.stopped ≡ true → Runs u s turns last → last ≡ s
  nothing_follows [] s last stopped runs = runs
  nothing_follows (turn ∷ turns) s last stopped runs = let goes_on = not-true s.stopped (and_parts (not s.stopped) _ runs.1).0 in cc

  pub stopped : (turns : List (Turn K C)) (s last : State K C) → Runs u s turns last → (k : ℕ) (turn : Turn K C) → k < length turns → slice_index_or turns k turn ≡ turn → turn.event ≡ Stop
      → (last.subscribers ≡ []) × ((e : Event K) → may_come last e ≡ false)
  stopped [] s last runs k turn lt at is = absurd (omega arith)
  stopped (first ∷ turns) s last runs zero turn lt at is =
      let after = step_stops first.latest s first.event first.outs runs.2 runs.3 (ap (λ w. w.event) at ∙ is) in
      let same = nothing_follows turns runs.2 last after.1 runs.4 in
      (ap (λ w. w.subscribers) same ∙ after.0, λ e. rw (ap (λ w. w.stopped) same ∙ after.1) refl)
  stopped (first ∷ turns) s last runs (suc k) turn lt at is = stopped turns runs.2 last runs.4 k turn (omega arith) at is
