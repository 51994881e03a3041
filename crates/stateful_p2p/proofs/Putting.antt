-- What an event puts out, by kinds.
use Rattle.std.proofs.Common.{◌≡◌, ℕ, zero, suc, ◌≤◌, ◌==◌, Bool, true, false, cond, Option, Some, None, List, [], ◌∷◌, map, All, Contains, count_by, sum_by, refl, sym, ap, subst, arith}
use Rattle.std.specs.Prelude.{option_to_list}
use Rattle.std.proofs.lemmas.List.Sums.{sum_by-append, sum_by-cons}
use Rattle.std.proofs.lemmas.List.Elements.{All-nil, All-cons, All-head, All-tail, All-append, All-contains}
use Rattle.stateful_base.specs.Format.{Format}
use Rattle.stateful_types.specs.declared.request.Request.{Request}
use Rattle.stateful_p2p_tables.specs.Deliveries.{outcome, heard, Releases, has_none, releases, Forgets, forgets, Retires, nobody, unfetched, fetched}
use Rattle.stateful_p2p.specs.Fanout.{Delivers, unheard, malformed, untaken, taken}
use Rattle.stateful_p2p.specs.Inbox.{Inbox}
use Rattle.stateful_p2p.specs.Resolving.{Setup, Judges, accepts, rejects, Leaves, leaves_unfetched, Produces, sent}
use Rattle.stateful_p2p.specs.History.{Entry, outs_of, count_outs, Once}
use Rattle.stateful_p2p_tables.specs.declared.state.State.{State}
use Rattle.stateful_p2p_tables.specs.declared.out.ActorOut.{ActorOut}
use Rattle.stateful_p2p_tables.specs.declared.out.ActorOut.TheVariants.{Forget, Candidate, Feedback, Unjudged, Served, Unserved}
use Rattle.stateful_p2p.proofs.Moving.{count_cons}

-- what is of no kind isn't counted
pub count_zero : {X : Type 0} (kind : X → Bool) (xs : List X) → All (λ x. kind x ≡ false) xs → count_by kind xs ≡ 0
count_zero kind [] all = refl
count_zero kind (x ∷ xs) all = omega (arith, count_cons kind x xs, ap {B = ℕ} (λ b. cond b 1 0) (All-head (λ y. kind y ≡ false) x xs all), count_zero kind xs (All-tail (λ y. kind y ≡ false) x xs all))

-- what is there is counted
pub count_there : {X : Type 0} (kind : X → Bool) (xs : List X) (x : X) → Contains xs x → kind x ≡ true → 1 ≤ count_by kind xs
count_there kind xs x there is_kind = go (count_by kind xs) refl
  where
    none : (ys : List _) → count_by kind ys ≡ 0 → All (λ y. kind y ≡ false) ys
    none [] e = All-nil (λ y. kind y ≡ false)
    none (y ∷ ys) e = All-cons (λ z. kind z ≡ false) y ys (no (kind y) (omega (arith, count_cons kind y ys))) (none ys (omega (arith, count_cons kind y ys)))
      where
        no : (b : Bool) → ◌≡◌ {A = ℕ} (cond b 1 0) 0 → b ≡ false
        no true e = absurd (omega arith)
        no false e = refl

    go : (n : ℕ) → count_by kind xs ≡ n → 1 ≤ n
    go zero e = absurd (let is = All-contains (λ y. kind y ≡ false) xs x (none xs e) there in cc)
    go (suc n) e = omega arith

pub once_counted : {D : Type 0} (kind : ActorOut → Bool) (out : ActorOut) (h : List (Entry D)) → kind out ≡ true → Once (λ before e. Contains (outs_of e) out) h → 1 ≤ count_outs kind h
once_counted kind out h is_kind o =
    let count = λ (e : Entry _). count_by kind (outs_of e) in
    let parts = sum_by-append count o.before (o.entry ∷ o.after) in
    let more = sum_by-cons count o.entry o.after in
    let here = count_there kind (outs_of o.entry) out o.here is_kind in
    let is = ap (λ w. sum_by count w) o.place in
    omega arith

pub all_one : {X : Type 0} (P : X → Type 0) (x : X) → P x → All P (x ∷ [])
all_one P x p = All-cons P x [] p (All-nil P)

module _ (P : ActorOut → Type 0) (feedback : (d : ℕ) (v : Bool) → P (Feedback d v)) (unjudged : (d : ℕ) → P (Unjudged d)) where
  pub all_outcome : (d : ℕ) (given : List (ℕ × Bool)) → P (outcome d given)
  all_outcome d [] = unjudged d
  all_outcome d (first ∷ given) = feedback d first.1

  -- what is settled is an answer to a delivery
  pub all_released : {D : Type 0} (s : State D) (t : ℕ) (verdict : Option Bool) (settled : Option ActorOut) (next : State D) → Releases s t verdict settled next → All P (option_to_list settled)
  all_released s t verdict settled next (has_none none) = All-nil P
  all_released s t verdict settled next (releases {d = d} {v = v} here there) = go ((heard v t verdict).awaited == 0)
    where
      go : (b : Bool) → All P (option_to_list (cond b (Some (outcome d (heard v t verdict).given)) None))
      go true = all_one P (outcome d (heard v t verdict).given) (all_outcome d (heard v t verdict).given)
      go false = All-nil P

  pub all_forgot : {D : Type 0} (s : State D) (t : ℕ) (one : Option ActorOut) (next : State D) → Forgets s t (Some one) next → All P (option_to_list one)
  all_forgot s t one next (forgets some rel) = all_released (record s { subscriptions = _ }) t None one next rel

  pub all_retired : {D : Type 0} → ((t : ℕ) → P (Forget t)) → (s : State D) (ts : List ℕ) (f o : List ActorOut) (last : State D) → Retires s ts f o last → All P f × All P o
  all_retired forget s ts f o last nobody = (All-nil P, All-nil P)
  all_retired forget s ts f o last (unfetched {ts = us} {next = next} one rest) = all_retired forget next us f o last rest
  all_retired forget s ts f o last (fetched {t = t} {ts = us} {one = x} {forgotten = g} {settled = p} {next = next} one rest) =
      let r = all_retired forget next us g p last rest in
      (All-cons P (Forget t) g (forget t) r.0, All-append P (option_to_list x) p (all_forgot s t x next one) r.1)

-- ---- what holds of all that a part of an event puts out

pub all_candidates : (P : ActorOut → Type 0) → ((t : ℕ) → P (Candidate t)) → (ts : List ℕ) → All P (map (λ t. Candidate t) ts)
all_candidates P candidate [] = All-nil P
all_candidates P candidate (t ∷ ts) = All-cons P (Candidate t) (map (λ t. Candidate t) ts) (candidate t) (all_candidates P candidate ts)

module _ (P : ActorOut → Type 0) {D Op : Type 0} where
  pub all_judged : ((t : ℕ) → P (Forget t)) → ((d : ℕ) (v : Bool) → P (Feedback d v)) → ((d : ℕ) → P (Unjudged d))
      → (s : State D) (m : Inbox D Op) (t : ℕ) (valid : Bool) (done : List ActorOut) (next : State D) (left : Inbox D Op) → Judges s m t valid done next left → All P done
  all_judged forget feedback unjudged s m t valid done next left (accepts {settled = settled} {next = mid} rel) = All-cons P (Forget t) (option_to_list settled) (forget t) (all_released P feedback unjudged s t (Some true) settled mid rel)
  all_judged forget feedback unjudged s m t valid done next left (rejects {settled = settled} rel) = all_released P feedback unjudged s t (Some false) settled next rel

  pub all_left : ((t : ℕ) → P (Forget t)) → ((d : ℕ) (v : Bool) → P (Feedback d v)) → ((d : ℕ) → P (Unjudged d))
      → (s : State D) (m : Inbox D Op) (t : ℕ) (done : List ActorOut) (next : State D) (left : Inbox D Op) → Leaves s m t done next left → All P done
  all_left forget feedback unjudged s m t done next left (Leaves.leaves {settled = settled} f) = All-cons P (Forget t) (option_to_list settled) (forget t) (all_forgot P feedback unjudged s t settled next f)
  all_left forget feedback unjudged s m t done next left (leaves_unfetched f) = All-nil P

  pub all_delivered : ((t : ℕ) → P (Candidate t)) → ((d : ℕ) (v : Bool) → P (Feedback d v)) → ((d : ℕ) → P (Unjudged d))
      → (operations : Format Op) (s : State D) (m : Inbox D Op) (d : ℕ) (key : Request) (bytes : List ℕ) (done : List ActorOut) (next : State D) (left : Inbox D Op) → Delivers operations s m d key bytes done next left → All P done
  all_delivered candidate feedback unjudged operations s m d key bytes done next left (unheard x) = all_one P (Unjudged d) (unjudged d)
  all_delivered candidate feedback unjudged operations s m d key bytes done next left (malformed x y) = all_one P (Feedback d false) (feedback d false)
  all_delivered candidate feedback unjudged operations s m d key bytes done next left (untaken x y) = all_one P (Unjudged d) (unjudged d)
  all_delivered candidate feedback unjudged operations s m d key bytes done next left (taken {takers = takers} x y z) = all_candidates P candidate takers

  pub all_produced : ((n : ℕ) (bytes : List ℕ) → P (Served n bytes)) → ((n : ℕ) → P (Unserved n))
      → (u : Setup D Op) (s : State D) (n : ℕ) (key : Request) (done : List ActorOut) (next : State D) → Produces u s n key done next → All P done
  all_produced served unserved u s n key done next h = subst (All P) (sym h.outs_are) (all_one P (sent u n h.bytes) (one h.bytes))
    where
      one : (bytes : Option (List ℕ)) → P (sent u n bytes)
      one None = unserved n
      one (Some bytes) = served n bytes
