-- One event, from what its functions did.
use Rattle.std.proofs.Common.{◌≡◌, ℕ, ◌-◌, ◌^◌, Bool, true, false, Option, Some, None, List, [], ◌++◌, refl, sym, ap, subst, ◌∙◌}
use Rattle.std.proofs.lemmas.Bool.{eqb-true, eq-eqb}
use Rattle.std.specs.List.Sorted.{IsPermutation, IsNonDecreasing}
use Rattle.stateful_types.specs.Mailbox.{HandsOut}
use Rattle.stateful_types.specs.declared.request.Request.{Request}
use Rattle.stateful_p2p.specs.Inbox.{Inbox}
use Rattle.stateful_p2p_tables.specs.Deliveries.{Takes, Forgets, stranger, forgets, Releases, has_none, releases, Retires, nobody, unfetched, fetched}
use Rattle.stateful_p2p.specs.Fanout.{delivered, Delivers}
use Rattle.stateful_p2p.specs.Resolving.{Setup, IsExhausting, Hears, attaches, fetches, passes_over, Judges, Leaves, Produces, Does, hears, delivers, judges, leaves, produces, Steps}
use Rattle.stateful_p2p.specs.Tasks.{Admits, hear, deliver, judge, leave, produce, has_last_number}
use Rattle.stateful_p2p_tables.specs.declared.state.State.{State}
use Rattle.stateful_p2p.specs.declared.message.Message.{Message}
use Rattle.stateful_p2p.specs.declared.actor.Task.{Task}
use Rattle.stateful_p2p.specs.declared.actor.Task.TheVariants as tasks
use Rattle.stateful_p2p.specs.declared.event.ActorEvent.{ActorEvent}
use Rattle.stateful_p2p.specs.declared.event.ActorEvent.TheVariants as events
use Rattle.stateful_p2p_tables.specs.declared.out.ActorOut.{ActorOut}

module _ {D : Type 0} where
  pub released_number : (s : State D) (t : ℕ) (verdict : Option Bool) (settled : Option ActorOut) (next : State D) → Releases s t verdict settled next → next.next_delivery ≡ s.next_delivery
  released_number s t verdict settled next (has_none none) = refl
  released_number s t verdict settled next (releases here there) = refl

  pub forgot_number : (s : State D) (t : ℕ) (settled : Option (Option ActorOut)) (next : State D) → Forgets s t settled next → next.next_delivery ≡ s.next_delivery
  forgot_number s t settled next (stranger none) = refl
  forgot_number s t settled next (forgets {settled = one} some rel) = released_number (record s { subscriptions = _ }) t None one next rel

  -- who is forgotten changes no number
  pub retired_number : (s : State D) (ts : List ℕ) (f o : List ActorOut) (last : State D) → Retires s ts f o last → last.next_delivery ≡ s.next_delivery
  retired_number s ts f o last nobody = refl
  retired_number s ts f o last (unfetched {t = t} {ts = us} {next = next} one rest) = retired_number next us f o last rest ∙ forgot_number s t None next one
  retired_number s ts f o last (fetched {t = t} {ts = us} {one = x} {forgotten = g} {settled = p} {next = next} one rest) = retired_number next us g p last rest ∙ forgot_number s t (Some x) next one

  -- the next number of a delivery says nothing of who takes it
  pub takes_same : (s : State D) (d : ℕ) (key : Request) (takers : List ℕ) → Takes (delivered s d) key takers → Takes s key takers
  takes_same s d key takers takes = record { subscribers = takes.subscribers; are = takes.are; some = takes.some; free = takes.free }

module _ {D Op : Type 0} (u : Setup D Op) where
  same_tickets : (s : State D) (m m' : Inbox D Op) (message : Message D) (outs : List ActorOut) (next : State D) → m.tickets ≡ m'.tickets → Hears s m message outs next → Hears s m' message outs next
  same_tickets s m m' message outs next same attaches = attaches
  same_tickets s m m' message outs next same (fetches live) = fetches (rw same at live)
  same_tickets s m m' message outs next same (passes_over dead) = passes_over (rw same at dead)

  pub hear_does : (before m mid : Inbox D Op) (s : State D) (message : Message D) (done : List ActorOut) (next : State D) → HandsOut before.queue m.queue (Some message) → m ≡ record before { queue = m.queue }
      → mid ≡ record m { cancelled = [] } → Hears s mid message done next → Does u s (record before { cancelled = [] }) events.Message done next mid
  hear_does before m mid s message done next handed m_is mid_is h =
      let e : mid ≡ record before { queue = m.queue; cancelled = [] } = mid_is ∙ ap (λ (w : Inbox D Op). let r : Inbox D Op = record w { cancelled = [] } in r) m_is in
      subst (λ (w : Inbox D Op). Does u s (record before { cancelled = [] }) events.Message done next w) (sym e)
      (hears {message = message} {left = record before { queue = m.queue; cancelled = [] }} handed refl
      (same_tickets s mid (record before { cancelled = [] }) message done next (ap (λ (w : Inbox D Op). w.tickets) e) h))

  -- what an event does behind those who were cancelled
  pub steps_by : (s between last : State D) (m left : Inbox D Op) (event : ActorEvent) (gone : List ℕ) (forgotten settled done outs mid : List ActorOut) → IsNonDecreasing gone → IsPermutation m.cancelled gone
      → Retires s gone forgotten settled between → Does u between (record m { cancelled = [] }) event done last left → mid ≡ [] ++ forgotten ++ settled → outs ≡ mid ++ done → Steps u s m event outs last left
  steps_by s between last m left event gone forgotten settled done outs mid ascending all retires does first then = record {
    gone = gone;
    ascending = ascending;
    all = all;
    forgotten = forgotten;
    settled = settled;
    between = between;
    retires = retires;
    done = done;
    does = does;
    outs_are = then ∙ ap (λ w. w ++ done) first;
  }

module _ {D Op : Type 0} where
  -- a task has the last number where its event has
  pub last_event : (m left : Inbox D Op) (event : ActorEvent) (task : Task D) → Admits m event task left → has_last_number task ≡ true → IsExhausting event
  last_event m left event task (hear handed others) e = let no : ⊥ = cc in absurd no
  last_event m left event task (deliver {d = d}) e = eqb-true d (2 ^ 64 - 1) e
  last_event m left event task judge e = let no : ⊥ = cc in absurd no
  last_event m left event task leave e = let no : ⊥ = cc in absurd no
  last_event m left event task (produce {n = n}) e = eqb-true n (2 ^ 64 - 1) e

  pub last_task : (m left : Inbox D Op) (event : ActorEvent) (task : Task D) → Admits m event task left → IsExhausting event → has_last_number task ≡ true
  last_task m left event task (hear handed others) e = absurd e
  last_task m left event task (deliver {d = d}) e = eq-eqb d (2 ^ 64 - 1) e
  last_task m left event task judge e = absurd e
  last_task m left event task leave e = absurd e
  last_task m left event task (produce {n = n}) e = eq-eqb n (2 ^ 64 - 1) e

  -- a task with a number leaves the mailbox what it is
  pub last_same : (m left : Inbox D Op) (event : ActorEvent) (task : Task D) → Admits m event task left → has_last_number task ≡ true → left ≡ m
  last_same m left event task (hear handed others) e = let no : ⊥ = cc in absurd no
  last_same m left event task deliver e = refl
  last_same m left event task judge e = refl
  last_same m left event task leave e = refl
  last_same m left event task produce e = refl

module _ {D Op : Type 0} (u : Setup D Op) where
  -- what a task did, with the outputs that it put behind earlier ones
  pub data Did (s : State D) (m : Inbox D Op) (outs : List ActorOut) : Task D → List ActorOut → State D → Inbox D Op → Type 0 where
    did_hear : {message : Message D} {done more : List ActorOut} {next : State D} → Hears s m message done next → more ≡ outs ++ done → Did s m outs (tasks.Hear message) more next m
    did_deliver : {d : ℕ} {key : Request} {bytes : List ℕ} {done more : List ActorOut} {next : State D} {left : Inbox D Op} → Delivers u.operations s m d key bytes done next left → more ≡ outs ++ done
        → Did s m outs (tasks.Deliver d key bytes) more next left
    did_judge : {t : ℕ} {valid : Bool} {done more : List ActorOut} {next : State D} {left : Inbox D Op} → Judges s m t valid done next left → more ≡ outs ++ done → Did s m outs (tasks.Judge t valid) more next left
    did_leave : {t : ℕ} {done more : List ActorOut} {next : State D} {left : Inbox D Op} → Leaves s m t done next left → more ≡ outs ++ done → Did s m outs (tasks.Leave t) more next left
    did_produce : {n : ℕ} {key : Request} {done more : List ActorOut} {next : State D} → Produces u s n key done next → more ≡ outs ++ done → Did s m outs (tasks.Produce n key) more next m

  pub admitted : (s between last : State D) (before m mid left : Inbox D Op) (event : ActorEvent) (task : Task D) (gone : List ℕ) (forgotten settled outs first : List ActorOut) → Admits before event task m
      → IsNonDecreasing gone → IsPermutation m.cancelled gone → Retires s gone forgotten settled between → mid ≡ record m { cancelled = [] } → first ≡ [] ++ forgotten ++ settled
      → Did between mid first task outs last left → Steps u s before event outs last left
  admitted s between last before m mid left event task gone forgotten settled outs first (hear {message = message} handed m_is) ascending all retires mid_is first_is (did_hear {done = done} h more) =
      steps_by u s between last before mid event gone forgotten settled done outs first ascending (subst (λ (w : Inbox D Op). IsPermutation w.cancelled gone) m_is all) retires
      (hear_does u before m mid between message done last handed m_is mid_is h) first_is more
  admitted s between last before m mid left event task gone forgotten settled outs first deliver ascending all retires mid_is first_is (did_deliver {done = done} h more) =
      steps_by u s between last m left event gone forgotten settled done outs first ascending all retires (delivers (rw mid_is at h)) first_is more
  admitted s between last before m mid left event task gone forgotten settled outs first judge ascending all retires mid_is first_is (did_judge {done = done} h more) =
      steps_by u s between last m left event gone forgotten settled done outs first ascending all retires (judges (rw mid_is at h)) first_is more
  admitted s between last before m mid left event task gone forgotten settled outs first leave ascending all retires mid_is first_is (did_leave {done = done} h more) =
      steps_by u s between last m left event gone forgotten settled done outs first ascending all retires (leaves (rw mid_is at h)) first_is more
  admitted s between last before m mid left event task gone forgotten settled outs first produce ascending all retires mid_is first_is (did_produce {n = n} {key = key} {done = done} h more) =
      steps_by u s between last m mid event gone forgotten settled done outs first ascending all retires (subst (λ (w : Inbox D Op). Does u between (record m { cancelled = [] }) (events.Produce n key) done last w) (sym mid_is) (produces h)) first_is more

-- what isn't false
pub came : {P : Type 0} (b : Bool) → (P → b ≡ false) × (b ≡ false → P) → (P → ⊥) → b ≡ true
came true both some = refl
came false both some = absurd (some (both.1 refl))
