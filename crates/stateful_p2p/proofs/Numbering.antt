-- The numbers of deliveries and productions: each is above those before it.
use Rattle.std.proofs.Common.{◌≡◌, ℕ, ◌+◌, ◌≤◌, ◌<◌, ◌==◌, Bool, true, false, cond, Option, Some, None, List, [], ◌∷◌, ◌++◌, count_by, sum_by, ◌⊎◌, inl, inr, refl, sym, ap, subst, ◌∙◌, arith}
use Rattle.std.proofs.lemmas.Bool.{eqb-true, eq-eqb, leb-true}
use Rattle.std.proofs.lemmas.List.Sums.{sum_by_push, sum_by-cons, sum_by-append}
use Rattle.stateful_base.specs.Format.{Format}
use Rattle.stateful_types.specs.declared.request.Request.{Request}
use Rattle.stateful_p2p.specs.Inbox.{Inbox}
use Rattle.stateful_p2p_tables.specs.Deliveries.{Releases, has_none, releases, Forgets, stranger, forgets, Retires, nobody, unfetched, fetched}
use Rattle.stateful_p2p.specs.Fanout as fanout
use Rattle.stateful_p2p.specs.Resolving.{Setup, may_come, Hears, Judges, Leaves, Does, Steps}
use Rattle.stateful_p2p.specs.Resolving as resolving
use Rattle.stateful_p2p.specs.History.{Entry, Stepped, outs_of, count_outs, Takes, Turns}
use Rattle.stateful_p2p.specs.Laws.{Delivers, WasDelivered, Produces, WasProduced, is_answer_to}
use Rattle.stateful_p2p_tables.specs.declared.state.State.{State}
use Rattle.stateful_p2p.specs.declared.message.Message.{Message}
use Rattle.stateful_p2p.specs.declared.actor.Task.{Task}
use Rattle.stateful_p2p.specs.declared.actor.Task.TheVariants as tasks
use Rattle.stateful_p2p.specs.declared.event.ActorEvent.{ActorEvent}
use Rattle.stateful_p2p.specs.declared.event.ActorEvent.TheVariants as events
use Rattle.stateful_p2p_tables.specs.declared.out.ActorOut.{ActorOut}
use Rattle.stateful_p2p.proofs.Histories.{once_here, once_before, once_split, count_push}
use Rattle.stateful_p2p.proofs.Moving.{count_append}
use Rattle.stateful_p2p.proofs.Performing.{released_number, forgot_number, retired_number}
use Rattle.stateful_p2p.proofs.Placing.{same_takes}
use Rattle.stateful_p2p.proofs.Settling.{stands, IsCounted, retired_counted, retired_answers, retired_forgets, delivers_it, done_counted}

-- the least new number of a delivery, behind an event
abbrev pub delivery_after : {D : Type 0} → ℕ → Task D → ℕ
delivery_after n (tasks.Deliver d key bytes) = d + 1
delivery_after n task = n

abbrev pub serve_after : {D : Type 0} → ℕ → Task D → ℕ
serve_after n (tasks.Produce k key) = k + 1
serve_after n task = n

module _ {D : Type 0} where
  released_serve : (s : State D) (t : ℕ) (verdict : Option Bool) (settled : Option ActorOut) (next : State D) → Releases s t verdict settled next → next.next_serve ≡ s.next_serve
  released_serve s t verdict settled next (has_none none) = refl
  released_serve s t verdict settled next (releases here there) = refl

  forgot_serve : (s : State D) (t : ℕ) (settled : Option (Option ActorOut)) (next : State D) → Forgets s t settled next → next.next_serve ≡ s.next_serve
  forgot_serve s t settled next (stranger none) = refl
  forgot_serve s t settled next (forgets {settled = one} some rel) = released_serve (record s { subscriptions = _ }) t None one next rel

  pub retired_serve : (s : State D) (ts : List ℕ) (f o : List ActorOut) (last : State D) → Retires s ts f o last → last.next_serve ≡ s.next_serve
  retired_serve s ts f o last nobody = refl
  retired_serve s ts f o last (unfetched {t = t} {ts = us} {next = next} one rest) = retired_serve next us f o last rest ∙ forgot_serve s t None next one
  retired_serve s ts f o last (fetched {t = t} {ts = us} {one = x} {forgotten = g} {settled = p} {next = next} one rest) = retired_serve next us g p last rest ∙ forgot_serve s t (Some x) next one

  -- both numbers behind an event
  pub record Numbers (s : State D) (task : Task D) (next : State D) : Type 0 where
    pub delivery : next.next_delivery ≡ delivery_after s.next_delivery task
    pub serve : next.next_serve ≡ serve_after s.next_serve task

module _ {D Op : Type 0} where
  heard_numbers : (s : State D) (m : Inbox D Op) (message other : Message D) (done : List ActorOut) (next : State D) → Hears s m message done next → Numbers s (tasks.Hear other) next
  heard_numbers s m message other done next resolving.attaches = record { delivery = refl; serve = refl }
  heard_numbers s m message other done next (resolving.fetches live) = record { delivery = refl; serve = refl }
  heard_numbers s m message other done next (resolving.passes_over dead) = record { delivery = refl; serve = refl }

  delivered_numbers : (operations : Format Op) (s : State D) (m : Inbox D Op) (d : ℕ) (key : Request) (bytes : List ℕ) (done : List ActorOut) (next : State D) (left : Inbox D Op) → fanout.Delivers operations s m d key bytes done next left → Numbers s (tasks.Deliver d key bytes) next
  delivered_numbers operations s m d key bytes done next left (fanout.unheard x) = record { delivery = refl; serve = refl }
  delivered_numbers operations s m d key bytes done next left (fanout.malformed x y) = record { delivery = refl; serve = refl }
  delivered_numbers operations s m d key bytes done next left (fanout.untaken x y) = record { delivery = refl; serve = refl }
  delivered_numbers operations s m d key bytes done next left (fanout.taken x y z) = record { delivery = refl; serve = refl }

  judged_numbers : (s : State D) (m : Inbox D Op) (t : ℕ) (valid : Bool) (done : List ActorOut) (next : State D) (left : Inbox D Op) → Judges s m t valid done next left → Numbers s (tasks.Judge t valid) next
  judged_numbers s m t valid done next left (resolving.accepts {settled = settled} {next = mid} rel) = record { delivery = released_number s t (Some true) settled mid rel; serve = released_serve s t (Some true) settled mid rel }
  judged_numbers s m t valid done next left (resolving.rejects {settled = settled} rel) = record { delivery = released_number s t (Some false) settled next rel; serve = released_serve s t (Some false) settled next rel }

  left_numbers : (s : State D) (m : Inbox D Op) (t : ℕ) (done : List ActorOut) (next : State D) (left : Inbox D Op) → Leaves s m t done next left → Numbers s (tasks.Leave t) next
  left_numbers s m t done next left (Leaves.leaves {settled = settled} f) = record { delivery = forgot_number s t (Some settled) next f; serve = forgot_serve s t (Some settled) next f }
  left_numbers s m t done next left (resolving.leaves_unfetched f) = record { delivery = forgot_number s t None next f; serve = forgot_serve s t None next f }

module _ {D Op : Type 0} (u : Setup D Op) where
  done_numbers : (s : State D) (m : Inbox D Op) (event : ActorEvent) (task : Task D) (done : List ActorOut) (next : State D) (left : Inbox D Op) → Does u s m event done next left → Takes m left event task → Numbers s task next
  done_numbers s m event task done next left (Does.hears {message = message} hands are h) (Takes.hears {message = other} handed) = heard_numbers s m message other done next h
  done_numbers s m event task done next left (Does.delivers {d = d} {key = key} {bytes = bytes} h) Takes.delivers = delivered_numbers u.operations s m d key bytes done next left h
  done_numbers s m event task done next left (Does.judges {t = t} {valid = valid} h) Takes.judges = judged_numbers s m t valid done next left h
  done_numbers s m event task done next left (Does.leaves {t = t} h) Takes.leaves = left_numbers s m t done next left h
  done_numbers s m event task done next left (Does.produces h) Takes.produces = record { delivery = ap (λ (w : State D). w.next_delivery) h.others; serve = ap (λ (w : State D). w.next_serve) h.others }

  pub step_numbers : (s : State D) (m : Inbox D Op) (event : ActorEvent) (task : Task D) (outs : List ActorOut) (next : State D) (left : Inbox D Op) → Steps u s m event outs next left → Takes m left event task → Numbers s task next
  step_numbers s m event task outs next left steps takes =
      let n = done_numbers steps.between (record m { cancelled = [] }) event task steps.done next left steps.does (same_takes m left event task takes) in
      record {
        delivery = n.delivery ∙ ap (λ k. delivery_after k task) (retired_number s steps.gone steps.forgotten steps.settled steps.between steps.retires);
        serve = n.serve ∙ ap (λ k. serve_after k task) (retired_serve s steps.gone steps.forgotten steps.settled steps.between steps.retires);
      }

-- ---- over a history

-- whether the entry is this delivery, and how often it came
abbrev is_delivery : {D : Type 0} → ℕ → Entry D → Bool
is_delivery d (Stepped task outs) = delivers_it d task
is_delivery d entry = false

abbrev pub delivered_count : {D : Type 0} → ℕ → List (Entry D) → ℕ
delivered_count d h = count_by (is_delivery d) h

counts_push : {D : Type 0} (d : ℕ) (h : List (Entry D)) (e : Entry D) → delivered_count d (h ++ e ∷ []) ≡ delivered_count d h + cond (is_delivery d e) 1 0
counts_push d h e = sum_by_push (λ entry. cond (is_delivery d entry) 1 0) h e

is_delivery_it : {D : Type 0} (d : ℕ) (e : Entry D) → Delivers d e → is_delivery d e ≡ true
is_delivery_it d (Stepped (tasks.Deliver k key bytes) outs) is = eq-eqb k d is
is_delivery_it d e is = absurd is

pub delivered_counted_once : {D : Type 0} (h : List (Entry D)) (d : ℕ) → WasDelivered h d → 1 ≤ delivered_count d h
delivered_counted_once {D} h d o =
    let count = λ (e : Entry D). cond {A = ℕ} (is_delivery d e) 1 0 in
    let parts = sum_by-append count o.before (o.entry ∷ o.after) in
    let more = sum_by-cons count o.entry o.after in
    let here = ap {B = ℕ} (λ b. cond b 1 0) (is_delivery_it d o.entry o.here) in
    let is = ap {B = ℕ} (λ w. sum_by count w) o.place in
    omega arith

module _ {D : Type 0} where
  -- the next numbers are the least that are above all that came
  pub record IsNumbered (h : List (Entry D)) (s : State D) : Type 0 where
    pub delivered : (d : ℕ) → WasDelivered h d → d < s.next_delivery
    pub delivery : (n : ℕ) → ((d : ℕ) → WasDelivered h d → d < n) → s.next_delivery ≤ n
    pub produced : (k : ℕ) → WasProduced h k → k < s.next_serve
    pub serve : (n : ℕ) → ((k : ℕ) → WasProduced h k → k < n) → s.next_serve ≤ n

  -- as many answers were put out as deliveries came, less those that stand
  pub record IsAnswered (h : List (Entry D)) (s : State D) : Type 0 where
    pub counted : IsCounted s
    pub even : (d : ℕ) → count_outs (is_answer_to d) h + cond (stands s d) 1 0 ≡ delivered_count d h
    pub new : (d : ℕ) → s.next_delivery ≤ d → delivered_count d h ≡ 0
    pub few : (d : ℕ) → delivered_count d h ≤ 1

  -- an entry that delivers and produces nothing
  idle_numbered : (h : List (Entry D)) (s next : State D) (e : Entry D) → next.next_delivery ≡ s.next_delivery → next.next_serve ≡ s.next_serve → ((d : ℕ) → Delivers d e → ⊥) → ((n : ℕ) → Produces n e → ⊥) → IsNumbered h s → IsNumbered (h ++ e ∷ []) next
  idle_numbered h s next e same_delivery same_serve undelivered unproduced here = record {
    delivered = λ d was. subst (λ n. d < n) (sym same_delivery) (here.delivered d (old d (once_split h e (λ before entry. Delivers d entry) was)));
    delivery = λ n all. subst (λ k. k ≤ n) (sym same_delivery) (here.delivery n (λ d was. all d (once_before h e (λ before entry. Delivers d entry) was)));
    produced = λ k was. subst (λ n. k < n) (sym same_serve) (here.produced k (old_serve k (once_split h e (λ before entry. Produces k entry) was)));
    serve = λ n all. subst (λ k. k ≤ n) (sym same_serve) (here.serve n (λ k was. all k (once_before h e (λ before entry. Produces k entry) was)));
  }
    where
      old : (d : ℕ) → WasDelivered h d ⊎ Delivers d e → WasDelivered h d
      old d (inl was) = was
      old d (inr now) = absurd (undelivered d now)

      old_serve : (k : ℕ) → WasProduced h k ⊎ Produces k e → WasProduced h k
      old_serve k (inl was) = was
      old_serve k (inr now) = absurd (unproduced k now)

  delivers_numbered : (h : List (Entry D)) (s next : State D) (d : ℕ) (key : Request) (bytes : List ℕ) (outs : List ActorOut) → s.next_delivery ≤ d → next.next_delivery ≡ d + 1 → next.next_serve ≡ s.next_serve → IsNumbered h s → IsNumbered (h ++ Stepped (tasks.Deliver d key bytes) outs ∷ []) next
  delivers_numbered h s next d key bytes outs up number same_serve here = record {
    delivered = λ e was. below e (once_split h (Stepped (tasks.Deliver d key bytes) outs) (λ before entry. Delivers e entry) was);
    delivery = λ n all. let lt = all d (once_here h (Stepped (tasks.Deliver d key bytes) outs) (λ before entry. Delivers d entry) refl) in omega arith;
    produced = λ k was. subst (λ n. k < n) (sym same_serve) (here.produced k (old_serve k (once_split h (Stepped (tasks.Deliver d key bytes) outs) (λ before entry. Produces k entry) was)));
    serve = λ n all. subst (λ k. k ≤ n) (sym same_serve) (here.serve n (λ k was. all k (once_before h (Stepped (tasks.Deliver d key bytes) outs) (λ before entry. Produces k entry) was)));
  }
    where
      below : (e : ℕ) → WasDelivered h e ⊎ (d ≡ e) → e < next.next_delivery
      below e (inl was) = let lt = here.delivered e was in omega arith
      below e (inr now) = omega arith

      old_serve : (k : ℕ) → WasProduced h k ⊎ ⊥ → WasProduced h k
      old_serve k (inl was) = was
      old_serve k (inr never) = absurd never

  produces_numbered : (h : List (Entry D)) (s next : State D) (n : ℕ) (key : Request) (outs : List ActorOut) → s.next_serve ≤ n → next.next_serve ≡ n + 1 → next.next_delivery ≡ s.next_delivery → IsNumbered h s → IsNumbered (h ++ Stepped (tasks.Produce n key) outs ∷ []) next
  produces_numbered h s next n key outs up number same_delivery here = record {
    delivered = λ d was. subst (λ k. d < k) (sym same_delivery) (here.delivered d (old d (once_split h (Stepped (tasks.Produce n key) outs) (λ before entry. Delivers d entry) was)));
    delivery = λ k all. subst (λ j. j ≤ k) (sym same_delivery) (here.delivery k (λ d was. all d (once_before h (Stepped (tasks.Produce n key) outs) (λ before entry. Delivers d entry) was)));
    produced = λ k was. below k (once_split h (Stepped (tasks.Produce n key) outs) (λ before entry. Produces k entry) was);
    serve = λ k all. let lt = all n (once_here h (Stepped (tasks.Produce n key) outs) (λ before entry. Produces n entry) refl) in omega arith;
  }
    where
      below : (k : ℕ) → WasProduced h k ⊎ (n ≡ k) → k < next.next_serve
      below k (inl was) = let lt = here.produced k was in omega arith
      below k (inr now) = omega arith

      old : (d : ℕ) → WasDelivered h d ⊎ ⊥ → WasDelivered h d
      old d (inl was) = was
      old d (inr never) = absurd never

module _ {D Op : Type 0} (u : Setup D Op) where
  stepped_numbered : (h : List (Entry D)) (s : State D) (m : Inbox D Op) (event : ActorEvent) (task : Task D) (outs : List ActorOut) (next : State D) (left : Inbox D Op) → may_come s m event ≡ true → Numbers s task next → Takes m left event task → IsNumbered h s → IsNumbered (h ++ Stepped task outs ∷ []) next
  stepped_numbered h s m event task outs next left comes n (Takes.hears {message = message} handed) here = idle_numbered h s next (Stepped task outs) n.delivery n.serve (λ d never. never) (λ k never. never) here
  stepped_numbered h s m event task outs next left comes n (Takes.delivers {d = d} {key = key} {bytes = bytes}) here = delivers_numbered h s next d key bytes outs (leb-true s.next_delivery d comes) n.delivery n.serve here
  stepped_numbered h s m event task outs next left comes n Takes.judges here = idle_numbered h s next (Stepped task outs) n.delivery n.serve (λ d never. never) (λ k never. never) here
  stepped_numbered h s m event task outs next left comes n Takes.leaves here = idle_numbered h s next (Stepped task outs) n.delivery n.serve (λ d never. never) (λ k never. never) here
  stepped_numbered h s m event task outs next left comes n (Takes.produces {n = k} {key = key}) here = produces_numbered h s next k key outs (leb-true s.next_serve k comes) n.serve n.delivery here

  pub turn_numbered : (h : List (Entry D)) (s : State D) (m : Inbox D Op) (e : Entry D) (next : State D) (left : Inbox D Op) → Turns u s m e next left → IsNumbered h s → IsNumbered (h ++ e ∷ []) next
  turn_numbered h s m e next left (Turns.asks asks) here = idle_numbered h s s e refl refl (λ d never. never) (λ k never. never) here
  turn_numbered h s m e next left (Turns.attaches sent_db) here = idle_numbered h s s e refl refl (λ d never. never) (λ k never. never) here
  turn_numbered h s m e next left Turns.cancels here = idle_numbered h s s e refl refl (λ d never. never) (λ k never. never) here
  turn_numbered h s m e next left Turns.polls here = idle_numbered h s s e refl refl (λ d never. never) (λ k never. never) here
  turn_numbered h s m e next left (Turns.steps {event = event} {task = task} {outs = outs} comes takes steps) here =
      stepped_numbered h s m event task outs next left comes (step_numbers u s m event task outs next left steps takes) takes here

  -- an event's deliveries are new
  pub new_delivery : (s between : State D) (m : Inbox D Op) (event : ActorEvent) → between.next_delivery ≡ s.next_delivery → may_come s m event ≡ true → (d : ℕ) (key : Request) (bytes : List ℕ) → event ≡ events.Deliver d key bytes → between.next_delivery ≤ d
  new_delivery s between m event same comes d key bytes is = subst (λ n. n ≤ d) (sym same) (leb-true s.next_delivery d (subst (λ e. may_come s m e ≡ true) is comes))

  idle_answered : (h : List (Entry D)) (s : State D) (e : Entry D) → ((d : ℕ) → count_by (is_answer_to d) (outs_of e) ≡ 0) → ((d : ℕ) → is_delivery d e ≡ false) → IsAnswered h s → IsAnswered (h ++ e ∷ []) s
  idle_answered h s e silent undelivered here = record {
    counted = here.counted;
    even = λ d. let a = count_push (is_answer_to d) h e in let b = counts_push d h e in let c = silent d in let f = ap {B = ℕ} (λ b. cond b 1 0) (undelivered d) in let g = here.even d in omega arith;
    new = λ d up. let b = counts_push d h e in let f = ap {B = ℕ} (λ b. cond b 1 0) (undelivered d) in let g = here.new d up in omega arith;
    few = λ d. let b = counts_push d h e in let f = ap {B = ℕ} (λ b. cond b 1 0) (undelivered d) in let g = here.few d in omega arith;
  }

  -- the number of a delivery that comes is at least the least new one
  pub delivers_up : (s : State D) (m left : Inbox D Op) (event : ActorEvent) (task : Task D) → may_come s m event ≡ true → Takes m left event task → (d : ℕ) → delivers_it d task ≡ true → s.next_delivery ≤ d
  delivers_up s m left event task comes (Takes.hears handed) d is = absurd cc
  delivers_up s m left event task comes (Takes.delivers {d = k}) d is = let a = leb-true s.next_delivery k comes in let b = eqb-true k d is in omega arith
  delivers_up s m left event task comes Takes.judges d is = absurd cc
  delivers_up s m left event task comes Takes.leaves d is = absurd cc
  delivers_up s m left event task comes Takes.produces d is = absurd cc

  -- a number that is new behind an event was new before, and isn't the event's
  pub number_down : (n d : ℕ) (task : Task D) → ((d : ℕ) → delivers_it d task ≡ true → n ≤ d) → delivery_after n task ≤ d → (n ≤ d) × (delivers_it d task ≡ false)
  number_down n d (tasks.Hear message) up le = (le, refl)
  number_down n d (tasks.Deliver k key bytes) up le = (let a = up k (eq-eqb k k refl) in omega arith, apart (k == d) refl)
    where
      apart : (b : Bool) → (k == d) ≡ b → b ≡ false
      apart true same = absurd (let e = eqb-true k d same in omega arith)
      apart false other = refl
  number_down n d (tasks.Judge t valid) up le = (le, refl)
  number_down n d (tasks.Leave t) up le = (le, refl)
  number_down n d (tasks.Produce k key) up le = (le, refl)

  -- the least new number of a delivery never falls
  pub number_up : (n : ℕ) (task : Task D) → ((d : ℕ) → delivers_it d task ≡ true → n ≤ d) → n ≤ delivery_after n task
  number_up n (tasks.Hear message) up = omega arith
  number_up n (tasks.Deliver k key bytes) up = let a = up k (eq-eqb k k refl) in omega arith
  number_up n (tasks.Judge t valid) up = omega arith
  number_up n (tasks.Leave t) up = omega arith
  number_up n (tasks.Produce k key) up = omega arith

  stepped_answered : (h : List (Entry D)) (s : State D) (m : Inbox D Op) (event : ActorEvent) (task : Task D) (outs : List ActorOut) (next : State D) (left : Inbox D Op) → may_come s m event ≡ true → Takes m left event task → Steps u s m event outs next left → IsAnswered h s → IsAnswered (h ++ Stepped task outs ∷ []) next
  stepped_answered h s m event task outs next left comes takes steps here = record {
    counted = own.0;
    even = even;
    new = λ d up. let down = number_down s.next_delivery d task (delivers_up s m left event task comes takes) (subst (λ n. n ≤ d) numbers.delivery up) in
        let b = counts_push d h (Stepped task outs) in let f = ap {B = ℕ} (λ b. cond b 1 0) down.1 in let g = here.new d down.0 in omega arith;
    few = λ d. few d (delivers_it d task) refl;
  }
    where
      numbers : Numbers s task next
      numbers = step_numbers u s m event task outs next left steps takes

      own : IsCounted next × ((e : ℕ) → count_by (is_answer_to e) steps.done + cond (stands next e) 1 0 ≡ cond (delivers_it e task) 1 0 + cond (stands steps.between e) 1 0)
      own = done_counted u steps.between (record m { cancelled = [] }) event task steps.done next left (retired_counted s steps.gone steps.forgotten steps.settled steps.between here.counted steps.retires)
          (new_delivery s steps.between m event (retired_number s steps.gone steps.forgotten steps.settled steps.between steps.retires) comes) steps.does (same_takes m left event task takes)

      even : (d : ℕ) → count_outs (is_answer_to d) (h ++ Stepped task outs ∷ []) + cond (stands next d) 1 0 ≡ delivered_count d (h ++ Stepped task outs ∷ [])
      even d =
          let a = count_push (is_answer_to d) h (Stepped task outs) in
          let b = counts_push d h (Stepped task outs) in
          let c = ap (count_by (is_answer_to d)) steps.outs_are ∙ count_append (is_answer_to d) (steps.forgotten ++ steps.settled) steps.done in
          let c' = count_append (is_answer_to d) steps.forgotten steps.settled in
          let f = retired_forgets s steps.gone steps.forgotten steps.settled steps.between steps.retires d in
          let g = retired_answers s steps.gone steps.forgotten steps.settled steps.between steps.retires d in
          let o = own.1 d in
          let e = here.even d in
          omega arith

      few : (d : ℕ) (b : Bool) → delivers_it d task ≡ b → delivered_count d (h ++ Stepped task outs ∷ []) ≤ 1
      few d true is = let b = counts_push d h (Stepped task outs) in let f = ap {B = ℕ} (λ b. cond b 1 0) is in let g = here.new d (delivers_up s m left event task comes takes d is) in omega arith
      few d false is = let b = counts_push d h (Stepped task outs) in let f = ap {B = ℕ} (λ b. cond b 1 0) is in let g = here.few d in omega arith

  pub turn_answered : (h : List (Entry D)) (s : State D) (m : Inbox D Op) (e : Entry D) (next : State D) (left : Inbox D Op) → Turns u s m e next left → IsAnswered h s → IsAnswered (h ++ e ∷ []) next
  turn_answered h s m e next left (Turns.asks asks) here = idle_answered h s e (λ d. refl) (λ d. refl) here
  turn_answered h s m e next left (Turns.attaches sent_db) here = idle_answered h s e (λ d. refl) (λ d. refl) here
  turn_answered h s m e next left Turns.cancels here = idle_answered h s e (λ d. refl) (λ d. refl) here
  turn_answered h s m e next left Turns.polls here = idle_answered h s e (λ d. refl) (λ d. refl) here
  turn_answered h s m e next left (Turns.steps {event = event} {task = task} {outs = outs} comes takes steps) here = stepped_answered h s m event task outs next left comes takes steps here
