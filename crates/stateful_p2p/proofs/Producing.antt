-- That peers are sent what the database that is served answers, once each.
use Rattle.std.proofs.Common.{◌≡◌, ℕ, ◌+◌, ◌≤◌, ◌==◌, Bool, true, false, cond, Option, Some, None, List, [], ◌∷◌, ◌++◌, Contains, count_by, refl, sym, ap, subst, ◌∙◌, arith}
use Rattle.std.specs.Int.NonZero.{non_zero_u64_get}
use Rattle.std.proofs.lemmas.Bool.{eqb-true, eq-eqb, leb-true, ltb-true, ltb-false}
use Rattle.std.proofs.lemmas.List.Elements.{Contains-append_right}
use Rattle.stateful_base.specs.Format.{Format}
use Rattle.stateful_types.specs.Response.{response_format}
use Rattle.stateful_types.specs.declared.request.Request.{Request}
use Rattle.stateful_types.specs.declared.request.Request.TheVariants as requests
use Rattle.stateful_p2p.specs.Inbox.{Inbox}
use Rattle.stateful_p2p_tables.specs.Deliveries.{Releases, has_none, releases, Forgets, stranger, forgets, Retires, nobody, unfetched, fetched}
use Rattle.stateful_p2p.specs.Fanout as fanout
use Rattle.stateful_p2p.specs.Resolving.{Setup, asks_too_many, may_come, Hears, Judges, Leaves, Produces, Answers, sent, Does, Steps}
use Rattle.stateful_p2p.specs.Resolving as resolving
use Rattle.stateful_p2p.specs.History.{Entry, Stepped, outs_of, count_outs, Takes, Turns}
use Rattle.stateful_p2p.specs.Laws.{AsksTooMuch, Gives, Sent, Serves, IsOfDatabase, is_served}
use Rattle.stateful_p2p_tables.specs.declared.state.State.{State}
use Rattle.stateful_p2p.specs.declared.message.Message.{Message}
use Rattle.stateful_p2p.specs.declared.actor.Task.{Task}
use Rattle.stateful_p2p.specs.declared.actor.Task.TheVariants as tasks
use Rattle.stateful_p2p.specs.declared.event.ActorEvent.{ActorEvent}
use Rattle.stateful_p2p_tables.specs.declared.out.ActorOut.{ActorOut}
use Rattle.stateful_p2p_tables.specs.declared.out.ActorOut.TheVariants.{Fetch, Served, Unserved}
use Rattle.stateful_p2p.proofs.Histories.{count_push}
use Rattle.stateful_p2p.proofs.Moving.{count_append, count_cons}
use Rattle.stateful_p2p.proofs.Putting.{count_zero, all_retired, all_judged, all_left, all_delivered}
use Rattle.stateful_p2p.proofs.Placing.{same_message, same_takes}
use Rattle.stateful_p2p.proofs.Numbering.{step_numbers, serve_after}

-- ---- the database

module _ {D : Type 0} where
  released_database : (s : State D) (t : ℕ) (verdict : Option Bool) (settled : Option ActorOut) (next : State D) → Releases s t verdict settled next → next.database ≡ s.database
  released_database s t verdict settled next (has_none none) = refl
  released_database s t verdict settled next (releases here there) = refl

  forgot_database : (s : State D) (t : ℕ) (one : Option (Option ActorOut)) (next : State D) → Forgets s t one next → next.database ≡ s.database
  forgot_database s t one next (stranger none) = refl
  forgot_database s t one next (forgets {settled = settled} some rel) = released_database (record s { subscriptions = _ }) t None settled next rel

  retired_database : (s : State D) (ts : List ℕ) (f o : List ActorOut) (last : State D) → Retires s ts f o last → last.database ≡ s.database
  retired_database s ts f o last nobody = refl
  retired_database s ts f o last (unfetched {t = t} {ts = us} {next = next} one rest) = retired_database next us f o last rest ∙ forgot_database s t None next one
  retired_database s ts f o last (fetched {t = t} {ts = us} {one = x} {forgotten = g} {settled = p} {next = next} one rest) = retired_database next us g p last rest ∙ forgot_database s t (Some x) next one

module _ {D Op : Type 0} where
  judged_database : (s : State D) (m : Inbox D Op) (t : ℕ) (valid : Bool) (done : List ActorOut) (next : State D) (left : Inbox D Op) → Judges s m t valid done next left → next.database ≡ s.database
  judged_database s m t valid done next left (resolving.accepts {settled = settled} {next = mid} rel) = released_database s t (Some true) settled mid rel
  judged_database s m t valid done next left (resolving.rejects {settled = settled} rel) = released_database s t (Some false) settled next rel

  left_database : (s : State D) (m : Inbox D Op) (t : ℕ) (done : List ActorOut) (next : State D) (left : Inbox D Op) → Leaves s m t done next left → next.database ≡ s.database
  left_database s m t done next left (Leaves.leaves {settled = settled} f) = forgot_database s t (Some settled) next f
  left_database s m t done next left (resolving.leaves_unfetched f) = forgot_database s t None next f

  delivered_database : (operations : Format Op) (s : State D) (m : Inbox D Op) (d : ℕ) (key : Request) (bytes : List ℕ) (done : List ActorOut) (next : State D) (left : Inbox D Op) → fanout.Delivers operations s m d key bytes done next left → next.database ≡ s.database
  delivered_database operations s m d key bytes done next left (fanout.unheard x) = refl
  delivered_database operations s m d key bytes done next left (fanout.malformed x y) = refl
  delivered_database operations s m d key bytes done next left (fanout.untaken x y) = refl
  delivered_database operations s m d key bytes done next left (fanout.taken x y z) = refl

-- whether more is asked for than is served
too_much : (most : ℕ) (key : Request) → asks_too_many most key ≡ true → AsksTooMuch most key
too_much most (requests.Operations size start max_ops) is = ltb-true most (non_zero_u64_get max_ops) is
too_much most (requests.Boundary size start) is = absurd cc

not_too_much : (most : ℕ) (key : Request) → asks_too_many most key ≡ false → AsksTooMuch most key → ⊥
not_too_much most (requests.Operations size start max_ops) is more = let few = ltb-false most (non_zero_u64_get max_ops) is in let never : ⊥ = omega arith in never
not_too_much most (requests.Boundary size start) is more = more

module _ {D Op : Type 0} (u : Setup D Op) where
  -- what is sent, by whether a database is attached
  gives_by : (key : Request) (attached : Option D) (bytes : Option (List ℕ)) (next : Option D) → Answers u attached key bytes next → Gives u key attached bytes next
  gives_by key attached bytes next (resolving.unattached none) = subst (λ w. Gives u key w None w) (sym none) Gives.none_attached
  gives_by key attached bytes next (resolving.too_many {db = db} is many) = subst (λ w. Gives u key w None w) (sym is) (Gives.too_much (too_much u.max_serve_ops key many))
  gives_by key attached bytes next (resolving.unserved {db = db} {next = after} {fault = fault} is few serves why) = subst (λ w. Gives u key w None (Some after)) (sym is) (Gives.not_served {db = db} (not_too_much u.max_serve_ops key few) serves why)
  gives_by key attached bytes next (resolving.served {db = db} {next = after} {response = response} is few serves fits) =
      subst (λ w. Gives u key w (Some ((response_format u.operations).spelling response)) (Some after)) (sym is) (Gives.gives {db = db} {response = response} (not_too_much u.max_serve_ops key few) serves fits)

  sent_out : (n : ℕ) (bytes : Option (List ℕ)) (outs : List ActorOut) → Contains outs (sent u n bytes) → Sent u n bytes outs
  sent_out n None outs there = there
  sent_out n (Some bytes) outs there = there

module _ {D Op : Type 0} (u : Setup D Op) (h : List (Entry D)) where
  -- an entry that serves nothing else
  passes_by : (e : Entry D) (served next : Option D) → next ≡ served → (IsOfDatabase e → ⊥) → Serves u h served → Serves u (h ++ e ∷ []) next
  passes_by e served next same other here = subst (Serves u (h ++ e ∷ [])) (sym same) (Serves.passed e here other)

  heard_serves : (s : State D) (m : Inbox D Op) (message : Message D) (done outs : List ActorOut) (next : State D) → Hears s m message done next → Serves u h s.database → Serves u (h ++ Stepped (tasks.Hear message) outs ∷ []) next.database
  heard_serves s m message done outs next (resolving.attaches {db = db}) here = Serves.attached db outs here
  heard_serves s m message done outs next (resolving.fetches live) here = Serves.passed (Stepped (tasks.Hear message) outs) here (λ never. never)
  heard_serves s m message done outs next (resolving.passes_over dead) here = Serves.passed (Stepped (tasks.Hear message) outs) here (λ never. never)

  done_serves : (s : State D) (m : Inbox D Op) (event : ActorEvent) (task : Task D) (done outs : List ActorOut) (next : State D) (left : Inbox D Op) → ((x : ActorOut) → Contains done x → Contains outs x) → Does u s m event done next left → Takes m left event task → Serves u h s.database
      → Serves u (h ++ Stepped task outs ∷ []) next.database
  done_serves s m event task done outs next left within (Does.hears {message = message} hands are p) (Takes.hears {message = other} handed) here =
      subst (λ w. Serves u (h ++ Stepped (tasks.Hear w) outs ∷ []) next.database) (same_message m.queue left.queue message other hands handed) (heard_serves s m message done outs next p here)
  done_serves s m event task done outs next left within (Does.delivers {d = d} {key = key} {bytes = bytes} p) Takes.delivers here =
      passes_by (Stepped (tasks.Deliver d key bytes) outs) s.database next.database (delivered_database u.operations s m d key bytes done next left p) (λ never. never) here
  done_serves s m event task done outs next left within (Does.judges {t = t} {valid = valid} p) Takes.judges here = passes_by (Stepped (tasks.Judge t valid) outs) s.database next.database (judged_database s m t valid done next left p) (λ never. never) here
  done_serves s m event task done outs next left within (Does.leaves {t = t} p) Takes.leaves here = passes_by (Stepped (tasks.Leave t) outs) s.database next.database (left_database s m t done next left p) (λ never. never) here
  done_serves s m event task done outs next left within (Does.produces {n = n} {key = key} p) Takes.produces here =
      Serves.answered n key p.bytes outs here (gives_by u key s.database p.bytes next.database p.answers) (sent_out u n p.bytes outs (within (sent u n p.bytes) (subst (λ w. Contains w (sent u n p.bytes)) (sym p.outs_are) (0, omega arith, refl))))

module _ {D Op : Type 0} (u : Setup D Op) where
  pub turn_serves : (h : List (Entry D)) (s : State D) (m : Inbox D Op) (e : Entry D) (next : State D) (left : Inbox D Op) → Turns u s m e next left → Serves u h s.database → Serves u (h ++ e ∷ []) next.database
  turn_serves h s m e next left (Turns.asks asks) here = Serves.passed e here (λ never. never)
  turn_serves h s m e next left (Turns.attaches sent_db) here = Serves.passed e here (λ never. never)
  turn_serves h s m e next left Turns.cancels here = Serves.passed e here (λ never. never)
  turn_serves h s m e next left Turns.polls here = Serves.passed e here (λ never. never)
  turn_serves h s m e next left (Turns.steps {event = event} {task = task} {outs = outs} comes takes steps) here =
      done_serves u h steps.between (record m { cancelled = [] }) event task steps.done outs next left (λ x there. subst (λ w. Contains w x) (sym steps.outs_are) (Contains-append_right (steps.forgotten ++ steps.settled) steps.done x there)) steps.does (same_takes m left event task takes)
      (subst (Serves u h) (sym (retired_database s steps.gone steps.forgotten steps.settled steps.between steps.retires)) here)

-- ---- each production is answered once

-- whether the event is this production
abbrev produces_it : {D : Type 0} → ℕ → Task D → Bool
produces_it n (tasks.Produce k key) = k == n
produces_it n task = false

module _ {D : Type 0} where
  -- no number that is yet to come was answered, and none twice
  pub record IsServed (h : List (Entry D)) (s : State D) : Type 0 where
    pub new : (n : ℕ) → s.next_serve ≤ n → count_outs (is_served n) h ≡ 0
    pub few : (n : ℕ) → count_outs (is_served n) h ≤ 1

module _ {D Op : Type 0} (u : Setup D Op) where
  heard_served : (s : State D) (m : Inbox D Op) (message : Message D) (done : List ActorOut) (next : State D) → Hears s m message done next → (n : ℕ) → count_by (is_served n) done ≡ 0
  heard_served s m message done next resolving.attaches n = refl
  heard_served s m message done next (resolving.fetches {t = t} {key = key} live) n = count_cons (is_served n) (Fetch t key) [] ∙ omega arith
  heard_served s m message done next (resolving.passes_over dead) n = refl

  sent_served : (k n : ℕ) (bytes : Option (List ℕ)) → count_by (is_served n) (sent u k bytes ∷ []) ≡ cond (k == n) 1 0
  sent_served k n None = count_cons (is_served n) (Unserved k) [] ∙ omega arith
  sent_served k n (Some bytes) = count_cons (is_served n) (Served k bytes) [] ∙ omega arith

  done_served : (s : State D) (m : Inbox D Op) (event : ActorEvent) (task : Task D) (done : List ActorOut) (next : State D) (left : Inbox D Op) → Does u s m event done next left → Takes m left event task → (n : ℕ) → count_by (is_served n) done ≡ cond (produces_it n task) 1 0
  done_served s m event task done next left (Does.hears {message = message} hands are p) (Takes.hears handed) n = heard_served s m message done next p n
  done_served s m event task done next left (Does.delivers {d = d} {key = key} {bytes = bytes} p) Takes.delivers n = count_zero (is_served n) done (all_delivered (λ y. is_served n y ≡ false) (λ t. refl) (λ d v. refl) (λ d. refl) u.operations s m d key bytes done next left p)
  done_served s m event task done next left (Does.judges {t = t} {valid = valid} p) Takes.judges n = count_zero (is_served n) done (all_judged (λ y. is_served n y ≡ false) (λ t. refl) (λ d v. refl) (λ d. refl) s m t valid done next left p)
  done_served s m event task done next left (Does.leaves {t = t} p) Takes.leaves n = count_zero (is_served n) done (all_left (λ y. is_served n y ≡ false) (λ t. refl) (λ d v. refl) (λ d. refl) s m t done next left p)
  done_served s m event task done next left (Does.produces {n = k} p) Takes.produces n = ap (count_by (is_served n)) p.outs_are ∙ sent_served k n p.bytes

  produces_up : (s : State D) (m left : Inbox D Op) (event : ActorEvent) (task : Task D) → may_come s m event ≡ true → Takes m left event task → (n : ℕ) → produces_it n task ≡ true → s.next_serve ≤ n
  produces_up s m left event task comes (Takes.hears handed) n is = absurd cc
  produces_up s m left event task comes Takes.delivers n is = absurd cc
  produces_up s m left event task comes Takes.judges n is = absurd cc
  produces_up s m left event task comes Takes.leaves n is = absurd cc
  produces_up s m left event task comes (Takes.produces {n = k}) n is = let a = leb-true s.next_serve k comes in let b = eqb-true k n is in omega arith

  serve_down : (k n : ℕ) (task : Task D) → ((n : ℕ) → produces_it n task ≡ true → k ≤ n) → serve_after k task ≤ n → (k ≤ n) × (produces_it n task ≡ false)
  serve_down k n (tasks.Hear message) up le = (le, refl)
  serve_down k n (tasks.Deliver d key bytes) up le = (le, refl)
  serve_down k n (tasks.Judge t valid) up le = (le, refl)
  serve_down k n (tasks.Leave t) up le = (le, refl)
  serve_down k n (tasks.Produce j key) up le = (let a = up j (eq-eqb j j refl) in omega arith, apart (j == n) refl)
    where
      apart : (b : Bool) → (j == n) ≡ b → b ≡ false
      apart true same = absurd (let e = eqb-true j n same in omega arith)
      apart false other = refl

  stepped_served : (h : List (Entry D)) (s : State D) (m : Inbox D Op) (event : ActorEvent) (task : Task D) (outs : List ActorOut) (next : State D) (left : Inbox D Op) → may_come s m event ≡ true → Takes m left event task → Steps u s m event outs next left → IsServed h s → IsServed (h ++ Stepped task outs ∷ []) next
  stepped_served h s m event task outs next left comes takes steps here = record {
    new = λ n up. let down = serve_down s.next_serve n task (produces_up s m left event task comes takes) (subst (λ k. k ≤ n) (step_numbers u s m event task outs next left steps takes).serve up) in
        let a = more n in let z = here.new n down.0 in let f = ap {B = ℕ} (λ b. cond b 1 0) down.1 in omega arith;
    few = λ n. few n (produces_it n task) refl;
  }
    where
      more : (n : ℕ) → count_outs (is_served n) (h ++ Stepped task outs ∷ []) ≡ count_outs (is_served n) h + cond (produces_it n task) 1 0
      more n =
          let a = count_push (is_served n) h (Stepped task outs) in
          let c = ap (count_by (is_served n)) steps.outs_are ∙ count_append (is_served n) (steps.forgotten ++ steps.settled) steps.done in
          let c' = count_append (is_served n) steps.forgotten steps.settled in
          let p = all_retired (λ y. is_served n y ≡ false) (λ d v. refl) (λ d. refl) (λ t. refl) s steps.gone steps.forgotten steps.settled steps.between steps.retires in
          let f = count_zero (is_served n) steps.forgotten p.0 in
          let o = count_zero (is_served n) steps.settled p.1 in
          let d = done_served steps.between (record m { cancelled = [] }) event task steps.done next left steps.does (same_takes m left event task takes) n in
          omega arith

      few : (n : ℕ) (b : Bool) → produces_it n task ≡ b → count_outs (is_served n) (h ++ Stepped task outs ∷ []) ≤ 1
      few n true is = let a = more n in let f = ap {B = ℕ} (λ b. cond b 1 0) is in let z = here.new n (produces_up s m left event task comes takes n is) in omega arith
      few n false is = let a = more n in let f = ap {B = ℕ} (λ b. cond b 1 0) is in let z = here.few n in omega arith

  idle_served : (h : List (Entry D)) (s : State D) (e : Entry D) → ((n : ℕ) → count_by (is_served n) (outs_of e) ≡ 0) → IsServed h s → IsServed (h ++ e ∷ []) s
  idle_served h s e silent here = record {
    new = λ n up. let a = count_push (is_served n) h e in let z = silent n in let f = here.new n up in omega arith;
    few = λ n. let a = count_push (is_served n) h e in let z = silent n in let f = here.few n in omega arith;
  }

  pub turn_served : (h : List (Entry D)) (s : State D) (m : Inbox D Op) (e : Entry D) (next : State D) (left : Inbox D Op) → Turns u s m e next left → IsServed h s → IsServed (h ++ e ∷ []) next
  turn_served h s m e next left (Turns.asks asks) here = idle_served h s e (λ n. refl) here
  turn_served h s m e next left (Turns.attaches sent_db) here = idle_served h s e (λ n. refl) here
  turn_served h s m e next left Turns.cancels here = idle_served h s e (λ n. refl) here
  turn_served h s m e next left Turns.polls here = idle_served h s e (λ n. refl) here
  turn_served h s m e next left (Turns.steps {event = event} {task = task} {outs = outs} comes takes steps) here = stepped_served h s m event task outs next left comes takes steps here
