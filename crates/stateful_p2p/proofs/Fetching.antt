-- That keys are fetched for live tickets, where their requests are taken, once, and that no live ticket is forgotten.
use Rattle.std.proofs.Common.{◌≡◌, ℕ, Bool, true, false, List, [], ◌++◌, All, Contains, ◌⊎◌, inl, inr, sym, subst, ◌∙◌, arith}
use Rattle.std.proofs.lemmas.List.Elements.{All-append, All-contains, Contains-append_cases, Contains-append_right}
use Rattle.stateful_types.specs.Mailbox.{messages}
use Rattle.stateful_types.specs.declared.request.Request.{Request}
use Rattle.stateful_p2p.specs.Tickets.{is_live}
use Rattle.stateful_p2p.specs.Inbox.{Inbox, empty_inbox}
use Rattle.stateful_p2p.specs.Resolving.{Setup, Hears, attaches, fetches, passes_over, Does, Steps}
use Rattle.stateful_p2p.specs.History.{Entry, Stepped, outs_of, Once, Always, Takes, Turns, Runs}
use Rattle.stateful_p2p.specs.Laws.{Draws, IsLive, IsTaken}
use Rattle.stateful_p2p_tables.specs.declared.state.State.{State}
use Rattle.stateful_p2p.specs.declared.message.Message.{Message}
use Rattle.stateful_p2p.specs.declared.message.Message.TheVariants.{AttachDatabase, GetOperations}
use Rattle.stateful_p2p.specs.declared.actor.Task.{Task}
use Rattle.stateful_p2p.specs.declared.actor.Task.TheVariants as tasks
use Rattle.stateful_p2p.specs.declared.event.ActorEvent.{ActorEvent}
use Rattle.stateful_p2p_tables.specs.declared.out.ActorOut.{ActorOut}
use Rattle.stateful_p2p_tables.specs.declared.out.ActorOut.TheVariants.{Fetch, Forget, Feedback, Unjudged}
use Rattle.stateful_p2p.proofs.Histories.{each}
use Rattle.stateful_p2p.proofs.Moving.{in_cons, in_none}
use Rattle.stateful_p2p.proofs.Putting.{all_retired, all_judged, all_left, all_delivered, all_produced}
use Rattle.stateful_p2p.proofs.Placing.{IsPlaced, placed, same_message, same_takes}

-- what is no fetch
abbrev pub IsOther : ActorOut → Type 0
IsOther (Fetch t key) = ⊥
IsOther out = Unit {0}

no_other : (done : List ActorOut) (t : ℕ) (key : Request) → All IsOther done → Contains done (Fetch t key) → ⊥
no_other done t key all there = All-contains IsOther done (Fetch t key) all there

same_fetch : (v x : ℕ) (k j : Request) → Fetch v k ≡ Fetch x j → (v ≡ x) × (k ≡ j)
same_fetch v x k j e = (cc, cc)

module _ {D Op : Type 0} where
  -- a message from which this fetch comes
  pub fetched_by : (s : State D) (m : Inbox D Op) (message : Message D) (done : List ActorOut) (next : State D) (outs : List ActorOut) → Hears s m message done next → (t : ℕ) (key : Request) → Contains done (Fetch t key)
      → IsTaken t key (Stepped (tasks.Hear message) outs) × (is_live m.tickets t ≡ true) × (message ≡ GetOperations t key)
  fetched_by s m message done next outs attaches t key there = absurd (in_none (Fetch t key) there)
  fetched_by s m message done next outs (fetches {t = v} {key = k} live) t key there = go (in_cons (Fetch v k) [] (Fetch t key) there)
    where
      go : (Fetch v k ≡ Fetch t key) ⊎ Contains [] (Fetch t key) → ((v ≡ t) × (k ≡ key)) × (is_live m.tickets t ≡ true) × (◌≡◌ {A = Message D} (GetOperations v k) (GetOperations t key))
      go (inl e) = let same = same_fetch v t k key e in (same, subst (λ w. is_live m.tickets w ≡ true) same.0 live, let v_is = same.0 in let k_is = same.1 in cc)
      go (inr c) = absurd (in_none (Fetch t key) c)
  fetched_by s m message done next outs (passes_over dead) t key there = absurd (in_none (Fetch t key) there)

  -- a message that asks for a live ticket
  pub fetches_it : (s : State D) (m : Inbox D Op) (message : Message D) (done : List ActorOut) (next : State D) → Hears s m message done next → (t : ℕ) (key : Request) → message ≡ GetOperations t key → is_live m.tickets t ≡ true
      → Contains done (Fetch t key)
  fetches_it s m message done next (attaches {db = db}) t key is live = absurd cc
  fetches_it s m message done next (fetches {t = v} {key = k} alive) t key is live = (0, omega arith, let e : Fetch v k ≡ Fetch t key = cc in e)
  fetches_it s m message done next (passes_over {t = v} {key = k} dead) t key is live =
      absurd (let same : v ≡ t = cc in let e = subst (λ w. is_live m.tickets w ≡ false) same dead in cc)

  pub taken_message : (m left : Inbox D Op) (t : ℕ) (key : Request) (other : Message D) (outs : List ActorOut) → IsTaken t key (Stepped (tasks.Hear other) outs) → other ≡ GetOperations t key
  taken_message m left t key (AttachDatabase db) outs is = absurd is
  taken_message m left t key (GetOperations v k) outs is = let a = is.0 in let b = is.1 in cc

module _ {D Op : Type 0} (u : Setup D Op) where
  -- of what an event puts out, a fetch is of the request that it took, whose ticket is live
  pub fetch_done : (s : State D) (m : Inbox D Op) (event : ActorEvent) (task : Task D) (done : List ActorOut) (next : State D) (left : Inbox D Op) (outs : List ActorOut) → Does u s m event done next left → Takes m left event task
      → (t : ℕ) (key : Request) → Contains done (Fetch t key) → IsTaken t key (Stepped task outs) × (is_live m.tickets t ≡ true) × Contains (messages m.queue) (GetOperations t key)
  fetch_done s m event task done next left outs (Does.hears {message = message} hands are h) (Takes.hears {message = other} handed) t key there =
      let by = fetched_by s m message done next outs h t key there in
      let same = same_message m.queue left.queue message other hands handed in (
        subst (λ w. IsTaken t key (Stepped (tasks.Hear w) outs)) same by.0,
        by.1,
        subst (λ w. Contains w (GetOperations t key)) (sym hands.front) (0, omega arith, by.2),
      )
  fetch_done s m event task done next left outs (Does.delivers {d = d} {key = k} {bytes = bytes} h) Takes.delivers t key there = absurd (no_other done t key (all_delivered IsOther (λ t. tt) (λ d v. tt) (λ d. tt) u.operations s m d k bytes done next left h) there)
  fetch_done s m event task done next left outs (Does.judges {t = v} {valid = valid} h) Takes.judges t key there = absurd (no_other done t key (all_judged IsOther (λ t. tt) (λ d v. tt) (λ d. tt) s m v valid done next left h) there)
  fetch_done s m event task done next left outs (Does.leaves {t = v} h) Takes.leaves t key there = absurd (no_other done t key (all_left IsOther (λ t. tt) (λ d v. tt) (λ d. tt) s m v done next left h) there)
  fetch_done s m event task done next left outs (Does.produces {n = n} {key = k} h) Takes.produces t key there = absurd (no_other done t key (all_produced IsOther {Op = Op} (λ n bytes. tt) (λ n. tt) u s n k done next h) there)

  taken_done : (s : State D) (m : Inbox D Op) (event : ActorEvent) (task : Task D) (done : List ActorOut) (next : State D) (left : Inbox D Op) (outs : List ActorOut) → Does u s m event done next left → Takes m left event task
      → (t : ℕ) (key : Request) → IsTaken t key (Stepped task outs) → is_live m.tickets t ≡ true → Contains done (Fetch t key)
  taken_done s m event task done next left outs (Does.hears {message = message} hands are h) (Takes.hears {message = other} handed) t key is live =
      fetches_it s m message done next h t key (same_message m.queue left.queue message other hands handed ∙ taken_message m left t key other outs is) live
  taken_done s m event task done next left outs (Does.delivers h) Takes.delivers t key is live = absurd is
  taken_done s m event task done next left outs (Does.judges h) Takes.judges t key is live = absurd is
  taken_done s m event task done next left outs (Does.leaves h) Takes.leaves t key is live = absurd is
  taken_done s m event task done next left outs (Does.produces h) Takes.produces t key is live = absurd is

  -- where it stands among all that the event puts out
  pub in_done : (s : State D) (m : Inbox D Op) (event : ActorEvent) (outs : List ActorOut) (next : State D) (left : Inbox D Op) (steps : Steps u s m event outs next left) (P : ActorOut → Type 0)
      → ((t : ℕ) → P (Forget t)) → ((d : ℕ) (v : Bool) → P (Feedback d v)) → ((d : ℕ) → P (Unjudged d))
      → (x : ActorOut) → (P x → ⊥) → Contains outs x → Contains steps.done x
  in_done s m event outs next left steps P forget feedback unjudged x other there = go (Contains-append_cases (steps.forgotten ++ steps.settled) steps.done x (subst (λ w. Contains w x) steps.outs_are there))
    where
      go : Contains (steps.forgotten ++ steps.settled) x ⊎ Contains steps.done x → Contains steps.done x
      go (inl c) =
          let all = all_retired P feedback unjudged forget s steps.gone steps.forgotten steps.settled steps.between steps.retires in
          absurd (other (All-contains P (steps.forgotten ++ steps.settled) x (All-append P steps.forgotten steps.settled all.0 all.1) c))
      go (inr c) = c

  fetch_law : (h : List (Entry D)) (s : State D) (m : Inbox D Op) (e : Entry D) (next : State D) (left : Inbox D Op) → Turns u s m e next left → IsPlaced h m
      → (t : ℕ) (key : Request) → Contains (outs_of e) (Fetch t key) → IsTaken t key e × IsLive h t × Once (λ earlier drawn. Draws t key drawn) h
  fetch_law h s m e next left (Turns.asks asks) here t key there = absurd (in_none (Fetch t key) there)
  fetch_law h s m e next left (Turns.attaches sent_db) here t key there = absurd (in_none (Fetch t key) there)
  fetch_law h s m e next left Turns.cancels here t key there = absurd (in_none (Fetch t key) there)
  fetch_law h s m e next left Turns.polls here t key there = absurd (in_none (Fetch t key) there)
  fetch_law h s m e next left (Turns.steps {event = event} {task = task} {outs = outs} comes takes steps) here t key there =
      let there' = in_done s m event outs next left steps IsOther (λ t. tt) (λ d v. tt) (λ d. tt) (Fetch t key) (λ never. never) there in
      let by = fetch_done steps.between (record m { cancelled = [] }) event task steps.done next left outs steps.does (same_takes m left event task takes) t key there' in
      (by.0, (here.live t).0 by.1, here.drawn t key by.2)

  taken_law : (h : List (Entry D)) (s : State D) (m : Inbox D Op) (e : Entry D) (next : State D) (left : Inbox D Op) → Turns u s m e next left → IsPlaced h m
      → (t : ℕ) (key : Request) → IsTaken t key e → IsLive h t → Contains (outs_of e) (Fetch t key)
  taken_law h s m e next left (Turns.asks asks) here t key is live = absurd is
  taken_law h s m e next left (Turns.attaches sent_db) here t key is live = absurd is
  taken_law h s m e next left Turns.cancels here t key is live = absurd is
  taken_law h s m e next left Turns.polls here t key is live = absurd is
  taken_law h s m e next left (Turns.steps {event = event} {task = task} {outs = outs} comes takes steps) here t key is live =
      let there = taken_done steps.between (record m { cancelled = [] }) event task steps.done next left outs steps.does (same_takes m left event task takes) t key is ((here.live t).1 live) in
      subst (λ w. Contains w (Fetch t key)) (sym steps.outs_are) (Contains-append_right (steps.forgotten ++ steps.settled) steps.done (Fetch t key) there)

  module _ {first : State D} (capacity : ℕ) where
    pub fetches_law : (h : List (Entry D)) (s : State D) (m : Inbox D Op) → Runs u first (empty_inbox capacity) h s m
        → Always (λ before e. (t : ℕ) (key : Request) → Contains (outs_of e) (Fetch t key) → IsTaken t key e × IsLive before t × Once (λ earlier drawn. Draws t key drawn) before) h
    fetches_law = each u (λ h s m. IsPlaced h m) (λ before e. (t : ℕ) (key : Request) → Contains (outs_of e) (Fetch t key) → IsTaken t key e × IsLive before t × Once (λ earlier drawn. Draws t key drawn) before)
        (placed u capacity) fetch_law

    pub takes_law : (h : List (Entry D)) (s : State D) (m : Inbox D Op) → Runs u first (empty_inbox capacity) h s m
        → Always (λ before e. (t : ℕ) (key : Request) → IsTaken t key e → IsLive before t → Contains (outs_of e) (Fetch t key)) h
    takes_law = each u (λ h s m. IsPlaced h m) (λ before e. (t : ℕ) (key : Request) → IsTaken t key e → IsLive before t → Contains (outs_of e) (Fetch t key)) (placed u capacity) taken_law
