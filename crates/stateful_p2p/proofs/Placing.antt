-- Where the requests of tickets are: on their way in the mailbox, or fetched.
use Rattle.std.proofs.Common.{◌≡◌, ℕ, ◌+◌, ◌≤◌, ◌==◌, ◌↔◌, Bool, true, false, cond, Option, Some, None, List, [], ◌∷◌, ◌++◌, map, filter, Contains, All, count_by, ◌⊎◌, inl, inr, refl, sym, ap, subst, ◌∙◌, arith}
use Rattle.std.specs.Prelude.{option_to_list}
use Rattle.std.proofs.lemmas.Bool.{eqb-true, eqb-false, eq-eqb}
use Rattle.std.proofs.lemmas.List.Elements.{All-cons, Contains-append_right, Contains-push_cases}
use Rattle.stateful_base.specs.Format.{Format}
use Rattle.stateful_types.specs.Mailbox.{Queues, messages, HandsOut}
use Rattle.stateful_types.specs.declared.request.Request.{Request}
use Rattle.stateful_types.specs.declared.mailbox.Feedback.{Feedback as Reply}
use Rattle.stateful_types.specs.declared.response.Response.{Response}
use Rattle.stateful_table.specs.Table.{at, put, without}
use Rattle.stateful_p2p.specs.Tickets.{is_live, is_dropped, ended}
use Rattle.stateful_p2p.specs.Messages.{is_not_of}
use Rattle.stateful_p2p.specs.Inbox.{Inbox, Asks, Attaches, let_go, cancelled, offered, offered_each, taken_out, empty_inbox}
use Rattle.stateful_p2p.specs.Fanout.{Delivers, unheard, malformed, untaken, taken}
use Rattle.stateful_p2p.specs.Resolving.{Setup, Hears, attaches, fetches, passes_over, Judges, accepts, rejects, Leaves, leaves_unfetched, sent, Does, Steps}
use Rattle.stateful_p2p.specs.History.{Entry, Asked, Stepped, outs_of, count_outs, Once, Since, Takes, Turns, Runs}
use Rattle.stateful_p2p.specs.Laws.{Draws, IsDrawn, Ends, IsLive, is_fetch_of, is_request_of, waiting}
use Rattle.stateful_p2p_tables.specs.declared.state.State.{State}
use Rattle.stateful_p2p.specs.declared.message.Message.{Message}
use Rattle.stateful_p2p.specs.declared.message.Message.TheVariants.{AttachDatabase, GetOperations}
use Rattle.stateful_p2p.specs.declared.tickets.Standing.TheVariants.{Open}
use Rattle.stateful_p2p.specs.declared.actor.Task.{Task}
use Rattle.stateful_p2p.specs.declared.actor.Task.TheVariants as tasks
use Rattle.stateful_p2p.specs.declared.event.ActorEvent.{ActorEvent}
use Rattle.stateful_p2p_tables.specs.declared.out.ActorOut.{ActorOut}
use Rattle.stateful_p2p_tables.specs.declared.out.ActorOut.TheVariants.{Fetch, Forget, Candidate, Feedback, Unjudged, Served, Unserved}
use Rattle.stateful_p2p.proofs.Histories.{kept, once_here, once_before, since_here, since_before, since_split, since_none, count_push}
use Rattle.stateful_p2p.proofs.Standing.{AreFresh, drawn_fresh, ended_fresh, answered_fresh}
use Rattle.stateful_p2p.proofs.Putting.{count_zero, all_one, all_released, all_forgot, all_retired}
use Rattle.stateful_p2p.proofs.Moving.{live_put, live_ended, live_answered, in_none, count_append, count_cons, sent_database, sent_request, sent_from, without_waiting, fewer_waiting, without_from}

-- the request that is taken
same_head : {D : Type 0} (x y : Message D) (rest : List (Message D)) → ◌≡◌ {A = List (Message D)} (x ∷ rest) (y ∷ rest) → x ≡ y
same_head x y rest e = cc

pub same_message : {D : Type 0} (q after : Queues (Message D)) (x y : Message D) → HandsOut q after (Some x) → HandsOut q after (Some y) → x ≡ y
same_message q after x y hands other = same_head x y (messages after) (sym hands.front ∙ other.front)

-- nothing is fetched
abbrev IsSilent : List ActorOut → Type 0
IsSilent outs = (t : ℕ) → count_by (is_fetch_of t) outs ≡ 0

-- who is live once a ticket ended
others : (t x : ℕ) (before after : Bool) → after ≡ cond (t == x) false before → (after ≡ true) ↔ ((before ≡ true) × (t ≡ x → ⊥))
others t x before after is = go (t == x) refl is
  where
    go : (b : Bool) → (t == x) ≡ b → after ≡ cond b false before → (after ≡ true) ↔ ((before ≡ true) × (t ≡ x → ⊥))
    go true same e = (λ l. let no : ⊥ = cc in absurd no, λ both. absurd (both.1 (eqb-true t x same)))
    go false other e = (λ l. (sym e ∙ l, λ same. eqb-false t x other same), λ both. e ∙ both.0)

silent_one : (x : ActorOut) → ((t : ℕ) → is_fetch_of t x ≡ false) → IsSilent (x ∷ [])
silent_one x other t = count_zero (is_fetch_of t) (x ∷ []) (all_one (λ y. is_fetch_of t y ≡ false) x (other t))

silent_map : (ts : List ℕ) → IsSilent (map (λ t. Candidate t) ts)
silent_map [] x = refl
silent_map (t ∷ ts) x = omega (arith, count_cons (is_fetch_of x) (Candidate t) (map (λ t. Candidate t) ts), silent_map ts x)

silent_all : (outs : List ActorOut) → ((t : ℕ) → All (λ x. is_fetch_of t x ≡ false) outs) → IsSilent outs
silent_all outs all t = count_zero (is_fetch_of t) outs (all t)

apart : {D Op : Type 0} (m : Inbox D Op) (t u : ℕ) → is_live m.tickets t ≡ true → is_live m.tickets u ≡ false → (u == t) ≡ false
apart m t u live dead = go (u == t) refl
  where
    go : (b : Bool) → (u == t) ≡ b → b ≡ false
    go true same = absurd (let e = ap (is_live m.tickets) (eqb-true u t same) in cc)
    go false other = refl

-- what a message that is taken does to the requests
hears_counts : {D Op : Type 0} (s : State D) (m : Inbox D Op) (message : Message D) (done : List ActorOut) (next : State D) → Hears s m message done next → (rest : List (Message D)) (t : ℕ)
    → (count_by (is_request_of t) rest + count_by (is_fetch_of t) done ≤ count_by (is_request_of t) (message ∷ rest))
    × (is_live m.tickets t ≡ true → count_by (is_request_of t) rest + count_by (is_fetch_of t) done ≡ count_by (is_request_of t) (message ∷ rest))
hears_counts {D} s m message done next (attaches {db = db}) rest t =
    let c = count_cons (is_request_of {D = D} t) (AttachDatabase db) rest in
    (omega arith, λ live. omega arith)
hears_counts {D} s m message done next (fetches {t = u} {key = key} live) rest t =
    let c = count_cons (is_request_of {D = D} t) (GetOperations u key) rest in
    let f = count_cons (is_fetch_of t) (Fetch u key) [] in
    (omega arith, λ live. omega arith)
hears_counts {D} s m message done next (passes_over {t = u} {key = key} dead) rest t =
    let c = count_cons (is_request_of {D = D} t) (GetOperations u key) rest in
    (omega arith, λ live. let b = ap {B = ℕ} (λ w. cond w 1 0) (apart m t u live dead) in omega arith)

module _ {D Op : Type 0} where
  -- What an entry that draws no ticket does to the mailbox: those that it ends are live no more, and the request of a live
  -- ticket stays where it is, or is fetched.
  record Moves (m left : Inbox D Op) (outs : List ActorOut) (ends : ℕ → Type 0) : Type 0 where
    next : left.next_ticket ≡ m.next_ticket
    fresh : AreFresh m.next_ticket m.tickets → AreFresh m.next_ticket left.tickets
    few : (t : ℕ) → waiting t left + count_by (is_fetch_of t) outs ≤ waiting t m
    all : (t : ℕ) → is_live left.tickets t ≡ true → waiting t left + count_by (is_fetch_of t) outs ≡ waiting t m
    live : (t : ℕ) → (is_live left.tickets t ≡ true) ↔ ((is_live m.tickets t ≡ true) × (ends t → ⊥))
    from : (t : ℕ) (key : Request) → Contains (messages left.queue) (GetOperations t key) → Contains (messages m.queue) (GetOperations t key)

  -- the queue stays what it is, and nobody is ended
  rests : (m left : Inbox D Op) (outs : List ActorOut) → left.next_ticket ≡ m.next_ticket → left.queue ≡ m.queue → (AreFresh m.next_ticket m.tickets → AreFresh m.next_ticket left.tickets)
      → ((x : ℕ) → is_live left.tickets x ≡ is_live m.tickets x) → IsSilent outs → Moves m left outs (λ t. ⊥)
  rests m left outs next queue fresh same silent = record {
    next = next;
    fresh = fresh;
    few = λ t. let e = ap (λ (q : Queues (Message D)). count_by (is_request_of t) (messages q)) queue in let z = silent t in omega arith;
    all = λ t live. let e = ap (λ (q : Queues (Message D)). count_by (is_request_of t) (messages q)) queue in let z = silent t in omega arith;
    live = λ t. (λ l. (sym (same t) ∙ l, λ never. never), λ both. same t ∙ both.0);
    from = λ t key there. subst (λ (q : Queues (Message D)). Contains (messages q) (GetOperations t key)) queue there;
  }

  -- a ticket ends
  ends_one : (m : Inbox D Op) (t : ℕ) (outs : List ActorOut) → IsSilent outs → Moves m (record m { tickets = ended m.tickets t }) outs (λ x. t ≡ x)
  ends_one m t outs silent = record {
    next = refl;
    fresh = λ fresh. ended_fresh m.next_ticket m.tickets t fresh;
    few = λ x. let z = silent x in omega arith;
    all = λ x live. let z = silent x in omega arith;
    live = λ x. others t x (is_live m.tickets x) (is_live (ended m.tickets t) x) (live_ended m.tickets t x);
    from = λ x key there. there;
  }

  -- a ticket that isn't live is ended again
  ends_none : (m : Inbox D Op) (t : ℕ) (outs : List ActorOut) → is_live m.tickets t ≡ false → IsSilent outs → Moves m m outs (λ x. t ≡ x)
  ends_none m t outs dead silent = record {
    next = refl;
    fresh = λ fresh. fresh;
    few = λ x. let z = silent x in omega arith;
    all = λ x live. let z = silent x in omega arith;
    live = λ x. (λ l. (l, λ (same : t ≡ x). let e = ap (is_live m.tickets) same in let no : ⊥ = cc in no), λ both. both.0);
    from = λ x key there. there;
  }

  -- a ticket is let go, with its request
  lets_go : (m : Inbox D Op) (t : ℕ) (outs : List ActorOut) (gone : List ℕ) → IsSilent outs
      → Moves m (record m { tickets = ended m.tickets t; queue = record m.queue { overflow = filter (is_not_of t) m.queue.overflow }; cancelled = gone }) outs (λ x. t ≡ x)
  lets_go m t outs gone silent = record {
    next = refl;
    fresh = λ fresh. ended_fresh m.next_ticket m.tickets t fresh;
    few = λ x. let z = silent x in let f = fewer_waiting m.queue t x in omega arith;
    all = λ x live. let z = silent x in let f = without_waiting m.queue t x (apart x live (t == x) refl) in omega arith;
    live = λ x. others t x (is_live m.tickets x) (is_live (ended m.tickets t) x) (live_ended m.tickets t x);
    from = λ x key there. without_from m.queue t (GetOperations x key) there;
  }
    where
      apart : (x : ℕ) → is_live (ended m.tickets t) x ≡ true → (b : Bool) → (t == x) ≡ b → b ≡ false
      apart x live true same = absurd (let e = live_ended m.tickets t x in let e' = rw same at e in let no : ⊥ = cc in no)
      apart x live false other = refl

  let_go_moves : (m : Inbox D Op) (t : ℕ) (outs : List ActorOut) → IsSilent outs → Moves m (let_go m t) outs (λ x. t ≡ x)
  let_go_moves m t outs silent = go (is_live m.tickets t) refl
    where
      go : (b : Bool) → is_live m.tickets t ≡ b
          → Moves m (cond b (record m { tickets = ended m.tickets t; queue = record m.queue { overflow = filter (is_not_of t) m.queue.overflow } }) m) outs (λ x. t ≡ x)
      go true live = lets_go m t outs m.cancelled silent
      go false dead = ends_none m t outs dead silent

  cancels_moves : (m : Inbox D Op) (t : ℕ) → Moves m (cancelled m t) [] (λ x. t ≡ x)
  cancels_moves m t = go (is_live m.tickets t) refl
    where
      go : (b : Bool) → is_live m.tickets t ≡ b
          → Moves m (cond b (record (cond b (record m { tickets = ended m.tickets t; queue = record m.queue { overflow = filter (is_not_of t) m.queue.overflow } }) m) { cancelled = m.cancelled ++ t ∷ [] }) m) [] (λ x. t ≡ x)
      go true live = lets_go m t [] (m.cancelled ++ t ∷ []) (λ x. refl)
      go false dead = ends_none m t [] dead (λ x. refl)

  candidates_moves : (m : Inbox D Op) (ts : List ℕ) (r : Response Op) → Moves m (offered_each m ts r) [] (λ t. ⊥)
  candidates_moves m [] r = rests m m [] refl refl (λ fresh. fresh) (λ x. refl) (λ x. refl)
  candidates_moves m (t ∷ ts) r =
      let one = candidates_moves (offered m t r) ts r in
      record {
        next = one.next;
        fresh = λ fresh. one.fresh (answered_fresh m.next_ticket m.tickets t fresh);
        few = one.few;
        all = one.all;
        live = λ x. (λ l. (sym (live_answered m.tickets t x) ∙ ((one.live x).0 l).0, λ never. never), λ both. (one.live x).1 (live_answered m.tickets t x ∙ both.0, λ never. never));
        from = one.from;
      }

  -- with outputs that fetch nothing
  silent_more : (m left : Inbox D Op) (outs more all : List ActorOut) (ends : ℕ → Type 0) → IsSilent more → ((t : ℕ) → count_by (is_fetch_of t) all ≡ count_by (is_fetch_of t) more + count_by (is_fetch_of t) outs)
      → Moves m left outs ends → Moves m left all ends
  silent_more m left outs more all ends silent counts moves = record {
    next = moves.next;
    fresh = moves.fresh;
    few = λ t. let c = counts t in let z = silent t in let f = moves.few t in omega arith;
    all = λ t live. let c = counts t in let z = silent t in let f = moves.all t live in omega arith;
    live = moves.live;
    from = moves.from;
  }

  more_outs : (m left : Inbox D Op) (outs : List ActorOut) (ends : ℕ → Type 0) → IsSilent outs → Moves m left [] ends → Moves m left outs ends
  more_outs m left outs ends silent moves = silent_more m left [] outs outs ends silent (λ t. omega arith) moves

  -- what a message does
  hears_moves : (s : State D) (m left : Inbox D Op) (message : Message D) (done : List ActorOut) (next : State D) → HandsOut m.queue left.queue (Some message) → left ≡ record m { queue = left.queue } → Hears s m message done next
      → Moves m left done (λ t. ⊥)
  hears_moves s m left message done next hands others_are h = record {
    next = ap (λ (w : Inbox D Op). w.next_ticket) others_are;
    fresh = λ fresh. subst (AreFresh m.next_ticket) (sym tickets) fresh;
    few = λ t. (both t).0;
    all = λ t live. (both t).1 (subst (λ w. is_live w t ≡ true) tickets live);
    live = λ t. (λ l. (subst (λ w. is_live w t ≡ true) tickets l, λ never. never), λ two. subst (λ w. is_live w t ≡ true) (sym tickets) two.0);
    from = λ t key there. subst (λ w. Contains w (GetOperations t key)) (sym hands.front) (Contains-append_right (message ∷ []) (messages left.queue) (GetOperations t key) there);
  }
    where
      tickets : left.tickets ≡ m.tickets
      tickets = ap (λ (w : Inbox D Op). w.tickets) others_are

      both : (t : ℕ) → (waiting t left + count_by (is_fetch_of t) done ≤ waiting t m) × (is_live m.tickets t ≡ true → waiting t left + count_by (is_fetch_of t) done ≡ waiting t m)
      both t =
          subst (λ w. (waiting t left + count_by (is_fetch_of t) done ≤ count_by (is_request_of t) w) × (is_live m.tickets t ≡ true → waiting t left + count_by (is_fetch_of t) done ≡ count_by (is_request_of t) w))
          (sym hands.front) (hears_counts s m message done next h (messages left.queue) t)

  judged_moves : (s : State D) (m : Inbox D Op) (t : ℕ) (valid : Bool) (done : List ActorOut) (next : State D) (left : Inbox D Op) (outs : List ActorOut) → Judges s m t valid done next left → Moves m left done (λ x. Ends {D = D} x (Stepped (tasks.Judge t valid) outs))
  judged_moves s m t valid done next left outs (accepts {settled = settled} {next = mid} rel) =
      ends_one m t done (silent_all (Forget t ∷ option_to_list settled) (λ x. All-cons (λ y. is_fetch_of x y ≡ false) (Forget t) (option_to_list settled) refl
      (all_released (λ y. is_fetch_of x y ≡ false) (λ d v. refl) (λ d. refl) s t (Some true) settled mid rel)))
  judged_moves s m t valid done next left outs (rejects {settled = settled} rel) =
      rests m m done refl refl (λ fresh. fresh) (λ x. refl) (silent_all (option_to_list settled) (λ x. all_released (λ y. is_fetch_of x y ≡ false) (λ d v. refl) (λ d. refl) s t (Some false) settled next rel))

  left_moves : (s : State D) (m : Inbox D Op) (t : ℕ) (done : List ActorOut) (next : State D) (left : Inbox D Op) → Leaves s m t done next left → Moves m left done (λ x. t ≡ x)
  left_moves s m t done next left (Leaves.leaves {settled = settled} f) =
      let_go_moves m t done (silent_all (Forget t ∷ option_to_list settled) (λ x. All-cons (λ y. is_fetch_of x y ≡ false) (Forget t) (option_to_list settled) refl
      (all_forgot (λ y. is_fetch_of x y ≡ false) (λ d v. refl) (λ d. refl) s t settled next f)))
  left_moves s m t done next left (leaves_unfetched f) = let_go_moves m t [] (λ x. refl)

  delivered_moves : (operations : Format Op) (s : State D) (m : Inbox D Op) (d : ℕ) (key : Request) (bytes : List ℕ) (done : List ActorOut) (next : State D) (left : Inbox D Op) → Delivers operations s m d key bytes done next left → Moves m left done (λ t. ⊥)
  delivered_moves operations s m d key bytes done next left (unheard x) = rests m m done refl refl (λ fresh. fresh) (λ x. refl) (silent_one (Unjudged d) (λ t. refl))
  delivered_moves operations s m d key bytes done next left (malformed x y) = rests m m done refl refl (λ fresh. fresh) (λ x. refl) (silent_one (Feedback d false) (λ t. refl))
  delivered_moves operations s m d key bytes done next left (untaken x y) = rests m m done refl refl (λ fresh. fresh) (λ x. refl) (silent_one (Unjudged d) (λ t. refl))
  delivered_moves operations s m d key bytes done next left (taken {takers = takers} {response = response} x y z) = more_outs m left done (λ t. ⊥) (silent_map takers) (candidates_moves m takers response)

module _ {D Op : Type 0} where
  -- which tickets were cancelled says nothing of a message
  pub same_takes : (m left : Inbox D Op) (event : ActorEvent) (task : Task D) → Takes m left event task → Takes (record m { cancelled = [] }) left event task
  same_takes m left event task (Takes.hears hands) = Takes.hears hands
  same_takes m left event task Takes.delivers = Takes.delivers
  same_takes m left event task Takes.judges = Takes.judges
  same_takes m left event task Takes.leaves = Takes.leaves
  same_takes m left event task Takes.produces = Takes.produces

module _ {D Op : Type 0} (u : Setup D Op) where
  sent_silent : (n : ℕ) (bytes : Option (List ℕ)) → IsSilent (sent u n bytes ∷ [])
  sent_silent n None = silent_one (Unserved n) (λ t. refl)
  sent_silent n (Some bytes) = silent_one (Served n bytes) (λ t. refl)

  does_moves : (s : State D) (m : Inbox D Op) (event : ActorEvent) (task : Task D) (done : List ActorOut) (next : State D) (left : Inbox D Op) (outs : List ActorOut) → Does u s m event done next left → Takes m left event task
      → Moves m left done (λ t. Ends t (Stepped task outs))
  does_moves s m event task done next left outs (Does.hears {message = message} hands are h) (Takes.hears other) = hears_moves s m left message done next hands are h
  does_moves s m event task done next left outs (Does.delivers {d = d} {key = key} {bytes = bytes} h) Takes.delivers = delivered_moves u.operations s m d key bytes done next left h
  does_moves s m event task done next left outs (Does.judges {t = t} {valid = valid} h) Takes.judges = judged_moves s m t valid done next left outs h
  does_moves s m event task done next left outs (Does.leaves {t = t} h) Takes.leaves = left_moves s m t done next left h
  does_moves s m event task done next left outs (Does.produces {n = n} h) Takes.produces =
      rests m m done refl refl (λ fresh. fresh) (λ x. refl) (λ t. ap (count_by (is_fetch_of t)) h.outs_are ∙ sent_silent n h.bytes t)

  -- what an event does to the mailbox
  step_moves : (s : State D) (m : Inbox D Op) (event : ActorEvent) (task : Task D) (outs : List ActorOut) (next : State D) (left : Inbox D Op) → Steps u s m event outs next left → Takes m left event task
      → Moves m left outs (λ t. Ends t (Stepped task outs))
  step_moves s m event task outs next left steps takes =
      let m0 : Inbox D Op = record m { cancelled = [] } in
      let front = steps.forgotten ++ steps.settled in
      let moves : Moves m0 left steps.done (λ t. Ends t (Stepped task outs)) = does_moves steps.between m0 event task steps.done next left outs steps.does (same_takes m left event task takes) in
      let all = silent_more m0 left steps.done front outs (λ t. Ends t (Stepped task outs)) silent counts moves in
      record { next = all.next; fresh = all.fresh; few = all.few; all = all.all; live = all.live; from = all.from }
    where
      parts : (x : ℕ) → All (λ y. is_fetch_of x y ≡ false) steps.forgotten × All (λ y. is_fetch_of x y ≡ false) steps.settled
      parts x = all_retired (λ y. is_fetch_of x y ≡ false) (λ d v. refl) (λ d. refl) (λ t. refl) s steps.gone steps.forgotten steps.settled steps.between steps.retires

      silent : IsSilent (steps.forgotten ++ steps.settled)
      silent x = let p = parts x in omega (arith, count_append (is_fetch_of x) steps.forgotten steps.settled, count_zero (is_fetch_of x) steps.forgotten p.0, count_zero (is_fetch_of x) steps.settled p.1)

      counts : (x : ℕ) → count_by (is_fetch_of x) outs ≡ count_by (is_fetch_of x) (steps.forgotten ++ steps.settled) + count_by (is_fetch_of x) steps.done
      counts x = ap (count_by (is_fetch_of x)) steps.outs_are ∙ count_append (is_fetch_of x) (steps.forgotten ++ steps.settled) steps.done

-- ---- over a history

module _ {D Op : Type 0} where
  -- the request of a ticket is on its way or was fetched, once; a live one's is; and who is live is told by the history
  pub record IsPlaced (h : List (Entry D)) (m : Inbox D Op) : Type 0 where
    pub fresh : AreFresh m.next_ticket m.tickets
    pub idle : (t : ℕ) → m.next_ticket ≤ t → waiting t m + count_outs (is_fetch_of t) h ≡ 0
    pub few : (t : ℕ) → waiting t m + count_outs (is_fetch_of t) h ≤ 1
    pub all : (t : ℕ) → is_live m.tickets t ≡ true → waiting t m + count_outs (is_fetch_of t) h ≡ 1
    pub live : (t : ℕ) → (is_live m.tickets t ≡ true) ↔ IsLive h t
    pub drawn : (t : ℕ) (key : Request) → Contains (messages m.queue) (GetOperations t key) → Once (λ before e. Draws t key e) h

  moved : (h : List (Entry D)) (m left : Inbox D Op) (e : Entry D) → ((t : ℕ) → IsDrawn t e → ⊥) → Moves m left (outs_of e) (λ t. Ends t e) → IsPlaced h m → IsPlaced (h ++ e ∷ []) left
  moved h m left e undrawn moves here = record {
    fresh = subst (λ n. AreFresh n left.tickets) (sym moves.next) (moves.fresh here.fresh);
    idle = λ t above. let c = count_push (is_fetch_of t) h e in let f = moves.few t in let i = here.idle t (subst (λ n. n ≤ t) moves.next above) in omega arith;
    few = λ t. let c = count_push (is_fetch_of t) h e in let f = moves.few t in let i = here.few t in omega arith;
    all = λ t live. let c = count_push (is_fetch_of t) h e in let f = moves.all t live in let i = here.all t ((moves.live t).0 live).0 in omega arith;
    live = λ t. (
      λ l. let both = (moves.live t).0 l in since_before h e (IsDrawn t) (Ends t) ((here.live t).0 both.0) both.1,
      λ l. back t (since_split h e (IsDrawn t) (Ends t) l),
    );
    drawn = λ t key there. once_before h e (λ before e. Draws t key e) (here.drawn t key (moves.from t key there));
  }
    where
      back : (t : ℕ) → IsDrawn t e ⊎ (Since (IsDrawn t) (Ends t) h × (Ends t e → ⊥)) → is_live left.tickets t ≡ true
      back t (inl now) = absurd (undrawn t now)
      back t (inr both) = (moves.live t).1 ((here.live t).1 both.0, both.1)

  asked_placed : (h : List (Entry D)) (m : Inbox D Op) (t : ℕ) (key : Request) (feedback : Reply) (left : Inbox D Op) → Asks m key feedback t left → IsPlaced h m → IsPlaced (h ++ Asked t key ∷ []) left
  asked_placed h m t key feedback left asks here = record {
    fresh = λ x above. subst (λ w. at w x ≡ None) (sym tickets) (drawn_fresh m.next_ticket m.tickets Open here.fresh x (subst (λ n. n ≤ x) next above));
    idle = λ x above. idle x (subst (λ n. n ≤ x) next above);
    few = λ x. few x (t == x) refl;
    all = λ x live. all x live (t == x) refl;
    live = λ x. (λ l. alive x l (t == x) refl, λ l. told x (since_split h (Asked t key) (IsDrawn x) (Ends x) l));
    drawn = λ x k there. drawn x k (Contains-push_cases (messages m.queue) (GetOperations t key) (GetOperations x k) (subst (λ w. Contains w (GetOperations x k)) front there));
  }
    where
      t_is : t ≡ m.next_ticket
      t_is = asks.drawn

      next : left.next_ticket ≡ m.next_ticket + 1
      next = ap (λ (w : Inbox D Op). w.next_ticket) asks.others ∙ ap (λ n. n + 1) t_is

      tickets : left.tickets ≡ put m.tickets m.next_ticket Open
      tickets = ap (λ (w : Inbox D Op). w.tickets) asks.others ∙ ap (λ n. put m.tickets n Open) t_is

      front : messages left.queue ≡ messages m.queue ++ GetOperations t key ∷ []
      front = sent_request m.queue t key feedback left.queue asks.sends

      waits : (x : ℕ) → waiting x left ≡ waiting x m + cond (t == x) 1 0
      waits x = ap (count_by (is_request_of x)) front ∙ omega (arith, count_append (is_request_of x) (messages m.queue) (GetOperations t key ∷ []), count_cons (is_request_of {D = D} x) (GetOperations t key) [])

      fetched_count : (x : ℕ) → count_outs (is_fetch_of x) (h ++ Asked t key ∷ []) ≡ count_outs (is_fetch_of x) h
      fetched_count x = count_push (is_fetch_of x) h (Asked t key) ∙ omega arith

      idle : (x : ℕ) → m.next_ticket + 1 ≤ x → waiting x left + count_outs (is_fetch_of x) (h ++ Asked t key ∷ []) ≡ 0
      idle x above = go (t == x) refl (waits x)
        where
          go : (b : Bool) → (t == x) ≡ b → waiting x left ≡ waiting x m + cond b 1 0 → waiting x left + count_outs (is_fetch_of x) (h ++ Asked t key ∷ []) ≡ 0
          go true same w = absurd (let e = eqb-true t x same in omega (arith, t_is))
          go false other w = let i = here.idle x (omega arith) in let f = fetched_count x in omega arith

      few : (x : ℕ) (b : Bool) → (t == x) ≡ b → waiting x left + count_outs (is_fetch_of x) (h ++ Asked t key ∷ []) ≤ 1
      few x true same = let w = waits x ∙ ap (λ b. waiting x m + cond b 1 0) same in let e = eqb-true t x same in let i = here.idle x (omega (arith, t_is)) in let f = fetched_count x in omega arith
      few x false other = let w = waits x ∙ ap (λ b. waiting x m + cond b 1 0) other in let i = here.few x in let f = fetched_count x in omega arith

      is_left : (x : ℕ) → is_live left.tickets x ≡ cond (t == x) true (is_live m.tickets x)
      is_left x = ap (λ w. is_live w x) tickets ∙ live_put m.tickets m.next_ticket Open x ∙ ap (λ n. cond (n == x) true (is_live m.tickets x)) (sym t_is)

      all : (x : ℕ) → is_live left.tickets x ≡ true → (b : Bool) → (t == x) ≡ b → waiting x left + count_outs (is_fetch_of x) (h ++ Asked t key ∷ []) ≡ 1
      all x live true same = let w = waits x ∙ ap (λ b. waiting x m + cond b 1 0) same in let e = eqb-true t x same in let i = here.idle x (omega (arith, t_is)) in let f = fetched_count x in omega arith
      all x live false other =
          let w = waits x ∙ ap (λ b. waiting x m + cond b 1 0) other in
          let l = is_left x ∙ ap (λ b. cond b true (is_live m.tickets x)) other in
          let i = here.all x (sym l ∙ live) in
          let f = fetched_count x in omega arith

      alive : (x : ℕ) → is_live left.tickets x ≡ true → (b : Bool) → (t == x) ≡ b → IsLive (h ++ Asked t key ∷ []) x
      alive x l true same = since_here h (Asked t key) (IsDrawn x) (Ends x) (key, (eqb-true t x same, refl))
      alive x l false other =
          let e = is_left x ∙ ap (λ b. cond b true (is_live m.tickets x)) other in
          since_before h (Asked t key) (IsDrawn x) (Ends x) ((here.live x).0 (sym e ∙ l)) (λ never. never)

      told : (x : ℕ) → IsDrawn {D = D} x (Asked t key) ⊎ (Since (IsDrawn x) (Ends x) h × (Ends {D = D} x (Asked t key) → ⊥)) → is_live left.tickets x ≡ true
      told x (inl now) = is_left x ∙ ap (λ b. cond b true (is_live m.tickets x)) (eq-eqb t x now.1.0)
      told x (inr both) = go (t == x) (is_left x)
        where
          go : (b : Bool) → is_live left.tickets x ≡ cond b true (is_live m.tickets x) → is_live left.tickets x ≡ true
          go true e = e
          go false e = e ∙ (here.live x).1 both.0

      same_ticket : (v x : ℕ) (k j : Request) → ◌≡◌ {A = Message D} (GetOperations v k) (GetOperations x j) → (v ≡ x) × (k ≡ j)
      same_ticket v x k j e = (cc, cc)

      drawn : (x : ℕ) (k : Request) → Contains (messages m.queue) (GetOperations x k) ⊎ (◌≡◌ {A = Message D} (GetOperations t key) (GetOperations x k)) → Once (λ before e. Draws x k e) (h ++ Asked t key ∷ [])
      drawn x k (inl there) = once_before h (Asked t key) (λ before e. Draws x k e) (here.drawn x k there)
      drawn x k (inr e) = once_here h (Asked t key) (λ before e. Draws x k e) (same_ticket t x key k e)

  polled_moves : (m : Inbox D Op) (t : ℕ) → Moves m (taken_out m t) [] (λ x. ⊥)
  polled_moves m t = go (is_dropped m.tickets t)
    where
      go : (b : Bool) → Moves m (cond b m (record m { candidates = without m.candidates t })) [] (λ x. ⊥)
      go true = rests m m [] refl refl (λ fresh. fresh) (λ x. refl) (λ x. refl)
      go false = rests m (record m { candidates = without m.candidates t }) [] refl refl (λ fresh. fresh) (λ x. refl) (λ x. refl)

  attached_moves : (m : Inbox D Op) (db : D) (feedback : Reply) (left : Inbox D Op) → Attaches m db feedback left → Moves m left [] (λ x. ⊥)
  attached_moves m db feedback left sent_db = record {
    next = ap (λ (w : Inbox D Op). w.next_ticket) sent_db.others;
    fresh = λ fresh. subst (AreFresh m.next_ticket) (sym tickets) fresh;
    few = λ t. let e = sent_database m.queue db feedback left.queue sent_db.sends t in omega arith;
    all = λ t live. let e = sent_database m.queue db feedback left.queue sent_db.sends t in omega arith;
    live = λ t. (λ l. (subst (λ w. is_live w t ≡ true) tickets l, λ never. never), λ two. subst (λ w. is_live w t ≡ true) (sym tickets) two.0);
    from = λ t key there. sent_from m.queue db feedback left.queue sent_db.sends t key there;
  }
    where
      tickets : left.tickets ≡ m.tickets
      tickets = ap (λ (w : Inbox D Op). w.tickets) sent_db.others

module _ {D Op : Type 0} (u : Setup D Op) where
  pub turn_placed : (h : List (Entry D)) (s : State D) (m : Inbox D Op) (e : Entry D) (next : State D) (left : Inbox D Op) → Turns u s m e next left → IsPlaced h m → IsPlaced (h ++ e ∷ []) left
  turn_placed h s m e next left (Turns.asks {t = t} {key = key} {feedback = feedback} asks) here = asked_placed h m t key feedback left asks here
  turn_placed h s m e next left (Turns.attaches {db = db} {feedback = feedback} sent_db) here = moved h m left e (λ t draw. draw.1) (attached_moves m db feedback left sent_db) here
  turn_placed h s m e next left (Turns.cancels {t = t}) here = moved h m left e (λ t draw. draw.1) (cancels_moves m t) here
  turn_placed h s m e next left (Turns.polls {t = t}) here = moved h m left e (λ t draw. draw.1) (polled_moves m t) here
  turn_placed h s m e next left (Turns.steps {event = event} {task = task} {outs = outs} comes takes steps) here = moved h m left e (λ t draw. draw.1) (step_moves u s m event task outs next left steps takes) here

  -- an empty mailbox
  pub placed_first : (capacity : ℕ) → IsPlaced {D = D} [] (empty_inbox {D = D} {Op = Op} capacity)
  placed_first capacity = record {
    fresh = λ t above. refl;
    idle = λ t above. refl;
    few = λ t. omega arith;
    all = λ t live. cc;
    live = λ t. (λ l. cc, λ l. absurd (since_none (IsDrawn t) (Ends t) l));
    drawn = λ t key there. absurd (in_none (GetOperations t key) there);
  }

  pub placed : {first : State D} (capacity : ℕ) (h : List (Entry D)) (s : State D) (m : Inbox D Op) → Runs u first (empty_inbox capacity) h s m → IsPlaced h m
  placed capacity = kept u (λ h s m. IsPlaced h m) (placed_first capacity) turn_placed
