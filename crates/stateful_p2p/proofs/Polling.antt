-- What a poll of a mailbox answers, over a history.
use Rattle.std.proofs.Common.{◌≡◌, ℕ, ◌≤◌, ◌==◌, ◌↔◌, Bool, true, false, cond, ◌||◌, Option, Some, None, List, [], ◌∷◌, ◌++◌, filter, All, Contains, ◌⊎◌, inl, inr, refl, sym, ap, subst, ◌∙◌, arith}
use Rattle.std.proofs.lemmas.Bool.{eqb-true, eqb-false, eq-eqb}
use Rattle.std.proofs.lemmas.List.Elements.{All-nil, All-contains}
use Rattle.stateful_base.specs.Format.{Format}
use Rattle.stateful_types.specs.declared.request.Request.{Request}
use Rattle.stateful_types.specs.declared.response.Response.{Response}
use Rattle.stateful_types.specs.declared.mailbox.Feedback.{Feedback as Reply}
use Rattle.stateful_table.specs.Table.{at, put, without}
use Rattle.stateful_p2p.specs.Tickets.{stands_live, stands_dropped, is_live, is_dropped, ended, ended_from, answered}
use Rattle.stateful_p2p.specs.Messages.{is_not_of}
use Rattle.stateful_p2p_codec.specs.Reading.{IsResponse}
use Rattle.stateful_p2p.specs.Inbox.{Inbox, Asks, let_go, cancelled as cancelled_inbox, offered, offered_each, waiting_for, taken_out}
use Rattle.stateful_p2p_tables.specs.Deliveries.{is_free}
use Rattle.stateful_p2p_tables.specs.Deliveries as tables
use Rattle.stateful_p2p.specs.Fanout as fanout
use Rattle.stateful_p2p.specs.Resolving.{Setup, may_come, Hears, Judges, Leaves, Does, Steps}
use Rattle.stateful_p2p.specs.Resolving as resolving
use Rattle.stateful_p2p.specs.History.{Entry, Asked, Polled, Stepped, outs_of, Once, Since, Takes, Turns}
use Rattle.stateful_p2p.specs.Laws.{IsDrawn, IsLive, HadCandidate, WasLetGo, Retakes, HandsOver, WaitsFor}
use Rattle.stateful_p2p_tables.specs.declared.state.State.{State}
use Rattle.stateful_p2p.specs.declared.message.Message.{Message}
use Rattle.stateful_p2p.specs.declared.tickets.Standing.{Standing}
use Rattle.stateful_p2p.specs.declared.tickets.Standing.TheVariants.{Open, Answered, Dropped}
use Rattle.stateful_p2p.specs.declared.actor.Task.{Task}
use Rattle.stateful_p2p.specs.declared.actor.Task.TheVariants as tasks
use Rattle.stateful_p2p.specs.declared.event.ActorEvent.{ActorEvent}
use Rattle.stateful_p2p_tables.specs.declared.out.ActorOut.{ActorOut}
use Rattle.stateful_p2p_tables.specs.declared.out.ActorOut.TheVariants.{Fetch, Candidate, Feedback, Unjudged}
use Rattle.stateful_table.proofs.Tables.{at-put, at-without}
use Rattle.stateful_p2p.proofs.Histories.{once_here, once_before, once_split, since_here, since_before, since_split}
use Rattle.stateful_p2p.proofs.Moving.{in_none, Contains-filter}
use Rattle.stateful_p2p.proofs.Putting.{all_one, all_judged, all_left, all_produced}
use Rattle.stateful_p2p.proofs.Placing.{IsPlaced, same_takes}
use Rattle.stateful_p2p.proofs.Current.{has, has_there, there_has, none_some, IsCurrent, IsTold}
use Rattle.stateful_p2p.proofs.Following.{IsUnhanded, candidate_in, in_candidate, within, between_current, placed_same}

-- ---- how tickets stand behind a change

abbrev pub ends_as : Option Standing → Option Standing
ends_as None = None
ends_as (Some Open) = Some Dropped
ends_as (Some Answered) = None
ends_as (Some Dropped) = Some Dropped

abbrev pub answers_as : Option Standing → Option Standing
answers_as None = None
answers_as (Some Open) = Some Answered
answers_as (Some Answered) = Some Answered
answers_as (Some Dropped) = Some Dropped

same_held : (tickets : List (ℕ × Standing)) (t x : ℕ) (held : Option Standing) → at tickets t ≡ held → (f : Option Standing → Option Standing) → f held ≡ held → at tickets x ≡ cond (t == x) (f (at tickets x)) (at tickets x)
same_held tickets t x held is f same = go (t == x) refl
  where
    go : (b : Bool) → (t == x) ≡ b → at tickets x ≡ cond b (f (at tickets x)) (at tickets x)
    go true here = let e = subst (λ w. at tickets w ≡ held) (eqb-true t x here) is in e ∙ sym same ∙ ap f (sym e)
    go false other = refl

put_held : (tickets : List (ℕ × Standing)) (t x : ℕ) (held : Option Standing) (s : Standing) → at tickets t ≡ held → (f : Option Standing → Option Standing) → f held ≡ Some s → at (put tickets t s) x ≡ cond (t == x) (f (at tickets x)) (at tickets x)
put_held tickets t x held s is f new = at-put tickets t s x ∙ go (t == x) refl
  where
    go : (b : Bool) → (t == x) ≡ b → cond b (Some s) (at tickets x) ≡ cond b (f (at tickets x)) (at tickets x)
    go true here = sym new ∙ ap f (sym (subst (λ w. at tickets w ≡ held) (eqb-true t x here) is))
    go false other = refl

pub at_ended : (tickets : List (ℕ × Standing)) (t x : ℕ) → at (ended tickets t) x ≡ cond (t == x) (ends_as (at tickets x)) (at tickets x)
at_ended tickets t x = go (at tickets t) refl
  where
    go : (held : Option Standing) → at tickets t ≡ held → at (ended_from held tickets t) x ≡ cond (t == x) (ends_as (at tickets x)) (at tickets x)
    go None is = same_held tickets t x None is ends_as refl
    go (Some Open) is = put_held tickets t x (Some Open) Dropped is ends_as refl
    go (Some Answered) is = at-without tickets t x ∙ cleared (t == x) refl
      where
        cleared : (b : Bool) → (t == x) ≡ b → cond b None (at tickets x) ≡ cond b (ends_as (at tickets x)) (at tickets x)
        cleared true here = ap ends_as (sym (subst (λ w. at tickets w ≡ Some Answered) (eqb-true t x here) is))
        cleared false other = refl
    go (Some Dropped) is = same_held tickets t x (Some Dropped) is ends_as refl

at_answered : (tickets : List (ℕ × Standing)) (t x : ℕ) → at (answered tickets t) x ≡ cond (t == x) (answers_as (at tickets x)) (at tickets x)
at_answered tickets t x = go (at tickets t) refl
  where
    go : (held : Option Standing) → at tickets t ≡ held → at (cond (stands_live held) (put tickets t Answered) tickets) x ≡ cond (t == x) (answers_as (at tickets x)) (at tickets x)
    go None is = same_held tickets t x None is answers_as refl
    go (Some Open) is = put_held tickets t x (Some Open) Answered is answers_as refl
    go (Some Answered) is = put_held tickets t x (Some Answered) Answered is answers_as refl
    go (Some Dropped) is = same_held tickets t x (Some Dropped) is answers_as refl

twice_answered : (held : Option Standing) → answers_as (answers_as held) ≡ answers_as held
twice_answered None = refl
twice_answered (Some Open) = refl
twice_answered (Some Answered) = refl
twice_answered (Some Dropped) = refl

module _ {D Op : Type 0} where
  at_offered : (m : Inbox D Op) (ts : List ℕ) (r : Response Op) (x : ℕ) → at (offered_each m ts r).tickets x ≡ cond (has ts x) (answers_as (at m.tickets x)) (at m.tickets x)
  at_offered m [] r x = refl
  at_offered m (t ∷ ts) r x = at_offered (offered m t r) ts r x ∙ ap (λ w. cond (has ts x) (answers_as w) w) (at_answered m.tickets t x) ∙ go (t == x) (has ts x)
    where
      go : (a b : Bool) → cond b (answers_as (cond a (answers_as (at m.tickets x)) (at m.tickets x))) (cond a (answers_as (at m.tickets x)) (at m.tickets x)) ≡ cond (a || b) (answers_as (at m.tickets x)) (at m.tickets x)
      go true true = twice_answered (at m.tickets x)
      go true false = refl
      go false b = refl

  waits_offered : (m : Inbox D Op) (ts : List ℕ) (r : Response Op) (x : ℕ) → waiting_for (offered_each m ts r) x ≡ cond (has ts x) (Some r) (waiting_for m x)
  waits_offered m [] r x = refl
  waits_offered m (t ∷ ts) r x = waits_offered (offered m t r) ts r x ∙ ap (λ w. cond (has ts x) (Some r) w) (at-put m.candidates t r x) ∙ go (t == x) (has ts x)
    where
      go : (a b : Bool) → cond b (Some r) (cond a (Some r) (at m.candidates x)) ≡ cond (a || b) (Some r) (at m.candidates x)
      go true true = refl
      go true false = refl
      go false b = refl

-- ---- how tickets stand, by the history

-- a ticket that stands so is drawn, and had a candidate or had none
abbrev pub StandsBy : {D : Type 0} → List (Entry D) → ℕ → Option Standing → Type 0
StandsBy h t None = Once (λ before entry. IsDrawn t entry) h → HadCandidate h t
StandsBy h t (Some Open) = Once (λ before entry. IsDrawn t entry) h × (HadCandidate h t → ⊥)
StandsBy h t (Some Answered) = HadCandidate h t
StandsBy h t (Some Dropped) = Once (λ before entry. IsDrawn t entry) h × (HadCandidate h t → ⊥)

module _ {D Op : Type 0} where
  pub record IsPolled (h : List (Entry D)) (m : Inbox D Op) : Type 0 where
    pub stands : (t : ℕ) → StandsBy h t (at m.tickets t)
    pub fresh : (t : ℕ) → m.next_ticket ≤ t → HadCandidate h t → ⊥

  -- who was let go before a candidate
  pub dropped_law : (h : List (Entry D)) (m : Inbox D Op) → IsPlaced h m → IsPolled h m → (t : ℕ) → (is_dropped m.tickets t ≡ true) ↔ WasLetGo h t
  dropped_law h m here polled t = go (at m.tickets t) refl (polled.stands t) (here.live t)
    where
      go : (held : Option Standing) → at m.tickets t ≡ held → StandsBy h t held → (is_live m.tickets t ≡ true) ↔ IsLive h t → (is_dropped m.tickets t ≡ true) ↔ WasLetGo h t
      go None is by live = (λ e. let e' = sym (ap stands_dropped is) ∙ e in absurd cc, λ gone. absurd (gone.2 (by gone.0)))
      go (Some Open) is by live = (λ e. let e' = sym (ap stands_dropped is) ∙ e in absurd cc, λ gone. absurd (gone.1 (live.0 (ap stands_live is))))
      go (Some Answered) is by live = (λ e. let e' = sym (ap stands_dropped is) ∙ e in absurd cc, λ gone. absurd (gone.1 (live.0 (ap stands_live is))))
      go (Some Dropped) is by live = (λ e. (by.0, (λ alive. let l = live.1 alive in let l' = sym (ap stands_live is) ∙ l in let never : ⊥ = cc in never), by.1), λ gone. ap stands_dropped is)

module _ {D : Type 0} (h : List (Entry D)) (e : Entry D) (t : ℕ) where
  -- an entry that doesn't touch the ticket
  stands_on : (held : Option Standing) → (IsDrawn t e → ⊥) → (Contains (outs_of e) (Candidate t) → ⊥) → StandsBy h t held → StandsBy (h ++ e ∷ []) t held
  stands_on held undrawn unhanded by = go held by
    where
      back : Once (λ before entry. IsDrawn t entry) h ⊎ IsDrawn t e → Once (λ before entry. IsDrawn t entry) h
      back (inl was) = was
      back (inr now) = absurd (undrawn now)

      had : HadCandidate h t ⊎ Contains (outs_of e) (Candidate t) → HadCandidate h t
      had (inl was) = was
      had (inr now) = absurd (unhanded now)

      go : (held : Option Standing) → StandsBy h t held → StandsBy (h ++ e ∷ []) t held
      go None by = λ drawn. once_before h e (λ before entry. Contains (outs_of entry) (Candidate t)) (by (back (once_split h e (λ before entry. IsDrawn t entry) drawn)))
      go (Some Open) by = (once_before h e (λ before entry. IsDrawn t entry) by.0, λ now. by.1 (had (once_split h e (λ before entry. Contains (outs_of entry) (Candidate t)) now)))
      go (Some Answered) by = once_before h e (λ before entry. Contains (outs_of entry) (Candidate t)) by
      go (Some Dropped) by = (once_before h e (λ before entry. IsDrawn t entry) by.0, λ now. by.1 (had (once_split h e (λ before entry. Contains (outs_of entry) (Candidate t)) now)))

-- an end
stands_ended : {D : Type 0} (h : List (Entry D)) (t : ℕ) (held : Option Standing) → StandsBy h t held → StandsBy h t (ends_as held)
stands_ended h t None by = by
stands_ended h t (Some Open) by = by
stands_ended h t (Some Answered) by = λ drawn. by
stands_ended h t (Some Dropped) by = by

-- a candidate
stands_answered : {D : Type 0} (h : List (Entry D)) (t : ℕ) (held : Option Standing) → stands_live held ≡ true → HadCandidate h t → StandsBy h t (answers_as held)
stands_answered h t None live had = absurd cc
stands_answered h t (Some Open) live had = had
stands_answered h t (Some Answered) live had = had
stands_answered h t (Some Dropped) live had = absurd cc

-- ---- over a history

-- a ticket that is let go, or cancelled
at_unlive : (tickets : List (ℕ × Standing)) (t x : ℕ) → is_live tickets t ≡ false → at tickets x ≡ cond (t == x) (ends_as (at tickets x)) (at tickets x)
at_unlive tickets t x dead = go (at tickets t) refl dead
  where
    go : (held : Option Standing) → at tickets t ≡ held → stands_live held ≡ false → at tickets x ≡ cond (t == x) (ends_as (at tickets x)) (at tickets x)
    go None is dead = same_held tickets t x None is ends_as refl
    go (Some Open) is dead = absurd cc
    go (Some Answered) is dead = absurd cc
    go (Some Dropped) is dead = same_held tickets t x (Some Dropped) is ends_as refl

either : (t x : ℕ) (before after : Option Standing) → after ≡ cond (t == x) (ends_as before) before → (after ≡ before) ⊎ (after ≡ ends_as before)
either t x before after is = go (t == x) is
  where
    go : (b : Bool) → after ≡ cond b (ends_as before) before → (after ≡ before) ⊎ (after ≡ ends_as before)
    go true is = inr is
    go false is = inl is

module _ {D Op : Type 0} where
  at_let_go : (m : Inbox D Op) (t x : ℕ) → at (let_go m t).tickets x ≡ cond (t == x) (ends_as (at m.tickets x)) (at m.tickets x)
  at_let_go m t x = go (is_live m.tickets t) refl
    where
      go : (b : Bool) → is_live m.tickets t ≡ b
          → at (let w : Inbox D Op = cond b (record m { tickets = ended m.tickets t; queue = record m.queue { overflow = filter (is_not_of t) m.queue.overflow } }) m in w.tickets) x ≡ cond (t == x) (ends_as (at m.tickets x)) (at m.tickets x)
      go true live = at_ended m.tickets t x
      go false dead = at_unlive m.tickets t x dead

  at_cancelled : (m : Inbox D Op) (t x : ℕ) → at (cancelled_inbox m t).tickets x ≡ cond (t == x) (ends_as (at m.tickets x)) (at m.tickets x)
  at_cancelled m t x = go (is_live m.tickets t) refl
    where
      go : (b : Bool) → is_live m.tickets t ≡ b
          → at (let w : Inbox D Op = cond b (record (cond b (record m { tickets = ended m.tickets t; queue = record m.queue { overflow = filter (is_not_of t) m.queue.overflow } }) m) { cancelled = m.cancelled ++ t ∷ [] }) m in w.tickets) x ≡ cond (t == x) (ends_as (at m.tickets x)) (at m.tickets x)
      go true live = at_ended m.tickets t x
      go false dead = at_unlive m.tickets t x dead

  -- what a change leaves of the other tables
  pub record Apart (m left : Inbox D Op) : Type 0 where
    pub next : left.next_ticket ≡ m.next_ticket
    pub candidates : left.candidates ≡ m.candidates

  let_go_apart : (m : Inbox D Op) (t : ℕ) → Apart m (let_go m t)
  let_go_apart m t = go (is_live m.tickets t)
    where
      go : (b : Bool) → Apart m (cond b (record m { tickets = ended m.tickets t; queue = record m.queue { overflow = filter (is_not_of t) m.queue.overflow } }) m)
      go true = record { next = refl; candidates = refl }
      go false = record { next = refl; candidates = refl }

  cancelled_apart : (m : Inbox D Op) (t : ℕ) → Apart m (cancelled_inbox m t)
  cancelled_apart m t = go (is_live m.tickets t)
    where
      go : (b : Bool) → Apart m (cond b (record (cond b (record m { tickets = ended m.tickets t; queue = record m.queue { overflow = filter (is_not_of t) m.queue.overflow } }) m) { cancelled = m.cancelled ++ t ∷ [] }) m)
      go true = record { next = refl; candidates = refl }
      go false = record { next = refl; candidates = refl }

  offered_next : (m : Inbox D Op) (ts : List ℕ) (r : Response Op) → (offered_each m ts r).next_ticket ≡ m.next_ticket
  offered_next m [] r = refl
  offered_next m (t ∷ ts) r = offered_next (offered m t r) ts r

  -- what waits, by the history
  pub record IsWaiting (operations : Format Op) (h : List (Entry D)) (m : Inbox D Op) : Type 0 where
    pub some : (t : ℕ) (r : Response Op) → waiting_for m t ≡ Some r → WaitsFor operations h t r
    pub none : (t : ℕ) → waiting_for m t ≡ None → (r : Response Op) → WaitsFor operations h t r → ⊥

  -- an entry that draws nothing and hands nothing out, at most ends a ticket
  idle_polled : (h : List (Entry D)) (m left : Inbox D Op) (e : Entry D) → left.next_ticket ≡ m.next_ticket → ((x : ℕ) → (at left.tickets x ≡ at m.tickets x) ⊎ (at left.tickets x ≡ ends_as (at m.tickets x)))
      → ((t : ℕ) → IsDrawn t e → ⊥) → ((t : ℕ) → Contains (outs_of e) (Candidate t) → ⊥) → IsPolled h m → IsPolled (h ++ e ∷ []) left
  idle_polled h m left e next same undrawn unhanded polled = record {
    stands = λ x. go x (same x);
    fresh = λ x above had. polled.fresh x (subst (λ n. n ≤ x) next above) (old x (once_split h e (λ before entry. Contains (outs_of entry) (Candidate x)) had));
  }
    where
      old : (x : ℕ) → HadCandidate h x ⊎ Contains (outs_of e) (Candidate x) → HadCandidate h x
      old x (inl was) = was
      old x (inr now) = absurd (unhanded x now)

      go : (x : ℕ) → (at left.tickets x ≡ at m.tickets x) ⊎ (at left.tickets x ≡ ends_as (at m.tickets x)) → StandsBy (h ++ e ∷ []) x (at left.tickets x)
      go x (inl is) = subst (StandsBy (h ++ e ∷ []) x) (sym is) (stands_on h e x (at m.tickets x) (undrawn x) (unhanded x) (polled.stands x))
      go x (inr is) = subst (StandsBy (h ++ e ∷ []) x) (sym is) (stands_on h e x (ends_as (at m.tickets x)) (undrawn x) (unhanded x) (stands_ended h x (at m.tickets x) (polled.stands x)))

  idle_waiting : (operations : Format Op) (h : List (Entry D)) (m left : Inbox D Op) (e : Entry D) → left.candidates ≡ m.candidates → ((t : ℕ) → Retakes t e → ⊥) → ((t : ℕ) (r : Response Op) → HandsOver operations t r e → ⊥)
      → IsWaiting operations h m → IsWaiting operations (h ++ e ∷ []) left
  idle_waiting operations h m left e same untaken' unhanded waiting = record {
    some = λ t r is. since_before h e (HandsOver operations t r) (Retakes t) (waiting.some t r (sym (ap (λ w. at w t) same) ∙ is)) (untaken' t);
    none = λ t is r waits. old t is r (since_split h e (HandsOver operations t r) (Retakes t) waits);
  }
    where
      old : (t : ℕ) → waiting_for left t ≡ None → (r : Response Op) → HandsOver operations t r e ⊎ (Since (HandsOver operations t r) (Retakes t) h × (Retakes t e → ⊥)) → ⊥
      old t is r (inl now) = unhanded t r now
      old t is r (inr was) = waiting.none t (sym (ap (λ w. at w t) same) ∙ is) r was.0

  asked_polled : (h : List (Entry D)) (m : Inbox D Op) (t : ℕ) (key : Request) (feedback : Reply) (left : Inbox D Op) → Asks m key feedback t left → IsPolled h m → IsPolled (h ++ Asked t key ∷ []) left
  asked_polled h m t key feedback left asks polled = record {
    stands = λ x. subst (StandsBy (h ++ e ∷ []) x) (sym (ap (λ (w : Inbox D Op). at w.tickets x) asks.others ∙ at-put m.tickets t Open x)) (go x (t == x) refl);
    fresh = λ x above had. let up = subst (λ n. n ≤ x) (ap (λ (w : Inbox D Op). w.next_ticket) asks.others) above in let d = asks.drawn in polled.fresh x (omega arith) (old x (once_split h e (λ before entry. Contains (outs_of entry) (Candidate x)) had));
  }
    where
      e : Entry D
      e = Asked t key

      old : (x : ℕ) → HadCandidate h x ⊎ Contains [] (Candidate x) → HadCandidate h x
      old x (inl was) = was
      old x (inr now) = absurd (in_none (Candidate x) now)

      go : (x : ℕ) (b : Bool) → (t == x) ≡ b → StandsBy (h ++ Asked t key ∷ []) x (cond b (Some Open) (at m.tickets x))
      go x true same =
          let is = eqb-true t x same in
          (once_here h e (λ before entry. IsDrawn x entry) (key, (is, refl)), λ had. polled.fresh x (let d = asks.drawn in omega arith) (old x (once_split h e (λ before entry. Contains (outs_of entry) (Candidate x)) had)))
      go x false other = stands_on h e x (at m.tickets x) (λ drawn. eqb-false t x other drawn.1.0) (λ there. in_none (Candidate x) there) (polled.stands x)

module _ {D Op : Type 0} (u : Setup D Op) (h : List (Entry D)) (s : State D) (m : Inbox D Op) (task : Task D) (outs : List ActorOut) (now : IsCurrent h s) (here : IsPlaced h m) (polled : IsPolled h m) (waiting : IsWaiting u.operations h m) where
  -- an event that hands nothing out
  quiet : (left : Inbox D Op) → left.next_ticket ≡ m.next_ticket → left.candidates ≡ m.candidates → ((x : ℕ) → (at left.tickets x ≡ at m.tickets x) ⊎ (at left.tickets x ≡ ends_as (at m.tickets x))) → ((t : ℕ) → Contains outs (Candidate t) → ⊥)
      → IsPolled (h ++ Stepped task outs ∷ []) left × IsWaiting u.operations (h ++ Stepped task outs ∷ []) left
  quiet left next candidates same unhanded =
      (idle_polled h m left (Stepped task outs) next same (λ t drawn. drawn.1) unhanded polled, idle_waiting u.operations h m left (Stepped task outs) candidates unhanded (λ t r over. unhanded t (unover task t r over)) waiting)
    where
      unover : (task : Task D) (t : ℕ) (r : Response Op) → HandsOver u.operations t r (Stepped task outs) → Contains outs (Candidate t)
      unover (tasks.Deliver d key bytes) t r over = over.0
      unover (tasks.Hear message) t r over = absurd over
      unover (tasks.Judge v valid) t r over = absurd over
      unover (tasks.Leave v) t r over = absurd over
      unover (tasks.Produce n key) t r over = absurd over

module _ {D Op : Type 0} (u : Setup D Op) (h : List (Entry D)) (s : State D) (m : Inbox D Op) (outs : List ActorOut) (now : IsCurrent h s) (here : IsPlaced h m) (polled : IsPolled h m) (waiting : IsWaiting u.operations h m) where
  -- a delivery that tickets take
  handed : (d : ℕ) (key : Request) (bytes : List ℕ) (takers : List ℕ) (response : Response Op) → tables.Takes s key takers → IsResponse u.operations key bytes response
      → ((t : ℕ) → Contains outs (Candidate t) → Contains takers t) → ((t : ℕ) → Contains takers t → Contains outs (Candidate t))
      → IsPolled (h ++ Stepped (tasks.Deliver d key bytes) outs ∷ []) (offered_each m takers response) × IsWaiting u.operations (h ++ Stepped (tasks.Deliver d key bytes) outs ∷ []) (offered_each m takers response)
  handed d key bytes takers response takes is into outof = (
    record {
      stands = λ x. subst (StandsBy (h ++ e ∷ []) x) (sym (at_offered m takers response x)) (stands x (has takers x) refl);
      fresh = λ x above had. fresh x (subst (λ n. n ≤ x) (offered_next m takers response) above) (once_split h e (λ before entry. Contains (outs_of entry) (Candidate x)) had);
    },
    record {
      some = λ x r found. some x r (has takers x) refl (waits_offered m takers response x) found;
      none = λ x found r waits. none x r (has takers x) refl (waits_offered m takers response x) found (since_split h e (HandsOver u.operations x r) (Retakes x) waits);
    },
  )
    where
      e : Entry D
      e = Stepped (tasks.Deliver d key bytes) outs

      live : (x : ℕ) → Contains takers x → is_live m.tickets x ≡ true
      live x there = (here.live x).1 ((now.subs x key).0 ((takes.are.members x).0 (Contains-filter (is_free s.unjudged) takes.subscribers x (subst (λ w. Contains w x) takes.free there)))).0

      stands : (x : ℕ) (b : Bool) → has takers x ≡ b → StandsBy (h ++ Stepped (tasks.Deliver d key bytes) outs ∷ []) x (cond b (answers_as (at m.tickets x)) (at m.tickets x))
      stands x true there = stands_answered (h ++ e ∷ []) x (at m.tickets x) (live x (there_has takers x there)) (once_here h e (λ before entry. Contains (outs_of entry) (Candidate x)) (outof x (there_has takers x there)))
      stands x false absent = stands_on h e x (at m.tickets x) (λ drawn. drawn.1) (λ there. let yes' = has_there takers x (into x there) in let never : ⊥ = cc in never) (polled.stands x)

      fresh : (x : ℕ) → m.next_ticket ≤ x → HadCandidate h x ⊎ Contains outs (Candidate x) → ⊥
      fresh x above (inl was) = polled.fresh x above was
      fresh x above (inr there) = let l = live x (into x there) in let z = ap stands_live (here.fresh x above) in let never : ⊥ = cc in never

      same_some : (x y : Response Op) → ◌≡◌ {A = Option (Response Op)} (Some x) (Some y) → x ≡ y
      same_some x y e = cc

      some : (x : ℕ) (r : Response Op) (b : Bool) → has takers x ≡ b → waiting_for (offered_each m takers response) x ≡ cond (has takers x) (Some response) (waiting_for m x) → waiting_for (offered_each m takers response) x ≡ Some r
          → WaitsFor u.operations (h ++ Stepped (tasks.Deliver d key bytes) outs ∷ []) x r
      some x r true there is' found =
          let r_is : response ≡ r = same_some response r (sym (is' ∙ ap (λ b. cond b (Some response) (waiting_for m x)) there) ∙ found) in
          since_here h e (HandsOver u.operations x r) (Retakes x) (outof x (there_has takers x there), subst (IsResponse u.operations key bytes) r_is is)
      some x r false absent is' found =
          since_before h e (HandsOver u.operations x r) (Retakes x) (waiting.some x r (sym (is' ∙ ap (λ b. cond b (Some response) (waiting_for m x)) absent) ∙ found))
          (λ there. let yes' = has_there takers x (into x there) in let never : ⊥ = cc in never)

      none : (x : ℕ) (r : Response Op) (b : Bool) → has takers x ≡ b → waiting_for (offered_each m takers response) x ≡ cond (has takers x) (Some response) (waiting_for m x) → waiting_for (offered_each m takers response) x ≡ None
          → (Contains outs (Candidate x) × IsResponse u.operations key bytes r) ⊎ (Since (HandsOver u.operations x r) (Retakes x) h × (Contains outs (Candidate x) → ⊥)) → ⊥
      none x r true there is' found waits = none_some response (sym found ∙ is' ∙ ap (λ b. cond b (Some response) (waiting_for m x)) there)
      none x r false absent is' found (inl over) = let yes' = has_there takers x (into x over.0) in cc
      none x r false absent is' found (inr was) = waiting.none x (sym (is' ∙ ap (λ b. cond b (Some response) (waiting_for m x)) absent) ∙ found) r was.0

module _ {D Op : Type 0} (u : Setup D Op) where
  heard_outs : (s : State D) (m : Inbox D Op) (message : Message D) (done : List ActorOut) (next : State D) → Hears s m message done next → All IsUnhanded done
  heard_outs s m message done next resolving.attaches = All-nil IsUnhanded
  heard_outs s m message done next (resolving.fetches {t = t} {key = key} live) = all_one IsUnhanded (Fetch t key) tt
  heard_outs s m message done next (resolving.passes_over dead) = All-nil IsUnhanded

  judged_tickets : (s : State D) (m : Inbox D Op) (t : ℕ) (valid : Bool) (done : List ActorOut) (next : State D) (left : Inbox D Op) → Judges s m t valid done next left → Apart m left × ((x : ℕ) → (at left.tickets x ≡ at m.tickets x) ⊎ (at left.tickets x ≡ ends_as (at m.tickets x)))
  judged_tickets s m t valid done next left (resolving.accepts rel) = (record { next = refl; candidates = refl }, λ x. either t x (at m.tickets x) (at (ended m.tickets t) x) (at_ended m.tickets t x))
  judged_tickets s m t valid done next left (resolving.rejects rel) = (record { next = refl; candidates = refl }, λ x. inl refl)

  left_tickets : (s : State D) (m : Inbox D Op) (t : ℕ) (done : List ActorOut) (next : State D) (left : Inbox D Op) → Leaves s m t done next left → Apart m left × ((x : ℕ) → (at left.tickets x ≡ at m.tickets x) ⊎ (at left.tickets x ≡ ends_as (at m.tickets x)))
  left_tickets s m t done next left (Leaves.leaves f) = (let_go_apart m t, λ x. either t x (at m.tickets x) (at (let_go m t).tickets x) (at_let_go m t x))
  left_tickets s m t done next left (resolving.leaves_unfetched f) = (let_go_apart m t, λ x. either t x (at m.tickets x) (at (let_go m t).tickets x) (at_let_go m t x))

  module _ (h : List (Entry D)) (s : State D) (m : Inbox D Op) (outs : List ActorOut) (now : IsCurrent h s) (here : IsPlaced h m) (polled : IsPolled h m) (waiting : IsWaiting u.operations h m) where
    delivered_polled : (d : ℕ) (key : Request) (bytes : List ℕ) (done : List ActorOut) (next : State D) (left : Inbox D Op) → ((t : ℕ) → Contains outs (Candidate t) → Contains done (Candidate t)) → ((x : ActorOut) → Contains done x → Contains outs x) → fanout.Delivers u.operations s m d key bytes done next left
        → IsPolled (h ++ Stepped (tasks.Deliver d key bytes) outs ∷ []) left × IsWaiting u.operations (h ++ Stepped (tasks.Deliver d key bytes) outs ∷ []) left
    delivered_polled d key bytes done next left into outof (fanout.unheard x) =
        quiet u h s m (tasks.Deliver d key bytes) outs now here polled waiting m refl refl (λ x. inl refl) (λ t there. All-contains IsUnhanded (Unjudged d ∷ []) (Candidate t) (all_one IsUnhanded (Unjudged d) tt) (into t there))
    delivered_polled d key bytes done next left into outof (fanout.malformed x y) =
        quiet u h s m (tasks.Deliver d key bytes) outs now here polled waiting m refl refl (λ x. inl refl) (λ t there. All-contains IsUnhanded (Feedback d false ∷ []) (Candidate t) (all_one IsUnhanded (Feedback d false) tt) (into t there))
    delivered_polled d key bytes done next left into outof (fanout.untaken x y) =
        quiet u h s m (tasks.Deliver d key bytes) outs now here polled waiting m refl refl (λ x. inl refl) (λ t there. All-contains IsUnhanded (Unjudged d ∷ []) (Candidate t) (all_one IsUnhanded (Unjudged d) tt) (into t there))
    delivered_polled d key bytes done next left into outof (fanout.taken {takers = takers} {response = response} takes some is) =
        handed u h s m outs now here polled waiting d key bytes takers response takes is (λ t there. candidate_in takers t (into t there)) (λ t there. outof (Candidate t) (in_candidate takers t there))

    done_polled : (event : ActorEvent) (task : Task D) (done : List ActorOut) (next : State D) (left : Inbox D Op) → ((t : ℕ) → Contains outs (Candidate t) → Contains done (Candidate t)) → ((x : ActorOut) → Contains done x → Contains outs x) → Does u s m event done next left → Takes m left event task
        → IsPolled (h ++ Stepped task outs ∷ []) left × IsWaiting u.operations (h ++ Stepped task outs ∷ []) left
    done_polled event task done next left into outof (Does.hears {message = message} hands are p) (Takes.hears {message = other} handed) =
        quiet u h s m (tasks.Hear other) outs now here polled waiting left (ap (λ (w : Inbox D Op). w.next_ticket) are) (ap (λ (w : Inbox D Op). w.candidates) are) (λ x. inl (ap (λ (w : Inbox D Op). at w.tickets x) are))
        (λ t there. All-contains IsUnhanded done (Candidate t) (heard_outs s m message done next p) (into t there))
    done_polled event task done next left into outof (Does.delivers {d = d} {key = key} {bytes = bytes} p) Takes.delivers = delivered_polled d key bytes done next left into outof p
    done_polled event task done next left into outof (Does.judges {t = t} {valid = valid} p) Takes.judges =
        let change = judged_tickets s m t valid done next left p in
        quiet u h s m (tasks.Judge t valid) outs now here polled waiting left change.0.next change.0.candidates change.1 (λ x there. All-contains IsUnhanded done (Candidate x) (all_judged IsUnhanded (λ t. tt) (λ d v. tt) (λ d. tt) s m t valid done next left p) (into x there))
    done_polled event task done next left into outof (Does.leaves {t = t} p) Takes.leaves =
        let change = left_tickets s m t done next left p in
        quiet u h s m (tasks.Leave t) outs now here polled waiting left change.0.next change.0.candidates change.1 (λ x there. All-contains IsUnhanded done (Candidate x) (all_left IsUnhanded (λ t. tt) (λ d v. tt) (λ d. tt) s m t done next left p) (into x there))
    done_polled event task done next left into outof (Does.produces {n = n} {key = key} p) Takes.produces =
        quiet u h s m (tasks.Produce n key) outs now here polled waiting m refl refl (λ x. inl refl) (λ x there. All-contains IsUnhanded done (Candidate x) (all_produced IsUnhanded {Op = Op} (λ n bytes. tt) (λ n. tt) u s n key done next p) (into x there))

  -- the candidate that a poll takes waits no more
  polled_waiting : (h : List (Entry D)) (m : Inbox D Op) (t : ℕ) → IsPlaced h m → IsPolled h m → IsWaiting u.operations h m → IsPolled (h ++ Polled t ∷ []) (taken_out m t) × IsWaiting u.operations (h ++ Polled t ∷ []) (taken_out m t)
  polled_waiting h m t here polled waiting = go (is_dropped m.tickets t) refl
    where
      e : Entry D
      e = Polled t

      had : (x : ℕ) (r : Response Op) → WaitsFor u.operations h x r → HadCandidate h x
      had x r waits = record { before = waits.before; entry = waits.entry; after = waits.after; place = waits.place; here = over waits.entry waits.begins }
        where
          over : (entry : Entry D) → HandsOver u.operations x r entry → Contains (outs_of entry) (Candidate x)
          over (Stepped (tasks.Deliver d key bytes) outs) both = both.0
          over entry both = absurd both

      -- what waits at the other tickets
      others : (candidates : List (ℕ × Response Op)) → ((x : ℕ) → (t == x) ≡ false → at candidates x ≡ at m.candidates x) → at candidates t ≡ None → IsWaiting u.operations (h ++ Polled t ∷ []) (record m { candidates = candidates })
      others candidates same gone = record {
        some = λ x r is. some x r (t == x) refl is;
        none = λ x is r waits. none x r (t == x) refl is (since_split h e (HandsOver u.operations x r) (Retakes x) waits);
      }
        where
          some : (x : ℕ) (r : Response Op) (b : Bool) → (t == x) ≡ b → at candidates x ≡ Some r → WaitsFor u.operations (h ++ Polled t ∷ []) x r
          some x r true here is = absurd (none_some r (sym gone ∙ ap (at candidates) (eqb-true t x here) ∙ is))
          some x r false other is = since_before h e (HandsOver u.operations x r) (Retakes x) (waiting.some x r (sym (same x other) ∙ is)) (λ now. eqb-false t x other now)

          none : (x : ℕ) (r : Response Op) (b : Bool) → (t == x) ≡ b → at candidates x ≡ None → ⊥ ⊎ (Since (HandsOver u.operations x r) (Retakes x) h × (t ≡ x → ⊥)) → ⊥
          none x r b here is (inl never) = never
          none x r true here is (inr was) = was.1 (eqb-true t x here)
          none x r false other is (inr was) = waiting.none x (sym (same x other) ∙ is) r was.0

      nothing_there : is_dropped m.tickets t ≡ true → (found : Option (Response Op)) → at m.candidates t ≡ found → found ≡ None
      nothing_there dropped None is = refl
      nothing_there dropped (Some r) is = absurd (((dropped_law h m here polled t).0 dropped).2 (had t r (waiting.some t r is)))

      go : (b : Bool) → is_dropped m.tickets t ≡ b → IsPolled (h ++ Polled t ∷ []) (cond b m (record m { candidates = without m.candidates t })) × IsWaiting u.operations (h ++ Polled t ∷ []) (cond b m (record m { candidates = without m.candidates t }))
      go true dropped = (idle_polled h m m e refl (λ x. inl refl) (λ x drawn. drawn.1) (λ x there. in_none (Candidate x) there) polled, others m.candidates (λ x other. refl) (nothing_there dropped (at m.candidates t) refl))
      go false kept = (
        idle_polled h m (record m { candidates = without m.candidates t }) e refl (λ x. inl refl) (λ x drawn. drawn.1) (λ x there. in_none (Candidate x) there) polled,
        others (without m.candidates t) (λ x other. at-without m.candidates t x ∙ ap (λ b. cond b None (at m.candidates x)) other) (at-without m.candidates t t ∙ ap (λ b. cond b None (at m.candidates t)) (eq-eqb t t refl)),
      )

  pub turn_polled : (h : List (Entry D)) (s : State D) (m : Inbox D Op) (e : Entry D) (next : State D) (left : Inbox D Op) → Turns u s m e next left → IsPlaced h m → IsTold h s m.cancelled → IsPolled h m → IsWaiting u.operations h m → IsPolled (h ++ e ∷ []) left × IsWaiting u.operations (h ++ e ∷ []) left
  turn_polled h s m e next left (Turns.asks {t = t} {key = key} {feedback = feedback} asks) here told polled waiting =
      (asked_polled h m t key feedback left asks polled, idle_waiting u.operations h m left e (ap (λ (w : Inbox D Op). w.candidates) asks.others) (λ x never. never) (λ x r never. never) waiting)
  turn_polled h s m e next left (Turns.attaches sent_db) here told polled waiting = (
    idle_polled h m left e (ap (λ (w : Inbox D Op). w.next_ticket) sent_db.others) (λ x. inl (ap (λ (w : Inbox D Op). at w.tickets x) sent_db.others)) (λ x drawn. drawn.1) (λ x there. in_none (Candidate x) there) polled,
    idle_waiting u.operations h m left e (ap (λ (w : Inbox D Op). w.candidates) sent_db.others) (λ x never. never) (λ x r never. never) waiting,
  )
  turn_polled h s m e next left (Turns.cancels {t = t}) here told polled waiting =
      let apart = cancelled_apart m t in (
        idle_polled h m left e apart.next (λ x. either t x (at m.tickets x) (at (cancelled_inbox m t).tickets x) (at_cancelled m t x)) (λ x drawn. drawn.1) (λ x there. in_none (Candidate x) there) polled,
        idle_waiting u.operations h m left e apart.candidates (λ x never. never) (λ x r never. never) waiting,
      )
  turn_polled h s m e next left (Turns.polls {t = t}) here told polled waiting = polled_waiting h m t here polled waiting
  turn_polled h s m e next left (Turns.steps {event = event} {task = task} {outs = outs} comes takes steps) here told polled waiting =
      let own = within u s m event outs next left steps in
      let now = between_current u h s m event outs next left steps told in
      done_polled h steps.between (record m { cancelled = [] }) outs now (placed_same u h m here) (record { stands = polled.stands; fresh = polled.fresh }) (record { some = waiting.some; none = waiting.none })
      event task steps.done next left own.handed_in own.all_out steps.does (same_takes m left event task takes)
