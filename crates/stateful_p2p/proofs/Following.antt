-- That the tables of a resolver follow its history.
use Rattle.std.proofs.Common.{◌≡◌, ℕ, ◌==◌, ◌↔◌, Bool, true, false, not, cond, ◌||◌, Option, Some, None, List, [], ◌∷◌, ◌++◌, map, filter, All, Contains, ◌⊎◌, inl, inr, refl, sym, ap, subst, ◌∙◌, arith}
use Rattle.std.specs.Option.{is_some}
use Rattle.std.proofs.lemmas.Bool.{eqb-true, eqb-false, eq-eqb}
use Rattle.std.proofs.lemmas.List.Elements.{All-contains, filter_passes, Contains-append_right}
use Rattle.std.proofs.lemmas.List.Sorted.{list_any-IsPermutation}
use Rattle.stateful_base.specs.Format.{Format}
use Rattle.stateful_types.specs.Mailbox.{messages}
use Rattle.stateful_types.specs.declared.request.Request.{Request}
use Rattle.stateful_types.specs.declared.mailbox.Feedback.{Feedback as Reply}
use Rattle.stateful_types.specs.declared.response.Response.{Response}
use Rattle.stateful_table.specs.Table.{at, put, without, put_each}
use Rattle.stateful_p2p.specs.Tickets.{is_live, is_dropped, ended}
use Rattle.stateful_p2p.specs.Messages.{is_not_of}
use Rattle.stateful_p2p_tables.specs.Subscribing.{subscribed}
use Rattle.stateful_p2p.specs.Inbox.{Inbox, Asks, cancelled as cancelled_inbox, let_go, taken_out, offered, offered_each, empty_inbox}
use Rattle.stateful_p2p_tables.specs.New.{IsNew}
use Rattle.stateful_p2p_tables.specs.Deliveries.{is_free, Releases, has_none, releases, Forgets, stranger, forgets, Retires, awaiting}
use Rattle.stateful_p2p.specs.Fanout.{delivered, Delivers, unheard, malformed, untaken, taken}
use Rattle.stateful_p2p_tables.specs.Deliveries as tables
use Rattle.stateful_p2p.specs.Resolving.{Setup, Hears, attaches, fetches, passes_over, Judges, accepts, rejects, Leaves, leaves_unfetched, Does, Steps}
use Rattle.stateful_p2p.specs.History.{Entry, Asked, Cancelled, Stepped, outs_of, Since, Takes, Turns}
use Rattle.stateful_p2p.specs.Laws.{IsDrawn, Ends, IsLive, WasFetched, IsSubscriber, Hands, Replies, HasToJudge, is_fetch_of, is_request_of}
use Rattle.stateful_p2p_tables.specs.declared.state.State.{State}
use Rattle.stateful_p2p.specs.declared.message.Message.{Message}
use Rattle.stateful_p2p.specs.declared.message.Message.TheVariants.{GetOperations}
use Rattle.stateful_p2p.specs.declared.actor.Task.{Task}
use Rattle.stateful_p2p.specs.declared.actor.Task.TheVariants as tasks
use Rattle.stateful_p2p.specs.declared.event.ActorEvent.{ActorEvent}
use Rattle.stateful_p2p_tables.specs.declared.out.ActorOut.{ActorOut}
use Rattle.stateful_p2p_tables.specs.declared.out.ActorOut.TheVariants.{Fetch, Candidate, Feedback, Unjudged}
use Rattle.stateful_table.proofs.Tables.{at-put, at-without}
use Rattle.stateful_p2p.proofs.Histories.{once_before, once_split, since_before, since_split, since_none, once_none}
use Rattle.stateful_p2p.proofs.Moving.{in_cons, in_none, Contains-filter}
use Rattle.stateful_p2p.proofs.Putting.{count_there, once_counted, all_one, all_judged, all_left, all_delivered, all_produced}
use Rattle.stateful_p2p.proofs.Placing.{IsPlaced, placed_first, same_takes}
use Rattle.stateful_p2p.proofs.Fetching.{IsOther, in_done}
use Rattle.stateful_p2p.proofs.Current.{has, has_there, there_has, has_push, none_some, there_is, Held, released_clears, released_same, Gone, forgot_gone, gone_held, IsCurrent, IsTold, heard_current, current_told, Follows, current_more}

-- ---- one place of a table

-- a value that is left where one place is cleared
cleared : {V N : Type 0} (t x : ℕ) (before after : Option V) (v : V) → after ≡ cond (t == x) None before → (N → ⊥) → (after ≡ Some v) ↔ (((before ≡ Some v) × (t ≡ x → ⊥)) ⊎ N)
cleared {V} {N} t x before after v is nothing = go (t == x) refl is
  where
    back : (b : Bool) → (t == x) ≡ b → after ≡ cond b None before → ((before ≡ Some v) × (t ≡ x → ⊥)) ⊎ N → after ≡ Some v
    back true same e (inl both) = absurd (both.1 (eqb-true t x same))
    back false other e (inl both) = e ∙ both.0
    back b here e (inr n) = absurd (nothing n)

    go : (b : Bool) → (t == x) ≡ b → after ≡ cond b None before → (after ≡ Some v) ↔ (((before ≡ Some v) × (t ≡ x → ⊥)) ⊎ N)
    go true same e = (λ l. absurd (none_some v (sym e ∙ l)), back true same e)
    go false other e = (λ l. inl (sym e ∙ l, λ same. eqb-false t x other same), back false other e)

-- a value that stays
stays : {V N M : Type 0} (before after : Option V) (v : V) → after ≡ before → (N → ⊥) → (M → ⊥) → (after ≡ Some v) ↔ (((before ≡ Some v) × (N → ⊥)) ⊎ M)
stays {V} {N} {M} before after v is never nothing = (λ l. inl (sym is ∙ l, never), back)
  where
    back : ((before ≡ Some v) × (N → ⊥)) ⊎ M → after ≡ Some v
    back (inl both) = is ∙ both.0
    back (inr n) = absurd (nothing n)

pub at_each : {V : Type 0} (table : List (ℕ × V)) (ts : List ℕ) (v : V) (x : ℕ) → at (put_each table ts v) x ≡ cond (has ts x) (Some v) (at table x)
at_each table [] v x = refl
at_each table (t ∷ ts) v x = at_each (put table t v) ts v x ∙ ap (λ w. cond (has ts x) (Some v) w) (at-put table t v x) ∙ go (t == x) (has ts x)
  where
    go : (a b : Bool) → cond b (Some v) (cond a (Some v) (at table x)) ≡ cond (a || b) (Some v) (at table x)
    go true true = refl
    go true false = refl
    go false b = refl

-- ---- what an event does

module _ {D : Type 0} where
  -- nobody is ended, fetched for, handed anything, or replies
  follows_same : (h : List (Entry D)) (s : State D) (e : Entry D) (next : State D) → next.subscriptions ≡ s.subscriptions → next.unjudged ≡ s.unjudged → Held s
      → ((t : ℕ) → IsDrawn t e → ⊥) → ((t : ℕ) → Ends t e → ⊥) → ((t : ℕ) (key : Request) → Contains (outs_of e) (Fetch t key) → ⊥) → ((t : ℕ) → Replies t e → ⊥) → ((t d : ℕ) → Hands t d e → ⊥)
      → Follows h s e next
  follows_same h s e next subs unjudged held undrawn unended unfetched unreplied unhanded = record {
    held = λ t d there. subst (λ w. is_some (at w t) ≡ true) (sym subs) (held t d (subst (λ w. at w t ≡ Some d) unjudged there));
    undrawn = undrawn;
    fetched_live = λ t key there. absurd (unfetched t key there);
    subs = λ t key. stays (at s.subscriptions t) (at next.subscriptions t) key (ap (λ w. at w t) subs) (unended t) (unfetched t key);
    unjudged = λ t d. stays (at s.unjudged t) (at next.unjudged t) d (ap (λ w. at w t) unjudged) (unreplied t) (unhanded t d);
  }

  -- a ticket of which nothing is left
  follows_gone : (h : List (Entry D)) (s : State D) (t : ℕ) (e : Entry D) (next : State D) → Gone t s next → Held s
      → ((x : ℕ) → IsDrawn x e → ⊥) → ((x : ℕ) → Ends x e ↔ (t ≡ x)) → ((x : ℕ) (key : Request) → Contains (outs_of e) (Fetch x key) → ⊥) → ((x : ℕ) → Replies x e ↔ (t ≡ x)) → ((x d : ℕ) → Hands x d e → ⊥)
      → Follows h s e next
  follows_gone h s t e next gone held undrawn ends unfetched replies unhanded = record {
    held = gone_held s t next held gone;
    undrawn = undrawn;
    fetched_live = λ x key there. absurd (unfetched x key there);
    subs = λ x key. let c = cleared t x (at s.subscriptions x) (at next.subscriptions x) key (gone.subs x) (unfetched x key) in both (Ends x e) (t ≡ x) (at s.subscriptions x ≡ Some key) (at next.subscriptions x ≡ Some key) (Contains (outs_of e) (Fetch x key)) (ends x) c;
    unjudged = λ x d. let c = cleared t x (at s.unjudged x) (at next.unjudged x) d (gone.unjudged x) (unhanded x d) in both (Replies x e) (t ≡ x) (at s.unjudged x ≡ Some d) (at next.unjudged x ≡ Some d) (Hands x d e) (replies x) c;
  }
    where
      both : (A B P Q N : Type 0) → (A ↔ B) → (Q ↔ ((P × (B → ⊥)) ⊎ N)) → Q ↔ ((P × (A → ⊥)) ⊎ N)
      both A B P Q N same c = (λ q. to (c.0 q), λ w. c.1 (from w))
        where
          to : (P × (B → ⊥)) ⊎ N → (P × (A → ⊥)) ⊎ N
          to (inl p) = inl (p.0, λ a. p.1 (same.0 a))
          to (inr n) = inr n

          from : (P × (A → ⊥)) ⊎ N → (P × (B → ⊥)) ⊎ N
          from (inl p) = inl (p.0, λ b. p.1 (same.1 b))
          from (inr n) = inr n

  -- a verdict that leaves the ticket open
  follows_rejected : (h : List (Entry D)) (s : State D) (t : ℕ) (settled : Option ActorOut) (next : State D) (outs : List ActorOut) → Held s → Releases s t (Some false) settled next → ((x : ℕ) (key : Request) → Contains outs (Fetch x key) → ⊥)
      → Follows h s (Stepped (tasks.Judge t false) outs) next
  follows_rejected h s t settled next outs held rel unfetched = record {
    held = λ x d there. held_on x d (t == x) refl (released_clears s t (Some false) settled next rel x) there;
    undrawn = λ x drawn. drawn.1;
    fetched_live = λ x key there. absurd (unfetched x key there);
    subs = λ x key. stays (at s.subscriptions x) (at next.subscriptions x) key (ap (λ w. at w x) (released_same s t (Some false) settled next rel)) (λ never. never) (unfetched x key);
    unjudged = λ x d. cleared t x (at s.unjudged x) (at next.unjudged x) d (released_clears s t (Some false) settled next rel x) (λ never. never);
  }
    where
      held_on : (x d : ℕ) (b : Bool) → (t == x) ≡ b → at next.unjudged x ≡ cond b None (at s.unjudged x) → at next.unjudged x ≡ Some d → is_some (at next.subscriptions x) ≡ true
      held_on x d true same e there = absurd (none_some d (sym e ∙ there))
      held_on x d false other e there = ap (λ w. is_some (at w x)) (released_same s t (Some false) settled next rel) ∙ held x d (sym e ∙ there)

  pub accepted_gone : (s : State D) (t : ℕ) (settled : Option ActorOut) (mid : State D) → Releases s t (Some true) settled mid → Gone t s (record mid { subscriptions = without mid.subscriptions t })
  accepted_gone s t settled mid rel = record {
    subs = λ x. at-without mid.subscriptions t x ∙ ap (λ w. cond (t == x) None (at w x)) (released_same s t (Some true) settled mid rel);
    unjudged = released_clears s t (Some true) settled mid rel;
  }

module _ {D Op : Type 0} where
  follows_judged : (h : List (Entry D)) (s : State D) (m : Inbox D Op) (t : ℕ) (valid : Bool) (done : List ActorOut) (next : State D) (left : Inbox D Op) (outs : List ActorOut) → Held s → Judges s m t valid done next left → ((x : ℕ) (key : Request) → Contains outs (Fetch x key) → ⊥)
      → Follows h s (Stepped (tasks.Judge t valid) outs) next
  follows_judged h s m t valid done next left outs held (accepts {settled = settled} {next = mid} rel) unfetched =
      follows_gone h s t (Stepped (tasks.Judge t true) outs) next (accepted_gone s t settled mid rel) held (λ x drawn. drawn.1) (λ x. (λ e. e, λ e. e)) unfetched (λ x. (λ e. e, λ e. e)) (λ x d never. never)
  follows_judged h s m t valid done next left outs held (rejects {settled = settled} rel) unfetched = follows_rejected h s t settled next outs held rel unfetched

  follows_left : (h : List (Entry D)) (s : State D) (m : Inbox D Op) (t : ℕ) (done : List ActorOut) (next : State D) (left : Inbox D Op) (outs : List ActorOut) → Held s → Leaves s m t done next left → ((x : ℕ) (key : Request) → Contains outs (Fetch x key) → ⊥)
      → Follows h s (Stepped (tasks.Leave t) outs) next
  follows_left h s m t done next left outs held (Leaves.leaves {settled = settled} f) unfetched =
      follows_gone h s t (Stepped (tasks.Leave t) outs) next (forgot_gone s t (Some settled) next held f) held (λ x drawn. drawn.1) (λ x. (λ e. e, λ e. e)) unfetched (λ x. (λ e. e, λ e. e)) (λ x d never. never)
  follows_left h s m t done next left outs held (leaves_unfetched f) unfetched =
      follows_gone h s t (Stepped (tasks.Leave t) outs) next (forgot_gone s t None next held f) held (λ x drawn. drawn.1) (λ x. (λ e. e, λ e. e)) unfetched (λ x. (λ e. e, λ e. e)) (λ x d never. never)

  -- a message: at most a ticket for which nothing was fetched before is fetched for
  follows_heard : (h : List (Entry D)) (s : State D) (m : Inbox D Op) (message other : Message D) (done : List ActorOut) (next : State D) (outs : List ActorOut) → IsCurrent h s → Hears s m message done next
      → ((t : ℕ) (key : Request) → Contains outs (Fetch t key) → Contains done (Fetch t key)) → ((t : ℕ) (key : Request) → Contains done (Fetch t key) → Contains outs (Fetch t key))
      → ((t : ℕ) → is_live m.tickets t ≡ true → IsLive h t)
      → ((t : ℕ) (key k : Request) → message ≡ GetOperations t key → WasFetched h t k → ⊥)
      → Follows h s (Stepped (tasks.Hear other) outs) next
  follows_heard h s m message other done next outs now attaches into outof live new = follows_same h s (Stepped (tasks.Hear other) outs) next refl refl now.held (λ t drawn. drawn.1) (λ t never. never) (λ t key there. in_none (Fetch t key) (into t key there)) (λ t never. never) (λ t d never. never)
  follows_heard h s m message other done next outs now (passes_over dead) into outof live new = follows_same h s (Stepped (tasks.Hear other) outs) next refl refl now.held (λ t drawn. drawn.1) (λ t never. never) (λ t key there. in_none (Fetch t key) (into t key there)) (λ t never. never) (λ t d never. never)
  follows_heard h s m message other done next outs now (fetches {t = t} {key = key} alive) into outof live new = record {
    held = λ x d there. held x d there (t == x) (subbed x);
    undrawn = λ x drawn. drawn.1;
    fetched_live = λ x k there. (let e = one x k (into x k there) in live x (subst (λ w. is_live m.tickets w ≡ true) e.0 alive), λ never. never);
    subs = λ x k. (λ is. to x k (t == x) refl (subbed x) is, λ w. from x k (subbed x) w);
    unjudged = λ x d. stays (at s.unjudged x) (at next.unjudged x) d refl (λ never. never) (λ never. never);
  }
    where
      same_fetch : (v x : ℕ) (k j : Request) → Fetch v k ≡ Fetch x j → (v ≡ x) × (k ≡ j)
      same_fetch v x k j e = (cc, cc)

      one : (x : ℕ) (k : Request) → Contains (Fetch t key ∷ []) (Fetch x k) → (t ≡ x) × (key ≡ k)
      one x k there = go (in_cons (Fetch t key) [] (Fetch x k) there)
        where
          go : (Fetch t key ≡ Fetch x k) ⊎ Contains [] (Fetch x k) → (t ≡ x) × (key ≡ k)
          go (inl e) = same_fetch t x key k e
          go (inr c) = absurd (in_none (Fetch x k) c)

      subbed : (x : ℕ) → at (subscribed s.subscriptions t key) x ≡ cond (t == x) (Some key) (at s.subscriptions x)
      subbed x = at-put (without s.subscriptions t) t key x ∙ ap (λ w. cond (t == x) (Some key) w) (at-without s.subscriptions t x) ∙ go (t == x)
        where
          go : (b : Bool) → cond b (Some key) (cond b None (at s.subscriptions x)) ≡ cond b (Some key) (at s.subscriptions x)
          go true = refl
          go false = refl

      held : (x d : ℕ) → at s.unjudged x ≡ Some d → (b : Bool) → at (subscribed s.subscriptions t key) x ≡ cond b (Some key) (at s.subscriptions x) → is_some (at (subscribed s.subscriptions t key) x) ≡ true
      held x d there true e = ap is_some e
      held x d there false e = ap is_some e ∙ now.held x d there

      to : (x : ℕ) (k : Request) (b : Bool) → (t == x) ≡ b → at (subscribed s.subscriptions t key) x ≡ cond b (Some key) (at s.subscriptions x) → at (subscribed s.subscriptions t key) x ≡ Some k
          → ((at s.subscriptions x ≡ Some k) × (⊥ → ⊥)) ⊎ Contains outs (Fetch x k)
      to x k true same e is = inr (outof x k (0, omega arith, let a = eqb-true t x same in let b : Some key ≡ Some k = sym e ∙ is in let f : Fetch t key ≡ Fetch x k = cc in f))
      to x k false apart e is = inl (sym e ∙ is, λ never. never)

      from : (x : ℕ) (k : Request) → at (subscribed s.subscriptions t key) x ≡ cond (t == x) (Some key) (at s.subscriptions x) → ((at s.subscriptions x ≡ Some k) × (⊥ → ⊥)) ⊎ Contains outs (Fetch x k) → at (subscribed s.subscriptions t key) x ≡ Some k
      from x k e (inr c) = let same = one x k (into x k c) in e ∙ ap (λ b. cond b (Some key) (at s.subscriptions x)) (eq-eqb t x same.0) ∙ ap {B = Option Request} (λ w. Some w) same.1
      from x k e (inl both) = go (t == x) refl e
        where
          go : (b : Bool) → (t == x) ≡ b → at (subscribed s.subscriptions t key) x ≡ cond b (Some key) (at s.subscriptions x) → at (subscribed s.subscriptions t key) x ≡ Some k
          go true same e = absurd (new t key k refl (subst (λ w. WasFetched h w k) (sym (eqb-true t x same)) ((now.subs x k).0 both.0).1))
          go false apart e = e ∙ both.0

module _ {D : Type 0} where
  -- a candidate that tickets take
  follows_taken : (h : List (Entry D)) (s : State D) (d : ℕ) (key : Request) (bytes : List ℕ) (takers : List ℕ) (outs : List ActorOut) → IsCurrent h s → tables.Takes s key takers
      → ((t : ℕ) → Contains outs (Candidate t) → Contains takers t) → ((t : ℕ) → Contains takers t → Contains outs (Candidate t)) → ((x : ℕ) (k : Request) → Contains outs (Fetch x k) → ⊥)
      → Follows h s (Stepped (tasks.Deliver d key bytes) outs) (awaiting (delivered s d) d takers)
  follows_taken h s d key bytes takers outs now takes into outof unfetched = record {
    held = λ x e there. held x e (has takers x) refl (at_each s.unjudged takers d x) there;
    undrawn = λ x drawn. drawn.1;
    fetched_live = λ x k there. absurd (unfetched x k there);
    subs = λ x k. stays (at s.subscriptions x) (at s.subscriptions x) k refl (λ never. never) (unfetched x k);
    unjudged = λ x e. (λ is. to x e (has takers x) refl (at_each s.unjudged takers d x) is, λ w. from x e (at_each s.unjudged takers d x) w);
  }
    where
      free : (x : ℕ) → Contains takers x → is_free s.unjudged x ≡ true
      free x there = All-contains (λ t. is_free s.unjudged t ≡ true) takers x (subst (All (λ t. is_free s.unjudged t ≡ true)) (sym takes.free) (filter_passes (is_free s.unjudged) takes.subscribers)) there

      subscribes : (x : ℕ) → Contains takers x → at s.subscriptions x ≡ Some key
      subscribes x there = (takes.are.members x).0 (Contains-filter (is_free s.unjudged) takes.subscribers x (subst (λ w. Contains w x) takes.free there))

      held : (x e : ℕ) (b : Bool) → has takers x ≡ b → at (put_each s.unjudged takers d) x ≡ cond b (Some d) (at s.unjudged x) → at (put_each s.unjudged takers d) x ≡ Some e → is_some (at s.subscriptions x) ≡ true
      held x e true there is now_is = ap is_some (subscribes x (there_has takers x there))
      held x e false absent is now_is = now.held x e (sym is ∙ now_is)

      to : (x e : ℕ) (b : Bool) → has takers x ≡ b → at (put_each s.unjudged takers d) x ≡ cond b (Some d) (at s.unjudged x) → at (put_each s.unjudged takers d) x ≡ Some e
          → ((at s.unjudged x ≡ Some e) × (⊥ → ⊥)) ⊎ ((d ≡ e) × Contains outs (Candidate x))
      to x e true there is now_is = inr (let f : Some d ≡ Some e = sym is ∙ now_is in let g : d ≡ e = cc in g, outof x (there_has takers x there))
      to x e false absent is now_is = inl (sym is ∙ now_is, λ never. never)

      not_free : (found : Option ℕ) (e : ℕ) → not (is_some found) ≡ true → found ≡ Some e → ⊥
      not_free None e free is = cc
      not_free (Some x) e free is = cc

      from : (x e : ℕ) → at (put_each s.unjudged takers d) x ≡ cond (has takers x) (Some d) (at s.unjudged x) → ((at s.unjudged x ≡ Some e) × (⊥ → ⊥)) ⊎ ((d ≡ e) × Contains outs (Candidate x)) → at (put_each s.unjudged takers d) x ≡ Some e
      from x e is (inr both) = is ∙ ap (λ b. cond b (Some d) (at s.unjudged x)) (has_there takers x (into x both.1)) ∙ ap {B = Option ℕ} (λ w. Some w) both.0
      from x e is (inl both) = go (has takers x) refl is
        where
          go : (b : Bool) → has takers x ≡ b → at (put_each s.unjudged takers d) x ≡ cond b (Some d) (at s.unjudged x) → at (put_each s.unjudged takers d) x ≡ Some e
          go true there is = absurd (not_free (at s.unjudged x) e (free x (there_has takers x there)) both.0)
          go false absent is = is ∙ both.0

-- which tickets take the candidates that are put out
pub candidate_in : (takers : List ℕ) (t : ℕ) → Contains (map (λ w. Candidate w) takers) (Candidate t) → Contains takers t
candidate_in [] t there = absurd (in_none (Candidate t) there)
candidate_in (w ∷ takers) t there = go (candidate_in takers t) (in_cons (Candidate w) (map (λ w. Candidate w) takers) (Candidate t) there)
  where
    same : (v x : ℕ) → Candidate v ≡ Candidate x → v ≡ x
    same v x e = cc

    go : (Contains (map (λ w. Candidate w) takers) (Candidate t) → Contains takers t) → (Candidate w ≡ Candidate t) ⊎ Contains (map (λ w. Candidate w) takers) (Candidate t) → Contains (w ∷ takers) t
    go rest (inl e) = (0, omega arith, same w t e)
    go rest (inr c) = Contains-append_right (w ∷ []) takers t (rest c)

pub in_candidate : (takers : List ℕ) (t : ℕ) → Contains takers t → Contains (map (λ w. Candidate w) takers) (Candidate t)
in_candidate [] t there = absurd (in_none t there)
in_candidate (w ∷ takers) t there = go (in_candidate takers t) (in_cons w takers t there)
  where
    go : (Contains takers t → Contains (map (λ w. Candidate w) takers) (Candidate t)) → (w ≡ t) ⊎ Contains takers t → Contains (Candidate w ∷ map (λ w. Candidate w) takers) (Candidate t)
    go rest (inl e) = (0, omega arith, ap {B = ActorOut} (λ v. Candidate v) e)
    go rest (inr c) = Contains-append_right (Candidate w ∷ []) (map (λ w. Candidate w) takers) (Candidate t) (rest c)

-- what hands nothing to anybody
abbrev pub IsUnhanded : ActorOut → Type 0
IsUnhanded (Candidate t) = ⊥
IsUnhanded out = Unit {0}

-- the outputs of the event itself, among all that it puts out
pub record Within (outs done : List ActorOut) : Type 0 where
  pub fetch_in : (t : ℕ) (key : Request) → Contains outs (Fetch t key) → Contains done (Fetch t key)
  pub handed_in : (t : ℕ) → Contains outs (Candidate t) → Contains done (Candidate t)
  pub all_out : (x : ActorOut) → Contains done x → Contains outs x

module _ {D Op : Type 0} (u : Setup D Op) where
  -- no request of a ticket is on its way that was fetched
  pub never_fetched : (h : List (Entry D)) (m : Inbox D Op) (t : ℕ) (key k : Request) → IsPlaced h m → Contains (messages m.queue) (GetOperations t key) → WasFetched h t k → ⊥
  never_fetched h m t key k here there was =
      let w = count_there (is_request_of t) (messages m.queue) (GetOperations t key) there (eq-eqb t t refl) in
      let f = once_counted (is_fetch_of t) (Fetch t k) h (eq-eqb t t refl) was in
      let few = here.few t in
      omega arith

  unfetched_delivered : (s : State D) (m : Inbox D Op) (d : ℕ) (key : Request) (bytes : List ℕ) (done : List ActorOut) (next : State D) (left : Inbox D Op) → Delivers u.operations s m d key bytes done next left → (x : ℕ) (k : Request) → Contains done (Fetch x k) → ⊥
  unfetched_delivered s m d key bytes done next left h x k there = All-contains IsOther done (Fetch x k) (all_delivered IsOther (λ t. tt) (λ d v. tt) (λ d. tt) u.operations s m d key bytes done next left h) there

  unhanded : (x : ActorOut) → IsUnhanded x → (t : ℕ) → Contains (x ∷ []) (Candidate t) → ⊥
  unhanded x none t there = All-contains IsUnhanded (x ∷ []) (Candidate t) (all_one IsUnhanded x none) there

  follows_delivered : (h : List (Entry D)) (s : State D) (m : Inbox D Op) (d : ℕ) (key : Request) (bytes : List ℕ) (done : List ActorOut) (next : State D) (left : Inbox D Op) (outs : List ActorOut)
      → IsCurrent h s → Delivers u.operations s m d key bytes done next left → Within outs done → ((x : ℕ) (k : Request) → Contains outs (Fetch x k) → ⊥) → Follows h s (Stepped (tasks.Deliver d key bytes) outs) next
  follows_delivered h s m d key bytes done next left outs now (unheard x) within unfetched =
      follows_same h s (Stepped (tasks.Deliver d key bytes) outs) next refl refl now.held (λ t drawn. drawn.1) (λ t never. never) unfetched (λ t never. never) (λ t e both. unhanded (Unjudged d) tt t (within.handed_in t both.1))
  follows_delivered h s m d key bytes done next left outs now (malformed x y) within unfetched =
      follows_same h s (Stepped (tasks.Deliver d key bytes) outs) next refl refl now.held (λ t drawn. drawn.1) (λ t never. never) unfetched (λ t never. never) (λ t e both. unhanded (Feedback d false) tt t (within.handed_in t both.1))
  follows_delivered h s m d key bytes done next left outs now (untaken x y) within unfetched =
      follows_same h s (Stepped (tasks.Deliver d key bytes) outs) next refl refl now.held (λ t drawn. drawn.1) (λ t never. never) unfetched (λ t never. never) (λ t e both. unhanded (Unjudged d) tt t (within.handed_in t both.1))
  follows_delivered h s m d key bytes done next left outs now (taken {takers = takers} takes some response) within unfetched =
      follows_taken h s d key bytes takers outs now takes (λ t there. candidate_in takers t (within.handed_in t there)) (λ t there. within.all_out (Candidate t) (in_candidate takers t there)) unfetched

  follows_done : (h : List (Entry D)) (s : State D) (m : Inbox D Op) (event : ActorEvent) (task : Task D) (done : List ActorOut) (next : State D) (left : Inbox D Op) (outs : List ActorOut)
      → IsPlaced h m → IsCurrent h s → Does u s m event done next left → Takes m left event task → Within outs done → Follows h s (Stepped task outs) next
  follows_done h s m event task done next left outs here now (Does.hears {message = message} hands are h') (Takes.hears {message = other} handed) within =
      follows_heard h s m message other done next outs now h' within.fetch_in (λ t key there. within.all_out (Fetch t key) there) (λ t live. (here.live t).0 live)
      (λ t key k is. never_fetched h m t key k here (subst (λ w. Contains w (GetOperations t key)) (sym hands.front) (0, omega arith, is)))
  follows_done h s m event task done next left outs here now (Does.delivers {d = d} {key = key} {bytes = bytes} h') Takes.delivers within = follows_delivered h s m d key bytes done next left outs now h' within (λ x k there. unfetched_delivered s m d key bytes done next left h' x k (within.fetch_in x k there))
  follows_done h s m event task done next left outs here now (Does.judges {t = t} {valid = valid} h') Takes.judges within =
      follows_judged h s m t valid done next left outs now.held h' (λ x key there. All-contains IsOther done (Fetch x key) (all_judged IsOther (λ t. tt) (λ d v. tt) (λ d. tt) s m t valid done next left h') (within.fetch_in x key there))
  follows_done h s m event task done next left outs here now (Does.leaves {t = t} h') Takes.leaves within =
      follows_left h s m t done next left outs now.held h' (λ x key there. All-contains IsOther done (Fetch x key) (all_left IsOther (λ t. tt) (λ d v. tt) (λ d. tt) s m t done next left h') (within.fetch_in x key there))
  follows_done h s m event task done next left outs here now (Does.produces {n = n} {key = key} h') Takes.produces within =
      follows_same h s (Stepped (tasks.Produce n key) outs) next (ap (λ (w : State D). w.subscriptions) h'.others) (ap (λ (w : State D). w.unjudged) h'.others) now.held
      (λ x drawn. drawn.1) (λ x never. never) (λ x k there. All-contains IsOther done (Fetch x k) (all_produced IsOther {Op = Op} (λ n bytes. tt) (λ n. tt) u s n key done next h') (within.fetch_in x k there)) (λ x never. never) (λ x d never. never)

-- ---- over a history

module _ {D Op : Type 0} where
  -- nobody is newly cancelled by an event
  let_go_cancelled : (m : Inbox D Op) (t : ℕ) → (let_go m t).cancelled ≡ m.cancelled
  let_go_cancelled m t = go (is_live m.tickets t)
    where
      go : (b : Bool) → (let w : Inbox D Op = cond b (record m { tickets = ended m.tickets t; queue = record m.queue { overflow = filter (is_not_of t) m.queue.overflow } }) m in w.cancelled) ≡ m.cancelled
      go true = refl
      go false = refl

  offered_cancelled : (m : Inbox D Op) (ts : List ℕ) (r : Response Op) → (offered_each m ts r).cancelled ≡ m.cancelled
  offered_cancelled m [] r = refl
  offered_cancelled m (t ∷ ts) r = offered_cancelled (offered m t r) ts r

  delivered_cancelled : (operations : Format Op) (s : State D) (m : Inbox D Op) (d : ℕ) (key : Request) (bytes : List ℕ) (done : List ActorOut) (next : State D) (left : Inbox D Op) → Delivers operations s m d key bytes done next left → left.cancelled ≡ m.cancelled
  delivered_cancelled operations s m d key bytes done next left (unheard x) = refl
  delivered_cancelled operations s m d key bytes done next left (malformed x y) = refl
  delivered_cancelled operations s m d key bytes done next left (untaken x y) = refl
  delivered_cancelled operations s m d key bytes done next left (taken {takers = takers} {response = response} x y z) = offered_cancelled m takers response

  judged_cancelled : (s : State D) (m : Inbox D Op) (t : ℕ) (valid : Bool) (done : List ActorOut) (next : State D) (left : Inbox D Op) → Judges s m t valid done next left → left.cancelled ≡ m.cancelled
  judged_cancelled s m t valid done next left (accepts rel) = refl
  judged_cancelled s m t valid done next left (rejects rel) = refl

  left_cancelled : (s : State D) (m : Inbox D Op) (t : ℕ) (done : List ActorOut) (next : State D) (left : Inbox D Op) → Leaves s m t done next left → left.cancelled ≡ m.cancelled
  left_cancelled s m t done next left (Leaves.leaves f) = let_go_cancelled m t
  left_cancelled s m t done next left (leaves_unfetched f) = let_go_cancelled m t

  module _ (u : Setup D Op) where
    does_cancelled : (s : State D) (m : Inbox D Op) (event : ActorEvent) (done : List ActorOut) (next : State D) (left : Inbox D Op) → Does u s m event done next left → left.cancelled ≡ m.cancelled
    does_cancelled s m event done next left (Does.hears hands are h) = ap (λ (w : Inbox D Op). w.cancelled) are
    does_cancelled s m event done next left (Does.delivers {d = d} {key = key} {bytes = bytes} h) = delivered_cancelled u.operations s m d key bytes done next left h
    does_cancelled s m event done next left (Does.judges {t = t} {valid = valid} h) = judged_cancelled s m t valid done next left h
    does_cancelled s m event done next left (Does.leaves {t = t} h) = left_cancelled s m t done next left h
    does_cancelled s m event done next left (Does.produces h) = refl

    -- what the event itself puts out, among all
    pub within : (s : State D) (m : Inbox D Op) (event : ActorEvent) (outs : List ActorOut) (next : State D) (left : Inbox D Op) (steps : Steps u s m event outs next left) → Within outs steps.done
    within s m event outs next left steps = record {
      fetch_in = λ t key there. in_done u s m event outs next left steps IsOther (λ t. tt) (λ d v. tt) (λ d. tt) (Fetch t key) (λ never. never) there;
      handed_in = λ t there. in_done u s m event outs next left steps IsUnhanded (λ t. tt) (λ d v. tt) (λ d. tt) (Candidate t) (λ never. never) there;
      all_out = λ x there. subst (λ w. Contains w x) (sym steps.outs_are) (Contains-append_right (steps.forgotten ++ steps.settled) steps.done x there);
    }

    -- the tables once the cancels were heard of
    pub between_current : (h : List (Entry D)) (s : State D) (m : Inbox D Op) (event : ActorEvent) (outs : List ActorOut) (next : State D) (left : Inbox D Op) (steps : Steps u s m event outs next left) → IsTold h s m.cancelled → IsCurrent h steps.between
    between_current h s m event outs next left steps told =
        heard_current h s m.cancelled steps.gone steps.forgotten steps.settled steps.between told (λ x. sym (list_any-IsPermutation (λ t. t == x) m.cancelled steps.gone steps.all)) steps.retires

    -- the mailbox, in which no cancel is left to be heard of
    pub placed_same : (h : List (Entry D)) (m : Inbox D Op) → IsPlaced h m → IsPlaced h (record m { cancelled = [] })
    placed_same h m here = record { fresh = here.fresh; idle = here.idle; few = here.few; all = here.all; live = here.live; drawn = here.drawn }

    pub stepped_current : (h : List (Entry D)) (s : State D) (m : Inbox D Op) (event : ActorEvent) (task : Task D) (outs : List ActorOut) (next : State D) (left : Inbox D Op) → IsPlaced h m → IsTold h s m.cancelled → Takes m left event task → Steps u s m event outs next left
        → IsCurrent (h ++ Stepped task outs ∷ []) next × (left.cancelled ≡ [])
    stepped_current h s m event task outs next left here told takes steps =
        let m0 : Inbox D Op = record m { cancelled = [] } in
        let now = between_current h s m event outs next left steps told in (
          current_more h steps.between (Stepped task outs) next now
              (follows_done u h steps.between m0 event task steps.done next left outs (placed_same h m here) now steps.does (same_takes m left event task takes) (within s m event outs next left steps)),
          does_cancelled steps.between m0 event steps.done next left steps.does,
        )

    asked_told : (h : List (Entry D)) (s : State D) (m : Inbox D Op) (t : ℕ) (key : Request) (feedback : Reply) (left : Inbox D Op) → IsPlaced h m → Asks m key feedback t left → IsTold h s m.cancelled → IsTold (h ++ Asked t key ∷ []) s left.cancelled
    asked_told h s m t key feedback left here asks told =
        subst (λ w. IsTold (h ++ Asked t key ∷ []) s w) (sym (ap (λ (w : Inbox D Op). w.cancelled) asks.others))
        (record {
          held = told.held;
          subs = λ x k. (λ both. forth x k ((told.subs x k).0 both), λ is. (told.subs x k).1 (back x k (since_split h e (IsDrawn x) (Ends x) is.0) (once_split h e (λ before entry. Contains (outs_of entry) (Fetch x k)) is.1)));
          unjudged = λ x d. (λ both. since_before h e (Hands x d) (Replies x) ((told.unjudged x d).0 both) (λ never. never), λ is. (told.unjudged x d).1 (had x d (since_split h e (Hands x d) (Replies x) is)));
        })
      where
        e : Entry D
        e = Asked t key

        forth : (x : ℕ) (k : Request) → IsSubscriber h k x → IsSubscriber (h ++ Asked t key ∷ []) k x
        forth x k was = (since_before h (Asked t key) (IsDrawn x) (Ends x) was.0 (λ never. never), once_before h (Asked t key) (λ before entry. Contains (outs_of entry) (Fetch x k)) was.1)

        back : (x : ℕ) (k : Request) → IsDrawn {D = D} x (Asked t key) ⊎ (Since (IsDrawn x) (Ends x) h × (⊥ → ⊥)) → WasFetched h x k ⊎ Contains [] (Fetch x k) → IsSubscriber h k x
        back x k live (inr c) = absurd (in_none (Fetch x k) c)
        back x k (inl drawn) (inl was) =
            absurd (let f = once_counted (is_fetch_of x) (Fetch x k) h (eq-eqb x x refl) was in let i = here.idle x (let a = asks.drawn in let b = drawn.1.0 in omega arith) in omega arith)
        back x k (inr live) (inl was) = (live.0, was)

        had : (x d : ℕ) → ⊥ ⊎ (Since (Hands x d) (Replies x) h × (⊥ → ⊥)) → HasToJudge h x d
        had x d (inl never) = absurd never
        had x d (inr was) = was.0

    -- an entry that changes nothing of it
    idle_told : (h : List (Entry D)) (s : State D) (gone : List ℕ) (e : Entry D) → ((t : ℕ) → IsDrawn t e → ⊥) → ((t : ℕ) → Ends t e → ⊥) → ((t : ℕ) (key : Request) → Contains (outs_of e) (Fetch t key) → ⊥) → ((t : ℕ) → Replies t e → ⊥) → ((t d : ℕ) → Hands t d e → ⊥)
        → IsTold h s gone → IsTold (h ++ e ∷ []) s gone
    idle_told h s gone e undrawn unended unfetched unreplied unhanded told = record {
      held = told.held;
      subs = λ x k. (λ both. forth x k ((told.subs x k).0 both), λ is. (told.subs x k).1 (back x k (since_split h e (IsDrawn x) (Ends x) is.0) (once_split h e (λ before entry. Contains (outs_of entry) (Fetch x k)) is.1)));
      unjudged = λ x d. (λ both. since_before h e (Hands x d) (Replies x) ((told.unjudged x d).0 both) (unreplied x), λ is. (told.unjudged x d).1 (had x d (since_split h e (Hands x d) (Replies x) is)));
    }
      where
        forth : (x : ℕ) (k : Request) → IsSubscriber h k x → IsSubscriber (h ++ e ∷ []) k x
        forth x k was = (since_before h e (IsDrawn x) (Ends x) was.0 (unended x), once_before h e (λ before entry. Contains (outs_of entry) (Fetch x k)) was.1)

        back : (x : ℕ) (k : Request) → IsDrawn x e ⊎ (Since (IsDrawn x) (Ends x) h × (Ends x e → ⊥)) → WasFetched h x k ⊎ Contains (outs_of e) (Fetch x k) → IsSubscriber h k x
        back x k live (inr c) = absurd (unfetched x k c)
        back x k (inl drawn) (inl was) = absurd (undrawn x drawn)
        back x k (inr live) (inl was) = (live.0, was)

        had : (x d : ℕ) → Hands x d e ⊎ (Since (Hands x d) (Replies x) h × (Replies x e → ⊥)) → HasToJudge h x d
        had x d (inl here) = absurd (unhanded x d here)
        had x d (inr was) = was.0

    -- who has to judge something is live
    pub judging_live : (h : List (Entry D)) (s : State D) (gone : List ℕ) (t d : ℕ) → IsTold h s gone → HasToJudge h t d → IsLive h t
    judging_live h s gone t d told has_to =
        let both = (told.unjudged t d).1 has_to in
        let sub = there_is (at s.subscriptions t) (told.held t d both.0) in
        ((told.subs t sub.0).0 (sub.1, both.1)).0

    cancelled_told : (h : List (Entry D)) (s : State D) (m : Inbox D Op) (t : ℕ) → IsPlaced h m → IsTold h s m.cancelled → IsTold (h ++ Cancelled t ∷ []) s (cancelled_inbox m t).cancelled
    cancelled_told h s m t here told = go (is_live m.tickets t) refl
      where
        e : Entry D
        e = Cancelled t

        -- who isn't the ticket is what it was
        make : (gone : List ℕ) → ((x : ℕ) → (IsLive h x) → (has gone x ≡ false) ↔ ((has m.cancelled x ≡ false) × (t ≡ x → ⊥))) → ((x : ℕ) → has gone x ≡ false → (has m.cancelled x ≡ false)) → IsTold (h ++ Cancelled t ∷ []) s gone
        make gone same weaker = record {
          held = told.held;
          subs = λ x k. (λ both. forth x k both ((told.subs x k).0 (both.0, weaker x both.1)), λ is. back x k (since_split h (Cancelled t) (IsDrawn x) (Ends x) is.0) (once_split h (Cancelled t) (λ before entry. Contains (outs_of entry) (Fetch x k)) is.1));
          unjudged = λ x d. (λ both. on x d both ((told.unjudged x d).0 (both.0, weaker x both.1)), λ is. had x d (since_split h (Cancelled t) (Hands x d) (Replies x) is));
        }
          where
            forth : (x : ℕ) (k : Request) → (at s.subscriptions x ≡ Some k) × (has gone x ≡ false) → IsSubscriber h k x → IsSubscriber (h ++ Cancelled t ∷ []) k x
            forth x k both was = (since_before h (Cancelled t) (IsDrawn x) (Ends x) was.0 ((same x was.0).0 both.1).1, once_before h (Cancelled t) (λ before entry. Contains (outs_of entry) (Fetch x k)) was.1)

            back : (x : ℕ) (k : Request) → IsDrawn {D = D} x (Cancelled t) ⊎ (Since (IsDrawn x) (Ends x) h × (t ≡ x → ⊥)) → WasFetched h x k ⊎ Contains [] (Fetch x k) → (at s.subscriptions x ≡ Some k) × (has gone x ≡ false)
            back x k live (inr c) = absurd (in_none (Fetch x k) c)
            back x k (inl drawn) (inl was) = absurd drawn.1
            back x k (inr live) (inl was) = let both = (told.subs x k).1 (live.0, was) in (both.0, (same x live.0).1 (both.1, live.1))

            on : (x d : ℕ) → (at s.unjudged x ≡ Some d) × (has gone x ≡ false) → HasToJudge h x d → HasToJudge (h ++ Cancelled t ∷ []) x d
            on x d both was = since_before h (Cancelled t) (Hands x d) (Replies x) was ((same x (judging_live h s m.cancelled x d told was)).0 both.1).1

            had : (x d : ℕ) → ⊥ ⊎ (Since (Hands x d) (Replies x) h × (t ≡ x → ⊥)) → (at s.unjudged x ≡ Some d) × (has gone x ≡ false)
            had x d (inl never) = absurd never
            had x d (inr was) = let both = (told.unjudged x d).1 was.0 in (both.0, (same x (judging_live h s m.cancelled x d told was.0)).1 (both.1, was.1))

        or_false : (a b : Bool) → (a || b) ≡ false → (a ≡ false) × (b ≡ false)
        or_false true b is = let no : ⊥ = cc in absurd no
        or_false false b is = (refl, is)

        false_or : (a b : Bool) → a ≡ false → b ≡ false → (a || b) ≡ false
        false_or true b one two = one
        false_or false b one two = two

        more : (x : ℕ) → (has (m.cancelled ++ t ∷ []) x ≡ false) ↔ ((has m.cancelled x ≡ false) × (t ≡ x → ⊥))
        more x = (
          λ is. let both = or_false (has m.cancelled x) (t == x) (sym (has_push m.cancelled t x) ∙ is) in (both.0, λ same. eqb-false t x both.1 same),
          λ both. has_push m.cancelled t x ∙ false_or (has m.cancelled x) (t == x) both.0 (not_same (t == x) refl both.1),
        )
          where
            not_same : (b : Bool) → (t == x) ≡ b → (t ≡ x → ⊥) → b ≡ false
            not_same true same apart = absurd (apart (eqb-true t x same))
            not_same false other apart = refl

        go : (b : Bool) → is_live m.tickets t ≡ b
            → IsTold (h ++ Cancelled t ∷ []) s (let w : Inbox D Op = cond b (record (cond b (record m { tickets = ended m.tickets t; queue = record m.queue { overflow = filter (is_not_of t) m.queue.overflow } }) m) { cancelled = m.cancelled ++ t ∷ [] }) m in w.cancelled)
        go true live = make (m.cancelled ++ t ∷ []) (λ x alive. more x) (λ x is. ((more x).0 is).0)
        go false dead = make m.cancelled (λ x alive. (λ is. (is, λ (same : t ≡ x). let l = (here.live x).1 alive in let l' = subst (λ w. is_live m.tickets w ≡ false) same dead in let no : ⊥ = cc in no), λ both. both.0)) (λ x is. is)

    polled_cancelled : (m : Inbox D Op) (t : ℕ) → (taken_out m t).cancelled ≡ m.cancelled
    polled_cancelled m t = go (is_dropped m.tickets t)
      where
        go : (b : Bool) → (let w : Inbox D Op = cond b m (record m { candidates = without m.candidates t }) in w.cancelled) ≡ m.cancelled
        go true = refl
        go false = refl

    -- what the tables tell, with where the requests are
    pub record IsKnown (h : List (Entry D)) (s : State D) (m : Inbox D Op) : Type 0 where
      pub placed : IsPlaced h m
      pub told : IsTold h s m.cancelled

    pub turn_told : (h : List (Entry D)) (s : State D) (m : Inbox D Op) (e : Entry D) (next : State D) (left : Inbox D Op) → Turns u s m e next left → IsPlaced h m → IsTold h s m.cancelled → IsTold (h ++ e ∷ []) next left.cancelled
    turn_told h s m e next left (Turns.asks {t = t} {key = key} {feedback = feedback} asks) here told = asked_told h s m t key feedback left here asks told
    turn_told h s m e next left (Turns.attaches {db = db} sent_db) here told =
        subst (λ w. IsTold (h ++ e ∷ []) s w) (sym (ap (λ (w : Inbox D Op). w.cancelled) sent_db.others))
        (idle_told h s m.cancelled e (λ t drawn. drawn.1) (λ t never. never) (λ t key there. in_none (Fetch t key) there) (λ t never. never) (λ t d never. never) told)
    turn_told h s m e next left (Turns.cancels {t = t}) here told = cancelled_told h s m t here told
    turn_told h s m e next left (Turns.polls {t = t}) here told =
        subst (λ w. IsTold (h ++ e ∷ []) s w) (sym (polled_cancelled m t))
        (idle_told h s m.cancelled e (λ t drawn. drawn.1) (λ t never. never) (λ t key there. in_none (Fetch t key) there) (λ t never. never) (λ t d never. never) told)
    turn_told h s m e next left (Turns.steps {event = event} {task = task} {outs = outs} comes takes steps) here told =
        let now = stepped_current h s m event task outs next left here told takes steps in
        subst (λ w. IsTold (h ++ e ∷ []) next w) (sym now.1) (current_told (h ++ e ∷ []) next now.0)

    pub known_first : (first : State D) (capacity : ℕ) → IsNew first → IsKnown [] first (empty_inbox capacity)
    known_first first capacity new = record {
      placed = placed_first u capacity;
      told = record {
        held = λ t d there. absurd (none_some d (sym (ap (λ w. at w t) new.nothing) ∙ there));
        subs = λ t key. (λ both. absurd (none_some key (sym (ap (λ w. at w t) new.nobody) ∙ both.0)), λ is. absurd (once_none (λ before entry. Contains (outs_of entry) (Fetch t key)) is.1));
        unjudged = λ t d. (λ both. absurd (none_some d (sym (ap (λ w. at w t) new.nothing) ∙ both.0)), λ is. absurd (since_none (Hands t d) (Replies t) is));
      };
    }
