-- That each event puts out what the entries before it tell.
use Rattle.std.proofs.Common.{◌≡◌, ◌≢◌, ℕ, ◌+◌, ◌≤◌, Bool, true, false, not, cond, Option, Some, None, List, [], ◌∷◌, ◌++◌, filter, All, Contains, ◌⊎◌, inl, inr, refl, sym, ap, subst, ◌∙◌, arith}
use Rattle.std.specs.Prelude.{option_to_list}
use Rattle.std.specs.Option.{is_some}
use Rattle.std.specs.Ordering.{nat_cmp}
use Rattle.std.specs.List.Sorted.{IsStrictlySortedBy}
use Rattle.std.proofs.lemmas.Bool.{eq-eqb}
use Rattle.std.proofs.lemmas.List.Kept.{IsStrictlySortedBy-filter}
use Rattle.std.proofs.lemmas.List.Elements.{All-nil, All-append, All-contains, filter_passes, Contains-append_right}
use Rattle.stateful_base.specs.Format.{Format}
use Rattle.stateful_types.specs.declared.request.Request.{Request}
use Rattle.stateful_table.specs.Table.{at}
use Rattle.stateful_p2p.specs.Inbox.{Inbox}
use Rattle.stateful_p2p_tables.specs.Deliveries.{is_free, Releases, Forgets, stranger, forgets, Retires, nobody, unfetched, fetched}
use Rattle.stateful_p2p.specs.Fanout.{Delivers}
use Rattle.stateful_p2p_tables.specs.Deliveries as tables
use Rattle.stateful_p2p.specs.Fanout as fanout
use Rattle.stateful_p2p.specs.Resolving.{Setup, may_come, Hears, Judges, Leaves, Produces, sent, Does, Steps}
use Rattle.stateful_p2p.specs.Resolving as resolving
use Rattle.stateful_p2p.specs.History.{Entry, count_outs, Takes, Turns}
use Rattle.stateful_p2p.specs.Laws.{IsLive, IsSubscriber, IsFree, AreThose, IsAnswer, IsLeft, Spreads, Puts, Tells, TellsAt, is_fetch_of, is_forget_of}
use Rattle.stateful_p2p_tables.specs.declared.state.State.{State}
use Rattle.stateful_p2p.specs.declared.message.Message.{Message}
use Rattle.stateful_p2p.specs.declared.actor.Task.{Task}
use Rattle.stateful_p2p.specs.declared.actor.Task.TheVariants as tasks
use Rattle.stateful_p2p.specs.declared.event.ActorEvent.{ActorEvent}
use Rattle.stateful_p2p_tables.specs.declared.out.ActorOut.{ActorOut}
use Rattle.stateful_p2p.proofs.Moving.{in_cons, in_none, Contains-filter}
use Rattle.stateful_p2p.proofs.Putting.{once_counted, all_released, all_forgot}
use Rattle.stateful_p2p.proofs.Placing.{IsPlaced, same_message}
use Rattle.stateful_p2p.proofs.Current.{has, none_some, there_is, IsCurrent, IsTold}
use Rattle.stateful_p2p.proofs.Following.{between_current, placed_same}
use Rattle.stateful_p2p.proofs.Forgetting.{subscribes, forgotten, IsBalanced, counted_fetch, cancelled_dead, same_gone}

-- what is settled answers deliveries
settled_answers : {D : Type 0} (s : State D) (ts : List ℕ) (f o : List ActorOut) (last : State D) → Retires s ts f o last → All IsAnswer o
settled_answers s ts f o last nobody = All-nil IsAnswer
settled_answers s ts f o last (unfetched {ts = us} {next = next} one rest) = settled_answers next us f o last rest
settled_answers s ts f o last (fetched {t = t} {ts = us} {one = one'} {forgotten = g} {settled = p} {next = next} one rest) =
    All-append IsAnswer (option_to_list one') p (all_forgot IsAnswer (λ d v. tt) (λ d. tt) s t one' next one) (settled_answers next us g p last rest)

-- ---- a delivery

first_of : (ts : List ℕ) → ts ≢ [] → (t : ℕ) × Contains ts t
first_of [] some = absurd (some refl)
first_of (t ∷ ts) some = (t, (0, omega arith, refl))

-- what passes a filter is in it
in_filter : (p : ℕ → Bool) (ts : List ℕ) (t : ℕ) → Contains ts t → p t ≡ true → Contains (filter p ts) t
in_filter p [] t there passes = absurd (in_none t there)
in_filter p (x ∷ ts) t there passes = go (p x) refl (in_cons x ts t there) (in_filter p ts t)
  where
    go : (b : Bool) → p x ≡ b → (x ≡ t) ⊎ Contains ts t → (Contains ts t → p t ≡ true → Contains (filter p ts) t) → Contains (cond b (x ∷ filter p ts) (filter p ts)) t
    go true is (inl same) rest = (0, omega arith, same)
    go true is (inr c) rest = Contains-append_right (x ∷ []) (filter p ts) t (rest c passes)
    go false is (inl same) rest = absurd (let e = subst (λ w. p w ≡ false) same is in let never : ⊥ = cc in never)
    go false is (inr c) rest = rest c passes

is_free_none : (found : Option ℕ) → not (is_some found) ≡ true → (d : ℕ) → found ≡ Some d → ⊥
is_free_none None free d is = cc
is_free_none (Some x) free d is = cc

none_is_free : (found : Option ℕ) → ((d : ℕ) → found ≡ Some d → ⊥) → not (is_some found) ≡ true
none_is_free None none = refl
none_is_free (Some x) none = absurd (none x refl)

module _ {D Op : Type 0} (operations : Format Op) (h : List (Entry D)) (s : State D) (now : IsCurrent h s) where
  some_subscriber : (key : Request) (takers : List ℕ) → tables.Takes s key takers → (t : ℕ) × IsSubscriber h key t
  some_subscriber key takers takes = let first = first_of takes.subscribers takes.some in (first.0, (now.subs first.0 key).0 ((takes.are.members first.0).0 first.1))

  -- those who take a candidate are the free subscribers
  those_free : (key : Request) (takers : List ℕ) → tables.Takes s key takers → AreThose (IsFree h key) takers
  those_free key takers takes = record {
    ascending = subst (IsStrictlySortedBy nat_cmp) (sym takes.free) (IsStrictlySortedBy-filter nat_cmp (is_free s.unjudged) takes.subscribers takes.are.ascending);
    members = λ t. (λ there. to t (subst (λ w. Contains w t) takes.free there), λ free. subst (λ w. Contains w t) (sym takes.free) (from t free));
  }
    where
      to : (t : ℕ) → Contains (filter (is_free s.unjudged) takes.subscribers) t → IsFree h key t
      to t there =
          let passes = All-contains (λ x. is_free s.unjudged x ≡ true) (filter (is_free s.unjudged) takes.subscribers) t (filter_passes (is_free s.unjudged) takes.subscribers) there in
          ((now.subs t key).0 ((takes.are.members t).0 (Contains-filter (is_free s.unjudged) takes.subscribers t there)), λ d has_to. is_free_none (at s.unjudged t) passes d ((now.unjudged t d).1 has_to))

      from : (t : ℕ) → IsFree h key t → Contains (filter (is_free s.unjudged) takes.subscribers) t
      from t free = in_filter (is_free s.unjudged) takes.subscribers t ((takes.are.members t).1 ((now.subs t key).1 free.0)) (none_is_free (at s.unjudged t) (λ d is. free.1 d ((now.unjudged t d).0 is)))

  spreads_by : (m : Inbox D Op) (d : ℕ) (key : Request) (bytes : List ℕ) (done : List ActorOut) (next : State D) (left : Inbox D Op) → Delivers operations s m d key bytes done next left → Spreads operations h d key bytes done
  spreads_by m d key bytes done next left (fanout.unheard none) = Spreads.unheard (λ t sub. in_none t ((none.members t).1 ((now.subs t key).1 sub)))
  spreads_by m d key bytes done next left (fanout.malformed {takers = takers} takes bad) = let first = some_subscriber key takers takes in Spreads.malformed {t = first.0} first.1 bad
  spreads_by m d key bytes done next left (fanout.untaken {response = response} takes is) =
      let first = some_subscriber key [] takes in
      let those = those_free key [] takes in
      Spreads.untaken {t = first.0} {response = response} first.1 is (λ x free. in_none x ((those.members x).1 free))
  spreads_by m d key bytes done next left (fanout.taken {takers = takers} {response = response} takes some is) = Spreads.taken {takers = takers} {response = response} is (those_free key takers takes) some

-- ---- what an event puts out of its own

module _ {D Op : Type 0} (u : Setup D Op) (h : List (Entry D)) where
  puts_heard : (s : State D) (m : Inbox D Op) (message : Message D) (done : List ActorOut) (next : State D) → IsPlaced h m → Hears s m message done next → Puts u.operations h (tasks.Hear message) done
  puts_heard s m message done next here resolving.attaches = Puts.attaches
  puts_heard s m message done next here (resolving.fetches {t = t} live) = Puts.fetches ((here.live t).0 live)
  puts_heard s m message done next here (resolving.passes_over {t = t} dead) = Puts.passes_over (λ live. let e = (here.live t).1 live in let never : ⊥ = cc in never)

  puts_judged : (s : State D) (m : Inbox D Op) (t : ℕ) (valid : Bool) (done : List ActorOut) (next : State D) (left : Inbox D Op) → Judges s m t valid done next left → Puts u.operations h (tasks.Judge t valid) done
  puts_judged s m t valid done next left (resolving.accepts {settled = settled} {next = mid} rel) = Puts.accepts settled (all_released IsAnswer (λ d v. tt) (λ d. tt) s t (Some true) settled mid rel)
  puts_judged s m t valid done next left (resolving.rejects {settled = settled} rel) = Puts.rejects settled (all_released IsAnswer (λ d v. tt) (λ d. tt) s t (Some false) settled next rel)

  puts_left : (s : State D) (m : Inbox D Op) (t : ℕ) (done : List ActorOut) (next : State D) (left : Inbox D Op) → IsCurrent h s → IsLive h t → Leaves s m t done next left → Puts u.operations h (tasks.Leave t) done
  puts_left s m t done next left now live (Leaves.leaves {settled = settled} (forgets {key = key} some rel)) =
      Puts.leaves {key = key} settled ((now.subs t key).0 some).1 (all_released IsAnswer (λ d v. tt) (λ d. tt) (record s { subscriptions = _ }) t None settled next rel)
  puts_left s m t done next left now live (Leaves.leaves_unfetched (stranger none)) = Puts.leaves_unfetched (λ key was. none_some key (sym none ∙ (now.subs t key).1 (live, was)))

  puts_produced : (s : State D) (n : ℕ) (key : Request) (done : List ActorOut) (next : State D) → Produces u s n key done next → Puts u.operations h (tasks.Produce n key) done
  puts_produced s n key done next p = subst (Puts u.operations h (tasks.Produce n key)) (sym p.outs_are) (go p.bytes)
    where
      go : (bytes : Option (List ℕ)) → Puts u.operations h (tasks.Produce n key) (sent u n bytes ∷ [])
      go None = Puts.serves_nothing
      go (Some bytes) = Puts.serves bytes

  puts_done : (s between : State D) (m : Inbox D Op) (event : ActorEvent) (task : Task D) (done : List ActorOut) (next : State D) (left : Inbox D Op) → IsPlaced h m → IsCurrent h between → may_come s m event ≡ true → Does u between (record m { cancelled = [] }) event done next left → Takes m left event task
      → Puts u.operations h task done
  puts_done s between m event task done next left here now comes (Does.hears {message = message} hands are p) (Takes.hears {message = other} handed) =
      subst (λ w. Puts u.operations h (tasks.Hear w) done) (same_message m.queue left.queue message other hands handed) (puts_heard between (record m { cancelled = [] }) message done next (placed_same u h m here) p)
  puts_done s between m event task done next left here now comes (Does.delivers {d = d} {key = key} {bytes = bytes} p) Takes.delivers = Puts.spreads (spreads_by u.operations h between now (record m { cancelled = [] }) d key bytes done next left p)
  puts_done s between m event task done next left here now comes (Does.judges {t = t} {valid = valid} p) Takes.judges = puts_judged between (record m { cancelled = [] }) t valid done next left p
  puts_done s between m event task done next left here now comes (Does.leaves {t = t} p) Takes.leaves = puts_left between (record m { cancelled = [] }) t done next left now ((here.live t).0 comes) p
  puts_done s between m event task done next left here now comes (Does.produces {n = n} {key = key} p) Takes.produces = puts_produced between n key done next p

-- ---- all that an event puts out

module _ {D Op : Type 0} (u : Setup D Op) where
  tells_by : (h : List (Entry D)) (s : State D) (m : Inbox D Op) (event : ActorEvent) (task : Task D) (outs : List ActorOut) (next : State D) (left : Inbox D Op) → IsPlaced h m → IsTold h s m.cancelled → IsBalanced h s → may_come s m event ≡ true → Takes m left event task → Steps u s m event outs next left
      → Tells u.operations h task outs
  tells_by h s m event task outs next left here told balanced comes takes steps =
      let f = forgotten s steps.gone steps.forgotten steps.settled steps.between told.held steps.ascending steps.retires in
      record {
        gone = f.gone;
        are = record { ascending = f.ascending; members = λ t. (λ there. to t ((f.members t).0 there), λ is. (f.members t).1 (from t is)) };
        settled = steps.settled;
        answers = settled_answers s steps.gone steps.forgotten steps.settled steps.between steps.retires;
        own = steps.done;
        puts = puts_done u h s steps.between m event task steps.done next left here (between_current u h s m event outs next left steps told) comes steps.does takes;
        outs_are = steps.outs_are ∙ ap (λ w. w ++ steps.settled ++ steps.done) f.are;
      }
    where
      to : (t : ℕ) → (has steps.gone t ≡ true) × (subscribes s t ≡ true) → IsLeft u.operations h t
      to t both =
          let e = balanced.even t in
          let c = ap {B = ℕ} (λ b. cond b 1 0) both.1 in
          let few = here.few t in
          (counted_fetch h t (omega arith), cancelled_dead u h s m t here told balanced both.1 (sym (same_gone u m steps.gone steps.all t) ∙ both.0), omega arith)

      from : (t : ℕ) → IsLeft u.operations h t → (has steps.gone t ≡ true) × (subscribes s t ≡ true)
      from t is =
          let few = once_counted (is_fetch_of t) _ h (eq-eqb t t refl) is.0.1 in
          let sub = is_subscribed (subscribes s t) (balanced.even t) few in
          (same_gone u m steps.gone steps.all t ∙ is_gone sub (has m.cancelled t) refl, sub)
        where
          is_subscribed : (b : Bool) → count_outs (is_forget_of t) h + cond b 1 0 ≡ count_outs (is_fetch_of t) h → 1 ≤ count_outs (is_fetch_of t) h → b ≡ true
          is_subscribed true e few = refl
          is_subscribed false e few = absurd (let none = is.2 in omega arith)

          is_gone : subscribes s t ≡ true → (b : Bool) → has m.cancelled t ≡ b → b ≡ true
          is_gone sub true e = refl
          is_gone sub false e = let key = there_is (at s.subscriptions t) sub in absurd (is.1 ((told.subs t key.0).0 (key.1, e)).0)

  pub tells_law : (h : List (Entry D)) (s : State D) (m : Inbox D Op) (e : Entry D) (next : State D) (left : Inbox D Op) → Turns u s m e next left → IsPlaced h m → IsTold h s m.cancelled → IsBalanced h s → TellsAt u.operations h e
  tells_law h s m e next left (Turns.asks asks) here told balanced = tt
  tells_law h s m e next left (Turns.attaches sent_db) here told balanced = tt
  tells_law h s m e next left Turns.cancels here told balanced = tt
  tells_law h s m e next left Turns.polls here told balanced = tt
  tells_law h s m e next left (Turns.steps {event = event} {task = task} {outs = outs} comes takes steps) here told balanced = tells_by h s m event task outs next left here told balanced comes takes steps
