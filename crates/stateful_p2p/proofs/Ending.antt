-- What holds behind each event: who was forgotten, which deliveries were answered, and which events may come next.
use Rattle.std.proofs.Common.{◌≡◌, ◌≢◌, ℕ, ◌+◌, ◌≤◌, ◌<◌, ◌↔◌, nat_le, Bool, true, false, not, cond, ◌&&◌, Some, List, [], ◌∷◌, ◌⊎◌, inl, inr, refl, ap, arith}
use Rattle.std.specs.Option.{is_some}
use Rattle.std.proofs.lemmas.Bool.{eq-eqb, leb-true, leb-false}
use Rattle.stateful_types.specs.Mailbox.{messages}
use Rattle.stateful_table.specs.Table.{at}
use Rattle.stateful_p2p.specs.Tickets.{is_live}
use Rattle.stateful_p2p.specs.Inbox.{Inbox}
use Rattle.stateful_p2p.specs.Resolving.{Setup, is_empty, may_come}
use Rattle.stateful_p2p.specs.History.{Entry, count_outs}
use Rattle.stateful_p2p.specs.Laws.{IsLive, HadFetch, HasToJudge, WasDelivered, WasProduced, CanCome, is_fetch_of, is_forget_of, is_answer_to}
use Rattle.stateful_p2p_tables.specs.declared.state.State.{State}
use Rattle.stateful_p2p.specs.declared.message.Message.{Message}
use Rattle.stateful_p2p.specs.declared.event.ActorEvent.{ActorEvent}
use Rattle.stateful_p2p.specs.declared.event.ActorEvent.TheVariants as events
use Rattle.stateful_p2p.proofs.Putting.{once_counted}
use Rattle.stateful_p2p.proofs.Placing.{IsPlaced}
use Rattle.stateful_p2p.proofs.Current.{there_is, IsCurrent, IsTold}
use Rattle.stateful_p2p.proofs.Following.{judging_live}
use Rattle.stateful_p2p.proofs.Forgetting.{subscribes, IsBalanced, counted_fetch, subscribed_on}
use Rattle.stateful_p2p.proofs.Settling.{stands, stands_judged}
use Rattle.stateful_p2p.proofs.Numbering.{IsNumbered, IsAnswered, delivered_count, delivered_counted_once}

module _ {D Op : Type 0} where
  -- behind an event, no cancel is left to be heard of
  pub forgets_behind : (h : List (Entry D)) (s : State D) (m : Inbox D Op) → IsPlaced h m → IsCurrent h s → IsBalanced h s → (t : ℕ) → (count_outs (is_forget_of t) h ≡ 1) ↔ (HadFetch h t × (IsLive h t → ⊥))
  forgets_behind h s m here now balanced t = (to (subscribes s t) refl (balanced.even t), λ both. from both (subscribes s t) refl (balanced.even t))
    where
      to : (b : Bool) → subscribes s t ≡ b → count_outs (is_forget_of t) h + cond b 1 0 ≡ count_outs (is_fetch_of t) h → count_outs (is_forget_of t) h ≡ 1 → HadFetch h t × (IsLive h t → ⊥)
      to true sub e one = absurd (let few = here.few t in omega arith)
      to false sub e one =
          let fetched = counted_fetch h t (omega arith) in
          (fetched, λ live. let is = (now.subs t fetched.0).1 (live, fetched.1) in let s' = ap is_some is in let never : ⊥ = cc in never)

      from : HadFetch h t × (IsLive h t → ⊥) → (b : Bool) → subscribes s t ≡ b → count_outs (is_forget_of t) h + cond b 1 0 ≡ count_outs (is_fetch_of t) h → count_outs (is_forget_of t) h ≡ 1
      from both true sub e = let key = there_is (at s.subscriptions t) sub in absurd (both.1 ((now.subs t key.0).0 key.1).0)
      from both false sub e = let few = here.few t in let some = once_counted (is_fetch_of t) _ h (eq-eqb t t refl) both.0.1 in omega arith

module _ {D : Type 0} where
  pub answers_behind : (h : List (Entry D)) (s : State D) → IsCurrent h s → IsAnswered h s → (d : ℕ) → WasDelivered h d → (count_outs (is_answer_to d) h ≡ 1) ⊎ ((t : ℕ) × HasToJudge h t d)
  answers_behind h s now answered d was = go (stands s d) refl (answered.even d)
    where
      go : (b : Bool) → stands s d ≡ b → count_outs (is_answer_to d) h + cond b 1 0 ≡ delivered_count d h → (count_outs (is_answer_to d) h ≡ 1) ⊎ ((t : ℕ) × HasToJudge h t d)
      go true is e = let who = stands_judged s d answered.counted is in inr (who.0, (now.unjudged who.0 d).0 who.1)
      go false is e = let few = answered.few d in let some = delivered_counted_once h d was in inl (omega arith)

-- which events may come, by what the entries tell
module _ {D Op : Type 0} (u : Setup D Op) where
  below : (next n : ℕ) (P : ℕ → Type 0) → ((k : ℕ) → P k → k < next) → ((m : ℕ) → ((k : ℕ) → P k → k < m) → next ≤ m) → (nat_le next n ≡ true) ↔ ((k : ℕ) → P k → k < n)
  below next n P under least = (λ is k p. let a = leb-true next n is in let b = under k p in omega arith, λ all. go (nat_le next n) refl (least n all))
    where
      go : (b : Bool) → nat_le next n ≡ b → next ≤ n → b ≡ true
      go true is le = refl
      go false is le = absurd (let a = leb-false next n is in omega arith)

  pub comes_law : (h : List (Entry D)) (s : State D) (m : Inbox D Op) → IsPlaced h m → IsTold h s m.cancelled → IsBalanced h s → IsNumbered h s → (event : ActorEvent) → (may_come s m event ≡ true) ↔ CanCome h m event
  comes_law h s m here told balanced numbered events.Message = waits (messages m.queue)
    where
      waits : (ms : List (Message D)) → (not (is_empty ms) ≡ true) ↔ (ms ≢ [])
      waits [] = (λ is. absurd cc, λ some. absurd (some refl))
      waits (x ∷ ms) = (λ is none. cc, λ some. refl)
  comes_law h s m here told balanced numbered (events.Deliver d key bytes) = below s.next_delivery d (WasDelivered h) numbered.delivered numbered.delivery
  comes_law h s m here told balanced numbered (events.Judge t valid) = (λ is. to (and_left (is_live m.tickets t) (is_some (at s.unjudged t)) is) (there_is (at s.unjudged t) (and_right (is_live m.tickets t) (is_some (at s.unjudged t)) is)), from)
    where
      and_left : (a b : Bool) → (a && b) ≡ true → a ≡ true
      and_left true b e = refl
      and_left false b e = absurd cc

      and_right : (a b : Bool) → (a && b) ≡ true → b ≡ true
      and_right true b e = e
      and_right false b e = absurd cc

      both : (a b : Bool) → a ≡ true → b ≡ true → (a && b) ≡ true
      both true b one two = two
      both false b one two = one

      to : is_live m.tickets t ≡ true → (d : ℕ) × (at s.unjudged t ≡ Some d) → (d : ℕ) × HasToJudge h t d
      to live has_to = (has_to.0, (told.unjudged t has_to.0).0 (has_to.1, subscribed_on u h s m t here told balanced (told.held t has_to.0 has_to.1) live))

      from : (d : ℕ) × HasToJudge h t d → (is_live m.tickets t && is_some (at s.unjudged t)) ≡ true
      from has_to = both (is_live m.tickets t) (is_some (at s.unjudged t)) ((here.live t).1 (judging_live u h s m.cancelled t has_to.0 told has_to.1)) (ap is_some ((told.unjudged t has_to.0).1 has_to.1).0)
  comes_law h s m here told balanced numbered (events.Leave t) = here.live t
  comes_law h s m here told balanced numbered (events.Produce n key) = below s.next_serve n (WasProduced h) numbered.produced numbered.serve
