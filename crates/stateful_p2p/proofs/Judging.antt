-- What the answers to deliveries tell, over a history.
use Rattle.std.proofs.Common.{◌≡◌, ℕ, ◌<◌, Bool, true, false, cond, Option, Some, List, [], ◌∷◌, ◌++◌, All, Contains, ◌⊎◌, inl, inr, refl, sym, ap, subst, ◌∙◌, arith}
use Rattle.std.specs.Option.{is_some}
use Rattle.std.proofs.lemmas.Bool.{eqb-true, eq-eqb}
use Rattle.std.proofs.lemmas.List.Elements.{All-contains, Contains-append_cases}
use Rattle.stateful_table.specs.Table.{at}
use Rattle.stateful_p2p.specs.Inbox.{Inbox}
use Rattle.stateful_p2p_tables.specs.Deliveries.{outcome}
use Rattle.stateful_p2p.specs.Resolving.{Setup, may_come, Steps}
use Rattle.stateful_p2p.specs.History.{Entry, Stepped, Takes, Turns}
use Rattle.stateful_p2p.specs.Laws.{HasToJudge, GivesVerdict, HasJudged, HaveReplied, IsVerdict, HasNoVerdict, Delivers, SettlesAt, is_answer_to}
use Rattle.stateful_p2p_tables.specs.declared.state.State.{State}
use Rattle.stateful_p2p.specs.declared.actor.Task.{Task}
use Rattle.stateful_p2p.specs.declared.actor.Task.TheVariants as tasks
use Rattle.stateful_p2p.specs.declared.event.ActorEvent.{ActorEvent}
use Rattle.stateful_p2p_tables.specs.declared.out.ActorOut.{ActorOut}
use Rattle.stateful_p2p_tables.specs.declared.out.ActorOut.TheVariants.{Feedback, Unjudged}
use Rattle.stateful_table.proofs.Tables.{is_at_number}
use Rattle.stateful_p2p.proofs.Histories.{once_split, count_push}
use Rattle.stateful_p2p.proofs.Putting.{count_there}
use Rattle.stateful_p2p.proofs.Performing.{retired_number}
use Rattle.stateful_p2p.proofs.Placing.{IsPlaced, same_takes}
use Rattle.stateful_p2p.proofs.Current.{IsCurrent, IsTold}
use Rattle.stateful_p2p.proofs.Following.{between_current, stepped_current}
use Rattle.stateful_p2p.proofs.Settling.{first_lowest, IsCounted, judged_stands, stands_old, retired_counted, retired_answers, retired_forgets}
use Rattle.stateful_p2p.proofs.Numbering.{IsAnswered, step_numbers, new_delivery, number_up, delivers_up}
use Rattle.stateful_p2p.proofs.Verdicts.{GivenIs, Told, Each, IsJudged, given_more, each_more, keeps_judged, retired_each, retired_told, done_judged}

module _ {D : Type 0} where
  -- what the verdicts that were given tell
  verdict_from : (h : List (Entry D)) (d e : ℕ) (valid : Bool) (given : List (ℕ × Bool)) → GivenIs h d given → outcome d given ≡ Feedback e valid → IsVerdict h d valid
  verdict_from h d e valid [] is out = absurd cc
  verdict_from h d e valid (first ∷ given) is out =
      (first.0, is.there first.0 valid (found ∙ ap {B = Option Bool} (λ w. Some w) (same first.1 out)), λ x other was. first_lowest first given x is.ordered (is.back x other was))
    where
      same : (b : Bool) → Feedback d b ≡ Feedback e valid → b ≡ valid
      same b e = cc

      found : at (first ∷ given) first.0 ≡ Some first.1
      found = ap (λ b. cond b (Some first.1) (at given first.0)) (is_at_number first.0 first.0 ∙ eq-eqb first.0 first.0 refl)

  none_from : (h : List (Entry D)) (d e : ℕ) (given : List (ℕ × Bool)) → GivenIs h d given → outcome d given ≡ Unjudged e → HasNoVerdict h d
  none_from h d e [] is out = λ t valid was. let some = is.back t valid was in let never : ⊥ = cc in never
  none_from h d e (first ∷ given) is out = absurd cc

module _ {D Op : Type 0} (u : Setup D Op) (h : List (Entry D)) (s : State D) (m : Inbox D Op) (event : ActorEvent) (task : Task D) (outs : List ActorOut) (next : State D) (left : Inbox D Op)
    (here : IsPlaced h m) (told : IsTold h s m.cancelled) (answered : IsAnswered h s) (judged : IsJudged h s) (comes : may_come s m event ≡ true) (takes : Takes m left event task) (steps : Steps u s m event outs next left) where
  now : IsCurrent h steps.between
  now = between_current u h s m event outs next left steps told

  counted : IsCounted steps.between
  counted = retired_counted s steps.gone steps.forgotten steps.settled steps.between answered.counted steps.retires

  same_number : steps.between.next_delivery ≡ s.next_delivery
  same_number = retired_number s steps.gone steps.forgotten steps.settled steps.between steps.retires

  own : Each (GivenIs (h ++ Stepped task outs ∷ [])) next × All (Told (h ++ Stepped task outs ∷ []) (Stepped task outs)) steps.done
  own = done_judged u h steps.between (record m { cancelled = [] }) event task steps.done next left outs now (new_delivery u s steps.between m event same_number comes)
      (λ t d b was. subst (λ n. d < n) (sym same_number) (judged.old t d b was)) (retired_each (GivenIs h) s steps.gone steps.forgotten steps.settled steps.between steps.retires judged.each) steps.does (same_takes m left event task takes)

  -- who is judged now has a candidate, of an earlier delivery
  gives_old : (t d : ℕ) (b : Bool) → GivesVerdict t b (Stepped task outs) × HasToJudge h t d → d < s.next_delivery
  gives_old t d b both =
      let stood = judged_stands steps.between t d counted ((now.unjudged t d).1 both.1) in
      subst (λ n. d < n) same_number (stands_old steps.between d counted (ap is_some stood.1))

  stepped_judged : IsJudged (h ++ Stepped task outs ∷ []) next
  stepped_judged = record {
    each = own.0;
    old = λ t d b was.
        let lt = old t d b (once_split h (Stepped task outs) (λ before entry. GivesVerdict t b entry × HasToJudge before t d) was) in
        let up = number_up u s.next_delivery task (delivers_up u s m left event task comes takes) in
        let number = (step_numbers u s m event task outs next left steps takes).delivery in
        omega arith;
  }
    where
      old : (t d : ℕ) (b : Bool) → HasJudged h t d b ⊎ (GivesVerdict t b (Stepped task outs) × HasToJudge h t d) → d < s.next_delivery
      old t d b (inl was) = judged.old t d b was
      old t d b (inr both) = gives_old t d b both

  -- an answer among what is settled is to a delivery that nobody has to judge any more
  settled_apart : (x : ActorOut) (d : ℕ) → Contains steps.settled x → is_answer_to d x ≡ true → (t : ℕ) → at steps.between.unjudged t ≡ Some d → ⊥
  settled_apart x d there is t has_to =
      let stood = judged_stands steps.between t d counted has_to in
      let one = count_there (is_answer_to d) steps.settled x there is in
      let even = retired_answers s steps.gone steps.forgotten steps.settled steps.between steps.retires d in
      let c = ap {B = ℕ} (λ found. cond (is_some found) 1 0) stood.1 in
      let few = answered.few d in
      let all = answered.even d in
      let no' : ⊥ = omega arith in no'

  -- the verdicts on it are the same with this event
  given_on : (d : ℕ) (given : List (ℕ × Bool)) (task : Task D) → ((t : ℕ) → at steps.between.unjudged t ≡ Some d → ⊥) → GivenIs h d given → GivenIs (h ++ Stepped task outs ∷ []) d given
  given_on d given (tasks.Judge t valid) apart is = (keeps_judged h steps.between t valid outs now).others d given (apart t) is
  given_on d given (tasks.Hear message) apart is = given_more h (Stepped (tasks.Hear message) outs) (λ t b never. never) d given is
  given_on d given (tasks.Deliver k key bytes) apart is = given_more h (Stepped (tasks.Deliver k key bytes) outs) (λ t b never. never) d given is
  given_on d given (tasks.Leave t) apart is = given_more h (Stepped (tasks.Leave t) outs) (λ t b never. never) d given is
  given_on d given (tasks.Produce k key) apart is = given_more h (Stepped (tasks.Produce k key) outs) (λ t b never. never) d given is

  -- whatever answer is put out, it tells what was given
  all_told : (x : ActorOut) (d : ℕ) → Contains outs x → is_answer_to d x ≡ true → Told (h ++ Stepped task outs ∷ []) (Stepped task outs) x
  all_told x d there is = first (Contains-append_cases (steps.forgotten ++ steps.settled) steps.done x (subst (λ w. Contains w x) steps.outs_are there))
    where
      more : (x : ActorOut) → is_answer_to d x ≡ true → ((t : ℕ) → at steps.between.unjudged t ≡ Some d → ⊥) → Told h (Stepped task outs) x → Told (h ++ Stepped task outs ∷ []) (Stepped task outs) x
      more (Feedback e valid) is apart (inl it) = inl it
      more (Feedback e valid) is apart (inr given) = let same = eqb-true e d is in inr (given.0, given_on e given.0 task (λ t has_to. apart t (subst (λ w. at steps.between.unjudged t ≡ Some w) same has_to)) given.1, given.2)
      more (Unjudged e) is apart (inl it) = inl it
      more (Unjudged e) is apart (inr given) = let same = eqb-true e d is in inr (given.0, given_on e given.0 task (λ t has_to. apart t (subst (λ w. at steps.between.unjudged t ≡ Some w) same has_to)) given.1, given.2)
      more x is apart was = tt

      second : Contains steps.forgotten x ⊎ Contains steps.settled x → Told (h ++ Stepped task outs ∷ []) (Stepped task outs) x
      second (inl c) = absurd (let none = retired_forgets s steps.gone steps.forgotten steps.settled steps.between steps.retires d in let some = count_there (is_answer_to d) steps.forgotten x c is in omega arith)
      second (inr c) = more x is (settled_apart x d c is) (All-contains (Told h (Stepped task outs)) steps.settled x (retired_told h (Stepped task outs) s steps.gone steps.forgotten steps.settled steps.between steps.retires judged.each) c)

      first : Contains (steps.forgotten ++ steps.settled) x ⊎ Contains steps.done x → Told (h ++ Stepped task outs ∷ []) (Stepped task outs) x
      first (inl c) = second (Contains-append_cases steps.forgotten steps.settled x c)
      first (inr c) = All-contains (Told (h ++ Stepped task outs ∷ []) (Stepped task outs)) steps.done x own.1 c

  -- and all have replied
  replied : IsAnswered (h ++ Stepped task outs ∷ []) next → (x : ActorOut) (d : ℕ) → Contains outs x → is_answer_to d x ≡ true → HaveReplied (h ++ Stepped task outs ∷ []) d
  replied behind x d there is t has_to =
      let current = (stepped_current u h s m event task outs next left here told takes steps).0 in
      let stood = judged_stands next t d behind.counted ((current.unjudged t d).1 has_to) in
      let one = count_there (is_answer_to d) outs x there is in
      let c = ap {B = ℕ} (λ found. cond (is_some found) 1 0) stood.1 in
      let few = behind.few d in
      let all = behind.even d in
      let push = count_push (is_answer_to d) h (Stepped task outs) in
      let no' : ⊥ = omega arith in no'

  settles_by : IsAnswered (h ++ Stepped task outs ∷ []) next → SettlesAt h (Stepped task outs)
  settles_by behind = (
    λ d valid there. feedback d valid there (all_told (Feedback d valid) d there (eq-eqb d d refl)),
    λ d there. unjudged d there (all_told (Unjudged d) d there (eq-eqb d d refl)),
  )
    where
      feedback : (d : ℕ) (valid : Bool) → Contains outs (Feedback d valid) → Told (h ++ Stepped task outs ∷ []) (Stepped task outs) (Feedback d valid)
          → (Delivers d (Stepped task outs) × (valid ≡ false)) ⊎ (HaveReplied (h ++ Stepped task outs ∷ []) d × IsVerdict (h ++ Stepped task outs ∷ []) d valid)
      feedback d valid there (inl it) = inl it
      feedback d valid there (inr given) = inr (replied behind (Feedback d valid) d there (eq-eqb d d refl), verdict_from (h ++ Stepped task outs ∷ []) d d valid given.0 given.1 given.2)

      unjudged : (d : ℕ) → Contains outs (Unjudged d) → Told (h ++ Stepped task outs ∷ []) (Stepped task outs) (Unjudged d) → Delivers d (Stepped task outs) ⊎ (HaveReplied (h ++ Stepped task outs ∷ []) d × HasNoVerdict (h ++ Stepped task outs ∷ []) d)
      unjudged d there (inl it) = inl it
      unjudged d there (inr given) = inr (replied behind (Unjudged d) d there (eq-eqb d d refl), none_from (h ++ Stepped task outs ∷ []) d d given.0 given.1 given.2)

module _ {D Op : Type 0} (u : Setup D Op) where
  idle_judged : (h : List (Entry D)) (s : State D) (e : Entry D) → ((t : ℕ) (b : Bool) → GivesVerdict t b e → ⊥) → IsJudged h s → IsJudged (h ++ e ∷ []) s
  idle_judged h s e none judged = record {
    each = each_more h e s none judged.each;
    old = λ t d b was. old t d b (once_split h e (λ before entry. GivesVerdict t b entry × HasToJudge before t d) was);
  }
    where
      old : (t d : ℕ) (b : Bool) → HasJudged h t d b ⊎ (GivesVerdict t b e × HasToJudge h t d) → d < s.next_delivery
      old t d b (inl was) = judged.old t d b was
      old t d b (inr both) = absurd (none t b both.0)

  pub turn_judged : (h : List (Entry D)) (s : State D) (m : Inbox D Op) (e : Entry D) (next : State D) (left : Inbox D Op) → Turns u s m e next left → IsPlaced h m → IsTold h s m.cancelled → IsAnswered h s → IsJudged h s → IsJudged (h ++ e ∷ []) next
  turn_judged h s m e next left (Turns.asks asks) here told answered judged = idle_judged h s e (λ t b never. never) judged
  turn_judged h s m e next left (Turns.attaches sent_db) here told answered judged = idle_judged h s e (λ t b never. never) judged
  turn_judged h s m e next left Turns.cancels here told answered judged = idle_judged h s e (λ t b never. never) judged
  turn_judged h s m e next left Turns.polls here told answered judged = idle_judged h s e (λ t b never. never) judged
  turn_judged h s m e next left (Turns.steps {event = event} {task = task} {outs = outs} comes takes steps) here told answered judged = stepped_judged u h s m event task outs next left here told answered judged comes takes steps

  pub settles_law : (h : List (Entry D)) (s : State D) (m : Inbox D Op) (e : Entry D) (next : State D) (left : Inbox D Op) → Turns u s m e next left → IsPlaced h m → IsTold h s m.cancelled → IsAnswered h s → IsJudged h s → IsAnswered (h ++ e ∷ []) next → SettlesAt h e
  settles_law h s m e next left (Turns.asks asks) here told answered judged behind = tt
  settles_law h s m e next left (Turns.attaches sent_db) here told answered judged behind = tt
  settles_law h s m e next left Turns.cancels here told answered judged behind = tt
  settles_law h s m e next left Turns.polls here told answered judged behind = tt
  settles_law h s m e next left (Turns.steps {event = event} {task = task} {outs = outs} comes takes steps) here told answered judged behind = settles_by u h s m event task outs next left here told answered judged comes takes steps behind
