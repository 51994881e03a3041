-- That a new resolver keeps the laws, whatever is done to it and to its mailbox.
use Rattle.std.proofs.Common.{◌≡◌, ◌↔◌, ◌⊎◌, ℕ, cond, Option, Some, List, [], ◌∷◌, ◌++◌, Contains, refl, sym, ap, ◌∙◌, subst, arith}
use Rattle.std.specs.Option.{is_some}
use Rattle.stateful_table.specs.Table.{at}
use Rattle.stateful_p2p_tables.specs.New.{IsNew}
use Rattle.stateful_p2p_tables.specs.Deliveries.{waiting_on, awaited_of}
use Rattle.stateful_p2p.specs.Inbox.{Inbox, empty_inbox}
use Rattle.stateful_p2p.specs.Resolving.{Setup}
use Rattle.stateful_p2p.specs.History.{Entry, Stepped, outs_of, count_outs, Turns, Runs}
use Rattle.stateful_p2p.specs.Laws.{IsDrawn, IsLive, HadFetch, HandsOver, Retakes, HasToJudge, Delivers, WasDelivered, Produces, is_forget_of, is_answer_to, GivesVerdict, TellsAt, ForgetsAt, AnswersAt, SettlesAt, Serves, KeepsLaws}
use Rattle.stateful_p2p_tables.specs.declared.state.State.{State}
use Rattle.stateful_p2p_tables.specs.declared.out.ActorOut.TheVariants.{Candidate}
use Rattle.stateful_p2p.proofs.Histories.{kept, each, once_none, since_none}
use Rattle.stateful_p2p.proofs.Placing.{IsPlaced, turn_placed}
use Rattle.stateful_p2p.proofs.Fetching.{fetches_law, takes_law}
use Rattle.stateful_p2p.proofs.Current.{none_some, IsCurrent, IsTold}
use Rattle.stateful_p2p.proofs.Following.{known_first, turn_told, stepped_current}
use Rattle.stateful_p2p.proofs.Forgetting.{sorted_nil, IsBalanced, turn_balanced}
use Rattle.stateful_p2p.proofs.Telling.{tells_law}
use Rattle.stateful_p2p.proofs.Settling.{InOrder}
use Rattle.stateful_p2p.proofs.Numbering.{IsNumbered, IsAnswered, turn_numbered, turn_answered}
use Rattle.stateful_p2p.proofs.Verdicts.{IsJudged}
use Rattle.stateful_p2p.proofs.Judging.{turn_judged, settles_law}
use Rattle.stateful_p2p.proofs.Producing.{IsServed, turn_serves, turn_served}
use Rattle.stateful_p2p.proofs.Polling.{IsPolled, IsWaiting, dropped_law, turn_polled}
use Rattle.stateful_p2p.proofs.Ending.{forgets_behind, answers_behind, comes_law}

abbrev IsStep : {D : Type 0} → Entry D → Type 0
IsStep (Stepped task outs) = Unit {0}
IsStep entry = ⊥

same_number : (d e : ℕ) → ◌≡◌ {A = Option ℕ} (Some d) (Some e) → d ≡ e
same_number d e is = cc

module _ {D Op : Type 0} (u : Setup D Op) where
  -- what each entry keeps
  record Holds (h : List (Entry D)) (s : State D) (m : Inbox D Op) : Type 0 where
    placed : IsPlaced h m
    told : IsTold h s m.cancelled
    balanced : IsBalanced h s
    numbered : IsNumbered h s
    answered : IsAnswered h s
    judged : IsJudged h s
    serves : Serves u h s.database
    served : IsServed h s
    polled : IsPolled h m
    waiting : IsWaiting u.operations h m

  first_holds : (first : State D) (capacity : ℕ) → IsNew first → Holds [] first (empty_inbox capacity)
  first_holds first capacity new =
      let known = known_first u first capacity new in
      record {
        placed = known.placed;
        told = known.told;
        balanced = record { even = λ t. let e = ap {B = ℕ} (λ w. cond (is_some (at w t)) 1 0) new.nobody in omega arith };
        numbered = record {
          delivered = λ d was. absurd (once_none (λ before entry. Delivers d entry) was);
          delivery = λ n all. let e = new.first_delivery in omega arith;
          produced = λ k was. absurd (once_none (λ before entry. Produces k entry) was);
          serve = λ n all. let e = new.first_serve in omega arith;
        };
        answered = record {
          counted = record {
            sound = record {
              counted = λ d. ap (waiting_on d) new.nothing ∙ sym (ap (λ w. awaited_of (at w d)) new.none);
              fresh = λ d up. ap (λ w. at w d) new.none;
            };
            ordered = subst InOrder (sym new.nothing) sorted_nil;
            awaits = λ d v there. absurd (none_some v (sym (ap (λ w. at w d) new.none) ∙ there));
          };
          even = λ d. let e = ap {B = ℕ} (λ w. cond (is_some (at w d)) 1 0) new.none in omega arith;
          new = λ d up. refl;
          few = λ d. omega arith;
        };
        judged = record {
          each = λ d v there. absurd (none_some v (sym (ap (λ w. at w d) new.none) ∙ there));
          old = λ t d b was. absurd (once_none (λ before entry. GivesVerdict t b entry × HasToJudge before t d) was);
        };
        serves = subst (Serves u []) (sym new.no_database) Serves.nothing;
        served = record { new = λ n up. refl; few = λ n. omega arith };
        polled = record {
          stands = λ t drawn. absurd (once_none (λ before entry. IsDrawn t entry) drawn);
          fresh = λ t up had. once_none (λ before entry. Contains (outs_of entry) (Candidate t)) had;
        };
        waiting = record { some = λ t r is. absurd (none_some r is); none = λ t is r waits. since_none (HandsOver u.operations t r) (Retakes t) waits };
      }

  turn_holds : (h : List (Entry D)) (s : State D) (m : Inbox D Op) (e : Entry D) (next : State D) (left : Inbox D Op) → Turns u s m e next left → Holds h s m → Holds (h ++ e ∷ []) next left
  turn_holds h s m e next left turn all = record {
    placed = turn_placed u h s m e next left turn all.placed;
    told = turn_told u h s m e next left turn all.placed all.told;
    balanced = turn_balanced u h s m e next left turn all.placed all.told all.balanced;
    numbered = turn_numbered u h s m e next left turn all.numbered;
    answered = turn_answered u h s m e next left turn all.answered;
    judged = turn_judged u h s m e next left turn all.placed all.told all.answered all.judged;
    serves = turn_serves u h s m e next left turn all.serves;
    served = turn_served u h s m e next left turn all.served;
    polled = (turn_polled u h s m e next left turn all.placed all.told all.polled all.waiting).0;
    waiting = (turn_polled u h s m e next left turn all.placed all.told all.polled all.waiting).1;
  }

  -- behind an event, all that is told holds of the tables
  behind : (h : List (Entry D)) (s : State D) (m : Inbox D Op) (e : Entry D) (next : State D) (left : Inbox D Op) → Turns u s m e next left → Holds h s m → (P : List (Entry D) → Type 0)
      → (IsCurrent (h ++ e ∷ []) next → Holds (h ++ e ∷ []) next left → P (h ++ e ∷ [])) → IsStep e → P (h ++ e ∷ [])
  behind h s m e next left (Turns.steps {event = event} {task = task} {outs = outs} comes takes steps) all P then is =
      then (stepped_current u h s m event task outs next left all.placed all.told takes steps).0 (turn_holds h s m e next left (Turns.steps comes takes steps) all)
  behind h s m e next left (Turns.asks asks) all P then is = absurd is
  behind h s m e next left (Turns.attaches sent_db) all P then is = absurd is
  behind h s m e next left Turns.cancels all P then is = absurd is
  behind h s m e next left Turns.polls all P then is = absurd is

  forgets_at : (h : List (Entry D)) (s : State D) (m : Inbox D Op) (e : Entry D) (next : State D) (left : Inbox D Op) → Turns u s m e next left → Holds h s m → ForgetsAt h e
  forgets_at h s m (Stepped task outs) next left turn all = behind h s m (Stepped task outs) next left turn all (λ after. (t : ℕ) → (count_outs (is_forget_of t) after ≡ 1) ↔ (HadFetch after t × (IsLive after t → ⊥)))
      (λ now holds. forgets_behind (h ++ Stepped task outs ∷ []) next left holds.placed now holds.balanced) tt
  forgets_at h s m e next left turn all = tt

  answers_at : (h : List (Entry D)) (s : State D) (m : Inbox D Op) (e : Entry D) (next : State D) (left : Inbox D Op) → Turns u s m e next left → Holds h s m → AnswersAt h e
  answers_at h s m (Stepped task outs) next left turn all = behind h s m (Stepped task outs) next left turn all (λ after. (d : ℕ) → WasDelivered after d → (count_outs (is_answer_to d) after ≡ 1) ⊎ ((t : ℕ) × HasToJudge after t d))
      (λ now holds. answers_behind (h ++ Stepped task outs ∷ []) next now holds.answered) tt
  answers_at h s m e next left turn all = tt

  pub KeepsLaws-new : (first : State D) (box : Inbox D Op) (capacity : ℕ) → IsNew first → box ≡ empty_inbox capacity → KeepsLaws u first box
  KeepsLaws-new first box capacity new is = subst (KeepsLaws u first) (sym is) laws
    where
      holds : (h : List (Entry D)) (s : State D) (m : Inbox D Op) → Runs u first (empty_inbox capacity) h s m → Holds h s m
      holds = kept u Holds (first_holds first capacity new) turn_holds

      laws : KeepsLaws u first (empty_inbox capacity)
      laws h s m runs =
          let here = (holds h s m runs).placed in
          record {
            tells = each u Holds (TellsAt u.operations) holds (λ h s m e next left turn all. tells_law u h s m e next left turn all.placed all.told all.balanced) h s m runs;
            fetches = fetches_law u capacity h s m runs;
            taken = takes_law u capacity h s m runs;
            fetched_once = λ t. let f = here.few t in omega arith;
            none_forgotten = λ t live. here.all t ((here.live t).1 live);
            comes = let all = holds h s m runs in comes_law u h s m all.placed all.told all.balanced all.numbered;
            one_at_a_time = λ t d e one other. let told = (holds h s m runs).told in same_number d e (sym ((told.unjudged t d).1 one).0 ∙ ((told.unjudged t e).1 other).0);
            forgotten_once = λ t. let f = here.few t in let e = (holds h s m runs).balanced.even t in omega arith;
            forgets = each u Holds ForgetsAt holds forgets_at h s m runs;
            answered_once = λ d. let f = (holds h s m runs).answered.few d in let e = (holds h s m runs).answered.even d in omega arith;
            answers = each u Holds AnswersAt holds answers_at h s m runs;
            settles = each u Holds SettlesAt holds (λ h s m e next left turn all. settles_law u h s m e next left turn all.placed all.told all.answered all.judged (turn_answered u h s m e next left turn all.answered)) h s m runs;
            dropped = let all = holds h s m runs in dropped_law h m all.placed all.polled;
            waits = (holds h s m runs).waiting.some;
            nothing_waits = (holds h s m runs).waiting.none;
            served_once = λ n. (holds h s m runs).served.few n;
            served = (s.database, (holds h s m runs).serves);
          }
