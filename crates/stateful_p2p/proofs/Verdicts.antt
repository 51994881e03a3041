-- That the verdict on a delivery is that of the lowest ticket that gave one, once all have replied.
use Rattle.std.proofs.Common.{◌≡◌, ℕ, ◌≤◌, ◌<◌, ◌==◌, Bool, true, false, cond, Option, Some, None, List, [], ◌∷◌, ◌++◌, length, All, ◌⊎◌, inl, inr, refl, sym, ap, subst, ◌∙◌, arith}
use Rattle.std.specs.Prelude.{option_to_list}
use Rattle.std.specs.Option.{is_some}
use Rattle.std.proofs.lemmas.Bool.{eqb-true, eqb-false, eq-eqb}
use Rattle.std.proofs.lemmas.List.Elements.{All-nil, All-cons, All-append}
use Rattle.stateful_base.specs.Format.{Format}
use Rattle.stateful_types.specs.declared.request.Request.{Request}
use Rattle.stateful_table.specs.Table.{at, put, without}
use Rattle.stateful_p2p.specs.Inbox.{Inbox}
use Rattle.stateful_p2p_tables.specs.Deliveries.{outcome, heard, settled_by, kept, Releases, has_none, releases, Forgets, stranger, forgets, Retires, nobody, unfetched, fetched}
use Rattle.stateful_p2p.specs.Fanout as fanout
use Rattle.stateful_p2p.specs.Resolving.{Setup, may_come, Hears, Judges, Leaves, Produces, Does, Steps}
use Rattle.stateful_p2p.specs.Resolving as resolving
use Rattle.stateful_p2p.specs.History.{Entry, Stepped, Takes}
use Rattle.stateful_p2p.specs.Laws.{HasToJudge, GivesVerdict, HasJudged, Delivers}
use Rattle.stateful_p2p_tables.specs.declared.state.State.{State}
use Rattle.stateful_p2p_tables.specs.declared.state.Verdicts.{Verdicts}
use Rattle.stateful_p2p.specs.declared.message.Message.{Message}
use Rattle.stateful_p2p.specs.declared.actor.Task.{Task}
use Rattle.stateful_p2p.specs.declared.actor.Task.TheVariants as tasks
use Rattle.stateful_p2p.specs.declared.event.ActorEvent.{ActorEvent}
use Rattle.stateful_p2p.specs.declared.event.ActorEvent.TheVariants as events
use Rattle.stateful_p2p_tables.specs.declared.out.ActorOut.{ActorOut}
use Rattle.stateful_p2p_tables.specs.declared.out.ActorOut.TheVariants.{Fetch, Forget, Feedback, Unjudged}
use Rattle.stateful_table.proofs.Tables.{at-put, at-without}
use Rattle.stateful_p2p.proofs.Histories.{once_here, once_before, once_split}
use Rattle.stateful_p2p.proofs.Putting.{all_one, all_candidates, all_produced}
use Rattle.stateful_p2p.proofs.Current.{none_some, IsCurrent}
use Rattle.stateful_p2p.proofs.Forgetting.{sorted_nil}
use Rattle.stateful_p2p.proofs.Settling.{InOrder, put_in_order}

same_some : (x y : Verdicts) → ◌≡◌ {A = Option Verdicts} (Some x) (Some y) → x ≡ y
same_some x y e = cc

module _ {D : Type 0} where
  -- the verdicts are those that were given on the delivery
  pub record GivenIs (h : List (Entry D)) (d : ℕ) (given : List (ℕ × Bool)) : Type 0 where
    pub ordered : InOrder given
    pub there : (t : ℕ) (b : Bool) → at given t ≡ Some b → HasJudged h t d b
    pub back : (t : ℕ) (b : Bool) → HasJudged h t d b → is_some (at given t) ≡ true

  -- what an answer to a delivery tells: it is given where the delivery comes, or by the verdicts that were given
  abbrev pub Told : List (Entry D) → Entry D → ActorOut → Type 0
  Told h e (Feedback d valid) = (Delivers d e × (valid ≡ false)) ⊎ ((given : List (ℕ × Bool)) × GivenIs h d given × (outcome d given ≡ Feedback d valid))
  Told h e (Unjudged d) = Delivers d e ⊎ ((given : List (ℕ × Bool)) × GivenIs h d given × (outcome d given ≡ Unjudged d))
  Told h e out = Unit {0}

  told_outcome : (h : List (Entry D)) (e : Entry D) (d : ℕ) (given : List (ℕ × Bool)) → GivenIs h d given → Told h e (outcome d given)
  told_outcome h e d [] is = inr ([], is, refl)
  told_outcome h e d (first ∷ given) is = inr (first ∷ given, is, refl)

  -- what each delivery that stands has
  abbrev pub Each : (ℕ → List (ℕ × Bool) → Type 0) → State D → Type 0
  Each Q s = (d : ℕ) (v : Verdicts) → at s.deliveries d ≡ Some v → Q d v.given

  -- a ticket gives its verdict or leaves: the verdicts on the other deliveries stay what they are
  pub record Keeps (Q Q' : ℕ → List (ℕ × Bool) → Type 0) (s : State D) (t : ℕ) (verdict : Option Bool) : Type 0 where
    pub others : (d : ℕ) (given : List (ℕ × Bool)) → (at s.unjudged t ≡ Some d → ⊥) → Q d given → Q' d given
    pub this : (d : ℕ) (v : Verdicts) → at s.unjudged t ≡ Some d → Q d v.given → Q' d (heard v t verdict).given

  pub released_each : (Q Q' : ℕ → List (ℕ × Bool) → Type 0) (s : State D) (t : ℕ) (verdict : Option Bool) (settled : Option ActorOut) (next : State D) → Keeps Q Q' s t verdict → Releases s t verdict settled next → Each Q s → Each Q' next
  released_each Q Q' s t verdict settled next keeps (has_none none) each = λ d v there. keeps.others d v.given (λ is. none_some d (sym none ∙ is)) (each d v there)
  released_each Q Q' s t verdict settled next keeps (releases {d = d} {v = v} here there) each = λ e w. go e w ((heard v t verdict).awaited == 0)
    where
      same_number : (x y : ℕ) → ◌≡◌ {A = Option ℕ} (Some x) (Some y) → x ≡ y
      same_number x y e = cc

      old : (e : ℕ) (w : Verdicts) (b : Bool) → (d == e) ≡ b → at (without s.deliveries d) e ≡ Some w → Q' e w.given
      old e w true same is = absurd (none_some w (sym (at-without s.deliveries d e ∙ ap (λ b. cond b None (at s.deliveries e)) same) ∙ is))
      old e w false other is =
          keeps.others e w.given (λ there. eqb-false d e other (same_number d e (sym here ∙ there))) (each e w (sym (at-without s.deliveries d e ∙ ap (λ b. cond b None (at s.deliveries e)) other) ∙ is))

      new : (e : ℕ) (w : Verdicts) (b : Bool) → (d == e) ≡ b → at (put (without s.deliveries d) d (heard v t verdict)) e ≡ cond b (Some (heard v t verdict)) (at (without s.deliveries d) e) → at (put (without s.deliveries d) d (heard v t verdict)) e ≡ Some w → Q' e w.given
      new e w true same put_is is =
          let w_is : heard v t verdict ≡ w = same_some (heard v t verdict) w (sym put_is ∙ is) in
          subst (λ (x : Verdicts). Q' e x.given) w_is (subst (λ k. Q' k (heard v t verdict).given) (eqb-true d e same) (keeps.this d v here (each d v there)))
      new e w false other put_is is = old e w false other (sym put_is ∙ is)

      go : (e : ℕ) (w : Verdicts) (b : Bool) → at (cond b (without s.deliveries d) (put (without s.deliveries d) d (heard v t verdict))) e ≡ Some w → Q' e w.given
      go e w true is = old e w (d == e) refl is
      go e w false is = new e w (d == e) refl (at-put (without s.deliveries d) d (heard v t verdict) e) is

  pub released_told : (h : List (Entry D)) (e : Entry D) (Q : ℕ → List (ℕ × Bool) → Type 0) (s : State D) (t : ℕ) (verdict : Option Bool) (settled : Option ActorOut) (next : State D) → Keeps Q (GivenIs h) s t verdict → Releases s t verdict settled next → Each Q s
      → All (Told h e) (option_to_list settled)
  released_told h e Q s t verdict settled next keeps (has_none none) each = All-nil (Told h e)
  released_told h e Q s t verdict settled next keeps (releases {d = d} {v = v} here there) each = go ((heard v t verdict).awaited == 0)
    where
      go : (b : Bool) → All (Told h e) (option_to_list (cond b (Some (outcome d (heard v t verdict).given)) None))
      go true = all_one (Told h e) (outcome d (heard v t verdict).given) (told_outcome h e d (heard v t verdict).given (keeps.this d v here (each d v there)))
      go false = All-nil (Told h e)

  -- who leaves gives no verdict
  pub keeps_left : (Q : ℕ → List (ℕ × Bool) → Type 0) (s : State D) (t : ℕ) → Keeps Q Q s t None
  keeps_left Q s t = record { others = λ d given apart q. q; this = λ d v is q. q }

  pub forgot_each : (Q : ℕ → List (ℕ × Bool) → Type 0) (s : State D) (t : ℕ) (one : Option (Option ActorOut)) (next : State D) → Forgets s t one next → Each Q s → Each Q next
  forgot_each Q s t one next (stranger none) each = each
  forgot_each Q s t one next (forgets {settled = settled} some rel) each = released_each Q Q (record s { subscriptions = without s.subscriptions t }) t None settled next (keeps_left Q (record s { subscriptions = without s.subscriptions t }) t) rel each

  pub forgot_told : (h : List (Entry D)) (e : Entry D) (s : State D) (t : ℕ) (settled : Option ActorOut) (next : State D) → Forgets s t (Some settled) next → Each (GivenIs h) s → All (Told h e) (option_to_list settled)
  forgot_told h e s t settled next (forgets some rel) each = released_told h e (GivenIs h) (record s { subscriptions = without s.subscriptions t }) t None settled next (keeps_left (GivenIs h) (record s { subscriptions = without s.subscriptions t }) t) rel each

  pub retired_each : (Q : ℕ → List (ℕ × Bool) → Type 0) (s : State D) (ts : List ℕ) (f o : List ActorOut) (last : State D) → Retires s ts f o last → Each Q s → Each Q last
  retired_each Q s ts f o last nobody each = each
  retired_each Q s ts f o last (unfetched {t = t} {ts = us} {next = next} one rest) each = retired_each Q next us f o last rest (forgot_each Q s t None next one each)
  retired_each Q s ts f o last (fetched {t = t} {ts = us} {one = x} {forgotten = g} {settled = p} {next = next} one rest) each = retired_each Q next us g p last rest (forgot_each Q s t (Some x) next one each)

  pub retired_told : (h : List (Entry D)) (e : Entry D) (s : State D) (ts : List ℕ) (f o : List ActorOut) (last : State D) → Retires s ts f o last → Each (GivenIs h) s → All (Told h e) o
  retired_told h e s ts f o last nobody each = All-nil (Told h e)
  retired_told h e s ts f o last (unfetched {t = t} {ts = us} {next = next} one rest) each = retired_told h e next us f o last rest (forgot_each (GivenIs h) s t None next one each)
  retired_told h e s ts f o last (fetched {t = t} {ts = us} {one = x} {forgotten = g} {settled = p} {next = next} one rest) each =
      All-append (Told h e) (option_to_list x) p (forgot_told h e s t x next one each) (retired_told h e next us g p last rest (forgot_each (GivenIs h) s t (Some x) next one each))

  -- ---- with one event more

  -- an entry that gives no verdict
  pub given_more : (h : List (Entry D)) (e : Entry D) → ((t : ℕ) (b : Bool) → GivesVerdict t b e → ⊥) → (d : ℕ) (given : List (ℕ × Bool)) → GivenIs h d given → GivenIs (h ++ e ∷ []) d given
  given_more h e none d given is = record {
    ordered = is.ordered;
    there = λ t b found. once_before h e (λ before entry. GivesVerdict t b entry × HasToJudge before t d) (is.there t b found);
    back = λ t b was. old t b (once_split h e (λ before entry. GivesVerdict t b entry × HasToJudge before t d) was);
  }
    where
      old : (t : ℕ) (b : Bool) → HasJudged h t d b ⊎ (GivesVerdict t b e × HasToJudge h t d) → is_some (at given t) ≡ true
      old t b (inl was) = is.back t b was
      old t b (inr now) = absurd (none t b now.0)

  -- a verdict that is given
  pub keeps_judged : (h : List (Entry D)) (s : State D) (t : ℕ) (valid : Bool) (outs : List ActorOut) → IsCurrent h s → Keeps (GivenIs h) (GivenIs (h ++ Stepped (tasks.Judge t valid) outs ∷ [])) s t (Some valid)
  keeps_judged h s t valid outs now = record { others = others; this = this }
    where
      e : Entry D
      e = Stepped (tasks.Judge t valid) outs

      others : (d : ℕ) (given : List (ℕ × Bool)) → (at s.unjudged t ≡ Some d → ⊥) → GivenIs h d given → GivenIs (h ++ Stepped (tasks.Judge t valid) outs ∷ []) d given
      others d given apart is = record {
        ordered = is.ordered;
        there = λ x b found. once_before h e (λ before entry. GivesVerdict x b entry × HasToJudge before x d) (is.there x b found);
        back = λ x b was. old x b (once_split h e (λ before entry. GivesVerdict x b entry × HasToJudge before x d) was);
      }
        where
          old : (x : ℕ) (b : Bool) → HasJudged h x d b ⊎ (((t ≡ x) × (valid ≡ b)) × HasToJudge h x d) → is_some (at given x) ≡ true
          old x b (inl was) = is.back x b was
          old x b (inr give) = absurd (apart ((now.unjudged t d).1 (subst (λ w. HasToJudge h w d) (sym give.0.0) give.1)))

      this : (d : ℕ) (v : Verdicts) → at s.unjudged t ≡ Some d → GivenIs h d v.given → GivenIs (h ++ Stepped (tasks.Judge t valid) outs ∷ []) d (put v.given t valid)
      this d v has_to is = record {
        ordered = put_in_order v.given t valid is.ordered;
        there = λ x b found. to x b (t == x) refl (at-put v.given t valid x) found;
        back = λ x b was. from x b (at-put v.given t valid x) (once_split h e (λ before entry. GivesVerdict x b entry × HasToJudge before x d) was);
      }
        where
          same_bool : (x y : Bool) → ◌≡◌ {A = Option Bool} (Some x) (Some y) → x ≡ y
          same_bool x y e = cc

          to : (x : ℕ) (b w : Bool) → (t == x) ≡ w → at (put v.given t valid) x ≡ cond (t == x) (Some valid) (at v.given x) → at (put v.given t valid) x ≡ Some b → HasJudged (h ++ Stepped (tasks.Judge t valid) outs ∷ []) x d b
          to x b true same put_is found =
              let b_is : valid ≡ b = same_bool valid b (sym (put_is ∙ ap (λ w. cond w (Some valid) (at v.given x)) same) ∙ found) in
              let x_is : t ≡ x = eqb-true t x same in
              once_here h e (λ before entry. GivesVerdict x b entry × HasToJudge before x d) ((x_is, b_is), subst (λ w. HasToJudge h w d) x_is ((now.unjudged t d).0 has_to))
          to x b false other put_is found =
              once_before h e (λ before entry. GivesVerdict x b entry × HasToJudge before x d) (is.there x b (sym (put_is ∙ ap (λ w. cond w (Some valid) (at v.given x)) other) ∙ found))

          any_found : (w : Bool) (found : Option Bool) → is_some found ≡ true → is_some (cond w (Some valid) found) ≡ true
          any_found true found some = refl
          any_found false found some = some

          from : (x : ℕ) (b : Bool) → at (put v.given t valid) x ≡ cond (t == x) (Some valid) (at v.given x) → HasJudged h x d b ⊎ (((t ≡ x) × (valid ≡ b)) × HasToJudge h x d) → is_some (at (put v.given t valid) x) ≡ true
          from x b put_is (inl was) = ap is_some put_is ∙ any_found (t == x) (at v.given x) (is.back x b was)
          from x b put_is (inr give) = ap is_some put_is ∙ ap (λ w. is_some (cond w (Some valid) (at v.given x))) (eq-eqb t x give.0.0)

  -- ---- over a history

  -- what stands has the verdicts that were given, and nobody judged what is yet to come
  pub record IsJudged (h : List (Entry D)) (s : State D) : Type 0 where
    pub each : Each (GivenIs h) s
    pub old : (t d : ℕ) (b : Bool) → HasJudged h t d b → d < s.next_delivery

  pub each_more : (h : List (Entry D)) (e : Entry D) (s : State D) → ((t : ℕ) (b : Bool) → GivesVerdict t b e → ⊥) → Each (GivenIs h) s → Each (GivenIs (h ++ e ∷ [])) s
  each_more h e s none each d v there = given_more h e none d v.given (each d v there)

module _ {D Op : Type 0} where
  heard_judged : (h : List (Entry D)) (s : State D) (m : Inbox D Op) (message : Message D) (done : List ActorOut) (next : State D) (e : Entry D) → ((t : ℕ) (b : Bool) → GivesVerdict t b e → ⊥) → Each (GivenIs h) s → Hears s m message done next
      → Each (GivenIs (h ++ e ∷ [])) next × All (Told (h ++ e ∷ []) e) done
  heard_judged h s m message done next e none each resolving.attaches = (each_more h e s none each, All-nil (Told (h ++ e ∷ []) e))
  heard_judged h s m message done next e none each (resolving.fetches {t = t} {key = key} live) = (each_more h e s none each, all_one (Told (h ++ e ∷ []) e) (Fetch t key) tt)
  heard_judged h s m message done next e none each (resolving.passes_over dead) = (each_more h e s none each, All-nil (Told (h ++ e ∷ []) e))

  delivered_judged : (operations : Format Op) (h : List (Entry D)) (s : State D) (m : Inbox D Op) (d : ℕ) (key : Request) (bytes : List ℕ) (done : List ActorOut) (next : State D) (left : Inbox D Op) (outs : List ActorOut)
      → s.next_delivery ≤ d → ((t e : ℕ) (b : Bool) → HasJudged h t e b → e < s.next_delivery) → Each (GivenIs h) s → fanout.Delivers operations s m d key bytes done next left
      → Each (GivenIs (h ++ Stepped (tasks.Deliver d key bytes) outs ∷ [])) next × All (Told (h ++ Stepped (tasks.Deliver d key bytes) outs ∷ []) (Stepped (tasks.Deliver d key bytes) outs)) done
  delivered_judged operations h s m d key bytes done next left outs new old each (fanout.unheard x) =
      let e : Entry D = Stepped (tasks.Deliver d key bytes) outs in (each_more h e s (λ t b never. never) each, all_one (Told (h ++ e ∷ []) e) (Unjudged d) (inl refl))
  delivered_judged operations h s m d key bytes done next left outs new old each (fanout.malformed x y) =
      let e : Entry D = Stepped (tasks.Deliver d key bytes) outs in (each_more h e s (λ t b never. never) each, all_one (Told (h ++ e ∷ []) e) (Feedback d false) (inl (refl, refl)))
  delivered_judged operations h s m d key bytes done next left outs new old each (fanout.untaken x y) =
      let e : Entry D = Stepped (tasks.Deliver d key bytes) outs in (each_more h e s (λ t b never. never) each, all_one (Told (h ++ e ∷ []) e) (Unjudged d) (inl refl))
  delivered_judged operations h s m d key bytes done next left outs new old each (fanout.taken {takers = takers} x y z) =
      (λ k w there. go k w (d == k) refl (at-put s.deliveries d fresh k) there, all_candidates (Told (h ++ e ∷ []) e) (λ t. tt) takers)
    where
      e : Entry D
      e = Stepped (tasks.Deliver d key bytes) outs

      fresh : Verdicts
      fresh = record { awaited = length takers; given = [] }

      nothing : GivenIs (h ++ Stepped (tasks.Deliver d key bytes) outs ∷ []) d []
      nothing = record {
        ordered = sorted_nil;
        there = λ t b found. absurd (none_some b found);
        back = λ t b was. absurd (never t b (once_split h (Stepped (tasks.Deliver d key bytes) outs) (λ before entry. GivesVerdict t b entry × HasToJudge before t d) was));
      }
        where
          never : (t : ℕ) (b : Bool) → HasJudged h t d b ⊎ (⊥ × HasToJudge h t d) → ⊥
          never t b (inl was) = let lt = old t d b was in let no' : ⊥ = omega arith in no'
          never t b (inr now) = now.0

      go : (k : ℕ) (w : Verdicts) (b : Bool) → (d == k) ≡ b → at (put s.deliveries d fresh) k ≡ cond (d == k) (Some fresh) (at s.deliveries k) → at (put s.deliveries d fresh) k ≡ Some w → GivenIs (h ++ Stepped (tasks.Deliver d key bytes) outs ∷ []) k w.given
      go k w true same is there =
          let w_is : fresh ≡ w = same_some fresh w (sym (is ∙ ap (λ b. cond b (Some fresh) (at s.deliveries k)) same) ∙ there) in
          subst (λ (x : Verdicts). GivenIs (h ++ Stepped (tasks.Deliver d key bytes) outs ∷ []) k x.given) w_is (subst (λ j. GivenIs (h ++ Stepped (tasks.Deliver d key bytes) outs ∷ []) j []) (eqb-true d k same) nothing)
      go k w false other is there = given_more h (Stepped (tasks.Deliver d key bytes) outs) (λ t b never. never) k w.given (each k w (sym (is ∙ ap (λ b. cond b (Some fresh) (at s.deliveries k)) other) ∙ there))

  judged_judged : (h : List (Entry D)) (s : State D) (m : Inbox D Op) (t : ℕ) (valid : Bool) (done : List ActorOut) (next : State D) (left : Inbox D Op) (outs : List ActorOut) → IsCurrent h s → Each (GivenIs h) s → Judges s m t valid done next left
      → Each (GivenIs (h ++ Stepped (tasks.Judge t valid) outs ∷ [])) next × All (Told (h ++ Stepped (tasks.Judge t valid) outs ∷ []) (Stepped (tasks.Judge t valid) outs)) done
  judged_judged h s m t valid done next left outs now each (resolving.accepts {settled = settled} {next = mid} rel) =
      let e : Entry D = Stepped (tasks.Judge t true) outs in
      let keeps = keeps_judged h s t true outs now in (
        released_each (GivenIs h) (GivenIs (h ++ e ∷ [])) s t (Some true) settled mid keeps rel each,
        All-cons (Told (h ++ e ∷ []) e) (Forget t) (option_to_list settled) tt (released_told (h ++ e ∷ []) e (GivenIs h) s t (Some true) settled mid keeps rel each),
      )
  judged_judged h s m t valid done next left outs now each (resolving.rejects {settled = settled} rel) =
      let e : Entry D = Stepped (tasks.Judge t false) outs in
      let keeps = keeps_judged h s t false outs now in
      (released_each (GivenIs h) (GivenIs (h ++ e ∷ [])) s t (Some false) settled next keeps rel each, released_told (h ++ e ∷ []) e (GivenIs h) s t (Some false) settled next keeps rel each)

  left_judged : (h : List (Entry D)) (s : State D) (m : Inbox D Op) (t : ℕ) (done : List ActorOut) (next : State D) (left : Inbox D Op) (outs : List ActorOut) → Each (GivenIs h) s → Leaves s m t done next left
      → Each (GivenIs (h ++ Stepped (tasks.Leave t) outs ∷ [])) next × All (Told (h ++ Stepped (tasks.Leave t) outs ∷ []) (Stepped (tasks.Leave t) outs)) done
  left_judged h s m t done next left outs each (Leaves.leaves {settled = settled} f) =
      let e : Entry D = Stepped (tasks.Leave t) outs in
      let each' = each_more h e s (λ x b never. never) each in
      (forgot_each (GivenIs (h ++ e ∷ [])) s t (Some settled) next f each', All-cons (Told (h ++ e ∷ []) e) (Forget t) (option_to_list settled) tt (forgot_told (h ++ e ∷ []) e s t settled next f each'))
  left_judged h s m t done next left outs each (resolving.leaves_unfetched f) =
      let e : Entry D = Stepped (tasks.Leave t) outs in
      (forgot_each (GivenIs (h ++ e ∷ [])) s t None next f (each_more h e s (λ x b never. never) each), All-nil (Told (h ++ e ∷ []) e))

module _ {D Op : Type 0} (u : Setup D Op) where
  produced_judged : (h : List (Entry D)) (s : State D) (n : ℕ) (key : Request) (done : List ActorOut) (next : State D) (outs : List ActorOut) → Each (GivenIs h) s → Produces u s n key done next
      → Each (GivenIs (h ++ Stepped (tasks.Produce n key) outs ∷ [])) next × All (Told (h ++ Stepped (tasks.Produce n key) outs ∷ []) (Stepped (tasks.Produce n key) outs)) done
  produced_judged h s n key done next outs each p =
      let e : Entry D = Stepped (tasks.Produce n key) outs in
      (subst (λ (w : State D). Each (GivenIs (h ++ e ∷ [])) w) (sym p.others) (each_more h e s (λ x b never. never) each), all_produced (Told (h ++ e ∷ []) e) {Op = Op} (λ n bytes. tt) (λ n. tt) u s n key done next p)

  pub done_judged : (h : List (Entry D)) (s : State D) (m : Inbox D Op) (event : ActorEvent) (task : Task D) (done : List ActorOut) (next : State D) (left : Inbox D Op) (outs : List ActorOut) → IsCurrent h s → ((d : ℕ) (key : Request) (bytes : List ℕ) → event ≡ events.Deliver d key bytes → s.next_delivery ≤ d)
      → ((t d : ℕ) (b : Bool) → HasJudged h t d b → d < s.next_delivery) → Each (GivenIs h) s → Does u s m event done next left → Takes m left event task
      → Each (GivenIs (h ++ Stepped task outs ∷ [])) next × All (Told (h ++ Stepped task outs ∷ []) (Stepped task outs)) done
  done_judged h s m event task done next left outs now new old each (Does.hears {message = message} hands are p) (Takes.hears {message = other} handed) = heard_judged h s m message done next (Stepped (tasks.Hear other) outs) (λ t b never. never) each p
  done_judged h s m event task done next left outs now new old each (Does.delivers {d = d} {key = key} {bytes = bytes} p) Takes.delivers = delivered_judged u.operations h s m d key bytes done next left outs (new d key bytes refl) old each p
  done_judged h s m event task done next left outs now new old each (Does.judges {t = t} {valid = valid} p) Takes.judges = judged_judged h s m t valid done next left outs now each p
  done_judged h s m event task done next left outs now new old each (Does.leaves {t = t} p) Takes.leaves = left_judged h s m t done next left outs each p
  done_judged h s m event task done next left outs now new old each (Does.produces {n = n} {key = key} p) Takes.produces = produced_judged h s n key done next outs each p
