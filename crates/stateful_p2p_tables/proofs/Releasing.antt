-- Tickets that judge, leave, or are forgotten.
use Rattle.std.proofs.Common.{◌≡◌, ℕ, ◌==◌, Bool, true, false, cond, Option, Some, None, Result, Ok, Err, List, [], ◌∷◌, ◌++◌, refl, sym, ap, subst, ◌∙◌, append-nil, append_assoc}
use Rattle.std.specs.Prelude.{option_to_list}
use Rattle.std.specs.Option.{is_some}
use Rattle.std.specs.Result.{OnOk}
use Rattle.stateful_types.specs.declared.request.Request.{Request}
use Rattle.stateful_table.specs.Table.{at, put, without}
use Rattle.stateful_p2p_tables.specs.Deliveries.{outcome, heard, settled_by, kept, Releases, has_none, releases, Forgets, stranger, forgets, Retires, nobody, unfetched, fetched}
use Rattle.stateful_p2p_tables.specs.declared.state.State.{State}
use Rattle.stateful_p2p_tables.specs.declared.state.Verdicts.{Verdicts}
use Rattle.stateful_p2p_tables.specs.declared.out.ActorOut.{ActorOut}
use Rattle.stateful_p2p_tables.specs.declared.out.ActorOut.TheVariants.{Forget}
use Rattle.stateful_table.proofs.Tables.{without_none}

module _ {D : Type 0} where
  -- a ticket that has nothing to judge
  pub released_none : (s : State D) (t : ℕ) (verdict : Option Bool) (left : List (ℕ × ℕ)) → at s.unjudged t ≡ None → left ≡ without s.unjudged t → Releases s t verdict None (record s { unjudged = left })
  released_none s t verdict left none is = rw (is, without_none s.unjudged t none) (has_none none)

  -- a ticket that judges, or leaves what it has to judge
  pub released_by : (s : State D) (t : ℕ) (verdict : Option Bool) (d : ℕ) (v v' : Verdicts) (left : List (ℕ × ℕ)) (others : List (ℕ × Verdicts)) → at s.unjudged t ≡ Some d → at s.deliveries d ≡ Some v
      → v' ≡ heard v t verdict → left ≡ without s.unjudged t → others ≡ without s.deliveries d → (b : Bool) → (v'.awaited == 0) ≡ b
      → Releases s t verdict (cond b (Some (outcome d v'.given)) None) (record s { unjudged = left; deliveries = cond b others (put others d v') })
  released_by s t verdict d v v' left others at_t at_d is l o b e = rw (l, o, is) (core b (rw is at e))
    where
      core : (b : Bool) → ((heard v t verdict).awaited == 0) ≡ b
          → Releases s t verdict (cond b (Some (outcome d (heard v t verdict).given)) None)
          (record s { unjudged = without s.unjudged t; deliveries = cond b (without s.deliveries d) (put (without s.deliveries d) d (heard v t verdict)) })
      core b e =
          let r : Releases s t verdict (settled_by d (heard v t verdict)) (record s { unjudged = without s.unjudged t; deliveries = kept d (heard v t verdict) (without s.deliveries d) }) = releases at_t at_d in
          rw e at r

  -- a ticket for which nothing was fetched
  pub forgot_none : (s : State D) (t : ℕ) (left : List (ℕ × Request)) → at s.subscriptions t ≡ None → left ≡ without s.subscriptions t → Forgets s t None (record s { subscriptions = left })
  forgot_none s t left none is = rw (is, without_none s.subscriptions t none) (stranger none)

  pub forgot_some : (s : State D) (t : ℕ) (key : Request) (left : List (ℕ × Request)) (settled : Option ActorOut) (next : State D) → at s.subscriptions t ≡ Some key → left ≡ without s.subscriptions t
      → Releases (record s { subscriptions = left }) t None settled next → Forgets s t (Some settled) next
  forgot_some s t key left settled next some is rel = forgets {key = key} some (rw is at rel)

  -- ---- one behind the other

  pub retired_one : (s : State D) (t : ℕ) (one : Option ActorOut) (next : State D) → Forgets s t (Some one) next → Retires s (t ∷ []) (Forget t ∷ []) (option_to_list one) next
  retired_one s t one next f = subst (λ (o : List ActorOut). Retires s (t ∷ []) (Forget t ∷ []) o next) (append-nil (option_to_list one)) (fetched f nobody)

  pub retired_none : (s : State D) (t : ℕ) (next : State D) → Forgets s t None next → Retires s (t ∷ []) [] [] next
  retired_none s t next f = unfetched f nobody

  pub retired_join : (s : State D) (ts us : List ℕ) (f o f' o' : List ActorOut) (mid last : State D) → Retires s ts f o mid → Retires mid us f' o' last → Retires s (ts ++ us) (f ++ f') (o ++ o') last
  retired_join s ts us f o f' o' mid last nobody other = other
  retired_join s ts us f o f' o' mid last (unfetched {ts = ts'} {next = next} one rest) other = unfetched one (retired_join next ts' us f o f' o' mid last rest other)
  retired_join s ts us f o f' o' mid last (fetched {t = t} {ts = ts'} {one = x} {forgotten = g} {settled = p} {next = next} one rest) other =
      subst (λ (w : List ActorOut). Retires s (t ∷ (ts' ++ us)) (Forget t ∷ (g ++ f')) w last) (sym (append_assoc (option_to_list x) p o'))
      (fetched one (retired_join next ts' us g p f' o' mid last rest other))

pub none_of : {A : Type 0} (found : Option A) → is_some found ≡ false → found ≡ None
none_of None e = refl
none_of (Some x) e = let no : ⊥ = cc in absurd no

pub some_of : {A : Type 0} (found : Option A) → is_some found ≡ true → (x : A) × (found ≡ Some x)
some_of None e = let no : ⊥ = cc in absurd no
some_of (Some x) e = (x, refl)

-- what follows from an answer that is no error
pub on_ok : {T E P Q : Type 0} (r : Result T E) → OnOk r P → (P → Q) → OnOk r Q
on_ok (Ok x) p f = f p
on_ok (Err e) p f = p

-- two more outputs, one behind the other
pub both_more : (before mid after : List ActorOut) (one : ActorOut) (more : List ActorOut) → mid ≡ before ++ one ∷ [] → after ≡ mid ++ more → after ≡ before ++ one ∷ more
both_more before mid after one more e f = f ∙ ap (λ w. w ++ more) e ∙ append_assoc before (one ∷ []) more

-- what follows from two facts of an answer that is no error
pub on_both : {T E P Q R : Type 0} (r : Result T E) → OnOk r P → OnOk r Q → (P → Q → R) → OnOk r R
on_both (Ok x) p q f = f p q
on_both (Err e) p q f = p
