-- What holds of a history with one entry more.
use Rattle.std.proofs.Common.{◌≡◌, ◌+◌, Bool, List, [], ◌∷◌, ◌++◌, All, ◌⊎◌, inl, inr, refl, sym, ap, subst, ◌∙◌, append_assoc, arith, count_by}
use Rattle.std.proofs.lemmas.List.{same_from_push}
use Rattle.std.proofs.lemmas.List.Elements.{All-nil, All-cons, All-head, All-tail, All-push, All-contains, Contains-append_right}
use Rattle.std.proofs.lemmas.List.Sums.{sum_by_push}
use Rattle.stateful_p2p.specs.History.{Entry, outs_of, count_outs, Once, Always, Since, Turns, Runs, begins, goes_on}
use Rattle.stateful_p2p.specs.Inbox.{Inbox}
use Rattle.stateful_p2p.specs.Resolving.{Setup}
use Rattle.stateful_p2p_tables.specs.declared.state.State.{State}
use Rattle.stateful_p2p_tables.specs.declared.out.ActorOut.{ActorOut}

-- a list is empty, or has a last element
ended : {X : Type 0} (xs : List X) → (xs ≡ []) ⊎ ((ys : List X) × (y : X) × (xs ≡ ys ++ y ∷ []))
ended [] = inl refl
ended (x ∷ xs) = inr (go x xs)
  where
    go : {X : Type 0} (x : X) (xs : List X) → (ys : List X) × (y : X) × (x ∷ xs ≡ ys ++ y ∷ [])
    go x [] = ([], x, refl)
    go x (z ∷ xs) = let rest = go z xs in (x ∷ rest.0, rest.1, ap (λ w. x ∷ w) rest.2)

module _ {E : Type 0} (h : List E) (e : E) where
  -- a place in a list with one element more: the last one, or an earlier one
  data Place (before : List E) (x : E) (after : List E) : Type 0 where
    last : before ≡ h → x ≡ e → after ≡ [] → Place before x after
    earlier : (rest : List E) → h ≡ before ++ x ∷ rest → after ≡ rest ++ e ∷ [] → Place before x after

  place : (before after : List E) (x : E) → h ++ e ∷ [] ≡ before ++ x ∷ after → Place before x after
  place before after x is = go (ended after)
    where
      go : (after ≡ []) ⊎ ((ys : List E) × (y : E) × (after ≡ ys ++ y ∷ [])) → Place before x after
      go (inl none) =
          let same = same_from_push h before e x (is ∙ ap (λ w. before ++ x ∷ w) none) in
          last (sym same.0) (sym same.1) none
      go (inr some) =
          let same = same_from_push h (before ++ x ∷ some.0) e some.1 (is ∙ ap (λ w. before ++ x ∷ w) some.2 ∙ simp append_assoc) in
          earlier some.0 same.0 (some.2 ∙ ap (λ y. some.0 ++ y ∷ []) (sym same.1))

  pub once_here : (P : List E → E → Type 0) → P h e → Once P (h ++ e ∷ [])
  once_here P here = record { before = h; entry = e; after = []; place = refl; here = here }

  pub once_before : (P : List E → E → Type 0) → Once P h → Once P (h ++ e ∷ [])
  once_before P o = record { before = o.before; entry = o.entry; after = o.after ++ e ∷ []; place = ap (λ w. w ++ e ∷ []) o.place ∙ simp append_assoc; here = o.here }

  pub once_split : (P : List E → E → Type 0) → Once P (h ++ e ∷ []) → Once P h ⊎ P h e
  once_split P o = go (place o.before o.after o.entry o.place)
    where
      go : Place o.before o.entry o.after → Once P h ⊎ P h e
      go (last before_is entry_is none) = inr (subst (λ w. P h w) entry_is (subst (λ w. P w o.entry) before_is o.here))
      go (earlier rest h_is after_is) = inl (record { before = o.before; entry = o.entry; after = rest; place = h_is; here = o.here })

  pub always_push : (P : List E → E → Type 0) → Always P h → P h e → Always P (h ++ e ∷ [])
  always_push P all here before x after is = go (place before after x is)
    where
      go : Place before x after → P before x
      go (last before_is entry_is none) = subst (λ w. P before w) (sym entry_is) (subst (λ w. P w e) (sym before_is) here)
      go (earlier rest h_is after_is) = all before x rest h_is

  pub since_here : (S N : E → Type 0) → S e → Since S N (h ++ e ∷ [])
  since_here S N here = record { before = h; entry = e; after = []; place = refl; begins = here; goes_on = All-nil (λ later. N later → ⊥) }

  pub since_before : (S N : E → Type 0) → Since S N h → (N e → ⊥) → Since S N (h ++ e ∷ [])
  since_before S N o on = record {
    before = o.before;
    entry = o.entry;
    after = o.after ++ e ∷ [];
    place = ap (λ w. w ++ e ∷ []) o.place ∙ simp append_assoc;
    begins = o.begins;
    goes_on = All-push (λ later. N later → ⊥) o.after e o.goes_on on;
  }

  pub since_split : (S N : E → Type 0) → Since S N (h ++ e ∷ []) → S e ⊎ (Since S N h × (N e → ⊥))
  since_split S N o = go (place o.before o.after o.entry o.place)
    where
      front : (ys : List E) → All (λ later. N later → ⊥) (ys ++ e ∷ []) → All (λ later. N later → ⊥) ys
      front [] all = All-nil (λ later. N later → ⊥)
      front (y ∷ ys) all = All-cons (λ later. N later → ⊥) y ys (All-head (λ later. N later → ⊥) y (ys ++ e ∷ []) all) (front ys (All-tail (λ later. N later → ⊥) y (ys ++ e ∷ []) all))

      go : Place o.before o.entry o.after → S e ⊎ (Since S N h × (N e → ⊥))
      go (last before_is entry_is none) = inl (subst S entry_is o.begins)
      go (earlier rest h_is after_is) =
          let both : All (λ later. N later → ⊥) (rest ++ e ∷ []) = subst (All (λ later. N later → ⊥)) after_is o.goes_on in
          inr (
            record { before = o.before; entry = o.entry; after = rest; place = h_is; begins = o.begins; goes_on = front rest both },
            All-contains (λ later. N later → ⊥) (rest ++ e ∷ []) e both (Contains-append_right rest (e ∷ []) e (0, omega arith, refl)),
          )

-- nothing is in an empty history
nowhere : {E : Type 0} (before after : List E) (x : E) → [] ≡ before ++ x ∷ after → ⊥
nowhere [] after x is = cc
nowhere (y ∷ before) after x is = cc

module _ {E : Type 0} where
  pub once_none : (P : List E → E → Type 0) → Once P [] → ⊥
  once_none P o = nowhere o.before o.after o.entry o.place

  pub since_none : (S N : E → Type 0) → Since S N [] → ⊥
  since_none S N o = nowhere o.before o.after o.entry o.place

  pub always_none : (P : List E → E → Type 0) → Always P []
  always_none P before x after is = absurd (nowhere before after x is)

-- ---- counts of outputs

pub count_push : {D : Type 0} (kind : ActorOut → Bool) (h : List (Entry D)) (e : Entry D) → count_outs kind (h ++ e ∷ []) ≡ count_outs kind h + count_by kind (outs_of e)
count_push kind h e = sum_by_push (λ entry. count_by kind (outs_of entry)) h e

-- ---- over a run

module _ {D Op : Type 0} (u : Setup D Op) {first : State D} {box : Inbox D Op} where
  -- what each entry keeps holds at the end
  pub kept : (I : List (Entry D) → State D → Inbox D Op → Type 0) → I [] first box
      → ((h : List (Entry D)) (s : State D) (m : Inbox D Op) (e : Entry D) (next : State D) (left : Inbox D Op) → Turns u s m e next left → I h s m → I (h ++ e ∷ []) next left)
      → (h : List (Entry D)) (s : State D) (m : Inbox D Op) → Runs u first box h s m → I h s m
  kept I start step h s m begins = start
  kept I start step h s m (goes_on {entries = h'} {entry = e} {s = s'} {m = m'} runs turn) = step h' s' m' e s m turn (kept I start step h' s' m' runs)

  -- and so does what follows from it at each entry
  pub each : (I : List (Entry D) → State D → Inbox D Op → Type 0) (P : List (Entry D) → Entry D → Type 0)
      → ((h : List (Entry D)) (s : State D) (m : Inbox D Op) → Runs u first box h s m → I h s m)
      → ((h : List (Entry D)) (s : State D) (m : Inbox D Op) (e : Entry D) (next : State D) (left : Inbox D Op) → Turns u s m e next left → I h s m → P h e)
      → (h : List (Entry D)) (s : State D) (m : Inbox D Op) → Runs u first box h s m → Always P h
  each I P holds step h s m begins = always_none P
  each I P holds step h s m (goes_on {entries = h'} {entry = e} {s = s'} {m = m'} runs turn) = always_push h' e P (each I P holds step h' s' m' runs) (step h' s' m' e s m turn (holds h' s' m' runs))
