-- What the tables of a resolver tell of its history: who subscribes to what, and who has which candidate to judge.
use Rattle.std.proofs.Common.{◌≡◌, ℕ, ◌==◌, ◌↔◌, Bool, true, false, cond, ◌||◌, Option, Some, None, List, [], ◌∷◌, ◌++◌, Contains, ◌⊎◌, inl, inr, refl, sym, ap, ◌∙◌, arith}
use Rattle.std.specs.List.{list_any}
use Rattle.std.specs.Option.{is_some}
use Rattle.std.proofs.lemmas.Bool.{eqb-true, eq-eqb}
use Rattle.std.proofs.lemmas.List.Elements.{Contains-append_right}
use Rattle.stateful_types.specs.declared.request.Request.{Request}
use Rattle.stateful_table.specs.Table.{at, without}
use Rattle.stateful_p2p.specs.Inbox.{cancelled}
use Rattle.stateful_p2p_tables.specs.Deliveries.{Releases, has_none, releases, Forgets, stranger, forgets, Retires, nobody, unfetched, fetched}
use Rattle.stateful_p2p.specs.History.{Entry, outs_of, Since}
use Rattle.stateful_p2p.specs.Laws.{IsDrawn, Ends, IsLive, WasFetched, IsSubscriber, Hands, Replies, HasToJudge}
use Rattle.stateful_p2p_tables.specs.declared.state.State.{State}
use Rattle.stateful_p2p_tables.specs.declared.out.ActorOut.{ActorOut}
use Rattle.stateful_p2p_tables.specs.declared.out.ActorOut.TheVariants.{Fetch}
use Rattle.stateful_table.proofs.Tables.{at-without}
use Rattle.stateful_p2p.proofs.Histories.{once_here, once_before, once_split, since_here, since_before, since_split}
use Rattle.stateful_p2p.proofs.Moving.{in_cons, in_none}

-- ---- tickets in lists

-- whether the ticket is one of these
abbrev pub has : List ℕ → ℕ → Bool
has ts x = list_any (λ t. t == x) ts

pub has_there : (ts : List ℕ) (x : ℕ) → Contains ts x → has ts x ≡ true
has_there [] x there = absurd (in_none x there)
has_there (t ∷ ts) x there = go (has_there ts x) (in_cons t ts x there)
  where
    or_right : (b : Bool) (c : Bool) → c ≡ true → (b || c) ≡ true
    or_right true c e = refl
    or_right false c e = e

    go : (Contains ts x → has ts x ≡ true) → (t ≡ x) ⊎ Contains ts x → ((t == x) || has ts x) ≡ true
    go rest (inl e) = ap (λ b. b || has ts x) (eq-eqb t x e)
    go rest (inr c) = or_right (t == x) (has ts x) (rest c)

pub there_has : (ts : List ℕ) (x : ℕ) → has ts x ≡ true → Contains ts x
there_has [] x e = absurd cc
there_has (t ∷ ts) x e = go (there_has ts x) (t == x) refl e
  where
    go : (has ts x ≡ true → Contains ts x) → (b : Bool) → (t == x) ≡ b → (b || has ts x) ≡ true → Contains (t ∷ ts) x
    go rest true same e = (0, omega arith, eqb-true t x same)
    go rest false other e = Contains-append_right (t ∷ []) ts x (rest e)

pub has_push : (ts : List ℕ) (t x : ℕ) → has (ts ++ t ∷ []) x ≡ (has ts x || (t == x))
has_push [] t x = go (t == x)
  where
    go : (b : Bool) → (b || false) ≡ b
    go true = refl
    go false = refl
has_push (u ∷ ts) t x = go (u == x) (has_push ts t x)
  where
    go : (b : Bool) → has (ts ++ t ∷ []) x ≡ (has ts x || (t == x)) → (b || has (ts ++ t ∷ []) x) ≡ ((b || has ts x) || (t == x))
    go true e = refl
    go false e = e

-- ---- who is forgotten

pub none_some : {V : Type 0} (v : V) → None ≡ Some v → ⊥
none_some v e = cc

is_there : {V : Type 0} (found : Option V) (v : V) → found ≡ Some v → is_some found ≡ true
is_there found v e = ap is_some e

pub there_is : {V : Type 0} (found : Option V) → is_some found ≡ true → (v : V) × (found ≡ Some v)
there_is None e = absurd cc
there_is (Some v) e = (v, refl)

-- nothing is at one place any more
abbrev pub Clears : {V : Type 0} → ℕ → List (ℕ × V) → List (ℕ × V) → Type 0
Clears t before after = (x : ℕ) → at after x ≡ cond (t == x) None (at before x)

clears_none : {V : Type 0} (t : ℕ) (table : List (ℕ × V)) → at table t ≡ None → Clears t table table
clears_none t table none x = go (t == x) refl
  where
    go : (b : Bool) → (t == x) ≡ b → at table x ≡ cond b None (at table x)
    go true same = ap (at table) (sym (eqb-true t x same)) ∙ none
    go false other = refl

both_cleared : {V : Type 0} (a b : Bool) (v : Option V) → cond b None (cond a None v) ≡ cond (a || b) None v
both_cleared true true v = refl
both_cleared true false v = refl
both_cleared false b v = refl

-- what is left where the others are cleared
left_some : {V : Type 0} (b : Bool) (before after : Option V) (v : V) → after ≡ cond b None before → (after ≡ Some v) ↔ ((before ≡ Some v) × (b ≡ false))
left_some true before after v e = (λ is. absurd (none_some v (sym e ∙ is)), λ both. let no : ⊥ = cc in absurd no)
left_some false before after v e = (λ is. (sym e ∙ is, refl), λ both. e ∙ both.0)

module _ {D : Type 0} where
  -- whoever has a candidate to judge subscribes to something
  abbrev pub Held : State D → Type 0
  Held s = (t d : ℕ) → at s.unjudged t ≡ Some d → is_some (at s.subscriptions t) ≡ true

  pub released_clears : (s : State D) (t : ℕ) (verdict : Option Bool) (settled : Option ActorOut) (next : State D) → Releases s t verdict settled next → Clears t s.unjudged next.unjudged
  released_clears s t verdict settled next (has_none none) = clears_none t s.unjudged none
  released_clears s t verdict settled next (releases here there) = at-without s.unjudged t

  pub released_same : (s : State D) (t : ℕ) (verdict : Option Bool) (settled : Option ActorOut) (next : State D) → Releases s t verdict settled next → next.subscriptions ≡ s.subscriptions
  released_same s t verdict settled next (has_none none) = refl
  released_same s t verdict settled next (releases here there) = refl

  -- a ticket of which nothing is left
  pub record Gone (t : ℕ) (s next : State D) : Type 0 where
    pub subs : Clears t s.subscriptions next.subscriptions
    pub unjudged : Clears t s.unjudged next.unjudged

  pub forgot_gone : (s : State D) (t : ℕ) (one : Option (Option ActorOut)) (next : State D) → Held s → Forgets s t one next → Gone t s next
  forgot_gone s t one next held (stranger none) = record { subs = clears_none t s.subscriptions none; unjudged = clears_none t s.unjudged (go (at s.unjudged t) refl) }
    where
      go : (found : Option ℕ) → at s.unjudged t ≡ found → found ≡ None
      go None e = refl
      go (Some d) e = absurd (let is = held t d e in let no : ⊥ = cc in no)
  forgot_gone s t one next held (forgets {settled = settled} some rel) = record {
    subs = λ x. ap (λ w. at w x) (released_same (record s { subscriptions = without s.subscriptions t }) t None settled next rel) ∙ at-without s.subscriptions t x;
    unjudged = released_clears (record s { subscriptions = without s.subscriptions t }) t None settled next rel;
  }

  pub gone_held : (s : State D) (t : ℕ) (next : State D) → Held s → Gone t s next → Held next
  gone_held s t next held gone x d there = go (t == x) refl (gone.unjudged x) (gone.subs x)
    where
      go : (b : Bool) → (t == x) ≡ b → at next.unjudged x ≡ cond b None (at s.unjudged x) → at next.subscriptions x ≡ cond b None (at s.subscriptions x) → is_some (at next.subscriptions x) ≡ true
      go true same u v = absurd (none_some d (sym u ∙ there))
      go false other u v = ap is_some v ∙ held x d (sym u ∙ there)

  -- tickets of which nothing is left
  pub record AllGone (ts : List ℕ) (s next : State D) : Type 0 where
    pub held : Held next
    pub subs : (x : ℕ) → at next.subscriptions x ≡ cond (has ts x) None (at s.subscriptions x)
    pub unjudged : (x : ℕ) → at next.unjudged x ≡ cond (has ts x) None (at s.unjudged x)

  after_one : (s : State D) (t : ℕ) (ts : List ℕ) (next last : State D) → Gone t s next → AllGone ts next last → AllGone (t ∷ ts) s last
  after_one s t ts next last one rest = record {
    held = rest.held;
    subs = λ x. rest.subs x ∙ ap (λ w. cond (has ts x) None w) (one.subs x) ∙ both_cleared (t == x) (has ts x) (at s.subscriptions x);
    unjudged = λ x. rest.unjudged x ∙ ap (λ w. cond (has ts x) None w) (one.unjudged x) ∙ both_cleared (t == x) (has ts x) (at s.unjudged x);
  }

  pub retired_gone : (s : State D) (ts : List ℕ) (f o : List ActorOut) (last : State D) → Held s → Retires s ts f o last → AllGone ts s last
  retired_gone s ts f o last held nobody = record { held = held; subs = λ x. refl; unjudged = λ x. refl }
  retired_gone s ts f o last held (unfetched {t = t} {ts = us} {next = next} one rest) =
      let gone = forgot_gone s t None next held one in after_one s t us next last gone (retired_gone next us f o last (gone_held s t next held gone) rest)
  retired_gone s ts f o last held (fetched {t = t} {ts = us} {one = x} {forgotten = g} {settled = p} {next = next} one rest) =
      let gone = forgot_gone s t (Some x) next held one in after_one s t us next last gone (retired_gone next us g p last (gone_held s t next held gone) rest)

-- ---- what the tables tell

module _ {D : Type 0} where
  -- behind the cancels that were heard of: exactly the subscribers are subscribed, and exactly those with a candidate to
  -- judge have it
  pub record IsCurrent (h : List (Entry D)) (s : State D) : Type 0 where
    pub held : Held s
    pub subs : (t : ℕ) (key : Request) → (at s.subscriptions t ≡ Some key) ↔ IsSubscriber h key t
    pub unjudged : (t d : ℕ) → (at s.unjudged t ≡ Some d) ↔ HasToJudge h t d

  -- the same where some cancels weren't heard of yet
  pub record IsTold (h : List (Entry D)) (s : State D) (gone : List ℕ) : Type 0 where
    pub held : Held s
    pub subs : (t : ℕ) (key : Request) → ((at s.subscriptions t ≡ Some key) × (has gone t ≡ false)) ↔ IsSubscriber h key t
    pub unjudged : (t d : ℕ) → ((at s.unjudged t ≡ Some d) × (has gone t ≡ false)) ↔ HasToJudge h t d

  -- once they are heard of
  pub heard_current : (h : List (Entry D)) (s : State D) (cancelled gone : List ℕ) (f o : List ActorOut) (between : State D) → IsTold h s cancelled → ((x : ℕ) → has gone x ≡ has cancelled x) → Retires s gone f o between → IsCurrent h between
  heard_current h s cancelled gone f o between told same retires =
      let all = retired_gone s gone f o between told.held retires in
      record {
        held = all.held;
        subs = λ t key.
            let l = left_some (has gone t) (at s.subscriptions t) (at between.subscriptions t) key (all.subs t) in
            (λ is. let both = l.0 is in (told.subs t key).0 (both.0, sym (same t) ∙ both.1), λ is. let both = (told.subs t key).1 is in l.1 (both.0, same t ∙ both.1));
        unjudged = λ t d.
            let l = left_some (has gone t) (at s.unjudged t) (at between.unjudged t) d (all.unjudged t) in
            (λ is. let both = l.0 is in (told.unjudged t d).0 (both.0, sym (same t) ∙ both.1), λ is. let both = (told.unjudged t d).1 is in l.1 (both.0, same t ∙ both.1));
      }

  pub current_told : (h : List (Entry D)) (s : State D) → IsCurrent h s → IsTold h s []
  current_told h s now = record {
    held = now.held;
    subs = λ t key. (λ both. (now.subs t key).0 both.0, λ is. ((now.subs t key).1 is, refl));
    unjudged = λ t d. (λ both. (now.unjudged t d).0 both.0, λ is. ((now.unjudged t d).1 is, refl));
  }

  -- one entry more: who ends is subscribed no more, who replies has nothing to judge, and who is fetched or handed something
  -- is
  pub record Follows (h : List (Entry D)) (s : State D) (e : Entry D) (next : State D) : Type 0 where
    pub held : Held next
    pub undrawn : (t : ℕ) → IsDrawn t e → ⊥
    pub fetched_live : (t : ℕ) (key : Request) → Contains (outs_of e) (Fetch t key) → IsLive h t × (Ends t e → ⊥)
    pub subs : (t : ℕ) (key : Request) → (at next.subscriptions t ≡ Some key) ↔ (((at s.subscriptions t ≡ Some key) × (Ends t e → ⊥)) ⊎ Contains (outs_of e) (Fetch t key))
    pub unjudged : (t d : ℕ) → (at next.unjudged t ≡ Some d) ↔ (((at s.unjudged t ≡ Some d) × (Replies t e → ⊥)) ⊎ Hands t d e)

  pub current_more : (h : List (Entry D)) (s : State D) (e : Entry D) (next : State D) → IsCurrent h s → Follows h s e next → IsCurrent (h ++ e ∷ []) next
  current_more h s e next now more = record {
    held = more.held;
    subs = λ t key. (λ is. there t key ((more.subs t key).0 is), λ is. (more.subs t key).1 (back t key (since_split h e (IsDrawn t) (Ends t) is.0) (once_split h e (λ before entry. Contains (outs_of entry) (Fetch t key)) is.1)));
    unjudged = λ t d. (λ is. has_to t d ((more.unjudged t d).0 is), λ is. (more.unjudged t d).1 (had_to t d (since_split h e (Hands t d) (Replies t) is)));
  }
    where
      there : (t : ℕ) (key : Request) → ((at s.subscriptions t ≡ Some key) × (Ends t e → ⊥)) ⊎ Contains (outs_of e) (Fetch t key) → IsSubscriber (h ++ e ∷ []) key t
      there t key (inl both) =
          let was = (now.subs t key).0 both.0 in
          (since_before h e (IsDrawn t) (Ends t) was.0 both.1, once_before h e (λ before entry. Contains (outs_of entry) (Fetch t key)) was.1)
      there t key (inr c) =
          let live = more.fetched_live t key c in
          (since_before h e (IsDrawn t) (Ends t) live.0 live.1, once_here h e (λ before entry. Contains (outs_of entry) (Fetch t key)) c)

      back : (t : ℕ) (key : Request) → IsDrawn t e ⊎ (Since (IsDrawn t) (Ends t) h × (Ends t e → ⊥)) → WasFetched h t key ⊎ Contains (outs_of e) (Fetch t key)
          → ((at s.subscriptions t ≡ Some key) × (Ends t e → ⊥)) ⊎ Contains (outs_of e) (Fetch t key)
      back t key (inl drawn) was = absurd (more.undrawn t drawn)
      back t key (inr live) (inl was) = inl ((now.subs t key).1 (live.0, was), live.1)
      back t key (inr live) (inr c) = inr c

      has_to : (t d : ℕ) → ((at s.unjudged t ≡ Some d) × (Replies t e → ⊥)) ⊎ Hands t d e → HasToJudge (h ++ e ∷ []) t d
      has_to t d (inl both) = since_before h e (Hands t d) (Replies t) ((now.unjudged t d).0 both.0) both.1
      has_to t d (inr here) = since_here h e (Hands t d) (Replies t) here

      had_to : (t d : ℕ) → Hands t d e ⊎ (Since (Hands t d) (Replies t) h × (Replies t e → ⊥)) → ((at s.unjudged t ≡ Some d) × (Replies t e → ⊥)) ⊎ Hands t d e
      had_to t d (inl here) = inr here
      had_to t d (inr both) = inl ((now.unjudged t d).1 both.0, both.1)
