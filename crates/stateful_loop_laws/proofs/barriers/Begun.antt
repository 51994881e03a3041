-- The open barriers stand behind the begin of one more.
use Rattle.std.proofs.Common.{◌≡◌, ◌≢◌, ◌<◌, ◌-◌, ◌+◌, ◌∷◌, ◌++◌, ◌==◌, ⊎_elim, inl, inr, ℕ, List, [], Option, Some, None, refl, sym, ap, subst, ◌∙◌, arith, get_or}
use Rattle.std.specs.Prelude.{Any, slice_get, option_and_then}
use Rattle.std.proofs.lemmas.Bool.{or_cases, or_left, or_right, eqb-true, eq-eqb, ne_eqb, cond-true, cond-false, cases_eq}
use Rattle.std.proofs.lemmas.List.Elements.{All-push, Contains-append_left}
use Rattle.std.proofs.lemmas.List.Quantifiers.{Any-push, all_pairs_push}
use Rattle.stateful_base.specs.Names.{Header}
use Rattle.stateful_base.specs.declared.anchor.Anchor.{Anchor}
use Rattle.stateful_db.specs.Barrier.{open_at, still_open}
use Rattle.stateful_db.specs.Databases.{Databases}
use Rattle.stateful_db.specs.declared.barrier.Flushed.{Flushed}
use Rattle.stateful_db.specs.declared.barrier.Handle.{Handle}
use Rattle.stateful_db.specs.declared.database.FlushToken.{FlushToken}
use Rattle.stateful_history.specs.Barriers.{live_barrier, begun_over, BeganSince, BeganBefore}
use Rattle.stateful_history.specs.Durable.{WasApplied}
use Rattle.stateful_history.specs.Past.{Past, Made}
use Rattle.stateful_history.specs.declared.mark.Mark.TheVariants.{BarrierBegun}
use Rattle.stateful_loop_laws.specs.OpenBarriers.{ActiveStands, BarriersStand}
use Rattle.stateful_loop_laws.proofs.loop.CalmItems.{begun_since, begun_behind}
use Rattle.stateful_loop_model.specs.declared.barriers.Active.{Active}

-- what is there in a list is there in a longer one
pub Any-append_left : {X : Type 0} (P : X → Type 0) (xs ys : List X) → Any P xs → Any P (xs ++ ys)
Any-append_left P xs ys (k, x, l, is, h) = let c = Contains-append_left xs ys x (k, l, is) in (c.0, x, c.1, c.2, h)

open_answer : (own : FlushToken) (answer : Option Flushed) (token : FlushToken) → still_open (record { token = own; answer = answer }) ≡ Some token
    → (own ≡ token) × (answer ≡ None)
open_answer own None token e = (cc, refl)
open_answer own (Some a) token e = absurd (cc)

-- the handle of an open token has that token, and no answer
pub open_handle : (o : Option Handle) (handle : Handle) (token : FlushToken) → option_and_then still_open o ≡ Some token → o ≡ Some handle
    → (handle.token ≡ token) × (handle.answer ≡ None)
open_handle None handle token e is = absurd (cc)
open_handle (Some h) handle token e is =
    let same : h ≡ handle = cc in
    open_answer handle.token handle.answer token (subst (λ (x : Handle). still_open x ≡ Some token) same e)

module _ {B C I Ids S T : Type 0} (d : Databases Ids S T) (header : Header B) (p : Past B C I) (m now : d.Members) (first : Anchor) (origin : ℕ → ℕ)
    (barriers : List Active) (next : ℕ) (new : Active) where
  abbrev q : Past B C I
  q = Made (BarrierBegun new.number new.height) ∷ p

  module _ (number : new.number ≡ next) (h : BarriersStand d header p m first origin barriers next)
      (same : (i : ℕ) → i < d.count → d.durable now i ≡ d.durable m i) where
    -- an earlier one has another number
    other : (k : ℕ) → begun_over k p ≢ None → k ≡ new.number → ⊥
    other k begun e = let low = h.numbers k begun in omega (arith, low, e, number)

    -- an earlier one stands as before
    ActiveStands-older : (a : Active) → ActiveStands d header p m first origin a → ActiveStands d header q now first origin a
    ActiveStands-older a s =
        let ne : a.number ≡ new.number → ⊥ = other a.number (λ none. let o = s.over in cc) in
        record {
          live = or_right (a.number == new.number) (live_barrier a.number p) s.live;
          over = cond-false (a.number == new.number) (Some new.height) (begun_over a.number p) (ne_eqb a.number new.number ne) ∙ s.over;
          began = inr s.began;
          since = inr s.since;
          handles = λ i handle l is.
              let old = s.handles i handle l is in
              record {
                place = old.place;
                flushed = λ good. let was = old.flushed good in (was.0, rw (same i l) was.1);
                interrupted = old.interrupted;
              };
        }

    -- the barrier that begins stands, where its height was applied and its tokens are of its height
    ActiveStands-new : WasApplied header new.height.0 p
        → ((i : ℕ) → i < d.count → (token : FlushToken) × (open_at new.barrier i ≡ Some token) ×
        (token.place ≡ origin i + (new.height.0 - first.height.0)))
        → ActiveStands d header q now first origin new
    ActiveStands-new was tokens = record {
      live = or_left (new.number == new.number) (live_barrier new.number p) (eq-eqb new.number new.number refl);
      over = cond-true (new.number == new.number) (Some new.height) (begun_over new.number p) (eq-eqb new.number new.number refl);
      began = inl (refl, refl, was);
      since = inl refl;
      handles = λ i handle l is.
          let (token, there, at) = tokens i l in
          let own = open_handle (slice_get new.barrier i) handle token there is in
          record {
            place = ap (λ (t : FlushToken). t.place) own.0 ∙ at;
            flushed = λ good. let none = own.1 in absurd (cc);
            interrupted = λ broken. let none = own.1 in absurd (cc);
          };
    }

    -- the open barriers stand behind it
    pub BarriersStand-begun : WasApplied header new.height.0 p
        → ((i : ℕ) → i < d.count → (token : FlushToken) × (open_at new.barrier i ≡ Some token) ×
        (token.place ≡ origin i + (new.height.0 - first.height.0)))
        → BarriersStand d header q now first origin (barriers ++ new ∷ []) (next + 1)
    BarriersStand-begun was tokens = record {
      each = All-push (ActiveStands d header q now first origin) barriers new (λ k x l. ActiveStands-older _ (h.each k x l))
          (ActiveStands-new was tokens);
      ascending = all_pairs_push (λ a b. a.number < b.number) barriers new h.ascending (λ k x l.
          let s = h.each k x l in
          let low = h.numbers (get_or barriers k x).number (λ none. let o = s.over in cc) in
          omega (arith, low, number));
      complete = λ k live. ⊎_elim
          (λ own. Any-push (λ a. a.number ≡ k) barriers new (sym (eqb-true k new.number own)))
          (λ old. Any-append_left (λ a. a.number ≡ k) barriers (new ∷ []) (h.complete k old))
          (or_cases (k == new.number) (live_barrier k p) live);
      done = λ k since. ⊎_elim
          (λ own. inr (or_left (k == new.number) (live_barrier k p) (eq-eqb k new.number own)))
          (λ old. ⊎_elim (λ w. inl w) (λ l. inr (or_right (k == new.number) (live_barrier k p) l)) (h.done k old))
          since;
      later = λ k n since before. later k n since before;
      numbers = λ k begun. ⊎_elim
          (λ e. omega (arith, e, number))
          (λ ne. let low = h.numbers k (λ none. begun
          (cond-false (k == new.number) (Some new.height) (begun_over k p) (ne_eqb k new.number ne) ∙ none)) in omega (arith, low))
          (cases_eq k new.number);
    }
      where
        later : (k n : ℕ) → BeganSince n q → BeganBefore k n q → BeganSince k q × (k < n)
        later k n (inl own) (inl before) = let low = h.numbers k (begun_since k p before.1) in (inr before.1, omega (arith, low, own, number))
        later k n (inl own) (inr before) = absurd (other n (begun_behind k n p before) own)
        later k n (inr since) (inl before) = absurd (other n (begun_since n p since) before.0)
        later k n (inr since) (inr before) = let low = h.later k n since before in (inr low.0, low.1)
