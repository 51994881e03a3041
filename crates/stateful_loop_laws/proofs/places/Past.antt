-- What a past keeps for marks to be in their places is kept after marks of rules and after events.
use Rattle.std.proofs.Common.{◌≡◌, ◌++◌, ◌<◌, ◌==◌, if◌then◌else◌, inl, inr, ℕ, Bool, suc, true, false, List, [], ◌∷◌, All, Any, Option, None, Some, MatchOption, refl, sym, ◌∙◌, subst, arith}
use Rattle.std.proofs.lemmas.List.Elements.{All-head, All-tail}
use Rattle.stateful_base.specs.Names.{Named}
use Rattle.stateful_base.specs.declared.digest.Digest.{Digest}
use Rattle.stateful_history.specs.Ancestors.{IsOnPath}
use Rattle.stateful_history.specs.Fetches.{WasAsked}
use Rattle.stateful_history.specs.Live.{live_ticket, bound_of}
use Rattle.stateful_history.specs.Opening.{is_handing_over}
use Rattle.stateful_history.specs.Past.{Past, Item, Made, EachMark, after}
use Rattle.stateful_history.specs.Requests.{subject, StandsOn}
use Rattle.stateful_history.specs.Runs.{ended_by, EndsOn, IsSpent, MayRunAgain}
use Rattle.stateful_history.specs.Setting.{Setting}
use Rattle.stateful_history.specs.declared.mark.How.{How}
use Rattle.stateful_history.specs.declared.mark.Mark.{Mark}
use Rattle.stateful_history.specs.declared.mark.Mark.TheVariants as mark
use Rattle.stateful_history.specs.declared.ticket.Ticket.{Ticket}
use Rattle.stateful_exec_model.specs.Workings.{Workings}
use Rattle.stateful_exec_laws.specs.Orderly.{IsOrderly}
use Rattle.stateful_exec_laws.specs.Outstanding.{TicketsApart}
use Rattle.stateful_exec_laws.specs.Setting.{setting}
use Rattle.stateful_exec_laws.proofs.places.Cancelled.{StandsOn-longer}
use Rattle.stateful_exec_laws.proofs.requests.ServedMarks.{TicketsApart-after}
use Rattle.stateful_loop_model.specs.Moments.{Moment}
use Rattle.stateful_loop_laws.specs.Places.{CancelledIsGone, EndsNoRun, IsOrderlyPast, PastKept, PlacesKept}
use Rattle.stateful_loop_laws.specs.RuleMarks.{IsOfRule}
use Rattle.stateful_loop_laws.proofs.tickets.Uncancelled.{live-uncancelled, gone-mark, gone-first}

-- no block is asked for
abbrev pub IsAskless : {B : Type 0} → Mark B → Type 0
IsAskless (mark.Asked f t d) = ⊥
IsAskless mark = Unit {0}

Any-first : {X : Type 0} (P Q : X → Type 0) (x : X) (xs : List X) → ((y : X) → P y → Q y) → Any P xs → Any Q (x ∷ xs)
Any-first P Q x xs f any = (suc any.0, any.1, (let l = any.2 in omega arith), any.3, f any.1 any.4)

module _ {B C I S T : Type 0} (s : Setting B S T) (p : Past B C I) (x : Item B C I)
    (same : (t : ℕ) (b : Named B) → subject t p ≡ Some b → subject t (x ∷ p) ≡ Some b) where
  ends_longer : (d : Digest) (item : Item B C I) → EndsOn s p d item → EndsOn s (x ∷ p) d item
  ends_longer d item h = go (ended_by item) h
    where
      still : (t : ℕ) (o : Option (Named B)) → subject t p ≡ o → MatchOption o ⊥ (λ b. IsOnPath s p b d) → StandsOn s p t d → StandsOn s (x ∷ p) t d
      still t None is none on = absurd none
      still t (Some b) is some on = StandsOn-longer s p x t d (same t b is ∙ sym is) on

      go : (o : Option ℕ) → MatchOption o ⊥ (λ t. StandsOn s p t d) → MatchOption o ⊥ (λ t. StandsOn s (x ∷ p) t d)
      go None h = h
      go (Some t) h = still t (subject t p) refl h h

  -- a run that ended in vain is started again only for another request, behind an item by which none ends so
  again-item : (d : Digest) → ((q : Past B C I) (j : ℕ) (how : How) → x ∷ p ≡ Made (mark.Ended j how) ∷ q → IsSpent s d q j how → ⊥)
      → MayRunAgain s p d → MayRunAgain s (x ∷ p) d
  again-item d none again later q j how is spent = go later is
    where
      go : (l : List (Item B C I)) → x ∷ p ≡ l ++ Made (mark.Ended j how) ∷ q → Any (EndsOn s (x ∷ p) d) l
      go [] is = absurd (none q j how is spent)
      go (y ∷ l) is =
          let rest : p ≡ l ++ Made (mark.Ended j how) ∷ q = cc in
          Any-first (EndsOn s p d) (EndsOn s (x ∷ p) d) y l (λ item h. ends_longer d item h) (again l q j how rest spent)

module _ {B C I S T : Type 0} (s : Setting B S T) where
  again-ended : (p : Past B C I) (j : ℕ) (how : How) → EndsNoRun p (mark.Ended j how) → (d : Digest) → MayRunAgain s p d → MayRunAgain s
      (Made (mark.Ended j how) ∷ p) d
  again-ended p j how ends d again = again-item s p (Made (mark.Ended j how)) (λ t b is. is) d never again
    where
      never : (q : Past B C I) (i : ℕ) (other : How) → Made (mark.Ended j how) ∷ p ≡ Made (mark.Ended i other) ∷ q → IsSpent s d q i other → ⊥
      never q i other is spent =
          let behind : p ≡ q = cc in
          let job : j ≡ i = cc in
          let way : how ≡ other = cc in
          elim ends [
            | inl cancelled ↦ spent.ended (sym way ∙ cancelled)
            | inr none ↦ none d (rw (job, behind) spent.run)
          ]

  again-mark : (p : Past B C I) (m : Mark B) → EndsNoRun p m → (d : Digest) → MayRunAgain s p d → MayRunAgain s (Made m ∷ p) d
  again-mark p (mark.Ended j how) ends d again = again-ended p j how ends d again
  again-mark p m ends d again = again-item s p (Made m) (λ t b is. is) d (λ q j how is spent. cc) again

  again-after : (p : Past B C I) (more : List (Mark B)) → EachMark EndsNoRun p more → (d : Digest) → MayRunAgain s p d → MayRunAgain s
      (after p more) d
  again-after p [] ends d again = again
  again-after p (m ∷ more) ends d again = again-after (Made m ∷ p) more ends.1 d (again-mark p m ends.0 d again)

pub live_off : (t u : ℕ) (x : Ticket) (o : Option Ticket) → (if t == u then None else o) ≡ Some x → o ≡ Some x
live_off t u x o is = go (t == u) is
  where
    go : (b : Bool) → (if b then None else o) ≡ Some x → o ≡ Some x
    go true is = let no : None ≡ Some x = is in absurd (cc)
    go false is = is

module _ {B C I : Type 0} where
  -- what was cancelled is gone after marks
  pub gone-after : (p : Past B C I) (more : List (Mark B)) → CancelledIsGone p → CancelledIsGone (after p more)
  gone-after p [] gone = gone
  gone-after p (m ∷ more) gone = gone-after (Made m ∷ p) more (gone-mark p m gone)

  whole_one : (p : Past B C I) (m : Mark B) → IsOfRule m → is_handing_over (Made m ∷ p) ≡ is_handing_over p
  whole_one p (mark.Opened anchor) h = absurd h
  whole_one p (mark.Converged anchor) h = absurd h
  whole_one p (mark.Completed height) h = absurd h
  whole_one p m h = refl

  pub whole-after : (p : Past B C I) (more : List (Mark B)) → All IsOfRule more → is_handing_over (after p more) ≡ is_handing_over p
  whole-after p [] each = refl
  whole-after p (m ∷ more) each = whole-after (Made m ∷ p) more (All-tail IsOfRule m more each) ∙ whole_one p m (All-head IsOfRule m more each)

  bound_after : (p : Past B C I) (more : List (Mark B)) → bound_of (after p more) ≡ bound_of p
  bound_after p [] = refl
  bound_after p (m ∷ more) = bound_after (Made m ∷ p) more

  live_one : (t : ℕ) (x : Ticket) (p : Past B C I) (m : Mark B) → live_ticket t (Made m ∷ p) ≡ Some x → live_ticket t p ≡ Some x
  live_one t x p (mark.Verdict u answer) is = live_off t u x _ is
  live_one t x p (mark.Answered u decision b) is = live_off t u x _ is
  live_one t x p (mark.Declined u) is = live_off t u x _ is
  live_one t x p (mark.Databases u) is = live_off t u x _ is
  live_one t x p (mark.Acknowledged u height) is = live_off t u x _ is
  live_one t x p (mark.Dropped u) is = live_off t u x _ is
  live_one t x p m is = is

  -- what is live after marks was live before them
  pub live-before : (t : ℕ) (x : Ticket) (p : Past B C I) (more : List (Mark B)) → live_ticket t (after p more) ≡ Some x → live_ticket t p ≡ Some x
  live-before t x p [] is = is
  live-before t x p (m ∷ more) is = live_one t x p m (live-before t x (Made m ∷ p) more is)

  pub bound-after : (p : Past B C I) (more : List (Mark B)) → bound_of (after p more) ≡ bound_of p
  bound-after p more = bound_after p more

  asked_one : (t : ℕ) (d : Digest) (p : Past B C I) (m : Mark B) → IsAskless m → WasAsked t d (Made m ∷ p) → WasAsked t d p
  asked_one t d p (mark.Asked f u e) h was = absurd h
  asked_one t d p (mark.Applied b) h was = absurd was
  asked_one t d p (mark.Pruned marshal target) h was = absurd was
  asked_one t d p m h was = was

  -- what was asked after marks that ask for nothing was asked before
  pub asked-before : (t : ℕ) (d : Digest) (p : Past B C I) (more : List (Mark B)) → All IsAskless more → WasAsked t d (after p more) → WasAsked t d p
  asked-before t d p [] h was = was
  asked-before t d p (m ∷ more) h was =
      asked_one t d p m (All-head IsAskless m more h) (asked-before t d (Made m ∷ p) more (All-tail IsAskless m more h) was)

module _ {B C I P R D H G U : Type 0} (w : Workings B C I P R D H G U) (stored : ℕ → Option (Named B)) where
  -- live requests weren't cancelled, where what was cancelled is gone
  pub orderly-gone : (p : Past B C I) → CancelledIsGone p → TicketsApart p → ((d : Digest) → MayRunAgain (setting w stored) p d)
      → IsOrderly w stored p
  orderly-gone p gone apart again = record { apart = apart; live = λ t live. live-uncancelled p gone t _ live; again = again }

  -- A past stays in order after marks by which no run ends, but by cancels, and no handover begins.
  pub past-ends : (p : Past B C I) (more : List (Mark B)) → EachMark EndsNoRun p more → is_handing_over (after p more) ≡ is_handing_over p
      → IsOrderlyPast w stored p → IsOrderlyPast w stored (after p more)
  past-ends p more ends whole h = record {
    orderly = orderly-gone (after p more) (gone-after p more h.gone) (TicketsApart-after p more h.orderly.apart)
        (λ d. again-after (setting w stored) p more ends d (h.orderly.again d));
    gone = gone-after p more h.gone;
    whole = whole ∙ h.whole;
  }

  -- such are marks of rules
  pub past-after : (p : Past B C I) (more : List (Mark B)) → All IsOfRule more → EachMark EndsNoRun p more → IsOrderlyPast w stored p
      → IsOrderlyPast w stored (after p more)
  past-after p more rules ends h = past-ends p more ends (whole-after p more rules) h

  -- What was asked for a ticket stays so for an earlier one, where the marks ask for nothing.
  pub past-kept-ends : (p : Past B C I) (more : List (Mark B)) → EachMark EndsNoRun p more → All IsAskless more
      → is_handing_over (after p more) ≡ is_handing_over p → PastKept w stored p → PastKept w stored (after p more)
  past-kept-ends p more ends askless whole h = record {
    past = past-ends p more ends whole h.past;
    earlier = λ t d was. subst (λ n. t < n) (sym (bound_after p more)) (h.earlier t d (asked-before t d p more askless was));
  }

  -- what is kept before all else
  none_again : (p : Past B C I) → p ≡ [] → (d : Digest) → MayRunAgain (setting w stored) p d
  none_again p none d [] q j how is spent = cc
  none_again p none d (x ∷ later) q j how is spent = cc

  pub past-kept-first : (p : Past B C I) → p ≡ [] → PastKept w stored p
  past-kept-first p none = record {
    past = record {
      orderly = orderly-gone p (gone-first p none) (λ t some. rw none refl) (none_again p none);
      gone = gone-first p none;
      whole = rw none refl;
    };
    earlier = λ t d was. absurd (subst (λ (q : Past B C I). WasAsked t d q) none was);
  }

  -- and what is kept while the machine is up
  pub past-kept : (p : Past B C I) (m : Moment w) → PlacesKept w stored p m → PastKept w stored p
  past-kept p m k = record { past = k.past; earlier = k.asks.earlier }
