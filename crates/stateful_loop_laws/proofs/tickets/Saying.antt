-- Marks and events of other tickets leave what a past says of some tickets.
use Rattle.std.proofs.Common.{◌≡◌, ◌==◌, inr, if◌then◌else◌, ℕ, List, [], ◌∷◌, All, refl, sym, ◌∙◌, subst}
use Rattle.std.proofs.lemmas.List.Elements.{All-head, All-tail, All-weaker}
use Rattle.stateful_base.specs.Names.{Named}
use Rattle.stateful_history.specs.Asked.{verified}
use Rattle.stateful_history.specs.Finalizations.{finalized_since}
use Rattle.stateful_history.specs.Live.{live_ticket}
use Rattle.stateful_history.specs.Met.{Met}
use Rattle.stateful_history.specs.Past.{Past, Came, Made, after}
use Rattle.stateful_history.specs.Requests.{proposed, subscribed}
use Rattle.stateful_history.specs.Setting.{Setting}
use Rattle.stateful_history.specs.declared.event.Event.{Event}
use Rattle.stateful_history.specs.declared.event.Event.TheVariants.{Verify, Prepare, Propose, Finalized, Subscribe, Cancel, Restart}
use Rattle.stateful_history.specs.declared.mark.JobKind.TheVariants.{Candidate}
use Rattle.stateful_history.specs.declared.mark.Mark.{Mark}
use Rattle.stateful_history.specs.declared.mark.Mark.TheVariants.{Asked, Withdrawn, Started, Ended, Verdict, Answered, Declined, Databases, Acknowledged, Dropped}
use Rattle.stateful_exec_laws.proofs.pauses.Passing.{IsBeside}
use Rattle.stateful_exec_laws.proofs.runs.Removing.{differ}

-- the mark ends no request and no receipt of these tickets
abbrev pub IsAside : {B : Type 0} → (ℕ → Type 0) → Mark B → Type 0
IsAside Ticket (Verdict t answer) = Ticket t → ⊥
IsAside Ticket (Answered t decision b) = Ticket t → ⊥
IsAside Ticket (Declined t) = Ticket t → ⊥
IsAside Ticket (Databases t) = Ticket t → ⊥
IsAside Ticket (Acknowledged t height) = Ticket t → ⊥
IsAside Ticket (Dropped t) = Ticket t → ⊥
IsAside Ticket mark = Unit {0}

-- the event is of none of these tickets, and no restart
abbrev pub IsOff : {B C I : Type 0} → (ℕ → Type 0) → Event B C I → Type 0
IsOff Ticket (Verify t ancestry) = Ticket t → ⊥
IsOff Ticket (Prepare t context ancestry input) = Ticket t → ⊥
IsOff Ticket (Propose t context ancestry input) = Ticket t → ⊥
IsOff Ticket (Finalized t b) = Ticket t → ⊥
IsOff Ticket (Subscribe t) = Ticket t → ⊥
IsOff Ticket (Cancel t) = Ticket t → ⊥
IsOff Ticket (Restart floor keep) = ⊥
IsOff Ticket event = Unit {0}

-- a mark beside these tickets ends none of theirs
pub aside_beside : {B : Type 0} (Job Ticket : ℕ → Type 0) (mark : Mark B) → IsBeside Job Ticket mark → IsAside Ticket mark
aside_beside Job Ticket (Asked f ticket d) h = tt
aside_beside Job Ticket (Withdrawn f) h = tt
aside_beside Job Ticket (Started k Candidate d) h = tt
aside_beside Job Ticket (Ended k how) h = tt
aside_beside Job Ticket (Verdict t answer) h = h
aside_beside Job Ticket (Declined t) h = h
aside_beside Job Ticket mark h = absurd h

-- marks beside these tickets end none of theirs
pub all_aside : {B : Type 0} (Job Ticket : ℕ → Type 0) (marks : List (Mark B)) → All (IsBeside Job Ticket) marks → All (IsAside Ticket) marks
all_aside Job Ticket marks all = All-weaker (λ mark. IsBeside Job Ticket mark) (λ mark. IsAside Ticket mark) (aside_beside Job Ticket) marks all

passed : (Ticket : ℕ → Type 0) {X : Type 0} (t u : ℕ) → Ticket t → (Ticket u → ⊥) → (x o : X) → (if t == u then x else o) ≡ o
passed Ticket t u own other x o = rw (differ t u (λ same. other (subst Ticket (sym same) own))) refl

module _ {B C I S T : Type 0} (s : Setting B S T) (Ticket : ℕ → Type 0) where
  -- one past says the same of these tickets as another one, which it is longer than
  pub record SaysSame (p q : Past B C I) : Type 0 where
    pub met : (b : Named B) → Met s p b → Met s q b
    pub live : (t : ℕ) → Ticket t → live_ticket t q ≡ live_ticket t p
    pub verified : (t : ℕ) → Ticket t → verified t q ≡ verified t p
    pub proposed : (t : ℕ) → Ticket t → proposed t q ≡ proposed t p
    pub subscribed : (t : ℕ) → Ticket t → subscribed t q ≡ subscribed t p
    pub finalized : (t : ℕ) → Ticket t → finalized_since t q ≡ finalized_since t p

  -- a past says the same as itself
  pub SaysSame-same : (p : Past B C I) → SaysSame p p
  SaysSame-same p = record {
    met = λ b h. h;
    live = λ t own. refl;
    verified = λ t own. refl;
    proposed = λ t own. refl;
    subscribed = λ t own. refl;
    finalized = λ t own. refl;
  }

  -- one after another
  pub SaysSame-then : (p q r : Past B C I) → SaysSame p q → SaysSame q r → SaysSame p r
  SaysSame-then p q r f g = record {
    met = λ b h. g.met b (f.met b h);
    live = λ t own. g.live t own ∙ f.live t own;
    verified = λ t own. g.verified t own ∙ f.verified t own;
    proposed = λ t own. g.proposed t own ∙ f.proposed t own;
    subscribed = λ t own. g.subscribed t own ∙ f.subscribed t own;
    finalized = λ t own. g.finalized t own ∙ f.finalized t own;
  }

  live_mark : (p : Past B C I) (mark : Mark B) → IsAside Ticket mark → (t : ℕ) → Ticket t → live_ticket t (Made mark ∷ p) ≡ live_ticket t p
  live_mark p (Verdict u answer) aside t own = passed Ticket t u own aside _ _
  live_mark p (Answered u decision b) aside t own = passed Ticket t u own aside _ _
  live_mark p (Declined u) aside t own = passed Ticket t u own aside _ _
  live_mark p (Databases u) aside t own = passed Ticket t u own aside _ _
  live_mark p (Acknowledged u height) aside t own = passed Ticket t u own aside _ _
  live_mark p (Dropped u) aside t own = passed Ticket t u own aside _ _
  live_mark p mark aside t own = refl

  -- after a mark that ends none of theirs
  pub SaysSame-mark : (p : Past B C I) (mark : Mark B) → IsAside Ticket mark → SaysSame p (Made mark ∷ p)
  SaysSame-mark p mark aside = record {
    met = λ b h. inr h;
    live = live_mark p mark aside;
    verified = λ t own. refl;
    proposed = λ t own. refl;
    subscribed = λ t own. refl;
    finalized = λ t own. refl;
  }

  -- after marks that end none of theirs
  pub SaysSame-after : (p : Past B C I) (marks : List (Mark B)) → All (IsAside Ticket) marks → SaysSame p (after p marks)
  SaysSame-after p [] all = SaysSame-same p
  SaysSame-after p (mark ∷ marks) all =
      SaysSame-then p (Made mark ∷ p) (after (Made mark ∷ p) marks) (SaysSame-mark p mark (All-head (λ m. IsAside Ticket m) mark marks all))
      (SaysSame-after (Made mark ∷ p) marks (All-tail (λ m. IsAside Ticket m) mark marks all))

  live_event : (p : Past B C I) (e : Event B C I) → IsOff Ticket e → (t : ℕ) → Ticket t → live_ticket t (Came e ∷ p) ≡ live_ticket t p
  live_event p (Verify u ancestry) off t own = passed Ticket t u own off _ _
  live_event p (Prepare u context ancestry input) off t own = passed Ticket t u own off _ _
  live_event p (Propose u context ancestry input) off t own = passed Ticket t u own off _ _
  live_event p (Finalized u b) off t own = passed Ticket t u own off _ _
  live_event p (Subscribe u) off t own = passed Ticket t u own off _ _
  live_event p (Cancel u) off t own = passed Ticket t u own off _ _
  live_event p e off t own = refl

  verified_event : (p : Past B C I) (e : Event B C I) → IsOff Ticket e → (t : ℕ) → Ticket t → verified t (Came e ∷ p) ≡ verified t p
  verified_event p (Verify u ancestry) off t own = passed Ticket t u own off _ _
  verified_event p e off t own = refl

  proposed_event : (p : Past B C I) (e : Event B C I) → IsOff Ticket e → (t : ℕ) → Ticket t → proposed t (Came e ∷ p) ≡ proposed t p
  proposed_event p (Prepare u context ancestry input) off t own = passed Ticket t u own off _ _
  proposed_event p (Propose u context ancestry input) off t own = passed Ticket t u own off _ _
  proposed_event p e off t own = refl

  subscribed_event : (p : Past B C I) (e : Event B C I) → IsOff Ticket e → (t : ℕ) → Ticket t → subscribed t (Came e ∷ p) ≡ subscribed t p
  subscribed_event p (Subscribe u) off t own = rw (differ t u (λ same. off (subst Ticket (sym same) own))) refl
  subscribed_event p e off t own = refl

  finalized_event : (p : Past B C I) (e : Event B C I) → IsOff Ticket e → (t : ℕ) → Ticket t → finalized_since t (Came e ∷ p) ≡ finalized_since t p
  finalized_event p (Finalized u b) off t own = passed Ticket t u own off _ _
  finalized_event p (Restart floor keep) off t own = absurd off
  finalized_event p e off t own = refl

  -- after an event that is of none of theirs
  pub SaysSame-event : (p : Past B C I) (e : Event B C I) → IsOff Ticket e → SaysSame p (Came e ∷ p)
  SaysSame-event p e off = record {
    met = λ b h. inr h;
    live = live_event p e off;
    verified = verified_event p e off;
    proposed = proposed_event p e off;
    subscribed = subscribed_event p e off;
    finalized = finalized_event p e off;
  }
