-- The marks by which all live work ends: what they are, and what they leave of a past.
use Rattle.std.proofs.Common.{◌≡◌, ◌∷◌, ◌++◌, [], ℕ, true, false, List, All, map, refl, ◌∙◌, true≢false}
use Rattle.std.proofs.lemmas.List.Elements.{All-nil, All-cons, All-head, All-tail, All-same, All-append, All-weaker}
use Rattle.stateful_base.specs.declared.anchor.Anchor.{Anchor}
use Rattle.stateful_history.specs.Opening.{is_down, opens}
use Rattle.stateful_history.specs.Past.{Past, Made, after}
use Rattle.stateful_history.specs.declared.mark.How.TheVariants.{Cancelled}
use Rattle.stateful_history.specs.declared.mark.Mark.{Mark}
use Rattle.stateful_history.specs.declared.mark.Mark.TheVariants.{Opened, Converged, Withdrawn, Ended, Declined, Dropped, Stopped}
use Rattle.stateful_actor_register.specs.Ends.{EndsAll}
use Rattle.stateful_loop_laws.specs.Down.{IsEnding}

-- a mark by which live work ends
abbrev pub IsWorkEnd : {B : Type 0} → Mark B → Type 0
IsWorkEnd (Withdrawn f) = Unit {0}
IsWorkEnd (Ended j how) = Unit {0}
IsWorkEnd (Declined t) = Unit {0}
IsWorkEnd (Dropped t) = Unit {0}
IsWorkEnd mark = ⊥

module _ {B : Type 0} where
  is_ending : (mark : Mark B) → IsWorkEnd mark → IsEnding mark
  is_ending (Withdrawn f) is = tt
  is_ending (Ended j how) is = tt
  is_ending (Declined t) is = tt
  is_ending (Dropped t) is = tt
  is_ending mark is = absurd is

  -- none of them is that of a stop
  pub IsWorkEnd-ending : (marks : List (Mark B)) → All IsWorkEnd marks → All IsEnding marks
  IsWorkEnd-ending = All-weaker IsWorkEnd IsEnding is_ending

  made_of : (make : ℕ → Mark B) → ((n : ℕ) → IsWorkEnd (make n)) → (ns : List ℕ) → All IsWorkEnd (map make ns)
  made_of make ends [] = All-nil IsWorkEnd
  made_of make ends (n ∷ ns) = All-cons IsWorkEnd (make n) (map make ns) (ends n) (made_of make ends ns)

  opens_one : (mark : Mark B) (marks : List (Mark B)) → IsEnding mark → opens (mark ∷ marks) ≡ opens marks
  opens_one (Withdrawn f) marks is = refl
  opens_one (Ended j how) marks is = refl
  opens_one (Declined t) marks is = refl
  opens_one (Dropped t) marks is = refl
  opens_one Stopped marks is = refl
  opens_one mark marks is = absurd is

  -- none opens
  pub opens-ending : (marks : List (Mark B)) → All IsEnding marks → opens marks ≡ false
  opens-ending [] ending = refl
  opens-ending (mark ∷ marks) ending =
      opens_one mark marks (All-head IsEnding mark marks ending) ∙ opens-ending marks (All-tail IsEnding mark marks ending)

  -- none of some marks and of others opens
  pub opens-neither : (marks more : List (Mark B)) → opens marks ≡ false → opens more ≡ false → opens (marks ++ more) ≡ false
  opens-neither [] more one two = two
  opens-neither (Opened anchor ∷ marks) more one two = absurd (true≢false one)
  opens-neither (Converged anchor ∷ marks) more one two = absurd (true≢false one)
  opens-neither (mark ∷ marks) more one two = opens-neither marks more one two

  -- an opening behind others opens
  pub opens-opened : (marks : List (Mark B)) (anchor : Anchor) → opens (marks ++ Opened anchor ∷ []) ≡ true
  opens-opened [] anchor = refl
  opens-opened (Opened a ∷ marks) anchor = refl
  opens-opened (Converged a ∷ marks) anchor = refl
  opens-opened (mark ∷ marks) anchor = opens-opened marks anchor

module _ {B C I : Type 0} where
  -- each mark by which all live work ends is such
  pub EndsAll-ends : (p : Past B C I) (marks : List (Mark B)) → EndsAll p marks → All IsWorkEnd marks
  EndsAll-ends p marks e = All-same IsWorkEnd marks _ e.are
      (All-append IsWorkEnd _ (map (λ (t : ℕ). Dropped t) e.others)
      (All-append IsWorkEnd _ (map (λ (t : ℕ). Declined t) e.proposals)
      (All-append IsWorkEnd (map (λ (f : ℕ). Withdrawn f) e.fetches) (map (λ (j : ℕ). Ended j Cancelled) e.jobs)
      (made_of (λ f. Withdrawn f) (λ n. tt) e.fetches)
      (made_of (λ j. Ended j Cancelled) (λ n. tt) e.jobs))
      (made_of (λ t. Declined t) (λ n. tt) e.proposals))
      (made_of (λ t. Dropped t) (λ n. tt) e.others))

  down_one : (q : Past B C I) (mark : Mark B) → IsWorkEnd mark → is_down (Made mark ∷ q) ≡ is_down q
  down_one q Stopped is = absurd is
  down_one q mark is = refl

  -- the machine is as down with them
  pub is_down-ends : (q : Past B C I) (marks : List (Mark B)) → All IsWorkEnd marks → is_down (after q marks) ≡ is_down q
  is_down-ends q [] ends = refl
  is_down-ends q (mark ∷ marks) ends =
      is_down-ends (Made mark ∷ q) marks (All-tail IsWorkEnd mark marks ends) ∙ down_one q mark (All-head IsWorkEnd mark marks ends)
