-- Marks and entries one after another, and what a longer past keeps of a shorter one.
use Rattle.std.proofs.Common.{◌≡◌, ℕ, ◌+◌, ◌<◌, ◌++◌, List, [], ◌∷◌, length, get_or, take, refl, inr, arith}
use Rattle.std.proofs.lemmas.Grind.{common_steps}
use Rattle.stateful_base.specs.Names.{Named}
use Rattle.stateful_history.specs.Setting.{Setting}
use Rattle.stateful_history.specs.Past.{Past, Item, Came, Made, after, after_entry, after_all, EachMark, EachEntry}
use Rattle.stateful_history.specs.Met.{Met, TrueNames}
use Rattle.stateful_history.specs.declared.event.Event.{Event}
use Rattle.stateful_history.specs.declared.mark.Mark.{Mark}
use Rattle.stateful_history.specs.declared.entry.Entry.{Entry}

module _ {B C I : Type 0} where
  pub after-append : (p : Past B C I) (marks more : List (Mark B)) → after p (marks ++ more) ≡ after (after p marks) more
  after-append p [] more = refl
  after-append p (mark ∷ marks) more = after-append (Made mark ∷ p) marks more

  pub after-push : (p : Past B C I) (marks : List (Mark B)) (mark : Mark B) → after p (marks ++ mark ∷ []) ≡ Made mark ∷ after p marks
  after-push p marks mark = after-append p marks (mark ∷ [])

  -- the first marks and the next one
  pub after-take : (p : Past B C I) (marks : List (Mark B)) (i : ℕ) (mark : Mark B) → i < length marks → mark ≡ get_or marks i mark → after p (take (i + 1) marks) ≡ Made mark ∷ after p (take i marks)
  after-take p marks i mark low is =
      let longer : take (i + 1) marks ≡ take i marks ++ mark ∷ [] = grind (arith, common_steps) in
      rw longer (after-push p (take i marks) mark)

  pub after_all-append : (p : Past B C I) (entries more : List (Entry B C I)) → after_all p (entries ++ more) ≡ after_all (after_all p entries) more
  after_all-append p [] more = refl
  after_all-append p (entry ∷ entries) more = after_all-append (after_entry p entry.event entry.marks) entries more

  pub after_all-push : (p : Past B C I) (entries : List (Entry B C I)) (entry : Entry B C I) → after_all p (entries ++ entry ∷ []) ≡ after_entry (after_all p entries) entry.event entry.marks
  after_all-push p entries entry = after_all-append p entries (entry ∷ [])

  module _ (Rule : Past B C I → Mark B → Type 0) where
    pub EachMark-append : (p : Past B C I) (marks more : List (Mark B)) → EachMark Rule p marks → EachMark Rule (after p marks) more → EachMark Rule p (marks ++ more)
    EachMark-append p [] more each rest = rest
    EachMark-append p (mark ∷ marks) more each rest = (each.0, EachMark-append (Made mark ∷ p) marks more each.1 rest)

    pub EachMark-push : (p : Past B C I) (marks : List (Mark B)) (mark : Mark B) → EachMark Rule p marks → Rule (after p marks) mark → EachMark Rule p (marks ++ mark ∷ [])
    EachMark-push p marks mark each rule = EachMark-append p marks (mark ∷ []) each (rule, tt)

    pub EachEntry-append : (p : Past B C I) (entries more : List (Entry B C I)) → EachEntry Rule p entries → EachEntry Rule (after_all p entries) more → EachEntry Rule p (entries ++ more)
    EachEntry-append p [] more each rest = rest
    EachEntry-append p (entry ∷ entries) more each rest = (each.0, EachEntry-append (after_entry p entry.event entry.marks) entries more each.1 rest)

    pub EachEntry-push : (p : Past B C I) (entries : List (Entry B C I)) (entry : Entry B C I) → EachEntry Rule p entries → EachMark Rule (Came entry.event ∷ after_all p entries) entry.marks → EachEntry Rule p (entries ++ entry ∷ [])
    EachEntry-push p entries entry each rule = EachEntry-append p entries (entry ∷ []) each (rule, tt)

  -- a longer past has met what a shorter one has, and names that are true of it are true of the shorter one
  module _ {S T : Type 0} (s : Setting B S T) where
    pub Met-item : (item : Item B C I) (p : Past B C I) (b : Named B) → Met s p b → Met s (item ∷ p) b
    Met-item item p b met = inr met

    pub Met-after : (p : Past B C I) (marks : List (Mark B)) (b : Named B) → Met s p b → Met s (after p marks) b
    Met-after p [] b met = met
    Met-after p (mark ∷ marks) b met = Met-after (Made mark ∷ p) marks b (inr met)

    pub Met-after_entry : (p : Past B C I) (event : Event B C I) (marks : List (Mark B)) (b : Named B) → Met s p b → Met s (after_entry p event marks) b
    Met-after_entry p event marks b met = Met-after (Came event ∷ p) marks b (inr met)

    pub Met-after_all : (p : Past B C I) (entries : List (Entry B C I)) (b : Named B) → Met s p b → Met s (after_all p entries) b
    Met-after_all p [] b met = met
    Met-after_all p (entry ∷ entries) b met = Met-after_all (after_entry p entry.event entry.marks) entries b (Met-after_entry p entry.event entry.marks b met)

    pub TrueNames-before : (item : Item B C I) (p : Past B C I) → TrueNames s (item ∷ p) → TrueNames s p
    TrueNames-before item p names x y mx my = names x y (inr mx) (inr my)

    pub TrueNames-before_marks : (p : Past B C I) (marks : List (Mark B)) → TrueNames s (after p marks) → TrueNames s p
    TrueNames-before_marks p marks names x y mx my = names x y (Met-after p marks x mx) (Met-after p marks y my)

    pub TrueNames-before_entry : (p : Past B C I) (event : Event B C I) (marks : List (Mark B)) → TrueNames s (after_entry p event marks) → TrueNames s p
    TrueNames-before_entry p event marks names x y mx my = names x y (Met-after_entry p event marks x mx) (Met-after_entry p event marks y my)

    pub TrueNames-before_all : (p : Past B C I) (entries : List (Entry B C I)) → TrueNames s (after_all p entries) → TrueNames s p
    TrueNames-before_all p entries names x y mx my = names x y (Met-after_all p entries x mx) (Met-after_all p entries y my)
