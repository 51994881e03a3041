-- A run that ended in vain is started again only for another request: that is kept over the marks of requests.
use Rattle.std.proofs.Common.{◌≡◌, ◌≢◌, ◌⊎◌, ◌++◌, inl, inr, ℕ, zero, suc, List, [], ◌∷◌, Any, Option, None, Some, option_map, MatchOption, refl, sym, ap, ◌∙◌, subst, arith}
use Rattle.stateful_base.specs.Names.{Named}
use Rattle.stateful_base.specs.declared.digest.Digest.{Digest}
use Rattle.stateful_history.specs.Ancestors.{IsOnPath}
use Rattle.stateful_history.specs.Jobs.{JobOf, job_of, started_for}
use Rattle.stateful_history.specs.Known.{Known, IsUnknown}
use Rattle.stateful_history.specs.Past.{Past, Item, Came, Made, after}
use Rattle.stateful_history.specs.Requests.{subject, StandsOn}
use Rattle.stateful_history.specs.Runs.{ended_by, EndsOn, IsSpent, MayRunAgain}
use Rattle.stateful_history.specs.Setting.{Setting}
use Rattle.stateful_history.specs.declared.event.Event.TheVariants.{Turn}
use Rattle.stateful_history.specs.declared.mark.How.{How}
use Rattle.stateful_history.specs.declared.mark.JobKind.TheVariants.{Candidate}
use Rattle.stateful_history.specs.declared.mark.Mark.{Mark}
use Rattle.stateful_history.specs.declared.mark.Mark.TheVariants.{Asked, Started, Ended, Verdict, Declined}
use Rattle.stateful_exec_laws.proofs.places.Cancelled.{StandsOn-longer}
use Rattle.stateful_exec_laws.proofs.requests.ServedMarks.{IsServedBy, AreServedBy}

Any-more_first : {X : Type 0} (P Q : X → Type 0) (x : X) (xs : List X) → ((y : X) → P y → Q y) → Any P xs → Any Q (x ∷ xs)
Any-more_first P Q x xs f any = (suc any.0, any.1, (let l = any.2 in omega arith), any.3, f any.1 any.4)

ends_none : {B : Type 0} (t : ℕ) (mark : Mark B) → IsServedBy t mark → (j : ℕ) (how : How) → mark ≡ Ended j how → ⊥
ends_none t (Verdict v good) is j how e = cc
ends_none t (Declined v) is j how e = cc
ends_none t (Asked f (Some v) d) is j how e = cc
ends_none t (Started k Candidate d) is j how e = cc
ends_none t mark is j how e = absurd is

module _ {B C I S T : Type 0} (s : Setting B S T) where
  -- a request that ended on a block did so for a longer past too, where that leaves what requests ask for
  ends_still : (p : Past B C I) (x : Item B C I) → ((t : ℕ) (b : Named B) → subject t p ≡ Some b → subject t (x ∷ p) ≡ Some b) → (d : Digest) (item : Item B C I) → EndsOn s p d item → EndsOn s (x ∷ p) d item
  ends_still p x same d item h = go (ended_by item) h
    where
      still : (t : ℕ) (o : Option (Named B)) → subject t p ≡ o → MatchOption o ⊥ (λ b. IsOnPath s p b d) → StandsOn s p t d → StandsOn s (x ∷ p) t d
      still t None is none on = absurd none
      still t (Some b) is some on = StandsOn-longer s p x t d (same t b is ∙ sym is) on

      go : (o : Option ℕ) → MatchOption o ⊥ (λ t. StandsOn s p t d) → MatchOption o ⊥ (λ t. StandsOn s (x ∷ p) t d)
      go None h = h
      go (Some t) h = still t (subject t p) refl h h

  module _ (p : Past B C I) (x : Item B C I) (same : (t : ℕ) (b : Named B) → subject t p ≡ Some b → subject t (x ∷ p) ≡ Some b) (other : (j : ℕ) (how : How) → x ≡ Made (Ended j how) → ⊥) where
    again_from : (d : Digest) → MayRunAgain s p d → (later : List (Item B C I)) (q : Past B C I) (j : ℕ) (how : How) → x ∷ p ≡ later ++ Made (Ended j how) ∷ q → IsSpent s d q j how → Any (EndsOn s (x ∷ p) d) later
    again_from d again [] q j how is spent = absurd (other j how cc)
    again_from d again (y ∷ later) q j how is spent =
        let rest : p ≡ later ++ Made (Ended j how) ∷ q = cc in
        Any-more_first (EndsOn s p d) (EndsOn s (x ∷ p) d) y later (λ item h. ends_still p x same d item h) (again later q j how rest spent)

    -- An item that ends no run leaves it so, where it leaves what requests ask for.
    pub MayRunAgain-item : (d : Digest) → MayRunAgain s p d → MayRunAgain s (x ∷ p) d
    MayRunAgain-item d again later q j how is spent = again_from d again later q j how is spent

  module _ (p : Past B C I) (mark : Mark B) where
    -- so does a mark that ends none
    pub MayRunAgain-mark : (d : Digest) → ((j : ℕ) (how : How) → mark ≡ Ended j how → ⊥) → MayRunAgain s p d → MayRunAgain s (Made mark ∷ p) d
    MayRunAgain-mark d other again = MayRunAgain-item p (Made mark) (λ t b is. is) (λ j how e. other j how cc) d again

    -- and where a request ends by it that stands on the block, the block may be run again anyway
    pub MayRunAgain-ended : (d : Digest) (t : ℕ) → ended_by {B = B} {C = C} {I = I} (Made mark) ≡ Some t → StandsOn s p t d → ((j : ℕ) (how : How) → mark ≡ Ended j how → ⊥) → MayRunAgain s (Made mark ∷ p) d
    MayRunAgain-ended d t ends stands other [] q j how is spent = absurd (other j how cc)
    MayRunAgain-ended d t ends stands other (x ∷ later) q j how is spent =
        let first : x ≡ Made mark = cc in
        let here : EndsOn s (Made mark ∷ p) d (Made mark) = subst (λ (o : Option ℕ). MatchOption o ⊥ (λ u. StandsOn s (Made mark ∷ p) u d)) (sym ends) (StandsOn-longer s p (Made mark) t d refl stands) in
        (zero, x, omega arith, refl, subst (λ (y : Item B C I). EndsOn s (Made mark ∷ p) d y) (sym first) here)

  -- so it is after the marks of a request that is served
  pub MayRunAgain-served : (p : Past B C I) (t : ℕ) (marks : List (Mark B)) → AreServedBy t p marks → (d : Digest) → MayRunAgain s p d → MayRunAgain s (after p marks) d
  MayRunAgain-served p t [] are d again = again
  MayRunAgain-served p t (mark ∷ marks) are d again = MayRunAgain-served (Made mark ∷ p) t marks are.1 d (MayRunAgain-mark p mark d (λ j how e. ends_none t mark are.0 j how e) again)

  -- after the end of a run, as long as it isn't the run's block, or that is known
  pub MayRunAgain-turned : (p : Past B C I) (j : ℕ) (how : How) (b : Digest) → started_for j p ≡ Some (job_of Candidate b) → ((d : Digest) → MayRunAgain s p d)
      → (d : Digest) → (d ≢ b) ⊎ Known s (Made (Ended j how) ∷ Came (Turn j) ∷ p) b → MayRunAgain s (Made (Ended j how) ∷ Came (Turn j) ∷ p) d
  MayRunAgain-turned p j how b started again d may [] q i other is spent = absurd (go may)
    where
      behind : Came (Turn j) ∷ p ≡ q
      behind = cc

      same_job : j ≡ i
      same_job = cc

      own : d ≡ b
      own =
          let run : started_for i q ≡ Some (job_of Candidate d) = spent.run in
          let here : started_for j (Came (Turn j) ∷ p) ≡ Some (job_of Candidate d) = subst (λ (n : ℕ). started_for n (Came (Turn j) ∷ p) ≡ Some (job_of Candidate d)) (sym same_job) (subst (λ (x : Past B C I). started_for i x ≡ Some (job_of Candidate d)) (sym behind) run) in
          let one : Some (job_of Candidate b) ≡ Some (job_of Candidate d) = sym started ∙ here in
          let digests : Some b ≡ Some d = ap (λ (o : Option JobOf). option_map (λ (x : JobOf). x.digest) o) one in
          cc

      go : (d ≢ b) ⊎ Known s (Made (Ended j how) ∷ Came (Turn j) ∷ p) b → ⊥
      go (inl ne) = ne own
      go (inr known) =
          let unknown : IsUnknown s (Made (Ended i other) ∷ q) d = spent.unknown in
          let there : Made (Ended j how) ∷ Came (Turn j) ∷ p ≡ Made (Ended i other) ∷ q = is in
          unknown (subst (λ (x : Past B C I). Known s x d) there (subst (λ (x : Digest). Known s (Made (Ended j how) ∷ Came (Turn j) ∷ p) x) (sym own) known))
  MayRunAgain-turned p j how b started again d may (x ∷ []) q i other is spent = let no : Came (Turn j) ∷ p ≡ Made (Ended i other) ∷ q = cc in cc
  MayRunAgain-turned p j how b started again d may (x ∷ y ∷ later) q i other is spent =
      let rest : p ≡ later ++ Made (Ended i other) ∷ q = cc in
      Any-more_first (EndsOn s (Came (Turn j) ∷ p) d) (EndsOn s (Made (Ended j how) ∷ Came (Turn j) ∷ p) d) x (y ∷ later) (λ item h. ends_still (Came (Turn j) ∷ p) (Made (Ended j how)) (λ t x is. is) d item h)
      (Any-more_first (EndsOn s p d) (EndsOn s (Came (Turn j) ∷ p) d) y later (λ item h. ends_still p (Came (Turn j)) (λ t x is. is) d item h) (again d later q i other rest spent))
