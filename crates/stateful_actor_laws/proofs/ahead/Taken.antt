-- The finalized blocks that wait stay in their order after a lawful event that is taken in.
use Rattle.std.proofs.Common.{◌≡◌, ◌≤◌, ◌<◌, ◌⊎◌, inl, inr, ◌+◌, ◌++◌, ◌∷◌, [], ℕ, nat_lt, Bool, true, false, if◌then◌else◌, Option, Some, None, List, All, refl, sym, ap, ◌∙◌, subst, append-nil, arith}
use Rattle.std.proofs.lemmas.Bool.Decides.{nat_tests}
use Rattle.std.proofs.lemmas.List.{append_cancel_left}
use Rattle.stateful_base.specs.Names.{Header, Named}
use Rattle.stateful_base.specs.Anchor.{anchor_by}
use Rattle.stateful_base.specs.declared.anchor.Anchor.{Anchor}
use Rattle.stateful_history.specs.Anchors.{applied, anchor_of}
use Rattle.stateful_history.specs.Finalizations.{IsChildOf}
use Rattle.stateful_history.specs.Joined.{Matches}
use Rattle.stateful_history.specs.Lawful.{higher, highest, IsNextFinal, IsBehindStart, MayFinalize, BringsTruth, IsLawful}
use Rattle.stateful_history.specs.Met.{Met, TrueNames}
use Rattle.stateful_history.specs.Opening.{opening}
use Rattle.stateful_history.specs.Past.{Past, Came, after}
use Rattle.stateful_history.specs.Refusals.{WasFinalized}
use Rattle.stateful_history.specs.States.{fold, HasState}
use Rattle.stateful_history.specs.Stops.{IsRestart}
use Rattle.stateful_history.specs.Telling.{telling_of}
use Rattle.stateful_history.specs.declared.event.Event.{Event}
use Rattle.stateful_history.specs.declared.event.Event.TheVariants.{Prepare, Propose, Finalized, Restart}
use Rattle.stateful_history.specs.declared.mark.Mark.{Mark}
use Rattle.stateful_exec_model.specs.Finalizing.{IsRedelivered}
use Rattle.stateful_exec_model.specs.Workings.{Workings}
use Rattle.stateful_exec_laws.specs.Setting.{setting}
use Rattle.stateful_exec_laws.proofs.runs.Turned.{HasState-once}
use Rattle.stateful_loop_model.specs.Intake.{Counts, TakesIn}
use Rattle.stateful_loop_model.specs.Moments.{Moment}
use Rattle.stateful_loop_laws.specs.Stands.{IsUpAt}
use Rattle.stateful_loop_laws.proofs.events.TakenIn.{may_come-live}
use Rattle.stateful_loop_laws.proofs.duly.PlainMarks.{PlainBehind, taken_in_plain}
use Rattle.stateful_actor_laws.specs.Machine.{numbered}
use Rattle.stateful_actor_laws.specs.Ahead.{LeadsAt, RoundsAscend, IsAhead}
use Rattle.stateful_actor_laws.proofs.ahead.Kept.{ahead-marked}
use Rattle.stateful_actor_laws.proofs.ahead.IntakeLeads.{finals_by, intake-leads, next-leads, again-leads}
use Rattle.stateful_actor_laws.proofs.ahead.Rounds.{IsLaterAsked, rounds-came}
use Rattle.stateful_actor_laws.proofs.ahead.TopState.{top-HasState}

lt-true : (a b : ℕ) → a < b → nat_lt a b ≡ true
lt-true a b h = grind (arith, nat_tests)

le-false : (a b : ℕ) → b ≤ a → nat_lt a b ≡ false
le-false a b h = grind (arith, nat_tests)

module _ {B C I : Type 0} (header : Header B) (p : Past B C I) where
  -- what an event that is no restart and finalizes nothing leaves of a past
  pub record IsCalmEvent (e : Event B C I) : Type 0 where
    pub top : highest header (Came e ∷ p) ≡ highest header p
    pub opened : opening (Came e ∷ p) ≡ opening p
    pub applied_is : applied (Came e ∷ p) ≡ applied p
    pub anchored : anchor_of header (Came e ∷ p) ≡ anchor_of header p
    pub finalized : (b : Named B) → WasFinalized (Came e ∷ p) b → WasFinalized p b

  calm-event : (e : Event B C I) → (IsRestart e → ⊥) → finals_by e ≡ [] → IsCalmEvent e
  calm-event (Restart floor keep) on none = absurd (on tt)
  calm-event (Finalized t b) on none = cc
  calm-event e on none = record { top = refl; opened = refl; applied_is = refl; anchored = refl; finalized = λ b h. h }

  -- a higher block is the highest from now on
  top-next : (top : Anchor) (t : ℕ) (b : Named B) → highest header p ≡ Some top → top.height.0 < header.height b.block
      → highest header (Came (Finalized t b) ∷ p) ≡ Some (anchor_by header b)
  top-next top t b is high =
      ap (λ (o : Option Anchor). higher header o b) is
      ∙ ap (λ (x : Bool). if x then Some (anchor_by header b) else Some top) (lt-true top.height.0 (header.height b.block) high)

  -- another one leaves it
  top-again : (top : Anchor) (t : ℕ) (b : Named B) → highest header p ≡ Some top → header.height b.block ≤ top.height.0
      → highest header (Came (Finalized t b) ∷ p) ≡ Some top
  top-again top t b is low =
      ap (λ (o : Option Anchor). higher header o b) is
      ∙ ap (λ (x : Bool). if x then Some (anchor_by header b) else Some top) (le-false top.height.0 (header.height b.block) low)

module _ {B C I P R D H G U : Type 0} (w : Workings B C I P R D H G U) (stored : ℕ → Option (Named B)) (base : w.States) (p : Past B C I)
    (m mid : Moment w) (h : IsUpAt w stored base p m) (a : IsAhead w stored base p m) (stored_now : ℕ → Option (Named B)) (counts : Counts R D H) where
  -- an event that finalizes nothing
  calm-ahead : (e : Event B C I) → IsCalmEvent w.header p e → RoundsAscend w.header w.round_of (Came e ∷ p) → LeadsAt w stored a.anchor a.now a.top a.last mid → IsAhead w stored base (Came e ∷ p) mid
  calm-ahead e c rounds waits = record {
    anchor = a.anchor;
    now = a.now;
    anchored = c.anchored ∙ a.anchored;
    folded = subst (λ (bs : List (Named B)). fold (setting w stored) (Some base) bs ≡ Some a.now) (sym c.applied_is) a.folded;
    top = a.top;
    last = a.last;
    top_is = c.top ∙ a.top_is;
    waits = waits;
    finalized = λ b was. a.finalized b (c.finalized b was);
    opened = λ start is. a.opened start (sym c.opened ∙ is);
    rounds = rounds;
  }

  module _ (names : TrueNames (setting w stored) p) (t : ℕ) (b : Named B) (rounds : RoundsAscend w.header w.round_of (Came (Finalized t b) ∷ p))
      (takes : TakesIn w stored_now counts m mid (Finalized t b)) where
    -- the next child of the highest finalized block
    next-ahead : IsNextFinal (setting w stored) (telling_of w.works) w.round_of base p b → IsAhead w stored base (Came (Finalized t b) ∷ p) mid
    next-ahead n =
        let tops : Some n.last ≡ Some a.top = sym n.is_last ∙ a.top_is in
        let same : n.last ≡ a.top = cc in
        let states : n.before ≡ a.last =
        HasState-once (setting w stored) p names base a.top.digest n.before a.last
        (subst (λ (x : Anchor). HasState (setting w stored) base p x.digest n.before) same n.has_state)
        (top-HasState w stored base p names m h.executes h.tickets a) in
        let child = subst (λ (x : Anchor). IsChildOf w.header x b) same n.child in
        let matches = subst (λ (s : w.States). Matches (setting w stored) s b n.after) states n.matches in record {
          anchor = a.anchor;
          now = a.now;
          anchored = a.anchored;
          folded = a.folded;
          top = anchor_by w.header b;
          last = n.after;
          top_is = top-next w.header p a.top t b a.top_is (omega (arith, child.0));
          waits = next-leads w stored a.anchor a.now a.top a.last stored_now counts m mid a.waits t b takes child n.after matches;
          finalized = λ c was. before c was child.0;
          opened = λ start is. let o = a.opened start is in (omega (arith, o.0, child.0), λ level. absurd (omega (arith, o.0, child.0, level)));
          rounds = rounds;
        }
      where
        before : (c : Named B) → (c ≡ b) ⊎ WasFinalized p c → w.header.height b.block ≡ a.top.height.0 + 1 → IsRedelivered w.header (anchor_by w.header b) c
        before c (inl same) high =
            subst (λ (x : Named B). IsRedelivered w.header (anchor_by w.header b) x) (sym same) (record { low = omega arith; same = λ level. refl })
        before c (inr was) high =
            let r = a.finalized c was in record { low = omega (arith, r.low); same = λ level. absurd (omega (arith, r.low, level, high)) }

    -- a block that isn't higher than the highest one
    again-ahead : IsRedelivered w.header a.top b → IsAhead w stored base (Came (Finalized t b) ∷ p) mid
    again-ahead again = record {
      anchor = a.anchor;
      now = a.now;
      anchored = a.anchored;
      folded = a.folded;
      top = a.top;
      last = a.last;
      top_is = top-again w.header p a.top t b a.top_is again.low;
      waits = again-leads w stored a.anchor a.now a.top a.last stored_now counts m mid a.waits t b takes again;
      finalized = λ c was. before c was;
      opened = a.opened;
      rounds = rounds;
    }
      where
        before : (c : Named B) → (c ≡ b) ⊎ WasFinalized p c → IsRedelivered w.header a.top c
        before c (inl same) = subst (λ (x : Named B). IsRedelivered w.header a.top x) (sym same) again
        before c (inr was) = a.finalized c was

    -- the opening's block or an ancestor of it isn't higher than the highest one
    behind-start : IsBehindStart (setting w stored) (telling_of w.works) w.round_of base p b → IsRedelivered w.header a.top b
    behind-start s = let o = a.opened s.start s.is_start in record {
      low = omega (arith, o.0, s.low);
      same = λ level.
          let start : s.start.height.0 ≡ a.top.height.0 = omega (arith, o.0, s.low, level) in
          let own : w.header.height b.block ≡ s.start.height.0 = level ∙ sym start in
          s.same own ∙ o.1 start;
    }

    finalized-ahead : MayFinalize (setting w stored) (telling_of w.works) w.round_of base p b → IsAhead w stored base (Came (Finalized t b) ∷ p) mid
    finalized-ahead (inl next) = next-ahead next
    finalized-ahead (inr (inl was)) = again-ahead (a.finalized b was)
    finalized-ahead (inr (inr start)) = again-ahead (behind-start start)

  -- a lawful event that is no restart
  came-ahead : TrueNames (setting w stored) p → (e : Event B C I) → (IsRestart e → ⊥)
      → IsLawful (setting w stored) (telling_of w.works) w.round_of base p (numbered w.kind.count) e → TakesIn w stored_now counts m mid e
      → IsAhead w stored base (Came e ∷ p) mid
  came-ahead names e on lawful takes = of e on lawful.true_of (rounds-came w.header w.round_of p a.rounds (numbered w.kind.count) e on
      (may_come-live (numbered w.kind.count) p e on lawful.may_come) (later e lawful.true_of)) takes
    where
      later : (v : Event B C I) → BringsTruth (setting w stored) (telling_of w.works) w.round_of base p v → IsLaterAsked w.header w.round_of v
      later (Prepare u context ancestry input) t = t
      later (Propose u context ancestry input) t = t
      later v t = tt

      calm : (v : Event B C I) → (IsRestart v → ⊥) → finals_by v ≡ [] → RoundsAscend w.header w.round_of (Came v ∷ p)
          → TakesIn w stored_now counts m mid v → IsAhead w stored base (Came v ∷ p) mid
      calm v off none rounds takes =
          calm-ahead v (calm-event w.header p v off none) rounds
          (intake-leads w stored a.anchor a.now a.top a.last stored_now counts m mid a.waits v none takes)

      of : (v : Event B C I) → (IsRestart v → ⊥) → BringsTruth (setting w stored) (telling_of w.works) w.round_of base p v → RoundsAscend w.header w.round_of (Came v ∷ p)
          → TakesIn w stored_now counts m mid v → IsAhead w stored base (Came v ∷ p) mid
      of (Finalized t b) off brings rounds takes = finalized-ahead names t b rounds takes brings
      of v off brings rounds takes = calm v off refl rounds takes

  -- behind such an event, with the marks that it makes
  pub ahead-taken : (e : Event B C I) → (IsRestart e → ⊥) → TrueNames (setting w stored) (Came e ∷ p)
      → IsLawful (setting w stored) (telling_of w.works) w.round_of base p (numbered w.kind.count) e → TakesIn w stored_now counts m mid e
      → (more : List (Mark B)) → mid.marks ≡ m.marks ++ more → IsAhead w stored base (after (Came e ∷ p) more) mid
  ahead-taken e on names lawful takes more marks_are =
      let came = came-ahead (λ x y mx my same. names x y (inr mx) (inr my) same) e on lawful takes in
      let made : PlainBehind w m mid = taken_in_plain w stored_now counts m mid e takes in
      let told : made.more ≡ more = append_cancel_left m.marks made.more more (sym made.marks_are ∙ marks_are) in
      subst (λ (ms : List (Mark B)). IsAhead w stored base (after (Came e ∷ p) ms) mid) told
      (ahead-marked w stored base (Came e ∷ p) made.more made.each mid mid came came.waits)
