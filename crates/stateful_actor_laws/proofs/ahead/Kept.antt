-- The finalized blocks that wait stay in their order: behind plain marks, after a rule of the loop, and after rules one after
-- another.
use Rattle.std.proofs.Common.{◌≡◌, ◌⊎◌, inl, inr, ◌++◌, ◌∷◌, [], ℕ, true, false, Option, Some, None, List, All, refl, sym, ap, ◌∙◌, subst, append_assoc, append-nil, true≢false}
use Rattle.std.proofs.lemmas.List.{append_cancel_left}
use Rattle.std.proofs.lemmas.List.Elements.{All-head, All-tail}
use Rattle.stateful_base.specs.Names.{Header, Named}
use Rattle.stateful_base.specs.Anchor.{anchor_by}
use Rattle.stateful_base.specs.declared.anchor.Anchor.{Anchor}
use Rattle.stateful_db.specs.Laws.{Laws}
use Rattle.stateful_history.specs.Anchors.{applied, anchor_of}
use Rattle.stateful_history.specs.Lawful.{highest}
use Rattle.stateful_history.specs.Opening.{opening}
use Rattle.stateful_history.specs.Past.{Past, Came, Made, after}
use Rattle.stateful_history.specs.States.{fold}
use Rattle.stateful_history.specs.Honest.{StoresFinalized}
use Rattle.stateful_history.specs.declared.mark.Mark.{Mark}
use Rattle.stateful_history.specs.declared.mark.Mark.TheVariants.{Opened, Converged, Applied}
use Rattle.stateful_history.proofs.Marks.{after-append}
use Rattle.stateful_exec_model.specs.Finalizing.{front_at}
use Rattle.stateful_exec_model.specs.Workings.{Workings}
use Rattle.stateful_exec_model.specs.declared.front.Front.{Front}
use Rattle.stateful_exec_model.specs.declared.front.Stage.TheVariants.{Begun, Ran, Advanced}
use Rattle.stateful_exec_laws.specs.Building.{BuildsTakeTurns}
use Rattle.stateful_exec_laws.specs.Fronting.{RunsTakeTurns}
use Rattle.stateful_exec_laws.specs.Setting.{setting}
use Rattle.stateful_exec_laws.specs.Storing.{IsStoredNow}
use Rattle.stateful_loop_model.specs.Moments.{Moment}
use Rattle.stateful_loop_model.specs.Rules.{IsFinalizing, HasStates, AppliesBlock, Rule, Along, none, further}
use Rattle.stateful_loop_model.specs.Sound.{IsUp, FrontAgrees}
use Rattle.stateful_loop_model.specs.declared.tables.Finalizing.{Finalizing}
use Rattle.stateful_loop_laws.specs.Behind.{UpBehind}
use Rattle.stateful_loop_laws.specs.Stands.{IsUpAt}
use Rattle.stateful_loop_laws.proofs.events.AlongUp.{rule_is_up, along-up}
use Rattle.stateful_loop_laws.proofs.execution.AnchorStands.{Executes-anchor}
use Rattle.stateful_loop_laws.proofs.media.AppliedFurther.{was_finalized-before, GrowsBy-plain}
use Rattle.stateful_loop_laws.proofs.execution.Applies.{fold_more}
use Rattle.stateful_loop_laws.proofs.duly.MarksOfRules.{rule_marks}
use Rattle.stateful_loop_laws.proofs.duly.PlainMarks.{IsPlain, RuleMade, plain, applied_one, broke_one, rule_plain}
use Rattle.stateful_actor_laws.specs.Ahead.{finals_at, LeadsUp, IsAbove, HeadIs, LeadsAt, IsAhead}
use Rattle.stateful_actor_laws.proofs.ahead.Rounds.{rounds-marked}
use Rattle.stateful_actor_laws.proofs.ahead.RulesLead.{RuleLeads, leads, applied as has_applied, rule-leads}

module _ {B C I : Type 0} (header : Header B) where
  highest_one : (q : Past B C I) (mark : Mark B) → IsPlain mark → highest header (Made mark ∷ q) ≡ highest header q
  highest_one q (Opened anchor) h = absurd h
  highest_one q mark h = refl

  -- plain marks leave the highest finalized block
  pub highest-plain : (q : Past B C I) (marks : List (Mark B)) → All IsPlain marks → highest header (after q marks) ≡ highest header q
  highest-plain q [] each = refl
  highest-plain q (mark ∷ marks) each =
      highest-plain (Made mark ∷ q) marks (All-tail IsPlain mark marks each) ∙ highest_one q mark (All-head IsPlain mark marks each)

module _ {B C I : Type 0} where
  opening_one : (q : Past B C I) (mark : Mark B) → IsPlain mark → opening (Made mark ∷ q) ≡ opening q
  opening_one q (Opened anchor) h = absurd h
  opening_one q (Converged anchor) h = absurd h
  opening_one q mark h = refl

  -- they leave the opening
  pub opening-plain : (q : Past B C I) (marks : List (Mark B)) → All IsPlain marks → opening (after q marks) ≡ opening q
  opening-plain q [] each = refl
  opening-plain q (mark ∷ marks) each =
      opening-plain (Made mark ∷ q) marks (All-tail IsPlain mark marks each) ∙ opening_one q mark (All-head IsPlain mark marks each)

module _ {B C I P R D H G U : Type 0} (w : Workings B C I P R D H G U) (stored : ℕ → Option (Named B)) (base : w.States) where
  -- behind plain marks
  pub ahead-marked : (q : Past B C I) (marks : List (Mark B)) → All IsPlain marks → (m n : Moment w) → (a : IsAhead w stored base q m)
      → LeadsAt w stored a.anchor a.now a.top a.last n → IsAhead w stored base (after q marks) n
  ahead-marked q marks each m n a waits =
      let grows = GrowsBy-plain w.header q marks each in record {
        anchor = a.anchor;
        now = a.now;
        anchored = (grows.climbs a.anchor a.anchored).1;
        folded = subst (λ (bs : List (Named B)). fold (setting w stored) (Some base) bs ≡ Some a.now)
            (sym (grows.applied_is ∙ append-nil (applied q))) a.folded;
        top = a.top;
        last = a.last;
        top_is = highest-plain w.header q marks each ∙ a.top_is;
        waits = waits;
        finalized = λ b h. a.finalized b (was_finalized-before q marks b h);
        opened = λ start is. a.opened start (sym (opening-plain q marks each) ∙ is);
        rounds = rounds-marked w.header w.round_of q marks a.rounds;
      }

  module _ (q : Past B C I) (m : Moment w) (h : IsUpAt w stored base q m) (a : IsAhead w stored base q m) where
    -- nothing is in front of execution where nothing is in front of the loop
    pub idle-front : m.loop.up ≡ true → m.loop.front ≡ None → m.execution.front ≡ None
    idle-front up is =
        let u : IsUp w m = h.sound.up up in
        subst (λ (f : Option (Finalizing B G)). FrontAgrees w m.loop.durability f m.execution.front) is u.front

    pub same-anchor : m.execution.state.anchor ≡ a.anchor
    same-anchor = let both : Some m.execution.state.anchor ≡ Some a.anchor = sym (Executes-anchor w stored base q m h.executes) ∙ a.anchored in cc

    -- a block whose batch is applied is a child of the anchor, and matches its states
    pub above-anchor : (b : Named B) → HasStates w m b → IsAbove (setting w stored) a.anchor a.now b a.waits.head a.waits.before
    above-anchor b (inl cached) = subst (λ (f : Option (Front B R U H)). HeadIs (setting w stored) a.anchor a.now f a.waits.head a.waits.before) cached.0 a.waits.front
    above-anchor b (inr ran) = subst (λ (f : Option (Front B R U H)). HeadIs (setting w stored) a.anchor a.now f a.waits.head a.waits.before) ran.1 a.waits.front

  module _ (q : Past B C I) (m now : Moment w) (h : IsUpAt w stored base q m) (a : IsAhead w stored base q m) where
    -- after the apply of the block in front
    ahead_applied : (f : Finalizing B G) → HasStates w m f.block → AppliesBlock w f m now → IsAhead w stored base (Made (Applied f.block) ∷ q) now
    ahead_applied f states r =
        let above = above-anchor q m h a f.block states in record {
          anchor = anchor_by w.header f.block;
          now = a.waits.before;
          anchored = refl;
          folded = fold_more w stored f.block (Some base) a.now (applied q) a.folded a.waits.before above.matches.step;
          top = a.top;
          last = a.last;
          top_is = a.top_is;
          waits = record {
            head = a.waits.head;
            before = a.waits.before;
            front = subst (λ (x : Option (Front B R U H)).
                HeadIs (setting w stored) (anchor_by w.header f.block) a.waits.before x a.waits.head a.waits.before)
                (sym (ap (λ (n : Moment w). n.execution.front) r.becomes ∙ r.moves.after_is))
                (record { head_is = above.head_is; before_is = refl });
            leads = subst (λ (bs : List (Named B)). LeadsUp (setting w stored) a.top a.last a.waits.head a.waits.before bs)
                (sym (ap (λ (n : Moment w). finals_at w n) r.becomes)) a.waits.leads;
          };
          finalized = a.finalized;
          opened = a.opened;
          rounds = rounds-marked w.header w.round_of q (Applied f.block ∷ []) a.rounds;
        }

    -- after a rule, as long as the machine is up
    pub ahead-rule : (stored_now : ℕ → Option (Named B)) (provider : P) → Rule w stored_now provider m now → now.loop.up ≡ true
        → (more : List (Mark B)) → now.marks ≡ m.marks ++ more → IsAhead w stored base (after q more) now
    ahead-rule stored_now provider rule up more marks_are = of (rule_plain w stored_now provider m now rule)
      where
        was_up : m.loop.up ≡ true
        was_up = rule_is_up w stored_now provider m now rule

        told : (others : List (Mark B)) → now.marks ≡ m.marks ++ others → others ≡ more
        told others are = append_cancel_left m.marks others more (sym are ∙ marks_are)

        of : RuleMade w m now → IsAhead w stored base (after q more) now
        of (plain b) = by (rule-leads w stored a.anchor a.now a.top a.last stored_now provider m now a.waits (idle-front q m h a was_up) (same-anchor q m h a) rule)
          where
            by : RuleLeads w stored a.anchor a.now a.top a.last m now → IsAhead w stored base (after q more) now
            by (leads waits) = subst (λ (ms : List (Mark B)). IsAhead w stored base (after q ms) now) (told b.more b.marks_are)
                (ahead-marked q b.more b.each m now a waits)
            by (has_applied {f = f} fin states r) =
                let is : b.more ≡ Applied f.block ∷ [] =
                append_cancel_left m.marks b.more (Applied f.block ∷ []) (sym b.marks_are ∙ ap (λ (n : Moment w). n.marks) r.becomes) in
                absurd (All-head IsPlain (Applied f.block) [] (subst (λ (ms : List (Mark B)). All IsPlain ms) is b.each))
        of (applied_one {f = f} fin states r) =
            subst (λ (ms : List (Mark B)). IsAhead w stored base (after q ms) now)
            (told (Applied f.block ∷ []) (ap (λ (n : Moment w). n.marks) r.becomes)) (ahead_applied f states r)
        of (broke_one active is) =
            let down : now.loop.up ≡ false = ap (λ (n : Moment w). n.loop.up) is in absurd (true≢false (sym up ∙ down))

  module _ (laws : Laws w.kind) (q : Past B C I) (stored_now : ℕ → Option (Named B)) (stored_is : IsStoredNow stored q stored_now) (provider : P)
      (runs_cost : RunsTakeTurns w) (builds_cost : BuildsTakeTurns w) (stores : StoresFinalized w.header stored q) where
    -- after rules, one after another, as long as the machine is up
    pub ahead-along : (m now : Moment w) → IsUpAt w stored base q m → IsAhead w stored base q m → Along w stored_now provider m now
        → now.loop.up ≡ true → (more : List (Mark B)) → now.marks ≡ m.marks ++ more → IsAhead w stored base (after q more) now
    ahead-along m _ h a none up more is =
        let nothing : [] ≡ more = append_cancel_left m.marks [] more (append-nil m.marks ∙ is) in
        subst (λ (ms : List (Mark B)). IsAhead w stored base (after q ms) m) nothing a
    ahead-along m now h a (further {mid = mid} along rule) up more is =
        let was_up : mid.loop.up ≡ true = rule_is_up w stored_now provider mid now rule in
        let one : UpBehind w stored base q m mid =
        along-up w stored base laws q stored_now stored_is provider runs_cost builds_cost stores m mid h along in
        let there : IsUpAt w stored base (after q one.more) mid = one.up was_up in
        let first : IsAhead w stored base (after q one.more) mid = ahead-along m mid h a along was_up one.more one.marks_are in
        let two = rule_marks w stored_now provider mid now rule in
        let last : IsAhead w stored base (after (after q one.more) two.more) now =
        ahead-rule (after q one.more) mid now there first stored_now provider rule up two.more two.marks_are in
        let all : one.more ++ two.more ≡ more =
        append_cancel_left m.marks (one.more ++ two.more) more
        (sym (two.marks_are ∙ ap (λ (ms : List (Mark B)). ms ++ two.more) one.marks_are ∙ append_assoc m.marks one.more two.more) ∙ is) in
        subst (λ (ms : List (Mark B)). IsAhead w stored base (after q ms) now) all
        (subst (λ (r : Past B C I). IsAhead w stored base r now) (sym (after-append q one.more two.more)) last)
