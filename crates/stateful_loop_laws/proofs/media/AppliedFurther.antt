-- Which blocks rules of the loop apply, one after another: each is a child of the anchor before it, and was finalized.
use Rattle.std.proofs.Common.{◌≡◌, ◌⊎◌, ⊎_elim, inl, inr, ℕ, Bool, true, false, if◌then◌else◌, List, [], ◌∷◌, ◌++◌, All, Option, Some, refl, sym, ap, ◌∙◌, subst, append_assoc, append-nil}
use Rattle.std.specs.Prelude.{◌==◌, IfSome}
use Rattle.std.proofs.lemmas.List.{append_cancel_left}
use Rattle.std.proofs.lemmas.List.Elements.{All-nil, All-cons, All-head, All-tail, All-weaker, All-append}
use Rattle.stateful_base.specs.Anchor.{anchor_by}
use Rattle.stateful_base.specs.Names.{Header, Named}
use Rattle.stateful_base.specs.declared.anchor.Anchor.{Anchor}
use Rattle.stateful_db.specs.Laws.{Laws}
use Rattle.stateful_history.specs.Anchors.{applied, anchor_of}
use Rattle.stateful_history.specs.Finalizations.{IsChildOf, finalized_since}
use Rattle.stateful_history.specs.Past.{Past, Came, Made, after}
use Rattle.stateful_history.specs.Refusals.{Climbs, WasFinalized}
use Rattle.stateful_history.specs.Requests.{IsLiveReceipt}
use Rattle.stateful_history.specs.Honest.{StoresFinalized}
use Rattle.stateful_history.specs.declared.event.Event.TheVariants.{Finalized, Restart}
use Rattle.stateful_history.specs.declared.mark.Mark.{Mark}
use Rattle.stateful_history.specs.declared.mark.Mark.TheVariants.{Opened, Converged, Applied, BarrierDone}
use Rattle.stateful_history.proofs.Marks.{after-append}
use Rattle.stateful_exec_model.specs.Workings.{Workings}
use Rattle.stateful_exec_laws.specs.Building.{BuildsTakeTurns}
use Rattle.stateful_exec_laws.specs.Fronting.{RunsTakeTurns}
use Rattle.stateful_exec_laws.specs.Storing.{IsStoredNow}
use Rattle.stateful_loop_model.specs.Moments.{Moment}
use Rattle.stateful_loop_model.specs.Rules.{IsFinalizing, HasStates, Rule, Along, none, further}
use Rattle.stateful_loop_model.specs.declared.tables.Finalizing.{Finalizing}
use Rattle.stateful_loop_laws.specs.Behind.{UpBehind}
use Rattle.stateful_loop_laws.specs.Execution.{Executes}
use Rattle.stateful_loop_laws.specs.Stands.{IsUpAt}
use Rattle.stateful_loop_laws.specs.Tickets.{TicketsStand}
use Rattle.stateful_loop_laws.proofs.events.AlongUp.{rule_is_up, along-up}
use Rattle.stateful_loop_laws.proofs.execution.AnchorStands.{Executes-anchor}
use Rattle.stateful_loop_laws.proofs.execution.Applies.{over_begun}
use Rattle.stateful_loop_laws.proofs.duly.MarksOfRules.{rule_marks}
use Rattle.stateful_loop_laws.proofs.duly.PlainMarks.{IsPlain, RuleMade, plain, applied_one, broke_one, rule_plain}

module _ {B : Type 0} where
  if_some : (t : Bool) (b c : Named B) (rest : Option (Named B)) → (if t then Some c else rest) ≡ Some b → (b ≡ c) ⊎ (rest ≡ Some b)
  if_some true b c rest is = inl (search)
  if_some false b c rest is = inr is

module _ {B C I : Type 0} where
  -- what was finalized under a ticket was finalized
  pub was_finalized-since : (t : ℕ) (p : Past B C I) (b : Named B) → finalized_since t p ≡ Some b → WasFinalized p b
  was_finalized-since t [] b is = cc
  was_finalized-since t (Came (Restart floor keep) ∷ p) b is = cc
  was_finalized-since t (Came (Finalized u c) ∷ p) b is =
      ⊎_elim (λ same. inl same) (λ before. inr (was_finalized-since t p b before)) (if_some (t == u) b c (finalized_since t p) is)
  was_finalized-since t (item ∷ p) b is = was_finalized-since t p b is

  -- marks finalize nothing
  pub was_finalized-before : (p : Past B C I) (marks : List (Mark B)) (b : Named B) → WasFinalized (after p marks) b → WasFinalized p b
  was_finalized-before p [] b h = h
  was_finalized-before p (mark ∷ marks) b h = was_finalized-before (Made mark ∷ p) marks b h

module _ {B : Type 0} (header : Header B) where
  -- the last of these blocks, as an anchor, or this one
  abbrev pub top_of : Anchor → List (Named B) → Anchor
  top_of anchor [] = anchor
  top_of anchor (b ∷ bs) = top_of (anchor_by header b) bs

  pub top_of-append : (anchor : Anchor) (bs cs : List (Named B)) → top_of anchor (bs ++ cs) ≡ top_of (top_of anchor bs) cs
  top_of-append anchor [] cs = refl
  top_of-append anchor (b ∷ bs) cs = top_of-append (anchor_by header b) bs cs

  pub Climbs-append : (anchor : Anchor) (bs cs : List (Named B)) → Climbs header anchor bs → Climbs header (top_of anchor bs) cs
      → Climbs header anchor (bs ++ cs)
  Climbs-append anchor [] cs h k = k
  Climbs-append anchor (b ∷ bs) cs h k = (h.0, Climbs-append (anchor_by header b) bs cs h.1 k)

  module _ {C I : Type 0} where
    -- From one past to a later one these blocks are applied, one child behind another from the anchor on, and each was finalized
    -- before. Nothing else was finalized.
    pub record GrowsBy (q r : Past B C I) (blocks : List (Named B)) : Type 0 where
      pub applied_is : applied r ≡ applied q ++ blocks
      pub finalized : All (λ b. WasFinalized q b) blocks
      pub climbs : (anchor : Anchor) → anchor_of header q ≡ Some anchor
          → Climbs header anchor blocks × (anchor_of header r ≡ Some (top_of anchor blocks))
      pub before : (b : Named B) → WasFinalized r b → WasFinalized q b

    -- what is applied is as it was
    pub GrowsBy-none : (q r : Past B C I) → applied r ≡ applied q → anchor_of header r ≡ anchor_of header q
        → ((b : Named B) → WasFinalized r b → WasFinalized q b) → GrowsBy q r []
    GrowsBy-none q r same anchor before = record {
      applied_is = same ∙ sym (append-nil (applied q));
      finalized = All-nil (λ b. WasFinalized q b);
      climbs = λ a is. (tt, anchor ∙ is);
      before = before;
    }

    -- some are applied, and then others
    pub GrowsBy-then : (q r s : Past B C I) (bs cs : List (Named B)) → GrowsBy q r bs → GrowsBy r s cs → GrowsBy q s (bs ++ cs)
    GrowsBy-then q r s bs cs one two = record {
      applied_is = two.applied_is ∙ ap (λ (xs : List (Named B)). xs ++ cs) one.applied_is ∙ append_assoc (applied q) bs cs;
      finalized = All-append (λ b. WasFinalized q b) bs cs one.finalized
          (All-weaker (λ b. WasFinalized r b) (λ b. WasFinalized q b) one.before cs two.finalized);
      climbs = λ a is.
          let first = one.climbs a is in
          let last = two.climbs (top_of a bs) first.1 in
          (Climbs-append a bs cs first.0 last.0, last.1 ∙ ap (λ (x : Anchor). Some x) (sym (top_of-append a bs cs)));
      before = λ b h. one.before b (two.before b h);
    }

    -- a child of the anchor is applied
    GrowsBy-one : (q : Past B C I) (anchor : Anchor) (b : Named B) → anchor_of header q ≡ Some anchor → IsChildOf header anchor b
        → WasFinalized q b → GrowsBy q (Made (Applied b) ∷ q) (b ∷ [])
    GrowsBy-one q anchor b is child finalized = record {
      applied_is = refl;
      finalized = All-cons (λ c. WasFinalized q c) b [] finalized (All-nil (λ c. WasFinalized q c));
      climbs = λ a own. let same : anchor ≡ a = search in ((subst (λ (x : Anchor). IsChildOf header x b) same child, tt), refl);
      before = λ c h. h;
    }

    plain_mark : (q : Past B C I) (mark : Mark B) → IsPlain mark
        → (applied (Made mark ∷ q) ≡ applied q) × (anchor_of header (Made mark ∷ q) ≡ anchor_of header q)
    plain_mark q (Applied b) h = absurd h
    plain_mark q (Opened anchor) h = absurd h
    plain_mark q (Converged anchor) h = absurd h
    plain_mark q mark h = (refl, refl)

    -- plain marks apply nothing
    pub GrowsBy-plain : (q : Past B C I) (marks : List (Mark B)) → All IsPlain marks → GrowsBy q (after q marks) []
    GrowsBy-plain q marks each = let same = of q marks each in GrowsBy-none q (after q marks) same.0 same.1 (was_finalized-before q marks)
      where
        of : (q : Past B C I) (marks : List (Mark B)) → All IsPlain marks
            → (applied (after q marks) ≡ applied q) × (anchor_of header (after q marks) ≡ anchor_of header q)
        of q [] each = (refl, refl)
        of q (mark ∷ marks) each =
            let one = plain_mark q mark (All-head IsPlain mark marks each) in
            let rest = of (Made mark ∷ q) marks (All-tail IsPlain mark marks each) in
            (rest.0 ∙ one.0, rest.1 ∙ one.1)

module _ {B C I P R D H G U : Type 0} (w : Workings B C I P R D H G U) where
  -- from one moment to a later one some blocks are applied so
  abbrev pub Grows : Past B C I → (m now : Moment w) → Type 0
  Grows q m now = (more : List (Mark B)) → now.marks ≡ m.marks ++ more → (blocks : List (Named B)) × GrowsBy w.header q (after q more) blocks

  -- whichever way the marks are told
  grows_of : (q : Past B C I) (m now : Moment w) (more : List (Mark B)) (blocks : List (Named B)) → now.marks ≡ m.marks ++ more
      → GrowsBy w.header q (after q more) blocks → Grows q m now
  grows_of q m now more blocks is grows others are = (
    blocks,
    subst (λ (marks : List (Mark B)). GrowsBy w.header q (after q marks) blocks) (append_cancel_left m.marks more others (sym is ∙ are)) grows,
  )

module _ {B C I P R D H G U : Type 0} (w : Workings B C I P R D H G U) (stored : ℕ → Option (Named B)) (base : w.States) (q : Past B C I)
    (m : Moment w) (e : Executes w stored base q m) where
  -- a finalized block that has states is a child of the anchor
  pub front-child : (b : Named B) → HasStates w m b → IsChildOf w.header m.execution.state.anchor b
  front-child b states = (over_begun w stored base q m b e states).paused.ground.child

  -- the block in front was finalized
  pub front-finalized : TicketsStand w stored q m → (f : Finalizing B G) → IsFinalizing w m f → WasFinalized q f.block
  front-finalized tickets f fin =
      was_finalized-since f.ticket q f.block
      (subst (λ (o : Option (Finalizing B G)). IfSome o (λ g. IsLiveReceipt g.ticket q × (finalized_since g.ticket q ≡ Some g.block))) fin.2 tickets.front).1

module _ {B C I P R D H G U : Type 0} (w : Workings B C I P R D H G U) (stored : ℕ → Option (Named B)) (base : w.States) where
  -- a rule applies one such block, or none
  rule-grows : (q : Past B C I) (m now : Moment w) → IsUpAt w stored base q m → (stored_now : ℕ → Option (Named B)) (provider : P)
      → Rule w stored_now provider m now → Grows w q m now
  rule-grows q m now h stored_now provider rule = of (rule_plain w stored_now provider m now rule)
    where
      of : RuleMade w m now → Grows w q m now
      of (plain b) = grows_of w q m now b.more [] b.marks_are (GrowsBy-plain w.header q b.more b.each)
      of (applied_one {f = f} fin states r) =
          grows_of w q m now (Applied f.block ∷ []) (f.block ∷ []) (ap (λ (n : Moment w). n.marks) r.becomes)
          (GrowsBy-one w.header q m.execution.state.anchor f.block (Executes-anchor w stored base q m h.executes)
          (front-child w stored base q m h.executes f.block states) (front-finalized w stored base q m h.executes h.tickets f fin))
      of (broke_one active is) =
          grows_of w q m now (BarrierDone active.number active.height false ∷ []) [] (ap (λ (n : Moment w). n.marks) is)
          (GrowsBy-none w.header q (Made (BarrierDone active.number active.height false) ∷ q) refl refl (λ b h. h))

  module _ (laws : Laws w.kind) (q : Past B C I) (stored_now : ℕ → Option (Named B)) (stored_is : IsStoredNow stored q stored_now) (provider : P)
      (runs_cost : RunsTakeTurns w) (builds_cost : BuildsTakeTurns w) (stores : StoresFinalized w.header stored q) where
    -- rules, one after another
    pub along-grows : (m now : Moment w) → IsUpAt w stored base q m → Along w stored_now provider m now → Grows w q m now
    along-grows m _ h none = grows_of w q m m [] [] (sym (append-nil m.marks)) (GrowsBy-none w.header q q refl refl (λ b h. h))
    along-grows m now h (further {mid = mid} along rule) =
        let one : UpBehind w stored base q m mid =
        along-up w stored base laws q stored_now stored_is provider runs_cost builds_cost stores m mid h along in
        let there : IsUpAt w stored base (after q one.more) mid = one.up (rule_is_up w stored_now provider mid now rule) in
        let first = along-grows m mid h along one.more one.marks_are in
        let two = rule_marks w stored_now provider mid now rule in
        let last = rule-grows (after q one.more) mid now there stored_now provider rule two.more two.marks_are in
        grows_of w q m now (one.more ++ two.more) (first.0 ++ last.0)
        (two.marks_are ∙ ap (λ (marks : List (Mark B)). marks ++ two.more) one.marks_are ∙ append_assoc m.marks one.more two.more)
        (subst (λ (r : Past B C I). GrowsBy w.header q r (first.0 ++ last.0)) (sym (after-append q one.more two.more))
        (GrowsBy-then w.header q (after q one.more) (after (after q one.more) two.more) first.0 last.0 first.1 last.1))
