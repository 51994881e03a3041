-- What the media keep is kept after each rule of the loop, and after each event that is taken in.
use Rattle.std.proofs.Common.{◌≡◌, ◌≤◌, ◌⊎◌, ◌∷◌, [], inl, inr, ℕ, true, false, List, All, Option, Some, None, sym, ap, ◌∙◌, subst, arith}
use Rattle.std.proofs.lemmas.List.{append_cancel_left}
use Rattle.stateful_base.specs.Anchor.{anchor_by}
use Rattle.stateful_base.specs.Names.{Named}
use Rattle.stateful_base.specs.declared.anchor.Anchor.{Anchor}
use Rattle.stateful_db.specs.Databases.{Preserves}
use Rattle.stateful_db.specs.Laws.{Laws}
use Rattle.stateful_durability.specs.Durability.{Coverage}
use Rattle.stateful_history.specs.Durable.{durable}
use Rattle.stateful_history.specs.Opening.{opening}
use Rattle.stateful_history.specs.Past.{Past, Came, Made, EachMark, after}
use Rattle.stateful_history.specs.Restarts.{WasReached}
use Rattle.stateful_history.specs.Stops.{IsRestart}
use Rattle.stateful_history.specs.declared.event.Event.{Event}
use Rattle.stateful_history.specs.declared.mark.Mark.{Mark}
use Rattle.stateful_history.specs.declared.mark.Mark.TheVariants.{BarrierDone}
use Rattle.stateful_exec_model.specs.Workings.{Workings}
use Rattle.stateful_exec_laws.proofs.front.Left.{begun-Met}
use Rattle.stateful_exec_laws.specs.Setting.{setting}
use Rattle.stateful_loop_model.proofs.Leaving.{Preserves-same}
use Rattle.stateful_loop_model.specs.Intake.{Counts, TakesIn}
use Rattle.stateful_loop_model.specs.Moments.{Moment}
use Rattle.stateful_loop_model.specs.Rules.{IsFinalizing, HasStates, AppliesBlock, Rule}
use Rattle.stateful_loop_model.specs.declared.tables.Finalizing.{Finalizing}
use Rattle.stateful_loop_laws.specs.Behind.{UpBehind}
use Rattle.stateful_loop_laws.specs.Durability.{IsDurablySaid}
use Rattle.stateful_loop_laws.specs.Media.{KeepsDurably, targets_of, KeepsReopenable, KeepsHeights, MediaKept}
use Rattle.stateful_loop_laws.specs.RuleMarks.{IsOfRule}
use Rattle.stateful_loop_laws.specs.Stands.{LoopStands, IsUpAt}
use Rattle.stateful_loop_laws.specs.TakenBehind.{TakenBehind}
use Rattle.stateful_loop_laws.proofs.events.AlongUp.{rule_is_up}
use Rattle.stateful_loop_laws.proofs.execution.AnchorStands.{Executes-anchor}
use Rattle.stateful_loop_laws.proofs.media.AppliedFurther.{front-child}
use Rattle.stateful_loop_laws.proofs.execution.Applies.{IsAppliedBehind, Executes-applies, over_begun}
use Rattle.stateful_loop_laws.proofs.execution.Opens.{stored-Met}
use Rattle.stateful_loop_laws.proofs.media.Changes.{RuleChanges, still, barrier, applied_one, broke_one, rule-changes, HasSameHeights, TakenChanges, same, flushed_one, taken-changes}
use Rattle.stateful_loop_laws.proofs.media.Kept.{KeepsDurably-preserved, KeepsHeights-preserved, KeepsHeights-applied, KeepsDurably-height}
use Rattle.stateful_loop_laws.proofs.media.Reaching.{unopened-none, reached-came, opening-came, reached-after}
use Rattle.stateful_loop_laws.proofs.events.RuleItems.{opening-after}

module _ {B C I P R D H G U : Type 0} (w : Workings B C I P R D H G U) (stored : ℕ → Option (Named B)) where
  -- What can be opened again after marks that keep the rules could be before, or is durable now.
  module _ (base : w.States) (p : Past B C I) (more : List (Mark B)) (first : Anchor) (opened : opening p ≡ Some first)
      (of_rules : All IsOfRule more) (said : EachMark (IsDurablySaid w) p more) (old : w.kind.Members) (now : Moment w)
      (keeps : Preserves w.kind old now.members) (before : KeepsReopenable w stored p old)
      (heights : KeepsHeights w stored (opening (after p more)) now.execution.state.anchor now.members)
      (loop : LoopStands w stored base (after p more) now) (near : durable (after p more) ≤ now.execution.state.anchor.height.0) where
    pub reopenable-behind : KeepsReopenable w stored (after p more) now.members
    reopenable-behind q i b (inr none) is within =
        let closed : opening (after p more) ≡ None = unopened-none (after p more) none.0 in
        let open_is : opening (after p more) ≡ Some first = opening-after p more of_rules ∙ opened in cc
    reopenable-behind q i b (inl reached) is within = go (reached-after w q p more first of_rules said opened reached)
      where
        first_is : loop.first ≡ first
        first_is = let one = loop.keeping.opened in let two : opening (after p more) ≡ Some first = opening-after p more of_rules ∙ opened in search

        go : WasReached q p ⊎ ((first.height.0 ≤ q) × (q ≤ durable (after p more))) → KeepsDurably w.kind now.members (targets_of w stored b) i
        go (inl there) =
            KeepsDurably-preserved w.kind old now.members keeps (targets_of w stored b) i within (before q i b (inl there) is within)
        go (inr own) =
            let low : loop.first.height.0 ≤ q = subst (λ (a : Anchor). a.height.0 ≤ q) (sym first_is) own.0 in
            let high : q ≤ now.execution.state.anchor.height.0 = omega (arith, own.1, near) in
            KeepsDurably-height w stored base (after p more) now.execution.state.anchor loop.first now.members loop.origin loop.keeping q i b low own.1
            high within (heights loop.first q i b loop.keeping.opened low high is within)

  -- what is durable was applied
  durable_applied : (base : w.States) (p : Past B C I) (m : Moment w) → m.loop.up ≡ true → IsUpAt w stored base p m
      → durable p ≤ m.execution.state.anchor.height.0
  durable_applied base p m up h =
      let order = h.in_order.durable in
      let top = (h.sound.up up).applied in
      omega (arith, order, top, h.loop.durable_is)

module _ {B C I P R D H G U : Type 0} (w : Workings B C I P R D H G U) (laws : Laws w.kind) (stored : ℕ → Option (Named B)) (base : w.States)
    (p : Past B C I) (m now : Moment w) (h : IsUpAt w stored base p m) (stored_now : ℕ → Option (Named B)) (provider : P)
    (rule : Rule w stored_now provider m now) (b : UpBehind w stored base p m now) (k : MediaKept w stored p m.execution.state.anchor m.members) where
  up : m.loop.up ≡ true
  up = rule_is_up w stored_now provider m now rule

  opening_is : opening (after p b.more) ≡ opening p
  opening_is = opening-after p b.more b.of_rules

  abbrev HeightsBehind : Type 0
  HeightsBehind = KeepsHeights w stored (opening (after p b.more)) now.execution.state.anchor now.members

  heights_of : (anchor : Anchor) → anchor ≡ now.execution.state.anchor → (new : w.kind.Members) → new ≡ now.members
      → KeepsHeights w stored (opening p) anchor new → HeightsBehind
  heights_of anchor anchor_is new new_is heights =
      subst (λ (o : Option Anchor). KeepsHeights w stored o now.execution.state.anchor now.members) (sym opening_is)
      (subst (λ (a : Anchor). KeepsHeights w stored (opening p) a now.members) anchor_is
      (subst (λ (x : w.kind.Members). KeepsHeights w stored (opening p) anchor x) new_is heights))

  -- the machine is up after the rule
  behind_up : now.loop.up ≡ true → Preserves w.kind m.members now.members → HeightsBehind
      → MediaKept w stored (after p b.more) now.execution.state.anchor now.members
  behind_up up_now keeps heights =
      let u : IsUpAt w stored base (after p b.more) now = b.up up_now in
      record {
        reopenable = reopenable-behind w stored base p b.more h.loop.first h.loop.keeping.opened b.of_rules b.said m.members now keeps k.reopenable
            heights u.loop (durable_applied w stored base (after p b.more) now up_now u);
        heights = heights;
      }

  -- a block is applied
  module _ (f : Finalizing B G) (fin : IsFinalizing w m f) (states : HasStates w m f.block) (r : AppliesBlock w f m now) where
    a : IsAppliedBehind w laws stored base p m now f r
    a = Executes-applies w laws stored base p m now f r h.executes fin states

    up_applied : now.loop.up ≡ true
    up_applied = ap (λ (n : Moment w). n.loop.up) r.becomes ∙ up

    -- where the store has a block of its height, it is this one
    own : (c : Named B) → stored (w.header.height f.block.block) ≡ Some c → c ≡ f.block
    own c is =
        let o = over_begun w stored base p m f.block h.executes states in
        let u : IsUpAt w stored base (after p b.more) now = b.up up_applied in
        let at : stored now.execution.state.anchor.height.0 ≡ Some c =
        subst (λ (x : Anchor). stored x.height.0 ≡ Some c) (sym a.anchor_is) is in
        let digest : c.digest ≡ f.block.digest =
        u.ways.stores now.execution.state.anchor c (Executes-anchor w stored base (after p b.more) now u.executes) at
        ∙ ap (λ (x : Anchor). x.digest) a.anchor_is in
        o.paused.ground.names c f.block (stored-Met (setting w stored) p (w.header.height f.block.block) c is)
        (begun-Met (setting w stored) p f.block o.begun.begun_is) digest

    applied_media : MediaKept w stored (after p b.more) now.execution.state.anchor now.members
    applied_media = behind_up up_applied
        (subst (λ (x : w.kind.Members). Preserves w.kind m.members x) (sym a.members_are) (laws.apply.preserves_applied m.members a.q))
        (heights_of (anchor_by w.header f.block) (sym a.anchor_is) (w.kind.applied m.members a.q) (sym a.members_are)
        (KeepsHeights-applied w stored (opening p) m.execution.state.anchor laws m.members f.block a.point a.q a.located a.matches.targets
        (front-child w stored base p m h.executes f.block states).0 own k.heights))

  -- what the media keep is kept after a rule
  pub rule-media : MediaKept w stored (after p b.more) now.execution.state.anchor now.members
  rule-media = of (rule-changes w stored_now provider m now rule)
    where
      of : RuleChanges w m now → MediaKept w stored (after p b.more) now.execution.state.anchor now.members
      of (still s) = behind_up (s.up ∙ up) (Preserves-same w.kind laws m.members now.members s.members)
          (heights_of m.execution.state.anchor (sym s.anchor) m.members (sym s.members) k.heights)
      of (barrier members anchor same_up) = behind_up (same_up ∙ up)
          (subst (λ (x : w.kind.Members). Preserves w.kind m.members x) (sym members) (laws.finalize.preserves_finalized m.members))
          (heights_of m.execution.state.anchor (sym anchor) (w.kind.finalized m.members) (sym members)
          (KeepsHeights-preserved w stored (opening p) m.execution.state.anchor m.members (w.kind.finalized m.members)
          (laws.finalize.preserves_finalized m.members) (λ i within. laws.finalize.place_finalized m.members i) k.heights))
      of (applied_one {f = f} fin states r) = applied_media f fin states r
      of (broke_one active is) =
          let done : Mark B = BarrierDone active.number active.height false in
          let marks : done ∷ [] ≡ b.more =
          append_cancel_left m.marks (done ∷ []) b.more (sym (ap (λ (n : Moment w). n.marks) is) ∙ b.marks_are) in
          subst (λ (ms : List (Mark B)). MediaKept w stored (after p ms) now.execution.state.anchor now.members) marks
          (subst (λ (n : Moment w). MediaKept w stored (Made done ∷ p) n.execution.state.anchor n.members) (sym is)
          (record { reopenable = k.reopenable; heights = k.heights }))

module _ {B C I P R D H G U : Type 0} (w : Workings B C I P R D H G U) (laws : Laws w.kind) (stored : ℕ → Option (Named B)) (base : w.States)
    (p : Past B C I) (m mid : Moment w) (up : m.loop.up ≡ true) (h : IsUpAt w stored base p m) (e : Event B C I) (on : IsRestart e → ⊥)
    (t : TakenBehind w stored base (Came e ∷ p) m mid) (k : MediaKept w stored p m.execution.state.anchor m.members) where
  abbrev q : Past B C I
  q = Came e ∷ p

  opened_came : opening (Came e ∷ p) ≡ Some h.loop.first
  opened_came = opening-came p e on ∙ h.loop.keeping.opened

  before : KeepsReopenable w stored q m.members
  before n i b (inl reached) is within = k.reopenable n i b (inl ((reached-came n p e on).0 reached)) is within
  before n i b (inr none) is within = k.reopenable n i b (inr none) is within

  start_is : opening (after q t.more) ≡ opening p
  start_is = opening-after q t.more t.of_rules ∙ opening-came p e on

  taken_media : HasSameHeights w m mid → Preserves w.kind m.members mid.members
      → KeepsHeights w stored (opening p) m.execution.state.anchor mid.members
      → MediaKept w stored (after q t.more) mid.execution.state.anchor mid.members
  taken_media s keeps there =
      let heights : KeepsHeights w stored (opening (after q t.more)) mid.execution.state.anchor mid.members =
      subst (λ (o : Option Anchor). KeepsHeights w stored o mid.execution.state.anchor mid.members) (sym start_is)
      (subst (λ (a : Anchor). KeepsHeights w stored (opening p) a mid.members) (sym s.anchor) there) in
      let order : m.loop.durability.durable ≤ m.loop.durability.applied = h.in_order.durable in
      let top : m.loop.durability.applied ≡ m.execution.state.anchor.height.0 = (h.sound.up up).applied in
      let now_durable : mid.loop.durability.durable ≡ m.loop.durability.durable = ap (λ (c : Coverage). c.durable) s.durability in
      let is : mid.loop.durability.durable ≡ durable (after q t.more) = t.stands.loop.durable_is in
      let anchor : mid.execution.state.anchor.height.0 ≡ m.execution.state.anchor.height.0 = ap (λ (a : Anchor). a.height.0) s.anchor in
      let near : durable (after q t.more) ≤ mid.execution.state.anchor.height.0 = omega (arith, order, top, now_durable, is, anchor) in
      record {
        reopenable = reopenable-behind w stored base q t.more h.loop.first opened_came t.of_rules t.said m.members mid keeps before heights
            t.stands.loop near;
        heights = heights;
      }

  -- what the media keep is kept after an event that is taken in
  pub taken-media : (stored_now : ℕ → Option (Named B)) (counts : Counts R D H) → TakesIn w stored_now counts m mid e
      → MediaKept w stored (after q t.more) mid.execution.state.anchor mid.members
  taken-media stored_now counts takes = of (taken-changes w stored_now counts m mid e takes)
    where
      of : TakenChanges w m mid → MediaKept w stored (after q t.more) mid.execution.state.anchor mid.members
      of (same s members) = taken_media s (Preserves-same w.kind laws m.members mid.members members)
          (subst (λ (x : w.kind.Members). KeepsHeights w stored (opening p) m.execution.state.anchor x) (sym members) k.heights)
      of (flushed_one s i place members) = taken_media s
          (subst (λ (x : w.kind.Members). Preserves w.kind m.members x) (sym members) (laws.flush.preserves_flushed m.members i place))
          (subst (λ (x : w.kind.Members). KeepsHeights w stored (opening p) m.execution.state.anchor x) (sym members)
          (KeepsHeights-preserved w stored (opening p) m.execution.state.anchor m.members (w.kind.flushed m.members i place)
          (laws.flush.preserves_flushed m.members i place) (λ n within. laws.flush.place_flushed m.members i place n) k.heights))
