-- What the databases hold after an event that was refused: the fold over what was applied, and over blocks that it has applied.
use Rattle.std.proofs.Common.{◌≡◌, ◌⊎◌, inl, inr, ℕ, true, List, [], ◌∷◌, ◌++◌, All, Option, Some, MatchOption, sym, ap, ◌∙◌, refl, subst, append_assoc, append-nil}
use Rattle.std.proofs.lemmas.List.{append_cancel_left}
use Rattle.std.proofs.lemmas.List.Elements.{All-nil, All-cons, All-weaker, All-append}
use Rattle.stateful_base.specs.Names.{Named}
use Rattle.stateful_base.specs.declared.anchor.Anchor.{Anchor}
use Rattle.stateful_db.specs.Laws.{Laws}
use Rattle.stateful_history.specs.Anchors.{applied, anchor_of}
use Rattle.stateful_history.specs.Holding.{HasFold}
use Rattle.stateful_history.specs.Live.{names_live}
use Rattle.stateful_history.specs.Past.{Past, Came, after}
use Rattle.stateful_history.specs.Refusals.{Climbs, WasFinalized, AreFurther, HoldsFurther}
use Rattle.stateful_history.specs.States.{fold}
use Rattle.stateful_history.specs.Stops.{IsRestart}
use Rattle.stateful_history.specs.Honest.{StoresFinalized}
use Rattle.stateful_history.specs.declared.event.Event.{Event}
use Rattle.stateful_history.specs.declared.event.Event.TheVariants.{Restart}
use Rattle.stateful_history.specs.declared.mark.Mark.{Mark}
use Rattle.stateful_exec_model.specs.Workings.{Workings}
use Rattle.stateful_exec_laws.specs.Building.{BuildsTakeTurns}
use Rattle.stateful_exec_laws.specs.Fronting.{RunsTakeTurns}
use Rattle.stateful_exec_laws.specs.Setting.{setting}
use Rattle.stateful_exec_laws.specs.Storing.{IsStoredNow}
use Rattle.stateful_exec_laws.proofs.front.AnchorMoves.{IsApplied, IsAppliedOver-moves}
use Rattle.stateful_loop_model.specs.Intake.{Counts, TakesIn}
use Rattle.stateful_loop_model.specs.Left.{KeepsStates, LeavesApply, LeavesRule, keeps, applying}
use Rattle.stateful_loop_model.specs.Moments.{Moment}
use Rattle.stateful_loop_model.specs.Rules.{Quiet, Along, IsFinalizing, HasStates}
use Rattle.stateful_loop_model.specs.declared.tables.Finalizing.{Finalizing}
use Rattle.stateful_loop_laws.specs.Behind.{UpBehind}
use Rattle.stateful_loop_laws.specs.Execution.{Executes, NamesBehind}
use Rattle.stateful_loop_laws.specs.Stands.{IsUpAt}
use Rattle.stateful_loop_laws.specs.TakenBehind.{TakenBehind}
use Rattle.stateful_loop_laws.specs.Tickets.{TicketsStand}
use Rattle.stateful_loop_laws.proofs.events.AlongUp.{along-up}
use Rattle.stateful_loop_laws.proofs.execution.AnchorStands.{Executes-anchor, Executes-folded}
use Rattle.stateful_loop_laws.proofs.media.AppliedFurther.{top_of, Climbs-append, GrowsBy, GrowsBy-plain, GrowsBy-then, along-grows, front-child, front-finalized}
use Rattle.stateful_loop_laws.proofs.execution.Applies.{fold_more, over_begun}
use Rattle.stateful_loop_laws.proofs.duly.PlainMarks.{taken_in_plain}
use Rattle.stateful_loop_laws.proofs.events.RuleItems.{IsStoredNow-after}
use Rattle.stateful_loop_laws.proofs.events.TakenIn.{takes_in-up}
use Rattle.stateful_loop_laws.proofs.ways.Beside.{StoresFinalized-after}

module _ {B C I P R D H G U : Type 0} (w : Workings B C I P R D H G U) (laws : Laws w.kind) (stored : ℕ → Option (Named B)) (base : w.States)
    (q : Past B C I) (m : Moment w) (e : Executes w stored base q m) where
  -- where the databases keep their states, each that is here has its part of the fold over what was applied
  pub kept-fold : (new : w.kind.Members) → KeepsStates w m.members new → (i : ℕ)
      → HasFold (setting w stored) w.kind base (applied q) new i
  kept-fold new same i = record {
    state = e.point.1;
    folded = Executes-folded w stored base q m e;
    has = same.states i e.point.1 (laws.places.has_state m.members e.point i e.located);
  }

  module _ (new : w.kind.Members) (i : ℕ) where
    -- The database of this number, where it is here, has its part of the fold over what was applied and over these blocks, each
    -- a child of the one before, from the anchor on, and each finalized.
    pub record HoldsOn : Type 0 where
      pub blocks : List (Named B)
      pub finalized : All (λ b. WasFinalized q b) blocks
      pub climbs : Climbs w.header m.execution.state.anchor blocks
      pub has : HasFold (setting w stored) w.kind base (applied q ++ blocks) new i

    nothing : HasFold (setting w stored) w.kind base (applied q) new i → HoldsOn
    nothing has = record {
      blocks = [];
      finalized = All-nil (λ b. WasFinalized q b);
      climbs = tt;
      has = subst (λ (bs : List (Named B)). HasFold (setting w stored) w.kind base bs new i) (sym (append-nil (applied q))) has;
    }

    -- the batch of the block in front was being applied
    in_part : TicketsStand w stored q m → (f : Finalizing B G) → IsFinalizing w m f → HasStates w m f.block
        → LeavesApply w f.block m.execution m.members new → HoldsOn
    in_part tickets f fin states left =
        let o = over_begun w stored base q m f.block e states in
        let a : IsApplied w stored q e.point m.next f.block left.state left.batch =
        (IsAppliedOver-moves w stored q e.points e.point m.next m.execution.state left.state e.tables o.paused.boundary o.paused.pause_is
        o.paused.ground.names o.paused.finalizes o.retained f.block o.begun m.members m.execution.front left.front e.fronts left.batch left.captured
        left.moves).applied in
        of a (left.states e.point (a.points f.block.digest) a.rest e.located a.shows i)
      where
        of : (a : IsApplied w stored q e.point m.next f.block left.state left.batch)
            → w.kind.HasState new i e.point.1 ⊎ w.kind.HasState new i (a.points f.block.digest).1 → HoldsOn
        of a (inl before) = nothing (record {
          state = e.point.1;
          folded = Executes-folded w stored base q m e;
          has = before;
        })
        of a (inr behind) = record {
          blocks = f.block ∷ [];
          finalized = All-cons (λ b. WasFinalized q b) f.block [] (front-finalized w stored base q m e tickets f fin)
              (All-nil (λ b. WasFinalized q b));
          climbs = (front-child w stored base q m e f.block states, tt);
          has = record {
            state = (a.points f.block.digest).1;
            folded = fold_more w stored f.block (Some base) e.point.1 (applied q) (Executes-folded w stored base q m e)
                (a.points f.block.digest).1 a.matches.step;
            has = behind;
          };
        }

    -- after a rule that could go and didn't
    pub holds-on : TicketsStand w stored q m → LeavesRule w m new → HoldsOn
    holds-on tickets (keeps same) = nothing (kept-fold new same i)
    holds-on tickets (applying {f = f} fin states left) = in_part tickets f fin states left

module _ {B C I : Type 0} where
  -- an event other than a restart applies nothing
  came-applied : (header : _) (p : Past B C I) (event : Event B C I) → (IsRestart event → ⊥)
      → (applied (Came event ∷ p) ≡ applied p) × (anchor_of header (Came event ∷ p) ≡ anchor_of header p)
  came-applied header p (Restart floor keep) on = absurd (on tt)
  came-applied header p event on = (refl, refl)

module _ {B C I P R D H G U : Type 0} (w : Workings B C I P R D H G U) (laws : Laws w.kind) (stored : ℕ → Option (Named B)) (base : w.States)
    (p : Past B C I) (event : Event B C I) (on : IsRestart event → ⊥) where
  abbrev q : Past B C I
  q = Came event ∷ p

  -- the event wasn't taken in
  pub further-kept : (m : Moment w) (new : w.kind.Members) → Executes w stored base p m → KeepsStates w m.members new
      → HoldsFurther (setting w stored) w.kind base p event new
  further-kept m new e same i within =
      let came = came-applied w.header p event on in (
        [],
        record {
          finalized = All-nil (λ b. WasFinalized q b);
          climb = subst (λ (o : Option Anchor). MatchOption o ⊥ (λ anchor. Climbs w.header anchor []))
              (sym (came.1 ∙ Executes-anchor w stored base p m e)) tt;
        },
        subst (λ (bs : List (Named B)). HasFold (setting w stored) w.kind base bs new i) (sym (append-nil (applied p)))
            (kept-fold w laws stored base p m e new same i),
      )

  -- from the event on some blocks were applied, and then this is held
  further-grown : (anchor : Anchor) → anchor_of w.header p ≡ Some anchor → (r : Past B C I) (bs : List (Named B)) → GrowsBy w.header q r bs
      → (m : Moment w) (e : Executes w stored base r m) (new : w.kind.Members) (i : ℕ) → HoldsOn w laws stored base r m e new i
      → (blocks : List (Named B)) × AreFurther w.header q blocks × HasFold (setting w stored) w.kind base (applied p ++ blocks) new i
  further-grown anchor anchor_is r bs g m e new i h =
      let came = came-applied w.header p event on in
      let first : anchor_of w.header q ≡ Some anchor = came.1 ∙ anchor_is in
      let grown = g.climbs anchor first in
      let top : top_of w.header anchor bs ≡ m.execution.state.anchor =
      let both : Some (top_of w.header anchor bs) ≡ Some m.execution.state.anchor = sym grown.1 ∙ Executes-anchor w stored base r m e in search in
      let all : applied r ++ h.blocks ≡ applied p ++ (bs ++ h.blocks) =
      ap (λ (xs : List (Named B)). xs ++ h.blocks) (g.applied_is ∙ ap (λ (xs : List (Named B)). xs ++ bs) came.0) ∙ append_assoc (applied p) bs h.blocks in (
        bs ++ h.blocks,
        record {
          finalized = All-append (λ b. WasFinalized q b) bs h.blocks g.finalized
              (All-weaker (λ b. WasFinalized r b) (λ b. WasFinalized q b) g.before h.blocks h.finalized);
          climb = subst (λ (o : Option Anchor). MatchOption o ⊥ (λ a. Climbs w.header a (bs ++ h.blocks))) (sym first)
              (Climbs-append w.header anchor bs h.blocks grown.0
              (subst (λ (a : Anchor). Climbs w.header a h.blocks) (sym top) h.climbs));
        },
        subst (λ (xs : List (Named B)). HasFold (setting w stored) w.kind base xs new i) all h.has,
      )

  module _ (stored_now : ℕ → Option (Named B)) (stored_is : IsStoredNow stored p stored_now) (counts : Counts R D H) (provider : P)
      (runs_cost : RunsTakeTurns w) (builds_cost : BuildsTakeTurns w) where
    -- The event was taken in, where the store has the finalized blocks that came, or none, at their heights; rules went, one after
    -- another, and then one that could go didn't.
    pub further-left : (m mid reached : Moment w) (new : w.kind.Members) → m.loop.up ≡ true → Quiet w m → IsUpAt w stored base p m
        → names_live w.kind.count p event ≡ true → NamesBehind w stored base q m mid → StoresFinalized w.header stored q
        → TakesIn w stored_now counts m mid event → Along w stored_now provider mid reached → LeavesRule w reached new
        → HoldsFurther (setting w stored) w.kind base p event new
    further-left m mid reached new up quiet h live names stores takes along left i within =
        let taken : TakenBehind w stored base q m mid =
        takes_in-up w laws stored base p stored_now stored_is counts m mid up quiet h event on live names takes in
        let r : Past B C I = after q taken.more in
        let stored_mid : IsStoredNow stored r stored_now = IsStoredNow-after stored q stored_now stored_is taken.more taken.of_rules in
        let stores_mid : StoresFinalized w.header stored r = StoresFinalized-after w.header stored q taken.more stores in
        let b : UpBehind w stored base r mid reached =
        along-up w stored base laws r stored_now stored_mid provider runs_cost builds_cost stores_mid mid reached taken.stands along in
        let plain = taken_in_plain w stored_now counts m mid event takes in
        let same : plain.more ≡ taken.more = append_cancel_left m.marks plain.more taken.more (sym plain.marks_are ∙ taken.marks_are) in
        let first : GrowsBy w.header q r [] =
        subst (λ (marks : List (Mark B)). GrowsBy w.header q (after q marks) []) same (GrowsBy-plain w.header q plain.more plain.each) in
        let grown = along-grows w stored base laws r stored_now stored_mid provider runs_cost builds_cost stores_mid mid reached taken.stands along
        b.more b.marks_are in
        further-grown m.execution.state.anchor (Executes-anchor w stored base p m h.executes) (after r b.more) grown.0
        (GrowsBy-then w.header q r (after r b.more) [] grown.0 first grown.1) reached b.executes new i
        (holds-on w laws stored base (after r b.more) reached b.executes new i b.tickets left)
