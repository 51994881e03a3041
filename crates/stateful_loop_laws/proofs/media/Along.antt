-- What the media keep is kept over rules, one after another, over whole events, and after an event that was refused.
use Rattle.std.proofs.Common.{◌≡◌, ◌<◌, ◌^◌, ◌++◌, ◌∷◌, [], ℕ, true, List, Option, sym, ap, ◌∙◌, subst, append_assoc, append-nil}
use Rattle.std.proofs.lemmas.List.{append_cancel_left}
use Rattle.stateful_base.specs.Names.{Named}
use Rattle.stateful_db.specs.Databases.{Preserves}
use Rattle.stateful_db.specs.Laws.{Laws}
use Rattle.stateful_history.specs.Live.{names_live}
use Rattle.stateful_history.specs.Past.{Past, Came, after}
use Rattle.stateful_history.specs.Stops.{IsRestart}
use Rattle.stateful_history.specs.Honest.{StoresFinalized}
use Rattle.stateful_history.specs.declared.event.Event.{Event}
use Rattle.stateful_history.specs.declared.mark.Mark.{Mark}
use Rattle.stateful_history.proofs.Marks.{after-append}
use Rattle.stateful_exec_model.specs.Workings.{Workings}
use Rattle.stateful_exec_laws.proofs.front.AnchorMoves.{IsApplied, IsAppliedOver-moves}
use Rattle.stateful_exec_laws.specs.Building.{BuildsTakeTurns}
use Rattle.stateful_exec_laws.specs.Fronting.{RunsTakeTurns}
use Rattle.stateful_exec_laws.specs.Storing.{IsStoredNow}
use Rattle.stateful_loop_model.specs.Intake.{Counts, TakesIn}
use Rattle.stateful_loop_model.specs.Left.{KeepsStates, LeavesRule, keeps, applying}
use Rattle.stateful_loop_model.specs.Moments.{Moment}
use Rattle.stateful_loop_model.specs.Rules.{Quiet, Along, none, further}
use Rattle.stateful_loop_laws.specs.Behind.{UpBehind}
use Rattle.stateful_loop_laws.specs.Execution.{Executes, NamesBehind}
use Rattle.stateful_loop_laws.specs.Media.{KeepsReopenable, MediaKept}
use Rattle.stateful_loop_laws.specs.Stands.{IsUpAt}
use Rattle.stateful_loop_laws.specs.TakenBehind.{TakenBehind}
use Rattle.stateful_loop_laws.proofs.events.AlongUp.{along-up, rule_is_up}
use Rattle.stateful_loop_laws.proofs.execution.Applies.{over_begun}
use Rattle.stateful_loop_laws.proofs.media.Kept.{KeepsReopenable-preserved}
use Rattle.stateful_loop_laws.proofs.media.Rules.{rule-media, taken-media}
use Rattle.stateful_loop_laws.proofs.media.Reaching.{CanReopen-came, CanReopen-after}
use Rattle.stateful_loop_laws.proofs.events.RuleItems.{IsStoredNow-after}
use Rattle.stateful_loop_laws.proofs.events.RuleUp.{rule-up}
use Rattle.stateful_loop_laws.proofs.events.TakenIn.{takes_in-up}
use Rattle.stateful_loop_laws.proofs.ways.Beside.{StoresFinalized-after}

module _ {B C I P R D H G U : Type 0} (w : Workings B C I P R D H G U) (laws : Laws w.kind) (stored : ℕ → Option (Named B)) (base : w.States) where
  -- with whatever marks were made, which the moments tell
  media_marks : (p : Past B C I) (m now : Moment w) (more others : List (Mark B)) → now.marks ≡ m.marks ++ more → now.marks ≡ m.marks ++ others
      → MediaKept w stored (after p more) now.execution.state.anchor now.members
      → MediaKept w stored (after p others) now.execution.state.anchor now.members
  media_marks p m now more others is are k =
      subst (λ (ms : List (Mark B)). MediaKept w stored (after p ms) now.execution.state.anchor now.members)
      (append_cancel_left m.marks more others (sym is ∙ are)) k

  module _ (p : Past B C I) (stored_now : ℕ → Option (Named B)) (stored_is : IsStoredNow stored p stored_now) (provider : P)
      (runs_cost : RunsTakeTurns w) (builds_cost : BuildsTakeTurns w) (stores : StoresFinalized w.header stored p) where
    -- over rules, one after another
    pub along-media : (m now : Moment w) → IsUpAt w stored base p m → MediaKept w stored p m.execution.state.anchor m.members
        → Along w stored_now provider m now → (more : List (Mark B)) → now.marks ≡ m.marks ++ more
        → MediaKept w stored (after p more) now.execution.state.anchor now.members
    along-media m _ h k none more are = media_marks p m m [] more (sym (append-nil m.marks)) are k
    along-media m now h k (further {mid = mid} along rule) more are =
        let one : UpBehind w stored base p m mid =
        along-up w stored base laws p stored_now stored_is provider runs_cost builds_cost stores m mid h along in
        let there : IsUpAt w stored base (after p one.more) mid = one.up (rule_is_up w stored_now provider mid now rule) in
        let kept : MediaKept w stored (after p one.more) mid.execution.state.anchor mid.members =
        along-media m mid h k along one.more one.marks_are in
        let two : UpBehind w stored base (after p one.more) mid now =
        rule-up w laws stored base (after p one.more) stored_now
        (IsStoredNow-after stored p stored_now stored_is one.more one.of_rules) provider mid now there runs_cost builds_cost
        (StoresFinalized-after w.header stored p one.more stores) rule in
        media_marks p m now (one.more ++ two.more) more
        (two.marks_are ∙ ap (λ (ms : List (Mark B)). ms ++ two.more) one.marks_are ∙ append_assoc m.marks one.more two.more) are
        (subst (λ (r : Past B C I). MediaKept w stored r now.execution.state.anchor now.members) (sym (after-append p one.more two.more))
        (rule-media w laws stored base (after p one.more) mid now there stored_now provider rule two kept))

  -- after a rule that could go and didn't the databases keep their checkpoints
  left-preserves : (p : Past B C I) (m : Moment w) (new : w.kind.Members) → Executes w stored base p m → w.kind.count < 2 ^ 64
      → LeavesRule w m new → Preserves w.kind m.members new
  left-preserves p m new e few (keeps same) = same.preserves few
  left-preserves p m new e few (applying {f = f} fin states left) =
      let o = over_begun w stored base p m f.block e states in
      let a : IsApplied w stored p e.point m.next f.block left.state left.batch =
      (IsAppliedOver-moves w stored p e.points e.point m.next m.execution.state left.state e.tables o.paused.boundary o.paused.pause_is
      o.paused.ground.names o.paused.finalizes o.retained f.block o.begun m.members m.execution.front left.front e.fronts left.batch left.captured
      left.moves).applied in
      left.preserves e.point (a.points f.block.digest) a.rest e.located a.shows few

  module _ (p : Past B C I) (stored_now : ℕ → Option (Named B)) (stored_is : IsStoredNow stored p stored_now) (counts : Counts R D H)
      (provider : P) (runs_cost : RunsTakeTurns w) (builds_cost : BuildsTakeTurns w) (event : Event B C I) (on : IsRestart event → ⊥)
      (m : Moment w) (up : m.loop.up ≡ true) (quiet : Quiet w m) (h : IsUpAt w stored base p m)
      (live : names_live w.kind.count p event ≡ true) (stores : StoresFinalized w.header stored (Came event ∷ p)) where
    abbrev q : Past B C I
    q = Came event ∷ p

    module _ (k : MediaKept w stored p m.execution.state.anchor m.members) (mid now : Moment w) (takes : TakesIn w stored_now counts m mid event)
        (along : Along w stored_now provider mid now) (names : NamesBehind w stored base q m mid) where
      taken : TakenBehind w stored base q m mid
      taken = takes_in-up w laws stored base p stored_now stored_is counts m mid up quiet h event on live names takes

      stored_mid : IsStoredNow stored (after q taken.more) stored_now
      stored_mid = IsStoredNow-after stored q stored_now stored_is taken.more taken.of_rules

      stores_mid : StoresFinalized w.header stored (after q taken.more)
      stores_mid = StoresFinalized-after w.header stored q taken.more stores

      behind : UpBehind w stored base (after q taken.more) mid now
      behind = along-up w stored base laws (after q taken.more) stored_now stored_mid provider runs_cost builds_cost stores_mid mid now
          taken.stands along

      kept_behind : MediaKept w stored (after (after q taken.more) behind.more) now.execution.state.anchor now.members
      kept_behind = along-media (after q taken.more) stored_now stored_mid provider runs_cost builds_cost stores_mid mid now taken.stands
          (taken-media w laws stored base p m mid up h event on taken k stored_now counts takes) along behind.more behind.marks_are

      -- after the event and rules, one after another, with whatever marks were made
      pub event-media : (more : List (Mark B)) → now.marks ≡ m.marks ++ more
          → MediaKept w stored (after q more) now.execution.state.anchor now.members
      event-media more are =
          media_marks q m now (taken.more ++ behind.more) more
          (behind.marks_are ∙ ap (λ (ms : List (Mark B)). ms ++ behind.more) taken.marks_are ∙ append_assoc m.marks taken.more behind.more) are
          (subst (λ (r : Past B C I). MediaKept w stored r now.execution.state.anchor now.members)
          (sym (after-append q taken.more behind.more)) kept_behind)

      -- and after a rule that could go then and didn't, of what could be opened before the event
      pub left-media : (new : w.kind.Members) → w.kind.count < 2 ^ 64 → LeavesRule w now new → KeepsReopenable w stored p new
      left-media new few left =
          let r : Past B C I = after (after q taken.more) behind.more in
          let there : KeepsReopenable w stored r new =
          KeepsReopenable-preserved w stored r now.members new (left-preserves r now new behind.executes few left) kept_behind.reopenable in
          λ n i b can is within. there n i b
          (CanReopen-after n (after q taken.more) behind.more behind.of_rules
          (CanReopen-after n q taken.more taken.of_rules ((CanReopen-came n p event on).1 can))) is within

  -- the event wasn't taken in
  pub kept-media : (p : Past B C I) (old new : w.kind.Members) → w.kind.count < 2 ^ 64 → KeepsStates w old new → KeepsReopenable w stored p old
      → KeepsReopenable w stored p new
  kept-media p old new few same k = KeepsReopenable-preserved w stored p old new (same.preserves few) k
