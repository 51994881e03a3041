-- The tables, the live build and the finalization stand after a turn of a candidate run and what follows its end.
use Rattle.std.proofs.Common.{◌≡◌, ◌≢◌, ◌++◌, inl, inr, ℕ, List, [], ◌∷◌, All, Option, None, Some, IfSome, sym, ap, ◌∙◌, subst}
use Rattle.std.proofs.lemmas.List.{append_cancel_left}
use Rattle.std.proofs.lemmas.List.Elements.{All-weaker}
use Rattle.stateful_base.specs.Names.{Named}
use Rattle.stateful_base.specs.declared.digest.Digest.{Digest}
use Rattle.stateful_db.specs.Laws.{Laws}
use Rattle.stateful_history.specs.Met.{TrueNames}
use Rattle.stateful_history.specs.Past.{Past, Came, after}
use Rattle.stateful_history.specs.declared.event.Event.TheVariants.{Turn}
use Rattle.stateful_history.specs.declared.mark.JobKind.TheVariants.{Finalized, Build, Hook}
use Rattle.stateful_history.specs.declared.mark.Mark.{Mark}
use Rattle.stateful_history.specs.declared.mark.Mark.TheVariants.{Ended, Opened, Converged, Began, Applied, Pruned}
use Rattle.stateful_table.specs.Table.{at}
use Rattle.stateful_exec_model.specs.Ending.{Steps}
use Rattle.stateful_exec_model.specs.Moments.{Moment}
use Rattle.stateful_exec_model.specs.Workings.{Workings, Point}
use Rattle.stateful_exec_model.specs.declared.building.Building.{Building}
use Rattle.stateful_exec_model.specs.declared.front.Front.{Front}
use Rattle.stateful_exec_laws.specs.Building.{BuildStands}
use Rattle.stateful_exec_laws.specs.Fronting.{FrontStands}
use Rattle.stateful_exec_laws.specs.Setting.{setting}
use Rattle.stateful_exec_laws.specs.Standing.{TablesStand}
use Rattle.stateful_exec_laws.proofs.builds.Passes.{IsItsJob, IsItsTicket, BuildStands-passes, BuildStands-settled, build_drawn, build_elsewhere}
use Rattle.stateful_exec_laws.proofs.builds.Turns.{no_candidate, BuildStands-turn}
use Rattle.stateful_exec_laws.proofs.earned.Carried.{IsMild}
use Rattle.stateful_exec_laws.proofs.ended.Kept.{IsRoundOf}
use Rattle.stateful_exec_laws.proofs.front.Left.{stage-live}
use Rattle.stateful_exec_laws.proofs.front.Passes.{IsFrontJob, NoTicket, FrontStands-turn, FrontStands-passes, front_drawn}
use Rattle.stateful_exec_laws.proofs.pauses.Passing.{IsBeside, PassesBy}
use Rattle.stateful_exec_laws.proofs.pauses.PassingRules.{PassesBy-steps}
use Rattle.stateful_exec_laws.proofs.requests.StepsStand.{IsPaused, IsStepped, goes_on, has_ended, IsStepped-by}

-- a mark of requests and candidate runs is mild
beside_mild : {B : Type 0} (Job Ticket : ℕ → Type 0) (mark : Mark B) → IsBeside Job Ticket mark → IsMild mark
beside_mild Job Ticket (Opened anchor) off = absurd off
beside_mild Job Ticket (Converged anchor) off = absurd off
beside_mild Job Ticket (Began t b) off = absurd off
beside_mild Job Ticket (Applied b) off = absurd off
beside_mild Job Ticket (Pruned marshal target) off = absurd off
beside_mild Job Ticket mark off = tt

module _ {B C I P R D H G U : Type 0} (w : Workings B C I P R D H G U) (laws : Laws w.kind) (stored : ℕ → Option (Named B)) (p : Past B C I)
    (points : Digest → Point w) (point : Point w) (m now : Moment w) (j : ℕ) where
  -- What stands after a turn of a candidate run, over some points: some mild marks are made, no database moves, and the anchor stays.
  pub record StandsStepped (build : Option (Building B C D)) (front : Option (Front B R U H)) : Type 0 where
    pub then : Digest → Point w
    pub more : List (Mark B)
    pub marks_are : now.marks ≡ m.marks ++ more
    pub mild : All (λ x. IsMild x) more
    pub members_are : now.members ≡ m.members
    pub drawn : w.kind.issued now.next (point ∷ [])
    pub anchor : now.state.anchor ≡ m.state.anchor
    pub tables : TablesStand w stored (after (Came (Turn j) ∷ p) more) then point now.next now.state
    pub builds : BuildStands w stored (after (Came (Turn j) ∷ p) more) then now.next now.state build
    pub fronts : FrontStands w stored (after (Came (Turn j) ∷ p) more) point now.next now.state.anchor front

  module _ (s : TablesStand w stored p points point m.next m.state) (build : Option (Building B C D))
      (bs : BuildStands w stored p points m.next m.state build) (front : Option (Front B R U H))
      (fs : FrontStands w stored p point m.next m.state.anchor front)
      (count : R → ℕ) (turn : Steps w count m j now) where
    -- its job is a candidate's: that of no build
    not_build : (o : Option (Building B C D)) → BuildStands w stored p points m.next m.state o → IsItsJob o j → ⊥
    not_build None h own = own
    not_build (Some b) h own =
        let no : Some turn.turns.live ≡ None =
        sym turn.turns.live_is ∙ ap
        (λ k. at m.state.runs k) own ∙ no_candidate w stored p points point m.next m.state s b.job Build b.parent.digest h.each.job.is (λ is. cc) in
        absurd (cc)

    -- and of no finalization
    not_front : (o : Option (Front B R U H)) → FrontStands w stored p point m.next m.state.anchor o → IsFrontJob o j → ⊥
    not_front None h own = own
    not_front (Some f) h own =
        let d = stage-live w stored p point m.next m.next (λ c x. x) m.state.anchor f.block f.stage h.at_stage j own in elim d.1 [
          | inl run ↦
              (let no : Some turn.turns.live ≡ None = sym turn.turns.live_is
              ∙ no_candidate w stored p points point m.next m.state s j Finalized d.0 run.is
              (λ is. cc) in absurd (cc))
          | inr hook ↦
              (let no : Some turn.turns.live ≡ None = sym turn.turns.live_is
              ∙ no_candidate w stored p points point m.next m.state s j Hook d.0 hook.is
              (λ is. cc) in absurd (cc))
        ]

    off_build : IsItsJob build j → ⊥
    off_build = not_build build bs

    off_front : IsFrontJob front j → ⊥
    off_front = not_front front fs

    by_build : PassesBy w (IsItsJob build) (IsItsTicket build) m now
    by_build =
        PassesBy-steps w (IsItsJob build) (IsItsTicket build) count m now j off_build (build_drawn w stored p points point m build s bs)
        (build_elsewhere w stored p points m build bs) turn

    by_front : PassesBy w (IsFrontJob front) NoTicket m now
    by_front =
        PassesBy-steps w (IsFrontJob front) NoTicket count m now j off_front (front_drawn w stored point front p points m s fs)
        (λ t own. absurd own) turn

    mild_now : (more : List (Mark B)) → now.marks ≡ m.marks ++ more → All (λ x. IsMild x) more
    mild_now more is =
        subst (λ (l : List (Mark B)). All (λ x. IsMild x) l) (append_cancel_left m.marks by_front.more more (sym by_front.marks_are ∙ is))
        (All-weaker (λ x. IsBeside (IsFrontJob front) NoTicket x) (λ x. IsMild x)
        (λ x off. beside_mild (IsFrontJob front) NoTicket x off) by_front.more by_front.beside)

    if_other : (o : Option (Building B C D)) → (IsItsJob o j → ⊥) → IfSome o (λ b. b.job ≢ j)
    if_other None off = tt
    if_other (Some b) off = λ is. off (sym is)

    fronts_now : (more : List (Mark B)) → now.marks ≡ m.marks ++ more
        → FrontStands w stored (after (Came (Turn j) ∷ p) more) point now.next now.state.anchor front
    fronts_now more is =
        FrontStands-passes w stored point front (Came (Turn j) ∷ p) m now more is by_front
        (FrontStands-turn w stored point front p m j off_front fs)

    by : (drawn : w.kind.issued m.next (point ∷ [])) → IsStepped w stored point laws.ids.issued_other p points m j now → StandsStepped build front
    by drawn (goes_on b) = record {
      then = points;
      more = b.more;
      marks_are = b.marks_are;
      mild = mild_now b.more b.marks_are;
      members_are = b.members_are;
      drawn = by_front.ids (point ∷ []) drawn;
      anchor = by_front.anchor;
      tables = b.stands;
      builds =
          BuildStands-passes w stored points build (Came (Turn j) ∷ p) m now b.more b.marks_are by_build
          (BuildStands-turn w stored p points point m.next m.state s j build (if_other build off_build) bs);
      fronts = fronts_now b.more b.marks_are;
    }
    by drawn (has_ended how e) = record {
      then = e.points;
      more = Ended j how ∷ e.more;
      marks_are = e.marks_are;
      mild = mild_now (Ended j how ∷ e.more) e.marks_are;
      members_are = e.members_are;
      drawn = by_front.ids (point ∷ []) drawn;
      anchor = by_front.anchor;
      tables = e.stands;
      builds = BuildStands-settled w stored point laws.ids.issued_other p points m now j how e build off_build by_build bs;
      fronts = fronts_now (Ended j how ∷ e.more) e.marks_are;
    }

    -- They stand after a turn of a candidate run, however execution is paused.
    pub StandsStepped-by : TrueNames (setting w stored) p → IsRoundOf w stored p m.state.anchor → w.kind.point m.members ≡ Some point
        → w.kind.issued m.next (point ∷ []) → IsPaused w stored p m → StandsStepped build front
    StandsStepped-by names round located drawn paused =
        by drawn (IsStepped-by w stored point laws.ids.issued_other p points m s names round located drawn count j now paused turn)
