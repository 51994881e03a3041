-- The tables and the live build stand after each rule of a build.
use Rattle.std.proofs.Common.{◌≡◌, ◌++◌, inr, ℕ, List, [], ◌∷◌, Option, Some, None, MatchOption, Ok, refl, sym, ap, ◌∙◌, subst}
use Rattle.std.proofs.lemmas.List.{append-nil}
use Rattle.stateful_base.specs.Names.{Named}
use Rattle.stateful_base.specs.Anchor.{anchor_by}
use Rattle.stateful_base.specs.declared.anchor.Anchor.{Anchor}
use Rattle.stateful_base.specs.declared.digest.Digest.{Digest}
use Rattle.stateful_base.specs.declared.outcome.Handoff.{Handoff}
use Rattle.stateful_base.specs.declared.outcome.Handoff.TheVariants.{Wait, Vote, Stage}
use Rattle.stateful_base.specs.declared.outcome.Moved.TheVariants.{Pending, Done}
use Rattle.stateful_db.specs.declared.application.ProposedBlock.{ProposedBlock}
use Rattle.stateful_history.specs.Anchors.{tip_of}
use Rattle.stateful_history.specs.Met.{Met, TrueNames}
use Rattle.stateful_history.specs.Past.{Past, Came, Made, after}
use Rattle.stateful_history.specs.declared.event.Event.TheVariants.{Cancel, Turn}
use Rattle.stateful_history.specs.declared.mark.Decision.{Decision}
use Rattle.stateful_history.specs.declared.mark.JobKind.TheVariants.{Build}
use Rattle.stateful_history.specs.declared.mark.Mark.{Mark}
use Rattle.stateful_history.specs.declared.mark.Mark.TheVariants.{Built, Answered}
use Rattle.stateful_history.proofs.Marks.{TrueNames-before}
use Rattle.stateful_table.specs.Table.{at}
use Rattle.stateful_exec_model.specs.Built.{HasTurn, EndsBuild, TurnsBuild, other, goes_on, ends, IsBuildFor, GivesUp, building, asking}
use Rattle.stateful_exec_tables.specs.Cancelling.{Cancels}
use Rattle.stateful_exec_model.specs.Moments.{Moment}
use Rattle.stateful_exec_walk.specs.Path.{Path}
use Rattle.stateful_exec_model.specs.Workings.{Workings, Point}
use Rattle.stateful_exec_model.specs.declared.building.Building.{Building}
use Rattle.stateful_exec_tables.specs.declared.state.Tables.{Tables}
use Rattle.stateful_exec_tables.specs.declared.tables.LiveRun.{LiveRun}
use Rattle.stateful_exec_tables.specs.declared.tables.Phase.TheVariants.{Executing}
use Rattle.stateful_exec_tables.specs.declared.tables.Requested.{Requested}
use Rattle.stateful_exec_laws.specs.Setting.{setting}
use Rattle.stateful_exec_laws.specs.Building.{BuildStands}
use Rattle.stateful_exec_laws.specs.Requesting.{AllAbstain, IsInPhase, IsStanding}
use Rattle.stateful_exec_laws.specs.Standing.{TablesStand}
use Rattle.stateful_exec_laws.proofs.runs.Removing.{All-at}
use Rattle.stateful_exec_laws.proofs.ended.GivenUp.{cancel-LeavesJob, cancel-LeavesTicket}
use Rattle.stateful_exec_laws.proofs.requests.CancelStands.{TablesStand-cancel}
use Rattle.stateful_exec_laws.proofs.ended.Kept.{IsRoundOf}
use Rattle.stateful_exec_laws.proofs.ended.Told.{IsPlain}
use Rattle.stateful_exec_laws.proofs.builds.Turns.{no_candidate, TablesStand-turn_other, BuildStands-goes_on, TablesStand-nothing, BuildStands-nothing, TablesStand-given_up, BuildStands-given_up}
use Rattle.stateful_exec_laws.proofs.pauses.PassingRules.{PassesBy-cancels}
use Rattle.stateful_exec_laws.proofs.builds.Left.{SparesBuild, BuildStands-spared}
use Rattle.stateful_exec_laws.proofs.builds.Passes.{IsItsJob, IsItsTicket, BuildStands-passes}
use Rattle.stateful_exec_laws.proofs.builds.Ends.{IsAnsweredWith, IsAnsweredWith-gives, hands-vote, hands-stage}

-- where names are true, blocks of the anchor's digest are of its round
pub IsRoundOf-named : {B C I P R D H G U : Type 0} (w : Workings B C I P R D H G U) (stored : ℕ → Option (Named B)) (p : Past B C I) (anchor : Anchor) (top : Named B) → TrueNames (setting w stored) p → Met (setting w stored) p top → anchor ≡ anchor_by w.header top → IsRoundOf w stored p anchor
IsRoundOf-named w stored p anchor top names met named b has is =
    let same : b ≡ top = names b top has met (is ∙ ap (λ (a : Anchor). a.digest) named) in
    ap (λ (c : Named _). w.header.round c.block) same ∙ sym (ap (λ (a : Anchor). a.round) named)

module _ {B C I P R D H G U : Type 0} (w : Workings B C I P R D H G U) (stored : ℕ → Option (Named B)) (point : Point w) where
  -- What stands after a rule of a build, over a past that has the rule's event: some marks are made, no database moves, and the
  -- tables and the live build stand for the past with these marks, over some points; requests that wait abstain as they did.
  pub record StandsWithBuild (p : Past B C I) (m now : Moment w) (build : Option (Building B C D)) : Type 0 where
    pub points : Digest → Point w
    pub more : List (Mark B)
    pub marks_are : now.marks ≡ m.marks ++ more
    pub members_are : now.members ≡ m.members
    pub tables : TablesStand w stored (after p more) points point now.next now.state
    pub builds : BuildStands w stored (after p more) points now.next now.state build
    pub waiting : AllAbstain w stored p m.state.requests → AllAbstain w stored (after p more) now.state.requests

module _ {B C I P R D H G U : Type 0} (w : Workings B C I P R D H G U) (stored : ℕ → Option (Named B)) (p : Past B C I) (points : Digest → Point w) (point : Point w) (m : Moment w) (s : TablesStand w stored p points point m.next m.state)
    (plain : IsPlain m.state.pause) (tip : tip_of w.header p ≡ Some m.state.anchor) (top : Named B) (top_met : Met (setting w stored) p top) (named : m.state.anchor ≡ anchor_by w.header top) (located : w.kind.point m.members ≡ Some point)
    (b : Building B C D) (h : BuildStands w stored p points m.next m.state (Some b)) (now : Moment w) (names : (more : List (Mark B)) → now.marks ≡ m.marks ++ more → TrueNames (setting w stored) (after (Came (Turn b.job) ∷ p) more)) where
  answered : {given : Handoff B} {decision : Decision} → IsAnsweredWith w stored p points point m b given decision now → StandsWithBuild w stored point (Came (Turn b.job) ∷ p) m now None
  answered a = record { points = a.points_now; more = _; marks_are = a.marks_are; members_are = a.members_are; tables = a.tables; builds = a.build; waiting = a.waiting }

  -- names are true where the block was just built
  names_built : (block : Named B) (decision : Decision) → now.marks ≡ m.marks ++ Built b.job b.ticket block ∷ Answered b.ticket decision block ∷ [] → TrueNames (setting w stored) (Made (Built b.job b.ticket block) ∷ Came (Turn b.job) ∷ p)
  names_built block decision is = TrueNames-before (setting w stored) (Made (Answered b.ticket decision block)) (Made (Built b.job b.ticket block) ∷ Came (Turn b.job) ∷ p) (names _ is)

  ended : (count : D → ℕ) (turned : D) (given : Handoff (ProposedBlock B U)) → HasTurn w count m.members b.build turned (Ok (Done given)) → EndsBuild w (record b { build = turned }) m given now → StandsWithBuild w stored point (Came (Turn b.job) ∷ p) m now None
  ended count turned Wait had is = rw is (record {
    points = points;
    more = _;
    marks_are = refl;
    members_are = refl;
    tables = TablesStand-nothing w stored p points point m.next m.state s b h;
    builds = BuildStands-nothing w stored p points point m.next m.state s b h;
    waiting = λ a. a;
  })
  ended count turned (Vote proposed) had gives =
      let true_names = names_built gives.block _ (ap (λ (n : Moment w). n.marks) gives.becomes) in
      answered (IsAnsweredWith-gives w stored p points point m s plain tip located b h proposed (Vote proposed.block) (hands-vote w stored p points point m s plain tip located b h count turned proposed had) turned _ now gives true_names
      (IsRoundOf-named w stored (Made (Built b.job b.ticket gives.block) ∷ Came (Turn b.job) ∷ p) m.state.anchor top true_names (inr (inr top_met)) named))
  ended count turned (Stage proposed) had gives =
      let true_names = names_built gives.block _ (ap (λ (n : Moment w). n.marks) gives.becomes) in
      answered (IsAnsweredWith-gives w stored p points point m s plain tip located b h proposed (Stage proposed.block) (hands-stage w stored p points point m s plain tip located b h count turned proposed had) turned _ now gives true_names
      (IsRoundOf-named w stored (Made (Built b.job b.ticket gives.block) ∷ Came (Turn b.job) ∷ p) m.state.anchor top true_names (inr (inr top_met)) named))

  -- the tables and the live build stand after a turn of it, whatever it leads to, where no finalization goes on
  pub StandsWithBuild-turns : (count : D → ℕ) (after_turn : Option (Building B C D)) → TurnsBuild w count m (Some b) b.job now after_turn → StandsWithBuild w stored point (Came (Turn b.job) ∷ p) m now after_turn
  StandsWithBuild-turns count _ (other none is same) = absurd (none b (record { live = refl; job = refl }))
  StandsWithBuild-turns count _ (goes_on {b = c} {turned = turned} live had is after_is) =
      let own : Some b ≡ Some c = live.live in
      let same : b ≡ c = search in
      rw (is, after_is) (record {
        points = points;
        more = [];
        marks_are = sym (append-nil m.marks);
        members_are = refl;
        tables = TablesStand-turn_other w stored p points point m.next m.state s b.job Build b.parent.digest h.each.job.is (λ x. cc);
        builds = subst (λ (x : Building B C D). BuildStands w stored (Came (Turn b.job) ∷ p) points m.next m.state (Some (record x { build = turned }))) same
            (BuildStands-goes_on w stored p points point m.next m.state s b h count m.members located turned (subst (λ (x : Building B C D). HasTurn w count m.members x.build turned (Ok Pending)) (sym same) had));
        waiting = λ a. a;
      })
  StandsWithBuild-turns count _ (ends {b = c} {turned = turned} {given = given} live had gives after_is) =
      let own : Some b ≡ Some c = live.live in
      let same : b ≡ c = search in
      rw after_is (ended count turned given (subst (λ (x : Building B C D). HasTurn w count m.members x.build turned (Ok (Done given))) (sym same) had) (subst (λ (x : Building B C D). EndsBuild w (record x { build = turned }) m given now) (sym same) gives))

module _ {B C I P R D H G U : Type 0} (w : Workings B C I P R D H G U) (stored : ℕ → Option (Named B)) (p : Past B C I) (points : Digest → Point w) (point : Point w) (m : Moment w) (s : TablesStand w stored p points point m.next m.state) (t : ℕ) (new : Tables B C I R U) (marks : List (Mark B)) where
  -- the live build of another request stands after the cancel
  BuildStands-asking : (build : Option (Building B C D)) → ((b : Building B C D) → IsBuildFor build t b → ⊥) → Cancels m.state new t marks → BuildStands w stored p points m.next m.state build → BuildStands w stored (after (Came (Cancel t) ∷ p) marks) points m.next new build
  BuildStands-asking build off cancels h =
      BuildStands-passes w stored points build (Came (Cancel t) ∷ p) m (record m { state = new; marks = m.marks ++ marks }) marks refl
      (PassesBy-cancels w (IsItsJob build) (IsItsTicket build) m t (not_its build off) (λ r j path there executing own. not_run build h r j path there executing own) new marks cancels)
      (BuildStands-spared w stored p points m.next m.state (Came (Cancel t)) build (spares build off) h)
    where
      not_its : (o : Option (Building B C D)) → ((b : Building B C D) → IsBuildFor o t b → ⊥) → IsItsTicket o t → ⊥
      not_its None unlike own = own
      not_its (Some b) unlike own = unlike b (record { live = refl; ticket = sym own })

      not_run : (o : Option (Building B C D)) → BuildStands w stored p points m.next m.state o → (r : Requested B C I) (j : ℕ) (path : Path B) → at m.state.requests t ≡ Some r → r.phase ≡ Executing j path → IsItsJob o j → ⊥
      not_run None g r j path there executing own = own
      not_run (Some b) g r j path there executing own =
          let standing : IsStanding w stored p m.state.runs t r = All-at (λ (e : ℕ × Requested B C I). IsStanding w stored p m.state.runs e.0 e.1) m.state.requests t r there s.requests.each in
          let phase : IsInPhase w stored p m.state.runs t r.request (Executing j path) = subst (λ x. IsInPhase w stored p m.state.runs t r.request x) executing standing.phase in
          let none : at m.state.runs j ≡ None = ap (λ k. at m.state.runs k) own ∙ no_candidate w stored p points point m.next m.state s b.job Build b.parent.digest g.each.job.is (λ is. cc) in
          subst (λ o. MatchOption o ⊥ (λ (run : LiveRun B R). run.block ≡ path.parent)) none phase.0

      spares : (o : Option (Building B C D)) → ((b : Building B C D) → IsBuildFor o t b → ⊥) → SparesBuild w stored p (Came (Cancel t)) o
      spares None unlike = record { built = λ d was. was; job = tt; ticket = tt; builds = λ j d live. record { live = live.live; is = live.is } }
      spares (Some b) unlike = record {
        built = λ d was. was;
        job = cancel-LeavesJob p t b.job;
        ticket = cancel-LeavesTicket p t b.ticket (λ e. unlike b (record { live = refl; ticket = e }));
        builds = λ j d live. record { live = live.live; is = live.is };
      }

  -- the tables and the live build stand after a cancel
  pub StandsWithBuild-gives_up : (before after_cancel : Option (Building B C D)) → BuildStands w stored p points m.next m.state before → GivesUp m.state new before after_cancel t marks
      → TablesStand w stored (after (Came (Cancel t) ∷ p) marks) points point m.next new × BuildStands w stored (after (Came (Cancel t) ∷ p) marks) points m.next new after_cancel
  StandsWithBuild-gives_up before after_cancel h (building {b = b} for new_is after_is marks_is) =
      let own : BuildStands w stored p points m.next m.state (Some b) = subst (λ o. BuildStands w stored p points m.next m.state o) for.live h in
      rw (new_is, after_is, marks_is, sym for.ticket)
      (TablesStand-given_up w stored p points point m.next m.state s b own, BuildStands-given_up w stored p points point m.next m.state s b own)
  StandsWithBuild-gives_up before after_cancel h (asking off cancels same) = rw same (TablesStand-cancel w stored p points point m.next m.state t s new marks cancels, BuildStands-asking before off cancels h)
