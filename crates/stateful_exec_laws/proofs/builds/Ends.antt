-- The tables and the live build stand after a turn of a build, whatever it leads to.
use Rattle.std.proofs.Common.{◌≡◌, ◌++◌, ◌==◌, not, ℕ, List, [], ◌∷◌, Option, Some, None, Ok, refl, sym, ap, ◌∙◌}
use Rattle.stateful_base.specs.Names.{Named}
use Rattle.stateful_base.specs.declared.digest.Digest.{Digest}
use Rattle.stateful_base.specs.declared.outcome.Handoff.{Handoff}
use Rattle.stateful_base.specs.declared.outcome.Handoff.TheVariants.{Vote, Stage}
use Rattle.stateful_base.specs.declared.outcome.Moved.TheVariants.{Done}
use Rattle.stateful_db.specs.Works.{BuildOf, build_of, Hands}
use Rattle.stateful_db.specs.declared.application.ProposedBlock.{ProposedBlock}
use Rattle.stateful_history.specs.Anchors.{tip_of}
use Rattle.stateful_history.specs.Past.{Past, Came, Made, after}
use Rattle.stateful_history.specs.Jobs.{turns}
use Rattle.stateful_history.specs.Known.{Known}
use Rattle.stateful_history.specs.Live.{live_job}
use Rattle.stateful_history.specs.Met.{TrueNames}
use Rattle.stateful_history.specs.declared.event.Event.TheVariants.{Turn}
use Rattle.stateful_history.specs.declared.mark.Decision.{Decision}
use Rattle.stateful_history.specs.declared.mark.How.TheVariants.{Kept}
use Rattle.stateful_history.specs.declared.mark.Mark.TheVariants.{Built, Answered}
use Rattle.stateful_exec_cache.specs.Cache.{IsIn}
use Rattle.stateful_exec_cache.specs.declared.cache.Cached.{Cached}
use Rattle.stateful_exec_model.specs.Built.{decided, Gives, HasTurn}
use Rattle.stateful_exec_tables.specs.Keeping.{Takes}
use Rattle.stateful_exec_tables.specs.Keeping.{there, added}
use Rattle.stateful_exec_model.specs.Moments.{Moment}
use Rattle.stateful_exec_model.specs.Workings.{Workings, Point}
use Rattle.stateful_exec_model.specs.declared.building.Building.{Building}
use Rattle.stateful_exec_laws.specs.Setting.{setting}
use Rattle.stateful_exec_laws.specs.Chains.{Leads}
use Rattle.stateful_exec_laws.specs.Building.{IsBuilding, BuildStands}
use Rattle.stateful_exec_laws.specs.Requesting.{AllAbstain}
use Rattle.stateful_exec_laws.specs.Standing.{TablesStand}
use Rattle.stateful_exec_laws.proofs.requests.Cancelled.{and_left, and_right, not_same}
use Rattle.stateful_exec_laws.proofs.ended.Kept.{IsRoundOf}
use Rattle.stateful_exec_laws.proofs.ended.Told.{IsPlain}
use Rattle.stateful_exec_laws.proofs.ended.ConcludeStands.{TablesStand-told}
use Rattle.stateful_exec_laws.proofs.runs.Sparing.{answered-TellsOf}
use Rattle.stateful_exec_laws.proofs.builds.Turns.{build-IsPoint}
use Rattle.stateful_exec_laws.proofs.builds.BuiltStands.{IsCachedBehind, IsCachedBehind-there, IsCachedBehind-added, leads-built}

module _ {B C I P R D H G U : Type 0} (w : Workings B C I P R D H G U) (stored : ℕ → Option (Named B)) (p : Past B C I) (points : Digest → Point w) (point : Point w) (m : Moment w) (b : Building B C D) where
  -- What stands after a build that has ended with a block: the block is cached and known, it leads from its parent's states,
  -- and its request is answered with it, as it was handed over; the tables stand over some points, and no build is live.
  pub record IsAnsweredWith (given : Handoff B) (decision : Decision) (now : Moment w) : Type 0 where
    pub block : Named B
    pub marks_are : now.marks ≡ m.marks ++ Built b.job b.ticket block ∷ Answered b.ticket decision block ∷ []
    pub members_are : now.members ≡ m.members
    pub points_now : Digest → Point w
    pub tables : TablesStand w stored (after (Came (Turn b.job) ∷ p) (Built b.job b.ticket block ∷ Answered b.ticket decision block ∷ [])) points_now point now.next now.state
    pub build : BuildStands w stored (after (Came (Turn b.job) ∷ p) (Built b.job b.ticket block ∷ Answered b.ticket decision block ∷ [])) points_now now.next now.state None
    pub waiting : AllAbstain w stored (Came (Turn b.job) ∷ p) m.state.requests → AllAbstain w stored (after (Came (Turn b.job) ∷ p) (Built b.job b.ticket block ∷ Answered b.ticket decision block ∷ [])) now.state.requests
    pub known : Known (setting w stored) (Made (Built b.job b.ticket block) ∷ Came (Turn b.job) ∷ p) block.digest
    pub cached : IsIn now.state.cache block.digest
    pub states : w.States
    pub leads : Leads w stored (Made (Built b.job b.ticket block) ∷ Came (Turn b.job) ∷ p) (points b.parent.digest).1 block states
    pub input : I
    pub gives : w.works.gives (record { kind = b.kind; context = b.context; parent = b.parent.block; input = input }) (points b.parent.digest).1 given

module _ {B C I P R D H G U : Type 0} (w : Workings B C I P R D H G U) (stored : ℕ → Option (Named B)) (p : Past B C I) (points : Digest → Point w) (point : Point w) (m : Moment w) (s : TablesStand w stored p points point m.next m.state)
    (plain : IsPlain m.state.pause) (tip : tip_of w.header p ≡ Some m.state.anchor) (located : w.kind.point m.members ≡ Some point) (b : Building B C D) (h : BuildStands w stored p points m.next m.state (Some b)) where
  abbrev building : IsBuilding w stored p points m.next m.state.anchor m.state.cache b
  building = h.each

  -- what the build is of
  abbrev build : BuildOf B C I P w.Ids w.States
  build = build_of (record { kind = b.kind; context = b.context; parent = b.parent.block; input = building.input }) building.provider building.own (points b.parent.digest) building.below

  module _ (proposed : ProposedBlock B U) (given : Handoff B) (hands : Hands w.works w.shows build given proposed.block proposed.merkleized) (turned : D) (handed : Decision) (now : Moment w) (gives : Gives w (record b { build = turned }) m proposed handed now)
      (names : TrueNames (setting w stored) (Made (Built b.job b.ticket gives.block) ∷ Came (Turn b.job) ∷ p)) (round : IsRoundOf w stored (Made (Built b.job b.ticket gives.block) ∷ Came (Turn b.job) ∷ p) m.state.anchor) where
    abbrev block : Named B
    block = gives.block

    abbrev q : Past B C I
    q = Made (Built b.job b.ticket gives.block) ∷ Came (Turn b.job) ∷ p

    same_block : proposed.block ≡ block.block
    same_block = sym gives.built.named.same

    parent_is : w.header.parent block.block ≡ b.parent.digest
    parent_is = ap (λ x. w.header.parent x) (sym same_block) ∙ gives.built.asked_for.parent

    step : w.works.meaning.step (points b.parent.digest).1 block.block ≡ Some hands.states
    step = ap (λ x. w.works.meaning.step (points b.parent.digest).1 x) (sym same_block) ∙ hands.steps

    targets : w.kind.target_of hands.states ≡ w.works.meaning.targets block.block
    targets = gives.built.asked_for.targets (building.own, hands.states) (points b.parent.digest ∷ building.below) hands.shown ∙ ap (λ x. w.works.meaning.targets x) same_block

    cached : (cache : List (Cached U)) → Takes w.header m.state.anchor block proposed.merkleized m.state.cache cache Kept → IsCachedBehind w stored p points point m.next m.state s plain tip b building block names round cache
    cached cache (there a is) = rw is (IsCachedBehind-there w stored p points point m.next m.state s plain tip b building block names round (a.0, a.1, a.2, a.3, ap (λ x. x.digest) a.4))
    cached cache (added new later at_hand is) =
        rw is (IsCachedBehind-added w stored p points point m.next m.state s plain tip b building block names round proposed.merkleized hands.states parent_is step targets hands.shown new later)

    abbrev behind : IsCachedBehind w stored p points point m.next m.state s plain tip b building block names round gives.cache
    behind = cached gives.cache gives.built.takes

    -- behind a block that is handed over, the tables stand, and no build is live
    pub IsAnsweredWith-gives : IsAnsweredWith w stored p points point m b given (decided b.kind handed) now
    IsAnsweredWith-gives = rw gives.becomes (record {
      block = block;
      marks_are = refl;
      members_are = refl;
      points_now = behind.now;
      tables = TablesStand-told w stored q behind.now point m.next (record m.state { cache = gives.cache }) b.ticket behind.tables
          (Made (Answered b.ticket (decided b.kind handed) block)) (answered-TellsOf (setting w stored) q b.ticket (decided b.kind handed) block) h.elsewhere.absent h.elsewhere.not_queued;
      build = record {
        each = tt;
        elsewhere = tt;
        complete = λ j d live.
            not_same j b.job (and_left (not (j == b.job)) (live_job j p) live.live) (sym (h.complete j d (record { live = and_right (not (j == b.job)) (live_job j p) live.live; is = live.is })));
      };
      waiting = λ a. a;
      known = behind.known;
      cached = behind.cached;
      states = hands.states;
      leads = leads-built w stored p points point m.next m.state s plain tip b building block names round proposed.merkleized hands.states parent_is step targets;
      input = building.input;
      gives = hands.gives;
    })

  -- what a turn says of the block that the build ends with
  pub hands-vote : (count : D → ℕ) (turned : D) (proposed : ProposedBlock B U) → HasTurn w count m.members b.build turned (Ok (Done (Vote proposed))) → Hands w.works w.shows build (Vote proposed.block) proposed.block proposed.merkleized
  hands-vote count turned proposed had = had.ends build (turns b.job p) point building.builds located (build-IsPoint w stored p points point m.next m.state s b h)

  pub hands-stage : (count : D → ℕ) (turned : D) (proposed : ProposedBlock B U) → HasTurn w count m.members b.build turned (Ok (Done (Stage proposed))) → Hands w.works w.shows build (Stage proposed.block) proposed.block proposed.merkleized
  hands-stage count turned proposed had = had.ends build (turns b.job p) point building.builds located (build-IsPoint w stored p points point m.next m.state s b h)
