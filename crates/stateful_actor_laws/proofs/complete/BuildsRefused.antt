-- Where a turn of a build is refused the reason lies outside, as long as it gives what it was asked for.
use Rattle.std.proofs.Common.{◌≡◌, ◌⊎◌, inl, inr, ◌<◌, ◌^◌, ◌∷◌, [], ℕ, Option, Some, None, Ok, Err, List, refl, sym, ap, ◌∙◌, subst, arith}
use Rattle.sha2.specs.Sha256.{sha256}
use Rattle.stateful_base.specs.Names.{Named}
use Rattle.stateful_base.specs.Round.{IsLater}
use Rattle.stateful_base.specs.declared.anchor.Anchor.{Anchor}
use Rattle.stateful_base.specs.declared.digest.Digest.{Digest}
use Rattle.stateful_base.specs.declared.outcome.Handoff.{Handoff}
use Rattle.stateful_base.specs.declared.outcome.Handoff.TheVariants.{Wait, Vote, Stage}
use Rattle.stateful_base.specs.declared.outcome.Moved.TheVariants.{Done}
use Rattle.stateful_base.specs.declared.round.Round.{Round}
use Rattle.stateful_db.specs.Laws.{Laws}
use Rattle.stateful_db.specs.Works.{BuildOf, Hands, build_of}
use Rattle.stateful_db.specs.declared.application.ProposedBlock.{ProposedBlock}
use Rattle.stateful_history.specs.Lawful.{handed_block, FitsRequest, BuildsFit}
use Rattle.stateful_history.specs.Met.{Met}
use Rattle.stateful_history.specs.Past.{Past}
use Rattle.stateful_history.specs.Requests.{Proposal}
use Rattle.stateful_history.specs.States.{HasState}
use Rattle.stateful_history.specs.Telling.{telling_of}
use Rattle.stateful_history.specs.declared.mark.How.{How}
use Rattle.stateful_history.specs.declared.mark.How.TheVariants.{Missed}
use Rattle.stateful_exec_cache.specs.Cache.{IsIn, IsAtHand}
use Rattle.stateful_exec_cache.specs.declared.cache.Cached.{Cached}
use Rattle.stateful_exec_model.specs.Built.{IsOther, IsNamed, FaultsBuilt, memory, other, not_kept, FaultsGiven, HasTurn, IsLiveBuild, FaultsTurn, failed, ending}
use Rattle.stateful_exec_tables.specs.Keeping.{FaultsKeep}
use Rattle.stateful_exec_tables.specs.Keeping.{Takes}
use Rattle.stateful_exec_tables.specs.Keeping.{there, added, missed}
use Rattle.stateful_exec_model.specs.Moments as exec
use Rattle.stateful_exec_model.specs.Workings.{Workings, Point}
use Rattle.stateful_exec_model.specs.declared.building.Building.{Building}
use Rattle.stateful_exec_tables.specs.declared.error.ExecError.{ExecError}
use Rattle.stateful_exec_tables.specs.declared.error.ExecError.TheVariants as exec_error
use Rattle.stateful_exec_tables.specs.declared.error.ProposalFault.{ProposalFault}
use Rattle.stateful_exec_tables.specs.declared.error.ProposalFault.TheVariants.{Targets, Parent, Round as AnotherRound}
use Rattle.stateful_exec_pause.specs.declared.pause.Pause.{Pause}
use Rattle.stateful_exec_pause.specs.declared.pause.Pause.TheVariants.{Free}
use Rattle.stateful_exec_laws.specs.Building.{BuildStands, IsBuilding}
use Rattle.stateful_exec_laws.specs.Setting.{setting}
use Rattle.stateful_exec_laws.specs.Standing.{TablesStand}
use Rattle.stateful_loop_laws.specs.Execution.{IsFree}
use Rattle.stateful_exec_laws.proofs.builds.Ends.{hands-vote, hands-stage}
use Rattle.stateful_exec_laws.proofs.ended.Told.{IsPlain}
use Rattle.stateful_exec_laws.proofs.front.GroundBegun.{cached-later}
use Rattle.stateful_exec_laws.proofs.reasons.Ground.{HasState-on, uncached_anchor, top_is}
use Rattle.stateful_actor_laws.specs.Ahead.{RoundsAscend}
use Rattle.stateful_actor_laws.specs.Completeness.{NamesBuilt}
use Rattle.stateful_actor_laws.proofs.complete.RunsRefused.{pending-same, outside-app}
use Rattle.stateful_actor_laws.proofs.ahead.Serving.{IsOutsideOf, outside-is}

later_trans : (a b c : Round) → IsLater a b → IsLater b c → IsLater a c
later_trans a b c (inl one) (inl two) = inl (omega arith)
later_trans a b c (inl one) (inr two) = let e = two.0 in inl (omega arith)
later_trans a b c (inr one) (inl two) = let e = one.0 in inl (omega arith)
later_trans a b c (inr one) (inr two) = inr (one.0 ∙ two.0, let x = one.1 in let y = two.1 in omega arith)

module _ {B C I P R D H G U : Type 0} (w : Workings B C I P R D H G U) (laws : Laws w.kind) (few : w.kind.count < 2 ^ 64) (stored : ℕ → Option (Named B))
    (base : w.States) (p : Past B C I) (points : Digest → Point w) (point : Point w) (m : exec.Moment w) (s : TablesStand w stored p points point m.next m.state)
    (free : IsFree w stored base p points point m.next m.state) (located : w.kind.point m.members ≡ Some point) (rounds : RoundsAscend w.header w.round_of p) where
  module _ (b : Building B C D) (h : BuildStands w stored p points m.next m.state (Some b))
      (fits : BuildsFit (setting w stored) (telling_of w.works) w.round_of base p b.job) (names : NamesBuilt w stored base p b.job) where
    abbrev own : IsBuilding w stored p points m.next m.state.anchor m.state.cache b
    own = h.each

    -- the request for which it is built
    abbrev asks : Proposal B C I
    asks = record { kind = b.kind; context = b.context; parent = b.parent; input = own.input }

    abbrev build : BuildOf B C I P w.Ids w.States
    build = build_of (record { kind = b.kind; context = b.context; parent = b.parent.block; input = own.input }) own.provider own.own (points b.parent.digest) own.below

    plain : IsPlain m.state.pause
    plain = subst (λ (x : Pause). IsPlain x) (sym free.pause_is) tt

    state : HasState (setting w stored) base p b.parent.digest (points b.parent.digest).1
    state = HasState-on w stored base p points point m.next m.state.anchor Free m.state.anchor m.state.cache free.ground own.chain

    -- its parent is the anchor, or later
    parent_later : (r : Round) → IsLater (w.header.round b.parent.block) r → IsLater m.state.anchor.round r
    parent_later r later = of own.at_hand
      where
        of : IsAtHand m.state.anchor m.state.cache b.parent.digest → IsLater m.state.anchor.round r
        of (inl same) =
            let top = top_is w stored base p points point m.next m.state.anchor Free m.state.anchor m.state.cache free.ground b.parent own.met same in
            subst (λ (x : Round). IsLater x r) (sym (ap (λ (a : Anchor). a.round) top)) later
        of (inr cached) =
            later_trans m.state.anchor.round (w.header.round b.parent.block) r
            (cached-later w stored base p points point m.next m.state.anchor m.state.cache free.ground b.parent own.met cached
            (λ same. uncached_anchor w stored base p points point m.next m.state.anchor Free m.state.anchor m.state.cache free.ground
            (subst (λ (d : Digest). IsIn m.state.cache d) same cached)))
            later

    module _ (given : Handoff B) (x : ProposedBlock B U) (hands : Hands w.works w.shows build given x.block x.merkleized)
        (handed : handed_block given ≡ Some x.block) (turned : D) where
      fit : FitsRequest (setting w stored) (telling_of w.works) w.round_of base p asks (points b.parent.digest).1 x.block
      fit = fits b.ticket asks (points b.parent.digest).1 given x.block own.proposal own.job state hands.gives handed

      same_states : hands.states ≡ fit.after
      same_states = let both : Some hands.states ≡ Some fit.after = sym hands.steps ∙ fit.step in cc

      never_other : (fault : ProposalFault) → IsOther w (record b { build = turned }) x fault → ⊥
      never_other (Targets index expected found) f =
          let differs = f (own.own, hands.states) (points b.parent.digest ∷ own.below) few hands.shown in
          let agreed : w.kind.target_of hands.states ≡ w.works.meaning.targets x.block = ap w.kind.target_of same_states ∙ fit.targets in
          differs.0 (subst (λ (t : w.Targets). w.kind.Agrees t (w.works.meaning.targets x.block) index) (sym agreed)
          (laws.targets.agrees_same (w.works.meaning.targets x.block) index))
      never_other (Parent expected found) f = f.3 (f.2 ∙ fit.parent ∙ sym f.1)
      never_other (AnotherRound expected found) f = f.4 (f.3 ∙ fit.round ∙ sym f.2)

      module _ (block : Named B) (named : IsNamed w (record b { build = turned }) x block) where
        same_block : (y : Named B) → Met (setting w stored) p y → y.digest ≡ block.digest → y ≡ block
        same_block y met same =
            names b.ticket asks (points b.parent.digest).1 given block own.proposal own.job state hands.gives (handed ∙ ap (λ (c : B). Some c) (sym named.same))
            (named.digest ∙ ap (λ (c : B). sha256 (w.header.bytes c)) (sym named.same)) y block (inr (inr met)) (inl refl) same

        at_hand : IsAtHand m.state.anchor m.state.cache (w.header.parent block.block)
        at_hand = subst (λ (d : Digest). IsAtHand m.state.anchor m.state.cache d) (sym (ap w.header.parent named.same ∙ fit.parent)) own.at_hand

        later : IsLater m.state.anchor.round (w.header.round block.block)
        later = subst (λ (r : Round). IsLater m.state.anchor.round r) (sym (ap w.header.round named.same ∙ fit.round))
            (parent_later (w.round_of b.context) (rounds b.ticket asks own.proposal))

        never_missed : (how : How) → how ≡ Missed → Takes w.header m.state.anchor block x.merkleized m.state.cache m.state.cache how → ⊥
        never_missed how is (there any same) = cc
        never_missed how is (added away on hand same) = cc
        never_missed how is (missed away (inl early) same) = early later
        never_missed how is (missed away (inr orphan) same) = orphan at_hand

        keep-outside : (e : ExecError) → FaultsKeep w.header m.state.anchor block x.merkleized m.state.cache e → IsOutsideOf e
        keep-outside exec_error.OutOfMemory f = tt
        keep-outside (exec_error.PendingChanged before after) f =
            absurd (pending-same w stored p points m.next m.state.anchor m.state.cache s.cache.each block same_block before after f)
        keep-outside (exec_error.ProposalStale at round) f = absurd (never_missed Missed refl f.2)
        keep-outside e f = absurd f

      built-outside : (e : ExecError) → FaultsBuilt w (record b { build = turned }) m.state.anchor x m.state.cache e → IsOutsideOf e
      built-outside e (memory none) = outside-is e exec_error.OutOfMemory none tt
      built-outside e (other {fault = fault} is f) = absurd (never_other fault f)
      built-outside e (not_kept {block = block} asked named f) = keep-outside block named e f

    given-outside : (count : D → ℕ) (turned : D) (given : Handoff (ProposedBlock B U)) → HasTurn w count m.members b.build turned (Ok (Done given)) → (e : ExecError)
        → FaultsGiven w (record b { build = turned }) m.state.anchor given m.state.cache e → IsOutsideOf e
    given-outside count turned Wait had e f = outside-is e exec_error.OutOfMemory f tt
    given-outside count turned (Vote x) had e f =
        built-outside (Vote x.block) x (hands-vote w stored p points point m s plain free.ground.folded.tip_is located b h count turned x had) refl turned e f
    given-outside count turned (Stage x) had e f =
        built-outside (Stage x.block) x (hands-stage w stored p points point m s plain free.ground.folded.tip_is located b h count turned x had) refl turned e f

  -- the turn of a build
  pub build-outside : (build : Option (Building B C D)) → BuildStands w stored p points m.next m.state build → (count : D → ℕ) (j : ℕ)
      → BuildsFit (setting w stored) (telling_of w.works) w.round_of base p j → NamesBuilt w stored base p j → (e : ExecError)
      → FaultsTurn w count m build j e → IsOutsideOf e
  build-outside build h count j fits names e (failed {fault = fault} live had is) = outside-app e fault is
  build-outside build h count j fits names e (ending {b = b} {turned = turned} {given = given} live had f) =
      given-outside b (subst (λ (o : Option (Building B C D)). BuildStands w stored p points m.next m.state o) live.live h)
      (subst (λ (k : ℕ). BuildsFit (setting w stored) (telling_of w.works) w.round_of base p k) (sym live.job) fits)
      (subst (λ (k : ℕ). NamesBuilt w stored base p k) (sym live.job) names) count turned given had e f
