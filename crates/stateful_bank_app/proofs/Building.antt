-- One turn of a build.
use Rattle.std.proofs.Common.{◌≡◌, ℕ, ◌+◌, ◌<◌, true, List, ◌∷◌, Option, Some, None, IsSomeAnd, refl, ap, sym, ◌∙◌, subst}
use Rattle.stateful_base.specs.declared.target.Target.{Target}
use Rattle.stateful_base.specs.declared.outcome.Handoff.{Handoff}
use Rattle.stateful_base.specs.declared.outcome.Handoff.TheVariants.{Wait, Vote, Stage}
use Rattle.stateful_base.specs.declared.outcome.Moved.TheVariants.{Done}
use Rattle.stateful_db.specs.Works.{BuildEnds, Hands, build_chain}
use Rattle.stateful_db.specs.declared.application.ProposedBlock.{ProposedBlock}
use Rattle.stateful_bank.specs.declared.op.Op.{Op}
use Rattle.stateful_bank.specs.declared.block.BankBlock.{BankBlock}
use Rattle.stateful_bank.specs.declared.proposal.Proposal.{Proposal}
use Rattle.stateful_bank.specs.Op.{accept}
use Rattle.stateful_bank.specs.Proposal.{IsDeclined, HasNoStates, built_block, Builds}
use Rattle.stateful_bank_app.specs.Rules.{Rules, bank_meaning, stepped, turns_of}
use Rattle.stateful_bank_app.specs.Draft.{IsAmong}
use Rattle.stateful_bank_app.specs.Progress.{Shows, HasDone, Advances}
use Rattle.stateful_bank_app.specs.Runs.{LeadsToFull, LeadsToRoom}
use Rattle.stateful_bank_app.specs.Builds.{BankBuildOf, IsBuild, proposal_of, targets_after, bank_gives}
use Rattle.stateful_bank_app.specs.Works.{bank_works}
use Rattle.stateful_bank_app.specs.declared.progress.Progress.{Progress}
use Rattle.stateful_bank_app.specs.declared.progress.Advanced.{Advanced}
use Rattle.stateful_bank_app.specs.declared.progress.Advanced.TheVariants.{Refused, Further, Complete}
use Rattle.stateful_bank_app.specs.declared.build.BankBuild.{BankBuild}

module _ {U M Ids States Targets : Type 0} (w : Rules States Targets) (Holds : U → w.Changes → Ids → Ids × States → List (Ids × States) → Type 0) (target_of : States → Targets) (Sealed : M → List (Ids × States) → Type 0) where
  -- the states behind all operations of a proposal
  abbrev pub states_of : (b : BankBuildOf Ids States) → Proposal → w.Changes → States
  states_of b p changes = w.sealed b.at.1 changes p.ops (p.height.0 + 1)

  -- a sealed batch is handed over with the block over its targets
  module _ (b : BankBuildOf Ids States) (p : Proposal) (batch : U) (shows : Shows w Holds batch p.ops b.own b.at b.below) where
    leads : (targets : List Target) → stepped w b.at.1 (built_block p targets).ops (built_block p targets).height.0 ≡ Some (states_of b p shows.changes)
    leads targets = rw shows.after

    builds : (targets : List Target) → (IsDeclined p → ⊥) → accept p.ops ≡ true → targets ≡ targets_after w target_of (states_of b p shows.changes) → Builds (bank_meaning w).step (targets_after w target_of) p b.at.1 (built_block p targets)
    builds targets asked good targets_are = record {
      asked = asked;
      acceptable = good;
      after = states_of b p shows.changes;
      block_is = ap (built_block p) targets_are;
      leads = leads targets;
    }

    module _ (same : p ≡ proposal_of b.asked) (targets : List Target) (block : BankBlock) (m : M) (asked : IsDeclined p → ⊥) (good : accept p.ops ≡ true) (targets_are : targets ≡ targets_after w target_of (states_of b p shows.changes)) (block_is : block ≡ built_block p targets) (shown : Sealed m (build_chain b (states_of b p shows.changes))) where
      built : Builds (bank_meaning w).step (targets_after w target_of) p b.at.1 block
      built = subst (Builds (bank_meaning w).step (targets_after w target_of) p b.at.1) (sym block_is) (builds targets asked good targets_are)

      steps : stepped w b.at.1 block.ops block.height.0 ≡ Some (states_of b p shows.changes)
      steps = subst (λ z. stepped w b.at.1 z.ops z.height.0 ≡ Some (states_of b p shows.changes)) (sym block_is) (leads targets)

      hands_vote : p.decision ≡ Vote tt → Hands (bank_works w Holds target_of) Sealed b (Vote block) block m
      hands_vote decision = record {
        gives = subst (λ z. (z.decision ≡ Vote tt) × Builds (bank_meaning w).step (targets_after w target_of) z b.at.1 block) same (decision, built);
        states = states_of b p shows.changes;
        steps = steps;
        shown = shown;
      }

      hands_stage : p.decision ≡ Stage tt → Hands (bank_works w Holds target_of) Sealed b (Stage block) block m
      hands_stage decision = record {
        gives = subst (λ z. (z.decision ≡ Stage tt) × Builds (bank_meaning w).step (targets_after w target_of) z b.at.1 block) same (decision, built);
        states = states_of b p shows.changes;
        steps = steps;
        shown = shown;
      }

    module _ (place : Option (Ids × States)) (at : IsAmong place (b.at ∷ b.below)) (ops : List Op) (ops_are : ops ≡ p.ops) (height : ℕ) (height_is : height ≡ p.height.0 + 1) where
      same_behind : w.sealed b.at.1 shows.changes ops height ≡ states_of b p shows.changes
      same_behind = ap (λ z. w.sealed b.at.1 shows.changes z height) ops_are ∙ ap (w.sealed b.at.1 shows.changes p.ops) height_is

      module _ (Full : States → Type 0) where
        -- where no number is left for it, the block's states are at the end of the numbers
        pub finish_full : ((changes : w.Changes) (i : Ids) (q : Ids × States) (c : List (Ids × States)) → Holds batch changes i q c → IsAmong place (q ∷ c) → Full (w.sealed q.1 changes ops height)) → LeadsToFull w Full b.at.1 p.ops (p.height.0 + 1)
        finish_full ended = record {
          after = states_of b p shows.changes;
          leads = rw shows.after;
          is_full = subst Full same_behind (ended shows.changes b.own b.at b.below shows.holds at);
        }

        -- where it is sealed, the block's states are below that end
        pub finish_room : ((changes : w.Changes) (i : Ids) (q : Ids × States) (c : List (Ids × States)) → Holds batch changes i q c → IsAmong place (q ∷ c) → Full (w.sealed q.1 changes ops height) → ⊥) → LeadsToRoom w Full b.at.1 p.ops (p.height.0 + 1)
        finish_room below = record {
          after = states_of b p shows.changes;
          leads = rw shows.after;
          has_room = λ full. below shows.changes b.own b.at b.below shows.holds at (subst Full (sym same_behind) full);
        }

      module _ (sealed : Option M) (seals : (changes : w.Changes) (i : Ids) (q : Ids × States) (c : List (Ids × States)) → Holds batch changes i q c → IsAmong place (q ∷ c) → IsSomeAnd sealed (λ m. Sealed m ((i, w.sealed q.1 changes ops height) ∷ q ∷ c))) where
        seal_shows : IsSomeAnd sealed (λ m. Sealed m (build_chain b (states_of b p shows.changes)))
        seal_shows = subst (λ s. IsSomeAnd sealed (λ m. Sealed m (build_chain b s))) same_behind (seals shows.changes b.own b.at b.below shows.holds at)

        -- the batch isn't stale
        pub is_sealed : sealed ≡ None → ⊥
        is_sealed none = subst (λ o. IsSomeAnd o (λ m. Sealed m (build_chain b (states_of b p shows.changes)))) none seal_shows

        module _ (m : M) (is : sealed ≡ Some m) (targets : List Target) (targets_are : (r : Ids × States) (d : List (Ids × States)) → Sealed m (r ∷ d) → targets ≡ targets_after w target_of r.1) (block : BankBlock) (block_is : block ≡ built_block p targets) (asked : IsDeclined p → ⊥) (good : accept p.ops ≡ true) where
          shown : Sealed m (build_chain b (states_of b p shows.changes))
          shown = subst (λ o. IsSomeAnd o (λ m. Sealed m (build_chain b (states_of b p shows.changes)))) is seal_shows

          targets_of : targets ≡ targets_after w target_of (states_of b p shows.changes)
          targets_of = targets_are (b.own, states_of b p shows.changes) (b.at ∷ b.below) shown

          pub voted : p ≡ proposal_of b.asked → p.decision ≡ Vote tt → Hands (bank_works w Holds target_of) Sealed b (Vote block) block m
          voted same decision = hands_vote same targets block m asked good targets_of block_is shown decision

          pub staged : p ≡ proposal_of b.asked → p.decision ≡ Stage tt → Hands (bank_works w Holds target_of) Sealed b (Stage block) block m
          staged same decision = hands_stage same targets block m asked good targets_of block_is shown decision

  -- what ends a build hangs on nothing behind it
  pub ends : (given : Handoff (ProposedBlock BankBlock M)) (b : BankBuildOf Ids States) (Left : Type 0) → BuildEnds (bank_works w Holds target_of) (Done given) Sealed b ⊥ → BuildEnds (bank_works w Holds target_of) (Done given) Sealed b Left
  ends Wait b Left h = h
  ends (Vote given) b Left h = h
  ends (Stage given) b Left h = h

  module _ (build : BankBuild U) (b : BankBuildOf Ids States) (turns : ℕ) (is : IsBuild w Holds build b turns) (p : Proposal) (progress : Progress U) (held : build.work ≡ Some (p, progress)) where
    both : ◌≡◌ {A = Proposal × Progress U} (p, progress) (proposal_of b.asked, is.progress)
    both = let kept = is.work_is in cc

    pub same : p ≡ proposal_of b.asked
    same = ap (λ z. z.0) both

    count : progress.done ≡ turns
    count = ap (λ z. z.1.done) both ∙ is.turns_are

    module _ (place : Option (Ids × States)) (ops : List Op) (ops_are : ops ≡ p.ops) (at : IsAmong place (b.at ∷ b.below)) (advanced : Advanced U) (next : (i : Ids) (r : Ids × States) (c : List (Ids × States)) → HasDone w Holds progress ops i r c → IsAmong place (r ∷ c) → Advances w Holds advanced progress.done ops i r c) where
      ops_of : ops ≡ (proposal_of b.asked).ops
      ops_of = ops_are ∙ ap (λ z. z.ops) same

      went : Advances w Holds advanced progress.done (proposal_of b.asked).ops b.own b.at b.below
      went =
          let done : HasDone w Holds progress ops b.own b.at b.below = subst (λ z. HasDone w Holds progress z b.own b.at b.below) (sym ops_of) (subst (λ z. HasDone w Holds z (proposal_of b.asked).ops b.own b.at b.below) (ap (λ z. z.1) (sym both)) is.done) in
          subst (λ z. Advances w Holds advanced progress.done z b.own b.at b.below) ops_of (next b.own b.at b.below done at)

      went_to : (a : Advanced U) → advanced ≡ a → Advances w Holds a progress.done (proposal_of b.asked).ops b.own b.at b.below
      went_to a reached = subst (λ z. Advances w Holds z progress.done (proposal_of b.asked).ops b.own b.at b.below) reached went

      -- a refused operation leads to no states
      pub refused_ends : advanced ≡ Refused → bank_gives w target_of b.asked b.at.1 Wait
      refused_ends reached = HasNoStates (λ targets. rw (went_to Refused reached).0 refl)

      pub refused_cost : advanced ≡ Refused → turns_of w b.at.1 b.asked.input.ops ≡ turns + 1
      refused_cost reached = (went_to Refused reached).1 ∙ ap (λ n. n + 1) count

      -- the build goes on behind an allowed operation
      pub further_build : (left : Progress U) (new : BankBuild U) → advanced ≡ Further left → new.work ≡ Some (p, left) → IsBuild w Holds new b (turns + 1)
      further_build left new reached held_now =
          let behind = went_to (Further left) reached in
          record {
            progress = left;
            work_is = held_now ∙ ap (λ z. Some (z, left)) same;
            turns_are = behind.1 ∙ ap (λ n. n + 1) count;
            done = behind.0;
          }

      pub further_cost : (left : Progress U) → advanced ≡ Further left → turns + 1 < turns_of w b.at.1 b.asked.input.ops
      further_cost left reached = subst (λ n. n + 1 < turns_of w b.at.1 b.asked.input.ops) count (went_to (Further left) reached).2

      module _ (batch : U) (reached : advanced ≡ Complete batch) where
        pub complete_shows : Shows w Holds batch p.ops b.own b.at b.below
        complete_shows = subst (λ z. Shows w Holds batch z.ops b.own b.at b.below) (sym same) (went_to (Complete batch) reached).0

        pub complete_cost : turns_of w b.at.1 b.asked.input.ops ≡ turns + 1
        complete_cost = (went_to (Complete batch) reached).1 ∙ ap (λ n. n + 1) count
