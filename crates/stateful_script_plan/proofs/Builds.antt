-- A line that asks for a build names the block that the build gives.
use Rattle.std.proofs.Common.{◌≡◌, ℕ, suc, ◌+◌, inl, inr, Bool, false, List, Some, slice_get, All, refl, sym, ap, ◌∙◌, arith}
use Rattle.std.specs.Prelude.{slice_index_or}
use Rattle.std.proofs.lemmas.List.Elements.{All-weaker}
use Rattle.std.proofs.lemmas.Option.{get_or_from_slice_get}
use Rattle.sha2.specs.Sha256.{sha256}
use Rattle.stateful_base.specs.declared.digest.Digest.{Digest}
use Rattle.stateful_base.specs.declared.number.Height.{Height}
use Rattle.stateful_base.specs.declared.outcome.Handoff.{Handoff}
use Rattle.stateful_base.specs.declared.outcome.Handoff.TheVariants.{Vote}
use Rattle.stateful_base.specs.declared.round.Round.{Round}
use Rattle.stateful_db.specs.declared.application.ProposalKind.{ProposalKind}
use Rattle.stateful_db.specs.declared.application.ProposalKind.TheVariants.{Prepare, Propose}
use Rattle.stateful_bank.specs.declared.block.BankBlock.{BankBlock}
use Rattle.stateful_bank.specs.declared.op.Op.{Op}
use Rattle.stateful_bank.specs.BankBlock.{block_bytes}
use Rattle.stateful_bank.specs.Proposal.{Builds, built_block}
use Rattle.stateful_bank.specs.declared.proposal.Proposal.{Proposal}
use Rattle.stateful_base.specs.declared.target.Target.{Target}
use Rattle.stateful_bank_app.specs.Rules.{Rules, stepped, bank_meaning}
use Rattle.stateful_bank_app.specs.Builds.{proposal_of}
use Rattle.stateful_bank_app.specs.Builds as bank
use Rattle.stateful_script.specs.Laws.{IsBuild, IsBuilt}
use Rattle.stateful_script.specs.declared.script.PlannedBlock.{PlannedBlock}
use Rattle.stateful_script.specs.declared.script.PlannedEvent.{PlannedEvent}
use Rattle.stateful_script.specs.declared.script.PlannedEvent.TheVariants as line
use Rattle.stateful_script_plan.specs.Plan.{Outlined, ArePlanned, child, block_on, targets_after, states_after, first_outlined, next_outlined, committed}
use Rattle.stateful_script_plan.specs.Builds.{asked, NamesBuild, NamesItsBuild, outlined_at}
use Rattle.stateful_script_plan.proofs.Outlines.{stands, outlined_named}

at_place : {X : Type 0} (xs : List X) (i : ℕ) (x d : X) → slice_get xs i ≡ Some x → slice_index_or xs i d ≡ x
at_place xs i x d h = get_or_from_slice_get xs i x d h

-- a block with the height and over the targets that a build gives it
abbrev block_with : Height → Round → Digest → ℕ → List Op → Bool → List Target → BankBlock
block_with height round parent slow ops wrong targets = record { height = height; round = round; parent = parent; slow = slow; ops = ops; targets = committed wrong targets }

same_with : (height above : Height) (round : Round) (parent digest : Digest) (slow : ℕ) (ops : List Op) (wrong : Bool) (targets after : List Target)
    → height.0 ≡ above.0 → parent ≡ digest → slow ≡ 0 → wrong ≡ false → targets ≡ after
    → block_with height round parent slow ops wrong targets ≡ block_with above round digest 0 ops false after
same_with height above round parent digest slow ops wrong targets after h p k w e =
    let same : height ≡ above = ap (λ (n : ℕ). let x : Height = record { 0 = n } in x) h in
    rw (same, p, k, w, e) refl

module _ {States Targets : Type 0} (rules : Rules States Targets) (target_of : States → Targets) (initial : States) where
  module _ (kind : ProposalKind) (decision : Handoff (Unit {0})) (parent : Outlined States) (c : PlannedBlock)
      (above : c.height.0 ≡ parent.planned.block.block.height.0 + 1) (slow : c.slow ≡ 0) (right : c.wrong ≡ false)
      (digest : parent.planned.block.digest ≡ record { 0 = sha256 (block_bytes parent.planned.block.block) }) where
    abbrev made : Outlined States
    made = next_outlined rules target_of initial parent c

    abbrev proposal : Proposal
    proposal = proposal_of (asked kind decision parent.planned made.planned)

    -- the block over the targets of these states
    over : (after : States) → states_after rules target_of initial parent c ≡ Some after → made.planned.block.block ≡ built_block proposal (bank.targets_after rules target_of after)
    unfolding child block_on
    over after leads =
        same_with c.height (record { 0 = parent.planned.block.block.height.0 + 1 }) c.round parent.planned.block.digest (record { 0 = sha256 (block_bytes parent.planned.block.block) }) c.slow c.ops c.wrong
        (targets_after rules target_of initial (states_after rules target_of initial parent c)) (targets_after rules target_of initial (Some after)) above digest slow right
        (ap (targets_after rules target_of initial) leads)

    same_ops : made.planned.block.block.ops ≡ c.ops
    unfolding child block_on
    same_ops = refl

    is_built : (s : States) (b : BankBlock) → parent.after ≡ Some s → Builds (bank_meaning rules).step (bank.targets_after rules target_of) proposal s b → b ≡ made.planned.block.block
    is_built s b after built =
        let ops : b.ops ≡ c.ops = ap (λ x. x.ops) built.block_is ∙ same_ops in
        let height : b.height.0 ≡ c.height.0 = ap (λ x. x.height.0) built.block_is ∙ sym above in
        let leads : stepped rules s c.ops c.height.0 ≡ Some built.after = rw (← ops, ← height) built.leads in
        built.block_is ∙ sym (over built.after (rw after leads))

    child_built : NamesBuild rules target_of initial kind decision parent made
    child_built s b after given = elim given [ inl vote ↦ is_built s b after vote.1 | inr stage ↦ is_built s b after stage.1 ]

  build_named : (lines : List PlannedBlock) (outline : List (Outlined States)) (parent place : ℕ) (kind : ProposalKind) (decision : Handoff (Unit {0}))
      → ArePlanned rules target_of initial lines outline → IsBuild lines parent place
      → NamesBuild rules target_of initial kind decision (outlined_at rules target_of initial outline parent) (outlined_at rules target_of initial outline place)
  build_named lines outline parent place kind decision planned b =
      let s = stands rules target_of initial lines outline planned b.before b.block b.there in
      let at_parent : slice_get outline parent ≡ Some s.parent = ap (slice_get outline) (sym b.on) ∙ s.there in
      let n = outlined_named rules target_of initial lines outline planned parent s.parent at_parent in
      let behind : place ≡ suc b.before = omega (arith, b.behind) in
      rw (at_place outline parent s.parent (first_outlined rules target_of initial) at_parent, behind, at_place outline (suc b.before) (next_outlined rules target_of initial s.parent b.block) (first_outlined rules target_of initial) s.is)
      (child_built kind decision s.parent b.block (rw n.height b.above) b.slow b.right n.digest)

  line_named : (lines : List PlannedBlock) (outline : List (Outlined States)) → ArePlanned rules target_of initial lines outline → (l : PlannedEvent) → IsBuilt lines l → NamesItsBuild rules target_of initial outline l
  line_named lines outline planned (line.Verify block alone) built = tt
  line_named lines outline planned (line.Prepare parent block decision) built = build_named lines outline parent block Prepare decision planned built
  line_named lines outline planned (line.Propose parent block) built = build_named lines outline parent block Propose (Vote tt) planned built
  line_named lines outline planned (line.Finalize block) built = tt
  line_named lines outline planned line.Subscribe built = tt
  line_named lines outline planned (line.Cancel ticket) built = tt
  line_named lines outline planned (line.Fetched fetch answer) built = tt
  line_named lines outline planned (line.Turn job) built = tt
  line_named lines outline planned (line.Flushed barrier database stopped) built = tt
  line_named lines outline planned line.Stop built = tt
  line_named lines outline planned (line.Restart processed keep) built = tt

  pub builds_are_named : (lines : List PlannedBlock) (outline : List (Outlined States)) (ls : List PlannedEvent) → ArePlanned rules target_of initial lines outline → All (IsBuilt lines) ls → All (NamesItsBuild rules target_of initial outline) ls
  builds_are_named lines outline ls planned = All-weaker (IsBuilt lines) (NamesItsBuild rules target_of initial outline) (line_named lines outline planned) ls
