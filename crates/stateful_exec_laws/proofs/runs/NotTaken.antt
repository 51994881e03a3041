-- Why the cache doesn't take a block, where names are true.
use Rattle.std.proofs.Common.{◌≡◌, inl, inr, ℕ, List, All, Option, Some, None, MatchOption, refl, sym, ap, ◌∙◌, subst}
use Rattle.stateful_base.specs.Names.{Named}
use Rattle.stateful_base.specs.Round.{IsLater}
use Rattle.stateful_base.specs.declared.anchor.Anchor.{Anchor}
use Rattle.stateful_base.specs.declared.digest.Digest.{Digest}
use Rattle.stateful_base.specs.declared.round.Round.{Round}
use Rattle.stateful_db.specs.declared.application.ProposedBlock.{ProposedBlock}
use Rattle.stateful_history.specs.Past.{Past}
use Rattle.stateful_history.specs.Met.{Met, TrueNames}
use Rattle.stateful_history.specs.declared.mark.How.TheVariants.{Missed}
use Rattle.stateful_table.specs.Table.{at}
use Rattle.stateful_exec_cache.specs.Cache.{IsAtHand}
use Rattle.stateful_exec_cache.specs.declared.cache.Cached.{Cached}
use Rattle.stateful_exec_pause.specs.Boundary.{step_by}
use Rattle.stateful_exec_model.specs.Built.{IsNamed, FaultsBuilt, memory, other, not_kept}
use Rattle.stateful_exec_model.specs.Causes.{FaultsEnd}
use Rattle.stateful_exec_tables.specs.Keeping.{step_in, ChangesPending, FaultsTake, missed}
use Rattle.stateful_exec_tables.specs.Keeping.{Takes}
use Rattle.stateful_exec_model.specs.Workings.{Workings, Point}
use Rattle.stateful_exec_pause.specs.declared.boundary.ExecutionStep.{ExecutionStep}
use Rattle.stateful_exec_model.specs.declared.building.Building.{Building}
use Rattle.stateful_exec_tables.specs.declared.error.ExecError.TheVariants.{PendingChanged, ProposalStale}
use Rattle.stateful_exec_tables.specs.declared.state.Tables.{Tables}
use Rattle.stateful_exec_tables.specs.declared.tables.LiveRun.{LiveRun}
use Rattle.stateful_exec_laws.specs.Setting.{setting}
use Rattle.stateful_exec_laws.specs.Building.{IsBuilding}
use Rattle.stateful_exec_laws.specs.Caching.{IsCached}
use Rattle.stateful_exec_laws.specs.Standing.{TablesStand}
use Rattle.stateful_exec_laws.proofs.ended.Stands.{running}

module _ {B C I P R D H G U : Type 0} (w : Workings B C I P R D H G U) (stored : ℕ → Option (Named B)) (p : Past B C I) (points : Digest → Point w) (next : w.Ids) (anchor : Anchor) where
  module _ (b : Named B) (named : (x : Named B) → Met (setting w stored) p x → x.digest ≡ b.digest → x ≡ b) where
    -- an entry of the block's digest is of the block's parent and round, where the digest names no other block
    entry-same : (e : Cached U) → IsCached w stored p points next anchor e → e.digest ≡ b.digest → step_in e ≡ step_by w.header b
    entry-same e c is =
        let one : c.block ≡ b = named c.block c.met (c.digest_is ∙ is) in
        let parent : e.parent ≡ w.header.parent b.block = sym c.parent_is ∙ ap (λ (x : Named B). w.header.parent x.block) one in
        let round : e.round ≡ w.header.round b.block = sym c.round_is ∙ ap (λ (x : Named B). w.header.round x.block) one in
        rw (is, parent, round) refl

    -- no entry is of another parent or round than the block of its digest
    pub never-changed : (cache : List (Cached U)) → All (IsCached w stored p points next anchor) cache → (before after : ExecutionStep) → ChangesPending w.header b cache before after → ⊥
    never-changed cache each before after changes =
        let e = changes.0.1 in
        let c : IsCached w stored p points next anchor e = subst (IsCached w stored p points next anchor) changes.0.3 (each changes.0.0 e changes.0.2) in
        changes.2 (sym changes.0.4.1 ∙ entry-same e c changes.0.4.0 ∙ sym changes.1)

  -- a built block is missed for its round alone, since its parent is at hand
  missed-by_round : (cache more : List (Cached U)) (block : Named B) (batch : U) → IsAtHand anchor cache (w.header.parent block.block) → Takes w.header anchor block batch cache more Missed
      → IsLater anchor.round (w.header.round block.block) → ⊥
  missed-by_round cache more block batch at_hand (missed new away is) = elim away [ inl early ↦ early | inr gone ↦ absurd (gone at_hand) ]

  -- A built block is refused as stale for its round alone: it isn't later than the anchor.
  pub stale-by_round : (cache : List (Cached U)) (b : Building B C D) → IsBuilding w stored p points next anchor cache b → (proposed : ProposedBlock B U) (tip round : Round)
      → FaultsBuilt w b anchor proposed cache (ProposalStale tip round) → (tip ≡ anchor.round) × (round ≡ w.header.round proposed.block) × (IsLater tip round → ⊥)
  stale-by_round cache b h proposed tip round (memory is) = cc
  stale-by_round cache b h proposed tip round (other is differs) = cc
  stale-by_round cache b h proposed tip round (not_kept {block = block} asked named fault) =
      let at_hand : IsAtHand anchor cache (w.header.parent block.block) =
      subst (λ (d : Digest). IsAtHand anchor cache d) (sym (ap (λ x. w.header.parent x) named.same ∙ asked.parent)) h.at_hand in
      let early = missed-by_round cache cache block proposed.merkleized at_hand fault.2 in
      let same : round ≡ w.header.round proposed.block = fault.1 ∙ ap (λ x. w.header.round x) named.same in
      (fault.0, same, λ later. early (rw (fault.0, fault.1) at later))

  -- No built block is refused for an entry of another parent or round, where its digest names no other block.
  pub built-never-changed : (cache : List (Cached U)) → All (IsCached w stored p points next anchor) cache → (b : Building B C D) (proposed : ProposedBlock B U)
      → ((block : Named B) → IsNamed w b proposed block → (x : Named B) → Met (setting w stored) p x → x.digest ≡ block.digest → x ≡ block)
      → (before after : ExecutionStep) → FaultsBuilt w b anchor proposed cache (PendingChanged before after) → ⊥
  built-never-changed cache each b proposed apart before after (memory is) = cc
  built-never-changed cache each b proposed apart before after (other is differs) = cc
  built-never-changed cache each b proposed apart before after (not_kept {block = block} asked named fault) = never-changed block (apart block named) cache each before after fault

module _ {B C I P R D H G U : Type 0} (w : Workings B C I P R D H G U) (stored : ℕ → Option (Named B)) (p : Past B C I) (points : Digest → Point w) (point : Point w) (next : w.Ids) (v : Tables B C I R U) (s : TablesStand w stored p points point next v) (names : TrueNames (setting w stored) p) where
  -- No end of a run is refused for an entry of another parent or round, where names are true.
  pub run-never-changed : (j : ℕ) (before after : ExecutionStep) → FaultsEnd w v j (PendingChanged before after) → ⊥
  run-never-changed j before after = go (at v.runs j) refl
    where
      go : (o : Option (LiveRun B R)) → at v.runs j ≡ o → MatchOption o ⊥ (λ live. FaultsTake w.header live.block v.cache (PendingChanged before after)) → ⊥
      go None is fault = absurd fault
      go (Some live) is fault =
          let r = running w stored p points point next v s j live is in
          never-changed w stored p points next v.anchor live.block (λ x met same. names x live.block met r.met same) v.cache s.cache.each before after fault
