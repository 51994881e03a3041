-- The live build stands behind what says nothing of it.
use Rattle.std.proofs.Common.{◌<◌, ◌≡◌, ℕ, List, ◌∷◌, Option, Some, None, IfSome, refl, sym, ◌∙◌, subst}
use Rattle.stateful_base.specs.Names.{Named}
use Rattle.stateful_base.specs.declared.anchor.Anchor.{Anchor}
use Rattle.stateful_base.specs.declared.digest.Digest.{Digest}
use Rattle.stateful_db.specs.Works.{build_of}
use Rattle.stateful_history.specs.Past.{Past, Item}
use Rattle.stateful_history.specs.Jobs.{IsLiveJob, started_for, turns}
use Rattle.stateful_history.specs.Joined.{WasBuilt}
use Rattle.stateful_history.specs.Live.{live_job, live_ticket}
use Rattle.stateful_history.specs.Requests.{proposed}
use Rattle.stateful_history.specs.declared.mark.JobKind.TheVariants.{Build}
use Rattle.stateful_exec_cache.specs.Cache.{IsAtHand}
use Rattle.stateful_exec_cache.specs.declared.cache.Cached.{Cached}
use Rattle.stateful_exec_model.specs.Workings.{Workings, Point}
use Rattle.stateful_exec_model.specs.declared.building.Building.{Building}
use Rattle.stateful_exec_tables.specs.declared.state.Tables.{Tables}
use Rattle.stateful_exec_laws.specs.Chains.{Chain}
use Rattle.stateful_exec_laws.specs.Building.{IsBuilding, IsElsewhere, BuildStands}
use Rattle.stateful_exec_laws.proofs.requests.Calm.{LeavesJob}
use Rattle.stateful_exec_laws.proofs.requests.Asking.{LeavesTicket}
use Rattle.stateful_exec_laws.proofs.ended.Runs.{Moves}
use Rattle.stateful_exec_laws.proofs.runs.Spared.{Moves-longer}

module _ {B C I P R D H G U : Type 0} (w : Workings B C I P R D H G U) (stored : ℕ → Option (Named B)) (p q : Past B C I) (points now : Digest → Point w) (anchor : Anchor) (cache : List (Cached U)) (moves : Moves w stored p q points now anchor cache)
    (next ids : w.Ids) (keeps : (c : List (Point w)) → w.kind.issued next c → w.kind.issued ids c) (more : List (Cached U)) (grows : (d : Digest) → IsAtHand anchor cache d → IsAtHand anchor more d) where
  -- a build stands, whose job and whose request aren't touched
  pub IsBuilding-moved : (b : Building B C D) → live_job b.job q ≡ live_job b.job p → started_for b.job q ≡ started_for b.job p → turns b.job q ≡ turns b.job p → live_ticket b.ticket q ≡ live_ticket b.ticket p → proposed b.ticket q ≡ proposed b.ticket p
      → IsBuilding w stored p points next anchor cache b → IsBuilding w stored q now ids anchor more b
  IsBuilding-moved b live started turned alive asks h =
      let same : points b.parent.digest ≡ now b.parent.digest = sym (moves.same b.parent.digest h.at_hand) in
      record {
        input = h.input;
        proposal = record { live = alive ∙ h.proposal.live; proposes = asks ∙ h.proposal.proposes };
        job = record { live = live ∙ h.job.live; is = started ∙ h.job.is };
        met = moves.met b.parent h.met;
        at_hand = grows b.parent.digest h.at_hand;
        below = h.below;
        chain = subst (λ (x : Point w). Chain w stored q now anchor.digest b.parent.digest (x ∷ h.below)) same (moves.chain b.parent.digest _ h.at_hand h.chain);
        own = h.own;
        drawn = λ s. subst (λ (x : Point w). w.kind.issued ids ((h.own, s) ∷ x ∷ h.below)) same (keeps _ (h.drawn s));
        provider = h.provider;
        builds = rw turned (subst (λ (x : Point w). w.works.building b.build (build_of (record { kind = b.kind; context = b.context; parent = b.parent.block; input = h.input }) h.provider h.own x h.below) (turns b.job p)) same h.builds);
        unfinished = rw turned (subst (λ (x : Point w). (n : ℕ) → w.works.build_cost (record { kind = b.kind; context = b.context; parent = b.parent.block; input = h.input }) x.1 ≡ Some n → turns b.job p < n) same h.unfinished);
      }

module _ {B C I P R D H G U : Type 0} (w : Workings B C I P R D H G U) (stored : ℕ → Option (Named B)) (p : Past B C I) where
  -- the item says nothing of the live build, and starts no other one
  pub record SparesBuild (x : Item B C I) (build : Option (Building B C D)) : Type 0 where
    pub built : (d : Digest) → WasBuilt p d → WasBuilt (x ∷ p) d
    pub job : IfSome build (λ b. LeavesJob p x b.job)
    pub ticket : IfSome build (λ b. LeavesTicket p x b.ticket)
    pub builds : (j : ℕ) (d : Digest) → IsLiveJob j Build d (x ∷ p) → IsLiveJob j Build d p

  module _ (points : Digest → Point w) (next : w.Ids) (v : Tables B C I R U) where
    -- the live build stands behind such an item
    pub BuildStands-spared : (x : Item B C I) (build : Option (Building B C D)) → SparesBuild x build → BuildStands w stored p points next v build → BuildStands w stored (x ∷ p) points next v build
    BuildStands-spared x None h s = record { each = tt; elsewhere = tt; complete = λ j d live. s.complete j d (h.builds j d live) }
    BuildStands-spared x (Some b) h s = record {
      each = IsBuilding-moved w stored p (x ∷ p) points points v.anchor v.cache (Moves-longer w stored p x h.built points v.anchor v.cache) next next (λ c d. d) v.cache (λ d at_hand. at_hand) b
          h.job.live h.job.started h.job.turns h.ticket.live h.ticket.proposed s.each;
      elsewhere = s.elsewhere;
      complete = λ j d live. s.complete j d (h.builds j d live);
    }

    -- the live build stands beside other tables over the same anchor, with what was at hand
    pub BuildStands-tables : (ids : w.Ids) → ((c : List (Point w)) → w.kind.issued next c → w.kind.issued ids c) → (now : Tables B C I R U) → now.anchor ≡ v.anchor → ((d : Digest) → IsAtHand v.anchor v.cache d → IsAtHand v.anchor now.cache d)
        → (build : Option (Building B C D)) → IfSome build (λ b. IsElsewhere now b.ticket) → BuildStands w stored p points next v build → BuildStands w stored p points ids now build
    BuildStands-tables ids keeps now same grows None elsewhere s = record { each = tt; elsewhere = tt; complete = s.complete }
    BuildStands-tables ids keeps now same grows (Some b) elsewhere s = record {
      each = subst (λ (a : Anchor). IsBuilding w stored p points ids a now.cache b) (sym same)
          (IsBuilding-moved w stored p p points points v.anchor v.cache (record { met = λ c m. m; same = λ d at_hand. refl; chain = λ d c at_hand chain. chain }) next ids keeps now.cache grows b refl refl refl refl refl s.each);
      elsewhere = elsewhere;
      complete = s.complete;
    }
