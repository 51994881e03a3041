-- After an opening the ground of reasons is there, and what stays beside the tables does so: nothing goes on.
use Rattle.std.proofs.Common.{◌≡◌, ◌⊎◌, ℕ, List, [], All, Option, Some, refl, sym, ap, ◌∙◌, subst}
use Rattle.std.proofs.lemmas.List.Elements.{All-nil}
use Rattle.stateful_base.specs.Names.{Named}
use Rattle.stateful_base.specs.declared.anchor.Anchor.{Anchor}
use Rattle.stateful_base.specs.declared.digest.Digest.{Digest}
use Rattle.stateful_history.specs.Anchors.{applied, anchor_of, tip_of}
use Rattle.stateful_history.specs.Known.{Known}
use Rattle.stateful_history.specs.Met.{TrueNames}
use Rattle.stateful_history.specs.Past.{Past}
use Rattle.stateful_history.specs.States.{fold}
use Rattle.stateful_exec_model.specs.Workings.{Workings, Point}
use Rattle.stateful_exec_pause.specs.declared.pause.Pause.TheVariants.{Free}
use Rattle.stateful_exec_walk.specs.declared.request.Proposal.{Proposal}
use Rattle.stateful_exec_tables.specs.declared.state.Tables.{Tables}
use Rattle.stateful_exec_tables.specs.declared.tables.LiveRun.{LiveRun}
use Rattle.stateful_exec_tables.specs.declared.tables.Requested.{Requested}
use Rattle.stateful_exec_laws.specs.Setting.{setting}
use Rattle.stateful_exec_laws.specs.Beside.{StaysBeside}
use Rattle.stateful_exec_laws.specs.Gathering.{IsGathered, GatheringsStand}
use Rattle.stateful_exec_laws.specs.Outstanding.{GoesOnTurning, RunsGoOn}
use Rattle.stateful_exec_laws.specs.Reaching.{IsLost, QueueReaches}
use Rattle.stateful_exec_laws.specs.Standing.{TablesStand}
use Rattle.stateful_exec_laws.specs.Ways.{IsOnOpenWay, WaysStand}
use Rattle.stateful_exec_laws.proofs.reasons.Ground.{IsOfBlock, IsGround}

module _ {B C I P R D H G U : Type 0} (w : Workings B C I P R D H G U) (stored : ℕ → Option (Named B)) (base : w.States) (p : Past B C I) (points : Digest → Point w) (point : Point w) (next : w.Ids) (v : Tables B C I R U) where
  -- The ground is there where nothing was applied, the databases hold the states that the history is based on, and the anchor, of a
  -- met block, is the tip.
  pub IsGround-opened : TablesStand w stored p points point next v → v.pause ≡ Free → anchor_of w.header p ≡ Some v.anchor → tip_of w.header p ≡ Some v.anchor → applied p ≡ [] → base ≡ point.1 → IsOfBlock w stored p v.anchor → TrueNames (setting w stored) p
      → IsGround w stored base p points point next v.anchor v.pause v.anchor v.cache
  IsGround-opened stands free anchor_is tip_is none holds top names = record {
    stands = stands.cache;
    at_anchor = stands.at_anchor;
    names = names;
    folded = record {
      anchor_is = anchor_is;
      tip_is = tip_is;
      folded = ap (λ (bs : List (Named B)). fold (setting w stored) (Some base) bs) none ∙ ap (λ (t : w.States). Some t) holds;
    };
    top = top;
    tip_by = rw free refl;
  }

  -- no run goes on, and no proposal is queued
  pub StaysBeside-opened : v.runs ≡ [] → v.queued ≡ [] → StaysBeside w stored base p v
  StaysBeside-opened no_run no_proposal = record {
    runs = subst (λ (rs : List (ℕ × LiveRun B R)). RunsGoOn w stored base p rs) (sym no_run) (All-nil (λ (e : ℕ × LiveRun B R). GoesOnTurning w stored base p e.0 e.1));
    queue = subst (λ (es : List (ℕ × Proposal B C I)). QueueReaches w stored base p es) (sym no_proposal) (All-nil (λ (e : ℕ × Proposal B C I). Known (setting w stored) p e.1.ancestry.first.digest ⊎ IsLost w stored base p e.1.ancestry.first));
  }

  -- no request is on its way
  pub WaysStand-opened : (tip : Anchor) → v.requests ≡ [] → WaysStand w stored p tip v
  WaysStand-opened tip none = subst (λ (rs : List (ℕ × Requested B C I)). All (λ e. IsOnOpenWay w stored p tip v.pause v.anchor v.cache e.1.request e.1.phase) rs) (sym none) (All-nil (λ (e : ℕ × Requested B C I). IsOnOpenWay w stored p tip v.pause v.anchor v.cache e.1.request e.1.phase))

  pub GatheringsStand-opened : v.requests ≡ [] → GatheringsStand (setting w stored) p v.requests
  GatheringsStand-opened none = subst (λ (rs : List (ℕ × Requested B C I)). GatheringsStand (setting w stored) p rs) (sym none) (All-nil (λ (e : ℕ × Requested B C I). IsGathered (setting w stored) p e.1))
