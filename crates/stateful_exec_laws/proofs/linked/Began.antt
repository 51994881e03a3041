-- What was gathered stays linked, and the parents of queued proposals known or lost, where a finalization begins.
use Rattle.std.proofs.Common.{◌≡◌, ◌≤◌, ℕ, List, ◌∷◌, Option, Some}
use Rattle.std.proofs.lemmas.List.Elements.{All-weaker}
use Rattle.stateful_base.specs.Names.{Named}
use Rattle.stateful_base.specs.Round.{IsLater}
use Rattle.stateful_base.specs.declared.digest.Digest.{Digest}
use Rattle.stateful_history.specs.Met.{Met, TrueNames}
use Rattle.stateful_history.specs.Past.{Past, Made, after}
use Rattle.stateful_history.specs.Setting.{parent_of}
use Rattle.stateful_history.specs.declared.mark.Mark.{Mark}
use Rattle.stateful_history.specs.declared.mark.Mark.TheVariants.{Began}
use Rattle.stateful_exec_pause.specs.Boundary.{Boundary}
use Rattle.stateful_exec_pause.specs.Boundary.{IsBoundaryOf}
use Rattle.stateful_exec_tables.specs.Pausing.{Pauses}
use Rattle.stateful_exec_model.specs.Workings.{Workings, Point}
use Rattle.stateful_exec_pause.specs.declared.pause.Pause.TheVariants.{Free}
use Rattle.stateful_exec_tables.specs.declared.state.Tables.{Tables}
use Rattle.stateful_exec_tables.specs.declared.tables.Requested.{Requested}
use Rattle.stateful_exec_laws.specs.Setting.{setting}
use Rattle.stateful_exec_laws.specs.Gathering.{IsGathered, GatheringsStand}
use Rattle.stateful_exec_laws.specs.Standing.{TablesStand}
use Rattle.stateful_exec_laws.proofs.front.GroundBegun.{IsGround-began}
use Rattle.stateful_exec_laws.proofs.linked.Fetched.{StaysLinked-paused}
use Rattle.stateful_exec_laws.proofs.linked.On.{StaysLinked, met_on}
use Rattle.stateful_exec_laws.proofs.pauses.Begins.{CacheStands-began}
use Rattle.stateful_exec_laws.proofs.linked.QueueBegan.{QueueReaches-began}
use Rattle.stateful_exec_laws.proofs.linked.QueueServed.{queue-met}
use Rattle.stateful_exec_laws.proofs.reasons.Ground.{IsGround}

module _ {B C I P R D H G U : Type 0} (w : Workings B C I P R D H G U) (stored : ℕ → Option (Named B)) (base : w.States) (p : Past B C I)
    (points : Digest → Point w) (point : Point w) (next : w.Ids) (old new : Tables B C I R U) (s : TablesStand w stored p points point next old)
    (g : IsGround w stored base p points point next old.anchor Free old.anchor old.cache) (t : ℕ) (b : Named B) (boundary : Boundary)
    (is_boundary : IsBoundaryOf w.header b old.cache boundary) (met : Met (setting w stored) p b)
    (on_anchor : parent_of (setting w stored) b ≡ old.anchor.digest) (higher : old.anchor.height.0 ≤ w.header.height b.block)
    (later : IsLater old.anchor.round (w.header.round b.block)) (h : StaysLinked w stored base p old) where
  abbrev q : Past B C I
  q = Made (Began t b) ∷ p

  gathered_on : GatheringsStand (setting w stored) q old.requests
  gathered_on = All-weaker (λ (e : ℕ × Requested B C I). IsGathered (setting w stored) p e.1) (λ e. IsGathered (setting w stored) q e.1)
      (λ e k. record { linked = k.linked; fetched = k.fetched }) old.requests h.gatherings

  began : StaysLinked w stored base q old
  began = record {
    gatherings = gathered_on;
    reaches = QueueReaches-began w stored base p points point next old.anchor old.cache g t b boundary is_boundary.digest_is
        (IsGround-began w stored base p points point next old.anchor old.cache g b met t boundary is_boundary on_anchor higher later
        (CacheStands-began w stored p t b points next old.anchor old.cache (record {
          names = g.names;
          met = met;
          tip_is = g.folded.tip_is;
          top = g.top.block;
          top_met = g.top.met;
          named = g.top.is;
        }) boundary is_boundary g.stands))
        met on_anchor later higher old.queued (queue-met w stored p old.queued old.recovered s.queue) h.reaches;
  }

  -- It stays so where the finalization of a child of the anchor begins, of a later round, and fetches are withdrawn for it.
  pub StaysLinked-began : (marks : List (Mark B)) → TrueNames (setting w stored) (after p (Began t b ∷ marks)) → Pauses (Some boundary) old new marks
      → StaysLinked w stored base (after p (Began t b ∷ marks)) new
  StaysLinked-began marks names pauses = StaysLinked-paused w stored base (Some boundary) q old new marks names
      (met_on w stored base p (Made (Began t b)) old.queued (queue-met w stored p old.queued old.recovered s.queue)) pauses began
