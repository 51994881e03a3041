-- What the media keep is kept by databases that keep their checkpoints, after an apply, and at an opening.
use Rattle.std.proofs.Common.{◌≡◌, ◌≤◌, ◌<◌, ◌+◌, ⊎_elim, ℕ, Option, Some, sym, ◌∙◌, subst, arith}
use Rattle.std.proofs.lemmas.Bool.{cases_lt}
use Rattle.stateful_base.specs.Anchor.{anchor_by}
use Rattle.stateful_base.specs.Names.{Named}
use Rattle.stateful_base.specs.declared.anchor.Anchor.{Anchor}
use Rattle.stateful_db.specs.Databases.{Databases, Preserves, IsOpening}
use Rattle.stateful_db.specs.Laws.{Laws}
use Rattle.stateful_history.specs.Durable.{durable}
use Rattle.stateful_history.specs.Past.{Past}
use Rattle.stateful_exec_model.specs.Workings.{Workings, Point}
use Rattle.stateful_exec_laws.specs.Setting.{setting}
use Rattle.stateful_loop_laws.specs.Checkpoints.{Keeping}
use Rattle.stateful_loop_laws.specs.Media.{KeepsAt, KeepsDurably, targets_of, KeepsReopenable, HasHeight, KeepsHeights}

module _ {Ids S T : Type 0} (d : Databases Ids S T) (old new : d.Members) (p : Preserves d old new) (t : T) (i : ℕ) (within : i < d.count) where
  pub KeepsAt-preserved : (place : ℕ) → KeepsAt d old t i place → KeepsAt d new t i place
  KeepsAt-preserved place k = record { state = k.state; has = p.kept i place k.state within k.has; targets = k.targets }

  -- a durable checkpoint stays so
  pub KeepsDurably-preserved : KeepsDurably d old t i → KeepsDurably d new t i
  KeepsDurably-preserved k = record {
    place = k.place;
    at = KeepsAt-preserved k.place k.at;
    durable = omega (arith, k.durable, p.durable i within);
  }

module _ {B C I P R D H G U : Type 0} (w : Workings B C I P R D H G U) (stored : ℕ → Option (Named B)) where
  pub KeepsReopenable-preserved : (p : Past B C I) (old new : w.kind.Members) → Preserves w.kind old new → KeepsReopenable w stored p old
      → KeepsReopenable w stored p new
  KeepsReopenable-preserved p old new keeps k q i b can is within =
      KeepsDurably-preserved w.kind old new keeps (targets_of w stored b) i within (k q i b can is within)

  module _ (start : Option Anchor) (anchor : Anchor) where
    -- databases whose newest checkpoints have their places
    pub KeepsHeights-preserved : (old new : w.kind.Members) → Preserves w.kind old new
        → ((i : ℕ) → i < w.kind.count → w.kind.place new i ≡ w.kind.place old i)
        → KeepsHeights w stored start anchor old → KeepsHeights w stored start anchor new
    KeepsHeights-preserved old new keeps places k first h i b opened low high is within =
        let at = k first h i b opened low high is within in record {
          place = at.place;
          below = at.below ∙ sym (places i within);
          at = KeepsAt-preserved w.kind old new keeps (targets_of w stored b) i within at.place at.at;
        }

    -- a block of the next height is applied, which the store has at that height if it has one there
    pub KeepsHeights-applied : Laws w.kind → (m : w.kind.Members) (b : Named B) (from to : Point w) → w.kind.point m ≡ Some from
        → w.kind.target_of to.1 ≡ targets_of w stored b → w.header.height b.block ≡ anchor.height.0 + 1
        → ((c : Named B) → stored (w.header.height b.block) ≡ Some c → c ≡ b)
        → KeepsHeights w stored start anchor m → KeepsHeights w stored start (anchor_by w.header b) (w.kind.applied m to)
    KeepsHeights-applied laws m b from to here targets next same k first h i c opened low high is within =
        ⊎_elim newest older (cases_lt anchor.height.0 h)
      where
        placed : w.kind.place (w.kind.applied m to) i ≡ w.kind.place m i + 1
        placed = laws.apply.place_applied m from to i within here

        newest : anchor.height.0 < h → HasHeight w stored (anchor_by w.header b) (w.kind.applied m to) h i c
        newest above =
            let height : h ≡ w.header.height b.block = omega (arith, above, high, next) in
            let block : c ≡ b = same c (subst (λ (n : ℕ). stored n ≡ Some c) height is) in
            record {
              place = w.kind.place (w.kind.applied m to) i;
              below = omega (arith, height);
              at = record {
                state = to.1;
                has = laws.places.has_newest (w.kind.applied m to) to i within (laws.apply.point_applied m from to here);
                targets = subst (λ (x : Named B). w.kind.target_of to.1 ≡ targets_of w stored x) (sym block) targets;
              };
            }

        older : h ≤ anchor.height.0 → HasHeight w stored (anchor_by w.header b) (w.kind.applied m to) h i c
        older near =
            let at = k first h i c opened low near is within in record {
              place = at.place;
              below = omega (arith, at.below, placed, near, next);
              at = KeepsAt-preserved w.kind m (w.kind.applied m to) (laws.apply.preserves_applied m to) (targets_of w stored c) i within at.place at.at;
            }

  -- databases that were opened at the block of a height of the store
  pub KeepsHeights-opened : Laws w.kind → (next : w.Ids) (m : w.kind.Members) (b : Named B) → IsOpening w.kind next m (targets_of w stored b)
      → ((c : Named B) → stored (w.header.height b.block) ≡ Some c → c ≡ b)
      → KeepsHeights w stored (Some (anchor_by w.header b)) (anchor_by w.header b) m
  KeepsHeights-opened laws next m b o same first h i c opened low high is within =
      let first_is : anchor_by w.header b ≡ first = search in
      let height : h ≡ w.header.height b.block = omega (arith, subst (λ (a : Anchor). a.height.0 ≤ h) (sym first_is) low, high) in
      let block : c ≡ b = same c (subst (λ (n : ℕ). stored n ≡ Some c) height is) in
      record {
        place = w.kind.place m i;
        below = omega (arith, height);
        at = record {
          state = o.at.1;
          has = laws.places.has_newest m o.at i within o.here;
          targets = subst (λ (x : Named B). w.kind.target_of o.at.1 ≡ targets_of w stored x) (sym block) o.targets_are;
        };
      }

  -- where the databases are durable as far as a height, its checkpoint is
  pub KeepsDurably-height : (base : w.States) (p : Past B C I) (anchor first : Anchor) (m : w.kind.Members) (origin : ℕ → ℕ)
      → Keeping (setting w stored) w.kind base p m anchor first origin → (q i : ℕ) (b : Named B) → first.height.0 ≤ q → q ≤ durable p
      → q ≤ anchor.height.0 → i < w.kind.count → HasHeight w stored anchor m q i b → KeepsDurably w.kind m (targets_of w stored b) i
  KeepsDurably-height base p anchor first m origin k q i b low near high within at = record {
    place = at.place;
    at = at.at;
    durable = omega (arith, at.below, k.newest i within, k.height, k.durable i within, k.above, low, near, high);
  }
