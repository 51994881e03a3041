-- What the loop keeps stands after an apply.
use Rattle.std.proofs.Common.{◌≡◌, ◌+◌, ◌∷◌, [], ℕ, List, Option, Some, refl, sym, ap, subst, arith}
use Rattle.stateful_base.specs.Anchor.{anchor_by}
use Rattle.stateful_base.specs.Names.{Named}
use Rattle.stateful_base.specs.declared.anchor.Anchor.{Anchor}
use Rattle.stateful_db.specs.Laws.{Laws}
use Rattle.stateful_history.specs.Anchors.{applied}
use Rattle.stateful_history.specs.Past.{Past, Made}
use Rattle.stateful_history.specs.Setting.{step_of}
use Rattle.stateful_history.specs.States.{fold}
use Rattle.stateful_history.specs.declared.mark.Mark.TheVariants.{Applied}
use Rattle.stateful_exec_model.specs.Workings.{Workings, Point}
use Rattle.stateful_exec_tables.specs.declared.state.Tables.{Tables}
use Rattle.stateful_exec_laws.specs.Setting.{setting}
use Rattle.stateful_exec_laws.proofs.front.AnchorMoves.{IsApplied}
use Rattle.stateful_loop_laws.specs.Checkpoints.{Keeping}
use Rattle.stateful_loop_laws.specs.Durability.{LoopBehind}
use Rattle.stateful_loop_laws.specs.OpenBarriers.{BarriersStand}
use Rattle.stateful_loop_laws.specs.Stands.{LoopStands}
use Rattle.stateful_loop_laws.proofs.barriers.Left.{BarriersStand-left}
use Rattle.stateful_loop_laws.proofs.loop.CalmItems.{LeavesBarriers-applied}
use Rattle.stateful_loop_laws.proofs.loop.CheckpointsKept.{Keeping-applied}
use Rattle.stateful_loop_laws.proofs.loop.Calm.{LoopBehind-is}
use Rattle.stateful_loop_model.specs.Moments.{Moment}
use Rattle.stateful_loop_model.specs.Rules.{AppliesBlock}
use Rattle.stateful_loop_model.specs.declared.tables.Finalizing.{Finalizing}

module _ {B C I P R D H G U : Type 0} (w : Workings B C I P R D H G U) (stored : ℕ → Option (Named B)) where
  -- the batch shows the states that the block leads to, above this point
  pub record ShowsStates (b : Named B) (batch : U) (point : Point w) : Type 0 where
    pub next : Point w
    pub rest : List (Point w)
    pub shows : w.shows batch (next ∷ point ∷ rest)
    pub steps : step_of (setting w stored) point.1 b ≡ Some next.1

  -- what execution tells of the batch says so
  pub ShowsStates-applied : (p : Past B C I) (point : Point w) (ids : w.Ids) (b : Named B) (new : Tables B C I R U) (batch : U)
      → IsApplied w stored p point ids b new batch → ShowsStates b batch point
  ShowsStates-applied p point ids b new batch a = record { next = a.points b.digest; rest = a.rest; shows = a.shows; steps = a.matches.step }

module _ {B C I P R D H G U : Type 0} (w : Workings B C I P R D H G U) (laws : Laws w.kind) (stored : ℕ → Option (Named B)) (base : w.States)
    (p : Past B C I) (m now : Moment w) (h : LoopStands w stored base p m) where
  -- a block is applied, which is of the next height
  pub LoopBehind-applies : (f : Finalizing B G) (r : AppliesBlock w f m now) (point : Point w) → w.kind.point m.members ≡ Some point
      → fold (setting w stored) (Some base) (applied p) ≡ Some point.1 → ShowsStates w stored f.block r.batch point
      → w.header.height f.block.block ≡ m.execution.state.anchor.height.0 + 1 → LoopBehind w stored base p m now
  LoopBehind-applies f r point located folded to next =
      let members : r.members ≡ w.kind.applied m.members to.next = r.applied point to.next to.rest located to.shows in
      let anchor : r.state.anchor ≡ anchor_by w.header f.block = ap (λ v. v.anchor) r.moves.state in
      LoopBehind-is w stored base p m now _ r.becomes (record {
        more = Applied f.block ∷ [];
        marks_are = refl;
        loop = record {
          first = h.first;
          origin = h.origin;
          keeping = subst (λ (x : w.kind.Members). Keeping (setting w stored) w.kind base
              (Made (Applied f.block) ∷ p) x r.state.anchor h.first h.origin) (sym members)
              (subst (λ (a : Anchor). Keeping (setting w stored) w.kind base (Made (Applied f.block) ∷ p)
              (w.kind.applied m.members to.next) a h.first h.origin) (sym anchor)
              (Keeping-applied (setting w stored) w.kind base p m.members m.execution.state.anchor h.first h.origin h.keeping laws.apply
              f.block point to.next located folded to.steps next));
          durable_is = h.durable_is;
          barriers = subst (λ (x : w.kind.Members). BarriersStand w.kind w.header
              (Made (Applied f.block) ∷ p) x h.first h.origin m.loop.barriers m.loop.next_barrier) (sym members)
              (BarriersStand-left w.kind w.header p (Made (Applied f.block)) (LeavesBarriers-applied w.header p f.block) m.members
              (w.kind.applied m.members to.next) h.first h.origin
              (λ i l. omega (arith, laws.apply.durable_applied m.members to.next i)) m.loop.barriers m.loop.next_barrier h.barriers);
          awaits = h.awaits;
          lives = h.lives;
        };
        said = ((tt, tt, tt, tt, tt), tt);
      })
