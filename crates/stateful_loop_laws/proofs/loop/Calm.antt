-- What the loop keeps stands behind items and marks that say nothing of it.
use Rattle.std.proofs.Common.{◌≡◌, ◌++◌, ◌∷◌, [], ℕ, List, All, Option, refl, sym, ap, ◌∙◌, subst, arith, append_assoc}
use Rattle.std.proofs.lemmas.List.{append-nil}
use Rattle.std.proofs.lemmas.List.Elements.{All-nil, All-head, All-tail}
use Rattle.stateful_base.specs.Names.{Named}
use Rattle.stateful_base.specs.declared.anchor.Anchor.{Anchor}
use Rattle.stateful_history.proofs.Marks.{after-append, EachMark-append}
use Rattle.stateful_history.specs.Past.{Past, Item, Made, after, EachMark}
use Rattle.stateful_history.specs.declared.mark.Mark.{Mark}
use Rattle.stateful_history.specs.declared.mark.Mark.TheVariants.{Opened, Converged, Applied, BarrierBegun, BarrierDone, Acknowledged, Stopped}
use Rattle.stateful_exec_model.specs.Workings.{Workings}
use Rattle.stateful_exec_laws.specs.Setting.{setting}
use Rattle.stateful_loop_laws.specs.Checkpoints.{Keeping}
use Rattle.stateful_loop_laws.specs.Durability.{IsDurablySaid, LoopBehind}
use Rattle.stateful_loop_laws.specs.OpenBarriers.{BarriersStand, AwaitsEach, AwaitsLive}
use Rattle.stateful_loop_laws.specs.Stands.{LoopStands}
use Rattle.stateful_loop_laws.proofs.barriers.AwaitedItems.{AwaitsEach-calm}
use Rattle.stateful_loop_laws.proofs.barriers.LiveItems.{AwaitsLive-calm}
use Rattle.stateful_loop_laws.proofs.barriers.Left.{BarriersStand-left}
use Rattle.stateful_loop_laws.proofs.loop.CalmItems.{IsCalmMark, IsCalmItem, IsCalmItem-mark, LeavesLoop-calm}
use Rattle.stateful_loop_laws.proofs.loop.CheckpointsKept.{Keeping-left}
use Rattle.stateful_loop_model.specs.Moments.{Moment}
use Rattle.stateful_loop_model.specs.declared.barriers.Active.{Active}

module _ {B C I P R D H G U : Type 0} (w : Workings B C I P R D H G U) where
  -- the databases, the anchor, the durable height and the barriers are as they were
  pub record HasSameLoop (m now : Moment w) : Type 0 where
    pub members : now.members ≡ m.members
    pub anchor : now.execution.state.anchor ≡ m.execution.state.anchor
    pub durable : now.loop.durability.durable ≡ m.loop.durability.durable
    pub barriers : now.loop.barriers ≡ m.loop.barriers
    pub next_barrier : now.loop.next_barrier ≡ m.loop.next_barrier

  -- a moment has the same as itself
  pub HasSameLoop-same : (m : Moment w) → HasSameLoop m m
  HasSameLoop-same m = record { members = refl; anchor = refl; durable = refl; barriers = refl; next_barrier = refl }

  -- a calm mark keeps the rules on barriers and acknowledgements
  pub IsDurablySaid-calm : (p : Past B C I) (mark : Mark B) → IsCalmMark mark → IsDurablySaid w p mark
  IsDurablySaid-calm p (Opened anchor) calm = absurd calm
  IsDurablySaid-calm p (Converged anchor) calm = absurd calm
  IsDurablySaid-calm p (Applied b) calm = absurd calm
  IsDurablySaid-calm p (BarrierBegun k height) calm = absurd calm
  IsDurablySaid-calm p (BarrierDone k height good) calm = absurd calm
  IsDurablySaid-calm p (Acknowledged t height) calm = absurd calm
  IsDurablySaid-calm p Stopped calm = absurd calm
  IsDurablySaid-calm p mark calm = (tt, tt, tt, tt, tt)

  -- and so does the one that the machine has stopped
  pub IsDurablySaid-stopped : (p : Past B C I) → IsDurablySaid w p Stopped
  IsDurablySaid-stopped p = (tt, tt, tt, tt, tt)

  -- calm marks keep these rules
  pub said_calm : (p : Past B C I) (marks : List (Mark B)) → All (λ mark. IsCalmMark mark) marks → EachMark (IsDurablySaid w) p marks
  said_calm p [] calm = tt
  said_calm p (mark ∷ marks) calm = (
    IsDurablySaid-calm p mark (All-head (λ x. IsCalmMark x) mark marks calm),
    said_calm (Made mark ∷ p) marks
        (All-tail (λ x. IsCalmMark x) mark marks calm),
  )

  module _ (stored : ℕ → Option (Named B)) (base : w.States) where
    -- of another moment with the same of it
    pub LoopStands-same : (p : Past B C I) (m now : Moment w) → HasSameLoop m now → LoopStands w stored base p m → LoopStands w stored base p now
    LoopStands-same p m now same h = record {
      first = h.first;
      origin = h.origin;
      keeping = subst (λ (x : w.kind.Members). Keeping (setting w stored) w.kind base p x now.execution.state.anchor h.first h.origin)
          (sym same.members)
          (subst (λ (a : Anchor). Keeping (setting w stored) w.kind base p m.members a h.first h.origin) (sym same.anchor) h.keeping);
      durable_is = same.durable ∙ h.durable_is;
      barriers = subst (λ (x : w.kind.Members). BarriersStand w.kind w.header p x h.first h.origin now.loop.barriers now.loop.next_barrier)
          (sym same.members)
          (subst (λ (xs : List Active). BarriersStand w.kind w.header p m.members h.first h.origin xs now.loop.next_barrier) (sym same.barriers)
          (subst (λ (n : ℕ). BarriersStand w.kind w.header p m.members h.first h.origin m.loop.barriers n) (sym same.next_barrier) h.barriers));
      awaits = subst (λ (xs : List Active). AwaitsEach w.kind.count p xs) (sym same.barriers) h.awaits;
      lives = subst (λ (xs : List Active). AwaitsLive w.kind.count p xs) (sym same.barriers) h.lives;
    }

    -- behind a calm item
    pub LoopStands-calm : (p : Past B C I) (x : Item B C I) (m now : Moment w) → IsCalmItem x → HasSameLoop m now → LoopStands w stored base p m
        → LoopStands w stored base (x ∷ p) now
    LoopStands-calm p x m now calm same h =
        let leaves = LeavesLoop-calm w.header p x calm in
        LoopStands-same (x ∷ p) m now same (record {
          first = h.first;
          origin = h.origin;
          keeping =
              Keeping-left (setting w stored) w.kind base p m.members m.execution.state.anchor h.first h.origin h.keeping x m.members leaves.applied
              (λ i states l k. k) (λ i l. refl) (rw leaves.durable h.keeping.above) (λ i l. rw leaves.durable (h.keeping.durable i l));
          durable_is = h.durable_is ∙ sym leaves.durable;
          barriers = BarriersStand-left w.kind w.header p x leaves.barriers m.members m.members h.first h.origin
              (λ i l. omega arith) m.loop.barriers m.loop.next_barrier h.barriers;
          awaits = AwaitsEach-calm w.kind.count p m.loop.barriers h.awaits x calm;
          lives = AwaitsLive-calm w.kind.count p m.loop.barriers h.lives x calm;
        })

    -- behind calm marks
    pub LoopStands-marks : (p : Past B C I) (marks : List (Mark B)) (m : Moment w) → All (λ mark. IsCalmMark mark) marks
        → LoopStands w stored base p m → LoopStands w stored base (after p marks) m
    LoopStands-marks p [] m calm h = h
    LoopStands-marks p (mark ∷ marks) m calm h =
        LoopStands-marks (Made mark ∷ p) marks m (All-tail (λ x. IsCalmMark x) mark marks calm)
        (LoopStands-calm p (Made mark) m m (IsCalmItem-mark w.header p mark (All-head (λ x. IsCalmMark x) mark marks calm)) (HasSameLoop-same m) h)

    -- from one moment to a later one, where the marks are calm
    pub LoopBehind-calm : (p : Past B C I) (m now : Moment w) (more : List (Mark B)) → now.marks ≡ m.marks ++ more
        → All (λ mark. IsCalmMark mark) more → HasSameLoop m now
        → LoopStands w stored base p m → LoopBehind w stored base p m now
    LoopBehind-calm p m now more marks calm same h = record {
      more = more;
      marks_are = marks;
      loop = LoopStands-marks p more now calm (LoopStands-same p m now same h);
      said = said_calm p more calm;
    }

    -- where no mark is made
    pub LoopBehind-same : (p : Past B C I) (m now : Moment w) → now.marks ≡ m.marks → HasSameLoop m now → LoopStands w stored base p m
        → LoopBehind w stored base p m now
    LoopBehind-same p m now marks same h = LoopBehind-calm p m now [] (marks ∙ sym (append-nil m.marks)) (All-nil (λ mark. IsCalmMark mark)) same h

    -- an equation of moments, read
    pub LoopBehind-is : (p : Past B C I) (m now mid : Moment w) → now ≡ mid → LoopBehind w stored base p m mid → LoopBehind w stored base p m now
    LoopBehind-is p m now mid e h = subst (λ n. LoopBehind w stored base p m n) (sym e) h

    -- from one moment to a later one, and from there on
    pub LoopBehind-then : (p : Past B C I) (m mid now : Moment w) (one : LoopBehind w stored base p m mid)
        → LoopBehind w stored base (after p one.more) mid now → LoopBehind w stored base p m now
    LoopBehind-then p m mid now one two = record {
      more = one.more ++ two.more;
      marks_are = two.marks_are ∙ ap (λ ms. ms ++ two.more) one.marks_are ∙ append_assoc m.marks one.more two.more;
      loop = subst (λ q. LoopStands w stored base q now) (sym (after-append p one.more two.more)) two.loop;
      said = EachMark-append (IsDurablySaid w) p one.more two.more one.said two.said;
    }
