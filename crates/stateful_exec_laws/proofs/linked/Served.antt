-- What was gathered stays linked, and the parents of queued proposals known or lost, behind a request that is served.
use Rattle.std.proofs.Common.{◌≡◌, ◌++◌, inl, inr, ℕ, List, [], ◌∷◌, All, Option, Some, sym, subst}
use Rattle.stateful_base.specs.Names.{Named}
use Rattle.stateful_base.specs.declared.anchor.Anchor.{Anchor}
use Rattle.stateful_base.specs.declared.digest.Digest.{Digest}
use Rattle.stateful_history.specs.Known.{Known}
use Rattle.stateful_history.specs.Met.{Brings, Met, TrueNames}
use Rattle.stateful_history.specs.Numbers.{NumberIsNew}
use Rattle.stateful_history.specs.Past.{Past, Made, after}
use Rattle.stateful_history.specs.Setting.{Setting}
use Rattle.stateful_history.specs.declared.mark.How.{How}
use Rattle.stateful_history.specs.declared.mark.JobKind.TheVariants.{Candidate}
use Rattle.stateful_history.specs.declared.mark.Mark.{Mark}
use Rattle.stateful_history.specs.declared.mark.Mark.TheVariants.{Asked, Started, Verdict, Declined}
use Rattle.stateful_exec_cache.specs.Cache.{IsIn, IsAtHand}
use Rattle.stateful_exec_pause.specs.Fates.{IsGivenUp}
use Rattle.stateful_exec_model.specs.Ending.{Follows, given_up, at_boundary, failed, parked, goes_on}
use Rattle.stateful_exec_model.specs.Moments.{Moment}
use Rattle.stateful_exec_walk.specs.Path.{Path}
use Rattle.stateful_exec_tables.specs.Meeting.{IsPassed}
use Rattle.stateful_exec_tables.specs.Tables.{requested}
use Rattle.stateful_exec_model.specs.Rules.{Concludes, Advances, Acquires}
use Rattle.stateful_exec_model.specs.Workings.{Workings, Point}
use Rattle.stateful_exec_pause.specs.declared.pause.Pause.TheVariants.{Free}
use Rattle.stateful_exec_walk.specs.declared.request.Verdict.TheVariants as verdict
use Rattle.stateful_exec_tables.specs.declared.tables.Released.{Released}
use Rattle.stateful_exec_tables.specs.declared.tables.Requested.{Requested}
use Rattle.stateful_exec_laws.specs.Setting.{setting}
use Rattle.stateful_exec_laws.specs.Gathering.{gathered, AreLinked}
use Rattle.stateful_exec_laws.specs.Reaching.{QueueReaches}
use Rattle.stateful_exec_laws.specs.Requesting.{first_of, IsWayOf}
use Rattle.stateful_exec_laws.specs.Standing.{TablesStand, IsInHand}
use Rattle.stateful_exec_laws.proofs.requests.AdvanceStands.{All-front}
use Rattle.stateful_exec_laws.proofs.earned.Follows.{kept-Known}
use Rattle.stateful_exec_laws.proofs.earned.InTurn.{All-last}
use Rattle.stateful_exec_laws.proofs.linked.Gathered.{concludes-new, advances-new, acquires-new, follows-new, GatheringsStand-concludes, GatheringsStand-advances, GatheringsStand-acquires, GatheringsStand-follows}
use Rattle.stateful_exec_laws.proofs.requests.KeptMarks.{EachMark-behind}
use Rattle.stateful_exec_laws.proofs.linked.On.{StaysLinked}
use Rattle.stateful_exec_laws.proofs.places.Asks.{asked-last}
use Rattle.stateful_exec_laws.proofs.linked.QueueAdvances.{same_queue, concludes_invalid, QueueReaches-arrives, QueueReaches-acquires}
use Rattle.stateful_exec_laws.proofs.reasons.Advances.{closed_by, parent_here}
use Rattle.stateful_exec_laws.proofs.reasons.Ground.{IsGround, round_of_top}
use Rattle.stateful_exec_laws.proofs.requests.ServedMarks.{IsServedBy, AreServedBy, concludes-marks, advances-marks, acquires-marks, follows-marks}

module _ {B C I S T : Type 0} (s : Setting B S T) where
  brings_none : (p : Past B C I) (t : ℕ) (mark : Mark B) → IsServedBy t mark → (b : Named B) → Brings {C = C} {I = I} (Made mark) b → ⊥
  brings_none p t (Verdict u good) is b brought = brought
  brings_none p t (Declined u) is b brought = brought
  brings_none p t (Asked f (Some u) d) is b brought = brought
  brings_none p t (Started j Candidate d) is b brought = brought
  brings_none p t mark is b brought = absurd is

  -- names that are true are so after the marks of a request that is served
  pub names-served : (marks : List (Mark B)) (p : Past B C I) (t : ℕ) → AreServedBy t p marks → TrueNames s p → TrueNames s (after p marks)
  names-served [] p t are names = names
  names-served (mark ∷ marks) p t are names = names-served marks (Made mark ∷ p) t are.1 (λ x y has_x has_y. names x y (before x has_x) (before y has_y))
    where
      before : (b : Named B) → Met s (Made mark ∷ p) b → Met s p b
      before b (inl brought) = absurd (brings_none p t mark are.0 b brought)
      before b (inr met) = met

module _ {B C I P R D H G U : Type 0} (w : Workings B C I P R D H G U) (stored : ℕ → Option (Named B)) (base : w.States) (p : Past B C I)
    (points : Digest → Point w) (point : Point w) (m now : Moment w) (s : TablesStand w stored p points point m.next m.state)
    (h : StaysLinked w stored base p m.state) (more : List (Mark B)) (marks_are : now.marks ≡ m.marks ++ more)
    (names : TrueNames (setting w stored) (after p more)) where
  abbrev Stays : Type 0
  Stays = StaysLinked w stored base (after p more) now.state

  abbrev AreOf : ℕ → Type 0
  AreOf t = AreServedBy t p more

  abbrev New : Past B C I → Mark B → Type 0
  New q mark = NumberIsNew q mark

  module _ (t : ℕ) (r : Requested B C I) where
    -- it stays so behind one that ends in vain
    pub StaysLinked-concludes : AreLinked (setting w stored) (gathered r.request r.acquired) → Concludes w m t r verdict.Invalid now → Stays
    StaysLinked-concludes linked rule = record {
      gatherings = GatheringsStand-concludes w stored p points point m now s t more marks_are are
          (EachMark-behind w New p m now more marks_are (concludes-new w stored p points point m now s t r verdict.Invalid rule)) h.gatherings
          r (λ honest answered. linked) verdict.Invalid rule;
      reaches = concludes_invalid w stored base p m now s.queue t more marks_are are names h.reaches r rule;
    }
      where
        are : AreOf t
        are = EachMark-behind w (λ (x : Past B C I) (mark : Mark B). IsServedBy t mark) p m now more marks_are
            (concludes-marks w p m now t r verdict.Invalid rule)

    -- behind one that goes along its path, where its first block is known once all are passed
    pub StaysLinked-arrives : AreLinked (setting w stored) (gathered r.request []) → (path : Path B)
        → (All (IsPassed w.header m.state) path.blocks → Known (setting w stored) p (first_of r.request).digest)
        → Advances w m t (requested r.request) path now → Stays
    StaysLinked-arrives linked path known rule = record {
      gatherings = GatheringsStand-advances w stored p points point m now s t more marks_are are
          (EachMark-behind w New p m now more marks_are (advances-new w stored p points point m now s t (requested r.request) path rule)) h.gatherings
          (requested r.request) (λ honest answered. linked) path rule;
      reaches = QueueReaches-arrives w stored base p m now s.queue t more marks_are are names h.reaches (requested r.request) path known rule;
    }
      where
        are : AreOf t
        are = EachMark-behind w (λ (x : Past B C I) (mark : Mark B). IsServedBy t mark) p m now more marks_are
            (advances-marks w p m now t (requested r.request) path rule)

    module _ (tip : Anchor) (g : IsGround w stored base p points point m.next tip m.state.pause m.state.anchor m.state.cache) where
      -- behind one that goes along its path on a known parent
      pub StaysLinked-advances : AreLinked (setting w stored) (gathered r.request []) → (path : Path B) → IsWayOf w stored p r.request path
          → (Known (setting w stored) p path.parent.digest × IsAtHand m.state.anchor m.state.cache path.parent.digest)
          → Advances w m t (requested r.request) path now → Stays
      StaysLinked-advances linked path way parent rule = StaysLinked-arrives linked path (λ all.
          subst (λ (x : Named B). Known (setting w stored) p x.digest) way.begins
          (parent_here w stored base p points point m.next tip m.state g r.request path way parent path.blocks all
          (All-front (Met (setting w stored) p) path.blocks (path.parent ∷ []) way.met)).0) rule

      -- and behind one that acquires what it needs, where nothing pauses
      pub StaysLinked-acquires : m.state.pause ≡ Free → IsInHand w stored p t r.request m.state → All (Met (setting w stored) p) r.acquired
          → AreLinked (setting w stored) (gathered r.request r.acquired) → (stored_now : ℕ → Option (Named B)) → Acquires w stored_now m t r now → Stays
      StaysLinked-acquires free hand met linked stored_now rule = record {
        gatherings = GatheringsStand-acquires w stored p points point m now s t more marks_are are
            (EachMark-behind w New p m now more marks_are (acquires-new w stored p points point m now s t stored_now r rule)) h.gatherings
            r (λ honest answered. linked) stored_now
            (λ d needs. asked-last w stored base p points point tip m g free stored_now t r hand met d needs) rule;
        reaches = QueueReaches-acquires w stored base p points point tip m now s g t more marks_are are names h.reaches free stored_now r hand met rule;
      }
        where
          are : AreOf t
          are = EachMark-behind w (λ (x : Past B C I) (mark : Mark B). IsServedBy t mark) p m now more marks_are
              (acquires-marks w p m now t stored_now r rule)

  module _ (b : Named B) (how : How) (x : Released B C I) (linked : AreLinked (setting w stored) (gathered x.request [])) where
    -- It stays so behind a request that follows the end of a run, where its first block is known once it has gone along its path.
    pub StaysLinked-follows : (IsIn m.state.cache b.digest → (IsGivenUp w.header m.state.pause b → ⊥) → All (IsPassed w.header m.state) x.path.blocks
        → Known (setting w stored) p (first_of x.request).digest) → Follows w b how x m now → Stays
    StaysLinked-follows known rule = record {
      gatherings = GatheringsStand-follows w stored p points point m now s b how x more marks_are are
          (EachMark-behind w New p m now more marks_are (follows-new w stored p points point m now s b how x rule)) h.gatherings linked rule;
      reaches = reaches_by rule;
    }
      where
        are : AreOf x.ticket
        are = EachMark-behind w (λ (y : Past B C I) (mark : Mark B). IsServedBy x.ticket mark) p m now more marks_are
            (follows-marks w p m now b how x rule)

        reaches_by : Follows w b how x m now → QueueReaches w stored base (after p more) now.state.queued
        reaches_by (given_up out concludes) =
            concludes_invalid w stored base p m now s.queue x.ticket more marks_are are names h.reaches (requested x.request) concludes
        reaches_by (at_boundary out becomes) = rw becomes (same_queue w stored base p m now s.queue x.ticket more marks_are are names h.reaches)
        reaches_by (failed not_held out concludes) =
            concludes_invalid w stored base p m now s.queue x.ticket more marks_are are names h.reaches (requested x.request) concludes
        reaches_by (parked pruning any becomes) = rw becomes (same_queue w stored base p m now s.queue x.ticket more marks_are are names h.reaches)
        reaches_by (goes_on kept not_held other any advances) =
            QueueReaches-arrives w stored base p m now s.queue x.ticket more marks_are are names h.reaches (requested x.request) x.path (known any kept) advances

module _ {B C I P R D H G U : Type 0} (w : Workings B C I P R D H G U) (stored : ℕ → Option (Named B)) (base : w.States) (p : Past B C I)
    (points : Digest → Point w) (point : Point w) (m : Moment w) (tip : Anchor)
    (g : IsGround w stored base p points point m.next tip m.state.pause m.state.anchor m.state.cache) where
  -- on the ground a block that is cached and goes on is known, and so is the first block of a request that has passed all above it
  pub follows-known : (b : Named B) (x : Released B C I) → IsWayOf w stored p x.request x.path → x.path.parent ≡ b → IsIn m.state.cache b.digest
      → (IsGivenUp w.header m.state.pause b → ⊥) → All (IsPassed w.header m.state) x.path.blocks → Known (setting w stored) p (first_of x.request).digest
  follows-known b x way leads any kept all =
      subst (λ (y : Named B). Known (setting w stored) p y.digest) way.begins
      (parent_here w stored base p points point m.next tip m.state g x.request x.path way
      (subst (λ (y : Named B). Known (setting w stored) p y.digest × IsAtHand m.state.anchor m.state.cache y.digest) (sym leads) (
        kept-Known w stored p g.names points m.next m.state.anchor m.state.cache
            (round_of_top w stored base p points point m.next tip m.state.pause m.state.anchor m.state.cache g) b
            (subst (λ (y : Named B). Met (setting w stored) p y) leads (All-last (Met (setting w stored) p) x.path.blocks x.path.parent way.met)) any
            m.state.pause g.stands (closed_by w stored base p points point m.next tip m.state.pause m.state.anchor m.state.cache g) kept,
        inr any,
      )) x.path.blocks all (All-front (Met (setting w stored) p) x.path.blocks (x.path.parent ∷ []) way.met)).0
