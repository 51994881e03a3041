-- The highest finalized block has states: those to which the finalized blocks that wait lead.
use Rattle.std.proofs.Common.{◌≡◌, ◌≢◌, ◌⊎◌, inl, inr, ◌≤◌, ◌<◌, ◌++◌, ◌∷◌, [], ℕ, Option, Some, None, List, All, refl, sym, ap, ◌∙◌, subst, arith}
use Rattle.std.proofs.lemmas.List.Elements.{All-nil, All-cons, All-head, All-tail, All-weaker, All-append}
use Rattle.stateful_base.specs.Names.{Named}
use Rattle.stateful_base.specs.Anchor.{anchor_by}
use Rattle.stateful_base.specs.declared.anchor.Anchor.{Anchor}
use Rattle.stateful_base.specs.declared.digest.Digest.{Digest}
use Rattle.stateful_history.specs.Finalizations.{IsChildOf}
use Rattle.stateful_history.specs.Joined.{Matches}
use Rattle.stateful_history.specs.Met.{Met, TrueNames}
use Rattle.stateful_history.specs.Past.{Past, Came}
use Rattle.stateful_history.specs.Refusals.{WasFinalized}
use Rattle.stateful_history.specs.Setting.{Setting, parent_of}
use Rattle.stateful_history.specs.States.{Reaches, here, further, HasState}
use Rattle.stateful_history.specs.declared.event.Event.TheVariants.{Finalized, Restart}
use Rattle.stateful_exec_model.specs.Workings.{Workings, Point}
use Rattle.stateful_exec_model.specs.declared.front.Front.{Front}
use Rattle.stateful_exec_model.specs.declared.front.Stage.{Stage}
use Rattle.stateful_exec_model.specs.declared.front.Stage.TheVariants.{Begun, Running, Ran, Advanced, Hooking}
use Rattle.stateful_exec_tables.specs.declared.state.Tables.{Tables}
use Rattle.stateful_exec_laws.specs.Ground.{IsOfBlock}
use Rattle.stateful_exec_laws.specs.Setting.{setting}
use Rattle.stateful_loop_model.specs.Moments.{Moment}
use Rattle.stateful_loop_model.specs.declared.message.Action.{Action}
use Rattle.stateful_loop_model.specs.declared.message.Action.TheVariants as action
use Rattle.stateful_loop_model.specs.declared.message.Message.{Message}
use Rattle.stateful_loop_model.specs.declared.message.Message.TheVariants as message
use Rattle.stateful_loop_laws.specs.Execution.{Executes, IsPlaced, IsPlacedAt}
use Rattle.stateful_loop_laws.specs.Tickets.{MessageStands, ActionStands, TicketsStand}
use Rattle.stateful_loop_laws.proofs.execution.AnchorStands.{Executes-anchor}
use Rattle.stateful_loop_laws.proofs.media.AppliedFurther.{was_finalized-since}
use Rattle.stateful_actor_laws.specs.Ahead.{final_in, final_under, finals_in, finals_under, finals_at, LeadsUp, there, next, again, IsAbove, IsAtAnchor, HeadAt, HeadIs, LeadsAt, IsAhead}

module _ {B C I S T : Type 0} (s : Setting B S T) where
  -- what was finalized is a block of the history
  pub finalized-met : (p : Past B C I) (b : Named B) → WasFinalized p b → Met s p b
  finalized-met [] b h = absurd h
  finalized-met (Came (Restart floor keep) ∷ p) b h = absurd h
  finalized-met (Came (Finalized t c) ∷ p) b (inl same) = inl same
  finalized-met (Came (Finalized t c) ∷ p) b (inr before) = inr (finalized-met p b before)
  finalized-met (item ∷ p) b h = inr (finalized-met p b h)

module _ {B C I S T : Type 0} (s : Setting B S T) (p : Past B C I) (names : TrueNames s p) (anchor : Anchor) (block : Named B) (met : Met s p block)
    (is : anchor ≡ anchor_by s.header block) (now : S) where
  -- a block of the history that is higher than the anchor isn't the anchor's
  other : (b : Named B) → Met s p b → anchor.height.0 < s.header.height b.block → b.digest ≢ anchor.digest
  other b own high same =
      let digests : b.digest ≡ block.digest = same ∙ ap (λ (a : Anchor). a.digest) is in
      let blocks : b ≡ block = names b block own met digests in
      let height : s.header.height b.block ≡ anchor.height.0 =
      ap (λ (c : Named B). s.header.height c.block) blocks ∙ sym (ap (λ (a : Anchor). a.height.0) is) in
      absurd (omega (arith, height))

  -- the states of a child are reached from those of its parent
  pub reaches-child : (head : Anchor) (before after : S) (b : Named B) → anchor.height.0 ≤ head.height.0 → IsChildOf s.header head b → Matches s before b after
      → Met s p b → Reaches s (Met s p) anchor.digest now head.digest before → Reaches s (Met s p) anchor.digest now b.digest after
  reaches-child head before after b low child matches own r =
      further {b = b} {t = before} {u = after} (subst (λ (d : Digest). Reaches s (Met s p) anchor.digest now d before) (sym child.1) r) own
      (other b own (omega (arith, child.0))) matches.step

  -- from the head on they lead to the top's
  pub reaches-top : (top : Anchor) (last : S) (head : Anchor) (before : S) (bs : List (Named B)) → anchor.height.0 ≤ head.height.0
      → All (Met s p) bs → LeadsUp s top last head before bs → Reaches s (Met s p) anchor.digest now head.digest before
      → Reaches s (Met s p) anchor.digest now top.digest last
  reaches-top top last _ _ [] low mets there r = r
  reaches-top top last head before (b ∷ bs) low mets (next {after = after} child matches rest) r =
      reaches-top top last (anchor_by s.header b) after bs (omega (arith, child.0)) (All-tail (Met s p) b bs mets) rest
      (reaches-child head before after b low child matches (All-head (Met s p) b bs mets) r)
  reaches-top top last head before (b ∷ bs) low mets (again same rest) r =
      reaches-top top last head before bs low (All-tail (Met s p) b bs mets) rest r

module _ {B C I P R D H G U : Type 0} (w : Workings B C I P R D H G U) (stored : ℕ → Option (Named B)) (p : Past B C I) where
  module _ (v : Tables B C I R U) (build : _) where
    final_in-finalized : (x : Message B C I) → MessageStands w stored p v build x → All (WasFinalized p) (final_in x)
    final_in-finalized (message.Finalized t b) h =
        All-cons (WasFinalized p) b [] (was_finalized-since t p b h.1) (All-nil (WasFinalized p))
    final_in-finalized (message.Request request) h = All-nil (WasFinalized p)
    final_in-finalized (message.Subscribe t) h = All-nil (WasFinalized p)

    final_under-finalized : (x : Action B C I) → ActionStands w stored p v build x → All (WasFinalized p) (final_under x)
    final_under-finalized (action.Message x) h = final_in-finalized x h
    final_under-finalized (action.Build t) h = All-nil (WasFinalized p)

    finals_in-finalized : (xs : List (Message B C I)) → All (MessageStands w stored p v build) xs → All (WasFinalized p) (finals_in xs)
    finals_in-finalized [] h = All-nil (WasFinalized p)
    finals_in-finalized (x ∷ xs) h =
        All-append (WasFinalized p) (final_in x) (finals_in xs) (final_in-finalized x (All-head (MessageStands w stored p v build) x xs h))
        (finals_in-finalized xs (All-tail (MessageStands w stored p v build) x xs h))

    finals_under-finalized : (xs : List (Action B C I)) → All (ActionStands w stored p v build) xs → All (WasFinalized p) (finals_under xs)
    finals_under-finalized [] h = All-nil (WasFinalized p)
    finals_under-finalized (x ∷ xs) h =
        All-append (WasFinalized p) (final_under x) (finals_under xs) (final_under-finalized x (All-head (ActionStands w stored p v build) x xs h))
        (finals_under-finalized xs (All-tail (ActionStands w stored p v build) x xs h))

  -- what waits to be finalized was finalized
  pub finals-finalized : (m : Moment w) → TicketsStand w stored p m → All (WasFinalized p) (finals_at w m)
  finals-finalized m t =
      All-append (WasFinalized p) (finals_under m.loop.actions) (finals_in m.loop.queue)
      (finals_under-finalized m.execution.state m.execution.build m.loop.actions t.actions)
      (finals_in-finalized m.execution.state m.execution.build m.loop.queue t.queue)

module _ {B C I P R D H G U : Type 0} (w : Workings B C I P R D H G U) (stored : ℕ → Option (Named B)) (base : w.States) (p : Past B C I) where
  module _ (points : Digest → Point w) (point : Point w) (next : w.Ids) (v : Tables B C I R U) where
    top_at : (b : Named B) (stage : Stage R U H) → IsPlacedAt w stored base p points point next v b stage → IsOfBlock w stored p v.anchor
    top_at b Begun h = h.ground.top
    top_at b (Running j run) h = h.paused.ground.top
    top_at b (Ran batch) h = h.paused.ground.top
    top_at b Advanced h = h.ground.top
    top_at b (Hooking j hook) h = h.ground.top

    -- the anchor is that of a block of the history, whatever goes on
    pub placed-top : (front : Option (Front B R U H)) → IsPlaced w stored base p points point next v front → IsOfBlock w stored p v.anchor
    placed-top None h = h.ground.top
    placed-top (Some f) h = top_at f.block f.stage h

    module _ (names : TrueNames (setting w stored) p) (anchor : Anchor) (same : anchor ≡ v.anchor) (top : IsOfBlock w stored p v.anchor) (now : w.States)
        (head : Anchor) (before : w.States) where
      -- from the anchor on the states of the head are reached
      pub record HeadReached : Type 0 where
        pub low : anchor.height.0 ≤ head.height.0
        pub reached : Reaches (setting w stored) (Met (setting w stored) p) anchor.digest now head.digest before

      at_anchor : IsAtAnchor (setting w stored) anchor now head before → HeadReached
      at_anchor h = record {
        low = let height : head.height.0 ≡ anchor.height.0 = ap (λ (a : Anchor). a.height.0) h.head_is in omega (arith, height);
        reached = subst (λ (a : Anchor). Reaches (setting w stored) (Met (setting w stored) p) anchor.digest now a.digest before) (sym h.head_is)
            (subst (λ (t : w.States). Reaches (setting w stored) (Met (setting w stored) p) anchor.digest now anchor.digest t) (sym h.before_is) here);
      }

      above : (b : Named B) → Met (setting w stored) p b → IsAbove (setting w stored) anchor now b head before → HeadReached
      above b met h = record {
        low = let height : head.height.0 ≡ w.header.height b.block = ap (λ (a : Anchor). a.height.0) h.head_is in omega (arith, height, h.child.0);
        reached = subst (λ (a : Anchor). Reaches (setting w stored) (Met (setting w stored) p) anchor.digest now a.digest before) (sym h.head_is)
            (reaches-child (setting w stored) p names anchor top.block top.met (same ∙ top.is) now anchor now before b (omega arith) h.child h.matches met here);
      }

      head_at : (b : Named B) (stage : Stage R U H) → IsPlacedAt w stored base p points point next v b stage
          → HeadAt (setting w stored) anchor now b stage head before → HeadReached
      head_at b Begun h k = above b h.ground.met k
      head_at b (Running j run) h k = above b h.paused.ground.met k
      head_at b (Ran batch) h k = above b h.paused.ground.met k
      head_at b Advanced h k = at_anchor k
      head_at b (Hooking j hook) h k = at_anchor k

      pub head-reached : (front : Option (Front B R U H)) → IsPlaced w stored base p points point next v front
          → HeadIs (setting w stored) anchor now front head before → HeadReached
      head-reached None h k = at_anchor k
      head-reached (Some f) h k = head_at f.block f.stage h k

  -- the highest finalized block has the states to which those that wait lead
  pub top-HasState : TrueNames (setting w stored) p → (m : Moment w) → Executes w stored base p m → TicketsStand w stored p m → (a : IsAhead w stored base p m)
      → HasState (setting w stored) base p a.top.digest a.last
  top-HasState names m e tickets a =
      let anchors : Some a.anchor ≡ Some m.execution.state.anchor = sym a.anchored ∙ Executes-anchor w stored base p m e in
      let same : a.anchor ≡ m.execution.state.anchor = cc in
      let top = placed-top e.points e.point m.next m.execution.state m.execution.front e.placed in
      let start : HeadReached e.points e.point m.next m.execution.state names a.anchor same top a.now a.waits.head a.waits.before =
      head-reached e.points e.point m.next m.execution.state names a.anchor same top a.now a.waits.head a.waits.before m.execution.front e.placed a.waits.front in
      record {
        anchor = a.anchor;
        now = a.now;
        anchored = a.anchored;
        folded = a.folded;
        reached = reaches-top (setting w stored) p names a.anchor top.block top.met (same ∙ top.is) a.now a.top a.last a.waits.head a.waits.before
            (finals_at w m) start.low
            (All-weaker (WasFinalized p) (Met (setting w stored) p) (finalized-met (setting w stored) p) (finals_at w m) (finals-finalized w stored p m tickets))
            a.waits.leads start.reached;
      }
