-- The tables stand between the anchor's move and the resume: as without the pause, and after the end of a run.
use Rattle.std.proofs.Common.{◌≡◌, ◌↔◌, inl, inr, ℕ, List, ◌∷◌, All, Contains, Option, Some, Ok, refl, sym, ap, ◌∙◌, subst}
use Rattle.std.proofs.lemmas.List.Elements.{All-push, All-weaker}
use Rattle.stateful_base.specs.Names.{Named}
use Rattle.stateful_base.specs.Round.{IsLater}
use Rattle.stateful_base.specs.declared.anchor.Anchor.{Anchor}
use Rattle.stateful_base.specs.declared.digest.Digest.{Digest}
use Rattle.stateful_base.specs.declared.outcome.Moved.TheVariants.{Done}
use Rattle.stateful_base.specs.declared.round.Round.{Round}
use Rattle.stateful_history.specs.Anchors.{tip_of}
use Rattle.stateful_history.specs.Met.{TrueNames}
use Rattle.stateful_history.specs.Past.{Past, Came, Made}
use Rattle.stateful_history.specs.declared.event.Event.TheVariants.{Turn}
use Rattle.stateful_history.specs.declared.mark.How.{How}
use Rattle.stateful_history.specs.declared.mark.Mark.TheVariants.{Ended}
use Rattle.stateful_exec_cache.specs.Cache.{IsIn, IsAtHand}
use Rattle.stateful_exec_cache.specs.declared.cache.Cached.{Cached}
use Rattle.stateful_table.specs.Table.{at}
use Rattle.stateful_exec_pause.specs.Boundary.{Boundary, step_by, IsRetained}
use Rattle.stateful_exec_tables.specs.Keeping.{there, added, missed}
use Rattle.stateful_exec_pause.specs.Fates.{Crosses}
use Rattle.stateful_exec_tables.specs.Tables.{released}
use Rattle.stateful_exec_model.specs.Ending.{IsTold, rejected, mismatched, agreed, EndsRun, TurnsRun}
use Rattle.stateful_exec_model.specs.Moments.{Moment}
use Rattle.stateful_exec_model.specs.Workings.{Workings, Point}
use Rattle.stateful_exec_pause.specs.declared.pause.Pause.{Pause}
use Rattle.stateful_exec_pause.specs.declared.pause.Pause.TheVariants.{Free, Finalizing, Pruning}
use Rattle.stateful_exec_tables.specs.declared.state.Tables.{Tables}
use Rattle.stateful_exec_tables.specs.declared.tables.LiveRun.{LiveRun}
use Rattle.stateful_exec_laws.specs.Setting.{setting}
use Rattle.stateful_exec_laws.specs.Caching.{IsKnownBy}
use Rattle.stateful_exec_laws.specs.Standing.{TablesStand}
use Rattle.stateful_exec_laws.proofs.ended.Kept.{IsRoundOf}
use Rattle.stateful_exec_laws.proofs.ended.Known.{IsLater-self}
use Rattle.stateful_exec_laws.proofs.ended.Rule.{IsReleasedFrom, IsReleasedFrom-plain}
use Rattle.stateful_exec_laws.proofs.pauses.Known.{Any-found}
use Rattle.stateful_exec_laws.proofs.ended.Stands.{running}
use Rattle.stateful_exec_laws.proofs.requests.Putting.{put_here}
pub use Rattle.stateful_exec_laws.specs.Crossing.{HasMoved, HasMovedSo}

module _ {U : Type 0} (anchor : Anchor) (cache : List (Cached U)) (boundary : Boundary) (h : HasMoved anchor cache boundary) where
  in_compatible : (d : Digest) → IsIn cache d → Contains boundary.compatible d
  in_compatible d any = let e = Any-found (λ c. Contains boundary.compatible c.digest) (λ c. c.digest ≡ d) cache h.compatible any in subst (λ (x : Digest). Contains boundary.compatible x) e.2 e.1

  at_hand_compatible : (d : Digest) → IsAtHand anchor cache d → Contains boundary.compatible d
  at_hand_compatible d (inl is) = subst (λ (x : Digest). Contains boundary.compatible x) (sym (is ∙ h.digest_is)) h.own
  at_hand_compatible d (inr any) = in_compatible d any

  -- then what is at hand is known
  pub known_moved : (d : Digest) → IsKnownBy (Finalizing boundary) anchor cache d ↔ IsAtHand anchor cache d
  known_moved d = (
    (λ k. elim k [ inl is ↦ inl (is ∙ sym h.digest_is) | inr a ↦ inr a.0 ]),
    (λ a. elim a [ inl is ↦ inl (is ∙ h.digest_is) | inr any ↦ inr (any, in_compatible d any) ]),
  )

module _ {B C I P R D H G U : Type 0} (w : Workings B C I P R D H G U) (stored : ℕ → Option (Named B)) (p : Past B C I) (points : Digest → Point w) (point : Point w) (next : w.Ids) where
  -- the tables stand with another pause that tells the same blocks
  pub TablesStand-pause : (v : Tables B C I R U) (pause : Pause) → ((d : Digest) → IsKnownBy v.pause v.anchor v.cache d ↔ IsKnownBy pause v.anchor v.cache d) → TablesStand w stored p points point next v → TablesStand w stored p points point next (record v { pause = pause })
  TablesStand-pause v pause same s = record {
    at_anchor = s.at_anchor;
    cache = record { each = s.cache.each; in_order = s.cache.in_order; knows = λ d. (λ k. (same d).0 ((s.cache.knows d).0 k), λ b. (s.cache.knows d).1 ((same d).1 b)) };
    runs = s.runs;
    requests = s.requests;
    once = s.once;
    queue = s.queue;
    numbers = s.numbers;
  }

  -- once the anchor has moved, they stand without the pause
  pub TablesStand-free : (v : Tables B C I R U) (boundary : Boundary) → v.pause ≡ Finalizing boundary → HasMoved v.anchor v.cache boundary → TablesStand w stored p points point next v → TablesStand w stored p points point next (record v { pause = Free })
  TablesStand-free v boundary paused h s = TablesStand-pause v Free (subst (λ pause. (d : Digest) → IsKnownBy pause v.anchor v.cache d ↔ IsAtHand v.anchor v.cache d) (sym paused) (known_moved v.anchor v.cache boundary h)) s

module _ {B C I P R D H G U : Type 0} (w : Workings B C I P R D H G U) (anchor : Anchor) (cache : List (Cached U)) (boundary : Boundary) (h : HasMoved anchor cache boundary) (b : Named B) (round : b.digest ≡ anchor.digest → w.header.round b.block ≡ anchor.round) where
  -- a block that the cache takes goes on over the finalization
  taken-IsRetained : IsLater anchor.round (w.header.round b.block) → IsAtHand anchor cache (w.header.parent b.block) → IsRetained boundary (step_by w.header b)
  taken-IsRetained later at_hand = record {
    other = λ e. IsLater-self anchor.round (subst (λ r. IsLater anchor.round r) (round (e ∙ sym h.digest_is)) later);
    later = subst (λ (r : Round). IsLater r (w.header.round b.block)) h.round_is later;
    parent = at_hand_compatible anchor cache boundary h (w.header.parent b.block) at_hand;
  }

  module _ {o : Option U} {how : How} (new : List (Cached U)) (told : IsTold w anchor b cache new o how) where
    -- where the end of a run crosses the finalization, what is cached then is compatible
    told_over : (more : Boundary) → ((d : Digest) → Contains boundary.compatible d → Contains more.compatible d) → (IsRetained boundary (step_by w.header b) → Contains more.compatible b.digest) → All (λ e. Contains more.compatible e.digest) new
    told_over more keeps own = by told
      where
        before : All (λ e. Contains more.compatible e.digest) cache
        before = All-weaker (λ (e : Cached U). Contains boundary.compatible e.digest) (λ e. Contains more.compatible e.digest) (λ e has. keeps e.digest has) cache h.compatible

        by : {x : Option U} {ended : How} → IsTold w anchor b cache new x ended → All (λ e. Contains more.compatible e.digest) new
        by (rejected is) = rw is before
        by (mismatched differs is) = rw is before
        by (agreed agrees (there a is)) = rw is before
        by (agreed agrees (missed out why is)) = rw is before
        by (agreed agrees (added out later at_hand is)) = rw is (All-push (λ (e : Cached U). Contains more.compatible e.digest) cache _ before (own (taken-IsRetained later at_hand)))

    HasMoved-told : (pause : Pause) → Crosses w.header b (Finalizing boundary) pause → (more : Boundary) × (pause ≡ Finalizing more) × HasMoved anchor new more
    HasMoved-told Free crosses = absurd crosses
    HasMoved-told Pruning crosses = absurd crosses
    HasMoved-told (Finalizing more) (inl over) = (
      more,
      refl,
      record {
        digest_is = h.digest_is ∙ sym over.1.of;
        round_is = h.round_is ∙ sym over.1.round;
        own = (over.1.more more.digest).1 (inr (subst (λ (d : Digest). Contains boundary.compatible d) (sym over.1.of) h.own));
        compatible = told_over more (λ d has. (over.1.more d).1 (inr has)) (λ r. (over.1.more b.digest).1 (inl refl));
      },
    )
    HasMoved-told (Finalizing more) (inr off) = (
      boundary,
      ap (λ x. Finalizing x) off.1,
      record {
        digest_is = h.digest_is;
        round_is = h.round_is;
        own = h.own;
        compatible = told_over boundary (λ d has. has) (λ r. absurd (off.0 r));
      },
    )

module _ {B C I P R D H G U : Type 0} (w : Workings B C I P R D H G U) (stored : ℕ → Option (Named B)) (p : Past B C I) (point : Point w) (m : Moment w) (j : ℕ) (b : Named B) (o : Option U) (how : How) (now : Moment w)
    (points : Digest → Point w) (s : TablesStand w stored p points point m.next m.state) (located : w.kind.point m.members ≡ Some point) (names : TrueNames (setting w stored) p) (round : IsRoundOf w stored p m.state.anchor) (tip : tip_of w.header p ≡ Some m.state.anchor)
    (h : HasMovedSo m.state) (count : R → ℕ) (after : Tables B C I R U) (turns : TurnsRun w count m.members j m.state after (Ok (Done o))) (ends : EndsRun w (record m { state = after }) j b o how now) where
  -- the same without the pause
  abbrev free : Moment w
  free = record m { state = record m.state { pause = Free } }

  abbrev turned : Tables B C I R U
  turned = record after { pause = Free }

  abbrev freed : Moment w
  freed = record now { state = record now.state { pause = Free } }

  turns_free : TurnsRun w count m.members j free.state turned (Ok (Done o))
  turns_free = record { live = turns.live; live_is = turns.live_is; turned = turns.turned; turns = turns.turns; failed = turns.failed; state = ap (λ (v : Tables B C I R U). record v { pause = Free }) turns.state }

  ends_free : EndsRun w (record free { state = turned }) j b o how freed
  ends_free = record {
    run = ends.run;
    live = ends.live;
    block_is = ends.block_is;
    cache = ends.cache;
    told = ends.told;
    pause = Free;
    crosses = refl;
    becomes = ap (λ (n : Moment w). record n { state = record n.state { pause = Free } }) ends.becomes;
  }

  released_free : IsReleasedFrom w stored p points free.state (Made (Ended j how) ∷ Came (Turn j) ∷ p) point j b freed
  released_free = IsReleasedFrom-plain w stored p point free j b o how freed points (TablesStand-free w stored p points point m.next m.state h.boundary h.pause_is h.moved s) located names round tt tip count turned turns_free ends_free

  -- the run's block is one of the history
  own_round : b.digest ≡ m.state.anchor.digest → w.header.round b.block ≡ m.state.anchor.round
  own_round = subst (λ (c : Named B). c.digest ≡ m.state.anchor.digest → w.header.round c.block ≡ m.state.anchor.round) same_block (round turns.live.block (running w stored p points point m.next m.state s j turns.live turns.live_is).met)
    where
      same_block : turns.live.block ≡ b
      same_block =
          let found : Some (record turns.live { run = turns.turned }) ≡ Some ends.run = sym (put_here m.state.runs j (record turns.live { run = turns.turned })) ∙ ap (λ (v : Tables B C I R U). at v.runs j) (sym turns.state) ∙ ends.live in
          let same : record turns.live { run = turns.turned } ≡ ends.run = search in
          ap (λ (r : LiveRun B R). r.block) same ∙ ends.block_is

  moved_after : (more : Boundary) × (ends.pause ≡ Finalizing more) × HasMoved m.state.anchor ends.cache more
  moved_after = HasMoved-told w m.state.anchor m.state.cache h.boundary h.moved b own_round ends.cache
      (subst (λ (v : Tables B C I R U). IsTold w v.anchor b v.cache ends.cache o how) turns.state ends.told) ends.pause
      (subst (λ (x : Pause). Crosses w.header b x ends.pause) (ap (λ (v : Tables B C I R U). v.pause) turns.state ∙ h.pause_is) ends.crosses)

  -- the anchor has moved after the end of the run too
  pub HasMoved-ended : HasMovedSo now.state
  HasMoved-ended = subst (λ (n : Moment w). HasMovedSo n.state) (sym ends.becomes) (record {
    boundary = moved_after.0;
    pause_is = moved_after.1;
    moved = subst (λ (v : Tables B C I R U). HasMoved v.anchor ends.cache moved_after.0) (sym turns.state) moved_after.2;
  })

  -- The tables stand after the end of a run in its turn, once the anchor has moved, and the requests that waited for it are in
  -- hand.
  pub IsReleasedFrom-moved : IsReleasedFrom w stored p points m.state (Made (Ended j how) ∷ Came (Turn j) ∷ p) point j b now
  IsReleasedFrom-moved =
      let r = released_free.released in
      record {
        moves = released_free.moves;
        released = record {
          points = r.points;
          tables = TablesStand-pause w stored (Made (Ended j how) ∷ Came (Turn j) ∷ p) r.points point now.next (released j freed.state) now.state.pause
              (subst (λ pause. (d : Digest) → IsAtHand now.state.anchor now.state.cache d ↔ IsKnownBy pause now.state.anchor now.state.cache d) (sym HasMoved-ended.pause_is)
              (λ d. let k = known_moved now.state.anchor now.state.cache HasMoved-ended.boundary HasMoved-ended.moved d in (k.1, k.0))) r.tables;
          in_hand = r.in_hand;
          apart = r.apart;
        };
      }
