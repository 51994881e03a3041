-- Live runs go on turning: a block has one state at most, and each turn that isn't the last leaves some.
use Rattle.std.proofs.Common.{◌≡◌, ◌<◌, ◌+◌, ◌==◌, inl, inr, option_map, ℕ, Bool, true, false, List, [], ◌∷◌, Option, None, Some, Ok, get_or, refl, sym, ap, ◌∙◌, subst}
use Rattle.std.proofs.lemmas.Bool.{eqb-true, eq-eqb}
use Rattle.std.proofs.lemmas.List.Elements.{All-weaker}
use Rattle.stateful_base.specs.Names.{Named}
use Rattle.stateful_base.specs.declared.anchor.Anchor.{Anchor}
use Rattle.stateful_base.specs.declared.digest.Digest.{Digest}
use Rattle.stateful_base.specs.declared.outcome.Finality.TheVariants as finality
use Rattle.stateful_base.specs.declared.outcome.Moved.TheVariants.{Pending}
use Rattle.stateful_db.specs.Works.{run_of, Costs}
use Rattle.stateful_history.specs.Jobs.{JobOf, job_of, started_for, turns}
use Rattle.stateful_history.specs.Met.{Met, TrueNames}
use Rattle.stateful_history.specs.Past.{Past, Came}
use Rattle.stateful_history.specs.Setting.{Setting, parent_of}
use Rattle.stateful_history.specs.States.{HasState}
use Rattle.stateful_history.specs.States as states
use Rattle.stateful_history.specs.declared.event.Event.TheVariants.{Turn}
use Rattle.stateful_history.specs.declared.mark.JobKind.TheVariants.{Candidate}
use Rattle.stateful_table.specs.Table.{put}
use Rattle.stateful_exec_model.specs.Ending.{TurnsRun}
use Rattle.stateful_exec_model.specs.Workings.{Workings, Point}
use Rattle.stateful_exec_tables.specs.declared.state.Tables.{Tables}
use Rattle.stateful_exec_tables.specs.declared.tables.LiveRun.{LiveRun}
use Rattle.stateful_exec_laws.specs.Setting.{setting}
use Rattle.stateful_exec_laws.specs.Outstanding.{GoesOnTurning, RunsGoOn}
use Rattle.stateful_exec_laws.specs.Running.{IsRunning}
use Rattle.stateful_exec_laws.specs.Standing.{TablesStand}
use Rattle.stateful_exec_laws.proofs.ended.Stands.{running}
use Rattle.stateful_exec_laws.proofs.runs.NeverStale.{run-IsPoint}
use Rattle.stateful_exec_laws.proofs.requests.Putting.{All-put}
use Rattle.stateful_exec_laws.proofs.reasons.Ground.{IsGround, HasState-on}
use Rattle.stateful_exec_laws.proofs.requests.SamePast.{IsSamePast, HasState-same}

module _ {B C I S T : Type 0} (s : Setting B S T) (p : Past B C I) (names : TrueNames s p) where
  -- steps from one block lead to one state of another
  reaches_once : {from : Digest} {start : S} {d : Digest} {t : S} → states.Reaches s (Met s p) from start d t → (e : Digest) → e ≡ d → (u : S) → states.Reaches s (Met s p) from start e u → t ≡ u
  reaches_once states.here e is u states.here = refl
  reaches_once states.here e is u (states.further r met ne step) = absurd (ne is)
  reaches_once (states.further r met ne step) e is u states.here = absurd (ne (sym is))
  reaches_once (states.further {b = b} r met ne step) e is u (states.further {b = c} k there other on) =
      let one : c ≡ b = names c b there met is in
      let before = reaches_once r (parent_of s c) (ap (λ (x : Named B). parent_of s x) one) _ k in
      cc

  -- a block has one state at most
  pub HasState-once : (base : S) (d : Digest) (t u : S) → HasState s base p d t → HasState s base p d u → t ≡ u
  HasState-once base d t u h k =
      let anchors : Some h.anchor ≡ Some k.anchor = sym h.anchored ∙ k.anchored in
      let one : k.anchor ≡ h.anchor = cc in
      let folds : Some h.now ≡ Some k.now = sym h.folded ∙ k.folded in
      let start : k.now ≡ h.now = cc in
      reaches_once h.reached d refl u (subst (λ (x : S). states.Reaches s (Met s p) h.anchor.digest x d u) start (subst (λ (a : Anchor). states.Reaches s (Met s p) a.digest k.now d u) one k.reached))

module _ {B C I P R D H G U : Type 0} (w : Workings B C I P R D H G U) (stored : ℕ → Option (Named B)) (base : w.States) where
  IsSamePast-back : (p q : Past B C I) → IsSamePast (setting w stored) p q → IsSamePast (setting w stored) q p
  IsSamePast-back p q same = record { met = λ b. ((same.met b).1, (same.met b).0); anchor = sym same.anchor; tip = sym same.tip; blocks = sym same.blocks; pruned = sym same.pruned }

  -- a run goes on turning for the same past in which it was turned as often
  pub GoesOnTurning-same : (p q : Past B C I) → IsSamePast (setting w stored) p q → (j : ℕ) (run : LiveRun B R) → turns j q ≡ turns j p → GoesOnTurning w stored base p j run → GoesOnTurning w stored base q j run
  GoesOnTurning-same p q same j run turned h t has n cost =
      subst (λ (k : ℕ). k < n) (sym turned) (h t (HasState-same (setting w stored) q p (IsSamePast-back p q same) base (parent_of (setting w stored) run.block) t has) n cost)

  -- so runs do, and one that was started, where each run takes some turn
  pub RunsGoOn-starts : (p q : Past B C I) → IsSamePast (setting w stored) p q → ((j : ℕ) → turns j q ≡ turns j p) → (runs : List (ℕ × LiveRun B R)) → RunsGoOn w stored base p runs → (j : ℕ) (run : LiveRun B R) → turns j p ≡ 0
      → ((t : w.States) (n : ℕ) → w.works.run_cost finality.Candidate t run.block.block ≡ Some n → 0 < n) → RunsGoOn w stored base q (put runs j run)
  RunsGoOn-starts p q same turned runs h j run none costs =
      All-put (λ (e : ℕ × LiveRun B R). GoesOnTurning w stored base q e.0 e.1) runs j run
      (All-weaker (λ (e : ℕ × LiveRun B R). GoesOnTurning w stored base p e.0 e.1) (λ e. GoesOnTurning w stored base q e.0 e.1) (λ e on. GoesOnTurning-same p q same e.0 e.1 (turned e.0) on) runs h)
      (λ t has n cost. subst (λ (k : ℕ). k < n) (sym (turned j ∙ none)) (costs t n cost))

  module _ (p : Past B C I) (points : Digest → Point w) (point : Point w) (tip : Anchor) (next : w.Ids) (old new : Tables B C I R U) (s : TablesStand w stored p points point next old) (g : IsGround w stored base p points point next tip old.pause old.anchor old.cache)
      (m : w.kind.Members) (located : w.kind.point m ≡ Some point) (j : ℕ) (count : R → ℕ) (turn : TurnsRun w count m j old new (Ok Pending)) where
    abbrev given : Past B C I
    given = Came (Turn j) ∷ p

    abbrev live : LiveRun B R
    live = turn.live

    own : IsRunning w stored p points next old.anchor old.cache j live
    own = running w stored p points point next old s j live turn.live_is

    same_past : IsSamePast (setting w stored) p given
    same_past = record { met = λ b. (λ h. elim h [ inl none ↦ absurd none | inr old ↦ old ], λ h. inr h); anchor = refl; tip = refl; blocks = refl; pruned = refl }

    abbrev Cost : Option ℕ
    Cost = w.works.run_cost finality.Candidate (points own.parent.digest).1 live.block.block

    -- what the turn says of its cost
    turned-costs : Costs {T = Option U} Cost Pending (turns j p)
    turned-costs =
        turn.turns.costs (run_of finality.Candidate (w.context_of live.block.block) (record { first = live.block; rest = own.parent ∷ [] }) own.own (points own.parent.digest) own.below) (turns j p) point own.runs located
        (run-IsPoint w stored p points point next old s j live own)

    left : (o : Option ℕ) → Cost ≡ o → (n : ℕ) → o ≡ Some n → turns j p + 1 < n
    left None is n some = cc
    left (Some cost) is n some = let l : turns j p + 1 < cost = rw is at turned-costs in let e : cost ≡ n = cc in subst (λ (k : ℕ). turns j p + 1 < k) e l

    -- a run of the live run's block goes on, turned once more
    own_on : (b : Named B) → b ≡ live.block → (t : w.States) → HasState (setting w stored) base given (parent_of (setting w stored) b) t → (n : ℕ) → w.works.run_cost finality.Candidate t b.block ≡ Some n → turns j p + 1 < n
    own_on b is t has n cost =
        let own_state : HasState (setting w stored) base p (parent_of (setting w stored) live.block) (points own.parent.digest).1 =
        subst (λ (d : Digest). HasState (setting w stored) base p d (points own.parent.digest).1) own.parent_is (HasState-on w stored base p points point next tip old.pause old.anchor old.cache g own.chain) in
        let has_p : HasState (setting w stored) base p (parent_of (setting w stored) live.block) t =
        subst (λ (x : Named B). HasState (setting w stored) base p (parent_of (setting w stored) x) t) is (HasState-same (setting w stored) given p (IsSamePast-back p given same_past) base (parent_of (setting w stored) b) t has) in
        let one : t ≡ (points own.parent.digest).1 = HasState-once (setting w stored) p g.names base (parent_of (setting w stored) live.block) t (points own.parent.digest).1 has_p own_state in
        left Cost refl n (ap (λ (x : w.States). w.works.run_cost finality.Candidate x live.block.block) (sym one) ∙ ap (λ (x : Named B). w.works.run_cost finality.Candidate t x.block) (sym is) ∙ cost)

    entry_on : (e : ℕ × LiveRun B R) → IsRunning w stored p points next old.anchor old.cache e.0 e.1 → GoesOnTurning w stored base p e.0 e.1 → GoesOnTurning w stored base given e.0 e.1
    entry_on e r on = go (e.0 == j) refl
      where
        go : (x : Bool) → (e.0 == j) ≡ x → GoesOnTurning w stored base given e.0 e.1
        go false other = GoesOnTurning-same p given same_past e.0 e.1 (rw other refl) on
        go true same = λ t has n cost.
            let number : e.0 ≡ j = eqb-true e.0 j same in
            let jobs : Some (job_of Candidate e.1.block.digest) ≡ Some (job_of Candidate live.block.digest) = sym r.job.is ∙ ap (λ (k : ℕ). started_for k p) number ∙ own.job.is in
            let digests : Some e.1.block.digest ≡ Some live.block.digest = ap (λ (o : Option JobOf). option_map (λ (x : JobOf). x.digest) o) jobs in
            let digest : e.1.block.digest ≡ live.block.digest = cc in
            let more : turns j p + 1 < n = own_on e.1.block (g.names e.1.block live.block r.met own.met digest) t has n cost in
            rw same (subst (λ (k : ℕ). turns k p + 1 < n) (sym number) more)

    -- After a turn that isn't the last the runs go on turning.
    pub RunsGoOn-turned : RunsGoOn w stored base p old.runs → RunsGoOn w stored base given new.runs
    RunsGoOn-turned h =
        subst (λ (v : Tables B C I R U). RunsGoOn w stored base given v.runs) (sym turn.state) (All-put (λ (e : ℕ × LiveRun B R). GoesOnTurning w stored base given e.0 e.1) old.runs j (record live { run = turn.turned })
        (λ k d l. entry_on (get_or old.runs k d) (s.runs.each k d l) (h k d l))
        (λ t has n cost. rw (eq-eqb j j refl) (own_on live.block refl t has n cost)))
