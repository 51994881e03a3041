-- What the end of a run says of its block: it is cached, or what is wrong with it on its parent's states.
use Rattle.std.proofs.Common.{◌≡◌, ◌≢◌, ◌⊎◌, ◌++◌, inl, inr, ℕ, Bool, true, false, List, [], ◌∷◌, Option, None, Some, refl, subst}
use Rattle.std.proofs.lemmas.List.Elements.{Contains-push}
use Rattle.stateful_base.specs.Names.{Named}
use Rattle.stateful_base.specs.Round.{IsLater}
use Rattle.stateful_base.specs.declared.anchor.Anchor.{Anchor}
use Rattle.stateful_base.specs.declared.digest.Digest.{Digest}
use Rattle.stateful_base.specs.declared.outcome.Finality.TheVariants.{Candidate}
use Rattle.stateful_base.specs.declared.outcome.Moved.TheVariants.{Done}
use Rattle.stateful_db.specs.Meaning.{Meaning, outcome}
use Rattle.stateful_history.specs.Past.{Past}
use Rattle.stateful_history.specs.Setting.{parent_of, step_of}
use Rattle.stateful_history.specs.States.{HasState}
use Rattle.stateful_history.specs.declared.mark.How.{How}
use Rattle.stateful_history.specs.declared.mark.How.TheVariants.{Kept}
use Rattle.stateful_exec_cache.specs.Cache.{IsIn, IsAtHand}
use Rattle.stateful_exec_cache.specs.declared.cache.Cached.{Cached}
use Rattle.stateful_table.specs.Table.{at}
use Rattle.stateful_exec_tables.specs.Keeping.{there, added, missed}
use Rattle.stateful_exec_model.specs.Ending.{Turns, IsTold, rejected, mismatched, agreed}
use Rattle.stateful_exec_model.specs.Workings.{Workings, Point}
use Rattle.stateful_exec_tables.specs.declared.state.Tables.{Tables}
use Rattle.stateful_exec_tables.specs.declared.tables.LiveRun.{LiveRun}
use Rattle.stateful_exec_laws.specs.Setting.{setting}
use Rattle.stateful_exec_laws.specs.Running.{IsRunning}
use Rattle.stateful_exec_laws.specs.Standing.{TablesStand}
use Rattle.stateful_exec_laws.proofs.ended.Kept.{Any-more}
use Rattle.stateful_exec_laws.proofs.ended.Known.{outcome-some, ends-some}
use Rattle.stateful_exec_laws.proofs.ended.Stands.{running}
use Rattle.stateful_exec_laws.proofs.ended.Told.{turned-at, cached_step}
use Rattle.stateful_exec_laws.proofs.reasons.Ground.{IsGround, HasState-on}

outcome-none : {B S T : Type 0} (m : Meaning B S T) (t : S) (b : B) → outcome m Candidate t b ≡ None → (m.step t b ≡ None) ⊎ (m.accept t b ≡ false)
outcome-none m t b e = go (m.accept t b) refl
  where
    go : (a : Bool) → m.accept t b ≡ a → (m.step t b ≡ None) ⊎ (m.accept t b ≡ false)
    go true is = inl (rw is at e)
    go false is = inr is

module _ {B C I P R D H G U : Type 0} (w : Workings B C I P R D H G U) (stored : ℕ → Option (Named B)) (base : w.States) where
  -- the block leads to no states, isn't acceptable, leads to other targets than it commits to, or isn't later than the anchor
  abbrev pub IsFlawed : Anchor → w.States → Named B → Type 0
  IsFlawed anchor t b =
      (step_of (setting w stored) t b ≡ None)
      ⊎ ((w.works.meaning.accept t b.block ≡ false)
      ⊎ (((u : w.States) × (step_of (setting w stored) t b ≡ Some u) × (w.kind.target_of u ≢ w.works.meaning.targets b.block))
      ⊎ (IsLater anchor.round (w.header.round b.block) → ⊥)))

  -- A run of the block has ended so: its parent is at hand, and the block is cached, or flawed on the parent's states. One that
  -- was kept is cached.
  pub record HasEnded (p : Past B C I) (anchor : Anchor) (cache : List (Cached U)) (b : Named B) (how : How) : Type 0 where
    pub parent : IsAtHand anchor cache (parent_of (setting w stored) b)
    pub why : IsIn cache b.digest ⊎ ((t : w.States) × HasState (setting w stored) base p (parent_of (setting w stored) b) t × IsFlawed anchor t b)
    pub kept : how ≡ Kept → IsIn cache b.digest

  module _ (p : Past B C I) (points : Digest → Point w) (point : Point w) (next : w.Ids) (old : Tables B C I R U) (s : TablesStand w stored p points point next old) (tip : Anchor) (g : IsGround w stored base p points point next tip old.pause old.anchor old.cache)
      (j : ℕ) (live : LiveRun B R) (live_is : at old.runs j ≡ Some live) (m : w.kind.Members) (located : w.kind.point m ≡ Some point) (turned : R) where
    abbrev run : IsRunning w stored p points next old.anchor old.cache j live
    run = running w stored p points point next old s j live live_is

    abbrev Parent : Digest
    Parent = parent_of (setting w stored) live.block

    abbrev Before : w.States
    Before = (points run.parent.digest).1

    has_state : HasState (setting w stored) base p Parent Before
    has_state = subst (λ (d : Digest). HasState (setting w stored) base p d Before) run.parent_is (HasState-on w stored base p points point next tip old.pause old.anchor old.cache g run.chain)

    parent_there : IsAtHand old.anchor old.cache Parent
    parent_there = subst (λ (d : Digest). IsAtHand old.anchor old.cache d) run.parent_is run.at_hand

    flawed : (how : How) → (how ≡ Kept → ⊥) → IsFlawed old.anchor Before live.block → HasEnded p old.anchor old.cache live.block how
    flawed how other flaw = record { parent = parent_there; why = inr (Before, has_state, flaw); kept = λ e. absurd (other e) }

    more_at_hand : (e : Cached U) (d : Digest) → IsAtHand old.anchor old.cache d → IsAtHand old.anchor (old.cache ++ e ∷ []) d
    more_at_hand e d (inl own) = inl own
    more_at_hand e d (inr any) = inr (Any-more (λ (c : Cached U). c.digest ≡ d) old.cache e any)

    last_in : (e : Cached U) → IsIn (old.cache ++ e ∷ []) e.digest
    last_in e = let c = Contains-push old.cache e in (c.0, e, c.1, c.2, refl)

    -- so says the end of a run as it is told
    pub HasEnded-told : {o : Option U} {how : How} (cache : List (Cached U)) → Turns w m live.run turned (Done o) → IsTold w old.anchor live.block old.cache cache o how → HasEnded p old.anchor cache live.block how
    HasEnded-told cache t (rejected is) =
        rw is (flawed _ (λ e. cc) (elim (outcome-none w.works.meaning Before live.block.block (turned-at w stored p points point next old s j live live_is m located turned None t)) [ inl none ↦ inl none | inr bad ↦ inr (inl bad) ]))
    HasEnded-told cache t (mismatched {batch = batch} differs is) =
        let e = ends-some batch _ _ _ (turned-at w stored p points point next old s j live live_is m located turned (Some batch) t) in
        let leads = outcome-some w.works.meaning Before live.block.block e.0 e.1 in
        rw is (flawed _ (λ e. cc) (inr (inr (inl (e.0, leads.1, differs (run.own, e.0) (points run.parent.digest ∷ run.below) e.2)))))
    HasEnded-told cache t (agreed agrees (there any is)) = rw is (record { parent = parent_there; why = inl (cached_step w stored p points point next old s j live live_is m located turned any); kept = λ e. cached_step w stored p points point next old s j live live_is m located turned any })
    HasEnded-told cache t (agreed agrees (added out above here is)) = rw is (record {
      parent = more_at_hand _ Parent parent_there;
      why = inl (last_in _);
      kept = λ e. last_in _;
    })
    HasEnded-told cache t (agreed agrees (missed out (inl late) is)) = rw is (flawed _ (λ e. cc) (inr (inr (inr late))))
    HasEnded-told cache t (agreed agrees (missed out (inr off) is)) = absurd (off parent_there)
