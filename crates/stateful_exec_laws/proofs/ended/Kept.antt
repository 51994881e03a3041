-- The tables stand after the end of a run whose block is added to the cache.
use Rattle.std.proofs.Common.{◌≡◌, ◌≢◌, ◌⊎◌, ◌↔◌, ◌++◌, inl, inr, ℕ, true, List, [], ◌∷◌, Any, Option, Some, MatchOption, refl, sym, ◌∙◌, subst, get_or}
use Rattle.std.proofs.lemmas.List.Elements.{All-push, Contains-append_left, Contains-push_cases}
use Rattle.std.proofs.lemmas.List.Quantifiers.{Any-push}
use Rattle.stateful_base.specs.Names.{Named}
use Rattle.stateful_base.specs.Round.{IsLater}
use Rattle.stateful_base.specs.declared.anchor.Anchor.{Anchor}
use Rattle.stateful_base.specs.declared.digest.Digest.{Digest}
use Rattle.stateful_history.specs.Anchors.{tip_of}
use Rattle.stateful_history.specs.Past.{Past}
use Rattle.stateful_history.specs.Known.{Known, kept, IsPastTip}
use Rattle.stateful_history.specs.Met.{Met, TrueNames}
use Rattle.stateful_history.specs.declared.mark.How.TheVariants.{Kept}
use Rattle.stateful_exec_cache.specs.Cache.{IsIn, IsAtHand}
use Rattle.stateful_exec_cache.specs.declared.cache.Cached.{Cached}
use Rattle.stateful_table.specs.Table.{at}
use Rattle.stateful_exec_model.specs.Workings.{Workings, Point}
use Rattle.stateful_exec_pause.specs.declared.pause.Pause.{Pause}
use Rattle.stateful_exec_tables.specs.declared.state.Tables.{Tables}
use Rattle.stateful_exec_tables.specs.declared.tables.LiveRun.{LiveRun}
use Rattle.stateful_exec_laws.specs.Setting.{setting}
use Rattle.stateful_exec_laws.specs.Chains.{further, Chain, Leads}
use Rattle.stateful_exec_laws.specs.Caching.{IsKnownBy, IsCached}
use Rattle.stateful_exec_laws.specs.Running.{IsRunning}
use Rattle.stateful_exec_laws.specs.Standing.{TablesStand}
use Rattle.stateful_exec_laws.proofs.ended.Runs.{Moves, IsCached-moved, RunsStand-turned}
use Rattle.stateful_exec_laws.proofs.ended.Known.{IsLater-self, Known-turned, Known-turned_before}
use Rattle.stateful_exec_laws.proofs.ended.Points.{with_point, with_point-at, with_point-other, InOrder-push, Moves-with}
use Rattle.stateful_exec_laws.proofs.ended.Stands.{entry_at_hand, ended, IsLeftBy, running, started-own, IsLeftBy-from}

-- an element of a list is one of a longer list
pub Any-more : {X : Type 0} (P : X → Type 0) (xs : List X) (y : X) → Any P xs → Any P (xs ++ y ∷ [])
Any-more P xs y h =
    let c = Contains-append_left xs (y ∷ []) h.1 (h.0, h.2, h.3) in
    (c.0, h.1, c.1, c.2, h.4)

-- an element of a longer list is one of the list, or the last one
pub Any-push_cases : {X : Type 0} (P : X → Type 0) (xs : List X) (y : X) → Any P (xs ++ y ∷ []) → Any P xs ⊎ P y
Any-push_cases P xs y h = elim (Contains-push_cases xs y h.1 (h.0, h.2, h.3)) [
  | inl c ↦ inl (c.0, h.1, c.1, c.2, h.4)
  | inr e ↦ inr (subst P (sym e) h.4)
]

module _ {B C I P R D H G U : Type 0} (w : Workings B C I P R D H G U) (stored : ℕ → Option (Named B)) (p : Past B C I) (anchor : Anchor) where
  -- blocks of the history with the anchor's digest are of its round
  abbrev pub IsRoundOf : Type 0
  IsRoundOf = (b : Named B) → Met (setting w stored) p b → b.digest ≡ anchor.digest → w.header.round b.block ≡ anchor.round

module _ {B C I P R D H G U : Type 0} (w : Workings B C I P R D H G U) (stored : ℕ → Option (Named B)) (p : Past B C I) (points : Digest → Point w) (point : Point w) (next : w.Ids) (old : Tables B C I R U) (s : TablesStand w stored p points point next old)
    (names : TrueNames (setting w stored) p) (round : IsRoundOf w stored p old.anchor)
    (j : ℕ) (live : LiveRun B R) (live_is : at old.runs j ≡ Some live) where
  abbrev run : IsRunning w stored p points next old.anchor old.cache j live
  run = running w stored p points point next old s j live live_is

  abbrev q : Past B C I
  q = ended w stored p point next old j live Kept

  module _ (batch : U) (u : w.States)
      (accepted : w.works.meaning.accept (points run.parent.digest).1 live.block.block ≡ true)
      (step : w.works.meaning.step (points run.parent.digest).1 live.block.block ≡ Some u)
      (targets : w.kind.target_of u ≡ w.works.meaning.targets live.block.block)
      (shows : w.shows batch ((run.own, u) ∷ points run.parent.digest ∷ run.below))
      (new : IsIn old.cache live.block.digest → ⊥) (later : IsLater old.anchor.round (w.header.round live.block.block)) where
    not_anchor : live.block.digest ≢ old.anchor.digest
    not_anchor e = IsLater-self old.anchor.round (subst (λ r. IsLater old.anchor.round r) (round live.block run.met e) later)

    unknown : IsAtHand old.anchor old.cache live.block.digest → ⊥
    unknown (inl e) = not_anchor e
    unknown (inr a) = new a

    abbrev top : Point w
    top = (run.own, u)

    abbrev now : Digest → Point w
    now = with_point points live.block.digest top

    abbrev entry : Cached U
    entry = record { digest = live.block.digest; parent = w.header.parent live.block.block; round = w.header.round live.block.block; batch = batch }

    abbrev more : List (Cached U)
    more = old.cache ++ entry ∷ []

    own : now live.block.digest ≡ top
    own = with_point-at points live.block.digest top

    moves : Moves w stored p q points now old.anchor old.cache
    moves = Moves-with w stored p j Kept points next old.anchor old.cache names s.cache.each s.cache.in_order live.block.digest unknown top

    parent_at_hand : IsAtHand old.anchor old.cache (w.header.parent live.block.block)
    parent_at_hand = subst (λ (d : Digest). IsAtHand old.anchor old.cache d) run.parent_is run.at_hand

    parent_now : now run.parent.digest ≡ points run.parent.digest
    parent_now = moves.same run.parent.digest run.at_hand

    leads : Leads w stored q (points run.parent.digest).1 live.block u
    leads = record { met = inr (inr run.met); matches = record { step = step; targets = targets }; earned = inl accepted }

    parent-Chain : Chain w stored q now old.anchor.digest (w.header.parent live.block.block) (points run.parent.digest ∷ run.below)
    parent-Chain = subst (λ (d : Digest). Chain w stored q now old.anchor.digest d (points run.parent.digest ∷ run.below)) run.parent_is (moves.chain run.parent.digest _ run.at_hand run.chain)

    own-Chain : Chain w stored q now old.anchor.digest live.block.digest (now live.block.digest ∷ points run.parent.digest ∷ run.below)
    own-Chain = further refl refl parent-Chain not_anchor (subst (λ (x : Point w). Leads w stored q (points run.parent.digest).1 live.block x.1) (sym own) leads)

    own-IsCached : IsCached w stored q now next old.anchor entry
    own-IsCached = record {
      block = live.block;
      met = inr (inr run.met);
      digest_is = refl;
      parent_is = refl;
      round_is = refl;
      other = not_anchor;
      below = points run.parent.digest ∷ run.below;
      chain = own-Chain;
      drawn = subst (λ (x : Point w). w.kind.issued next (x ∷ points run.parent.digest ∷ run.below)) (sym own) (run.drawn u);
      shows = subst (λ (x : Point w). w.shows batch (x ∷ points run.parent.digest ∷ run.below)) (sym own) shows;
    }

    grows : (d : Digest) → IsAtHand old.anchor old.cache d → IsAtHand old.anchor more d
    grows d (inl e) = inl e
    grows d (inr a) = inr (Any-more (λ (c : Cached U). c.digest ≡ d) old.cache entry a)

    own_in : IsIn more live.block.digest
    own_in = Any-push (λ (c : Cached U). c.digest ≡ live.block.digest) old.cache entry refl

    -- after the end of a run that is kept, whose block comes last in the cache, where the known blocks are those of the pause
    pub IsLeftBy-added : (pause : Pause) → ((d : Digest) → Known (setting w stored) q d ↔ IsKnownBy pause old.anchor more d) → IsLeftBy w stored p point next old j live Kept points more pause
    IsLeftBy-added pause knows =
        IsLeftBy-from w stored p points point next old s j live live_is Kept now moves more pause
        (with_point-other points live.block.digest top old.anchor.digest (λ e. not_anchor (sym e)) ∙ s.at_anchor)
        (record {
          each = All-push (IsCached w stored q now next old.anchor) old.cache entry
              (λ k d l. IsCached-moved w stored p q points now old.anchor old.cache moves next (get_or old.cache k d) (entry_at_hand old.anchor old.cache k d l) (s.cache.each k d l))
              own-IsCached;
          in_order = InOrder-push old.anchor.digest old.cache entry s.cache.in_order parent_at_hand;
          knows = knows;
        })
        (RunsStand-turned w stored p points now next old.anchor old.cache more j Kept moves grows old.runs s.runs)

    -- where the tip is of an earlier round and the parent is known, so is the block
    pub Known-own : IsPastTip (setting w stored) p live.block → Known (setting w stored) p run.parent.digest → Known (setting w stored) q live.block.digest
    Known-own past parent =
        kept (inr (inr run.met)) (started-own w stored p points point next old s j live live_is) past
        (subst (λ (d : Digest). Known (setting w stored) q d) run.parent_is (Known-turned (setting w stored) p run.parent.digest j Kept parent))

    -- the known blocks are those at hand, as before
    pub knows-added : tip_of w.header p ≡ Some old.anchor → ((d : Digest) → Known (setting w stored) p d ↔ IsAtHand old.anchor old.cache d)
        → (d : Digest) → Known (setting w stored) q d ↔ IsAtHand old.anchor more d
    knows-added tip knows d = (
      (λ k. elim (Known-turned_before (setting w stored) p d live.block.digest j (started-own w stored p points point next old s j live live_is) k) [
        | inl e ↦ inr (subst (λ (x : Digest). IsIn more x) (sym e) own_in)
        | inr before ↦ grows d ((knows d).0 before)
      ]),
      back d,
    )
      where
        past : IsPastTip (setting w stored) p live.block
        past = subst (λ (o : Option Anchor). MatchOption o ⊥ (λ tip. IsLater tip.round (w.header.round live.block.block))) (sym tip) later

        known-own : Known (setting w stored) q live.block.digest
        known-own = Known-own past ((knows run.parent.digest).1 run.at_hand)

        back : (d : Digest) → IsAtHand old.anchor more d → Known (setting w stored) q d
        back d (inl e) = Known-turned (setting w stored) p d j Kept ((knows d).1 (inl e))
        back d (inr a) = elim (Any-push_cases (λ (c : Cached U). c.digest ≡ d) old.cache entry a) [
          | inl before ↦ Known-turned (setting w stored) p d j Kept ((knows d).1 (inr before))
          | inr is ↦ subst (λ (x : Digest). Known (setting w stored) q x) is known-own
        ]
