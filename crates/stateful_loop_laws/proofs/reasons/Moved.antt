-- False verdicts and declines have their reasons: that of a request that follows the end of a run once the anchor has moved on.
use Rattle.std.proofs.Common.{◌≡◌, ◌≢◌, ◌++◌, ℕ, List, [], ◌∷◌, All, Contains, Option, Some, inl, inr, refl, sym, ap, ◌∙◌, subst}
use Rattle.std.proofs.lemmas.List.Elements.{All-weaker}
use Rattle.stateful_base.specs.Names.{Named}
use Rattle.stateful_base.specs.Round.{IsLater}
use Rattle.stateful_base.specs.declared.anchor.Anchor.{Anchor}
use Rattle.stateful_base.specs.declared.digest.Digest.{Digest}
use Rattle.stateful_base.specs.declared.round.Round.{Round}
use Rattle.stateful_history.specs.Known.{Known}
use Rattle.stateful_history.specs.Met.{Met}
use Rattle.stateful_history.specs.Past.{Past}
use Rattle.stateful_history.specs.Setting.{parent_of}
use Rattle.stateful_history.specs.declared.event.Event.{Event}
use Rattle.stateful_history.specs.declared.mark.How.{How}
use Rattle.stateful_history.specs.declared.mark.How.TheVariants.{Missed}
use Rattle.stateful_history.specs.declared.mark.Mark.{Mark}
use Rattle.stateful_exec_cache.specs.Cache.{IsIn, IsAtHand}
use Rattle.stateful_exec_pause.specs.Boundary.{Boundary, IsRetained, step_by}
use Rattle.stateful_exec_pause.specs.Fates.{IsGivenUp}
use Rattle.stateful_exec_model.specs.Ending.{Follows, given_up, at_boundary, failed, parked, goes_on}
use Rattle.stateful_exec_model.specs.Moments.{Moment, moment}
use Rattle.stateful_exec_walk.specs.Path.{Path}
use Rattle.stateful_exec_tables.specs.Meeting.{GoesOn, IsPassed}
use Rattle.stateful_exec_tables.specs.Meeting.{Reaches}
use Rattle.stateful_exec_model.specs.Rules.{Concludes, Advances, arrives, leaves, joins, starts, misses}
use Rattle.stateful_exec_tables.specs.Tables.{requested, ended, told}
use Rattle.stateful_exec_model.specs.Workings.{Workings, Point}
use Rattle.stateful_exec_pause.specs.declared.pause.Pause.{Pause}
use Rattle.stateful_exec_pause.specs.declared.pause.Pause.TheVariants.{Free, Finalizing, Pruning}
use Rattle.stateful_exec_walk.specs.declared.request.Verdict.TheVariants as verdict
use Rattle.stateful_exec_tables.specs.declared.state.Tables.{Tables}
use Rattle.stateful_exec_tables.specs.declared.tables.Released.{Released}
use Rattle.stateful_exec_laws.specs.Crossing.{HasMovedSo}
use Rattle.stateful_exec_laws.specs.Requesting.{IsRequestOf, IsWayOf}
use Rattle.stateful_exec_laws.specs.Setting.{setting}
use Rattle.stateful_exec_laws.proofs.earned.InTurn.{All-last}
use Rattle.stateful_exec_laws.proofs.requests.KeptMarks.{KeepsBehind}
use Rattle.stateful_exec_laws.proofs.front.MovedStands.{known_moved}
use Rattle.stateful_exec_laws.proofs.reasons.Advances.{reached_here, reached_off}
use Rattle.stateful_exec_laws.proofs.requests.AdvanceStands.{reached_met, reached_child, reached_way}
use Rattle.stateful_exec_laws.proofs.reasons.Missing.{Known-above}
use Rattle.stateful_exec_laws.proofs.reasons.Known.{later_than_tip}
use Rattle.stateful_exec_laws.proofs.reasons.Followed.{HasWaited}
use Rattle.stateful_exec_laws.proofs.reasons.Follows.{follows-reason}
use Rattle.stateful_exec_laws.proofs.reasons.Ground.{IsGround, chain_of, HasState-on}
use Rattle.stateful_exec_laws.proofs.reasons.Marks.{HasItsReason, concludes-valid}

module _ {B C I P R D H G U : Type 0} (w : Workings B C I P R D H G U) (stored : ℕ → Option (Named B)) (base : w.States) (event : Event B C I)
    (marks : List (Mark B)) (p : Past B C I) (points : Digest → Point w) (point : Point w) (m : Moment w) (moved : HasMovedSo m.state) where
  abbrev v : Tables B C I R U
  v = m.state

  -- the moment without the pause
  abbrev Freed : Moment w
  Freed = record m { state = record m.state { pause = Free } }

  abbrev Rule : Past B C I → Mark B → Type 0
  Rule = HasItsReason w stored base event marks

  -- what is at hand is compatible with the finalization
  compatible : (d : Digest) → IsAtHand v.anchor v.cache d → Contains moved.boundary.compatible d
  compatible d here = elim ((known_moved v.anchor v.cache moved.boundary moved.moved d).1 here) [
    | inl is ↦ subst (λ (x : Digest). Contains moved.boundary.compatible x) (sym is) moved.moved.own
    | inr both ↦ both.1
  ]

  module _ (g : IsGround w stored base p points point m.next v.anchor Free v.anchor v.cache) where
    -- a block that doesn't go on over the finalized one, on a parent at hand, isn't later than the anchor
    not_later : (x : Named B) → x.digest ≢ v.anchor.digest → IsAtHand v.anchor v.cache (parent_of (setting w stored) x)
        → (IsRetained moved.boundary (step_by w.header x) → ⊥) → IsLater v.anchor.round (w.header.round x.block) → ⊥
    not_later x other parent out late = out (record {
      other = λ is. other (is ∙ sym moved.moved.digest_is);
      later = subst (λ (z : Round). IsLater z (w.header.round x.block)) moved.moved.round_is late;
      parent = compatible (parent_of (setting w stored) x) parent;
    })

    -- and it isn't cached
    uncached : (x : Named B) → Met (setting w stored) p x → x.digest ≢ v.anchor.digest → IsAtHand v.anchor v.cache (parent_of (setting w stored) x)
        → (IsRetained moved.boundary (step_by w.header x) → ⊥) → IsIn v.cache x.digest → ⊥
    uncached x met other parent out any = elim (Known-above (setting w stored) ((g.stands.knows x.digest).1 (inr any)) g.names x met refl) [
      | inl at_tip ↦
          let same_tip : Some at_tip.0 ≡ Some v.anchor = sym at_tip.1 ∙ g.folded.tip_is in
          let e : at_tip.0 ≡ v.anchor = search in
          other (sym at_tip.2 ∙ ap (λ (a : Anchor). a.digest) e)
      | inr above ↦ not_later x other parent out (later_than_tip w stored base p points point m.next v.anchor Free v.anchor v.cache g x above.1)
    ]

    module _ (b : Named B) (how : How) (r : Released B C I) (asked : IsRequestOf w stored p r.ticket r.request)
        (h : HasWaited w stored base v.anchor b how p v.pause v.anchor v.cache r) where
      -- a request ends badly, since a block on its way is flawed
      ends_badly : (now : Moment w) → (IsIn v.cache b.digest → ⊥) → Concludes w m r.ticket (requested r.request) verdict.Invalid now
          → KeepsBehind w Rule p m now
      ends_badly now out concludes =
          let last : Moment w = moment w (ended Freed.state r.ticket r.request verdict.Invalid) m.members m.next
          (m.marks ++ told r.ticket r.request verdict.Invalid) in
          let met : Met (setting w stored) p b = subst (λ (x : Named B). Met (setting w stored) p x) h.leads
          (All-last (Met (setting w stored) p) r.path.blocks r.path.parent h.way.met) in
          let k : KeepsBehind w Rule p Freed last = follows-reason w stored base event marks p points point m.next v.anchor Freed g b how h.ended
          met r h.leads asked h.way h.off h.unsettled last (failed (λ no. no) out refl) in
          record { more = k.more; marks_are = ap (λ (n : Moment w). n.marks) concludes ∙ k.marks_are; each = k.each }

    module _ (b : Named B) (how : How) (r : Released B C I) (asked : IsRequestOf w stored p r.ticket r.request)
        (h : HasWaited w stored base v.anchor b how p v.pause v.anchor v.cache r) where
      off_anchor : b.digest ≢ v.anchor.digest
      off_anchor = subst (λ (x : Named B). x.digest ≢ v.anchor.digest) h.leads
          (All-last (λ x. x.digest ≢ v.anchor.digest) r.path.blocks r.path.parent h.off)

      -- the run's block doesn't go on
      given_up_by : (pause : Pause) → pause ≡ Finalizing moved.boundary → IsGivenUp w.header pause b → IsRetained moved.boundary (step_by w.header b)
          → ⊥
      given_up_by (Finalizing x) is out = let same : x ≡ moved.boundary = search in
          subst (λ (y : Boundary). IsRetained y (step_by w.header b) → ⊥) same out.1
      given_up_by Free is out = absurd out
      given_up_by Pruning is out = absurd out

      goes_by : (pause : Pause) → pause ≡ Finalizing moved.boundary → (x : Named B) → (GoesOn w.header pause x → ⊥)
          → IsRetained moved.boundary (step_by w.header x) → ⊥
      goes_by pause is x out on = out (subst (λ (y : Pause). GoesOn w.header y x) (sym is) on)

      -- a request that goes along its path from the run's block, which is cached
      along : IsIn v.cache b.digest → (now : Moment w) → Advances w m r.ticket (requested r.request) r.path now → KeepsBehind w Rule p m now
      along any now (arrives all concludes) = concludes-valid w stored base event marks p r.ticket m (requested r.request) now concludes
      along any now (leaves {left = left} {b = x} {parent = c} reaches out concludes) =
          let here = here_at left x c reaches in
          let path : Path B = record { blocks = left; parent = x } in
          let way : IsWayOf w stored p r.request path = reached_way w stored p v r.request r.path h.way left x c reaches in
          let off : All (λ z. z.digest ≢ v.anchor.digest) (left ++ x ∷ []) =
          reached_off w stored base p points point m.next v.anchor Freed.state g r.request r.path h.way parent_pair left x c
          (freed_reaches left x c reaches)
          (λ z. z.digest ≢ v.anchor.digest) h.off in
          let other : x.digest ≢ v.anchor.digest = All-last (λ z. z.digest ≢ v.anchor.digest) left x off in
          let child : c.digest ≡ parent_of (setting w stored) x = reached_child w stored p v r.request r.path h.way left x c reaches in
          let parent : IsAtHand v.anchor v.cache (parent_of (setting w stored) x) =
          subst (λ (d : Digest). IsAtHand v.anchor v.cache d) child here.1 in
          let met : Met (setting w stored) p x = reached_met w stored p v r.request r.path h.way left x c reaches in
          let unretained : IsRetained moved.boundary (step_by w.header x) → ⊥ = goes_by v.pause moved.pause_is x out in
          let chain = chain_of w stored base p points point m.next v.anchor Free v.anchor v.cache g (parent_of (setting w stored) x) parent in
          ends_badly x Missed (record r { path = path }) asked (record {
            way = way;
            leads = refl;
            off = off;
            unsettled = h.unsettled;
            ended = record {
              parent = parent;
              why = inr (
                (points (parent_of (setting w stored) x)).1,
                HasState-on w stored base p points point m.next v.anchor Free v.anchor v.cache g chain.1,
                inr (inr (inr (not_later x other parent unretained))),
              );
              kept = λ is. cc;
            };
          }) now (uncached x met other parent unretained) concludes
        where
          parent_pair : Known (setting w stored) p r.path.parent.digest × IsAtHand v.anchor v.cache r.path.parent.digest
          parent_pair = subst (λ (x : Named B). Known (setting w stored) p x.digest × IsAtHand v.anchor v.cache x.digest) (sym h.leads)
              ((g.stands.knows b.digest).1 (inr any), inr any)

          freed_reaches : (left : List (Named B)) (x c : Named B) → Reaches w.header v r.path left x c → Reaches w.header Freed.state r.path left x c
          freed_reaches left x c reaches = record {
            passed = reaches.passed;
            parts = reaches.parts;
            each = All-weaker (λ z. IsPassed w.header v z) (λ z. IsPassed w.header Freed.state z) (λ z on. (tt, on.1)) reaches.passed reaches.each;
            parent_is = reaches.parent_is;
          }

          here_at : (left : List (Named B)) (x c : Named B) → Reaches w.header v r.path left x c
              → Known (setting w stored) p c.digest × IsAtHand v.anchor v.cache c.digest
          here_at left x c reaches = reached_here w stored base p points point m.next v.anchor Freed.state g r.request r.path h.way parent_pair left x c
              (freed_reaches left x c reaches)
      along any now (joins j reaches on unknown has becomes) = rw becomes (record { more = []; marks_are = refl; each = tt })
      along any now (starts reaches on unknown unrun known launches) = record { more = _; marks_are = launches.marks; each = ((tt, tt), tt) }
      along any now (misses {left = left} {b = x} {parent = c} reaches on unknown unrun unknown_parent concludes) =
          absurd (unknown_parent (reached_here w stored base p points point m.next v.anchor Freed.state g r.request r.path h.way
          (subst (λ (x : Named B). Known (setting w stored) p x.digest × IsAtHand v.anchor v.cache x.digest) (sym h.leads)
          ((g.stands.knows b.digest).1 (inr any), inr any)) left x c
          (record {
            passed = reaches.passed;
            parts = reaches.parts;
            each = All-weaker (λ z. IsPassed w.header v z) (λ z. IsPassed w.header Freed.state z) (λ z on. (tt, on.1)) reaches.passed reaches.each;
            parent_is = reaches.parent_is;
          })).1)

      -- Each mark of a request that follows the end of the run keeps the rule.
      pub follows-moved : (now : Moment w) → Follows w b how r m now → KeepsBehind w Rule p m now
      follows-moved now (given_up out concludes) =
          ends_badly b how r asked h now
          (uncached b (subst (λ (x : Named B). Met (setting w stored) p x) h.leads
          (All-last (Met (setting w stored) p) r.path.blocks r.path.parent h.way.met)) off_anchor h.ended.parent
          (given_up_by v.pause moved.pause_is out)) concludes
      follows-moved now (at_boundary out becomes) = rw becomes (record { more = []; marks_are = refl; each = tt })
      follows-moved now (failed not_held out concludes) = ends_badly b how r asked h now out concludes
      follows-moved now (parked pruning any becomes) = rw becomes (record { more = []; marks_are = refl; each = tt })
      follows-moved now (goes_on kept not_held other any advances) = along any now advances
