-- False verdicts and declines have their reasons: those of the requests that waited for a run that has ended.
use Rattle.std.proofs.Common.{◌≡◌, ◌≢◌, inl, inr, ℕ, List, [], All, Option, refl, sym, ap, ◌∙◌, subst}
use Rattle.stateful_base.specs.Names.{Named}
use Rattle.stateful_base.specs.Round.{IsLater}
use Rattle.stateful_base.specs.declared.anchor.Anchor.{Anchor}
use Rattle.stateful_base.specs.declared.digest.Digest.{Digest}
use Rattle.stateful_base.specs.declared.round.Round.{Round}
use Rattle.stateful_history.specs.Canonical.{IsCanonical}
use Rattle.stateful_history.specs.Known.{Known, IsUnknown, IsPastTip}
use Rattle.stateful_history.specs.Met.{Met}
use Rattle.stateful_history.specs.Past.{Past}
use Rattle.stateful_history.specs.Reasons.{Missing, IsBad}
use Rattle.stateful_history.specs.Setting.{parent_of}
use Rattle.stateful_history.specs.States.{HasState}
use Rattle.stateful_history.specs.declared.event.Event.{Event}
use Rattle.stateful_history.specs.declared.mark.How.{How}
use Rattle.stateful_history.specs.declared.mark.Mark.{Mark}
use Rattle.stateful_exec_cache.specs.Cache.{IsIn, IsAtHand}
use Rattle.stateful_exec_cache.specs.declared.cache.Cached.{Cached}
use Rattle.stateful_exec_pause.specs.Fates.{IsGivenUp, AwaitsBoundary}
use Rattle.stateful_exec_model.specs.Ending.{Follows, given_up, at_boundary, failed, parked, goes_on}
use Rattle.stateful_exec_model.specs.Moments.{Moment}
use Rattle.stateful_exec_tables.specs.Tables.{requested}
use Rattle.stateful_exec_model.specs.Rules.{Concludes}
use Rattle.stateful_exec_walk.specs.declared.request.Verdict.TheVariants as verdict
use Rattle.stateful_exec_model.specs.Workings.{Workings, Point}
use Rattle.stateful_exec_pause.specs.declared.pause.Pause.{Pause}
use Rattle.stateful_exec_pause.specs.declared.pause.Pause.TheVariants.{Free, Finalizing, Pruning}
use Rattle.stateful_exec_tables.specs.declared.tables.Released.{Released}
use Rattle.stateful_exec_laws.specs.Setting.{setting}
use Rattle.stateful_exec_laws.specs.Requesting.{first_of, steps, IsRequestOf, IsWayOf}
use Rattle.stateful_exec_laws.proofs.earned.Follows.{kept-Known}
use Rattle.stateful_exec_laws.proofs.earned.InTurn.{All-last}
use Rattle.stateful_exec_laws.proofs.requests.KeptMarks.{KeepsBehind}
use Rattle.stateful_exec_laws.proofs.reasons.Missing.{Missing-first}
use Rattle.stateful_exec_laws.proofs.reasons.Ground.{IsGround, IsFinal, chain_of, HasState-on, round_of_top}
use Rattle.stateful_exec_laws.proofs.reasons.Known.{later_on, later_than_tip, unretained_late, unretained_unknown}
use Rattle.stateful_exec_laws.proofs.reasons.Stuck.{stuck_on}
use Rattle.stateful_exec_laws.proofs.reasons.Marks.{HasItsReason, MayEnd-stuck, concludes-ended}
use Rattle.stateful_exec_laws.proofs.reasons.Advances.{missing_way, not_final, closed_by, first_off, advances-reason}
use Rattle.stateful_exec_laws.proofs.reasons.Ended.{IsFlawed, HasEnded}

module _ {B C I P R D H G U : Type 0} (w : Workings B C I P R D H G U) (stored : ℕ → Option (Named B)) (base : w.States) (p : Past B C I) (points : Digest → Point w) (point : Point w) (next : w.Ids) (tip : Anchor) where
  -- what isn't later than the anchor isn't later than the tip
  past_anchor : (pause : Pause) (anchor : Anchor) (cache : List (Cached U)) → IsGround w stored base p points point next tip pause anchor cache → (b : Named B) → IsPastTip (setting w stored) p b → IsLater anchor.round (w.header.round b.block)
  past_anchor Free anchor cache g b late = let e : tip ≡ anchor = g.tip_by in subst (λ (a : Anchor). IsLater a.round (w.header.round b.block)) e (later_than_tip w stored base p points point next tip Free anchor cache g b late)
  past_anchor Pruning anchor cache g b late = let e : tip ≡ anchor = g.tip_by in subst (λ (a : Anchor). IsLater a.round (w.header.round b.block)) e (later_than_tip w stored base p points point next tip Pruning anchor cache g b late)
  past_anchor (Finalizing boundary) anchor cache g b late =
      let f : IsFinal w stored p anchor cache tip boundary = g.tip_by in
      later_on anchor.round tip.round (w.header.round b.block) (subst (λ (r : Round). IsLater anchor.round r) (f.round_is ∙ sym (ap (λ (a : Anchor). a.round) f.tip_is)) f.later)
      (later_than_tip w stored base p points point next tip (Finalizing boundary) anchor cache g b late)

  flawed_bad : (pause : Pause) (anchor : Anchor) (cache : List (Cached U)) → IsGround w stored base p points point next tip pause anchor cache → (t : w.States) (b : Named B) → IsFlawed w stored base anchor t b → IsBad (setting w stored) base p t b
  flawed_bad pause anchor cache g t b (inl none) = inl none
  flawed_bad pause anchor cache g t b (inr (inl bad)) = inr (inl bad)
  flawed_bad pause anchor cache g t b (inr (inr (inl other))) = inr (inr (inl other))
  flawed_bad pause anchor cache g t b (inr (inr (inr early))) = inr (inr (inr (λ late. early (past_anchor pause anchor cache g b late))))

  -- a block that is given up isn't known, and where its parent is known it isn't later than the tip
  given_up_unknown : (pause : Pause) (anchor : Anchor) (cache : List (Cached U)) → IsGround w stored base p points point next tip pause anchor cache → (b : Named B) → Met (setting w stored) p b → IsGivenUp w.header pause b → IsUnknown (setting w stored) p b.digest
  given_up_unknown Free anchor cache g b met off = absurd off
  given_up_unknown Pruning anchor cache g b met off = absurd off
  given_up_unknown (Finalizing boundary) anchor cache g b met off = unretained_unknown w stored base p points point next tip boundary anchor cache g b met off.0 off.1

  given_up_late : (pause : Pause) (anchor : Anchor) (cache : List (Cached U)) → IsGround w stored base p points point next tip pause anchor cache → (b : Named B) → IsGivenUp w.header pause b → IsUnknown (setting w stored) p b.digest → Known (setting w stored) p (parent_of (setting w stored) b) → IsPastTip (setting w stored) p b → ⊥
  given_up_late Free anchor cache g b off unknown parent late = absurd off
  given_up_late Pruning anchor cache g b off unknown parent late = absurd off
  given_up_late (Finalizing boundary) anchor cache g b off unknown parent late = unretained_late w stored base p points point next tip boundary anchor cache g b unknown parent off.1 late

  -- a block that is neither cached nor held isn't known after its run
  failed_unknown : (pause : Pause) (anchor : Anchor) (cache : List (Cached U)) → IsGround w stored base p points point next tip pause anchor cache → (b : Named B) (how : How) → HasEnded w stored base p anchor cache b how → b.digest ≢ anchor.digest → (AwaitsBoundary pause b how → ⊥) → (IsIn cache b.digest → ⊥) → IsUnknown (setting w stored) p b.digest
  failed_unknown Free anchor cache g b how ended other not_held out known = elim ((g.stands.knows b.digest).0 known) [ inl own ↦ other own | inr any ↦ out any ]
  failed_unknown Pruning anchor cache g b how ended other not_held out known = elim ((g.stands.knows b.digest).0 known) [ inl own ↦ other own | inr any ↦ out any ]
  failed_unknown (Finalizing boundary) anchor cache g b how ended other not_held out known = elim ((g.stands.knows b.digest).0 known) [ inl own ↦ not_held (own, λ kept. out (ended.kept kept)) | inr both ↦ out both.0 ]

module _ {B C I P R D H G U : Type 0} (w : Workings B C I P R D H G U) (stored : ℕ → Option (Named B)) (base : w.States) (event : Event B C I) (marks : List (Mark B)) (p : Past B C I) (points : Digest → Point w) (point : Point w) (next : w.Ids) (tip : Anchor)
    (m : Moment w) (g : IsGround w stored base p points point next tip m.state.pause m.state.anchor m.state.cache)
    (b : Named B) (how : How) (ended : HasEnded w stored base p m.state.anchor m.state.cache b how) (met : Met (setting w stored) p b) (r : Released B C I) (leads : r.path.parent ≡ b)
    (asked : IsRequestOf w stored p r.ticket r.request) (way : IsWayOf w stored p r.request r.path) (off : All (λ x. x.digest ≢ m.state.anchor.digest) (steps r.path))
    (final : IsCanonical (setting w stored) p (first_of r.request) → (first_of r.request).digest ≡ tip.digest) where
  abbrev First : Named B
  First = first_of r.request

  missing_of : IsUnknown (setting w stored) p b.digest → Missing (setting w stored) base p First b
  missing_of unknown =
      subst (λ (x : Named B). Missing (setting w stored) base p First x) leads
      (missing_way w stored base p points point next tip m.state.pause m.state.anchor m.state.cache g r.request r.path way off (subst (λ (x : Named B). IsUnknown (setting w stored) p x.digest) (sym leads) unknown))

  ends_stuck : (now : Moment w) → IsUnknown (setting w stored) p b.digest
      → (Known (setting w stored) p (parent_of (setting w stored) b) → (t : w.States) × HasState (setting w stored) base p (parent_of (setting w stored) b) t × IsBad (setting w stored) base p t b)
      → Concludes w m r.ticket (requested r.request) verdict.Invalid now → KeepsBehind w (HasItsReason w stored base event marks) p m now
  ends_stuck now unknown bad concludes =
      let missing : Missing (setting w stored) base p First b = missing_of unknown in
      concludes-ended w stored base event marks p r.ticket m (requested r.request) now asked
      (MayEnd-stuck w stored base event marks p r.ticket m.state.anchor r.request (first_off w stored p r.request m.state.anchor r.path way off)
      (not_final w stored base p points point next tip m.state.pause m.state.anchor m.state.cache g First final (Missing-first (setting w stored) base p missing))
      (stuck_on w stored base p points point next tip m.state.pause m.state.anchor m.state.cache g First b missing ended.parent bad)) concludes

  state_of_parent : (t : w.States) × HasState (setting w stored) base p (parent_of (setting w stored) b) t
  state_of_parent =
      let chain = chain_of w stored base p points point next tip m.state.pause m.state.anchor m.state.cache g (parent_of (setting w stored) b) ended.parent in
      ((points (parent_of (setting w stored) b)).1, HasState-on w stored base p points point next tip m.state.pause m.state.anchor m.state.cache g chain.1)

  bad_by : (IsIn m.state.cache b.digest → ⊥) → (t : w.States) × HasState (setting w stored) base p (parent_of (setting w stored) b) t × IsBad (setting w stored) base p t b
  bad_by out = elim ended.why [
    | inl any ↦ absurd (out any)
    | inr h ↦ (h.0, h.1, flawed_bad w stored base p points point next tip m.state.pause m.state.anchor m.state.cache g h.0 b h.2)
  ]

  here : (IsGivenUp w.header m.state.pause b → ⊥) → IsIn m.state.cache b.digest → Known (setting w stored) p b.digest × IsAtHand m.state.anchor m.state.cache b.digest
  here kept any =
      (kept-Known w stored p g.names points next m.state.anchor m.state.cache (round_of_top w stored base p points point next tip m.state.pause m.state.anchor m.state.cache g) b met any m.state.pause g.stands (closed_by w stored base p points point next tip m.state.pause m.state.anchor m.state.cache g) kept, inr any)

  off_anchor : b.digest ≢ m.state.anchor.digest
  off_anchor = subst (λ (x : Named B). x.digest ≢ m.state.anchor.digest) leads (All-last (λ x. x.digest ≢ m.state.anchor.digest) r.path.blocks r.path.parent off)

  -- each mark of a request that follows the end of the run that it waited for keeps the rule
  pub follows-reason : (now : Moment w) → Follows w b how r m now → KeepsBehind w (HasItsReason w stored base event marks) p m now
  follows-reason now (given_up out concludes) =
      let unknown : IsUnknown (setting w stored) p b.digest = given_up_unknown w stored base p points point next tip m.state.pause m.state.anchor m.state.cache g b met out in
      ends_stuck now unknown (λ parent. (state_of_parent.0, state_of_parent.1, inr (inr (inr (given_up_late w stored base p points point next tip m.state.pause m.state.anchor m.state.cache g b out unknown parent))))) concludes
  follows-reason now (at_boundary out becomes) = rw becomes (record { more = []; marks_are = refl; each = tt })
  follows-reason now (failed not_held out concludes) =
      ends_stuck now (failed_unknown w stored base p points point next tip m.state.pause m.state.anchor m.state.cache g b how ended off_anchor not_held out) (λ parent. bad_by out) concludes
  follows-reason now (parked pruning any becomes) = rw becomes (record { more = []; marks_are = refl; each = tt })
  follows-reason now (goes_on kept not_held other any advances) =
      advances-reason w stored base event marks p points point next tip m g r.ticket (requested r.request) asked r.path now way
      (subst (λ (x : Named B). Known (setting w stored) p x.digest × IsAtHand m.state.anchor m.state.cache x.digest) (sym leads) (here kept any)) off final advances
