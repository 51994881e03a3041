-- False verdicts and declines have their reasons: those after the last turn of a run.
use Rattle.std.proofs.Common.{◌≡◌, inl, inr, ℕ, List, ◌∷◌, Contains, Option, refl, sym, ap, ◌∙◌, subst}
use Rattle.stateful_base.specs.Names.{Named}
use Rattle.stateful_base.specs.declared.anchor.Anchor.{Anchor}
use Rattle.stateful_base.specs.declared.digest.Digest.{Digest}
use Rattle.stateful_history.specs.Met.{Met}
use Rattle.stateful_history.specs.Past.{Past, Came, Made}
use Rattle.stateful_history.specs.declared.event.Event.TheVariants.{Turn}
use Rattle.stateful_history.specs.declared.mark.How.{How}
use Rattle.stateful_history.specs.declared.mark.Mark.TheVariants.{Ended}
use Rattle.stateful_exec_cache.specs.Cache.{IsIn}
use Rattle.stateful_exec_cache.specs.declared.cache.Cached.{Cached}
use Rattle.stateful_exec_pause.specs.Boundary.{Boundary}
use Rattle.stateful_exec_tables.specs.Keeping.{Takes}
use Rattle.stateful_exec_model.specs.Ending.{IsTold, rejected, mismatched, agreed}
use Rattle.stateful_exec_tables.specs.Keeping.{there, added, missed}
use Rattle.stateful_exec_pause.specs.Fates.{Crosses}
use Rattle.stateful_exec_model.specs.Workings.{Workings}
use Rattle.stateful_exec_pause.specs.declared.pause.Pause.{Pause}
use Rattle.stateful_exec_pause.specs.declared.pause.Pause.TheVariants.{Free, Finalizing, Pruning}
use Rattle.stateful_exec_walk.specs.declared.request.Request.{Request}
use Rattle.stateful_exec_tables.specs.declared.tables.Phase.{Phase}
use Rattle.stateful_exec_tables.specs.declared.tables.Phase.TheVariants.{Open, Fetching, Waiting, Executing, Parked}
use Rattle.stateful_exec_laws.specs.Ways.{IsParkedOn, IsOnOpenWay}
use Rattle.stateful_exec_laws.proofs.earned.Paused.{IsClosedBy}
use Rattle.stateful_exec_laws.proofs.ended.Kept.{Any-more}
use Rattle.stateful_exec_laws.proofs.reasons.Ground.{IsTipBy}
use Rattle.stateful_exec_laws.proofs.requests.SamePast.{IsSamePast}

module _ {B C I S T : Type 0} (s : _) (p : Past B C I) (j : ℕ) (how : How) where
  -- the last turn of a run, and the mark that it ended, leave the past the same
  pub IsSamePast-turned : IsSamePast {S = S} {T = T} s p (Made (Ended j how) ∷ Came (Turn j) ∷ p)
  IsSamePast-turned = record { met = λ b. (back b, λ met. inr (inr met)); anchor = refl; tip = refl; blocks = refl; pruned = refl }
    where
      back : (b : Named B) → Met s (Made (Ended j how) ∷ Came (Turn j) ∷ p) b → Met s p b
      back b (inl brought) = absurd brought
      back b (inr (inl brought)) = absurd brought
      back b (inr (inr met)) = met

module _ {B C I P R D H G U : Type 0} (w : Workings B C I P R D H G U) (stored : ℕ → Option (Named B)) (b : Named B) (anchor : Anchor) where
  -- what is cached stays so after the end of a run
  taken_in : (d : Digest) (batch : U) (old new : List (Cached U)) (how : How) → Takes w.header anchor b batch old new how → IsIn old d → IsIn new d
  taken_in d batch old new how (there any is) in_old = rw is in_old
  taken_in d batch old new how (added out above here is) in_old = rw is (Any-more (λ (e : Cached U). e.digest ≡ d) old _ in_old)
  taken_in d batch old new how (missed out why is) in_old = rw is in_old

  pub told_in : (d : Digest) (old new : List (Cached U)) (ended : Option U) (how : How) → IsTold w anchor b old new ended how → IsIn old d → IsIn new d
  told_in d old new ended how (rejected is) in_old = rw is in_old
  told_in d old new ended how (mismatched differs is) in_old = rw is in_old
  told_in d old new ended how (agreed {batch = batch} agrees takes) in_old = taken_in d batch old new how takes in_old

  -- the tip is where it was
  pub IsTipBy-crossed : (p : Past B C I) (tip : Anchor) (pause after : Pause) (old new : List (Cached U)) → IsTipBy w stored p pause anchor old tip → Crosses w.header b pause after → IsClosedBy after anchor new → IsTipBy w stored p after anchor new tip
  IsTipBy-crossed p tip Free after old new is crosses closed = subst (λ (x : Pause). IsTipBy w stored p x anchor new tip) (sym crosses) is
  IsTipBy-crossed p tip Pruning after old new is crosses closed = subst (λ (x : Pause). IsTipBy w stored p x anchor new tip) (sym crosses) is
  IsTipBy-crossed p tip (Finalizing boundary) Free old new is crosses closed = absurd crosses
  IsTipBy-crossed p tip (Finalizing boundary) Pruning old new is crosses closed = absurd crosses
  IsTipBy-crossed p tip (Finalizing boundary) (Finalizing more) old new is (inl c) closed = record {
    block = is.block;
    met = is.met;
    tip_is = is.tip_is;
    digest_is = c.1.of ∙ is.digest_is;
    round_is = c.1.round ∙ is.round_is;
    on_anchor = is.on_anchor;
    higher = is.higher;
    later = closed.1;
    own = (c.1.more more.digest).1 (inr (subst (λ (d : Digest). Contains boundary.compatible d) (sym c.1.of) is.own));
    closed = closed.0;
  }
  IsTipBy-crossed p tip (Finalizing boundary) (Finalizing more) old new is (inr c) closed = record {
    block = is.block;
    met = is.met;
    tip_is = is.tip_is;
    digest_is = ap (λ (x : Boundary). x.digest) c.1 ∙ is.digest_is;
    round_is = ap (λ (x : Boundary). x.round) c.1 ∙ is.round_is;
    on_anchor = is.on_anchor;
    higher = is.higher;
    later = closed.1;
    own = subst (λ (x : Boundary). Contains x.compatible x.digest) (sym c.1) is.own;
    closed = closed.0;
  }

  -- and requests stay parked on what they were parked on
  parked_crossed : (pause after : Pause) (old new : List (Cached U)) (d : Digest) → Crosses w.header b pause after → (IsIn old d → IsIn new d) → IsParkedOn pause anchor old d → IsParkedOn after anchor new d
  parked_crossed Free after old new d crosses more (inl own) = subst (λ (x : Pause). IsParkedOn x anchor new d) (sym crosses) (inl own)
  parked_crossed Free after old new d crosses more (inr any) = subst (λ (x : Pause). IsParkedOn x anchor new d) (sym crosses) (inr (more any))
  parked_crossed Pruning after old new d crosses more any = subst (λ (x : Pause). IsParkedOn x anchor new d) (sym crosses) (more any)
  parked_crossed (Finalizing boundary) Free old new d crosses more is = absurd crosses
  parked_crossed (Finalizing boundary) Pruning old new d crosses more is = absurd crosses
  parked_crossed (Finalizing boundary) (Finalizing next) old new d (inl c) more is = is ∙ sym c.1.of
  parked_crossed (Finalizing boundary) (Finalizing next) old new d (inr c) more is = is ∙ ap (λ (x : Boundary). x.digest) (sym c.1)

  pub open_crossed : (p : Past B C I) (tip : Anchor) (pause after : Pause) (old new : List (Cached U)) → Crosses w.header b pause after → ((d : Digest) → IsIn old d → IsIn new d) → (request : Request B C I) (phase : Phase B)
      → IsOnOpenWay w stored p tip pause anchor old request phase → IsOnOpenWay w stored p tip after anchor new request phase
  open_crossed p tip pause after old new crosses more request (Executing k path) h = h
  open_crossed p tip pause after old new crosses more request (Parked path) h = (parked_crossed pause after old new path.parent.digest crosses (more path.parent.digest) h.0, h.1, h.2)
  open_crossed p tip pause after old new crosses more request Open h = tt
  open_crossed p tip pause after old new crosses more request (Fetching f) h = tt
  open_crossed p tip pause after old new crosses more request Waiting h = tt
