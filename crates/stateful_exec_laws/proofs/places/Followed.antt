-- Marks stand in their places: those of all requests that waited for a run that has ended.
use Rattle.std.proofs.Common.{◌≡◌, ◌≢◌, ◌⊎◌, ◌++◌, inl, inr, ℕ, List, [], ◌∷◌, Option, refl, sym, ap, ◌∙◌, subst}
use Rattle.std.proofs.lemmas.List.{append_cancel_left}
use Rattle.stateful_base.specs.Names.{Named}
use Rattle.stateful_base.specs.declared.anchor.Anchor.{Anchor}
use Rattle.stateful_base.specs.declared.digest.Digest.{Digest}
use Rattle.stateful_history.specs.Known.{Known}
use Rattle.stateful_history.specs.Met.{Met}
use Rattle.stateful_history.specs.Past.{Past, after}
use Rattle.stateful_history.specs.Requests.{StandsOn}
use Rattle.stateful_history.specs.Runs.{MayRunAgain}
use Rattle.stateful_history.specs.declared.mark.How.{How}
use Rattle.stateful_history.specs.declared.mark.Mark.{Mark}
use Rattle.stateful_exec_cache.specs.Cache.{IsIn, IsAtHand}
use Rattle.stateful_exec_model.specs.Ending.{InTurn, next, Follows, given_up, at_boundary, failed, parked, goes_on}
use Rattle.stateful_exec_pause.specs.Fates.{IsGivenUp, AwaitsBoundary}
use Rattle.stateful_exec_model.specs.Moments.{Moment}
use Rattle.stateful_exec_tables.specs.Tables.{told, requested}
use Rattle.stateful_exec_model.specs.Rules.{Concludes}
use Rattle.stateful_exec_model.specs.Workings.{Workings, Point}
use Rattle.stateful_exec_pause.specs.declared.pause.Pause.{Pause}
use Rattle.stateful_exec_pause.specs.declared.pause.Pause.TheVariants.{Free, Finalizing, Pruning}
use Rattle.stateful_exec_walk.specs.declared.request.Request.{Request}
use Rattle.stateful_exec_walk.specs.declared.request.Request.TheVariants.{Verify, Recover}
use Rattle.stateful_exec_walk.specs.declared.request.Verdict.TheVariants as verdict
use Rattle.stateful_exec_tables.specs.declared.tables.Released.{Released}
use Rattle.stateful_exec_laws.specs.Setting.{setting}
use Rattle.stateful_exec_laws.specs.Outstanding.{TicketsApart}
use Rattle.stateful_exec_laws.specs.Standing.{IsInHand}
use Rattle.stateful_exec_laws.proofs.earned.Follows.{kept-Known}
use Rattle.stateful_exec_laws.proofs.earned.InTurn.{All-last}
use Rattle.stateful_exec_laws.proofs.earned.Left.{LeavesBehind-follows}
use Rattle.stateful_exec_laws.proofs.ended.Points.{same_or_not}
use Rattle.stateful_exec_laws.proofs.ended.FollowStands.{ticket_of, request_of, Serves-follows}
use Rattle.stateful_exec_laws.proofs.pauses.InTurn.{IsReady}
use Rattle.stateful_exec_laws.proofs.pauses.KeptInTurn.{IsGrounded, AreGrounded, AreGrounded-one, AreGrounded-in_turn}
use Rattle.stateful_exec_laws.proofs.requests.KeptMarks.{KeepsBehind, EachMark-behind, KeepsReady, KeepsReady-then}
use Rattle.stateful_exec_laws.proofs.linked.OnPath.{StandsOn-way}
use Rattle.stateful_exec_laws.proofs.places.Marks.{IsInPlace, concludes-in_place}
use Rattle.stateful_exec_laws.proofs.places.Starts.{live-request, advances-in_place}
use Rattle.stateful_exec_laws.proofs.reasons.Advances.{closed_by}
use Rattle.stateful_exec_laws.proofs.reasons.Followed.{HasWaited, HasWaited-same}
use Rattle.stateful_exec_laws.proofs.reasons.Ground.{IsGround, round_of_top}
use Rattle.stateful_exec_laws.proofs.requests.Served.{Serves}
use Rattle.stateful_exec_laws.proofs.requests.ServedMarks.{IsServedBy, AreServedBy, follows-marks, TicketsApart-after, IsUncancelled, IsUncancelled-served, Known-before_served}
use Rattle.stateful_exec_laws.proofs.runs.SpentRuns.{MayRunAgain-served, MayRunAgain-ended}
pub use Rattle.stateful_exec_laws.specs.Orderly.{IsOrderly}

module _ {B C I P R D H G U : Type 0} (w : Workings B C I P R D H G U) (stored : ℕ → Option (Named B)) where
  -- so it is but for a block, as long as that isn't known
  pub record IsOrderlyBut (b : Named B) (p : Past B C I) : Type 0 where
    pub apart : TicketsApart p
    pub live : IsUncancelled p
    pub again : (d : Digest) → (d ≢ b.digest) ⊎ Known (setting w stored) p b.digest → MayRunAgain (setting w stored) p d

  pub IsOrderly-served : (p : Past B C I) (t : ℕ) (marks : List (Mark B)) → AreServedBy t p marks → IsOrderly w stored p → IsOrderly w stored (after p marks)
  IsOrderly-served p t marks are o = record { apart = TicketsApart-after p marks o.apart; live = IsUncancelled-served p t marks are o.live; again = λ d. MayRunAgain-served (setting w stored) p t marks are d (o.again d) }

module _ {B C I P R D H G U : Type 0} (w : Workings B C I P R D H G U) (stored : ℕ → Option (Named B)) (base : w.States) (points : Digest → Point w) (point : Point w) (tip : Anchor)
    (other_states : (n i : w.Ids) (x y : w.States) (c : List (Point w)) → w.kind.issued n ((i, x) ∷ c) → w.kind.issued n ((i, y) ∷ c)) (b : Named B) (how : How) where
  module _ (p : Past B C I) (m now : Moment w) (r : Released B C I) (g : IsGrounded w stored base points point tip p m) (hand : IsInHand w stored p r.ticket r.request m.state) (h : HasWaited w stored base tip b how p m.state.pause m.state.anchor m.state.cache r) where
    met : Met (setting w stored) p b
    met = subst (λ (x : Named B). Met (setting w stored) p x) h.leads (All-last (Met (setting w stored) p) r.path.blocks r.path.parent h.way.met)

    -- the block is known, where a request goes on, is parked or awaits the boundary
    kept-known : (IsGivenUp w.header m.state.pause b → ⊥) → IsIn m.state.cache b.digest → Known (setting w stored) p b.digest
    kept-known kept any =
        kept-Known w stored p g.ground.names points m.next m.state.anchor m.state.cache (round_of_top w stored base p points point m.next tip m.state.pause m.state.anchor m.state.cache g.ground) b met any m.state.pause g.ground.stands
        (closed_by w stored base p points point m.next tip m.state.pause m.state.anchor m.state.cache g.ground) kept

    boundary-known : (pause : Pause) → IsGround w stored base p points point m.next tip pause m.state.anchor m.state.cache → AwaitsBoundary pause b how → Known (setting w stored) p b.digest
    boundary-known Free k is = absurd is
    boundary-known Pruning k is = absurd is
    boundary-known (Finalizing boundary) k is = (k.stands.knows b.digest).1 (inl is.0)

    pruning-known : (pause : Pause) → IsGround w stored base p points point m.next tip pause m.state.anchor m.state.cache → pause ≡ Pruning → IsIn m.state.cache b.digest → Known (setting w stored) p b.digest
    pruning-known Free k is any = (k.stands.knows b.digest).1 (inr any)
    pruning-known Pruning k is any = (k.stands.knows b.digest).1 (inr any)
    pruning-known (Finalizing boundary) k is any = cc

    -- its marks stand in their places
    follows-in_place : IsOrderlyBut w stored b p → Follows w b how r m now → KeepsBehind w (IsInPlace w stored base) p m now
    follows-in_place o (given_up out concludes) = concludes-in_place w stored base p m r.ticket (requested r.request) verdict.Invalid now hand.asked (o.live r.ticket (live-request w stored p r.ticket r.request hand.asked)) concludes
    follows-in_place o (at_boundary is becomes) = rw becomes (record { more = []; marks_are = refl; each = tt })
    follows-in_place o (failed not_held out concludes) = concludes-in_place w stored base p m r.ticket (requested r.request) verdict.Invalid now hand.asked (o.live r.ticket (live-request w stored p r.ticket r.request hand.asked)) concludes
    follows-in_place o (parked pruning any becomes) = rw becomes (record { more = []; marks_are = refl; each = tt })
    follows-in_place o (goes_on kept not_held other any advances) =
        let known : Known (setting w stored) p b.digest = kept-known kept any in
        advances-in_place w stored base p points point tip m g.ready.stands g.ground o.apart r.ticket (requested r.request) hand.asked r.path h.way
        (subst (λ (x : Named B). Known (setting w stored) p x.digest × IsAtHand m.state.anchor m.state.cache x.digest) (sym h.leads) (known, inr any)) (λ d. o.again d (inr known)) (o.live r.ticket (live-request w stored p r.ticket r.request hand.asked)) now advances

    module _ (more : List (Mark B)) (marks_are : now.marks ≡ m.marks ++ more) (o : IsOrderlyBut w stored b p) where
      abbrev q : Past B C I
      q = after p more

      are-served : Follows w b how r m now → AreServedBy r.ticket p more
      are-served rule = EachMark-behind w (λ (x : Past B C I) (mark : Mark B). IsServedBy r.ticket mark) p m now more marks_are (follows-marks w p m now b how r rule)

      orderly-but : Follows w b how r m now → IsOrderlyBut w stored b q
      orderly-but rule = record {
        apart = TicketsApart-after p more o.apart;
        live = IsUncancelled-served p r.ticket more (are-served rule) o.live;
        again = λ d may. MayRunAgain-served (setting w stored) p r.ticket more (are-served rule) d (o.again d (elim may [
          | inl other ↦ inl other
          | inr known ↦ inr (Known-before_served (setting w stored) p r.ticket more (are-served rule) b.digest known)
        ]));
      }

      from-known : Follows w b how r m now → Known (setting w stored) p b.digest → IsOrderly w stored q
      from-known rule known = record { apart = TicketsApart-after p more o.apart; live = IsUncancelled-served p r.ticket more (are-served rule) o.live; again = λ d. MayRunAgain-served (setting w stored) p r.ticket more (are-served rule) d (o.again d (inr known)) }

      -- a request that ended stands on the block
      stands-on : StandsOn (setting w stored) p r.ticket b.digest
      stands-on = subst (λ (x : Named B). StandsOn (setting w stored) p r.ticket x.digest) h.leads (StandsOn-way w stored p o.apart r.ticket r.request r.path hand.asked h.way)

      told-again : (request : Request B C I) → MayRunAgain (setting w stored) (after p (told r.ticket request verdict.Invalid)) b.digest
      told-again (Verify u ancestry) = MayRunAgain-ended (setting w stored) p _ b.digest r.ticket refl stands-on (λ j how e. cc)
      told-again (Recover u context ancestry input kind) = MayRunAgain-ended (setting w stored) p _ b.digest r.ticket refl stands-on (λ j how e. cc)

      from-ended : Follows w b how r m now → Concludes w m r.ticket (requested r.request) verdict.Invalid now → IsOrderly w stored q
      from-ended rule concludes = record { apart = TicketsApart-after p more o.apart; live = IsUncancelled-served p r.ticket more (are-served rule) o.live; again = again }
        where
          more_is : told r.ticket r.request verdict.Invalid ≡ more
          more_is = append_cancel_left m.marks (told r.ticket r.request verdict.Invalid) more (sym (ap (λ (n : Moment w). n.marks) concludes) ∙ marks_are)

          again : (d : Digest) → MayRunAgain (setting w stored) q d
          again d = elim (same_or_not d b.digest) [
            | inl same ↦ subst (λ (x : Digest). MayRunAgain (setting w stored) q x) (sym same) (subst (λ (ms : List (Mark B)). MayRunAgain (setting w stored) (after p ms) b.digest) more_is (told-again r.request))
            | inr other ↦ MayRunAgain-served (setting w stored) p r.ticket more (are-served rule) d (o.again d (inl other))
          ]

      -- behind the first of them the block may be run again, too
      orderly-first : Follows w b how r m now → IsOrderly w stored q
      orderly-first (given_up out concludes) = from-ended (given_up out concludes) concludes
      orderly-first (at_boundary is becomes) = from-known (at_boundary is becomes) (boundary-known m.state.pause g.ground is)
      orderly-first (failed not_held out concludes) = from-ended (failed not_held out concludes) concludes
      orderly-first (parked pruning any becomes) = from-known (parked pruning any becomes) (pruning-known m.state.pause g.ground pruning any)
      orderly-first (goes_on kept not_held other any advances) = from-known (goes_on kept not_held other any advances) (kept-known kept any)

  abbrev Rule : Past B C I → Mark B → Type 0
  Rule = IsInPlace w stored base

  abbrev Step : Released B C I → Moment w → Moment w → Type 0
  Step = Follows w b how

  abbrev Stays : Past B C I → Moment w → Type 0
  Stays p m = IsOrderlyBut w stored b p

  abbrev Orderly : Past B C I → Moment w → Type 0
  Orderly p m = IsOrderly w stored p

  -- the requests in hand that waited for the run, as long as the block that it was of may not be run again
  abbrev pub AreLeft : (Past B C I → Moment w → Type 0) → List (Released B C I) → Past B C I → Moment w → Type 0
  AreLeft = AreGrounded w stored base points point tip Rule ticket_of request_of (HasWaited w stored base tip b how)

  weaken : (p : Past B C I) → IsOrderly w stored p → IsOrderlyBut w stored b p
  weaken p o = record { apart = o.apart; live = o.live; again = λ d may. o.again d }

  -- Each mark of the requests that follow the end of a run in turn stands in its place, and behind them a run that ended in vain
  -- is started again only for another request.
  pub AreLeft-follow : (r : Released B C I) (rs : List (Released B C I)) (p : Past B C I) (m last : Moment w) → AreLeft Stays (r ∷ rs) p m → InTurn (Follows w b how) (r ∷ rs) m last → KeepsReady w Rule Step (AreLeft Orderly) [] p m last
  AreLeft-follow r rs p m last ready (next {n = n} rule rules) = KeepsReady-then w Rule Step (AreLeft Orderly) [] p m n last first.more first.marks_are first.each others
    where
      serves : (p : Past B C I) (m now : Moment w) (x : Released B C I) → IsReady w stored points point p m → IsInHand w stored p x.ticket x.request m.state → HasWaited w stored base tip b how p m.state.pause m.state.anchor m.state.cache x → Step x m now → Serves w stored p points point m x.ticket now
      serves p m now x ready hand h rule = Serves-follows w stored points point other_states b how p m now x ready (record { hand = hand; way = h.way }) rule

      first : KeepsReady w Rule Step (AreLeft Orderly) rs p m n
      first =
          AreGrounded-one w stored base points point tip Rule ticket_of request_of (HasWaited w stored base tip b how) Step serves
          (λ m now x rule. LeavesBehind-follows w b how x m now rule)
          (λ p q pause anchor cache x c h. HasWaited-same w stored base tip b how p q pause anchor cache x c h) Stays Orderly
          (λ p m now x more is g hand h rule c o. orderly-first p m now x g hand h more is o rule)
          (λ p m now x g hand h o rule. follows-in_place p m now x g hand h o rule)
          r rs p m n ready rule

      others : KeepsReady w Rule Step (AreLeft Orderly) [] (after p first.more) n last
      others =
          AreGrounded-in_turn w stored base points point tip Rule ticket_of request_of (HasWaited w stored base tip b how) Step serves
          (λ m now x rule. LeavesBehind-follows w b how x m now rule)
          (λ p q pause anchor cache x c h. HasWaited-same w stored base tip b how p q pause anchor cache x c h) Orderly
          (λ p m now x more is g hand h rule c o. IsOrderly-served w stored p x.ticket more (are-served p m now x g hand h more is (weaken p o) rule) o)
          (λ p m now x g hand h o rule. follows-in_place p m now x g hand h (weaken p o) rule)
          rs (after p first.more) n last first.ready rules
