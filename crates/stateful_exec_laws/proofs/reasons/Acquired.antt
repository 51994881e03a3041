-- False verdicts and declines have their reasons: those of a request that acquires what it needs, where nothing pauses.
use Rattle.std.proofs.Common.{◌≡◌, ◌↔◌, ◌++◌, inl, inr, ℕ, List, [], ◌∷◌, All, Option, refl, sym, subst, take}
use Rattle.std.proofs.lemmas.List.Elements.{All-head, All-tail, All-cons, All-append, All-take}
use Rattle.stateful_base.specs.Names.{Named}
use Rattle.stateful_base.specs.Anchor.{anchor_by}
use Rattle.stateful_base.specs.declared.anchor.Anchor.{Anchor}
use Rattle.stateful_base.specs.declared.digest.Digest.{Digest}
use Rattle.stateful_history.specs.Known.{Known}
use Rattle.stateful_history.specs.Met.{Met}
use Rattle.stateful_history.specs.Past.{Past}
use Rattle.stateful_history.specs.Reasons.{HasReason}
use Rattle.stateful_history.specs.declared.event.Event.{Event}
use Rattle.stateful_history.specs.declared.mark.Mark.{Mark}
use Rattle.stateful_exec_cache.specs.Cache.{IsAtHand}
use Rattle.stateful_exec_cache.specs.Judgement.{IsJudged}
use Rattle.stateful_exec_cache.specs.declared.judgement.Judgement.TheVariants as judged
use Rattle.stateful_exec_model.specs.Moments.{Moment}
use Rattle.stateful_exec_walk.specs.Path.{Path}
use Rattle.stateful_exec_tables.specs.Meeting.{IsPassed, GoesOn, first_or}
use Rattle.stateful_exec_tables.specs.Tables.{Knows, requested}
use Rattle.stateful_exec_tables.specs.Meeting.{Reaches}
use Rattle.stateful_exec_model.specs.Rules.{Advances, arrives, leaves, joins, starts, misses, Acquires, valid, invalid, asks, waits, runs}
use Rattle.stateful_exec_walk.specs.Walk.{IsNeeded, IsVerified, IsPrepared}
use Rattle.stateful_exec_walk.specs.Walk as walk
use Rattle.stateful_exec_model.specs.Workings.{Workings, Point}
use Rattle.stateful_exec_pause.specs.declared.pause.Pause.{Pause}
use Rattle.stateful_exec_pause.specs.declared.pause.Pause.TheVariants.{Free}
use Rattle.stateful_exec_walk.specs.declared.request.Request.{Request}
use Rattle.stateful_exec_walk.specs.declared.request.Request.TheVariants.{Verify, Recover}
use Rattle.stateful_exec_tables.specs.declared.tables.Requested.{Requested}
use Rattle.stateful_exec_walk.specs.declared.walk.Acquired.TheVariants as acquired
use Rattle.stateful_exec_laws.specs.Setting.{setting}
use Rattle.stateful_exec_laws.specs.Gathering.{gathered, AreLinked}
use Rattle.stateful_exec_laws.specs.Requesting.{brought_by}
use Rattle.stateful_exec_laws.specs.Standing.{IsInHand}
use Rattle.stateful_exec_laws.proofs.linked.ReadyWalks.{ready-at_hand}
use Rattle.stateful_exec_laws.specs.Storing.{IsStoredNow}
use Rattle.stateful_exec_laws.proofs.earned.Path.{IsFolded}
use Rattle.stateful_exec_laws.proofs.requests.KeptMarks.{KeepsBehind}
use Rattle.stateful_exec_laws.proofs.reasons.Ground.{IsGround, top_is}
use Rattle.stateful_exec_laws.proofs.reasons.Known.{folded_free, knows_free}
use Rattle.stateful_exec_laws.proofs.reasons.Marks.{HasItsReason, MayEnd, concludes-ended, concludes-valid}
use Rattle.stateful_exec_laws.proofs.reasons.Walked.{HasReason-judged, HasWalked-invalid, IsOutOfReach-walked, HasReason-walked, unknown_above, unfinal_above, AreLinked-rest}

module _ {B C I P R D H G U : Type 0} (w : Workings B C I P R D H G U) (stored : ℕ → Option (Named B)) (p : Past B C I) where
  -- what was gathered for a request is of the history
  pub gathered-met : (request : Request B C I) (more : List (Named B)) → All (Met (setting w stored) p) (brought_by request) → All (Met (setting w stored) p) more → All (Met (setting w stored) p) (gathered request more)
  gathered-met (Verify u ancestry) more brought met =
      All-cons (Met (setting w stored) p) ancestry.first (take 1 ancestry.rest ++ more) (All-head (Met (setting w stored) p) ancestry.first ancestry.rest brought)
      (All-append (Met (setting w stored) p) (take 1 ancestry.rest) more (All-take (Met (setting w stored) p) 1 ancestry.rest (All-tail (Met (setting w stored) p) ancestry.first ancestry.rest brought)) met)
  gathered-met (Recover u context ancestry input kind) more brought met =
      All-cons (Met (setting w stored) p) ancestry.first more (All-head (Met (setting w stored) p) ancestry.first ancestry.rest brought) met

-- a block on which no finalization goes on, and whose path ends at hand, isn't left behind nor missed
module _ {B C I P R D H G U : Type 0} (w : Workings B C I P R D H G U) (m : Moment w) (free : m.state.pause ≡ Free) where
  goes_on : (b : Named B) → GoesOn w.header m.state.pause b
  goes_on b = subst (λ (x : Pause). GoesOn w.header x b) (sym free) tt

  parent_known : (path : Path B) (left : List (Named B)) (b parent : Named B) → Reaches w.header m.state path left b parent → Knows m.state path.parent.digest → Knows m.state parent.digest
  parent_known path left b parent reaches at_hand = subst (λ (x : Named B). Knows m.state x.digest) (sym reaches.parent_is) (go reaches.passed reaches.each)
    where
      go : (passed : List (Named B)) → All (IsPassed w.header m.state) passed → Knows m.state (first_or path.parent passed).digest
      go [] each = at_hand
      go (z ∷ passed) each = (All-head (IsPassed w.header m.state) z passed each).1

module _ {B C I P R D H G U : Type 0} (w : Workings B C I P R D H G U) (stored : ℕ → Option (Named B)) (base : w.States) (event : Event B C I) (marks : List (Mark B)) (p : Past B C I) where
  -- a request that goes along a path on a block at hand, where nothing pauses, makes neither mark
  pub advances-free : (m : Moment w) → m.state.pause ≡ Free → (t : ℕ) (r : Requested B C I) (path : Path B) (now : Moment w) → Knows m.state path.parent.digest → Advances w m t r path now → KeepsBehind w (HasItsReason w stored base event marks) p m now
  advances-free m free t r path now at_hand (arrives all concludes) = concludes-valid w stored base event marks p t m r now concludes
  advances-free m free t r path now at_hand (leaves {b = b} reaches out concludes) = absurd (out (goes_on w m free b))
  advances-free m free t r path now at_hand (joins j reaches on unknown has becomes) = rw becomes (record { more = []; marks_are = refl; each = tt })
  advances-free m free t r path now at_hand (starts reaches on unknown unrun known launches) = record { more = _; marks_are = launches.marks; each = ((tt, tt), tt) }
  advances-free m free t r path now at_hand (misses {left = left} {b = b} {parent = c} reaches on unknown unrun unknown_parent concludes) = absurd (unknown_parent (parent_known w m free path left b c reaches at_hand))

  module _ (points : Digest → Point w) (point : Point w) (next : w.Ids) (tip : Anchor) where
    module _ (m : Moment w) (g : IsGround w stored base p points point next tip m.state.pause m.state.anchor m.state.cache) (free : m.state.pause ≡ Free) where
      abbrev Folded : IsFolded w stored base p m.state.anchor m.state.anchor point
      Folded = folded_free w stored base p points point next tip m.state.pause m.state.anchor m.state.cache free g

      abbrev Knows_free : (d : Digest) → Known (setting w stored) p d ↔ IsAtHand m.state.anchor m.state.cache d
      Knows_free = knows_free w stored base p points point next tip m.state.pause m.state.anchor m.state.cache free g

      abbrev Named_so : (b : Named B) → Met (setting w stored) p b → b.digest ≡ m.state.anchor.digest → m.state.anchor ≡ anchor_by w.header b
      Named_so = top_is w stored base p points point next tip m.state.pause m.state.anchor m.state.cache g

      module _ (held : ℕ → Option (Named B)) (stored_is : IsStoredNow stored p held) where
        -- a block that is to be verified, and is invalid
        module _ (b : Named B) (chain : List (Named B)) (met : All (Met (setting w stored) p) (b ∷ chain)) (linked : AreLinked (setting w stored) (b ∷ chain)) where
          own_met : Met (setting w stored) p b
          own_met = All-head (Met (setting w stored) p) b chain met

          needed-reason : IsJudged w.header m.state.anchor m.state.cache held b judged.Open → IsNeeded w.header m.state.anchor m.state.cache b chain acquired.Invalid → HasReason (setting w stored) base p b
          needed-reason unjudged (walk.stranger {more = more} {parent = parent} chain_is other) =
              absurd (other (subst (λ (l : List (Named B)). AreLinked (setting w stored) (b ∷ l)) chain_is linked).0)
          needed-reason unjudged (walk.child {more = more} {parent = parent} chain_is child walks) =
              let met_on : All (Met (setting w stored) p) (parent ∷ more) = subst (λ (l : List (Named B)). All (Met (setting w stored) p) l) chain_is (All-tail (Met (setting w stored) p) b chain met) in
              let linked_on : AreLinked (setting w stored) (parent ∷ more) = subst (λ (l : List (Named B)). AreLinked (setting w stored) l) chain_is (AreLinked-rest (setting w stored) b chain linked) in
              let h = HasWalked-invalid w stored base p point m.state.anchor m.state.cache g.names Folded Knows_free Named_so parent more met_on linked_on (b ∷ []) (subst (λ (l : List (Named B)). walk.Walks w.header m.state.anchor m.state.cache (b ∷ []) l acquired.Invalid) chain_is walks) in
              HasReason-walked w stored base p point m.state.anchor m.state.cache g.names Folded Knows_free Named_so b parent (All-head (Met (setting w stored) p) parent more met_on) child
              (unknown_above w stored base p point m.state.anchor m.state.cache g.names Folded Knows_free Named_so b own_met unjudged.0 unjudged.1)
              (unfinal_above w stored p m.state.anchor point base Folded b unjudged.1) h

          verified-reason : IsVerified w.header m.state.anchor m.state.cache held b chain acquired.Invalid → HasReason (setting w stored) base p b
          verified-reason (walk.invalid judged) = HasReason-judged w stored base p point m.state.anchor m.state.cache g.names Folded Knows_free Named_so held stored_is b own_met judged
          verified-reason (walk.runs unjudged needed) = needed-reason unjudged needed

        -- a request that is invalid as it acquires what it needs may end badly
        prepared-reason : (t : ℕ) (request : Request B C I) (more : List (Named B)) → All (Met (setting w stored) p) (gathered request more) → AreLinked (setting w stored) (gathered request more)
            → IsPrepared w.header m.state.anchor m.state.cache held request more acquired.Invalid → MayEnd w stored base event marks p t request
        prepared-reason t (Verify u ancestry) more met linked prepared = verified-reason ancestry.first (take 1 ancestry.rest ++ more) met linked prepared
        prepared-reason t (Recover u context ancestry input kind) more met linked prepared =
            inr (inr (inr (inl (IsOutOfReach-walked w stored base p point m.state.anchor m.state.cache g.names Folded Knows_free Named_so ancestry.first
            (HasWalked-invalid w stored base p point m.state.anchor m.state.cache g.names Folded Knows_free Named_so ancestry.first more met linked [] prepared)))))

        -- Each mark of a request that acquires what it needs keeps the rule, where what was gathered for it is linked.
        pub acquires-reason : (t : ℕ) (r : Requested B C I) (now : Moment w) → IsInHand w stored p t r.request m.state → All (Met (setting w stored) p) r.acquired → AreLinked (setting w stored) (gathered r.request r.acquired)
            → Acquires w held m t r now → KeepsBehind w (HasItsReason w stored base event marks) p m now
        acquires-reason t r now hand met linked (valid needs concludes) = concludes-valid w stored base event marks p t m r now concludes
        acquires-reason t r now hand met linked (invalid needs concludes) =
            concludes-ended w stored base event marks p t m r now hand.asked (prepared-reason t r.request r.acquired (gathered-met w stored p r.request r.acquired hand.brought met) linked needs) concludes
        acquires-reason t r now hand met linked (asks digest needs left becomes) = rw becomes (record { more = _; marks_are = refl; each = ((tt, tt), tt) })
        acquires-reason t r now hand met linked (waits needs becomes) = rw becomes (record { more = []; marks_are = refl; each = tt })
        acquires-reason t r now hand met linked (runs {path = path} needs advances) = advances-free m free t (requested r.request) path now (ready-at_hand w.header m.state.anchor m.state.cache held r.request r.acquired path needs) advances
