-- The blocks that are asked for requests are needed, and the marks of one that acquires what it needs stand in their places.
use Rattle.std.proofs.Common.{◌≡◌, ◌↔◌, ◌++◌, inl, inr, ℕ, false, List, [], ◌∷◌, All, Any, Option, Some, MatchOption, refl, sym, ap, ◌∙◌, subst, take}
use Rattle.std.proofs.lemmas.List.Elements.{All-head, All-tail, Contains-push, Contains-append_left}
use Rattle.stateful_base.specs.Names.{Named}
use Rattle.stateful_base.specs.Anchor.{anchor_by}
use Rattle.stateful_base.specs.declared.anchor.Anchor.{Anchor}
use Rattle.stateful_base.specs.declared.digest.Digest.{Digest}
use Rattle.stateful_history.specs.Answers.{was_cancelled}
use Rattle.stateful_history.specs.Fetches.{AskedIsNeeded}
use Rattle.stateful_history.specs.Known.{Known}
use Rattle.stateful_history.specs.Met.{Met}
use Rattle.stateful_history.specs.Past.{Past, Made}
use Rattle.stateful_history.specs.Reasons.{Missing, itself}
use Rattle.stateful_history.specs.Runs.{MayRunAgain}
use Rattle.stateful_history.specs.Setting.{parent_of}
use Rattle.stateful_history.specs.declared.mark.Mark.TheVariants.{Asked}
use Rattle.stateful_exec_cache.specs.Cache.{IsAtHand}
use Rattle.stateful_exec_model.specs.Moments.{Moment}
use Rattle.stateful_exec_tables.specs.Tables.{requested}
use Rattle.stateful_exec_model.specs.Rules.{Acquires, valid, invalid, asks, waits, runs}
use Rattle.stateful_exec_walk.specs.Walk.{Walks, IsPrepared}
use Rattle.stateful_exec_walk.specs.Walk as walk
use Rattle.stateful_exec_model.specs.Workings.{Workings, Point}
use Rattle.stateful_exec_pause.specs.declared.pause.Pause.TheVariants.{Free}
use Rattle.stateful_exec_walk.specs.declared.request.Request.{Request}
use Rattle.stateful_exec_walk.specs.declared.request.Request.TheVariants.{Verify, Recover}
use Rattle.stateful_exec_walk.specs.declared.request.Verdict.TheVariants as verdict
use Rattle.stateful_exec_tables.specs.declared.tables.Requested.{Requested}
use Rattle.stateful_exec_walk.specs.declared.walk.Acquired.TheVariants as acquired
use Rattle.stateful_exec_laws.specs.Setting.{setting}
use Rattle.stateful_exec_laws.specs.Gathering.{gathered, but_last, last_of, AsksParents}
use Rattle.stateful_exec_laws.specs.Outstanding.{TicketsApart}
use Rattle.stateful_exec_laws.specs.Requesting.{first_of, LeadsDown}
use Rattle.stateful_exec_laws.specs.Standing.{TablesStand, IsInHand}
use Rattle.stateful_exec_laws.proofs.requests.Acquired.{IsWayOf-ready, leads_down, leads_from, first_walked}
use Rattle.stateful_exec_laws.proofs.linked.Circular.{but_last-push, last_of-push, IsCircular-again}
use Rattle.stateful_exec_laws.proofs.earned.Path.{IsFolded}
use Rattle.stateful_exec_laws.proofs.requests.KeptMarks.{KeepsBehind}
use Rattle.stateful_exec_laws.proofs.linked.OnPath.{subject-first}
use Rattle.stateful_exec_laws.proofs.places.Marks.{IsInPlace, asked-next, concludes-in_place}
use Rattle.stateful_exec_laws.proofs.places.Starts.{live-request, advances-in_place}
use Rattle.stateful_exec_laws.proofs.linked.ReadyWalks.{ready-at_hand}
use Rattle.stateful_exec_laws.proofs.reasons.Acquired.{gathered-met}
use Rattle.stateful_exec_laws.proofs.reasons.Ground.{IsGround, top_is}
use Rattle.stateful_exec_laws.proofs.reasons.Known.{folded_free, knows_free}
use Rattle.stateful_exec_laws.proofs.reasons.Missing.{Missing-child}
use Rattle.stateful_exec_laws.proofs.reasons.Walked.{IsWalkedTo, IsWalkedTo-leads, unknown_out, unknown_above}

module _ {B C I P R D H G U : Type 0} (w : Workings B C I P R D H G U) (stored : ℕ → Option (Named B)) (base : w.States) (p : Past B C I) (points : Digest → Point w) (point : Point w) (tip : Anchor) (m : Moment w)
    (g : IsGround w stored base p points point m.next tip m.state.pause m.state.anchor m.state.cache) (free : m.state.pause ≡ Free) (held : ℕ → Option (Named B)) where
  abbrev Folded : IsFolded w stored base p m.state.anchor m.state.anchor point
  Folded = folded_free w stored base p points point m.next tip m.state.pause m.state.anchor m.state.cache free g

  abbrev Knows_free : (d : Digest) → Known (setting w stored) p d ↔ IsAtHand m.state.anchor m.state.cache d
  Knows_free = knows_free w stored base p points point m.next tip m.state.pause m.state.anchor m.state.cache free g

  abbrev Named_so : (b : Named B) → Met (setting w stored) p b → b.digest ≡ m.state.anchor.digest → m.state.anchor ≡ anchor_by w.header b
  Named_so = top_is w stored base p points point m.next tip m.state.pause m.state.anchor m.state.cache g

  -- The parent of the last of these blocks is asked for, which is missing of the first, and they lead down to it.
  pub record AsksBehind (first : Named B) (blocks : List (Named B)) (d : Digest) : Type 0 where
    pub front : List (Named B)
    pub last : Named B
    pub parts : blocks ≡ front ++ last ∷ []
    pub leads : LeadsDown w.header blocks
    pub missing : Missing (setting w stored) base p first last
    pub is : d ≡ parent_of (setting w stored) last

  asks_behind : (request : Request B C I) (more : List (Named B)) (d : Digest) → All (Met (setting w stored) p) (gathered request more) → IsPrepared w.header m.state.anchor m.state.cache held request more (acquired.Ask d) → AsksBehind (first_of request) (gathered request more) d
  asks_behind (Verify u ancestry) more d met (walk.runs unjudged (walk.orphan none is)) = record {
    front = [];
    last = ancestry.first;
    parts = ap (λ (l : List (Named B)). ancestry.first ∷ l) none;
    leads = rw none tt;
    missing = itself (unknown_above w stored base p point m.state.anchor m.state.cache g.names Folded Knows_free Named_so ancestry.first (All-head (Met (setting w stored) p) ancestry.first (take 1 ancestry.rest ++ more) met) unjudged.0 unjudged.1);
    is = is;
  }
  asks_behind (Verify u ancestry) more d met (walk.runs unjudged (walk.child {more = behind} {parent = parent} chain_is child walks)) =
      let chain : List (Named B) = take 1 ancestry.rest ++ more in
      let b : Named B = ancestry.first in
      let met_on : All (Met (setting w stored) p) (parent ∷ behind) = subst (λ (l : List (Named B)). All (Met (setting w stored) p) l) chain_is (All-tail (Met (setting w stored) p) b chain met) in
      let on : Walks w.header m.state.anchor m.state.cache (b ∷ []) (parent ∷ behind) (acquired.Ask d) = subst (λ (l : List (Named B)). Walks w.header m.state.anchor m.state.cache (b ∷ []) l (acquired.Ask d)) chain_is walks in
      let walked : IsWalkedTo w stored base p point m.state.anchor m.state.cache g.names Folded Knows_free Named_so parent on.1 =
      IsWalkedTo-leads w stored base p point m.state.anchor m.state.cache g.names Folded Knows_free Named_so parent behind met_on on.0 on.1 [] on.2 (unknown_out w stored base p point m.state.anchor m.state.cache g.names Folded Knows_free Named_so on.1.digest on.3.unknown) in
      let parts : b ∷ chain ≡ b ∷ (on.0 ++ on.1 ∷ []) = ap (λ (l : List (Named B)). b ∷ l) (chain_is ∙ on.2.parts) in
      record {
        front = b ∷ on.0;
        last = on.1;
        parts = parts;
        leads = subst (λ (l : List (Named B)). LeadsDown w.header l) (sym parts) (leads_from w.header b on.0 on.1 (ap (λ (x : Named B). x.digest) (first_walked on.0 on.1 [] parent behind on.2.parts) ∙ child) on.2.descends);
        missing = Missing-child (setting w stored) base p walked.missing b
            (unknown_above w stored base p point m.state.anchor m.state.cache g.names Folded Knows_free Named_so b (All-head (Met (setting w stored) p) b chain met) unjudged.0 unjudged.1)
            (All-head (Met (setting w stored) p) parent behind met_on) child;
        is = on.4;
      }
  asks_behind (Recover u context ancestry input kind) more d met on =
      let walked : IsWalkedTo w stored base p point m.state.anchor m.state.cache g.names Folded Knows_free Named_so ancestry.first on.1 =
      IsWalkedTo-leads w stored base p point m.state.anchor m.state.cache g.names Folded Knows_free Named_so ancestry.first more met on.0 on.1 [] on.2 (unknown_out w stored base p point m.state.anchor m.state.cache g.names Folded Knows_free Named_so on.1.digest on.3.unknown) in
      record {
        front = on.0;
        last = on.1;
        parts = on.2.parts;
        leads = subst (λ (l : List (Named B)). LeadsDown w.header l) (sym on.2.parts) (leads_down w.header (on.0 ++ on.1 ∷ []) on.2.descends);
        missing = walked.missing;
        is = on.4;
      }

  -- what is asked for is the parent of the last block that was gathered
  pub asked-last : (t : ℕ) (r : Requested B C I) → IsInHand w stored p t r.request m.state → All (Met (setting w stored) p) r.acquired → (d : Digest)
      → IsPrepared w.header m.state.anchor m.state.cache held r.request r.acquired (acquired.Ask d)
      → MatchOption (last_of (gathered r.request r.acquired)) ⊥ (λ b. d ≡ parent_of (setting w stored) b)
  asked-last t r hand met d needs =
      let h : AsksBehind (first_of r.request) (gathered r.request r.acquired) d = asks_behind r.request r.acquired d
      (gathered-met w stored p r.request r.acquired hand.brought met) needs in
      subst (λ (o : Option (Named B)). MatchOption o ⊥ (λ b. d ≡ parent_of (setting w stored) b))
      (sym (ap last_of h.parts ∙ last_of-push h.front h.last)) h.is

  module _ (s : TablesStand w stored p points point m.next m.state) (apart : TicketsApart p) (again : (d : Digest) → MayRunAgain (setting w stored) p d)
      (t : ℕ) (r : Requested B C I) (hand : IsInHand w stored p t r.request m.state) (met : All (Met (setting w stored) p) r.acquired)
      (asked : AsksParents (setting w stored) p t (but_last (gathered r.request r.acquired))) where
    -- what is asked for a request is needed for it
    asked_needed : (f : ℕ) (d : Digest) → IsPrepared w.header m.state.anchor m.state.cache held r.request r.acquired (acquired.Ask d) → AskedIsNeeded (setting w stored) base p (Asked f (Some t) d)
    asked_needed f d needs =
        let all : All (Met (setting w stored) p) (gathered r.request r.acquired) = gathered-met w stored p r.request r.acquired hand.brought met in
        let h : AsksBehind (first_of r.request) (gathered r.request r.acquired) d = asks_behind r.request r.acquired d all needs in (
          live-request w stored p t r.request hand.asked,
          subst (λ (o : Option (Named B)). MatchOption o ⊥ (λ b. (x : Named B) × Missing (setting w stored) base p b x × (d ≡ parent_of (setting w stored) x))) (sym (subject-first w stored p apart t r.request hand.asked)) (h.last, h.missing, h.is),
          λ was. IsCircular-again (setting w stored) p d (gathered r.request r.acquired) h.front h.last h.parts all h.leads (asked d was) h.is,
        )

    -- Each mark of a request that acquires what it needs stands in its place.
    pub acquires-in_place : was_cancelled t p ≡ false → (now : Moment w) → Acquires w held m t r now → KeepsBehind w (IsInPlace w stored base) p m now
    acquires-in_place live now (valid needs concludes) = concludes-in_place w stored base p m t r verdict.Valid now hand.asked live concludes
    acquires-in_place live now (invalid needs concludes) = concludes-in_place w stored base p m t r verdict.Invalid now hand.asked live concludes
    acquires-in_place live now (asks d needs left becomes) =
        rw becomes (record { more = _; marks_are = refl; each = ((tt, asked-next p m.state.next_job m.state.next_fetch s.numbers, asked_needed m.state.next_fetch d needs, tt, live), tt) })
    acquires-in_place live now (waits needs becomes) = rw becomes (record { more = []; marks_are = refl; each = tt })
    acquires-in_place live now (runs {path = path} needs advances) =
        let here = ready-at_hand w.header m.state.anchor m.state.cache held r.request r.acquired path needs in
        advances-in_place w stored base p points point tip m s g apart t (requested r.request) hand.asked path
        (IsWayOf-ready w stored p m.state.anchor m.state.cache held r.request r.acquired path hand.brought met needs) ((Knows_free path.parent.digest).1 here, here) again live now advances

    Any-in_front : (P : Named B → Type 0) (front : List (Named B)) (last : Named B) → Any P front → Any P (front ++ last ∷ [])
    Any-in_front P front last any = let c = Contains-append_left front (last ∷ []) any.1 (any.0, any.2, any.3) in (c.0, any.1, c.1, c.2, any.4)

    -- What is asked for a request, now or before, is the parent of one of the blocks that were gathered for it.
    pub asked_along : (f : ℕ) (d : Digest) → IsPrepared w.header m.state.anchor m.state.cache held r.request r.acquired (acquired.Ask d) → AsksParents (setting w stored) (Made (Asked f (Some t) d) ∷ p) t (gathered r.request r.acquired)
    asked_along f d needs e was =
        let h : AsksBehind (first_of r.request) (gathered r.request r.acquired) d = asks_behind r.request r.acquired d (gathered-met w stored p r.request r.acquired hand.brought met) needs in
        subst (λ (l : List (Named B)). Any (λ x. e ≡ parent_of (setting w stored) x) l) (sym h.parts) (elim was [
          | inl own ↦ (let c = Contains-push h.front h.last in (c.0, h.last, c.1, c.2, own.1 ∙ h.is))
          | inr before ↦ Any-in_front (λ x. e ≡ parent_of (setting w stored) x) h.front h.last (subst (λ (l : List (Named B)). Any (λ x. e ≡ parent_of (setting w stored) x) l) (ap but_last h.parts ∙ but_last-push h.front h.last) (asked e before))
        ])
