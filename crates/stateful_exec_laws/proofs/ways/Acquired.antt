-- The ways of requests stay unjudged behind one that acquires what it needs, where nothing pauses.
use Rattle.std.proofs.Common.{◌≡◌, ◌≢◌, ◌<◌, inl, inr, ℕ, List, [], ◌∷◌, All, Option, refl, sym, ap, ◌∙◌, subst, arith}
use Rattle.std.proofs.lemmas.List.Elements.{All-head, All-cons, All-weaker}
use Rattle.stateful_base.specs.Names.{Named}
use Rattle.stateful_base.specs.declared.anchor.Anchor.{Anchor}
use Rattle.stateful_base.specs.declared.digest.Digest.{Digest}
use Rattle.stateful_history.specs.Met.{Met}
use Rattle.stateful_history.specs.Past.{Past}
use Rattle.stateful_exec_model.specs.Moments.{Moment}
use Rattle.stateful_exec_walk.specs.Path.{Path, IsMissing}
use Rattle.stateful_exec_tables.specs.Meeting.{first_or}
use Rattle.stateful_exec_tables.specs.Tables.{requested}
use Rattle.stateful_exec_model.specs.Rules.{Acquires, valid, invalid, asks, waits, runs}
use Rattle.stateful_exec_walk.specs.Walk.{IsPrepared}
use Rattle.stateful_exec_walk.specs.Walk as walk
use Rattle.stateful_exec_model.specs.Workings.{Workings, Point}
use Rattle.stateful_exec_pause.specs.declared.pause.Pause.TheVariants.{Free}
use Rattle.stateful_exec_walk.specs.declared.request.Request.{Request}
use Rattle.stateful_exec_walk.specs.declared.request.Request.TheVariants.{Verify, Recover}
use Rattle.stateful_exec_walk.specs.declared.request.Verdict.TheVariants as verdict
use Rattle.stateful_exec_tables.specs.declared.tables.Phase.TheVariants.{Fetching, Waiting}
use Rattle.stateful_exec_tables.specs.declared.tables.Requested.{Requested}
use Rattle.stateful_exec_walk.specs.declared.walk.Acquired.TheVariants as acquired
use Rattle.stateful_exec_laws.specs.Setting.{setting}
use Rattle.stateful_exec_laws.specs.Requesting.{first_of, brought_by}
use Rattle.stateful_exec_laws.specs.Standing.{IsInHand}
use Rattle.stateful_exec_laws.specs.Ways.{KeepOff, IsUnsettled, WaysStand}
use Rattle.stateful_exec_laws.proofs.requests.Acquired.{IsWayOf-ready}
use Rattle.stateful_exec_laws.proofs.reasons.Ground.{IsGround, top_is}
use Rattle.stateful_exec_laws.proofs.reasons.Known.{folded_free}
use Rattle.stateful_exec_laws.proofs.reasons.Walked.{unfinal_above}
use Rattle.stateful_exec_laws.proofs.requests.SamePast.{IsSamePast}
use Rattle.stateful_exec_laws.proofs.ways.Kept.{WaysStand-concludes, put_ways, WaysStand-advances}

module _ {B C I P R D H G U : Type 0} (w : Workings B C I P R D H G U) (stored : ℕ → Option (Named B)) (base : w.States) (held : ℕ → Option (Named B)) (tip : Anchor) (p q : Past B C I) (same : IsSamePast (setting w stored) p q)
    (points : Digest → Point w) (point : Point w) (m now : Moment w) (g : IsGround w stored base p points point m.next tip m.state.pause m.state.anchor m.state.cache) (free : m.state.pause ≡ Free) (h : WaysStand w stored p tip m.state)
    (t : ℕ) (r : Requested B C I) (hand : IsInHand w stored p t r.request m.state) (met : All (Met (setting w stored) p) r.acquired) where
  abbrev Misses : Named B → Type 0
  Misses b = IsMissing w.header m.state.anchor m.state.cache b

  abbrev Height : (b : Named B) → Met (setting w stored) p b → b.digest ≡ m.state.anchor.digest → w.header.height b.block ≡ m.state.anchor.height.0
  Height b there is = sym (ap (λ (a : Anchor). a.height.0) (top_is w stored base p points point m.next tip m.state.pause m.state.anchor m.state.cache g b there is))

  -- each block of a path that is ready is missing
  ready-missing : (request : Request B C I) (more : List (Named B)) (path : Path B) → All (Met (setting w stored) p) (brought_by request) → IsPrepared w.header m.state.anchor m.state.cache held request more (acquired.Ready path) → All Misses path.blocks
  ready-missing (Verify u ancestry) more path brought (walk.runs unjudged (walk.child chain_is child walks)) =
      let own : Misses ancestry.first = record {
        unknown = λ at_hand. elim at_hand [
          | inl own ↦ (let e = Height ancestry.first (All-head (Met (setting w stored) p) ancestry.first ancestry.rest brought) own in let high = unjudged.1 in omega arith)
          | inr any ↦ unjudged.0 any
        ];
        above = unjudged.1;
      } in
      rw walks.2 (All-cons Misses ancestry.first walks.0 own walks.3.each)
  ready-missing (Recover u context ancestry input kind) more path brought walks = rw walks.2 walks.3.each

  -- its blocks aren't the anchor's, and where there is one the block of the request isn't final
  missing_off : (blocks : List (Named B)) → All Misses blocks → KeepOff m.state.anchor blocks
  missing_off blocks all = All-weaker Misses (λ b. b.digest ≢ m.state.anchor.digest) (λ b h own. h.unknown (inl own)) blocks all

  missing_unsettled : (request : Request B C I) (path : Path B) → All Misses path.blocks → first_or path.parent path.blocks ≡ first_of request → (path.blocks ≡ [] → ⊥) → IsUnsettled w stored p tip request
  missing_unsettled request path all begins some final = go path.blocks refl
    where
      go : (blocks : List (Named B)) → path.blocks ≡ blocks → (first_of request).digest ≡ tip.digest
      go [] is = absurd (some is)
      go (b ∷ bs) is =
          let misses : Misses b = All-head Misses b bs (subst (λ (l : List (Named B)). All Misses l) is all) in
          let one : b ≡ first_of request = sym (ap (λ (l : List (Named B)). first_or path.parent l) is) ∙ begins in
          absurd (unfinal_above w stored p m.state.anchor point base (folded_free w stored base p points point m.next tip m.state.pause m.state.anchor m.state.cache free g) (first_of request) (subst (λ (x : Named B). m.state.anchor.height.0 < w.header.height x.block) one misses.above) final)

  -- the ways stay unjudged
  pub WaysStand-acquires : Acquires w held m t r now → WaysStand w stored q tip now.state
  WaysStand-acquires (valid needs concludes) = WaysStand-concludes w stored tip p q same m now h t r verdict.Valid concludes
  WaysStand-acquires (invalid needs concludes) = WaysStand-concludes w stored tip p q same m now h t r verdict.Invalid concludes
  WaysStand-acquires (asks digest needs left becomes) = rw becomes (put_ways w stored tip p q same m now h t r (Fetching m.state.next_fetch) tt)
  WaysStand-acquires (waits needs becomes) = rw becomes (put_ways w stored tip p q same m now h t r Waiting tt)
  WaysStand-acquires (runs {path = path} needs advances) =
      let all : All Misses path.blocks = ready-missing r.request r.acquired path hand.brought needs in
      let way = IsWayOf-ready w stored p m.state.anchor m.state.cache held r.request r.acquired path hand.brought met needs in
      WaysStand-advances w stored tip p q same m now h t (requested r.request) path (missing_off path.blocks all) (missing_unsettled r.request path all way.begins) advances
