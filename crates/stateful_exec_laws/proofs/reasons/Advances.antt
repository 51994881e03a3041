-- False verdicts and declines have their reasons: those of a request that goes along its path.
use Rattle.std.proofs.Common.{◌≡◌, ◌≢◌, ◌++◌, inl, inr, ℕ, List, [], ◌∷◌, All, Option, refl, sym, ap, ◌∙◌, subst}
use Rattle.std.proofs.lemmas.List.{append_assoc}
use Rattle.std.proofs.lemmas.List.Elements.{All-head}
use Rattle.stateful_base.specs.Names.{Named}
use Rattle.stateful_base.specs.declared.anchor.Anchor.{Anchor}
use Rattle.stateful_base.specs.declared.digest.Digest.{Digest}
use Rattle.stateful_history.specs.Canonical.{IsCanonical}
use Rattle.stateful_history.specs.Known.{Known, IsUnknown}
use Rattle.stateful_history.specs.Met.{Met}
use Rattle.stateful_history.specs.Past.{Past}
use Rattle.stateful_history.specs.Reasons.{Missing}
use Rattle.stateful_history.specs.Setting.{parent_of}
use Rattle.stateful_history.specs.States.{HasState}
use Rattle.stateful_history.specs.declared.event.Event.{Event}
use Rattle.stateful_history.specs.declared.mark.Mark.{Mark}
use Rattle.stateful_exec_cache.specs.Cache.{IsAtHand}
use Rattle.stateful_exec_cache.specs.declared.cache.Cached.{Cached}
use Rattle.stateful_exec_pause.specs.Boundary.{Boundary, step_by, IsRetained}
use Rattle.stateful_exec_model.specs.Moments.{Moment}
use Rattle.stateful_exec_walk.specs.Path.{Path}
use Rattle.stateful_exec_tables.specs.Meeting.{IsPassed, GoesOn, first_or}
use Rattle.stateful_exec_tables.specs.Meeting.{Reaches}
use Rattle.stateful_exec_model.specs.Rules.{Advances, arrives, leaves, joins, starts, misses}
use Rattle.stateful_exec_model.specs.Workings.{Workings, Point}
use Rattle.stateful_exec_pause.specs.declared.pause.Pause.{Pause}
use Rattle.stateful_exec_pause.specs.declared.pause.Pause.TheVariants.{Free, Finalizing, Pruning}
use Rattle.stateful_exec_walk.specs.declared.request.Request.{Request}
use Rattle.stateful_exec_tables.specs.declared.state.Tables.{Tables}
use Rattle.stateful_exec_tables.specs.declared.tables.Requested.{Requested}
use Rattle.stateful_exec_laws.specs.Setting.{setting}
use Rattle.stateful_exec_laws.specs.Requesting.{first_of, steps, IsRequestOf, IsWayOf}
use Rattle.stateful_exec_laws.proofs.requests.AdvanceStands.{All-front, All-back, reached_met, reached_child, reached_way}
use Rattle.stateful_exec_laws.proofs.earned.Paused.{IsClosedBy, passed-Known}
use Rattle.stateful_exec_laws.proofs.requests.KeptMarks.{KeepsBehind}
use Rattle.stateful_exec_laws.proofs.reasons.Missing.{Missing-along, Missing-first}
use Rattle.stateful_exec_laws.proofs.reasons.Ground.{IsFinal, IsGround, chain_of, HasState-on, round_of_top}
use Rattle.stateful_exec_laws.proofs.reasons.Known.{tip_known, unretained_late, unretained_unknown, anchor_unknown, unknown_up}
use Rattle.stateful_exec_laws.proofs.reasons.Stuck.{IsStuck}
use Rattle.stateful_exec_laws.proofs.reasons.Marks.{HasItsReason, MayEnd-stuck, concludes-ended, concludes-valid}

module _ {B C I P R D H G U : Type 0} (w : Workings B C I P R D H G U) (stored : ℕ → Option (Named B)) (p : Past B C I) where
  -- the first block of a request is the first of its way
  pub first_off : (request : Request B C I) (anchor : Anchor) (path : Path B) → IsWayOf w stored p request path → All (λ b. b.digest ≢ anchor.digest) (steps path) → (first_of request).digest ≢ anchor.digest
  first_off request anchor path way off = subst (λ (b : Named B). b.digest ≢ anchor.digest) way.begins (first_among path.blocks path.parent off)
    where
      first_among : (bs : List (Named B)) (c : Named B) → All (λ b. b.digest ≢ anchor.digest) (bs ++ c ∷ []) → (first_or c bs).digest ≢ anchor.digest
      first_among [] c all = All-head (λ b. b.digest ≢ anchor.digest) c [] all
      first_among (b ∷ bs) c all = All-head (λ b. b.digest ≢ anchor.digest) b (bs ++ c ∷ []) all

module _ {B C I P R D H G U : Type 0} (w : Workings B C I P R D H G U) (stored : ℕ → Option (Named B)) (base : w.States) (p : Past B C I) (points : Digest → Point w) (point : Point w) (next : w.Ids) (tip : Anchor)
    (pause : Pause) (anchor : Anchor) (cache : List (Cached U)) (g : IsGround w stored base p points point next tip pause anchor cache) where
  -- down a way on which nothing is the anchor all is missing, where the last block isn't known
  pub missing_way : (request : Request B C I) (path : Path B) → IsWayOf w stored p request path → All (λ b. b.digest ≢ anchor.digest) (steps path) → IsUnknown (setting w stored) p path.parent.digest → Missing (setting w stored) base p (first_of request) path.parent
  missing_way request path way off unknown =
      subst (λ (b : Named B). Missing (setting w stored) base p b path.parent) way.begins
      (Missing-along (setting w stored) base p (λ b. b.digest ≢ anchor.digest) (λ z c other_z other_c met is none. unknown_up w stored base p points point next tip pause anchor cache g z c other_z other_c met is none) path.blocks path.parent off way.met way.leads unknown)

  -- a final block that is the tip is known
  pub not_final : (b : Named B) → (IsCanonical (setting w stored) p b → b.digest ≡ tip.digest) → IsUnknown (setting w stored) p b.digest → IsCanonical (setting w stored) p b → ⊥
  not_final b at_tip unknown final = unknown (subst (λ (d : Digest). Known (setting w stored) p d) (sym (at_tip final)) (tip_known w stored base p points point next tip pause anchor cache g))

  -- A block that doesn't go on over the finalization, on a known parent at hand, isn't known, and what it is missing of is stuck.
  pub record StopsAt (b : Named B) : Type 0 where
    pub unknown : IsUnknown (setting w stored) p b.digest
    pub stuck : (y : Named B) → Missing (setting w stored) base p y b → IsStuck w stored base p anchor y

  -- the tables' pause tells what is closed
  pub closed_by : IsClosedBy pause anchor cache
  closed_by = go pause g
    where
      go : (x : Pause) → IsGround w stored base p points point next tip x anchor cache → IsClosedBy x anchor cache
      go Free h = tt
      go Pruning h = tt
      go (Finalizing boundary) h = (h.tip_by.closed, h.tip_by.later)

module _ {B C I P R D H G U : Type 0} (w : Workings B C I P R D H G U) (stored : ℕ → Option (Named B)) (base : w.States) (p : Past B C I) (points : Digest → Point w) (point : Point w) (next : w.Ids) (tip : Anchor)
    (anchor : Anchor) (cache : List (Cached U)) (b parent : Named B) (met : Met (setting w stored) p b) (is : parent.digest ≡ parent_of (setting w stored) b) (known : Known (setting w stored) p parent.digest) (at_hand : IsAtHand anchor cache parent.digest) where
  stops_over : (boundary : Boundary) (g : IsGround w stored base p points point next tip (Finalizing boundary) anchor cache) → (IsRetained boundary (step_by w.header b) → ⊥) → StopsAt w stored base p points point next tip (Finalizing boundary) anchor cache g b
  stops_over boundary g off = record {
    unknown = unknown;
    stuck = λ y missing. inl (record {
      first = b;
      missing = missing;
      known = known_parent;
      state = (points parent.digest).1;
      has_state = subst (λ (d : Digest). HasState (setting w stored) base p d (points parent.digest).1) is (HasState-on w stored base p points point next tip (Finalizing boundary) anchor cache g (chain_of w stored base p points point next tip (Finalizing boundary) anchor cache g parent.digest at_hand).1);
      bad = inr (inr (inr (unretained_late w stored base p points point next tip boundary anchor cache g b unknown known_parent off)));
    });
  }
    where
      known_parent : Known (setting w stored) p (parent_of (setting w stored) b)
      known_parent = subst (λ (d : Digest). Known (setting w stored) p d) is known

      other : b.digest ≢ boundary.digest
      other e =
          let f : IsFinal w stored p anchor cache tip boundary = g.tip_by in
          let one : b ≡ f.block = g.names b f.block met f.met (e ∙ f.digest_is) in
          anchor_unknown w stored base p points point next tip boundary anchor cache g (subst (λ (d : Digest). Known (setting w stored) p d) (ap (λ (c : Named B). parent_of (setting w stored) c) one ∙ f.on_anchor) known_parent)

      unknown : IsUnknown (setting w stored) p b.digest
      unknown = unretained_unknown w stored base p points point next tip boundary anchor cache g b met other off

  pub StopsAt-left : (pause : Pause) (g : IsGround w stored base p points point next tip pause anchor cache) → (GoesOn w.header pause b → ⊥) → StopsAt w stored base p points point next tip pause anchor cache g b
  StopsAt-left Free g off = absurd (off tt)
  StopsAt-left Pruning g off = absurd (off tt)
  StopsAt-left (Finalizing boundary) g off = stops_over boundary g off

module _ {B C I P R D H G U : Type 0} (w : Workings B C I P R D H G U) (stored : ℕ → Option (Named B)) (base : w.States) (p : Past B C I) (points : Digest → Point w) (point : Point w) (next : w.Ids) (tip : Anchor) where
  module _ (v : Tables B C I R U) (g : IsGround w stored base p points point next tip v.pause v.anchor v.cache) (request : Request B C I) (path : Path B) (way : IsWayOf w stored p request path)
      (parent : Known (setting w stored) p path.parent.digest × IsAtHand v.anchor v.cache path.parent.digest) where
    -- the parent of the block that is met is known and at hand
    abbrev IsHere : Named B → Type 0
    IsHere b = Known (setting w stored) p b.digest × IsAtHand v.anchor v.cache b.digest

    pub parent_here : (passed : List (Named B)) → All (IsPassed w.header v) passed → All (Met (setting w stored) p) passed → IsHere (first_or path.parent passed)
    parent_here [] each met = parent
    parent_here (z ∷ passed) each met =
        let on : IsPassed w.header v z = All-head (IsPassed w.header v) z passed each in
        (passed-Known w stored p points next v.anchor v.cache g.names (round_of_top w stored base p points point next tip v.pause v.anchor v.cache g) v.pause g.stands (closed_by w stored base p points point next tip v.pause v.anchor v.cache g) z (All-head (Met (setting w stored) p) z passed met) on.0 on.1, on.1)

    module _ (left : List (Named B)) (b parent_b : Named B) (reaches : Reaches w.header v path left b parent_b) where
      -- the blocks that were passed are of the history
      passed_met : All (Met (setting w stored) p) reaches.passed
      passed_met =
          All-back (Met (setting w stored) p) (left ++ b ∷ []) reaches.passed
          (subst (λ (l : List (Named B)). All (Met (setting w stored) p) l) (reaches.parts ∙ sym (append_assoc left (b ∷ []) reaches.passed)) (All-front (Met (setting w stored) p) path.blocks (path.parent ∷ []) way.met))

      pub reached_here : IsHere parent_b
      reached_here = subst (λ (x : Named B). IsHere x) (sym reaches.parent_is) (parent_here reaches.passed reaches.each passed_met)

      -- what is left and the block that is met are of the path
      pub reached_off : (P : Named B → Type 0) → All P (steps path) → All P (left ++ b ∷ [])
      reached_off P all =
          All-front P (left ++ b ∷ []) (reaches.passed ++ path.parent ∷ [])
          (subst (λ (l : List (Named B)). All P l) (ap (λ (l : List (Named B)). l ++ path.parent ∷ []) reaches.parts ∙ append_assoc left (b ∷ reaches.passed) (path.parent ∷ []) ∙ sym (append_assoc left (b ∷ []) (reaches.passed ++ path.parent ∷ []))) all)

module _ {B C I P R D H G U : Type 0} (w : Workings B C I P R D H G U) (stored : ℕ → Option (Named B)) (base : w.States) (event : Event B C I) (marks : List (Mark B)) (p : Past B C I) (points : Digest → Point w) (point : Point w) (next : w.Ids) (tip : Anchor) where
  module _ (m : Moment w) (g : IsGround w stored base p points point next tip m.state.pause m.state.anchor m.state.cache) (t : ℕ) (r : Requested B C I) (asked : IsRequestOf w stored p t r.request) where
    -- each mark of a request that goes along its path on a known parent keeps the rule
    pub advances-reason : (path : Path B) (now : Moment w) → IsWayOf w stored p r.request path → (Known (setting w stored) p path.parent.digest × IsAtHand m.state.anchor m.state.cache path.parent.digest)
        → All (λ b. b.digest ≢ m.state.anchor.digest) (steps path) → (IsCanonical (setting w stored) p (first_of r.request) → (first_of r.request).digest ≡ tip.digest)
        → Advances w m t r path now → KeepsBehind w (HasItsReason w stored base event marks) p m now
    advances-reason path now way parent off final (arrives all concludes) = concludes-valid w stored base event marks p t m r now concludes
    advances-reason path now way parent off final (leaves {left = left} {b = b} {parent = c} reaches out concludes) =
        let here = reached_here w stored base p points point next tip m.state g r.request path way parent left b c reaches in
        let stops = StopsAt-left w stored base p points point next tip m.state.anchor m.state.cache b c (reached_met w stored p m.state r.request path way left b c reaches) (reached_child w stored p m.state r.request path way left b c reaches) here.0 here.1 m.state.pause g out in
        let on : IsWayOf w stored p r.request (record { blocks = left; parent = b }) = reached_way w stored p m.state r.request path way left b c reaches in
        let left_off : All (λ x. x.digest ≢ m.state.anchor.digest) (left ++ b ∷ []) = reached_off w stored base p points point next tip m.state g r.request path way parent left b c reaches (λ x. x.digest ≢ m.state.anchor.digest) off in
        let missing : Missing (setting w stored) base p (first_of r.request) b = missing_way w stored base p points point next tip m.state.pause m.state.anchor m.state.cache g r.request (record { blocks = left; parent = b }) on left_off stops.unknown in
        concludes-ended w stored base event marks p t m r now asked
        (MayEnd-stuck w stored base event marks p t m.state.anchor r.request (first_off w stored p r.request m.state.anchor (record { blocks = left; parent = b }) on left_off)
        (not_final w stored base p points point next tip m.state.pause m.state.anchor m.state.cache g (first_of r.request) final (Missing-first (setting w stored) base p missing)) (stops.stuck (first_of r.request) missing)) concludes
    advances-reason path now way parent off final (joins j reaches on unknown has becomes) = rw becomes (record { more = []; marks_are = refl; each = tt })
    advances-reason path now way parent off final (starts reaches on unknown unrun known launches) = record { more = _; marks_are = launches.marks; each = ((tt, tt), tt) }
    advances-reason path now way parent off final (misses {left = left} {b = b} {parent = c} reaches on unknown unrun unknown_parent concludes) = absurd (unknown_parent (reached_here w stored base p points point next tip m.state g r.request path way parent left b c reaches).1)
