-- The ways of requests are kept behind the begin of a finalization, the apply of its block and its end, and after an opening.
use Rattle.std.proofs.Common.{◌≡◌, ◌<◌, ◌++◌, ℕ, Bool, true, false, nat_lt, if◌then◌else◌, List, [], ◌∷◌, All, Option, None, Some, option_map, refl, sym, ap, ◌∙◌, subst}
use Rattle.std.proofs.lemmas.List.Elements.{All-nil}
use Rattle.stateful_base.specs.Names.{Named}
use Rattle.stateful_base.specs.Anchor.{anchor_by}
use Rattle.stateful_base.specs.declared.anchor.Anchor.{Anchor}
use Rattle.stateful_base.specs.declared.digest.Digest.{Digest}
use Rattle.stateful_base.specs.declared.floor.Floor.{Floor}
use Rattle.stateful_db.specs.Laws.{Laws}
use Rattle.stateful_history.specs.Anchors.{anchor_of}
use Rattle.stateful_history.specs.Canonical.{kept_at, pruned_below}
use Rattle.stateful_history.specs.Past.{Past, Made, after}
use Rattle.stateful_history.specs.Restarts.{reopened_height}
use Rattle.stateful_history.specs.Honest.{StoresHeights, StoresAs}
use Rattle.stateful_history.specs.declared.mark.Mark.{Mark}
use Rattle.stateful_history.specs.declared.mark.Mark.TheVariants.{Opened, Began, Applied}
use Rattle.stateful_exec_model.specs.Finalizing.{front_at}
use Rattle.stateful_exec_walk.specs.Path.{Path}
use Rattle.stateful_exec_model.specs.Workings.{Workings}
use Rattle.stateful_exec_model.specs.declared.front.Front.{Front}
use Rattle.stateful_exec_model.specs.declared.front.Stage.TheVariants.{Advanced}
use Rattle.stateful_exec_pause.specs.declared.pause.Pause.TheVariants.{Free, Finalizing}
use Rattle.stateful_exec_tables.specs.declared.state.Tables.{Tables}
use Rattle.stateful_exec_tables.specs.declared.tables.Phase.TheVariants.{Parked}
use Rattle.stateful_exec_tables.specs.declared.tables.Requested.{Requested}
use Rattle.stateful_exec_laws.specs.Setting.{setting}
use Rattle.stateful_exec_laws.specs.Ways.{IsOnOpenWay, WaysStand}
use Rattle.stateful_exec_laws.specs.Storing.{IsStoredNow}
use Rattle.stateful_exec_laws.proofs.requests.SamePast.{IsSamePast}
use Rattle.stateful_loop_model.specs.Moments.{Moment}
use Rattle.stateful_loop_model.specs.Opening.{Opens}
use Rattle.stateful_loop_model.specs.Rules.{IsFinalizing, HasStates, BeginsFinalization, AppliesBlock, EndsFinalization}
use Rattle.stateful_loop_model.specs.declared.tables.Finalizing as loop
use Rattle.stateful_loop_laws.specs.Execution.{IsFree, HasMovedOn, IsPlaced, Executes, ExecutesBehind}
use Rattle.stateful_loop_laws.specs.Ways.{ParksNone, StoresAnchor, WaysKept, WaysBehind}
use Rattle.stateful_loop_laws.proofs.execution.Applies.{IsOverBegun, over_begun}
use Rattle.stateful_loop_laws.proofs.execution.Begins.{IsSamePast-withdrawn}
use Rattle.stateful_loop_laws.proofs.execution.Ends.{IsResumedBehind, IsResumedBehind-ends}
use Rattle.stateful_loop_laws.proofs.execution.Opens.{handed}
use Rattle.stateful_loop_laws.proofs.ways.Behind.{WaysStand-begins, WaysStand-applies}
use Rattle.stateful_loop_laws.proofs.ways.Beside.{WaysStand-tip}

module _ {B C I P R D H G U : Type 0} (w : Workings B C I P R D H G U) (stored : ℕ → Option (Named B)) (p : Past B C I) where
  -- what the store still has at the anchor's height is the anchor's block
  pub kept_own : StoresAnchor w stored p → (anchor : Anchor) → anchor_of w.header p ≡ Some anchor → (d : Digest)
      → kept_at (setting w stored) p anchor.height.0 ≡ Some d → d ≡ anchor.digest
  kept_own stores anchor anchor_is d is = go (nat_lt anchor.height.0 (pruned_below p)) (stored anchor.height.0) refl is
    where
      go : (x : Bool) (o : Option (Named B)) → stored anchor.height.0 ≡ o
          → (if x then None else option_map (λ (b : Named B). b.digest) o) ≡ Some d → d ≡ anchor.digest
      go true o there none = cc
      go false None there none = cc
      go false (Some b) there same = let own : b.digest ≡ anchor.digest = stores anchor b anchor_is there in let e : b.digest ≡ d = cc in sym e ∙ own

module _ {B C I P R D H G U : Type 0} (w : Workings B C I P R D H G U) (laws : Laws w.kind) (stored : ℕ → Option (Named B)) (base : w.States)
    (p : Past B C I) (m now : Moment w) (e : Executes w stored base p m) (kept : WaysKept w stored p m.execution.state) where
  abbrev v : Tables B C I R U
  v = m.execution.state

  -- The ways are kept behind the begin of a finalization, where none goes on.
  pub WaysBehind-begins : (t : ℕ) (b : Named B) → m.execution.front ≡ None → v.anchor.height.0 < w.header.height b.block
      → BeginsFinalization w t b m now
      → WaysBehind w stored p m now
  WaysBehind-begins t b no_front high r =
      let free : IsFree w stored base p e.points e.point m.next v =
      subst (λ (o : Option (Front B R U H)). IsPlaced w stored base p e.points e.point m.next v o) no_front e.placed in
      let none : ParksNone v.requests = kept.unparked free.pause_is in
      let ways : WaysStand w stored p v.anchor v = WaysStand-tip w stored p v v.anchor free.ground.folded.tip_is kept in
      let same : IsSamePast (setting w stored) (Made (Began t b) ∷ p) (after (Made (Began t b) ∷ p) r.withdrawn) =
      subst (λ (marks : List (Mark B)). IsSamePast (setting w stored) (Made (Began t b) ∷ p) (after (Made (Began t b) ∷ p) marks))
      (sym r.pauses.marks_are)
      (IsSamePast-withdrawn (setting w stored) (Made (Began t b) ∷ p) r.pauses.fetches) in
      let marks_are : now.marks ≡ m.marks ++ Began t b ∷ r.withdrawn = ap (λ (n : Moment w). n.marks) r.becomes in
      let pause_is : now.execution.state.pause ≡ Finalizing r.boundary =
      ap (λ (n : Moment w). n.execution.state.pause) r.becomes ∙ ap (λ (x : Tables B C I R U). x.pause) r.pauses.state in
      record {
        more = Began t b ∷ r.withdrawn;
        marks_are = marks_are;
        kept = record {
          tip = anchor_by w.header b;
          tip_is = same.tip;
          ways = WaysStand-begins w laws stored base p m now t b e r no_front high none ways (Began t b ∷ r.withdrawn) marks_are;
          unparked = λ is. let no : Finalizing r.boundary ≡ Free = sym pause_is ∙ is in cc;
          stores = λ anchor c is. kept.stores anchor c (sym same.anchor ∙ is);
        };
      }

  stores_applied : (b : Named B) → StoresAs w.header stored b → StoresAnchor w stored (Made (Applied b) ∷ p)
  stores_applied b own anchor c is there =
      let top : anchor_by w.header b ≡ anchor = cc in
      subst (λ (a : Anchor). c.digest ≡ a.digest) top (own c (subst (λ (a : Anchor). stored a.height.0 ≡ Some c) (sym top) there))

  -- They are kept after the apply of its block, where the store has that block, or none, at its height.
  pub WaysBehind-applies : (f : loop.Finalizing B G) → HasStates w m f.block → StoresAs w.header stored f.block → AppliesBlock w f m now
      → WaysBehind w stored p m now
  WaysBehind-applies f has own r =
      let h : IsOverBegun w stored base p m f.block e = over_begun w stored base p m f.block e has in
      let ways : WaysStand w stored p (anchor_by w.header f.block) v =
      WaysStand-tip w stored p v (anchor_by w.header f.block) h.paused.ground.folded.tip_is kept in
      let marks_are : now.marks ≡ m.marks ++ Applied f.block ∷ [] = ap (λ (n : Moment w). n.marks) r.becomes in
      let anchor_is : now.execution.state.anchor ≡ anchor_by w.header f.block =
      ap (λ (n : Moment w). n.execution.state.anchor) r.becomes ∙ ap (λ (x : Tables B C I R U). x.anchor) r.moves.state in
      let pause_is : now.execution.state.pause ≡ Finalizing h.paused.boundary =
      ap (λ (n : Moment w). n.execution.state.pause) r.becomes ∙ ap (λ (x : Tables B C I R U). x.pause) r.moves.state ∙ h.paused.pause_is in
      record {
        more = Applied f.block ∷ [];
        marks_are = marks_are;
        kept = record {
          tip = now.execution.state.anchor;
          tip_is = h.paused.ground.folded.tip_is ∙ ap (λ (a : Anchor). Some a) (sym anchor_is);
          ways =
              WaysStand-applies w laws stored base p m now f e r has (kept_own w stored p kept.stores v.anchor h.paused.ground.folded.anchor_is) ways
              (Applied f.block ∷ []) marks_are;
          unparked = λ is. let no : Finalizing h.paused.boundary ≡ Free = sym pause_is ∙ is in cc;
          stores = stores_applied f.block own;
        };
      }

  module _ (stored_now : ℕ → Option (Named B)) (f : loop.Finalizing B G) (finalizing : IsFinalizing w m f)
      (at : m.execution.front ≡ front_at f.block Advanced) (stored_is : IsStoredNow stored p stored_now)
      (r : EndsFinalization w stored_now f m now) where
    -- Where the ways are kept, execution stands after the end of a finalization, the ways are open, none is parked, and each
    -- request that waits abstains.
    pub IsResumedBehind-kept : IsResumedBehind w laws stored stored_now base p m now
    IsResumedBehind-kept =
        let moved : HasMovedOn w stored base p e.points e.point m.next v =
        subst (λ (o : Option (Front B R U H)). IsPlaced w stored base p e.points e.point m.next v o) at e.placed in
        IsResumedBehind-ends w laws stored stored_now base p m now f finalizing at
        (WaysStand-tip w stored p v v.anchor moved.ground.folded.tip_is kept) stored_is e r

    -- so execution stands after the end
    pub Executes-ends-kept : ExecutesBehind w stored base p m now
    Executes-ends-kept = IsResumedBehind-kept.behind

    -- and the ways are kept
    pub WaysBehind-ends : WaysBehind w stored p m now
    WaysBehind-ends =
        let h : IsResumedBehind w laws stored stored_now base p m now = IsResumedBehind-kept in
        let x : Executes w stored base (after p h.behind.more) now = h.behind.executes in
        let none : now.execution.front ≡ None = ap (λ (n : Moment w). n.execution.front) r.becomes in
        let free : IsFree w stored base (after p h.behind.more) x.points x.point now.next now.execution.state =
        subst (λ (o : Option (Front B R U H)). IsPlaced w stored base
        (after p h.behind.more) x.points x.point now.next now.execution.state o) none x.placed in
        let moved : HasMovedOn w stored base p e.points e.point m.next v =
        subst (λ (o : Option (Front B R U H)). IsPlaced w stored base p e.points e.point m.next v o) at e.placed in
        let stores : StoresAnchor w stored (after p h.behind.more) = λ anchor b is.
        kept.stores anchor b (moved.ground.folded.anchor_is ∙ ap (λ (a : Anchor). Some a) (sym h.anchor) ∙ sym free.ground.folded.anchor_is ∙ is) in
        record {
          more = h.behind.more;
          marks_are = h.behind.marks_are;
          kept =
              record { tip = now.execution.state.anchor; tip_is = free.ground.folded.tip_is; ways = h.ways; unparked = λ is. h.unparked; stores = stores };
        }

module _ {B C I P R D H G U : Type 0} (w : Workings B C I P R D H G U) (stored : ℕ → Option (Named B)) (stored_now : ℕ → Option (Named B))
    (floor : Floor) (keep : List ℕ) (p : Past B C I) (m now : Moment w) where
  -- After an opening no request is on its way, and the anchor is the store's block of its height.
  pub WaysKept-opens : StoresHeights w.header stored → IsStoredNow stored p stored_now → (o : Opens w stored_now floor keep m now)
      → WaysKept w stored (Made (Opened (anchor_by w.header o.block)) ∷ p) now.execution.state
  WaysKept-opens heights stored_is o = record {
    tip = anchor_by w.header o.block;
    tip_is = refl;
    ways = subst (λ (es : List (ℕ × Requested B C I)). All Open es) (sym o.requests.0) (All-nil Open);
    unparked =
        λ is. subst (λ (es : List (ℕ × Requested B C I)). ParksNone es) (sym o.requests.0)
        (All-nil (λ (x : ℕ × Requested B C I). (path : Path B) → x.1.phase ≡ Parked path → ⊥));
    stores = λ anchor b is there. own anchor b is there;
  }
    where
      own : StoresAnchor w stored (Made (Opened (anchor_by w.header o.block)) ∷ p)
      own anchor b is there =
          let top : anchor_by w.header o.block ≡ anchor = cc in
          let first : stored (reopened_height floor) ≡ Some o.block =
          handed stored stored_now p stored_is (reopened_height floor) o.block o.is_stored in
          let at : stored (w.header.height o.block.block) ≡ Some o.block =
          subst (λ (n : ℕ). stored n ≡ Some o.block) (sym (heights (reopened_height floor) o.block first)) first in
          let also : stored (w.header.height o.block.block) ≡ Some b = subst (λ (a : Anchor). stored a.height.0 ≡ Some b) (sym top) there in
          let both : Some b ≡ Some o.block = sym also ∙ at in
          let one : b ≡ o.block = cc in
          ap (λ (x : Named B). x.digest) one ∙ ap (λ (a : Anchor). a.digest) top

      v : Tables B C I R U
      v = now.execution.state

      Open : ℕ × Requested B C I → Type 0
      Open x =
          IsOnOpenWay w stored (Made (Opened (anchor_by w.header o.block)) ∷ p)
          (anchor_by w.header o.block) v.pause v.anchor v.cache x.1.request x.1.phase
