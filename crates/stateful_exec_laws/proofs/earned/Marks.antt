-- True verdicts are earned: those of a request that acquires what it needs, and of one that goes along its path.
use Rattle.std.proofs.Common.{◌≡◌, ◌⊎◌, ◌++◌, inl, ℕ, List, [], ◌∷◌, All, Option, MatchOption, refl, sym, ap, ◌∙◌, subst}
use Rattle.std.proofs.lemmas.List.Elements.{All-head}
use Rattle.stateful_base.specs.Names.{Named}
use Rattle.stateful_base.specs.declared.anchor.Anchor.{Anchor}
use Rattle.stateful_base.specs.declared.digest.Digest.{Digest}
use Rattle.stateful_history.specs.Canonical.{IsCanonical}
use Rattle.stateful_history.specs.Joined.{Joined, TrueIsEarned}
use Rattle.stateful_history.specs.Known.{Known}
use Rattle.stateful_history.specs.Met.{Met}
use Rattle.stateful_history.specs.Past.{Past, EachMark}
use Rattle.stateful_history.specs.declared.mark.Mark.{Mark}
use Rattle.stateful_exec_cache.specs.Cache.{IsAtHand}
use Rattle.stateful_exec_model.specs.Moments.{Moment}
use Rattle.stateful_exec_walk.specs.Path.{Path}
use Rattle.stateful_exec_tables.specs.Meeting.{IsPassed, first_or}
use Rattle.stateful_exec_tables.specs.Tables.{told}
use Rattle.stateful_exec_model.specs.Rules.{Concludes, Advances, arrives, leaves, joins, starts, misses}
use Rattle.stateful_exec_model.specs.Workings.{Workings, Point}
use Rattle.stateful_exec_walk.specs.declared.request.Request.{Request}
use Rattle.stateful_exec_walk.specs.declared.request.Request.TheVariants.{Verify, Recover}
use Rattle.stateful_exec_walk.specs.declared.request.Verdict.TheVariants as verdict
use Rattle.stateful_exec_tables.specs.declared.state.Tables.{Tables}
use Rattle.stateful_exec_tables.specs.declared.tables.Requested.{Requested}
use Rattle.stateful_exec_laws.specs.Setting.{setting}
use Rattle.stateful_exec_laws.specs.Requesting.{first_of, IsRequestOf, IsWayOf}
use Rattle.stateful_exec_laws.specs.Standing.{TablesStand}
use Rattle.stateful_exec_laws.proofs.earned.Path.{IsFolded, Joined-at_hand}

module _ {B C I P R D H G U : Type 0} (w : Workings B C I P R D H G U) (stored : ℕ → Option (Named B)) (base : w.States) (p : Past B C I) where
  -- the block is joined to the anchor, or is the finalized one of its height
  abbrev pub IsTrue : Named B → Type 0
  IsTrue b = Joined (setting w stored) base p b.digest ⊎ IsCanonical (setting w stored) p b

  -- each of the marks that are made here keeps the rule on true verdicts
  abbrev pub AreEarned : List (Mark B) → Type 0
  AreEarned marks = EachMark (TrueIsEarned (setting w stored) base) p marks

  -- a true verdict is earned, where the block to judge is joined or final
  pub told-Earned : (t : ℕ) (request : Request B C I) → IsRequestOf w stored p t request → IsTrue (first_of request) → AreEarned (told t request verdict.Valid)
  told-Earned t (Verify u ancestry) asked true = (subst (λ (o : Option (Named B)). MatchOption o ⊥ (λ b. IsTrue b)) (sym asked.verifies) true, tt)
  told-Earned t (Recover u context ancestry input kind) asked true = tt

  -- what is told of a request that ends otherwise is no true verdict
  pub told-invalid : (t : ℕ) (request : Request B C I) → AreEarned (told t request verdict.Invalid)
  told-invalid t (Verify u ancestry) = (tt, tt)
  told-invalid t (Recover u context ancestry input kind) = (tt, tt)

  -- from one moment to a later one some marks are made, and each of them keeps the rule
  pub record EarnsBehind (m now : Moment w) : Type 0 where
    pub more : List (Mark B)
    pub marks_are : now.marks ≡ m.marks ++ more
    pub each : AreEarned more

  -- known and at hand
  abbrev pub IsHere : Tables B C I R U → Digest → Type 0
  IsHere v d = Known (setting w stored) p d × IsAtHand v.anchor v.cache d

  module _ (points : Digest → Point w) (point : Point w) (next : w.Ids) (v : Tables B C I R U) (s : TablesStand w stored p points point next v) (tip : Anchor) (folded : IsFolded w stored base p v.anchor tip point)
      (request : Request B C I) where
    -- where each block of a way is passed, the first block of its request is joined
    pub Earned-arrived : (path : Path B) → ((b : Named B) → Met (setting w stored) p b → IsPassed w.header v b → Known (setting w stored) p b.digest) → (path.blocks ≡ [] → IsHere v path.parent.digest)
        → IsWayOf w stored p request path → All (IsPassed w.header v) path.blocks → Joined (setting w stored) base p (first_of request).digest
    Earned-arrived path knows parent way all = go path.blocks refl
      where
        joined : (b : Named B) → first_or path.parent path.blocks ≡ b → IsHere v b.digest → Joined (setting w stored) base p (first_of request).digest
        joined b is here = subst (λ (x : Named B). Joined (setting w stored) base p x.digest) (sym is ∙ way.begins) (Joined-at_hand w stored base p points point next v s tip folded b.digest here.0 here.1)

        go : (bs : List (Named B)) → path.blocks ≡ bs → Joined (setting w stored) base p (first_of request).digest
        go [] is = joined path.parent (ap (λ (l : List (Named B)). first_or path.parent l) is) (parent is)
        go (b ∷ bs) is =
            let passed : IsPassed w.header v b = All-head (IsPassed w.header v) b bs (subst (λ (l : List (Named B)). All (IsPassed w.header v) l) is all) in
            let met : Met (setting w stored) p b = All-head (Met (setting w stored) p) b (bs ++ path.parent ∷ []) (subst (λ (l : List (Named B)). All (Met (setting w stored) p) (l ++ path.parent ∷ [])) is way.met) in
            joined b (ap (λ (l : List (Named B)). first_or path.parent l) is) (knows b met passed, passed.1)

  module _ (points : Digest → Point w) (point : Point w) (m : Moment w) (s : TablesStand w stored p points point m.next m.state) (t : ℕ) (r : Requested B C I) (asked : IsRequestOf w stored p t r.request) where
    -- a request that ends well is told so by right, where its first block is joined or final
    pub concludes-Earned : (now : Moment w) → IsTrue (first_of r.request) → Concludes w m t r verdict.Valid now → EarnsBehind m now
    concludes-Earned now true is = rw is (record { more = _; marks_are = refl; each = told-Earned t r.request asked true })

    -- nor does a request that ends otherwise break the rule
    pub concludes-invalid : (now : Moment w) → Concludes w m t r verdict.Invalid now → EarnsBehind m now
    concludes-invalid now is = rw is (record { more = _; marks_are = refl; each = told-invalid t r.request })

    -- each mark of a request that goes along its path keeps the rule
    pub advances-Earned : (tip : Anchor) → IsFolded w stored base p m.state.anchor tip point → (path : Path B) (now : Moment w)
        → ((b : Named B) → Met (setting w stored) p b → IsPassed w.header m.state b → Known (setting w stored) p b.digest) → (path.blocks ≡ [] → IsHere m.state path.parent.digest)
        → IsWayOf w stored p r.request path → Advances w m t r path now → EarnsBehind m now
    advances-Earned tip folded path now knows parent way (arrives all concludes) = concludes-Earned now (inl (Earned-arrived points point m.next m.state s tip folded r.request path knows parent way all)) concludes
    advances-Earned tip folded path now knows parent way (leaves reaches off concludes) = concludes-invalid now concludes
    advances-Earned tip folded path now knows parent way (joins j reaches on unknown has becomes) = rw becomes (record { more = []; marks_are = refl; each = tt })
    advances-Earned tip folded path now knows parent way (starts reaches on unknown unrun known launches) = record { more = _; marks_are = launches.marks; each = (tt, tt) }
    advances-Earned tip folded path now knows parent way (misses reaches on unknown unrun known concludes) = concludes-invalid now concludes
