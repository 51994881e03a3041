-- How a request gets along its path.
use Rattle.std.proofs.Common.{◌≡◌, ◌≢◌, ◌++◌, ◌∷◌, [], ◌<◌, List, All, refl, sym, ap, ◌∙◌, subst, length, arith}
use Rattle.std.proofs.lemmas.List.{append_assoc, append-nil, length-append}
use Rattle.std.proofs.lemmas.List.Elements.{All-nil, All-cons}
use Rattle.stateful_base.specs.Names.{Header, Named}
use Rattle.stateful_exec_walk.specs.Path.{Path, IsLastOf}
use Rattle.stateful_exec_tables.specs.declared.state.Tables.{Tables}
use Rattle.stateful_exec_tables.specs.Meeting.{IsPassed, HasPassed, Meets, MeetsOnKnown, Skips, to_end, to_left, to_met}
use Rattle.stateful_exec_tables.specs.Tables.{Knows}
use Rattle.stateful_exec_tables.specs.Meeting.{Reaches}
use Rattle.stateful_exec_tables.specs.declared.met.Met.{Met}
use Rattle.stateful_exec_tables.specs.declared.met.Met.TheVariants.{Arrived, Left, Known, Run, Unrun, Missed}

module _ {B C I R U : Type 0} (header : Header B) (v : Tables B C I R U) where
  pub HasPassed-none : (path : Path B) → HasPassed header v path path
  HasPassed-none path = record { passed = []; parts = sym (append-nil path.blocks); each = All-nil (IsPassed header v); parent_is = refl }

  parts_of : (path p q : Path B) (passed : List (Named B)) → path.blocks ≡ p.blocks ++ passed → p.blocks ≡ q.blocks ++ q.parent ∷ [] → path.blocks ≡ q.blocks ++ q.parent ∷ passed
  parts_of path p q passed all last = all ∙ ap (λ bs. bs ++ passed) last ∙ append_assoc q.blocks (q.parent ∷ []) passed

  pub HasPassed-more : (path p q : Path B) → HasPassed header v path p → Meets header v p q Known → HasPassed header v path q
  HasPassed-more path p q h meets = record {
    passed = q.parent ∷ h.passed;
    parts = parts_of path p q h.passed h.parts meets.0;
    each = All-cons (IsPassed header v) q.parent h.passed (meets.1, meets.2) h.each;
    parent_is = refl;
  }

  Reaches-next : (path p q : Path B) → HasPassed header v path p → p.blocks ≡ q.blocks ++ q.parent ∷ [] → Reaches header v path q.blocks q.parent p.parent
  Reaches-next path p q h last = record { passed = h.passed; parts = parts_of path p q h.passed h.parts last; each = h.each; parent_is = h.parent_is }

  pub Skips-at : (path p q : Path B) (met : Met B) → HasPassed header v path p → Meets header v p q met → met ≢ Known → Skips header v path q met
  Skips-at path p q Arrived h meets other =
      let whole : path.blocks ≡ h.passed = h.parts ∙ ap (λ bs. bs ++ h.passed) meets.0 in
      to_end (subst (λ (bs : List (Named B)). All (IsPassed header v) bs) (sym whole) h.each)
  Skips-at path p q Left h meets other =
      let last : IsLastOf p.blocks meets.0.0 = meets.0.1 in
      to_left (record { passed = h.passed; parts = h.parts ∙ ap (λ bs. bs ++ h.passed) last.parts ∙ append_assoc last.earlier (meets.0.0 ∷ []) h.passed; each = h.each; parent_is = h.parent_is }) meets.0.2
  Skips-at path p q Known h meets other = absurd (other refl)
  Skips-at path p q (Run j) h meets other = to_met (Reaches-next path p q h meets.0) meets.1 other meets.2
  Skips-at path p q (Unrun b parent) h meets other = to_met (Reaches-next path p q h meets.0) meets.1 other meets.2
  Skips-at path p q Missed h meets other = to_met (Reaches-next path p q h meets.0) meets.1 other meets.2

  pub shorter : (p q : Path B) → Meets header v p q Known → length q.blocks < length p.blocks
  shorter p q meets = rw meets.0 (rw (length-append q.blocks (q.parent ∷ [])) (omega (arith)))

  pub on_known : (p q : Path B) (met : Met B) → Meets header v p q met → MeetsOnKnown header v met
  on_known p q Arrived meets = tt
  on_known p q Left meets = tt
  on_known p q Known meets = tt
  on_known p q (Run j) meets = tt
  on_known p q (Unrun b parent) meets = subst (λ (p : Named B). Knows v p.digest) (sym meets.2.4) meets.2.2
  on_known p q Missed meets = tt
