-- What the databases keep stands behind items that apply nothing, after an apply, and after an opening.
use Rattle.std.proofs.Common.{◌≡◌, ◌≤◌, ◌<◌, ◌+◌, ◌-◌, ◌++◌, ⊎_elim, inl, inr, ℕ, List, [], ◌∷◌, length, Option, Some, None, refl, ap, ◌∙◌, arith, length-append}
use Rattle.std.proofs.lemmas.Bool.{cases_lt}
use Rattle.stateful_base.specs.Anchor.{anchor_by}
use Rattle.stateful_base.specs.Names.{Named}
use Rattle.stateful_base.specs.declared.anchor.Anchor.{Anchor}
use Rattle.stateful_db.specs.Databases.{Databases, IsOpening}
use Rattle.stateful_db.specs.Laws.{ApplyLaws}
use Rattle.stateful_history.specs.Anchors.{applied}
use Rattle.stateful_history.specs.Durable.{durable}
use Rattle.stateful_history.specs.Past.{Past, Item, Made}
use Rattle.stateful_history.specs.Setting.{Setting, step_of}
use Rattle.stateful_history.specs.States.{fold, prefixes}
use Rattle.stateful_history.specs.declared.mark.Mark.TheVariants.{Opened, Applied}
use Rattle.stateful_loop_laws.specs.Checkpoints.{Keeping}
use Rattle.stateful_loop_laws.proofs.loop.CalmItems.{LeavesApplied}

module _ {B S T : Type 0} (s : Setting B S T) where
  -- the states before and after one block more
  prefixes_push : (o : Option S) (bs : List (Named B)) (b : Named B) (t u : S) → fold s o bs ≡ Some t → step_of s t b ≡ Some u
      → prefixes s o (bs ++ b ∷ []) ≡ prefixes s o bs ++ u ∷ []
  prefixes_push None [] b t u e f = cc
  prefixes_push (Some v) [] b t u e f = let g : step_of s v b ≡ Some u = cc in rw g refl
  prefixes_push None (x ∷ bs) b t u e f = cc
  prefixes_push (Some v) (x ∷ bs) b t u e f = ap (λ (l : List S). v ∷ l) (prefixes_push (step_of s v x) bs b t u e f)

module _ {B C I Ids S T : Type 0} (s : Setting B S T) (d : Databases Ids S T) (base : S) (p : Past B C I) (m : d.Members) (anchor first : Anchor)
    (origin : ℕ → ℕ) (k : Keeping s d base p m anchor first origin) where
  -- in databases that keep as much and are durable so far
  pub Keeping-left : (x : Item B C I) (now : d.Members) → LeavesApplied s.header p x
      → ((i : ℕ) (states : List S) → i < d.count → d.Keeps m i (origin i) states → d.Keeps now i (origin i) states)
      → ((i : ℕ) → i < d.count → d.place now i ≡ d.place m i)
      → first.height.0 ≤ durable (x ∷ p)
      → ((i : ℕ) → i < d.count → origin i + (durable (x ∷ p) - first.height.0) ≤ d.durable now i)
      → Keeping s d base (x ∷ p) now anchor first origin
  Keeping-left x now same keeps place above durable = record {
    opened = same.opening ∙ k.opened;
    height = rw same.blocks k.height;
    climbs = λ n low high. same.was n (k.climbs n low high);
    keeps = λ i l. rw same.blocks (keeps i _ l (k.keeps i l));
    newest = λ i l. rw same.blocks (place i l ∙ k.newest i l);
    durable = durable;
    above = above;
  }

  -- the databases have one checkpoint more
  pub Keeping-applied : ApplyLaws d → (b : Named B) (from to : Ids × S) → d.point m ≡ Some from → fold s (Some base) (applied p) ≡ Some from.1
      → step_of s from.1 b ≡ Some to.1
      → s.header.height b.block ≡ anchor.height.0 + 1 → Keeping s d base (Made (Applied b) ∷ p) (d.applied m to) (anchor_by s.header b) first origin
  Keeping-applied laws b from to here folded step next = record {
    opened = k.opened;
    height = omega (arith, k.height, length-append (applied p) (b ∷ []));
    climbs = λ n low high. ⊎_elim (λ above. inl (omega arith)) (λ below. inr (k.climbs n low below)) (cases_lt anchor.height.0 n);
    keeps = λ i l.
        let placed : d.place m i ≡ origin i + length (applied p) = k.newest i l in
        rw (prefixes_push s (Some base) (applied p) b from.1 to.1 folded step)
        (laws.keeps_applied m from to i (origin i) (prefixes s (Some base) (applied p)) l (omega arith) here (k.keeps i l));
    newest = λ i l. omega (arith, laws.place_applied m from to i l here, k.newest i l, length-append (applied p) (b ∷ []));
    durable = λ i l. rw (laws.durable_applied m to i) (k.durable i l);
    above = k.above;
  }

-- databases that were opened keep what they were opened at
pub Keeping-opened : {B C I Ids S T : Type 0} (s : Setting B S T) (d : Databases Ids S T) (p : Past B C I) (m : d.Members) (next : Ids) (targets : T)
    (anchor : Anchor) (o : IsOpening d next m targets)
    → Keeping s d o.at.1 (Made (Opened anchor) ∷ p) m anchor anchor (λ i. d.place m i)
Keeping-opened s d p m next targets anchor o = record {
  opened = refl;
  height = omega arith;
  climbs = λ n low high. absurd (omega arith);
  keeps = λ i l. o.keeps i l;
  newest = λ i l. omega arith;
  durable = λ i l. omega (arith, o.durable i l);
  above = omega arith;
}
