-- Chains from a block on that is next to the first: what follows it goes on from it.
use Rattle.std.proofs.Common.{◌≡◌, ◌≢◌, List, ◌∷◌, ap, ◌∙◌, subst}
use Rattle.stateful_base.specs.Names.{Named}
use Rattle.stateful_base.specs.declared.digest.Digest.{Digest}
use Rattle.stateful_exec_model.specs.Workings.{Workings, Point}
use Rattle.stateful_exec_laws.specs.Chains.{Stacked, here, further}

module _ {B C I P R D H G U : Type 0} (w : Workings B C I P R D H G U) (points : Digest → Point w) (L : w.States → Named B → w.States → Type 0) (first : Digest) where
  -- a chain begins at the point of its digest
  pub Stacked-head : {d : Digest} {z : Point w} {c : List (Point w)} → Stacked w points L first d (z ∷ c) → z ≡ points d
  Stacked-head (here e is) = is
  Stacked-head (further e is s ne l) = is

  -- the chain of a child of the first block
  pub record OnFirst (b : Named B) (d : Digest) (c : List (Point w)) : Type 0 where
    pub rest : List (Point w)
    pub is : c ≡ points d ∷ points first ∷ rest
    pub leads : L (points first).1 b (points d).1

  pub on_first : {d : Digest} {c : List (Point w)} → Stacked w points L first d c → d ≢ first → (b : Named B) → ((t u : w.States) (x : Named B) → L t x u → x.digest ≡ d → x ≡ b) → w.header.parent b.block ≡ first → OnFirst b d c
  on_first (here e is) not b same child = absurd (not e)
  on_first (further {d = d} {at = z} {q = q} {c = c} {b = x} e is s ne l) not b same child =
      let x_is : x ≡ b = same q.1 z.1 x l e in
      let first_is : q ≡ points first = Stacked-head s ∙ ap points (ap (λ (y : Named B). w.header.parent y.block) x_is ∙ child) in
      record {
        rest = c;
        is = ap (λ (y : Point w). z ∷ y ∷ c) first_is ∙ ap (λ (y : Point w). y ∷ points first ∷ c) is;
        leads = subst (λ (y : Point w). L (points first).1 b y.1) is (subst (λ (y : Named B). L (points first).1 y z.1) x_is (subst (λ (y : Point w). L y.1 x z.1) first_is l));
      }

  -- chains from another first block
  module _ (M : w.States → Named B → w.States → Type 0) (root : Digest) where
    pub Stacked-root : {d : Digest} {c : List (Point w)} → Stacked w points L first d c → d ≡ root → Stacked w points M root d c
    Stacked-root (here e is) at_root = here at_root is
    Stacked-root (further e is s ne l) at_root = here at_root is

    pub Stacked-child : {d : Digest} {c : List (Point w)} → Stacked w points L first d c → d ≢ first → d ≢ root
        → (x : Named B) → ((t u : w.States) (y : Named B) → L t y u → y.digest ≡ d → y ≡ x) → x.digest ≡ d
        → ((c : List (Point w)) → Stacked w points L first (w.header.parent x.block) c → Stacked w points M root (w.header.parent x.block) c)
        → ((t : w.States) (y : Named B) (u : w.States) → L t y u → M t y u)
        → Stacked w points M root d c
    Stacked-child (here e is) not other x same x_is on more = absurd (not e)
    Stacked-child (further {at = z} {q = q} {c = c} {b = y} e is s ne l) not other x same x_is on more =
        let y_is : y ≡ x = same q.1 z.1 y l e in
        further x_is is
        (on (q ∷ c) (subst (λ (v : Named B). Stacked w points L first (w.header.parent v.block) (q ∷ c)) y_is s))
        other
        (more q.1 x z.1 (subst (λ (v : Named B). L q.1 v z.1) y_is l))
