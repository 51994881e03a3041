-- Blocks by ascending heights, and where they lead from an anchor.
use Rattle.std.proofs.Common.{◌≡◌, ◌≢◌, ℕ, ◌+◌, ◌<◌, ◌≤◌, ◌⊎◌, ⊎_elim, inl, inr, Result, Ok, Err, List, [], ◌∷◌, ◌++◌, length, All, refl, sym, append_assoc, length-append, ap, subst, ◌∙◌, arith}
use Rattle.std.specs.Prelude.{IsErrAnd, IfErr}
use Rattle.std.specs.List.Sorted.{IsNonDecreasingBy}
use Rattle.std.proofs.lemmas.Bool.{cases_lt}
use Rattle.std.proofs.lemmas.List.{append-nil, get_or_append_left, get_or_at, nil_from_length}
use Rattle.std.proofs.lemmas.List.Elements.{All-head, All-tail}
use Rattle.stateful_base.specs.declared.digest.Digest.{Digest}
use Rattle.stateful_base.specs.declared.anchor.Anchor.{Anchor}
use Rattle.stateful_base.specs.Names.{Header, Named}
use Rattle.stateful_sync.specs.Classify.{height_at, anchored, Passes, below, again, further, Leads}
use Rattle.stateful_sync.specs.declared.handover.Point.{Point}

pub same_place : (h : ℕ) (d : Digest) (last : Point) → h ≡ last.height.0 → d ≡ last.digest
    → ◌≡◌ {A = Point} (record { height = record { 0 = h }; digest = d }) last
same_place h d last at with =
    let moved : ◌≡◌ {A = Point} (record { height = record { 0 = h }; digest = d }) (record { height = last.height; digest = d }) = ap (λ n. record { height = record { 0 = n }; digest = d }) at in
    moved ∙ ap (λ e. record { height = last.height; digest = e }) with

pub next_height : (h a l : ℕ) → (h < a) ⊎ (l ≤ h) → a ≤ h → h ≢ l → h ≤ l + 1 → h ≡ l + 1
next_height h a l (inl under) reached other within = absurd (omega arith)
next_height h a l (inr above) reached other within = omega arith

-- what holds of an error holds of the one that was answered
pub of_error : {A E : Type 0} (r : Result A E) (e : E) (P : E → Type 0) → IsErrAnd r (λ x. x ≡ e) → P e → IfErr r P
of_error (Ok a) e P is p = absurd is
of_error (Err x) e P is p = subst P (sym is) p

-- a list is done in order
pub one_over : {X : Type 0} (done rest left all : List X) (x : X) → done ++ rest ≡ all → rest ≡ x ∷ left → (done ++ x ∷ []) ++ left ≡ all
one_over {X} done rest left all x e is = append_assoc done (x ∷ []) left ∙ subst (λ (l : List X). done ++ l ≡ all) is e

pub none_over : {X : Type 0} (done rest all : List X) (n : ℕ) → done ++ rest ≡ all → n ≡ length rest → n ≡ 0 → done ≡ all
none_over {X} done rest all n e long none = sym (append-nil done) ∙ subst (λ (xs : List X). done ++ xs ≡ all) (nil_from_length rest (sym long ∙ none)) e

-- none before is higher, where heights ascend
pub none_higher : {X : Type 0} (n : X → ℕ) (xs : List X) (x : X) (rest : List X) → IsNonDecreasingBy n (xs ++ x ∷ rest) → All (λ y. n y ≤ n x) xs
none_higher n xs x rest ascending k d lt =
    let long = length-append xs (x ∷ rest) in
    let le = ascending k (length xs) d (omega arith) (omega arith) in
    let here = get_or_append_left xs (x ∷ rest) d k lt in
    let there = get_or_at xs x rest d (length xs) refl in
    rw (here, there) at le

module _ {B : Type 0} (header : Header B) (anchor : Anchor) where
  pub leads_push : (xs : List (ℕ × Named B)) (x : ℕ × Named B) (first last next : Point)
      → Leads header anchor first xs last → Passes header anchor last x.1 next → Leads header anchor first (xs ++ x ∷ []) next
  leads_push [] x first last next leads passes = (next, subst (λ w. Passes header anchor w x.1 next) leads passes, refl)
  leads_push (y ∷ xs) x first last next leads passes = (leads.0, leads.1, leads_push xs x leads.0 last next leads.2 passes)

  -- blocks that are no higher lead no higher
  passes_no_higher : (m : ℕ) (last : Point) (b : Named B) (next : Point) → last.height.0 ≤ m → header.height b.block ≤ m → Passes header anchor last b next → next.height.0 ≤ m
  passes_no_higher m last b next le height (below under) = le
  passes_no_higher m last b next le height (again same) = le
  passes_no_higher m last b next le height (further is) = height

  pub leads_no_higher : (m : ℕ) (xs : List (ℕ × Named B)) (first last : Point) → first.height.0 ≤ m → All (λ x. height_at header x ≤ m) xs
      → Leads header anchor first xs last → last.height.0 ≤ m
  leads_no_higher m [] first last le all leads = rw leads le
  leads_no_higher m (x ∷ xs) first last le all leads =
      leads_no_higher m xs leads.0 last
      (passes_no_higher m first x.1 leads.0 le (All-head (λ x. height_at header x ≤ m) x xs all) leads.1)
      (All-tail (λ x. height_at header x ≤ m) x xs all) leads.2

  -- the next of ascending heights is below the anchor, or no lower than where those before it lead
  pub next_ascends : (xs : List (ℕ × Named B)) (x : ℕ × Named B) (rest : List (ℕ × Named B)) (last : Point)
      → IsNonDecreasingBy (height_at header) (xs ++ x ∷ rest) → Leads header anchor (anchored anchor) xs last
      → (height_at header x < anchor.height.0) ⊎ (last.height.0 ≤ height_at header x)
  next_ascends xs x rest last ascending leads = ⊎_elim
      (λ (under : height_at header x < anchor.height.0). inl under)
      (λ (reached : anchor.height.0 ≤ height_at header x).
      inr (leads_no_higher (height_at header x) xs (anchored anchor) last reached (none_higher (height_at header) xs x rest ascending) leads))
      (cases_lt (height_at header x) anchor.height.0)
