-- Whether a block goes on over a finalization; and where no run is awaited, each does.
use Rattle.std.proofs.Common.{◌≡◌, ◌⊎◌, ◌<◌, inl, inr, ℕ, List, [], ◌∷◌, All, Contains, refl, sym, subst, arith}
use Rattle.std.specs.Ordering.{nat_cmp, MatchOrdering}
use Rattle.std.specs.declared.cmp.Ordering.{Ordering}
use Rattle.std.specs.declared.cmp.Ordering.TheVariants.{Less, Equal, Greater}
use Rattle.std.proofs.lemmas.Cmp.{ranked}
use Rattle.std.proofs.lemmas.List.Elements.{All-cons, All-nil, All-weaker, Contains-push, Contains-append_left, Contains-append_right}
use Rattle.std.proofs.lemmas.Map.Made.{Contains-tail}
use Rattle.stateful_base.specs.Names.{Header}
use Rattle.stateful_base.specs.Round.{IsLater}
use Rattle.stateful_base.specs.declared.digest.Digest.{Digest}
use Rattle.stateful_base.specs.declared.round.Round.{Round}
use Rattle.stateful_exec_pause.specs.Boundary.{Boundary, step_by, IsRetained}
use Rattle.stateful_exec_pause.specs.Pausing.{IsAwaited}
use Rattle.stateful_exec_tables.specs.Pausing.{IsCount, none, one, other, AwaitsRuns}
use Rattle.stateful_exec_pause.specs.declared.boundary.ExecutionStep.{ExecutionStep}
use Rattle.stateful_exec_pause.specs.declared.pause.Pause.{Pause}
use Rattle.stateful_exec_pause.specs.declared.pause.Pause.TheVariants.{Finalizing}
use Rattle.stateful_exec_tables.specs.declared.state.Tables.{Tables}
use Rattle.stateful_exec_tables.specs.declared.tables.LiveRun.{LiveRun}
use Rattle.stateful_exec_laws.proofs.ended.Points.{same_or_not}

later_or_not : (a b : Round) → IsLater a b ⊎ (IsLater a b → ⊥)
later_or_not a b = go (nat_cmp a.epoch.0 b.epoch.0) (ranked a.epoch.0 b.epoch.0 (nat_cmp a.epoch.0 b.epoch.0) refl) (nat_cmp a.view.0 b.view.0) (ranked a.view.0 b.view.0 (nat_cmp a.view.0 b.view.0) refl)
  where
    go : (o : Ordering) → MatchOrdering o (a.epoch.0 < b.epoch.0) (a.epoch.0 ≡ b.epoch.0) (b.epoch.0 < a.epoch.0) → (v : Ordering) → MatchOrdering v (a.view.0 < b.view.0) (a.view.0 ≡ b.view.0) (b.view.0 < a.view.0) → IsLater a b ⊎ (IsLater a b → ⊥)
    go Less l v m = inl (inl l)
    go Equal e Less m = inl (inr (e, m))
    go Equal e Equal m = inr (λ h. elim h [ inl l ↦ omega (arith, l, e) | inr l ↦ omega (arith, l.1, m) ])
    go Equal e Greater m = inr (λ h. elim h [ inl l ↦ omega (arith, l, e) | inr l ↦ omega (arith, l.1, m) ])
    go Greater g v m = inr (λ h. elim h [ inl l ↦ omega (arith, l, g) | inr l ↦ omega (arith, l.0, g) ])

contains_or_not : (ds : List Digest) (d : Digest) → Contains ds d ⊎ (Contains ds d → ⊥)
contains_or_not [] d = inr (λ c. omega (arith, c.1))
contains_or_not (x ∷ xs) d = elim (same_or_not x d) [
  | inl e ↦ inl (subst (λ (y : Digest). Contains (x ∷ xs) y) e (Contains-append_left (x ∷ []) xs x (Contains-push [] x)))
  | inr ne ↦ elim (contains_or_not xs d) [
    | inl c ↦ inl (Contains-append_right (x ∷ []) xs d c)
    | inr off ↦ inr (λ c. off (Contains-tail x xs d ne c))
  ]
]

-- a block goes on over a finalization, or it doesn't
pub retained_or_not : (boundary : Boundary) (step : ExecutionStep) → IsRetained boundary step ⊎ (IsRetained boundary step → ⊥)
retained_or_not boundary step = elim (same_or_not step.digest boundary.digest) [
  | inl e ↦ inr (λ r. r.other e)
  | inr ne ↦ elim (later_or_not boundary.round step.round) [
    | inr off ↦ inr (λ r. off r.later)
    | inl later ↦ elim (contains_or_not boundary.compatible step.parent) [
      | inr off ↦ inr (λ r. off r.parent)
      | inl parent ↦ inl (record { other = ne; later = later; parent = parent })
    ]
  ]
]

-- where none is counted, none has the property
count_none : {T : Type 0} (P : T → Type 0) (xs : List T) (n : ℕ) → IsCount P xs n → n ≡ 0 → All (λ x. P x → ⊥) xs
count_none P _ _ none is = All-nil (λ x. P x → ⊥)
count_none P _ _ (one {x = x} {xs = xs} {n = n} has rest) is = let no : ⊥ = omega (arith, is) in absurd no
count_none P _ _ (other {x = x} {xs = xs} {n = n} hasnt rest) is = All-cons (λ x. P x → ⊥) x xs hasnt (count_none P xs n rest is)

-- where no run is awaited before a finalization, each live one goes on over it
pub none_awaited : {B C I R U : Type 0} (header : Header B) (v : Tables B C I R U) (boundary : Boundary) → v.pause ≡ Finalizing boundary → AwaitsRuns header v 0 → All (λ e. IsRetained boundary (step_by header e.1.block)) v.runs
none_awaited {B = B} {R = R} header v boundary paused awaits =
    All-weaker (λ (e : ℕ × LiveRun B R). IsAwaited header v.pause e.1.block → ⊥) (λ e. IsRetained boundary (step_by header e.1.block)) (λ e not. goes_on e.1 not) v.runs (count_none (λ (e : ℕ × LiveRun B R). IsAwaited header v.pause e.1.block) v.runs 0 awaits refl)
  where
    goes_on : (run : LiveRun B R) → (IsAwaited header v.pause run.block → ⊥) → IsRetained boundary (step_by header run.block)
    goes_on run not = elim (retained_or_not boundary (step_by header run.block)) [
      | inl r ↦ r
      | inr off ↦ absurd (not (subst (λ (p : Pause). IsAwaited header p run.block) (sym paused) off))
    ]
