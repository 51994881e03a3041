-- Retained blocks that lead on from an anchor are consistent, and those that don't aren't.
use Rattle.std.proofs.Common.{◌≡◌, ◌≢◌, ℕ, ◌+◌, ◌<◌, ◌≤◌, ⊎_elim, Result, Ok, Err, List, [], ◌∷◌, ◌++◌, length, get_or, All, Contains, refl, sym, ap, subst, ◌∙◌, arith, append_assoc, length-append}
use Rattle.std.specs.Prelude.{IfOk, IfErr, OnOk}
use Rattle.std.specs.List.{Any}
use Rattle.std.specs.List.Sorted.{IsPermutation, IsNonDecreasingBy}
use Rattle.std.proofs.lemmas.Bool.{cases_lt}
use Rattle.std.proofs.lemmas.List.{append-nil, get_or_at, get_or-append-add}
use Rattle.std.proofs.lemmas.List.Elements.{All-nil, All-push, All-contains, Contains-append_left, Contains-append_right, Contains-append_cases}
use Rattle.std.proofs.lemmas.List.Sorted.{All-permutation, Contains-permutation, IsPermutation-sym}
use Rattle.stateful_base.specs.Names.{Header, Named}
use Rattle.stateful_base.specs.declared.anchor.Anchor.{Anchor}
use Rattle.stateful_base.specs.declared.digest.Digest.{Digest}
use Rattle.stateful_sync.specs.Classify.{anchored, height_at, Passes, below, again, further, Leads, Refuses, conflicts, skips, RefusesAt, IsByHeight, IsConsistent}
use Rattle.stateful_sync.specs.declared.handover.Point.{Point}
use Rattle.stateful_sync_plan.specs.declared.error.SyncError.{SyncError}
use Rattle.stateful_sync_plan.specs.declared.error.SyncError.TheVariants.{OutOfMemory}

contained : {X : Type 0} (P : X → Type 0) (xs : List X) (x : X) → Contains xs x → P x → Any P xs
contained P xs x (k, lt, is) p = (k, x, lt, is, p)

any_permutation : {X : Type 0} (P : X → Type 0) (xs ys : List X) → IsPermutation xs ys → Any P xs → Any P ys
any_permutation P xs ys same (k, x, lt, is, p) = contained P ys x (Contains-permutation xs ys x same (k, lt, is)) p

any_before : {X : Type 0} (P : X → Type 0) (xs : List X) (x : X) → Any P xs → Any P (xs ++ x ∷ [])
any_before P xs x (k, y, lt, is, p) = contained P (xs ++ x ∷ []) y (Contains-append_left xs (x ∷ []) y (k, lt, is)) p

any_last : {X : Type 0} (P : X → Type 0) (xs : List X) (x : X) → P x → Any P (xs ++ x ∷ [])
any_last P xs x p = contained P (xs ++ x ∷ []) x (Contains-append_right xs (x ∷ []) x (0, omega arith, refl)) p

module _ {B : Type 0} (header : Header B) (anchor : Anchor) where
  digest_at : ℕ × Named B → Digest
  digest_at one = one.1.digest

  -- what is known of blocks that lead from the anchor to a place
  record Reached (done : List (ℕ × Named B)) (p : Point) : Type 0 where
    above : anchor.height.0 ≤ p.height.0
    base : p.height.0 ≡ anchor.height.0 → p.digest ≡ anchor.digest
    no_higher : All (λ one. height_at header one ≤ p.height.0) done
    top : All (λ one. height_at header one ≡ p.height.0 → one.1.digest ≡ p.digest) done
    at_anchor : All (λ one. height_at header one ≡ anchor.height.0 → one.1.digest ≡ anchor.digest) done
    alike : All (λ one. All (λ other. anchor.height.0 < height_at header one → height_at header one ≡ height_at header other → one.1.digest ≡ other.1.digest) done) done
    there : (h : ℕ) → anchor.height.0 < h → h ≤ p.height.0 → Any (λ one. height_at header one ≡ h) done

  -- one more that is like all of its height
  alike_push : (done : List (ℕ × Named B)) (x : ℕ × Named B)
      → All (λ one. All (λ other. anchor.height.0 < height_at header one → height_at header one ≡ height_at header other → one.1.digest ≡ other.1.digest) done) done
      → All (λ one. anchor.height.0 < height_at header one → height_at header one ≡ height_at header x → one.1.digest ≡ x.1.digest) done
      → All (λ one. All (λ other. anchor.height.0 < height_at header one → height_at header one ≡ height_at header other → one.1.digest ≡ other.1.digest) (done ++ x ∷ [])) (done ++ x ∷ [])
  alike_push done x alike like =
      let Same : ℕ × Named B → ℕ × Named B → Type 0 = λ one other. anchor.height.0 < height_at header one → height_at header one ≡ height_at header other → one.1.digest ≡ other.1.digest in
      All-push (λ one. All (Same one) (done ++ x ∷ [])) done x
      (λ k d lt. All-push (Same (get_or done k d)) done x (alike k d lt) (like k d lt))
      (All-push (Same x) done x
      (λ k d lt. λ above level. sym (like k d lt (rw (← level) above) (sym level)))
      (λ above level. refl))

  passes_reached : (done : List (ℕ × Named B)) (p : Point) (x : ℕ × Named B) (next : Point) → Reached done p → Passes header anchor p x.1 next → Reached (done ++ x ∷ []) next
  passes_reached done p x next r (below under) =
      let up = r.above in
      record {
        above = r.above;
        base = r.base;
        no_higher = All-push (λ one. height_at header one ≤ p.height.0) done x r.no_higher (omega arith);
        top = All-push (λ one. height_at header one ≡ p.height.0 → one.1.digest ≡ p.digest) done x r.top (λ e. absurd (omega arith));
        at_anchor = All-push (λ one. height_at header one ≡ anchor.height.0 → one.1.digest ≡ anchor.digest) done x r.at_anchor (λ e. absurd (omega arith));
        alike = alike_push done x r.alike (λ k d lt above level. absurd (omega arith));
        there = λ h above le. any_before (λ one. height_at header one ≡ h) done x (r.there h above le);
      }
  passes_reached done p x next r (again same) =
      let level : height_at header x ≡ p.height.0 = ap (λ (q : Point). q.height.0) same in
      let alike : x.1.digest ≡ p.digest = ap (λ (q : Point). q.digest) same in
      record {
        above = r.above;
        base = r.base;
        no_higher = All-push (λ one. height_at header one ≤ p.height.0) done x r.no_higher (omega arith);
        top = All-push (λ one. height_at header one ≡ p.height.0 → one.1.digest ≡ p.digest) done x r.top (λ e. alike);
        at_anchor = All-push (λ one. height_at header one ≡ anchor.height.0 → one.1.digest ≡ anchor.digest) done x r.at_anchor (λ e. alike ∙ r.base (sym level ∙ e));
        alike = alike_push done x r.alike (λ k d lt above here. r.top k d lt (here ∙ level) ∙ sym alike);
        there = λ h above le. any_before (λ one. height_at header one ≡ h) done x (r.there h above le);
      }
  passes_reached done p x next r (further is) =
      let up = r.above in
      let m = height_at header x in
      record {
        above = omega arith;
        base = λ e. absurd (omega arith);
        no_higher = All-push (λ one. height_at header one ≤ m) done x (λ k d lt. let le = r.no_higher k d lt in omega arith) (omega arith);
        top = All-push (λ one. height_at header one ≡ m → one.1.digest ≡ x.1.digest) done x (λ k d lt e. let le = r.no_higher k d lt in absurd (omega arith)) (λ e. refl);
        at_anchor = All-push (λ one. height_at header one ≡ anchor.height.0 → one.1.digest ≡ anchor.digest) done x r.at_anchor (λ e. absurd (omega arith));
        alike = alike_push done x r.alike (λ k d lt above level. let le = r.no_higher k d lt in absurd (omega arith));
        there = λ h above le. ⊎_elim
            (λ (less : h < m). any_before (λ one. height_at header one ≡ h) done x (r.there h above (omega arith)))
            (λ (no_less : m ≤ h). any_last (λ one. height_at header one ≡ h) done x (omega arith))
            (cases_lt h m);
      }

  leads_reached : (xs done : List (ℕ × Named B)) (p last : Point) → Reached done p → Leads header anchor p xs last → Reached (done ++ xs) last
  leads_reached [] done p last r leads = subst (λ w. Reached w last) (sym (append-nil done)) (subst (Reached done) (sym leads) r)
  leads_reached (x ∷ xs) done p last r leads =
      subst (λ w. Reached w last) (append_assoc done (x ∷ []) xs)
      (leads_reached xs (done ++ x ∷ []) leads.0 last (passes_reached done p x leads.0 r leads.1) leads.2)

  reached_first : Reached [] (anchored anchor)
  reached_first = record {
    above = omega arith;
    base = λ e. refl;
    no_higher = All-nil (λ one. height_at header one ≤ anchor.height.0);
    top = All-nil (λ one. height_at header one ≡ anchor.height.0 → one.1.digest ≡ anchor.digest);
    at_anchor = All-nil (λ one. height_at header one ≡ anchor.height.0 → one.1.digest ≡ anchor.digest);
    alike = All-nil (λ one. All (λ other. anchor.height.0 < height_at header one → height_at header one ≡ height_at header other → one.1.digest ≡ other.1.digest) []);
    there = λ h above le. absurd (omega arith);
  }

  reached_at : (xs : List (ℕ × Named B)) (last : Point) → Leads header anchor (anchored anchor) xs last → Reached xs last
  reached_at xs last leads = leads_reached xs [] (anchored anchor) last reached_first leads

  -- in whatever order they stand
  consistent_by : (xs ys : List (ℕ × Named B)) → IsPermutation xs ys → IsConsistent header anchor xs → IsConsistent header anchor ys
  consistent_by xs ys same is = record {
    at_anchor = All-permutation (λ one. height_at header one ≡ anchor.height.0 → one.1.digest ≡ anchor.digest) xs ys same is.at_anchor;
    alike = All-permutation (λ one. All (λ other. anchor.height.0 < height_at header one → height_at header one ≡ height_at header other → one.1.digest ≡ other.1.digest) ys) xs ys same
        (λ k d lt. All-permutation (λ other. anchor.height.0 < height_at header (get_or xs k d) → height_at header (get_or xs k d) ≡ height_at header other → (get_or xs k d).1.digest ≡ other.1.digest) xs ys same (is.alike k d lt));
    no_gap = All-permutation (λ one. (h : ℕ) → anchor.height.0 < h → h < height_at header one → Any (λ other. height_at header other ≡ h) ys) xs ys same
        (λ k d lt h above less. any_permutation (λ other. height_at header other ≡ h) xs ys same (is.no_gap k d lt h above less));
  }

  consistent_reached : (xs : List (ℕ × Named B)) (last : Point) → Reached xs last → IsConsistent header anchor xs
  consistent_reached xs last r = record {
    at_anchor = r.at_anchor;
    alike = r.alike;
    no_gap = λ k d lt h above less. r.there h above (let le = r.no_higher k d lt in omega arith);
  }

  -- none behind one is lower, where heights ascend
  none_lower : (front : List (ℕ × Named B)) (one : ℕ × Named B) (back : List (ℕ × Named B)) → IsNonDecreasingBy (height_at header) (front ++ one ∷ back)
      → All (λ other. height_at header one ≤ height_at header other) (one ∷ back)
  none_lower front one back ascending k d lt =
      let long = length-append front (one ∷ back) in
      let le = ascending (length front) (length front + k) d (omega arith) (omega arith) in
      let here = get_or_at front one back d (length front) refl in
      let there = get_or-append-add front (one ∷ back) k d in
      rw (here, there) at le

  -- where one is refused, they aren't consistent
  refused_apart : (front : List (ℕ × Named B)) (one : ℕ × Named B) (back : List (ℕ × Named B)) (last : Point) (error : SyncError)
      → IsNonDecreasingBy (height_at header) (front ++ one ∷ back) → Reached front last → Refuses header last one.1 error
      → IsConsistent header anchor (front ++ one ∷ back) → ⊥
  refused_apart front one back last error ascending r (conflicts level apart) is =
      let all = front ++ one ∷ back in
      let contains : Contains all one = Contains-append_right front (one ∷ back) one (0, omega arith, refl) in
      let up = r.above in
      ⊎_elim
      (λ (above : anchor.height.0 < last.height.0).
      let (k, z, lt, at, e) = r.there last.height.0 above (omega arith) in
      let in_front : Contains front z = (k, lt, at) in
      let top : z.1.digest ≡ last.digest = All-contains (λ other. height_at header other ≡ last.height.0 → other.1.digest ≡ last.digest) front z r.top in_front e in
      let like : All (λ other. anchor.height.0 < height_at header z → height_at header z ≡ height_at header other → z.1.digest ≡ other.1.digest) all =
      All-contains (λ one. All (λ other. anchor.height.0 < height_at header one → height_at header one ≡ height_at header other → one.1.digest ≡ other.1.digest) all) all z is.alike (Contains-append_left front (one ∷ back) z in_front) in
      let same : z.1.digest ≡ one.1.digest =
      All-contains (λ other. anchor.height.0 < height_at header z → height_at header z ≡ height_at header other → z.1.digest ≡ other.1.digest) all one like contains (omega arith) (e ∙ sym level) in
      apart (sym same ∙ top))
      (λ (no_above : last.height.0 ≤ anchor.height.0).
      let at_anchor : one.1.digest ≡ anchor.digest = All-contains (λ one. height_at header one ≡ anchor.height.0 → one.1.digest ≡ anchor.digest) all one is.at_anchor contains (omega arith) in
      apart (at_anchor ∙ sym (r.base (omega arith))))
      (cases_lt anchor.height.0 last.height.0)
  refused_apart front one back last error ascending r (skips above) is =
      let all = front ++ one ∷ back in
      let contains : Contains all one = Contains-append_right front (one ∷ back) one (0, omega arith, refl) in
      let up = r.above in
      let gap : (h : ℕ) → anchor.height.0 < h → h < height_at header one → Any (λ other. height_at header other ≡ h) all =
      All-contains (λ one. (h : ℕ) → anchor.height.0 < h → h < height_at header one → Any (λ other. height_at header other ≡ h) all) all one is.no_gap contains in
      let (k, z, lt, at, e) = gap (last.height.0 + 1) (omega arith) above in
      ⊎_elim
      (λ (in_front : Contains front z).
      let le : height_at header z ≤ last.height.0 = All-contains (λ other. height_at header other ≤ last.height.0) front z r.no_higher in_front in
      omega arith)
      (λ (behind : Contains (one ∷ back) z).
      let le : height_at header one ≤ height_at header z = All-contains (λ other. height_at header one ≤ height_at header other) (one ∷ back) z (none_lower front one back ascending) behind in
      omega arith)
      (Contains-append_cases front (one ∷ back) z (k, lt, at))

  module _ {A : Type 0} (retained sorted : List (ℕ × Named B)) (order : IsByHeight header retained sorted) where
    -- what is answered was consistent
    pub consistent_if : (result : Result A SyncError) → IfOk result (λ a. (last : Point) × Leads header anchor (anchored anchor) sorted last)
        → OnOk result (IsConsistent header anchor retained)
    consistent_if (Ok a) leads =
        consistent_by sorted retained (IsPermutation-sym retained sorted order.same) (consistent_reached sorted leads.0 (reached_at sorted leads.0 leads.1))
    consistent_if (Err e) leads = leads

    -- and what is refused wasn't
    pub inconsistent_if : (result : Result A SyncError) → IfErr result (λ e. e ≢ OutOfMemory → RefusesAt header anchor sorted e)
        → IfErr result (λ e. e ≢ OutOfMemory → IsConsistent header anchor retained → ⊥)
    inconsistent_if (Ok a) refused = refused
    inconsistent_if (Err e) refused = λ other is.
        let at = refused other in
        refused_apart at.front at.one at.back at.last e (subst (IsNonDecreasingBy (height_at header)) at.place order.ascending) (reached_at at.front at.last at.leads) at.cause
        (subst (IsConsistent header anchor) at.place (consistent_by retained sorted order.same is))
