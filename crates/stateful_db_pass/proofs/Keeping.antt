-- What is kept beside what is there, with operations more.
use Rattle.std.proofs.Common.{◌≡◌, ℕ, ◌+◌, ◌-◌, ◌^◌, ◌<◌, ◌≤◌, ◌++◌, ◌∷◌, List, [], length, Bool, true, false}
use Rattle.std.proofs.Common.{Option, Some, None, arith, ap, refl, sym, ◌∙◌, subst, length-append}
use Rattle.std.proofs.Common.{is_some, ◌==◌, Result, Ok, Err, IfOk, IfErr, IfSome}
use Rattle.std.proofs.lemmas.Bool.{false≢true, eqb-true, eq-eqb}
use Rattle.stateful_base.specs.declared.digest.Digest.{Digest}
use Rattle.stateful_base.specs.declared.target.Target.{Target}
use Rattle.stateful_db_log.specs.Linking.{behind, behind-append}
use Rattle.stateful_types.specs.declared.response.Response.{Response}
use Rattle.stateful_types.specs.declared.response.Response.TheVariants as told_as
use Rattle.stateful_db_pass.specs.declared.fault.SyncFault.{SyncFault}
use Rattle.stateful_db_pass.specs.declared.fault.SyncFault.TheVariants.{OutOfMemory}
use Rattle.stateful_db_pass.specs.declared.pass.Fetches.{Fetches}
use Rattle.stateful_db_pass.specs.declared.pass.Fetches.TheVariants.{Latest, Range}
use Rattle.stateful_db_pass.specs.Fetched.{Fetched, added, toward, count, is_reached, first_ops}
use Rattle.stateful_db_pass.specs.Fetched.{Fits, FitsBoundary, FitsOperations, with_response, Leads}
use Rattle.stateful_db_pass.specs.Kept.{IsKept, IsNext, IsSingle}
use Rattle.stateful_db_pass.specs.Progress.{Settles, goes_on, reaches, misses, Takes, takes}
use Rattle.stateful_db_pass.specs.Progress.{discards, Progresses, served, wants}

module _ {Op : Type 0} (linked : ℕ → Digest → Op → Digest) (alone : Op → Bool) (target : Target)
    (fetches : Fetches) where
  -- where all is there, it leads to the root
  pub leads : (before : Option Digest) (last : Digest) (ops : List Op)
      → IsKept linked alone target fetches before last ops
      → is_some before ≡ true
      → length ops ≡ target.end.0 - target.start.0
      → (d : Digest)
      × (before ≡ Some d)
      × (behind linked target.start.0 d ops ≡ target.root)
  leads None last ops kept some whole = absurd (false≢true some)
  leads (Some d) last ops kept some whole = (d, refl, kept.chained d refl ∙ kept.rooted d refl whole)

  -- where the latest operation is fetched alone, it is there
  pub single : (before : Option Digest) (last : Digest) (ops : List Op)
      → IsKept linked alone target fetches before last ops
      → is_some before ≡ true
      → fetches ≡ Latest
      → IsSingle alone target ops
  single None last ops kept some latest = absurd (false≢true some)
  single (Some d) last ops kept some latest = kept.single latest d refl

  -- operations more, of which the last digest is known
  pub kept_added : (before from last : Digest) (ops more : List Op)
      → behind linked target.start.0 before ops ≡ from
      → last ≡ behind linked (target.start.0 + length ops) from more
      → target.end.0 < 2 ^ 64
      → target.start.0 < target.end.0
      → length ops + length more ≤ target.end.0 - target.start.0
      → (length ops + length more ≡ target.end.0 - target.start.0 → last ≡ target.root)
      → (fetches ≡ Latest → IsSingle alone target (ops ++ more))
      → IsKept linked alone target fetches (Some before) last (ops ++ more)
  kept_added before from last ops more first then small ranged room root single =
      let both = length-append ops more in
      record {
        small = small;
        none = λ e. absurd (cc);
        most = omega (arith, both, room);
        ranged = λ d e. ranged;
        chained =
            λ d e.
            let same : before ≡ d = cc in
            subst (λ x. behind linked target.start.0 x (ops ++ more) ≡ last) same
            (behind-append linked target.start.0 before ops more
            ∙ ap (λ x. behind linked (target.start.0 + length ops) x more) first
            ∙ sym then);
        rooted = λ d e whole. root (sym both ∙ whole);
        single = λ latest d e. single latest;
      }

-- the first of two numbers differs from the second
other : (x y : ℕ) → (x ≡ y → ⊥) → (x == y) ≡ false
other x y differ = go (x == y) refl
  where
    go : (b : Bool) → (x == y) ≡ b → (x == y) ≡ false
    go true same = absurd (differ (eqb-true x y same))
    go false same = same

module _ {Op : Type 0} (linked : ℕ → Digest → Op → Digest) (alone : Op → Bool) (p : Fetched Op)
    (before from : Digest) (ops : List Op) (last : Digest) where
  all_digests : IsNext linked alone p before from ops
      → last ≡ behind linked (p.target.start.0 + length p.ops) from ops
      → behind linked p.target.start.0 before (p.ops ++ ops) ≡ last
  all_digests next then =
      behind-append linked p.target.start.0 before p.ops ops
      ∙ ap (λ x. behind linked (p.target.start.0 + length p.ops) x ops) next.chained
      ∙ sym then

  pub next_kept : p.target.end.0 < 2 ^ 64
      → IsNext linked alone p before from ops
      → last ≡ behind linked (p.target.start.0 + length p.ops) from ops
      → (length p.ops + length ops ≡ count p → last ≡ p.target.root)
      → IsKept linked alone p.target p.fetches (Some before) last (p.ops ++ ops)
  next_kept small next then root =
      kept_added linked alone p.target p.fetches before from last p.ops ops next.chained then small
      next.ranged next.room root next.single

  -- not all is there yet
  pub settles_part : (length p.ops + length ops ≡ count p → ⊥)
      → Settles linked (added p before ops) None (added p before ops)
  settles_part part =
      let both = length-append p.ops ops in
      goes_on (other (length (p.ops ++ ops)) (count p) (λ same. part (sym both ∙ same)))

  -- all is there
  whole : length p.ops + length ops ≡ count p → is_reached (added p before ops) ≡ true
  whole all = eq-eqb (length (p.ops ++ ops)) (count p) (length-append p.ops ops ∙ all)

  pub settles_whole : IsNext linked alone p before from ops
      → last ≡ behind linked (p.target.start.0 + length p.ops) from ops
      → length p.ops + length ops ≡ count p
      → last ≡ p.target.root
      → Settles linked (added p before ops) (Some p.target) (added p before ops)
  settles_whole next then all root =
      reaches (whole all) (before, refl, all_digests next then ∙ root)

  pub settles_other : IsNext linked alone p before from ops
      → last ≡ behind linked (p.target.start.0 + length p.ops) from ops
      → length p.ops + length ops ≡ count p
      → (last ≡ p.target.root → ⊥)
      → Settles linked (added p before ops) None (toward p.target p.fetches)
  settles_other next then all differs =
      misses (whole all)
      (λ (d, is, leads).
      let same : before ≡ d = cc in
      differs
      (sym (all_digests next then)
      ∙ ap (λ x. behind linked p.target.start.0 x (p.ops ++ ops)) same
      ∙ leads))

module _ {Op : Type 0} (linked : ℕ → Digest → Op → Digest) (alone : Op → Bool) where
  -- what counts of the first operation can stand where nothing is
  pub first_next : (target : Target) (fetches : Fetches) (b : Option Digest) (ops : List Op)
      (op : Op)
      → (b ≡ None → ops ≡ [])
      → let p : Fetched Op =
      record { target = target; fetches = fetches; before = b; ops = ops } in
      FitsBoundary alone p b fetches op
      → (before : Digest)
      → IsNext linked alone p before before (first_ops fetches op)
  first_next target fetches (Some d) ops op none fits before = absurd fits
  first_next target Latest None ops op none fits before =
      let empty = none refl in
      record {
        ranged = omega (arith, fits.0);
        room = omega (arith, ap length empty, fits.0);
        chained = ap (λ xs. behind linked target.start.0 before xs) empty;
        single =
            λ latest. record {
              op = op;
              is = ap (λ xs. xs ++ op ∷ []) empty;
              by_itself = fits.1;
              last = fits.0;
            };
      }
  first_next target (Range batch) None ops op none fits before =
      let empty = none refl in
      record {
        ranged = fits;
        room = omega (arith, ap length empty, fits);
        chained = ap (λ xs. behind linked target.start.0 before xs) empty;
        single = λ latest. absurd (cc);
      }

  -- of a range that isn't fetched whole by its latest operation
  pub further_next : (p : Fetched Op) (before : Digest) (ops : List Op)
      → FitsOperations alone p (Some before) p.fetches ops
      → p.fetches ≡ Latest
      → ⊥
  further_next p before ops fits latest =
      subst (λ (f : Fetches). FitsOperations alone p (Some before) f ops) latest fits

  -- a response that fits is taken
  pub taken_ok : (p : Fetched Op) (response : Response Op)
      (result : Result (Option Target) SyncFault) (next : Fetched Op)
      → Fits alone p response
      → IfOk result (λ reached. Settles linked (with_response p response) reached next)
      → IfOk result (λ reached. Takes linked alone p response reached next)
  taken_ok p response (Ok reached) next fits settles = takes fits settles
  taken_ok p response (Err error) next fits settles = settles

  -- what the answer of a source makes of it
  pub progressed : (p next : Fetched Op) (response : Response Op)
      (result : Result (Option Target) SyncFault)
      → IfOk result (λ reached. Takes linked alone p response reached next)
      → IfErr result (λ e. (e ≡ OutOfMemory) × (next ≡ p))
      → Progresses linked alone p (Ok response) result next
  progressed p next response (Ok reached) ok err = served ok
  progressed p next response (Err e) ok err =
      let kept : Progresses linked alone p (Ok response) (Err OutOfMemory) p = wants in
      subst (λ (f : SyncFault). Progresses linked alone p (Ok response) (Err f) next) (sym err.0)
      (subst (λ n. Progresses linked alone p (Ok response) (Err OutOfMemory) n) (sym err.1) kept)

  -- where the target is told, all is there and leads to the root
  pub told_target : (p next : Fetched Op) (response : Response Op)
      (result : Result (Option Target) SyncFault)
      → IfOk result (λ reached. Takes linked alone p response reached next)
      → IfOk result
      (λ target. IfSome target
      (λ t. (t ≡ p.target) × (is_reached next ≡ true) × Leads linked next))
  told_target p next response (Err e) ok = tt
  told_target p next response (Ok reached) ok = told p next response reached ok
    where
      target_stays : (p : Fetched Op) (response : Response Op)
          → (with_response p response).target ≡ p.target
      target_stays p (told_as.Boundary before op) = refl
      target_stays p (told_as.Operations ops) = refl

      settled : (q next : Fetched Op) (reached : Option Target)
          → Settles linked q reached next
          → IfSome reached (λ t. (t ≡ q.target) × (is_reached next ≡ true) × Leads linked next)
      settled q next None s = tt
      settled q next (Some t) (reaches all leads) = (refl, all, leads)

      told : (p next : Fetched Op) (response : Response Op) (reached : Option Target)
          → Takes linked alone p response reached next
          → IfSome reached (λ t. (t ≡ p.target) × (is_reached next ≡ true) × Leads linked next)
      told p next response reached (takes fits settles) =
          subst (λ (x : Target). IfSome reached (λ t. (t ≡ x) × (is_reached next ≡ true) × Leads linked next))
          (target_stays p response) (settled (with_response p response) next reached settles)
      told p next response None (discards unfit) = tt
