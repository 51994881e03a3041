-- How many requests a sync still makes, where each is answered as it was asked.
use Rattle.std.proofs.Common.{◌≡◌, ℕ, zero, suc, ◌+◌, ◌-◌, ◌*◌, ◌<◌, ◌≤◌, ◌==◌, ◌∷◌, ◌++◌, min}
use Rattle.std.proofs.Common.{List, [], length, Bool, true, false, Option, Some, None, arith, ap}
use Rattle.std.proofs.Common.{refl, length-append, suc-mul}
use Rattle.std.proofs.lemmas.Bool.{eq-eqb, eqb-false}
use Rattle.std.proofs.lemmas.Bool.Decides.{nat_tests}
use Rattle.std.specs.Int.NonZero.{non_zero_u64_get}
use Rattle.std.specs.declared.num.NonZeroU64.{NonZeroU64}
use Rattle.stateful_base.specs.declared.digest.Digest.{Digest}
use Rattle.stateful_base.specs.declared.target.Target.{Target}
use Rattle.stateful_types.specs.declared.response.Response.{Response}
use Rattle.stateful_types.specs.declared.response.Response.TheVariants as told
use Rattle.stateful_db_pass.specs.declared.pass.Fetches.{Fetches}
use Rattle.stateful_db_pass.specs.declared.pass.Fetches.TheVariants.{Latest, Range}
use Rattle.stateful_db_pass.specs.Fetched.{Fetched, count, lacking, is_reached, Fits, with_response}

-- so many batches make up so many operations: the last one may be shorter
pub record AreBatches (batch operations n : ℕ) : Type 0 where
  pub enough : operations ≤ n * batch
  pub least : n * batch < operations + batch

module _ {Op : Type 0} where
  abbrev pub Needs_with : Fetched Op → Option Digest → Fetches → ℕ → Type 0
  Needs_with p None Latest n = n ≡ 1
  Needs_with p (Some before) Latest n = n ≡ 0
  Needs_with p None (Range batch) n =
      (m : ℕ) × (n ≡ m + 1) × AreBatches (non_zero_u64_get batch) (count p) m
  Needs_with p (Some before) (Range batch) n =
      AreBatches (non_zero_u64_get batch) (lacking p) n

  -- So many requests are left: one for the digest before the range, and one for each batch that
  -- lacks; or one for the latest operation.
  abbrev pub Needs : Fetched Op → ℕ → Type 0
  Needs p n = Needs_with p p.before p.fetches n

  -- nothing is there before the digest before the range is, and never more than the range has
  pub record IsWithin (p : Fetched Op) : Type 0 where
    pub none : p.before ≡ None → p.ops ≡ []
    pub most : length p.ops ≤ count p

  -- one request less is left than before, and all is there exactly where none is
  pub record Falls (p : Fetched Op) (n : ℕ) : Type 0 where
    pub left : ℕ
    pub less : n ≡ left + 1
    pub needs : Needs p left
    pub last : left ≡ 0 → is_reached p ≡ true
    pub more : 0 < left → is_reached p ≡ false

-- the first of two numbers is less, so they differ
apart : (x y : ℕ) → x < y → (x == y) ≡ false
apart x y less = grind (arith, nat_tests)

none_at_all : (m b : ℕ) → m ≡ 0 → m * b ≡ 0
none_at_all m b z = grind arith

at_least : (m b : ℕ) → 0 < m → b ≤ m * b
at_least zero b some = absurd (omega (arith, some))
at_least (suc m) b some = omega (arith, suc-mul m b)

module _ {Op : Type 0} (alone : Op → Bool) where
  abbrev made : Target → Fetches → Option Digest → List Op → Fetched Op
  made target fetches before ops =
      record { target = target; fetches = fetches; before = before; ops = ops }

  latest : (target : Target) (d : Digest) (ops : List Op) (op : Op) (n : ℕ)
      → target.start.0 + 1 ≡ target.end.0
      → n ≡ 1
      → ops ≡ []
      → Falls (made target Latest (Some d) (ops ++ op ∷ [])) n
  latest target d ops op n one needs none =
      record {
        left = 0;
        less = needs;
        needs = refl;
        last =
            λ z. eq-eqb (length (ops ++ op ∷ [])) (target.end.0 - target.start.0)
            (omega (arith, one, ap length none, length-append ops (op ∷ [])));
        more = λ some. absurd (omega (arith, some));
      }

  begun : (target : Target) (batch : NonZeroU64) (d : Digest) (ops : List Op) (n : ℕ)
      → ops ≡ []
      → target.start.0 < target.end.0
      → Needs (made target (Range batch) None ops) n
      → Falls (made target (Range batch) (Some d) (ops ++ [])) n
  begun target batch d ops n none some needs =
      let b = non_zero_u64_get batch in
      let m = needs.0 in
      let c = target.end.0 - target.start.0 in
      let empty : length (ops ++ []) ≡ 0 = omega (arith, ap length none, length-append ops []) in
      record {
        left = m;
        less = needs.1;
        needs =
            record {
              enough = omega (arith, empty, needs.2.enough);
              least = omega (arith, empty, needs.2.least);
            };
        last = λ z. absurd (omega (arith, some, needs.2.enough, none_at_all m b z));
        more = λ more. apart (length (ops ++ [])) c (omega (arith, empty, some));
      }

  further : (target : Target) (batch : NonZeroU64) (d : Digest) (ops more : List Op) (n : ℕ)
      → length ops ≤ target.end.0 - target.start.0
      → is_reached (made target (Range batch) (Some d) ops) ≡ false
      → length more ≡ min (non_zero_u64_get batch) (target.end.0 - target.start.0 - length ops)
      → Needs (made target (Range batch) (Some d) ops) n
      → Falls (made target (Range batch) (Some d) (ops ++ more)) n
  further target batch d ops more zero most unreached fits needs =
      let c = target.end.0 - target.start.0 in
      let differ = eqb-false (length ops) c unreached in
      let none = none_at_all 0 (non_zero_u64_get batch) refl in
      absurd (differ (omega (arith, most, needs.enough, none)))
  further target batch d ops more (suc m) most unreached fits needs =
      let b = non_zero_u64_get batch in
      let c = target.end.0 - target.start.0 in
      let both = length-append ops more in
      let product = suc-mul m b in
      record {
        left = m;
        less = omega arith;
        needs =
            record {
              enough = omega (arith, most, fits, both, product, needs.enough);
              least = omega (arith, most, fits, both, product, needs.least, batch.ok);
            };
        last =
            λ z. eq-eqb (length (ops ++ more)) c
            (omega (arith, most, fits, both, product, needs.enough, none_at_all m b z));
        more =
            λ some. apart (length (ops ++ more)) c
            (omega (arith, most, fits, both, product, needs.least, at_least m b some));
      }

  falls : (target : Target) (fetches : Fetches) (before : Option Digest) (ops : List Op)
      (response : Response Op) (n : ℕ)
      → IsWithin (made target fetches before ops)
      → is_reached (made target fetches before ops) ≡ false
      → Fits alone (made target fetches before ops) response
      → Needs (made target fetches before ops) n
      → Falls (with_response (made target fetches before ops) response) n
  falls target Latest None ops (told.Boundary d op) n within unreached fits needs =
      latest target d ops op n fits.0 needs (within.none refl)
  falls target (Range batch) None ops (told.Boundary d op) n within unreached fits needs =
      begun target batch d ops n (within.none refl) fits needs
  falls target Latest (Some before) ops (told.Boundary d op) n within unreached fits needs = absurd fits
  falls target (Range batch) (Some before) ops (told.Boundary d op) n within unreached fits needs =
      absurd fits
  falls target Latest None ops (told.Operations more) n within unreached fits needs = absurd fits
  falls target (Range batch) None ops (told.Operations more) n within unreached fits needs = absurd fits
  falls target Latest (Some before) ops (told.Operations more) n within unreached fits needs =
      absurd fits
  falls target (Range batch) (Some before) ops (told.Operations more) n within unreached fits needs =
      further target batch before ops more n within.most unreached fits needs

  -- A response that fits leaves one request less. Behind the last one all is there.
  pub requests_fall : (p : Fetched Op) (response : Response Op) (n : ℕ)
      → IsWithin p
      → is_reached p ≡ false
      → Fits alone p response
      → Needs p n
      → Falls (with_response p response) n
  requests_fall p response n within unreached fits needs =
      falls p.target p.fetches p.before p.ops response n within unreached fits needs
