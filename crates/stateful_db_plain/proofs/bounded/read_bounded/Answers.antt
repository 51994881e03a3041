use Rattle.std.proofs.Common.{◌≡◌, ℕ, suc, ◌+◌, ◌-◌, ◌*◌, sym, subst, arith}
use Rattle.stateful_base.proofs.Formats.{met, reads, passed}
use Rattle.stateful_db_plain.specs.Bounded.{bounded_format, GoesOn}
use Rattle.stateful_db_plain.proofs.Bounds.{ReadsDown, bounded_alone, top_small, reads_byte, reads_short, reads_wrong, reads_number}
use Rattle.stateful_db_plain.proofs.bounded.read_bounded.Goals as goal

pub returns-in_err-byte : goal.returns-in_err-byte
returns-in_err-byte c =
    let l = c.loop-places in
    let k = l.places - 1 in
    let least = c.args.least in
    let most = c.args.most in
    let before = c.args.input.now in
    let P : ℕ → Type 0 = λ p. ReadsDown least most before l.input p l.top in
    let places : l.places ≡ suc k = omega arith in
    passed (bounded_format least most) (bounded_alone least most c.requires c.ranges.most.fits) _ _ _ _ c.from_residual.ensures.1
    (reads_short least most c.requires c.ranges.most.fits before l.input k l.top (subst P places l.invariant) _ _ (met c.in_err-byte.ensures.reads))

pub overflow_mul-top : goal.overflow_mul-top
overflow_mul-top c =
    let l = c.loop-places in
    let k = l.places - 1 in
    let least = c.args.least in
    let most = c.args.most in
    let before = c.args.input.now in
    let P : ℕ → Type 0 = λ p. ReadsDown least most before l.input p l.top in
    let places : l.places ≡ suc k = omega arith in
    let small = top_small least most c.requires c.ranges.most.fits before l.input k l.top (subst P places l.invariant) in
    omega arith

pub overflow_add-top : goal.overflow_add-top
overflow_add-top c =
    let l = c.loop-places in
    let k = l.places - 1 in
    let least = c.args.least in
    let most = c.args.most in
    let before = c.args.input.now in
    let P : ℕ → Type 0 = λ p. ReadsDown least most before l.input p l.top in
    let places : l.places ≡ suc k = omega arith in
    let small = top_small least most c.requires c.ranges.most.fits before l.input k l.top (subst P places l.invariant) in
    let byte = c.in_ok-byte.ensures.reads.first.0 in
    omega (arith, c.from.ensures)

pub returns-then-not-goes_on : goal.returns-then-not-goes_on
returns-then-not-goes_on c =
    let l = c.loop-places in
    let k = l.places - 1 in
    let least = c.args.least in
    let most = c.args.most in
    let before = c.args.input.now in
    let P : ℕ → Type 0 = λ p. ReadsDown least most before l.input p l.top in
    let Q : ℕ → Type 0 = λ d. GoesOn least most k (l.top * 256 + d) in
    let places : l.places ≡ suc k = omega arith in
    reads (bounded_format least most) (bounded_alone least most c.requires c.ranges.most.fits) _ _ _
    (reads_wrong least most c.requires c.ranges.most.fits before l.input k l.top (subst P places l.invariant) c.in_ok-byte.byte _ (met c.in_ok-byte.ensures.reads)
    (λ goes. let there = c.goes_on.ensures.1 (subst Q (sym c.from.ensures) goes) in absurd cc))

pub loop-places-preserved : goal.loop-places-preserved
loop-places-preserved c =
    let l = c.loop-places in
    let k = l.places - 1 in
    let least = c.args.least in
    let most = c.args.most in
    let before = c.args.input.now in
    let after = c.read_u8.new.input in
    let P : ℕ → Type 0 = λ p. ReadsDown least most before l.input p l.top in
    let Q : ℕ → Type 0 = λ d. GoesOn least most k (l.top * 256 + d) in
    let R : ℕ → Type 0 = λ d. ReadsDown least most before after k (l.top * 256 + d) in
    let places : l.places ≡ suc k = omega arith in
    let goes = c.goes_on.ensures.0 c.if-not-goes_on.false in
    subst R (sym c.from.ensures)
    (reads_byte least most c.requires c.ranges.most.fits before l.input k l.top (subst P places l.invariant) c.in_ok-byte.byte after (met c.in_ok-byte.ensures.reads) (subst Q c.from.ensures goes))

pub returns : goal.returns
returns c =
    let l = c.loop-places in
    let least = c.args.least in
    let most = c.args.most in
    let before = c.args.input.now in
    let P : ℕ → Type 0 = λ p. ReadsDown least most before l.input p l.top in
    let places : l.places ≡ 0 = omega arith in
    reads (bounded_format least most) (bounded_alone least most c.requires c.ranges.most.fits) _ _ _
    (reads_number least most c.requires c.ranges.most.fits before l.input l.top (subst P places l.invariant))
