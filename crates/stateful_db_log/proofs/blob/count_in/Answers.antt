use Rattle.std.proofs.Common.{◌≡◌, ◌<◌, ◌+◌, ◌*◌, length, get_or, refl, arith}
use Rattle.std.proofs.lemmas.Bool.Decides.{nat_tests}
use Rattle.stateful_base.proofs.Fixed.{all_bytes}
use Rattle.stateful_db_log.proofs.Blobs.{inside_short, inside_long, wrong_first, wrong_second, found}
use Rattle.stateful_db_log.proofs.blob.count_in.Goals as goal

pub returns-then-is_empty-clause-err : goal.returns-then-is_empty-clause-err
returns-then-is_empty-clause-err c =
    let bytes = c.args.bytes.now in
    let none : length bytes ≡ 0 = grind (arith, nat_tests, c.is_empty.ensures, c.if-is_empty.true) in
    inside_short bytes (omega arith) (λ i. omega (arith, c.type_inv.bytes i)) (λ some. absurd (omega arith)) (λ some. absurd (omega arith))

pub returns-then-bytes-ne0-clause-err : goal.returns-then-bytes-ne0-clause-err
returns-then-bytes-ne0-clause-err c =
    let bytes = c.args.bytes.now in
    let some : 0 < length bytes = grind (arith, nat_tests, c.is_empty.ensures, c.if-is_empty.false) in
    wrong_first bytes some c.if-bytes-ne0.true

pub returns-then-bytes-eq1-clause-err : goal.returns-then-bytes-eq1-clause-err
returns-then-bytes-eq1-clause-err c =
    let bytes = c.args.bytes.now in
    inside_short bytes (omega arith) (λ i. omega (arith, c.type_inv.bytes i)) (λ some. c.if-bytes-ne0.false) (λ some. absurd (omega arith))

pub returns-then-bytes-ne0-2-clause-err : goal.returns-then-bytes-ne0-2-clause-err
returns-then-bytes-ne0-2-clause-err c =
    let bytes = c.args.bytes.now in
    let some : 0 < length bytes = grind (arith, nat_tests, c.is_empty.ensures, c.if-is_empty.false) in
    let one = c.if-bytes-eq1.false in
    wrong_second bytes (grind arith) c.if-bytes-ne0.false c.if-bytes-ne0-2.true

pub returns-then-bytes-lt4-clause-err : goal.returns-then-bytes-lt4-clause-err
returns-then-bytes-lt4-clause-err c =
    inside_short c.args.bytes.now (omega arith) (λ i. omega (arith, c.type_inv.bytes i)) (λ some. c.if-bytes-ne0.false) (λ some. c.if-bytes-ne0-2.false)

pub returns-then-bytes-count-clause-err : goal.returns-then-bytes-count-clause-err
returns-then-bytes-count-clause-err c =
    let bytes = c.args.bytes.now in
    inside_long bytes _ (omega arith) (λ i. omega (arith, c.type_inv.bytes i)) (all_bytes bytes (λ i. omega (arith, c.type_inv.bytes i))) c.if-bytes-ne0.false c.if-bytes-ne0-2.false refl c.if-bytes-count.true

pub returns-clause-ok : goal.returns-clause-ok
returns-clause-ok c =
    let bytes = c.args.bytes.now in
    found bytes (get_or bytes 2 0 * 256 + get_or bytes 3 0) (omega arith) (λ i. omega (arith, c.type_inv.bytes i)) (all_bytes bytes (λ i. omega (arith, c.type_inv.bytes i))) c.if-bytes-ne0.false c.if-bytes-ne0-2.false refl (omega arith)
