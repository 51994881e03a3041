use Rattle.std.proofs.Common.{All, subst, length, ◌≡◌, arith}
use Rattle.stateful_base.specs.FixedLaws.{IsByte}
use Rattle.stateful_base.proofs.Fixed.{All-behind}
use Rattle.stateful_base.proofs.digest.Digest.write.Goals as goal

pub returns : goal.returns
returns c =
    let bytes = c.args.self.now.0 in
    let out = c.args.out.now.items in
    let appended = c.in_ok-extend_from_slice.ensures.items in
    let full : length bytes ≡ 32 = omega arith in
    record { fits = (full, All-behind IsByte out bytes (subst (All IsByte) appended c.type_inv.out)); appended = appended; kept = (bytes, appended) }
