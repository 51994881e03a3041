use Rattle.std.proofs.Common.{◌∷◌, [], ◌++◌, ℕ, refl}
use Rattle.stateful_peer_shell.specs.declared.update.Update.{Update}
use Rattle.stateful_base.specs.Format.{Format}
use Rattle.stateful_base.specs.FormatLaws.{Rest, both}
use Rattle.stateful_base.specs.Number.{u64_format}
use Rattle.stateful_base.proofs.Formats.{write_both, write_rest}
use Rattle.stateful_peer_shell.proofs.update.UpdateOperation.write.Goals as goal

abbrev pair_format : Format (ℕ × ℕ)
pair_format = both u64_format u64_format

abbrev update_format : Format Update
update_format = record {
  fits = λ u. u64_format.fits u.key × u64_format.fits u.value;
  spelling = λ u. 1 ∷ [] ++ (u64_format.spelling u.key ++ u64_format.spelling u.value);
}

abbrev to_update : ℕ × ℕ → Update
to_update p = record { key = p.0; value = p.1 }

Rest-update : Rest update_format (1 ∷ []) pair_format to_update
Rest-update = record { fits = λ p fits. fits; spelled = λ p fits. refl; back = λ u bytes fits e. ((u.key, u.value), fits, refl) }

pub returns : goal.returns
returns c =
    let update = c.args.self.now in
    let key = c.in_ok-write_u64.ensures in
    write_rest update_format (1 ∷ []) pair_format to_update Rest-update (update.key, update.value) _ _ _ _ c.in_ok-write_u8.ensures.appended
    (write_both u64_format u64_format update.key update.value _ _ _ _ key.fits key.appended c.write_u64-2.ensures)
