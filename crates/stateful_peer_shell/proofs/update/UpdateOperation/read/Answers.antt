use Rattle.std.proofs.Common.{◌≡◌, ◌∷◌, [], ◌++◌, ℕ, refl, lit<, arith}
use Rattle.stateful_peer_shell.specs.declared.update.Update.{Update}
use Rattle.stateful_base.specs.Format.{Format}
use Rattle.stateful_base.specs.FormatLaws.{Rest}
use Rattle.stateful_base.specs.Number.{u64_format}
use Rattle.stateful_base.specs.FixedLaws.{u64_alone}
use Rattle.stateful_types.specs.Cases.{tagged, IsTaggedBy}
use Rattle.stateful_types.specs.CasesLaws.{only_tag, only_case, named_tags, named_case}
use Rattle.stateful_base.proofs.Formats.{met, both_ok, first_err, second_err}
use Rattle.stateful_types.proofs.Tags.{tag_err, tag_wrong, tag_is, case_ok, case_err}
use Rattle.stateful_base.proofs.Values.{pair_format, pair_alone}
use Rattle.stateful_peer_shell.proofs.update.UpdateOperation.read.Goals as goal

abbrev update_format : Format Update
update_format = record {
  fits = λ u. u64_format.fits u.key × u64_format.fits u.value;
  spelling = λ u. 1 ∷ [] ++ (u64_format.spelling u.key ++ u64_format.spelling u.value);
}

abbrev to_update : ℕ × ℕ → Update
to_update p = record { key = p.0; value = p.1 }

update_names : Rest update_format [] (tagged 1 pair_format) to_update
update_names = record { fits = λ p fits. fits; spelled = λ p fits. refl; back = λ u bytes fits e. ((u.key, u.value), fits, refl) }

update_tags : IsTaggedBy update_format (λ n. n ≡ 1)
update_tags = named_tags update_names (only_tag 1 pair_format (lit< tt) pair_alone)

update_case : Rest update_format (1 ∷ []) pair_format to_update
update_case = named_case update_names (only_case 1 pair_format)

pub returns-in_err-tag : goal.returns-in_err-tag
returns-in_err-tag c = tag_err update_tags c.from_residual.ensures.1 c.in_err-tag.ensures.reads

pub returns-in_err-key-in-1 : goal.returns-in_err-key-in-1
returns-in_err-key-in-1 c =
    case_err update_tags update_case c.from_residual-in_err-key-in-1.ensures.1 (tag_is c.in-1.is c.in_ok-tag.ensures.reads)
    (first_err u64_format u64_format u64_alone u64_alone _ _ _ (met c.in_err-key-in-1.ensures.reads))

pub returns-in_err-value-in-1 : goal.returns-in_err-value-in-1
returns-in_err-value-in-1 c =
    case_err update_tags update_case c.from_residual-in_err-value-in-1.ensures.1 (tag_is c.in-1.is c.in_ok-tag.ensures.reads)
    (second_err u64_format u64_format u64_alone _ _ _ _ _ (met c.in_ok-key-in-1.ensures.reads) (met c.in_err-value-in-1.ensures.reads))

pub returns-in_ok-value-in-1 : goal.returns-in_ok-value-in-1
returns-in_ok-value-in-1 c =
    case_ok update_tags update_case (tag_is c.in-1.is c.in_ok-tag.ensures.reads)
    (both_ok u64_format u64_format u64_alone _ _ _ _ _ (met c.in_ok-key-in-1.ensures.reads) (met c.in_ok-value-in-1.ensures.reads))

pub returns-in_default : goal.returns-in_default
returns-in_default c = tag_wrong update_tags (λ is. absurd (omega arith)) c.in_ok-tag.ensures.reads
