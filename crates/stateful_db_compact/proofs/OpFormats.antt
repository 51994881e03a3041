-- the cases of operations and of their metadata, by the first byte
use Rattle.std.proofs.Common.{◌≡◌, [], ◌∷◌, Some, None}
use Rattle.std.specs.Prelude.{◌⊎◌}
use Rattle.stateful_base.specs.Format.{Format, IsFormat}
use Rattle.stateful_base.specs.FormatLaws.{Rest}
use Rattle.stateful_types.specs.Cases.{nothing, IsTaggedBy}
use Rattle.stateful_types.specs.CasesLaws.{two_tags, first_case, second_case}
use Rattle.stateful_db_compact.specs.declared.op.KeylessOp.TheVariants.{Commit, Append}
use Rattle.stateful_db_compact.specs.OpFormat.{metadata_format, keyless_format}
use Rattle.stateful_db_compact.specs.OpFormatLaws.{commit_format, metadata_cases, op_cases}

module _ {V : Type 0} (values : Format V) (law : IsFormat values) where
  pub metadata_tags : IsTaggedBy (metadata_format values) (λ n. (n ≡ 0) ⊎ (n ≡ 1))
  metadata_tags = two_tags (metadata_cases values law)

  pub none_case : Rest (metadata_format values) (0 ∷ []) nothing (λ _. None)
  none_case = first_case (metadata_cases values law)

  pub some_case : Rest (metadata_format values) (1 ∷ []) values (λ metadata. Some metadata)
  some_case = second_case (metadata_cases values law)

  pub op_tags : IsTaggedBy (keyless_format values) (λ n. (n ≡ 0) ⊎ (n ≡ 1))
  op_tags = two_tags (op_cases values law)

  pub commit_case : Rest (keyless_format values) (0 ∷ []) (commit_format values) (λ p. Commit p.0 p.1)
  commit_case = first_case (op_cases values law)

  pub append_case : Rest (keyless_format values) (1 ∷ []) values (λ value. Append value)
  append_case = second_case (op_cases values law)
