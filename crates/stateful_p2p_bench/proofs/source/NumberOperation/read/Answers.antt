use Rattle.std.proofs.Common.{ℕ, [], refl}
use Rattle.stateful_base.specs.Format.{Format}
use Rattle.stateful_base.specs.FormatLaws.{Rest}
use Rattle.stateful_base.specs.Number.{u64_format}
use Rattle.stateful_base.specs.FixedLaws.{u64_alone}
use Rattle.stateful_base.proofs.Formats.{met, renamed, renamed_err}
use Rattle.stateful_p2p_bench.specs.declared.source.Number.{Number}
use Rattle.stateful_p2p_bench.proofs.source.NumberOperation.read.Goals as goal

abbrev number_format : Format Number
number_format = record { fits = λ n. u64_format.fits n.value; spelling = λ n. u64_format.spelling n.value }

abbrev to_number : ℕ → Number
to_number n = record { value = n }

Rest-number : Rest number_format [] u64_format to_number
Rest-number = record { fits = λ n fits. fits; spelled = λ n fits. refl; back = λ number bytes fits e. (number.value, fits, refl) }

pub returns-in_err-value : goal.returns-in_err-value
returns-in_err-value c = renamed_err number_format u64_format to_number Rest-number u64_alone _ _ _ _ c.from_residual.ensures.1 (met c.in_err-value.ensures.reads)

pub returns : goal.returns
returns c = renamed number_format u64_format to_number Rest-number u64_alone _ _ _ (met c.in_ok-value.ensures.reads)
