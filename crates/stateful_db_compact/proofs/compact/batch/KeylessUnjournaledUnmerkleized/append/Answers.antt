use Rattle.std.proofs.Common.{◌∷◌, [], ap, sym, ◌∙◌, arith, length-append}
use Rattle.stateful_db_log.specs.ChainedLaws.{chained-append}
use Rattle.stateful_db_log.specs.Chained.{linked}
use Rattle.stateful_db_compact.specs.Ops.{append_bytes}
use Rattle.stateful_db_compact.proofs.compact.batch.KeylessUnjournaledUnmerkleized.append.Goals as goal

pub returns-clause-changes : goal.returns-clause-changes
returns-clause-changes g c = λ ch s holds.
    let spell = g.V.Field.fields.spelling in
    record {
      before = c.link_append-batch.ensures ∙ ap (λ d. linked d (append_bytes spell c.args.value)) holds.before ∙ sym (chained-append (append_bytes spell) s.target.root ch.values (c.args.value ∷ []));
      end = omega (arith, holds.end, c.saturating_add.ensures, length-append {A = g.row.V.Denot});
      floor = holds.floor;
      metadata = holds.metadata;
      asked = holds.asked;
    }
