use Rattle.std.proofs.Common.{◌++◌, ◌∷◌, [], ap, sym, ◌∙◌}
use Rattle.stateful_db_log.specs.ChainedLaws.{chained-append}
use Rattle.stateful_db_log.specs.Chained.{linked}
use Rattle.stateful_db_medium.specs.Mapped.{map-append_one}
use Rattle.stateful_db_compact.specs.declared.op.KeylessOp.TheVariants.{Append}
use Rattle.stateful_db_compact.specs.Ops.{append_bytes}
use Rattle.stateful_db_keyless.proofs.keyless.batch.KeylessUnmerkleized.append.Goals as goal

pub returns-clause-changes : goal.returns-clause-changes
returns-clause-changes g c = λ ch s holds.
    let spell = g.V.Field.fields.spelling in
    record {
      before = c.link_append-batch.ensures ∙ ap (λ d. linked d (append_bytes spell c.args.value)) holds.before ∙ sym (chained-append (append_bytes spell) s.target.root ch.values (c.args.value ∷ []));
      ops = c.in_ok-push.ensures.items ∙ ap (λ xs. xs ++ Append c.args.value ∷ []) holds.ops ∙ sym (map-append_one Append ch.values c.args.value);
      size = holds.size;
      floor = holds.floor;
      metadata = holds.metadata;
      asked = holds.asked;
    }
