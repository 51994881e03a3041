use Rattle.std.proofs.Common.{◌∙◌, sym, ap}
use Rattle.std.specs.Map.{lookup}
use Rattle.std.specs.BTreeMap.{is_at}
use Rattle.std.proofs.lemmas.List.{drop_all}
use Rattle.stateful_db_any.specs.Through.{place_through}
use Rattle.stateful_db_any.proofs.reads.place_in.Goals as goal

pub returns : goal.returns
returns g c =
    let key = c.args.key.now in
    let below = lookup (is_at (g.K.Ord.cmp key)) c.args.db.now.index.entries in
    c.copied.ensures ∙ c.get.ensures.value
    ∙ sym (ap (λ ls. place_through g.K.Ord.cmp ls key below) (drop_all c.loop-layer.layer-index c.args.layers.now c.loop-layer-test.false))
    ∙ c.loop-layer.invariant below
