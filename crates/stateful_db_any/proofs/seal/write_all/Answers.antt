use Rattle.std.proofs.Common.{length, is_some, ap, arith}
use Rattle.std.specs.Map.{lookup}
use Rattle.std.specs.BTreeMap.{is_at}
use Rattle.stateful_db_any.specs.Through.{place_through}
use Rattle.stateful_db_any.proofs.Sealing.{ops_for-le}
use Rattle.stateful_db_any.proofs.seal.write_all.Goals as goal

pub push-requires : goal.push-requires
push-requires g c =
    let cmp = g.K.Ord.cmp in
    let live = λ (k : g.row.K.Denot). is_some (place_through cmp c.args.layers.now k (lookup (is_at (cmp k)) c.args.db.now.index.entries)) in
    omega (arith, c.in_ok-all.ensures.from, ap length c.in_ok-all.ensures.ops, ops_for-le live c.args.writes.now.entries)
