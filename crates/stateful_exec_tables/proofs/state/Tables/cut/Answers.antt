use Rattle.std.proofs.Common.{◌≢◌, MatchOption, All, List, subst, ap}
use Rattle.stateful_exec_cache.specs.Cut.{IsRootOf}
use Rattle.stateful_exec_cache.specs.declared.cache.Cached.{Cached}
use Rattle.stateful_base.specs.declared.anchor.Anchor.{Anchor}
use Rattle.stateful_exec_tables.proofs.Cuts.{cut_none}
use Rattle.stateful_exec_tables.proofs.state.Tables.cut.Goals as goal

pub returns-clause-none : goal.returns-clause-none
returns-clause-none g c = cut_none c.from_block-root.result c.args.block.now.digest c.args.self.now.cache c.in_ok-batch.field-0.root (ap (λ (a : Anchor). a.digest) c.from_block-root.ensures)
    (subst (λ (l : List (Cached g.row.U.Denot)). MatchOption c.in_ok-batch.field-0.root (All (λ (e : Cached g.row.U.Denot). e.digest ≢ c.from_block-root.result.digest) l) (λ batch. IsRootOf c.from_block-root.result l batch)) c.replace-cache.ensures.value c.in_ok-batch.ensures.root)
