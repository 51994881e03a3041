use Rattle.std.proofs.Common.{◌≡◌, ◌⊎◌, inl, inr, true, IsTrue, sym, ◌∙◌}
use Rattle.std.specs.List.{Contains}
use Rattle.std.specs.BTreeSet.{keys}
use Rattle.stateful_exec_cache.proofs.Digests.{finds}
use Rattle.stateful_exec_cache.proofs.Descending.{from_either}
use Rattle.stateful_exec_cache.proofs.cache.is_behind.Goals as goal

pub returns-else-is : goal.returns-else-is
returns-else-is g c =
    let found = finds c.args.entry.now.parent (keys c.args.digests.now) in
    (λ t. inr (found.0 (sym c.contains.ensures ∙ t)), from_either (λ is. let t : IsTrue c.is.result = c.is.ensures.1 is in cc) (λ has. c.contains.ensures ∙ found.1 has))
