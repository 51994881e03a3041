use Rattle.std.proofs.Common.{rules, ◌≡◌, map, ap, ◌∙◌}
use Rattle.std.specs.Map.Iter.{deref_pair}
use Rattle.std.proofs.lemmas.Map.Iter.{iter_end}
use Rattle.stateful_actor_register.proofs.Listed.{numbers_of, IsListOf-numbers}
use Rattle.stateful_actor_register.proofs.live.Live.numbers.Goals as goal

pub returns : goal.returns
returns g c =
    let gives = c.into_iter-number-iterator.ensures.into_iter_gives in
    let all : map deref_pair c.loop-number.yielded ≡ c.args.self.now.entries.entries = search (rules, iter_end) in
    rw (c.loop-number.invariant ∙ ap numbers_of all) (IsListOf-numbers c.args.self.now.entries.entries gives.5)
