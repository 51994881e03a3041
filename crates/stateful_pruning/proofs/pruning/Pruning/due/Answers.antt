use Rattle.std.proofs.Common.{◌≡◌, ◌-◌, length, rules, arith, deque_len}
use Rattle.std.proofs.lemmas.List.{length-map}
use Rattle.stateful_pruning.specs.Rule.{IsTarget}
use Rattle.stateful_pruning.specs.Shown.{entry_of, recorded}
use Rattle.stateful_pruning.proofs.Windows.{newest_is, oldest_is}
use Rattle.stateful_pruning.proofs.Answer.{none_at, some_at}
use Rattle.stateful_pruning.proofs.pruning.Pruning.due.Goals as goal

pub returns-then-newest-get : goal.returns-then-newest-get
returns-then-newest-get g c =
    let a = c.self.inside in
    let p = recorded a in
    let newest = newest_is entry_of a.entries.items (deque_len a.entries - 1) c.in_ok-newest.newest.now (search rules) c.in_ok-newest.ensures.lookup in
    rw (← c.self.view_is) (none_at p.schedule p.kept (entry_of c.in_ok-newest.newest.now) newest (rw (← c.get.ensures.value) c.if-newest-get.true))

pub returns : goal.returns
returns g c =
    let a = c.self.inside in
    let p = recorded a in
    let newest = newest_is entry_of a.entries.items (deque_len a.entries - 1) c.in_ok-newest.newest.now (search rules) c.in_ok-newest.ensures.lookup in
    let oldest = oldest_is entry_of a.entries.items c.in_ok-oldest.oldest.now (search rules) c.in_ok-oldest.ensures.lookup in
    let full : length p.kept ≡ p.schedule.marshal_window = omega (arith, length-map a.entries.items entry_of) in
    let target : IsTarget p.schedule p.kept (entry_of c.in_ok-target.target) = rw (← c.self.view_is) at c.in_ok-target.ensures.target in
    rw (← c.self.view_is)
    (some_at p.schedule p.kept (entry_of c.in_ok-newest.newest.now) newest (entry_of c.in_ok-oldest.oldest.now) (entry_of c.in_ok-target.target) (rw (← c.get.ensures.value) c.if-newest-get.false) full oldest target)
