use Rattle.std.proofs.Common.{◌≡◌, List, ℕ, Some, length, ◌∙◌, sym, subst}
use Rattle.std.specs.BTreeMap.{Updates}
use Rattle.stateful_base.specs.Digest.{digest_cmp}
use Rattle.stateful_exec_cache.specs.Index.{IsIndex}
use Rattle.stateful_exec_cache.specs.declared.cache.Cached.{Cached}
use Rattle.stateful_exec_cache.proofs.Indexed.{IsIndex-push, IsIndex-same}
use Rattle.stateful_exec_cache.proofs.cache.Cache.insert.Goals as goal

pub invariant_of-self-2 : goal.invariant_of-self-2
invariant_of-self-2 g c =
    let found = subst (λ (es : List (Cached g.row.U.Denot)). IsIndex es c.self.inside.places) (sym c.in_ok-reserve.ensures.items) c.self.invariant in
    let place : c.len.result ≡ length c.reserve.new.self.items = c.len.ensures ∙ c.reserve.new.self.ok.0 in
    rw c.in_ok-push.ensures.items
    (IsIndex-push c.reserve.new.self.items c.args.entry c.self.inside.places c.insert.new.self found
    (subst (λ (n : ℕ). Updates digest_cmp c.self.inside.places c.insert.new.self c.args.entry.digest (Some n)) place c.in_ok-insert.ensures.updates))

pub invariant_of-self-in_err-insert : goal.invariant_of-self-in_err-insert
invariant_of-self-in_err-insert g c =
    rw c.in_ok-reserve.ensures.items (IsIndex-same c.self.inside.entries.items c.self.inside.places c.insert.new.self c.self.invariant c.in_err-insert.ensures.err)
