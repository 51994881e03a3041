use Rattle.std.proofs.Common.{◌≡◌, ◌<◌, ◌≤◌, ◌+◌, ℕ, List, length, take, IsTrue, sym, ◌∙◌, subst, ap, get_or, arith}
use Rattle.std.specs.BTreeSet.{BTreeSet, keys}
use Rattle.std.specs.List.{Contains}
use Rattle.stateful_base.specs.declared.digest.Digest.{Digest}
use Rattle.std.proofs.lemmas.List.{take_all}
use Rattle.stateful_exec_cache.specs.Cut.{DescendsFrom}
use Rattle.stateful_exec_cache.specs.declared.cache.Cached.{Cached}
use Rattle.stateful_exec_cache.proofs.Digests.{finds_more}
use Rattle.stateful_exec_cache.proofs.Descending.{Gathers, Gathers-first, Gathers-more, Gathers-same, Gathers-all}
use Rattle.stateful_exec_cache.proofs.cache.Cache.descendants.Goals.{then-descends+in_ok-insert, else-descends}
use Rattle.stateful_exec_cache.proofs.cache.Cache.descendants.Goals as goal

pub loop-entry-init : goal.loop-entry-init
loop-entry-init g c = Gathers-first c.args.root (keys c.new-digests.result) (λ d h. let no = subst (λ (ks : List Digest). Contains ks d) c.new-digests.ensures.empty h in absurd (omega (arith, no.1)))

pub loop-entry-preserved : goal.loop-entry-preserved
loop-entry-preserved g c =
    let list = c.deref-entry-items.ensures.value ∙ c.self.view_is in
    let within = subst (λ (l : List (Cached g.row.U.Denot)). c.loop-entry.entry-index < length l) list c.loop-entry-test.true in
    let here = ap (λ (l : List (Cached g.row.U.Denot)). get_or l c.loop-entry.entry-index c.entry-item.result) (sym list) ∙ sym c.entry-item.is in
    elim c.if-descends.branch [
      | then-descends+in_ok-insert w ↦ subst (λ (d : BTreeSet Digest). Gathers c.args.root (take (c.loop-entry.entry-index + 1) c.args.self.now) (keys d)) (sym w.digests-is) (Gathers-more c.args.root c.args.self.now c.loop-entry.entry-index within c.entry-item.result here (keys c.loop-entry.digests) (keys w.insert.new.self) c.loop-entry.invariant (c.loop-entry.entry-index + 1) (omega arith) (c.descends.ensures.0 w.if-descends.true) (finds_more c.entry-item.result.digest (keys c.loop-entry.digests) (keys w.insert.new.self) (λ d. w.in_ok-insert.ensures.updates.0 d)))
      | else-descends w ↦ subst (λ (d : BTreeSet Digest). Gathers c.args.root (take (c.loop-entry.entry-index + 1) c.args.self.now) (keys d)) (sym w.digests-is) (Gathers-same c.args.root c.args.self.now c.loop-entry.entry-index within c.entry-item.result here (keys c.loop-entry.digests) (keys c.loop-entry.digests) c.loop-entry.invariant (c.loop-entry.entry-index + 1) (omega arith) (λ d. let t : IsTrue c.descends.result = c.descends.ensures.1 d in let f = w.if-descends.false in cc))
    ]

pub returns : goal.returns
returns g c =
    let list = c.deref-entry-items.ensures.value ∙ c.self.view_is in
    Gathers-all c.args.root c.args.self.now (keys c.loop-entry.digests) (subst (λ (l : List (Cached g.row.U.Denot)). Gathers c.args.root l (keys c.loop-entry.digests)) (take_all c.loop-entry.entry-index c.args.self.now (subst (λ (l : List (Cached g.row.U.Denot)). length l ≤ c.loop-entry.entry-index) list c.loop-entry-test.false)) c.loop-entry.invariant)
