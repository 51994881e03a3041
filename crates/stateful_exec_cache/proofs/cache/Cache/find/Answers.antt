use Rattle.std.proofs.Common.{◌≡◌, ◌≢◌, ◌<◌, ◌∙◌, ℕ, List, All, None, ap, sym, subst}
use Rattle.std.specs.List.{Contains}
use Rattle.std.specs.BTreeMap.{get}
use Rattle.std.proofs.lemmas.List.Elements.{All-weaker}
use Rattle.stateful_base.specs.declared.digest.Digest.{Digest}
use Rattle.stateful_base.specs.Digest.{digest_cmp}
use Rattle.stateful_exec_cache.specs.declared.cache.Cached.{Cached}
use Rattle.stateful_exec_cache.proofs.Indexed.{within, found_at}
use Rattle.stateful_exec_cache.proofs.cache.Cache.find.Goals as goal

pub index-requires : goal.index-requires
index-requires g c =
    let at = c.self.invariant.sound c.args.digest c.in-Some.place.now (sym c.in-Some.ensures.value) in
    subst (λ (n : ℕ). c.in-Some.place.now < n) (sym c.self.inside.entries.ok.0) (within (λ e. e.digest ≡ c.args.digest) c.self.inside.entries.items c.in-Some.place.now at)

pub returns-in-Some-clause-found : goal.returns-in-Some-clause-found
returns-in-Some-clause-found g c =
    let at = c.self.invariant.sound c.args.digest c.in-Some.place.now (sym c.in-Some.ensures.value) in
    let found = found_at (λ e. e.digest ≡ c.args.digest) c.self.inside.entries.items c.in-Some.place.now c.index.result.now at c.index.ensures in
    subst (λ (es : List (Cached g.row.U.Denot)). Contains es c.index.result.now × (c.index.result.now.digest ≡ c.args.digest)) c.self.view_is ((c.in-Some.place.now, found.2, sym c.index.ensures), found.1)

pub returns-in-None-clause-absent : goal.returns-in-None-clause-absent
returns-in-None-clause-absent g c =
    subst (λ (es : List (Cached g.row.U.Denot)). All (λ e. e.digest ≢ c.args.digest) es) c.self.view_is
    (All-weaker (λ e. get digest_cmp c.self.inside.places e.digest ≢ None) (λ e. e.digest ≢ c.args.digest)
    (λ e some same. some (ap (λ (d : Digest). get digest_cmp c.self.inside.places d) same ∙ sym c.in-None.ensures.value))
    c.self.inside.entries.items c.self.invariant.complete)
