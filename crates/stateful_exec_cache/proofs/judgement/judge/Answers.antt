use Rattle.std.proofs.Common.{arith, ◌≡◌, ◌<◌, ◌≢◌, ◌↔◌, inl, sym, ◌∙◌, ap, subst, Some, None}
use Rattle.stateful_base.specs.declared.digest.Digest.{Digest}
use Rattle.stateful_base.specs.declared.number.Height.{Height}
use Rattle.stateful_exec_cache.specs.declared.judgement.Judgement.TheVariants.{Valid, Invalid}
use Rattle.stateful_exec_cache.proofs.Judged.{IsIn-same, not_in, IsJudged-at, IsJudged-below}
use Rattle.stateful_exec_cache.proofs.judgement.judge.Goals as goal

pub returns-then-has : goal.returns-then-has
returns-then-has g c = inl (IsIn-same g.B.Block.header c.args.anchor c.args.cache.now (g.S.BlockStore.stored c.args.store.now) c.args.block.now _ c.digest.ensures (c.has.ensures.0 c.if-has.true))

pub returns-then-height-anchor : goal.returns-then-height-anchor
returns-then-height-anchor g c =
    let h : c.height-height.result.0 ≡ g.B.Block.header.height c.args.block.now.block = ap (λ (x : Height). x.0) c.height-height.ensures in
    (not_in g.B.Block.header c.args.anchor c.args.cache.now (g.S.BlockStore.stored c.args.store.now) c.args.block.now _ _ c.digest.ensures c.has.ensures c.if-has.false, rw (← h) c.if-height-anchor.true)

pub returns-then-height-anchor-2 : goal.returns-then-height-anchor-2
returns-then-height-anchor-2 g c =
    let out = not_in g.B.Block.header c.args.anchor c.args.cache.now (g.S.BlockStore.stored c.args.store.now) c.args.block.now _ _ c.digest.ensures c.has.ensures c.if-has.false in
    let h : c.height-height.result.0 ≡ g.B.Block.header.height c.args.block.now.block = ap (λ (x : Height). x.0) c.height-height.ensures in
    let v : (c.agreed.result ≡ Valid) ↔ (c.args.anchor.digest ≡ c.args.block.now.digest) = subst (λ (x : Digest). (c.agreed.result ≡ Valid) ↔ (c.args.anchor.digest ≡ x)) c.digest-then-height-anchor-2.ensures c.agreed.ensures.valid in
    let i : (c.agreed.result ≡ Invalid) ↔ (c.args.anchor.digest ≢ c.args.block.now.digest) = subst (λ (x : Digest). (c.agreed.result ≡ Invalid) ↔ (c.args.anchor.digest ≢ x)) c.digest-then-height-anchor-2.ensures c.agreed.ensures.invalid in
    IsJudged-at g.B.Block.header c.args.anchor c.args.cache.now (g.S.BlockStore.stored c.args.store.now) c.args.block.now out (sym h ∙ c.if-height-anchor-2.true) c.agreed.result v i

pub returns-in-Some : goal.returns-in-Some
returns-in-Some g c =
    let out = not_in g.B.Block.header c.args.anchor c.args.cache.now (g.S.BlockStore.stored c.args.store.now) c.args.block.now _ _ c.digest.ensures c.has.ensures c.if-has.false in
    let h : c.height-height.result.0 ≡ g.B.Block.header.height c.args.block.now.block = ap (λ (x : Height). x.0) c.height-height.ensures in
    let l : c.height-height.result.0 < c.args.anchor.height.0 = omega arith in
    let s : g.S.BlockStore.stored c.args.store.now c.height-height.result.0 ≡ Some c.in-Some.stored = cc (c.in_ok-stored.ensures, c.in-Some.is) in
    let v : (c.agreed-in-Some.result ≡ Valid) ↔ (c.in-Some.stored.digest ≡ c.args.block.now.digest) = subst (λ (x : Digest). (c.agreed-in-Some.result ≡ Valid) ↔ (c.in-Some.stored.digest ≡ x)) c.digest-in-Some-2.ensures (subst (λ (y : Digest). (c.agreed-in-Some.result ≡ Valid) ↔ (y ≡ c.digest-in-Some-2.result)) c.digest-in-Some.ensures c.agreed-in-Some.ensures.valid) in
    let i : (c.agreed-in-Some.result ≡ Invalid) ↔ (c.in-Some.stored.digest ≢ c.args.block.now.digest) = subst (λ (x : Digest). (c.agreed-in-Some.result ≡ Invalid) ↔ (c.in-Some.stored.digest ≢ x)) c.digest-in-Some-2.ensures (subst (λ (y : Digest). (c.agreed-in-Some.result ≡ Invalid) ↔ (y ≢ c.digest-in-Some-2.result)) c.digest-in-Some.ensures c.agreed-in-Some.ensures.invalid) in
    IsJudged-below g.B.Block.header c.args.anchor c.args.cache.now (g.S.BlockStore.stored c.args.store.now) c.args.block.now out (rw (← h) l) c.in-Some.stored (rw (← h) s) c.agreed-in-Some.result v i

pub returns-in-None : goal.returns-in-None
returns-in-None g c =
    let h : c.height-height.result.0 ≡ g.B.Block.header.height c.args.block.now.block = ap (λ (x : Height). x.0) c.height-height.ensures in
    let l : c.height-height.result.0 < c.args.anchor.height.0 = omega arith in
    let s : g.S.BlockStore.stored c.args.store.now c.height-height.result.0 ≡ None = cc (c.in_ok-stored.ensures, c.in-None.is) in
    (not_in g.B.Block.header c.args.anchor c.args.cache.now (g.S.BlockStore.stored c.args.store.now) c.args.block.now _ _ c.digest.ensures c.has.ensures c.if-has.false, rw (← h) l, rw (← h) s)
