use Rattle.std.proofs.Common.{◌≡◌, true, false, ap, sym, ◌∙◌}
use Rattle.stateful_db.specs.Disk.{point}
use Rattle.stateful_db_overlay.specs.Stack.{has_layer, cut_at}
use Rattle.stateful_db_plain.specs.Stored.{standing_of}
use Rattle.stateful_db_plain.proofs.Showing.{draft_cut, draft_at, draft_apart}
use Rattle.stateful_db_plain.proofs.batch.PlainUnmerkleized.rebase.Goals as goal

-- the database's state is the base
pub returns-in_ok-self-clause-chain : goal.returns-in_ok-self-clause-chain
returns-in_ok-self-clause-chain c = λ r q newer older shown.
    let u = c.args.self.now in
    let p = point (standing_of c.args.db.now) in
    let base : c.in_ok-self.field-0 ≡ p.1 = c.in_ok-self.ensures ∙ c.state.ensures in
    let below : c.cut.new.self ≡ cut_at p.0 u.below = c.cut.ensures ∙ ap (λ n. cut_at n u.below) c.id-at.ensures in
    draft_cut u _ r q p newer older (λ i. record u { below = below i; base = base i }) shown

-- an id that the chain doesn't have is neither the base nor a layer
pub returns-in_ok-self-clause-apart : goal.returns-in_ok-self-clause-apart
returns-in_ok-self-clause-apart c = λ r q chain shown none.
    let n = (standing_of c.args.db.now).id in
    let wrong : true ≡ false = sym c.if-has.true ∙ c.has.ensures ∙ ap (λ i. has_layer c.args.self.now.below i) c.id-at.ensures ∙ draft_apart c.args.self.now r q chain n shown none in
    absurd cc

-- a point of the chain has an id that is found
pub returns-else-has-clause-chain : goal.returns-else-has-clause-chain
returns-else-has-clause-chain c = λ r q newer older shown.
    let p = point (standing_of c.args.db.now) in
    let wrong : false ≡ true = sym c.if-has.false ∙ c.has.ensures ∙ ap (λ i. has_layer c.args.self.now.below i) c.id-at.ensures ∙ draft_at c.args.self.now r q p newer older shown in
    absurd cc
