use Rattle.std.proofs.Common.{◌≡◌, ◌∷◌, ◌++◌, filter, map, refl, sym, ◌∙◌, subst}
use Rattle.std.specs.List.{All}
use Rattle.std.specs.BTreeMap.{values}
use Rattle.std.specs.Map.Iter.{deref}
use Rattle.std.proofs.lemmas.Bool.{false≢true}
use Rattle.std.proofs.lemmas.Fn.{says_at}
use Rattle.std.proofs.lemmas.Map.Iter.{rest_more, rest_so_far, iter_end}
use Rattle.stateful_base.specs.Round.{IsLater}
use Rattle.stateful_probe_sample.specs.Sample.{IsHighest, IsHighestRound}
use Rattle.stateful_probe_sample.proofs.Highest.{highest_found, highest_reached, earlier_more}
use Rattle.stateful_probe_sample.proofs.sample.highest_reply.Goals as goal
use Rattle.stateful_probe_sample.proofs.sample.highest_reply.Goals.{else-judgeable-via-then-judgeable+else-not-is_later_than, else-judgeable-via-else-judgeable}

-- the reply that is found is the highest
pub returns-then-not-is_later_than-clause-highest : goal.returns-then-not-is_later_than-clause-highest
returns-then-not-is_later_than-clause-highest g c =
    λ judges agrees.
    let reply = c.in-Some-reply.reply in
    let top = c.in-Some.highest in
    let passes = sym (agrees reply.now c.judgeable.result (says_at g.F.Fn c.judgeable.ensures refl)) ∙ c.if-judgeable.true in
    let highest = c.in-Some.ensures.highest judges agrees in
    let earlier = c.loop-reply.invariant judges agrees in
    let so_far = rest_so_far deref c.loop-reply.yielded c.into_iter-reply-iterator.result c.loop-reply.reply-iterator c.loop-reply.yielded_by in
    let next = rest_more deref c.loop-reply.reply-iterator c.next.new.self c.next.result reply c.in-Some-reply.is c.next.ensures.steps in
    let all : values c.args.replies.now ≡ map deref c.loop-reply.yielded ++ reply.now ∷ c.next.new.self = cc in
    let found = highest_found judges (map deref c.loop-reply.yielded) reply.now c.next.new.self top (subst (λ xs. IsHighestRound (filter judges xs) top) all highest) passes (λ l. false≢true (sym c.if-not-is_later_than.true ∙ c.is_later_than.ensures.1 l)) earlier in
    subst (λ xs. IsHighest (filter judges xs) reply.now) (sym all) found

-- one more is of an earlier round, where the test answers it
pub loop-reply-preserved : goal.loop-reply-preserved
loop-reply-preserved g c =
    λ judges agrees.
    let reply = c.in-Some-reply.reply in
    let said = agrees reply.now c.judgeable.result (says_at g.F.Fn c.judgeable.ensures refl) in
    earlier_more judges c.loop-reply.yielded reply c.in-Some.highest
    (λ passes.
    elim c.else-judgeable.branch [
      | else-judgeable-via-then-judgeable+else-not-is_later_than w ↦ w.is_later_than.ensures.0 w.if-not-is_later_than.false
      | else-judgeable-via-else-judgeable w ↦ absurd (false≢true (sym w.if-judgeable.false ∙ said ∙ passes))
    ])
    (c.loop-reply.invariant judges agrees)

-- the highest reply is found before the end
pub returns-clause-exactly : goal.returns-clause-exactly
returns-clause-exactly g c =
    λ judges agrees.
    let highest = c.in-Some.ensures.highest judges agrees in
    let earlier = c.loop-reply.invariant judges agrees in
    let all = iter_end deref (values c.args.replies.now) c.loop-reply.yielded c.into_iter-reply-iterator.result c.loop-reply.reply-iterator c.next.new.self c.next.result (cc) c.loop-reply.yielded_by c.in-None.is c.next.ensures.steps in
    absurd (highest_reached (filter judges (values c.args.replies.now)) c.in-Some.highest highest (subst (λ xs. All (λ f. IsLater f.round c.in-Some.highest) (filter judges xs)) all.0 earlier))
