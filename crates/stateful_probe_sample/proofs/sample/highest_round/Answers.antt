use Rattle.std.proofs.Common.{not, length, filter, map, refl, sym, ap, ◌∙◌, arith, subst}
use Rattle.std.specs.BTreeMap.{values}
use Rattle.std.specs.Map.Iter.{deref}
use Rattle.std.proofs.lemmas.Bool.{false≢true}
use Rattle.std.proofs.lemmas.Fn.{says_at}
use Rattle.std.proofs.lemmas.List.{length_push, length-map}
use Rattle.std.proofs.lemmas.List.Filters.{length-filter_both}
use Rattle.stateful_probe_sample.specs.Sample.{IsHighestRound}
use Rattle.stateful_probe_sample.proofs.Highest.{IsHighestSoFar, highest_more, judged_more_yes, judged_more_no}
use Rattle.stateful_probe_sample.proofs.sample.highest_round.Goals as goal

-- one more that the test answers is counted, and the later round is kept
pub loop-reply-preserved-then-judgeable : goal.loop-reply-preserved-then-judgeable
loop-reply-preserved-then-judgeable g c = record {
  below = omega (arith, length_push c.loop-reply.yielded c.in-Some.reply, c.loop-reply.invariant.below);
  judged =
      λ judges agrees.
      let reply = c.in-Some.reply in
      let said = agrees reply.now c.judgeable.result (says_at g.F.Fn c.judgeable.ensures refl) in
      let so_far = c.loop-reply.invariant.judged judges agrees in
      let more = judged_more_yes judges c.loop-reply.yielded reply (sym said ∙ c.if-judgeable.true) in
      let before = filter judges (map deref c.loop-reply.yielded) in (
        omega (arith, ap length more, length_push before reply.now, so_far.0),
        subst (λ xs. IsHighestRound xs c.later_round.result) (sym more) (highest_more before reply.now c.loop-reply.highest c.later_round.result so_far.1 c.later_round.ensures.one c.later_round.ensures.first c.later_round.ensures.second),
      );
}

-- one more that it doesn't answer changes nothing
pub loop-reply-preserved : goal.loop-reply-preserved
loop-reply-preserved g c = record {
  below = omega (arith, length_push c.loop-reply.yielded c.in-Some.reply, c.loop-reply.invariant.below);
  judged =
      λ judges agrees.
      let reply = c.in-Some.reply in
      let said = agrees reply.now c.judgeable.result (says_at g.F.Fn c.judgeable.ensures refl) in
      let so_far = c.loop-reply.invariant.judged judges agrees in
      let same = judged_more_no judges c.loop-reply.yielded reply (sym said ∙ c.if-judgeable.false) in
      (so_far.0 ∙ ap length (sym same), subst (λ xs. IsHighestSoFar xs c.loop-reply.highest) (sym same) so_far.1);
}

-- too few are recorded, so too few are judged
pub returns-then-len-faulty-clause-exactly : goal.returns-then-len-faulty-clause-exactly
returns-then-len-faulty-clause-exactly g c = λ judges agrees.
    let all = values c.args.replies.now in
    (λ none. absurd (false≢true none), λ enough. absurd (omega (arith, enough, length-filter_both judges (λ f. not (judges f)) (λ f. refl) all, length-map c.args.replies.now.entries (λ e. e.1), c.len.ensures.len, c.if-len-faulty.true, c.max_faults-faulty.ensures)))
