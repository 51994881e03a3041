use Rattle.std.proofs.Common.{◌≡◌, ◌++◌, ◌∷◌, [], map, sym, ap, subst, ◌∙◌}
use Rattle.std.specs.List.Sorted.{IsNonDecreasingBy}
use Rattle.std.proofs.lemmas.List.{map_push}
use Rattle.stateful_sync.specs.Classify.{height_at, handover_at}
use Rattle.stateful_sync.proofs.Classifying.{of_error, one_over, leads_push, next_ascends}
use Rattle.stateful_sync.proofs.classification.hand_over.Goals as goal

pub advance-requires : goal.advance-requires
advance-requires g c =
    let place : c.loop-ticket.yielded ++ (c.in-Some.ticket, c.in-Some.block) ∷ c.next.new.self.rest.items ≡ c.args.sorted.items =
    ap (λ rest. c.loop-ticket.yielded ++ rest) (sym c.in-Some.ensures.steps.0) ∙ c.loop-ticket.invariant.all in
    next_ascends g.B.Block.header c.args.anchor c.loop-ticket.yielded (c.in-Some.ticket, c.in-Some.block) c.next.new.self.rest.items c.loop-ticket.last
    (subst (IsNonDecreasingBy (height_at g.B.Block.header)) (sym place) c.requires)
    c.loop-ticket.invariant.leads

pub loop-ticket-preserved : goal.loop-ticket-preserved
loop-ticket-preserved g c = record {
  all = one_over c.loop-ticket.yielded _ _ _ _ c.loop-ticket.invariant.all c.in-Some.ensures.steps.0;
  are = c.in_ok-push.ensures.items
      ∙ ap (λ done. done ++ c.hand_over_one.result ∷ []) c.loop-ticket.invariant.are
      ∙ ap (λ one. map (handover_at g.B.Block.header c.args.anchor) c.loop-ticket.yielded ++ one ∷ []) c.hand_over_one.ensures
      ∙ sym (map_push (handover_at g.B.Block.header c.args.anchor) c.loop-ticket.yielded (c.in-Some.ticket, c.in-Some.block));
  leads = leads_push g.B.Block.header c.args.anchor c.loop-ticket.yielded (c.in-Some.ticket, c.in-Some.block) _ c.loop-ticket.last c.in_ok-last.last c.loop-ticket.invariant.leads c.in_ok-last.ensures.passes;
}

pub returns-in_err-last-clause-refused : goal.returns-in_err-last-clause-refused
returns-in_err-last-clause-refused g c =
    of_error c.from_residual.result c.in_err-last.field-0.0 _ c.from_residual.ensures.1 (λ memory. record {
      front = c.loop-ticket.yielded;
      one = (c.in-Some.ticket, c.in-Some.block);
      back = c.next.new.self.rest.items;
      place = sym (ap (λ rest. c.loop-ticket.yielded ++ rest) (sym c.in-Some.ensures.steps.0) ∙ c.loop-ticket.invariant.all);
      last = c.loop-ticket.last;
      leads = c.loop-ticket.invariant.leads;
      cause = c.in_err-last.ensures.refuses;
    })
