use Rattle.std.proofs.Common.{◌++◌, ◌∷◌, [], ℕ, is_none, ap, subst, ◌∙◌, List}
use Rattle.std.specs.Ordering.{nat_cmp}
use Rattle.std.specs.Map.{keys_of}
use Rattle.std.specs.List.Sorted.{IsStrictlySortedBy}
use Rattle.stateful_table.specs.Table.{put}
use Rattle.stateful_exec_tables.specs.Phase.{parked_path, parked_in, not_parked}
use Rattle.stateful_exec_tables.specs.declared.state.Tables.{Tables}
use Rattle.stateful_exec_tables.specs.declared.tables.Phase.{Phase}
use Rattle.stateful_exec_tables.specs.declared.tables.Requested.{Requested}
use Rattle.stateful_exec_tables.proofs.Rebuilding.{Goes-first, Goes-next, Goes-last, put_back, left_out}
use Rattle.stateful_exec_tables.proofs.Pauses.{same_numbers, rebuilt, parked_more, parked_same}
use Rattle.stateful_exec_tables.proofs.state.Tables.take_parked.Goals as goal

pub loop-ticket-init : goal.loop-ticket-init
loop-ticket-init g c =
    let given = c.into_iter-ticket-iterator.ensures.into_iter_gives in
    let whole = c.into_entries-ticket-items.ensures ∙ c.replace-requests.ensures.value in
    record {
      goes = Goes-first c.args.self.now.requests _ (given.0 ∙ whole) (subst (λ (l : List (ℕ × Requested g.row.B.Denot g.row.C.Denot g.row.I.Denot)). IsStrictlySortedBy nat_cmp (keys_of l)) whole given.5);
      out = c.new-out.ensures.items;
      kept = ap (λ rs. record c.args.self.now { requests = rs }) (c.replace-requests.ensures.after ∙ c.new.ensures);
    }

pub loop-ticket-preserved-in-Continue-1 : goal.loop-ticket-preserved-in-Continue-1
loop-ticket-preserved-in-Continue-1 g c =
    let i = c.loop-ticket.invariant in
    let found = c.in-Ok.ensures.parked in
    record {
      goes = Goes-next c.args.self.now.requests c.loop-ticket.yielded _ _ c.in-Some.ticket c.in-Some.requested i.goes c.in-Some.ensures.steps;
      out = c.in_ok-push-in-Ok.ensures.items ∙ ap (λ l. l ++ record { ticket = c.in-Some.ticket; request = c.in-Ok.request; path = c.in-Ok.path } ∷ []) i.out ∙ parked_more c.loop-ticket.yielded c.in-Some.ticket c.in-Some.requested c.in-Ok.request c.in-Ok.path found.0 found.1;
      kept = i.kept ∙ ap (λ rs. record c.args.self.now { requests = rs })
          (left_out c.args.self.now.requests c.loop-ticket.yielded _ _ c.in-Some.ticket c.in-Some.requested i.goes c.in-Some.ensures.steps (λ e. is_none (parked_path e.1.phase)) (ap (λ (p : Phase g.row.B.Denot). is_none (parked_path p)) found.1));
    }

pub loop-ticket-preserved : goal.loop-ticket-preserved
loop-ticket-preserved g c =
    let i = c.loop-ticket.invariant in
    let found = c.in-Err.ensures.other in
    record {
      goes = Goes-next c.args.self.now.requests c.loop-ticket.yielded _ _ c.in-Some.ticket c.in-Some.requested i.goes c.in-Some.ensures.steps;
      out = i.out ∙ parked_same c.loop-ticket.yielded c.in-Some.ticket c.in-Some.requested found.1;
      kept = rebuilt c.args.self.now c.loop-ticket.self _ _ _ i.kept
          (c.in_ok-put-in-Err.ensures.ok ∙ ap (λ (v : Tables g.row.B.Denot g.row.C.Denot g.row.I.Denot g.row.R.Denot g.row.U.Denot). put v.requests c.in-Some.ticket c.in-Err.requested) i.kept
          ∙ ap (λ r. put (not_parked c.loop-ticket.yielded) c.in-Some.ticket r) found.0
          ∙ put_back c.args.self.now.requests c.loop-ticket.yielded _ _ c.in-Some.ticket c.in-Some.requested i.goes c.in-Some.ensures.steps (λ e. is_none (parked_path e.1.phase)) (ap is_none found.1));
    }

pub returns-in_err-push-in-Ok-clause-numbers : goal.returns-in_err-push-in-Ok-clause-numbers
returns-in_err-push-in-Ok-clause-numbers g c = same_numbers c.args.self.now c.loop-ticket.self _ c.loop-ticket.invariant.kept

pub returns-in_err-put-in-Err-clause-numbers : goal.returns-in_err-put-in-Err-clause-numbers
returns-in_err-put-in-Err-clause-numbers g c = same_numbers c.args.self.now c.loop-ticket.self _ c.loop-ticket.invariant.kept

pub returns-clause-out : goal.returns-clause-out
returns-clause-out g c =
    let i = c.loop-ticket.invariant in
    i.out ∙ ap (λ l. parked_in l) (Goes-last c.args.self.now.requests c.loop-ticket.yielded _ i.goes c.in-None.ensures.steps.0)

pub returns-clause-rest : goal.returns-clause-rest
returns-clause-rest g c =
    let i = c.loop-ticket.invariant in
    i.kept ∙ ap (λ l. record c.args.self.now { requests = not_parked l }) (Goes-last c.args.self.now.requests c.loop-ticket.yielded _ i.goes c.in-None.ensures.steps.0)

pub returns-clause-numbers : goal.returns-clause-numbers
returns-clause-numbers g c = same_numbers c.args.self.now c.loop-ticket.self _ c.loop-ticket.invariant.kept
