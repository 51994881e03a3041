use Rattle.std.proofs.Common.{◌++◌, ◌∷◌, [], length, is_some, ap, sym, ◌∙◌, arith, append_assoc, length-append}
use Rattle.std.specs.Bool.{if◌then◌else◌}
use Rattle.std.specs.Map.{lookup}
use Rattle.std.specs.BTreeMap.{is_at}
use Rattle.stateful_db_any.specs.declared.op.AnyOp.TheVariants.{Update, Delete}
use Rattle.stateful_db_any.specs.Any.{ops_for}
use Rattle.stateful_db_any.specs.Through.{place_through}
use Rattle.stateful_db_any.proofs.Sealing.{append_nil}
use Rattle.stateful_db_any.proofs.seal.write_keys.Goals as goal

pub loop-key-preserved-in-Some-value : goal.loop-key-preserved-in-Some-value
loop-key-preserved-in-Some-value g c =
    let cmp = g.K.Ord.cmp in
    let live = λ (k : g.row.K.Denot). is_some (place_through cmp c.args.layers.now k (lookup (is_at (cmp k)) c.args.db.now.index.entries)) in
    let all = c.loop-key.all.ops in
    let rest = c.next.new.self in
    let key = c.in-Some.key.now in
    let value = c.in-Some-value.value in
    let steps = c.in-Some.ensures.steps in
    let more = c.in_ok-all-in-Some-value.ensures.ops
    ∙ ap (λ k. all ++ Update k c.in_ok-duplicate-in-Some-value-2.field-0 ∷ []) c.in_ok-duplicate-in-Some-value.ensures
    ∙ ap (λ v. all ++ Update key v ∷ []) c.in_ok-duplicate-in-Some-value-2.ensures in
    record {
      from = c.in_ok-all-in-Some-value.ensures.from ∙ c.loop-key.invariant.from;
      ops = ap (λ xs. xs ++ ops_for live rest) more
          ∙ append_assoc all (Update key value ∷ []) (ops_for live rest)
          ∙ sym (ap (λ es. all ++ ops_for live es) steps ∙ ap (λ v. all ++ ops_for live ((key, v) ∷ rest)) c.in-Some-value.is)
          ∙ c.loop-key.invariant.ops;
      room = omega (arith, c.loop-key.invariant.room, ap length more, length-append all (Update key value ∷ []), ap length steps);
    }

pub loop-key-preserved-then-is_some : goal.loop-key-preserved-then-is_some
loop-key-preserved-then-is_some g c =
    let cmp = g.K.Ord.cmp in
    let live = λ (k : g.row.K.Denot). is_some (place_through cmp c.args.layers.now k (lookup (is_at (cmp k)) c.args.db.now.index.entries)) in
    let all = c.loop-key.all.ops in
    let rest = c.next.new.self in
    let key = c.in-Some.key.now in
    let steps = c.in-Some.ensures.steps in
    let more = c.in_ok-all-in-None-value.ensures.ops ∙ ap (λ k. all ++ Delete k ∷ []) c.in_ok-duplicate-in-None-value.ensures in
    let is_live = sym (ap is_some c.place_in.ensures) ∙ sym c.is_some.ensures ∙ c.if-is_some.true in
    record {
      from = c.in_ok-all-in-None-value.ensures.from ∙ c.loop-key.invariant.from;
      ops = ap (λ xs. xs ++ ops_for live rest) more
          ∙ append_assoc all (Delete key ∷ []) (ops_for live rest)
          ∙ sym (ap (λ es. all ++ ops_for live es) steps ∙ ap (λ v. all ++ ops_for live ((key, v) ∷ rest)) c.in-None-value.is ∙ ap (λ b. all ++ (if b then Delete key ∷ ops_for live rest else ops_for live rest)) is_live)
          ∙ c.loop-key.invariant.ops;
      room = omega (arith, c.loop-key.invariant.room, ap length more, length-append all (Delete key ∷ []), ap length steps);
    }

pub returns-clause-ops : goal.returns-clause-ops
returns-clause-ops g c =
    let cmp = g.K.Ord.cmp in
    let live = λ (k : g.row.K.Denot). is_some (place_through cmp c.args.layers.now k (lookup (is_at (cmp k)) c.args.db.now.index.entries)) in
    let all = c.loop-key.all.ops in
    sym (append_nil all) ∙ sym (ap (λ es. all ++ ops_for live es) c.in-None.ensures.steps.0) ∙ c.loop-key.invariant.ops
