use Rattle.std.proofs.Common.{◌≡◌, List, [], ◌++◌, sym, ap, subst, ◌∙◌, append-nil}
use Rattle.std.specs.Map.{keys_of}
use Rattle.std.specs.Map.Iter.{deref}
use Rattle.std.proofs.lemmas.Map.Iter.{rest_all}
use Rattle.stateful_db_any.specs.Any.{value_at}
use Rattle.stateful_db_any.specs.Entries.{AreLive}
use Rattle.stateful_db_any.specs.Stored.{standing_of}
use Rattle.stateful_db_any.proofs.Values.{value_none}
use Rattle.stateful_db_any.proofs.Entries.{entries_at, sorted-entries_at, lookup-live}
use Rattle.stateful_db_any.proofs.database.AnyDb.entries.Goals as goal

pub returns : goal.returns
returns g c =
    let cmp = g.K.Ord.cmp in
    let s = (standing_of c.args.self.now).disk.newest in
    let value = value_at cmp s in
    let index = c.args.self.now.index.entries in
    let exact = g.met.K.Field.exact in
    let over : c.loop-key.key-iterator ≡ [] = rest_all deref _ _ _ c.in-None.is c.next.ensures.steps in
    let all : c.loop-key.entries ≡ entries_at value (keys_of index) = sym (append-nil c.loop-key.entries) ∙ ap (λ keys. c.loop-key.entries ++ entries_at value keys) (sym over) ∙ c.loop-key.invariant in
    let live : AreLive cmp s (entries_at value (keys_of index)) = record {
      ascending = sorted-entries_at value cmp exact (keys_of index) c.keys-key-items.ensures.ordered;
      values = lookup-live value cmp exact index (λ key none. sym (value_none cmp s key (sym none ∙ c.args.self.now.indexed key)));
    } in
    subst (λ (es : List (g.row.K.Denot × g.row.V.Denot)). AreLive cmp s es) (sym all) live
