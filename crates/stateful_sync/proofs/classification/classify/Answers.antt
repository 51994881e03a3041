use Rattle.stateful_sync.proofs.Consistent.{consistent_if, inconsistent_if}
use Rattle.stateful_sync.proofs.Exactly.{exactly, classified_by, kept_by, refused_by}
use Rattle.stateful_sync.proofs.classification.classify.Goals as goal

pub hand_over-requires : goal.hand_over-requires
hand_over-requires g c = c.in_ok-by_heights.ensures.sorted.ascending

pub returns-clause-classified : goal.returns-clause-classified
returns-clause-classified g c =
    classified_by g.B.Block.header c.args.anchor (λ v. v.items) c.args.retained.items c.in_ok-by_heights.field-0.items c.in_ok-by_heights.ensures.sorted c.hand_over.result c.hand_over.ensures.are c.hand_over.ensures.leads

pub returns-clause-kept : goal.returns-clause-kept
returns-clause-kept g c =
    kept_by g.B.Block.header c.args.anchor (λ v. v.items) c.args.retained.items c.in_ok-by_heights.field-0.items c.in_ok-by_heights.ensures.sorted c.hand_over.result c.hand_over.ensures.are

pub returns-clause-consistent : goal.returns-clause-consistent
returns-clause-consistent g c =
    consistent_if g.B.Block.header c.args.anchor c.args.retained.items c.in_ok-by_heights.field-0.items c.in_ok-by_heights.ensures.sorted c.hand_over.result c.hand_over.ensures.leads

pub returns-clause-inconsistent : goal.returns-clause-inconsistent
returns-clause-inconsistent g c =
    inconsistent_if g.B.Block.header c.args.anchor c.args.retained.items c.in_ok-by_heights.field-0.items c.in_ok-by_heights.ensures.sorted c.hand_over.result c.hand_over.ensures.refused

pub returns-clause-refused : goal.returns-clause-refused
returns-clause-refused g c =
    refused_by g.B.Block.header c.args.anchor (λ v. v.items) c.args.retained.items c.in_ok-by_heights.field-0.items c.in_ok-by_heights.ensures.sorted c.hand_over.result c.hand_over.ensures.refused

pub returns-clause-exactly : goal.returns-clause-exactly
returns-clause-exactly g c =
    exactly g.B.Block.header c.args.anchor c.args.retained.items c.in_ok-by_heights.field-0.items c.hand_over.result c.in_ok-by_heights.ensures.sorted c.hand_over.ensures.leads c.hand_over.ensures.refused
