-- The start of a candidate run.
use Rattle.std.specs.Prelude.{◌≡◌, ◌≢◌, ◌+◌, ◌++◌, ◌∷◌, [], Some, None, List}
use Rattle.std.specs.Prelude.{Contains}
use Rattle.stateful_base.specs.Names.{Named}
use Rattle.stateful_base.specs.declared.digest.Digest.{Digest}
use Rattle.stateful_base.specs.declared.outcome.Finality.{Finality}
use Rattle.stateful_base.specs.declared.outcome.Finality.TheVariants.{Candidate}
use Rattle.stateful_db.specs.Works.{run_of}
use Rattle.stateful_exec_cache.specs.declared.cache.Cached.{Cached}
use Rattle.stateful_table.specs.Table.{put}
use Rattle.stateful_exec_model.specs.Workings.{Workings, Point}
use Rattle.stateful_exec_tables.specs.declared.state.Tables.{Tables}
use Rattle.stateful_exec_tables.specs.Tables.{IsLeft}

module _ {B C I P R D H G U : Type 0} (w : Workings B C I P R D H G U) where
  -- Something holds over the states of the block of a digest: over those of the databases, where it
  -- is the anchor's, and else over those of a cached batch, whose chain is cut where the databases
  -- are. Batch ids were drawn for it.
  pub data IsOver (anchor : Digest) (cache : List (Cached U)) (m : w.kind.Members) (old new : w.Ids)
      (Has : Point w → List (Point w) → Type 0) (parent : Digest) : Type 0 where
    databases : parent ≡ anchor
        → ((p : Point w)
        → w.kind.point m ≡ Some p
        → w.kind.issued old (p ∷ [])
        → Has p [] × w.kind.issued new ((old, w.kind.begun p.1) ∷ p ∷ []))
        → IsOver anchor cache m old new Has parent
    batch : (e : Cached U)
        → parent ≢ anchor
        → Contains cache e
        → e.digest ≡ parent
        → ((p q : Point w) (above older : List (Point w))
        → w.kind.point m ≡ Some p
        → w.shows e.batch (q ∷ above ++ p ∷ older)
        → w.kind.issued old (q ∷ above ++ p ∷ older)
        → Has q (above ++ p ∷ [])
        × w.kind.issued new ((old, w.kind.begun q.1) ∷ q ∷ above ++ p ∷ []))
        → IsOver anchor cache m old new Has parent

  -- the run is of the block, behind its parent, in the block's context, which is of its round, and
  -- hasn't had a turn
  pub record IsFresh (run : R) (finality : Finality) (b parent : Named B) (own : w.Ids)
      (at : Point w) (below : List (Point w)) : Type 0 where
    pub round : w.round_of (w.context_of b.block) ≡ w.header.round b.block
    pub runs : w.works.runs run
        (run_of finality (w.context_of b.block)
        (record { first = b; rest = parent ∷ [] }) own at below)
        0

  -- A run of the block is live, over the states of its parent, under the next number of a job. That
  -- number and the batches' ids weren't the last ones, and every database was here.
  pub record StartsRun (b parent : Named B) (m : w.kind.Members) (next now : w.Ids)
      (old new : Tables B C I R U) : Type 0 where
    pub run : R
    pub job_left : IsLeft old.next_job
    pub ids_left : w.kind.Spent next → ⊥
    pub here : w.kind.point m ≡ None → ⊥
    pub state : new ≡ record old {
      runs = put old.runs old.next_job (record { block = b; run = run });
      next_job = old.next_job + 1;
    }
    pub over : IsOver old.anchor.digest old.cache m next now
        (λ q c. IsFresh run Candidate b parent next q c) parent.digest
    pub keeps : (c : List (Point w)) → w.kind.issued next c → w.kind.issued now c
