-- What holds over the states of a known block.
use Rattle.std.proofs.Common.{◌∷◌, List, ◌++◌, []}
use Rattle.stateful_base.specs.declared.digest.Digest.{Digest}
use Rattle.stateful_exec_cache.specs.declared.cache.Cached.{Cached}
use Rattle.stateful_exec_model.specs.Workings.{Workings, Point}
use Rattle.stateful_exec_model.specs.Starting.{IsOver, databases, batch}

module _ {B C I P R D H G U : Type 0} (w : Workings B C I P R D H G U) (anchor : Digest) (cache : List (Cached U)) (m : w.kind.Members) (old new : w.Ids) (Has More : Point w → List (Point w) → Type 0) (parent : Digest) where
  pub IsOver-weaker : ((q : Point w) (c : List (Point w)) → Has q c → More q c) → IsOver w anchor cache m old new Has parent → IsOver w anchor cache m old new More parent
  IsOver-weaker f (databases is has) = databases is (λ p here drawn. let h = has p here drawn in (f p [] h.0, h.1))
  IsOver-weaker f (batch e other among is has) = batch e other among is (λ p q above older here shown drawn. let h = has p q above older here shown drawn in (f q (above ++ p ∷ []) h.0, h.1))
