-- A path that is ready to be run goes down to a block at hand.
use Rattle.std.proofs.Common.{ℕ, List, Option}
use Rattle.stateful_base.specs.Names.{Header, Named}
use Rattle.stateful_base.specs.declared.anchor.Anchor.{Anchor}
use Rattle.stateful_exec_cache.specs.Cache.{IsAtHand}
use Rattle.stateful_exec_cache.specs.declared.cache.Cached.{Cached}
use Rattle.stateful_exec_walk.specs.Path.{Path}
use Rattle.stateful_exec_walk.specs.Walk.{IsNeeded, child, IsVerified, IsPrepared}
use Rattle.stateful_exec_walk.specs.Walk as walk
use Rattle.stateful_exec_walk.specs.declared.request.Request.{Request}
use Rattle.stateful_exec_walk.specs.declared.request.Request.TheVariants.{Verify, Recover}
use Rattle.stateful_exec_walk.specs.declared.walk.Acquired.TheVariants as acquired

module _ {B U : Type 0} (header : Header B) (anchor : Anchor) (cache : List (Cached U)) where
  needed-at_hand : {b : Named B} {chain : List (Named B)} {path : Path B} → IsNeeded header anchor cache b chain (acquired.Ready path) → IsAtHand anchor cache path.parent.digest
  needed-at_hand (child e is walks) = walks.4

  verified-at_hand : {held : ℕ → Option (Named B)} {b : Named B} {chain : List (Named B)} {path : Path B} → IsVerified header anchor cache held b chain (acquired.Ready path) → IsAtHand anchor cache path.parent.digest
  verified-at_hand (walk.runs judged needed) = needed-at_hand needed

  pub ready-at_hand : {C I : Type 0} (held : ℕ → Option (Named B)) (r : Request B C I) (found : List (Named B)) (path : Path B) → IsPrepared header anchor cache held r found (acquired.Ready path) → IsAtHand anchor cache path.parent.digest
  ready-at_hand held (Verify u ancestry) found path needs = verified-at_hand needs
  ready-at_hand held (Recover u context ancestry input kind) found path needs = needs.4
