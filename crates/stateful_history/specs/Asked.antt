-- What tickets, fetches and jobs are about.
use Rattle.std.specs.Prelude.{ℕ, ◌==◌, if◌then◌else◌, Option, Some, None, [], ◌∷◌}
use Rattle.stateful_base.specs.Names.{Named}
use Rattle.stateful_base.specs.declared.digest.Digest.{Digest}
use Rattle.stateful_history.specs.Past.{Past, Item, Came, Made}
use Rattle.stateful_history.specs.declared.event.Event.TheVariants.{Verify, Finalized}
use Rattle.stateful_history.specs.declared.mark.How.TheVariants.{Kept}
use Rattle.stateful_history.specs.declared.mark.Mark.TheVariants.{Asked, Started, Ended, Built}

module _ {B C I : Type 0} where
  -- the block that the request of this ticket asks to judge
  abbrev pub verified : ℕ → Past B C I → Option (Named B)
  verified t [] = None
  verified t (Came (Verify u ancestry) ∷ p) = if t == u then Some ancestry.first else verified t p
  verified t (item ∷ p) = verified t p

  -- the block of the finalization of this ticket
  abbrev pub finalized : ℕ → Past B C I → Option (Named B)
  finalized t [] = None
  finalized t (Came (Finalized u b) ∷ p) = if t == u then Some b else finalized t p
  finalized t (item ∷ p) = finalized t p

  -- for which ticket a block was asked, if for one: the floor of a sync is asked for none
  abbrev pub asked_for : ℕ → Past B C I → Option (Option ℕ)
  asked_for f [] = None
  asked_for f (Made (Asked g ticket digest) ∷ p) = if f == g then Some ticket else asked_for f p
  asked_for f (item ∷ p) = asked_for f p

  -- the digest of the block that was asked
  abbrev pub asked_digest : ℕ → Past B C I → Option Digest
  asked_digest f [] = None
  asked_digest f (Made (Asked g ticket digest) ∷ p) =
      if f == g then Some digest else asked_digest f p
  asked_digest f (item ∷ p) = asked_digest f p

  -- the digest that the start of this job names
  abbrev pub started : ℕ → Past B C I → Option Digest
  started j [] = None
  started j (Made (Started k kind digest) ∷ p) = if j == k then Some digest else started j p
  started j (item ∷ p) = started j p

  -- the digest of the block that this item keeps: a run of it ended so, or it was built
  abbrev pub kept_by : Past B C I → Item B C I → Option Digest
  kept_by p (Made (Ended j Kept)) = started j p
  kept_by p (Made (Built j t b)) = Some b.digest
  kept_by p item = None
