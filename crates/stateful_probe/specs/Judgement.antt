-- What the functions that read and judge a message answer.
use Rattle.std.specs.Prelude.{◌≡◌, ◌⊎◌, ℕ, ◌<◌, true, false, Option, Some, None, Result, Ok, Err}
use Rattle.std.specs.Prelude.{List, length}
use Rattle.stateful_base.specs.declared.codec.CodecError.{CodecError}
use Rattle.stateful_base.specs.declared.codec.CodecError.TheVariants.{OutOfMemory}
use Rattle.stateful_base.specs.declared.number.Epoch.{Epoch}
use Rattle.stateful_base.specs.declared.finalization.Finalization.{Finalization}
use Rattle.stateful_probe.specs.Setup.{Setup, committee, membership, is_one_of, Counts}
use Rattle.stateful_probe.specs.Reply.{IsRequest, IsForeign, IsWhole, IsMalformed, IsGood}
use Rattle.stateful_probe.specs.Reply.{IsAtFault, IsIgnored}
use Rattle.stateful_probe.specs.declared.reply.Decoded.{Decoded}
use Rattle.stateful_probe.specs.declared.reply.Decoded.TheVariants as decoded
use Rattle.stateful_probe.specs.declared.reply.Judgement.{Judgement}
use Rattle.stateful_probe.specs.declared.reply.Judgement.TheVariants as judgement

module _ {S K C : Type 0} (u : Setup S K C) where
  -- which scheme an epoch has that counts
  abbrev pub IsCountedScheme : Epoch → Option S → Type 0
  IsCountedScheme epoch None = (scheme : S) → Counts u epoch scheme → ⊥
  IsCountedScheme epoch (Some scheme) = Counts u epoch scheme

  -- Of this peer no certificate of so many bytes makes a good reply in this epoch: the epoch
  -- doesn't count; or it is known who takes part, and the peer doesn't, or no certificate that
  -- holds has as many bytes.
  pub data IsHopeless (max_size : ℕ → ℕ) (peer : K) (epoch : Epoch) (size : ℕ) : Type 0 where
    foreign : ((scheme : S) → Counts u epoch scheme → ⊥) → IsHopeless max_size peer epoch size
    outsider : membership u peer ≡ Some false → IsHopeless max_size peer epoch size
    oversized : (scheme : S) (keys : List K)
        → Counts u epoch scheme
        → committee u ≡ Some keys
        → max_size (length (u.keys scheme)) < size
        → IsHopeless max_size peer epoch size

  -- a finalization of an epoch that counts, in bytes of a peer that takes part, where it is known
  -- who does
  pub record IsCounting (peer : K) (bytes : List ℕ) (f : Finalization C) : Type 0 where
    pub whole : IsWhole u bytes f
    pub scheme : S
    pub counts : Counts u f.round.epoch scheme
    pub heard : (keys : List K) → committee u ≡ Some keys → is_one_of u.eq keys peer ≡ true

  -- what the bytes of this peer hold
  abbrev pub IsDecodedAs : K → List ℕ → Decoded C → Type 0
  IsDecodedAs peer bytes decoded.Ignored = IsRequest bytes ⊎ IsForeign u bytes
  IsDecodedAs peer bytes decoded.AtFault = IsAtFault u peer bytes
  IsDecodedAs peer bytes (decoded.Whole f) = IsCounting peer bytes f

  -- what a reader of them answered
  abbrev pub IsReadAs : K → List ℕ → Result (Decoded C) CodecError → Type 0
  IsReadAs peer bytes (Ok found) = IsDecodedAs peer bytes found
  IsReadAs peer bytes (Err OutOfMemory) = Unit {0}
  IsReadAs peer bytes (Err error) = IsMalformed u bytes

  -- what they are worth, where this peer sent them
  abbrev pub IsJudgedAs : K → List ℕ → Judgement C → Type 0
  IsJudgedAs peer bytes judgement.Ignored = IsIgnored u bytes
  IsJudgedAs peer bytes judgement.AtFault = IsAtFault u peer bytes
  IsJudgedAs peer bytes (judgement.Good f) = IsGood u peer bytes f
