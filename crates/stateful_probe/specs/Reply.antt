-- What the bytes that a peer sent are.
use Rattle.std.specs.Prelude.{◌≡◌, ℕ, false, Some, None, List, ◌∷◌, ◌++◌}
use Rattle.stateful_base.specs.Number.{view_format}
use Rattle.stateful_base.specs.Digest.{digest_format}
use Rattle.stateful_base.specs.Round.{round_format}
use Rattle.stateful_base.specs.declared.number.View.{View}
use Rattle.stateful_base.specs.declared.digest.Digest.{Digest}
use Rattle.stateful_base.specs.declared.round.Round.{Round}
use Rattle.stateful_base.specs.declared.finalization.Finalization.{Finalization}
use Rattle.stateful_probe.specs.Wire.{message_format}
use Rattle.stateful_probe.specs.Setup.{Setup, committee, is_one_of, Counts, TakesPart}
use Rattle.stateful_probe.specs.declared.wire.Message.TheVariants.{Response}

-- a request, whatever follows its tag
abbrev pub IsRequest : List ℕ → Type 0
IsRequest bytes = (rest : List ℕ) × (bytes ≡ 0 ∷ rest)

-- they begin with the tag of a response
abbrev pub IsTagged : List ℕ → Type 0
IsTagged bytes = (rest : List ℕ) × (bytes ≡ 1 ∷ rest)

-- what stands before the certificate of a response: the round, the view of the parent and the
-- payload
pub record IsHeader (round : Round) (parent : View) (payload : Digest)
    (bytes rest : List ℕ) : Type 0 where
  pub fits : round_format.fits round × view_format.fits parent × digest_format.fits payload
  pub is : bytes ≡ round_format.spelling round
      ++ (view_format.spelling parent ++ (digest_format.spelling payload ++ rest))

-- they begin as a response of this round: behind the tag stands a header
pub record HasHeader (bytes : List ℕ) (round : Round) : Type 0 where
  pub behind : List ℕ
  pub tagged : bytes ≡ 1 ∷ behind
  pub parent : View
  pub payload : Digest
  pub rest : List ℕ
  pub header : IsHeader round parent payload behind rest

module _ {S K C : Type 0} (u : Setup S K C) where
  -- they begin as a response of an epoch that doesn't count
  pub record IsForeign (bytes : List ℕ) : Type 0 where
    pub round : Round
    pub header : HasHeader bytes round
    pub foreign : (scheme : S) → Counts u round.epoch scheme → ⊥

  -- they begin as a response of an epoch that counts, which has this scheme
  pub record IsCounted (bytes : List ℕ) (scheme : S) : Type 0 where
    pub round : Round
    pub header : HasHeader bytes round
    pub counts : Counts u round.epoch scheme

  -- they are a response with this finalization, and nothing follows
  abbrev pub IsWhole : List ℕ → Finalization C → Type 0
  IsWhole bytes f = (message_format u.certificates).fits (Response f)
      × (bytes ≡ (message_format u.certificates).spelling (Response f))

  -- they don't decode: they are no request, no response of an epoch that doesn't count, and no
  -- whole response
  pub record IsMalformed (bytes : List ℕ) : Type 0 where
    pub no_request : IsRequest bytes → ⊥
    pub no_foreign : IsForeign bytes → ⊥
    pub no_whole : (f : Finalization C) → IsWhole bytes f → ⊥

  -- a good reply: a participant of the lowest epoch sent a finalization of an epoch that counts,
  -- and its certificate holds
  pub record IsGood (peer : K) (bytes : List ℕ) (f : Finalization C) : Type 0 where
    pub whole : IsWhole bytes f
    pub scheme : S
    pub counts : Counts u f.round.epoch scheme
    pub certified : u.certifies scheme f
    pub keys : List K
    pub takes_part : TakesPart u peer keys

  -- A message for which its peer is blocked: it doesn't decode; or it begins as a response of an
  -- epoch that counts, it is known who takes part, and the peer doesn't, or the bytes hold no
  -- finalization that is certified.
  pub data IsAtFault (peer : K) (bytes : List ℕ) : Type 0 where
    malformed : IsMalformed bytes → IsAtFault peer bytes
    outsider : (scheme : S) (keys : List K)
        → IsCounted bytes scheme
        → committee u ≡ Some keys
        → is_one_of u.eq keys peer ≡ false
        → IsAtFault peer bytes
    uncertified : (scheme : S) (keys : List K)
        → IsCounted bytes scheme
        → committee u ≡ Some keys
        → ((f : Finalization C) → IsWhole bytes f → u.certifies scheme f → ⊥)
        → IsAtFault peer bytes

  -- A message of which nothing is made: a request; a response of an epoch that doesn't count; a
  -- whole response where the scheme of the lowest epoch isn't known.
  pub data IsIgnored (bytes : List ℕ) : Type 0 where
    request : IsRequest bytes → IsIgnored bytes
    foreign : IsForeign bytes → IsIgnored bytes
    unjudged : (f : Finalization C) → IsWhole bytes f → committee u ≡ None → IsIgnored bytes
