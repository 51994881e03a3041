-- What the bytes of a message are, by what the readers of its parts answered.
use Rattle.std.proofs.Common.{◌≡◌, ℕ, ◌≤◌, Bool, true, false, Option, Some, None, List, [], ◌∷◌, ◌++◌, drop, length, Result, Ok, Err, refl, sym, ap, subst, ◌∙◌, arith, append_assoc}
use Rattle.std.specs.Prelude.{IsErrAnd, IsTrue, option_map}
use Rattle.std.proofs.lemmas.Bool.{false≢true}
use Rattle.std.proofs.lemmas.Option.{same_Some}
use Rattle.std.proofs.lemmas.List.{append-nil}
use Rattle.stateful_base.specs.declared.codec.CodecError.{CodecError}
use Rattle.stateful_base.specs.declared.codec.CodecError.TheVariants.{InvalidEnum, EndOfBuffer, OutOfMemory}
use Rattle.stateful_base.specs.declared.number.View.{View}
use Rattle.stateful_base.specs.declared.digest.Digest.{Digest}
use Rattle.stateful_base.specs.declared.round.Round.{Round}
use Rattle.stateful_base.specs.declared.finalization.Finalization.{Finalization}
use Rattle.stateful_base.specs.Format.{Format, Stands, Reads, UnlessMemory, end_of}
use Rattle.stateful_base.specs.Number.{u64_format, view_format}
use Rattle.stateful_base.specs.Digest.{digest_format}
use Rattle.stateful_base.specs.Round.{round_format}
use Rattle.stateful_base.proofs.Formats.{Met, met, reads, both_ok, stands_alone}
use Rattle.stateful_base.proofs.Values.{round_alone, place_format, place_alone, proposal_format, proposal_alone}
use Rattle.stateful_probe.proofs.Known.{one_value}
use Rattle.stateful_probe.specs.Wire.{tag_format}
use Rattle.stateful_probe.specs.Setup.{Setup, committee, is_one_of, scheme_at, Counts}
use Rattle.stateful_probe.specs.Reply.{IsRequest, IsHeader, HasHeader, IsForeign, IsCounted, IsWhole, IsMalformed, IsAtFault, outsider, uncertified}
use Rattle.stateful_probe.specs.Judgement.{IsCountedScheme, IsHopeless, IsReadAs}
use Rattle.stateful_probe.specs.Judgement as judging
use Rattle.stateful_probe.specs.declared.reply.Decoded.{Decoded}
use Rattle.stateful_probe.specs.declared.wire.Tag.{Tag}
use Rattle.stateful_probe.specs.declared.wire.Tag.TheVariants as tags

-- ---- refusals

unless_weaker : (A B : Type 0) {P Q : Type 0} (error : CodecError) → (P → Q) → UnlessMemory {A = A} (Err error) P → UnlessMemory {A = B} (Err error) Q
unless_weaker A B EndOfBuffer h p = h p
unless_weaker A B (InvalidEnum byte) h p = h p
unless_weaker A B OutOfMemory h p = tt

whatever : (A : Type 0) {P : Type 0} (error : CodecError) → P → UnlessMemory {A = A} (Err error) P
whatever A EndOfBuffer p = p
whatever A (InvalidEnum byte) p = p
whatever A OutOfMemory p = tt

-- what is refused doesn't stand first, unless memory ran out
refused : {A : Type 0} (f : Format A) (error : CodecError) (before after : List ℕ) → Reads f (Err error) before after
    → UnlessMemory {A = A} (Err error) ((x : A) (rest : List ℕ) → f.fits x → before ≡ f.spelling x ++ rest → ⊥)
refused f EndOfBuffer before after r = λ x rest fits e. let never = r.only (Ok (x, rest)) (fits, e) in absurd cc
refused f (InvalidEnum byte) before after r = λ x rest fits e. let never = r.only (Ok (x, rest)) (fits, e) in absurd cc
refused f OutOfMemory before after r = tt

-- ---- the bytes behind the tag of a response

same_parts : {A B : Type 0} (a a' : A) (b b' : B) → ◌≡◌ {A = Result (A × B) CodecError} (Ok (a, b)) (Ok (a', b')) → (a ≡ a') × (b ≡ b')
same_parts {A} {B} a a' b b' e =
    let pair : ◌≡◌ {A = A × B} (a, b) (a', b') = cc in
    (ap (λ (p : A × B). p.0) pair, ap (λ (p : A × B). p.1) pair)

-- the header is what stands first behind the tag
header_stands : (mid : List ℕ) (round : Round) → (h : HasHeader (1 ∷ mid) round) → Stands proposal_format mid (Ok (((round, h.parent.0), h.payload), h.rest))
header_stands mid round h =
    let same : mid ≡ h.behind = ap (drop 1) h.tagged in
    let fits = h.header.fits in
    (((fits.0, fits.1), fits.2), same ∙ h.header.is ∙ simp append_assoc)

not_requested : (mid : List ℕ) → IsRequest (1 ∷ mid) → ⊥
not_requested mid r = let other = r.1 in absurd cc

-- the three parts of a header were read
pub header_read : (mid mid' mid'' rest : List ℕ) (round : Round) (n : ℕ) (payload : Digest) → Reads round_format (Ok round) mid mid' → Reads u64_format (Ok n) mid' mid'' → Reads digest_format (Ok payload) mid'' rest
    → IsHeader round (record { 0 = n }) payload mid rest
header_read mid mid' mid'' rest round n payload one two three =
    let place : Met place_format (Ok (round, n)) mid mid'' = both_ok round_format u64_format round_alone round n mid mid' mid'' (met one) (met two) in
    let m : Met proposal_format (Ok ((round, n), payload)) mid rest = both_ok place_format digest_format place_alone (round, n) payload mid mid'' rest place (met three) in
    record { fits = (m.first.0.0.0, m.first.0.0.1, m.first.0.1); is = m.first.1 ∙ simp append_assoc }

-- one of them wasn't
pub header_unread : (error : CodecError) (mid after : List ℕ) → (error ≡ OutOfMemory → ⊥) → Met proposal_format (Err error) mid after → (round : Round) → HasHeader (1 ∷ mid) round → ⊥
header_unread error mid after memory m round h =
    let stands = header_stands mid round h in
    go error memory (refused proposal_format error mid after (reads proposal_format proposal_alone (Err error) mid after m)) ((round, h.parent.0), h.payload) h.rest stands.0 stands.1
  where
    Never : Type 0
    Never = (x : (Round × ℕ) × Digest) (rest : List ℕ) → proposal_format.fits x → mid ≡ proposal_format.spelling x ++ rest → ⊥

    go : (error : CodecError) → (error ≡ OutOfMemory → ⊥) → UnlessMemory {A = (Round × ℕ) × Digest} (Err error) Never → Never
    go EndOfBuffer memory never = never
    go (InvalidEnum byte) memory never = never
    go OutOfMemory memory never = absurd (memory refl)

-- a header that stands there is the one that was read
pub one_header : (mid rest : List ℕ) (round : Round) (parent : View) (payload : Digest) → IsHeader round parent payload mid rest
    → (other : Round) (h : HasHeader (1 ∷ mid) other) → (round ≡ other) × (rest ≡ h.rest)
one_header mid rest round parent payload i other h =
    let first : Stands proposal_format mid (Ok (((round, parent.0), payload), rest)) = (((i.fits.0, i.fits.1), i.fits.2), i.is ∙ simp append_assoc) in
    let same = same_parts ((round, parent.0), payload) ((other, h.parent.0), h.payload) rest h.rest (stands_alone proposal_format proposal_alone mid (Ok (((round, parent.0), payload), rest)) (Ok (((other, h.parent.0), h.payload), h.rest)) first (header_stands mid other h)) in
    (ap (λ (p : (Round × ℕ) × Digest). p.0.0) same.0, same.1)

-- where bytes are left over, something is behind the value
none_behind : {C : Type 0} (x y : C) (after : List ℕ) (error : CodecError) → Err error ≡ end_of after → ◌≡◌ {A = Result (C × List ℕ) CodecError} (Ok (x, after)) (Ok (y, [])) → ⊥
none_behind x y [] error more e = absurd cc
none_behind x y (b ∷ after) error more e = let same = (same_parts x y (b ∷ after) [] e).1 in absurd cc

module _ {S K C : Type 0} (u : Setup S K C) where
  -- a whole response has a header
  abbrev pub whole_header : (bytes : List ℕ) (f : Finalization C) → IsWhole u bytes f → HasHeader bytes f.round
  whole_header bytes f w = record {
    behind = round_format.spelling f.round ++ (view_format.spelling f.parent ++ (digest_format.spelling f.payload ++ u.certificates.spelling f.certificate));
    tagged = w.1 ∙ simp append_assoc;
    parent = f.parent;
    payload = f.payload;
    rest = u.certificates.spelling f.certificate;
    header = record { fits = (w.0.0, w.0.1, w.0.2); is = refl };
  }

  refusal : (peer : K) (bytes : List ℕ) (error : CodecError) → UnlessMemory {A = C} (Err error) (IsMalformed u bytes) → IsReadAs u peer bytes (Err error)
  refusal peer bytes EndOfBuffer m = m
  refusal peer bytes (InvalidEnum byte) m = m
  refusal peer bytes OutOfMemory m = tt

  -- a refusal that is passed on
  pub passed_on : (peer : K) (bytes : List ℕ) (result : Result (Decoded C) CodecError) (error : CodecError) → IsErrAnd result (λ e. e ≡ error) → UnlessMemory {A = C} (Err error) (IsMalformed u bytes) → IsReadAs u peer bytes result
  passed_on peer bytes (Ok x) error is m = absurd is
  passed_on peer bytes (Err e) error is m = subst (λ (d : CodecError). IsReadAs u peer bytes (Err d)) (sym is) (refusal peer bytes error m)

  -- no tag stands there
  pub untagged : (error : CodecError) (bytes after : List ℕ) → Reads tag_format (Err error) bytes after → UnlessMemory {A = C} (Err error) (IsMalformed u bytes)
  untagged error bytes after r = unless_weaker Tag C error (λ none. record {
    no_request = λ request. none tags.Request request.0 tt request.1;
    no_foreign = λ foreign. none tags.Response _ tt foreign.header.tagged;
    no_whole = λ f whole. none tags.Response _ tt whole.1;
  }) (refused tag_format error bytes after r)

  -- behind the tag no header stands
  pub unopened : (error : CodecError) (mid : List ℕ) → ((round : Round) → HasHeader (1 ∷ mid) round → ⊥) → UnlessMemory {A = C} (Err error) (IsMalformed u (1 ∷ mid))
  unopened error mid never = whatever C error (record {
    no_request = not_requested mid;
    no_foreign = λ foreign. never foreign.round foreign.header;
    no_whole = λ f whole. never f.round (whole_header (1 ∷ mid) f whole);
  })

  -- ---- behind the header

  module _ (mid rest : List ℕ) (round : Round) (parent : View) (payload : Digest) (i : IsHeader round parent payload mid rest) where
    header : HasHeader (1 ∷ mid) round
    header = record { behind = mid; tagged = refl; parent = parent; payload = payload; rest = rest; header = i }

    one : (other : Round) (h : HasHeader (1 ∷ mid) other) → (round ≡ other) × (rest ≡ h.rest)
    one = one_header mid rest round parent payload i

    -- the epoch of the header doesn't count
    pub foreign : ((scheme : S) → Counts u round.epoch scheme → ⊥) → IsForeign u (1 ∷ mid)
    foreign none = record { round = round; header = header; foreign = none }

    module _ (scheme : S) (counts : Counts u round.epoch scheme) where
      counted : IsCounted u (1 ∷ mid) scheme
      counted = record { round = round; header = header; counts = counts }

      -- the epoch counts, and behind the header no certificate stands with nothing behind it
      malformed : ((certificate : C) → u.certificates.fits certificate → rest ≡ u.certificates.spelling certificate → ⊥) → IsMalformed u (1 ∷ mid)
      malformed none = record {
        no_request = not_requested mid;
        no_foreign = λ f. f.foreign scheme (subst (λ (r : Round). Counts u r.epoch scheme) (one f.round f.header).0 counts);
        no_whole = λ f w. none f.certificate w.0.3 (one f.round (whole_header (1 ∷ mid) f w)).1;
      }

      -- no certificate stands there
      pub uncertain : (error : CodecError) (after : List ℕ) → Reads u.certificates (Err error) rest after → UnlessMemory {A = C} (Err error) (IsMalformed u (1 ∷ mid))
      uncertain error after r = unless_weaker C C error (λ none.
          malformed (λ certificate fits e. none certificate [] fits (e ∙ sym (append-nil (u.certificates.spelling certificate))))) (refused u.certificates error rest after r)

      -- bytes are left over behind the certificate
      pub followed : (certificate : C) (error : CodecError) (after : List ℕ) → Reads u.certificates (Ok certificate) rest after → Err error ≡ end_of after
          → UnlessMemory {A = C} (Err error) (IsMalformed u (1 ∷ mid))
      followed certificate error after r more =
          whatever C error (malformed (λ other fits e. none_behind certificate other after error more (r.only (Ok (other, [])) (fits, e ∙ sym (append-nil (u.certificates.spelling other))))))

      -- no certificate that holds has as many bytes
      pub hopeless : (max_size : ℕ → ℕ) (peer : K)
          → ((f : Finalization C) → u.certifies scheme f → length (u.certificates.spelling f.certificate) ≤ max_size (length (u.keys scheme)))
          → IsHopeless u max_size peer round.epoch (length rest) → IsAtFault u peer (1 ∷ mid)
      hopeless max_size peer bounded (judging.IsHopeless.foreign none) = absurd (none scheme counts)
      hopeless max_size peer bounded (judging.IsHopeless.outsider out) = from_outside (committee u) refl out
        where
          from_outside : (known : Option (List K)) → committee u ≡ known → option_map (λ keys. is_one_of u.eq keys peer) known ≡ Some false → IsAtFault u peer (1 ∷ mid)
          from_outside None is e = absurd cc
          from_outside (Some keys) is e = outsider scheme keys counted is (same_Some _ _ e)
      hopeless max_size peer bounded (judging.IsHopeless.oversized other keys also known long) = uncertified scheme keys counted known (λ f whole certified.
          let stands = one f.round (whole_header (1 ∷ mid) f whole) in
          let same : scheme ≡ other = one_value (scheme_at u round.epoch) scheme other counts.known also.known in
          let few = bounded f certified in
          absurd (omega (arith, long, few, ap length stands.1, ap (λ (s : S). max_size (length (u.keys s))) same)))

      -- where the certificate was read, nothing was known against it
      module _ (max_size : ℕ → ℕ) (peer : K) (size : ℕ) (long : size ≡ length rest) (said : IsHopeless u max_size peer round.epoch size → IsTrue false) where
        pub hopeful : (other : Round) (h : HasHeader (1 ∷ mid) other) → IsHopeless u max_size peer other.epoch (length h.rest) → ⊥
        hopeful other h hopeless =
            let same = one other h in
            let size_is : size ≡ length h.rest = long ∙ ap length same.1 in
            false≢true (said (subst (λ (r : Round). IsHopeless u max_size peer r.epoch size) (sym same.0) (subst (IsHopeless u max_size peer other.epoch) (sym size_is) hopeless)))

        -- nor was the peer known not to take part
        pub heard : (keys : List K) → committee u ≡ Some keys → is_one_of u.eq keys peer ≡ true
        heard keys known = go (is_one_of u.eq keys peer) refl
          where
            go : (b : Bool) → is_one_of u.eq keys peer ≡ b → b ≡ true
            go true e = refl
            go false e = absurd (false≢true (said (judging.IsHopeless.outsider (ap (option_map (λ ks. is_one_of u.eq ks peer)) known ∙ ap Some e))))

      -- a certificate was read, and nothing is behind it
      pub whole : (certificate : C) (after : List ℕ) → Reads u.certificates (Ok certificate) rest after → Ok tt ≡ end_of after
          → IsWhole u (1 ∷ mid) (record { round = round; parent = parent; payload = payload; certificate = certificate })
      whole certificate after r none =
          let e : after ≡ [] = nothing after none in
          let at : rest ≡ u.certificates.spelling certificate = r.first.1 ∙ ap (λ w. u.certificates.spelling certificate ++ w) e ∙ append-nil (u.certificates.spelling certificate) in
          let fits = i.fits in
          ((fits.0, fits.1, fits.2, r.first.0), ap (λ (w : List ℕ). 1 ∷ w) (i.is ∙ ap (λ w. round_format.spelling round ++ (view_format.spelling parent ++ (digest_format.spelling payload ++ w))) at ∙ simp append_assoc))
        where
          nothing : (after : List ℕ) → Ok tt ≡ end_of after → after ≡ []
          nothing [] e = refl
          nothing (b ∷ after) e = absurd cc
