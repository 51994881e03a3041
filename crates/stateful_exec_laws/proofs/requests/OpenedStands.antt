-- The tables stand after an opening, where nothing goes on.
use Rattle.std.proofs.Common.{◌≡◌, ◌↔◌, inl, inr, ℕ, true, [], ◌∷◌, Option, Some, None, refl, sym, ◌∙◌, subst, arith}
use Rattle.std.proofs.Common.{nat_cmp}
use Rattle.std.specs.List.Sorted.{IsStrictlySortedBy}
use Rattle.std.proofs.lemmas.List.Elements.{All-nil}
use Rattle.stateful_base.specs.Names.{Named}
use Rattle.stateful_base.specs.declared.anchor.Anchor.{Anchor}
use Rattle.stateful_base.specs.declared.digest.Digest.{Digest}
use Rattle.stateful_history.specs.Setting.{Setting}
use Rattle.stateful_history.specs.Past.{Past, Item}
use Rattle.stateful_history.specs.Opening.{StartsNone}
use Rattle.stateful_history.specs.Anchors.{tip_of}
use Rattle.stateful_history.specs.Asked.{asked_for, kept_by}
use Rattle.stateful_history.specs.Jobs.{IsLiveJob}
use Rattle.stateful_history.specs.Known.{Known, is_tip, kept, stays}
use Rattle.stateful_history.specs.Live.{live_fetch}
use Rattle.stateful_history.specs.declared.mark.JobKind.{JobKind}
use Rattle.stateful_exec_cache.specs.Cache.{IsAtHand}
use Rattle.stateful_exec_model.specs.Workings.{Workings, Point}
use Rattle.stateful_exec_pause.specs.declared.pause.Pause.TheVariants.{Free}
use Rattle.stateful_exec_tables.specs.declared.state.Tables.{Tables}
use Rattle.stateful_exec_laws.specs.Setting.{setting}
use Rattle.stateful_exec_laws.specs.Building.{BuildStands}
use Rattle.stateful_exec_laws.specs.Caching.{IsCached}
use Rattle.stateful_exec_laws.specs.Fronting.{FrontStands}
use Rattle.stateful_exec_laws.specs.Requesting.{AllAbstain}
use Rattle.stateful_exec_laws.specs.Running.{IsRunning}
use Rattle.stateful_exec_laws.specs.Standing.{NumbersStand, TablesStand}

no_keys : IsStrictlySortedBy nat_cmp []
unfolding IsStrictlySortedBy
no_keys = tt

-- nothing is cached above this anchor, and nothing goes on
pub record IsOpenedAt {B C I R U : Type 0} (anchor : Anchor) (v : Tables B C I R U) : Type 0 where
  pub anchor_is : v.anchor ≡ anchor
  pub cache : v.cache ≡ []
  pub runs : v.runs ≡ []
  pub requests : v.requests ≡ []
  pub queued : v.queued ≡ []
  pub recovered : v.recovered ≡ []
  pub pause : v.pause ≡ Free

-- no job is live, and no fetch for a request
pub record IsIdle {B C I : Type 0} (p : Past B C I) : Type 0 where
  pub jobs : (j : ℕ) (kind : JobKind) (d : Digest) → IsLiveJob j kind d p → ⊥
  pub fetches : (f t : ℕ) → live_fetch f p ≡ true → asked_for f p ≡ Some (Some t) → ⊥

-- the item is an opening at this anchor
pub record IsOpening {B C I S T : Type 0} (s : Setting B S T) (p : Past B C I) (x : Item B C I) (anchor : Anchor) : Type 0 where
  pub tip : tip_of s.header (x ∷ p) ≡ Some anchor
  pub starts : StartsNone x → ⊥
  pub kept : kept_by p x ≡ None

module _ {B C I S T : Type 0} (s : Setting B S T) (p : Past B C I) (x : Item B C I) (anchor : Anchor) (opening : IsOpening s p x anchor) where
  -- after an opening its block alone is known
  only_tip : {d : Digest} → Known s (x ∷ p) d → d ≡ anchor.digest
  only_tip (is_tip {tip = tip} e) = let same : Some tip ≡ Some anchor = sym e ∙ opening.tip in let digests : tip.digest ≡ anchor.digest = cc in digests
  only_tip (kept {b = b} m k l parent) = let no : None ≡ Some b.digest = sym opening.kept ∙ k in absurd (cc)
  only_tip (stays o m k old l parent) = absurd (opening.starts o)

module _ {B C I P R D H G U : Type 0} (w : Workings B C I P R D H G U) (stored : ℕ → Option (Named B)) (p : Past B C I) (x : Item B C I) (anchor : Anchor) (opening : IsOpening (setting w stored) p x anchor) (idle : IsIdle (x ∷ p)) (point : Point w) (next : w.Ids) (v : Tables B C I R U) (opened : IsOpenedAt anchor v) where
  abbrev at_point : Digest → Point w
  at_point d = point

  knows : (d : Digest) → Known (setting w stored) (x ∷ p) d ↔ IsAtHand {U = U} anchor [] d
  knows d = (
    (λ k. inl (only_tip (setting w stored) p x anchor opening k)),
    (λ a. elim a [
      | inl is ↦ subst (λ (y : Digest). Known (setting w stored) (x ∷ p) y) (sym is) (is_tip opening.tip)
      | inr any ↦ let no : ⊥ = omega (arith, any.2) in absurd no
    ]),
  )

  -- the tables stand after an opening, over the point of the databases alone
  pub TablesStand-opened : NumbersStand (x ∷ p) v.next_job v.next_fetch → TablesStand w stored (x ∷ p) (λ d. point) point next v
  TablesStand-opened numbers = record {
    at_anchor = refl;
    cache = rw (opened.anchor_is, opened.cache, opened.pause) (record { each = All-nil (IsCached w stored (x ∷ p) at_point next anchor); in_order = tt; knows = knows });
    runs = rw (opened.anchor_is, opened.cache, opened.runs) (record {
      ascending = no_keys;
      each = All-nil (λ (e : ℕ × _). IsRunning w stored (x ∷ p) at_point next anchor [] e.0 e.1);
      apart = λ i k d less within. let no : ⊥ = omega (arith, within) in absurd no;
      complete = λ j d live. absurd (idle.jobs j _ d live);
    });
    requests = rw (opened.runs, opened.requests) (record {
      ascending = no_keys;
      each = λ k d l. let no : ⊥ = omega (arith, l) in absurd no;
      fetches = λ f t live asked. absurd (idle.fetches f t live asked);
      wanted = λ j some. absurd (cc);
    });
    once = rw (opened.requests, opened.queued) (λ t some. refl);
    queue = rw (opened.queued, opened.recovered) (record { each = λ k d l. let no : ⊥ = omega (arith, l) in absurd no; ready = λ k d l. let no : ⊥ = omega (arith, l) in absurd no });
    numbers = numbers;
  }

  -- no build is live, no finalization goes on, and no request waits
  pub BuildStands-opened : BuildStands w stored (x ∷ p) (λ d. point) next v None
  BuildStands-opened = record { each = tt; elsewhere = tt; complete = λ j d live. idle.jobs j _ d live }

  pub FrontStands-opened : FrontStands w stored (x ∷ p) point next v.anchor None
  FrontStands-opened = record { at_stage = tt; runs = λ j d live. idle.jobs j _ d live; hooks = λ j d live. idle.jobs j _ d live }

  pub AllAbstain-opened : AllAbstain w stored (x ∷ p) v.requests
  AllAbstain-opened = rw opened.requests (λ k d l is. let no : ⊥ = omega (arith, l) in absurd no)
