-- What holds of a database of a set, wherever it is, over each change.
use Rattle.std.proofs.Common.{◌≡◌, ℕ, zero, suc, ◌+◌, ◌-◌, ◌<◌, ◌≤◌, ◌==◌, ◌⊎◌, inl, inr, List, []}
use Rattle.std.proofs.Common.{◌∷◌, ◌++◌, length, take, drop, min, max, Option, Some, None, true}
use Rattle.std.proofs.Common.{refl, sym, ap, subst, ◌∙◌, arith, length-drop, length-append}
use Rattle.std.specs.Prelude.{slice_get, unwrap_or}
use Rattle.std.proofs.lemmas.List.{drop-append-le, drop-drop}
use Rattle.std.proofs.lemmas.Option.{slice_get_within}
use Rattle.std.proofs.lemmas.Bool.Decides.{nat_tests}
use Rattle.stateful_base.specs.Causes.{Rose}
use Rattle.stateful_base.specs.declared.target.Target.{Target}
use Rattle.stateful_db.specs.Chain.{AllBelow, ids}
use Rattle.stateful_db.specs.Tokens.{without}
use Rattle.stateful_db.specs.Disk.{Disk, Standing, all, place, HasAt, applied, flushed, cut}
use Rattle.stateful_db.specs.Disk.{IsCrash, IsOpened, IsEither, IsSound}
use Rattle.stateful_db.specs.Reopening.{with_end, Is_at, Reopens, OpensAt, HasNone, Differs}
use Rattle.stateful_db.specs.Reopening.{Refuses, KeepsDurable, pruned_to}
use Rattle.stateful_db.specs.Member.{Member, here, closed, lost, away, member_point, MemberHasAt}
use Rattle.stateful_db.specs.Member.{MemberKeeps, member_first, member_place, member_durable}
use Rattle.stateful_db.specs.Member.{member_tokens, MemberIsSound, IsIdle, HasRoom, IsOpenable}
use Rattle.stateful_db.specs.Member.{IsClosed}
use Rattle.stateful_db.specs.Member.{IsNotAway, IsLost, MemberHas, member_applied, member_finalized}
use Rattle.stateful_db.specs.Member.{member_flushed, IsPrunable, member_pruned, IsLostApplying}
use Rattle.stateful_db.specs.Member.{IsLostFinalizing, IsLostFlushing, IsLostPruning}
use Rattle.stateful_db.specs.Member.{MemberReopened, MemberReclosed, MemberRefuses, IsNotOpened}
use Rattle.stateful_db.specs.Member.{MemberNotOpened, IsCrashed, MemberCrashed}
use Rattle.stateful_db.specs.CheckpointLaws.{length-all, HasAt-applied, HasAt-newest, newest-HasAt}
use Rattle.stateful_db.specs.CheckpointLaws.{HasAt-within, HasAt-kept, HasAt-cut, HasAt-crash}
use Rattle.stateful_db.specs.CheckpointLaws.{HasAt-opened, IsSound-crash, place-opened}
use Rattle.stateful_db.specs.CheckpointLaws.{position-passes, range_of, with_end-is, with_end-from}
use Rattle.stateful_db.specs.declared.database.InitError.{InitError}
use Rattle.stateful_db.specs.declared.database.InitError.TheVariants as error

-- ---- batch ids

module _ {S : Type 0} where
  -- a shorter chain has no other ids
  pub AllBelow-cut : (n : ℕ) (above older : List (ℕ × S)) (p : ℕ × S)
      → AllBelow n (ids (above ++ p ∷ older))
      → AllBelow n (ids (above ++ p ∷ []))
  AllBelow-cut n [] older p h = (h.0, tt)
  AllBelow-cut n (q ∷ above) older p h = (h.0, AllBelow-cut n above older p h.1)

pub AllBelow-le : (m n : ℕ) (is : List ℕ) → m ≤ n → AllBelow m is → AllBelow n is
AllBelow-le m n [] e h = tt
AllBelow-le m n (i ∷ is) e h = (omega arith, AllBelow-le m n is e h.1)

-- ---- a member, wherever it is

module _ {S : Type 0} where
  pub has_newest : (m : Member S) (p : ℕ × S)
      → member_point m ≡ Some p
      → MemberHasAt m (member_place m) p.1
  has_newest (here s) p is =
      subst (λ (u : ℕ × S). HasAt s.disk (place s.disk) u.1) (the_point is) (HasAt-newest s.disk)
    where
      the_point : {A : Type 0} {x y : A} → Some x ≡ Some y → x ≡ y
      the_point e = cc
  has_newest (closed d) p is = cc
  has_newest (lost d) p is = cc
  has_newest away p is = cc

  pub newest_has : (m : Member S) (s : S) → MemberHasAt m (member_place m) s → MemberHas m s
  newest_has (here t) s h = newest-HasAt t.disk s h
  newest_has (closed d) s h = tt
  newest_has (lost d) s h = tt
  newest_has away s h = tt

  pub whole_state : (m : Member S) (p : ℕ × S) (s : S)
      → member_point m ≡ Some p
      → MemberHas m s
      → p.1 ≡ s
  whole_state (here t) p s is has = cc
  whole_state (closed d) p s is has = cc
  whole_state (lost d) p s is has = cc
  whole_state away p s is has = cc

  pub has_kept : (m : Member S) (origin k : ℕ) (states : List S) (s : S)
      → MemberKeeps m origin states
      → slice_get states k ≡ Some s
      → member_first m ≤ origin + k
      → MemberHasAt m (origin + k) s
  has_kept (here t) origin k states s keeps is near =
      HasAt-kept t.disk origin k states s keeps is near
  has_kept (closed d) origin k states s keeps is near = absurd keeps
  has_kept (lost d) origin k states s keeps is near = absurd keeps
  has_kept away origin k states s keeps is near = absurd keeps

  pub has_point : (m : Member S) (p : ℕ × S) → member_point m ≡ Some p → MemberHas m p.1
  has_point (here s) p is = cc
  has_point (closed d) p is = tt
  has_point (lost d) p is = tt
  has_point away p is = tt

  pub openable_closed : (m : Member S) → IsClosed m → IsOpenable m
  openable_closed (here s) h = h
  openable_closed (closed d) h = tt
  openable_closed (lost d) h = tt
  openable_closed away h = h

  pub not_away_openable : (m : Member S) → IsOpenable m → IsNotAway m
  not_away_openable (here s) h = tt
  not_away_openable (closed d) h = tt
  not_away_openable (lost d) h = tt
  not_away_openable away h = h

  pub not_away_here : (m : Member S) (p : ℕ × S) → member_point m ≡ Some p → IsNotAway m
  not_away_here (here s) p is = tt
  not_away_here (closed d) p is = tt
  not_away_here (lost d) p is = tt
  not_away_here away p is = cc

  pub idle_from : (m : Member S) (p : ℕ × S)
      → member_point m ≡ Some p
      → member_tokens m ≡ []
      → IsIdle m
  idle_from (here s) p is out = out
  idle_from (closed d) p is out = cc
  idle_from (lost d) p is out = cc
  idle_from away p is out = cc

  pub room_from : (m : Member S) (p : ℕ × S)
      → member_point m ≡ Some p
      → length (member_tokens m) < 2
      → HasRoom m
  room_from (here s) p is out = out
  room_from (closed d) p is out = cc
  room_from (lost d) p is out = cc
  room_from away p is out = cc

  pub idle_room : (m : Member S) → IsIdle m → HasRoom m
  idle_room (here s) idle = omega (arith, ap length idle)
  idle_room (closed d) idle = idle
  idle_room (lost d) idle = idle
  idle_room away idle = idle

  pub tokens_idle : (m : Member S) → IsIdle m → member_tokens m ≡ []
  tokens_idle (here s) idle = idle
  tokens_idle (closed d) idle = refl
  tokens_idle (lost d) idle = refl
  tokens_idle away idle = refl

  -- ---- an apply

  pub keeps_applied : (m : Member S) (p q : ℕ × S) (origin : ℕ) (states : List S)
      → origin ≤ member_place m
      → member_point m ≡ Some p
      → MemberKeeps m origin states
      → MemberKeeps (member_applied m q) origin (states ++ q.1 ∷ [])
  keeps_applied (here s) p q origin states near is keeps =
      let lengths = ap length keeps in
      let low : origin - s.disk.pruned ≤ length (all s.disk) =
      omega (arith, length-append s.disk.older (s.disk.newest ∷ [])) in
      let high : s.disk.pruned - origin ≤ length states =
      omega (
        arith,
        length-append s.disk.older (s.disk.newest ∷ []),
        length-drop (origin - s.disk.pruned) (all s.disk),
        length-drop (s.disk.pruned - origin) states,
      )
      in
      drop-append-le _ (all s.disk) (q.1 ∷ []) low ∙ ap (λ xs. xs ++ q.1 ∷ []) keeps
      ∙ sym (drop-append-le _ states (q.1 ∷ []) high)
  keeps_applied (closed d) p q origin states near is keeps = keeps
  keeps_applied (lost d) p q origin states near is keeps = keeps
  keeps_applied away p q origin states near is keeps = keeps

  pub first_applied : (m : Member S) (q : ℕ × S)
      → member_first (member_applied m q) ≡ member_first m
  first_applied (here s) q = refl
  first_applied (closed d) q = refl
  first_applied (lost d) q = refl
  first_applied away q = refl

  pub place_applied : (m : Member S) (p q : ℕ × S)
      → member_point m ≡ Some p
      → member_place (member_applied m q) ≡ member_place m + 1
  place_applied (here s) p q is = omega (arith, length-append s.disk.older (s.disk.newest ∷ []))
  place_applied (closed d) p q is = cc
  place_applied (lost d) p q is = cc
  place_applied away p q is = cc

  pub durable_applied : (m : Member S) (q : ℕ × S)
      → member_durable (member_applied m q) ≡ member_durable m
  durable_applied (here s) q = refl
  durable_applied (closed d) q = refl
  durable_applied (lost d) q = refl
  durable_applied away q = refl

  pub tokens_applied : (m : Member S) (q : ℕ × S)
      → member_tokens (member_applied m q) ≡ member_tokens m
  tokens_applied (here s) q = refl
  tokens_applied (closed d) q = refl
  tokens_applied (lost d) q = refl
  tokens_applied away q = refl

  pub point_applied : (m : Member S) (p q : ℕ × S)
      → member_point m ≡ Some p
      → member_point (member_applied m q) ≡ Some q
  point_applied (here s) p q is = refl
  point_applied (closed d) p q is = cc
  point_applied (lost d) p q is = cc
  point_applied away p q is = cc

  pub kept_applied : (m : Member S) (q : ℕ × S) (k : ℕ) (s : S)
      → MemberHasAt m k s
      → MemberHasAt (member_applied m q) k s
  kept_applied (here t) q k s h = HasAt-applied t.disk q.1 s k h
  kept_applied (closed d) q k s h = h
  kept_applied (lost d) q k s h = h
  kept_applied away q k s h = h

  pub kept_lost_applying : (m n : Member S) (t : S) (k : ℕ) (s : S)
      → IsLostApplying m t n
      → MemberHasAt m k s
      → MemberHasAt n k s
  kept_lost_applying (here u) (lost d) t k s (inl e) h = rw e h
  kept_lost_applying (here u) (lost d) t k s (inr e) h = rw e (HasAt-applied u.disk t s k h)
  kept_lost_applying (here u) (here d) t k s is h = absurd is
  kept_lost_applying (here u) (closed d) t k s is h = absurd is
  kept_lost_applying (here u) away t k s is h = absurd is
  kept_lost_applying (closed d) n t k s is h = absurd is
  kept_lost_applying (lost d) n t k s is h = absurd is
  kept_lost_applying away n t k s is h = absurd is

  pub durable_lost_applying : (m n : Member S) (t : S)
      → IsLostApplying m t n
      → member_durable m ≤ member_durable n
  durable_lost_applying (here u) (lost d) t (inl e) = rw e (omega arith)
  durable_lost_applying (here u) (lost d) t (inr e) = rw e (omega arith)
  durable_lost_applying (here u) (here d) t is = absurd is
  durable_lost_applying (here u) (closed d) t is = absurd is
  durable_lost_applying (here u) away t is = absurd is
  durable_lost_applying (closed d) n t is = absurd is
  durable_lost_applying (lost d) n t is = absurd is
  durable_lost_applying away n t is = absurd is

  -- ---- a finalize

  pub keeps_finalized : (m : Member S) (origin : ℕ) (states : List S)
      → MemberKeeps m origin states
      → MemberKeeps (member_finalized m) origin states
  keeps_finalized (here s) origin states keeps = keeps
  keeps_finalized (closed d) origin states keeps = keeps
  keeps_finalized (lost d) origin states keeps = keeps
  keeps_finalized away origin states keeps = keeps

  pub first_finalized : (m : Member S) → member_first (member_finalized m) ≡ member_first m
  first_finalized (here s) = refl
  first_finalized (closed d) = refl
  first_finalized (lost d) = refl
  first_finalized away = refl

  pub place_finalized : (m : Member S) → member_place (member_finalized m) ≡ member_place m
  place_finalized (here s) = refl
  place_finalized (closed d) = refl
  place_finalized (lost d) = refl
  place_finalized away = refl

  pub durable_finalized : (m : Member S) → member_durable (member_finalized m) ≡ member_durable m
  durable_finalized (here s) = refl
  durable_finalized (closed d) = refl
  durable_finalized (lost d) = refl
  durable_finalized away = refl

  pub tokens_finalized : (m : Member S) (p : ℕ × S)
      → member_point m ≡ Some p
      → member_tokens (member_finalized m) ≡ member_tokens m ++ member_place m ∷ []
  tokens_finalized (here s) p is = refl
  tokens_finalized (closed d) p is = cc
  tokens_finalized (lost d) p is = cc
  tokens_finalized away p is = cc

  pub point_finalized : (m : Member S) → member_point (member_finalized m) ≡ member_point m
  point_finalized (here s) = refl
  point_finalized (closed d) = refl
  point_finalized (lost d) = refl
  point_finalized away = refl

  pub has_finalized : (m : Member S) (s : S) → MemberHas m s → MemberHas (member_finalized m) s
  has_finalized (here s) t has = has
  has_finalized (closed d) t has = tt
  has_finalized (lost d) t has = tt
  has_finalized away t has = tt

  pub kept_finalized : (m : Member S) (k : ℕ) (s : S)
      → MemberHasAt m k s
      → MemberHasAt (member_finalized m) k s
  kept_finalized (here t) k s h = h
  kept_finalized (closed d) k s h = h
  kept_finalized (lost d) k s h = h
  kept_finalized away k s h = h

  pub lost_finalizing : (m n : Member S)
      → IsLostFinalizing m n
      → ((k : ℕ) (s : S) → MemberHasAt m k s → MemberHasAt n k s)
      × (member_durable m ≤ member_durable n)
  lost_finalizing (here u) (lost d) e = (λ k s h. rw e h, rw e (omega arith))
  lost_finalizing (here u) (here d) is = absurd is
  lost_finalizing (here u) (closed d) is = absurd is
  lost_finalizing (here u) away is = absurd is
  lost_finalizing (closed d) n is = absurd is
  lost_finalizing (lost d) n is = absurd is
  lost_finalizing away n is = absurd is

  -- ---- a flush

  pub keeps_flushed : (m : Member S) (at origin : ℕ) (states : List S)
      → MemberKeeps m origin states
      → MemberKeeps (member_flushed m at) origin states
  keeps_flushed (here s) at origin states keeps = keeps
  keeps_flushed (closed d) at origin states keeps = keeps
  keeps_flushed (lost d) at origin states keeps = keeps
  keeps_flushed away at origin states keeps = keeps

  pub first_flushed : (m : Member S) (at : ℕ) → member_first (member_flushed m at) ≡ member_first m
  first_flushed (here s) at = refl
  first_flushed (closed d) at = refl
  first_flushed (lost d) at = refl
  first_flushed away at = refl

  pub place_flushed : (m : Member S) (at : ℕ) → member_place (member_flushed m at) ≡ member_place m
  place_flushed (here s) at = refl
  place_flushed (closed d) at = refl
  place_flushed (lost d) at = refl
  place_flushed away at = refl

  pub durable_flushed : (m : Member S) (p : ℕ × S) (at : ℕ)
      → member_point m ≡ Some p
      → member_durable (member_flushed m at) ≡ max at (member_durable m)
  durable_flushed (here s) p at is = refl
  durable_flushed (closed d) p at is = cc
  durable_flushed (lost d) p at is = cc
  durable_flushed away p at is = cc

  pub tokens_flushed : (m : Member S) (at : ℕ)
      → member_tokens (member_flushed m at) ≡ without at (member_tokens m)
  tokens_flushed (here s) at = refl
  tokens_flushed (closed d) at = refl
  tokens_flushed (lost d) at = refl
  tokens_flushed away at = refl

  pub point_flushed : (m : Member S) (at : ℕ) → member_point (member_flushed m at) ≡ member_point m
  point_flushed (here s) at = refl
  point_flushed (closed d) at = refl
  point_flushed (lost d) at = refl
  point_flushed away at = refl

  pub flushed_preserves : (m : Member S) (at : ℕ)
      → ((k : ℕ) (s : S) → MemberHasAt m k s → MemberHasAt (member_flushed m at) k s)
      × (member_durable m ≤ member_durable (member_flushed m at))
  flushed_preserves (here t) at = (λ k s h. h, omega arith)
  flushed_preserves (closed d) at = (λ k s h. h, omega arith)
  flushed_preserves (lost d) at = (λ k s h. h, omega arith)
  flushed_preserves away at = (λ k s h. h, omega arith)

  pub lost_flushing : (m n : Member S) (at : ℕ)
      → IsLostFlushing m at n
      → ((k : ℕ) (s : S) → MemberHasAt m k s → MemberHasAt n k s)
      × (member_durable m ≤ member_durable n)
  lost_flushing (here u) (lost d) at (inl e) = (λ k s h. rw e h, rw e (omega arith))
  lost_flushing (here u) (lost d) at (inr e) = (λ k s h. rw e h, rw e (omega arith))
  lost_flushing (here u) (here d) at is = absurd is
  lost_flushing (here u) (closed d) at is = absurd is
  lost_flushing (here u) away at is = absurd is
  lost_flushing (closed d) n at is = absurd is
  lost_flushing (lost d) n at is = absurd is
  lost_flushing away n at is = absurd is

  -- ---- a crash

  pub crashed_disk : (keep : Option ℕ) (d : Disk S) (m : Member S)
      → IsCrashed keep d m
      → IsOpenable m
      × (member_durable m ≡ d.durable)
      × ((k : ℕ) (s : S) → k ≤ d.durable → HasAt d k s → MemberHasAt m k s)
  crashed_disk None d (closed e) is = (tt, ap (λ (x : Disk S). x.durable) is, λ k s near h. rw is h)
  crashed_disk (Some keep) d (closed e) is =
      (tt, is.durable, λ k s near h. HasAt-crash d e keep k s is near h)
  crashed_disk None d (here s) is = absurd is
  crashed_disk None d (lost e) is = absurd is
  crashed_disk None d away is = absurd is
  crashed_disk (Some keep) d (here s) is = absurd is
  crashed_disk (Some keep) d (lost e) is = absurd is
  crashed_disk (Some keep) d away is = absurd is

  pub crashed : (m n : Member S) (keep : Option ℕ)
      → MemberCrashed m keep n
      → IsOpenable n
      × (member_durable n ≡ member_durable m)
      × ((k : ℕ) (s : S) → k ≤ member_durable m → MemberHasAt m k s → MemberHasAt n k s)
  crashed (here s) n keep is = crashed_disk keep s.disk n is
  crashed (closed d) n keep is = crashed_disk keep d n is
  crashed (lost d) n keep is = crashed_disk keep d n is
  crashed away n keep is = absurd is

-- a crash leaves checkpoints that are in order in order
module _ {S T : Type 0} (target_of : S → T) (targeted : T → Target) where
  sound_crashed_disk : (keep : Option ℕ) (d : Disk S) (m : Member S)
      → IsSound (range_of target_of targeted) d
      → IsCrashed keep d m
      → MemberIsSound target_of targeted m
  sound_crashed_disk None d (closed e) sound is = rw is sound
  sound_crashed_disk (Some keep) d (closed e) sound is =
      IsSound-crash (range_of target_of targeted) d e keep is sound
  sound_crashed_disk None d (here s) sound is = absurd is
  sound_crashed_disk None d (lost e) sound is = absurd is
  sound_crashed_disk None d away sound is = absurd is
  sound_crashed_disk (Some keep) d (here s) sound is = absurd is
  sound_crashed_disk (Some keep) d (lost e) sound is = absurd is
  sound_crashed_disk (Some keep) d away sound is = absurd is

  pub sound_crashed : (m n : Member S) (keep : Option ℕ)
      → MemberIsSound target_of targeted m
      → MemberCrashed m keep n
      → MemberIsSound target_of targeted n
  sound_crashed (here s) n keep sound is = sound_crashed_disk keep s.disk n sound is
  sound_crashed (closed d) n keep sound is = sound_crashed_disk keep d n sound is
  sound_crashed (lost d) n keep sound is = sound_crashed_disk keep d n sound is
  sound_crashed away n keep sound is = absurd is

drop_twice : {S : Type 0} (n m : ℕ) (xs : List S) → drop m (drop n xs) ≡ drop (n + m) xs
drop_twice n m xs = drop-drop m n xs

module _ {S T : Type 0} (target_of : S → T) (targeted : T → Target) where
  -- ---- a prune

  pub prunable_from : (m : Member S) (t : T) (k : ℕ) (s : S)
      → MemberIsSound target_of targeted m
      → IsIdle m
      → MemberHasAt m k s
      → target_of s ≡ t
      → k ≤ member_durable m
      → IsPrunable target_of targeted m t
  prunable_from (here u) t k s sound idle h same near =
      (idle, found (with_end target_of targeted t u.disk) refl)
    where
      ends : (range_of target_of targeted s).end.0 ≡ (targeted t).end.0
      ends = ap (λ (x : T). (targeted x).end.0) same

      found : (o : Option ℕ)
          → with_end target_of targeted t u.disk ≡ o
          → KeepsDurable target_of targeted t u.disk
      found None is =
          absurd
          (position-passes (λ v. (targeted (target_of v)).end.0 == (targeted t).end.0) (all u.disk)
          (k - u.disk.pruned) s h.1 (grind (arith, nat_tests)) is)
      found (Some n) is =
          let at : n ≡ k - u.disk.pruned =
          with_end-is target_of targeted t u.disk n k s sound is h ends in
          record {
            number = n;
            state = s;
            found = is;
            is = rw at h.1;
            target = same;
            durable = omega (arith, h.0);
          }
  prunable_from (closed d) t k s sound idle h same near = absurd idle
  prunable_from (lost d) t k s sound idle h same near = absurd idle
  prunable_from away t k s sound idle h same near = absurd idle

  -- the target's checkpoint is a kept one
  pub number_within : (t : T) (d : Disk S) (kept : KeepsDurable target_of targeted t d)
      → kept.number ≤ length d.older
  number_within t d kept =
      let within = slice_get_within (all d) kept.number kept.state kept.is in
      omega (arith, length-all d)

  pub pruned_is : (t : T) (d : Disk S) (kept : KeepsDurable target_of targeted t d)
      → pruned_to target_of targeted t d ≡ cut d kept.number
  pruned_is t d kept = ap (λ (o : Option ℕ). cut d (unwrap_or o 0)) kept.found

  pub keeps_pruned : (m : Member S) (t : T) (origin : ℕ) (states : List S)
      → IsPrunable target_of targeted m t
      → MemberKeeps m origin states
      → MemberKeeps (member_pruned target_of targeted m t) origin states
  keeps_pruned (here s) t origin states (idle, kept) keeps =
      let n : ℕ = kept.number in
      let d : Disk S = s.disk in
      let within : n ≤ length d.older = number_within t d kept in
      let rest : drop n d.older ++ d.newest ∷ [] ≡ drop n (all d) =
      sym (drop-append-le n d.older (d.newest ∷ []) within) in
      let front : n + (origin - (d.pruned + n)) ≡ (origin - d.pruned) + (n - (origin - d.pruned)) =
      omega arith in
      let behind : (d.pruned - origin) + (n - (origin - d.pruned)) ≡ d.pruned + n - origin =
      omega arith in
      let cut_keeps : drop (origin - (d.pruned + n)) (drop n d.older ++ d.newest ∷ [])
      ≡ drop (d.pruned + n - origin) states =
      ap (drop (origin - (d.pruned + n))) rest
      ∙ drop_twice n (origin - (d.pruned + n)) (all d)
      ∙ ap (λ k. drop k (all d)) front
      ∙ sym (drop_twice (origin - d.pruned) (n - (origin - d.pruned)) (all d))
      ∙ ap (drop (n - (origin - d.pruned))) keeps
      ∙ drop_twice (d.pruned - origin) (n - (origin - d.pruned)) states
      ∙ ap (λ k. drop k states) behind
      in
      subst (λ (e : Disk S). drop (origin - e.pruned) (all e) ≡ drop (e.pruned - origin) states)
      (sym (pruned_is t d kept)) cut_keeps
  keeps_pruned (closed d) t origin states prunable keeps = absurd prunable
  keeps_pruned (lost d) t origin states prunable keeps = absurd prunable
  keeps_pruned away t origin states prunable keeps = absurd prunable

  pub first_pruned : (m : Member S) (t : T) (k : ℕ) (s : S)
      → MemberIsSound target_of targeted m
      → IsPrunable target_of targeted m t
      → MemberHasAt m k s
      → target_of s ≡ t
      → member_first (member_pruned target_of targeted m t) ≡ k
  first_pruned (here u) t k s sound (idle, kept) h same =
      let at : kept.number ≡ k - u.disk.pruned =
      with_end-is target_of targeted t u.disk kept.number k s sound kept.found h
      (ap (λ (x : T). (targeted x).end.0) same) in
      ap (λ (e : Disk S). e.pruned) (pruned_is t u.disk kept) ∙ omega (arith, h.0)
  first_pruned (closed d) t k s sound prunable h same = absurd prunable
  first_pruned (lost d) t k s sound prunable h same = absurd prunable
  first_pruned away t k s sound prunable h same = absurd prunable

  pub place_pruned : (m : Member S) (t : T)
      → IsPrunable target_of targeted m t
      → member_place (member_pruned target_of targeted m t) ≡ member_place m
  place_pruned (here s) t (idle, kept) =
      let within = number_within t s.disk kept in
      ap (λ (e : Disk S). place e) (pruned_is t s.disk kept)
      ∙ omega (arith, length-drop kept.number s.disk.older)
  place_pruned (closed d) t prunable = absurd prunable
  place_pruned (lost d) t prunable = absurd prunable
  place_pruned away t prunable = absurd prunable

  pub durable_pruned : (m : Member S) (t : T)
      → member_durable (member_pruned target_of targeted m t) ≡ member_durable m
  durable_pruned (here s) t = refl
  durable_pruned (closed d) t = refl
  durable_pruned (lost d) t = refl
  durable_pruned away t = refl

  pub tokens_pruned : (m : Member S) (t : T)
      → member_tokens (member_pruned target_of targeted m t) ≡ member_tokens m
  tokens_pruned (here s) t = refl
  tokens_pruned (closed d) t = refl
  tokens_pruned (lost d) t = refl
  tokens_pruned away t = refl

  pub point_pruned : (m : Member S) (t : T)
      → member_point (member_pruned target_of targeted m t) ≡ member_point m
  point_pruned (here s) t = refl
  point_pruned (closed d) t = refl
  point_pruned (lost d) t = refl
  point_pruned away t = refl

  pub has_pruned : (m : Member S) (t : T) (s : S)
      → MemberHas m s
      → MemberHas (member_pruned target_of targeted m t) s
  has_pruned (here u) t s has = has
  has_pruned (closed d) t s has = tt
  has_pruned (lost d) t s has = tt
  has_pruned away t s has = tt

  pub kept_pruned_disk : (t : T) (d : Disk S) (k : ℕ) (s : S)
      → KeepsDurable target_of targeted t d
      → (pruned_to target_of targeted t d).pruned ≤ k
      → HasAt d k s
      → HasAt (pruned_to target_of targeted t d) k s
  kept_pruned_disk t d k s kept from h =
      let is = pruned_is t d kept in
      let near : d.pruned + kept.number ≤ k = subst (λ (e : Disk S). e.pruned ≤ k) is from in
      subst (λ (e : Disk S). HasAt e k s) (sym is)
      (HasAt-cut d kept.number k s (number_within t d kept) near h)

  pub kept_pruned : (m : Member S) (t : T) (k : ℕ) (s : S)
      → IsPrunable target_of targeted m t
      → member_first (member_pruned target_of targeted m t) ≤ k
      → MemberHasAt m k s
      → MemberHasAt (member_pruned target_of targeted m t) k s
  kept_pruned (here u) t k s (idle, kept) from h = kept_pruned_disk t u.disk k s kept from h
  kept_pruned (closed d) t k s prunable from h = absurd prunable
  kept_pruned (lost d) t k s prunable from h = absurd prunable
  kept_pruned away t k s prunable from h = absurd prunable

  pub lost_pruning : (m n : Member S) (t : T)
      → IsPrunable target_of targeted m t
      → IsLostPruning target_of targeted m t n
      → ((k : ℕ) (s : S)
      → member_first (member_pruned target_of targeted m t) ≤ k
      → MemberHasAt m k s
      → MemberHasAt n k s)
      × (member_durable n ≡ member_durable m)
  lost_pruning (here u) (lost d) t (idle, kept) (inl e) =
      (λ k s from h. rw e h, ap (λ (x : Disk S). x.durable) e)
  lost_pruning (here u) (lost d) t (idle, kept) (inr e) = (
    λ k s from h. rw e (kept_pruned_disk t u.disk k s kept from h),
    ap (λ (x : Disk S). x.durable) e,
  )
  lost_pruning (here u) (here d) t prunable is = absurd is
  lost_pruning (here u) (closed d) t prunable is = absurd is
  lost_pruning (here u) away t prunable is = absurd is
  lost_pruning (closed d) n t prunable is = absurd prunable
  lost_pruning (lost d) n t prunable is = absurd prunable
  lost_pruning away n t prunable is = absurd prunable

  -- ---- an opening

  pub not_refused_disk : (t : T) (d : Disk S) (k : ℕ) (s : S) (why : InitError)
      → IsSound (range_of target_of targeted) d
      → HasAt d k s
      → target_of s ≡ t
      → Refuses target_of targeted (Some t) d why
      → ⊥
  not_refused_disk t d k s error.Database sound h same none =
      let ends : (range_of target_of targeted s).end.0 ≡ (targeted t).end.0 =
      ap (λ (x : T). (targeted x).end.0) same in
      position-passes (λ v. (targeted (target_of v)).end.0 == (targeted t).end.0) (all d)
      (k - d.pruned) s h.1 (grind (arith, nat_tests)) none
  not_refused_disk t d k s (error.TargetMismatch given recovered) sound h same
      (n, u, found, at, other, given_is, recovered_is) =
      let ends : (range_of target_of targeted s).end.0 ≡ (targeted t).end.0 =
      ap (λ (x : T). (targeted x).end.0) same in
      let is : n ≡ k - d.pruned = with_end-is target_of targeted t d n k s sound found h ends in
      let state : u ≡ s = the_same (slice_get (all d) n) u s at (ap (slice_get (all d)) is ∙ h.1) in
      other (ap target_of state ∙ same)
    where
      the_same : (o : Option S) (x y : S) → o ≡ Some x → o ≡ Some y → x ≡ y
      the_same o x y one two = cc
  not_refused_disk t d k s error.OutOfMemory sound h same refused = refused

  pub not_refused : (m : Member S) (t : T) (k : ℕ) (s : S) (why : InitError)
      → MemberIsSound target_of targeted m
      → MemberHasAt m k s
      → target_of s ≡ t
      → MemberRefuses target_of targeted m (Some t) why
      → ⊥
  not_refused (here u) t k s why sound h same refused = refused
  not_refused (closed d) t k s why sound h same refused =
      not_refused_disk t d k s why sound h same refused
  not_refused (lost d) t k s why sound h same refused =
      not_refused_disk t d k s why sound h same refused
  not_refused away t k s why sound h same refused = refused

  pub refused_disk : (expected : Option T) (d : Disk S) (u : Standing S) (why : InitError)
      → Refuses target_of targeted expected d why
      → Reopens target_of targeted expected d u
      → ⊥
  refused_disk None d u error.Database refused opens = refused
  refused_disk None d u (error.TargetMismatch given recovered) refused opens = refused
  refused_disk None d u error.OutOfMemory refused opens = refused
  refused_disk (Some t) d u error.Database none (n, found, same, opens) = cc
  refused_disk (Some t) d u (error.TargetMismatch given recovered)
      (m, v, found', at, other, given_is, recovered_is) (n, found, same, opens) = other
      (ap target_of newest ∙ same)
    where
      number : m ≡ n
      number = the_number (with_end target_of targeted t d) m n found' found
        where
          the_number : (o : Option ℕ) (x y : ℕ) → o ≡ Some x → o ≡ Some y → x ≡ y
          the_number o x y one two = cc

      within : m < length (all d)
      within = slice_get_within (all d) m v at

      at_place : HasAt d (d.pruned + m) v
      at_place =
          let same : d.pruned + m - d.pruned ≡ m = omega arith in
          (omega arith, ap (slice_get (all d)) same ∙ at)

      newest : v ≡ u.disk.newest
      newest =
          let is : place u.disk ≡ d.pruned + n =
          place-opened d u.disk n opens.disk (omega (arith, number, within)) in
          let kept : HasAt u.disk (d.pruned + m) v =
          HasAt-opened d u.disk n (d.pruned + m) v opens.disk
          (omega (arith, number)) at_place in
          let there : place u.disk ≡ d.pruned + m = omega (arith, number) in
          sym (newest-HasAt u.disk v (subst (λ k. HasAt u.disk k v) (sym there) kept))
  refused_disk (Some t) d u error.OutOfMemory refused opens = refused

  pub refused : (m n : Member S) (expected : Option T) (why : InitError)
      → MemberRefuses target_of targeted m expected why
      → MemberReopened target_of targeted m expected n
      → ⊥
  refused (here u) n expected why refuses is = refuses
  refused away n expected why refuses is = refuses
  refused (closed d) (here u) expected why refuses is = refused_disk expected d u why refuses is
  refused (closed d) (closed e) expected why refuses is = is
  refused (closed d) (lost e) expected why refuses is = is
  refused (closed d) away expected why refuses is = is
  refused (lost d) (here u) expected why refuses is = refused_disk expected d u why refuses is
  refused (lost d) (closed e) expected why refuses is = is
  refused (lost d) (lost e) expected why refuses is = is
  refused (lost d) away expected why refuses is = is

  pub refused_reclosed : (m n : Member S) (expected : Option T) (why : InitError)
      → MemberRefuses target_of targeted m expected why
      → MemberReclosed target_of targeted m expected n
      → ⊥
  refused_reclosed (here u) n expected why refuses is = refuses
  refused_reclosed away n expected why refuses is = refuses
  refused_reclosed (closed d) (closed e) expected why refuses (u, opens, same) =
      refused_disk expected d u why refuses opens
  refused_reclosed (closed d) (here e) expected why refuses is = is
  refused_reclosed (closed d) (lost e) expected why refuses is = is
  refused_reclosed (closed d) away expected why refuses is = is
  refused_reclosed (lost d) (closed e) expected why refuses (u, opens, same) =
      refused_disk expected d u why refuses opens
  refused_reclosed (lost d) (here e) expected why refuses is = is
  refused_reclosed (lost d) (lost e) expected why refuses is = is
  refused_reclosed (lost d) away expected why refuses is = is

  pub cause_disk : (expected : Option T) (d : Disk S) (before now : ℕ) (why : InitError)
      (n : Member S)
      → IsNotOpened target_of targeted expected d before now why n
      → (why ≡ error.OutOfMemory)
      ⊎ (((why ≡ error.Database) × Rose before now) ⊎ Refuses target_of targeted expected d why)
  cause_disk expected d before now error.Database n (inl is) = inr (inl (refl, is.0))
  cause_disk expected d before now error.Database n (inr is) = inr (inr is.0)
  cause_disk expected d before now (error.TargetMismatch given recovered) n is = inr (inr is.0)
  cause_disk expected d before now error.OutOfMemory n is = inl refl

  pub cause : (m : Member S) (expected : Option T) (before now : ℕ) (why : InitError) (n : Member S)
      → MemberNotOpened target_of targeted m expected before now why n
      → (why ≡ error.OutOfMemory)
      ⊎
      (((why ≡ error.Database) × Rose before now)
      ⊎ MemberRefuses target_of targeted m expected why)
  cause (here u) expected before now why n is = absurd is
  cause (closed d) expected before now why n is = cause_disk expected d before now why n is
  cause (lost d) expected before now why n is = cause_disk expected d before now why n is
  cause away expected before now why n is = absurd is

  -- at which checkpoint a database is opened
  opened_disk : (t : T) (d : Disk S) (u : Standing S) (up : ℕ) (v : S)
      → IsSound (range_of target_of targeted) d
      → Reopens target_of targeted (Some t) d u
      → HasAt d up v
      → target_of v ≡ t
      → (place u.disk ≡ up)
      × (u.disk.durable ≡ up)
      × ((k : ℕ) (s : S) → k ≤ up → HasAt d k s → HasAt u.disk k s)
  opened_disk t d u up v sound (n, found, same, opens) h target =
      let at : n ≡ up - d.pruned =
      with_end-is target_of targeted t d n up v sound found h
      (ap (λ (x : T). (targeted x).end.0) target) in
      let within : n < length (all d) =
      omega (arith, slice_get_within (all d) (up - d.pruned) v h.1) in
      let is : place u.disk ≡ d.pruned + n = place-opened d u.disk n opens.disk within in
      let there : place u.disk ≡ up = omega (arith, h.0) in (
        there,
        opens.disk.durable
            ∙ there,
        λ k s near kept. HasAt-opened d u.disk n k s opens.disk (omega arith) kept,
      )

  pub opened_at : (m n : Member S) (t : T) (k : ℕ) (s : S)
      → MemberIsSound target_of targeted m
      → IsOpenable m
      → MemberReopened target_of targeted m (Some t) n
      → MemberHasAt m k s
      → target_of s ≡ t
      → (member_place n ≡ k) × MemberHasAt n k s
  opened_at (here u) n t k s sound openable is h same = absurd openable
  opened_at away n t k s sound openable is h same = absurd openable
  opened_at (closed d) (here u) t k s sound openable is h same =
      let o = opened_disk t d u k s sound is h same in (o.0, o.2 k s (omega arith) h)
  opened_at (closed d) (closed e) t k s sound openable is h same = absurd is
  opened_at (closed d) (lost e) t k s sound openable is h same = absurd is
  opened_at (closed d) away t k s sound openable is h same = absurd is
  opened_at (lost d) (here u) t k s sound openable is h same =
      let o = opened_disk t d u k s sound is h same in (o.0, o.2 k s (omega arith) h)
  opened_at (lost d) (closed e) t k s sound openable is h same = absurd is
  opened_at (lost d) (lost e) t k s sound openable is h same = absurd is
  opened_at (lost d) away t k s sound openable is h same = absurd is

  -- what is kept of a database whose range doesn't end behind that of a target, and is durable as
  -- far as it was
  abbrev pub UpTo : T → Member S → Member S → Type 0
  UpTo t m n =
      (k : ℕ) (s : S)
      → MemberHasAt m k s
      → (range_of target_of targeted s).end.0 ≤ (targeted t).end.0
      → MemberHasAt n k s × (k ≤ member_durable m → k ≤ member_durable n)

  pub up_to_same : (t : T) (m n : Member S) → n ≡ m → UpTo t m n
  up_to_same t m n is = rw is (λ k s kept near. (kept, λ durable. durable))

  -- what an opening keeps: the checkpoint of the target, and those before
  up_to_opened : (t : T) (d : Disk S) (u : Standing S)
      → IsSound (range_of target_of targeted) d
      → Reopens target_of targeted (Some t) d u
      → (k : ℕ) (s : S)
      → HasAt d k s
      → (range_of target_of targeted s).end.0 ≤ (targeted t).end.0
      → HasAt u.disk k s × (k ≤ u.disk.durable)
  up_to_opened t d u sound (n, found, same, opens) k s kept near =
      let from = with_end-from target_of targeted t d n k s sound found kept near in
      let is : place u.disk ≡ d.pruned + n = place-opened d u.disk n opens.disk from.1 in (
        HasAt-opened d u.disk n k s opens.disk from.0 kept,
        omega (arith, opens.disk.durable, is, from.0, kept.0),
      )

  up_to_here : (t : T) (d : Disk S) (u : Standing S)
      → IsSound (range_of target_of targeted) d
      → Reopens target_of targeted (Some t) d u
      → (k : ℕ) (s : S) → HasAt d k s → (range_of target_of targeted s).end.0 ≤ (targeted t).end.0
      → HasAt u.disk k s × (k ≤ d.durable → k ≤ u.disk.durable)
  up_to_here t d u sound opens k s kept near =
      let o = up_to_opened t d u sound opens k s kept near in (o.0, λ durable. o.1)

  pub up_to_reopened : (m n : Member S) (t : T)
      → MemberIsSound target_of targeted m
      → MemberReopened target_of targeted m (Some t) n
      → UpTo t m n
  up_to_reopened (here u) n t sound is = up_to_same t (here u) n is
  up_to_reopened away n t sound is = up_to_same t away n is
  up_to_reopened (closed d) (here u) t sound is = up_to_here t d u sound is
  up_to_reopened (closed d) (closed e) t sound is = absurd is
  up_to_reopened (closed d) (lost e) t sound is = absurd is
  up_to_reopened (closed d) away t sound is = absurd is
  up_to_reopened (lost d) (here u) t sound is = up_to_here t d u sound is
  up_to_reopened (lost d) (closed e) t sound is = absurd is
  up_to_reopened (lost d) (lost e) t sound is = absurd is
  up_to_reopened (lost d) away t sound is = absurd is

  reclosed_disk : (t : T) (d e : Disk S) → IsSound (range_of target_of targeted) d
      → (u : Standing S) × Reopens target_of targeted (Some t) d u × (e ≡ u.disk)
      → (k : ℕ) (s : S)
      → HasAt d k s
      → (range_of target_of targeted s).end.0 ≤ (targeted t).end.0
      → HasAt e k s × (k ≤ d.durable → k ≤ e.durable)
  reclosed_disk t d e sound (u, opens, is) k s kept near =
      rw is (up_to_here t d u sound opens k s kept near)

  pub up_to_reclosed : (m n : Member S) (t : T)
      → MemberIsSound target_of targeted m
      → MemberReclosed target_of targeted m (Some t) n
      → UpTo t m n
  up_to_reclosed (here u) n t sound is = up_to_same t (here u) n is
  up_to_reclosed away n t sound is = up_to_same t away n is
  up_to_reclosed (closed d) (closed e) t sound is = reclosed_disk t d e sound is
  up_to_reclosed (closed d) (here e) t sound is = absurd is
  up_to_reclosed (closed d) (lost e) t sound is = absurd is
  up_to_reclosed (closed d) away t sound is = absurd is
  up_to_reclosed (lost d) (closed e) t sound is = reclosed_disk t d e sound is
  up_to_reclosed (lost d) (here e) t sound is = absurd is
  up_to_reclosed (lost d) (lost e) t sound is = absurd is
  up_to_reclosed (lost d) away t sound is = absurd is

  up_to_disk : (t : T) (d : Disk S) (before now : ℕ) (why : InitError) (n : Member S)
      → IsNotOpened target_of targeted (Some t) d before now why n
      → (n ≡ lost d) ⊎ (n ≡ closed d)
  up_to_disk t d before now error.Database n (inl is) = inl is.1
  up_to_disk t d before now error.Database n (inr is) = inr is.1
  up_to_disk t d before now (error.TargetMismatch given recovered) n is = inr is.1
  up_to_disk t d before now error.OutOfMemory n is = inl is

  pub up_to_not_opened : (m n : Member S) (t : T) (before now : ℕ) (why : InitError)
      → MemberNotOpened target_of targeted m (Some t) before now why n
      → UpTo t m n
  up_to_not_opened (here u) n t before now why is = absurd is
  up_to_not_opened away n t before now why is = absurd is
  up_to_not_opened (closed d) n t before now why is =
      elim (up_to_disk t d before now why n is) [
        | inl e ↦ rw e (λ k s kept near. (kept, λ durable. durable))
        | inr e ↦ rw e (λ k s kept near. (kept, λ durable. durable))
      ]
  up_to_not_opened (lost d) n t before now why is =
      elim (up_to_disk t d before now why n is) [
        | inl e ↦ rw e (λ k s kept near. (kept, λ durable. durable))
        | inr e ↦ rw e (λ k s kept near. (kept, λ durable. durable))
      ]

  -- where a database is behind an opening that was tried
  pub not_away_reopened : (m n : Member S) (expected : Option T)
      → IsNotAway m
      → MemberReopened target_of targeted m expected n
      → IsNotAway n
  not_away_reopened (here u) n expected h is = rw is tt
  not_away_reopened (closed d) (here u) expected h is = tt
  not_away_reopened (closed d) (closed e) expected h is = tt
  not_away_reopened (closed d) (lost e) expected h is = tt
  not_away_reopened (closed d) away expected h is = absurd is
  not_away_reopened (lost d) (here u) expected h is = tt
  not_away_reopened (lost d) (closed e) expected h is = tt
  not_away_reopened (lost d) (lost e) expected h is = tt
  not_away_reopened (lost d) away expected h is = absurd is
  not_away_reopened away n expected h is = absurd h

  pub not_away_reclosed : (m n : Member S) (expected : Option T)
      → IsNotAway m
      → MemberReclosed target_of targeted m expected n
      → IsNotAway n
  not_away_reclosed (here u) n expected h is = rw is tt
  not_away_reclosed (closed d) (here u) expected h is = tt
  not_away_reclosed (closed d) (closed e) expected h is = tt
  not_away_reclosed (closed d) (lost e) expected h is = tt
  not_away_reclosed (closed d) away expected h is = absurd is
  not_away_reclosed (lost d) (here u) expected h is = tt
  not_away_reclosed (lost d) (closed e) expected h is = tt
  not_away_reclosed (lost d) (lost e) expected h is = tt
  not_away_reclosed (lost d) away expected h is = absurd is
  not_away_reclosed away n expected h is = absurd h

  pub openable_reclosed : (m n : Member S) (expected : Option T)
      → IsOpenable m
      → MemberReclosed target_of targeted m expected n
      → IsOpenable n
  openable_reclosed (here u) n expected h is = absurd h
  openable_reclosed away n expected h is = absurd h
  openable_reclosed (closed d) (closed e) expected h is = tt
  openable_reclosed (closed d) (here e) expected h is = absurd is
  openable_reclosed (closed d) (lost e) expected h is = tt
  openable_reclosed (closed d) away expected h is = absurd is
  openable_reclosed (lost d) (closed e) expected h is = tt
  openable_reclosed (lost d) (here e) expected h is = absurd is
  openable_reclosed (lost d) (lost e) expected h is = tt
  openable_reclosed (lost d) away expected h is = absurd is

  pub openable_disk : (expected : Option T) (d : Disk S) (before now : ℕ) (why : InitError)
      (n : Member S)
      → IsNotOpened target_of targeted expected d before now why n
      → IsOpenable n
  openable_disk expected d before now error.Database n (inl is) = rw is.1 tt
  openable_disk expected d before now error.Database n (inr is) = rw is.1 tt
  openable_disk expected d before now (error.TargetMismatch given recovered) n is = rw is.1 tt
  openable_disk expected d before now error.OutOfMemory n is = rw is tt

  pub openable_not_opened : (m n : Member S) (expected : Option T) (before now : ℕ)
      (why : InitError)
      → MemberNotOpened target_of targeted m expected before now why n
      → IsOpenable n
  openable_not_opened (here u) n expected before now why is = absurd is
  openable_not_opened (closed d) n expected before now why is =
      openable_disk expected d before now why n is
  openable_not_opened (lost d) n expected before now why is =
      openable_disk expected d before now why n is
  openable_not_opened away n expected before now why is = absurd is
