-- That no call falls back.
use Rattle.std.proofs.Common.{◌≡◌, ℕ, Option, Some, None, is_some, refl, sym, ap, subst, ◌∙◌, inl, inr, arith}
use Rattle.std.specs.Prelude.{◌⊎◌, IsSome}
use Rattle.std.proofs.lemmas.Option.{same_Some}
use Rattle.stateful_base.specs.Round.{IsLater}
use Rattle.stateful_base.specs.declared.round.Round.{Round}
use Rattle.stateful_base.specs.declared.finalization.Finalization.{Finalization}
use Rattle.stateful_base.specs.declared.number.Height.{Height}
use Rattle.stateful_base.specs.declared.digest.Digest.{Digest}
use Rattle.stateful_sync_plan.specs.Plan.{floor_of, completion_of, digest_of, TakesFloor, taken, ignored, Completes}
use Rattle.stateful_sync_plan.specs.Laws.{Call, takes_floor, completes, changes_nothing, Calls, none, further, IsAhead, NeverFallsBack}
use Rattle.stateful_sync_plan.specs.declared.state.SyncState.{SyncState}
use Rattle.stateful_sync_plan.specs.declared.state.SyncState.TheVariants.{InProgress, Complete}

later_trans : (a b c : Round) → IsLater a b → IsLater b c → IsLater a c
later_trans a b c (inl one) (inl other) = inl (omega arith)
later_trans a b c (inl one) (inr other) = let e = other.0 in inl (omega arith)
later_trans a b c (inr one) (inl other) = let e = one.0 in inl (omega arith)
later_trans a b c (inr one) (inr other) = inr (one.0 ∙ other.0, let x = one.1 in let y = other.1 in omega arith)

same_height : (a b : Height) → a.0 ≡ b.0 → a ≡ b
same_height a b e = ap (λ (n : ℕ). let h : Height = record { 0 = n } in h) e

some_there : {A : Type 0} (o : Option A) (x : A) → o ≡ Some x → IsSome o
some_there o x e = ap is_some e

module _ {S K C : Type 0} where
  -- a digest is recorded with a completion alone
  completion_behind : (state : Option (SyncState S K C)) (digest : Digest) → digest_of state ≡ Some digest → (height : Height) × (completion_of state ≡ Some height)
  completion_behind None digest e = absurd cc
  completion_behind (Some (InProgress f)) digest e = absurd cc
  completion_behind (Some (Complete height known)) digest e = (height, refl)

  ahead_same : (old new : Option (SyncState S K C)) → new ≡ old → IsAhead old new
  ahead_same old new same = record {
    height = λ before e. (before, ap completion_of same ∙ e, omega arith);
    digest = λ recorded e _. ap digest_of same ∙ e;
    floor = λ before e. inr (before, ap floor_of same ∙ e, inl refl);
  }

  ahead_then : (old mid new : Option (SyncState S K C)) → IsAhead old mid → IsAhead mid new → IsAhead old new
  ahead_then old mid new one other = record {
    height = λ before e. let m = one.height before e in let n = other.height m.0 m.1 in (n.0, n.1, let x = m.2 in let y = n.2 in omega arith);
    digest = λ recorded e same.
        let h = completion_behind old recorded e in
        let m = one.height h.0 h.1 in
        let n = other.height m.0 m.1 in
        let back : n.0 ≡ h.0 = same_Some n.0 h.0 (sym n.1 ∙ same ∙ h.1) in
        let there : m.0 ≡ h.0 = same_height m.0 h.0 (let x = m.2 in let y = n.2 in let z = ap (λ (k : Height). k.0) back in omega arith) in
        let stays : completion_of mid ≡ completion_of old = m.1 ∙ ap (λ (k : Height). Some k) there ∙ sym h.1 in
        other.digest recorded (one.digest recorded e stays) (same ∙ sym stays);
    floor = λ before e. behind before (one.floor before e);
  } where
    Further : Finalization C → Type 0
    Further before = IsSome (completion_of new) ⊎ ((now : Finalization C) × (floor_of new ≡ Some now) × ((now ≡ before) ⊎ IsLater before.round now.round))

    completed : (o : Option Height) → completion_of mid ≡ o → IsSome o → IsSome (completion_of new)
    completed None e there = absurd cc
    completed (Some h) e there = let n = other.height h e in some_there (completion_of new) n.0 n.1

    later : (before middle now : Finalization C) → (middle ≡ before) ⊎ IsLater before.round middle.round → (now ≡ middle) ⊎ IsLater middle.round now.round → (now ≡ before) ⊎ IsLater before.round now.round
    later before middle now (inl e) (inl e') = inl (e' ∙ e)
    later before middle now (inl e) (inr l) = inr (subst (λ (f : Finalization C). IsLater f.round now.round) e l)
    later before middle now (inr l) (inl e) = inr (subst (λ (f : Finalization C). IsLater before.round f.round) (sym e) l)
    later before middle now (inr l) (inr l') = inr (later_trans before.round middle.round now.round l l')

    last : (before middle : Finalization C) → (middle ≡ before) ⊎ IsLater before.round middle.round → IsSome (completion_of new) ⊎ ((now : Finalization C) × (floor_of new ≡ Some now) × ((now ≡ middle) ⊎ IsLater middle.round now.round)) → Further before
    last before middle first (inl done) = inl done
    last before middle first (inr n) = inr (n.0, n.1, later before middle n.0 first n.2)

    behind : (before : Finalization C) → IsSome (completion_of mid) ⊎ ((now : Finalization C) × (floor_of mid ≡ Some now) × ((now ≡ before) ⊎ IsLater before.round now.round)) → Further before
    behind before (inl done) = inl (completed (completion_of mid) refl done)
    behind before (inr m) = last before m.0 m.2 (other.floor m.0 m.1)

  ahead_taken : (old new : Option (SyncState S K C)) (f : Finalization C) → TakesFloor old f new → IsAhead old new
  ahead_taken old new f (ignored is same) = ahead_same old new same
  ahead_taken old new f (taken is now) = record {
    height = λ before e. let never = sym is.may_sync ∙ e in absurd cc;
    digest = λ recorded e _. let h = completion_behind old recorded e in let never = sym is.may_sync ∙ h.1 in absurd cc;
    floor = λ before e. inr (f, ap floor_of now, inr (is.later before e));
  }

  ahead_completed : (old new : Option (SyncState S K C)) (height : Height) (digest : Digest) → Completes old height digest new → IsAhead old new
  ahead_completed old new height digest c = record {
    height = λ before e. (height, ap completion_of c.recorded, c.may.above before e);
    digest = λ recorded e same. ap digest_of c.recorded ∙ ap (λ (d : Digest). Some d) (sym (c.may.same recorded (whole old recorded e (sym (ap completion_of c.recorded) ∙ same))));
    floor = λ before e. inl (some_there (completion_of new) height (ap completion_of c.recorded));
  } where
    whole : (state : Option (SyncState S K C)) (recorded : Digest) → digest_of state ≡ Some recorded → Some height ≡ completion_of state → state ≡ Some (Complete height (Some recorded))
    whole None recorded e at = absurd cc
    whole (Some (InProgress f)) recorded e at = absurd cc
    whole (Some (Complete h known)) recorded e at = rw (e, sym (same_Some height h at)) refl

  ahead_call : (old new : Option (SyncState S K C)) → Call old new → IsAhead old new
  ahead_call old new (takes_floor f t) = ahead_taken old new f t
  ahead_call old new (completes height digest c) = ahead_completed old new height digest c
  ahead_call old new (changes_nothing same) = ahead_same old new same

  ahead_calls : (old new : Option (SyncState S K C)) → Calls old new → IsAhead old new
  ahead_calls old new (none {state = state}) = ahead_same state state refl
  ahead_calls old new (further {old = first} {mid = mid} {new = last} call calls) = ahead_then first mid last (ahead_call first mid call) (ahead_calls mid last calls)

  pub NeverFallsBack-all : (first : Option (SyncState S K C)) → NeverFallsBack first
  NeverFallsBack-all first earlier later before since = ahead_calls earlier later since
