-- Samples of a committee's replies.
use Rattle.std.specs.Prelude.{◌≡◌, ℕ, ◌+◌, ◌≤◌, ◌↔◌, Bool, not, ◌&&◌, if◌then◌else◌, is_some}
use Rattle.std.specs.Prelude.{is_none, Option, Some, None, IsSome, IfSome, List, [], ◌∷◌, ◌++◌, All}
use Rattle.std.specs.Prelude.{filter, length}
use Rattle.std.specs.List.{Any}
use Rattle.std.specs.Map.{values_of, lookup}
use Rattle.std.specs.BTreeMap.{is_at, insert_entry}
use Rattle.std.specs.declared.cmp.Ordering.{Ordering}
use Rattle.stateful_base.specs.Round.{IsLater}
use Rattle.stateful_base.specs.Scheme.{max_faults}
use Rattle.stateful_base.specs.declared.number.Epoch.{Epoch}
use Rattle.stateful_base.specs.declared.round.Round.{Round}
use Rattle.stateful_base.specs.declared.finalization.Finalization.{Finalization}

-- the lowest epoch that counts, the first reply of each peer since the last reset, by ascending
-- keys, and the floor
pub record Sampled (K C : Type 0) : Type 0 where
  pub minimum_epoch : Epoch
  pub replies : List (K × Finalization C)
  pub floor : Option (Finalization C)

module _ {K C : Type 0} (cmp : K → K → Ordering) where
  -- whether a reply of this peer is recorded
  abbrev pub has_replied : List (K × Finalization C) → K → Bool
  has_replied replies peer = is_some (lookup (is_at (cmp peer)) replies)

  -- whether a reply of this peer is awaited: none is recorded
  abbrev pub awaits : Sampled K C → K → Bool
  awaits s peer = not (has_replied s.replies peer)

  -- whether a reply of this peer still counts: no floor is selected, and it is awaited
  abbrev pub still_counts : Sampled K C → K → Bool
  still_counts s peer = is_none s.floor && awaits s peer

  -- the replies with one more, where it is the peer's first
  abbrev pub with_reply : Sampled K C → K → Finalization C → Sampled K C
  with_reply s peer f =
      if has_replied s.replies peer
      then s
      else record s { replies = insert_entry cmp s.replies peer f }

module _ {K C : Type 0} where
  -- without replies and without a floor
  abbrev pub cleared : Sampled K C → Sampled K C
  cleared s = record s { replies = []; floor = None }

  -- with the floor that was selected, if one was
  abbrev pub with_floor : Sampled K C → Option (Finalization C) → Sampled K C
  with_floor s None = s
  with_floor s (Some f) = record s { floor = Some f }

-- this one has the highest round of them, and of equal rounds it is the first
pub record IsHighest {C : Type 0} (among : List (Finalization C))
    (f : Finalization C) : Type 0 where
  pub front : List (Finalization C)
  pub back : List (Finalization C)
  pub place : among ≡ front ++ f ∷ back
  pub first : All (λ g. IsLater g.round f.round) front
  pub highest : All (λ g. IsLater f.round g.round → ⊥) back

-- one of them has this round, and none has a later one
pub record IsHighestRound {C : Type 0} (among : List (Finalization C))
    (round : Round) : Type 0 where
  pub reached : Any (λ f. f.round ≡ round) among
  pub bounds : All (λ f. IsLater round f.round → ⊥) among

module _ {K C : Type 0} (committee : ℕ) (judges : Finalization C → Bool) where
  -- the recorded replies that can be judged
  abbrev pub judged : Sampled K C → List (Finalization C)
  judged s = filter judges (values_of s.replies)

  -- A floor is chosen exactly where none was selected and more replies can be judged than
  -- participants may be faulty; it is the highest of these.
  pub record Selects (s : Sampled K C) (chosen : Option (Finalization C)) : Type 0 where
    pub exactly : IsSome chosen
        ↔ ((s.floor ≡ None) × (max_faults committee + 1 ≤ length (judged s)))
    pub highest : IfSome chosen (IsHighest (judged s))
