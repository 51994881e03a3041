-- The laws of a set of one database.
use Rattle.std.proofs.Common.{◌≡◌, ℕ, ◌+◌, ◌≤◌, refl, arith}
use Rattle.std.specs.Prelude.{slice_get}
use Rattle.stateful_base.specs.declared.target.Target.{Target}
use Rattle.stateful_db.specs.Chain.{ids}
use Rattle.stateful_db.specs.Databases.{Preserves}
use Rattle.stateful_db.specs.Member.{Member}
use Rattle.stateful_db.specs.Single.{single}
use Rattle.stateful_db.specs.Laws.{KeepsUpTo, KeepsFrom, IdLaws, TargetLaws, PlaceLaws, ApplyLaws}
use Rattle.stateful_db.specs.Laws.{FinalizeLaws, FlushLaws, PruneLaws, OpeningLaws, Laws}
use Rattle.stateful_db.specs.MemberLaws.{AllBelow-cut, has_newest, newest_has, whole_state}
use Rattle.stateful_db.specs.MemberLaws.{has_kept, has_point, openable_closed, not_away_openable}
use Rattle.stateful_db.specs.MemberLaws.{not_away_here}
use Rattle.stateful_db.specs.MemberLaws.{idle_from, room_from, idle_room, tokens_idle}
use Rattle.stateful_db.specs.MemberLaws.{keeps_applied, first_applied, place_applied}
use Rattle.stateful_db.specs.MemberLaws.{durable_applied, tokens_applied, point_applied}
use Rattle.stateful_db.specs.MemberLaws.{kept_applied, kept_lost_applying, durable_lost_applying}
use Rattle.stateful_db.specs.MemberLaws.{keeps_finalized, first_finalized, place_finalized}
use Rattle.stateful_db.specs.MemberLaws.{durable_finalized, tokens_finalized, point_finalized}
use Rattle.stateful_db.specs.MemberLaws.{has_finalized, kept_finalized, lost_finalizing}
use Rattle.stateful_db.specs.MemberLaws.{keeps_flushed, first_flushed, place_flushed}
use Rattle.stateful_db.specs.MemberLaws.{durable_flushed, tokens_flushed, point_flushed}
use Rattle.stateful_db.specs.MemberLaws.{flushed_preserves, lost_flushing, crashed, sound_crashed}
use Rattle.stateful_db.specs.MemberLaws.{prunable_from, keeps_pruned, first_pruned, place_pruned}
use Rattle.stateful_db.specs.MemberLaws.{durable_pruned, tokens_pruned, point_pruned, has_pruned}
use Rattle.stateful_db.specs.MemberLaws.{kept_pruned, lost_pruning, not_refused, refused}
use Rattle.stateful_db.specs.MemberLaws.{refused_reclosed, cause, opened_at, UpTo, up_to_reopened}
use Rattle.stateful_db.specs.MemberLaws.{up_to_reclosed, up_to_not_opened, not_away_reopened}
use Rattle.stateful_db.specs.MemberLaws.{not_away_reclosed, openable_reclosed, openable_not_opened}
use Rattle.stateful_db.specs.MemberLaws.{AllBelow-le}

module _ {S T : Type 0} (target_of : S → T) (targeted : T → Target) (begun : S → S)
    (initial : S) where
  ids_laws : IdLaws (single target_of targeted begun initial)
  ids_laws = record {
    issued_first = λ n p c h. (h.0, tt);
    issued_other = λ n i s t c h. h;
    issued_cut = AllBelow-cut;
    issued_following = λ n c. AllBelow-le n (n + 1) (ids c) (omega arith);
  }

  place_laws : PlaceLaws (single target_of targeted begun initial)
  place_laws = record {
    openable_closed = openable_closed;
    away_openable = not_away_openable;
    away_here = not_away_here;
    has_state = λ m p i. has_point m p;
    has_newest = λ m p i within. has_newest m p;
    newest_has = λ m i s within. newest_has m s;
    whole_states = λ m p s is all. whole_state m p s is (all 0 (omega arith));
    has_kept = λ m i origin k states s within. has_kept m origin k states s;
    idle_from = λ m p is out. idle_from m p is (out 0 (omega arith));
    room_from = λ m p is out. room_from m p is (out 0 (omega arith));
    idle_room = idle_room;
    tokens_idle = λ m i. tokens_idle m;
  }

  apply_laws : ApplyLaws (single target_of targeted begun initial)
  apply_laws = record {
    keeps_applied = λ m p q i origin states within. keeps_applied m p q origin states;
    first_applied = λ m q i. first_applied m q;
    place_applied = λ m p q i within. place_applied m p q;
    durable_applied = λ m q i. durable_applied m q;
    tokens_applied = λ m q i. tokens_applied m q;
    point_applied = point_applied;
    preserves_applied = λ m q. record {
      kept = λ i k s within. kept_applied m q k s;
      durable = λ i within. omega (arith, durable_applied m q);
    };
    preserves_lost_applying = λ m n q i is. record {
      kept = λ j k s within. kept_lost_applying m n q.1 k s is.1;
      durable = λ j within. durable_lost_applying m n q.1 is.1;
    };
  }

  finalize_laws : FinalizeLaws (single target_of targeted begun initial)
  finalize_laws = record {
    keeps_finalized = λ m i. keeps_finalized m;
    first_finalized = λ m i. first_finalized m;
    place_finalized = λ m i. place_finalized m;
    durable_finalized = λ m i. durable_finalized m;
    tokens_finalized = λ m p i within. tokens_finalized m p;
    point_finalized = point_finalized;
    state_finalized = λ m i. has_finalized m;
    preserves_finalized = λ m. record {
      kept = λ i k s within. kept_finalized m k s;
      durable = λ i within. omega (arith, durable_finalized m);
    };
    preserves_lost_finalizing = λ m n i is. record {
      kept = λ j k s within. (lost_finalizing m n is.1).0 k s;
      durable = λ j within. (lost_finalizing m n is.1).1;
    };
  }

  flush_laws : FlushLaws (single target_of targeted begun initial)
  flush_laws = record {
    keeps_flushed = λ m n at i. keeps_flushed m at;
    first_flushed = λ m n at i. first_flushed m at;
    place_flushed = λ m n at i. place_flushed m at;
    durable_flushed = λ m p n at within. durable_flushed m p at;
    durable_others = λ m n at i within below other. absurd (other (omega arith));
    tokens_flushed = λ m n at within. tokens_flushed m at;
    tokens_others = λ m n at i within below other. absurd (other (omega arith));
    point_flushed = λ m n at. point_flushed m at;
    preserves_flushed = λ m n at. record {
      kept = λ i k s within. (flushed_preserves m at).0 k s;
      durable = λ i within. (flushed_preserves m at).1;
    };
    preserves_lost_flushing = λ m k n at is. record {
      kept = λ i j s within. (lost_flushing m k at is.1).0 j s;
      durable = λ i within. (lost_flushing m k at is.1).1;
    };
  }

  prune_laws : PruneLaws (single target_of targeted begun initial)
  prune_laws = record {
    prunable_from =
        λ m t sound idle kept. let k =
        kept 0 (omega arith) in prunable_from target_of targeted m t k.0 k.1 sound idle k.2 k.3 k.4;
    keeps_pruned = λ m t i. keeps_pruned target_of targeted m t;
    first_pruned =
        λ m t i k s sound prunable within. first_pruned target_of targeted m t k s sound prunable;
    place_pruned = λ m t i. place_pruned target_of targeted m t;
    durable_pruned = λ m t i. durable_pruned target_of targeted m t;
    tokens_pruned = λ m t i. tokens_pruned target_of targeted m t;
    point_pruned = point_pruned target_of targeted;
    state_pruned = λ m t i. has_pruned target_of targeted m t;
    kept_pruned = λ m t prunable. record {
      kept = λ i k s within. kept_pruned target_of targeted m t k s prunable;
      durable = λ i within. durable_pruned target_of targeted m t;
    };
    kept_lost_pruning = λ m n t i prunable is. record {
      kept = λ j k s within. (lost_pruning target_of targeted m n t prunable is.1).0 k s;
      durable = λ j within. (lost_pruning target_of targeted m n t prunable is.1).1;
    };
  }

  up_to : (t : T) (m n : Member S)
      → UpTo target_of targeted t m n
      → KeepsUpTo (single target_of targeted begun initial) t m n
  up_to t m n is = record {
    kept = λ i k s within h near. (is k s h near).0;
    durable = λ i k s within h near. (is k s h near).1;
  }

  opening_laws : OpeningLaws (single target_of targeted begun initial)
  opening_laws = record {
    openable_crashed = λ m n keep is. (crashed m n (slice_get keep 0) is).0;
    durable_crashed = λ m n keep i within is. (crashed m n (slice_get keep 0) is).1;
    sound_crashed = λ m n keep. sound_crashed target_of targeted m n (slice_get keep 0);
    kept_crashed = λ m n keep i at s within is. (crashed m n (slice_get keep 0) is).2 at s;
    refused = λ m n expected i why within. refused target_of targeted m n expected why;
    refused_first = λ m n expected i j why given before now within refuses is. omega (arith, is.0);
    cause =
        λ m n expected i why before now is. cause target_of targeted m expected before now why n
        is.1;
    not_refused = λ m t i at s why sound within. not_refused target_of targeted m t at s why sound;
    opened_at = λ m n t i at s sound within. opened_at target_of targeted m n t at s sound;
    kept_reclosed =
        λ m n t sound is. up_to t m n (up_to_reclosed target_of targeted m n t sound is);
    refused_reclosed =
        λ m n expected i why within. refused_reclosed target_of targeted m n expected why;
    away_reclosed = not_away_reclosed target_of targeted;
    openable_reclosed = openable_reclosed target_of targeted;
    kept_reopened =
        λ m n t sound is. up_to t m n (up_to_reopened target_of targeted m n t sound is);
    kept_not_opened =
        λ m n t j why before now sound is. up_to t m n
        (up_to_not_opened target_of targeted m n t before now why is.1);
    away_reopened = not_away_reopened target_of targeted;
    away_not_opened =
        λ m n expected i why before now h is. not_away_openable n
        (openable_not_opened target_of targeted m n expected before now why is.1);
    openable_not_opened =
        λ m n expected i why before now h is. openable_not_opened target_of targeted m n expected
        before now why is.1;
  }

  pub single_laws : Laws (single target_of targeted begun initial)
  single_laws = record {
    ids = ids_laws;
    targets = record { agrees_all = λ t u same. same 0 (omega arith); agrees_same = λ t i. refl };
    places = place_laws;
    apply = apply_laws;
    finalize = finalize_laws;
    flush = flush_laws;
    prune = prune_laws;
    opening = opening_laws;
  }
