use Rattle.std.proofs.Common.{sym}
use Rattle.stateful_play.proofs.Ends.{was_told, told_done, told_halted, told_cut, told_wanting, never_usage, never_script, never_read_fault}
use Rattle.stateful_play.proofs.top.run.Goals as goal

pub returns-in-Ok-play-clause-done : goal.returns-in-Ok-play-clause-done
returns-in-Ok-play-clause-done g c =
    let told = was_told _ _ _ _ _ _ _ _ _ _ _ c.in-Ok.ensures.found c.in-Ok-play.ensures.play c.in-Ok-play.ensures.shown c.write_transcript.ensures.status c.write_transcript.ensures.played in
    λ e. (sym c.if-not-asks_play.ensures, told_done _ _ _ _ _ _ _ told e)

pub returns-in-Ok-play-clause-halted : goal.returns-in-Ok-play-clause-halted
returns-in-Ok-play-clause-halted g c =
    let told = was_told _ _ _ _ _ _ _ _ _ _ _ c.in-Ok.ensures.found c.in-Ok-play.ensures.play c.in-Ok-play.ensures.shown c.write_transcript.ensures.status c.write_transcript.ensures.played in
    λ at e. (sym c.if-not-asks_play.ensures, told_halted _ _ _ _ _ _ _ told at e)

pub returns-in-Ok-play-clause-usage : goal.returns-in-Ok-play-clause-usage
returns-in-Ok-play-clause-usage g c =
    let told = was_told _ _ _ _ _ _ _ _ _ _ _ c.in-Ok.ensures.found c.in-Ok-play.ensures.play c.in-Ok-play.ensures.shown c.write_transcript.ensures.status c.write_transcript.ensures.played in
    λ e. absurd (never_usage _ _ _ _ _ _ _ told e)

pub returns-in-Ok-play-clause-script : goal.returns-in-Ok-play-clause-script
returns-in-Ok-play-clause-script g c =
    let told = was_told _ _ _ _ _ _ _ _ _ _ _ c.in-Ok.ensures.found c.in-Ok-play.ensures.play c.in-Ok-play.ensures.shown c.write_transcript.ensures.status c.write_transcript.ensures.played in
    λ line e. absurd (never_script _ _ _ _ _ _ _ told line e)

pub returns-in-Ok-play-clause-read_fault : goal.returns-in-Ok-play-clause-read_fault
returns-in-Ok-play-clause-read_fault g c =
    let told = was_told _ _ _ _ _ _ _ _ _ _ _ c.in-Ok.ensures.found c.in-Ok-play.ensures.play c.in-Ok-play.ensures.shown c.write_transcript.ensures.status c.write_transcript.ensures.played in
    λ e. absurd (never_read_fault _ _ _ _ _ _ _ told e)

pub returns-in-Ok-play-clause-write_fault : goal.returns-in-Ok-play-clause-write_fault
returns-in-Ok-play-clause-write_fault g c =
    let told = was_told _ _ _ _ _ _ _ _ _ _ _ c.in-Ok.ensures.found c.in-Ok-play.ensures.play c.in-Ok-play.ensures.shown c.write_transcript.ensures.status c.write_transcript.ensures.played in
    told_cut _ _ _ _ _ _ _ told _ (sym c.if-not-asks_play.ensures)

pub returns-in-Ok-play-clause-memory : goal.returns-in-Ok-play-clause-memory
returns-in-Ok-play-clause-memory g c =
    let told = was_told _ _ _ _ _ _ _ _ _ _ _ c.in-Ok.ensures.found c.in-Ok-play.ensures.play c.in-Ok-play.ensures.shown c.write_transcript.ensures.status c.write_transcript.ensures.played in
    told_wanting _ _ _ _ _ _ _ told _ (sym c.if-not-asks_play.ensures)
