use Rattle.std.proofs.Common.{refl, subst, sym}
use Rattle.liq_core.specs.Core.{Core, StandsFor}
use Rattle.liq_word_state.specs.State.{standing}
use Rattle.liq_word_follow.specs.Followed.{IsWhole}
use Rattle.liq_word_follow.proofs.Telling.{told_whole}
use Rattle.liq_word_follow.proofs.following.follow.Goals as goal

pub returns-clause-followed : goal.returns-clause-followed
returns-clause-followed g c =
    let at = g.K.Sink.at in
    let left = (g.S.Source.at c.feed_input.new.input).left in
    let fed = c.in_ok-feed_input.ensures.fed in
    let read = fed.0 in
    let goes = fed.2.3 in
    let state = goes.0 in
    let stands = subst (λ (core : Core). StandsFor core state) (sym c.protocol.ensures)
    (c.followers_stand.ensures read state fed.2.2 goes.1) in
    let wrote = c.write_standing.ensures.written state stands in
    let whole : IsWhole read left (standing state) = record {
      few = fed.2.0;
      over = fed.2.1;
      state = state;
      leads = goes.1;
      told = refl;
    } in
    let told = told_whole read left (at c.args.out.now).held (at c.write_standing.new.out).held
    (standing state) c.write_standing.result whole c.write_standing.ensures.no_disk wrote in
    (read, fed.1, (standing state, told.0, told.1))
