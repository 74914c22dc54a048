use Rattle.std.proofs.Common.{◌≡◌, ◌≤◌, ℕ, ◌++◌, length, take, Err, Result, rules, subst, sym}
use Rattle.liq_word_exit.specs.declared.halts.Halt.{Halt}
use Rattle.liq_word_follow.specs.Feeding.{FedNext}
use Rattle.liq_word_follow.specs.Followed.{StopsWithin}
use Rattle.liq_word_follow.proofs.Pieces.{taken}
use Rattle.liq_word_follow.proofs.feeding.feed_next.Goals as goal

pub returns-in_err-feed_piece-clause-fed : goal.returns-in_err-feed_piece-clause-fed
returns-in_err-feed_piece-clause-fed g c fed is goes =
    let at = g.S.Source.at in
    let read = take c.in-Ok.count c.read.new.buf in
    let halt = c.in_err-feed_piece.field-0.0 in
    let stopped : StopsWithin halt (fed ++ read) = search rules in
    let same : c.from_residual.result ≡ Err halt = search rules in
    let few : length read ≤ length c.args.piece.now = search rules in (
      read,
      taken (at c.args.input.now).left
          (at c.read.new.self).left c.in-Ok.count c.read.new.buf c.in-Ok.ensures.rest c.in-Ok.ensures.bytes,
      few,
      subst (λ (r : Result ℕ Halt). FedNext r fed read (at c.read.new.self).left c.feed_piece.new.follower)
          (sym same) stopped,
    )
