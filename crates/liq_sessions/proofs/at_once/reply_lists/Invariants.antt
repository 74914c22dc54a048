use Rattle.std.proofs.Common.{take}
use Rattle.std.specs.List.{AllZip}
use Rattle.liq_sessions.specs.Sessions.{HasRoom}
use Rattle.liq_sessions.proofs.at_once.reply_lists.Given as goal

abbrev pub invariant-loop-one : goal.invariant-loop-one
invariant-loop-one g l = AllZip HasRoom (take l.one-index l.work) l.lists.items
