use Rattle.liq_core.proofs.Rooms.{within_itself}
use Rattle.liq_core.proofs.engine.Protocol.reserve_move.Goals as goal

pub returns-in-Price-clause-kept : goal.returns-in-Price-clause-kept
returns-in-Price-clause-kept c = within_itself c.args.self.now.room

pub returns-in-Price-2-clause-kept : goal.returns-in-Price-2-clause-kept
returns-in-Price-2-clause-kept c = within_itself c.args.self.now.room
