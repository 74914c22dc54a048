use Rattle.std.proofs.Common.{[], take}
use Rattle.liq_list_index.specs.Rows.{AreSettledBeside, Follows, key_at}
use Rattle.liq_list_index.proofs.rows.key_index_of.Given as goal

abbrev pub invariant-loop-place : goal.invariant-loop-place
invariant-loop-place l = record {
  follows : Follows (key_at l.stands) (take l.place-index l.list);
  settled : AreSettledBeside l.stands [];
}
