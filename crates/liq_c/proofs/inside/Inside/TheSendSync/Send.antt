use Rattle.std.specs.Prelude.{Option, Some, None}
use mir.Raw.{raw}
use base.Shift.{Keyless}
use denote.Builtin.{RawPtr}
use denote.Memory.{lone}
use denote.RawPtr.{Ptr}
use denote.Param.Send.{IsSend, owning_send, struct_send, sendable}
use denote.Struct.Struct.{exits_of}
use denote.Struct.Owning.{shape, fields, to}
use Rattle.std_alloc.proofs.SendSync.{lies, quiet}
use Rattle.std.proofs.MapsCrossing.{crosses as maps}
use Rattle.std.proofs.Crossing.{crosses, frees}
use Rattle.std_heap.specs.declared.Global.{Global}
use Rattle.std_heap.specs.contracts.Global.{the_field as GF}
use Rattle.std_heap.specs.contracts.GlobalAllocator.TheImpl.{ghosts}
use Rattle.liq_c.specs.Held.{holds}
use Rattle.liq_core_hinted.specs.contracts.guided.Guided.{the_row as UR}
use Rattle.liq_market.specs.contracts.market.Market.{the_row as CR}
use Rattle.liq_c.specs.contracts.inside.Inside.{the_row, the_type}

ps : IsSend RawPtr
ps = search sendable

gs : IsSend GF.row
gs = search sendable

us : IsSend UR
us = search (sendable, crosses, maps) depth 60 fits 30000 steps 20000000

cs : IsSend CR
cs = search (sendable, crosses, gs, us) depth 20

heap : (a : Global) (p : Ptr) (m : Option CR.Denot) → Keyless (holds (ghosts.dealloc_token a) CR p m)
heap a p None = tt
heap a p (Some x) = (lies CR cs p x, frees.frees a (raw (lone CR.mir)) p)

pub send : IsSend the_row
send = owning_send the_type (ps, (gs, tt)) (λ d. heap d.alloc d.at d.held)
    (λ k. quiet (to the_type) (exits_of k (fields the_type)) ((struct_send (shape the_type) (ps, (gs, tt))).leaving k))
