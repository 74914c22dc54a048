-- How serving an input ends, as an end of the program.
use Rattle.std.specs.Prelude.{Ok, Err}
use Rattle.liq_types.specs.declared.amounts.TheConstants.{LINES_MOST}
use Rattle.liq_text_lines.specs.declared.stops.Stop.{Stop}
use Rattle.liq_text_lines.specs.declared.stops.Stop.TheVariants as stop
use Rattle.liq_word_serve.specs.declared.input.Finish.{Finish}
use Rattle.liq_word_serve.specs.declared.input.Finish.TheVariants as finish
use Rattle.liq_word_exit.specs.declared.halts.Halt.{Halt}
use Rattle.liq_word_exit.specs.declared.halts.Halt.TheVariants.{BadLine, ReadFault, WriteFault, DiskFault, NoMemory, Limit}
use Rattle.liq_word_exit.specs.Unopened.{halt_of}
use Rattle.liq_word_exit.specs.Statuses.{End}

-- why a word stops whose input was not read to its end
abbrev pub halt_at : Stop → Halt
halt_at (stop.BadLine number) = BadLine number
halt_at stop.ReadFault = ReadFault
halt_at stop.NoMemory = NoMemory
halt_at stop.Limit = Limit LINES_MOST

abbrev pub end_of : Finish → End
end_of finish.All = Ok tt
end_of (finish.NotRead why) = Err (halt_at why)
end_of (finish.NotOpened why) = Err (halt_of why)
end_of finish.NoMemory = Err NoMemory
end_of finish.DiskFault = Err DiskFault
end_of finish.WriteFault = Err WriteFault
