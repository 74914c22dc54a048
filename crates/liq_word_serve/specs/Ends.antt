-- How a service ends.
use Rattle.std.specs.Prelude.{Bool, true, false, Option, Some, None}
use Rattle.liq_book.specs.declared.items.Halt.{Halt}
use Rattle.liq_word_serve.specs.declared.served.End.{End}
use Rattle.liq_word_serve.specs.declared.served.End.TheVariants as end

-- by a fault, or with all that was asked, or without
abbrev pub end_of : Option Halt → Bool → End
end_of (Some halt) whole = end.DiskFault halt
end_of None true = end.All
end_of None false = end.NoMemory

abbrev pub halt_of : End → Option Halt
halt_of (end.DiskFault halt) = Some halt
halt_of end.All = None
halt_of end.NoMemory = None
