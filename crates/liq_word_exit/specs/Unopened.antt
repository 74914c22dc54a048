-- Why a word stops whose store was not opened.
use Rattle.liq_store.specs.declared.answers.StoreWhy.{StoreWhy}
use Rattle.liq_store.specs.declared.answers.StoreWhy.TheVariants as why
use Rattle.liq_word_exit.specs.declared.halts.Halt.{Halt}
use Rattle.liq_word_exit.specs.declared.halts.Halt.TheVariants.{DiskFault, Damaged, NoMemory}

abbrev pub halt_of : StoreWhy → Halt
halt_of why.DiskFault = DiskFault
halt_of (why.Damaged side damage) = Damaged side damage.index
halt_of why.NoMemory = NoMemory
