-- Why commands have no review.
use Rattle.liq_disk_pair.specs.declared.side.Side.{Side}
use Rattle.liq_text_audit.specs.declared.fault.ReviewFault.{ReviewFault}
use Rattle.liq_text_audit.specs.declared.fault.ReviewFault.TheVariants as review
use Rattle.liq_word_exit.specs.declared.halts.Halt.{Halt}
use Rattle.liq_word_exit.specs.declared.halts.Halt.TheVariants.{Damaged, Limit, NoMemory}

-- why commands that stand on the disk of this side have no review
abbrev pub halt_on : Side → ReviewFault → Halt
halt_on side (review.Refused index code) = Damaged side index
halt_on side (review.Limit number) = Limit number
halt_on side review.NoMemory = NoMemory
