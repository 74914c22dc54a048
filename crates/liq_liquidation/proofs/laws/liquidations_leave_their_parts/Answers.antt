use Rattle.liq_liquidation.proofs.Left.{left_beside, left_books, left_list, left_sums, left_words}
use Rattle.liq_liquidation.proofs.laws.liquidations_leave_their_parts.Goals as goal

pub returns-clause-beside : goal.returns-clause-beside
returns-clause-beside c = left_beside

pub returns-clause-books : goal.returns-clause-books
returns-clause-books c = λ s v liquidator formed. left_books s v liquidator formed.1

pub returns-clause-list : goal.returns-clause-list
returns-clause-list c = λ s v liquidator formed stands made. left_list s v liquidator formed.1 stands.ascend made

pub returns-clause-words : goal.returns-clause-words
returns-clause-words c = λ s v liquidator formed. left_words s v liquidator formed.0 formed.3

pub returns-clause-finished : goal.returns-clause-finished
returns-clause-finished c = left_sums
