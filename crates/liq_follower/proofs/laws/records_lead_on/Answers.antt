use Rattle.std.proofs.Common.{refl}
use Rattle.liq_follower.proofs.Fronts.{bad_command, bad_form, leads, one_record_more}
use Rattle.liq_follower.proofs.laws.records_lead_on.Goals as goal

pub returns-clause-rest : goal.returns-clause-rest
returns-clause-rest g front rest s e none = leads front s e rest none

pub returns-clause-made : goal.returns-clause-made
returns-clause-made g front raw s c e size read allowed = one_record_more front s e raw size _ refl c read allowed

pub returns-clause-refused : goal.returns-clause-refused
returns-clause-refused g front raw s c e size read isnt = bad_command front s e raw size _ refl c read isnt

pub returns-clause-fault : goal.returns-clause-fault
returns-clause-fault g front raw s e size read = bad_form front s e raw size _ refl read
