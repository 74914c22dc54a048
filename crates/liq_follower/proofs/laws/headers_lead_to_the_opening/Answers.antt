use Rattle.liq_follower.proofs.Headers.{no_header, shut_leads, whole_header, wrong}
use Rattle.liq_follower.proofs.laws.headers_lead_to_the_opening.Goals as goal

pub returns-clause-begun : goal.returns-clause-begun
returns-clause-begun g bytes none = no_header bytes none

pub returns-clause-shut : goal.returns-clause-shut
returns-clause-shut g bytes isnt = shut_leads bytes isnt

pub returns-clause-whole : goal.returns-clause-whole
returns-clause-whole g bytes gate whole right first = whole_header bytes gate whole right first

pub returns-clause-wrong : goal.returns-clause-wrong
returns-clause-wrong g bytes gate whole isnt none = wrong bytes gate whole isnt none
