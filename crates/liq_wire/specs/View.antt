-- The fields of the program as those of the definition.
use Rattle.std.specs.Prelude.{ℕ, List, get_or}
use Rattle.liq_wire.specs.Fields.{Fields}
use Rattle.liq_wire.specs.declared.fields.Fields as program

abbrev pub seen : program.Fields → (gap rest : List ℕ) → Fields
seen f gap rest = record {
  kind = f.kind;
  gap = gap;
  client = f.client;
  number = f.number;
  account = f.account;
  other = f.other;
  amount = get_or f.amounts 0 0;
  amount_2 = get_or f.amounts 1 0;
  amount_3 = get_or f.amounts 2 0;
  amount_4 = get_or f.amounts 3 0;
  amount_5 = get_or f.amounts 4 0;
  before = f.before;
  after = f.after;
  rest = rest;
}
