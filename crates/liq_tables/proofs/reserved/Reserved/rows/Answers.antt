use Rattle.std.proofs.Common.{◌≡◌, ◌++◌, ◌∷◌, ◌+◌, ℕ, [], ap, sym, ◌∙◌, arith, Option, Vec, Global}
use Rattle.std.proofs.lemmas.List.{append-nil}
use Rattle.liq_types.specs.Tables.{Table, at}
use Rattle.liq_tables.specs.Pages.{listed, with_row}
use Rattle.liq_tables.specs.WithRoom.{WithRoom}
use Rattle.liq_tables.proofs.Listed.{listed_more}
use Rattle.liq_tables.proofs.Room.{all_seen}
use Rattle.liq_tables.proofs.reserved.Reserved.rows.Goals as goal
use Rattle.liq_tables.proofs.reserved.Reserved.rows.Goals.{in-Some+in-Ok, in_default}

pub loop-key-init : goal.loop-key-init
unfolding listed
loop-key-init g c = c.new-found.ensures.items

pub loop-key-preserved : goal.loop-key-preserved
loop-key-preserved g c =
    let found = at c.args.self.now.rows in
    let more : listed found 0 (c.loop-key.key + 1) ≡ listed found 0 c.loop-key.key ++ with_row c.loop-key.key
    (found c.loop-key.key) [] = listed_more found c.loop-key.key in
    elim c.match-get.branch [
      | in-Some+in-Ok w ↦
          ap (λ (v : Vec (ℕ × g.row.X.Denot) Global). v.items) w.found-is
          ∙ w.in-Ok.ensures.items
          ∙ ap (λ (t : Table g.row.X.Denot). t ++ (c.loop-key.key, w.in-Some.row.now) ∷ []) c.loop-key.invariant
          ∙ ap (λ (o : Option g.row.X.Denot). listed found 0 c.loop-key.key ++ with_row c.loop-key.key o [])
          w.in-Some.ensures.row
          ∙ sym more
      | in_default w ↦
          ap (λ (v : Vec (ℕ × g.row.X.Denot) Global). v.items) w.found-is
          ∙ c.loop-key.invariant
          ∙ sym (append-nil (listed found 0 c.loop-key.key))
          ∙ ap (λ (o : Option g.row.X.Denot). listed found 0 c.loop-key.key ++ with_row c.loop-key.key o [])
          w.in_default.ensures.row
          ∙ sym more
    ]

pub returns : goal.returns
returns g c =
    let past : c.loop-key.key ≡ c.end-key-end.result = omega (arith, c.loop-key-test.false, c.loop-key.auto.key-end) in
    c.loop-key.invariant
    ∙ ap (λ n. listed (at c.args.self.now.rows) 0 n) past
    ∙ all_seen g.X.Row.used c.self.inside.index c.args.self.now.rows c.end-key-end.result
    (ap (λ (t : WithRoom g.row.X.Denot). t.rows) c.self.view_is) c.end-key-end.ensures.ascend
    c.end-key-end.ensures.above
