use Rattle.std.proofs.lemmas.Result.{on_ok_weaker}
use Rattle.liq_report.proofs.text.send_report.Goals as goal

pub returns : goal.returns
returns g c =
    let written = g.S.Serializer.written in
    on_ok_weaker c.end_map.result (λ ended. (
      written c.begin_map.new.self,
      c.in_ok-begin_map.ensures,
      (
        written c.key.new.self,
        written c.send_deposits.new.out,
        c.in_ok-key.ensures,
        c.in_ok-send_deposits.ensures,
        (
          written c.key-2.new.self,
          written c.send_pool.new.out,
          c.in_ok-key-2.ensures,
          c.in_ok-send_pool.ensures,
          (
            written c.key-3.new.self,
            written c.send_system.new.out,
            c.in_ok-key-3.ensures,
            c.in_ok-send_system.ensures,
            (
              written c.key-4.new.self,
              written c.send_troves.new.out,
              c.in_ok-key-4.ensures,
              c.in_ok-send_troves.ensures,
              ended,
            ),
          ),
        ),
      ),
    )) c.end_map.ensures
