-- What counting a command makes of a protocol, and what an allowed command does.
use Rattle.std.proofs.Common.{◌≡◌, ℕ, ◌+◌, ◌<◌, true, cond, ap, sym, subst, ◌∙◌, arith}
use Rattle.std.specs.Prelude.{if◌then◌else◌}
use Rattle.std.proofs.lemmas.Bool.Decides.{nat_tests}
use Rattle.liq_types.specs.declared.amounts.TheConstants.{ACCOUNTS, RECORDS_MOST}
use Rattle.liq_types.specs.declared.figures.Client.{Client}
use Rattle.liq_types.specs.declared.replies.Done.{Done}
use Rattle.liq_types.specs.declared.requests.Command.{Command}
use Rattle.liq_types.specs.declared.image.Image.{Image}
use Rattle.liq_order.specs.Order.{order_by}
use Rattle.liq_types.specs.Soundness.{IsSoundImage}
use Rattle.liq_types.specs.State.{State, is_used_client}
use Rattle.liq_types.specs.Tables.{Table, put, without}
use Rattle.liq_tables.specs.WithRoom.{WithRoom, written}
use Rattle.liq_core.specs.declared.engine.Protocol.TheInside.{Inside}
use Rattle.liq_core.specs.Core.{Core, StandsFor, state_of}
use Rattle.liq_core.specs.Sound.{IsSound, IsKeptRow, core_of}
use Rattle.liq_rule_step.specs.Image.{image}
use Rattle.liq_rule_step.specs.Step.{Allowed, after, noted, ruling}
use Rattle.liq_types.specs.Verbs.{is_rotate}
use Rattle.liq_rule_step.proofs.SoundRules.{noted_sound}
use Rattle.liq_rule_sound.specs.SoundState.{IsSoundState}
use Rattle.liq_rule_sound.proofs.SoundStart.{started_with}
use Rattle.liq_rule_sound.proofs.SoundStep.{after_sound}
use Rattle.std.proofs.Common.{false}

pub kept_rows : (table : Table Client) (key : ℕ) (row : Client) → 0 < row.last → written is_used_client table key row
    ≡ put table key row
kept_rows table key row h =
    let used : is_used_client row ≡ true = grind (arith, nat_tests, h) in
    ap (λ b. cond b (put table key row) (without table key)) used

module _ (p : Inside) (c : Command) (done : Done) (clients : WithRoom Client) (number : 0 < c.number)
    (wrote : clients.rows ≡ written is_used_client p.clients.rows c.client (record {
      last = c.number;
      kept = done;
    })) where
  rows_are : clients.rows ≡ put p.clients.rows c.client (record { last = c.number; kept = done })
  rows_are = wrote ∙ kept_rows p.clients.rows c.client (record { last = c.number; kept = done }) number

  pub noted_keeps : IsSound p → c.client < ACCOUNTS → p.records < RECORDS_MOST
      → IsKeptRow (record { last = c.number; kept = done })
      → IsSound (record p { records = p.records + 1; clients = clients })
  noted_keeps sound within few kept =
      record {
        image =
            subst (λ (t : Table Client). IsSoundImage (record (core_of p).image { clients = t }) (p.records + 1))
            (sym rows_are)
            (noted_sound (core_of p).image p.records c.client (record { last = c.number; kept = done }) sound.image
            within few kept.form kept.shown);
        order = sound.order;
      }

  pub noted_stands : (old : Core) → core_of p ≡ old → is_rotate c.call ≡ false → (s : State) → StandsFor old s
      → StandsFor (core_of (record p { records = p.records + 1; clients = clients })) (noted s c done)
  noted_stands old view stays s h =
      let row : Client = record { last = c.number; kept = done } in
      record {
        image =
            ap (λ (t : Table Client). record (core_of p).image { clients = t }) rows_are
            ∙ ap (λ (core : Core). record core.image { clients = put core.image.clients c.client row }) view
            ∙ ap (λ (i : Image). record i { clients = put i.clients c.client row }) h.image;
        records =
            ap (λ (core : Core). core.records + 1) view
            ∙ ap (λ n. n + 1) h.records
            ∙ sym (ap (λ b. if b then 0 else s.records + 1) stays);
        formed = h.formed;
      }

-- a protocol with the image and the records that an allowed command leaves is a sound one, and stands for what it
-- leaves
module _ (p q : Inside) (sound : IsSound p) (c : Command) (allowed : ruling (state_of (core_of p)) c ≡ Allowed)
    (image_is : (core_of q).image ≡ image (after (state_of (core_of p)) c))
    (records_is : (after (state_of (core_of p)) c).records ≡ q.records) where
  good : IsSoundState (after (state_of (core_of p)) c)
  good = after_sound (state_of (core_of p)) (started_with (core_of p).image p.records sound.image) c allowed

  pub made_stands : (old : Core) → core_of p ≡ old → StandsFor (core_of q) (after (state_of old) c)
  made_stands old view =
      subst (λ (core : Core). StandsFor (core_of q) (after (state_of core) c)) view
      (record { image = image_is; records = sym records_is; formed = good.formed })

  pub made_sound : q.order.entries ≡ order_by q.troves.table.rows → IsSound q
  made_sound listed =
      record {
        image =
            subst (λ (i : Image). IsSoundImage i q.records) (sym image_is)
            (subst (λ n. IsSoundImage (image (after (state_of (core_of p)) c)) n) records_is good.sound);
        order = listed;
      }
