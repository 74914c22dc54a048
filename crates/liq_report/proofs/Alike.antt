-- Reports of states with the same image.
use Rattle.std.proofs.Common.{◌≡◌, ℕ, List, [], ◌∷◌, refl, sym, ap, ap₂, ◌∙◌, get_or, codes}
use Rattle.std.specs.Prelude.{decimal, map}
use Rattle.std.specs.Map.{keys_of}
use Rattle.std.proofs.lemmas.Map.Made.{keys_of-map_values}
use Rattle.liq_types.specs.declared.image.Image.{Image}
use Rattle.liq_types.specs.declared.replies.Info.TheVariants as info
use Rattle.liq_types.specs.declared.replies.Reply.{Reply}
use Rattle.liq_types.specs.declared.replies.Reply.TheVariants.{Told}
use Rattle.liq_types.specs.declared.requests.Query.TheVariants as query
use Rattle.liq_types.specs.State.{State}
use Rattle.liq_stability.specs.Position.{deposit_row}
use Rattle.liq_rule_step.proofs.AlikeReads.{Alike, balance_alike, gain_alike, sums_by}
use Rattle.liq_rule_step.proofs.AlikeReplies.{answer_alike}
use Rattle.liq_report.specs.Report.{deposit_text, deposits_text, pool_text, report_text, system_text, trove_text, troves_text}
use Rattle.liq_report.specs.Texts.{list_text, object_text, string_text}
use Rattle.liq_report.specs.declared.objects.Totals.{Totals}
use Rattle.liq_report.proofs.Written.{totals_text}

map_alike : (f g : ℕ → List ℕ) → ((n : ℕ) → f n ≡ g n) → (ns : List ℕ) → map f ns ≡ map g ns
map_alike f g same [] = refl
map_alike f g same (n ∷ ns) = ap₂ (λ (t : List ℕ) (ts : List (List ℕ)). t ∷ ts) (same n) (map_alike f g same ns)

told_words : Reply → List ℕ
told_words (Told (info.System words)) = words
told_words _ = []

-- ten words by their names, from where `system` has them
abbrev named : List ℕ → Totals
named words =
    record {
      price = get_or words 0 0;
      minute = get_or words 1 0;
      base = get_or words 2 0;
      fee_minute = get_or words 3 0;
      mode = get_or words 4 0;
      troves = get_or words 5 0;
      stakes = get_or words 6 0;
      coll = get_or words 7 0;
      debt = get_or words 8 0;
      records = get_or words 9 0;
    }

module _ {s t : State} (h : Alike s t) where
  deposit_alike : (account : ℕ) → deposit_text s account ≡ deposit_text t account
  deposit_alike account =
      ap₂ (λ (balance gain : ℕ). object_text ((codes "account", decimal account) ∷ (codes "balance", decimal balance)
      ∷ (codes "gain", decimal gain) ∷ [])) (balance_alike h account) (gain_alike h account)

  accounts_alike : keys_of s.deposits ≡ keys_of t.deposits
  accounts_alike =
      sym (keys_of-map_values (deposit_row s) s.deposits) ∙ ap (λ (i : Image). keys_of i.deposits) h.image
      ∙ keys_of-map_values (deposit_row t) t.deposits

  deposits_alike : deposits_text s ≡ deposits_text t
  deposits_alike = ap list_text (map_alike (deposit_text s) (deposit_text t) deposit_alike (keys_of s.deposits)
      ∙ ap (λ (ks : List ℕ). map (deposit_text t) ks) accounts_alike)

  troves_alike : troves_text s ≡ troves_text t
  troves_alike = ap (λ (i : Image). list_text (map (trove_text (sums_by i)) i.troves)) h.image

  pool_alike : pool_text s ≡ pool_text t
  pool_alike =
      ap (λ (i : Image). object_text ((codes "epoch", decimal i.epoch) ∷ (codes "p", string_text (decimal i.p))
      ∷ (codes "scale", decimal i.scale) ∷ (codes "sum", string_text (decimal i.sum)) ∷ [])) h.image

  totals_alike : system_text s ≡ system_text t
  unfolding told_words
  totals_alike = ap (λ (reply : Reply). totals_text (named (told_words reply))) (answer_alike h query.System)

  pub report_alike : report_text s ≡ report_text t
  unfolding report_text
  report_alike =
      ap₂ (λ (a b : List ℕ). object_text ((codes "deposits", a) ∷ (codes "pool", b) ∷ (codes "system", system_text s)
      ∷ (codes "troves", troves_text s) ∷ [])) deposits_alike pool_alike
      ∙ ap₂ (λ (a b : List ℕ). object_text ((codes "deposits", deposits_text t) ∷ (codes "pool", pool_text t)
      ∷ (codes "system", a) ∷ (codes "troves", b) ∷ [])) totals_alike troves_alike
