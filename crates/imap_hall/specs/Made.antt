-- A step that was made, and the receipt of its entry.
use Rattle.std.specs.Prelude.{ℕ, List, refl}
use Rattle.std.specs.Coded.{Coded, code_by, coded×, coded_ℕ, coded_list}
use Rattle.imap_saving.specs.Step.{Step}
use Rattle.imap_print.specs.declared.response.Response.{Response}
use Rattle.imap_hall.specs.declared.journal.Receipt.{Receipt}

pub record Made : Type 0 where
  pub step : Step
  pub receipt : Receipt

abbrev pub made_code : Coded Step → Coded Response → Coded Made
made_code step_code response_code =
    code_by (Step × (ℕ × (ℕ × List Response)))
    (coded× step_code (coded× coded_ℕ (coded× coded_ℕ (coded_list response_code))))
    (λ m. (m.step, (m.receipt.place, (m.receipt.own, m.receipt.replies))))
    (λ p. record { step = p.0; receipt = record { place = p.1.0; own = p.1.1.0; replies = p.1.1.1 } })
    (λ _. refl)
