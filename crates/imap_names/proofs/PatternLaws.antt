-- What a pattern is read as, and its end.
use Rattle.std.proofs.Common.{◌≡◌, ℕ, suc, ◌-◌, Bool, false, List, [], ◌∷◌, ◌++◌, length, map, slice_get, Option, Some, None, refl, sym, ap, ◌∙◌, arith}
use Rattle.std.specs.Prelude.{IsUtf8}
use Rattle.std.specs.Str.{is_utf8}
use Rattle.std.proofs.lemmas.Bool.{cond-true, cond-false, false_from_ne_true}
use Rattle.std.proofs.lemmas.Str.{IsUtf8-from_is_utf8, is_utf8-from_IsUtf8}
use Rattle.imap_names.specs.declared.token.Token.{Token}
use Rattle.imap_names.specs.MatchTest.{is_percent, ends_in_percent}
use Rattle.imap_names.specs.Pattern.{token_of, pattern_read}
use Rattle.imap_nfc.specs.Nfc.{composed}

pub not_read : (reference pattern text : List ℕ) → text ≡ reference ++ pattern → ¬ (IsUtf8 text) → None ≡ pattern_read reference pattern
not_read reference pattern text e never =
    sym (cond-false _ _ _ (false_from_ne_true (is_utf8 (reference ++ pattern)) (λ h. never (IsUtf8-from_is_utf8 text (ap is_utf8 e ∙ h)))))

pub is_read : (reference pattern text octets : List ℕ) (tokens : List Token) → text ≡ reference ++ pattern → IsUtf8 text → octets ≡ composed text → tokens ≡ map token_of octets → Some tokens ≡ pattern_read reference pattern
is_read reference pattern text octets tokens e utf8 in_nfc are =
    ap Some (are ∙ ap (map token_of) (in_nfc ∙ ap composed e))
    ∙ sym (cond-true _ _ _ (ap is_utf8 (sym e) ∙ is_utf8-from_IsUtf8 text utf8))

-- ---- the last token

abbrev pub ends_by : Option Token → Bool
ends_by None = false
ends_by (Some token) = is_percent token

pub ends_by_last : (ps : List Token) → ends_by (slice_get ps (length ps - 1)) ≡ ends_in_percent ps
ends_by_last [] = refl
ends_by_last (p ∷ []) = refl
ends_by_last (p ∷ q ∷ ps) =
    let last : suc (suc (length ps)) - 1 ≡ suc (suc (length ps) - 1) = omega arith in
    ap (λ n. ends_by (slice_get (p ∷ q ∷ ps) n)) last ∙ ends_by_last (q ∷ ps)
