-- The fold of ASCII is its lower case.
use Rattle.std.proofs.Common.{◌≡◌, ◌∙◌, ap, sym, ℕ, List, [], ◌++◌, map, length, take, drop, encode_utf8_all, IsAscii}
use Rattle.std.proofs.Math.Seq.{take-append_seam}
use Rattle.std.proofs.lemmas.List.{length-map}
use Rattle.std.specs.Char.{to_ascii_lowercase}
use Rattle.std.proofs.lemmas.Str.{IsUtf8-from_ascii, chars-IsAscii, encodes-IsAscii}
use Rattle.std.proofs.lemmas.Str.{utf8_lossy-IsUtf8}
use Rattle.std.proofs.lemmas.Str.Ascii.{All-from_ascii, IsAscii-map, lowercase_ascii}
use Rattle.unicode_normalization.specs.Forms.{nfc, Nfc}
use Rattle.unicode_normalization.proofs.FormsLemmas.{normalize-ascii}
use Rattle.caseless.specs.Caseless.{default_case_fold}
use Rattle.caseless.proofs.CaselessLemmas.{default_case_fold-ascii}
use Rattle.imap_nfc.specs.Nfc.{composed}
use Rattle.imap_text.specs.Folds.{fold, folded_text}

nfc_ascii : (octets : List ℕ) → IsAscii octets → composed octets ≡ octets
nfc_ascii octets ascii =
    ap (λ (l : List ℕ). encode_utf8_all (nfc l)) (chars-IsAscii octets ascii)
    ∙ ap encode_utf8_all (normalize-ascii Nfc octets (All-from_ascii octets ascii))
    ∙ encodes-IsAscii octets ascii

pub lower_ascii : (octets : List ℕ) → IsAscii octets → folded_text octets ≡ map to_ascii_lowercase octets
lower_ascii octets ascii =
    ap (λ (l : List ℕ). encode_utf8_all (default_case_fold l)) (chars-IsAscii octets ascii)
    ∙ ap encode_utf8_all (default_case_fold-ascii octets (All-from_ascii octets ascii))
    ∙ encodes-IsAscii (map to_ascii_lowercase octets) (IsAscii-map to_ascii_lowercase octets lowercase_ascii ascii)

pub fold_ascii : (octets : List ℕ) → IsAscii octets → fold octets ≡ map to_ascii_lowercase octets
fold_ascii octets ascii =
    ap (λ (l : List ℕ). folded_text (composed l)) (utf8_lossy-IsUtf8 octets (IsUtf8-from_ascii octets ascii))
    ∙ ap folded_text (nfc_ascii octets ascii)
    ∙ lower_ascii octets ascii

-- what is written back to the front of a vector, all of it
pub lowered : (n : ℕ) (octets text items slice lower : List ℕ) → IsAscii octets → text ≡ [] → items ≡ text ++ octets → slice ≡ items → length slice ≡ n → lower ≡ map to_ascii_lowercase slice → take n (lower ++ drop (length lower) items) ≡ fold octets
lowered n octets text items slice lower ascii none filled lent count low =
    let all : items ≡ octets = filled ∙ ap (λ (l : List ℕ). l ++ octets) none in
    let whole : lower ≡ map to_ascii_lowercase octets = low ∙ ap (map to_ascii_lowercase) (lent ∙ all) in
    let long : n ≡ length lower = sym count ∙ sym (ap length low ∙ length-map slice to_ascii_lowercase) in
    ap (λ (k : ℕ). take k (lower ++ drop (length lower) items)) long
    ∙ take-append_seam lower (drop (length lower) items)
    ∙ whole ∙ sym (fold_ascii octets ascii)
