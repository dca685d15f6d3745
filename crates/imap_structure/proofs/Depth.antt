-- Structures to a depth, and messages in parts.
use Rattle.std.proofs.Common.{◌≡◌, ◌∙◌, ap, sym, refl, ℕ, zero, suc, ◌-◌, ◌<◌, Bool, List, ◌++◌, append_assoc, arith}
use Rattle.imap_structure.specs.Media.{media_of}
use Rattle.imap_structure.specs.Structure.{limit_text, entity_text, structure_text}

pub structure_at_limit : (extended in_digest : Bool) (octets : List ℕ) (depth : ℕ) → depth ≡ 0 → structure_text extended depth in_digest octets ≡ limit_text extended octets
unfolding structure_text
structure_at_limit extended in_digest octets zero none = refl
structure_at_limit extended in_digest octets (suc depth) none = absurd (omega arith)

pub structure_below : (extended in_digest : Bool) (octets : List ℕ) (depth : ℕ) → 0 < depth
    → structure_text extended depth in_digest octets ≡ entity_text extended (structure_text extended (depth - 1)) (media_of in_digest octets) octets
unfolding structure_text
structure_below extended in_digest octets zero some = absurd (omega arith)
structure_below extended in_digest octets (suc depth) some =
    let is : suc depth - 1 ≡ depth = omega arith in
    ap (λ (n : ℕ). entity_text extended (structure_text extended n) (media_of in_digest octets) octets) (sym is)

-- ---- the words of a message

all_after : (out f e s l n : List ℕ) → ((((out ++ f) ++ e) ++ s) ++ l) ++ n ≡ out ++ ((((f ++ e) ++ s) ++ l) ++ n)
all_after out f e s l n =
    ap (λ (x : List ℕ). ((x ++ s) ++ l) ++ n) (append_assoc out f e)
    ∙ ap (λ (x : List ℕ). (x ++ l) ++ n) (append_assoc out (f ++ e) s)
    ∙ ap (λ (x : List ℕ). x ++ n) (append_assoc out ((f ++ e) ++ s) l)
    ∙ append_assoc out (((f ++ e) ++ s) ++ l) n

pub message_told : (out front envelope structure lines end a b c d new : List ℕ)
    → a ≡ out ++ front → b ≡ a ++ envelope → c ≡ b ++ structure → d ≡ c ++ lines → new ≡ d ++ end
    → new ≡ out ++ ((((front ++ envelope) ++ structure) ++ lines) ++ end)
message_told out front envelope structure lines end a b c d new ea eb ec ed en =
    en
    ∙ ap (λ (l : List ℕ). l ++ end) ed
    ∙ ap (λ (l : List ℕ). (l ++ lines) ++ end) ec
    ∙ ap (λ (l : List ℕ). ((l ++ structure) ++ lines) ++ end) eb
    ∙ ap (λ (l : List ℕ). (((l ++ envelope) ++ structure) ++ lines) ++ end) ea
    ∙ all_after out front envelope structure lines end
