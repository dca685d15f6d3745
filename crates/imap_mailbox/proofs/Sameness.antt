-- Flags that are the same.
use Rattle.std.proofs.Common.{◌≡◌, ◌↔◌, ℕ, Bool, true, false, ◌&&◌, List, [], ◌∷◌, refl, sym, ap, ◌∙◌}
use Rattle.std.proofs.lemmas.Bool.{and_parts}
use Rattle.std.specs.Str.{bytes_eq}
use Rattle.std.proofs.lemmas.Slice.Eq.{bytes_eq-Decides}
use Rattle.imap_mailbox.specs.declared.flags.SharedFlags.{SharedFlags}
use Rattle.imap_mailbox.specs.Calls.{is_same, same_words, same_flags}
use Rattle.imap_mailbox.specs.Called.{FlagsAreTested}

bools_are : (a b : Bool) → is_same a b ≡ true → a ≡ b
bools_are true true e = refl
bools_are true false e = absurd (cc e)
bools_are false true e = absurd (cc e)
bools_are false false e = refl

bool_itself : (a : Bool) → is_same a a ≡ true
bool_itself true = refl
bool_itself false = refl

words_are : (ws vs : List (List ℕ)) → same_words ws vs ≡ true → ws ≡ vs
words_are [] [] e = refl
words_are [] (v ∷ vs) e = absurd (cc e)
words_are (w ∷ ws) [] e = absurd (cc e)
words_are (w ∷ ws) (v ∷ vs) e =
    let parts = and_parts (bytes_eq w v) (same_words ws vs) e in
    λ i. (bytes_eq-Decides w v).0 parts.0 i ∷ words_are ws vs parts.1 i

words_itself : (ws : List (List ℕ)) → same_words ws ws ≡ true
words_itself [] = refl
words_itself (w ∷ ws) = λ i. (bytes_eq-Decides w w).1 refl i && words_itself ws i

flags_are : (a b : SharedFlags) → same_flags a b ≡ true → a ≡ b
flags_are a b e =
    let one = and_parts (is_same a.answered b.answered) _ e in
    let two = and_parts (is_same a.deleted b.deleted) _ one.1 in
    let three = and_parts (is_same a.draft b.draft) _ two.1 in
    let four = and_parts (is_same a.flagged b.flagged) _ three.1 in
    λ i. record {
      answered = bools_are a.answered b.answered one.0 i;
      deleted = bools_are a.deleted b.deleted two.0 i;
      draft = bools_are a.draft b.draft three.0 i;
      flagged = bools_are a.flagged b.flagged four.0 i;
      keywords = words_are a.keywords b.keywords four.1 i;
    }

flags_itself : (a : SharedFlags) → same_flags a a ≡ true
flags_itself a = λ i. bool_itself a.answered i && (bool_itself a.deleted i && (bool_itself a.draft i && (bool_itself a.flagged i && words_itself a.keywords i)))

pub flags_are_tested : FlagsAreTested
flags_are_tested a b = ((λ e. flags_are a b e), (λ e. ap (same_flags a) (sym e) ∙ flags_itself a))

pub said : (r : Bool) (a b : SharedFlags) → ((r ≡ true) ↔ (a ≡ b)) → r ≡ same_flags a b
said r a b h = by r (same_flags a b) h.0 h.1 (λ e. flags_are a b e) (λ e. ap (same_flags a) (sym e) ∙ flags_itself a)
  where
    by : (r s : Bool) → (r ≡ true → a ≡ b) → (a ≡ b → r ≡ true) → (s ≡ true → a ≡ b) → (a ≡ b → s ≡ true) → r ≡ s
    by true true f g k l = refl
    by true false f g k l = sym (l (f refl))
    by false true f g k l = g (k refl)
    by false false f g k l = refl
