-- Values that are refused.
use Rattle.std.proofs.Common.{◌≡◌, List, ℕ, Option, Some, None, true, Result, Err, refl, sym, ap, ◌∙◌}
use Rattle.imap_mailbox.specs.declared.parts.PartsError.{PartsError}
use Rattle.imap_mailbox.specs.declared.parts.PartsError.TheVariants.{Bad, Memory}
use Rattle.imap_records.specs.Columns.{date_text}
use Rattle.imap_syntax.specs.Dates.{date_time_read}
use Rattle.imap_syntax.specs.Moments.{Moment}
use Rattle.imap_syntax.specs.WrittenDates.{date_time_fits}
use Rattle.imap_syntax.proofs.ReadBack.{moment_read}
use Rattle.imap_names.specs.Name.{Name}
use Rattle.imap_names.specs.Valid.{IsName}
use Rattle.imap_tables.specs.declared.stored.StoredSubscription.{StoredSubscription}
use Rattle.imap_world.specs.Subscription.{Subscription}
use Rattle.imap_stored_values.specs.Restored.{HasKeyOf, IsSubscriptionFor, Restores}
use Rattle.imap_stored_values.proofs.Words.{same_fault}
use Rattle.std.specs.Prelude.{◌&&◌, String, string_bytes, chars, cond}
use Rattle.std.specs.Global.{Global}
use Rattle.std.specs.Str.{is_utf8}
use Rattle.std.proofs.lemmas.Bool.{and_parts}
use Rattle.std.proofs.lemmas.Str.{IsUtf8-string_bytes, is_utf8-from_IsUtf8}
use Rattle.unicode_normalization.specs.Forms.{is_nfc}
use Rattle.imap_nfc.proofs.Nfc.{composed-nfc}
use Rattle.imap_nfc.specs.Nfc.{composed}
use Rattle.imap_rights.specs.Identifier.{identifier_read, if_identifier, is_identifier}
use Rattle.std.proofs.Common.{subst}

pub if_bad : {X : Type 0} (Is Fits : X → Type 0) (e : PartsError) → (e ≡ Bad → (x : X) → Fits x → Is x → ⊥) → Restores {X = X} Is Fits (Err e)
if_bad Is Fits Bad never = never refl
if_bad Is Fits Memory never = tt

-- nothing is the value, where the answer is that it is bad
pub refused : {X Y : Type 0} (Is Fits : X → Type 0) (e : PartsError) → Restores {X = X} Is Fits (Err e) → ◌≡◌ {A = Result Y PartsError} (Err e) (Err Bad) → (x : X) → Fits x → Is x → ⊥
refused {X} {Y} Is Fits e h is = subst (Restores {X = X} Is Fits) (same_fault {X = Y} {Y = X} e is) h

-- the moment that a text is read as, if it is the text of one
pub date_is : (text bytes : List ℕ) (r : Option Moment) → r ≡ date_time_read bytes → bytes ≡ text → (other : Moment) → date_time_fits other ≡ true → date_text other ≡ text → r ≡ Some other
date_is text bytes r read same other fits is = read ∙ ap date_time_read (same ∙ sym is) ∙ moment_read other fits

pub string_utf8 : (s : String Global) → is_utf8 (string_bytes s) ≡ true
string_utf8 s = is_utf8-from_IsUtf8 (string_bytes s) (IsUtf8-string_bytes s)

-- ---- identifiers

identifier_parts : (t : List ℕ) → is_identifier t ≡ true → (is_utf8 t ≡ true) × (is_nfc (chars t) ≡ true)
unfolding is_identifier
identifier_parts t e = let p = and_parts (is_utf8 t) (is_nfc (chars t)) (and_parts (is_utf8 t && is_nfc (chars t)) _ e).0 in (p.0, p.1)

-- an identifier is read as itself
pub identifier_itself : (t : List ℕ) → is_identifier t ≡ true → identifier_read t ≡ Some t
identifier_itself t valid =
    let p = identifier_parts t valid in
    ap (λ b. cond b (if_identifier (composed t)) None) p.0 ∙ ap if_identifier (composed-nfc t p.0 p.1) ∙ ap (λ b. cond b (Some t) None) valid

-- ---- subscriptions

pub subscribed : (row : StoredSubscription) (name : Name) (user : List ℕ) (s : Subscription) → s ≡ record { user = user; name = name } → HasKeyOf row.key name × IsName name → user ≡ string_bytes row.user → IsSubscriptionFor row s
subscribed row name user s is key same = subst (IsSubscriptionFor row) (sym is) (key.0, key.1, same)
