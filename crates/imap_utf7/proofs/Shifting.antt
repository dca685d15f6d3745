-- What is shifted and read again.
use Rattle.std.proofs.Common.{◌≡◌, ◌∙◌, ap, sym, refl, ℕ, zero, suc, Bool, true, false, List, [], ◌∷◌, append-nil, arith, Ok, Err}
use Rattle.std.proofs.lemmas.Bool.{and_parts, and_from, lt-ltb, ltb-true}
use Rattle.std.proofs.lemmas.Slice.Eq.{bytes_eq-Decides}
use Rattle.std.specs.List.{list_all}
use Rattle.std.specs.Option.{unwrap_or}
use Rattle.base64.specs.GeneralPurpose.{IsBytes, IsDecodeFailure, IsStrict, decode_of, encode_of, decoded_of}
use Rattle.base64.specs.declared.engine.general_purpose.GeneralPurpose.{GeneralPurpose}
use Rattle.base64.specs.declared.decode.DecodeAllocError.{DecodeAllocError}
use Rattle.base64.specs.declared.decode.DecodeAllocError.TheVariants.{DecodeError as Failed}
use Rattle.base64.specs.declared.decode.DecodeError.{DecodeError}
use Rattle.base64.proofs.EngineFacts.{decode_of-encode_of}
use Rattle.base64.proofs.Streams.{decoded_of-ok}
use Rattle.imap_utf7.specs.Shifts.{IsModified, base64, is_base64, is_octet, modified, octets_of, value_of}

pub writes_base64 : (engine : GeneralPurpose) (octets : List ℕ) → IsModified engine → encode_of engine octets ≡ base64 octets
writes_base64 engine octets is = rw (is.config, is.symbols) (append-nil (base64 octets))

-- ---- octets

pub octets_pass : (octets : List ℕ) → IsBytes octets → list_all is_octet octets ≡ true
octets_pass [] bytes = refl
octets_pass (octet ∷ octets) bytes =
    and_from (is_octet octet) (list_all is_octet octets) (lt-ltb octet 256 (bytes 0)) (octets_pass octets (λ i. bytes (suc i)))

pub pass_octets : (octets : List ℕ) → list_all is_octet octets ≡ true → IsBytes octets
pass_octets [] pass i = omega arith
pass_octets (octet ∷ octets) pass zero = ltb-true octet 256 (and_parts (is_octet octet) (list_all is_octet octets) pass).0
pass_octets (octet ∷ octets) pass (suc i) = pass_octets octets (and_parts (is_octet octet) (list_all is_octet octets) pass).1 i

-- ---- text that is read

pub value-base64 : (octets : List ℕ) → IsBytes octets → value_of (base64 octets) ≡ octets
value-base64 octets bytes =
    let same : base64 octets ≡ encode_of modified octets = sym (append-nil (base64 octets)) in
    ap (λ (text : List ℕ). unwrap_or (decoded_of modified text) []) same
    ∙ ap (λ o. unwrap_or o []) (decoded_of-ok modified (encode_of modified octets) octets (decode_of-encode_of modified octets refl bytes))

pub is_base64-base64 : (octets : List ℕ) → IsBytes octets → is_base64 (base64 octets) ≡ true
is_base64-base64 octets bytes =
    rw (value-base64 octets bytes) (and_from _ _ (octets_pass octets bytes) ((bytes_eq-Decides (base64 octets) (base64 octets)).1 refl))

pub octets_of-base64 : (octets : List ℕ) → IsBytes octets → octets_of (base64 octets) ≡ octets
octets_of-base64 octets bytes = rw (is_base64-base64 octets bytes) (value-base64 octets bytes)

pub reads_base64 : (engine : GeneralPurpose) (text octets : List ℕ) → IsModified engine → IsBytes octets → text ≡ encode_of engine octets → octets ≡ octets_of text
reads_base64 engine text octets is bytes e =
    sym (ap octets_of (e ∙ writes_base64 engine octets is) ∙ octets_of-base64 octets bytes)

none_by : (text : List ℕ) (t : Bool) → is_base64 text ≡ t → ((octets : List ℕ) → IsBytes octets → text ≡ base64 octets → ⊥) → octets_of text ≡ []
none_by text false is apart = rw is refl
none_by text true is apart =
    let parts = and_parts _ _ is in
    absurd (apart (value_of text) (pass_octets (value_of text) parts.0) (sym ((bytes_eq-Decides _ _).0 parts.1)))

-- text that is that of no octets
pub reads_none : (engine : GeneralPurpose) (text : List ℕ) → IsModified engine → ((octets : List ℕ) → IsBytes octets → text ≡ encode_of engine octets → ⊥) → octets_of text ≡ []
reads_none engine text is apart =
    none_by text (is_base64 text) refl (λ octets bytes e. apart octets bytes (e ∙ sym (writes_base64 engine octets is)))

-- ---- the engine

pub is_strict : (engine : GeneralPurpose) → IsModified engine → IsStrict engine
is_strict engine is = rw is.config (refl, refl)

pub failure : (engine : GeneralPurpose) (text : List ℕ) (fault : DecodeAllocError) (error : DecodeError) → fault ≡ Failed error
    → IsDecodeFailure engine text fault → decode_of engine text ≡ Err error
failure engine text fault error is fails = rw is at fails

pub ok_not_err : (a : List ℕ) (e : DecodeError) → Ok a ≡ Err e → ⊥
ok_not_err a e is = cc is
