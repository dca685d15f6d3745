-- What base64 is decoded to.
use Rattle.std.proofs.Common.{◌≡◌, ℕ, List, Some, None, Ok, Err, ap, sym}
use Rattle.base64.specs.declared.decode.DecodeError.{DecodeError}
use Rattle.base64.specs.Engines.{standard}
use Rattle.base64.specs.GeneralPurpose.{decode_of, decoded_of}
use Rattle.std.specs.Result.{result_ok}

pub is_decoded : (text message : List ℕ) → decode_of standard text ≡ Ok message → Some message ≡ decoded_of standard text
unfolding decoded_of
is_decoded text message e = sym (ap result_ok e)

pub is_no_base64 : (text : List ℕ) (fault : DecodeError) → decode_of standard text ≡ Err fault → None ≡ decoded_of standard text
unfolding decoded_of
is_no_base64 text fault e = sym (ap result_ok e)
