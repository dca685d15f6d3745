use Rattle.std.proofs.Common.{rules, ◌≡◌, ◌∙◌, ap, Some, Ok}
use Rattle.base64.specs.Engines.{standard}
use Rattle.base64.specs.GeneralPurpose.{decode_of}
use Rattle.imap_login.proofs.Decoded.{is_decoded}
use Rattle.imap_login.proofs.progress.decode.Goals as goal

pub returns-in_ok-from_vec-in-Ok : goal.returns-in_ok-from_vec-in-Ok
returns-in_ok-from_vec-in-Ok c =
    let text = c.args.text.now in
    let message = c.in-Ok.octets.items in
    let is : decode_of standard text ≡ Ok message = search rules in
    ap Some c.in_ok-from_vec-in-Ok.ensures ∙ is_decoded text message is
