-- The UIDs that COPY and MOVE tell (RFC 9051, section 7.1, of COPYUID).
use Rattle.std.specs.Prelude.{ℕ, List, [], ◌∷◌, length, Option, Some, None}
use Rattle.std.specs.List.{range_with_len}
use Rattle.imap_print.specs.declared.copied.CopiedUids.{CopiedUids}
use Rattle.imap_view.specs.declared.readable.Readable.{Readable}
use Rattle.imap_view.specs.Readable.{readable_of}
use Rattle.imap_view.specs.Seen.{Seen}

-- the first copy gets the target's UIDNEXT. Nothing is told if no message is copied
abbrev pub uids_from : (validity next : ℕ) → (uids : List ℕ) → Option CopiedUids
uids_from validity next [] = None
uids_from validity next (uid ∷ uids) = Some (record {
  validity = validity;
  source = uid ∷ uids;
  target = range_with_len next (length (uid ∷ uids));
})

abbrev pub uids_if_readable : (target : Option Readable) → (uids : List ℕ) → Option CopiedUids
uids_if_readable None uids = None
uids_if_readable (Some target) uids = uids_from target.validity target.next_uid uids

-- only one who may read the target is told the UIDs
abbrev pub copied_uids : (target : Seen) → (uids : List ℕ) → Option CopiedUids
copied_uids target uids = uids_if_readable (readable_of target) uids
