-- What is written is what the changes make of one table of messages.
use Rattle.std.proofs.Common.{◌≡◌, ◌≢◌, ◌++◌, inl, inr, ℕ, ℤ, pos, List, [], ◌∷◌, map, string_bytes, refl, sym, ap, subst, ◌∙◌, arith}
use Rattle.std.specs.Prelude.{codes}
use Rattle.sqlite.specs.declared.types.Value.TheVariants.{Int, Text as Words}
use Rattle.sqlite.specs.Order.{Row, column}
use Rattle.sqlite.specs.Tree.{Trees}
use Rattle.sqlite_rules.specs.Lists.{Has}
use Rattle.imap_message_tables.specs.Parts.{CutWord, MakesParts, Part, PutWord, parts_flagged, words_but}
use Rattle.imap_message_tables.specs.Split.{IsOther, IsSplit, MakesSplit, Stands, Whole, word_of, words_text}
use Rattle.imap_message_tables.specs.Writing.{IsThere, Writes, WritesAllBelow, WritesBelow, WritesUnder, WritingFits}
use Rattle.imap_message_tables.proofs.Adding.{added_fits}
use Rattle.imap_message_tables.proofs.Cascading.{cascade_fits}
use Rattle.imap_message_tables.proofs.Chained.{none_split, then_split}
use Rattle.imap_message_tables.proofs.Elsewhere.{adds_beside, removes_beside, replaces_beside}
use Rattle.imap_message_tables.proofs.Flagging.{flagged_fits, removed_fits, word_at}
use Rattle.imap_message_tables.proofs.Words.{same_words}
use Rattle.imap_tables.specs.Changes.{Makes, MakesAll, MakesAllBelow, MakesBelow, MakesUnder, PutsEpoch, PutsSubscription}
use Rattle.imap_tables.specs.Edits.{Adds, HasHead, IsBelow, IsEpochOf, IsIdOf, IsMarkOf, IsMessageOf, IsMetaOf, IsNamed, IsSubOf, HasId, Replaces, counted_row, flagged_row, moved_row, valued_row}
use Rattle.imap_tables.specs.Rows.{acl_row, epoch_row, gone_row, mailbox_row, mark_row, message_row, sub_row}
use Rattle.imap_tables.specs.Tables.{acl_table, epoch_table, gone_table, mailbox_table, mark_table, meta_table, store_tables, sub_table}
use Rattle.imap_tables.specs.Steps.{gaps_version}
use Rattle.imap_tables.specs.declared.changes.ChangeBelow.{ChangeBelow}
use Rattle.imap_tables.specs.declared.changes.ChangeBelow.TheVariants as below
use Rattle.imap_tables.specs.declared.changes.FlagsRow.{FlagsRow}
use Rattle.imap_tables.specs.declared.changes.MailboxKey.{MailboxKey}
use Rattle.imap_tables.specs.declared.changes.MessageRow.{MessageRow}
use Rattle.imap_tables.specs.declared.changes.RowChange.{RowChange}
use Rattle.imap_tables.specs.declared.changes.RowChange.TheVariants as change

-- ---- tables that have no part of messages

other : (tree : ℕ) → (tree ≢ 4) → (tree ≢ 16) → (tree ≢ 18) → (tree ≢ 20) → IsOther tree
other tree a b c d = (a, b, c, d)

mailbox_other : IsOther 0
mailbox_other = other 0 (λ e. omega (arith, e)) (λ e. omega (arith, e)) (λ e. omega (arith, e)) (λ e. omega (arith, e))

acl_other : IsOther 2
acl_other = other 2 (λ e. omega (arith, e)) (λ e. omega (arith, e)) (λ e. omega (arith, e)) (λ e. omega (arith, e))

gone_other : IsOther 6
gone_other = other 6 (λ e. omega (arith, e)) (λ e. omega (arith, e)) (λ e. omega (arith, e)) (λ e. omega (arith, e))

mark_other : IsOther 8
mark_other = other 8 (λ e. omega (arith, e)) (λ e. omega (arith, e)) (λ e. omega (arith, e)) (λ e. omega (arith, e))

meta_other : IsOther 14
meta_other = other 14 (λ e. omega (arith, e)) (λ e. omega (arith, e)) (λ e. omega (arith, e)) (λ e. omega (arith, e))

epoch_other : IsOther 10
epoch_other = other 10 (λ e. omega (arith, e)) (λ e. omega (arith, e)) (λ e. omega (arith, e)) (λ e. omega (arith, e))

sub_other : IsOther 12
sub_other = other 12 (λ e. omega (arith, e)) (λ e. omega (arith, e)) (λ e. omega (arith, e)) (λ e. omega (arith, e))

mailbox_listed : Has store_tables mailbox_table
mailbox_listed = inl refl

acl_listed : Has store_tables acl_table
acl_listed = inr (inl refl)

gone_listed : Has store_tables gone_table
gone_listed = inr (inr (inr (inl refl)))

mark_listed : Has store_tables mark_table
mark_listed = inr (inr (inr (inr (inl refl))))

epoch_listed : Has store_tables epoch_table
epoch_listed = inr (inr (inr (inr (inr (inl refl)))))

sub_listed : Has store_tables sub_table
sub_listed = inr (inr (inr (inr (inr (inr (inl refl))))))

meta_listed : Has store_tables meta_table
meta_listed = inr (inr (inr (inr (inr (inr (inr (inl refl)))))))

-- ---- below a mailbox

same_int : (a b : ℤ) → Int a ≡ Int b → a ≡ b
same_int a b e = cc e

same_uid : (a b : ℕ) → Int (pos a) ≡ Int (pos b) → a ≡ b
same_uid a b e = cc e

same_text : (a b : List ℕ) → Words a ≡ Words b → a ≡ b
same_text a b e = cc e

-- parts one after the other
parts_join : (mailbox : ℤ) (uid : ℕ) (first rest : List Part) (a b c : Trees) → MakesParts mailbox uid first a b → MakesParts mailbox uid rest b c → MakesParts mailbox uid (first ++ rest) a c
parts_join mailbox uid [] rest a b c h k = subst (λ d. MakesParts mailbox uid rest d c) h k
parts_join mailbox uid (p ∷ first) rest a b c (d, part, more) k = (d, part, parts_join mailbox uid first rest d b c more k)

-- what is read of a message that is there is what it stands with
module _ (db one : Trees) (split : IsSplit db one) (mailbox : ℤ) (uid : ℕ) (before : List (List ℕ)) (there : IsThere db mailbox uid before) where
  pub record IsKnown : Type 0 where
    pub whole : Whole
    pub stands : Stands db whole
    pub mailbox_is : whole.mailbox ≡ mailbox
    pub uid_is : whole.uid ≡ uid
    pub words_are : whole.words ≡ before

  pub known : IsKnown
  known = by there.head
    where
      by_whole : (n : Whole) → Stands db n → n.mailbox ≡ mailbox → n.uid ≡ uid → IsKnown
      by_whole n s at_mailbox at_uid = record {
        whole = n;
        stands = s;
        mailbox_is = at_mailbox;
        uid_is = at_uid;
        words_are = same_words n.words before s.are_words.rising there.are.rising complete sound;
      }
        where
          sound : (word : List ℕ) → Has before word → Has n.words word
          sound word h =
              let (row, stands_there, (at, text)) = there.keywords.sound word h in
              let (w, id, listed, shown) = word_at db one split n s row stands_there (at.0 ∙ ap Int (sym at_mailbox), at.1 ∙ ap (λ u. Int (pos u)) (sym at_uid)) in
              subst (Has n.words) (same_text w word (sym (ap (λ (r : Row). column r 3) shown) ∙ text)) listed

          complete : (word : List ℕ) → Has n.words word → Has before word
          complete word h =
              let (id, stands_there) = (s.words word).0 h in
              let (w, listed, text) = there.keywords.complete (word_of n word id) stands_there (ap Int at_mailbox, ap (λ u. Int (pos u)) at_uid) in
              subst (Has before) (same_text w word (sym text)) listed

      by : HasHead db mailbox uid → IsKnown
      by (row, stands_there, at) =
          let it = split.heads row stands_there in
          by_whole it.whole it.stands (same_int it.whole.mailbox mailbox (sym (ap (λ (r : Row). column r 1) it.shown) ∙ at.0))
          (same_uid it.whole.uid uid (sym (ap (λ (r : Row). column r 2) it.shown) ∙ at.1))

module _ (old new one : Trees) (mailbox : ℤ) (split : IsSplit old one) where
  abbrev pub Fits : ChangeBelow → Type 0
  Fits c = (next : Trees) × IsSplit new next × MakesBelow mailbox c one next

  pub added : (m : MessageRow) → WritesBelow mailbox (below.AddMessage m) old new → Fits (below.AddMessage m)
  added m (words, are, (a, head, (b, body, rest))) =
      let (next, fits, made) = added_fits old new one mailbox m.uid (string_bytes m.date) m.octets m.flags words m.place are.are (λ row h at. head.free (row, h, at)) split (a, head.adds, (b, body, rest)) in
      (next, fits, subst (λ text. Adds one next 4 (message_row mailbox m.uid (string_bytes m.date) m.octets m.flags text m.place)) are.joined made)

  flagged : (m : FlagsRow) → WritesBelow mailbox (below.FlagMessage m) old new → Fits (below.FlagMessage m)
  flagged m (before, words, there, are, (a, head, (b, cut, put))) = by it.whole it.stands it.mailbox_is it.uid_is it.words_are
    where
      it : IsKnown old one split mailbox m.uid before there
      it = known old one split mailbox m.uid before there

      parts : MakesParts mailbox m.uid (parts_flagged before m.flags words m.place) old new
      parts = (a, head, parts_join mailbox m.uid (map CutWord (words_but before words)) (map PutWord (words_but words before)) a b new cut put)

      by : (n : Whole) → Stands old n → n.mailbox ≡ mailbox → n.uid ≡ m.uid → n.words ≡ before → Fits (below.FlagMessage m)
      by n s at_mailbox at_uid same =
          let own : MakesParts n.mailbox n.uid (parts_flagged n.words m.flags words m.place) old new =
          subst (λ k. MakesParts k n.uid (parts_flagged n.words m.flags words m.place) old new) (sym at_mailbox)
          (subst (λ u. MakesParts mailbox u (parts_flagged n.words m.flags words m.place) old new) (sym at_uid)
          (subst (λ ws. MakesParts mailbox m.uid (parts_flagged ws m.flags words m.place) old new) (sym same) parts)) in
          let (next, fits, made) = flagged_fits old new one n m.flags words m.place are.are s split own in
          let put_there : Replaces one next 4 (IsMessageOf mailbox m.uid) (flagged_row m.flags (words_text words) m.place) =
          subst (λ k. Replaces one next 4 (IsMessageOf k m.uid) (flagged_row m.flags (words_text words) m.place)) at_mailbox
          (subst (λ u. Replaces one next 4 (IsMessageOf n.mailbox u) (flagged_row m.flags (words_text words) m.place)) at_uid made) in
          (next, fits, subst (λ text. Replaces one next 4 (IsMessageOf mailbox m.uid) (flagged_row m.flags text m.place)) are.joined put_there)

  below_fits : (c : ChangeBelow) → WritesBelow mailbox c old new → Fits c
  below_fits below.RemoveAcl w = removes_beside old new one acl_table acl_listed acl_other split (IsBelow mailbox) w
  below_fits (below.AddEntry identifier rights) w = adds_beside old new one acl_table acl_listed acl_other split (acl_row mailbox (string_bytes identifier) rights) w
  below_fits (below.AddMessage m) w = added m w
  below_fits (below.FlagMessage m) w = flagged m w
  below_fits (below.RemoveMessage uid) w = removed_fits old new one mailbox uid split w
  below_fits (below.AddGone uid place) w = adds_beside old new one gone_table gone_listed gone_other split (gone_row mailbox uid place) w
  below_fits (below.AddMark m) w = adds_beside old new one mark_table mark_listed mark_other split (mark_row mailbox (string_bytes m.user) m.own m.before m.uid m.seen) w
  below_fits (below.RemoveMark user own) w = removes_beside old new one mark_table mark_listed mark_other split (IsMarkOf mailbox (string_bytes user) own) w
  below_fits (below.Count uidnext shared) w = replaces_beside old new one mailbox_table mailbox_listed mailbox_other split (HasId mailbox) (counted_row uidnext shared) w

all_below_fit : (mailbox : ℤ) (cs : List ChangeBelow) (old new : Trees) → WritesAllBelow mailbox cs old new → MakesSplit (MakesAllBelow mailbox cs) old new
all_below_fit mailbox [] old new w = subst (λ db. MakesSplit (λ a b. b ≡ a) old db) (sym w) (none_split old)
all_below_fit mailbox (c ∷ cs) old new (mid, first, rest) =
    then_split (MakesBelow mailbox c) (MakesAllBelow mailbox cs) old mid new (λ one split. below_fits old mid one mailbox split c first) (all_below_fit mailbox cs mid new rest)

-- ---- in all tables

-- the mailbox has its id in the one table too
id_there : (db one : Trees) → IsSplit db one → (tree path : List ℕ) (id : ℤ) → IsIdOf db tree path id → IsIdOf one tree path id
id_there db one split tree path id (row, h, named, has) = (row, subst (λ rows. Has rows row) (sym (split.others mailbox_table mailbox_listed mailbox_other)) h, named, has)

under_fits : (key : MailboxKey) (cs : List ChangeBelow) (old new : Trees) → WritesUnder key cs old new → MakesSplit (MakesUnder key cs) old new
under_fits key cs old new (id, is, all) one split =
    let (next, fits, made) = all_below_fit id cs old new all one split in
    (next, fits, (id, id_there old one split (string_bytes key.tree) (string_bytes key.path) id is, made))

epoch_fits : (key : MailboxKey) (greatest : ℕ) (old new : Trees) → PutsEpoch key greatest old new → MakesSplit (PutsEpoch key greatest) old new
epoch_fits key greatest old new (mid, gone, put) one split =
    let (between, fits, first) = removes_beside old mid one epoch_table epoch_listed epoch_other split (IsEpochOf (string_bytes key.tree) (string_bytes key.path)) gone in
    let (next, fit, later) = adds_beside mid new between epoch_table epoch_listed epoch_other fits (epoch_row (string_bytes key.tree) (string_bytes key.path) greatest) put in
    (next, fit, (between, first, later))

subscription_fits : (user : List ℕ) (key : MailboxKey) (old new : Trees) → PutsSubscription user key old new → MakesSplit (PutsSubscription user key) old new
subscription_fits user key old new (mid, gone, put) one split =
    let (between, fits, first) = removes_beside old mid one sub_table sub_listed sub_other split (IsSubOf user (string_bytes key.tree) (string_bytes key.path)) gone in
    let (next, fit, later) = adds_beside mid new between sub_table sub_listed sub_other fits (sub_row user (string_bytes key.tree) (string_bytes key.path)) put in
    (next, fit, (between, first, later))

row_fits : (c : RowChange) (old new : Trees) → Writes c old new → MakesSplit (Makes c) old new
row_fits (change.AddMailbox key validity) old new w one split =
    adds_beside old new one mailbox_table mailbox_listed mailbox_other split (λ id. mailbox_row id (string_bytes key.tree) (string_bytes key.path) validity 1 (pos 0)) w
row_fits (change.MoveMailbox key to validity) old new w one split =
    replaces_beside old new one mailbox_table mailbox_listed mailbox_other split (IsNamed (string_bytes key.tree) (string_bytes key.path)) (moved_row (string_bytes to) validity) w
row_fits (change.RemoveMailbox key) old new w one split = cascade_fits old new one (string_bytes key.tree) (string_bytes key.path) split w
row_fits (change.PutEpoch key greatest) old new w one split = epoch_fits key greatest old new w one split
row_fits (change.PutSubscription user key) old new w one split = subscription_fits (string_bytes user) key old new w one split
row_fits (change.RemoveSubscription user key) old new w one split =
    removes_beside old new one sub_table sub_listed sub_other split (IsSubOf (string_bytes user) (string_bytes key.tree) (string_bytes key.path)) w
row_fits (change.Below key changes) old new w one split = under_fits key changes.items old new w one split
row_fits change.AllowGaps old new w one split =
    replaces_beside old new one meta_table meta_listed meta_other split (IsMetaOf (codes "version")) (valued_row gaps_version) w

pub writing_fits : WritingFits
writing_fits [] old new w = subst (λ db. MakesSplit (λ a b. b ≡ a) old db) (sym w) (none_split old)
writing_fits (c ∷ cs) old new (mid, first, rest) = then_split (Makes c) (MakesAll cs) old mid new (row_fits c old mid first) (writing_fits cs mid new rest)
