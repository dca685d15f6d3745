-- What each text of a statement means under the schema.
use Rattle.std.proofs.Common.{◌≡◌, ℕ, pos, negsuc, List, [], ◌∷◌, codes, false, None, refl}
use Rattle.sqlite.specs.declared.types.Value.TheVariants.{Null, Int}
use Rattle.sqlite.specs.Term.{Term, lit, col}
use Rattle.sqlite.specs.Query.{Query, inner, end}
use Rattle.sqlite.specs.Command.TheVariants.{Insert, Update, Delete, Select}
use Rattle.sqlite.specs.Source.TheVariants.{Values}
use Rattle.sqlite_sql.specs.declared.ops.BinaryOp.TheVariants.{Compare}
use Rattle.sqlite_sql.specs.declared.ops.CompareOp.TheVariants.{Eq}
use Rattle.sqlite.specs.Collation.TheVariants.{Binary}
use Rattle.sqlite_sql.specs.Query.{Join}
use Rattle.sqlite_sql.specs.Term.{op2}
use Rattle.sqlite_tied.specs.Compute.{everything}
use Rattle.sqlite.specs.Command.{Command}
use Rattle.sqlite.specs.Listing.{understood, reads_listing}
use Rattle.sqlite.proofs.Callers.{IsPlain, command_of}
use Rattle.sqlite.specs.Schema.{Schema}
use Rattle.imap_tables.specs.Tables.{store_schema}

-- under the schema the text is this command, without RETURNING and without the time
pub record IsTextIn (schema : Schema) (sql : List ℕ) (command : Command) : Type 0 where
  pub means : command_of (understood schema sql) ≡ command
  pub plain : IsPlain (understood schema sql)

abbrev pub IsText : (sql : List ℕ) (command : Command) → Type 0
IsText sql command = IsTextIn store_schema sql command

abbrev pub plain_query : Join → List Term → List Term → Query
plain_query from filter project = record { from = from; filter = filter; group = None; project = project; distinct = false; collations = []; order = []; limit = lit (Int (negsuc 0)); offset = lit (Int (pos 0)) }

-- the column of the row is the parameter
abbrev pub is_given : (column parameter : ℕ) → Term
is_given column parameter = op2 (Compare Eq Binary) (col 1 column) (col 0 parameter)

-- the rowids of the rows of a table that pass the tests
abbrev pub rowids_where : ℕ → List Term → Query
rowids_where tree tests = plain_query (inner tree end) tests (col 1 0 ∷ [])

-- ---- mailboxes

abbrev pub named : List Term
named = is_given 2 0 ∷ is_given 3 1 ∷ []

abbrev pub insert_mailbox : List ℕ
insert_mailbox = codes "INSERT INTO mailbox (tree, path, validity, uidnext, shared) VALUES (?1, ?2, ?3, 1, 0)"

abbrev pub mailbox_terms : List Term
mailbox_terms = lit Null ∷ lit Null ∷ col 0 0 ∷ col 0 1 ∷ col 0 2 ∷ lit (Int (pos 1)) ∷ lit (Int (pos 0)) ∷ []

pub insert_mailbox_is : IsText insert_mailbox (Insert 0 (Values mailbox_terms 7))
unfolding understood everything
insert_mailbox_is = record { means = refl; plain = (refl, refl) }

abbrev pub delete_mailbox : List ℕ
delete_mailbox = codes "DELETE FROM mailbox WHERE tree = ?1 AND path = ?2"

pub delete_mailbox_is : IsText delete_mailbox (Delete 0 (record { lets = []; body = rowids_where 0 named }))
unfolding understood everything
delete_mailbox_is = record { means = refl; plain = (refl, refl) }

abbrev pub move_mailbox : List ℕ
move_mailbox = codes "UPDATE mailbox SET path = ?3, validity = ?4 WHERE tree = ?1 AND path = ?2"

abbrev pub moved_row : List Term
moved_row = col 1 0 ∷ col 1 0 ∷ lit Null ∷ col 1 2 ∷ col 0 2 ∷ col 0 3 ∷ col 1 5 ∷ col 1 6 ∷ []

pub move_mailbox_is : IsText move_mailbox (Update 0 (record { lets = []; body = plain_query (inner 0 end) named moved_row }))
unfolding understood everything
move_mailbox_is = record { means = refl; plain = (refl, refl) }

abbrev pub count_mailbox : List ℕ
count_mailbox = codes "UPDATE mailbox SET uidnext = ?2, shared = ?3 WHERE id = ?1"

abbrev pub counted_row : List Term
counted_row = col 1 0 ∷ col 1 0 ∷ lit Null ∷ col 1 2 ∷ col 1 3 ∷ col 1 4 ∷ col 0 1 ∷ col 0 2 ∷ []

pub count_mailbox_is : IsText count_mailbox (Update 0 (record { lets = []; body = plain_query (inner 0 end) (is_given 0 0 ∷ []) counted_row }))
unfolding understood everything
count_mailbox_is = record { means = refl; plain = (refl, refl) }

abbrev pub find_mailbox : List ℕ
find_mailbox = codes "SELECT id FROM mailbox WHERE tree = ?1 AND path = ?2"

pub find_mailbox_is : IsText find_mailbox (Select (record { lets = []; body = rowids_where 0 named }) (codes "id" ∷ []))
unfolding understood everything
find_mailbox_is = record { means = refl; plain = (refl, refl) }

pub find_mailbox_unlisted : reads_listing store_schema find_mailbox ≡ false
unfolding understood everything
find_mailbox_unlisted = refl

-- ---- what is below a mailbox

abbrev pub below : List Term
below = is_given 1 0 ∷ []

abbrev pub numbered : List Term
numbered = is_given 1 0 ∷ is_given 2 1 ∷ []

abbrev pub insert_acl : List ℕ
insert_acl = codes "INSERT INTO acl (mailbox, identifier, rights) VALUES (?1, ?2, ?3)"

pub insert_acl_is : IsText insert_acl (Insert 1 (Values (lit Null ∷ col 0 0 ∷ col 0 1 ∷ col 0 2 ∷ []) 4))
unfolding understood everything
insert_acl_is = record { means = refl; plain = (refl, refl) }

abbrev pub delete_acl : List ℕ
delete_acl = codes "DELETE FROM acl WHERE mailbox = ?1"

pub delete_acl_is : IsText delete_acl (Delete 1 (record { lets = []; body = rowids_where 2 below }))
unfolding understood everything
delete_acl_is = record { means = refl; plain = (refl, refl) }

abbrev pub insert_message : List ℕ
insert_message = codes "INSERT INTO message (mailbox, uid, date, octets, flags, keywords, place) VALUES (?1, ?2, ?3, ?4, ?5, ?6, ?7)"

pub insert_message_is : IsText insert_message (Insert 2 (Values (lit Null ∷ col 0 0 ∷ col 0 1 ∷ col 0 2 ∷ col 0 3 ∷ col 0 4 ∷ col 0 5 ∷ col 0 6 ∷ []) 8))
unfolding understood everything
insert_message_is = record { means = refl; plain = (refl, refl) }

abbrev pub flag_message : List ℕ
flag_message = codes "UPDATE message SET flags = ?3, keywords = ?4, place = ?5 WHERE mailbox = ?1 AND uid = ?2"

abbrev pub flagged_row : List Term
flagged_row = col 1 0 ∷ col 1 0 ∷ col 1 1 ∷ col 1 2 ∷ col 1 3 ∷ col 1 4 ∷ col 0 2 ∷ col 0 3 ∷ col 0 4 ∷ []

pub flag_message_is : IsText flag_message (Update 2 (record { lets = []; body = plain_query (inner 4 end) numbered flagged_row }))
unfolding understood everything
flag_message_is = record { means = refl; plain = (refl, refl) }

abbrev pub delete_message : List ℕ
delete_message = codes "DELETE FROM message WHERE mailbox = ?1 AND uid = ?2"

pub delete_message_is : IsText delete_message (Delete 2 (record { lets = []; body = rowids_where 4 numbered }))
unfolding understood everything
delete_message_is = record { means = refl; plain = (refl, refl) }

abbrev pub insert_gone : List ℕ
insert_gone = codes "INSERT INTO gone (mailbox, uid, place) VALUES (?1, ?2, ?3)"

pub insert_gone_is : IsText insert_gone (Insert 3 (Values (lit Null ∷ col 0 0 ∷ col 0 1 ∷ col 0 2 ∷ []) 4))
unfolding understood everything
insert_gone_is = record { means = refl; plain = (refl, refl) }

abbrev pub insert_mark : List ℕ
insert_mark = codes "INSERT INTO mark (mailbox, user, own, before, uid, seen) VALUES (?1, ?2, ?3, ?4, ?5, ?6)"

pub insert_mark_is : IsText insert_mark (Insert 4 (Values (lit Null ∷ col 0 0 ∷ col 0 1 ∷ col 0 2 ∷ col 0 3 ∷ col 0 4 ∷ col 0 5 ∷ []) 7))
unfolding understood everything
insert_mark_is = record { means = refl; plain = (refl, refl) }

abbrev pub marked : List Term
marked = is_given 1 0 ∷ is_given 2 1 ∷ is_given 3 2 ∷ []

abbrev pub delete_mark : List ℕ
delete_mark = codes "DELETE FROM mark WHERE mailbox = ?1 AND user = ?2 AND own = ?3"

pub delete_mark_is : IsText delete_mark (Delete 4 (record { lets = []; body = rowids_where 8 marked }))
unfolding understood everything
delete_mark_is = record { means = refl; plain = (refl, refl) }

-- ---- what outlives mailboxes

abbrev pub insert_epoch : List ℕ
insert_epoch = codes "INSERT INTO epoch (tree, path, greatest) VALUES (?1, ?2, ?3)"

pub insert_epoch_is : IsText insert_epoch (Insert 5 (Values (lit Null ∷ col 0 0 ∷ col 0 1 ∷ col 0 2 ∷ []) 4))
unfolding understood everything
insert_epoch_is = record { means = refl; plain = (refl, refl) }

abbrev pub under : List Term
under = is_given 1 0 ∷ is_given 2 1 ∷ []

abbrev pub delete_epoch : List ℕ
delete_epoch = codes "DELETE FROM epoch WHERE tree = ?1 AND path = ?2"

pub delete_epoch_is : IsText delete_epoch (Delete 5 (record { lets = []; body = rowids_where 10 under }))
unfolding understood everything
delete_epoch_is = record { means = refl; plain = (refl, refl) }

abbrev pub insert_sub : List ℕ
insert_sub = codes "INSERT INTO sub (user, tree, path) VALUES (?1, ?2, ?3)"

pub insert_sub_is : IsText insert_sub (Insert 6 (Values (lit Null ∷ col 0 0 ∷ col 0 1 ∷ col 0 2 ∷ []) 4))
unfolding understood everything
insert_sub_is = record { means = refl; plain = (refl, refl) }

abbrev pub subscribed : List Term
subscribed = is_given 1 0 ∷ is_given 2 1 ∷ is_given 3 2 ∷ []

abbrev pub delete_sub : List ℕ
delete_sub = codes "DELETE FROM sub WHERE user = ?1 AND tree = ?2 AND path = ?3"

pub delete_sub_is : IsText delete_sub (Delete 6 (record { lets = []; body = rowids_where 12 subscribed }))
unfolding understood everything
delete_sub_is = record { means = refl; plain = (refl, refl) }

abbrev pub insert_meta : List ℕ
insert_meta = codes "INSERT INTO meta (key, value) VALUES (?1, ?2)"

pub insert_meta_is : IsText insert_meta (Insert 7 (Values (lit Null ∷ col 0 0 ∷ col 0 1 ∷ []) 3))
unfolding understood everything
insert_meta_is = record { means = refl; plain = (refl, refl) }

-- ---- of the three tables of messages

abbrev pub insert_head : List ℕ
insert_head = codes "INSERT INTO message2 (mailbox, uid, date, flags, place) VALUES (?1, ?2, ?3, ?4, ?5)"

abbrev pub head_terms : List Term
head_terms = lit Null ∷ col 0 0 ∷ col 0 1 ∷ col 0 2 ∷ col 0 3 ∷ col 0 4 ∷ []

pub insert_head_is : IsText insert_head (Insert 8 (Values head_terms 6))
unfolding understood everything
insert_head_is = record { means = refl; plain = (refl, refl) }

abbrev pub insert_body : List ℕ
insert_body = codes "INSERT INTO body (mailbox, uid, octets) VALUES (?1, ?2, ?3)"

pub insert_body_is : IsText insert_body (Insert 9 (Values (lit Null ∷ col 0 0 ∷ col 0 1 ∷ col 0 2 ∷ []) 4))
unfolding understood everything
insert_body_is = record { means = refl; plain = (refl, refl) }

abbrev pub insert_keyword : List ℕ
insert_keyword = codes "INSERT INTO keyword (mailbox, uid, word) VALUES (?1, ?2, ?3)"

pub insert_keyword_is : IsText insert_keyword (Insert 10 (Values (lit Null ∷ col 0 0 ∷ col 0 1 ∷ col 0 2 ∷ []) 4))
unfolding understood everything
insert_keyword_is = record { means = refl; plain = (refl, refl) }

abbrev pub flag_head : List ℕ
flag_head = codes "UPDATE message2 SET flags = ?3, place = ?4 WHERE mailbox = ?1 AND uid = ?2"

abbrev pub flagged_head : List Term
flagged_head = col 1 0 ∷ col 1 0 ∷ col 1 1 ∷ col 1 2 ∷ col 1 3 ∷ col 0 2 ∷ col 0 3 ∷ []

pub flag_head_is : IsText flag_head (Update 8 (record { lets = []; body = plain_query (inner 16 end) numbered flagged_head }))
unfolding understood everything
flag_head_is = record { means = refl; plain = (refl, refl) }

abbrev pub delete_head : List ℕ
delete_head = codes "DELETE FROM message2 WHERE mailbox = ?1 AND uid = ?2"

pub delete_head_is : IsText delete_head (Delete 8 (record { lets = []; body = rowids_where 16 numbered }))
unfolding understood everything
delete_head_is = record { means = refl; plain = (refl, refl) }

abbrev pub delete_body : List ℕ
delete_body = codes "DELETE FROM body WHERE mailbox = ?1 AND uid = ?2"

pub delete_body_is : IsText delete_body (Delete 9 (record { lets = []; body = rowids_where 18 numbered }))
unfolding understood everything
delete_body_is = record { means = refl; plain = (refl, refl) }

abbrev pub delete_keywords : List ℕ
delete_keywords = codes "DELETE FROM keyword WHERE mailbox = ?1 AND uid = ?2"

pub delete_keywords_is : IsText delete_keywords (Delete 10 (record { lets = []; body = rowids_where 20 numbered }))
unfolding understood everything
delete_keywords_is = record { means = refl; plain = (refl, refl) }

abbrev pub worded : List Term
worded = is_given 1 0 ∷ is_given 2 1 ∷ is_given 3 2 ∷ []

abbrev pub delete_keyword : List ℕ
delete_keyword = codes "DELETE FROM keyword WHERE mailbox = ?1 AND uid = ?2 AND word = ?3"

pub delete_keyword_is : IsText delete_keyword (Delete 10 (record { lets = []; body = rowids_where 20 worded }))
unfolding understood everything
delete_keyword_is = record { means = refl; plain = (refl, refl) }

abbrev pub find_head : List ℕ
find_head = codes "SELECT uid FROM message2 WHERE mailbox = ?1 AND uid = ?2"

pub find_head_is : IsText find_head (Select (record { lets = []; body = plain_query (inner 16 end) numbered (col 1 2 ∷ []) }) (codes "uid" ∷ []))
unfolding understood everything
find_head_is = record { means = refl; plain = (refl, refl) }

pub find_head_unlisted : reads_listing store_schema find_head ≡ false
unfolding understood everything
find_head_unlisted = refl

abbrev pub find_keywords : List ℕ
find_keywords = codes "SELECT word FROM keyword WHERE mailbox = ?1 AND uid = ?2"

pub find_keywords_is : IsText find_keywords (Select (record { lets = []; body = plain_query (inner 20 end) numbered (col 1 3 ∷ []) }) (codes "word" ∷ []))
unfolding understood everything
find_keywords_is = record { means = refl; plain = (refl, refl) }

pub find_keywords_unlisted : reads_listing store_schema find_keywords ≡ false
unfolding understood everything
find_keywords_unlisted = refl

-- ---- a store of the first version

abbrev pub delete_messages : List ℕ
delete_messages = codes "DELETE FROM message"

pub delete_messages_is : IsText delete_messages (Delete 2 (record { lets = []; body = rowids_where 4 [] }))
unfolding understood everything
delete_messages_is = record { means = refl; plain = (refl, refl) }

abbrev pub update_meta : List ℕ
update_meta = codes "UPDATE meta SET value = ?2 WHERE key = ?1"

abbrev pub valued_row : List Term
valued_row = col 1 0 ∷ col 1 0 ∷ col 1 1 ∷ col 0 1 ∷ []

pub update_meta_is : IsText update_meta (Update 7 (record { lets = []; body = plain_query (inner 14 end) (is_given 1 0 ∷ []) valued_row }))
unfolding understood everything
update_meta_is = record { means = refl; plain = (refl, refl) }
