-- What is read of the tables of a store, with each message in one row.
use Rattle.std.proofs.Common.{◌≡◌, ◌≢◌, inl, inr, ℕ, ℤ, Bool, false, true, ◌==◌, List, [], ◌∷◌, length, map, Option, None, Some, IfNone, IfSome, MatchOption, Vec, is_eq, refl, sym, ap, subst, ◌∙◌, true≢false, arith}
use Rattle.std.specs.Global.{Global}
use Rattle.std.specs.List.{AllByRecursion, AllZip, IsDistinct}
use Rattle.std.specs.List.Sorted.{IsPermutation}
use Rattle.std.specs.Ordering.{eq_by_cmp, int_cmp}
use Rattle.std.proofs.lemmas.Bool.{eq-eqb, eqb-true}
use Rattle.std.proofs.lemmas.Cmp.{eq_by_cmp_equiv, int_cmp_total, tied_itself}
use Rattle.std.proofs.lemmas.List.Sorted.{IsPermutation-map, IsPermutation-refl, IsPermutation-sym, length_permutation}
use Rattle.std.proofs.lemmas.Map.Keys.{IsDistinct-IsPermutation}
use Rattle.std.proofs.lemmas.List.{length-map}
use Rattle.sqlite.specs.Order.{Row, column}
use Rattle.sqlite.specs.Tree.{Trees}
use Rattle.sqlite.specs.declared.types.Value.TheVariants.{Int}
use Rattle.sqlite_rules.specs.Lists.{Has}
use Rattle.sqlite_rules.proofs.ProbeLemmas.{has_mapped, mapped_has}
use Rattle.imap_message_tables.specs.Joining.{Fit, IsMessageOf}
use Rattle.imap_message_tables.specs.Loading.{AreRead, AreReadOf, AreRowsApart, row_of_body, row_of_head, row_of_message, row_of_word}
use Rattle.imap_message_tables.specs.OneTable.{AreInOneRow, AreTablesOf, FitNone, IsInOneRow, IsJoinOf, IsReadInOne}
use Rattle.imap_message_tables.specs.Split.{IsSplit}
use Rattle.imap_message_tables.specs.declared.joined.JoinedMessage.{JoinedMessage}
use Rattle.imap_message_tables.proofs.Keys.{same_id}
use Rattle.imap_message_tables.proofs.Loaded.{fitting_is_read}
use Rattle.imap_message_tables.proofs.Ordered.{has_permuted}
use Rattle.imap_message_tables.proofs.Places.{ne}
use Rattle.imap_message_tables.proofs.Rejoined.{read_fits, zip_left, zip_right}
use Rattle.imap_tables.specs.Contents.{AreAddedApart, AreNumbersApart, AreReadAt, AreStored}
use Rattle.imap_tables.specs.Reading.{shown_at}
use Rattle.imap_tables.specs.Rows.{IsRowOf}
use Rattle.imap_tables.specs.Stored.{IsBody, IsHead, IsKeyword, IsMessage}
use Rattle.imap_tables.specs.Tables.{acl_table, body_table, epoch_table, gone_table, keyword_table, mailbox_table, mark_table, message2_table, meta_table, sub_table}
use Rattle.imap_tables.specs.Texts.{table_at}
use Rattle.imap_tables.specs.declared.message_rows.StoredBody.{StoredBody}
use Rattle.imap_tables.specs.declared.message_rows.StoredHead.{StoredHead}
use Rattle.imap_tables.specs.declared.message_rows.StoredKeyword.{StoredKeyword}
use Rattle.imap_tables.specs.declared.stored.StoredMessage.{StoredMessage}
use Rattle.imap_tables.specs.declared.tables.AddedTables.{AddedTables}
use Rattle.imap_tables.specs.declared.tables.StoredTables.{StoredTables}

-- ---- what is read of a row with its columns is the row

head_shown : (row : Row) → IsRowOf message2_table row → shown_at 8 row ≡ row
head_shown [] h = absurd h
head_shown (a ∷ []) h = absurd h.1
head_shown (a ∷ b ∷ []) h = absurd h.1.1
head_shown (a ∷ b ∷ c ∷ []) h = absurd h.1.1.1
head_shown (a ∷ b ∷ c ∷ d ∷ []) h = absurd h.1.1.1.1
head_shown (a ∷ b ∷ c ∷ d ∷ e ∷ []) h = absurd h.1.1.1.1.1
head_shown (a ∷ b ∷ c ∷ d ∷ e ∷ f ∷ rest) h = λ i. a ∷ b ∷ c ∷ d ∷ e ∷ f ∷ sym h.1.1.1.1.1.1 i

body_shown : (row : Row) → IsRowOf body_table row → shown_at 9 row ≡ row
body_shown [] h = absurd h
body_shown (a ∷ []) h = absurd h.1
body_shown (a ∷ b ∷ []) h = absurd h.1.1
body_shown (a ∷ b ∷ c ∷ []) h = absurd h.1.1.1
body_shown (a ∷ b ∷ c ∷ d ∷ rest) h = λ i. a ∷ b ∷ c ∷ d ∷ sym h.1.1.1.1 i

word_shown : (row : Row) → IsRowOf keyword_table row → shown_at 10 row ≡ row
word_shown [] h = absurd h
word_shown (a ∷ []) h = absurd h.1
word_shown (a ∷ b ∷ []) h = absurd h.1.1
word_shown (a ∷ b ∷ c ∷ []) h = absurd h.1.1.1
word_shown (a ∷ b ∷ c ∷ d ∷ rest) h = λ i. a ∷ b ∷ c ∷ d ∷ sym h.1.1.1.1 i

module _ {X : Type 0} (Is : Row → X → Type 0) (row_of : X → Row) (is : (row : Row) (x : X) → Is row x → row ≡ row_of x) where
  -- the items are those of all rows
  all_of : (shown : Row → Row) (all rows : List Row) (items : List X) → ((row : Row) → Has all row → shown row ≡ row) → IsPermutation (map shown all) rows → AllZip Is rows items → AreReadOf row_of all items
  all_of shown all rows items whole same each = record {
    sound = λ row h.
        let (x, there, it) = zip_left Is rows items each (shown row) (has_permuted rows (map shown all) (shown row) (IsPermutation-sym (map shown all) rows same) (mapped_has shown all row h)) in
        (x, there, sym (whole row h) ∙ is (shown row) x it);
    complete = λ x h.
        let (r, there, it) = zip_right Is rows items each x h in
        let (row, has, e) = has_mapped shown all r (has_permuted (map shown all) rows r same there) in
        subst (Has all) (sym (whole row has) ∙ sym e ∙ is r x it) has;
  }

-- rows differ by their rowids
eq_itself : (n : ℤ) → eq_by_cmp int_cmp n n ≡ true
eq_itself n = ap is_eq (tied_itself int_cmp_total n)

module _ {X : Type 0} (id : X → ℤ) where
  differ_all : (n : ℤ) (xs : List X) → AllByRecursion (λ k. eq_by_cmp int_cmp n k ≡ false) (map id xs) → (y : X) → Has xs y → eq_by_cmp int_cmp n (id y) ≡ false
  differ_all n [] all y h = absurd h
  differ_all n (x ∷ xs) all y (inl e) = subst (λ z. eq_by_cmp int_cmp n (id z) ≡ false) (sym e) all.0
  differ_all n (x ∷ xs) all y (inr h) = differ_all n xs all.1 y h

  pub rows_apart : (row_of : X → Row) → ((x : X) → column (row_of x) 0 ≡ Int (id x)) → (xs : List X) → AreNumbersApart (map id xs) → AreRowsApart row_of xs
  unfolding IsDistinct
  rows_apart row_of at [] d = tt
  rows_apart row_of at (x ∷ xs) d = (
    λ y h same.
        let e : id y ≡ id x = same_id (id y) (id x) (sym (at y) ∙ ap (λ (r : Row). column r 0) same ∙ at x) in
        true≢false (sym (eq_itself (id x)) ∙ subst (λ n. eq_by_cmp int_cmp (id x) n ≡ false) e (differ_all (id x) xs d.0 y h)),
    rows_apart row_of at xs d.1,
  )

-- ---- a table that is as before

as_before : {X : Type 0} (one db : Trees) (at : ℕ) (Is : Row → X → Type 0) (items : List X) → one (table_at at).tree ≡ db (table_at at).tree → AreReadAt db at Is items → AreReadAt one at Is items
as_before one db at Is items e it = record { rows = it.rows; all = subst (λ (l : List Row). IsPermutation (map (shown_at at) l) it.rows) (sym e) it.all; read = it.read }

none_zipped : {A B : Type 0} (R : A → B → Type 0) (rows : List A) (items : List B) → AllZip R rows items → items ≡ [] → length rows ≡ 0
none_zipped R [] [] each e = refl
none_zipped R [] (x ∷ items) each e = absurd each
none_zipped R (r ∷ rows) [] each e = absurd each
none_zipped R (r ∷ rows) (x ∷ items) each e = absurd (omega (arith, ap length e))

zipped_none : {A B : Type 0} (R : A → B → Type 0) (rows : List A) (items : List B) → AllZip R rows items → length rows ≡ 0 → items ≡ []
zipped_none R [] [] each e = refl
zipped_none R [] (x ∷ items) each e = absurd each
zipped_none R (r ∷ rows) [] each e = absurd each
zipped_none R (r ∷ rows) (x ∷ items) each e = absurd (omega (arith, e))

pub is_none : {A : Type 0} (xs : List A) → length xs ≡ 0 → xs ≡ []
is_none [] e = refl
is_none (x ∷ xs) e = absurd (omega (arith, e))

-- ---- the messages of one table

row_shown : (ms : List JoinedMessage) → map (shown_at 2) (map row_of_message ms) ≡ map row_of_message ms
row_shown [] = refl
row_shown (m ∷ ms) = ap (λ l. row_of_message m ∷ l) (row_shown ms)

rows_zipped : (joined : List JoinedMessage) (messages : List StoredMessage) → AllZip IsInOneRow joined messages → AllZip IsMessage (map row_of_message joined) messages
rows_zipped [] [] each = tt
rows_zipped [] (m ∷ messages) each = absurd each
rows_zipped (j ∷ joined) [] each = absurd each
rows_zipped (j ∷ joined) (m ∷ messages) each = (each.0, rows_zipped joined messages each.1)

messages_read : (one : Trees) (joined : List JoinedMessage) (messages : List StoredMessage) → one 4 ≡ map row_of_message joined → AllZip IsInOneRow joined messages → AreReadAt one 2 IsMessage messages
messages_read one joined messages e each = record {
  rows = map row_of_message joined;
  all = subst (λ (l : List Row). IsPermutation (map (shown_at 2) l) (map row_of_message joined)) (sym e)
      (subst (λ (l : List Row). IsPermutation l (map row_of_message joined)) (sym (row_shown joined)) (IsPermutation-refl (map row_of_message joined)));
  read = rows_zipped joined messages each;
}

-- ---- each has the rowid of its head

heads_id : (order : List StoredHead) (hs : List StoredHead) (bs : List StoredBody) (ws : List StoredKeyword) (joined : List JoinedMessage) → AllZip (IsMessageOf hs bs ws) order joined
    → map (λ (h : StoredHead). h.rowid) order ≡ map (λ (m : JoinedMessage). m.head.rowid) joined
heads_id [] hs bs ws [] each = refl
heads_id [] hs bs ws (m ∷ joined) each = absurd each
heads_id (h ∷ order) hs bs ws [] each = absurd each
heads_id (h ∷ order) hs bs ws (m ∷ joined) each = λ i. (sym (each.0).head i).rowid ∷ heads_id order hs bs ws joined each.1 i

messages_id : (joined : List JoinedMessage) (messages : List StoredMessage) → AllZip IsInOneRow joined messages → map (λ (m : JoinedMessage). m.head.rowid) joined ≡ map (λ (m : StoredMessage). m.rowid) messages
messages_id [] [] each = refl
messages_id [] (m ∷ messages) each = absurd each
messages_id (j ∷ joined) [] each = absurd each
messages_id (j ∷ joined) (m ∷ messages) each = λ i. same_id j.head.rowid m.rowid (ap (λ (r : Row). column r 0) (each.0).0) i ∷ messages_id joined messages each.1 i

messages_apart : (added : AddedTables) (messages : List StoredMessage) → AreAddedApart added → AreInOneRow added messages → AreNumbersApart (map (λ (m : StoredMessage). m.rowid) messages)
messages_apart added messages apart it =
    let id = λ (h : StoredHead). h.rowid in
    let order = it.are.order in
    let moved = IsDistinct-IsPermutation (eq_by_cmp int_cmp) (eq_by_cmp_equiv int_cmp_total).symm (map id added.heads.items) (map id order) (IsPermutation-map id added.heads.items order it.are.same) apart.heads in
    subst AreNumbersApart (heads_id order added.heads.items added.bodies.items added.keywords.items it.joined it.are.each ∙ messages_id it.joined messages it.each) moved

module _ (db : Trees) (t : StoredTables) (added : AddedTables) (are : AreTablesOf db t added) where
  no_messages : t.messages.items ≡ [] → db 4 ≡ []
  no_messages e =
      let it = are.first.messages in
      let none = none_zipped IsMessage it.rows t.messages.items it.read e in
      is_none (db 4) (omega (arith, length_permutation (map (shown_at 2) (db 4)) it.rows it.all, length-map (db 4) (shown_at 2), none))

  messages_none : db 4 ≡ [] → t.messages.items ≡ []
  messages_none e =
      let it = are.first.messages in
      zipped_none IsMessage it.rows t.messages.items it.read (omega (arith, length_permutation (map (shown_at 2) (db 4)) it.rows it.all, length-map (db 4) (shown_at 2), ap length e))

  read : AreRead db added.heads.items added.bodies.items added.keywords.items
  read = record {
    heads = let it = are.three.heads in all_of IsHead row_of_head (λ row x is. is.0) (shown_at 8) (db 16) it.rows added.heads.items (λ row h. head_shown row (are.order.rows message2_table (inl refl) row h)) it.all it.read;
    bodies = let it = are.three.bodies in all_of IsBody row_of_body (λ row x is. is.0) (shown_at 9) (db 18) it.rows added.bodies.items (λ row h. body_shown row (are.order.rows body_table (inr (inl refl)) row h)) it.all it.read;
    words = let it = are.three.keywords in all_of IsKeyword row_of_word (λ row x is. is.0) (shown_at 10) (db 20) it.rows added.keywords.items (λ row h. word_shown row (are.order.rows keyword_table (inr (inr (inl refl))) row h)) it.all it.read;
    heads_apart = rows_apart (λ (x : StoredHead). x.rowid) row_of_head (λ x. refl) added.heads.items are.distinct.heads;
    bodies_apart = rows_apart (λ (x : StoredBody). x.rowid) row_of_body (λ x. refl) added.bodies.items are.distinct.bodies;
    words_apart = rows_apart (λ (x : StoredKeyword). x.rowid) row_of_word (λ x. refl) added.keywords.items are.distinct.keywords;
  }

  pub unfit : (one : Trees) → (Fit added.heads.items added.bodies.items added.keywords.items → ⊥) → IsSplit db one → ⊥
  unfit one off split = off (fitting_is_read db one added.heads.items added.bodies.items added.keywords.items read split)

  pub full : (one : Trees) → t.messages.items ≢ [] → IsSplit db one → ⊥
  full one some split = some (messages_none split.empty)

  abbrev with_items : Vec StoredMessage Global → StoredTables
  with_items messages = record t { messages = messages }

  stored : (one : Trees) (joined : List JoinedMessage) (messages : Vec StoredMessage Global) → IsSplit db one → one 4 ≡ map row_of_message joined → AllZip IsInOneRow joined messages.items
      → AreStored one (with_items messages)
  stored one joined messages split e each = record {
    mailboxes = as_before one db 0 _ t.mailboxes.items (split.others mailbox_table (inl refl) (ne 0 4 refl, ne 0 16 refl, ne 0 18 refl, ne 0 20 refl)) are.first.mailboxes;
    entries = as_before one db 1 _ t.entries.items (split.others acl_table (inr (inl refl)) (ne 2 4 refl, ne 2 16 refl, ne 2 18 refl, ne 2 20 refl)) are.first.entries;
    messages = messages_read one joined messages.items e each;
    gone = as_before one db 3 _ t.gone.items (split.others gone_table (inr (inr (inr (inl refl)))) (ne 6 4 refl, ne 6 16 refl, ne 6 18 refl, ne 6 20 refl)) are.first.gone;
    marks = as_before one db 4 _ t.marks.items (split.others mark_table (inr (inr (inr (inr (inl refl))))) (ne 8 4 refl, ne 8 16 refl, ne 8 18 refl, ne 8 20 refl)) are.first.marks;
    epochs = as_before one db 5 _ t.epochs.items (split.others epoch_table (inr (inr (inr (inr (inr (inl refl)))))) (ne 10 4 refl, ne 10 16 refl, ne 10 18 refl, ne 10 20 refl)) are.first.epochs;
    subscriptions = as_before one db 6 _ t.subscriptions.items (split.others sub_table (inr (inr (inr (inr (inr (inr (inl refl))))))) (ne 12 4 refl, ne 12 16 refl, ne 12 18 refl, ne 12 20 refl)) are.first.subscriptions;
    meta = as_before one db 7 _ t.meta.items (split.others meta_table (inr (inr (inr (inr (inr (inr (inr (inl refl)))))))) (ne 14 4 refl, ne 14 16 refl, ne 14 18 refl, ne 14 20 refl)) are.first.meta;
  }

  pub joined : (messages : Vec StoredMessage Global) → t.messages.items ≡ [] → AreInOneRow added messages.items → IsReadInOne db (with_items messages)
  joined messages none it =
      let (one, split, e) = read_fits db added.heads.items added.bodies.items added.keywords.items it.joined read (no_messages none) are.keyed it.fit it.are in
      record { one = one; split = split; stored = stored one it.joined messages split e it.each; distinct = messages_apart added messages.items are.distinct it }

-- ---- the answers

pub is_join : (t : StoredTables) (added : AddedTables) (messages : Vec StoredMessage Global) → t.messages.items ≡ [] → AreInOneRow added messages.items → IsJoinOf t added (record t { messages = messages })
is_join t added messages none it db are = joined db t added are messages none it

pub fit_none : (t : StoredTables) (added : AddedTables) → (Fit added.heads.items added.bodies.items added.keywords.items → ⊥) → FitNone t added
fit_none t added off db one are split = unfit db t added are one off split

pub full_fit_none : (t : StoredTables) (added : AddedTables) → t.messages.items ≢ [] → FitNone t added
full_fit_none t added some db one are split = full db t added are one some split

pub some_answer : (t : StoredTables) (added : AddedTables) (found : Option (Vec StoredMessage Global)) (r : Option StoredTables) → t.messages.items ≡ [] → IfSome found (λ messages. AreInOneRow added messages.items)
    → MatchOption found (r ≡ None) (λ messages. r ≡ Some (record t { messages = messages })) → IfSome r (IsJoinOf t added)
some_answer t added None r none are is = subst (λ o. IfSome o (IsJoinOf t added)) (sym is) tt
some_answer t added (Some messages) r none are is = subst (λ o. IfSome o (IsJoinOf t added)) (sym is) (is_join t added messages none are)

pub none_answer : (t : StoredTables) (added : AddedTables) (found : Option (Vec StoredMessage Global)) (r : Option StoredTables) → IfNone found (Fit added.heads.items added.bodies.items added.keywords.items → ⊥)
    → MatchOption found (r ≡ None) (λ messages. r ≡ Some (record t { messages = messages })) → IfNone r (FitNone t added)
none_answer t added None r off is = subst (λ o. IfNone o (FitNone t added)) (sym is) (fit_none t added off)
none_answer t added (Some messages) r off is = subst (λ o. IfNone o (FitNone t added)) (sym is) tt

-- ---- whether there are messages

pub some_left : {X : Type 0} (xs : List X) (n : ℕ) (b : Bool) → n ≡ length xs → b ≡ (n == 0) → b ≡ false → xs ≢ []
some_left xs n b len is f e = true≢false (sym (eq-eqb n 0 (len ∙ ap length e)) ∙ sym is ∙ f)

pub none_left : {X : Type 0} (xs : List X) (n : ℕ) (b : Bool) → n ≡ length xs → b ≡ (n == 0) → b ≡ true → xs ≡ []
none_left xs n b len is t = is_none xs (sym len ∙ eqb-true n 0 (sym is ∙ t))
