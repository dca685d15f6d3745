-- What FETCH says that it told, its lines told.
use Rattle.std.proofs.Common.{◌≡◌, ℕ, eqb, Bool, true, false, cond, ◌||◌, List, [], ◌∷◌, ◌++◌, append_assoc, Option, Some, None, refl, sym, ap, ◌∙◌}
use Rattle.std.proofs.lemmas.Bool.{eqb-true}
use Rattle.imap_mailbox.specs.Rows.{Row, is_among}
use Rattle.imap_print.specs.declared.response.Response.{Response}
use Rattle.imap_messages.specs.Fetched.{Wanted, fetched_items, flags_shown, if_wanted}
use Rattle.imap_messages.specs.Reading.{count_after, is_set, line_if_there, lines_from, row_read, uid_told, uids_told}
use Rattle.imap_messages.specs.Told.{FetchedMessagesAreTold, IsTold}
use Rattle.imap_targets.specs.declared.message_numbers.Numbered.{Numbered}
use Rattle.imap_targets.specs.MessageNumbers.{row_with}

-- a line after others
later : (wanted : Wanted) (rows : List Row) (uid : ℕ) (front lines : List Response) → IsTold wanted rows uid lines → IsTold wanted rows uid (front ++ lines)
later wanted rows uid front lines h = record {
  row = h.row;
  uid_is = h.uid_is;
  asked = h.asked;
  there = h.there;
  set = h.set;
  highest = h.highest;
  number = h.number;
  items = h.items;
  flags = h.flags;
  mod_seq = h.mod_seq;
  before = front ++ h.before;
  after = h.after;
  line = ap (λ ls. front ++ ls) h.line ∙ sym (append_assoc front h.before _);
}

module _ (wanted : Wanted) (sets : Bool) (rows : List Row) where
  -- of the first message, or of a later one
  among_either : (uid first : ℕ) (told : Bool) (rest : List ℕ) → is_among uid (cond told (first ∷ []) [] ++ rest) ≡ true → (T : Type 0) → (told ≡ true → first ≡ uid → T) → (is_among uid rest ≡ true → T) → T
  among_either uid first false rest e T here others = others e
  among_either uid first true rest e T here others = by (eqb first uid) refl e
    where
      by : (b : Bool) → eqb first uid ≡ b → (b || is_among uid rest) ≡ true → T
      by true is e = here refl (eqb-true first uid is)
      by false is e = others e

  wanted_is : (b : Bool) (n : ℕ) → b ≡ true → if_wanted b n ≡ Some n
  wanted_is true n e = refl
  wanted_is false n e = absurd (cc e)

  told : (highest own : ℕ) (messages : List Numbered) (uid : ℕ) → is_among uid (uids_told wanted sets rows own messages) ≡ true → IsTold wanted rows uid (lines_from wanted sets rows highest own messages)
  told highest own [] uid e = absurd (cc e)
  told highest own (m ∷ messages) uid e = by (row_with m.uid rows) refl e (λ h o later. told h o messages uid later)
    where
      by : (row : Option Row) → row_with m.uid rows ≡ row → is_among uid (uid_told wanted sets own row ++ uids_told wanted sets rows (count_after sets own row own) messages) ≡ true
          → ((h o : ℕ) → is_among uid (uids_told wanted sets rows o messages) ≡ true → IsTold wanted rows uid (lines_from wanted sets rows h o messages))
          → IsTold wanted rows uid (line_if_there wanted sets highest own m.number row ++ lines_from wanted sets rows (count_after sets own row highest) (count_after sets own row own) messages)
      by None is e rest = rest highest own e
      by (Some row) is e rest =
          let set = is_set sets own row in
          let h = count_after sets own (Some row) highest in
          let o = count_after sets own (Some row) own in
          among_either uid row.uid (wanted.flags || set) (uids_told wanted sets rows o messages) e _
          (λ tells uid_is. record {
            row = row;
            uid_is = uid_is;
            asked = m.uid;
            there = is;
            set = set;
            highest = highest;
            number = m.number;
            items = fetched_items wanted set (row_read set highest row);
            flags = ap (λ b. if_wanted b (flags_shown (row_read set highest row))) tells;
            mod_seq = λ asked. wanted_is wanted.mod_seq (row_read set highest row).number asked;
            before = [];
            after = lines_from wanted sets rows h o messages;
            line = refl;
          })
          (λ others. later wanted rows uid (line_if_there wanted sets highest own m.number (Some row)) (lines_from wanted sets rows h o messages) (rest h o others))

pub fetched_are_told : FetchedMessagesAreTold
fetched_are_told wanted sets rows highest own messages uid e = told wanted sets rows highest own messages uid e
