-- Tables of the first version are taken over.
use Rattle.std.proofs.Common.{◌≡◌, OnOk, IsTrue, inl, inr, List, Ok, Err, Result, codes, refl, sym, subst, ◌∙◌, arith}
use Rattle.sqlite.specs.Order.{Row}
use Rattle.sqlite.specs.State.{State, HasCleanDisk, Survives}
use Rattle.sqlite.specs.Table.{Table}
use Rattle.sqlite.specs.Tree.{Trees}
use Rattle.sqlite.proofs.InsideLemmas.{keeps_then}
use Rattle.sqlite.proofs.StateLemmas.{survives_then}
use Rattle.sqlite_rules.specs.Lists.{Has}
use Rattle.sqlite_rules.proofs.ListLemmas.{all_has}
use Rattle.imap_message_tables.specs.Adopting.{AdoptedFits, Adopts, AdoptsRows, IsExtended, IsFirstStore, MovesRows, first_of}
use Rattle.imap_message_tables.specs.Copying.{IsEmptied}
use Rattle.imap_message_tables.proofs.Copied.{rows_are_copied}
use Rattle.imap_message_tables.proofs.Elsewhere.{replaces_beside}
use Rattle.imap_message_tables.proofs.Places.{ne}
use Rattle.imap_message_tables.proofs.Stays.{bodies_stay, heads_stay, words_stay}
use Rattle.imap_tables.specs.Edits.{Empties, IsMetaOf, valued_row}
use Rattle.imap_tables.specs.Rows.{AreApart, IsOrderly}
use Rattle.imap_tables.specs.Steps.{IsBegun, IsCall, MakesAdded, Turns, store_version}
use Rattle.imap_tables.specs.Tables.{body_table, keyword_table, message2_table, meta_table, store_tables}
use Rattle.imap_tables.specs.declared.stored.StoredMessage.{StoredMessage}

-- ---- the tables that they become

meta_listed : Has store_tables meta_table
meta_listed = inr (inr (inr (inr (inr (inr (inr (inl refl)))))))

emptied_of : (old mid new : Trees) → IsExtended old mid → Empties mid new 4 → IsEmptied (first_of old) new
emptied_of old mid new extended empties = record {
  message = empties.empty;
  heads = heads_stay mid new 4 empties.others refl ∙ extended message2_table (inr (inr (inr (inr (inr (inr (inr (inr (inl refl)))))))));
  bodies = bodies_stay mid new 4 empties.others refl ∙ extended body_table (inr (inr (inr (inr (inr (inr (inr (inr (inr (inl refl))))))))));
  words = words_stay mid new 4 empties.others refl ∙ extended keyword_table (inr (inr (inr (inr (inr (inr (inr (inr (inr (inr (inl refl)))))))))));
  others = λ table listed o. empties.others table listed o.0 ∙ extended table listed;
}

pub adopted_fits : AdoptedFits
adopted_fits old new messages are (mid, extended, moves) =
    let (emptied, empties, rest) = moves in
    let (copied, copies, sets) = rest in
    let (one, split, same) = rows_are_copied (first_of old) emptied copied messages are (emptied_of old mid emptied extended empties) copies in
    let (end, fits, replaces) = replaces_beside copied new one meta_table meta_listed (ne 14 4 refl, ne 14 16 refl, ne 14 18 refl, ne 14 20 refl) split (IsMetaOf (codes "version")) (valued_row store_version) sets in
    (end, fits, (one, same, replaces))

-- ---- tables in order

extended_orderly : (old mid : Trees) → IsExtended old mid → IsOrderly (first_of old) → IsOrderly mid
extended_orderly old mid extended order = record {
  rows = λ table listed row h. order.rows table listed row (subst (λ (l : List Row). Has l row) (extended table listed) h);
  apart = λ table listed. subst AreApart (sym (extended table listed)) (order.apart table listed);
}

extended_by : (old mid : State) → MakesAdded 11 old mid → IsExtended old.now.trees mid.now.trees
extended_by old mid it table listed =
    let k = it.kept in
    let b = it.blank in
    all_has (λ (t : Table). mid.now.trees t.tree ≡ first_of old.now.trees t.tree) store_tables table
    (k.0, (k.1.0, (k.1.1.0, (k.1.1.1.0, (k.1.1.1.1.0, (k.1.1.1.1.1.0, (k.1.1.1.1.1.1.0, (k.1.1.1.1.1.1.1.0, (b.0, (b.1.0, (b.1.1.0, tt))))))))))) listed

-- ---- one transaction

module _ (old mid new : State) (messages : List StoredMessage) where
  early : Survives mid new (λ _. ⊥) → HasCleanDisk new → HasCleanDisk mid
  early s clean = omega (arith, s.clean, clean)

  pub adopts_then : {X E : Type 0} (r : Result X E) → IsCall old mid (MakesAdded 11 old mid) → IsCall mid new (OnOk r (Turns (MovesRows messages) mid new)) → IsCall old new (OnOk r (Adopts messages old new))
  adopts_then {X} {E} r a b = record {
    made = λ clean inside. let was = a.made (early b.survives clean) inside in by r was (b.made clean was.mode);
    kept = λ clean inside. let was = a.made (early b.survives clean) inside in keeps_then old mid new (a.kept (early b.survives clean) inside) (b.kept clean was.mode);
    survives = survives_then old mid new _ _ _ (λ _ db none. none) (λ _ db none. none) a.survives b.survives;
  }
    where
      by : (s : Result X E) → MakesAdded 11 old mid → OnOk s (Turns (MovesRows messages) mid new) → OnOk s (Adopts messages old new)
      by (Err e) was h = tt
      by (Ok x) was h = record {
        was_open = was.was_open;
        made = λ order.
            let extended = extended_by old mid was in
            let it = h.made (λ _. extended_orderly old.now.trees mid.now.trees extended order) in
            ((mid.now.trees, extended, it.0), it.1);
        schema = h.schema;
        mode = h.mode;
      }

  -- after a commit
  pub adopts_whole : IsFirstStore old → IsBegun old → IsCall old mid (Adopts messages old mid) → Survives mid new (λ db. db ≡ mid.now.trees)
      → Survives old new (λ db. IsTrue old.is_open × AdoptsRows messages old.now.trees db × IsOrderly db)
  adopts_whole first begun call s = survives_then old mid new (λ _. ⊥) _ (λ db. IsTrue old.is_open × AdoptsRows messages old.now.trees db × IsOrderly db) (λ _ db none. absurd none)
      (λ clean db is.
      let soon : HasCleanDisk mid = omega (arith, s.clean, clean) in
      let sooner : HasCleanDisk old = omega (arith, call.survives.clean, soon) in
      let it = call.made soon (begun sooner) in
      let all = it.made (first sooner it.was_open).1 in
      (it.was_open, subst (AdoptsRows messages old.now.trees) (sym is) all.0, subst IsOrderly (sym is) all.1)) call.survives s
