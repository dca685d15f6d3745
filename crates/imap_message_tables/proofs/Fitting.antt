-- One table at most fits, and tables without a row do.
use Rattle.std.proofs.Common.{◌≡◌, ℕ, List, [], refl, sym, ap, subst, ◌∙◌}
use Rattle.std.specs.Prelude.{◌↔◌}
use Rattle.sqlite.specs.Order.{Row}
use Rattle.sqlite_rules.specs.Lists.{Has}
use Rattle.imap_message_tables.specs.Laws.{EmptyFits, FitsOne}
use Rattle.imap_message_tables.proofs.Places.{Kind, kind_of, Other, message2_at, body_at, keyword_at, message_at}

none : (rows : List Row) (row : Row) → rows ≡ [] → Has rows row → ⊥
none rows row e h = subst (λ (l : List Row). Has l row) e h

pub fits_one : FitsOne
fits_one db one other a b table listed row = by (kind_of table listed)
  where
    alike : one table.tree ≡ other table.tree → Has (one table.tree) row ↔ Has (other table.tree) row
    alike e = (λ h. subst (λ (l : List Row). Has l row) e h, λ h. subst (λ (l : List Row). Has l row) (sym e) h)

    blank : (t : ℕ) → table.tree ≡ t → one t ≡ [] → other t ≡ [] → Has (one table.tree) row ↔ Has (other table.tree) row
    blank t at x y = alike (ap one at ∙ x ∙ sym y ∙ ap other (sym at))

    by : Kind table.tree → Has (one table.tree) row ↔ Has (other table.tree) row
    by (Other o) = alike (a.others table listed o ∙ sym (b.others table listed o))
    by (message_at e) = (
      λ h. subst (λ t. Has (other t) row) (sym e) ((b.rows row).1 ((a.rows row).0 (subst (λ t. Has (one t) row) e h))),
      λ h. subst (λ t. Has (one t) row) (sym e) ((a.rows row).1 ((b.rows row).0 (subst (λ t. Has (other t) row) e h))),
    )
    by (message2_at e) = blank 16 e a.blank.0 b.blank.0
    by (body_at e) = blank 18 e a.blank.1 b.blank.1
    by (keyword_at e) = blank 20 e a.blank.2 b.blank.2

pub empty_fits : EmptyFits
empty_fits db m h b k =
    record {
      empty = m;
      blank = (h, b, k);
      others = λ table listed o. refl;
      keyed = record {
        heads = λ x y hx hy e. absurd (none (db 16) x h hx);
        bodies = λ x y hx hy e. absurd (none (db 18) x b hx);
        words = λ x y hx hy e f. absurd (none (db 20) x k hx);
      };
      rows = λ row. (λ has. absurd (none (db 4) row m has), λ is. absurd (none (db 16) _ h is.stands.head));
      heads = λ row has. absurd (none (db 16) row h has);
      bodies = λ row has. absurd (none (db 18) row b has);
      words = λ row has. absurd (none (db 20) row k has);
    }
