-- Whether the next row of a cursor is one of which all is known.
use Rattle.std.proofs.Common.{◌≡◌, ℕ, zero, suc, ◌<◌, ltb, not, ◌&&◌, Bool, true, false, List, [], ◌∷◌, length, drop, get_or, refl, sym, ap, ◌∙◌, arith}
use Rattle.imap_mailbox.specs.Rows.{Row}
use Rattle.imap_session.specs.Cursors.{is_next, is_unchanged}

pub not_next : (uid n : ℕ) (rows : List Row) → is_next uid rows ≡ false → is_unchanged uid n rows ≡ false
not_next uid n [] e = refl
not_next uid n (r ∷ rows) e = ap (λ b. b && not (ltb n r.number)) e

-- `b` is whether the number of the first row is above n
pub next_tells : (uid n : ℕ) (rows : List Row) (b : Bool) → is_next uid rows ≡ true → ((r : Row) (later : List Row) → rows ≡ r ∷ later → b ≡ ltb n r.number)
    → is_unchanged uid n rows ≡ not b
next_tells uid n [] b e h = absurd (cc e)
next_tells uid n (r ∷ rows) b e h = ap (λ x. x && not (ltb n r.number)) e ∙ ap not (sym (h r rows refl))

-- ---- the rows from a place on

pub place_there : (uid : ℕ) (rows : List Row) (p : ℕ) → is_next uid (drop p rows) ≡ true → p < length rows
place_there uid [] zero e = absurd (cc e)
place_there uid [] (suc p) e = absurd (cc e)
place_there uid (r ∷ rows) zero e = omega arith
place_there uid (r ∷ rows) (suc p) e = omega (arith, place_there uid rows p e)

pub first_at : (rows : List Row) (p : ℕ) (r : Row) (later : List Row) → drop p rows ≡ r ∷ later → r ≡ get_or rows p r
first_at [] zero r later e = absurd (cc e)
first_at [] (suc p) r later e = absurd (cc e)
first_at (x ∷ rows) zero r later e = cc (sym e)
first_at (x ∷ rows) (suc p) r later e = first_at rows p r later e
