-- The laws of dates and times.
use Rattle.std.proofs.Common.{ℕ, true, false, eqb, List, refl}
use Rattle.std.specs.Char.{is_ascii_digit}
use Rattle.imap_syntax.specs.Dates.{digits_of, date_behind_day, date_text, date_behind, date, day_behind, day_fixed, below, zone, date_time_text, date_time_end}
use Rattle.imap_syntax.proofs.RuleLaws.{StopsAt, Lawful, ended_lawful, then_lawful, then_follows, after_anything, give_lawful, give_follows, octet_lawful, octet_then_follows, some_of_lawful}
use Rattle.imap_syntax.proofs.Opens.{Opens, octet_opens, then_opens, opens_follows, some_of_opens}
use Rattle.imap_syntax.proofs.Lists.{when_lawful, when_follows, flag_then_lawful}
use Rattle.imap_syntax.proofs.Words.{keyword_lawful}
use Rattle.imap_syntax.proofs.Tables.{month_table}
use Rattle.imap_syntax.proofs.Ends.{AtEnd, before, end_stops, differs}

digits_of_lawful : (least most : ℕ) → Lawful (StopsAt is_ascii_digit) (digits_of least most)
digits_of_lawful least most = then_lawful (some_of_lawful is_ascii_digit) (λ digits. when_lawful _ _) (λ digits. when_follows _ _)

digits_of_opens : (least most : ℕ) → Opens is_ascii_digit (digits_of least most)
digits_of_opens least most = then_opens _ (some_of_opens is_ascii_digit)

date_behind_day_lawful : (day : ℕ) → Lawful (StopsAt is_ascii_digit) (date_behind_day day)
date_behind_day_lawful day =
    ended_lawful (octet_lawful 45) (λ u.
    then_lawful (keyword_lawful month_table)
    (λ month. ended_lawful (octet_lawful 45) (λ v. then_lawful (digits_of_lawful 4 4) (λ year. when_lawful _ _) (λ year. when_follows _ _)))
    (λ month. octet_then_follows _ 45 (λ rest. refl)))

date_text_lawful : Lawful (StopsAt is_ascii_digit) date_text
date_text_lawful = then_lawful (digits_of_lawful 1 2) date_behind_day_lawful (λ day. octet_then_follows _ 45 (λ rest. refl))

date_text_opens : Opens is_ascii_digit date_text
date_text_opens = then_opens _ (digits_of_opens 1 2)

date_lawful_digits : Lawful (StopsAt is_ascii_digit) date
date_lawful_digits =
    flag_then_lawful 34 date_behind
    (then_lawful date_text_lawful (λ d. ended_lawful (octet_lawful 34) (λ u. give_lawful _)) (λ d. octet_then_follows _ 34 (λ rest. refl)))
    date_text_lawful
    (opens_follows date_text_opens (λ b rest h. differs is_ascii_digit 34 refl b h))

pub date_lawful : Lawful AtEnd date
date_lawful = before (end_stops is_ascii_digit refl refl refl) date_lawful_digits

-- ---- date and time

day_fixed_lawful : Lawful (StopsAt is_ascii_digit) day_fixed
day_fixed_lawful = flag_then_lawful 32 day_behind (digits_of_lawful 1 1) (digits_of_lawful 2 2) (opens_follows (digits_of_opens 2 2) (λ b rest h. differs is_ascii_digit 32 refl b h))

below_lawful : (limit : ℕ) → Lawful (StopsAt is_ascii_digit) (below limit)
below_lawful limit = then_lawful (digits_of_lawful 2 2) (λ n. when_lawful _ _) (λ n. when_follows _ _)

zone_lawful : Lawful (StopsAt is_ascii_digit) zone
zone_lawful =
    flag_then_lawful 45 _
    (ended_lawful (give_lawful true) (λ west. then_lawful (digits_of_lawful 4 4) (λ n. when_lawful _ _) (λ n. when_follows _ _)))
    (ended_lawful (ended_lawful (octet_lawful 43) (λ u. give_lawful false)) (λ west. then_lawful (digits_of_lawful 4 4) (λ n. when_lawful _ _) (λ n. when_follows _ _)))
    (opens_follows (then_opens _ (then_opens _ (octet_opens (λ b. eqb b 43) 43 refl))) (λ b rest h. differs (λ b. eqb b 43) 45 refl b h))

pub date_time_text_lawful : Lawful (StopsAt is_ascii_digit) date_time_text
date_time_text_lawful =
    then_lawful day_fixed_lawful (λ day.
    then_lawful (date_behind_day_lawful day) (λ d.
    ended_lawful (octet_lawful 32) (λ u.
    then_lawful (below_lawful 24) (λ hour.
    ended_lawful (octet_lawful 58) (λ v.
    then_lawful (below_lawful 60) (λ minute.
    ended_lawful (octet_lawful 58) (λ w.
    then_lawful (below_lawful 60) (λ second.
    ended_lawful (octet_lawful 32) (λ x.
    then_lawful zone_lawful (λ z. give_lawful _) (λ z. give_follows _)))
    (λ second. octet_then_follows _ 32 (λ rest. refl))))
    (λ minute. octet_then_follows _ 58 (λ rest. refl))))
    (λ hour. octet_then_follows _ 58 (λ rest. refl))))
    (λ d. octet_then_follows _ 32 (λ rest. refl)))
    (λ day. then_follows (octet_then_follows _ 45 (λ rest. refl)) (λ d. after_anything _))

pub date_time_end_lawful : {After : List ℕ → Type 0} → Lawful After date_time_end
date_time_end_lawful = then_lawful date_time_text_lawful (λ t. ended_lawful (octet_lawful 34) (λ y. give_lawful _)) (λ t. octet_then_follows _ 34 (λ rest. refl))
