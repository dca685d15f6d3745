-- Days and moments.
use Rattle.std.specs.Prelude.{ℕ, Bool}
use Rattle.imap_syntax.specs.declared.month.Month.{Month}

pub record Day : Type 0 where
  pub year : ℕ
  pub month : Month
  pub day : ℕ

-- how far local time is from UTC
pub record Offset : Type 0 where
  pub west : Bool
  pub hours : ℕ
  pub minutes : ℕ

pub record Moment : Type 0 where
  pub date : Day
  pub hour : ℕ
  pub minute : ℕ
  pub second : ℕ
  pub zone : Offset
