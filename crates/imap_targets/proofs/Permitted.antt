-- The flags of a new message, one after the other.
use Rattle.std.proofs.Common.{◌≡◌, ℕ, ◌+◌, ◌<◌, ◌≤◌, Bool, true, false, cond, List, [], ◌∷◌, length, drop, drop-cons, add-one, get_or, sym, ap, ◌∙◌, arith}
use Rattle.std.specs.Prelude.{nat_lt}
use Rattle.std.proofs.lemmas.Bool.{lt-ltb, ltb-true}
use Rattle.std.specs.BTreeSet.{insert_key}
use Rattle.std.specs.Str.{str_to_ascii_lowercase}
use Rattle.std.specs.Cmp.Lexicographic.{slice_cmp}
use Rattle.std.specs.Ordering.{match_ordering, nat_cmp}
use Rattle.std.specs.declared.cmp.Ordering.{Ordering}
use Rattle.std.specs.declared.cmp.Ordering.TheVariants.{Less, Equal, Greater}
use Rattle.imap_mailbox.specs.declared.flags.SharedFlags.{SharedFlags}
use Rattle.imap_mailbox.specs.Flags.{has_too_many, with_flag}
use Rattle.imap_rights.specs.Rights.{has_any}
use Rattle.imap_syntax.specs.declared.flag.Flag.{Flag}
use Rattle.imap_syntax.specs.declared.flag.Flag.TheVariants as flag
use Rattle.imap_targets.specs.NewFlags.{right_for, with_permitted, with_permitted_flag}

-- ---- keywords become no fewer

more_keys : (words : List (List ℕ)) (word : List ℕ) → length words ≤ length (insert_key (slice_cmp nat_cmp) words word)
more_keys [] word = omega arith
more_keys (w ∷ words) word = by (slice_cmp nat_cmp word w) (more_keys words word)
  where
    by : (o : Ordering) → length words ≤ length (insert_key (slice_cmp nat_cmp) words word)
        → length (w ∷ words) ≤ length (match_ordering o (word ∷ w ∷ words) (w ∷ words) (w ∷ insert_key (slice_cmp nat_cmp) words word))
    by Less h = omega arith
    by Equal h = omega arith
    by Greater h = omega (arith, h)

still_many : (m n : ℕ) → m ≤ n → nat_lt 32 m ≡ true → nat_lt 32 n ≡ true
still_many m n le many = lt-ltb 32 n (omega (arith, le, ltb-true 32 m many))

many_with : (flag : Flag) (f : SharedFlags) → has_too_many f ≡ true → has_too_many (with_flag flag f) ≡ true
many_with flag.Answered f many = many
many_with flag.Deleted f many = many
many_with flag.Draft f many = many
many_with flag.Flagged f many = many
many_with flag.Seen f many = many
many_with (flag.Other word) f many = many
many_with (flag.Keyword word) f many =
    let lower = str_to_ascii_lowercase word in
    still_many (length f.keywords) (length (insert_key (slice_cmp nat_cmp) f.keywords lower)) (more_keys f.keywords lower) many

many_permitted : (rights : ℕ) (flag : Flag) (f : SharedFlags) → has_too_many f ≡ true → has_too_many (with_permitted_flag rights flag f) ≡ true
many_permitted rights flag f many = by (has_any rights (right_for flag))
  where
    by : (b : Bool) → has_too_many (cond b (with_flag flag f) f) ≡ true
    by true = many_with flag f many
    by false = many

pub stay_many : (rights : ℕ) (flags : List Flag) (f : SharedFlags) → has_too_many f ≡ true → has_too_many (with_permitted rights flags f) ≡ true
stay_many rights [] f many = many
stay_many rights (flag ∷ flags) f many = stay_many rights flags (with_permitted_flag rights flag f) (many_permitted rights flag f many)

-- ---- along the list: `f` are the flags before the place i

pub record IsSoFar (rights : ℕ) (flags : List Flag) (first : SharedFlags) (i : ℕ) (f : SharedFlags) : Type 0 where
  pub rest : with_permitted rights (drop i flags) f ≡ with_permitted rights flags first
  pub few : has_too_many f ≡ false

module _ (rights : ℕ) (flags : List Flag) (first : SharedFlags) (i : ℕ) (flag : Flag) (f new : SharedFlags) (within : i < length flags) (is : flag ≡ get_or flags i flag) (made : new ≡ with_permitted_flag rights flag f) where
  pub one_more : IsSoFar rights flags first i f → with_permitted rights (drop (i + 1) flags) new ≡ with_permitted rights flags first
  one_more before =
      ap (with_permitted rights (drop (i + 1) flags)) made
      ∙ sym (ap (λ l. with_permitted rights l f) (drop-cons flags i flag within) ∙ λ j. with_permitted rights (drop (sym (add-one i) j) flags) (with_permitted_flag rights (sym is j) f))
      ∙ before.rest

  pub too_many : IsSoFar rights flags first i f → has_too_many new ≡ true → has_too_many (with_permitted rights flags first) ≡ true
  too_many before many = sym (ap has_too_many (one_more before)) ∙ stay_many rights (drop (i + 1) flags) new many
