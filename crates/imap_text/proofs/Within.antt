-- Where a needle stands is what a search for it finds.
use Rattle.std.proofs.Common.{◌≡◌, ◌∙◌, ap, sym, refl, ℕ, ◌+◌, List, ◌++◌, length, length-append, take, drop, arith, true, Option, Some, None}
use Rattle.std.specs.Option.{is_some}
use Rattle.std.proofs.lemmas.List.{take-append-drop}
use Rattle.std.proofs.lemmas.List.Prefix.{front_rest, at_from_reads, at_reads}
use Rattle.bstr.specs.Find.{OccursAt, FindsNeedle}
use Rattle.imap_text.specs.Folds.{IsWithin}

abbrev pub within_at : (whole part : List ℕ) (at : ℕ) → OccursAt whole part at → IsWithin part whole
within_at whole part at occurs =
    let there = at_from_reads 0 whole part at occurs.fits occurs.reads in
    record {
      front = take at whole;
      back = drop (at + length part) whole;
      is = sym (take-append-drop at whole) ∙ ap (λ (l : List ℕ). take at whole ++ l) there;
    }

pub occurs_within : (whole part : List ℕ) (is : IsWithin part whole) → OccursAt whole part (length is.front)
occurs_within whole part is =
    record {
      fits = omega (arith, ap length is.is, length-append is.front (part ++ is.back), length-append part is.back);
      reads = at_reads 0 whole part (length is.front) is.back (front_rest whole is.front (part ++ is.back) is.is);
    }

pub found_within : (whole part : List ℕ) (result : Option ℕ) → FindsNeedle whole part 0 result → (is_some result ≡ true → IsWithin part whole) × (IsWithin part whole → is_some result ≡ true)
found_within whole part None h = (λ e. absurd cc, λ is. let occurs = occurs_within whole part is in absurd (h (length is.front) (omega arith) (omega (arith, occurs.fits)) occurs))
found_within whole part (Some at) h = (λ e. within_at whole part at h.1, λ is. refl)
