-- From what the code sorts to what the definitions say.
use Rattle.std.proofs.Common.{◌≡◌, Bool, List, ◌++◌, map, filter, ap, ◌∙◌, inl, inr}
use Rattle.std.specs.Prelude.{◌↔◌, ◌⊎◌}
use Rattle.std.specs.List.{Contains}
use Rattle.std.proofs.lemmas.List.Kept.{IsStrictlySortedBy-filter}
use Rattle.imap_listing.specs.declared.line.Line.{Line}
use Rattle.imap_listing.specs.Texts.{Text, text_cmp, in_order, levels}
use Rattle.imap_listing.specs.Matching.{Patterns, is_matched, is_matched_level}
use Rattle.imap_listing.specs.Lines.{line_by, line_of, listed_names, lines_of, subscribed_listed_names, subscribed_lines_of}
use Rattle.imap_listing.proofs.Members.{appended, filtered}
use Rattle.imap_listing.proofs.Order.{in_order_same, in_order_rises, is_in_order, same_in_order, has_in_order}

same_line : (there subscribed : List Text) (name : Text) → line_by (in_order there) (in_order (levels there)) (in_order subscribed) name ≡ line_of there subscribed name
same_line there subscribed name = λ i. record {
  name = name;
  is_there = has_in_order there name i;
  has_children = has_in_order (levels there) name i;
  is_subscribed = has_in_order subscribed name i;
}

pub same_lines : (there subscribed names : List Text) → map (line_by (in_order there) (in_order (levels there)) (in_order subscribed)) names ≡ map (line_of there subscribed) names
same_lines there subscribed names = λ i. map (λ name. same_line there subscribed name i) names

filtered_same : (p : Text → Bool) (xs : List Text) (n : Text) → Contains (filter p (in_order xs)) n ↔ Contains (filter p xs) n
filtered_same p xs n = (
  λ c. let h = (filtered p (in_order xs) n).0 c in (filtered p xs n).1 ((in_order_same xs n).0 h.0, h.1),
  λ c. let h = (filtered p xs n).0 c in (filtered p (in_order xs) n).1 ((in_order_same xs n).1 h.0, h.1),
)

pub either : (P Q R S : Type 0) → P ↔ R → Q ↔ S → (P ⊎ Q) ↔ (R ⊎ S)
either P Q R S f g = (λ h. forth h, λ h. back h)
  where
    forth : P ⊎ Q → R ⊎ S
    forth (inl h) = inl (f.0 h)
    forth (inr h) = inr (g.0 h)

    back : R ⊎ S → P ⊎ Q
    back (inl h) = inl (f.1 h)
    back (inr h) = inr (g.1 h)

-- the names that are listed may be found in what is in order
pub same_listed : (there : List Text) (patterns : Patterns) → in_order (filter (is_matched patterns) (in_order there) ++ filter (is_matched_level patterns) (in_order (levels there))) ≡ listed_names there patterns
same_listed there patterns =
    let p = is_matched patterns in
    let q = is_matched_level patterns in
    same_in_order (filter p (in_order there) ++ filter q (in_order (levels there))) (filter p there ++ filter q (levels there)) (λ n.
    let both = either (Contains (filter p (in_order there)) n) (Contains (filter q (in_order (levels there))) n) (Contains (filter p there) n) (Contains (filter q (levels there)) n) (filtered_same p there n) (filtered_same q (levels there) n) in (
      λ c. (appended (filter p there) (filter q (levels there)) n).1 (both.0 ((appended (filter p (in_order there)) (filter q (in_order (levels there))) n).0 c)),
      λ c. (appended (filter p (in_order there)) (filter q (in_order (levels there))) n).1 (both.1 ((appended (filter p there) (filter q (levels there)) n).0 c)),
    ))

pub same_subscribed : (subscribed : List Text) (patterns : Patterns) → filter (is_matched patterns) (in_order subscribed) ≡ subscribed_listed_names subscribed patterns
same_subscribed subscribed patterns =
    is_in_order (filter (is_matched patterns) subscribed) (filter (is_matched patterns) (in_order subscribed))
    (IsStrictlySortedBy-filter text_cmp (is_matched patterns) (in_order subscribed) (in_order_rises subscribed))
    (filtered_same (is_matched patterns) subscribed)

-- what the code makes of names and levels
module _ (there subscribed : List Text) (patterns : Patterns) (a b s : List Text) (first : a ≡ in_order there) (second : b ≡ in_order (levels there)) (third : s ≡ in_order subscribed) where
  as_lines : (names : List Text) → map (line_by a b s) names ≡ map (line_of there subscribed) names
  as_lines names = (λ i. map (line_by (first i) (second i) (third i)) names) ∙ same_lines there subscribed names

  pub made_lines : (matched both names : List Text) (lines : List Line) → matched ≡ filter (is_matched patterns) a → both ≡ matched ++ filter (is_matched_level patterns) b → names ≡ in_order both → lines ≡ map (line_by a b s) names → lines ≡ lines_of there subscribed patterns
  made_lines matched both names lines m l n e =
      e ∙ as_lines names
      ∙ ap (map (line_of there subscribed))
      (n ∙ ap in_order (l ∙ (λ i. (m ∙ ap (filter (is_matched patterns)) first) i ++ filter (is_matched_level patterns) (second i))) ∙ same_listed there patterns)

  pub made_subscribed : (names : List Text) (lines : List Line) → names ≡ filter (is_matched patterns) s → lines ≡ map (line_by a b s) names → lines ≡ subscribed_lines_of there subscribed patterns
  made_subscribed names lines n e =
      e ∙ as_lines names
      ∙ ap (map (line_of there subscribed)) (n ∙ ap (filter (is_matched patterns)) third ∙ same_subscribed subscribed patterns)
