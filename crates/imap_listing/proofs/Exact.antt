-- That the definitions of listings give what a listing is.
use Rattle.std.proofs.Common.{◌≡◌, Bool, true, false, ◌||◌, List, [], ◌∷◌, ◌++◌, get_or, map, filter, Some, All, refl, sym, ap, ◌∙◌, subst, inl, inr}
use Rattle.std.specs.Prelude.{◌↔◌, ◌⊎◌, IsTrue}
use Rattle.std.specs.FinMap as fin
use Rattle.std.specs.List.{AllByRecursion, Contains, list_any}
use Rattle.std.specs.List.Sorted.{IsStrictlySortedBy}
use Rattle.std.proofs.lemmas.Bool.{and_parts, and_from}
use Rattle.std.proofs.lemmas.List.Elements.{All-from_recursion, Contains-get_or}
use Rattle.imap_names.specs.Name.{Name}
use Rattle.imap_names.specs.Showing.{shown}
use Rattle.imap_names.specs.declared.token.Token.{Token}
use Rattle.imap_names.specs.MatchTest.{is_match, ends_in_percent}
use Rattle.imap_names.specs.Pattern.{IsMatch, EndsInPercent}
use Rattle.imap_answer.specs.Seen.{Seen}
use Rattle.imap_answer.specs.View.{View}
use Rattle.imap_listing.specs.declared.line.Line.{Line}
use Rattle.imap_listing.specs.Texts.{Text, text_cmp, in_order, has, levels}
use Rattle.imap_listing.specs.Matching.{Patterns, is_level_match, is_matched, is_matched_level}
use Rattle.imap_listing.specs.Lines.{line_of, listed_names, subscribed_listed_names}
use Rattle.imap_listing.specs.ViewNames.{is_listable, listable_among, listable_names, subscribed_names}
use Rattle.imap_listing.specs.Listing.{listing, subscribed_listing}
use Rattle.imap_listing.specs.IsListing.{IsThere, IsSubscribed, HasChildren, Matches, MatchesLevel, IsListed, IsSubscribedListed, name_of, IsListing}
use Rattle.imap_listing.specs.Laws.{ListingIsExact, SubscribedListingIsExact, OrderMakesNoDifference, LevelsNeedPercent}
use Rattle.imap_listing.proofs.Finding.{get_entry, has_key}
use Rattle.imap_listing.proofs.Hierarchy.{levels_contained}
use Rattle.imap_listing.proofs.Listed.{either}
use Rattle.imap_listing.proofs.Members.{appended, filtered, mapped}
use Rattle.imap_listing.proofs.Order.{has_contained, contained_has, in_order_same, in_order_rises, same_answer, holds_first, holds_later, first_or_later, none_held}

-- ---- tests and what they say

any_contained : {X : Type 0} (p : X → Bool) (xs : List X) → (list_any p xs ≡ true) ↔ ((x : X) × Contains xs x × (p x ≡ true))
any_contained {X} p xs = (λ e. forth xs e, λ h. back xs h.0 h.1 h.2)
  where
    forth : (ys : List X) → list_any p ys ≡ true → (x : X) × Contains ys x × (p x ≡ true)
    forth [] e = cc
    forth (y ∷ ys) e = at (λ f. forth ys f) (p y) refl e
      where
        at : (list_any p ys ≡ true → (x : X) × Contains ys x × (p x ≡ true)) → (b : Bool) → p y ≡ b → (b || list_any p ys) ≡ true → (x : X) × Contains (y ∷ ys) x × (p x ≡ true)
        at later true t f = (y, holds_first y ys, t)
        at later false t f = let h = later f in (h.0, holds_later y ys h.0 h.1, h.2)

    or_true : (b : Bool) → (b || true) ≡ true
    or_true true = refl
    or_true false = refl

    back : (ys : List X) (x : X) → Contains ys x → p x ≡ true → list_any p ys ≡ true
    back [] x c t = absurd (none_held x c)
    back (y ∷ ys) x c t = at (λ d. back ys x d t) (first_or_later y ys x c)
      where
        at : (Contains ys x → list_any p ys ≡ true) → (y ≡ x) ⊎ Contains ys x → (p y || list_any p ys) ≡ true
        at later (inl q) = ap (λ b. b || list_any p ys) (ap p q ∙ t)
        at later (inr d) = ap (λ b. p y || b) (later d) ∙ or_true (p y)

-- what the tests of a pattern say
pub record Tested : Type 0 where
  pub match : (pattern : List Token) (text : Text) → IsTrue (is_match pattern text) ↔ IsMatch pattern text
  pub percent : (pattern : List Token) → IsTrue (ends_in_percent pattern) ↔ EndsInPercent pattern

matched : Tested → (patterns : Patterns) (n : Text) → (is_matched patterns n ≡ true) ↔ Matches patterns n
matched tested patterns n = (
  λ e. let h = (any_contained (λ pattern. is_match pattern n) patterns).0 e in (h.0, h.1, (tested.match h.0 n).0 h.2),
  λ h. (any_contained (λ pattern. is_match pattern n) patterns).1 (h.0, h.1, (tested.match h.0 n).1 h.2),
)

matched_level : Tested → (patterns : Patterns) (n : Text) → (is_matched_level patterns n ≡ true) ↔ MatchesLevel patterns n
matched_level tested patterns n = (
  λ e. let h = (any_contained (λ pattern. is_level_match pattern n) patterns).0 e in
      let both = and_parts (ends_in_percent h.0) (is_match h.0 n) h.2 in
      (h.0, h.1, (tested.percent h.0).0 both.0, (tested.match h.0 n).0 both.1),
  λ h. (any_contained (λ pattern. is_level_match pattern n) patterns).1
      (h.0, h.1, and_from (ends_in_percent h.0) (is_match h.0 n) ((tested.percent h.0).1 h.2) ((tested.match h.0 n).1 h.3)),
)

-- ---- names of a view

pub there_is : (view : View) (n : Text) → Contains (listable_names view) n ↔ IsThere view n
there_is view n = (λ c. forth c, λ h. back h.0 h.1 h.2 h.3 h.4)
  where
    name_shown : Name × Seen → Text
    name_shown e = shown view.user e.0

    forth : Contains (listable_names view) n → IsThere view n
    forth c =
        let h = (mapped (λ (e : Name × Seen). shown view.user e.0) (listable_among (fin.entries view.seen)) n).0 c in
        let f = (filtered (λ (e : Name × Seen). is_listable e.1) (fin.entries view.seen) h.0).0 h.1 in
        (h.0.0, h.0.1, (get_entry view.seen h.0.0 h.0.1).1 f.0, f.1, h.2)

    back : (name : Name) (seen : Seen) → fin.get view.seen name ≡ Some seen → is_listable seen ≡ true → shown view.user name ≡ n → Contains (listable_names view) n
    back name seen g l s =
        (mapped (λ (e : Name × Seen). shown view.user e.0) (listable_among (fin.entries view.seen)) n).1
        ((name, seen), (filtered (λ (e : Name × Seen). is_listable e.1) (fin.entries view.seen) (name, seen)).1 ((get_entry view.seen name seen).0 g, l), s)

subscribed_is : (view : View) (n : Text) → Contains (subscribed_names view) n ↔ IsSubscribed view n
subscribed_is view n = (λ c. forth c, λ h. back h.0 h.1 h.2)
  where
    forth : Contains (subscribed_names view) n → IsSubscribed view n
    forth c =
        let h = (mapped (λ (e : Name × Unit {0}). shown view.user e.0) (fin.entries view.subscribed) n).0 c in
        (h.0.0, (has_key view.subscribed h.0.0).1 ((mapped (λ (e : Name × Unit {0}). e.0) (fin.entries view.subscribed) h.0.0).1 (h.0, h.1, refl)), h.2)

    back : (name : Name) → fin.contains_key view.subscribed name ≡ true → shown view.user name ≡ n → Contains (subscribed_names view) n
    back name k s =
        let h = (mapped (λ (e : Name × Unit {0}). e.0) (fin.entries view.subscribed) name).0 ((has_key view.subscribed name).0 k) in
        (mapped (λ (e : Name × Unit {0}). shown view.user e.0) (fin.entries view.subscribed) n).1 (h.0, h.1, ap (shown view.user) h.2 ∙ s)

children_are : (view : View) (n : Text) → Contains (levels (listable_names view)) n ↔ HasChildren view n
children_are view n = (
  λ c. let h = (levels_contained (listable_names view) n).0 c in (h.0, (there_is view h.0).0 h.1, h.2),
  λ h. (levels_contained (listable_names view) n).1 (h.0, (there_is view h.0).1 h.1, h.2),
)

has_is : (P : Type 0) (xs : List Text) (n : Text) → Contains xs n ↔ P → IsTrue (has xs n) ↔ P
has_is P xs n h = (λ e. h.0 (contained_has xs n e), λ p. has_contained xs n (h.1 p))

-- ---- the lines

names_back : (there subscribed names : List Text) → map name_of (map (line_of there subscribed) names) ≡ names
names_back there subscribed [] = refl
names_back there subscribed (n ∷ names) = ap (λ z. n ∷ z) (names_back there subscribed names)

all_made : (P : Line → Type 0) (f : Text → Line) → ((n : Text) → P (f n)) → (names : List Text) → AllByRecursion P (map f names)
all_made P f h [] = tt
all_made P f h (n ∷ names) = (h n, all_made P f h names)

all_lines : (P : Line → Type 0) (f : Text → Line) → ((n : Text) → P (f n)) → (names : List Text) → All P (map f names)
all_lines P f h names = All-from_recursion P (map f names) (all_made P f h names)

exact_lines : (view : View) (Listed : Text → Type 0) (names : List Text) → IsStrictlySortedBy text_cmp names → ((n : Text) → Contains names n ↔ Listed n) → IsListing view Listed (map (line_of (listable_names view) (subscribed_names view)) names)
exact_lines view Listed names up h =
    let there = listable_names view in
    let subscribed = subscribed_names view in
    let back = sym (names_back there subscribed names) in
    record {
      rising = subst (IsStrictlySortedBy text_cmp) back up;
      exact = λ n. subst (λ (z : List Text). Contains z n ↔ Listed n) back (h n);
      there = all_lines (λ line. IsTrue line.is_there ↔ IsThere view line.name) (line_of there subscribed) (λ n. has_is (IsThere view n) there n (there_is view n)) names;
      children = all_lines (λ line. IsTrue line.has_children ↔ HasChildren view line.name) (line_of there subscribed) (λ n. has_is (HasChildren view n) (levels there) n (children_are view n)) names;
      subscribed = all_lines (λ line. IsTrue line.is_subscribed ↔ IsSubscribed view line.name) (line_of there subscribed) (λ n. has_is (IsSubscribed view n) subscribed n (subscribed_is view n)) names;
    }

both_are : (P Q R S : Type 0) → P ↔ R → Q ↔ S → (P × Q) ↔ (R × S)
both_are P Q R S f g = (λ h. (f.0 h.0, g.0 h.1), λ h. (f.1 h.0, g.1 h.1))

through : (P Q R : Type 0) → P ↔ Q → Q ↔ R → P ↔ R
through P Q R f g = (λ p. g.0 (f.0 p), λ r. f.1 (g.1 r))

listed_is : Tested → (view : View) (patterns : Patterns) (n : Text) → Contains (listed_names (listable_names view) patterns) n ↔ IsListed view patterns n
listed_is tested view patterns n =
    let there = listable_names view in
    let p = is_matched patterns in
    let q = is_matched_level patterns in
    let left : Contains (filter p there) n ↔ (IsThere view n × Matches patterns n) =
    through (Contains (filter p there) n) (Contains there n × (p n ≡ true)) (IsThere view n × Matches patterns n) (filtered p there n)
    (both_are (Contains there n) (p n ≡ true) (IsThere view n) (Matches patterns n) (there_is view n) (matched tested patterns n)) in
    let right : Contains (filter q (levels there)) n ↔ (HasChildren view n × MatchesLevel patterns n) =
    through (Contains (filter q (levels there)) n) (Contains (levels there) n × (q n ≡ true)) (HasChildren view n × MatchesLevel patterns n) (filtered q (levels there) n)
    (both_are (Contains (levels there) n) (q n ≡ true) (HasChildren view n) (MatchesLevel patterns n) (children_are view n) (matched_level tested patterns n)) in
    let all = filter p there ++ filter q (levels there) in
    through (Contains (in_order all) n) (Contains all n) (IsListed view patterns n) (in_order_same all n)
    (through (Contains all n) (Contains (filter p there) n ⊎ Contains (filter q (levels there)) n) (IsListed view patterns n) (appended (filter p there) (filter q (levels there)) n)
    (either (Contains (filter p there) n) (Contains (filter q (levels there)) n) (IsThere view n × Matches patterns n) (HasChildren view n × MatchesLevel patterns n) left right))

subscribed_listed_is : Tested → (view : View) (patterns : Patterns) (n : Text) → Contains (subscribed_listed_names (subscribed_names view) patterns) n ↔ IsSubscribedListed view patterns n
subscribed_listed_is tested view patterns n =
    let names = subscribed_names view in
    let p = is_matched patterns in
    through (Contains (in_order (filter p names)) n) (Contains (filter p names) n) (IsSubscribedListed view patterns n) (in_order_same (filter p names) n)
    (through (Contains (filter p names) n) (Contains names n × (p n ≡ true)) (IsSubscribedListed view patterns n) (filtered p names n)
    (both_are (Contains names n) (p n ≡ true) (IsSubscribed view n) (Matches patterns n) (subscribed_is view n) (matched tested patterns n)))

-- ---- the laws

pub exact : Tested → ListingIsExact
unfolding listing
exact tested view patterns =
    let names = filter (is_matched patterns) (listable_names view) ++ filter (is_matched_level patterns) (levels (listable_names view)) in
    exact_lines view (IsListed view patterns) (listed_names (listable_names view) patterns) (in_order_rises names) (listed_is tested view patterns)

pub subscribed_exact : Tested → SubscribedListingIsExact
unfolding subscribed_listing
subscribed_exact tested view patterns =
    exact_lines view (IsSubscribedListed view patterns) (subscribed_listed_names (subscribed_names view) patterns) (in_order_rises (filter (is_matched patterns) (subscribed_names view))) (subscribed_listed_is tested view patterns)

any_same : {X : Type 0} (p : X → Bool) (xs ys : List X) → ((x : X) → Contains xs x ↔ Contains ys x) → list_any p xs ≡ list_any p ys
any_same p xs ys same =
    same_answer (list_any p xs) (list_any p ys)
    (λ e. let h = (any_contained p xs).0 e in (any_contained p ys).1 (h.0, (same h.0).0 h.1, h.2))
    (λ e. let h = (any_contained p ys).0 e in (any_contained p xs).1 (h.0, (same h.0).1 h.1, h.2))

pub order_free : OrderMakesNoDifference
unfolding listing subscribed_listing
order_free view patterns others same =
    let there = listable_names view in
    let subscribed = subscribed_names view in
    let p = λ (n : Text). any_same (λ pattern. is_match pattern n) patterns others same in
    let q = λ (n : Text). any_same (λ pattern. is_level_match pattern n) patterns others same in (
      λ i. map (line_of there subscribed) (in_order (filter (λ n. p n i) there ++ filter (λ n. q n i) (levels there))),
      λ i. map (line_of there subscribed) (in_order (filter (λ n. p n i) subscribed)),
    )

pub need_percent : Tested → LevelsNeedPercent
need_percent tested view patterns none k d lt = by ((h.exact line.name).0 ((mapped name_of lines line.name).1 (line, Contains-get_or lines k d lt, refl)))
  where
    lines : List Line
    lines = listing view patterns

    line : Line
    line = get_or lines k d

    h : IsListing view (IsListed view patterns) lines
    h = exact tested view patterns

    by : IsListed view patterns line.name → line.is_there ≡ true
    by (inl (there, m)) = (h.there k d lt).1 there
    by (inr (below, (pattern, c, ends, m))) =
        let not : ends_in_percent pattern ≡ false = subst (λ (z : List Token). ends_in_percent z ≡ false) c.2 (none c.0 pattern c.1) in
        let no_way : true ≡ false = sym ((tested.percent pattern).1 ends) ∙ not in cc
