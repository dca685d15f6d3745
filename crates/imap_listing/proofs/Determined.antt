-- What is listed determines the lines.
use Rattle.std.proofs.Common.{◌≡◌, suc, Bool, true, false, List, [], ◌∷◌, get_or, map, drop, All, refl, sym, ap, subst, arith}
use Rattle.std.specs.Prelude.{◌↔◌, IsTrue}
use Rattle.imap_answer.specs.View.{View}
use Rattle.imap_listing.specs.declared.line.Line.{Line}
use Rattle.imap_listing.specs.Texts.{Text}
use Rattle.imap_listing.specs.IsListing.{IsThere, IsSubscribed, HasChildren, IsListed, IsSubscribedListed, name_of, IsListing}
use Rattle.imap_listing.specs.Laws.{ListingIsOne}
use Rattle.imap_listing.proofs.Order.{same_lists}

same_flag : (P : Type 0) (a b : Bool) → IsTrue a ↔ P → IsTrue b ↔ P → a ≡ b
same_flag P true true f g = refl
same_flag P false false f g = refl
same_flag P true false f g = sym (g.1 (f.0 refl))
same_flag P false true f g = f.1 (g.0 refl)

-- a line's flags say of its name what these predicates say
record Says (There Below Subscribed : Text → Type 0) (lines : List Line) : Type 0 where
  there : All (λ line. IsTrue line.is_there ↔ There line.name) lines
  children : All (λ line. IsTrue line.has_children ↔ Below line.name) lines
  subscribed : All (λ line. IsTrue line.is_subscribed ↔ Subscribed line.name) lines

module _ (There Below Subscribed : Text → Type 0) where
  rest_says : (line : Line) (lines : List Line) → Says There Below Subscribed (line ∷ lines) → Says There Below Subscribed lines
  rest_says line lines s = record {
    there = λ k d lt. s.there (suc k) d (omega arith);
    children = λ k d lt. s.children (suc k) d (omega arith);
    subscribed = λ k d lt. s.subscribed (suc k) d (omega arith);
  }

  same_first : (a b : Line) (ls ms : List Line) → a.name ≡ b.name → Says There Below Subscribed (a ∷ ls) → Says There Below Subscribed (b ∷ ms) → a ≡ b
  same_first a b ls ms name s t =
      let there : a.is_there ≡ b.is_there = same_flag (There b.name) a.is_there b.is_there (subst (λ z. IsTrue a.is_there ↔ There z) name (s.there 0 a (omega arith))) (t.there 0 b (omega arith)) in
      let children : a.has_children ≡ b.has_children = same_flag (Below b.name) a.has_children b.has_children (subst (λ z. IsTrue a.has_children ↔ Below z) name (s.children 0 a (omega arith))) (t.children 0 b (omega arith)) in
      let subscribed : a.is_subscribed ≡ b.is_subscribed = same_flag (Subscribed b.name) a.is_subscribed b.is_subscribed (subst (λ z. IsTrue a.is_subscribed ↔ Subscribed z) name (s.subscribed 0 a (omega arith))) (t.subscribed 0 b (omega arith)) in
      λ i. record { name = name i; is_there = there i; has_children = children i; is_subscribed = subscribed i }

  same_said : (ls ms : List Line) → map name_of ls ≡ map name_of ms → Says There Below Subscribed ls → Says There Below Subscribed ms → ls ≡ ms
  same_said [] [] e s t = refl
  same_said [] (b ∷ ms) e s t = cc
  same_said (a ∷ ls) [] e s t = cc
  same_said (a ∷ ls) (b ∷ ms) e s t =
      let first : a ≡ b = same_first a b ls ms (ap (λ z. get_or z 0 []) e) s t in
      let later : ls ≡ ms = same_said ls ms (ap (drop 1) e) (rest_says a ls s) (rest_says b ms t) in
      λ i. first i ∷ later i

determined : (view : View) (Listed : Text → Type 0) (a b : List Line) → IsListing view Listed a → IsListing view Listed b → a ≡ b
determined view Listed a b p q =
    same_said (IsThere view) (HasChildren view) (IsSubscribed view) a b
    (same_lists (map name_of a) (map name_of b) p.rising q.rising (λ n. (λ c. (q.exact n).1 ((p.exact n).0 c), λ c. (p.exact n).1 ((q.exact n).0 c))))
    (record { there = p.there; children = p.children; subscribed = p.subscribed })
    (record { there = q.there; children = q.children; subscribed = q.subscribed })

pub one_listing : ListingIsOne
one_listing view patterns a b = (determined view (IsListed view patterns) a b, determined view (IsSubscribedListed view patterns) a b)
