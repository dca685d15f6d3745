-- A stream has one reading.
use Rattle.std.proofs.Common.{◌≡◌, ◌∙◌, ap, sym, refl, subst, ℕ, ◌+◌, ◌<◌, ◌≤◌, ◌⊎◌, inl, inr, List, [], ◌∷◌, ◌++◌, append_assoc, append-nil, length, length-append, take, drop, arith, false}
use Rattle.std.specs.List.{flat_map, AllByRecursion}
use Rattle.std.proofs.lemmas.List.{append_cancel_left, take_at, drop_at}
use Rattle.imap_lex.specs.Limits.{max_command_octets, max_unasked_octets}
use Rattle.imap_lex.specs.Mark.{Announced, IsMarked}
use Rattle.imap_lex.specs.Framing.{crlf}
use Rattle.imap_lex.specs.Stream.{HasNoCrlf, IsLine, IsMarkedLine, IsLastLine, IsShort, Section, IsSection, sections_octets, outside, inside, IsBegun, Item, command, dropped, IsItem, item_octets, Ending, in_line, in_literal, too_long, too_large, IsEnding, ending_octets, HasOneReading}
use Rattle.imap_lex.proofs.Marks.{marks_are_found}

-- of two fronts of the same octets one begins with the other
fronts : (a x b y : List ℕ) → a ++ x ≡ b ++ y → ((z : List ℕ) × (b ≡ a ++ z)) ⊎ ((z : List ℕ) × (a ≡ b ++ z))
fronts [] x b y e = inl (b, refl)
fronts (c ∷ a) x [] y e = inr (c ∷ a, refl)
fronts (c ∷ a) x (d ∷ b) y e =
    let same : c ≡ d = cc in
    elim (fronts a x b y cc) [ inl p ↦ inl (p.0, rw (same, p.1) refl) | inr p ↦ inr (p.0, rw (same, p.1) refl) ]

line_first : (a b z : List ℕ) → IsLine a → IsLine b → b ≡ a ++ z → a ≡ b
line_first a b z is_a is_b e =
    let whole : b ≡ is_a.ends.0 ++ (crlf ++ z) = e ∙ ap (λ (l : List ℕ). l ++ z) is_a.ends.1 ∙ append_assoc is_a.ends.0 crlf z in
    sym (e ∙ ap (λ (l : List ℕ). a ++ l) (is_b.no_earlier is_a.ends.0 z whole) ∙ append-nil a)

-- the first line of octets is one only
same_line : (a x b y : List ℕ) → IsLine a → IsLine b → a ++ x ≡ b ++ y → (a ≡ b) × (x ≡ y)
same_line a x b y is_a is_b e =
    let same : a ≡ b = elim (fronts a x b y e) [ inl p ↦ line_first a b p.0 is_a is_b p.1 | inr p ↦ sym (line_first b a p.0 is_b is_a p.1) ] in
    (same, append_cancel_left b x y (ap (λ (l : List ℕ). l ++ x) (sym same) ∙ e))

-- fronts of one length
same_front : (a x b y : List ℕ) → length a ≡ length b → a ++ x ≡ b ++ y → (a ≡ b) × (x ≡ y)
same_front a x b y lengths e = (
  sym (take_at a x (length b) lengths) ∙ ap (take (length b)) e ∙ take_at b y (length b) refl,
  sym (drop_at a x (length b) lengths) ∙ ap (drop (length b)) e ∙ drop_at b y (length b) refl,
)

no_line_within : (line text back : List ℕ) → IsLine line → text ≡ line ++ back → HasNoCrlf text → ⊥
no_line_within line text back is e none = none is.ends.0 back (e ∙ ap (λ (l : List ℕ). l ++ back) is.ends.1 ∙ append_assoc is.ends.0 crlf back)

-- octets without CRLF begin with no line, whatever follows a front of them that is as long
no_line_before : (line x text y : List ℕ) → IsLine line → HasNoCrlf text → length line ≤ length text → line ++ x ≡ text ++ y → ⊥
no_line_before line x text y is none short e = elim (fronts line x text y e) [
  | inl p ↦ no_line_within line text p.0 is p.1 none
  | inr p ↦
      let empty : length p.0 ≡ 0 = omega (arith, ap length p.1, length-append text p.0) in
      let same = same_front text p.0 line [] (omega (arith, ap length p.1, length-append text p.0)) (sym p.1 ∙ sym (append-nil line)) in
      no_line_within line text [] is (same.0 ∙ sym (append-nil line)) none
]

same_mark : (a b : List ℕ) (m n : Announced) → a ≡ b → IsMarked a m → IsMarked b n → m ≡ n
same_mark a b m n e is_m is_n = let first = marks_are_found a m is_m in let second = marks_are_found b n is_n in cc

-- With these octets no section begins that is within the limits, by the numbers of octets that came outside literals and inside.
record NoSection (limit o n : ℕ) (octets : List ℕ) : Type 0 where
  no : (s : Section) (more : List ℕ) → IsSection s → o + length s.line ≤ max_command_octets → n + s.mark.size ≤ limit → octets ≡ s.line ++ (s.literal ++ more) → ⊥

NoSection-in_line : (limit o n : ℕ) (text : List ℕ) → HasNoCrlf text → NoSection limit o n text
NoSection-in_line limit o n text none = record { no = λ s more is fits room e. no_line_within s.line text (s.literal ++ more) is.marked.is_line e none }

NoSection-too_long : (limit o n : ℕ) (text more : List ℕ) → HasNoCrlf text → o + length text ≡ max_command_octets → NoSection limit o n (text ++ more)
NoSection-too_long limit o n text more none full = record {
  no = λ s rest is fits room e. no_line_before s.line (s.literal ++ rest) text more is.marked.is_line none (omega arith) (sym e);
}

NoSection-unmarked : (limit o n : ℕ) (last more : List ℕ) → IsLastLine last → NoSection limit o n (last ++ more)
NoSection-unmarked limit o n last more is_last = record {
  no = λ s rest is fits room e.
      let same = same_line last more s.line (s.literal ++ rest) is_last.is_line is.marked.is_line e in
      is_last.unmarked s.mark (subst (λ (l : List ℕ). IsMarked l s.mark) (sym same.0) is.marked.marked);
}

NoSection-marked : (limit o n : ℕ) (last more : List ℕ) (mark : Announced) → IsMarkedLine last mark → (IsShort mark → n + mark.size ≤ limit → ⊥) → NoSection limit o n (last ++ more)
NoSection-marked limit o n last more mark is_last over = record {
  no = λ s rest is fits room e.
      let same = same_line last more s.line (s.literal ++ rest) is_last.is_line is.marked.is_line e in
      let marks = same_mark s.line last s.mark mark (sym same.0) is.marked.marked is_last.marked in
      over (subst IsShort marks is.short) (subst (λ (m : Announced). n + m.size ≤ limit) marks room);
}

NoSection-in_literal : (limit o n : ℕ) (line literal : List ℕ) (mark : Announced) → IsMarkedLine line mark → length literal < mark.size → NoSection limit o n (line ++ literal)
NoSection-in_literal limit o n line literal mark is_line part = record {
  no = λ s rest is fits room e.
      let same = same_line line literal s.line (s.literal ++ rest) is_line.is_line is.marked.is_line e in
      let marks = same_mark s.line line s.mark mark (sym same.0) is.marked.marked is_line.marked in
      let sizes : s.mark.size ≡ mark.size = ap (λ (m : Announced). m.size) marks in
      omega (arith, sizes, is.size, ap length same.1, length-append s.literal rest);
}

same_section : (s t : Section) (x y : List ℕ) → IsSection s → IsSection t → s.line ++ (s.literal ++ x) ≡ t.line ++ (t.literal ++ y) → (s ≡ t) × (x ≡ y)
same_section s t x y is_s is_t e =
    let lines = same_line s.line (s.literal ++ x) t.line (t.literal ++ y) is_s.marked.is_line is_t.marked.is_line e in
    let marks = same_mark s.line t.line s.mark t.mark lines.0 is_s.marked.marked is_t.marked.marked in
    let sizes : s.mark.size ≡ t.mark.size = ap (λ (m : Announced). m.size) marks in
    let literals = same_front s.literal x t.literal y (is_s.size ∙ sizes ∙ sym is_t.size) lines.1 in (
      λ i. record { line = lines.0 i; mark = marks i; literal = literals.0 i },
      literals.1,
    )

section_first : (s : Section) (rest tail : List ℕ) → ((s.line ++ s.literal) ++ rest) ++ tail ≡ s.line ++ (s.literal ++ (rest ++ tail))
section_first s rest tail = simp append_assoc refl

same_sections : (limit o n a b c d : ℕ) (ss ts : List Section) (x y : List ℕ) → AllByRecursion IsSection ss → AllByRecursion IsSection ts →
    a ≡ o + outside ss → b ≡ n + inside ss → c ≡ o + outside ts → d ≡ n + inside ts → a ≤ max_command_octets → b ≤ limit → c ≤ max_command_octets → d ≤ limit →
    NoSection limit a b x → NoSection limit c d y → sections_octets ss ++ x ≡ sections_octets ts ++ y → (ss ≡ ts) × (x ≡ y)
same_sections limit o n a b c d [] [] x y all_s all_t ea eb ec ed ha hb hc hd none_x none_y e = (refl, e)
same_sections limit o n a b c d [] (t ∷ ts) x y all_s all_t ea eb ec ed ha hb hc hd none_x none_y e =
    absurd (none_x.no t (sections_octets ts ++ y) all_t.0 (omega arith) (omega arith) (e ∙ section_first t (sections_octets ts) y))
same_sections limit o n a b c d (s ∷ ss) [] x y all_s all_t ea eb ec ed ha hb hc hd none_x none_y e =
    absurd (none_y.no s (sections_octets ss ++ x) all_s.0 (omega arith) (omega arith) (sym e ∙ section_first s (sections_octets ss) x))
same_sections limit o n a b c d (s ∷ ss) (t ∷ ts) x y all_s all_t ea eb ec ed ha hb hc hd none_x none_y e =
    let first = same_section s t (sections_octets ss ++ x) (sections_octets ts ++ y) all_s.0 all_t.0 (sym (section_first s (sections_octets ss) x) ∙ e ∙ section_first t (sections_octets ts) y) in
    let lines : length s.line ≡ length t.line = ap (λ (u : Section). length u.line) first.0 in
    let sizes : s.mark.size ≡ t.mark.size = ap (λ (u : Section). u.mark.size) first.0 in
    let rest = same_sections limit (o + length s.line) (n + s.mark.size) a b c d ss ts x y all_s.1 all_t.1 (omega arith) (omega arith) (omega arith) (omega arith) ha hb hc hd none_x none_y first.1 in
    (λ i. first.0 i ∷ rest.0 i, rest.1)

-- sections within the limits
record AreWithin (limit : ℕ) (ss : List Section) : Type 0 where
  each : AllByRecursion IsSection ss
  outside : outside ss ≤ max_command_octets
  inside : inside ss ≤ limit

AreWithin-begun : (limit : ℕ) (ss : List Section) (n k : ℕ) → IsBegun limit ss n k → AreWithin limit ss
AreWithin-begun limit ss n k is = record { each = is.each; outside = omega (arith, is.outside); inside = omega (arith, is.inside) }

same_start : (limit : ℕ) (ss ts : List Section) (x y : List ℕ) → AreWithin limit ss → AreWithin limit ts → NoSection limit (outside ss) (inside ss) x → NoSection limit (outside ts) (inside ts) y →
    sections_octets ss ++ x ≡ sections_octets ts ++ y → (ss ≡ ts) × (x ≡ y)
same_start limit ss ts x y is_s is_t none_x none_y e =
    same_sections limit 0 0 (outside ss) (inside ss) (outside ts) (inside ts) ss ts x y is_s.each is_t.each (omega arith) (omega arith) (omega arith) (omega arith) is_s.outside is_s.inside is_t.outside is_t.inside none_x none_y e

-- ---- items

abbrev item_sections : Item → List Section
item_sections (command ss last) = ss
item_sections (dropped ss last mark) = ss

abbrev item_last : Item → List ℕ
item_last (command ss last) = last
item_last (dropped ss last mark) = last

item_begun : (limit : ℕ) (i : Item) → IsItem limit i → IsBegun limit (item_sections i) (length (item_last i)) 0
item_begun limit (command ss last) is = is.0
item_begun limit (dropped ss last mark) is = is.0

item_line : (limit : ℕ) (i : Item) → IsItem limit i → IsLine (item_last i)
item_line limit (command ss last) is = is.1.is_line
item_line limit (dropped ss last mark) is = is.1.is_line

NoSection-item : (limit : ℕ) (i : Item) (x : List ℕ) → IsItem limit i → NoSection limit (outside (item_sections i)) (inside (item_sections i)) (item_last i ++ x)
NoSection-item limit (command ss last) x is = NoSection-unmarked limit (outside ss) (inside ss) last x is.1
NoSection-item limit (dropped ss last mark) x is = NoSection-marked limit (outside ss) (inside ss) last x mark is.1 (λ short room. omega (arith, is.3))

item_split : (i : Item) (x : List ℕ) → item_octets i ++ x ≡ sections_octets (item_sections i) ++ (item_last i ++ x)
item_split (command ss last) x = append_assoc (sections_octets ss) last x
item_split (dropped ss last mark) x = append_assoc (sections_octets ss) last x

no_mark_there : (a b : List ℕ) (mark : Announced) → a ≡ b → IsLastLine a → IsMarkedLine b mark → ⊥
no_mark_there a b mark e is_a is_b = is_a.unmarked mark (subst (λ (l : List ℕ). IsMarked l mark) (sym e) is_b.marked)

same_kind : (limit : ℕ) (i j : Item) → IsItem limit i → IsItem limit j → item_sections i ≡ item_sections j → item_last i ≡ item_last j → i ≡ j
same_kind limit (command ss last) (command ts last') is_i is_j p q = λ k. command (p k) (q k)
same_kind limit (command ss last) (dropped ts last' n) is_i is_j p q = absurd (no_mark_there last last' n q is_i.1 is_j.1)
same_kind limit (dropped ss last m) (command ts last') is_i is_j p q = absurd (no_mark_there last' last m (sym q) is_j.1 is_i.1)
same_kind limit (dropped ss last m) (dropped ts last' n) is_i is_j p q =
    let marks = same_mark last last' m n q is_i.1.marked is_j.1.marked in
    λ k. dropped (p k) (q k) (marks k)

same_item : (limit : ℕ) (i j : Item) (x y : List ℕ) → IsItem limit i → IsItem limit j → item_octets i ++ x ≡ item_octets j ++ y → (i ≡ j) × (x ≡ y)
same_item limit i j x y is_i is_j e =
    let within_i = AreWithin-begun limit (item_sections i) (length (item_last i)) 0 (item_begun limit i is_i) in
    let within_j = AreWithin-begun limit (item_sections j) (length (item_last j)) 0 (item_begun limit j is_j) in
    let start = same_start limit (item_sections i) (item_sections j) (item_last i ++ x) (item_last j ++ y) within_i within_j (NoSection-item limit i x is_i) (NoSection-item limit j y is_j) (sym (item_split i x) ∙ e ∙ item_split j y) in
    let lines = same_line (item_last i) x (item_last j) y (item_line limit i is_i) (item_line limit j is_j) start.1 in
    (same_kind limit i j is_i is_j start.0 lines.0, lines.1)

-- ---- endings

abbrev ending_sections : Ending → List Section
ending_sections (in_line ss so_far) = ss
ending_sections (in_literal ss s) = ss
ending_sections (too_long ss text octet unread) = ss
ending_sections (too_large ss last mark unread) = ss

abbrev ending_tail : Ending → List ℕ
ending_tail (in_line ss so_far) = so_far
ending_tail (in_literal ss s) = s.line ++ s.literal
ending_tail (too_long ss text octet unread) = text ++ octet ∷ unread
ending_tail (too_large ss last mark unread) = last ++ unread

ending_split : (e : Ending) → ending_octets e ≡ sections_octets (ending_sections e) ++ ending_tail e
ending_split (in_line ss so_far) = refl
ending_split (in_literal ss s) = refl
ending_split (too_long ss text octet unread) = refl
ending_split (too_large ss last mark unread) = refl

AreWithin-ending : (limit : ℕ) (e : Ending) → IsEnding limit e → AreWithin limit (ending_sections e)
AreWithin-ending limit (in_line ss so_far) is = AreWithin-begun limit ss _ _ is.0
AreWithin-ending limit (in_literal ss s) is = AreWithin-begun limit ss _ _ is.0
AreWithin-ending limit (too_long ss text octet unread) is = AreWithin-begun limit ss _ _ is.0
AreWithin-ending limit (too_large ss last mark unread) is = AreWithin-begun limit ss _ _ is.0

-- a literal that the client doesn't wait for isn't over its limit and within it
not_both : (limit n : ℕ) (mark : Announced) → mark.waits ≡ false → (limit < n + mark.size) ⊎ (max_unasked_octets < mark.size) → IsShort mark → n + mark.size ≤ limit → ⊥
not_both limit n mark e (inl over) short room = omega arith
not_both limit n mark e (inr long) short room = let most = short e in omega arith

NoSection-ending : (limit : ℕ) (e : Ending) → IsEnding limit e → NoSection limit (outside (ending_sections e)) (inside (ending_sections e)) (ending_tail e)
NoSection-ending limit (in_line ss so_far) is = NoSection-in_line limit (outside ss) (inside ss) so_far is.1
NoSection-ending limit (in_literal ss s) is = NoSection-in_literal limit (outside ss) (inside ss) s.line s.literal s.mark is.1 is.3
NoSection-ending limit (too_long ss text octet unread) is = NoSection-too_long limit (outside ss) (inside ss) text (octet ∷ unread) is.1 is.2
NoSection-ending limit (too_large ss last mark unread) is = NoSection-marked limit (outside ss) (inside ss) last unread mark is.1 (not_both limit (inside ss) mark is.2 is.3)

-- no item begins an ending
no_item : (limit : ℕ) (i : Item) (e : Ending) (x : List ℕ) → IsItem limit i → IsEnding limit e → item_sections i ≡ ending_sections e → item_last i ++ x ≡ ending_tail e → ⊥
no_item limit i (in_line ss so_far) x is_i is_e p q = no_line_within (item_last i) so_far x (item_line limit i is_i) (sym q) is_e.1
no_item limit i (too_long ss text octet unread) x is_i is_e p q =
    let begun = item_begun limit i is_i in
    let sums : outside (item_sections i) ≡ outside ss = ap outside p in
    no_line_before (item_last i) x text (octet ∷ unread) (item_line limit i is_i) is_e.1 (omega (arith, begun.outside, is_e.2)) q
no_item limit (command ss last) (in_literal ts s) x is_i is_e p q = no_mark_there last s.line s.mark (same_line last x s.line s.literal is_i.1.is_line is_e.1.is_line q).0 is_i.1 is_e.1
no_item limit (dropped ss last m) (in_literal ts s) x is_i is_e p q =
    let lines = same_line last x s.line s.literal is_i.1.is_line is_e.1.is_line q in
    let sizes : m.size ≡ s.mark.size = ap (λ (n : Announced). n.size) (same_mark last s.line m s.mark lines.0 is_i.1.marked is_e.1.marked) in
    let sums : inside ss ≡ inside ts = ap inside p in
    omega (arith, is_i.3, is_e.0.inside)
no_item limit (command ss last) (too_large ts last' n unread) x is_i is_e p q = no_mark_there last last' n (same_line last x last' unread is_i.1.is_line is_e.1.is_line q).0 is_i.1 is_e.1
no_item limit (dropped ss last m) (too_large ts last' n unread) x is_i is_e p q =
    let lines = same_line last x last' unread is_i.1.is_line is_e.1.is_line q in
    let waits : m.waits ≡ n.waits = ap (λ (k : Announced). k.waits) (same_mark last last' m n lines.0 is_i.1.marked is_e.1.marked) in
    let one = is_i.2 in
    let other = is_e.2 in
    cc

no_item_there : (limit : ℕ) (i : Item) (e : Ending) (x : List ℕ) → IsItem limit i → IsEnding limit e → item_octets i ++ x ≡ ending_octets e → ⊥
no_item_there limit i e x is_i is_e same =
    let within_i = AreWithin-begun limit (item_sections i) (length (item_last i)) 0 (item_begun limit i is_i) in
    let start = same_start limit (item_sections i) (ending_sections e) (item_last i ++ x) (ending_tail e) within_i (AreWithin-ending limit e is_e) (NoSection-item limit i x is_i) (NoSection-ending limit e is_e) (sym (item_split i x) ∙ same ∙ ending_split e) in
    no_item limit i e x is_i is_e start.0 start.1

-- endings of two kinds
abbrev Apart : ℕ → Ending → Ending → Type 0
Apart limit e f = IsEnding limit e → IsEnding limit f → ending_sections e ≡ ending_sections f → ending_tail e ≡ ending_tail f → ⊥

line_literal : (limit : ℕ) (ss ts : List Section) (so_far : List ℕ) (t : Section) → Apart limit (in_line ss so_far) (in_literal ts t)
line_literal limit ss ts so_far t is_e is_f p q = no_line_within t.line so_far t.literal is_f.1.is_line q is_e.1

line_long : (limit : ℕ) (ss ts : List Section) (so_far text : List ℕ) (octet : ℕ) (unread : List ℕ) → Apart limit (in_line ss so_far) (too_long ts text octet unread)
line_long limit ss ts so_far text octet unread is_e is_f p q =
    let sums : outside ss ≡ outside ts = ap outside p in
    omega (arith, is_e.0.outside, is_f.2, ap length q, length-append text (octet ∷ unread))

line_large : (limit : ℕ) (ss ts : List Section) (so_far last : List ℕ) (mark : Announced) (unread : List ℕ) → Apart limit (in_line ss so_far) (too_large ts last mark unread)
line_large limit ss ts so_far last mark unread is_e is_f p q = no_line_within last so_far unread is_f.1.is_line q is_e.1

literal_long : (limit : ℕ) (ss ts : List Section) (s : Section) (text : List ℕ) (octet : ℕ) (unread : List ℕ) → Apart limit (in_literal ss s) (too_long ts text octet unread)
literal_long limit ss ts s text octet unread is_e is_f p q =
    let sums : outside ss ≡ outside ts = ap outside p in
    no_line_before s.line s.literal text (octet ∷ unread) is_e.1.is_line is_f.1 (omega (arith, is_e.0.outside, is_f.2)) q

literal_large : (limit : ℕ) (ss ts : List Section) (s : Section) (last : List ℕ) (mark : Announced) (unread : List ℕ) → Apart limit (in_literal ss s) (too_large ts last mark unread)
literal_large limit ss ts s last mark unread is_e is_f p q =
    let lines = same_line s.line s.literal last unread is_e.1.is_line is_f.1.is_line q in
    let marks = same_mark s.line last s.mark mark lines.0 is_e.1.marked is_f.1.marked in
    let sizes : s.mark.size ≡ mark.size = ap (λ (n : Announced). n.size) marks in
    let sums : inside ss ≡ inside ts = ap inside p in
    not_both limit (inside ts) mark is_f.2 is_f.3 (subst IsShort marks is_e.2) (omega (arith, is_e.0.inside))

long_large : (limit : ℕ) (ss ts : List Section) (text : List ℕ) (octet : ℕ) (unread last : List ℕ) (mark : Announced) (unread' : List ℕ) → Apart limit (too_long ss text octet unread) (too_large ts last mark unread')
long_large limit ss ts text octet unread last mark unread' is_e is_f p q =
    let sums : outside ss ≡ outside ts = ap outside p in
    no_line_before last unread' text (octet ∷ unread) is_f.1.is_line is_e.1 (omega (arith, is_f.0.outside, is_e.2)) (sym q)

same_end : (limit : ℕ) (e f : Ending) → IsEnding limit e → IsEnding limit f → ending_sections e ≡ ending_sections f → ending_tail e ≡ ending_tail f → e ≡ f
same_end limit (in_line ss so_far) (in_line ts so_far') is_e is_f p q = λ k. in_line (p k) (q k)
same_end limit (in_line ss so_far) (in_literal ts t) is_e is_f p q = absurd (line_literal limit ss ts so_far t is_e is_f p q)
same_end limit (in_line ss so_far) (too_long ts text octet unread) is_e is_f p q = absurd (line_long limit ss ts so_far text octet unread is_e is_f p q)
same_end limit (in_line ss so_far) (too_large ts last n unread) is_e is_f p q = absurd (line_large limit ss ts so_far last n unread is_e is_f p q)
same_end limit (in_literal ss s) (in_line ts so_far) is_e is_f p q = absurd (line_literal limit ts ss so_far s is_f is_e (sym p) (sym q))
same_end limit (in_literal ss s) (in_literal ts t) is_e is_f p q =
    let lines = same_line s.line s.literal t.line t.literal is_e.1.is_line is_f.1.is_line q in
    let marks = same_mark s.line t.line s.mark t.mark lines.0 is_e.1.marked is_f.1.marked in
    λ k. in_literal (p k) (record { line = lines.0 k; mark = marks k; literal = lines.1 k })
same_end limit (in_literal ss s) (too_long ts text octet unread) is_e is_f p q = absurd (literal_long limit ss ts s text octet unread is_e is_f p q)
same_end limit (in_literal ss s) (too_large ts last n unread) is_e is_f p q = absurd (literal_large limit ss ts s last n unread is_e is_f p q)
same_end limit (too_long ss text octet unread) (in_line ts so_far) is_e is_f p q = absurd (line_long limit ts ss so_far text octet unread is_f is_e (sym p) (sym q))
same_end limit (too_long ss text octet unread) (in_literal ts t) is_e is_f p q = absurd (literal_long limit ts ss t text octet unread is_f is_e (sym p) (sym q))
same_end limit (too_long ss text octet unread) (too_long ts text' octet' unread') is_e is_f p q =
    let sums : outside ss ≡ outside ts = ap outside p in
    let texts = same_front text (octet ∷ unread) text' (octet' ∷ unread') (omega (arith, is_e.2, is_f.2)) q in
    let rest = texts.1 in
    let octets : octet ≡ octet' = cc in
    let unreads : unread ≡ unread' = cc in
    λ k. too_long (p k) (texts.0 k) (octets k) (unreads k)
same_end limit (too_long ss text octet unread) (too_large ts last n unread') is_e is_f p q = absurd (long_large limit ss ts text octet unread last n unread' is_e is_f p q)
same_end limit (too_large ss last m unread) (in_line ts so_far) is_e is_f p q = absurd (line_large limit ts ss so_far last m unread is_f is_e (sym p) (sym q))
same_end limit (too_large ss last m unread) (in_literal ts t) is_e is_f p q = absurd (literal_large limit ts ss t last m unread is_f is_e (sym p) (sym q))
same_end limit (too_large ss last m unread) (too_long ts text octet unread') is_e is_f p q = absurd (long_large limit ts ss text octet unread' last m unread is_f is_e (sym p) (sym q))
same_end limit (too_large ss last m unread) (too_large ts last' n unread') is_e is_f p q =
    let lines = same_line last unread last' unread' is_e.1.is_line is_f.1.is_line q in
    let marks = same_mark last last' m n lines.0 is_e.1.marked is_f.1.marked in
    λ k. too_large (p k) (lines.0 k) (marks k) (lines.1 k)

same_ending : (limit : ℕ) (e f : Ending) → IsEnding limit e → IsEnding limit f → ending_octets e ≡ ending_octets f → e ≡ f
same_ending limit e f is_e is_f same =
    let start = same_start limit (ending_sections e) (ending_sections f) (ending_tail e) (ending_tail f) (AreWithin-ending limit e is_e) (AreWithin-ending limit f is_f) (NoSection-ending limit e is_e) (NoSection-ending limit f is_f) (sym (ending_split e) ∙ same ∙ ending_split f) in
    same_end limit e f is_e is_f start.0 start.1

-- ---- readings

same_reading : (limit : ℕ) (items others : List Item) (e f : Ending) → AllByRecursion (IsItem limit) items → AllByRecursion (IsItem limit) others → IsEnding limit e → IsEnding limit f →
    flat_map item_octets items ++ ending_octets e ≡ flat_map item_octets others ++ ending_octets f → (items ≡ others) × (e ≡ f)
same_reading limit [] [] e f all_i all_j is_e is_f same = (refl, same_ending limit e f is_e is_f same)
same_reading limit [] (j ∷ others) e f all_i all_j is_e is_f same =
    absurd (no_item_there limit j e (flat_map item_octets others ++ ending_octets f) all_j.0 is_e (sym (same ∙ append_assoc (item_octets j) (flat_map item_octets others) (ending_octets f))))
same_reading limit (i ∷ items) [] e f all_i all_j is_e is_f same =
    absurd (no_item_there limit i f (flat_map item_octets items ++ ending_octets e) all_i.0 is_f (sym (append_assoc (item_octets i) (flat_map item_octets items) (ending_octets e)) ∙ same))
same_reading limit (i ∷ items) (j ∷ others) e f all_i all_j is_e is_f same =
    let split = sym (append_assoc (item_octets i) (flat_map item_octets items) (ending_octets e)) ∙ same ∙ append_assoc (item_octets j) (flat_map item_octets others) (ending_octets f) in
    let first = same_item limit i j (flat_map item_octets items ++ ending_octets e) (flat_map item_octets others ++ ending_octets f) all_i.0 all_j.0 split in
    let rest = same_reading limit items others e f all_i.1 all_j.1 is_e is_f first.1 in
    (λ k. first.0 k ∷ rest.0 k, rest.1)

pub has_one_reading : HasOneReading
has_one_reading limit r s is_r is_s same =
    let both = same_reading limit r.items s.items r.ending s.ending is_r.0 is_s.0 is_r.1 is_s.1 same in
    λ k. record { items = both.0 k; ending = both.1 k }
