-- The parts of an address, sign by sign (RFC 5322, section 3.4).
use Rattle.std.specs.Prelude.{ℕ, Bool, true, false, ◌==◌, ◌&&◌, not, List, [], ◌∷◌, ◌++◌, length}
use Rattle.std.specs.Prelude.{Option, Some, None, is_none, if◌then◌else◌}
use Rattle.imap_mime.specs.declared.addr_spec.AddrSpec.{AddrSpec}
use Rattle.imap_mime.specs.declared.address.Address.{Address}
use Rattle.imap_mime.specs.declared.comments.CommentCount.{CommentCount}
use Rattle.imap_mime.specs.declared.comments.CommentCount.TheVariants as count
use Rattle.imap_mime.specs.declared.comments.Comments.{Comments}
use Rattle.imap_mime.specs.declared.lexical.Sign.{Sign}
use Rattle.imap_mime.specs.declared.lexical.Sign.TheVariants as sign
use Rattle.imap_mime.specs.declared.parts.Parts.{Parts}
use Rattle.imap_mime.specs.declared.parts.Place.{Place}
use Rattle.imap_mime.specs.declared.parts.Place.TheVariants as place
use Rattle.imap_mime.specs.declared.phrase.Phrase.{Phrase}

-- ---- a phrase (section 3.2.5)

abbrev pub no_phrase : Phrase
no_phrase = record { text = []; gap = false }

-- One space stands between words that white space stands between.
abbrev pub with_word_begun : Phrase → Phrase
with_word_begun p = if p.gap then record { text = p.text ++ 32 ∷ []; gap = false } else p

abbrev pub phrase_with : ℕ → Phrase → Phrase
phrase_with b p = record { text = (with_word_begun p).text ++ b ∷ []; gap = false }

abbrev pub phrase_after_space : Phrase → Phrase
phrase_after_space p = record { text = p.text; gap = not (length p.text == 0) }

-- ---- a local part and a domain (section 3.4.1)

abbrev pub no_spec : AddrSpec
no_spec = record { local = []; domain = []; has_domain = false }

abbrev pub spec_with : ℕ → AddrSpec → AddrSpec
spec_with b s =
    if s.has_domain then record s { domain = s.domain ++ b ∷ [] } else record s { local = s.local ++ b ∷ [] }

-- The last `@` stands between both.
abbrev pub spec_at : AddrSpec → AddrSpec
spec_at s =
    if s.has_domain
    then record { local = (s.local ++ 64 ∷ []) ++ s.domain; domain = []; has_domain = true }
    else record s { has_domain = true }

abbrev pub is_blank_spec : AddrSpec → Bool
is_blank_spec s = length s.local == 0 && not s.has_domain

-- ---- comments (section 3.2.2)

abbrev pub no_comments : Comments
no_comments = record { first = []; count = count.None }

abbrev pub one_more : CommentCount → CommentCount
one_more count.None = count.One
one_more count.One = count.More
one_more count.More = count.More

abbrev pub with_comment_begun : Comments → Comments
with_comment_begun c = record c { count = one_more c.count }

abbrev pub first_with : CommentCount → ℕ → List ℕ → List ℕ
first_with count.One b first = first ++ b ∷ []
first_with _ b first = first

-- Only the first is kept.
abbrev pub comments_with : ℕ → Comments → Comments
comments_with b c = record c { first = first_with c.count b c.first }

abbrev pub counted : CommentCount → List ℕ → Option (List ℕ)
counted count.None first = None
counted _ first = Some first

abbrev pub first_comment : Comments → Option (List ℕ)
first_comment c = counted c.count c.first

-- ---- an address

abbrev pub no_parts : Parts
no_parts = record {
  place = place.Before;
  phrase = no_phrase;
  spec = no_spec;
  comments = no_comments;
  name = [];
  route = None;
}

abbrev pub is_at_within : Place → Bool
is_at_within place.Within = true
is_at_within _ = false

abbrev pub is_at_after : Place → Bool
is_at_after place.After = true
is_at_after _ = false

abbrev pub is_within : Parts → Bool
is_within p = is_at_within p.place

abbrev pub parts_with : ℕ → Parts → Parts
parts_with b p =
    if is_at_after p.place then p
    else record p { phrase = phrase_with b p.phrase; spec = spec_with b p.spec }

abbrev pub parts_at : Parts → Parts
parts_at p =
    if is_at_after p.place then p
    else record p { phrase = phrase_with 64 p.phrase; spec = spec_at p.spec }

-- What stands before `<` is the display name.
abbrev pub with_address_begun : Parts → Parts
with_address_begun p =
    record p { place = place.Within; name = p.phrase.text; phrase = no_phrase; spec = no_spec }

-- What stands between `<` and the first `:` is the route (section 4.4).
abbrev pub with_route : Parts → Parts
with_route p = record p { route = Some p.phrase.text; phrase = no_phrase; spec = no_spec }

abbrev pub divider_before : ℕ → Parts → Parts
divider_before b p =
    if b == 60 then with_address_begun p else (if b == 64 then parts_at p else parts_with b p)

abbrev pub divider_within : ℕ → Parts → Parts
divider_within b p =
    if b == 62 then record p { place = place.After }
    else (if b == 58 && is_none p.route then with_route p
    else (if b == 64 then parts_at p else parts_with b p))

abbrev pub divider_at : Place → ℕ → Parts → Parts
divider_at place.Before b p = divider_before b p
divider_at place.Within b p = divider_within b p
divider_at place.After b p = p

abbrev pub with_divider : ℕ → Parts → Parts
with_divider b p = divider_at p.place b p

abbrev pub parts_after : Sign → Parts → Parts
parts_after (sign.Word b) p = parts_with b p
parts_after sign.QuoteBegins p = record p { phrase = with_word_begun p.phrase }
parts_after sign.Space p = record p { phrase = phrase_after_space p.phrase }
parts_after sign.CommentBegins p = record p { comments = with_comment_begun p.comments }
parts_after (sign.Comment b) p = record p { comments = comments_with b p.comments }
parts_after (sign.Divider b) p = with_divider b p
parts_after sign.Nothing p = p

-- the octets, if there are any
abbrev pub given : List ℕ → Option (List ℕ)
given octets = if length octets == 0 then None else Some octets

-- A domain that is missing is empty.
abbrev pub address_with : Option (List ℕ) → Parts → Address
address_with name p = record {
  name = name;
  route = p.route;
  mailbox = Some p.spec.local;
  host = Some p.spec.domain;
}

-- The first comment names whose address it is.
abbrev pub bare_address : Parts → Option Address
bare_address p = if is_blank_spec p.spec then None else Some (address_with (first_comment p.comments) p)

abbrev pub address_at : Place → Parts → Option Address
address_at place.Before p = bare_address p
address_at _ p = Some (address_with (given p.name) p)

-- the address that has been read, if one has
abbrev pub address_of : Parts → Option Address
address_of p = address_at p.place p
