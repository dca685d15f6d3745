-- The signs of structured fields, octet by octet (RFC 5322, sections 3.2.2 to 3.2.5 and 3.4.1).
use Rattle.std.specs.Prelude.{ℕ, ◌+◌, ◌-◌, Bool, ◌==◌, ◌||◌, nat_lt, if◌then◌else◌}
use Rattle.imap_mime.specs.declared.lexical.Lexical.{Lexical}
use Rattle.imap_mime.specs.declared.lexical.Lexical.TheVariants as lexical
use Rattle.imap_mime.specs.declared.lexical.Sign.{Sign}
use Rattle.imap_mime.specs.declared.lexical.Sign.TheVariants as sign
use Rattle.imap_mime.specs.declared.lexical.SignRead.{SignRead}

-- SP, HTAB, CR and LF
abbrev pub is_white : ℕ → Bool
is_white b = b == 32 || b == 9 || b == 13 || b == 10

-- < > @ , ; :
abbrev pub is_divider : ℕ → Bool
is_divider b = b == 60 || b == 62 || b == 64 || b == 44 || b == 59 || b == 58

abbrev pub read_as : Sign → Lexical → SignRead
read_as sign next = record { sign = sign; next = next }

-- `"` begins a quoted string, `(` a comment, and `[` a domain literal.
abbrev pub read_outside : ℕ → SignRead
read_outside b =
    if b == 34 then read_as sign.QuoteBegins lexical.Quoted
    else (if b == 40 then read_as sign.CommentBegins (lexical.Comment 0)
    else (if b == 91 then read_as (sign.Word b) lexical.Literal
    else (if is_white b then read_as sign.Space lexical.Outside
    else (if is_divider b then read_as (sign.Divider b) lexical.Outside
    else read_as (sign.Word b) lexical.Outside))))

-- `"` ends a quoted string, and an octet after `\` stands for itself.
abbrev pub read_quoted : ℕ → SignRead
read_quoted b =
    if b == 34 then read_as sign.Nothing lexical.Outside
    else (if b == 92 then read_as sign.Nothing lexical.QuotedPair
    else read_as (sign.Word b) lexical.Quoted)

-- `]` ends a domain literal.
abbrev pub read_literal : ℕ → SignRead
read_literal b = read_as (sign.Word b) (if b == 93 then lexical.Outside else lexical.Literal)

-- in how many others a comment stands that begins in one; no more than 2^32 - 1 are counted
abbrev pub deeper : (depth : ℕ) → ℕ
deeper depth = if nat_lt depth 4294967295 then depth + 1 else depth

-- A comment may have others in it, of which all octets are its own.
abbrev pub read_comment : (depth : ℕ) → ℕ → SignRead
read_comment depth b =
    if b == 41
    then (if depth == 0 then read_as sign.Nothing lexical.Outside
    else read_as (sign.Comment b) (lexical.Comment (depth - 1)))
    else (if b == 40 then read_as (sign.Comment b) (lexical.Comment (deeper depth))
    else (if b == 92 then read_as (sign.Comment b) (lexical.CommentPair depth)
    else read_as (sign.Comment b) (lexical.Comment depth)))

abbrev pub sign_read : Lexical → ℕ → SignRead
sign_read lexical.Outside b = read_outside b
sign_read lexical.Quoted b = read_quoted b
sign_read lexical.QuotedPair b = read_as (sign.Word b) lexical.Quoted
sign_read lexical.Literal b = read_literal b
sign_read (lexical.Comment depth) b = read_comment depth b
sign_read (lexical.CommentPair depth) b = read_as (sign.Comment b) (lexical.Comment depth)
