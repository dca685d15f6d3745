-- The text of keywords.
use Rattle.std.proofs.Common.{◌≡◌, ◌++◌, List, [], ◌∷◌, map, string_bytes, append-nil, refl, sym, ap}
use Rattle.std.specs.Global.{Global}
use Rattle.std.specs.List.{join_by}
use Rattle.std.specs.Prelude.{flat_map}
use Rattle.std.specs.declared.string.String.{String}
use Rattle.imap_message_tables.specs.Split.{words_text}

-- joined by spaces, and with a space before each but the first
spaced : (w : String Global) (ws : List (String Global)) → words_text (map string_bytes (w ∷ ws)) ≡ string_bytes w ++ flat_map (λ v. (32 ∷ []) ++ string_bytes v) ws
spaced w [] = sym (append-nil (string_bytes w))
spaced w (v ∷ ws) = ap (λ t. string_bytes w ++ 32 ∷ t) (spaced v ws)

pub joined_text : (ws : List (String Global)) → join_by string_bytes (32 ∷ []) ws ≡ words_text (map string_bytes ws)
joined_text [] = refl
joined_text (w ∷ ws) = sym (spaced w ws)
