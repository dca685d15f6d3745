-- A list of keys, as a value holds it and as contracts see it.
use Rattle.std.proofs.Common.{◌≡◌, map, refl, ap}
use Rattle.imap_query.specs.declared.search.SearchKey.{Row_of-SearchKey, end_of-SearchKey, more_of-SearchKey, items-the_row-SearchKey}
use Rattle.imap_query.specs.Keys.{key_of, row_of, keys_of, more}

pub same_keys : (n : _) (k : Row_of-SearchKey n) → row_of k ≡ keys_of (map key_of (items-the_row-SearchKey n k))
same_keys _ end_of-SearchKey = refl
same_keys _ (more_of-SearchKey key others) = ap (more (key_of key)) (same_keys _ others)
