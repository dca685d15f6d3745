use Rattle.std.proofs.Common.{◌≡◌, ◌++◌, map, string_bytes, flat_map}
use Rattle.imap_maildir_names.specs.Levels.{level_path}
use Rattle.imap_maildir_names.proofs.folder_names.push_levels.Given as goal

abbrev pub invariant-loop-level : goal.invariant-loop-level
invariant-loop-level l =
    string_bytes l.path ≡ string_bytes l.fn.path ++ flat_map level_path (map (λ x. x.now) l.yielded)
