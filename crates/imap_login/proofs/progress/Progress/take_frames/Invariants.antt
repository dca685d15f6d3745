use Rattle.std.proofs.Common.{◌≡◌, drop}
use Rattle.imap_login.specs.Login.{after, frames_answer}
use Rattle.imap_login.proofs.progress.Progress.take_frames.Given as goal

abbrev pub invariant-loop-frame : goal.invariant-loop-frame
invariant-loop-frame l =
    after l.out.items (frames_answer l.credentials (drop l.frame-index l.frames) l.self)
    ≡ after l.fn.out.items (frames_answer l.credentials l.frames l.fn.self)
