use Rattle.std.proofs.Common.{◌≡◌, take}
use Rattle.imap_saving.proofs.replies.copy_replies.Given as goal

abbrev pub invariant-loop-reply : goal.invariant-loop-reply
invariant-loop-reply l = l.copy.items ≡ take l.reply-index l.replies
