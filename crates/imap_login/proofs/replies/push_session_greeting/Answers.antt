use Rattle.imap_login.proofs.replies.push_session_greeting.Goals as goal

pub returns : goal.returns
returns c = c.push_between.ensures
