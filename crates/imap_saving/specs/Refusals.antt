-- What a step is answered whose change the store refused.
use Rattle.std.specs.Prelude.{List, ℕ, [], ◌∷◌, Option, Some, None}
use Rattle.imap_core.specs.declared.step.Act.{Act}
use Rattle.imap_core.specs.declared.step.Act.TheVariants as act
use Rattle.imap_core.specs.declared.step.Step.{Step}
use Rattle.imap_commands.specs.declared.request.Request.{Request}
use Rattle.imap_commands.specs.declared.request.Request.TheVariants as request
use Rattle.imap_print.specs.declared.response.Refusal.TheVariants.{Unavailable}
use Rattle.imap_print.specs.declared.response.Response.{Response}
use Rattle.imap_print.specs.declared.response.Response.TheVariants as response

abbrev pub tag_in : Request → Option (List ℕ)
tag_in (request.Command tag command) = Some tag
tag_in (request.Malformed tag) = tag
tag_in (request.TooBig tag) = Some tag

-- the tag of the command that is sent, if there is one
abbrev pub tag_of : Act → Option (List ℕ)
tag_of act.Open = None
tag_of (act.Do request) = tag_in request
tag_of act.Poll = None
tag_of act.Done = None
tag_of act.Leave = None

-- the reply to a step whose change can't be saved (RFC 5530, UNAVAILABLE)
abbrev pub unavailable : Step → List Response
unavailable step = response.Refused (tag_of step.act) Unavailable ∷ []
