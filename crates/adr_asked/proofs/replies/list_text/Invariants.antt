use Rattle.std.proofs.Common.{◌≡◌, ◌++◌, drop}
use Rattle.std.specs.String.{string_bytes}
use Rattle.adr_asked.specs.Replies.{behind_commas}
use Rattle.adr_asked.proofs.replies.list_text.Given as goal

abbrev pub invariant-loop-object : goal.invariant-loop-object
invariant-loop-object l =
    string_bytes l.text ++ behind_commas (drop l.object-index l.rest) ≡ string_bytes l.initial.text ++ behind_commas l.rest
