-- The replies of a tenant that is alone in the service.
use Rattle.std.specs.Prelude.{Bool, false, List, [], ◌∷◌, map}
use Rattle.firm_rules.specs.Limits.{TenantLimits}
use Rattle.firm_rules.specs.Book.{Book, opening_book}
use Rattle.firm_rules.specs.declared.commands.Command.{Command}
use Rattle.firm_rules.specs.declared.replies.Reply.{Reply}
use Rattle.firm_tenant.specs.Step.{step}

-- the replies to these marked commands, from this book on
abbrev pub replies_from : Book → List (Command × Bool) → List Reply
replies_from book [] = []
replies_from book (given ∷ rest) = let after = step book given.0 given.1 in after.0 ∷ replies_from after.1 rest

-- the book after these commands
abbrev pub book_after : Book → List (Command × Bool) → Book
book_after book [] = book
book_after book (given ∷ rest) = book_after (step book given.0 given.1).1 rest

-- the replies of a tenant with these limits to the marked commands, from its admission on
abbrev pub alone_marked : TenantLimits → List (Command × Bool) → List Reply
alone_marked limits commands = replies_from (opening_book limits) commands

-- its replies if memory is never refused
abbrev pub alone : TenantLimits → List Command → List Reply
alone limits commands = alone_marked limits (map (λ command. (command, false)) commands)
